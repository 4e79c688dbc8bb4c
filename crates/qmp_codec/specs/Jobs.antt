-- The commands that start jobs.
use Rattle.std.specs.Prelude.{ℕ, List, codes, option_map, String, string_bytes}
use Rattle.std.specs.declared.alloc.Global.{Global}
use Rattle.serde_json.specs.Data.{Data}
use Rattle.qmp_codec.specs.Words.{on_error_of, sync_of, copy_mode_of, bitmap_mode_of}
use Rattle.qmp_codec.specs.Forms.{text_in}
use Rattle.qmp_codec.specs.Fields.{text_if, flag_if, amount_if}
use Rattle.qmp_codec.specs.declared.jobs.JobOptions.{JobOptions}
use Rattle.qmp_codec.specs.declared.jobs.Stream.{Stream}
use Rattle.qmp_codec.specs.declared.jobs.Commit.{Commit}
use Rattle.qmp_codec.specs.declared.jobs.Mirror.{Mirror}
use Rattle.qmp_codec.specs.declared.jobs.Backup.{Backup}

abbrev pub job_options_in : Data → JobOptions
job_options_in d = record {
  speed = amount_if (codes "speed") d;
  auto_finalize = flag_if (codes "auto-finalize") d;
  auto_dismiss = flag_if (codes "auto-dismiss") d;
}

abbrev pub stream_in : Data → Stream (List ℕ)
stream_in d = record {
  job_id = text_in (codes "job-id") d;
  device = text_in (codes "device") d;
  base_node = text_if (codes "base-node") d;
  backing_file = text_if (codes "backing-file") d;
  on_error = option_map on_error_of (text_if (codes "on-error") d);
  options = job_options_in d;
}

abbrev pub seen_stream : Stream (String Global) → Stream (List ℕ)
seen_stream c = record {
  job_id = string_bytes c.job_id;
  device = string_bytes c.device;
  base_node = option_map string_bytes c.base_node;
  backing_file = option_map string_bytes c.backing_file;
  on_error = c.on_error;
  options = c.options;
}

abbrev pub commit_in : Data → Commit (List ℕ)
commit_in d = record {
  job_id = text_in (codes "job-id") d;
  device = text_in (codes "device") d;
  base_node = text_if (codes "base-node") d;
  top_node = text_if (codes "top-node") d;
  backing_file = text_if (codes "backing-file") d;
  on_error = option_map on_error_of (text_if (codes "on-error") d);
  options = job_options_in d;
}

abbrev pub seen_commit : Commit (String Global) → Commit (List ℕ)
seen_commit c = record {
  job_id = string_bytes c.job_id;
  device = string_bytes c.device;
  base_node = option_map string_bytes c.base_node;
  top_node = option_map string_bytes c.top_node;
  backing_file = option_map string_bytes c.backing_file;
  on_error = c.on_error;
  options = c.options;
}

abbrev pub mirror_in : Data → Mirror (List ℕ)
mirror_in d = record {
  job_id = text_in (codes "job-id") d;
  device = text_in (codes "device") d;
  target = text_in (codes "target") d;
  sync = sync_of (text_in (codes "sync") d);
  copy_mode = option_map copy_mode_of (text_if (codes "copy-mode") d);
  on_source_error = option_map on_error_of (text_if (codes "on-source-error") d);
  on_target_error = option_map on_error_of (text_if (codes "on-target-error") d);
  options = job_options_in d;
}

abbrev pub seen_mirror : Mirror (String Global) → Mirror (List ℕ)
seen_mirror c = record {
  job_id = string_bytes c.job_id;
  device = string_bytes c.device;
  target = string_bytes c.target;
  sync = c.sync;
  copy_mode = c.copy_mode;
  on_source_error = c.on_source_error;
  on_target_error = c.on_target_error;
  options = c.options;
}

abbrev pub backup_in : Data → Backup (List ℕ)
backup_in d = record {
  job_id = text_in (codes "job-id") d;
  device = text_in (codes "device") d;
  target = text_in (codes "target") d;
  sync = sync_of (text_in (codes "sync") d);
  bitmap = text_if (codes "bitmap") d;
  bitmap_mode = option_map bitmap_mode_of (text_if (codes "bitmap-mode") d);
  on_source_error = option_map on_error_of (text_if (codes "on-source-error") d);
  on_target_error = option_map on_error_of (text_if (codes "on-target-error") d);
  options = job_options_in d;
}

abbrev pub seen_backup : Backup (String Global) → Backup (List ℕ)
seen_backup c = record {
  job_id = string_bytes c.job_id;
  device = string_bytes c.device;
  target = string_bytes c.target;
  sync = c.sync;
  bitmap = option_map string_bytes c.bitmap;
  bitmap_mode = c.bitmap_mode;
  on_source_error = c.on_source_error;
  on_target_error = c.on_target_error;
  options = c.options;
}
