-- What the commands on jobs ask.
use Rattle.std.specs.Prelude.{ℕ, Bool, true, not, if◌then◌else◌, List, [], ◌∷◌, ◌++◌, codes, Option, Some, bytes_eq}
use Rattle.qmp_codec.specs.declared.jobs.JobOptions.{JobOptions}
use Rattle.qmp_codec.specs.declared.jobs.Stream.{Stream as StreamCommand}
use Rattle.qmp_codec.specs.declared.jobs.Commit.{Commit as CommitCommand}
use Rattle.qmp_codec.specs.declared.jobs.Mirror.{Mirror}
use Rattle.qmp_codec.specs.declared.jobs.Backup.{Backup}
use Rattle.qmp_codec.specs.declared.words.OnError.{OnError}
use Rattle.qmp_asks.specs.declared.ask.Ask.TheVariants.{Good, Named, FileNamed, Found, BitmapFound, JobFound, FreshJob, RoomForNodes, RoomForJob, Drives, Settled, Unheld, Free, BitmapFree, Writable, InChain, SameSize, EqualSizes, Lone, Clear, JobReady}
use Rattle.qmp_asks.specs.declared.ask.Drivers.TheVariants as drivers
use Rattle.qmp_asks.specs.declared.ask.JobNodes.TheVariants.{Stream, Commit, Copy}
use Rattle.qmp_asks.specs.Asking.{Asking, Nodes1}
use Rattle.qmp_asks.specs.Values.{absent_or, is_just, is_true, is_on_error, is_copy_mode, is_full, is_sync, is_bitmap_for, is_mode_for}

abbrev pub on_error_value : List ℕ → Option OnError → Asking
on_error_value member policy = Good member (absent_or is_on_error policy)

-- what every job takes
abbrev pub job_values : JobOptions → List Asking
job_values options =
    Good (codes "speed") (is_just 0 options.speed)
    ∷ Good (codes "auto-finalize") (is_true options.auto_finalize)
    ∷ Good (codes "auto-dismiss") (is_true options.auto_dismiss)
    ∷ []

-- ---- block-stream

abbrev pub stream_nodes : StreamCommand (List ℕ) → Nodes1
stream_nodes c = Stream c.device c.base_node

abbrev pub stream_names : StreamCommand (List ℕ) → List Asking
stream_names c =
    Named (codes "job-id") (Some c.job_id)
    ∷ Named (codes "device") (Some c.device)
    ∷ Named (codes "base-node") c.base_node
    ∷ FileNamed (codes "backing-file") c.backing_file
    ∷ []

abbrev pub stream_rest : StreamCommand (List ℕ) → List Asking
stream_rest c =
    Found (Some c.device)
    ∷ Found c.base_node
    ∷ FreshJob c.job_id
    ∷ RoomForJob
    ∷ Drives (Some c.device) drivers.Qcow2
    ∷ Drives c.base_node drivers.FileRawOrQcow2
    ∷ Settled (Some c.device)
    ∷ Free (stream_nodes c)
    ∷ Writable c.device
    ∷ InChain (stream_nodes c)
    ∷ []

abbrev pub stream_asks : StreamCommand (List ℕ) → List Asking
stream_asks c =
    on_error_value (codes "on-error") c.on_error ∷ job_values c.options ++ stream_names c
    ++ stream_rest c

-- ---- block-commit

abbrev pub commit_nodes : CommitCommand (List ℕ) → Nodes1
commit_nodes c = Commit c.device c.base_node c.top_node

abbrev pub commit_names : CommitCommand (List ℕ) → List Asking
commit_names c =
    Named (codes "job-id") (Some c.job_id)
    ∷ Named (codes "device") (Some c.device)
    ∷ Named (codes "base-node") c.base_node
    ∷ Named (codes "top-node") c.top_node
    ∷ FileNamed (codes "backing-file") c.backing_file
    ∷ []

abbrev pub commit_rest : CommitCommand (List ℕ) → List Asking
commit_rest c =
    Found (Some c.device)
    ∷ Found c.base_node
    ∷ Found c.top_node
    ∷ FreshJob c.job_id
    ∷ RoomForNodes 1
    ∷ RoomForJob
    ∷ Drives (Some c.device) drivers.Qcow2
    ∷ Drives c.base_node drivers.FileRawOrQcow2
    ∷ Drives c.top_node drivers.Qcow2
    ∷ Settled (Some c.device)
    ∷ Settled c.top_node
    ∷ Free (commit_nodes c)
    ∷ InChain (commit_nodes c)
    ∷ EqualSizes (commit_nodes c)
    ∷ Clear (commit_nodes c)
    ∷ []

abbrev pub commit_asks : CommitCommand (List ℕ) → List Asking
commit_asks c =
    on_error_value (codes "on-error") c.on_error ∷ job_values c.options ++ commit_names c
    ++ commit_rest c

-- ---- blockdev-mirror and blockdev-backup

abbrev pub is_other : List ℕ → List ℕ → Bool
is_other target device = not (bytes_eq target device)

-- what a mirror itself takes
abbrev pub mirror_choices : Mirror (List ℕ) → List Asking
mirror_choices c =
    Good (codes "target") (is_other c.target c.device)
    ∷ Good (codes "sync") (is_full c.sync)
    ∷ Good (codes "copy-mode") (absent_or is_copy_mode c.copy_mode)
    ∷ on_error_value (codes "on-source-error") c.on_source_error
    ∷ on_error_value (codes "on-target-error") c.on_target_error
    ∷ []

abbrev pub mirror_values : Mirror (List ℕ) → List Asking
mirror_values c = mirror_choices c ++ job_values c.options

abbrev pub mirror_names : Mirror (List ℕ) → List Asking
mirror_names c =
    Named (codes "job-id") (Some c.job_id)
    ∷ Named (codes "device") (Some c.device)
    ∷ Named (codes "target") (Some c.target)
    ∷ []

abbrev pub mirror_rest : Mirror (List ℕ) → List Asking
mirror_rest c =
    Found (Some c.device)
    ∷ Found (Some c.target)
    ∷ FreshJob c.job_id
    ∷ RoomForNodes 1
    ∷ RoomForJob
    ∷ Drives (Some c.device) drivers.FileRawOrQcow2
    ∷ Drives (Some c.target) drivers.FileRawOrQcow2
    ∷ Settled (Some c.device)
    ∷ Free (Copy c.device c.target)
    ∷ Writable c.target
    ∷ EqualSizes (Copy c.device c.target)
    ∷ Lone c.target
    ∷ Clear (Copy c.device c.target)
    ∷ []

abbrev pub mirror_asks : Mirror (List ℕ) → List Asking
mirror_asks c = mirror_values c ++ mirror_names c ++ mirror_rest c

abbrev pub backup_choices : Backup (List ℕ) → List Asking
backup_choices c =
    Good (codes "target") (is_other c.target c.device)
    ∷ Good (codes "sync") (is_sync c.sync)
    ∷ Good (codes "bitmap") (is_bitmap_for c.sync c.bitmap)
    ∷ Good (codes "bitmap-mode") (is_mode_for c.sync c.bitmap_mode)
    ∷ on_error_value (codes "on-source-error") c.on_source_error
    ∷ on_error_value (codes "on-target-error") c.on_target_error
    ∷ []

abbrev pub backup_values : Backup (List ℕ) → List Asking
backup_values c = backup_choices c ++ job_values c.options

abbrev pub backup_names : Backup (List ℕ) → List Asking
backup_names c =
    Named (codes "job-id") (Some c.job_id)
    ∷ Named (codes "device") (Some c.device)
    ∷ Named (codes "target") (Some c.target)
    ∷ Named (codes "bitmap") c.bitmap
    ∷ []

abbrev pub backup_rest : Backup (List ℕ) → List Asking
backup_rest c =
    Found (Some c.device)
    ∷ Found (Some c.target)
    ∷ BitmapFound c.device c.bitmap
    ∷ FreshJob c.job_id
    ∷ RoomForNodes 1
    ∷ RoomForJob
    ∷ Drives (Some c.device) drivers.FileRawOrQcow2
    ∷ Drives (Some c.target) drivers.FileRawOrQcow2
    ∷ Settled (Some c.device)
    ∷ Free (Copy c.device c.target)
    ∷ BitmapFree c.device c.bitmap
    ∷ Writable c.target
    ∷ EqualSizes (Copy c.device c.target)
    ∷ Lone c.target
    ∷ Clear (Copy c.device c.target)
    ∷ []

-- ---- block-job-cancel and block-job-complete

abbrev pub cancel_asks : List ℕ → List Asking
cancel_asks job = Named (codes "device") (Some job) ∷ JobFound job ∷ []

abbrev pub complete_asks : List ℕ → List Asking
complete_asks job = Named (codes "device") (Some job) ∷ JobFound job ∷ JobReady job ∷ []
