-- A whole world is whole behind the end of a job.
use Rattle.std.proofs.Common.{ℕ, List, sym, subst}
use Rattle.blk_history.specs.declared.entry.JobEnd.{JobEnd}
use Rattle.blk_nodes.specs.Contents.{Unfolds}
use Rattle.blk_nodes.specs.Joined.{IsJoined}
use Rattle.blk_nodes.specs.Nodes.{DeviceSeen}
use Rattle.qmp_rules.specs.Changes.{all_changed}
use Rattle.qmp_rules.specs.Ends.{end_edits}
use Rattle.qmp_rules.specs.Table.{RunTable}
use Rattle.qmp_rules.specs.declared.rows.JobRecord.{JobRecord}
use Rattle.flat_machine.specs.Jobs.{outcome_of}
use Rattle.world_parts.specs.Coherent.{DevicesTell, IsWholeWorld}
use Rattle.world_parts.specs.Face.{WorldSeen}
use Rattle.world_parts.specs.Jobs.{EndsJob}
use Rattle.world_parts.proofs.DrainsKept.{drains_ended}
use Rattle.world_goings.proofs.EndKept.{now_bitmaps, now_jobs}
use Rattle.world_goings.proofs.EndWorld as behind

module _ (w v : WorldSeen) (row : JobRecord) (why : JobEnd) (offset : ℕ) (whole : IsWholeWorld w) (joined : IsJoined w.nodes) (unfolds : Unfolds w.nodes)
    (did : EndsJob w v row why offset) where
  abbrev t : RunTable
  t = w.table

  abbrev u : RunTable
  u = all_changed t (end_edits t row (outcome_of why))

  pub whole_left : IsWholeWorld v
  whole_left =
      let drawn = behind.drawn w v row why offset whole joined unfolds did in
      let here = behind.here w v row why offset whole joined unfolds did in
      subst IsWholeWorld (sym did.kept) (record {
        coherent = behind.coherent w v row why offset whole joined unfolds did;
        tell = subst (λ (devices : List DeviceSeen). DevicesTell w.files devices) (sym did.pulls.devices) whole.tell;
        counted = whole.counted;
        bitmaps = now_bitmaps t w.works w.progress.aside whole.jobs whole.coherent.table.stands drawn row here (outcome_of why) w.bitmaps whole.bitmaps;
        jobs = behind.jobs w v row why offset whole joined unfolds did;
        drains =
            drains_ended t u row.number w.drains
            (now_jobs t w.works w.progress.aside whole.jobs whole.coherent.table.stands drawn row here (outcome_of why)) whole.drains;
      })
