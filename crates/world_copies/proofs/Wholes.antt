-- The parts of a world still belong together where a block was read, written, or copied for a job.
use Rattle.std.proofs.Common.{ℕ, Bool, List, length, sym, subst, Option}
use Rattle.std.specs.Prelude.{Result}
use Rattle.blk_base.specs.declared.fault.Fault.{Fault}
use Rattle.blk_copy.specs.declared.transfers.Transfer.{Transfer}
use Rattle.block_jobs.specs.Work.{JobWork}
use Rattle.blk_pieces.proofs.Rows.{rows_left}
use Rattle.flat_machine.specs.EventLicence.{Deed}
use Rattle.job_works.specs.Works.{ChangesWork}
use Rattle.qmp_rules.specs.declared.rows.JobRecord.{JobRecord}
use Rattle.trace_codec.specs.declared.op.Op.{Op}
use Rattle.world_parts.specs.Coherent.{IsWholeWorld}
use Rattle.world_parts.specs.Face.{WorldSeen}
use Rattle.world_parts.specs.Jobs.{CopiesFor, GuardsBlock, SettlesBlock, TakesBlock}
use Rattle.world_parts.proofs.CountLemmas.{same-risen}
use Rattle.world_parts.proofs.NodesAfter.{AreNodesAfter, after_devices, of_rows}
use Rattle.world_goings.specs.Copied.{LeavesFiles}
use Rattle.world_goings.proofs.Going.{coherent_then, kept_then}
use Rattle.world_goings.proofs.Stepped.{sound_was, works_then}
use Rattle.world_goings.proofs.WorkSteps.{IsStill, guarded_still, settled_still, taken_still}

module _ (w v : WorldSeen) (deed : Deed) (passes : ℕ → Type 0) (row : JobRecord) (copies : CopiesFor w v deed passes row)
    (Does : JobWork → JobWork → Type 0) (changes : ChangesWork row.number Does w.works v.works) (whole : IsWholeWorld w) where
  whole_then : AreNodesAfter w.nodes v.nodes → IsStill changes.was changes.now → IsWholeWorld v
  whole_then after still =
      let now : WorldSeen = record w { nodes = v.nodes; works = v.works } in
      let is : IsWholeWorld now = record {
        coherent = coherent_then w v.nodes after whole.coherent;
        tell = λ told. copies.told (whole.tell told);
        counted = whole.counted;
        bitmaps = whole.bitmaps;
        jobs = kept_then w v.works (works_then w v deed passes row copies Does changes whole.jobs.belong still) whole.jobs;
        drains = whole.drains;
      } in
      subst IsWholeWorld (sym copies.kept) is

pub takes_whole : (w v : WorldSeen) (row : JobRecord) (buffer : List ℕ) (answer : Result (Option Transfer) Fault) → IsWholeWorld w → TakesBlock w v row buffer answer
    → IsWholeWorld v
takes_whole w v row buffer answer whole did =
    whole_then w v _ _ row did.copies _ did.takes whole
    (after_devices w.nodes v.nodes did.called.kept (same-risen w.nodes.devices v.nodes.devices did.called.risen))
    (taken_still w.nodes v.nodes did.takes.was did.takes.now (sound_was w v _ _ row did.copies _ did.takes whole.jobs.belong) row.kind row.source
    (length w.progress.log.events) buffer answer did.takes.done.takes)

pub settles_whole : (w v : WorldSeen) (row : JobRecord) (target : ℕ) (t : Transfer) (bytes : List ℕ) (answer : Bool) → IsWholeWorld w → LeavesFiles w.nodes v.nodes target
    → SettlesBlock w v row target t bytes answer → IsWholeWorld v
settles_whole w v row target t bytes answer whole files did =
    whole_then w v _ _ row did.copies _ did.settles whole
    (of_rows w.nodes v.nodes (rows_left w.nodes v.nodes target did.writes.leaves) files.devices)
    (settled_still w.nodes v.nodes did.settles.was did.settles.now (sound_was w v _ _ row did.copies _ did.settles whole.jobs.belong) row.kind target t bytes answer
    did.settles.done.settles)

pub guards_whole : (w v : WorldSeen) (drive : ℕ) (op : Op) (row : JobRecord) (target block : ℕ) → IsWholeWorld w → LeavesFiles w.nodes v.nodes target
    → GuardsBlock w v drive op row target block → IsWholeWorld v
guards_whole w v drive op row target block whole files did =
    whole_then w v _ _ row did.copies _ did.guards whole
    (of_rows w.nodes v.nodes (rows_left w.nodes v.nodes target did.writes.leaves) files.devices)
    (guarded_still w.nodes v.nodes did.guards.was did.guards.now (sound_was w v _ _ row did.copies _ did.guards whole.jobs.belong) row.source target block
    did.guards.done.guards)
