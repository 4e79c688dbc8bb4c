-- What the changes of a job's start, and its entry, leave of a state beside table, nodes and files.
use Rattle.std.proofs.Common.{◌≡◌, ℕ, Bool, true, false, cond, List, [], ◌∷◌, ◌++◌, refl, Option, Some, None}
use Rattle.std.specs.Prelude.{option_and_then}
use Rattle.blk_graph.specs.declared.kind.JobUse.TheVariants.{CopyTarget}
use Rattle.qmp_rules.specs.Asks.{is_file}
use Rattle.qmp_rules.specs.Edits.{device_uses, file_uses, of_row}
use Rattle.qmp_rules.specs.Table.{node_by_id}
use Rattle.qmp_rules.specs.declared.change.Change.TheVariants.{PutFilter, StartJob, Unsettle, UseFile, UseNode}
use Rattle.qmp_rules.specs.declared.rows.JobRecord.{JobRecord}
use Rattle.qmp_rules.specs.declared.rows.NodeRecord.{NodeRecord}
use Rattle.flat_machine.specs.Changed.{all_stepped, name_if, overlay_file}
use Rattle.flat_machine.specs.Jobs.{copied_to, noted_start, started, target_file, unleft}
use Rattle.flat_machine.specs.State.{State}

pub record StaysAside (s now : State) : Type 0 where
  pub room : now.room ≡ s.room
  pub guests : now.guests ≡ s.guests
  pub ended : now.ended ≡ s.ended
  pub ending : now.ending ≡ s.ending
  pub starts : now.starts ≡ s.starts
  pub begun : now.begun ≡ s.begun

named_aside : (s m : State) (name : Option (List ℕ)) → StaysAside s m → StaysAside s (name_if name m)
named_aside s m None was = was
named_aside s m (Some name) was =
    record { room = was.room; guests = was.guests; ended = was.ended; ending = was.ending; starts = was.starts; begun = was.begun }

-- the job's row, and its edge to its target
job_aside : (s m : State) (job : JobRecord) (target : ℕ) → StaysAside s m → StaysAside s (all_stepped m (StartJob job ∷ UseNode job.slot CopyTarget target ∷ []))
job_aside s m job target was =
    let named = named_aside s m (overlay_file m.table job job.kind) was in
    record { room = named.room; guests = named.guests; ended = named.ended; ending = named.ending; starts = named.starts; begun = named.begun }

pub start_aside : (s : State) (found : Option NodeRecord) (target source : ℕ) (filter : NodeRecord) (job : JobRecord)
    → StaysAside s (all_stepped s ((of_row device_uses found ++ Unsettle target ∷ [])
    ++ PutFilter filter source ∷ StartJob job ∷ UseNode job.slot CopyTarget target ∷ []))
start_aside s found target source filter job = by_found found
  where
    unused : StaysAside s (all_stepped s (Unsettle target ∷ PutFilter filter source ∷ StartJob job ∷ UseNode job.slot CopyTarget target ∷ []))
    unused =
        job_aside s (all_stepped s (Unsettle target ∷ PutFilter filter source ∷ [])) job target
        (record { room = refl; guests = refl; ended = refl; ending = refl; starts = refl; begun = refl })

    by_file : (b : Bool) (name : Option (List ℕ)) → StaysAside s (all_stepped s ((cond b (file_uses name) [] ++ Unsettle target ∷ [])
        ++ PutFilter filter source ∷ StartJob job ∷ UseNode job.slot CopyTarget target ∷ []))
    by_file true (Some name) =
        job_aside s (all_stepped s (UseFile name ∷ Unsettle target ∷ PutFilter filter source ∷ [])) job target
        (record { room = refl; guests = refl; ended = refl; ending = refl; starts = refl; begun = refl })
    by_file true None = unused
    by_file false name = unused

    by_found : (found : Option NodeRecord) → StaysAside s (all_stepped s ((of_row device_uses found ++ Unsettle target ∷ [])
        ++ PutFilter filter source ∷ StartJob job ∷ UseNode job.slot CopyTarget target ∷ []))
    by_found None = unused
    by_found (Some row) = by_file (is_file row) row.filename

unleft_aside : (name : Option (List ℕ)) (s : State) → StaysAside s (unleft name s)
unleft_aside None s = record { room = refl; guests = refl; ended = refl; ending = refl; starts = refl; begun = refl }
unleft_aside (Some name) s = record { room = refl; guests = refl; ended = refl; ending = refl; starts = refl; begun = refl }

pub started_aside : (s : State) (row : JobRecord) → StaysAside (noted_start s row) (started s (Some row))
started_aside s row = unleft_aside (target_file s.table (option_and_then (node_by_id s.table) (copied_to row row.kind))) (noted_start s row)
