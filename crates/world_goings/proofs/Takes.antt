-- A world still comes of its opening where a block is read for a job.
use Rattle.std.proofs.Common.{◌≡◌, ℕ, ◌==◌, Bool, true, false, cond, List, [], ◌∷◌, length, refl, sym, ◌∙◌, ap, subst, Option, Some, None}
use Rattle.std.specs.Prelude.{Result, Ok, Err, is_some, option_and_then}
use Rattle.blk_base.specs.declared.fault.Fault.{Fault}
use Rattle.blk_copy.specs.declared.transfers.Transfer.{Transfer}
use Rattle.blk_history.specs.declared.event.Event.{Event}
use Rattle.block_jobs.specs.Work.{JobWork, after_take}
use Rattle.blk_nodes.specs.Contents.{disk_of}
use Rattle.blk_nodes.specs.Nodes.{DeviceSeen, Nodes, device_in}
use Rattle.blk_nodes.specs.Reading.{HaveRisen}
use Rattle.job_copies.specs.Taking.{Takes}
use Rattle.qmp_codec.specs.declared.event.JobKind.{JobKind}
use Rattle.qmp_codec.specs.declared.event.JobKind.TheVariants.{Stream, Commit, Mirror, Backup}
use Rattle.job_progress.specs.Going.{IsJobAhead}
use Rattle.job_progress.proofs.Copies.{taken_goes}
use Rattle.job_works.specs.Steps.{Taken}
use Rattle.qmp_rules.specs.declared.rows.JobRecord.{JobRecord}
use Rattle.flat_machine.specs.Final.{bytes_named}
use Rattle.flat_machine.specs.Machine.{replay}
use Rattle.flat_machine.specs.Opening.{start}
use Rattle.flat_machine.specs.Performing.{IsQuiet}
use Rattle.flat_machine.specs.State.{State}
use Rattle.flat_machine.specs.declared.opening.Opening.{Opening}
use Rattle.world_parts.specs.Coherent.{IsWholeWorld}
use Rattle.world_parts.specs.Comes.{Comes, ShowsState}
use Rattle.world_parts.specs.Face.{WorldSeen, contents_of, counts_now, first_counts, held, held_in_file, node_over}
use Rattle.world_parts.specs.Jobs.{TakesBlock}
use Rattle.world_parts.specs.Keeping.{AreRises, ShowsJobs, all_faults}
use Rattle.world_parts.proofs.CountLemmas.{same-risen}
use Rattle.world_parts.proofs.NodesAfter.{AreNodesAfter, after_devices, device_content_in}
use Rattle.world_goings.proofs.Ahead.{ahead_then, failed_not, job_there, reads_on}
use Rattle.world_goings.proofs.Going.{GoesOn, LeavesShown, goes_on}
use Rattle.world_goings.proofs.Quieted.{quiet_agrees, quiet_images}
use Rattle.world_goings.proofs.Stepped.{faults_then, sound_was, works_then}
use Rattle.world_goings.proofs.WorkSteps.{taken_still}

-- ---- files hold the same where counts alone have risen

pub content_risen : (old new : List DeviceSeen) → HaveRisen old new → (n : ℕ) → device_content_in new n ≡ device_content_in old n
content_risen [] [] risen n = refl
content_risen (a ∷ old) (b ∷ new) risen n =
    let node : b.node ≡ a.node = ap (λ (d : DeviceSeen). d.node) risen.0.same in
    let content : b.content ≡ a.content = ap (λ (d : DeviceSeen). d.content) risen.0.same in
    ap (λ (m : ℕ). option_and_then (λ (d : DeviceSeen). d.content) (cond (m == n) (Some b) (device_in new n))) node
    ∙ by_test (a.node == n) content (content_risen old new risen.1 n)
  where
    by_test : (t : Bool) → b.content ≡ a.content → device_content_in new n ≡ device_content_in old n
        → option_and_then (λ (d : DeviceSeen). d.content) (cond t (Some b) (device_in new n)) ≡ option_and_then (λ (d : DeviceSeen). d.content) (cond t (Some a) (device_in old n))
    by_test true same rest = same
    by_test false same rest = rest
content_risen [] (b ∷ new) risen n = absurd risen
content_risen (a ∷ old) [] risen n = absurd risen

-- what a file holds, by the device of the node over it
pub held_by : (w : WorldSeen) (nodes : Nodes) (works : List JobWork) (name : List ℕ)
    → ((n : ℕ) → node_over w.table name ≡ Some n → device_content_in nodes.devices n ≡ device_content_in w.nodes.devices n)
    → held (record w { nodes = nodes; works = works }) name ≡ held w name
held_by w nodes works name same = by_node (node_over w.table name) refl
  where
    by_node : (found : Option ℕ) → node_over w.table name ≡ found → held_in_file (record w { nodes = nodes; works = works }) name found ≡ held_in_file w name found
    by_node None is = refl
    by_node (Some n) is = same n is

module _ (o : Opening) (w v : WorldSeen) (row : JobRecord) (buffer : List ℕ) (answer : Result (Option Transfer) Fault)
    (whole : IsWholeWorld w)
    (did : TakesBlock w v row buffer answer) where
  abbrev h : List Event
  h = w.progress.log.events

  abbrev s : State
  s = replay (start o) h

  abbrev left : WorldSeen
  left = record w { nodes = v.nodes; works = v.works }

  abbrev Does : JobWork → JobWork → Type 0
  Does = Taken row.kind w.nodes v.nodes row.source (length h) buffer answer

  abbrev was : JobWork
  was = did.takes.was

  abbrev now : JobWork
  now = did.takes.now

  after : AreNodesAfter w.nodes v.nodes
  after = after_devices w.nodes v.nodes did.called.kept (same-risen w.nodes.devices v.nodes.devices did.called.risen)

  quiet : IsQuiet (contents_of w) (contents_of left)
  quiet = record {
    nodes = λ node never. did.disks node;
    files = λ name never. held_by w v.nodes v.works name (λ n is. content_risen w.nodes.devices v.nodes.devices did.called.risen n);
  }

  -- ---- how far it is

  step : (told : Result (Option Transfer) Fault) → Takes row.kind w.nodes v.nodes was now row.source (length h) buffer told → now.met ≡ None
      → (was.met ≡ None) × (IsJobAhead (start o) h s (disk_of w.nodes) row was → IsJobAhead (start o) h s (disk_of v.nodes) row now)
  step (Ok None) takes none = (
    ap (λ (x : JobWork). x.met) (sym takes.2) ∙ none,
    λ ahead.
        subst (IsJobAhead (start o) h s (disk_of v.nodes) row) (sym takes.2)
        (reads_on (start o) s h (disk_of w.nodes) (disk_of v.nodes) row was (λ target is. did.disks target) ahead),
  )
  step (Ok (Some t)) takes none = (
    met_same row.kind ∙ ap (λ (x : JobWork). x.met) (sym takes.work) ∙ none,
    λ ahead.
        subst (IsJobAhead (start o) h s (disk_of v.nodes) row) (sym takes.work)
        (taken_goes (start o) h (disk_of v.nodes) row was t (sound_was w v _ _ row did.copies Does did.takes whole.jobs.belong)
        (ap (λ (x : Transfer). x.job) takes.is) takes.next (ap (λ (x : Transfer). x.position) takes.is)
        (reads_on (start o) s h (disk_of w.nodes) (disk_of v.nodes) row was (λ target is. did.disks target) ahead)
        (whole.jobs.lone row (job_there w.table row did.copies.there)).kind),
  )
    where
      met_same : (k : JobKind) → was.met ≡ (after_take k t was).met
      met_same Mirror = refl
      met_same Stream = refl
      met_same Commit = refl
      met_same Backup = refl
  step (Err fault) takes none = failed_not was fault now takes.work none

  shown : is_some w.files ≡ true → ShowsState o s w → ShowsJobs o h s w → LeavesShown o w v.nodes v.works
  shown told shows going = record {
    tell = did.copies.told (whole.tell told);
    agrees = quiet_agrees s (contents_of w) (contents_of left) quiet (bytes_named o.files) shows.contents;
    images = quiet_images s (contents_of w) (contents_of left) quiet shows.images;
    ahead =
        ahead_then w v _ _ row did.copies Does did.takes (start o) s h shows.table.table_is whole.jobs (step answer did.takes.done.takes)
        (λ other node there differ is. did.disks node) going.ahead;
  }

  on : Comes o w → GoesOn o w v.nodes v.works
  on comes = record {
    after = after;
    joined = did.copies.joined;
    belong =
        works_then w v _ _ row did.copies Does did.takes whole.jobs.belong
        (taken_still w.nodes v.nodes was now (sound_was w v _ _ row did.copies Does did.takes whole.jobs.belong) row.kind row.source (length h) buffer answer did.takes.done.takes);
    kept =
        subst (λ (x : WorldSeen). AreRises (first_counts x) (counts_now x) (all_faults h v.works)) did.copies.kept
        (faults_then w v _ _ row did.copies Does did.takes whole.coherent.out h comes.kept);
    shown = shown;
  }

  pub takes_comes : Comes o w → Comes o v
  takes_comes comes = subst (Comes o) (sym did.copies.kept) (goes_on o w v.nodes v.works comes (on comes))
