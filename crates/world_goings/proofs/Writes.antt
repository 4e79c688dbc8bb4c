-- What a job writes of its target leaves a world that comes of the same opening, where the target gets as far as it is to.
use Rattle.std.proofs.Common.{◌≡◌, ◌≢◌, ℕ, ◌<◌, true, List, refl, sym, ◌∙◌, subst, inl, inr, Some, None}
use Rattle.std.specs.Prelude.{Contains, is_some}
use Rattle.blk_history.specs.declared.event.Event.{Event}
use Rattle.block_jobs.specs.Work.{JobWork}
use Rattle.blk_nodes.specs.Contents.{disk_of}
use Rattle.blk_nodes.specs.Joined.{IsJoined}
use Rattle.blk_nodes.specs.Nodes.{AreTold}
use Rattle.blk_pieces.proofs.Rows.{rows_left}
use Rattle.job_ends.specs.Targets.{WritesAside}
use Rattle.job_ends.proofs.Aside.{aside_shows, target_agrees}
use Rattle.job_ends.proofs.Ends.{copier, target_held, target_plain_of, written_is}
use Rattle.job_progress.specs.Going.{IsJobAhead}
use Rattle.job_tables.specs.Jobs.{JobsStand}
use Rattle.job_tables.specs.Running.{JobsRun}
use Rattle.job_works.specs.Works.{ChangesWork}
use Rattle.qmp_rules.specs.Table.{RunTable}
use Rattle.qmp_rules.specs.declared.rows.JobRecord.{JobRecord}
use Rattle.flat_machine.specs.EventLicence.{Deed}
use Rattle.flat_machine.specs.Final.{bytes_named}
use Rattle.flat_machine.specs.Machine.{replay}
use Rattle.flat_machine.specs.Opening.{start}
use Rattle.flat_machine.specs.State.{State}
use Rattle.flat_machine.specs.declared.opening.Opening.{Opening}
use Rattle.world_parts.specs.Coherent.{IsWholeWorld}
use Rattle.world_parts.specs.Comes.{Comes, ShowsState}
use Rattle.world_parts.specs.Face.{WorldSeen, contents_of, counts_now, first_counts}
use Rattle.world_parts.specs.Jobs.{CopiesFor, WritesTarget}
use Rattle.world_parts.specs.Keeping.{AreRises, ShowsJobs, all_faults}
use Rattle.world_parts.proofs.ImageTold.{mapping_kept}
use Rattle.world_parts.proofs.NodesAfter.{AreNodesAfter, of_rows}
use Rattle.world_goings.specs.Copied.{LeavesFiles}
use Rattle.world_goings.proofs.Ahead.{ahead_then, job_there}
use Rattle.world_goings.proofs.Going.{GoesOn, LeavesShown, goes_on}
use Rattle.world_goings.proofs.JobNodes.{apart_from, file_elsewhere, others_apart}
use Rattle.world_goings.proofs.Stepped.{faults_then, works_then}
use Rattle.world_goings.proofs.Takes.{held_by}
use Rattle.world_goings.proofs.WorkSteps.{IsStill}

module _ (o : Opening) (w v : WorldSeen) (deed : Deed) (passes : ℕ → Type 0) (row : JobRecord) (target : ℕ) (whole : IsWholeWorld w) (joined : IsJoined w.nodes)
    (copies : CopiesFor w v deed passes row) (writes : WritesTarget w.nodes v.nodes target) (target_is : row.target ≡ Some target)
    (files : LeavesFiles w.nodes v.nodes target) where
  abbrev t : RunTable
  t = w.table

  abbrev h : List Event
  h = w.progress.log.events

  abbrev s : State
  s = replay (start o) h

  abbrev left : WorldSeen
  left = record w { nodes = v.nodes; works = v.works }

  here : Contains t.jobs row
  here = job_there t row copies.there

  after : AreNodesAfter w.nodes v.nodes
  after = of_rows w.nodes v.nodes (rows_left w.nodes v.nodes target writes.leaves) files.devices

  aside : AreTold w.nodes.devices → WritesAside t target (contents_of w) (contents_of left)
  aside told = record {
    nodes = λ n none.
        writes.others n
        (apart_from t w.works w.progress.aside whole.jobs whole.coherent.table.stands row target here target_is w.nodes whole.coherent.alike n
        (λ same. none (inl same)) (λ is. none (inr is)));
    files = λ name none.
        held_by w v.nodes v.works name
        (λ n is.
        files.others n
        (file_elsewhere t w.works w.progress.aside whole.jobs whole.coherent.table.stands row target here target_is w.nodes whole.coherent.alike name n is none));
    mapping = mapping_kept w left whole.coherent.alike joined copies.joined whole.coherent.table.stands after told (λ name. refl) target;
  }

  -- what other jobs write reads as before
  others : (other : JobRecord) (node : ℕ) → Contains t.jobs other → other.number ≢ row.number → other.target ≡ Some node → disk_of v.nodes node ≡ disk_of w.nodes node
  others other node there differ is =
      writes.others node
      (others_apart t w.works w.progress.aside whole.jobs whole.coherent.table.stands row target here target_is w.nodes whole.coherent.alike other node there differ is)

  module _ (Does : JobWork → JobWork → Type 0) (changes : ChangesWork row.number Does w.works v.works) (still : IsStill changes.was changes.now)
      (step : is_some w.files ≡ true → ShowsState o s w → changes.now.met ≡ None → (changes.was.met ≡ None)
      × (IsJobAhead (start o) h s (disk_of w.nodes) row changes.was → IsJobAhead (start o) h s (disk_of v.nodes) row changes.now)) where
    shown : is_some w.files ≡ true → ShowsState o s w → ShowsJobs o h s w → LeavesShown o w v.nodes v.works
    shown told shows going =
        let same : s.table ≡ w.table = shows.table.table_is in
        let stand : JobsStand s.table = subst JobsStand (sym same) whole.jobs.stand in
        let run : JobsRun s.table = subst JobsRun (sym same) whole.jobs.run in
        let at : Contains s.table.jobs row = subst (λ (u : RunTable). Contains u.jobs row) (sym same) here in
        let blocks = (whole.jobs.lone row here).kind in
        let plain = target_plain_of s.table row stand at blocks target target_is in
        let started = shows.table.rest.started in
        let did : WritesAside s.table target (contents_of w) (contents_of left) =
        subst (λ (u : RunTable). WritesAside u target (contents_of w) (contents_of left)) (sym same) (aside (whole.tell told)) in
        record {
          tell = copies.told (whole.tell told);
          agrees =
              target_agrees s row target shows.stands.stands run going.files started at (copier row.kind blocks) (written_is row blocks ∙ target_is) plain
              (bytes_named o.files) (contents_of w) (contents_of left) did shows.contents;
          images =
              aside_shows s shows.stands.stands.table target plain
              (going.unsure row target at (subst (λ n. row.number < n) (sym started) (run.numbers row at)) (target_held s.table row stand at blocks target target_is))
              (contents_of w) (contents_of left) did shows.images;
          ahead = ahead_then w v deed passes row copies Does changes (start o) s h same whole.jobs (step told shows) others going.ahead;
        }

    on : Comes o w → GoesOn o w v.nodes v.works
    on comes = record {
      after = after;
      joined = copies.joined;
      belong = works_then w v deed passes row copies Does changes whole.jobs.belong still;
      kept =
          subst (λ (x : WorldSeen). AreRises (first_counts x) (counts_now x) (all_faults h v.works)) copies.kept
          (faults_then w v deed passes row copies Does changes whole.coherent.out h comes.kept);
      shown = shown;
    }

    pub writes_comes : Comes o w → Comes o v
    writes_comes comes = subst (Comes o) (sym copies.kept) (goes_on o w v.nodes v.works comes (on comes))
