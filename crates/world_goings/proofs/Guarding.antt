-- A world still comes of its opening where a block is copied before a guest's write, and then a backup owes nothing of it.
use Rattle.std.proofs.Common.{◌≡◌, ℕ, ◌+◌, ◌≤◌, true, false, List, sym, ◌∙◌, ap, subst, arith, inl, inr, Some, None}
use Rattle.std.specs.Prelude.{Contains, Result, Ok, Err, is_some}
use Rattle.blk_base.specs.Pieces.{Extent, end_of}
use Rattle.blk_base.specs.declared.fault.Fault.{Fault}
use Rattle.blk_history.specs.declared.event.Event.{Event}
use Rattle.block_jobs.specs.Ahead.{IsAhead, is_owed}
use Rattle.block_jobs.specs.Work.{JobWork, after_copy}
use Rattle.blk_nodes.specs.Contents.{disk_of}
use Rattle.blk_nodes.specs.Joined.{IsJoined}
use Rattle.job_copies.specs.Guarding.{Guards, after_guard}
use Rattle.job_progress.specs.Belonging.{HasWork}
use Rattle.job_progress.specs.Going.{IsJobAhead}
use Rattle.job_progress.specs.Piecing.{IsGuarded}
use Rattle.job_progress.proofs.Copies.{copied_goes}
use Rattle.job_tables.proofs.RowEdges.{holds_source, in_left}
use Rattle.job_works.specs.Steps.{Guarded}
use Rattle.job_works.specs.Works.{work_of}
use Rattle.qmp_codec.specs.declared.event.JobKind.TheVariants.{Backup}
use Rattle.qmp_rules.specs.Queries.{bytes_of_node}
use Rattle.qmp_rules.specs.Table.{RunTable}
use Rattle.qmp_rules.specs.declared.rows.JobRecord.{JobRecord}
use Rattle.trace_codec.specs.declared.op.Op.{Op}
use Rattle.flat_machine.specs.EventLicence.{PieceOn}
use Rattle.flat_machine.specs.Machine.{replay}
use Rattle.flat_machine.specs.Opening.{start}
use Rattle.flat_machine.specs.State.{State, bytes_at_node}
use Rattle.flat_machine.specs.declared.opening.Opening.{Opening}
use Rattle.world_parts.specs.Coherent.{IsWholeWorld}
use Rattle.world_parts.specs.Comes.{Comes, ShowsState}
use Rattle.world_parts.specs.Face.{WorldSeen}
use Rattle.world_parts.specs.Jobs.{CopyPasses, GuardsBlock}
use Rattle.world_goings.specs.Copied.{IsInBlock, LeavesFiles}
use Rattle.world_goings.proofs.Ahead.{failed_not, job_there, reads_on}
use Rattle.world_goings.proofs.Alike.{source_reads}
use Rattle.world_goings.proofs.JobNodes.{source_apart}
use Rattle.world_goings.proofs.Stepped.{found_now, sound_was}
use Rattle.world_goings.proofs.WorkSteps.{guarded_still}
use Rattle.world_goings.proofs.Writes.{writes_comes}

module _ (w v : WorldSeen) (drive : ℕ) (op : Op) (row : JobRecord) (target block : ℕ) (whole : IsWholeWorld w) (did : GuardsBlock w v drive op row target block) where
  abbrev t : RunTable
  t = w.table

  abbrev was : JobWork
  was = did.guards.was

  abbrev now : JobWork
  now = did.guards.now

  abbrev Does : JobWork → JobWork → Type 0
  Does = Guarded w.nodes v.nodes row.source target block

  here : Contains t.jobs row
  here = job_there t row did.copies.there

  module _ (o : Opening) (joined : IsJoined w.nodes) (files : LeavesFiles w.nodes v.nodes target) where
    abbrev h : List Event
    h = w.progress.log.events

    abbrev s : State
    s = replay (start o) h

    -- its source reads as before
    source_still : disk_of v.nodes row.source ≡ disk_of w.nodes row.source
    source_still =
        did.writes.others row.source
        (source_apart t w.works w.progress.aside whole.jobs whole.coherent.table.stands row target here did.target_is w.nodes whole.coherent.alike)

    -- ---- how far it is

    module _ (told : is_some w.files ≡ true) (shows : ShowsState o s w) where
      went : now.met ≡ None → (answer : Result (Unit {0}) Fault) → now ≡ after_guard answer block was
          → (was.met ≡ None) × (IsJobAhead (start o) h s (disk_of w.nodes) row was → IsJobAhead (start o) h s (disk_of v.nodes) row now)
      went none (Err fault) is = failed_not was fault now is none
      went none (Ok done) is = (
        ap (λ (x : JobWork). x.met) (sym is) ∙ none,
        λ ahead.
            subst (IsJobAhead (start o) h s (disk_of v.nodes) row) (sym is)
            (copied_goes (start o) s h (disk_of w.nodes) (disk_of v.nodes) row was block did.kind
            (sound_was w v _ _ row did.copies Does did.guards whole.jobs.belong)
            (λ other due goal at far.
            let both : Some target ≡ Some other = sym did.target_is ∙ at in
            let same : target ≡ other = cc both in
            let source = source_reads o w whole row here shows in
            subst (λ n. IsAhead due (is_owed Backup (after_copy block was)) (bytes_at_node s row.source) goal (disk_of v.nodes n)) same
            (subst (λ xs. IsAhead due (is_owed Backup (after_copy block was)) xs goal (disk_of v.nodes target)) (source_still ∙ source)
            (subst (λ (x : JobWork). IsAhead due (is_owed Backup x) (disk_of v.nodes row.source) goal (disk_of v.nodes target)) is
            (did.guards.done.ahead (whole.tell told)
            (source_apart t w.works w.progress.aside whole.jobs whole.coherent.table.stands row target here did.target_is w.nodes whole.coherent.alike) none due goal
            (subst (λ xs. IsAhead due (is_owed Backup was) xs goal (disk_of w.nodes target)) (sym source)
            (subst (λ n. IsAhead due (is_owed Backup was) (bytes_at_node s row.source) goal (disk_of w.nodes n)) (sym same) far))))))
            ahead),
      )

      step : Guards w.nodes v.nodes was now row.source target block → now.met ≡ None
          → (was.met ≡ None) × (IsJobAhead (start o) h s (disk_of w.nodes) row was → IsJobAhead (start o) h s (disk_of v.nodes) row now)
      step (inl nothing) none = (
        ap (λ (x : JobWork). x.met) (sym nothing.2) ∙ none,
        λ ahead.
            subst (IsJobAhead (start o) h s (disk_of v.nodes) row) (sym nothing.2)
            (reads_on (start o) s h (disk_of w.nodes) (disk_of v.nodes) row was (λ other is. ap (λ n. disk_of n other) nothing.1) ahead),
      )
      step (inr copied) none = went none copied.result copied.work

    pub guards_comes : Comes o w → Comes o v
    guards_comes =
        writes_comes o w v (PieceOn drive op) (CopyPasses w.nodes target) row target whole joined did.copies did.writes did.target_is files Does did.guards
        (guarded_still w.nodes v.nodes was now (sound_was w v _ _ row did.copies Does did.guards whole.jobs.belong) row.source target block did.guards.done.guards)
        (λ told shows none. step told shows did.guards.done.guards none)

  -- ---- what is owed of the block then

  -- the job alone has its source
  only_job : (other : JobRecord) → Contains t.jobs other → other.source ≡ row.source → other ≡ row
  only_job other there same =
      let held = holds_source t other (whole.jobs.stand.each other there) in
      let its = in_left row.held row.read row.source (holds_source t row (whole.jobs.stand.each row here)) in
      let slots = whole.jobs.stand.apart other row row.source there here (subst (Contains other.held) same held) its in
      whole.jobs.stand.slots other row there here slots

  table_kept : v.table ≡ w.table
  table_kept = ap (λ (x : WorldSeen). x.table) did.copies.kept

  pub guards_free : (part : Extent) → IsInBlock part block → end_of part ≤ bytes_of_node t row.source → IsGuarded v.table v.works row.source part
  guards_free part inside fits other work there kind source found none i least below =
      let there_before = subst (λ (u : RunTable). Contains u.jobs other) table_kept there in
      let one = only_job other there_before source in
      let both : Some work ≡ Some now = sym found ∙ ap (λ (r : JobRecord). work_of v.works r.number) one ∙ found_now w v _ _ row did.copies Does did.guards in
      let same : work ≡ now = cc both in
      let has : HasWork t w.works row = whole.jobs.belong.each row here in
      let its : Some was ≡ Some has.work = sym did.guards.there ∙ has.there in
      let same_was : was ≡ has.work = cc its in
      let size : was.size ≡ bytes_of_node t row.source = ap (λ (x : JobWork). x.size) same_was ∙ has.size in
      let whole_part : part.start + part.len ≤ bytes_of_node t row.source = fits in
      subst (λ (x : JobWork). is_owed Backup x i ≡ false) (sym same)
      (did.guards.done.free (ap (λ (x : JobWork). x.met) (sym same) ∙ none) i (omega (arith, size, whole_part, below)) (inside i least below))
