-- Backups and mirrors go on behind changes that lead nothing to their targets, and behind the ends of other jobs.
use Rattle.std.proofs.Common.{◌≡◌, ◌≢◌, ℕ, List, [], ◌∷◌, ◌++◌, refl, sym, ◌∙◌, ap, subst, Bool, true, false, cond, Option, Some, None}
use Rattle.std.specs.Prelude.{◌==◌, not, slice_get}
use Rattle.std.specs.List.{Contains}
use Rattle.std.proofs.lemmas.Bool.{false≢true, eq-eqb}
use Rattle.blk_graph.specs.declared.edge.Parent.TheVariants.{Node, Job}
use Rattle.blk_graph.specs.declared.kind.JobUse.TheVariants.{CopyTarget}
use Rattle.blk_graph.specs.Permissions.{job_edge}
use Rattle.blk_graph.proofs.Members.{Contains-nil, Contains-here, Contains-filter, find-Some}
use Rattle.qmp_codec.specs.declared.event.JobKind.{JobKind}
use Rattle.qmp_codec.specs.declared.event.JobKind.TheVariants.{Stream, Commit, Mirror, Backup}
use Rattle.qmp_codec.specs.declared.nodes.Created.{Created}
use Rattle.qmp_codec.specs.declared.nodes.Created.TheVariants as created
use Rattle.blk_history.specs.declared.entry.JobEnd.{JobEnd}
use Rattle.qmp_rules.specs.declared.change.Change.{Change}
use Rattle.qmp_rules.specs.declared.change.Change.TheVariants as change
use Rattle.qmp_rules.specs.declared.change.JobOutcome.{JobOutcome}
use Rattle.qmp_rules.specs.declared.change.JobOutcome.TheVariants.{Completed, Pivoted, Copied, Stopped}
use Rattle.qmp_rules.specs.declared.rows.NodeRecord.{NodeRecord}
use Rattle.qmp_rules.specs.declared.rows.JobRecord.{JobRecord}
use Rattle.qmp_rules.specs.Chains.{is_over, unsettled_over, written_under}
use Rattle.qmp_rules.specs.Changes.{changed, all_changed, without_job}
use Rattle.qmp_rules.specs.Edits.{spoiled}
use Rattle.qmp_rules.specs.Ends.{drops_aside, filter_gone as pulled, overlay_to, parents_to, moves, given_back_to, end_edits, ready_edits}
use Rattle.qmp_rules.specs.Table.{RunTable, node_by_id, job_at, opening_table}
use Rattle.flat_machine.specs.State.{State}
use Rattle.flat_machine.specs.Jobs.{target_written, copied_to, outcome_of, changes_at_end, ended, readied_by, readied}
use Rattle.flat_machine.specs.Suiting.{TableSuits, AllTableSuit}
use Rattle.flat_machine.specs.Wiring.{TableStands}
use Rattle.flat_machine.proofs.Resting.{stepped_table}
use Rattle.flat_machine.proofs.TableRests.{table_keeps}
use Rattle.job_tables.specs.Rows.{target_edges, edges_by, nodes_of_job}
use Rattle.job_tables.specs.Jobs.{JobStands, JobsStand}
use Rattle.job_tables.specs.Changes.{LeavesJobs, AllLeaveJobs, LeavesBySnapshot}
use Rattle.job_tables.specs.Copiers.{CopyGoes, CopiesGo, CopyCanGo, LeavesTargets, AllLeaveTargets}
use Rattle.job_tables.proofs.RowEdges.{in_left}
use Rattle.job_tables.proofs.Changes.{plain_no_filter, change_leaves_jobs}
use Rattle.job_tables.proofs.Ended.{IsQuiet, AreQuiet, quiet-append, quiet_given, quiet_rest, moves_by, rest_by, end_is}
use Rattle.job_tables.proofs.Runs.{written_by, target_of, target_held, source_has, was_job}
use Rattle.job_tables.proofs.TargetEdges.{PassesBy, IsOffNodes, LeavesNode, passes_leaves, led_before, one_size_kept, one_size_mapped}

-- ---- a target

-- what a backup or mirror copies to it writes, and its edge leads there
pub copied_written : (row : JobRecord) (target : ℕ) → copied_to row row.kind ≡ Some target → target_written row ≡ Some target
copied_written row target is = by_kind row.kind refl is
  where
    by_kind : (k : JobKind) → row.kind ≡ k → copied_to row k ≡ Some target → target_written row ≡ Some target
    by_kind Backup e at = written_by row Backup e ∙ at
    by_kind Mirror e at = written_by row Mirror e ∙ at
    by_kind Stream e at = absurd (let bad : None ≡ Some target = at in cc bad)
    by_kind Commit e at = absurd (let bad : None ≡ Some target = at in cc bad)

pub copied_target : (row : JobRecord) (target : ℕ) → copied_to row row.kind ≡ Some target → row.target ≡ Some target
copied_target row target is = by_kind row.kind is
  where
    by_kind : (k : JobKind) → copied_to row k ≡ Some target → row.target ≡ Some target
    by_kind Backup at = at
    by_kind Mirror at = at
    by_kind Stream at = absurd (let bad : None ≡ Some target = at in cc bad)
    by_kind Commit at = absurd (let bad : None ≡ Some target = at in cc bad)

module _ (t : RunTable) (row : JobRecord) (s : JobStands t row) (target : ℕ) (is : copied_to row row.kind ≡ Some target) where
  pub copied_held : Contains row.held target
  copied_held = target_held t row s target (copied_written row target is)

  pub copied_has : Contains (nodes_of_job row) target
  copied_has = in_left row.held row.read target copied_held

  pub copied_edge : Contains t.edges (job_edge row.slot CopyTarget target)
  copied_edge = s.edges (job_edge row.slot CopyTarget target) (by_kind row.kind is)
    where
      by_target : row.target ≡ Some target → Contains (target_edges row.slot row.target) (job_edge row.slot CopyTarget target)
      by_target at = subst (λ o. Contains (target_edges row.slot o) (job_edge row.slot CopyTarget target)) (sym at) (Contains-here (job_edge row.slot CopyTarget target) [])

      by_kind : (k : JobKind) → copied_to row k ≡ Some target → Contains (edges_by row k) (job_edge row.slot CopyTarget target)
      by_kind Backup at = by_target at
      by_kind Mirror at = by_target at
      by_kind Stream at = absurd (let bad : None ≡ Some target = at in cc bad)
      by_kind Commit at = absurd (let bad : None ≡ Some target = at in cc bad)

-- ---- one change

off_nodes : (t : RunTable) (row : JobRecord) (target : ℕ) → CopyGoes t row target → IsOffNodes t.edges target
off_nodes t row target g e node there at from = let bad : Job row.slot ≡ Node node = sym (g.alone e there at) ∙ from in cc bad

pub copy_kept : (t : RunTable) (c : Change) (row : JobRecord) (target : ℕ) → LeavesNode c row.source → PassesBy c target → CopyGoes t row target
    → CopyGoes (changed t c) row target
copy_kept t c row target at_source at_target g = record {
  alone = λ e there at.
      let x = led_before t c target at_target (off_nodes t row target g) e there at in
      sym x.parent ∙ g.alone x.edge x.there (x.child ∙ at);
  sizes = one_size_kept t c row.source target at_source (passes_leaves c target at_target) g.sizes;
}

pub can_kept : (t : RunTable) (c : Change) (row : JobRecord) (target : ℕ) → LeavesNode c row.source → PassesBy c target → CopyCanGo t row target
    → CopyCanGo (changed t c) row target
can_kept t c row target at_source at_target g = record {
  alone = λ e there at.
      let x = led_before t c target at_target (λ y node in_y to from. g.alone y in_y to) e there at in
      g.alone x.edge x.there (x.child ∙ at);
  sizes = one_size_kept t c row.source target at_source (passes_leaves c target at_target) g.sizes;
}

same_copy : (t : RunTable) (row later : JobRecord) (target : ℕ) → later.slot ≡ row.slot → later.source ≡ row.source → CopyGoes t row target → CopyGoes t later target
same_copy t row later target slot source g = record {
  alone = λ e there at. g.alone e there at ∙ ap Job (sym slot);
  sizes = record {
    row = g.sizes.row;
    other = g.sizes.other;
    found = subst (λ n. node_by_id t n ≡ Some g.sizes.row) (sym source) g.sizes.found;
    other_found = g.sizes.other_found;
    same = g.sizes.same;
  };
}

-- ---- changes that leave jobs

module _ (t : RunTable) (j : JobsStand t) (job : JobRecord) (here : Contains t.jobs job) (target : ℕ) (is : copied_to job job.kind ≡ Some target) where
  passes_target : (c : Change) → TableSuits t c → LeavesJobs t c → LeavesTargets t c → PassesBy c target
  passes_target (change.AddFormat new file backing) suits leaves apart = (
    λ same. suits.alone (job_edge job.slot CopyTarget target) (copied_edge t job (j.each job here) target is) (sym same),
    λ same. apart target same job here is,
  )
  passes_target (change.AddFilter new child) suits leaves apart = λ same. apart job here (is ∙ ap Some (sym same))
  passes_target (change.RemoveNode node) suits leaves apart =
      λ same. leaves.held job here (subst (Contains (nodes_of_job job)) (sym same) (copied_has t job (j.each job here) target is))
  passes_target (change.AddDevice device node) suits leaves apart = λ same. apart job here (is ∙ ap Some (sym same))
  passes_target (change.PutFilter new node) suits leaves apart = absurd leaves
  passes_target (change.UseNode slot what node) suits leaves apart = absurd leaves
  passes_target (change.PullFilter filter) suits leaves apart = absurd leaves
  passes_target (change.Rebase node backing) suits leaves apart = absurd leaves
  passes_target (change.Attach overlay node) suits leaves apart = absurd leaves
  passes_target (change.Move from to but) suits leaves apart = absurd leaves
  passes_target c suits leaves apart = tt

  leaves_source : (c : Change) → LeavesJobs t c → LeavesNode c job.source
  leaves_source (change.RemoveNode node) leaves = λ same. leaves.held job here (subst (Contains (nodes_of_job job)) (sym same) (source_has t job (j.each job here)))
  leaves_source (change.PullFilter filter) leaves = absurd leaves
  leaves_source c leaves = tt

change_leaves_copies : (t : RunTable) (c : Change) → JobsStand t → TableSuits t c → LeavesJobs t c → LeavesTargets t c → CopiesGo t → CopiesGo (changed t c)
change_leaves_copies t c j suits leaves apart g row target at is =
    let w = was_job t c leaves row at in
    let old_is : copied_to w.old w.old.kind ≡ Some target = sym w.copied ∙ is in
    same_copy (changed t c) w.old row target w.slot w.source
    (copy_kept t c w.old target (leaves_source t j w.old w.there target old_is c leaves) (passes_target t j w.old w.there target old_is c suits leaves apart)
    (g w.old target w.there old_is))

pub changes_leave_copies : (changes : List Change) (t : RunTable) → TableStands t → JobsStand t → AllTableSuit t changes → AllLeaveJobs t changes
    → AllLeaveTargets t changes → CopiesGo t → CopiesGo (all_changed t changes)
changes_leave_copies [] t h j suits leaves apart g = g
changes_leave_copies (c ∷ changes) t h j suits leaves apart g =
    changes_leave_copies changes (changed t c) (table_keeps t c suits.0 h) (change_leaves_jobs t c h j suits.0 leaves.0) suits.1 leaves.1 apart.1
    (change_leaves_copies t c j suits.0 leaves.0 apart.0 g)

-- a run begins without jobs
pub opening_copies : (guests : List (List ℕ)) → CopiesGo (opening_table guests)
opening_copies guests row target there = absurd (Contains-nil row there)

-- ---- lists by which no job begins or ends

-- the rows of jobs stay
abbrev pub KeepsRows : Change → Type 0
KeepsRows (change.StartJob row) = ⊥
KeepsRows (change.EndJob number slot drops) = ⊥
KeepsRows (change.AskJob number new) = ⊥
KeepsRows (change.ReadyJob number) = ⊥
KeepsRows c = Unit {0}

rows_kept : (t : RunTable) (c : Change) → KeepsRows c → (changed t c).jobs ≡ t.jobs
unfolding changed
rows_kept t (change.StartJob row) h = absurd h
rows_kept t (change.EndJob number slot drops) h = absurd h
rows_kept t (change.AskJob number new) h = absurd h
rows_kept t (change.ReadyJob number) h = absurd h
rows_kept t c h = refl

-- so it passes by what these jobs copy
abbrev pub PassesCopies : List JobRecord → Change → Type 0
PassesCopies jobs c = (row : JobRecord) (target : ℕ) → Contains jobs row → copied_to row row.kind ≡ Some target → LeavesNode c row.source × PassesBy c target

abbrev pub AllPassCopies : List JobRecord → List Change → Type 0
AllPassCopies jobs [] = Unit {0}
AllPassCopies jobs (c ∷ changes) = (KeepsRows c × PassesCopies jobs c) × AllPassCopies jobs changes

pub pass-append : (jobs : List JobRecord) (a b : List Change) → AllPassCopies jobs a → AllPassCopies jobs b → AllPassCopies jobs (a ++ b)
pass-append jobs [] b h k = k
pass-append jobs (c ∷ a) b h k = (h.0, pass-append jobs a b h.1 k)

-- these jobs go on
abbrev pub RowsGo : RunTable → List JobRecord → Type 0
RowsGo t jobs = (row : JobRecord) (target : ℕ) → Contains jobs row → copied_to row row.kind ≡ Some target → CopyGoes t row target

pub rows_go : (jobs : List JobRecord) (changes : List Change) (t : RunTable) → AllPassCopies jobs changes → RowsGo t jobs → RowsGo (all_changed t changes) jobs
rows_go jobs [] t h g = g
rows_go jobs (c ∷ changes) t h g =
    rows_go jobs changes (changed t c) h.1
    (λ row target at is. let p = h.0.1 row target at is in copy_kept t c row target p.0 p.1 (g row target at is))

pub rows_same : (jobs : List JobRecord) (changes : List Change) (t : RunTable) → AllPassCopies jobs changes → (all_changed t changes).jobs ≡ t.jobs
rows_same jobs [] t h = refl
rows_same jobs (c ∷ changes) t h = rows_same jobs changes (changed t c) h.1 ∙ rows_kept t c h.0.0

pub all_pass_copies : (changes : List Change) (t : RunTable) → AllPassCopies t.jobs changes → CopiesGo t → CopiesGo (all_changed t changes)
all_pass_copies changes t h g row target at is =
    rows_go t.jobs changes t h g row target (subst (λ rows. Contains rows row) (rows_same t.jobs changes t h) at) is

-- what stands behind the moves of an end
quiet_passes : (jobs : List JobRecord) (changes : List Change) → AreQuiet changes → AllPassCopies jobs changes
quiet_passes jobs [] q = tt
quiet_passes jobs (c ∷ changes) q = (one c q.0, quiet_passes jobs changes q.1)
  where
    one : (c : Change) → IsQuiet c → KeepsRows c × PassesCopies jobs c
    one (change.Settle node disk) h = (tt, λ row target at is. (tt, tt))
    one (change.Unsettle node) h = (tt, λ row target at is. (tt, tt))
    one (change.MakeReadOnly node) h = (tt, λ row target at is. (tt, tt))
    one c h = absurd h

-- ---- a job ends

module _ (t : RunTable) (j : JobsStand t) (row : JobRecord) (here : Contains t.jobs row) where
  abbrev others : List JobRecord
  others = without_job row.number t.jobs

  other_there : (b : JobRecord) → Contains others b → Contains t.jobs b
  other_there b at = (Contains-filter (λ (x : JobRecord). not (x.number == row.number)) t.jobs b at).0

  -- what another job holds is none of its nodes
  not_its : (b : JobRecord) → Contains others b → (node : ℕ) → Contains b.held node → Contains (nodes_of_job row) node → ⊥
  not_its b at node held has =
      let one : b ≡ row = j.slots b row (other_there b at) here (j.apart b row node (other_there b at) here held has) in
      let number : (b.number == row.number) ≡ true = eq-eqb b.number row.number (ap (λ (x : JobRecord). x.number) one) in
      false≢true (sym (ap not number) ∙ (Contains-filter (λ (x : JobRecord). not (x.number == row.number)) t.jobs b at).1)

  not_to : (b : JobRecord) → Contains others b → (target : ℕ) → copied_to b b.kind ≡ Some target → row.target ≢ Some target
  not_to b at target is same =
      not_its b at target (copied_held t b (j.each b (other_there b at)) target is) (target_of t row (j.each row here) target same)

  not_filter : (b : JobRecord) → Contains others b → (node filter : ℕ) → Contains (nodes_of_job b) node → row.filter ≡ Some filter → filter ≢ node
  not_filter b at node filter has is same =
      plain_no_filter t j node ((j.each b (other_there b at)).plain node has) row here (is ∙ ap Some same)

  pass_pulled : (filter : Option ℕ) → row.filter ≡ filter → AllPassCopies others (pulled filter)
  pass_pulled None is = tt
  pass_pulled (Some filter) is = (
    (
      tt,
      λ b target at to.
          let stands = j.each b (other_there b at) in
          (not_filter b at b.source filter (source_has t b stands) is, not_filter b at target filter (copied_has t b stands target to) is),
    ),
    tt,
  )

  pass_rebased : (node : ℕ) → AllPassCopies others (change.Rebase node row.target ∷ [])
  pass_rebased node = ((tt, λ b target at to. (tt, not_to b at target to)), tt)

  pass_overlay : (overlay : Option ℕ) → AllPassCopies others (overlay_to overlay row.target)
  pass_overlay None = tt
  pass_overlay (Some overlay) = pass_rebased overlay

  pass_parents : (filter target : Option ℕ) → row.target ≡ target → AllPassCopies others (parents_to row.source filter target)
  pass_parents (Some filter) (Some target) is = ((tt, λ b to at of. (tt, λ same. not_to b at to of (is ∙ ap Some same))), tt)
  pass_parents (Some filter) None is = tt
  pass_parents None target is = tt

  pass_moves : (k : JobKind) (o : JobOutcome) → AllPassCopies others (moves row k o)
  pass_moves Stream Completed = pass_rebased row.source
  pass_moves Commit Completed = pass_overlay (slice_get row.read 0)
  pass_moves Commit Pivoted = pass_parents row.filter row.target refl
  pass_moves Mirror Pivoted = pass_parents row.filter row.target refl
  pass_moves k o = tt

  pass_moved : (k : JobKind) (o : JobOutcome) → AllPassCopies others (moves_by row k o)
  pass_moved k Stopped = tt
  pass_moved k Completed = pass_moves k Completed
  pass_moved k Pivoted = pass_moves k Pivoted
  pass_moved k Copied = pass_moves k Copied

  abbrev behind : JobOutcome → List Change
  behind o = (pulled row.filter ++ moves_by row row.kind o) ++ (rest_by row row.kind o ++ given_back_to t row o)

  pass_behind : (o : JobOutcome) → AllPassCopies others (behind o)
  pass_behind o =
      pass-append others (pulled row.filter ++ moves_by row row.kind o) (rest_by row row.kind o ++ given_back_to t row o)
      (pass-append others (pulled row.filter) (moves_by row row.kind o) (pass_pulled row.filter refl) (pass_moved row.kind o))
      (quiet_passes others (rest_by row row.kind o ++ given_back_to t row o)
      (quiet-append (rest_by row row.kind o) (given_back_to t row o) (quiet_rest row row.kind o) (quiet_given t row o)))

  over_copies : (drops : Bool) → CopiesGo t → CopiesGo (changed t (change.EndJob row.number row.slot drops))
  unfolding changed
  over_copies drops g b target at is =
      copy_kept t (change.EndJob row.number row.slot drops) b target tt tt (g b target (other_there b at) is)

  over_others : (drops : Bool) → (changed t (change.EndJob row.number row.slot drops)).jobs ≡ others
  unfolding changed
  over_others drops = refl

  pub ends_keep_copies : (o : JobOutcome) → CopiesGo t → CopiesGo (all_changed t (end_edits t row o))
  ends_keep_copies o g =
      let over : Change = change.EndJob row.number row.slot (drops_aside o row.bitmap) in
      subst (λ changes. CopiesGo (all_changed t changes)) (sym (end_is t row o))
      (all_pass_copies (behind o) (changed t over)
      (subst (λ rows. AllPassCopies rows (behind o)) (sym (over_others (drops_aside o row.bitmap))) (pass_behind o))
      (over_copies (drops_aside o row.bitmap) g))

pub ended_copies : (s : State) (number : ℕ) (why : JobEnd) → JobsStand s.table → CopiesGo s.table → CopiesGo (ended s (job_at s.table number) why).table
ended_copies s number why j g = by_found (job_at s.table number) refl
  where
    by_found : (found : Option JobRecord) → job_at s.table number ≡ found → CopiesGo (ended s found why).table
    by_found None is = g
    by_found (Some row) is =
        subst CopiesGo (sym (stepped_table (changes_at_end s row why) s))
        (ends_keep_copies s.table j row (find-Some (λ (job : JobRecord). job.number == number) s.table.jobs row is).0 (outcome_of why) g)

-- ---- what is noted, failed and written

ready_copies : (t : RunTable) (number : ℕ) → CopiesGo t → CopiesGo (changed t (change.ReadyJob number))
ready_copies t number g row target at is =
    let w = was_job t (change.ReadyJob number) tt row at in
    same_copy (changed t (change.ReadyJob number)) w.old row target w.slot w.source
    (copy_kept t (change.ReadyJob number) w.old target tt tt (g w.old target w.there (sym w.copied ∙ is)))

pub readied_copies : (s : State) (number : ℕ) → CopiesGo s.table → CopiesGo (readied number s).table
readied_copies s number g = by_found (job_at s.table number)
  where
    by_found : (found : Option JobRecord) → CopiesGo (readied_by s found).table
    by_found None = g
    by_found (Some row) = subst CopiesGo (sym (stepped_table (ready_edits row) s)) (ready_copies s.table row.number g)

pub spoiled_copies : (t : RunTable) (options : Created (List ℕ)) → CopiesGo t → CopiesGo (all_changed t (spoiled t options))
spoiled_copies t (created.File c) g = all_pass_copies (spoiled t (created.File c)) t ((tt, λ row target at is. (tt, tt)), tt) g
spoiled_copies t (created.Qcow2 c) g = all_pass_copies (spoiled t (created.Qcow2 c)) t ((tt, λ row target at is. (tt, tt)), tt) g
spoiled_copies t created.Unknown g = g

pub written_copies : (t : RunTable) (node : ℕ) → CopiesGo t → CopiesGo (written_under node t)
unfolding written_under
written_copies t node g row target at is =
    let x = g row target at is in
    record {
      alone = x.alone;
      sizes = one_size_mapped t (written_under node t) (unsettled_over t node) (λ r. keeps r (is_over t node r.id)) refl row.source target x.sizes;
    }
  where
    keeps : (r : NodeRecord) (b : Bool) → ((cond b (record r { is_settled = false }) r).id ≡ r.id) × ((cond b (record r { is_settled = false }) r).size ≡ r.size)
    keeps r true = (refl, refl)
    keeps r false = (refl, refl)

-- ---- snapshots

pub snapshots_leave_copies : (t : RunTable) (node overlay : ℕ) → JobsStand t → LeavesBySnapshot t node overlay → CopiesGo t
    → CopiesGo (all_changed t (change.Attach overlay node ∷ change.Move node overlay overlay ∷ []))
snapshots_leave_copies t node overlay j leaves g =
    all_pass_copies (change.Attach overlay node ∷ change.Move node overlay overlay ∷ []) t (
      (tt, λ row target at is. (tt, λ same. leaves.node_free.held row at (subst (Contains (nodes_of_job row)) (sym same) (copied_has t row (j.each row at) target is)))),
      (
        (tt, λ row target at is. (tt, λ same. leaves.overlay_free.held row at (subst (Contains (nodes_of_job row)) (sym same) (copied_has t row (j.each row at) target is)))),
        tt,
      ),
    ) g
