-- The changes of an end have to do with no node of another job.
use Rattle.std.proofs.Common.{◌≡◌, ◌≢◌, ℕ, Bool, true, false, List, [], ◌∷◌, ◌++◌, refl, sym, ◌∙◌, ap, subst, append_assoc, Option, Some, None}
use Rattle.std.specs.Prelude.{◌==◌, not, slice_get, IsSome, option_and_then}
use Rattle.std.specs.List.{Contains}
use Rattle.std.proofs.lemmas.Bool.{false≢true, eqb-true, eqb-false}
use Rattle.blk_graph.specs.declared.edge.Parent.TheVariants.{Node}
use Rattle.blk_graph.specs.declared.edge.Role.TheVariants.{File, Filtered}
use Rattle.blk_graph.specs.declared.kind.Kind.{Kind}
use Rattle.blk_graph.specs.declared.kind.Kind.TheVariants as driver
use Rattle.blk_graph.proofs.Members.{Contains-filter, Contains-here, Contains-there, find-Some}
use Rattle.block_jobs.specs.Work.{JobWork}
use Rattle.qmp_codec.specs.declared.event.JobKind.{JobKind}
use Rattle.qmp_codec.specs.declared.event.JobKind.TheVariants.{Stream, Commit, Mirror, Backup}
use Rattle.qmp_rules.specs.declared.change.Change.{Change}
use Rattle.qmp_rules.specs.declared.change.Change.TheVariants as change
use Rattle.qmp_rules.specs.declared.change.JobOutcome.{JobOutcome}
use Rattle.qmp_rules.specs.declared.change.JobOutcome.TheVariants.{Completed, Pivoted, Copied, Stopped}
use Rattle.qmp_rules.specs.declared.change.NewDisk.{NewDisk}
use Rattle.qmp_rules.specs.declared.change.NewDisk.TheVariants.{OfNode, OfStart}
use Rattle.qmp_rules.specs.declared.rows.NodeRecord.{NodeRecord}
use Rattle.qmp_rules.specs.declared.rows.JobRecord.{JobRecord}
use Rattle.qmp_rules.specs.Changes.{all_changed, changed, without_job}
use Rattle.qmp_rules.specs.Chains.{filter_role}
use Rattle.qmp_rules.specs.Ends.{done_edits, drops_aside, end_edits, filter_gone, given_back_to, moves, overlay_to, parents_to, read_only_if, settle_if, settled_by, settles_target, top_lost}
use Rattle.qmp_rules.specs.Table.{RunTable, child, node_by_id}
use Rattle.flat_machine.specs.Wiring.{LeadsToFile, TableStands}
use Rattle.flat_machine.proofs.WritingKept.{RoleEdge, role_edge}
use Rattle.job_edges.specs.Held.{is_job_filter}
use Rattle.job_entries.proofs.Files.{IsNoFile, IsOwn, child_ended, child_pulled, filter_no_file, no_file_ended}
use Rattle.job_progress.specs.Leaving.{AllLeaveCopies}
use Rattle.job_tables.specs.Changes.{IsNoJobs}
use Rattle.job_tables.specs.Jobs.{JobStands, JobsStand, StandsByKind}
use Rattle.job_tables.specs.Rows.{nodes_of_job}
use Rattle.job_tables.proofs.Changes.{filter_of, plain_no_filter}
use Rattle.job_tables.proofs.Nobodys.{under_no_job}
use Rattle.job_tables.proofs.Others.{IsNobodys}
use Rattle.job_tables.proofs.RowEdges.{copy_holds, holds_source, in_left, in_right}

-- ---- lists

leaves-append : (works : List JobWork) (a b : List Change) (t : RunTable) → AllLeaveCopies works t a → AllLeaveCopies works (all_changed t a) b
    → AllLeaveCopies works t (a ++ b)
leaves-append works [] b t h k = k
leaves-append works (c ∷ a) b t h k = (h.0, leaves-append works a b (changed t c) h.1 k)

-- a `file` node under a format node is no job's
pub file_no_jobs : (t : RunTable) → TableStands t → JobsStand t → (node : ℕ) → IsOwn t node → (file : ℕ) → child t node File ≡ Some file → IsNoJobs t file
file_no_jobs t h j node o file is = by_row (node_by_id t file) refl (subst (λ n. IsSome (node_by_id t n)) e.to (h.edges e.edge e.there).child)
  where
    e : RoleEdge t.edges (Node node) File file
    e = role_edge (Node node) File t.edges file is

    by_row : (found : Option NodeRecord) → node_by_id t file ≡ found → IsSome found → IsNoJobs t file
    by_row None k some = absurd (let bad = some in cc)
    by_row (Some under) k some =
        let above = find-Some (λ (r : NodeRecord). r.id == node) t.nodes o.row o.found in
        let below = find-Some (λ (r : NodeRecord). r.id == file) t.nodes under k in
        let id : under.id ≡ file = eqb-true under.id file below.1 in
        by_name id (record {
          over_there = above.0;
          under_there = below.0;
          edge = e.edge;
          there = e.there;
          parent = e.from ∙ ap Node (sym (eqb-true o.row.id node above.1));
          role = e.role_is;
          child = e.to ∙ sym id;
        }) under.filename refl
      where
        by_name : under.id ≡ file → LeadsToFile t o.row under → (name : Option (List ℕ)) → under.filename ≡ name → IsNoJobs t file
        by_name id leads None none = absurd (let filter = h.filtered o.row under leads none in let bad = subst IsSome o.own filter in cc)
        by_name id leads (Some name) named = subst (IsNoJobs t) id (under_no_job t h j o.row under leads (subst IsSome (sym named) refl) o.own)

filter_has_role : (k : Kind) → is_job_filter k ≡ true → IsSome (filter_role k)
filter_has_role driver.BeforeWrite is = refl
filter_has_role driver.Mirror is = refl
filter_has_role driver.Commit is = refl
filter_has_role driver.Protocol is = absurd (false≢true is)
filter_has_role driver.Raw is = absurd (false≢true is)
filter_has_role driver.Qcow2 is = absurd (false≢true is)
filter_has_role driver.CopyOnRead is = absurd (false≢true is)

-- ---- the jobs that stay

module _ (works : List JobWork) (t : RunTable) (h : TableStands t) (j : JobsStand t) (row : JobRecord) (here : Contains t.jobs row) where
  abbrev rows : List JobRecord
  rows = without_job row.number t.jobs

  stands : JobStands t row
  stands = j.each row here

  other_row : (b : JobRecord) → Contains rows b → Contains t.jobs b × (b.slot ≢ row.slot)
  other_row b there =
      let at = Contains-filter (λ (r : JobRecord). not (r.number == row.number)) t.jobs b there in
      let differ : b.number ≢ row.number = eqb-false b.number row.number (passes (b.number == row.number) at.1) in
      (at.0, λ same. differ (ap (λ (r : JobRecord). r.number) (j.slots b row at.0 here same)))
    where
      passes : (b : Bool) → not b ≡ true → b ≡ false
      passes true is = absurd (false≢true is)
      passes false is = refl

  held_nobodys : (node : ℕ) → Contains row.held node → IsNobodys rows node
  held_nobodys node held = record {
    held = λ b there has. let at = other_row b there in at.1 (sym (j.apart row b node here at.0 held has));
    filter = λ b there. plain_no_filter t j node (stands.plain node (in_left row.held row.read node held)) b (other_row b there).0;
  }

  filter_nobodys : (node : ℕ) → row.filter ≡ Some node → IsNobodys rows node
  filter_nobodys node is = record {
    held = λ b there has.
        let at = other_row b there in
        plain_no_filter t j node ((j.each b at.0).plain node has) row here is;
    filter = λ b there its.
        let at = other_row b there in
        let f = filter_of t row row.kind stands.shape node is in
        let g = filter_of t b b.kind (j.each b at.0).shape node its in
        let both : Some row.source ≡ Some b.source = sym f.2.over ∙ ap (λ n. child t n Filtered) (f.3 ∙ sym g.3) ∙ g.2.over in
        let same : row.source ≡ b.source = cc both in
        at.1 (sym (j.apart row b row.source here at.0 (holds_source t row stands)
        (subst (Contains (nodes_of_job b)) (sym same) (in_left b.held b.read b.source (holds_source t b (j.each b at.0))))));
  }

  nobodys_none : (now : RunTable) → now.jobs ≡ rows → (node : ℕ) → IsNobodys rows node → IsNoJobs now node
  nobodys_none now jobs node n = record {
    held = λ b at has. n.held b (subst (λ rs. Contains rs b) jobs at) has;
    filter = λ b at. n.filter b (subst (λ rs. Contains rs b) jobs at);
  }

  fewer_none : (now : RunTable) → now.jobs ≡ rows → (node : ℕ) → IsNoJobs t node → IsNoJobs now node
  fewer_none now jobs node n =
      nobodys_none now jobs node
      (record { held = λ b at has. n.held b (other_row b at).0 has; filter = λ b at. n.filter b (other_row b at).0 })

  -- ---- changes that leave rows of jobs

  abbrev IsSpared : Change → Type 0
  IsSpared (change.PullFilter filter) = IsNobodys rows filter
  IsSpared (change.Settle node disk) = IsNobodys rows node
  IsSpared (change.Move from to but) = Unit {0}
  IsSpared (change.Unsettle node) = Unit {0}
  IsSpared (change.MakeReadOnly node) = Unit {0}
  IsSpared c = ⊥

  abbrev AreSpared : List Change → Type 0
  AreSpared [] = Unit {0}
  AreSpared (c ∷ changes) = IsSpared c × AreSpared changes

  all_spared : (changes : List Change) (now : RunTable) → now.jobs ≡ rows → AreSpared changes → AllLeaveCopies works now changes
  unfolding changed
  all_spared [] now jobs s = tt
  all_spared (change.PullFilter filter ∷ changes) now jobs s =
      (nobodys_none now jobs filter s.0, all_spared changes (changed now (change.PullFilter filter)) jobs s.1)
  all_spared (change.Settle node disk ∷ changes) now jobs s =
      (nobodys_none now jobs node s.0, all_spared changes (changed now (change.Settle node disk)) jobs s.1)
  all_spared (change.Move from to but ∷ changes) now jobs s = (tt, all_spared changes (changed now (change.Move from to but)) jobs s.1)
  all_spared (change.Unsettle node ∷ changes) now jobs s = (tt, all_spared changes (changed now (change.Unsettle node)) jobs s.1)
  all_spared (change.MakeReadOnly node ∷ changes) now jobs s = (tt, all_spared changes (changed now (change.MakeReadOnly node)) jobs s.1)
  all_spared (c ∷ changes) now jobs s = absurd s.0

  spared-append : (a b : List Change) → AreSpared a → AreSpared b → AreSpared (a ++ b)
  spared-append [] b s r = r
  spared-append (c ∷ a) b s r = (s.0, spared-append a b s.1 r)

  -- ---- which of them

  spared_if : (b : Bool) (node : Option ℕ) → AreSpared (read_only_if b node)
  spared_if true (Some node) = (tt, tt)
  spared_if true None = tt
  spared_if false _ = tt

  spared_back : AreSpared (read_only_if row.made_writable.base row.target ++ read_only_if row.made_writable.file (option_and_then (λ b. child t b File) row.target))
  spared_back =
      spared-append (read_only_if row.made_writable.base row.target) (read_only_if row.made_writable.file (option_and_then (λ b. child t b File) row.target))
      (spared_if row.made_writable.base row.target) (spared_if row.made_writable.file (option_and_then (λ b. child t b File) row.target))

  spared_given : (o : JobOutcome) → AreSpared (given_back_to t row o)
  spared_given Pivoted = tt
  spared_given Completed = spared_back
  spared_given Copied = spared_back
  spared_given Stopped = spared_back

  spared_top : (k : JobKind) (o : JobOutcome) → AreSpared (top_lost row k o)
  spared_top Commit Pivoted = (tt, tt)
  spared_top Commit Completed = tt
  spared_top Commit Copied = tt
  spared_top Commit Stopped = tt
  spared_top Stream o = tt
  spared_top Mirror o = tt
  spared_top Backup o = tt

  spared_settle : (so : Bool) (target : Option ℕ) (disk : NewDisk) → ((node : ℕ) → target ≡ Some node → Contains row.held node)
      → AreSpared (settle_if so target disk)
  spared_settle true (Some target) disk held = (held_nobodys target (held target refl), tt)
  spared_settle true None disk held = tt
  spared_settle false target disk held = tt

  target_held : (held_target : ℕ) → row.target ≡ Some held_target → Contains row.held held_target → (node : ℕ) → row.target ≡ Some node → Contains row.held node
  target_held held_target is held node at =
      let both : Some held_target ≡ Some node = sym is ∙ at in
      let same : held_target ≡ node = cc both in
      subst (Contains row.held) same held

  spared_settled : (k : JobKind) → StandsByKind t row k → AreSpared (settled_by row k)
  spared_settled Stream c = tt
  spared_settled Commit c =
      spared_settle true row.target (OfNode row.source)
      (target_held c.base c.is_base
      (subst (λ ids. Contains ids c.base) (sym c.held)
      (Contains-there row.source (c.between ++ c.base ∷ []) c.base (in_right c.between (c.base ∷ []) c.base (Contains-here c.base [])))))
  spared_settled Mirror c = spared_settle true row.target (OfNode row.source) (target_held c.target c.is_target (copy_holds t row _ c))
  spared_settled Backup c =
      spared_settle (settles_target row.bitmap) row.target (OfStart row.number) (target_held c.target c.is_target (copy_holds t row _ c))

  -- ---- behind the job and its filter

  record IsBehind (now : RunTable) : Type 0 where
    jobs : now.jobs ≡ rows
    files : (n : ℕ) → IsOwn t n → child now n File ≡ child t n File

  own_node : (node : ℕ) → Contains (nodes_of_job row) node → IsOwn t node
  own_node node at = let p = stands.plain node at in record { row = p.row; found = p.there; own = p.own }

  of_job_filters : (node : ℕ) → row.filter ≡ Some node → IsNoFile t node
  of_job_filters node is =
      let f = filter_of t row row.kind stands.shape node is in
      filter_no_file t h node f.2.node (subst (λ n. node_by_id t n ≡ Some f.2.node) f.3 f.2.there)
      (filter_has_role f.2.node.kind (ap is_job_filter f.2.kind_is ∙ f.1))

  module _ (drops : Bool) where
    abbrev over : Change
    over = change.EndJob row.number row.slot drops

    abbrev first : RunTable
    first = changed t over

    over_behind : IsBehind first
    unfolding changed
    over_behind = record { jobs = refl; files = λ n o. child_ended t row.number row.slot drops n }

    first_own : (n : ℕ) → IsOwn t n → IsOwn first n
    unfolding changed
    first_own n o = record { row = o.row; found = o.found; own = o.own }

    behind : (filter : Option ℕ) → row.filter ≡ filter → IsBehind (all_changed first (filter_gone filter))
    unfolding changed
    behind None is = over_behind
    behind (Some node) is = record {
      jobs = refl;
      files = λ n o.
          child_pulled first node n (no_file_ended t row.number row.slot drops node (of_job_filters node is) n (first_own n o)) ∙ over_behind.files n o;
    }

    leaves_gone : (filter : Option ℕ) → row.filter ≡ filter → AllLeaveCopies works first (filter_gone filter)
    leaves_gone None is = tt
    leaves_gone (Some node) is = (nobodys_none first over_behind.jobs node (filter_nobodys node is), tt)

  -- ---- moves

  module _ (now : RunTable) (b : IsBehind now) where
    leaves_rebase : (node : ℕ) (base : Option ℕ) → Contains (nodes_of_job row) node → AllLeaveCopies works now (change.Rebase node base ∷ [])
    leaves_rebase node base at = (
      λ file is. fewer_none now b.jobs file (file_no_jobs t h j node (own_node node at) file (sym (b.files node (own_node node at)) ∙ is)),
      tt,
    )

    first_read : (ids : List ℕ) (id : ℕ) → slice_get ids 0 ≡ Some id → Contains ids id
    first_read [] id is = absurd cc
    first_read (x ∷ ids) id is =
        let same : x ≡ id = (let both : Some x ≡ Some id = is in cc both) in
        subst (Contains (x ∷ ids)) same (Contains-here x ids)

    leaves_overlay : (overlay : Option ℕ) → slice_get row.read 0 ≡ overlay → AllLeaveCopies works now (overlay_to overlay row.target)
    leaves_overlay None is = tt
    leaves_overlay (Some overlay) is = leaves_rebase overlay row.target (in_right row.held row.read overlay (first_read row.read overlay is))

    leaves_parents : (filter target : Option ℕ) → AllLeaveCopies works now (parents_to row.source filter target)
    leaves_parents (Some filter) (Some target) = (tt, tt)
    leaves_parents (Some filter) None = tt
    leaves_parents None target = tt

    leaves_moves : (k : JobKind) (o : JobOutcome) → AllLeaveCopies works now (moves row k o)
    leaves_moves Stream Completed = leaves_rebase row.source row.target (in_left row.held row.read row.source (holds_source t row stands))
    leaves_moves Stream Pivoted = tt
    leaves_moves Stream Copied = tt
    leaves_moves Stream Stopped = tt
    leaves_moves Commit Completed = leaves_overlay (slice_get row.read 0) refl
    leaves_moves Commit Pivoted = leaves_parents row.filter row.target
    leaves_moves Commit Copied = tt
    leaves_moves Commit Stopped = tt
    leaves_moves Mirror Completed = tt
    leaves_moves Mirror Pivoted = leaves_parents row.filter row.target
    leaves_moves Mirror Copied = tt
    leaves_moves Mirror Stopped = tt
    leaves_moves Backup o = tt

    jobs_parents : (filter target : Option ℕ) → (all_changed now (parents_to row.source filter target)).jobs ≡ now.jobs
    unfolding changed
    jobs_parents (Some filter) (Some target) = refl
    jobs_parents (Some filter) None = refl
    jobs_parents None target = refl

    jobs_overlay : (overlay base : Option ℕ) → (all_changed now (overlay_to overlay base)).jobs ≡ now.jobs
    unfolding changed
    jobs_overlay None base = refl
    jobs_overlay (Some overlay) base = refl

    jobs_moves : (k : JobKind) (o : JobOutcome) → (all_changed now (moves row k o)).jobs ≡ now.jobs
    unfolding changed
    jobs_moves Stream Completed = refl
    jobs_moves Stream Pivoted = refl
    jobs_moves Stream Copied = refl
    jobs_moves Stream Stopped = refl
    jobs_moves Commit Completed = jobs_overlay (slice_get row.read 0) row.target
    jobs_moves Commit Pivoted = jobs_parents row.filter row.target
    jobs_moves Commit Copied = refl
    jobs_moves Commit Stopped = refl
    jobs_moves Mirror Completed = refl
    jobs_moves Mirror Pivoted = jobs_parents row.filter row.target
    jobs_moves Mirror Copied = refl
    jobs_moves Mirror Stopped = refl
    jobs_moves Backup o = refl

    leaves_by : (o : JobOutcome) → AllLeaveCopies works now ((moves row row.kind o ++ settled_by row row.kind ++ top_lost row row.kind o) ++ given_back_to t row o)
    leaves_by o =
        let m : List Change = moves row row.kind o in
        let d : List Change = settled_by row row.kind in
        let l : List Change = top_lost row row.kind o in
        let g : List Change = given_back_to t row o in
        subst (AllLeaveCopies works now) (sym (append_assoc (m ++ d) l g ∙ append_assoc m d (l ++ g)))
        (leaves-append works m (d ++ (l ++ g)) now (leaves_moves row.kind o)
        (all_spared (d ++ (l ++ g)) (all_changed now m) (jobs_moves row.kind o ∙ b.jobs)
        (spared-append d (l ++ g) (spared_settled row.kind stands.shape) (spared-append l g (spared_top row.kind o) (spared_given o)))))

    leaves_done : (o : JobOutcome) → AllLeaveCopies works now (done_edits row o ++ given_back_to t row o)
    leaves_done Stopped = all_spared (given_back_to t row Stopped) now b.jobs (spared_given Stopped)
    leaves_done Completed = leaves_by Completed
    leaves_done Pivoted = leaves_by Pivoted
    leaves_done Copied = leaves_by Copied

  -- ---- all of it

  pub end_leaves : (o : JobOutcome) → AllLeaveCopies works t (end_edits t row o)
  unfolding end_edits
  end_leaves o =
      let drops = drops_aside o row.bitmap in (
        tt,
        subst (AllLeaveCopies works (first drops)) (sym (append_assoc (filter_gone row.filter) (done_edits row o) (given_back_to t row o)))
            (leaves-append works (filter_gone row.filter) (done_edits row o ++ given_back_to t row o) (first drops) (leaves_gone drops row.filter refl)
            (leaves_done (all_changed (first drops) (filter_gone row.filter)) (behind drops row.filter refl) o)),
      )
