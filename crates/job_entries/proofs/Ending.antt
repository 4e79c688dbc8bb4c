-- The changes of a job's end: they can be made, images stay in their files, and nothing is written but headers.
use Rattle.std.proofs.Common.{◌≡◌, ◌≢◌, ℕ, Bool, true, false, List, [], ◌∷◌, ◌++◌, refl, sym, ◌∙◌, ap, subst, append_assoc, Option, Some, None}
use Rattle.std.specs.Prelude.{◌==◌, slice_get, IsSome, All, option_and_then}
use Rattle.std.specs.List.{find, Contains}
use Rattle.blk_graph.specs.declared.edge.Role.TheVariants.{File}
use Rattle.blk_graph.specs.declared.kind.Kind.{Kind}
use Rattle.blk_graph.specs.declared.kind.Kind.TheVariants as driver
use Rattle.blk_graph.proofs.Members.{Contains-here}
use Rattle.qmp_codec.specs.declared.event.JobKind.{JobKind}
use Rattle.qmp_codec.specs.declared.event.JobKind.TheVariants.{Stream, Commit, Mirror, Backup}
use Rattle.qmp_rules.specs.declared.change.Change.{Change}
use Rattle.qmp_rules.specs.declared.change.Change.TheVariants as change
use Rattle.qmp_rules.specs.declared.change.NewDisk.{NewDisk}
use Rattle.qmp_rules.specs.declared.change.NewDisk.TheVariants.{OfNode, OfStart}
use Rattle.qmp_rules.specs.declared.change.JobOutcome.{JobOutcome}
use Rattle.qmp_rules.specs.declared.change.JobOutcome.TheVariants.{Completed, Pivoted, Copied, Stopped}
use Rattle.qmp_rules.specs.declared.rows.NodeRecord.{NodeRecord}
use Rattle.qmp_rules.specs.declared.rows.JobRecord.{JobRecord}
use Rattle.qmp_rules.specs.Changes.{changed}
use Rattle.qmp_rules.specs.Chains.{filter_role}
use Rattle.qmp_rules.specs.Ends.{is_done, drops_aside, filter_gone, parents_to, overlay_to, moves, settles_target, settle_if, settled_by, top_lost, read_only_if, given_back_to, done_edits, end_edits}
use Rattle.qmp_rules.specs.Table.{RunTable, node_by_id, child, has_name}
use Rattle.blk_history.specs.Fold.{With}
use Rattle.blk_history.specs.declared.entry.JobEnd.{JobEnd}
use Rattle.flat_machine.specs.State.{State, Unknown, content_in}
use Rattle.flat_machine.specs.Begun.{begun_of, copy_bytes}
use Rattle.flat_machine.specs.Changed.{written_file, stepped, all_stepped}
use Rattle.flat_machine.specs.Jobs.{outcome_of, changes_at_end}
use Rattle.flat_machine.specs.Agreement.{Contents, HasDisk}
use Rattle.flat_machine.specs.Performing.{CanRewrite, AllCan, AllPerformed}
use Rattle.flat_machine.specs.Wiring.{TableStands}
use Rattle.flat_machine.proofs.CopyStarts.{can-append}
use Rattle.job_edges.specs.Held.{is_job_filter}
use Rattle.job_tables.specs.Ends.{rebased_by}
use Rattle.job_tables.specs.Rows.{nodes_of_job}
use Rattle.job_tables.specs.Jobs.{JobStands, JobsStand}
use Rattle.job_tables.proofs.Changes.{filter_of}
use Rattle.job_tables.proofs.RowEdges.{in_left, in_right, holds_source}
use Rattle.job_entries.specs.Ends.{renamed, copies_source, RestsToEnd, ReadsAsMade, ShowsEnd}
use Rattle.job_entries.proofs.Files.{IsOwn, IsNoFile, free_no_file, filter_no_file, AreSteady, steady_then, steady_file, steady_ended, found_pulled, steady_pulled, no_file_ended, no_file_pulled}
use Rattle.job_entries.proofs.Steps.{AllSteps, steps-append, steps-three}
use Rattle.job_entries.proofs.InTurn.{can-three, quiet_self, AllStill, still-append, still-three, still_quiet}

-- ---- what rests on nothing

can_if : (b : Bool) (node : Option ℕ) (s : State) → AllCan s (read_only_if b node)
can_if true (Some node) s = (tt, tt)
can_if true None s = tt
can_if false node s = tt

step_if : (b : Bool) (node : Option ℕ) (s : State) → AllSteps s (read_only_if b node)
step_if true (Some node) s = (tt, tt)
step_if true None s = tt
step_if false node s = tt

still_if : (b : Bool) (node : Option ℕ) (s : State) (c : Contents) → AllStill s (read_only_if b node) c
still_if true (Some node) s c = (quiet_self c, tt)
still_if true None s c = tt
still_if false node s c = tt

module _ (t : RunTable) (row : JobRecord) where
  abbrev base : List Change
  base = read_only_if row.made_writable.base row.target

  abbrev file : List Change
  file = read_only_if row.made_writable.file (option_and_then (λ b. child t b File) row.target)

  can_back : (s : State) → AllCan s (base ++ file)
  can_back s = can-append base file s (can_if _ _ s) (can_if _ _ (all_stepped s base))

  step_back : (s : State) → AllSteps s (base ++ file)
  step_back s = steps-append base file s (step_if _ _ s) (step_if _ _ (all_stepped s base))

  still_back : (s : State) (c : Contents) → AllStill s (base ++ file) c
  still_back s c = still-append base file s c (still_if _ _ s c) (still_if _ _ (all_stepped s base) c)

  can_given : (o : JobOutcome) (s : State) → AllCan s (given_back_to t row o)
  can_given Pivoted s = tt
  can_given Completed s = can_back s
  can_given Copied s = can_back s
  can_given Stopped s = can_back s

  step_given : (o : JobOutcome) (s : State) → AllSteps s (given_back_to t row o)
  step_given Pivoted s = tt
  step_given Completed s = step_back s
  step_given Copied s = step_back s
  step_given Stopped s = step_back s

  still_given : (o : JobOutcome) (s : State) (c : Contents) → AllStill s (given_back_to t row o) c
  still_given Pivoted s c = tt
  still_given Completed s c = still_back s c
  still_given Copied s c = still_back s c
  still_given Stopped s c = still_back s c

module _ (row : JobRecord) where
  can_top : (k : JobKind) (o : JobOutcome) (s : State) → AllCan s (top_lost row k o)
  can_top Commit Pivoted s = (tt, tt)
  can_top Commit Completed s = tt
  can_top Commit Copied s = tt
  can_top Commit Stopped s = tt
  can_top Stream o s = tt
  can_top Mirror o s = tt
  can_top Backup o s = tt

  step_top : (k : JobKind) (o : JobOutcome) (s : State) → AllSteps s (top_lost row k o)
  step_top Commit Pivoted s = (tt, tt)
  step_top Commit Completed s = tt
  step_top Commit Copied s = tt
  step_top Commit Stopped s = tt
  step_top Stream o s = tt
  step_top Mirror o s = tt
  step_top Backup o s = tt

  still_top : (k : JobKind) (o : JobOutcome) (s : State) (c : Contents) → AllStill s (top_lost row k o) c
  still_top Commit Pivoted s c = (quiet_self c, tt)
  still_top Commit Completed s c = tt
  still_top Commit Copied s c = tt
  still_top Commit Stopped s c = tt
  still_top Stream o s c = tt
  still_top Mirror o s c = tt
  still_top Backup o s c = tt

  step_settle : (b : Bool) (target : Option ℕ) (disk : NewDisk) (s : State) → AllSteps s (settle_if b target disk)
  step_settle true (Some target) disk s = (tt, tt)
  step_settle true None disk s = tt
  step_settle false target disk s = tt

  step_settled : (k : JobKind) (s : State) → AllSteps s (settled_by row k)
  step_settled Stream s = tt
  step_settled Commit s = step_settle true row.target (OfNode row.source) s
  step_settled Mirror s = step_settle true row.target (OfNode row.source) s
  step_settled Backup s = step_settle (settles_target row.bitmap) row.target (OfStart row.number) s

  -- parents and headers change, and rows of nodes stay
  parents_nodes : (source : ℕ) (filter target : Option ℕ) (s : State) → (all_stepped s (parents_to source filter target)).table.nodes ≡ s.table.nodes
  unfolding changed
  parents_nodes source (Some filter) (Some target) s = refl
  parents_nodes source (Some filter) None s = refl
  parents_nodes source None target s = refl

  overlay_nodes : (overlay base : Option ℕ) (s : State) → (all_stepped s (overlay_to overlay base)).table.nodes ≡ s.table.nodes
  unfolding changed
  overlay_nodes None base s = refl
  overlay_nodes (Some overlay) base s = refl

  moves_nodes : (k : JobKind) (o : JobOutcome) (s : State) → (all_stepped s (moves row k o)).table.nodes ≡ s.table.nodes
  unfolding changed
  moves_nodes Stream Completed s = refl
  moves_nodes Stream Pivoted s = refl
  moves_nodes Stream Copied s = refl
  moves_nodes Stream Stopped s = refl
  moves_nodes Commit Completed s = overlay_nodes (slice_get row.read 0) row.target s
  moves_nodes Commit Pivoted s = parents_nodes row.source row.filter row.target s
  moves_nodes Commit Copied s = refl
  moves_nodes Commit Stopped s = refl
  moves_nodes Mirror Completed s = refl
  moves_nodes Mirror Pivoted s = parents_nodes row.source row.filter row.target s
  moves_nodes Mirror Copied s = refl
  moves_nodes Mirror Stopped s = refl
  moves_nodes Backup o s = refl

-- ---- behind the job and its filter

module _ (s : State) (h : TableStands s.table) (j : JobsStand s.table) (row : JobRecord) (here : Contains s.table.jobs row) where
  stands : JobStands s.table row
  stands = j.each row here

  plain_own : (node : ℕ) → Contains (nodes_of_job row) node → IsOwn s.table node
  plain_own node at = let p = stands.plain node at in record { row = p.row; found = p.there; own = p.own }

  source_at : Contains (nodes_of_job row) row.source
  source_at = in_left row.held row.read row.source (holds_source s.table row stands)

  source_no_file : IsNoFile s.table row.source
  source_no_file = free_no_file s.table h row.source (stands.plain row.source source_at).free

  -- the filter is one
  record IsFilterRow (node : ℕ) : Type 0 where
    at : NodeRecord
    found : node_by_id s.table node ≡ Some at
    filter : IsSome (filter_role at.kind)

  of_job_filters : (kind : Kind) → is_job_filter kind ≡ true → IsSome (filter_role kind)
  of_job_filters driver.Protocol is = absurd cc
  of_job_filters driver.Raw is = absurd cc
  of_job_filters driver.Qcow2 is = absurd cc
  of_job_filters driver.CopyOnRead is = absurd cc
  of_job_filters driver.BeforeWrite is = refl
  of_job_filters driver.Mirror is = refl
  of_job_filters driver.Commit is = refl

  filter_row : (node : ℕ) → row.filter ≡ Some node → IsFilterRow node
  filter_row node is =
      let f = filter_of s.table row row.kind stands.shape node is in
      record {
        at = f.2.node;
        found = subst (λ n. node_by_id s.table n ≡ Some f.2.node) f.3 f.2.there;
        filter = subst (λ k. IsSome (filter_role k)) (sym f.2.kind_is) (of_job_filters f.0 f.1);
      }

  filter_none : (node : ℕ) → row.filter ≡ Some node → IsNoFile s.table node
  filter_none node is = let f = filter_row node is in filter_no_file s.table h node f.at f.found f.filter

  record IsBehind (now : State) : Type 0 where
    files : now.files ≡ s.files
    left : now.left ≡ s.left
    named : now.named ≡ s.named
    begun : now.begun ≡ s.begun
    steady : AreSteady s.table now.table
    back : (n : ℕ) (r : NodeRecord) → node_by_id now.table n ≡ Some r → node_by_id s.table n ≡ Some r
    none : (n : ℕ) → IsNoFile s.table n → IsNoFile now.table n

  module _ (drops : Bool) where
    abbrev over : Change
    over = change.EndJob row.number row.slot drops

    abbrev first : State
    first = stepped s over

    filter_over : (node : ℕ) → row.filter ≡ Some node → (at : NodeRecord) → node_by_id s.table node ≡ Some at → node_by_id first.table node ≡ Some at
    unfolding changed
    filter_over node is at found = found

    over_behind : IsBehind first
    unfolding changed
    over_behind = record {
      files = refl;
      left = refl;
      named = refl;
      begun = refl;
      steady = steady_ended s.table row.number row.slot drops;
      back = λ n r found. found;
      none = λ n none. no_file_ended s.table row.number row.slot drops n none;
    }

    behind : (filter : Option ℕ) → row.filter ≡ filter → IsBehind (all_stepped first (filter_gone filter))
    behind None is = over_behind
    behind (Some node) is =
        let f = filter_row node is in
        let none = over_behind.none node (filter_none node is) in
        record {
          files = refl;
          left = refl;
          named = refl;
          begun = refl;
          steady = steady_then s.table first.table (changed first.table (change.PullFilter node)) over_behind.steady
              (steady_pulled first.table node f.at (filter_over node is f.at f.found) f.filter none);
          back = λ n r found. over_behind.back n r (found_pulled first.table node n r found).1;
          none = λ n free. no_file_pulled first.table node n none (over_behind.none n free);
        }

    step_gone : (filter : Option ℕ) → row.filter ≡ filter → AllSteps first (filter_gone filter)
    step_gone None is = tt
    step_gone (Some node) is =
        let f = filter_row node is in
        (record { row = f.at; found = filter_over node is f.at f.found; is_filter = f.filter; none = over_behind.none node (filter_none node is) }, tt)

    can_gone : (filter : Option ℕ) → AllCan first (filter_gone filter)
    can_gone None = tt
    can_gone (Some node) = (tt, tt)

  -- ---- moves

  module _ (now : State) (b : IsBehind now) where
    rewrite_behind : (node : ℕ) → IsOwn s.table node → CanRewrite s node → CanRewrite now node
    rewrite_behind node o can = record {
      under = λ file r is found disk. can.under file r (sym (b.steady.files node o) ∙ is) (b.back file r found) disk;
      known = λ name is. subst (λ fs. content_in fs name ≡ Some Unknown) (sym b.files) (can.known name (was name is));
      left = λ name is. subst (All (λ l. l.file ≢ name)) (sym b.left) (can.left name (was name is));
      named = λ name is. subst (λ names. has_name name names ≡ true) (sym b.named) (can.named name (was name is));
    }
      where
        was : (name : List ℕ) → written_file now.table node ≡ Some name → written_file s.table node ≡ Some name
        was name is = steady_file s.table now.table b.steady node o name is

    can_parents : (source : ℕ) (filter target : Option ℕ) → AllCan now (parents_to source filter target)
    can_parents source (Some filter) (Some target) = (tt, tt)
    can_parents source (Some filter) None = tt
    can_parents source None target = tt

    step_parents : (filter target : Option ℕ) → AllSteps now (parents_to row.source filter target)
    step_parents (Some filter) (Some target) = (b.none row.source source_no_file, tt)
    step_parents (Some filter) None = tt
    step_parents None target = tt

    step_overlay : (overlay base : Option ℕ) → AllSteps now (overlay_to overlay base)
    step_overlay None base = tt
    step_overlay (Some overlay) base = (tt, tt)

    step_moves : (k : JobKind) (o : JobOutcome) → AllSteps now (moves row k o)
    step_moves Stream Completed = (tt, tt)
    step_moves Stream Pivoted = tt
    step_moves Stream Copied = tt
    step_moves Stream Stopped = tt
    step_moves Commit Completed = step_overlay (slice_get row.read 0) row.target
    step_moves Commit Pivoted = step_parents row.filter row.target
    step_moves Commit Copied = tt
    step_moves Commit Stopped = tt
    step_moves Mirror Completed = tt
    step_moves Mirror Pivoted = step_parents row.filter row.target
    step_moves Mirror Copied = tt
    step_moves Mirror Stopped = tt
    step_moves Backup o = tt

    step_by : (k : JobKind) (o : JobOutcome) → AllSteps now (moves row k o ++ settled_by row k ++ top_lost row k o)
    step_by k o =
        steps-three (moves row k o) (settled_by row k) (top_lost row k o) now (step_moves k o) (step_settled row k (all_stepped now (moves row k o)))
        (step_top row k o (all_stepped (all_stepped now (moves row k o)) (settled_by row k)))

    step_done : (o : JobOutcome) → AllSteps now (done_edits row o)
    step_done Stopped = tt
    step_done Completed = step_by row.kind Completed
    step_done Pivoted = step_by row.kind Pivoted
    step_done Copied = step_by row.kind Copied

    module _ (r : RestsToEnd s row) where
      first_read : (ids : List ℕ) (overlay : ℕ) → slice_get ids 0 ≡ Some overlay → Contains ids overlay
      first_read [] overlay is = absurd cc
      first_read (id ∷ ids) overlay is =
          let same : id ≡ overlay = (let both : Some id ≡ Some overlay = is in cc both) in
          subst (Contains (id ∷ ids)) same (Contains-here id ids)

      can_overlay : row.kind ≡ Commit → (overlay base : Option ℕ) → slice_get row.read 0 ≡ overlay → AllCan now (overlay_to overlay base)
      can_overlay kind None base is = tt
      can_overlay kind (Some overlay) base is = (
        rewrite_behind overlay (plain_own overlay (in_right row.held row.read overlay (first_read row.read overlay is)))
            (r.header overlay (ap (rebased_by row) kind ∙ is)),
        tt,
      )

      can_moves : (k : JobKind) → row.kind ≡ k → (o : JobOutcome) → AllCan now (moves row k o)
      can_moves Stream kind Completed =
          (rewrite_behind row.source (plain_own row.source source_at) (r.header row.source (ap (rebased_by row) kind)), tt)
      can_moves Stream kind Pivoted = tt
      can_moves Stream kind Copied = tt
      can_moves Stream kind Stopped = tt
      can_moves Commit kind Completed = can_overlay kind (slice_get row.read 0) row.target refl
      can_moves Commit kind Pivoted = can_parents row.source row.filter row.target
      can_moves Commit kind Copied = tt
      can_moves Commit kind Stopped = tt
      can_moves Mirror kind Completed = tt
      can_moves Mirror kind Pivoted = can_parents row.source row.filter row.target
      can_moves Mirror kind Copied = tt
      can_moves Mirror kind Stopped = tt
      can_moves Backup kind o = tt

      -- the source's row is the same behind the moves
      settled_source : copies_source row.kind ≡ true → (k : JobKind) (o : JobOutcome) → With (node_by_id (all_stepped now (moves row k o)).table row.source) HasDisk
      settled_source copies k o =
          let own = plain_own row.source source_at in
          let same : node_by_id (all_stepped now (moves row k o)).table row.source ≡ node_by_id s.table row.source
          = ap (find (λ (x : NodeRecord). x.id == row.source)) (moves_nodes row k o now) ∙ b.steady.rows row.source own ∙ sym own.found in
          subst (λ found. With found HasDisk) (sym same) (r.source copies)

      can_settle : (target : Option ℕ) (x : State) → With (node_by_id x.table row.source) HasDisk → AllCan x (settle_if true target (OfNode row.source))
      can_settle (Some target) x has = (has, tt)
      can_settle None x has = tt

      can_start : (so : Bool) (target : Option ℕ) (x : State) → AllCan x (settle_if so target (OfStart row.number))
      can_start true (Some target) x = (tt, tt)
      can_start true None x = tt
      can_start false target x = tt

      can_settled : (k : JobKind) → row.kind ≡ k → (o : JobOutcome) → AllCan (all_stepped now (moves row k o)) (settled_by row k)
      can_settled Stream kind o = tt
      can_settled Commit kind o = can_settle row.target (all_stepped now (moves row Commit o)) (settled_source (ap copies_source kind) Commit o)
      can_settled Mirror kind o = can_settle row.target (all_stepped now (moves row Mirror o)) (settled_source (ap copies_source kind) Mirror o)
      can_settled Backup kind o = can_start (settles_target row.bitmap) row.target (all_stepped now (moves row Backup o))

      can_by : (o : JobOutcome) → AllCan now (moves row row.kind o ++ settled_by row row.kind ++ top_lost row row.kind o)
      can_by o =
          can-three (moves row row.kind o) (settled_by row row.kind) (top_lost row row.kind o) now (can_moves row.kind refl o) (can_settled row.kind refl o)
          (can_top row row.kind o (all_stepped (all_stepped now (moves row row.kind o)) (settled_by row row.kind)))

      can_done : (o : JobOutcome) → AllCan now (done_edits row o)
      can_done Stopped = tt
      can_done Completed = can_by Completed
      can_done Pivoted = can_by Pivoted
      can_done Copied = can_by Copied

  -- ---- all of it

  module _ (why : JobEnd) where
    abbrev o : JobOutcome
    o = outcome_of why

    abbrev drops : Bool
    drops = drops_aside (outcome_of why) row.bitmap

    abbrev pulled : State
    pulled = all_stepped (first (drops_aside (outcome_of why) row.bitmap)) (filter_gone row.filter)

    pub end_can : RestsToEnd s row → AllCan s (changes_at_end s row why)
    unfolding end_edits
    end_can r = (
      tt,
      can-three (filter_gone row.filter) (done_edits row o) (given_back_to s.table row o) (first drops) (can_gone drops row.filter)
          (can_done pulled (behind drops row.filter refl) r o) (can_given s.table row o (all_stepped pulled (done_edits row o))),
    )

    pub end_steps : AllSteps s (changes_at_end s row why)
    unfolding end_edits
    end_steps = (
      tt,
      steps-three (filter_gone row.filter) (done_edits row o) (given_back_to s.table row o) (first drops) (step_gone drops row.filter refl)
          (step_done pulled (behind drops row.filter refl) o) (step_given s.table row o (all_stepped pulled (done_edits row o))),
    )

-- ---- an end that writes nothing

module _ (s : State) (row : JobRecord) where
  still_parents : (source : ℕ) (filter target : Option ℕ) (x : State) (c : Contents) → AllStill x (parents_to source filter target) c
  still_parents source (Some filter) (Some target) x c = (quiet_self c, tt)
  still_parents source (Some filter) None x c = tt
  still_parents source None target x c = tt

  still_moves : (k : JobKind) → row.kind ≡ k → (o : JobOutcome) → renamed row o ≡ None → (x : State) (c : Contents) → AllStill x (moves row k o) c
  still_moves Stream kind Completed none x c = absurd (let bad : Some row.source ≡ None = sym (ap (rebased_by row) kind) ∙ none in cc)
  still_moves Stream kind Pivoted none x c = tt
  still_moves Stream kind Copied none x c = tt
  still_moves Stream kind Stopped none x c = tt
  still_moves Commit kind Completed none x c =
      let bare : slice_get row.read 0 ≡ None = sym (ap (rebased_by row) kind) ∙ none in
      subst (λ overlay. AllStill x (overlay_to overlay row.target) c) (sym bare) tt
  still_moves Commit kind Pivoted none x c = still_parents row.source row.filter row.target x c
  still_moves Commit kind Copied none x c = tt
  still_moves Commit kind Stopped none x c = tt
  still_moves Mirror kind Completed none x c = tt
  still_moves Mirror kind Pivoted none x c = still_parents row.source row.filter row.target x c
  still_moves Mirror kind Copied none x c = tt
  still_moves Mirror kind Stopped none x c = tt
  still_moves Backup kind o none x c = tt

  still_source : (c : Contents) (target : Option ℕ) → ((node : ℕ) → target ≡ Some node → c.reads node ≡ c.reads row.source) → (x : State)
      → AllStill x (settle_if true target (OfNode row.source)) c
  still_source c None reads x = tt
  still_source c (Some target) reads x =
      (record { nodes = λ node other. refl; files = λ name other. refl; reads_as = reads target refl }, tt)

  still_start : (c : Contents) (so : Bool) (target : Option ℕ)
      → (so ≡ true → (node : ℕ) → target ≡ Some node → c.reads node ≡ copy_bytes (begun_of s.begun row.number))
      → (x : State) → x.begun ≡ s.begun → AllStill x (settle_if so target (OfStart row.number)) c
  still_start c false target reads x begun = tt
  still_start c true None reads x begun = tt
  still_start c true (Some target) reads x begun = (
    record {
      nodes = λ node other. refl;
      files = λ name other. refl;
      reads_as = reads refl target refl ∙ ap (λ bs. copy_bytes (begun_of bs row.number)) (sym begun);
    },
    tt,
  )

  still_settled : (c : Contents) (k : JobKind) → ((target : ℕ) → row.target ≡ Some target → ReadsAsMade s row c target k) → (o : JobOutcome)
      → (x : State) → x.begun ≡ s.begun → AllStill (all_stepped x (moves row k o)) (settled_by row k) c
  still_settled c Stream made o x begun = tt
  still_settled c Commit made o x begun = still_source c row.target made (all_stepped x (moves row Commit o))
  still_settled c Mirror made o x begun = still_source c row.target made (all_stepped x (moves row Mirror o))
  still_settled c Backup made o x begun =
      still_start c (settles_target row.bitmap) row.target (λ so node is. made node is so) x begun

  still_by : (c : Contents) (o : JobOutcome) → renamed row o ≡ None → ((target : ℕ) → row.target ≡ Some target → ReadsAsMade s row c target row.kind)
      → (x : State) → x.begun ≡ s.begun → AllStill x (moves row row.kind o ++ settled_by row row.kind ++ top_lost row row.kind o) c
  still_by c o none made x begun =
      still-three (moves row row.kind o) (settled_by row row.kind) (top_lost row row.kind o) x c (still_moves row.kind refl o none x c)
      (still_settled c row.kind made o x begun)
      (still_top row row.kind o (all_stepped (all_stepped x (moves row row.kind o)) (settled_by row row.kind)) c)

  still_done : (c : Contents) (o : JobOutcome) → renamed row o ≡ None
      → (is_done o ≡ true → (target : ℕ) → row.target ≡ Some target → ReadsAsMade s row c target row.kind)
      → (x : State) → x.begun ≡ s.begun → AllStill x (done_edits row o) c
  still_done c Stopped none made x begun = tt
  still_done c Completed none made x begun = still_by c Completed none (made refl) x begun
  still_done c Pivoted none made x begun = still_by c Pivoted none (made refl) x begun
  still_done c Copied none made x begun = still_by c Copied none (made refl) x begun

  module _ (why : JobEnd) (old new : Contents) (none : renamed row (outcome_of why) ≡ None) (leaves : ShowsEnd s row why old new) where
    abbrev rest : List Change
    rest = done_edits row (outcome_of why) ++ given_back_to s.table row (outcome_of why)

    still_rest : (x : State) → x.begun ≡ s.begun → AllStill x rest new
    still_rest x begun =
        still-append (done_edits row (outcome_of why)) (given_back_to s.table row (outcome_of why)) x new
        (still_done new (outcome_of why) none leaves.made x begun)
        (still_given s.table row (outcome_of why) (all_stepped x (done_edits row (outcome_of why))) new)

    abbrev without_job : State
    without_job = stepped s (change.EndJob row.number row.slot (drops_aside (outcome_of why) row.bitmap))

    gone : (filter : Option ℕ) → row.filter ≡ filter
        → AllPerformed s (change.EndJob row.number row.slot (drops_aside (outcome_of why) row.bitmap) ∷ (filter_gone filter ++ rest)) old new
    gone None is = (
      new,
      record {
        nodes = λ node other. leaves.nodes node (λ (same : row.filter ≡ Some node). let bad : None ≡ Some node = sym is ∙ same in cc);
        files = leaves.files;
      },
      still_quiet rest without_job new new (still_rest without_job refl) (quiet_self new),
    )
    gone (Some filter) is = (
      old,
      quiet_self old,
      (
        new,
        record {
          nodes = λ node other. leaves.nodes node (λ (same : row.filter ≡ Some node). other (let both : Some filter ≡ Some node = sym is ∙ same in let one : filter ≡ node = cc in sym one));
          files = leaves.files;
        },
        still_quiet rest (stepped without_job (change.PullFilter filter)) new new (still_rest (stepped without_job (change.PullFilter filter)) refl) (quiet_self new),
      ),
    )

    pub end_performed : AllPerformed s (changes_at_end s row why) old new
    unfolding end_edits
    end_performed = subst (λ changes. AllPerformed s (change.EndJob row.number row.slot (drops_aside (outcome_of why) row.bitmap) ∷ changes) old new)
        (sym (append_assoc (filter_gone row.filter) (done_edits row (outcome_of why)) (given_back_to s.table row (outcome_of why)))) (gone row.filter refl)
