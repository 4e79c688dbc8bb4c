-- The end of an inner commit rewrites the header of the overlay above its top.
use Rattle.std.proofs.Common.{◌≡◌, ◌≢◌, ℕ, Bool, true, false, cond, List, [], ◌∷◌, refl, sym, ◌∙◌, ap, subst, inl, inr, Option, Some, None}
use Rattle.std.specs.Prelude.{◌==◌, IsSome, option_and_then, slice_get}
use Rattle.std.specs.List.{Contains}
use Rattle.std.proofs.lemmas.Bool.{eq-eqb, eqb-true, ne_eqb, cases_eq}
use Rattle.blk_graph.specs.declared.edge.Role.TheVariants.{File}
use Rattle.blk_graph.specs.declared.kind.Kind.{Kind}
use Rattle.blk_graph.specs.declared.kind.Kind.TheVariants as driver
use Rattle.blk_graph.proofs.Members.{Contains-here, find-Some}
use Rattle.blk_history.specs.declared.entry.JobEnd.{JobEnd}
use Rattle.blk_history.specs.declared.event.Event.{Event}
use Rattle.block_jobs.specs.Work.{JobWork}
use Rattle.qmp_codec.specs.declared.event.JobKind.TheVariants.{Commit}
use Rattle.qmp_rules.specs.declared.change.Change.{Change}
use Rattle.qmp_rules.specs.declared.change.Change.TheVariants as change
use Rattle.qmp_rules.specs.declared.change.JobOutcome.{JobOutcome}
use Rattle.qmp_rules.specs.declared.change.JobOutcome.TheVariants.{Completed, Pivoted, Copied, Stopped}
use Rattle.qmp_rules.specs.declared.change.NewDisk.TheVariants.{OfNode}
use Rattle.qmp_rules.specs.declared.rows.NodeRecord.{NodeRecord}
use Rattle.qmp_rules.specs.declared.rows.JobRecord.{JobRecord}
use Rattle.qmp_rules.specs.Chains.{filter_role}
use Rattle.qmp_rules.specs.Changes.{changed}
use Rattle.qmp_rules.specs.Ends.{drops_aside, end_edits, given_back_to, is_done, read_only_if}
use Rattle.qmp_rules.specs.Table.{RunTable, child, node_by_id}
use Rattle.flat_machine.specs.State.{State, filename_of}
use Rattle.flat_machine.specs.Agreement.{Contents, ReadAsDisks}
use Rattle.flat_machine.specs.Changed.{all_stepped, own_filename, stepped, written_file}
use Rattle.flat_machine.specs.Jobs.{changes_at_end, outcome_of, writes_target}
use Rattle.flat_machine.specs.Performing.{AllPerformed, Pulls, Rewrites}
use Rattle.flat_machine.specs.Suiting.{IsPlainNode}
use Rattle.flat_machine.specs.Wiring.{TableStands}
use Rattle.job_entries.specs.Ends.{ReadsAsMade, renamed}
use Rattle.job_entries.proofs.Files.{AreSteady, IsNoFile, IsOwn, filter_no_file, free_no_file, steady_ended, steady_pulled, steady_then}
use Rattle.job_entries.proofs.InTurn.{AllStill, quiet_self, still-append, still_quiet}
use Rattle.job_tables.specs.Ends.{rebased_by}
use Rattle.job_tables.specs.Jobs.{CommitJobStands, JobsStand, StandsByKind}
use Rattle.job_tables.specs.Running.{JobsRun}
use Rattle.job_tables.proofs.Changes.{plain_no_filter}
use Rattle.job_tables.proofs.NodeKinds.{still_found}
use Rattle.job_tables.proofs.RowEdges.{in_right}
use Rattle.job_ends.specs.Ended.{LosesFilter, MayEndSo}
use Rattle.job_ends.proofs.Ends.{made_target}

-- a header is rewritten where a job completes
pub renamed_completed : (row : JobRecord) (o : JobOutcome) (node : ℕ) → renamed row o ≡ Some node → (o ≡ Completed) × (rebased_by row row.kind ≡ Some node)
renamed_completed row Completed node is = (refl, is)
renamed_completed row Pivoted node is = absurd (let bad : None ≡ Some node = is in cc bad)
renamed_completed row Copied node is = absurd (let bad : None ≡ Some node = is in cc bad)
renamed_completed row Stopped node is = absurd (let bad : None ≡ Some node = is in cc bad)

-- the changes of an inner commit's end
completed_list : (t : RunTable) (row : JobRecord) (drops : Bool) (filter overlay base : ℕ) → row.kind ≡ Commit → row.filter ≡ Some filter → slice_get row.read 0 ≡ Some overlay
    → row.target ≡ Some base → drops ≡ drops_aside Completed row.bitmap
    → end_edits t row Completed
    ≡ change.EndJob row.number row.slot drops ∷ change.PullFilter filter ∷ change.Rebase overlay row.target ∷ change.Settle base (OfNode row.source) ∷ given_back_to t row Completed
unfolding end_edits
completed_list t row drops filter overlay base kind is_filter over is_base is_drops = rw (is_drops, kind, is_filter, over, is_base) refl

-- ---- what is given back isn't seen

still_if : (so : Bool) (node : Option ℕ) (s : State) (c : Contents) → AllStill s (read_only_if so node) c
still_if true (Some id) s c = (quiet_self c, tt)
still_if true None s c = tt
still_if false id s c = tt

still_given : (t : RunTable) (row : JobRecord) (s : State) (c : Contents) → AllStill s (given_back_to t row Completed) c
still_given t row s c =
    let base : List Change = read_only_if row.made_writable.base row.target in
    let file : Option ℕ = option_and_then (λ b. child t b File) row.target in
    still-append base (read_only_if row.made_writable.file file) s c
    (still_if row.made_writable.base row.target s c) (still_if row.made_writable.file file (all_stepped s base) c)

-- ---- behind the job and its filter

module _ (s : State) (h : TableStands s.table) (j : JobsStand s.table) (row : JobRecord) (here : Contains s.table.jobs row) (kind : row.kind ≡ Commit) where
  commit : CommitJobStands s.table row
  commit = subst (StandsByKind s.table row) kind (j.each row here).shape

  abbrev filter : ℕ
  filter = commit.filter.filter

  is_filter : IsSome (filter_role commit.filter.node.kind)
  is_filter = subst (λ k. IsSome (filter_role k)) (sym commit.filter.kind_is) refl

  no_file : IsNoFile s.table filter
  no_file = filter_no_file s.table h filter commit.filter.node commit.filter.there is_filter

  module _ (drops : Bool) where
    abbrev without_job : State
    without_job = stepped s (change.EndJob row.number row.slot drops)

    abbrev pulled : State
    pulled = stepped without_job (change.PullFilter filter)

    filter_still : (node_by_id without_job.table filter ≡ Some commit.filter.node) × IsNoFile without_job.table filter
    unfolding changed
    filter_still = (commit.filter.there, λ over o is. no_file over (record { row = o.row; found = o.found; own = o.own }) (sym ((steady_ended s.table row.number row.slot drops).files over (record { row = o.row; found = o.found; own = o.own })) ∙ is))

    steady : AreSteady s.table pulled.table
    steady =
        steady_then s.table without_job.table pulled.table (steady_ended s.table row.number row.slot drops)
        (steady_pulled without_job.table filter commit.filter.node filter_still.0 is_filter filter_still.1)

    other_name : (file : ℕ) → file ≢ filter → filename_of pulled.table file ≡ filename_of s.table file
    unfolding changed
    other_name file differ = ap (option_and_then (λ (r : NodeRecord). r.filename)) (still_found s.table filter file differ)

    -- so nodes write the files that they wrote
    writes_still : (node : ℕ) → IsOwn s.table node → written_file pulled.table node ≡ written_file s.table node
    writes_still node o =
        ap (option_and_then (λ (r : NodeRecord). own_filename pulled.table r r.kind)) (steady.rows node o)
        ∙ by_kind o.row.kind
        ∙ ap (option_and_then (λ (r : NodeRecord). own_filename s.table r r.kind)) (sym o.found)
      where
        id_is : o.row.id ≡ node
        id_is = eqb-true o.row.id node (find-Some (λ (r : NodeRecord). r.id == node) s.table.nodes o.row o.found).1

        by_child : (below : Option ℕ) → below ≢ Some filter → option_and_then (filename_of pulled.table) below ≡ option_and_then (filename_of s.table) below
        by_child None differ = refl
        by_child (Some file) differ = other_name file (λ same. differ (ap Some same))

        under : option_and_then (filename_of pulled.table) (child pulled.table o.row.id File) ≡ option_and_then (filename_of s.table) (child s.table o.row.id File)
        under =
            ap (option_and_then (filename_of pulled.table)) (subst (λ n. child pulled.table n File ≡ child s.table n File) (sym id_is) (steady.files node o))
            ∙ by_child (child s.table o.row.id File) (λ is. no_file node o (ap (λ n. child s.table n File) (sym id_is) ∙ is))

        by_kind : (k : Kind) → own_filename pulled.table o.row k ≡ own_filename s.table o.row k
        by_kind driver.Protocol = refl
        by_kind driver.Raw = under
        by_kind driver.Qcow2 = under
        by_kind driver.CopyOnRead = refl
        by_kind driver.BeforeWrite = refl
        by_kind driver.Mirror = refl
        by_kind driver.Commit = refl

  -- ---- the end

  module _ (overlay : ℕ) (over : rebased_by row Commit ≡ Some overlay) (old mid new : Contents) (renames : Rewrites s overlay old mid)
      (loses : LosesFilter row mid new) where
    first_read : (ids : List ℕ) (node : ℕ) → slice_get ids 0 ≡ Some node → Contains ids node
    first_read [] node is = absurd cc
    first_read (id ∷ ids) node is =
        let same : id ≡ node = (let both : Some id ≡ Some node = is in cc both) in
        subst (Contains (id ∷ ids)) same (Contains-here id ids)

    own : IsOwn s.table overlay
    own =
        let p = (j.each row here).plain overlay (in_right row.held row.read overlay (first_read row.read overlay over)) in
        record { row = p.row; found = p.there; own = p.own }

    -- what jobs have reads the same
    plain_same : (node : ℕ) → IsPlainNode s.table node → new.reads node ≡ old.reads node
    plain_same node p =
        loses.nodes node (plain_no_filter s.table j node p row here)
        ∙ renames.nodes node (free_no_file s.table h node p.free overlay own)

    -- as if the filter went first
    abbrev between : Contents
    between = record { reads = λ node. cond (node == filter) (new.reads node) (old.reads node); held = old.held }

    at_filter : between.reads filter ≡ new.reads filter
    at_filter = rw (eq-eqb filter filter refl) refl

    elsewhere : (node : ℕ) → node ≢ filter → between.reads node ≡ old.reads node
    elsewhere node differ = rw (ne_eqb node filter differ) refl

    pulls : Pulls filter old between
    pulls = record { nodes = elsewhere; files = λ name other. refl }

    -- and then the header is another one
    rewrites : (drops : Bool) → Rewrites (pulled drops) overlay between new
    rewrites drops = record {
      nodes = λ node other. elim (cases_eq node filter) [
        | inl same ↦ subst (λ n. new.reads n ≡ between.reads n) (sym same) (sym at_filter)
        | inr differ ↦
            loses.nodes node (λ its. differ (let both : Some filter ≡ Some node = sym commit.filter.is_filter ∙ its in let one : filter ≡ node = cc both in sym one))
            ∙ renames.nodes node (λ file. other ((steady drops).files overlay own ∙ file))
            ∙ sym (elsewhere node differ)
      ];
      files = λ name other. loses.files name (λ never. never) ∙ renames.files name (λ is. other (writes_still drops overlay own ∙ is));
      mapping = λ name after is held. renames.mapping name after (sym (writes_still drops overlay own) ∙ is) (sym (loses.files name (λ never. never)) ∙ held);
    }

    module _ (first : State) (past : List Event) (work : JobWork) (why : JobEnd) (run : JobsRun s.table) (done : outcome_of why ≡ Completed)
        (reads : ReadAsDisks s old) (may : MayEndSo first past s old.reads row work why) where
      abbrev drops : Bool
      drops = drops_aside (outcome_of why) row.bitmap

      abbrev given : List Change
      given = given_back_to s.table row Completed

      -- the changes one by one
      list_is : changes_at_end s row why
          ≡ change.EndJob row.number row.slot drops ∷ change.PullFilter filter ∷ change.Rebase overlay row.target ∷ change.Settle commit.base (OfNode row.source) ∷ given
      list_is = ap (end_edits s.table row) done ∙ completed_list s.table row drops filter overlay commit.base kind commit.filter.is_filter over commit.is_base (ap (λ o. drops_aside o row.bitmap) done)

      base_reads : new.reads commit.base ≡ new.reads row.source
      base_reads = subst (ReadsAsMade s row new commit.base) kind (made_target s row j run here (ap writes_target kind) first past work why old new reads may plain_same (ap is_done done) commit.base commit.is_base)

      performed : AllPerformed s
          (change.EndJob row.number row.slot drops ∷ change.PullFilter filter ∷ change.Rebase overlay row.target ∷ change.Settle commit.base (OfNode row.source) ∷ given) old new
      performed =
          let rebased : State = stepped (pulled drops) (change.Rebase overlay row.target) in
          let settled : State = stepped rebased (change.Settle commit.base (OfNode row.source)) in (
            old,
            quiet_self old,
            (
              between,
              pulls,
              (
                new,
                rewrites drops,
                (
                  new,
                  record { nodes = λ node other. refl; files = λ name other. refl; reads_as = base_reads },
                  still_quiet given settled new new (still_given s.table row settled new) (quiet_self new),
                ),
              ),
            ),
          )

      pub completed_done : AllPerformed s (changes_at_end s row why) old new
      completed_done = subst (λ changes. AllPerformed s changes old new) (sym list_is) performed
