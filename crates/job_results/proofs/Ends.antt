-- What the changes of an end leave of disks: one that is settled, or none.
use Rattle.std.proofs.Common.{◌≡◌, ◌≢◌, ℕ, Bool, true, false, cond, List, [], ◌∷◌, ◌++◌, map, refl, sym, ◌∙◌, ap, subst, Option, Some, None, option_map}
use Rattle.std.specs.Prelude.{◌==◌, not, option_and_then, unwrap_or}
use Rattle.std.specs.List.{Contains, find}
use Rattle.std.proofs.lemmas.Bool.{eq-eqb, eqb-true}
use Rattle.std.proofs.lemmas.List.{append_assoc, append-nil}
use Rattle.blk_graph.specs.declared.edge.Role.TheVariants.{File}
use Rattle.blk_graph.specs.declared.kind.Kind.{Kind}
use Rattle.blk_graph.specs.declared.kind.Kind.TheVariants as driver
use Rattle.blk_graph.proofs.Members.{Contains-filter, Contains-here, Contains-map, Contains-there}
use Rattle.qmp_codec.specs.declared.event.JobKind.{JobKind}
use Rattle.qmp_codec.specs.declared.event.JobKind.TheVariants.{Mirror, Backup}
use Rattle.qmp_rules.specs.declared.change.Change.{Change}
use Rattle.qmp_rules.specs.declared.change.Change.TheVariants as change
use Rattle.qmp_rules.specs.declared.change.JobOutcome.{JobOutcome}
use Rattle.qmp_rules.specs.declared.change.JobOutcome.TheVariants as outcome
use Rattle.qmp_rules.specs.declared.change.NewDisk.{NewDisk}
use Rattle.qmp_rules.specs.declared.change.NewDisk.TheVariants.{OfNode, OfStart}
use Rattle.qmp_rules.specs.declared.rows.NodeRecord.{NodeRecord}
use Rattle.qmp_rules.specs.declared.rows.JobRecord.{JobRecord}
use Rattle.qmp_rules.specs.Chains.{disk_node, filter_role, is_settled}
use Rattle.qmp_rules.specs.Changes.{changed, all_changed, kept_from_writes, node_changed, settled, unsettled}
use Rattle.qmp_rules.specs.Ends.{done_edits, end_edits, filter_gone, given_back_to, is_done, moves, parents_to, read_only_if, settle_if, settled_by, settles_target, top_lost}
use Rattle.qmp_rules.specs.Table.{RunTable, child, node_by_id}
use Rattle.blk_history.specs.Fold.{With}
use Rattle.blk_history.specs.declared.entry.JobEnd.{JobEnd}
use Rattle.blk_history.specs.declared.entry.JobEnd.TheVariants.{Completed, Failed, Cancelled}
use Rattle.flat_machine.specs.Begun.{begun_of, copy_bytes}
use Rattle.flat_machine.specs.Changed.{all_stepped, new_bytes, stepped}
use Rattle.flat_machine.specs.Jobs.{changes_at_end, copied_to, is_success, noted_end, outcome_of}
use Rattle.flat_machine.specs.State.{State, bytes_at_node, bytes_in, flat_disk_of}
use Rattle.flat_machine.specs.Suiting.{IsPlainNode}
use Rattle.flat_machine.proofs.Finds.{bytes_in-put}
use Rattle.flat_machine.proofs.Kept.{own_disk}
use Rattle.flat_machine.proofs.Resting.{stepped_table}
use Rattle.flat_machine.proofs.Rows.{found_mapped}
use Rattle.job_tables.specs.Jobs.{JobsStand, StandsByKind}
use Rattle.job_tables.specs.Running.{IsAt, IsSettledAt, IsUnsettledAt}
use Rattle.job_tables.proofs.Changes.{plain_no_filter}
use Rattle.job_tables.proofs.NodeKinds.{still_found}
use Rattle.job_tables.proofs.RowEdges.{copy_holds, holds_source, in_left}
use Rattle.job_entries.proofs.Found.{steps_note}
use Rattle.job_ends.proofs.Rows.{AreOfEnd, IsOfEnd, end_head, end_parts, end_tail, tail_of_end}
use Rattle.job_results.specs.Disks.{ShowsDisk, SettlesNone}

-- ---- changes in turn

stepped_append : (a b : List Change) (s : State) → all_stepped s (a ++ b) ≡ all_stepped (all_stepped s a) b
stepped_append [] b s = refl
stepped_append (c ∷ a) b s = stepped_append a b (stepped s c)

-- ---- changes that settle nothing

-- edges move, a filter goes, a node may be written no more
abbrev IsMild : Change → Type 0
IsMild (change.EndJob number slot drops) = Unit {0}
IsMild (change.PullFilter filter) = Unit {0}
IsMild (change.Move from to but) = Unit {0}
IsMild (change.MakeReadOnly node) = Unit {0}
IsMild c = ⊥

abbrev AreMild : List Change → Type 0
AreMild [] = Unit {0}
AreMild (c ∷ changes) = IsMild c × AreMild changes

mild-append : (a b : List Change) → AreMild a → AreMild b → AreMild (a ++ b)
mild-append [] b h k = k
mild-append (c ∷ a) b h k = (h.0, mild-append a b h.1 k)

mild_disks : (s : State) (c : Change) → IsMild c → (stepped s c).disks ≡ s.disks
mild_disks s (change.EndJob number slot drops) h = refl
mild_disks s (change.PullFilter filter) h = refl
mild_disks s (change.Move from to but) h = refl
mild_disks s (change.MakeReadOnly node) h = refl
mild_disks s c h = absurd h

all_mild_disks : (changes : List Change) (s : State) → AreMild changes → (all_stepped s changes).disks ≡ s.disks
all_mild_disks [] s h = refl
all_mild_disks (c ∷ changes) s h = all_mild_disks changes (stepped s c) h.1 ∙ mild_disks s c h.0

-- ---- rows of nodes

-- a row was there, but for whether the node may be written
record WasNode (t : RunTable) (row : NodeRecord) : Type 0 where
  was : NodeRecord
  there : Contains t.nodes was
  id : was.id ≡ row.id
  settled : was.is_settled ≡ row.is_settled

node_self : (t : RunTable) (row : NodeRecord) → Contains t.nodes row → WasNode t row
node_self t row here = record { was = row; there = here; id = refl; settled = refl }

mild_node : (t : RunTable) (c : Change) → IsMild c → (row : NodeRecord) → Contains (changed t c).nodes row → WasNode t row
unfolding changed
mild_node t (change.EndJob number slot drops) h row here = node_self t row here
mild_node t (change.PullFilter filter) h row here = node_self t row (Contains-filter (λ (r : NodeRecord). not (r.id == filter)) t.nodes row here).0
mild_node t (change.Move from to but) h row here = node_self t row here
mild_node t (change.MakeReadOnly id) h row here = by_row (Contains-map (node_changed id kept_from_writes) t.nodes row here)
  where
    by_test : (was : NodeRecord) → Contains t.nodes was → (b : Bool) → row ≡ cond b (kept_from_writes was) was → WasNode t row
    by_test was at true is =
        record { was = was; there = at; id = ap (λ (r : NodeRecord). r.id) (sym is); settled = ap (λ (r : NodeRecord). r.is_settled) (sym is) }
    by_test was at false is =
        record { was = was; there = at; id = ap (λ (r : NodeRecord). r.id) (sym is); settled = ap (λ (r : NodeRecord). r.is_settled) (sym is) }

    by_row : (was : NodeRecord) × Contains t.nodes was × (row ≡ node_changed id kept_from_writes was) → WasNode t row
    by_row (was, at, is) = by_test was at (was.id == id) is
mild_node t c h row here = absurd h

-- what each row of a node says stays so
all_mild_node : (b : Bool) (changes : List Change) (t : RunTable) → AreMild changes → (node : ℕ)
    → IsAt t node (λ row. row.is_settled ≡ b) → IsAt (all_changed t changes) node (λ row. row.is_settled ≡ b)
all_mild_node b [] t h node says = says
all_mild_node b (c ∷ changes) t h node says =
    all_mild_node b changes (changed t c) h.1 node (λ row here id.
    let w = mild_node t c h.0 row here in
    sym w.settled ∙ says w.was w.there (w.id ∙ id))

changed_id : (id : ℕ) (f : NodeRecord → NodeRecord) → ((row : NodeRecord) → (f row).id ≡ row.id) → (row : NodeRecord) → (node_changed id f row).id ≡ row.id
changed_id id f ids row = by_test (row.id == id)
  where
    by_test : (b : Bool) → (cond b (f row) row).id ≡ row.id
    by_test true = ids row
    by_test false = refl

-- ---- the parts of an end

mild_gone : (filter : Option ℕ) → AreMild (filter_gone filter)
mild_gone None = tt
mild_gone (Some filter) = (tt, tt)

mild_if : (so : Bool) (node : Option ℕ) → AreMild (read_only_if so node)
mild_if true (Some id) = (tt, tt)
mild_if true None = tt
mild_if false id = tt

mild_parents : (source : ℕ) (filter target : Option ℕ) → AreMild (parents_to source filter target)
mild_parents source (Some filter) (Some target) = (tt, tt)
mild_parents source (Some filter) None = tt
mild_parents source None target = tt

module _ (row : JobRecord) where
  mild_back : (t : RunTable)
      → AreMild (read_only_if row.made_writable.base row.target ++ read_only_if row.made_writable.file (option_and_then (λ b. child t b File) row.target))
  mild_back t =
      mild-append (read_only_if row.made_writable.base row.target) (read_only_if row.made_writable.file (option_and_then (λ b. child t b File) row.target))
      (mild_if row.made_writable.base row.target) (mild_if row.made_writable.file (option_and_then (λ b. child t b File) row.target))

  mild_given : (t : RunTable) (o : JobOutcome) → AreMild (given_back_to t row o)
  mild_given t outcome.Pivoted = tt
  mild_given t outcome.Completed = mild_back t
  mild_given t outcome.Copied = mild_back t
  mild_given t outcome.Stopped = mild_back t

  mild_moves : (o : JobOutcome) → AreMild (moves row Mirror o)
  mild_moves outcome.Pivoted = mild_parents row.source row.filter row.target
  mild_moves outcome.Completed = tt
  mild_moves outcome.Copied = tt
  mild_moves outcome.Stopped = tt

-- ---- ends that settle nothing

module _ (s : State) (row : JobRecord) (why : JobEnd) (none : done_edits row (outcome_of why) ≡ []) where
  abbrev rest : List Change
  rest = end_head row (outcome_of why) ∷ (filter_gone row.filter ++ []) ++ given_back_to s.table row (outcome_of why)

  rest_is : changes_at_end s row why ≡ end_head row (outcome_of why) ∷ (filter_gone row.filter ++ []) ++ given_back_to s.table row (outcome_of why)
  rest_is =
      end_parts row s.table (outcome_of why)
      ∙ ap (λ (done : List Change). end_head row (outcome_of why) ∷ (filter_gone row.filter ++ done) ++ given_back_to s.table row (outcome_of why)) none

  rest_mild : AreMild (changes_at_end s row why)
  rest_mild = subst AreMild (sym rest_is) (
    tt,
    mild-append (filter_gone row.filter ++ []) (given_back_to s.table row (outcome_of why)) (mild-append (filter_gone row.filter) [] (mild_gone row.filter) tt)
        (mild_given row s.table (outcome_of why)),
  )

  pub settles_none : SettlesNone s (noted_end s row why)
  settles_none = record {
    disks = all_mild_disks (changes_at_end s row why) s rest_mild;
    unsettled = λ node unsettled.
        subst (λ (t : RunTable). IsUnsettledAt t node) (sym (stepped_table (changes_at_end s row why) s))
        (all_mild_node false (changes_at_end s row why) s.table rest_mild node unsettled);
  }

-- ---- ends that settle the target

settled_row : (t : RunTable) (target : ℕ) (disk : NewDisk) → IsSettledAt (changed t (change.Settle target disk)) target
unfolding changed
settled_row t target disk row here id = by_row (Contains-map (node_changed target settled) t.nodes row here)
  where
    by_test : (was : NodeRecord) (b : Bool) → (was.id == target) ≡ b → row ≡ cond b (record was { is_settled = true }) was → row.is_settled ≡ true
    by_test was true e is = ap (λ (r : NodeRecord). r.is_settled) is
    by_test was false e is =
        let at : (was.id == target) ≡ true = eq-eqb was.id target (sym (ap (λ (r : NodeRecord). r.id) is) ∙ id) in
        absurd cc

    by_row : (was : NodeRecord) × Contains t.nodes was × (row ≡ node_changed target settled was) → row.is_settled ≡ true
    by_row (was, at, is) = by_test was (was.id == target) refl is

regroup : (a b c : List Change) (x : Change) → (a ++ (b ++ x ∷ [])) ++ c ≡ (a ++ b) ++ x ∷ c
regroup a b c x = simp append_assoc

module _ (s : State) (row : JobRecord) (why : JobEnd) (before : List Change) (mild : AreMild before) (target : ℕ) (disk : NewDisk)
    (done : done_edits row (outcome_of why) ≡ before ++ change.Settle target disk ∷ []) where
  -- what comes before the target is settled, and behind that
  abbrev pub front : List Change
  front = end_head row (outcome_of why) ∷ filter_gone row.filter ++ before

  abbrev pub back : List Change
  back = given_back_to s.table row (outcome_of why)

  pub parts_are : changes_at_end s row why ≡ front ++ change.Settle target disk ∷ back
  parts_are =
      end_parts row s.table (outcome_of why)
      ∙ ap (λ (edits : List Change). end_head row (outcome_of why) ∷ (filter_gone row.filter ++ edits) ++ given_back_to s.table row (outcome_of why)) done
      ∙ ap (λ (edits : List Change). end_head row (outcome_of why) ∷ edits) (regroup (filter_gone row.filter) before (given_back_to s.table row (outcome_of why)) (change.Settle target disk))

  pub front_mild : AreMild front
  front_mild = (tt, mild-append (filter_gone row.filter) before (mild_gone row.filter) mild)

  back_mild : AreMild back
  back_mild = mild_given row s.table (outcome_of why)

  -- the state in which it is settled
  abbrev pub between : State
  between = all_stepped s front

  pub between_disks : between.disks ≡ s.disks
  between_disks = all_mild_disks front s front_mild

  last_is : all_stepped s (changes_at_end s row why) ≡ all_stepped (stepped between (change.Settle target disk)) back
  last_is = ap (all_stepped s) parts_are ∙ stepped_append front (change.Settle target disk ∷ back) s

  pub shown : ShowsDisk (noted_end s row why) target (new_bytes between disk)
  shown = record {
    reads = ap (λ (x : State). bytes_in x.disks target) last_is
        ∙ ap (λ ds. bytes_in ds target) (all_mild_disks back (stepped between (change.Settle target disk)) back_mild)
        ∙ bytes_in-put target (new_bytes between disk) between.disks;
    settled = subst (λ (t : RunTable). IsSettledAt t target)
        (sym (stepped_table back (stepped between (change.Settle target disk))) ∙ sym (ap (λ (x : State). x.table) last_is))
        (all_mild_node true back (changed between.table (change.Settle target disk)) back_mild target (settled_row between.table target disk));
  }

-- ---- backups and mirrors

backup_settles : (row : JobRecord) (target : ℕ) → row.kind ≡ Backup → row.target ≡ Some target → settles_target row.bitmap ≡ true
    → done_edits row outcome.Completed ≡ [] ++ change.Settle target (OfStart row.number) ∷ []
backup_settles row target kind is settles =
    ap (λ k. moves row k outcome.Completed ++ settled_by row k ++ top_lost row k outcome.Completed) kind
    ∙ ap (λ so. settle_if so row.target (OfStart row.number) ++ []) settles
    ∙ ap (λ to. settle_if true to (OfStart row.number) ++ []) is

backup_settles_none : (row : JobRecord) → row.kind ≡ Backup → settles_target row.bitmap ≡ false → done_edits row outcome.Completed ≡ []
backup_settles_none row kind settles =
    ap (λ k. moves row k outcome.Completed ++ settled_by row k ++ top_lost row k outcome.Completed) kind
    ∙ ap (λ so. settle_if so row.target (OfStart row.number) ++ []) settles

mirror_settles : (row : JobRecord) (target : ℕ) (o : JobOutcome) → row.kind ≡ Mirror → row.target ≡ Some target → is_done o ≡ true
    → done_edits row o ≡ moves row Mirror o ++ change.Settle target (OfNode row.source) ∷ []
mirror_settles row target o kind is done = by_outcome o done
  where
    by_edits : (p : JobOutcome) → moves row row.kind p ++ settled_by row row.kind ++ top_lost row row.kind p
        ≡ (moves row Mirror p ++ change.Settle target (OfNode row.source) ∷ []) ++ []
    by_edits p =
        ap (λ k. moves row k p ++ settled_by row k ++ top_lost row k p) kind ∙ ap (λ to. moves row Mirror p ++ settle_if true to (OfNode row.source) ++ []) is

    by_outcome : (p : JobOutcome) → is_done p ≡ true → done_edits row p ≡ moves row Mirror p ++ change.Settle target (OfNode row.source) ∷ []
    by_outcome outcome.Completed d = by_edits outcome.Completed ∙ append-nil _
    by_outcome outcome.Pivoted d = by_edits outcome.Pivoted ∙ append-nil _
    by_outcome outcome.Copied d = by_edits outcome.Copied ∙ append-nil _
    by_outcome outcome.Stopped d = absurd cc

pub backup_none : (s : State) (row : JobRecord) → row.kind ≡ Backup → settles_target row.bitmap ≡ false
    → SettlesNone s (noted_end s row Completed)
backup_none s row kind settles = settles_none s row Completed (backup_settles_none row kind settles)

pub stopped_none : (s : State) (row : JobRecord) (why : JobEnd) → is_success why ≡ false → SettlesNone s (noted_end s row why)
stopped_none s row (Failed fault) fails = settles_none s row (Failed fault) refl
stopped_none s row (Cancelled cause) fails = settles_none s row (Cancelled cause) refl
stopped_none s row why fails = absurd cc

pub backup_shown : (s : State) (row : JobRecord) (target : ℕ) → row.kind ≡ Backup → row.target ≡ Some target → settles_target row.bitmap ≡ true
    → ShowsDisk (noted_end s row Completed) target (copy_bytes (begun_of s.begun row.number))
backup_shown s row target kind is settles =
    let done = backup_settles row target kind is settles in
    subst (λ bs. ShowsDisk (noted_end s row Completed) target (copy_bytes (begun_of bs row.number)))
    (steps_note (front s row Completed [] tt target (OfStart row.number) done) s).begun
    (shown s row Completed [] tt target (OfStart row.number) done)

-- ---- nodes that stay

-- another filter goes
abbrev PullsOther : ℕ → Change → Type 0
PullsOther node (change.PullFilter filter) = node ≢ filter
PullsOther node c = Unit {0}

abbrev AllPullOthers : ℕ → List Change → Type 0
AllPullOthers node [] = Unit {0}
AllPullOthers node (c ∷ changes) = PullsOther node c × AllPullOthers node changes

others-append : (node : ℕ) (a b : List Change) → AllPullOthers node a → AllPullOthers node b → AllPullOthers node (a ++ b)
others-append node [] b h k = k
others-append node (c ∷ a) b h k = (h.0, others-append node a b h.1 k)

node_found : (rows : List NodeRecord) (id : ℕ) (row : NodeRecord) → find (λ (r : NodeRecord). r.id == id) rows ≡ Some row
    → (Contains rows row) × (row.id ≡ id)
node_found [] id row found = absurd cc
node_found (r ∷ rows) id row found = by_test (r.id == id) refl (node_found rows id row) found
  where
    by_test : (b : Bool) → (r.id == id) ≡ b → (find (λ (q : NodeRecord). q.id == id) rows ≡ Some row → (Contains rows row) × (row.id ≡ id))
        → cond b (Some r) (find (λ (q : NodeRecord). q.id == id) rows) ≡ Some row → (Contains (r ∷ rows) row) × (row.id ≡ id)
    by_test true e ih k =
        let same : r ≡ row = cc in
        (subst (Contains (r ∷ rows)) same (Contains-here r rows), subst (λ (q : NodeRecord). q.id ≡ id) same (eqb-true r.id id e))
    by_test false e ih k = let rest = ih k in (Contains-there r rows row rest.0, rest.1)

abbrev pub kind_of : RunTable → ℕ → Option Kind
kind_of t node = option_map (λ row. row.kind) (node_by_id t node)

mapped_kind : (t now : RunTable) (id : ℕ) (f : NodeRecord → NodeRecord) → ((row : NodeRecord) → (f row).id ≡ row.id)
    → ((row : NodeRecord) → (f row).kind ≡ row.kind) → now.nodes ≡ map (node_changed id f) t.nodes → (node : ℕ) → kind_of now node ≡ kind_of t node
mapped_kind t now id f ids kinds nodes node =
    ap (option_map (λ (row : NodeRecord). row.kind)) (found_mapped t now (node_changed id f) (changed_id id f ids) nodes node) ∙ by_row (node_by_id t node)
  where
    by_test : (row : NodeRecord) (b : Bool) → (cond b (f row) row).kind ≡ row.kind
    by_test row true = kinds row
    by_test row false = refl

    by_row : (found : Option NodeRecord)
        → option_map (λ (row : NodeRecord). row.kind) (option_map (node_changed id f) found) ≡ option_map (λ (row : NodeRecord). row.kind) found
    by_row None = refl
    by_row (Some row) = ap Some (by_test row (row.id == id))

-- what ends are made of
abbrev IsOfEnds : Change → Type 0
IsOfEnds (change.EndJob number slot drops) = Unit {0}
IsOfEnds c = IsOfEnd c

abbrev AreOfEnds : List Change → Type 0
AreOfEnds [] = Unit {0}
AreOfEnds (c ∷ changes) = IsOfEnds c × AreOfEnds changes

of_ends : (c : Change) → IsOfEnd c → IsOfEnds c
of_ends (change.EndJob number slot drops) h = tt
of_ends c h = h

all_of_ends : (changes : List Change) → AreOfEnd changes → AreOfEnds changes
all_of_ends [] h = tt
all_of_ends (c ∷ changes) h = (of_ends c h.0, all_of_ends changes h.1)

mild_of_ends : (c : Change) → IsMild c → IsOfEnds c
mild_of_ends (change.EndJob number slot drops) h = tt
mild_of_ends (change.PullFilter filter) h = tt
mild_of_ends (change.Move from to but) h = tt
mild_of_ends (change.MakeReadOnly node) h = tt
mild_of_ends c h = absurd h

all_mild_of_ends : (changes : List Change) → AreMild changes → AreOfEnds changes
all_mild_of_ends [] h = tt
all_mild_of_ends (c ∷ changes) h = (mild_of_ends c h.0, all_mild_of_ends changes h.1)

change_kind : (t : RunTable) (c : Change) → IsOfEnds c → (node : ℕ) → PullsOther node c → kind_of (changed t c) node ≡ kind_of t node
unfolding changed
change_kind t (change.EndJob number slot drops) h node others = refl
change_kind t (change.PullFilter filter) h node others = ap (option_map (λ (row : NodeRecord). row.kind)) (still_found t filter node others)
change_kind t (change.Move from to but) h node others = refl
change_kind t (change.Rebase id backing) h node others = refl
change_kind t (change.Settle id disk) h node others =
    mapped_kind t (changed t (change.Settle id disk)) id settled (λ row. refl) (λ row. refl) refl node
change_kind t (change.Unsettle id) h node others = mapped_kind t (changed t (change.Unsettle id)) id unsettled (λ row. refl) (λ row. refl) refl node
change_kind t (change.MakeReadOnly id) h node others =
    mapped_kind t (changed t (change.MakeReadOnly id)) id kept_from_writes (λ row. refl) (λ row. refl) refl node
change_kind t c h node others = absurd h

changes_kind : (changes : List Change) (t : RunTable) → AreOfEnds changes → (node : ℕ) → AllPullOthers node changes
    → kind_of (all_changed t changes) node ≡ kind_of t node
changes_kind [] t h node others = refl
changes_kind (c ∷ changes) t h node others = changes_kind changes (changed t c) h.1 node others.1 ∙ change_kind t c h.0 node others.0

module _ (row : JobRecord) (node : ℕ) (other : row.filter ≢ Some node) where
  others_gone : AllPullOthers node (filter_gone row.filter)
  others_gone = by_filter row.filter refl
    where
      by_filter : (filter : Option ℕ) → row.filter ≡ filter → AllPullOthers node (filter_gone filter)
      by_filter None is = tt
      by_filter (Some filter) is = (λ same. other (is ∙ ap Some (sym same)), tt)

  others_if : (so : Bool) (id : Option ℕ) → AllPullOthers node (read_only_if so id)
  others_if true (Some id) = (tt, tt)
  others_if true None = tt
  others_if false id = tt

  others_back : (t : RunTable)
      → AllPullOthers node (read_only_if row.made_writable.base row.target ++ read_only_if row.made_writable.file (option_and_then (λ b. child t b File) row.target))
  others_back t =
      others-append node (read_only_if row.made_writable.base row.target) (read_only_if row.made_writable.file (option_and_then (λ b. child t b File) row.target))
      (others_if row.made_writable.base row.target) (others_if row.made_writable.file (option_and_then (λ b. child t b File) row.target))

  others_given : (t : RunTable) (o : JobOutcome) → AllPullOthers node (given_back_to t row o)
  others_given t outcome.Pivoted = tt
  others_given t outcome.Completed = others_back t
  others_given t outcome.Copied = others_back t
  others_given t outcome.Stopped = others_back t

  others_parents : (filter target : Option ℕ) → AllPullOthers node (parents_to row.source filter target)
  others_parents (Some filter) (Some target) = (tt, tt)
  others_parents (Some filter) None = tt
  others_parents None target = tt

  others_moves : (o : JobOutcome) → AllPullOthers node (moves row Mirror o)
  others_moves outcome.Pivoted = others_parents row.filter row.target
  others_moves outcome.Completed = tt
  others_moves outcome.Copied = tt
  others_moves outcome.Stopped = tt

  others_settle : (so : Bool) (target : Option ℕ) (disk : NewDisk) → AllPullOthers node (settle_if so target disk)
  others_settle true (Some target) disk = (tt, tt)
  others_settle true None disk = tt
  others_settle false target disk = tt

  others_by : (k : JobKind) (target : ℕ) (o : JobOutcome) → copied_to row k ≡ Some target → AllPullOthers node (moves row k o ++ settled_by row k ++ top_lost row k o)
  others_by Backup target o copies =
      others-append node (settle_if (settles_target row.bitmap) row.target (OfStart row.number)) []
      (others_settle (settles_target row.bitmap) row.target (OfStart row.number)) tt
  others_by Mirror target o copies =
      others-append node (moves row Mirror o ++ settle_if true row.target (OfNode row.source)) []
      (others-append node (moves row Mirror o) (settle_if true row.target (OfNode row.source)) (others_moves o)
      (others_settle true row.target (OfNode row.source))) tt
  others_by k target o copies = absurd cc

  others_done : (target : ℕ) (o : JobOutcome) → copied_to row row.kind ≡ Some target → AllPullOthers node (done_edits row o)
  others_done target outcome.Completed copies = others_by row.kind target outcome.Completed copies
  others_done target outcome.Pivoted copies = others_by row.kind target outcome.Pivoted copies
  others_done target outcome.Copied copies = others_by row.kind target outcome.Copied copies
  others_done target outcome.Stopped copies = tt

  end_kind : (t : RunTable) (target : ℕ) (o : JobOutcome) → copied_to row row.kind ≡ Some target
      → kind_of (all_changed t (end_edits t row o)) node ≡ kind_of t node
  end_kind t target o copies =
      ap (λ (changes : List Change). kind_of (all_changed t changes) node) (end_parts row t o)
      ∙ changes_kind (end_head row o ∷ end_tail row t o) t (tt, all_of_ends (end_tail row t o) (tail_of_end row t o)) node (
        tt,
        others-append node (filter_gone row.filter ++ done_edits row o) (given_back_to t row o)
            (others-append node (filter_gone row.filter) (done_edits row o) others_gone (others_done target o copies)) (others_given t o),
      )

-- a node of this kind is there
kind_there : (t : RunTable) (node : ℕ) (kind : Kind) → kind_of t node ≡ Some kind → filter_role kind ≡ None
    → With (node_by_id t node) (λ row. filter_role row.kind ≡ None)
kind_there t node kind is own = by_row (node_by_id t node) is
  where
    by_row : (found : Option NodeRecord) → option_map (λ (row : NodeRecord). row.kind) found ≡ Some kind → With found (λ row. filter_role row.kind ≡ None)
    by_row None k = absurd cc
    by_row (Some row) k = let same : row.kind ≡ kind = cc in ap filter_role same ∙ own

plain_disk : (t : RunTable) (node : ℕ) (kind : Kind) → kind_of t node ≡ Some kind → filter_role kind ≡ None → disk_node t node ≡ node
plain_disk t node kind is own = by_row (node_by_id t node) refl is
  where
    by_row : (found : Option NodeRecord) → node_by_id t node ≡ found → option_map (λ (row : NodeRecord). row.kind) found ≡ Some kind → disk_node t node ≡ node
    by_row None e k = absurd cc
    by_row (Some row) e k = let same : row.kind ≡ kind = cc in own_disk t node row e (ap filter_role same ∙ own)

-- the target of a copy is there behind the end
pub target_stays : (s : State) (row : JobRecord) (why : JobEnd) (target : ℕ) → JobsStand s.table → Contains s.table.jobs row
    → copied_to row row.kind ≡ Some target → With (node_by_id (noted_end s row why).table target) (λ node. filter_role node.kind ≡ None)
target_stays s row why target j here copies =
    kind_there (noted_end s row why).table target p.row.kind
    (ap (λ (t : RunTable). kind_of t target) (stepped_table (changes_at_end s row why) s)
    ∙ end_kind row target (plain_no_filter s.table j target p row here) s.table target (outcome_of why) copies
    ∙ ap (option_map (λ (r : NodeRecord). r.kind)) p.there)
    p.own
  where
    of_copy : (k : JobKind) → copied_to row k ≡ Some target → StandsByKind s.table row k → Contains row.held target
    of_copy Backup is c = let same : c.target ≡ target = (let both = sym c.is_target ∙ is in cc) in subst (Contains row.held) same (copy_holds s.table row driver.BeforeWrite c)
    of_copy Mirror is c = let same : c.target ≡ target = (let both = sym c.is_target ∙ is in cc) in subst (Contains row.held) same (copy_holds s.table row driver.Mirror c)
    of_copy k is c = absurd cc

    p : IsPlainNode s.table target
    p = (j.each row here).plain target (in_left row.held row.read target (of_copy row.kind copies (j.each row here).shape))

-- what a node shows is its flat disk, where it is no filter
module _ (s : State) (node : ℕ) (row : NodeRecord) (found : node_by_id s.table node ≡ Some row) (own : filter_role row.kind ≡ None) where
  own_row : is_settled s.table node ≡ row.is_settled
  own_row =
      ap (λ n. unwrap_or (option_map (λ (r : NodeRecord). r.is_settled) (node_by_id s.table n)) false) (own_disk s.table node row found own)
      ∙ ap (λ (o : Option NodeRecord). unwrap_or (option_map (λ (r : NodeRecord). r.is_settled) o) false) found

  pub shown_flat : (bytes : List ℕ) → ShowsDisk s node bytes → flat_disk_of s node ≡ Some bytes
  shown_flat bytes shows =
      let at = node_found s.table.nodes node row found in
      let is : is_settled s.table node ≡ true = own_row ∙ shows.settled row at.0 at.1 in
      let reads : bytes_at_node s node ≡ bytes = ap (bytes_in s.disks) (own_disk s.table node row found own) ∙ shows.reads in
      rw is (ap Some reads)

  pub none_flat : IsUnsettledAt s.table node → flat_disk_of s node ≡ None
  none_flat unsettled =
      let at = node_found s.table.nodes node row found in
      let is : is_settled s.table node ≡ false = own_row ∙ unsettled row at.0 at.1 in
      rw is refl

-- ---- mirrors

module _ (s : State) (row : JobRecord) (why : JobEnd) (target : ℕ) (j : JobsStand s.table) (here : Contains s.table.jobs row) (kind : row.kind ≡ Mirror)
    (is : row.target ≡ Some target) (done : is_done (outcome_of why) ≡ true) where
  abbrev moved : List Change
  moved = moves row Mirror (outcome_of why)

  moved_mild : AreMild moved
  moved_mild = mild_moves row (outcome_of why)

  moved_done : done_edits row (outcome_of why) ≡ moved ++ change.Settle target (OfNode row.source) ∷ []
  moved_done = mirror_settles row target (outcome_of why) kind is done

  abbrev ahead : List Change
  ahead = end_head row (outcome_of why) ∷ filter_gone row.filter ++ moves row Mirror (outcome_of why)

  source_plain : IsPlainNode s.table row.source
  source_plain = (j.each row here).plain row.source (in_left row.held row.read row.source (holds_source s.table row (j.each row here)))

  other_filter : row.filter ≢ Some row.source
  other_filter = plain_no_filter s.table j row.source source_plain row here

  -- the changes before the target is settled leave the source's row
  source_kept : kind_of (all_stepped s ahead).table row.source ≡ Some source_plain.row.kind
  source_kept =
      ap (λ (t : RunTable). kind_of t row.source) (stepped_table ahead s)
      ∙ changes_kind ahead s.table
      (all_mild_of_ends ahead (tt, mild-append (filter_gone row.filter) moved (mild_gone row.filter) moved_mild)) row.source (
        tt,
        others-append row.source (filter_gone row.filter) moved (others_gone row row.source other_filter)
            (others_moves row row.source other_filter (outcome_of why)),
      )
      ∙ ap (option_map (λ (r : NodeRecord). r.kind)) source_plain.there

  source_reads : bytes_at_node (all_stepped s ahead) row.source ≡ bytes_at_node s row.source
  source_reads =
      ap (λ ds. bytes_in ds (disk_node (all_stepped s ahead).table row.source))
      (between_disks s row why moved moved_mild target (OfNode row.source) moved_done)
      ∙ ap (bytes_in s.disks)
      (plain_disk (all_stepped s ahead).table row.source source_plain.row.kind source_kept source_plain.own
      ∙ sym (own_disk s.table row.source source_plain.row source_plain.there source_plain.own))

  pub mirror_shown : ShowsDisk (noted_end s row why) target (bytes_at_node s row.source)
  mirror_shown =
      subst (ShowsDisk (noted_end s row why) target) source_reads (shown s row why moved moved_mild target (OfNode row.source) moved_done)
