-- What a node reads behind a change, by what it read before.
use Rattle.std.proofs.Common.{◌≡◌, ◌≢◌, ◌⊎◌, ℕ, List, [], ◌∷◌, ◌++◌, refl, sym, ◌∙◌, ap, subst, inl, inr, Bool, true, false, cond, Option, Some, None, option_map}
use Rattle.std.specs.Prelude.{◌==◌, ◌&&◌, not, IsSome}
use Rattle.std.specs.List.{Contains, find}
use Rattle.std.proofs.lemmas.Bool.{false≢true, eqb-true, eqb-false}
use Rattle.blk_graph.specs.declared.edge.Edge.{Edge}
use Rattle.blk_graph.specs.declared.edge.Parent.{Parent}
use Rattle.blk_graph.specs.declared.edge.Parent.TheVariants.{Node, Guest, Job}
use Rattle.blk_graph.specs.declared.edge.Role.{Role}
use Rattle.blk_graph.specs.declared.edge.Role.TheVariants.{File, Backing, Filtered, Between}
use Rattle.blk_graph.specs.declared.kind.NodeKind.{NodeKind}
use Rattle.blk_graph.specs.Edges.{same_parent, same_role}
use Rattle.blk_graph.specs.Edits.{is_edge, child_of, child_moved, stays, filter_edge, with_edge, with_moved, with_replaced, without_edge, without_filter, without_parent}
use Rattle.blk_graph.specs.Permissions.{idle_uses, node_edge, job_edge}
use Rattle.blk_graph.specs.Refreshed.{refreshed}
use Rattle.blk_graph.proofs.ChildLemmas.{child-kept}
use Rattle.blk_graph.proofs.DraftLemmas.{children_put, children_removed, children_dropped, child_put, children_replaced, children_filter, child_without, children_without, without_none}
use Rattle.blk_graph.proofs.CycleLemmas.{and-left, and-right}
use Rattle.blk_graph.proofs.EditLemmas.{moved-parent, Contains-with_moved}
use Rattle.blk_graph.proofs.InverseLemmas.{same_parent-refl}
use Rattle.blk_graph.proofs.Members.{Contains-nil, Contains-cases, Contains-filter}
use Rattle.blk_graph.proofs.RefreshLemmas.{child_of-refreshed}
use Rattle.blk_graph.proofs.RoleLemmas.{same_role-true, same_role-refl}
use Rattle.qmp_rules.specs.declared.change.Change.{Change}
use Rattle.qmp_rules.specs.declared.change.Change.TheVariants as change
use Rattle.qmp_rules.specs.Changes.{changed, with_unsettled, without_record, with_format_edges, filtered_edges, device_edge}
use Rattle.qmp_rules.specs.Table.{RunTable, child, kinds_of}
use Rattle.flat_machine.proofs.Tables.{pushed-cases}
use Rattle.flat_machine.proofs.WritingKept.{role_edge}
use Rattle.job_chains.specs.Aside.{ReadsNext}

-- a role by which nodes read
pub record IsReading (role : Role) : Type 0 where
  pub single : role ≢ Between
  pub other : same_role File role ≡ false
  pub is : (role ≡ Backing) ⊎ (role ≡ Filtered)

pub backing_reads : IsReading Backing
backing_reads = record { single = λ bad. (let no : Backing ≡ Between = bad in cc no); other = refl; is = inl refl }

pub filtered_reads : IsReading Filtered
filtered_reads = record { single = λ bad. (let no : Filtered ≡ Between = bad in cc no); other = refl; is = inr refl }

pub reads_by : (t : RunTable) (n m : ℕ) (role : Role) → IsReading role → child t n role ≡ Some m → ReadsNext t n m
reads_by t n m role reading is = elim reading.is [
  | inl backing ↦ inl (sym (ap (child t n) backing) ∙ is)
  | inr filtered ↦ inr (sym (ap (child t n) filtered) ∙ is)
]

-- where each node has the children that it had
pub steps_by : (t now : RunTable) (n m : ℕ) (P : Type 0) → ((role : Role) → IsReading role → child now n role ≡ Some m → ReadsNext t n m ⊎ P) → ReadsNext now n m
    → ReadsNext t n m ⊎ P
steps_by t now n m P each (inl is) = each Backing backing_reads is
steps_by t now n m P each (inr is) = each Filtered filtered_reads is

pub steps_same : (t now : RunTable) (n m : ℕ) (P : Type 0) → ((role : Role) → IsReading role → child now n role ≡ child t n role) → ReadsNext now n m
    → ReadsNext t n m ⊎ P
steps_same t now n m P same = steps_by t now n m P (λ role reading is. inl (reads_by t n m role reading (sym (same role reading) ∙ is)))

-- ---- what is new of what nodes read

abbrev pub NewStep : RunTable → Change → ℕ → ℕ → Type 0
NewStep t (change.AddFormat row file backing) n m = (n ≡ row.id) × (backing ≡ Some m)
NewStep t (change.PutFilter row node) n m = ((n ≡ row.id) × (m ≡ node)) ⊎ ((m ≡ row.id) × ReadsNext t n node)
NewStep t (change.PullFilter filter) n m = (child t filter Filtered ≡ Some m) × ReadsNext t n filter
NewStep t (change.Rebase node backing) n m = (n ≡ node) × (backing ≡ Some m)
NewStep t (change.Attach overlay node) n m = (n ≡ overlay) × (m ≡ node)
NewStep t (change.Move from to but) n m = (m ≡ to) × ReadsNext t n from
NewStep t c n m = ⊥

-- a filter that is put is no node yet
abbrev pub StepFits : RunTable → Change → Type 0
StepFits t (change.PutFilter row node) = (role : Role) (m : ℕ) → child t row.id role ≡ Some m → ⊥
StepFits t c = Unit {0}

other_node : (a b : ℕ) → a ≢ b → Node a ≢ Node b
other_node a b other is = other (let both : Node a ≡ Node b = is in cc both)

-- ---- an edge of a node's is put

-- that of another role than those by which nodes read
file_kept : (edges : List Edge) (over file n : ℕ) (role : Role) → IsReading role
    → child_of (Node n) role (with_edge (node_edge over File file) edges) ≡ child_of (Node n) role edges
file_kept edges over file n role reading =
    children_put (node_edge over File file) edges (Node n) role (both (same_parent (Node over) (Node n)) (same_role File role) reading.other)
  where
    both : (a b : Bool) → b ≡ false → (a && b) ≡ false
    both true b h = h
    both false b h = refl

put_file : (kinds : List NodeKind) (edges : List Edge) (over file n : ℕ) (role : Role) → IsReading role
    → child_of (Node n) role (refreshed kinds (with_edge (node_edge over File file) edges)) ≡ child_of (Node n) role edges
put_file kinds edges over file n role reading =
    child_of-refreshed kinds (Node n) role (with_edge (node_edge over File file) edges)
    ∙ file_kept edges over file n role reading

-- that to its backing node
put_backing : (edges : List Edge) (over base n m : ℕ) (role : Role) → IsReading role
    → child_of (Node n) role (with_edge (node_edge over Backing base) edges) ≡ Some m
    → (child_of (Node n) role edges ≡ Some m) ⊎ ((n ≡ over) × (m ≡ base))
put_backing edges over base n m role reading is = elim reading.is [
  | inr filtered ↦ inl (sym (children_put (node_edge over Backing base) edges (Node n) role
      (both (same_parent (Node over) (Node n)) (same_role Backing role) (ap (same_role Backing) filtered))) ∙ is)
  | inl backing ↦ by_test backing (n == over) refl
]
  where
    both : (a b : Bool) → b ≡ false → (a && b) ≡ false
    both true b h = h
    both false b h = refl

    by_test : role ≡ Backing → (b : Bool) → (n == over) ≡ b → (child_of (Node n) role edges ≡ Some m) ⊎ ((n ≡ over) × (m ≡ base))
    by_test backing true same =
        let own : n ≡ over = eqb-true n over same in
        let both : Some base ≡ Some m =
        sym (child_put (node_edge over Backing base) edges (λ bad. let no : Backing ≡ Between = bad in cc no))
        ∙ ap (λ k. child_of (Node k) Backing (with_edge (node_edge over Backing base) edges)) (sym own)
        ∙ ap (λ (r : Role). child_of (Node n) r (with_edge (node_edge over Backing base) edges)) (sym backing) ∙ is in
        inr (own, cc both)
    by_test backing false other =
        inl (sym (child-kept (Node n) role (node_edge over Backing base) edges (other_node over n (λ same. eqb-false n over other (sym same)))) ∙ is)

-- ---- edges that go

-- a parent's
dropped : (edges : List Edge) (gone : Parent) (n : ℕ) (role : Role) (m : ℕ) → child_of (Node n) role (without_parent gone edges) ≡ Some m
    → child_of (Node n) role edges ≡ Some m
dropped edges gone n role m is = by_test (same_parent (Node n) gone) refl
  where
    none : (a : Bool) → a ≡ true → not a ≡ true → ⊥
    none true h k = false≢true k
    none false h k = false≢true h

    by_test : (b : Bool) → same_parent (Node n) gone ≡ b → child_of (Node n) role edges ≡ Some m
    by_test true own =
        let e = role_edge (Node n) role (without_parent gone edges) m is in
        let kept = Contains-filter (λ (x : Edge). not (same_parent x.parent gone)) edges e.edge e.there in
        absurd (none (same_parent e.edge.parent gone) (ap (λ p. same_parent p gone) e.from ∙ own) kept.1)
    by_test false other = sym (children_dropped gone edges (Node n) role other) ∙ is

-- a node's to its backing node
bare : (edges : List Edge) (gone n : ℕ) (role : Role) (m : ℕ) → child_of (Node n) role (without_edge (Node gone) Backing edges) ≡ Some m
    → child_of (Node n) role edges ≡ Some m
bare edges gone n role m is = by_test (same_parent (Node n) (Node gone) && same_role role Backing) refl
  where
    none : (a : Bool) → a ≡ true → not a ≡ true → ⊥
    none true h k = false≢true k
    none false h k = false≢true h

    by_test : (b : Bool) → (same_parent (Node n) (Node gone) && same_role role Backing) ≡ b → child_of (Node n) role edges ≡ Some m
    by_test true own =
        let e = role_edge (Node n) role (without_edge (Node gone) Backing edges) m is in
        let kept = Contains-filter (λ (x : Edge). not (is_edge (Node gone) Backing x)) edges e.edge e.there in
        absurd (none (is_edge (Node gone) Backing e.edge)
        (ap (λ p. same_parent p (Node gone) && same_role e.edge.role Backing) e.from ∙ ap (λ r. same_parent (Node n) (Node gone) && same_role r Backing) e.role_is ∙ own) kept.1)
    by_test false other = sym (children_removed (Node gone) Backing edges (Node n) role other) ∙ is

-- ---- edges that are sent elsewhere

sent : (o : Option ℕ) (from to m : ℕ) (moves : ℕ → Bool) → option_map (λ c. cond (c == from && moves c) to c) o ≡ Some m → (o ≡ Some m) ⊎ ((o ≡ Some from) × (m ≡ to))
sent None from to m moves is = absurd (let bad : None ≡ Some m = is in cc bad)
sent (Some c) from to m moves is = by_tests (c == from) refl (moves c) (let both : Some (cond (c == from && moves c) to c) ≡ Some m = is in cc both)
  where
    by_tests : (a : Bool) → (c == from) ≡ a → (b : Bool) → cond (a && b) to c ≡ m → (Some c ≡ Some m) ⊎ ((Some c ≡ Some from) × (m ≡ to))
    by_tests true own true at = inr (ap Some (eqb-true c from own), sym at)
    by_tests true own false at = inl (ap Some at)
    by_tests false own b at = inl (ap Some at)

moved_step : (o : Option ℕ) (from to m : ℕ) → option_map (child_moved from to) o ≡ Some m → (o ≡ Some m) ⊎ ((o ≡ Some from) × (m ≡ to))
moved_step None from to m is = absurd (let bad : None ≡ Some m = is in cc bad)
moved_step (Some c) from to m is = by_test (c == from) refl (let both : Some (cond (c == from) to c) ≡ Some m = is in cc both)
  where
    by_test : (a : Bool) → (c == from) ≡ a → cond a to c ≡ m → (Some c ≡ Some m) ⊎ ((Some c ≡ Some from) × (m ≡ to))
    by_test true own at = inr (ap Some (eqb-true c from own), sym at)
    by_test false own at = inl (ap Some at)

-- ---- the edge of a filter that is put

own_put : (edges : List Edge) (over node : ℕ) → ((role : Role) (m : ℕ) → child_of (Node over) role edges ≡ Some m → ⊥) → (role : Role) → IsReading role → (m : ℕ)
    → child_of (Node over) role (filtered_edges over node edges) ≡ Some m → m ≡ node
own_put edges over node none role reading m is =
    let e = role_edge (Node over) role (filtered_edges over node edges) m is in
    elim (pushed-cases (with_moved node over edges) (filter_edge over node idle_uses.perm idle_uses.shared) e.edge e.there) [
      | inr new ↦ sym e.to ∙ ap (λ (x : Edge). x.child) new
      | inl old ↦
          let r = Contains-with_moved node over edges e.edge old in
          let from : r.0.parent ≡ Node over = sym (moved-parent node over r.0) ∙ ap (λ (x : Edge). x.parent) (sym r.2) ∙ e.from in
          absurd (some r.0 r.1 from)
    ]
  where
    found : (x : Edge) → (es : List Edge) → Contains es x → is_edge (Node over) x.role x ≡ true → IsSome (child_of (Node over) x.role es)
    found x [] there own = absurd (Contains-nil x there)
    found x (e ∷ es) there own = by_test (is_edge (Node over) x.role e) refl (found x es) (Contains-cases e es x there)
      where
        by_test : (b : Bool) → is_edge (Node over) x.role e ≡ b → (Contains es x → is_edge (Node over) x.role x ≡ true → IsSome (child_of (Node over) x.role es)) → (x ≡ e) ⊎ Contains es x
            → IsSome (option_map (λ (y : Edge). y.child) (cond b (Some e) (find (is_edge (Node over) x.role) es)))
        by_test true is more at = refl
        by_test false is more (inl here) = absurd (false≢true (sym is ∙ ap (is_edge (Node over) x.role) (sym here) ∙ own))
        by_test false is more (inr behind) = more behind own

    some : (x : Edge) → Contains edges x → x.parent ≡ Node over → ⊥
    some x there from = by_child (child_of (Node over) x.role edges) refl (found x edges there (own x from))
      where
        own : (x : Edge) → x.parent ≡ Node over → is_edge (Node over) x.role x ≡ true
        own x from = ap (λ p. same_parent p (Node over) && same_role x.role x.role) from ∙ rw (same_parent-refl (Node over), same_role-refl x.role) refl

        by_child : (o : Option ℕ) → child_of (Node over) x.role edges ≡ o → IsSome o → ⊥
        by_child None e is = absurd cc
        by_child (Some k) e is = none x.role k e

-- ---- each change

module _ (t : RunTable) (n m : ℕ) where
  abbrev Was : Change → Type 0
  Was c = ReadsNext t n m ⊎ NewStep t c n m

  old : (c : Change) (role : Role) → IsReading role → child t n role ≡ Some m → Was c
  old c role reading is = inl (reads_by t n m role reading is)

  -- the edges are those of before
  derived : (c : Change) (kinds : List NodeKind) → (changed t c).edges ≡ refreshed kinds t.edges → (role : Role) → IsReading role → child (changed t c) n role ≡ Some m → Was c
  derived c kinds edges role reading is =
      old c role reading (sym (child_of-refreshed kinds (Node n) role t.edges) ∙ ap (child_of (Node n) role) (sym edges) ∙ is)

  pub step_back : (c : Change) → StepFits t c → ReadsNext (changed t c) n m → Was c
  unfolding changed
  step_back change.Negotiate fits is = inl is
  step_back (change.KeepId id) fits is = inl is
  step_back (change.DropId id) fits is = inl is
  step_back (change.MakeFile name size) fits is = inl is
  step_back (change.FormatFile node name size backing_file backing_fmt) fits is = inl is
  step_back (change.SpoilFile name) fits is = inl is
  step_back (change.UseFile name) fits is = inl is
  step_back (change.AddFile row) fits is = steps_by t (changed t (change.AddFile row)) n m ⊥ (derived (change.AddFile row) _ refl) is
  step_back (change.AddFormat row file backing) fits is = steps_by t (changed t (change.AddFormat row file backing)) n m _ (format row.id file backing) is
    where
      format : (id file : ℕ) (b : Option ℕ) (role : Role) → IsReading role
          → child_of (Node n) role (refreshed (kinds_of (with_unsettled file t.nodes ++ row ∷ [])) (with_format_edges id file b t.edges)) ≡ Some m
          → ReadsNext t n m ⊎ ((n ≡ id) × (b ≡ Some m))
      format id file None role reading at =
          inl (reads_by t n m role reading (sym (put_file (kinds_of (with_unsettled file t.nodes ++ row ∷ [])) t.edges id file n role reading) ∙ at))
      format id file (Some base) role reading at = elim
          (put_backing (with_edge (node_edge id File file) t.edges) id base n m role reading
          (sym (child_of-refreshed (kinds_of (with_unsettled file t.nodes ++ row ∷ [])) (Node n) role (with_format_edges id file (Some base) t.edges)) ∙ at)) [
            | inl was ↦ inl (reads_by t n m role reading (sym (file_kept t.edges id file n role reading) ∙ was))
            | inr own ↦ inr (own.0, ap Some (sym own.1))
          ]
  step_back (change.AddFilter row under) fits is =
      steps_same t (changed t (change.AddFilter row under)) n m ⊥ (λ role reading. put_file (kinds_of (t.nodes ++ row ∷ [])) t.edges row.id under n role reading) is
  step_back (change.RemoveNode node) fits is =
      steps_by t (changed t (change.RemoveNode node)) n m ⊥ (λ role reading at.
      inl (reads_by t n m role reading
      (dropped t.edges (Node node) n role m (sym (child_of-refreshed (kinds_of (without_record node t.nodes)) (Node n) role (without_parent (Node node) t.edges)) ∙ at)))) is
  step_back (change.Unsettle node) fits is = inl is
  step_back (change.MakeWritable node) fits is =
      steps_by t (changed t (change.MakeWritable node)) n m ⊥ (derived (change.MakeWritable node) _ refl) is
  step_back (change.PutFilter row node) fits is =
      steps_by t (changed t (change.PutFilter row node)) n m _ (λ role reading at.
      put role reading (sym (child_of-refreshed (kinds_of (t.nodes ++ row ∷ [])) (Node n) role (filtered_edges row.id node t.edges)) ∙ at)) is
    where
      put : (role : Role) → IsReading role → child_of (Node n) role (filtered_edges row.id node t.edges) ≡ Some m
          → ReadsNext t n m ⊎ (((n ≡ row.id) × (m ≡ node)) ⊎ ((m ≡ row.id) × ReadsNext t n node))
      put role reading at = by_test (n == row.id) refl
        where
          by_test : (b : Bool) → (n == row.id) ≡ b → ReadsNext t n m ⊎ (((n ≡ row.id) × (m ≡ node)) ⊎ ((m ≡ row.id) × ReadsNext t n node))
          by_test true own =
              let same : n ≡ row.id = eqb-true n row.id own in
              inr (inl (same, own_put t.edges row.id node (λ r k. fits r k) role reading m (subst (λ k. child_of (Node k) role (filtered_edges row.id node t.edges) ≡ Some m) same at)))
          by_test false other = elim
              (moved_step (child t n role) node row.id m
              (sym (children_filter node row.id idle_uses.perm idle_uses.shared t.edges (Node n) role reading.single (other_node n row.id (eqb-false n row.id other))) ∙ at)) [
                | inl was ↦ inl (reads_by t n m role reading was)
                | inr over ↦ inr (inr (over.1, reads_by t n node role reading over.0))
              ]
  step_back (change.UseNode slot what node) fits is =
      steps_same t (changed t (change.UseNode slot what node)) n m ⊥ (λ role reading.
      child_of-refreshed (kinds_of t.nodes) (Node n) role (with_edge (job_edge slot what node) t.edges)
      ∙ child-kept (Node n) role (job_edge slot what node) t.edges (λ bad. let no : Job slot ≡ Node n = bad in cc no)) is
  step_back (change.StartJob row) fits is = inl is
  step_back (change.AskJob number new) fits is = inl is
  step_back (change.ReadyJob number) fits is = inl is
  step_back (change.EndJob number slot drops) fits is =
      steps_by t (changed t (change.EndJob number slot drops)) n m ⊥ (λ role reading at.
      inl (reads_by t n m role reading
      (dropped t.edges (Job slot) n role m (sym (child_of-refreshed (kinds_of t.nodes) (Node n) role (without_parent (Job slot) t.edges)) ∙ at)))) is
  step_back (change.PullFilter filter) fits is =
      steps_by t (changed t (change.PullFilter filter)) n m _ (λ role reading at.
      pull role reading (sym (child_of-refreshed (kinds_of (without_record filter t.nodes)) (Node n) role (without_filter filter t.edges)) ∙ at)) is
    where
      pull : (role : Role) → IsReading role → child_of (Node n) role (without_filter filter t.edges) ≡ Some m
          → ReadsNext t n m ⊎ ((child t filter Filtered ≡ Some m) × ReadsNext t n filter)
      pull role reading at = by_child (child t filter Filtered) refl
        where
          by_child : (o : Option ℕ) → child t filter Filtered ≡ o → ReadsNext t n m ⊎ ((child t filter Filtered ≡ Some m) × ReadsNext t n filter)
          by_child None none =
              inl (reads_by t n m role reading (subst (λ es. child_of (Node n) role es ≡ Some m) (without_none filter t.edges none) at))
          by_child (Some below) over = by_own (same_parent (Node n) (Node filter) && same_role role Filtered) refl
            where
              by_own : (b : Bool) → (same_parent (Node n) (Node filter) && same_role role Filtered) ≡ b → ReadsNext t n m ⊎ ((child t filter Filtered ≡ Some m) × ReadsNext t n filter)
              by_own true own =
                  let parent : n ≡ filter = eqb-true n filter (and-left (n == filter) (same_role role Filtered) own) in
                  let filtered : role ≡ Filtered = same_role-true role Filtered (and-right (n == filter) (same_role role Filtered) own) in
                  let bad : None ≡ Some m =
                  sym (child_without filter t.edges) ∙ ap (λ k. child_of (Node k) Filtered (without_filter filter t.edges)) (sym parent)
                  ∙ ap (λ (r : Role). child_of (Node n) r (without_filter filter t.edges)) (sym filtered) ∙ at in
                  absurd (cc bad)
              by_own false other = elim
                  (moved_step (child t n role) filter below m (sym (children_without filter t.edges below over (Node n) role reading.single other) ∙ at)) [
                    | inl was ↦ inl (reads_by t n m role reading was)
                    | inr through ↦ inr (over ∙ ap Some (sym through.1), reads_by t n filter role reading through.0)
                  ]
  step_back (change.Rebase node None) fits is =
      steps_by t (changed t (change.Rebase node None)) n m _ (λ role reading at.
      inl (reads_by t n m role reading
      (bare t.edges node n role m (sym (child_of-refreshed (kinds_of t.nodes) (Node n) role (without_edge (Node node) Backing t.edges)) ∙ at)))) is
  step_back (change.Rebase node (Some base)) fits is =
      steps_by t (changed t (change.Rebase node (Some base))) n m _ (λ role reading at. elim
      (put_backing t.edges node base n m role reading
      (sym (child_of-refreshed (kinds_of t.nodes) (Node n) role (with_edge (node_edge node Backing base) t.edges)) ∙ at)) [
        | inl was ↦ inl (reads_by t n m role reading was)
        | inr own ↦ inr (own.0, ap Some (sym own.1))
      ]) is
  step_back (change.Settle node disk) fits is = inl is
  step_back (change.MakeReadOnly node) fits is =
      steps_by t (changed t (change.MakeReadOnly node)) n m ⊥ (derived (change.MakeReadOnly node) _ refl) is
  step_back (change.AddDevice device node) fits is =
      steps_same t (changed t (change.AddDevice device node)) n m ⊥ (λ role reading.
      child_of-refreshed (kinds_of t.nodes) (Node n) role (with_edge (device_edge device node) t.edges)
      ∙ child-kept (Node n) role (device_edge device node) t.edges (λ bad. let no : Guest device.number ≡ Node n = bad in cc no)) is
  step_back (change.RemoveDevice number) fits is =
      steps_by t (changed t (change.RemoveDevice number)) n m ⊥ (λ role reading at.
      inl (reads_by t n m role reading
      (dropped t.edges (Guest number) n role m (sym (child_of-refreshed (kinds_of t.nodes) (Node n) role (without_parent (Guest number) t.edges)) ∙ at)))) is
  step_back (change.Attach overlay node) fits is =
      steps_by t (changed t (change.Attach overlay node)) n m _ (λ role reading at. elim
      (put_backing t.edges overlay node n m role reading
      (sym (child_of-refreshed (kinds_of t.nodes) (Node n) role (with_edge (node_edge overlay Backing node) t.edges)) ∙ at)) [
        | inl was ↦ inl (reads_by t n m role reading was)
        | inr own ↦ inr own
      ]) is
  step_back (change.Move from to but) fits is =
      steps_by t (changed t (change.Move from to but)) n m _ (λ role reading at. elim
      (sent (child t n role) from to m (λ c. not (stays (Some (Node but)) (Node n)))
      (sym (children_replaced from to (Some (Node but)) t.edges (Node n) role)
      ∙ sym (child_of-refreshed (kinds_of t.nodes) (Node n) role (with_replaced from to (Some (Node but)) t.edges)) ∙ at)) [
        | inl was ↦ inl (reads_by t n m role reading was)
        | inr through ↦ inr (through.1, reads_by t n from role reading through.0)
      ]) is
  step_back (change.AddBitmap row) fits is = inl is
  step_back (change.RemoveBitmap node name) fits is = inl is
  step_back (change.TurnBitmap node name on) fits is = inl is
  step_back (change.ClearBitmap node name) fits is = inl is
  step_back (change.MergeBitmap node name source_node source) fits is = inl is
