-- Nodes along a chain keep one size behind changes.
use Rattle.std.proofs.Common.{◌≡◌, ◌≢◌, ◌⊎◌, ℕ, List, [], ◌∷◌, ◌++◌, map, refl, sym, ◌∙◌, ap, subst, inl, inr, Bool, true, false, cond, Option, Some, None}
use Rattle.std.specs.Prelude.{◌==◌, ◌&&◌, not}
use Rattle.std.specs.Option.{option_map}
use Rattle.std.specs.List.{Contains, find, filter}
use Rattle.std.proofs.lemmas.Bool.{eqb-true, eq-eqb, false≢true}
use Rattle.blk_graph.specs.declared.edge.Edge.{Edge}
use Rattle.blk_graph.specs.declared.edge.Parent.{Parent}
use Rattle.blk_graph.specs.declared.edge.Parent.TheVariants.{Node, Guest, Job}
use Rattle.blk_graph.specs.declared.edge.Role.{Role}
use Rattle.blk_graph.specs.declared.edge.Role.TheVariants.{File, Backing, Filtered}
use Rattle.blk_graph.specs.declared.kind.NodeKind.{NodeKind}
use Rattle.blk_graph.specs.Edges.{same_parent, same_role}
use Rattle.blk_graph.specs.Edits.{with_edge, with_child, is_edge, is_filters, but_filters, filter_edge, moved, with_moved, stays, replaced, without_filter, without_parent}
use Rattle.blk_graph.specs.Permissions.{idle_uses, node_edge, job_edge}
use Rattle.blk_graph.specs.Refreshed.{refreshed}
use Rattle.blk_graph.proofs.CycleLemmas.{and-left, and-right, same_parent-true}
use Rattle.blk_graph.proofs.EditLemmas.{Contains-with_edge, Contains-with_moved, moved-cases}
use Rattle.blk_graph.proofs.InverseLemmas.{same_parent-refl}
use Rattle.blk_graph.proofs.Members.{Contains-filter, Contains-map, find-Some}
use Rattle.blk_graph.proofs.RoleLemmas.{same_role-true}
use Rattle.qmp_rules.specs.declared.change.Change.{Change}
use Rattle.qmp_rules.specs.declared.change.Change.TheVariants as change
use Rattle.qmp_rules.specs.declared.rows.NodeRecord.{NodeRecord}
use Rattle.qmp_rules.specs.Changes.{changed, all_changed, node_changed, unsettled, with_backing, with_backing_edge, device_edge, filtered_edges}
use Rattle.qmp_rules.specs.Table.{RunTable, node_by_id, child, kinds_of}
use Rattle.flat_machine.specs.Suiting.{HaveOneSize, IsAlone}
use Rattle.flat_machine.proofs.Fresh.{found-longer, found-new}
use Rattle.flat_machine.proofs.Tables.{pushed-cases, refreshed-old}
use Rattle.job_tables.proofs.NodeKinds.{found_mapped}
use Rattle.job_tables.proofs.TargetEdges.{LeavesNode, one_size_kept}
use Rattle.job_chains.specs.Sizes.{GoesOn, ChainsHaveOneSize}

-- ---- two nodes of one size

pub one_size_back : (t : RunTable) (a b : ℕ) → HaveOneSize t a b → HaveOneSize t b a
one_size_back t a b s = record { row = s.other; other = s.row; found = s.other_found; other_found = s.found; same = sym s.same }

pub one_size_then : (t : RunTable) (a b c : ℕ) → HaveOneSize t a b → HaveOneSize t b c → HaveOneSize t a c
one_size_then t a b c ab bc =
    let both : Some ab.other ≡ Some bc.row = sym ab.other_found ∙ bc.found in
    let one : ab.other ≡ bc.row = cc in
    record { row = ab.row; other = bc.other; found = ab.found; other_found = bc.other_found; same = ab.same ∙ ap (λ (r : NodeRecord). r.size) one ∙ bc.same }

-- a node is there, and has this size
pub record HasSize (t : RunTable) (node size : ℕ) : Type 0 where
  pub row : NodeRecord
  pub found : node_by_id t node ≡ Some row
  pub is : size ≡ row.size

-- ---- edges of one size

-- the edges of this list along which chains go on lead from one node of the table to another of its size
abbrev pub AreSized : RunTable → List Edge → Type 0
AreSized t edges = (e : Edge) (over : ℕ) → Contains edges e → e.parent ≡ Node over → GoesOn e.role → HaveOneSize t over e.child

goes_cases : (role : Role) → GoesOn role → (role ≡ Backing) ⊎ (role ≡ Filtered)
goes_cases Backing g = inl refl
goes_cases Filtered g = inr refl
goes_cases role g = absurd g

sized_derived : (t : RunTable) (kinds : List NodeKind) (edges : List Edge) → AreSized t edges → AreSized t (refreshed kinds edges)
sized_derived t kinds edges s e over there from goes =
    let x = refreshed-old kinds edges e there in
    subst (HaveOneSize t over) x.same.child (s x.edge over x.there (x.same.parent ∙ from) (subst GoesOn (sym x.same.role) goes))

sized_fewer : (t : RunTable) (p : Edge → Bool) (edges : List Edge) → AreSized t edges → AreSized t (filter p edges)
sized_fewer t p edges s e over there from goes = s e over (Contains-filter p edges e there).0 from goes

sized_with : (t : RunTable) (new : Edge) (edges : List Edge) → ((over : ℕ) → new.parent ≡ Node over → GoesOn new.role → HaveOneSize t over new.child)
    → AreSized t edges → AreSized t (with_edge new edges)
sized_with t new edges own s e over there from goes = elim (Contains-with_edge new edges e there) [
  | inl same ↦
      subst (λ (x : Edge). HaveOneSize t over x.child) (sym same)
      (own over (subst (λ (x : Edge). x.parent ≡ Node over) same from) (subst (λ (x : Edge). GoesOn x.role) same goes))
  | inr old ↦ s e over old from goes
]

-- a node's new backing node has its size
sized_backed : (t : RunTable) (node base : ℕ) (edges : List Edge) → HaveOneSize t node base → AreSized t edges
    → AreSized t (with_edge (node_edge node Backing base) edges)
sized_backed t node base edges one s =
    sized_with t (node_edge node Backing base) edges (λ over from goes. let same : node ≡ over = cc in subst (λ n. HaveOneSize t n base) same one) s

sized_moved : (t : RunTable) (from to : ℕ) (edges : List Edge) → HaveOneSize t from to → AreSized t edges → AreSized t (with_moved from to edges)
sized_moved t from to edges one s e over there at goes = by_case (moved-cases from to r.0)
  where
    r : (x : Edge) × Contains edges x × (e ≡ moved from to x)
    r = Contains-with_moved from to edges e there

    by_case : ((r.0.child ≡ from) × (moved from to r.0 ≡ with_child to r.0)) ⊎ ((r.0.child ≢ from) × (moved from to r.0 ≡ r.0)) → HaveOneSize t over e.child
    by_case (inl m) =
        let is : e ≡ with_child to r.0 = r.2 ∙ m.1 in
        let before : HaveOneSize t over r.0.child = s r.0 over r.1 (sym (ap (λ (x : Edge). x.parent) is) ∙ at) (subst (λ (x : Edge). GoesOn x.role) is goes) in
        subst (HaveOneSize t over) (sym (ap (λ (x : Edge). x.child) is)) (one_size_then t over from to (subst (HaveOneSize t over) m.0 before) one)
    by_case (inr m) =
        let is : e ≡ r.0 = r.2 ∙ m.1 in
        subst (λ (x : Edge). HaveOneSize t over x.child) (sym is)
        (s r.0 over r.1 (sym (ap (λ (x : Edge). x.parent) is) ∙ at) (subst (λ (x : Edge). GoesOn x.role) is goes))

replaced-led : (from to : ℕ) (but : Option Parent) (e : Edge)
    → ((e.child ≡ from) × (replaced from to but e ≡ with_child to e)) ⊎ (replaced from to but e ≡ e)
replaced-led from to but e = by_test (e.child == from && not (stays but e.parent)) refl
  where
    by_test : (b : Bool) → (e.child == from && not (stays but e.parent)) ≡ b
        → ((e.child ≡ from) × (cond b (with_child to e) e ≡ with_child to e)) ⊎ (cond b (with_child to e) e ≡ e)
    by_test true h = inl (eqb-true e.child from (and-left (e.child == from) (not (stays but e.parent)) h), refl)
    by_test false h = inr refl

sized_replaced : (t : RunTable) (from to : ℕ) (but : Option Parent) (edges : List Edge) → HaveOneSize t from to → AreSized t edges
    → AreSized t (map (replaced from to but) edges)
sized_replaced t from to but edges one s e over there at goes = by_case (replaced-led from to but r.0)
  where
    r : (x : Edge) × Contains edges x × (e ≡ replaced from to but x)
    r = Contains-map (replaced from to but) edges e there

    by_case : ((r.0.child ≡ from) × (replaced from to but r.0 ≡ with_child to r.0)) ⊎ (replaced from to but r.0 ≡ r.0) → HaveOneSize t over e.child
    by_case (inl m) =
        let is : e ≡ with_child to r.0 = r.2 ∙ m.1 in
        let before : HaveOneSize t over r.0.child = s r.0 over r.1 (sym (ap (λ (x : Edge). x.parent) is) ∙ at) (subst (λ (x : Edge). GoesOn x.role) is goes) in
        subst (HaveOneSize t over) (sym (ap (λ (x : Edge). x.child) is)) (one_size_then t over from to (subst (HaveOneSize t over) m.0 before) one)
    by_case (inr m) =
        let is : e ≡ r.0 = r.2 ∙ m in
        subst (λ (x : Edge). HaveOneSize t over x.child) (sym is)
        (s r.0 over r.1 (sym (ap (λ (x : Edge). x.parent) is) ∙ at) (subst (λ (x : Edge). GoesOn x.role) is goes))

-- ---- nodes stay

sized_later : (t : RunTable) (c : Change) (edges : List Edge)
    → ((e : Edge) (over : ℕ) → Contains edges e → e.parent ≡ Node over → GoesOn e.role → LeavesNode c over × LeavesNode c e.child) → AreSized t edges
    → AreSized (changed t c) edges
sized_later t c edges leaves s e over there from goes =
    let l = leaves e over there from goes in
    one_size_kept t c over e.child l.0 l.1 (s e over there from goes)

-- ---- what each change is asked

-- A filter goes that is over another node, and has no backing node.
pub record PullsSized (t : RunTable) (filter : ℕ) : Type 0 where
  pub below : ℕ
  pub over : child t filter Filtered ≡ Some below
  pub other : below ≢ filter
  pub bare : (e : Edge) → Contains t.edges e → e.parent ≡ Node filter → e.role ≢ Backing

abbrev pub KeepsSizes : RunTable → Change → Type 0
KeepsSizes t (change.AddFormat row file backing) = (node_by_id t row.id ≡ None) × ((node : ℕ) → backing ≡ Some node → HasSize t node row.size)
KeepsSizes t (change.RemoveNode node) = IsAlone t node
KeepsSizes t (change.PutFilter row node) = (node_by_id t row.id ≡ None) × HasSize t node row.size
KeepsSizes t (change.PullFilter filter) = PullsSized t filter
KeepsSizes t (change.Rebase node backing) = (base : ℕ) → backing ≡ Some base → HaveOneSize t node base
KeepsSizes t (change.Attach overlay node) = HaveOneSize t overlay node
KeepsSizes t (change.Move from to but) = HaveOneSize t from to
KeepsSizes t c = Unit {0}

-- ---- new nodes

new_found : (nodes : List NodeRecord) (new : NodeRecord) → find (λ (r : NodeRecord). r.id == new.id) nodes ≡ None
    → find (λ (r : NodeRecord). r.id == new.id) (nodes ++ new ∷ []) ≡ Some new
new_found nodes new none = found-new (λ (r : NodeRecord). r.id == new.id) nodes new none (eq-eqb new.id new.id refl)

put_size : (t : RunTable) (new : NodeRecord) (node : ℕ) → node_by_id t new.id ≡ None → HasSize t node new.size
    → HaveOneSize (changed t (change.PutFilter new node)) new.id node
unfolding changed
put_size t new node fresh s = record {
  row = new;
  other = s.row;
  found = new_found t.nodes new fresh;
  other_found = found-longer (λ (r : NodeRecord). r.id == node) t.nodes new s.row s.found;
  same = s.is;
}

-- a row that changes in something else keeps its id and its size
pub row_keeps : (id : ℕ) (f : NodeRecord → NodeRecord) (row : NodeRecord) → ((f row).id ≡ row.id) × ((f row).size ≡ row.size)
    → ((node_changed id f row).id ≡ row.id) × ((node_changed id f row).size ≡ row.size)
row_keeps id f row keeps = by_test (row.id == id)
  where
    by_test : (b : Bool) → ((cond b (f row) row).id ≡ row.id) × ((cond b (f row) row).size ≡ row.size)
    by_test true = keeps
    by_test false = (refl, refl)

format_size : (t : RunTable) (new : NodeRecord) (file node : ℕ) (backing : Option ℕ) → node_by_id t new.id ≡ None → HasSize t node new.size
    → HaveOneSize (changed t (change.AddFormat new file backing)) new.id node
unfolding changed
format_size t new file node backing fresh s = record {
  row = new;
  other = node_changed file unsettled s.row;
  found = new_found rows new (found new.id ∙ ap (option_map (node_changed file unsettled)) fresh);
  other_found =
      found-longer (λ (r : NodeRecord). r.id == node) rows new (node_changed file unsettled s.row)
      (found node ∙ ap (option_map (node_changed file unsettled)) s.found);
  same = s.is ∙ sym (row_keeps file unsettled s.row (refl, refl)).1;
}
  where
    rows : List NodeRecord
    rows = map (node_changed file unsettled) t.nodes

    found : (id : ℕ) → find (λ (r : NodeRecord). r.id == id) rows ≡ option_map (node_changed file unsettled) (node_by_id t id)
    found id = found_mapped t (record t { nodes = rows }) (node_changed file unsettled) (λ r. (row_keeps file unsettled r (refl, refl)).0) refl id

-- ---- one change

pulled_size : (t : RunTable) (filter : ℕ) → PullsSized t filter → ChainsHaveOneSize t → AreSized (changed t (change.PullFilter filter)) (without_filter filter t.edges)
pulled_size t filter p s = by_found (find (is_filters filter) t.edges) refl
  where
    by_found : (found : Option Edge) → find (is_filters filter) t.edges ≡ found
        → AreSized (changed t (change.PullFilter filter))
        (elim found as (λ _. List Edge) [ None ↦ t.edges | Some own ↦ with_moved filter own.child (but_filters filter t.edges) ])
    by_found None is = absurd (let bad : None ≡ Some p.below = sym (ap (option_map (λ (e : Edge). e.child)) is) ∙ p.over in cc bad)
    by_found (Some own) is =
        sized_later t (change.PullFilter filter) (with_moved filter own.child (but_filters filter t.edges)) apart
        (sized_moved t filter own.child (but_filters filter t.edges) one (sized_fewer t (λ e. not (is_filters filter e)) t.edges s))
      where
        below : own.child ≡ p.below
        below = let both : Some own.child ≡ Some p.below = sym (ap (option_map (λ (e : Edge). e.child)) is) ∙ p.over in cc

        at : Contains t.edges own × (is_filters filter own ≡ true)
        at = find-Some (is_filters filter) t.edges own is

        one : HaveOneSize t filter own.child
        one =
            s own filter at.0 (same_parent-true own.parent (Node filter) (and-left (same_parent own.parent (Node filter)) (same_role own.role Filtered) at.1))
            (subst GoesOn (sym (same_role-true own.role Filtered (and-right (same_parent own.parent (Node filter)) (same_role own.role Filtered) at.1))) tt)

        not_child : (e : Edge) → Contains (with_moved filter own.child (but_filters filter t.edges)) e → filter ≢ e.child
        not_child e there same =
            let r = Contains-with_moved filter own.child (but_filters filter t.edges) e there in
            elim (moved-cases filter own.child r.0) [
              | inl m ↦ p.other (sym below ∙ sym (ap (λ (x : Edge). x.child) (r.2 ∙ m.1)) ∙ sym same)
              | inr m ↦ m.0 (sym (ap (λ (x : Edge). x.child) (r.2 ∙ m.1)) ∙ sym same)
            ]

        not_over : (e : Edge) (over : ℕ) → Contains (with_moved filter own.child (but_filters filter t.edges)) e → e.parent ≡ Node over → GoesOn e.role
            → filter ≢ over
        not_over e over there from goes same =
            let r = Contains-with_moved filter own.child (but_filters filter t.edges) e there in
            let old = Contains-filter (λ x. not (is_filters filter x)) t.edges r.0 r.1 in
            elim (moved-cases filter own.child r.0) [
              | inl m ↦ by_edge r.0 old.0 old.1 (sym (ap (λ (x : Edge). x.parent) (r.2 ∙ m.1)) ∙ from ∙ ap Node (sym same))
                  (subst (λ (x : Edge). GoesOn x.role) (r.2 ∙ m.1) goes)
              | inr m ↦ by_edge r.0 old.0 old.1 (sym (ap (λ (x : Edge). x.parent) (r.2 ∙ m.1)) ∙ from ∙ ap Node (sym same))
                  (subst (λ (x : Edge). GoesOn x.role) (r.2 ∙ m.1) goes)
            ]
          where
            by_edge : (x : Edge) → Contains t.edges x → not (is_filters filter x) ≡ true → x.parent ≡ Node filter → GoesOn x.role → ⊥
            by_edge x there stays from goes = elim (goes_cases x.role goes) [
              | inl back ↦ p.bare x there from back
              | inr down ↦
                  let own : is_filters filter x ≡ true = rw (from, down) (ap (λ b. b && true) (same_parent-refl (Node filter))) in
                  false≢true (sym (ap not own) ∙ stays)
            ]

        apart : (e : Edge) (over : ℕ) → Contains (with_moved filter own.child (but_filters filter t.edges)) e → e.parent ≡ Node over → GoesOn e.role
            → (filter ≢ over) × (filter ≢ e.child)
        apart e over there from goes = (not_over e over there from goes, not_child e there)

put_sized : (t : RunTable) (new : NodeRecord) (node : ℕ) → HaveOneSize (changed t (change.PutFilter new node)) new.id node → ChainsHaveOneSize t
    → AreSized (changed t (change.PutFilter new node)) (filtered_edges new.id node t.edges)
put_sized t new node one s e over there from goes =
    elim (pushed-cases (with_moved node new.id t.edges) (filter_edge new.id node idle_uses.perm idle_uses.shared) e there) [
      | inl old ↦
          sized_moved now node new.id t.edges (one_size_back now new.id node one)
          (sized_later t (change.PutFilter new node) t.edges (λ x n in_x at g. (tt, tt)) s) e over old from goes
      | inr own ↦
          let id : Node new.id ≡ Node over = sym (ap (λ (x : Edge). x.parent) own) ∙ from in
          let same : new.id ≡ over = cc id in
          subst (λ (x : Edge). HaveOneSize now over x.child) (sym own) (subst (λ n. HaveOneSize now n node) same one)
    ]
  where
    now : RunTable
    now = changed t (change.PutFilter new node)

pub change_sized : (t : RunTable) (c : Change) → KeepsSizes t c → ChainsHaveOneSize t → ChainsHaveOneSize (changed t c)
unfolding changed
change_sized t (change.AddFile new) k s =
    sized_derived (changed t (change.AddFile new)) (kinds_of (t.nodes ++ new ∷ [])) t.edges
    (sized_later t (change.AddFile new) t.edges (λ e over there from goes. (tt, tt)) s)
change_sized t (change.AddFormat new file backing) k s =
    let now : RunTable = changed t (change.AddFormat new file backing) in
    sized_derived now (kinds_of now.nodes) (with_backing_edge new.id backing (with_edge (node_edge new.id File file) t.edges))
    (by_backing now backing (λ node is. format_size t new file node backing k.0 (k.1 node is))
    (sized_with now (node_edge new.id File file) t.edges (λ over from goes. absurd goes)
    (sized_later t (change.AddFormat new file backing) t.edges (λ e over there from goes. (tt, tt)) s)))
  where
    by_backing : (now : RunTable) (back : Option ℕ) → ((node : ℕ) → back ≡ Some node → HaveOneSize now new.id node)
        → AreSized now (with_edge (node_edge new.id File file) t.edges)
        → AreSized now (with_backing_edge new.id back (with_edge (node_edge new.id File file) t.edges))
    by_backing now None one x = x
    by_backing now (Some node) one x = sized_backed now new.id node (with_edge (node_edge new.id File file) t.edges) (one node refl) x
change_sized t (change.AddFilter new node) k s =
    let now : RunTable = changed t (change.AddFilter new node) in
    sized_derived now (kinds_of now.nodes) (with_edge (node_edge new.id File node) t.edges)
    (sized_with now (node_edge new.id File node) t.edges (λ over from goes. absurd goes)
    (sized_later t (change.AddFilter new node) t.edges (λ e over there from goes. (tt, tt)) s))
change_sized t (change.RemoveNode node) k s =
    let now : RunTable = changed t (change.RemoveNode node) in
    sized_derived now (kinds_of now.nodes) (without_parent (Node node) t.edges)
    (sized_later t (change.RemoveNode node) (without_parent (Node node) t.edges)
    (λ e over there from goes.
    let old = Contains-filter (λ x. not (same_parent x.parent (Node node))) t.edges e there in
    (λ same. no_parent e.parent node (from ∙ ap Node (sym same)) old.1, λ same. k e old.0 (sym same)))
    (sized_fewer t (λ x. not (same_parent x.parent (Node node))) t.edges s))
  where
    no_parent : (p : Parent) (node : ℕ) → p ≡ Node node → not (same_parent p (Node node)) ≡ true → ⊥
    no_parent p node is left = false≢true (sym (ap not (ap (λ x. same_parent x (Node node)) is ∙ same_parent-refl (Node node))) ∙ left)
change_sized t (change.MakeWritable node) k s =
    let now : RunTable = changed t (change.MakeWritable node) in
    sized_derived now (kinds_of now.nodes) t.edges (sized_later t (change.MakeWritable node) t.edges (λ e over there from goes. (tt, tt)) s)
change_sized t (change.MakeReadOnly node) k s =
    let now : RunTable = changed t (change.MakeReadOnly node) in
    sized_derived now (kinds_of now.nodes) t.edges (sized_later t (change.MakeReadOnly node) t.edges (λ e over there from goes. (tt, tt)) s)
change_sized t (change.PutFilter new node) k s =
    let now : RunTable = changed t (change.PutFilter new node) in
    sized_derived now (kinds_of now.nodes) (filtered_edges new.id node t.edges) (put_sized t new node (put_size t new node k.0 k.1) s)
change_sized t (change.PullFilter filter) k s =
    let now : RunTable = changed t (change.PullFilter filter) in
    sized_derived now (kinds_of now.nodes) (without_filter filter t.edges) (pulled_size t filter k s)
change_sized t (change.UseNode slot what node) k s =
    let now : RunTable = changed t (change.UseNode slot what node) in
    sized_derived now (kinds_of t.nodes) (with_edge (job_edge slot what node) t.edges)
    (sized_with now (job_edge slot what node) t.edges (λ over from goes. absurd (let bad : Job slot ≡ Node over = from in cc bad))
    (sized_later t (change.UseNode slot what node) t.edges (λ e over there from goes. (tt, tt)) s))
change_sized t (change.EndJob number slot drops) k s =
    let now : RunTable = changed t (change.EndJob number slot drops) in
    sized_derived now (kinds_of t.nodes) (without_parent (Job slot) t.edges)
    (sized_later t (change.EndJob number slot drops) (without_parent (Job slot) t.edges) (λ e over there from goes. (tt, tt))
    (sized_fewer t (λ x. not (same_parent x.parent (Job slot))) t.edges s))
change_sized t (change.Rebase node backing) k s =
    let now : RunTable = changed t (change.Rebase node backing) in
    sized_derived now (kinds_of t.nodes) (with_backing node backing t.edges)
    (sized_later t (change.Rebase node backing) (with_backing node backing t.edges) (λ e over there from goes. (tt, tt)) (by_backing backing k))
  where
    by_backing : (back : Option ℕ) → ((base : ℕ) → back ≡ Some base → HaveOneSize t node base) → AreSized t (with_backing node back t.edges)
    by_backing None one = sized_fewer t (λ x. not (is_edge (Node node) Backing x)) t.edges s
    by_backing (Some base) one = sized_backed t node base t.edges (one base refl) s
change_sized t (change.AddDevice device node) k s =
    let now : RunTable = changed t (change.AddDevice device node) in
    sized_derived now (kinds_of t.nodes) (with_edge (device_edge device node) t.edges)
    (sized_with now (device_edge device node) t.edges (λ over from goes. absurd (let bad : Guest device.number ≡ Node over = from in cc bad))
    (sized_later t (change.AddDevice device node) t.edges (λ e over there from goes. (tt, tt)) s))
change_sized t (change.RemoveDevice number) k s =
    let now : RunTable = changed t (change.RemoveDevice number) in
    sized_derived now (kinds_of t.nodes) (without_parent (Guest number) t.edges)
    (sized_later t (change.RemoveDevice number) (without_parent (Guest number) t.edges) (λ e over there from goes. (tt, tt))
    (sized_fewer t (λ x. not (same_parent x.parent (Guest number))) t.edges s))
change_sized t (change.Attach overlay node) k s =
    let now : RunTable = changed t (change.Attach overlay node) in
    sized_derived now (kinds_of t.nodes) (with_edge (node_edge overlay Backing node) t.edges)
    (sized_later t (change.Attach overlay node) (with_edge (node_edge overlay Backing node) t.edges) (λ e over there from goes. (tt, tt))
    (sized_backed t overlay node t.edges k s))
change_sized t (change.Move from to but) k s =
    let now : RunTable = changed t (change.Move from to but) in
    sized_derived now (kinds_of t.nodes) (map (replaced from to (Some (Node but))) t.edges)
    (sized_later t (change.Move from to but) (map (replaced from to (Some (Node but))) t.edges) (λ e over there at goes. (tt, tt))
    (sized_replaced t from to (Some (Node but)) t.edges k s))
change_sized t c k s = sized_later t c t.edges (λ e over there from goes. (tt, tt)) s

-- ---- lists of changes

abbrev pub AllKeepSizes : RunTable → List Change → Type 0
AllKeepSizes t [] = Unit {0}
AllKeepSizes t (c ∷ changes) = KeepsSizes t c × AllKeepSizes (changed t c) changes

pub changes_sized : (changes : List Change) (t : RunTable) → AllKeepSizes t changes → ChainsHaveOneSize t → ChainsHaveOneSize (all_changed t changes)
changes_sized [] t k s = s
changes_sized (c ∷ changes) t k s = changes_sized changes (changed t c) k.1 (change_sized t c k.0 s)
