-- A job's filter goes, and its parents have the node below it: what holds of tables stays.
use Rattle.std.proofs.Common.{◌≡◌, ◌≢◌, ◌⊎◌, ℕ, zero, suc, Bool, true, false, cond, List, [], ◌∷◌, ◌++◌, refl, sym, ap, subst, ◌∙◌, inl, inr, Option, Some, None, option_map}
use Rattle.std.specs.Prelude.{◌==◌, ◌&&◌, ◌||◌, not, IsSome, option_and_then}
use Rattle.std.specs.List.{filter, find, list_any, Contains}
use Rattle.std.proofs.lemmas.Bool.{eqb-true, eq-eqb, ne_eqb, cases_eq}
use Rattle.blk_graph.specs.declared.edge.Edge.{Edge}
use Rattle.blk_graph.specs.declared.edge.Parent.{Parent}
use Rattle.blk_graph.specs.declared.edge.Parent.TheVariants.{Node, Guest}
use Rattle.blk_graph.specs.declared.edge.Role.{Role}
use Rattle.blk_graph.specs.declared.edge.Role.TheVariants.{Drive, File, Filtered, Between}
use Rattle.blk_graph.specs.declared.kind.Kind.TheVariants.{Protocol}
use Rattle.blk_graph.specs.declared.kind.NodeKind.{NodeKind}
use Rattle.blk_graph.specs.Edges.{same_parent}
use Rattle.blk_graph.specs.Edits.{child_of, filter_edge, is_edge, is_filters, moved, but_filters, with_moved, without_filter, without_parent}
use Rattle.blk_graph.specs.Paths.{IsAcyclic, Reaches}
use Rattle.blk_graph.specs.Permissions.{has_role, idle_uses}
use Rattle.blk_graph.specs.Refreshed.{refreshed}
use Rattle.blk_graph.proofs.DraftLemmas.{children_without, child_without}
use Rattle.blk_graph.proofs.EditLemmas.{moved-cases, moved-parent, Contains-with_moved}
use Rattle.blk_graph.proofs.InverseLemmas.{same_parent-false, same_parent-refl}
use Rattle.blk_graph.proofs.Members.{find-Some, Contains-filter, Contains-here, Contains-there}
use Rattle.blk_graph.proofs.PathLemmas.{IsAcyclic-covered, Reaches-edge, Reaches-joined}
use Rattle.blk_graph.proofs.RoleLemmas.{moved-role}
use Rattle.qmp_rules.specs.declared.change.Change.TheVariants as change
use Rattle.qmp_rules.specs.declared.rows.NodeRecord.{NodeRecord}
use Rattle.qmp_rules.specs.Changes.{changed, without_record}
use Rattle.qmp_rules.specs.Table.{RunTable, node_by_id, child, kinds_of}
use Rattle.qmp_rules.specs.Chains.{filter_role, filtered, disk_from, disk_node}
use Rattle.blk_history.specs.Fold.{With}
use Rattle.flat_machine.specs.Machine.{copies_at, copies_through, path, path_from}
use Rattle.flat_machine.specs.Suiting.{IsAlone, SuitsPull}
use Rattle.flat_machine.specs.Wiring.{IsDiskOf, TableStands}
use Rattle.flat_machine.proofs.Tables.{filter-keeps, pushed-cases, pushed-old}
use Rattle.flat_machine.proofs.Rows.{copies-at, from-child, path-child}
use Rattle.flat_machine.proofs.TablesKept.{no_copies, not_copying, removed_table}
use Rattle.flat_machine.proofs.WritingKept.{role_edge}
use Rattle.flat_machine.proofs.Backed.{filter_other}
use Rattle.flat_machine.proofs.Leading.{IsSent, Leads, led_table, kept_reads}
use Rattle.flat_machine.proofs.FilterPut.{filter_alone, filter_still, moved_child, moved_there}
use Rattle.flat_machine.proofs.MovedTables.{moving}

-- an edge more at the end is another parent's child
child_end : (parent : Parent) (role : Role) (new : Edge) → is_edge parent role new ≡ false → (edges : List Edge)
    → child_of parent role (edges ++ new ∷ []) ≡ child_of parent role edges
child_end parent role new fails edges = ap (option_map (λ (e : Edge). e.child)) (found edges)
  where
    found : (es : List Edge) → find (is_edge parent role) (es ++ new ∷ []) ≡ find (is_edge parent role) es
    found [] = rw fails refl
    found (e ∷ es) = ap (λ (o : Option Edge). cond (is_edge parent role e) (Some e) o) (found es)

-- it is the child of its own parent, which had none
child_pushed : (parent : Parent) (role : Role) (new : Edge) → is_edge parent role new ≡ true → (edges : List Edge) → child_of parent role edges ≡ None
    → child_of parent role (edges ++ new ∷ []) ≡ Some new.child
child_pushed parent role new own edges none = ap (option_map (λ (e : Edge). e.child)) (found edges (no_edge (find (is_edge parent role) edges) none))
  where
    no_edge : (o : Option Edge) → option_map (λ (e : Edge). e.child) o ≡ None → o ≡ None
    no_edge None is = refl
    no_edge (Some e) is = absurd cc

    found : (es : List Edge) → find (is_edge parent role) es ≡ None → find (is_edge parent role) (es ++ new ∷ []) ≡ Some new
    found [] is = rw own refl
    found (e ∷ es) is = by_test (is_edge parent role e) is (found es)
      where
        by_test : (b : Bool) → cond b (Some e) (find (is_edge parent role) es) ≡ None
            → (find (is_edge parent role) es ≡ None → find (is_edge parent role) (es ++ new ∷ []) ≡ Some new)
            → cond b (Some e) (find (is_edge parent role) (es ++ new ∷ [])) ≡ Some new
        by_test true k rest = absurd cc
        by_test false k rest = rest k

-- the last goes where the others stay
filter_end : {X : Type 0} (p : X → Bool) (xs : List X) (x : X) → ((y : X) → Contains xs y → p y ≡ true) → p x ≡ false → filter p (xs ++ x ∷ []) ≡ xs
filter_end p [] x all fails = rw fails refl
filter_end p (y ∷ xs) x all fails =
    rw (all y (Contains-here y xs)) (ap (λ zs. y ∷ zs) (filter_end p xs x (λ z there. all z (Contains-there y xs z there)) fails))

module _ (t : RunTable) (over : ℕ) (suits : SuitsPull t over) (h : TableStands t) where
  here : Contains t.nodes suits.row × ((suits.row.id == over) ≡ true)
  here = find-Some (λ r. r.id == over) t.nodes suits.row suits.there

  over_id : suits.row.id ≡ over
  over_id = eqb-true suits.row.id over here.1

  below_here : Contains t.nodes suits.under.row × ((suits.under.row.id == suits.below) ≡ true)
  below_here = find-Some (λ r. r.id == suits.below) t.nodes suits.under.row suits.under.there

  -- it is no node of its own below it
  below_other : suits.below ≢ over
  below_other same =
      let at = subst (λ n. node_by_id t n ≡ Some suits.under.row) same suits.under.there in
      let filters = suits.there in
      let rows : suits.under.row ≡ suits.row = cc in
      let own = suits.under.own in
      let role = ap (λ r. filter_role r.kind) rows ∙ suits.role in
      cc

  pub unnamed : suits.row.filename ≡ None
  unnamed = by_name suits.row.filename refl
    where
      by_name : (name : Option (List ℕ)) → suits.row.filename ≡ name → name ≡ None
      by_name None is = refl
      by_name (Some name) is =
          let kind = h.drivers name suits.row (record { there = here.0; filename = is }) in
          let none : filter_role Protocol ≡ Some Filtered = subst (λ k. filter_role k ≡ Some Filtered) kind suits.role in
          absurd cc

  abbrev left : List Edge
  left = without_filter over t.edges

  left_is : left ≡ with_moved over suits.below (but_filters over t.edges)
  left_is = by_found (find (is_filters over) t.edges) suits.over
    where
      by_found : (found : Option Edge) → option_map (λ (e : Edge). e.child) found ≡ Some suits.below → (elim found as (λ _. List Edge) [
        | None ↦ t.edges
        | Some edge ↦ with_moved over edge.child (but_filters over t.edges)
      ]) ≡ with_moved over suits.below (but_filters over t.edges)
      by_found None is = absurd cc
      by_found (Some edge) is = let same : edge.child ≡ suits.below = cc in ap (λ n. with_moved over n (but_filters over t.edges)) same

  abbrev own : Edge
  own = filter_edge over suits.below idle_uses.perm idle_uses.shared

  -- nothing leads to the filter any more
  abbrev pub loose_edges : List Edge
  loose_edges = left ++ own ∷ []

  abbrev pub loose : RunTable
  loose = record t { edges = loose_edges }

  -- an edge of the filter is the one to the node below it
  own_role : (e : Edge) → Contains t.edges e → e.parent ≡ Node over → e.role ≡ Filtered
  own_role e there from =
      filter_alone suits.row.kind e.role suits.role (h.roles e suits.row there here.0 (from ∙ ap Node (sym over_id)))

  record WasLeft (e : Edge) : Type 0 where
    edge : Edge
    there : Contains t.edges edge
    other : edge.parent ≢ Node over
    is : e ≡ moved over suits.below edge

  was_left : (e : Edge) → Contains left e → WasLeft e
  was_left e there =
      let r = Contains-with_moved over suits.below (but_filters over t.edges) e (subst (λ es. Contains es e) left_is there) in
      let was = Contains-filter (λ x. not (is_filters over x)) t.edges r.0 r.1 in
      record {
        edge = r.0;
        there = was.0;
        other = λ same. (
            let role = own_role r.0 was.0 same in
            let yes : is_filters over r.0 ≡ true = rw (same, role, eq-eqb over over refl) refl in
            let no = was.1 in
            let bad = ap not yes in
            cc);
        is = r.2;
      }

  own_edge : (x : Edge) × Contains t.edges x × (x.parent ≡ Node over) × (x.role ≡ Filtered) × (x.child ≡ suits.below)
  own_edge = let e = role_edge (Node over) Filtered t.edges suits.below suits.over in (e.edge, e.there, e.from, e.role_is, e.to)

  abbrev pub lead : Parent → ℕ → ℕ
  lead p c = moving over suits.below c

  below_stays : moving over suits.below suits.below ≡ suits.below
  below_stays = rw (ne_eqb suits.below over below_other) refl

  pub sent : (p : Parent) (c : ℕ) → (lead p c ≡ c) ⊎ IsSent t c (lead p c)
  sent p c = by_test (c == over) refl
    where
      by_test : (b : Bool) → (c == over) ≡ b → (cond b suits.below c ≡ c) ⊎ IsSent t c (cond b suits.below c)
      by_test false is = inl refl
      by_test true is = inr (record {
        row = suits.under.row;
        there = below_here.0;
        id = eqb-true suits.under.row.id suits.below below_here.1;
        plain = not_copying suits.under.row.kind suits.under.own;
        free = suits.under.free;
        away = λ under above at some f format.
            let at_over : node_by_id t over ≡ Some under = subst (λ n. node_by_id t n ≡ Some under) (eqb-true c over is) at in
            let filters = suits.there in
            let same : under ≡ suits.row = cc in
            let none = ap (λ r. r.filename) same ∙ unnamed in
            let bad = subst IsSome none some in
            cc;
      })

  guest_fails : (g : ℕ) → is_edge (Guest g) Drive own ≡ false
  guest_fails g = refl

  pub loose_leads : Leads t loose_edges lead
  loose_leads = record {
    sent = sent;
    old = λ e there. elim (pushed-cases left own e there) [
      | inr is ↦ inl (record {
        edge = own_edge.0;
        there = own_edge.1;
        parent = own_edge.2 ∙ ap (λ (x : Edge). x.parent) (sym is);
        role = own_edge.3 ∙ ap (λ (x : Edge). x.role) (sym is);
        child = ap (λ (x : Edge). x.child) is ∙ sym below_stays ∙ ap (moving over suits.below) (sym own_edge.4);
      })
      | inl old ↦
          let w = was_left e old in
          inl (record {
            edge = w.edge;
            there = w.there;
            parent = sym (moved-parent over suits.below w.edge) ∙ ap (λ (x : Edge). x.parent) (sym w.is);
            role = sym (moved-role over suits.below w.edge) ∙ ap (λ (x : Edge). x.role) (sym w.is);
            child = ap (λ (x : Edge). x.child) w.is ∙ moved_child over suits.below w.edge;
          })
    ];
    keeps = λ e there role.
        let kept : Contains (but_filters over t.edges) e = filter-keeps (λ x. not (is_filters over x)) t.edges e (no_filter e role) there in
        record {
          edge = moved over suits.below e;
          there = pushed-old left own (moved over suits.below e)
              (subst (λ es. Contains es (moved over suits.below e)) (sym left_is) (moved_there (but_filters over t.edges) over suits.below e role kept));
          parent = moved-parent over suits.below e;
          role = moved-role over suits.below e;
          child = moved_child over suits.below e;
        };
    children = λ n row role at has other single. by_id n row role at has single (cases_eq n over);
    drives = λ g.
        child_end (Guest g) Drive own (guest_fails g) left
        ∙ children_without over t.edges suits.below suits.over (Guest g) Drive (λ same. cc) refl;
  }
    where
      no_filter : (e : Edge) → e.role ≡ File → not (is_filters over e) ≡ true
      no_filter e role = rw role (by_parent (same_parent e.parent (Node over)))
        where
          by_parent : (b : Bool) → not (b && false) ≡ true
          by_parent true = refl
          by_parent false = refl

      by_id : (n : ℕ) (row : NodeRecord) (role : Role) → node_by_id t n ≡ Some row → has_role row.kind role ≡ true → role ≢ Between
          → ((n ≡ over) ⊎ (n ≢ over)) → child_of (Node n) role loose_edges ≡ option_map (moving over suits.below) (child t n role)
      by_id n row role at has single (inl is) =
          let at_over : node_by_id t over ≡ Some row = subst (λ m. node_by_id t m ≡ Some row) is at in
          let filters = suits.there in
          let same : row ≡ suits.row = cc in
          let only : role ≡ Filtered = filter_alone suits.row.kind role suits.role (subst (λ x. has_role x.kind role ≡ true) same has) in
          subst (λ m. child_of (Node m) role loose_edges ≡ option_map (moving over suits.below) (child t m role)) (sym is)
          (subst (λ x. child_of (Node over) x loose_edges ≡ option_map (moving over suits.below) (child t over x)) (sym only)
          (child_pushed (Node over) Filtered own (rw (same_parent-refl (Node over)) refl) left (child_without over t.edges)
          ∙ ap (λ (c : ℕ). Some c) (sym below_stays) ∙ ap (option_map (moving over suits.below)) (sym suits.over)))
      by_id n row role at has single (inr apart) =
          let other : Node over ≢ Node n = λ same. apart (let both : Node over ≡ Node n = same in cc) in
          let not_own : same_parent (Node n) (Node over) ≡ false = same_parent-false (Node n) (Node over) (λ same. other (sym same)) in
          child_end (Node n) role own (rw (same_parent-false (Node over) (Node n) other) refl) left
          ∙ children_without over t.edges suits.below suits.over (Node n) role single (rw not_own refl)

  -- ---- what nodes read as

  pub filtered_pulls : (n : ℕ) → filtered loose n ≡ option_map (moving over suits.below) (filtered t n)
  filtered_pulls n = by_row (node_by_id t n) refl
    where
      by_role : (r : NodeRecord) → node_by_id t n ≡ Some r → (role : Option Role) → filter_role r.kind ≡ role
          → option_and_then (child loose n) role ≡ option_map (moving over suits.below) (option_and_then (child t n) role)
      by_role r at None is = refl
      by_role r at (Some role) is = let others = filter_other r.kind role is in loose_leads.children n r role at others.2 others.0 others.1

      by_row : (found : Option NodeRecord) → node_by_id t n ≡ found → option_and_then (child loose n) (option_and_then (λ r. filter_role r.kind) found)
          ≡ option_map (moving over suits.below) (option_and_then (child t n) (option_and_then (λ r. filter_role r.kind) found))
      by_row None at = refl
      by_row (Some r) at = by_role r at (filter_role r.kind) refl

  pub over_below : filtered t over ≡ Some suits.below
  over_below = rw (suits.there, suits.role) suits.over

  pub below_alone : filtered t suits.below ≡ None
  below_alone = rw (suits.under.there, suits.under.own) refl

  below_alone_loose : filtered loose suits.below ≡ None
  below_alone_loose = rw (suits.under.there, suits.under.own) refl

  disk_alone : (more : ℕ) (table : RunTable) (n : ℕ) → filtered table n ≡ None → disk_from more table n ≡ n
  disk_alone zero table n none = refl
  disk_alone (suc more) table n none = from-child more table n None none

  path_alone : (more : ℕ) (table : RunTable) (n : ℕ) (p : ℕ → Bool) → filtered table n ≡ None → list_any p (path_from more table n) ≡ (p n || false)
  path_alone zero table n p none = refl
  path_alone (suc more) table n p none = path-child more table n p None none

  disk_from_pulls : (more n : ℕ) → disk_from more t n ≢ over → disk_from more loose n ≡ disk_from more t n
  disk_from_pulls zero n apart = refl
  disk_from_pulls (suc more) n apart = by_child (filtered t n) refl (disk_from_pulls more)
    where
      through : (m : ℕ) → disk_from m t over ≢ over → disk_from m loose suits.below ≡ disk_from m t over
      through zero differ = absurd (differ refl)
      through (suc m) differ =
          disk_alone (suc m) loose suits.below below_alone_loose
          ∙ sym (from-child m t over (Some suits.below) over_below ∙ disk_alone m t suits.below below_alone)

      by_child : (c : Option ℕ) → filtered t n ≡ c → ((x : ℕ) → disk_from more t x ≢ over → disk_from more loose x ≡ disk_from more t x)
          → disk_from (suc more) loose n ≡ disk_from (suc more) t n
      by_child None e rest =
          from-child more loose n None (filtered_pulls n ∙ ap (option_map (moving over suits.below)) e) ∙ sym (from-child more t n None e)
      by_child (Some c) e rest =
          from-child more loose n (Some (moving over suits.below c)) (filtered_pulls n ∙ ap (option_map (moving over suits.below)) e) ∙ below
          ∙ sym (from-child more t n (Some c) e)
        where
          differs : disk_from more t c ≢ over
          differs same = apart (from-child more t n (Some c) e ∙ same)

          below : disk_from more loose (moving over suits.below c) ≡ disk_from more t c
          below = elim (cases_eq c over) [
            | inr other ↦ ap (disk_from more loose) (rw (ne_eqb c over other) refl) ∙ rest c differs
            | inl is ↦
                ap (disk_from more loose) (ap (moving over suits.below) is ∙ rw (eq-eqb over over refl) refl)
                ∙ through more (subst (λ m. disk_from more t m ≢ over) is differs) ∙ ap (disk_from more t) (sym is)
          ]

  pub pulled_disk : (n : ℕ) → disk_node t n ≢ over → disk_node loose n ≡ disk_node t n
  unfolding disk_node
  pulled_disk n apart = disk_from_pulls 64 n apart

  over_still : copies_at t over ≡ false
  over_still = copies-at t over suits.row suits.there ∙ filter_still suits.row.kind suits.role

  over_two : (more : ℕ) → list_any (copies_at t) (path_from (suc (suc more)) t over) ≡ false
  over_two more =
      path-child (suc more) t over (copies_at t) (Some suits.below) over_below
      ∙ ap (λ b. copies_at t over || b) (path-child more t suits.below (copies_at t) None below_alone)
      ∙ rw (over_still, copies-at t suits.below suits.under.row suits.under.there ∙ no_copies suits.under.row.kind suits.under.own) refl

  pub over_copies : copies_through t over ≡ false
  unfolding path
  over_copies = over_two 62

  path_from_pulls : (more n : ℕ) → disk_from more t n ≢ over → list_any (copies_at t) (path_from more loose n) ≡ list_any (copies_at t) (path_from more t n)
  path_from_pulls zero n apart = refl
  path_from_pulls (suc more) n apart = by_child (filtered t n) refl (path_from_pulls more)
    where
      through : (m : ℕ) → disk_from m t over ≢ over → list_any (copies_at t) (path_from m loose suits.below) ≡ list_any (copies_at t) (path_from m t over)
      through zero differ = absurd (differ refl)
      through (suc m) differ =
          path_alone (suc m) loose suits.below (copies_at t) below_alone_loose
          ∙ sym (path-child m t over (copies_at t) (Some suits.below) over_below ∙ rw over_still (path_alone m t suits.below (copies_at t) below_alone))

      by_child : (c : Option ℕ) → filtered t n ≡ c
          → ((x : ℕ) → disk_from more t x ≢ over → list_any (copies_at t) (path_from more loose x) ≡ list_any (copies_at t) (path_from more t x))
          → list_any (copies_at t) (path_from (suc more) loose n) ≡ list_any (copies_at t) (path_from (suc more) t n)
      by_child None e rest =
          path-child more loose n (copies_at t) None (filtered_pulls n ∙ ap (option_map (moving over suits.below)) e)
          ∙ sym (path-child more t n (copies_at t) None e)
      by_child (Some c) e rest =
          path-child more loose n (copies_at t) (Some (moving over suits.below c)) (filtered_pulls n ∙ ap (option_map (moving over suits.below)) e)
          ∙ ap (λ b. copies_at t n || b) below
          ∙ sym (path-child more t n (copies_at t) (Some c) e)
        where
          differs : disk_from more t c ≢ over
          differs same = apart (from-child more t n (Some c) e ∙ same)

          below : list_any (copies_at t) (path_from more loose (moving over suits.below c)) ≡ list_any (copies_at t) (path_from more t c)
          below = elim (cases_eq c over) [
            | inr other ↦ ap (λ m. list_any (copies_at t) (path_from more loose m)) (rw (ne_eqb c over other) refl) ∙ rest c differs
            | inl is ↦
                ap (λ m. list_any (copies_at t) (path_from more loose m)) (ap (moving over suits.below) is ∙ rw (eq-eqb over over refl) refl)
                ∙ through more (subst (λ m. disk_from more t m ≢ over) is differs) ∙ ap (λ m. list_any (copies_at t) (path_from more t m)) (sym is)
          ]

  pub pulled_copies : (n : ℕ) → disk_node t n ≢ over → copies_through loose n ≡ copies_through t n
  unfolding path disk_node
  pulled_copies n apart = path_from_pulls 64 n apart

  -- no node that is there reads as a filter
  pub reads_apart : (n : ℕ) → IsSome (node_by_id t n) → disk_node t n ≢ over
  reads_apart n some same = by_row (node_by_id t n) refl some
    where
      by_disk : (row : NodeRecord) (disk : Option NodeRecord) → node_by_id t over ≡ disk → With disk (IsDiskOf t row) → ⊥
      by_disk row None e never = never
      by_disk row (Some disk) e k =
          let filters = suits.there in
          let rows : disk ≡ suits.row = cc in
          let own = k.own in
          let role = ap (λ r. filter_role r.kind) rows ∙ suits.role in
          cc

      by_row : (found : Option NodeRecord) → node_by_id t n ≡ found → IsSome found → ⊥
      by_row None at none = absurd cc
      by_row (Some row) at some_row = by_disk row (node_by_id t over) refl (subst (λ m. With (node_by_id t m) (IsDiskOf t row)) same (h.reads n row at))

  -- where an edge leads, it led before
  pub loose_leads_on : (a : ℕ) (e : Edge) → Contains loose_edges e → e.parent ≡ Node a → Reaches t.edges a e.child
  loose_leads_on a e there from = elim (pushed-cases left own e there) [
    | inr is ↦
        let at : Node a ≡ Node over = sym from ∙ ap (λ (x : Edge). x.parent) is in
        let id : a ≡ over = cc in
        let to : own_edge.0.child ≡ e.child = own_edge.4 ∙ ap (λ (x : Edge). x.child) (sym is) in
        subst (Reaches t.edges a) to (Reaches-edge t.edges a own_edge.0 own_edge.1 (own_edge.2 ∙ ap Node (sym id)))
    | inl old ↦
        let w = was_left e old in
        let parent : w.edge.parent ≡ Node a = sym (moved-parent over suits.below w.edge) ∙ ap (λ (x : Edge). x.parent) (sym w.is) ∙ from in
        elim (moved-cases over suits.below w.edge) [
          | inl at_over ↦
              let to : e.child ≡ suits.below = ap (λ (x : Edge). x.child) (w.is ∙ at_over.1) in
              let first : Reaches t.edges a over = subst (Reaches t.edges a) at_over.0 (Reaches-edge t.edges a w.edge w.there parent) in
              let last : Reaches t.edges over suits.below = subst (Reaches t.edges over) own_edge.4 (Reaches-edge t.edges over own_edge.0 own_edge.1 own_edge.2) in
              subst (Reaches t.edges a) (sym to) (Reaches-joined t.edges a over suits.below first last)
          | inr other ↦
              let to : e.child ≡ w.edge.child = ap (λ (x : Edge). x.child) (w.is ∙ other.1) in
              subst (Reaches t.edges a) (sym to) (Reaches-edge t.edges a w.edge w.there parent)
        ]
  ]

  loose_ways : IsAcyclic loose_edges
  loose_ways = IsAcyclic-covered loose_edges t.edges loose_leads_on h.acyclic

  pub loose_stands : TableStands loose
  loose_stands =
      led_table t loose_edges lead loose_leads h
      (kept_reads t loose_edges lead loose_leads h (λ n there. pulled_disk n (reads_apart n there)) (λ n there. pulled_copies n (reads_apart n there)))
      loose_ways

  -- ---- the filter goes

  pub loose_alone : IsAlone loose over
  loose_alone e there same = elim (pushed-cases left own e there) [
    | inr is ↦ below_other (ap (λ (x : Edge). x.child) (sym is) ∙ same)
    | inl old ↦
        let w = was_left e old in
        let to : moving over suits.below w.edge.child ≡ over = sym (moved_child over suits.below w.edge) ∙ ap (λ (x : Edge). x.child) (sym w.is) ∙ same in
        elim (cases_eq w.edge.child over) [
          | inl is ↦ below_other (sym (ap (moving over suits.below) is ∙ rw (eq-eqb over over refl) refl) ∙ to)
          | inr other ↦ other (sym (rw (ne_eqb w.edge.child over other) refl) ∙ to)
        ]
  ]

  abbrev pub kinds : List NodeKind
  kinds = kinds_of (without_record over t.nodes)

  abbrev pub now : RunTable
  now = record t { nodes = without_record over t.nodes; edges = refreshed kinds left }

  pub pulled_edges : now.edges ≡ refreshed kinds (without_parent (Node over) loose_edges)
  pulled_edges = ap (refreshed kinds) (sym (filter_end (λ x. not (same_parent x.parent (Node over))) left own
      (λ e there.
      let w = was_left e there in
      let parent : e.parent ≢ Node over = λ same. w.other (sym (moved-parent over suits.below w.edge) ∙ ap (λ (x : Edge). x.parent) (sym w.is) ∙ same) in
      ap not (same_parent-false e.parent (Node over) parent))
      (ap not (same_parent-refl (Node over)))))

  pub pull_stands : TableStands now
  pull_stands = removed_table loose now over loose_alone refl kinds pulled_edges loose_stands refl refl

pub pull_table : (t : RunTable) (filter : ℕ) → SuitsPull t filter → TableStands t → TableStands (changed t (change.PullFilter filter))
unfolding changed
pull_table t filter suits h = pull_stands t filter suits h
