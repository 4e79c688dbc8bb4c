-- Ends that give an overlay another backing node, and ends of backups and mirrors that move nobody.
use Rattle.std.proofs.Common.{◌≡◌, ◌≢◌, ◌⊎◌, ℕ, ◌<◌, arith, List, [], ◌∷◌, map, refl, sym, ◌∙◌, ap, subst, inl, inr, Bool, true, false, cond}
use Rattle.std.specs.Prelude.{◌==◌, ◌&&◌, not}
use Rattle.std.specs.List.{Contains, AllPairs, filter, list_any}
use Rattle.std.proofs.lemmas.Bool.{false≢true, eqb-true, eq-eqb, ne_eqb}
use Rattle.std.proofs.lemmas.List.Kept.{AllPairs-filter}
use Rattle.blk_graph.specs.declared.edge.Edge.{Edge}
use Rattle.blk_graph.specs.declared.edge.Parent.{Parent}
use Rattle.blk_graph.specs.declared.edge.Parent.TheVariants.{Node, Job}
use Rattle.blk_graph.specs.declared.edge.Perm.{Perm}
use Rattle.blk_graph.specs.declared.edge.Perm.TheVariants.{Read, Write, Unchanged}
use Rattle.blk_graph.specs.declared.edge.Role.TheVariants.{Backing, Between, Filtered}
use Rattle.blk_graph.specs.declared.kind.NodeKind.{NodeKind}
use Rattle.blk_graph.specs.Edges.{HasNumber, same_parent, same_role, has_perm, DifferInPlace, IsListed}
use Rattle.blk_graph.specs.Edits.{takes_place, with_edge, with_child, moved, is_between, is_double, is_filters, but_filters, without_filter, without_parent}
use Rattle.blk_graph.specs.Permissions.{node_edge}
use Rattle.blk_graph.specs.Refreshed.{kind_at, IsByTable, refreshed, IsRefreshed}
use Rattle.blk_graph.specs.Rule.{KeepsPermissions}
use Rattle.blk_graph.proofs.EaseLemmas.{IsEasier, Agree, agree-pairs, easier-refl}
use Rattle.blk_graph.proofs.InverseLemmas.{same_parent-refl}
use Rattle.blk_graph.proofs.CycleLemmas.{and-left, same_parent-true, takes_place-parent}
use Rattle.blk_graph.proofs.Members.{Contains-nil, Contains-here, Contains-there, Contains-cases, Contains-filter, find-Some}
use Rattle.blk_graph.proofs.RoleLemmas.{EachIs, takes_place-role, head_pairs, tail_pairs}
use Rattle.blk_graph.proofs.TakeOutLemmas.{under_uses, not_true}
use Rattle.job_edges.specs.Chains.{IsReadPlain, is_plain}
use Rattle.job_edges.proofs.Rests.{HasFilter, reading, HoldsChain}
use Rattle.job_edges.proofs.Ends.{Kept, over_beside, left, left_is, left_kept}
use Rattle.job_edges.proofs.Stays.{stay_kept}
use Rattle.job_edges.proofs.Chain.{chain_kept}

-- The end of a backup or mirror without a move: the job's edges and the filter go, which asks to read.
pub KeepsPermissions-stopped : (kinds : List NodeKind) (edges : List Edge) (over node job : ℕ) (has : HasFilter edges over node job) → has.own.perm.read ≡ true
    → is_plain (kind_at kinds node).kind ≡ true → IsRefreshed kinds edges → KeepsPermissions edges
    → KeepsPermissions (refreshed kinds (without_filter over (without_parent (Job job) edges)))
KeepsPermissions-stopped kinds edges over node job has reads plain still rule =
    let own : List Edge = left edges over node job has rule in
    let of : Kept edges over job own = left_kept edges over node job has rule in
    let at = find-Some (is_filters over) edges has.own has.found in
    let firm : ℕ → Bool = λ n. n == node in
    let here : IsReadPlain kinds edges node = record { plain = plain; read = (under_uses node edges has.own at.0 has.leads).asks Read reads } in
    subst (λ (es : List Edge). KeepsPermissions (refreshed kinds es)) (sym (left_is edges over node job has rule))
    (stay_kept kinds edges own over node job (λ e. false) (λ e. node) (λ n. n == node) of still
    (λ e there never. absurd (false≢true never))
    (λ n is. let same : IsReadPlain kinds edges n = subst (IsReadPlain kinds edges) (sym (eqb-true n node is)) here in record { plain = same.plain; read = inl same.read })
    (eq-eqb node node refl) has.apart
    (λ x y at_x to_x at_y to_y. let a = of.was x at_x in let b = of.was y at_y in over_beside kinds edges over node job has rule x y a.0 to_x b.0 b.1 b.2 to_y)
    (moved over node) (λ e there. easier-refl (moved over node e)))

pub filter-Contains : (p : Edge → Bool) (xs : List Edge) (x : Edge) → Contains xs x → p x ≡ true → Contains (filter p xs) x
filter-Contains p [] x h passes = absurd (Contains-nil x h)
filter-Contains p (y ∷ xs) x h passes =
    by_test (p y) refl (λ there. filter-Contains p xs x there passes) (Contains-cases y xs x h)
  where
    by_test : (b : Bool) → p y ≡ b → (Contains xs x → Contains (filter p xs) x) → (x ≡ y) ⊎ Contains xs x
        → Contains (cond b (y ∷ filter p xs) (filter p xs)) x
    by_test true t rest (inl here) = rw here (Contains-here y (filter p xs))
    by_test true t rest (inr there) = Contains-there y (filter p xs) x (rest there)
    by_test false t rest (inl here) = absurd (false≢true (sym t ∙ ap p (sym here) ∙ passes))
    by_test false t rest (inr there) = rest there

-- ---- a new edge in the place of one that stands

module _ (new : Edge) (single : new.role ≢ Between) (g : Edge → Edge) (as_before : (e : Edge) → takes_place new (g e) ≡ takes_place new e) where
  abbrev put_over : Edge → Edge
  put_over e = cond (takes_place new e) new (g e)

  put_rest : (xs : List Edge) → ((x : Edge) → Contains xs x → takes_place new x ≡ false) → map put_over xs ≡ map g xs
  put_rest [] none = refl
  put_rest (x ∷ xs) none =
      rw (none x (Contains-here x xs)) (ap (λ ys. g x ∷ ys) (put_rest xs (λ y h. none y (Contains-there x xs y h))))

  other_place : (a b : Edge) → takes_place new a ≡ true → DifferInPlace a b → takes_place new b ≡ false
  other_place a b is apart = by_test (takes_place new b) refl
    where
      by_test : (t : Bool) → takes_place new b ≡ t → takes_place new b ≡ false
      by_test true same =
          let parents : a.parent ≡ b.parent = sym (takes_place-parent new a is) ∙ takes_place-parent new b same in
          let roles : a.role ≡ b.role = sym (takes_place-role new a is) ∙ takes_place-role new b same in
          absurd (single (takes_place-role new a is ∙ (apart parents roles).0))
      by_test false none = none

  with_edge-mapped : (xs : List Edge) (old : Edge) → AllPairs DifferInPlace xs → Contains xs old → takes_place new old ≡ true
      → with_edge new (map g xs) ≡ map put_over xs
  with_edge-mapped [] old apart there is = absurd (Contains-nil old there)
  with_edge-mapped (x ∷ xs) old apart there is =
      by_test (takes_place new x) refl (Contains-cases x xs old there)
      (λ later. with_edge-mapped xs old (tail_pairs DifferInPlace x xs apart) later is)
    where
      by_test : (t : Bool) → takes_place new x ≡ t → (old ≡ x) ⊎ Contains xs old → (Contains xs old → with_edge new (map g xs) ≡ map put_over xs)
          → with_edge new (g x ∷ map g xs) ≡ cond (takes_place new x) new (g x) ∷ map put_over xs
      by_test true test which rest =
          let first : takes_place new (g x) ≡ true = as_before x ∙ test in
          let others : map put_over xs ≡ map g xs
          = put_rest xs (λ y h. other_place x y test (head_pairs DifferInPlace x xs apart y h)) in
          rw first (rw test (ap (λ ys. new ∷ ys) (sym others)))
      by_test false test (inl here) rest = absurd (false≢true (sym test ∙ ap (takes_place new) (sym here) ∙ is))
      by_test false test (inr later) rest =
          let first : takes_place new (g x) ≡ false = as_before x ∙ test in
          rw first (rw test (ap (λ ys. g x ∷ ys) (rest later)))

-- an edge that takes the place of one as it is moved
place_moved : (over node top base : ℕ) (e : Edge) → takes_place (node_edge node Backing base) (moved over top e) ≡ takes_place (node_edge node Backing base) e
place_moved over node top base e = by_test (e.child == over)
  where
    by_test : (b : Bool) → takes_place (node_edge node Backing base) (cond b (with_child top e) e) ≡ takes_place (node_edge node Backing base) e
    by_test true = refl
    by_test false = refl

-- a new edge, with nothing asked and all shared, is no more than one that reads
new_edge-easier : (node base : ℕ) (e : Edge) → takes_place (node_edge node Backing base) e ≡ true → IsEasier (node_edge node Backing base) (reading base e)
new_edge-easier node base e is = record {
  parent = takes_place-parent (node_edge node Backing base) e is;
  role = takes_place-role (node_edge node Backing base) e is;
  child = refl;
  asks = λ perm. asks perm;
  shares = λ perm. shares perm;
}
  where
    asks : (perm : Perm) → has_perm (node_edge node Backing base).perm perm ≡ true → has_perm (reading base e).perm perm ≡ true
    asks Read h = absurd (false≢true h)
    asks Write h = absurd (false≢true h)
    asks Unchanged h = absurd (false≢true h)

    shares : (perm : Perm) → has_perm (reading base e).shared perm ≡ true → has_perm (node_edge node Backing base).shared perm ≡ true
    shares Read h = refl
    shares Write h = refl
    shares Unchanged h = refl

not-between : (node base : ℕ) → (node_edge node Backing base).role ≢ Between
not-between node base is = let bad : Backing ≡ Between = is in cc bad

-- The end of an inner commit without error: its edges and its filter go, and the overlay has the base as backing node.
pub KeepsPermissions-committed : (kinds : List NodeKind) (edges : List Edge) (over top base overlay job : ℕ) (through : ℕ → Bool) (old : Edge)
    → HasFilter edges over top job → HoldsChain kinds edges (takes_place (node_edge overlay Backing base)) through top base over job
    → Contains edges old → takes_place (node_edge overlay Backing base) old ≡ true → overlay ≢ over
    → AllPairs DifferInPlace edges → IsRefreshed kinds edges → EachIs (IsByTable kinds) edges → KeepsPermissions edges
    → KeepsPermissions (refreshed kinds (with_edge (node_edge overlay Backing base) (without_filter over (without_parent (Job job) edges))))
KeepsPermissions-committed kinds edges over top base overlay job through old has holds there is other places still table rule =
    let new : Edge = node_edge overlay Backing base in
    let own : List Edge = left edges over top job has rule in
    let of : Kept edges over job own = left_kept edges over top job has rule in
    let list : with_edge new (without_filter over (without_parent (Job job) edges)) ≡ map (put_over new (not-between overlay base) (moved over top) (place_moved over overlay top base)) own
    = ap (with_edge new) (left_is edges over top job has rule)
    ∙ with_edge-mapped new (not-between overlay base) (moved over top) (place_moved over overlay top base) own old places_left old_left is in
    subst (λ (es : List Edge). KeepsPermissions (refreshed kinds es)) (sym list)
    (chain_kept kinds edges own over top base job (takes_place new) through holds (λ e at gone. sym (takes_place-role new e gone)) has.apart of still table
    (λ x y at_x to_x at_y to_y. let a = of.was x at_x in let b = of.was y at_y in over_beside kinds edges over top job has rule x y a.0 to_x b.0 b.1 b.2 to_y)
    (put_over new (not-between overlay base) (moved over top) (place_moved over overlay top base))
    (λ e at none. rw none refl)
    (λ e at gone. rw gone (new_edge-easier overlay base e gone)))
  where
    no_job : List Edge
    no_job = without_parent (Job job) edges

    places_left : AllPairs DifferInPlace (left edges over top job has rule)
    places_left = AllPairs-filter DifferInPlace (λ x. not (is_double (but_filters over (without_parent (Job job) edges)) over top x)) (but_filters over (without_parent (Job job) edges))
        (AllPairs-filter DifferInPlace (λ x. not (is_filters over x)) (without_parent (Job job) edges)
        (AllPairs-filter DifferInPlace (λ x. not (same_parent x.parent (Job job))) edges places))

    from : old.parent ≡ Node overlay
    from = sym (takes_place-parent (node_edge overlay Backing base) old is)

    role : old.role ≡ Backing
    role = sym (takes_place-role (node_edge overlay Backing base) old is)

    old_left : Contains (left edges over top job has rule) old
    old_left =
        filter-Contains (λ x. not (is_double (but_filters over (without_parent (Job job) edges)) over top x)) (but_filters over (without_parent (Job job) edges)) old
        (filter-Contains (λ x. not (is_filters over x)) (without_parent (Job job) edges) old
        (filter-Contains (λ x. not (same_parent x.parent (Job job))) edges old there
        (rw from refl))
        (rw (from, role) (last_false (overlay == over) false refl)))
        (rw role (none_double (not (over == top)) (old.child == over) (list_any (is_between old.parent top) (but_filters over (without_parent (Job job) edges)))))
      where
        none_double : (a b d : Bool) → not (a && b && false && d) ≡ true
        none_double true true d = refl
        none_double true false d = refl
        none_double false b d = refl

        last_false : (a b : Bool) → b ≡ false → not (a && b) ≡ true
        last_false true b h = rw h refl
        last_false false b h = refl

-- The end of a stream without error: its edges go, and the top has the base as backing node.
pub KeepsPermissions-streamed : (kinds : List NodeKind) (edges : List Edge) (top base job : ℕ) (old : Edge)
    → HoldsChain kinds edges (takes_place (node_edge top Backing base)) (λ n. n == top) top base 64 job
    → Contains edges old → takes_place (node_edge top Backing base) old ≡ true → IsListed edges
    → IsRefreshed kinds edges → EachIs (IsByTable kinds) edges → KeepsPermissions edges
    → KeepsPermissions (refreshed kinds (with_edge (node_edge top Backing base) (without_parent (Job job) edges)))
KeepsPermissions-streamed kinds edges top base job old holds there is listed still table rule =
    let new : Edge = node_edge top Backing base in
    let list : with_edge new (without_parent (Job job) edges) ≡ map (put_over new (not-between top base) (λ e. e) (λ e. refl)) (without_parent (Job job) edges)
    = ap (with_edge new) (sym (map-itself (without_parent (Job job) edges)))
    ∙ with_edge-mapped new (not-between top base) (λ e. e) (λ e. refl) (without_parent (Job job) edges) old
    (AllPairs-filter DifferInPlace (λ x. not (same_parent x.parent (Job job))) edges listed.places)
    (filter-Contains (λ x. not (same_parent x.parent (Job job))) edges old there (rw from refl)) is in
    subst (λ (es : List Edge). KeepsPermissions (refreshed kinds es)) (sym list)
    (chain_kept kinds edges (without_parent (Job job) edges) 64 top base job (takes_place new) (λ n. n == top) holds (λ e at gone. sym (takes_place-role new e gone))
    (λ same. omega (arith, same, top_small)) of still table
    (λ x y at_x to_x at_y to_y. absurd (none_there x (of.was x at_x).0 to_x))
    (put_over new (not-between top base) (λ e. e) (λ e. refl))
    (λ e at none. rw none (sym (unmoved e (of.was e at).0)))
    (λ e at gone. rw gone (new_edge-easier top base e gone)))
  where
    map-itself : (xs : List Edge) → map (λ e. e) xs ≡ xs
    map-itself [] = refl
    map-itself (x ∷ xs) = ap (λ ys. x ∷ ys) (map-itself xs)

    from : old.parent ≡ Node top
    from = sym (takes_place-parent (node_edge top Backing base) old is)

    number : (p : Parent) (n : ℕ) → p ≡ Node n → HasNumber p → n < 64
    number p n same has = subst HasNumber same has

    top_small : top < 64
    top_small = number old.parent top from (listed.each old there).number

    none_there : (e : Edge) → Contains edges e → e.child ≡ 64 → ⊥
    none_there e at to = let small = (listed.each e at).child in omega (arith, to, small)

    unmoved : (e : Edge) → Contains edges e → moved 64 top e ≡ e
    unmoved e at = rw (ne_eqb e.child 64 (none_there e at)) refl

    not_filters : (e : Edge) → Contains edges e → is_filters 64 e ≡ false
    not_filters e at = by_test (is_filters 64 e) refl
      where
        by_test : (b : Bool) → is_filters 64 e ≡ b → is_filters 64 e ≡ false
        by_test true yes' =
            let small = number e.parent 64 (same_parent-true e.parent (Node 64) (and-left (same_parent e.parent (Node 64)) (same_role e.role Filtered) yes')) (listed.each e at).number in
            absurd (omega (arith, small))
        by_test false none = none

    of : Kept edges 64 job (without_parent (Job job) edges)
    of = record {
      was = λ e at.
          let c = Contains-filter (λ x. not (same_parent x.parent (Job job))) edges e at in (
            c.0,
            not_filters e c.0,
            λ own. false≢true (sym (not_true (same_parent e.parent (Job job)) c.1) ∙ ap (λ p. same_parent p (Job job)) own ∙ same_parent-refl (Job job)),
          );
      pairs = AllPairs-filter Agree (λ x. not (same_parent x.parent (Job job))) edges (agree-pairs edges rule);
    }
