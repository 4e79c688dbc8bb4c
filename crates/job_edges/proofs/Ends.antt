-- Ends of jobs keep the rule on permissions.
use Rattle.std.proofs.Common.{◌≡◌, ◌≢◌, ◌⊎◌, ℕ, List, [], ◌∷◌, map, refl, sym, ◌∙◌, ap, subst, inl, inr, Bool, true, false, cond, Option, Some}
use Rattle.std.specs.Prelude.{◌==◌, not}
use Rattle.std.specs.List.{Contains, AllPairs, filter, find}
use Rattle.std.proofs.lemmas.Bool.{false≢true, eqb-true, eq-eqb, cases_eq}
use Rattle.std.proofs.lemmas.List.Kept.{AllPairs-filter}
use Rattle.blk_graph.specs.declared.edge.Edge.{Edge}
use Rattle.blk_graph.specs.declared.edge.Parent.{Parent}
use Rattle.blk_graph.specs.declared.edge.Parent.TheVariants.{Node, Guest, Job}
use Rattle.blk_graph.specs.declared.edge.Perm.{Perm}
use Rattle.blk_graph.specs.declared.edge.Perm.TheVariants.{Read, Write, Unchanged}
use Rattle.blk_graph.specs.declared.kind.NodeKind.{NodeKind}
use Rattle.blk_graph.specs.declared.edge.Role.TheVariants.{Filtered}
use Rattle.blk_graph.specs.Edges.{same_parent, same_role, is_job, has_perm, ArePermsWithin}
use Rattle.blk_graph.specs.Edits.{with_child, stays, replaced, with_replaced, moved, but_doubles, is_double, is_filters, but_filters, without_filter, without_parent}
use Rattle.blk_graph.specs.Refreshed.{kind_at, uses_into, ruled, refreshed, IsRefreshed}
use Rattle.blk_graph.specs.Rule.{KeepsPermissions}
use Rattle.blk_graph.proofs.EaseLemmas.{IsLighter, IsEasier, Agree, easier-refl, agree-pairs}
use Rattle.blk_graph.proofs.EditLemmas.{moved-cases}
use Rattle.blk_graph.proofs.InverseLemmas.{same_parent-refl, same_parent-false}
use Rattle.blk_graph.proofs.CycleLemmas.{and-left}
use Rattle.blk_graph.proofs.Members.{Contains-map, Contains-filter, find-Some}
use Rattle.blk_graph.proofs.RoleLemmas.{map_pairs}
use Rattle.blk_graph.proofs.TakeOutLemmas.{uses_into-under, under_uses, agree_apart, not_true}
use Rattle.job_edges.specs.Chains.{SharesReads, IsReadPlain, is_plain}
use Rattle.job_edges.proofs.Rests.{HasFilter, HoldsAlone}
use Rattle.job_edges.proofs.Core.{stays_easier, weighs_no_more, kept_by_bound}

pub agree-sym : (a b : Edge) → Agree a b → Agree b a
agree-sym a b h same = let r = h (sym same) in (r.1, r.0)

pub map-both : (f g : Edge → Edge) (xs : List Edge) → map f (map g xs) ≡ map (λ x. f (g x)) xs
map-both f g [] = refl
map-both f g (x ∷ xs) = ap (λ ys. f (g x) ∷ ys) (map-both f g xs)

-- what is found passes another test too: then it is found among what passes that
pub find-kept : (p q : Edge → Bool) (xs : List Edge) (x : Edge) → find p xs ≡ Some x → q x ≡ true → find p (filter q xs) ≡ Some x
find-kept p q [] x found is = found
find-kept p q (y ∷ xs) x found is = by_test (p y) refl found (find-kept p q xs x)
  where
    skip : (c : Bool) → p y ≡ false → find p (filter q xs) ≡ Some x → find p (cond c (y ∷ filter q xs) (filter q xs)) ≡ Some x
    skip true none rest = rw none rest
    skip false none rest = rest

    by_test : (b : Bool) → p y ≡ b → cond b (Some y) (find p xs) ≡ Some x → (find p xs ≡ Some x → q x ≡ true → find p (filter q xs) ≡ Some x)
        → find p (cond (q y) (y ∷ filter q xs) (filter q xs)) ≡ Some x
    by_test true test here rest =
        let same : y ≡ x = cc in
        rw (ap q same ∙ is) (rw test here)
    by_test false test later rest = skip (q y) test (rest later is)

module _ (kinds : List NodeKind) (edges : List Edge) (over node job : ℕ) (has : HasFilter edges over node job)
    (rule : KeepsPermissions edges) where
  -- an edge into the filter, and another one into the node under it
  pub over_beside : (x y : Edge) → Contains edges x → x.child ≡ over → Contains edges y → is_filters over y ≡ false → y.parent ≢ Job job
      → y.child ≡ node → ArePermsWithin x.perm y.shared × ArePermsWithin y.perm x.shared
  over_beside x y at_x to_x at_y none other to_y = (λ perm. down perm, λ perm. up perm)
    where
      own_is : Contains edges has.own × (is_filters over has.own ≡ true)
      own_is = find-Some (is_filters over) edges has.own has.found

      pair : ArePermsWithin has.own.perm y.shared × ArePermsWithin y.perm has.own.shared
      pair = agree_apart (is_filters over) edges (agree-pairs edges rule) has.own y own_is.0 at_y own_is.1 none (has.leads ∙ sym to_y)

      down : (perm : Perm) → has_perm x.perm perm ≡ true → has_perm y.shared perm ≡ true
      down Read is = (has.beside y at_y to_y none other).read
      down Write is = pair.0 Write (has.writes ((under_uses over edges x at_x to_x).asks Write is))
      down Unchanged is = (has.beside y at_y to_y none other).unchanged

      up : (perm : Perm) → has_perm y.perm perm ≡ true → has_perm x.shared perm ≡ true
      up Read is = (has.over x at_x to_x).read
      up Write is = (under_uses over edges x at_x to_x).shares Write (has.shuts (pair.1 Write is))
      up Unchanged is = (has.over x at_x to_x).unchanged

-- an edge that shares reads, and another one beside a job's that reads and writes alone
module _ (edges : List Edge) (to job : ℕ) (holds : HoldsAlone edges to job) (rule : KeepsPermissions edges) where
  pub beside_job : (x y : Edge) → SharesReads x → Contains edges y → y.parent ≢ Job job → y.child ≡ to
      → ArePermsWithin x.perm y.shared × ArePermsWithin y.perm x.shared
  beside_job x y shares at_y other to_y = (λ perm. down perm, λ perm. up perm)
    where
      pair : ArePermsWithin holds.edge.perm y.shared × ArePermsWithin y.perm holds.edge.shared
      pair = agree_apart (λ e. same_parent e.parent (Job job)) edges (agree-pairs edges rule) holds.edge y holds.there at_y
          (ap (λ p. same_parent p (Job job)) holds.own ∙ same_parent-refl (Job job)) (same_parent-false y.parent (Job job) other) (holds.child ∙ sym to_y)

      down : (perm : Perm) → has_perm x.perm perm ≡ true → has_perm y.shared perm ≡ true
      down Read is = pair.0 Read holds.asks.0
      down Write is = pair.0 Write holds.asks.1
      down Unchanged is = (holds.beside y at_y to_y other).unchanged

      up : (perm : Perm) → has_perm y.perm perm ≡ true → has_perm x.shared perm ≡ true
      up Read is = absurd (false≢true (sym holds.shuts.0 ∙ pair.1 Read is))
      up Write is = absurd (false≢true (sym holds.shuts.1 ∙ pair.1 Write is))
      up Unchanged is = shares.unchanged

-- what an end keeps: neither the job's edges nor the filter's
pub record Kept (edges : List Edge) (over job : ℕ) (kept : List Edge) : Type 0 where
  pub was : (e : Edge) → Contains kept e → Contains edges e × (is_filters over e ≡ false) × (e.parent ≢ Job job)
  pub pairs : AllPairs Agree kept

-- ---- a pivot

module _ (kinds : List NodeKind) (edges kept : List Edge) (over node to job : ℕ) (but : Option Parent)
    (has : HasFilter edges over node job) (holds : HoldsAlone edges to job) (plain : is_plain (kind_at kinds to).kind ≡ true)
    (nobody : (e : Edge) → Contains edges e → is_filters over e ≡ false → stays but e.parent ≡ is_job e.parent)
    (of : Kept edges over job kept) (still : IsRefreshed kinds edges) (rule : KeepsPermissions edges) where
  abbrev pub pivoted : Edge → Edge
  pivoted e = replaced node to but (moved over node e)

  -- an edge was over the filter, or beside it, and leads to the other node; or it is as it was
  abbrev pub Sort : Edge → Type 0
  Sort e = ((e.child ≡ over) × (pivoted e ≡ with_child to e)) ⊎ (((e.child ≡ node) × (pivoted e ≡ with_child to e)) ⊎ (pivoted e ≡ e))

  pub sort : (e : Edge) → Contains kept e → Sort e
  sort e there = by_moved (moved-cases over node e)
    where
      w : Contains edges e × (is_filters over e ≡ false) × (e.parent ≢ Job job)
      w = of.was e there

      by_job : (j : Bool) → is_job e.parent ≡ j → e.child ≡ node → moved over node e ≡ e → Sort e
      by_job true is at same = inr (inr (ap (replaced node to but) same ∙ rw (eq-eqb e.child node at, nobody e w.0 w.1 ∙ is) refl))
      by_job false is at same = inr (inl (at, ap (replaced node to but) same ∙ rw (eq-eqb e.child node at, nobody e w.0 w.1 ∙ is) refl))

      by_child : (b : Bool) → (e.child == node) ≡ b → moved over node e ≡ e → Sort e
      by_child true is same = by_job (is_job e.parent) refl (eqb-true e.child node is) same
      by_child false is same = inr (inr (ap (replaced node to but) same ∙ rw is refl))

      by_moved : ((e.child ≡ over) × (moved over node e ≡ with_child node e)) ⊎ ((e.child ≢ over) × (moved over node e ≡ e)) → Sort e
      by_moved (inl x) =
          inl (x.0, ap (replaced node to but) x.1 ∙ rw (eq-eqb node node refl, nobody e w.0 w.1 ∙ has.free e w.0 x.0) refl)
      by_moved (inr x) = by_child (e.child == node) refl x.1

  read_to : IsReadPlain kinds edges to
  read_to = record { plain = plain; read = (under_uses to edges holds.edge holds.there holds.child).asks Read holds.asks.0 }

  lighter : (n : ℕ) → n ≢ to → IsLighter (uses_into (map pivoted kept) n) (uses_into edges n)
  lighter n other = uses_into-under n (uses_into edges n) (map pivoted kept) (λ e there at.
      let r = Contains-map pivoted kept e there in
      elim (sort r.0 r.1) [
        | inl x ↦ absurd (other (sym at ∙ ap (λ (y : Edge). y.child) (r.2 ∙ x.1)))
        | inr x ↦ elim x [
          | inl y ↦ absurd (other (sym at ∙ ap (λ (z : Edge). z.child) (r.2 ∙ y.1)))
          | inr y ↦
              let same : e ≡ r.0 = r.2 ∙ y in
              rw same (under_uses n edges r.0 (of.was r.0 r.1).0 (ap (λ (z : Edge). z.child) (sym same) ∙ at))
        ]
      ])

  each : (e : Edge) → Contains kept e → IsEasier (ruled kinds (uses_into (map pivoted kept)) (pivoted e)) (pivoted e)
  each e there = elim (sort e there) [
    | inl x ↦ as_child to x.1
    | inr x ↦ elim x [
      | inl y ↦ as_child to y.1
      | inr y ↦ as_child e.child y
    ]
  ]
    where
      as_child : (c : ℕ) → pivoted e ≡ with_child c e → IsEasier (ruled kinds (uses_into (map pivoted kept)) (pivoted e)) (pivoted e)
      as_child c is =
          subst (λ (x : Edge). IsEasier (ruled kinds (uses_into (map pivoted kept)) x) x) (sym is)
          (stays_easier kinds edges still (uses_into (map pivoted kept)) e c (of.was e there).0
          (λ n from. weighs_no_more kinds edges still (uses_into (map pivoted kept)) e.role n
          (elim (cases_eq n to) [
            | inl same ↦ inr (inl (subst (IsReadPlain kinds edges) (sym same) read_to))
            | inr other ↦ inl (lighter n other)
          ])))

  agree : (a b : Edge) → Contains kept a → Contains kept b → Agree a b → Agree (pivoted a) (pivoted b)
  agree a b at_a at_b was = by_sorts (sort a at_a) (sort b at_b)
    where
      wa : Contains edges a × (is_filters over a ≡ false) × (a.parent ≢ Job job)
      wa = of.was a at_a

      wb : Contains edges b × (is_filters over b ≡ false) × (b.parent ≢ Job job)
      wb = of.was b at_b

      by_sorts : Sort a → Sort b → Agree (pivoted a) (pivoted b)
      by_sorts (inl x) (inl y) = rw (x.1, y.1) (λ same. was (x.0 ∙ sym y.0))
      by_sorts (inl x) (inr (inl y)) = rw (x.1, y.1) (λ same. over_beside kinds edges over node job has rule a b wa.0 x.0 wb.0 wb.1 wb.2 y.0)
      by_sorts (inl x) (inr (inr y)) = rw (x.1, y) (λ same. beside_job edges to job holds rule a b (has.over a wa.0 x.0) wb.0 wb.2 (sym same))
      by_sorts (inr (inl x)) (inl y) =
          rw (x.1, y.1) (λ same. let r = over_beside kinds edges over node job has rule b a wb.0 y.0 wa.0 wa.1 wa.2 x.0 in (r.1, r.0))
      by_sorts (inr (inl x)) (inr (inl y)) = rw (x.1, y.1) (λ same. was (x.0 ∙ sym y.0))
      by_sorts (inr (inl x)) (inr (inr y)) =
          rw (x.1, y) (λ same. beside_job edges to job holds rule a b (has.beside a wa.0 x.0 wa.1 wa.2) wb.0 wb.2 (sym same))
      by_sorts (inr (inr x)) (inl y) =
          rw (x, y.1) (λ same. let r = beside_job edges to job holds rule b a (has.over b wb.0 y.0) wa.0 wa.2 same in (r.1, r.0))
      by_sorts (inr (inr x)) (inr (inl y)) =
          rw (x, y.1) (λ same. let r = beside_job edges to job holds rule b a (has.beside b wb.0 y.0 wb.1 wb.2) wa.0 wa.2 same in (r.1, r.0))
      by_sorts (inr (inr x)) (inr (inr y)) = rw (x, y) was

  pub pivot_kept : KeepsPermissions (refreshed kinds (map pivoted kept))
  pivot_kept =
      kept_by_bound kinds pivoted pivoted kept (λ e there. easier-refl (pivoted e)) each
      (map_pairs Agree pivoted kept agree of.pairs)

-- ---- what is left of a list by an end

module _ (edges : List Edge) (over node job : ℕ) (has : HasFilter edges over node job) (rule : KeepsPermissions edges) where
  abbrev pub left : List Edge
  left = but_doubles over node (but_filters over (without_parent (Job job) edges))

  pub left_is : without_filter over (without_parent (Job job) edges) ≡ map (moved over node) left
  left_is =
      let own = find-Some (is_filters over) edges has.own has.found in
      let found : find (is_filters over) (without_parent (Job job) edges) ≡ Some has.own
      = find-kept (is_filters over) (λ e. not (same_parent e.parent (Job job))) edges has.own has.found (of_node has.own own.1) in
      rw (found, without_filter) (rw has.leads refl)
    where
      of_node : (e : Edge) → is_filters over e ≡ true → not (same_parent e.parent (Job job)) ≡ true
      of_node e is = by_parent e.parent (and-left (same_parent e.parent (Node over)) (same_role e.role Filtered) is)
        where
          by_parent : (p : Parent) → same_parent p (Node over) ≡ true → not (same_parent p (Job job)) ≡ true
          by_parent (Node n) h = refl
          by_parent (Guest n) h = refl
          by_parent (Job n) h = absurd (false≢true h)

  pub left_kept : Kept edges over job left
  left_kept = record {
    was = λ e there.
        let a = Contains-filter (λ x. not (is_double (but_filters over (without_parent (Job job) edges)) over node x)) (but_filters over (without_parent (Job job) edges)) e there in
        let b = Contains-filter (λ x. not (is_filters over x)) (without_parent (Job job) edges) e a.0 in
        let c = Contains-filter (λ x. not (same_parent x.parent (Job job))) edges e b.0 in (
          c.0,
          not_true (is_filters over e) b.1,
          λ is. false≢true (sym (not_true (same_parent e.parent (Job job)) c.1) ∙ ap (λ p. same_parent p (Job job)) is ∙ same_parent-refl (Job job)),
        );
    pairs = AllPairs-filter Agree (λ x. not (is_double (but_filters over (without_parent (Job job) edges)) over node x)) (but_filters over (without_parent (Job job) edges))
        (AllPairs-filter Agree (λ x. not (is_filters over x)) (without_parent (Job job) edges)
        (AllPairs-filter Agree (λ x. not (same_parent x.parent (Job job))) edges (agree-pairs edges rule)));
  }

-- The end of a mirror or an active commit with a move: the job's edges and its filter go, and what used the source uses the other node.
pub KeepsPermissions-pivoted : (kinds : List NodeKind) (edges : List Edge) (over node to job : ℕ) (but : Option Parent) → HasFilter edges over node job
    → HoldsAlone edges to job → is_plain (kind_at kinds to).kind ≡ true
    → ((e : Edge) → Contains edges e → is_filters over e ≡ false → stays but e.parent ≡ is_job e.parent)
    → IsRefreshed kinds edges → KeepsPermissions edges
    → KeepsPermissions (refreshed kinds (with_replaced node to but (without_filter over (without_parent (Job job) edges))))
KeepsPermissions-pivoted kinds edges over node to job but has holds plain nobody still rule =
    let own : List Edge = left edges over node job has rule in
    let is : with_replaced node to but (without_filter over (without_parent (Job job) edges)) ≡ map (λ e. replaced node to but (moved over node e)) own
    = ap (with_replaced node to but) (left_is edges over node job has rule) ∙ map-both (replaced node to but) (moved over node) own in
    subst (λ (es : List Edge). KeepsPermissions (refreshed kinds es)) (sym is)
    (pivot_kept kinds edges own over node to job but has holds plain nobody (left_kept edges over node job has rule) still rule)
