-- What used a filter can use another node, where an edge that goes asks all of that node that the filter's parents ask, and
-- shares only what all of them share.
use Rattle.std.proofs.Common.{◌≡◌, ◌≢◌, ◌⊎◌, ℕ, List, [], ◌∷◌, refl, sym, ◌∙◌, ap, inl, inr, Bool, true, false, cond, Option, Some, None}
use Rattle.std.specs.Prelude.{◌==◌, ◌&&◌, ◌||◌, not}
use Rattle.std.specs.List.{Contains, AllPairs}
use Rattle.std.proofs.lemmas.Bool.{false≢true, eqb-true, eq-eqb}
use Rattle.std.proofs.lemmas.List.Kept.{AllPairs-filter}
use Rattle.blk_graph.specs.declared.edge.Edge.{Edge}
use Rattle.blk_graph.specs.declared.edge.Parent.{Parent}
use Rattle.blk_graph.specs.declared.edge.Parent.TheVariants.{Node, Guest, Job}
use Rattle.blk_graph.specs.declared.edge.Perm.{Perm}
use Rattle.blk_graph.specs.declared.edge.Perm.TheVariants.{Read, Write, Unchanged}
use Rattle.blk_graph.specs.declared.edge.Uses.{Uses}
use Rattle.blk_graph.specs.declared.kind.NodeKind.{NodeKind}
use Rattle.blk_graph.specs.Edges.{same_parent, has_perm, ArePermsWithin}
use Rattle.blk_graph.specs.Edits.{with_child, moved, but_doubles, is_double, with_moved, is_filters, but_filters, without_filter, without_parent}
use Rattle.blk_graph.specs.Filters.{IsTransparent, LeavesRoom}
use Rattle.blk_graph.specs.Permissions.{uses_by}
use Rattle.blk_graph.specs.Refreshed.{kind_at, joined, uses_into, with_uses, ruled, ruled_from, refreshed, IsRefreshed}
use Rattle.blk_graph.specs.Rule.{KeepsPermissions}
use Rattle.blk_graph.proofs.EaseLemmas.{IsLighter, IsEased, Agree, joined-lighter, idle-lighter, lighter-trans, uses_into-eased, eased_ruled, eased-refl, eased_pairs, agree-pairs, pairs-agree}
use Rattle.blk_graph.proofs.EditLemmas.{moved-cases, Contains-with_moved}
use Rattle.blk_graph.proofs.InverseLemmas.{same_parent-refl}
use Rattle.blk_graph.proofs.Members.{Contains-here, Contains-there, Contains-cases, Contains-nil, Contains-filter, find-Some}
use Rattle.blk_graph.proofs.RefreshLemmas.{refreshed-by}
use Rattle.blk_graph.proofs.RoleLemmas.{head_pairs, tail_pairs, map_pairs}

-- an edge asks and shares within what is asked and shared
pub record IsWithinUses (e : Edge) (uses : Uses) : Type 0 where
  pub asks : ArePermsWithin e.perm uses.perm
  pub shares : ArePermsWithin uses.shared e.shared

under-lighter : (e : Edge) (a b : Uses) → IsWithinUses e a → IsLighter a b → IsWithinUses e b
under-lighter e a b h k = record {
  asks = λ perm is. k.asks perm (h.asks perm is);
  shares = λ perm is. h.shares perm (k.shares perm is);
}

either : (a b : Bool) (C : Type 0) → (a ≡ true → C) → (b ≡ true → C) → (a || b) ≡ true → C
either true b C h k is = h refl
either false b C h k is = k is

both : (a b : Bool) → a ≡ true → b ≡ true → (a && b) ≡ true
both true true h k = refl
both true false h k = absurd cc
both false b h k = absurd cc

-- the uses of edges that all are under others
joined-under : (e : Edge) (rest uses : Uses) → IsWithinUses e uses → IsLighter rest uses → IsLighter (joined e rest) uses
joined-under e rest uses h k = record { asks = λ perm. asks perm; shares = λ perm. shares perm }
  where
    asks : (perm : Perm) → has_perm (joined e rest).perm perm ≡ true → has_perm uses.perm perm ≡ true
    asks Read = either e.perm.read rest.perm.read (uses.perm.read ≡ true) (h.asks Read) (k.asks Read)
    asks Write = either e.perm.write rest.perm.write (uses.perm.write ≡ true) (h.asks Write) (k.asks Write)
    asks Unchanged = either e.perm.unchanged rest.perm.unchanged (uses.perm.unchanged ≡ true) (h.asks Unchanged) (k.asks Unchanged)

    shares : (perm : Perm) → has_perm uses.shared perm ≡ true → has_perm (joined e rest).shared perm ≡ true
    shares Read is = both e.shared.read rest.shared.read (h.shares Read is) (k.shares Read is)
    shares Write is = both e.shared.write rest.shared.write (h.shares Write is) (k.shares Write is)
    shares Unchanged is = both e.shared.unchanged rest.shared.unchanged (h.shares Unchanged is) (k.shares Unchanged is)

pub uses_into-under : (n : ℕ) (uses : Uses) (edges : List Edge) → ((e : Edge) → Contains edges e → e.child ≡ n → IsWithinUses e uses)
    → IsLighter (uses_into edges n) uses
uses_into-under n uses [] each = idle-lighter uses
uses_into-under n uses (e ∷ edges) each =
    by_test (e.child == n) refl (uses_into-under n uses edges (λ x h. each x (Contains-there e edges x h)))
  where
    by_test : (t : Bool) → (e.child == n) ≡ t → IsLighter (uses_into edges n) uses
        → IsLighter (cond t (joined e (uses_into edges n)) (uses_into edges n)) uses
    by_test true is ih = joined-under e (uses_into edges n) uses (each e (Contains-here e edges) (eqb-true e.child n is)) ih
    by_test false is ih = ih

-- and an edge is under the uses that it is joined to
under-joined : (e : Edge) (rest : Uses) → IsWithinUses e (joined e rest)
under-joined e rest = record { asks = λ perm. asks perm; shares = λ perm. shares perm }
  where
    left : (a b : Bool) → a ≡ true → (a || b) ≡ true
    left true b h = refl
    left false b h = absurd cc

    left_of : (a b : Bool) → (a && b) ≡ true → a ≡ true
    left_of true b h = refl
    left_of false b h = absurd cc

    asks : (perm : Perm) → has_perm e.perm perm ≡ true → has_perm (joined e rest).perm perm ≡ true
    asks Read h = left e.perm.read rest.perm.read h
    asks Write h = left e.perm.write rest.perm.write h
    asks Unchanged h = left e.perm.unchanged rest.perm.unchanged h

    shares : (perm : Perm) → has_perm (joined e rest).shared perm ≡ true → has_perm e.shared perm ≡ true
    shares Read h = left_of e.shared.read rest.shared.read h
    shares Write h = left_of e.shared.write rest.shared.write h
    shares Unchanged h = left_of e.shared.unchanged rest.shared.unchanged h

pub under_uses : (n : ℕ) (edges : List Edge) (e : Edge) → Contains edges e → e.child ≡ n → IsWithinUses e (uses_into edges n)
under_uses n [] e there at = absurd (Contains-nil e there)
under_uses n (x ∷ edges) e there at = elim (Contains-cases x edges e there) [
  | inl here ↦ rw (ap (λ (y : Edge). y.child) (sym here) ∙ at, eq-eqb n n refl) (rw here (under-joined x (uses_into edges n)))
  | inr later ↦ by_test (x.child == n) (under_uses n edges e later at)
]
  where
    by_test : (t : Bool) → IsWithinUses e (uses_into edges n) → IsWithinUses e (cond t (joined x (uses_into edges n)) (uses_into edges n))
    by_test true h = under-lighter e (uses_into edges n) (joined x (uses_into edges n)) h (joined-lighter x (uses_into edges n))
    by_test false h = h

-- an edge that is moved is derived as before
pub ruled-child : (kinds : List NodeKind) (above : ℕ → Uses) (to : ℕ) (e : Edge) → ruled kinds above (with_child to e) ≡ with_child to (ruled kinds above e)
ruled-child kinds above to e = by_parent e.parent
  where
    by_uses : (o : Option Uses) → with_uses (with_child to e) o ≡ with_child to (with_uses e o)
    by_uses None = refl
    by_uses (Some uses) = refl

    by_parent : (p : Parent) → ruled_from kinds above (with_child to e) p ≡ with_child to (ruled_from kinds above e p)
    by_parent (Node n) = by_uses (uses_by (kind_at kinds n) e.role (above n))
    by_parent (Guest n) = refl
    by_parent (Job n) = refl

-- two edges of a list into one node, of which one passes a test and the other doesn't
pub agree_apart : (p : Edge → Bool) (edges : List Edge) → AllPairs Agree edges → (a b : Edge) → Contains edges a → Contains edges b
    → p a ≡ true → p b ≡ false → Agree a b
agree_apart p [] pairs a b at_a at_b is none = absurd (Contains-nil a at_a)
agree_apart p (x ∷ xs) pairs a b at_a at_b is none = by_cases (Contains-cases x xs a at_a) (Contains-cases x xs b at_b)
    (agree_apart p xs (tail_pairs Agree x xs pairs) a b)
  where
    by_cases : (a ≡ x) ⊎ Contains xs a → (b ≡ x) ⊎ Contains xs b
        → (Contains xs a → Contains xs b → p a ≡ true → p b ≡ false → Agree a b) → Agree a b
    by_cases (inl here_a) (inl here_b) ih = absurd (false≢true (sym none ∙ ap p (here_b ∙ sym here_a) ∙ is))
    by_cases (inl here_a) (inr later_b) ih = rw here_a (head_pairs Agree x xs pairs b later_b)
    by_cases (inr later_a) (inl here_b) ih = λ same.
        let r : Agree b a = rw here_b (head_pairs Agree x xs pairs a later_a) in
        let back = r (sym same) in (back.1, back.0)
    by_cases (inr later_a) (inr later_b) ih = ih later_a later_b is none

module _ (kinds : List NodeKind) (edges others : List Edge) (over to : ℕ) (gone : Edge → Bool) (cover : Edge)
    (there : Contains edges cover) (goes : gone cover ≡ true) (into : cover.child ≡ to)
    (was_there : (e : Edge) → Contains others e → Contains edges e × (gone e ≡ false)) (fewer : AllPairs Agree others)
    (asks : ArePermsWithin (uses_into edges over).perm cover.perm) (shares : ArePermsWithin cover.shared (uses_into edges over).shared)
    (stays : IsRefreshed kinds edges) (rule : KeepsPermissions edges) where
  abbrev left_over : List Edge
  left_over = with_moved over to others

  -- an edge into the filter asks and shares within what is asked and shared of the other node
  under_own : (e : Edge) → Contains edges e → e.child ≡ over → IsWithinUses e (uses_into edges to)
  under_own e h at =
      let up = under_uses over edges e h at in
      let down = under_uses to edges cover there into in
      record {
        asks = λ perm is. down.asks perm (asks perm (up.asks perm is));
        shares = λ perm is. up.shares perm (shares perm (down.shares perm is));
      }

  lighter : (n : ℕ) → IsLighter (uses_into left_over n) (uses_into edges n)
  lighter n = uses_into-under n (uses_into edges n) left_over (λ e h at.
      let r = Contains-with_moved over to others e h in
      let was = (was_there r.0 r.1).0 in
      elim (moved-cases over to r.0) [
        | inl x ↦
            let same : to ≡ n = sym (ap (λ (y : Edge). y.child) (r.2 ∙ x.1)) ∙ at in
            let u = under_own r.0 was x.0 in
            rw (← same) (rw (r.2 ∙ x.1) (record { asks = u.asks; shares = u.shares }))
        | inr x ↦
            let same : e ≡ r.0 = r.2 ∙ x.1 in
            rw same (under_uses n edges r.0 was (ap (λ (y : Edge). y.child) (sym same) ∙ at))
      ])

  still : (e : Edge) → Contains left_over e → ruled kinds (uses_into edges) e ≡ e
  still e h =
      let r = Contains-with_moved over to others e h in
      let was = (was_there r.0 r.1).0 in
      elim (moved-cases over to r.0) [
        | inl x ↦ ap (ruled kinds (uses_into edges)) (r.2 ∙ x.1) ∙ ruled-child kinds (uses_into edges) to r.0
            ∙ ap (with_child to) (stays r.0 was) ∙ sym (r.2 ∙ x.1)
        | inr x ↦ ap (ruled kinds (uses_into edges)) (r.2 ∙ x.1) ∙ stays r.0 was ∙ sym (r.2 ∙ x.1)
      ]

  agree_moved : (a b : Edge) → Contains others a → Contains others b → Agree a b
      → Agree (moved over to a) (moved over to b)
  agree_moved a b at_a at_b agree = by_cases (moved-cases over to a) (moved-cases over to b)
    where
      was_a : Contains edges a × (gone a ≡ false)
      was_a = was_there a at_a

      was_b : Contains edges b × (gone b ≡ false)
      was_b = was_there b at_b

      -- one edge leads to the filter, the other to the other node
      beside : (x y : Edge) → Contains edges x → x.child ≡ over → Contains edges y → gone y ≡ false → y.child ≡ to
          → ArePermsWithin x.perm y.shared × ArePermsWithin y.perm x.shared
      beside x y at_x to_x at_y none to_y =
          let pair = agree_apart gone edges (agree-pairs edges rule) cover y there at_y goes none (into ∙ sym to_y) in
          let up = under_uses over edges x at_x to_x in (
            λ perm is. pair.0 perm (asks perm (up.asks perm is)),
            λ perm is. up.shares perm (shares perm (pair.1 perm is)),
          )

      by_cases : ((a.child ≡ over) × (moved over to a ≡ with_child to a)) ⊎ ((a.child ≢ over) × (moved over to a ≡ a))
          → ((b.child ≡ over) × (moved over to b ≡ with_child to b)) ⊎ ((b.child ≢ over) × (moved over to b ≡ b))
          → Agree (moved over to a) (moved over to b)
      by_cases (inl x) (inl y) = rw (x.1, y.1) (λ same. agree (x.0 ∙ sym y.0))
      by_cases (inl x) (inr y) = rw (x.1, y.1) (λ same. beside a b was_a.0 x.0 was_b.0 was_b.1 (sym same))
      by_cases (inr x) (inl y) =
          rw (x.1, y.1) (λ same. let r = beside b a was_b.0 y.0 was_a.0 was_a.1 same in (r.1, r.0))
      by_cases (inr x) (inr y) = rw (x.1, y.1) agree

  left_agree : AllPairs Agree left_over
  left_agree =
      map_pairs Agree (moved over to) (but_doubles over to others)
      (λ a b at_a at_b. agree_moved a b
      (Contains-filter (λ e. not (is_double others over to e)) others a at_a).0
      (Contains-filter (λ e. not (is_double others over to e)) others b at_b).0)
      (AllPairs-filter Agree (λ e. not (is_double others over to e)) others fewer)

  pub KeepsPermissions-left : KeepsPermissions (refreshed kinds left_over)
  KeepsPermissions-left =
      let eased : IsEased (refreshed kinds left_over) left_over
      = refreshed-by kinds (λ now. IsEased now left_over)
      (λ now h. eased_ruled kinds (uses_into now) (uses_into edges)
      (λ n. lighter-trans (uses_into now n) (uses_into left_over n) (uses_into edges n) (uses_into-eased n now left_over h) (lighter n))
      now left_over still h) left_over (eased-refl left_over) in
      pairs-agree (refreshed kinds left_over) (eased_pairs (refreshed kinds left_over) left_over eased left_agree)

pub not_true : (b : Bool) → not b ≡ true → b ≡ false
not_true true k = absurd cc
not_true false k = refl

-- the filter's own edge goes
pub KeepsPermissions-without_filter : (kinds : List NodeKind) (edges : List Edge) (over : ℕ) → IsTransparent edges over
    → IsRefreshed kinds edges → KeepsPermissions edges → KeepsPermissions (refreshed kinds (without_filter over edges))
KeepsPermissions-without_filter kinds edges over clear stays rule =
    let found = find-Some (is_filters over) edges clear.edge clear.own in
    let left = KeepsPermissions-left kinds edges (but_filters over edges) over clear.edge.child (is_filters over) clear.edge found.0
    found.1 refl
    (λ e h.
    let r = Contains-filter (λ x. not (is_filters over x)) edges e h in (r.0, not_true (is_filters over e) r.1))
    (AllPairs-filter Agree (λ e. not (is_filters over e)) edges (agree-pairs edges rule))
    clear.asks clear.shares stays rule in
    rw (clear.own, without_filter) left

-- the edges of the filter and of a job go
pub KeepsPermissions-handed : (kinds : List NodeKind) (edges : List Edge) (over to job : ℕ) → LeavesRoom edges over to job
    → IsRefreshed kinds edges → KeepsPermissions edges
    → KeepsPermissions (refreshed kinds (with_moved over to (without_parent (Job job) (without_parent (Node over) edges))))
KeepsPermissions-handed kinds edges over to job room stays rule =
    KeepsPermissions-left kinds edges (without_parent (Job job) (without_parent (Node over) edges)) over to gone room.edge room.there
    (rw (room.own, same_parent-refl (Job job)) refl) room.child was
    (AllPairs-filter Agree (λ e. not (same_parent e.parent (Job job))) (without_parent (Node over) edges)
    (AllPairs-filter Agree (λ e. not (same_parent e.parent (Node over))) edges (agree-pairs edges rule)))
    room.asks room.shares stays rule
  where
    gone : Edge → Bool
    gone e = same_parent e.parent (Job job) || same_parent e.parent (Node over)

    was : (e : Edge) → Contains (without_parent (Job job) (without_parent (Node over) edges)) e → Contains edges e × (gone e ≡ false)
    was e h =
        let r = Contains-filter (λ x. not (same_parent x.parent (Job job))) (without_parent (Node over) edges) e h in
        let q = Contains-filter (λ x. not (same_parent x.parent (Node over))) edges e r.0 in
        (q.0, rw (not_true (same_parent e.parent (Job job)) r.1) (not_true (same_parent e.parent (Node over)) q.1))
