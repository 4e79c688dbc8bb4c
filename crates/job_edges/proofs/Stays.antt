-- Ends that move nobody to another disk: a filter goes, and some edges to backing nodes may lead to others and begin to read.
use Rattle.std.proofs.Common.{◌≡◌, ◌≢◌, ◌⊎◌, ℕ, List, map, refl, sym, ◌∙◌, ap, subst, inl, inr, Bool, true, false, cond}
use Rattle.std.specs.Prelude.{not}
use Rattle.std.specs.List.{Contains}
use Rattle.std.proofs.lemmas.Bool.{false≢true}
use Rattle.blk_graph.specs.declared.edge.Edge.{Edge}
use Rattle.blk_graph.specs.declared.edge.Parent.{Parent}
use Rattle.blk_graph.specs.declared.edge.Parent.TheVariants.{Node, Guest, Job}
use Rattle.blk_graph.specs.declared.edge.Perm.{Perm}
use Rattle.blk_graph.specs.declared.edge.Perm.TheVariants.{Read, Write, Unchanged}
use Rattle.blk_graph.specs.declared.edge.Role.{Role}
use Rattle.blk_graph.specs.declared.edge.Role.TheVariants.{Backing}
use Rattle.blk_graph.specs.declared.kind.Kind.{Kind}
use Rattle.blk_graph.specs.declared.kind.NodeKind.{NodeKind}
use Rattle.blk_graph.specs.declared.kind.Kind.TheVariants.{Protocol, Raw, Qcow2, CopyOnRead, BeforeWrite, Mirror, Commit}
use Rattle.blk_graph.specs.declared.edge.Uses.{Uses}
use Rattle.blk_graph.specs.Edges.{has_perm, ArePermsWithin}
use Rattle.blk_graph.specs.Edits.{with_child, moved}
use Rattle.blk_graph.specs.Permissions.{derived_uses}
use Rattle.blk_graph.specs.Refreshed.{kind_at, uses_into, with_uses, ruled, ruled_from, refreshed, IsRefreshed}
use Rattle.blk_graph.specs.Rule.{KeepsPermissions}
use Rattle.blk_graph.proofs.EaseLemmas.{IsLighter, IsEasier, Agree, easier-refl, perms_within}
use Rattle.blk_graph.proofs.EditLemmas.{moved-cases}
use Rattle.blk_graph.proofs.Members.{Contains-map}
use Rattle.blk_graph.proofs.RoleLemmas.{map_pairs}
use Rattle.blk_graph.proofs.TakeOutLemmas.{IsWithinUses, uses_into-under, under_uses}
use Rattle.job_edges.specs.Chains.{IsReadPlain, is_plain}
use Rattle.job_edges.proofs.Rests.{reading, IsCalm}
use Rattle.job_edges.proofs.Core.{stays_easier, weighs_no_more, kept_by_bound}
use Rattle.job_edges.proofs.Ends.{Kept}

-- an edge to a backing node that reads is as large as it may become
reading-most : (kinds : List NodeKind) (above : ℕ → Uses) (to : ℕ) (e : Edge) → e.role ≡ Backing → IsEasier (ruled kinds above (reading to e)) (reading to e)
reading-most kinds above to e role = by_parent e.parent
  where
    most : (k : Kind) (w : Bool) (u : Uses) → IsEasier (with_uses (reading to e) (derived_uses k Backing w u)) (reading to e)
    most Qcow2 w u = record {
      parent = refl;
      role = refl;
      child = refl;
      asks = perms_within u.perm.read false false true false false (λ is. refl) (λ is. is) (λ is. is);
      shares = perms_within true false true true (not u.perm.read) true (λ is. is) (λ is. absurd (false≢true is)) (λ is. is);
    }
    most Protocol w u = easier-refl (reading to e)
    most Raw w u = easier-refl (reading to e)
    most CopyOnRead w u = easier-refl (reading to e)
    most BeforeWrite w u = easier-refl (reading to e)
    most Mirror w u = easier-refl (reading to e)
    most Commit w u = easier-refl (reading to e)

    by_parent : (p : Parent) → IsEasier (ruled_from kinds above (reading to e) p) (reading to e)
    by_parent (Node n) =
        let k : NodeKind = kind_at kinds n in
        subst (λ (r : Role). IsEasier (with_uses (reading to e) (derived_uses k.kind r k.writes (above n))) (reading to e)) (sym role) (most k.kind k.writes (above n))
    by_parent (Guest n) = easier-refl (reading to e)
    by_parent (Job n) = easier-refl (reading to e)

-- All of it rests on this: which edges begin to read (`up`) and where they then lead (`to`), and at which nodes the edges into it may
-- weigh more than they did (`firm`). Such a node is a plain one that was read, or whose own edge to a backing node is `up`.
module _ (kinds : List NodeKind) (edges kept : List Edge) (over node job : ℕ) (up : Edge → Bool) (to : Edge → ℕ) (firm : ℕ → Bool)
    (of : Kept edges over job kept) (still : IsRefreshed kinds edges) where
  abbrev pub bound : Edge → Edge
  bound e = cond (up e) (reading (to e) e) (moved over node e)

  -- the node of an edge that begins to read: another one than the source, all other edges into it are calm
  pub record IsUp (e : Edge) : Type 0 where
    pub role : e.role ≡ Backing
    pub apart : to e ≢ node
    pub firm_to : firm (to e) ≡ true
    pub calm : (x : Edge) → Contains kept x → up x ≡ false → x.child ≡ to e → IsCalm x

  pub record IsFirm (n : ℕ) : Type 0 where
    pub plain : is_plain (kind_at kinds n).kind ≡ true
    pub read : ((uses_into edges n).perm.read ≡ true) ⊎ ((e : Edge) → Contains kept e → e.parent ≡ Node n → e.role ≡ Backing → up e ≡ true)

  module _ (ups : (e : Edge) → Contains kept e → up e ≡ true → IsUp e) (firms : (n : ℕ) → firm n ≡ true → IsFirm n) (firm_node : firm node ≡ true)
      (apart : over ≢ node)
      (beside : (x y : Edge) → Contains kept x → x.child ≡ over → Contains kept y → y.child ≡ node → ArePermsWithin x.perm y.shared × ArePermsWithin y.perm x.shared)
    where
      lighter : (n : ℕ) → firm n ≡ false → IsLighter (uses_into (map bound kept) n) (uses_into edges n)
      lighter n none = uses_into-under n (uses_into edges n) (map bound kept) (λ e there at.
          let r = Contains-map bound kept e there in by_up e r.0 r.1 r.2 at (up r.0) refl)
        where
          by_up : (e x : Edge) → Contains kept x → e ≡ bound x → e.child ≡ n → (b : Bool) → up x ≡ b → IsWithinUses e (uses_into edges n)
          by_up e x there is at true begins =
              let shape : bound x ≡ reading (to x) x = rw begins refl in
              let leads : n ≡ to x = sym at ∙ ap (λ (y : Edge). y.child) (is ∙ shape) in
              absurd (false≢true (sym none ∙ ap firm leads ∙ (ups x there begins).firm_to))
          by_up e x there is at false same = elim (moved-cases over node x) [
            | inl m ↦
                let shape : bound x ≡ with_child node x = rw same m.1 in
                let leads : n ≡ node = sym at ∙ ap (λ (y : Edge). y.child) (is ∙ shape) in
                absurd (false≢true (sym none ∙ ap firm leads ∙ firm_node))
            | inr m ↦
                let shape : bound x ≡ x = rw same m.1 in
                let equal : e ≡ x = is ∙ shape in
                rw equal (under_uses n edges x (of.was x there).0 (ap (λ (z : Edge). z.child) (sym equal) ∙ at))
          ]

      each : (e : Edge) → Contains kept e → IsEasier (ruled kinds (uses_into (map bound kept)) (bound e)) (bound e)
      each e there = by_up (up e) refl
        where
          as_child : (c : ℕ) → up e ≡ false → bound e ≡ with_child c e → IsEasier (ruled kinds (uses_into (map bound kept)) (bound e)) (bound e)
          as_child c same is =
              subst (λ (x : Edge). IsEasier (ruled kinds (uses_into (map bound kept)) x) x) (sym is)
              (stays_easier kinds edges still (uses_into (map bound kept)) e c (of.was e there).0
              (λ n from. weighs_no_more kinds edges still (uses_into (map bound kept)) e.role n (by_firm n from (firm n) refl)))
            where
              by_firm : (n : ℕ) → e.parent ≡ Node n → (b : Bool) → firm n ≡ b
                  → IsLighter (uses_into (map bound kept) n) (uses_into edges n) ⊎ (IsReadPlain kinds edges n ⊎ ((is_plain (kind_at kinds n).kind ≡ true) × (e.role ≢ Backing)))
              by_firm n from true is = elim (firms n is).read [
                | inl read ↦ inr (inl (record { plain = (firms n is).plain; read = read }))
                | inr none ↦ inr (inr ((firms n is).plain, λ role. false≢true (sym same ∙ none e there from role)))
              ]
              by_firm n from false is = inl (lighter n is)

          by_up : (b : Bool) → up e ≡ b → IsEasier (ruled kinds (uses_into (map bound kept)) (bound e)) (bound e)
          by_up true is = rw is (reading-most kinds (uses_into (map bound kept)) (to e) e (ups e there is).role)
          by_up false is = elim (moved-cases over node e) [
            | inl m ↦ as_child node is (rw is m.1)
            | inr m ↦ as_child e.child is (rw is m.1)
          ]

      -- ---- pairs

      abbrev Sort : Edge → Type 0
      Sort e = ((up e ≡ true) × (bound e ≡ reading (to e) e)) ⊎ (((e.child ≡ over) × (bound e ≡ with_child node e)) ⊎ ((up e ≡ false) × (bound e ≡ e)))

      sort : (e : Edge) → Sort e
      sort e = by_up (up e) refl
        where
          by_up : (b : Bool) → up e ≡ b → Sort e
          by_up true is = inl (is, rw is refl)
          by_up false is = elim (moved-cases over node e) [
            | inl m ↦ inr (inl (m.0, rw is m.1))
            | inr m ↦ inr (inr (is, rw is m.1))
          ]

      both_read : (a b : Edge) (m n : ℕ) → Agree (reading m a) (reading n b)
      both_read a b m n same = (λ perm. within perm, λ perm. within perm)
        where
          within : (perm : Perm) → has_perm (reading m a).perm perm ≡ true → has_perm (reading n b).shared perm ≡ true
          within Read is = refl
          within Write is = absurd (false≢true is)
          within Unchanged is = refl

      read_calm : (a x : Edge) (n : ℕ) → IsCalm x → ArePermsWithin (reading n a).perm x.shared × ArePermsWithin x.perm (reading n a).shared
      read_calm a x n calm = (λ perm. down perm, λ perm. upward perm)
        where
          down : (perm : Perm) → has_perm (reading n a).perm perm ≡ true → has_perm x.shared perm ≡ true
          down Read is = calm.read
          down Write is = absurd (false≢true is)
          down Unchanged is = absurd (false≢true is)

          upward : (perm : Perm) → has_perm x.perm perm ≡ true → has_perm (reading n a).shared perm ≡ true
          upward Read is = refl
          upward Write is = absurd (false≢true (sym calm.writes ∙ is))
          upward Unchanged is = refl

      agree : (a b : Edge) → Contains kept a → Contains kept b → Agree a b → Agree (bound a) (bound b)
      agree a b at_a at_b was = by_sorts (sort a) (sort b)
        where
          by_sorts : Sort a → Sort b → Agree (bound a) (bound b)
          by_sorts (inl x) (inl y) = rw (x.1, y.1) (both_read a b (to a) (to b))
          by_sorts (inl x) (inr (inl y)) = rw (x.1, y.1) (λ same. absurd ((ups a at_a x.0).apart same))
          by_sorts (inl x) (inr (inr y)) = rw (x.1, y.1) (λ same. read_calm a b (to a) ((ups a at_a x.0).calm b at_b y.0 (sym same)))
          by_sorts (inr (inl x)) (inl y) = rw (x.1, y.1) (λ same. absurd ((ups b at_b y.0).apart (sym same)))
          by_sorts (inr (inl x)) (inr (inl y)) = rw (x.1, y.1) (λ same. was (x.0 ∙ sym y.0))
          by_sorts (inr (inl x)) (inr (inr y)) = rw (x.1, y.1) (λ same. beside a b at_a x.0 at_b (sym same))
          by_sorts (inr (inr x)) (inl y) =
              rw (x.1, y.1) (λ same. let r = read_calm b a (to b) ((ups b at_b y.0).calm a at_a x.0 same) in (r.1, r.0))
          by_sorts (inr (inr x)) (inr (inl y)) = rw (x.1, y.1) (λ same. let r = beside b a at_b y.0 at_a same in (r.1, r.0))
          by_sorts (inr (inr x)) (inr (inr y)) = rw (x.1, y.1) was

      -- whatever the edges that begin to read become, as long as they are no more than that
      pub stay_kept : (new : Edge → Edge) → ((e : Edge) → Contains kept e → IsEasier (new e) (bound e)) → KeepsPermissions (refreshed kinds (map new kept))
      stay_kept new less = kept_by_bound kinds new bound kept less each (map_pairs Agree bound kept agree of.pairs)
