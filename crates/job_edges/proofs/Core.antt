-- Edges that an end keeps, under a bound.
use Rattle.std.proofs.Common.{◌≡◌, ◌≢◌, ◌⊎◌, ℕ, List, [], ◌∷◌, map, refl, sym, ◌∙◌, ap, subst, inl, inr, Bool, true, false}
use Rattle.std.specs.Prelude.{not}
use Rattle.std.specs.List.{Contains, AllPairs}
use Rattle.std.proofs.lemmas.Bool.{false≢true}
use Rattle.blk_graph.specs.declared.edge.Edge.{Edge}
use Rattle.blk_graph.specs.declared.edge.Parent.{Parent}
use Rattle.blk_graph.specs.declared.edge.Parent.TheVariants.{Node, Guest, Job}
use Rattle.blk_graph.specs.declared.edge.Role.{Role}
use Rattle.blk_graph.specs.declared.edge.Role.TheVariants.{File, Backing, Filtered}
use Rattle.blk_graph.specs.declared.edge.Uses.{Uses}
use Rattle.blk_graph.specs.declared.kind.Kind.{Kind}
use Rattle.blk_graph.specs.declared.kind.Kind.TheVariants.{Raw, Qcow2, CopyOnRead, BeforeWrite, Mirror, Commit}
use Rattle.blk_graph.specs.declared.kind.NodeKind.{NodeKind}
use Rattle.blk_graph.specs.Edits.{with_child}
use Rattle.blk_graph.specs.Permissions.{derived_uses, uses_by}
use Rattle.blk_graph.specs.Refreshed.{kind_at, uses_into, ruled, ruled_from, refreshed, IsRefreshed}
use Rattle.blk_graph.specs.Rule.{KeepsPermissions}
use Rattle.blk_graph.proofs.EaseLemmas.{IsLighter, IsEasier, Agree, AreLighter, derived-lighter, perms_within, with_uses-easier, easier-refl, pairs-agree, not_within}
use Rattle.blk_graph.proofs.Members.{Contains-here, Contains-there, Contains-map}
use Rattle.blk_graph.proofs.TakeOutLemmas.{ruled-child}
use Rattle.job_edges.specs.Bounds.{IsNoMore, AreNoMore}
use Rattle.job_edges.specs.Chains.{is_plain, IsReadPlain}
use Rattle.job_edges.proofs.Bounds.{bounded}

-- a plain node's edges rest on those into it only by whether it is read
pub plain-lighter : (kind : Kind) (role : Role) (w : Bool) (a b : Uses) → is_plain kind ≡ true → (b.perm.read ≡ true) ⊎ (role ≢ Backing)
    → AreLighter (derived_uses kind role w a) (derived_uses kind role w b)
plain-lighter Raw File w a b plain read = record { asks = λ perm is. is; shares = λ perm is. is }
plain-lighter Qcow2 File w a b plain read = record { asks = λ perm is. is; shares = λ perm is. is }
plain-lighter Qcow2 Backing w a b plain (inl read) = record {
  asks = perms_within a.perm.read false false b.perm.read false false (λ is. read) (λ is. is) (λ is. is);
  shares = perms_within true (not b.perm.read) true true (not a.perm.read) true (λ is. is)
      (not_within a.perm.read b.perm.read (λ is. read)) (λ is. is);
}
plain-lighter Qcow2 Backing w a b plain (inr other) = absurd (other refl)
plain-lighter CopyOnRead File w a b plain read = absurd (false≢true plain)
plain-lighter BeforeWrite Filtered w a b plain read = absurd (false≢true plain)
plain-lighter Mirror Filtered w a b plain read = absurd (false≢true plain)
plain-lighter Commit Filtered w a b plain read = absurd (false≢true plain)
plain-lighter _ _ w a b plain read = tt

module _ (kinds : List NodeKind) (edges : List Edge) (stays : IsRefreshed kinds edges) where
  -- an edge of the list, to whatever child, stays under other uses of its parent that weigh no more for it
  pub stays_easier : (above : ℕ → Uses) (e : Edge) (to : ℕ) → Contains edges e
      → ((n : ℕ) → e.parent ≡ Node n → AreLighter (uses_by (kind_at kinds n) e.role (above n)) (uses_by (kind_at kinds n) e.role (uses_into edges n)))
      → IsEasier (ruled kinds above (with_child to e)) (with_child to e)
  stays_easier above e to there lighter =
      rw (ruled-child kinds above to e) (moved_both (ruled kinds above e) (by_parent e.parent refl))
    where
      moved_both : (a : Edge) → IsEasier a e → IsEasier (with_child to a) (with_child to e)
      moved_both a h = record { parent = h.parent; role = h.role; child = refl; asks = h.asks; shares = h.shares }

      by_parent : (p : Parent) → e.parent ≡ p → IsEasier (ruled_from kinds above e p) e
      by_parent (Node n) is =
          let was : ruled_from kinds (uses_into edges) e (Node n) ≡ e = ap (ruled_from kinds (uses_into edges) e) (sym is) ∙ stays e there in
          subst (λ (x : Edge). IsEasier (ruled_from kinds above e (Node n)) x) was
          (with_uses-easier e e (uses_by (kind_at kinds n) e.role (above n)) (uses_by (kind_at kinds n) e.role (uses_into edges n)) (easier-refl e) (lighter n is))
      by_parent (Guest n) is = easier-refl e
      by_parent (Job n) is = easier-refl e

  -- so where fewer use the parent, or the parent is a plain node that was read, or the edge isn't one to a backing node
  pub weighs_no_more : (above : ℕ → Uses) (role : Role) (n : ℕ)
      → IsLighter (above n) (uses_into edges n) ⊎ (IsReadPlain kinds edges n ⊎ ((is_plain (kind_at kinds n).kind ≡ true) × (role ≢ Backing)))
      → AreLighter (uses_by (kind_at kinds n) role (above n)) (uses_by (kind_at kinds n) role (uses_into edges n))
  weighs_no_more above role n (inl less) =
      let k : NodeKind = kind_at kinds n in
      derived-lighter k.kind role k.writes k.writes (above n) (uses_into edges n) (λ is. is) less
  weighs_no_more above role n (inr (inl read)) =
      let k : NodeKind = kind_at kinds n in
      plain-lighter k.kind role k.writes (above n) (uses_into edges n) read.plain (inl read.read)
  weighs_no_more above role n (inr (inr other)) =
      let k : NodeKind = kind_at kinds n in
      plain-lighter k.kind role k.writes (above n) (uses_into edges n) other.0 (inr other.1)

no_more : (a b : Edge) → IsEasier a b → IsNoMore a b
no_more a b h = record { parent = h.parent; role = h.role; child = h.child; asks = h.asks; shares = h.shares }

mapped : (g f : Edge → Edge) (kept : List Edge) → ((e : Edge) → Contains kept e → IsEasier (g e) (f e)) → AreNoMore (map g kept) (map f kept)
mapped g f [] le = tt
mapped g f (e ∷ kept) le =
    inl (no_more (g e) (f e) (le e (Contains-here e kept)), mapped g f kept (λ x h. le x (Contains-there e kept x h)))

-- a list that a bound bounds edge by edge
pub kept_by_bound : (kinds : List NodeKind) (g f : Edge → Edge) (kept : List Edge)
    → ((e : Edge) → Contains kept e → IsEasier (g e) (f e))
    → ((e : Edge) → Contains kept e → IsEasier (ruled kinds (uses_into (map f kept)) (f e)) (f e))
    → AllPairs Agree (map f kept) → KeepsPermissions (refreshed kinds (map g kept))
kept_by_bound kinds g f kept le each pairs =
    bounded kinds (map g kept) (map f kept) (mapped g f kept le)
    (λ e there. let r = Contains-map f kept e there in rw r.2 (no_more (ruled kinds (uses_into (map f kept)) (f r.0)) (f r.0) (each r.0 r.1)))
    (pairs-agree (map f kept) pairs)
