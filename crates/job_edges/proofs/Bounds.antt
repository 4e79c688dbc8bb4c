-- Edges that a bound bounds keep the rule, where the bound keeps it.
use Rattle.std.proofs.Common.{ℕ, List, [], ◌∷◌, map, ◌∙◌, inl, inr}
use Rattle.std.specs.Prelude.{Contains}
use Rattle.blk_graph.specs.Refreshed.{uses_into, ruled, refreshed}
use Rattle.blk_graph.specs.Rule.{KeepsPermissions}
use Rattle.blk_graph.specs.declared.edge.Edge.{Edge}
use Rattle.blk_graph.specs.declared.edge.Uses.{Uses}
use Rattle.blk_graph.specs.declared.kind.NodeKind.{NodeKind}
use Rattle.blk_graph.proofs.EaseLemmas.{IsLighter, IsEasier, IsEased, less-refl, ruled-easier, uses_into-eased, eased_pairs, agree-pairs, pairs-agree}
use Rattle.blk_graph.proofs.Members.{Contains-here, Contains-there}
use Rattle.blk_graph.proofs.RefreshLemmas.{refreshed-by}
use Rattle.job_edges.specs.Bounds.{IsNoMore, AreNoMore, IsBound}

easier : (a b : Edge) → IsNoMore a b → IsEasier a b
easier a b h = record { parent = h.parent; role = h.role; child = h.child; asks = h.asks; shares = h.shares }

eased : (new old : List Edge) → AreNoMore new old → IsEased new old
eased [] old h = tt
eased (a ∷ new) [] h = absurd h
eased (a ∷ new) (b ∷ old) (inl h) = inl (easier a b h.0, eased new old h.1)
eased (a ∷ new) (b ∷ old) (inr h) = inr (eased (a ∷ new) old h)

through : (a b c : Edge) → IsEasier a b → IsEasier b c → IsEasier a c
through a b c h k = record {
  parent = h.parent ∙ k.parent;
  role = h.role ∙ k.role;
  child = h.child ∙ k.child;
  asks = λ perm is. k.asks perm (h.asks perm is);
  shares = λ perm is. h.shares perm (k.shares perm is);
}

-- one turn
turn : (kinds : List NodeKind) (f g : ℕ → Uses) → ((n : ℕ) → IsLighter (f n) (g n)) → (now bound : List Edge)
    → ((e : Edge) → Contains bound e → IsEasier (ruled kinds g e) e) → IsEased now bound → IsEased (map (ruled kinds f) now) bound
turn kinds f g lighter [] bound stays h = tt
turn kinds f g lighter (a ∷ now) [] stays h = absurd h
turn kinds f g lighter (a ∷ now) (b ∷ bound) stays (inl h) = inl (
  through (ruled kinds f a) (ruled kinds g b) b (ruled-easier kinds kinds (less-refl kinds) f g a b lighter h.0) (stays b (Contains-here b bound)),
  turn kinds f g lighter now bound (λ e there. stays e (Contains-there b bound e there)) h.1,
)
turn kinds f g lighter (a ∷ now) (b ∷ bound) stays (inr h) =
    inr (turn kinds f g lighter (a ∷ now) bound (λ e there. stays e (Contains-there b bound e there)) h)

pub bounded : (kinds : List NodeKind) (new bound : List Edge) → AreNoMore new bound → IsBound kinds bound → KeepsPermissions bound → KeepsPermissions (refreshed kinds new)
bounded kinds new bound less is rule =
    let stays : (e : Edge) → Contains bound e → IsEasier (ruled kinds (uses_into bound) e) e = λ e there. easier (ruled kinds (uses_into bound) e) e (is e there) in
    let all : IsEased (refreshed kinds new) bound =
    refreshed-by kinds (λ now. IsEased now bound) (λ now h. turn kinds (uses_into now) (uses_into bound) (λ n. uses_into-eased n now bound h) now bound stays h)
    new (eased new bound less) in
    pairs-agree (refreshed kinds new) (eased_pairs (refreshed kinds new) bound all (agree-pairs bound rule))
