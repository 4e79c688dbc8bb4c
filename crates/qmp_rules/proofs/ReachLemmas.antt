-- Nodes that are marked.
use Rattle.std.proofs.Common.{◌≡◌, ℕ, zero, suc, ◌+◌, ◌-◌, ◌<◌, ◌≤◌, List, ◌∷◌, Bool, false, ◌||◌, refl, sym, ap, ◌∙◌, length, get_or, drop, arith, add-one}
use Rattle.std.specs.Prelude.{replicate}
use Rattle.std.specs.List.{list_any}
use Rattle.std.proofs.lemmas.List.{at_drop_more}
use Rattle.blk_graph.specs.declared.edge.Edge.{Edge}
use Rattle.qmp_rules.specs.Chains.{leads}
use Rattle.qmp_rules.specs.Reach.{IsMarked, leads_by}

same : (n id : ℕ) → get_or (replicate n false) id false ≡ false
same zero id = refl
same (suc n) zero = refl
same (suc n) (suc id) = same n id

pub unmarked : IsMarked (λ _. false) (replicate 64 false)
unmarked id less = same 64 id

-- one edge more, from the last one on
pub mark_step : (edges : List Edge) (to i : ℕ) (edge : Edge) (before after new : List Bool) → 0 < i → i ≤ length edges
    → edge ≡ get_or edges (i - 1) edge
    → ((steps : ℕ) (all : List Edge) (test : ℕ → Bool) → IsMarked (λ id. leads steps all id to) before
    → IsMarked test after → IsMarked (λ id. leads_by steps all id to edge || test id) new)
    → ((steps : ℕ) → IsMarked (λ id. leads steps edges id to) before
    → IsMarked (λ id. list_any (leads_by steps edges id to) (drop i edges)) after)
    → (steps : ℕ) → IsMarked (λ id. leads steps edges id to) before
    → IsMarked (λ id. list_any (leads_by steps edges id to) (drop (i - 1) edges)) new
mark_step edges to i edge before after new some within at made so_far steps h id less =
    let last : i - 1 < length edges = omega arith in
    let next : i - 1 + 1 ≡ i = omega arith in
    made steps edges (λ n. list_any (leads_by steps edges n to) (drop i edges)) h (so_far steps h) id less
    ∙ sym (at_drop_more (list_any (leads_by steps edges id to)) edges (i - 1) edge last
    ∙ ap (λ e. list_any (leads_by steps edges id to) (e ∷ drop (i - 1 + 1) edges)) (sym at)
    ∙ ap (λ j. leads_by steps edges id to edge || list_any (leads_by steps edges id to) (drop j edges)) next)

pub mark_end : (edges : List Edge) (to i : ℕ) (before after : List Bool) → i ≡ 0
    → ((steps : ℕ) → IsMarked (λ id. leads steps edges id to) before
    → IsMarked (λ id. list_any (leads_by steps edges id to) (drop i edges)) after)
    → (steps : ℕ) → IsMarked (λ id. leads steps edges id to) before
    → IsMarked (λ id. leads (steps + 1) edges id to) after
mark_end edges to i before after none so_far steps h id less =
    so_far steps h id less
    ∙ ap (λ j. list_any (leads_by steps edges id to) (drop j edges)) none
    ∙ ap (λ n. leads n edges id to) (sym (add-one steps))
