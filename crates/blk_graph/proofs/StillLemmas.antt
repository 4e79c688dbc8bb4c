-- Lists that are changed place by place, and turns that change nothing.
use Rattle.std.proofs.Common.{◌≡◌, ◌<◌, ◌≤◌, ℕ, zero, suc, ◌+◌, ◌-◌, List, [], ◌∷◌, ◌++◌, length, map, take, drop, set, get_or, replicate, refl, sym, ◌∙◌, ap, arith}
use Rattle.blk_graph.specs.declared.edge.Edge.{Edge}
use Rattle.blk_graph.specs.declared.kind.NodeKind.{NodeKind}
use Rattle.std.specs.List.{Contains}
use Rattle.blk_graph.specs.Refreshed.{uses_into, ruled, turned, turned_by, refreshed, IsRefreshed}
use Rattle.blk_graph.proofs.Members.{Contains-here, Contains-there}

-- one more element is what f makes of it
pub mapped-step : {X : Type 0} (f : X → X) (xs : List X) (i : ℕ) (d : X) → i < length xs
    → take i xs ++ map f (drop i xs)
    ≡ take (i + 1) (set xs i (f (get_or xs i d))) ++ map f (drop (i + 1) (set xs i (f (get_or xs i d))))
mapped-step f [] i d h = absurd (omega arith)
mapped-step f (x ∷ xs) zero d h = refl
mapped-step f (x ∷ xs) (suc i) d h =
    let at : suc i + 1 ≡ suc (i + 1) = omega arith in
    rw at (ap (λ ys. x ∷ ys) (mapped-step f xs i d (omega (arith, h))))

pub get_or-replicate : {X : Type 0} (n i : ℕ) (x : X) → get_or (replicate n x) i x ≡ x
get_or-replicate zero i x = refl
get_or-replicate (suc n) zero x = refl
get_or-replicate (suc n) (suc i) x = get_or-replicate n i x

-- where a turn changes nothing, no further one does
pub turned_by-still : (kinds : List NodeKind) (edges : List Edge) (more turns : ℕ)
    → turned kinds (turned_by turns kinds edges) ≡ turned_by turns kinds edges
    → turned_by (more + turns) kinds edges ≡ turned_by turns kinds edges
turned_by-still kinds edges zero turns h = let at : 0 + turns ≡ turns = omega arith in ap (λ n. turned_by n kinds edges) at
turned_by-still kinds edges (suc more) turns h =
    let at : suc more + turns ≡ suc (more + turns) = omega arith in
    ap (λ n. turned_by n kinds edges) at
    ∙ ap (turned kinds) (turned_by-still kinds edges more turns h) ∙ h

pub refreshed-still : (kinds : List NodeKind) (edges : List Edge) (turns : ℕ) → turns ≤ 64
    → turned kinds (turned_by turns kinds edges) ≡ turned_by turns kinds edges
    → turned_by turns kinds edges ≡ refreshed kinds edges
unfolding refreshed
refreshed-still kinds edges turns few h =
    let more : ℕ = 64 - turns in
    let at : more + turns ≡ 64 = omega arith in
    sym (turned_by-still kinds edges more turns h) ∙ ap (λ n. turned_by n kinds edges) at

-- a turn that changed nothing is the last
pub refreshed_turned : (kinds : List NodeKind) (edges now then : List Edge) (turns : ℕ) → turns < 64
    → now ≡ turned_by turns kinds edges → then ≡ turned kinds now → then ≡ now → then ≡ refreshed kinds edges
refreshed_turned kinds edges now then turns few is made same =
    let still : turned kinds (turned_by turns kinds edges) ≡ turned_by turns kinds edges
    = ap (turned kinds) (sym is) ∙ sym made ∙ same ∙ is in
    same ∙ is ∙ refreshed-still kinds edges turns (omega arith) still

pub refreshed_all : (kinds : List NodeKind) (edges now : List Edge) (turns : ℕ) → 64 ≤ turns → turns ≤ 64
    → now ≡ turned_by turns kinds edges → now ≡ refreshed kinds edges
unfolding refreshed
refreshed_all kinds edges now turns many few is =
    let at : turns ≡ 64 = omega arith in is ∙ ap (λ n. turned_by n kinds edges) at

-- a list whose edges all are as those into their parents say stays
pub refreshed-fixed : (kinds : List NodeKind) (edges : List Edge) → IsRefreshed kinds edges → refreshed kinds edges ≡ edges
unfolding refreshed
refreshed-fixed kinds edges stays =
    sym (refreshed-still kinds edges 0 (omega arith) (map-fixed (ruled kinds (uses_into edges)) edges stays))
  where
    map-fixed : (f : Edge → Edge) (xs : List Edge) → ((e : Edge) → Contains xs e → f e ≡ e) → map f xs ≡ xs
    map-fixed f [] h = refl
    map-fixed f (x ∷ xs) h =
        ap (λ y. y ∷ map f xs) (h x (Contains-here x xs)) ∙ ap (λ ys. x ∷ ys) (map-fixed f xs (λ e m. h e (Contains-there x xs e m)))
