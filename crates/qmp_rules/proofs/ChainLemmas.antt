-- Filters and chains, one node at a time.
use Rattle.std.proofs.Common.{◌≡◌, ℕ, length, get_or, take, if◌then◌else◌, eq-eqb, zero, suc, ◌+◌, ◌-◌, ◌<◌, ◌≤◌, List, [], ◌∷◌, ◌++◌, drop, Option, Some, None, refl, sym, ap, ◌∙◌, arith, append_assoc, append-nil}
use Rattle.std.proofs.lemmas.Bool.{ne_eqb}
use Rattle.std.proofs.lemmas.List.{take_more, take_all, at_drop_more, at_drop_all}
use Rattle.qmp_rules.specs.Table.{RunTable}
use Rattle.qmp_rules.specs.Chains.{filtered, disk_from, disk_node, backing, chain_from, chain, chain_below, lowest_of_ids, lowest_in_chain, down_to}

-- ---- filters

disk_none_at : (n : ℕ) (t : RunTable) (id : ℕ) → filtered t id ≡ None → disk_from n t id ≡ id
disk_none_at zero t id h = refl
disk_none_at (suc n) t id h = ap (λ f. elim f as (λ _. ℕ) [ None ↦ id | Some below ↦ disk_from n t below ]) h

disk_some_at : (n : ℕ) (t : RunTable) (id below : ℕ) → filtered t id ≡ Some below → disk_from (suc n) t id ≡ disk_from n t below
disk_some_at n t id below h = ap (λ f. elim f as (λ _. ℕ) [ None ↦ id | Some under ↦ disk_from n t under ]) h

-- the disk's node, where so many steps are made
pub disk_start : (t : RunTable) (id : ℕ) → disk_from (64 - 0) t id ≡ disk_node t id
unfolding disk_node
disk_start t id = refl

pub disk_none : (i : ℕ) (t : RunTable) (id : ℕ) → filtered t id ≡ None → disk_from (64 - i) t id ≡ id
disk_none i t id h = disk_none_at (64 - i) t id h

pub disk_some : (i : ℕ) (t : RunTable) (id below : ℕ) → i < 64 → filtered t id ≡ Some below
    → disk_from (64 - i) t id ≡ disk_from (64 - (i + 1)) t below
disk_some i t id below less h =
    let one : 64 - i ≡ suc (64 - (i + 1)) = omega arith in
    ap (λ n. disk_from n t id) one ∙ disk_some_at (64 - (i + 1)) t id below h

pub disk_end : (i : ℕ) (t : RunTable) (id : ℕ) → 64 ≤ i → disk_from (64 - i) t id ≡ id
disk_end i t id past =
    let none : 64 - i ≡ 0 = omega arith in ap (λ n. disk_from n t id) none

-- ---- chains

rest_none : (n : ℕ) (t : RunTable) (id : ℕ) → backing t id ≡ None → drop 1 (chain_from n t id) ≡ []
rest_none zero t id h = refl
rest_none (suc n) t id h =
    ap (λ f. elim f as (λ _. List ℕ) [ None ↦ [] | Some under ↦ chain_from n t under ]) h

chain_begins : (n : ℕ) (t : RunTable) (id : ℕ) → chain_from n t id ≡ id ∷ drop 1 (chain_from n t id)
chain_begins zero t id = refl
chain_begins (suc n) t id = refl

rest_some : (n : ℕ) (t : RunTable) (id under : ℕ) → backing t id ≡ Some under
    → drop 1 (chain_from (suc n) t id) ≡ under ∷ drop 1 (chain_from n t under)
rest_some n t id under h =
    ap (λ f. elim f as (λ _. List ℕ) [ None ↦ [] | Some low ↦ chain_from n t low ]) h ∙ chain_begins n t under

pub below_start : (t : RunTable) (id : ℕ) → drop 1 (chain_from (64 - 0) t id) ≡ chain_below t id
unfolding chain
below_start t id = refl

pub below_none : (i : ℕ) (t : RunTable) (id : ℕ) (ids all : List ℕ) → backing t id ≡ None
    → ids ++ drop 1 (chain_from (64 - i) t id) ≡ all → ids ≡ all
below_none i t id ids all h is =
    sym (append-nil ids) ∙ ap (λ rest. ids ++ rest) (sym (rest_none (64 - i) t id h)) ∙ is

pub below_end : (i : ℕ) (t : RunTable) (id : ℕ) (ids all : List ℕ) → 64 ≤ i
    → ids ++ drop 1 (chain_from (64 - i) t id) ≡ all → ids ≡ all
below_end i t id ids all past is =
    let none : 64 - i ≡ 0 = omega arith in
    sym (append-nil ids) ∙ ap (λ n. ids ++ drop 1 (chain_from n t id)) (sym none) ∙ is

pub below_some : (i : ℕ) (t : RunTable) (id under : ℕ) (ids all : List ℕ) → i < 64 → backing t id ≡ Some under
    → ids ++ drop 1 (chain_from (64 - i) t id) ≡ all
    → (ids ++ under ∷ []) ++ drop 1 (chain_from (64 - (i + 1)) t under) ≡ all
below_some i t id under ids all less h is =
    let one : 64 - i ≡ suc (64 - (i + 1)) = omega arith in
    append_assoc ids (under ∷ []) (drop 1 (chain_from (64 - (i + 1)) t under))
    ∙ ap (λ rest. ids ++ rest) (sym (rest_some (64 - (i + 1)) t id under h))
    ∙ ap (λ n. ids ++ drop 1 (chain_from n t id)) (sym one)
    ∙ is

-- ---- the lowest of a chain

pub lowest_start : (t : RunTable) (id : ℕ) → lowest_of_ids id (drop 1 (chain_from (64 - 0) t id)) ≡ lowest_in_chain t id
unfolding chain
lowest_start t id = refl

pub lowest_none : (i : ℕ) (t : RunTable) (id all : ℕ) → backing t id ≡ None
    → lowest_of_ids id (drop 1 (chain_from (64 - i) t id)) ≡ all → id ≡ all
lowest_none i t id all h is = ap (λ rest. lowest_of_ids id rest) (sym (rest_none (64 - i) t id h)) ∙ is

pub lowest_end : (i : ℕ) (t : RunTable) (id all : ℕ) → 64 ≤ i
    → lowest_of_ids id (drop 1 (chain_from (64 - i) t id)) ≡ all → id ≡ all
lowest_end i t id all past is =
    let none : 64 - i ≡ 0 = omega arith in
    ap (λ n. lowest_of_ids id (drop 1 (chain_from n t id))) (sym none) ∙ is

pub lowest_some : (i : ℕ) (t : RunTable) (id under all : ℕ) → i < 64 → backing t id ≡ Some under
    → lowest_of_ids id (drop 1 (chain_from (64 - i) t id)) ≡ all
    → lowest_of_ids under (drop 1 (chain_from (64 - (i + 1)) t under)) ≡ all
lowest_some i t id under all less h is =
    let one : 64 - i ≡ suc (64 - (i + 1)) = omega arith in
    ap (λ rest. lowest_of_ids id rest) (sym (rest_some (64 - (i + 1)) t id under h))
    ∙ ap (λ n. lowest_of_ids id (drop 1 (chain_from n t id))) (sym one)
    ∙ is

pub chain_parts : (t : RunTable) (id : ℕ) → id ∷ chain_below t id ≡ chain t id
unfolding chain
chain_parts t id = refl

-- ---- lists cut behind a node

pub cut_start : (base : ℕ) (ids : List ℕ) → take 0 ids ++ down_to (Some base) (drop 0 ids) ≡ down_to (Some base) ids
cut_start base ids = refl

-- the list up to a place, and what is cut from there on
pub cut_found : (base i x : ℕ) (ids all : List ℕ) → i < length ids → x ≡ get_or ids i x → x ≡ base
    → take i ids ++ down_to (Some base) (drop i ids) ≡ all → take (i + 1) ids ≡ all
cut_found base i x ids all less at same is =
    take_more ids i x less
    ∙ ap (λ y. take i ids ++ y ∷ []) (sym at)
    ∙ ap (λ rest. take i ids ++ rest)
    (ap (λ b. if b then x ∷ [] else x ∷ down_to (Some base) (drop (i + 1) ids)) (sym (eq-eqb x base same))
    ∙ ap (λ y. down_to (Some base) (y ∷ drop (i + 1) ids)) at
    ∙ sym (at_drop_more (down_to (Some base)) ids i x less))
    ∙ is

pub cut_other : (base i x : ℕ) (ids all : List ℕ) → i < length ids → x ≡ get_or ids i x → (x ≡ base → ⊥)
    → take i ids ++ down_to (Some base) (drop i ids) ≡ all → take (i + 1) ids ++ down_to (Some base) (drop (i + 1) ids) ≡ all
cut_other base i x ids all less at other is =
    ap (λ front. front ++ down_to (Some base) (drop (i + 1) ids)) (take_more ids i x less ∙ ap (λ y. take i ids ++ y ∷ []) (sym at))
    ∙ append_assoc (take i ids) (x ∷ []) (down_to (Some base) (drop (i + 1) ids))
    ∙ ap (λ rest. take i ids ++ rest)
    (ap (λ b. if b then x ∷ [] else x ∷ down_to (Some base) (drop (i + 1) ids)) (sym (ne_eqb x base other))
    ∙ ap (λ y. down_to (Some base) (y ∷ drop (i + 1) ids)) at
    ∙ sym (at_drop_more (down_to (Some base)) ids i x less))
    ∙ is

pub cut_end : (base i : ℕ) (ids all : List ℕ) → length ids ≤ i
    → take i ids ++ down_to (Some base) (drop i ids) ≡ all → ids ≡ all
cut_end base i ids all past is =
    sym (take_all i ids past) ∙ sym (append-nil (take i ids))
    ∙ ap (λ rest. take i ids ++ rest) (sym (at_drop_all (down_to (Some base)) ids i past)) ∙ is

pub cut_none : (ids : List ℕ) → down_to None ids ≡ ids
cut_none [] = refl
cut_none (x ∷ ids) = ap (λ rest. x ∷ rest) (cut_none ids)
