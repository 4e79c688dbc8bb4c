-- How many edges a list has, and that each edit leaves one.
use Rattle.std.proofs.Common.{◌≡◌, ℕ, ◌+◌, ◌*◌, ◌<◌, ◌≤◌, List, [], ◌∷◌, length, map, refl, ap, arith, Bool, true, false, Option, Some, None}
use Rattle.std.specs.Prelude.{nat_eq}
use Rattle.std.specs.List.{AllPairs, IsDistinct, AllByRecursion, filter, find}
use Rattle.std.specs.Cmp.{nat_eq_equiv, unsigned_Decides}
use Rattle.std.specs.Set.{is_member}
use Rattle.std.proofs.lemmas.Bool.{ne_eqb}
use Rattle.std.proofs.lemmas.List.{length-map}
use Rattle.std.proofs.lemmas.List.Kept.{AllPairs-filter}
use Rattle.std.proofs.lemmas.Map.Keys.{IsDistinct-cons}
use Rattle.std.proofs.lemmas.Map.Made.{length-le_from_is_member, is_member-Decides}
use Rattle.blk_graph.specs.declared.edge.Edge.{Edge}
use Rattle.blk_graph.specs.declared.edge.Perms.{Perms}
use Rattle.blk_graph.specs.declared.edge.Parent.{Parent}
use Rattle.blk_graph.specs.declared.edge.Parent.TheVariants.{Node, Guest, Job}
use Rattle.blk_graph.specs.declared.edge.Role.{Role}
use Rattle.blk_graph.specs.declared.edge.Role.TheVariants.{File, Backing, Filtered, Drive, Source, Target, Between, Base}
use Rattle.blk_graph.specs.declared.kind.NodeKind.{NodeKind}
use Rattle.blk_graph.specs.Edges.{DifferInPlace, may_have, HasNumber, MayStand, IsListed}
use Rattle.blk_graph.specs.Edits.{IsLone, with_edge, with_child, with_replaced, with_moved, with_filter, is_filters, but_filters, without_filter}
use Rattle.blk_graph.specs.Refreshed.{refreshed}
use Rattle.blk_graph.proofs.IdLemmas.{numbers_below, below-there, length-below}
use Rattle.blk_graph.proofs.Members.{Contains-here, Contains-there, Contains-nil, Contains-map, find-Some}
use Rattle.blk_graph.proofs.RefreshLemmas.{IsListed-turned, refreshed-by}
use Rattle.blk_graph.proofs.RoleLemmas.{EachIs, EachIs-filter, EachIs-with_edge, EachIs-moved, EachIs-replaced, EachIs-with_filter, tail_pairs, head_pairs, AllPairs-with_edge, AllPairs-moved, AllPairs-with_replaced, AllPairs-with_filter}

-- a number for each place that an edge can have
abbrev index_of : Role → ℕ
index_of File = 0
index_of Backing = 1
index_of Filtered = 2
index_of _ = 0

abbrev job_slot : ℕ → Role → ℕ → ℕ
job_slot job Source child = 272 + 3 * job
job_slot job Target child = 273 + 3 * job
job_slot job Base child = 274 + 3 * job
job_slot job _ child = 320 + 64 * job + child

abbrev slot_by : Parent → Role → ℕ → ℕ
slot_by (Node n) role child = 3 * n + index_of role
slot_by (Guest n) role child = 192 + n
slot_by (Job n) role child = job_slot n role child

abbrev slot_of : Edge → ℕ
slot_of e = slot_by e.parent e.role e.child

index-less : (r : Role) → index_of r < 3
index-less File = omega arith
index-less Backing = omega arith
index-less Filtered = omega arith
index-less _ = omega arith

job_slot-least : (j : ℕ) (r : Role) (c : ℕ) → 272 ≤ job_slot j r c
job_slot-least j Source c = omega arith
job_slot-least j Target c = omega arith
job_slot-least j Base c = omega arith
job_slot-least j _ c = omega arith

job_slot-most : (j : ℕ) (r : Role) (c : ℕ) → j < 16 → c < 64 → job_slot j r c < 1344
job_slot-most j Source c h k = omega (arith, h, k)
job_slot-most j Target c h k = omega (arith, h, k)
job_slot-most j Base c h k = omega (arith, h, k)
job_slot-most j _ c h k = omega (arith, h, k)

slot-less : (p : Parent) (r : Role) (c : ℕ) → HasNumber p → c < 64 → slot_by p r c < 1344
slot-less (Node n) r c h k = omega (arith, h, index-less r)
slot-less (Guest n) r c h k = omega (arith, h)
slot-less (Job n) r c h k = job_slot-most n r c h k

-- two edges of one place
record IsOnePlace (p q : Parent) (r s : Role) (c d : ℕ) : Type 0 where
  pub parent : p ≡ q
  pub role : r ≡ s
  pub child : r ≡ Between → c ≡ d

one_of_node : (n m : ℕ) (r s : Role) (c d : ℕ) → may_have (Node n) r ≡ true → may_have (Node m) s ≡ true
    → 3 * n + index_of r ≡ 3 * m + index_of s → IsOnePlace (Node n) (Node m) r s c d
one_of_node n m File File c d h k is = record { parent = ap Node (omega (arith, is)); role = refl; child = λ e. absurd cc }
one_of_node n m Backing Backing c d h k is = record { parent = ap Node (omega (arith, is)); role = refl; child = λ e. absurd cc }
one_of_node n m Filtered Filtered c d h k is = record { parent = ap Node (omega (arith, is)); role = refl; child = λ e. absurd cc }
one_of_node n m File Backing c d h k is = absurd (omega (arith, is))
one_of_node n m File Filtered c d h k is = absurd (omega (arith, is))
one_of_node n m Backing File c d h k is = absurd (omega (arith, is))
one_of_node n m Backing Filtered c d h k is = absurd (omega (arith, is))
one_of_node n m Filtered File c d h k is = absurd (omega (arith, is))
one_of_node n m Filtered Backing c d h k is = absurd (omega (arith, is))
one_of_node n m _ _ c d h k is = absurd cc

one_of_guest : (n m : ℕ) (r s : Role) (c d : ℕ) → may_have (Guest n) r ≡ true → may_have (Guest m) s ≡ true → 192 + n ≡ 192 + m
    → IsOnePlace (Guest n) (Guest m) r s c d
one_of_guest n m Drive Drive c d h k is = record { parent = ap Guest (omega (arith, is)); role = refl; child = λ e. absurd cc }
one_of_guest n m _ _ c d h k is = absurd cc

one_of_job : (n m : ℕ) (r s : Role) (c d : ℕ) → n < 16 → m < 16 → c < 64 → d < 64 → may_have (Job n) r ≡ true → may_have (Job m) s ≡ true
    → job_slot n r c ≡ job_slot m s d → IsOnePlace (Job n) (Job m) r s c d
one_of_job n m Source Source c d hn hm hc hd h k is = record { parent = ap Job (omega (arith, is)); role = refl; child = λ e. absurd cc }
one_of_job n m Target Target c d hn hm hc hd h k is = record { parent = ap Job (omega (arith, is)); role = refl; child = λ e. absurd cc }
one_of_job n m Base Base c d hn hm hc hd h k is = record { parent = ap Job (omega (arith, is)); role = refl; child = λ e. absurd cc }
one_of_job n m Between Between c d hn hm hc hd h k is =
    record { parent = ap Job (omega (arith, is, hc, hd)); role = refl; child = λ e. omega (arith, is, hc, hd) }
one_of_job n m Source Target c d hn hm hc hd h k is = absurd (omega (arith, is))
one_of_job n m Source Base c d hn hm hc hd h k is = absurd (omega (arith, is))
one_of_job n m Target Source c d hn hm hc hd h k is = absurd (omega (arith, is))
one_of_job n m Target Base c d hn hm hc hd h k is = absurd (omega (arith, is))
one_of_job n m Base Source c d hn hm hc hd h k is = absurd (omega (arith, is))
one_of_job n m Base Target c d hn hm hc hd h k is = absurd (omega (arith, is))
one_of_job n m Source Between c d hn hm hc hd h k is = absurd (omega (arith, is, hn))
one_of_job n m Target Between c d hn hm hc hd h k is = absurd (omega (arith, is, hn))
one_of_job n m Base Between c d hn hm hc hd h k is = absurd (omega (arith, is, hn))
one_of_job n m Between Source c d hn hm hc hd h k is = absurd (omega (arith, is, hm))
one_of_job n m Between Target c d hn hm hc hd h k is = absurd (omega (arith, is, hm))
one_of_job n m Between Base c d hn hm hc hd h k is = absurd (omega (arith, is, hm))
one_of_job n m _ _ c d hn hm hc hd h k is = absurd cc

one_place : (p q : Parent) (r s : Role) (c d : ℕ) → HasNumber p → HasNumber q → c < 64 → d < 64 → may_have p r ≡ true → may_have q s ≡ true
    → slot_by p r c ≡ slot_by q s d → IsOnePlace p q r s c d
one_place (Node n) (Node m) r s c d hp hq hc hd h k is = one_of_node n m r s c d h k is
one_place (Guest n) (Guest m) r s c d hp hq hc hd h k is = one_of_guest n m r s c d h k is
one_place (Job n) (Job m) r s c d hp hq hc hd h k is = one_of_job n m r s c d hp hq hc hd h k is
one_place (Node n) (Guest m) r s c d hp hq hc hd h k is = absurd (omega (arith, is, hp, index-less r))
one_place (Guest n) (Node m) r s c d hp hq hc hd h k is = absurd (omega (arith, is, hq, index-less s))
one_place (Node n) (Job m) r s c d hp hq hc hd h k is = absurd (omega (arith, is, hp, index-less r, job_slot-least m s d))
one_place (Job n) (Node m) r s c d hp hq hc hd h k is = absurd (omega (arith, is, hq, index-less s, job_slot-least n r c))
one_place (Guest n) (Job m) r s c d hp hq hc hd h k is = absurd (omega (arith, is, hp, job_slot-least m s d))
one_place (Job n) (Guest m) r s c d hp hq hc hd h k is = absurd (omega (arith, is, hq, job_slot-least n r c))

slots-apart : (e : Edge) (edges : List Edge) → MayStand e → EachIs MayStand edges → EachIs (DifferInPlace e) edges
    → AllByRecursion (λ y. nat_eq (slot_of e) y ≡ false) (map slot_of edges)
slots-apart e [] own each differ = tt
slots-apart e (x ∷ edges) own each differ =
    let other = each x (Contains-here x edges) in (
      ne_eqb (slot_of e) (slot_of x) (λ same.
          let one = one_place e.parent x.parent e.role x.role e.child x.child own.number other.number own.child other.child own.role other.role same in
          let was = differ x (Contains-here x edges) one.parent one.role in
          was.1 (one.child was.0)),
      slots-apart e edges own (λ y h. each y (Contains-there x edges y h)) (λ y h. differ y (Contains-there x edges y h)),
    )

slots-distinct : (edges : List Edge) → EachIs MayStand edges → AllPairs DifferInPlace edges → IsDistinct nat_eq (map slot_of edges)
unfolding IsDistinct
slots-distinct [] each pairs = tt
slots-distinct (e ∷ edges) each pairs =
    IsDistinct-cons nat_eq (slot_of e) (map slot_of edges)
    (slots-apart e edges (each e (Contains-here e edges)) (λ x h. each x (Contains-there e edges x h))
    (head_pairs DifferInPlace e edges pairs))
    (slots-distinct edges (λ x h. each x (Contains-there e edges x h)) (tail_pairs DifferInPlace e edges pairs))

pub length-listed : (edges : List Edge) → IsListed edges → length edges ≤ 1344
length-listed edges listed =
    let within : (q : ℕ) → is_member nat_eq (map slot_of edges) q ≡ true → is_member nat_eq (numbers_below 1344) q ≡ true
    = λ q m.
    let there = (is_member-Decides unsigned_Decides (map slot_of edges) q).0 m in
    let r = Contains-map slot_of edges q there in
    let own = listed.each r.0 r.1 in
    let less = slot-less r.0.parent r.0.role r.0.child own.number own.child in
    (is_member-Decides unsigned_Decides (numbers_below 1344) q).1 (below-there 1344 q (omega (arith, less, r.2))) in
    let fewer : length (map slot_of edges) ≤ length (numbers_below 1344)
    = length-le_from_is_member nat_eq_equiv (map slot_of edges) (numbers_below 1344) (slots-distinct edges listed.each listed.places) within in
    omega (arith, fewer, length-map edges slot_of, length-below 1344)

-- each edit leaves a list
pub IsListed-none : IsListed []
IsListed-none = record { each = λ e h. absurd (Contains-nil e h); places = λ i j d numbers_below within. absurd (omega (arith, within)) }

stands_further : (to : ℕ) → to < 64 → (e : Edge) → MayStand e → MayStand (with_child to e)
stands_further to less e stands = record { role = stands.role; number = stands.number; child = less }

pub IsListed-with_edge : (new : Edge) (edges : List Edge) → MayStand new → IsListed edges → IsListed (with_edge new edges)
IsListed-with_edge new edges own listed = record {
  each = EachIs-with_edge MayStand new edges own listed.each;
  places = AllPairs-with_edge new edges listed.places;
}

pub IsListed-filter : (p : Edge → Bool) (edges : List Edge) → IsListed edges → IsListed (filter p edges)
IsListed-filter p edges listed = record {
  each = EachIs-filter MayStand p edges listed.each;
  places = AllPairs-filter DifferInPlace p edges listed.places;
}

pub IsListed-moved : (from to : ℕ) (edges : List Edge) → to < 64 → IsListed edges → IsListed (with_moved from to edges)
IsListed-moved from to edges less listed = record {
  each = EachIs-moved MayStand from to edges (stands_further to less) listed.each;
  places = AllPairs-moved from to edges listed.places;
}

pub IsListed-replaced : (from to : ℕ) (but : Option Parent) (edges : List Edge) → to < 64 → IsListed edges
    → IsListed (with_replaced from to but edges)
IsListed-replaced from to but edges less listed = record {
  each = EachIs-replaced MayStand from to but edges (stands_further to less) listed.each;
  places = AllPairs-with_replaced from to but edges (λ e h. (listed.each e h).role) listed.places;
}

pub IsListed-with_filter : (node over : ℕ) (perm shared : Perms) (edges : List Edge) → node < 64 → over < 64 → IsLone edges over
    → IsListed edges → IsListed (with_filter node over perm shared edges)
IsListed-with_filter node over perm shared edges less over_less lone listed = record {
  each = EachIs-with_filter MayStand node over perm shared edges (stands_further over over_less)
      (record { role = refl; number = over_less; child = less }) listed.each;
  places = AllPairs-with_filter node over perm shared edges lone listed.places;
}

pub IsListed-without_filter : (over : ℕ) (edges : List Edge) → IsListed edges → IsListed (without_filter over edges)
IsListed-without_filter over edges listed = by_found (find (is_filters over) edges) refl
  where
    by_found : (found : Option Edge) → find (is_filters over) edges ≡ found → IsListed (elim found as (λ _. List Edge) [
      | None ↦ edges
      | Some edge ↦ with_moved over edge.child (but_filters over edges)
    ])
    by_found None is = listed
    by_found (Some edge) is =
        IsListed-moved over edge.child (but_filters over edges) (listed.each edge (find-Some (is_filters over) edges edge is).0).child
        (IsListed-filter _ edges listed)

pub IsListed-refreshed : (kinds : List NodeKind) (edges : List Edge) → IsListed edges → IsListed (refreshed kinds edges)
IsListed-refreshed kinds = refreshed-by kinds IsListed (IsListed-turned kinds)
