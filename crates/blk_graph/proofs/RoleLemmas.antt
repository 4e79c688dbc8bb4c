-- Two edges of one parent differ in role, or lead to different children where the role is Between. And what is true of each edge.
use Rattle.std.proofs.Common.{◌≡◌, ◌≢◌, ◌⊎◌, ℕ, suc, ◌<◌, List, [], ◌∷◌, length, get_or, map, refl, sym, ◌∙◌, ap, inl, inr, arith, Bool, true, false, cond, Option, Some, None}
use Rattle.std.specs.Prelude.{◌==◌, ◌&&◌, ◌||◌, not}
use Rattle.std.specs.List.{AllPairs, Contains, filter, list_any}
use Rattle.std.proofs.lemmas.Bool.{false≢true, eqb-true, eq-eqb, ne_eqb}
use Rattle.std.proofs.lemmas.List.{get_or-map, length-map}
use Rattle.std.proofs.lemmas.List.Elements.{All-contains_itself, Contains-get_or, Contains-push_cases}
use Rattle.std.proofs.lemmas.List.Kept.{AllPairs-cons}
use Rattle.std.proofs.lemmas.List.Quantifiers.{all_pairs_push}
use Rattle.blk_graph.specs.declared.edge.Edge.{Edge}
use Rattle.blk_graph.specs.declared.edge.Perms.{Perms}
use Rattle.blk_graph.specs.declared.edge.Parent.{Parent}
use Rattle.blk_graph.specs.declared.edge.Parent.TheVariants.{Node, Guest, Job}
use Rattle.blk_graph.specs.declared.edge.Role.{Role}
use Rattle.blk_graph.specs.declared.edge.Role.TheVariants.{Drive, File, Backing, Filtered, Source, Target, Between, Base}
use Rattle.blk_graph.specs.Edges.{same_parent, same_role, is_job, DifferInPlace, may_have}
use Rattle.blk_graph.specs.Edits.{takes_place, with_edge, with_child, IsLone, replaced, with_replaced, moved, is_between, is_double, with_moved, filter_edge, with_filter, stays}
use Rattle.blk_graph.proofs.Members.{Contains-here, Contains-there, Contains-map, Contains-filter, list_any-there}
use Rattle.blk_graph.proofs.EditLemmas.{IsSameEdge, Contains-with_edge, moved-parent, moved-cases, replaced-parent, Contains-with_moved}
use Rattle.blk_graph.proofs.CycleLemmas.{same_parent-true, and-left}
use Rattle.blk_graph.proofs.InverseLemmas.{same_parent-refl}

pub same_role-true : (a b : Role) → same_role a b ≡ true → a ≡ b
same_role-true Drive Drive h = refl
same_role-true Drive File h = cc
same_role-true Drive Backing h = cc
same_role-true Drive Filtered h = cc
same_role-true Drive Source h = cc
same_role-true Drive Target h = cc
same_role-true Drive Between h = cc
same_role-true Drive Base h = cc
same_role-true File Drive h = cc
same_role-true File File h = refl
same_role-true File Backing h = cc
same_role-true File Filtered h = cc
same_role-true File Source h = cc
same_role-true File Target h = cc
same_role-true File Between h = cc
same_role-true File Base h = cc
same_role-true Backing Drive h = cc
same_role-true Backing File h = cc
same_role-true Backing Backing h = refl
same_role-true Backing Filtered h = cc
same_role-true Backing Source h = cc
same_role-true Backing Target h = cc
same_role-true Backing Between h = cc
same_role-true Backing Base h = cc
same_role-true Filtered Drive h = cc
same_role-true Filtered File h = cc
same_role-true Filtered Backing h = cc
same_role-true Filtered Filtered h = refl
same_role-true Filtered Source h = cc
same_role-true Filtered Target h = cc
same_role-true Filtered Between h = cc
same_role-true Filtered Base h = cc
same_role-true Source Drive h = cc
same_role-true Source File h = cc
same_role-true Source Backing h = cc
same_role-true Source Filtered h = cc
same_role-true Source Source h = refl
same_role-true Source Target h = cc
same_role-true Source Between h = cc
same_role-true Source Base h = cc
same_role-true Target Drive h = cc
same_role-true Target File h = cc
same_role-true Target Backing h = cc
same_role-true Target Filtered h = cc
same_role-true Target Source h = cc
same_role-true Target Target h = refl
same_role-true Target Between h = cc
same_role-true Target Base h = cc
same_role-true Between Drive h = cc
same_role-true Between File h = cc
same_role-true Between Backing h = cc
same_role-true Between Filtered h = cc
same_role-true Between Source h = cc
same_role-true Between Target h = cc
same_role-true Between Between h = refl
same_role-true Between Base h = cc
same_role-true Base Drive h = cc
same_role-true Base File h = cc
same_role-true Base Backing h = cc
same_role-true Base Filtered h = cc
same_role-true Base Source h = cc
same_role-true Base Target h = cc
same_role-true Base Between h = cc
same_role-true Base Base h = refl

pub same_role-refl : (a : Role) → same_role a a ≡ true
same_role-refl Drive = refl
same_role-refl File = refl
same_role-refl Backing = refl
same_role-refl Filtered = refl
same_role-refl Source = refl
same_role-refl Target = refl
same_role-refl Between = refl
same_role-refl Base = refl

and-right : (a b : Bool) → (a && b) ≡ true → b ≡ true
and-right true b h = h
and-right false b h = absurd cc

module _ {X : Type 0} (R : X → X → Type 0) where
  pub tail_pairs : (x : X) (xs : List X) → AllPairs R (x ∷ xs) → AllPairs R xs
  tail_pairs x xs h = λ i j d below within. h (suc i) (suc j) d (omega (arith, below)) (omega (arith, within))

  pub head_pairs : (x : X) (xs : List X) → AllPairs R (x ∷ xs) → (y : X) → Contains xs y → R x y
  head_pairs x xs h y there = rw there.2 at (h 0 (suc there.0) y (omega arith) (omega (arith, there.1)))

  pub more_pairs : (x : X) (xs : List X) → ((y : X) → Contains xs y → R x y) → AllPairs R xs → AllPairs R (x ∷ xs)
  more_pairs x xs heads tails = AllPairs-cons R x xs (λ k d within. heads _ (All-contains_itself xs k d within)) tails

  -- what keeps the relation of any two keeps that of a list
  pub map_pairs : (f : X → X) (xs : List X) → ((x y : X) → Contains xs x → Contains xs y → R x y → R (f x) (f y))
      → AllPairs R xs → AllPairs R (map f xs)
  map_pairs f xs keeps h = λ i j d below within.
      let n : j < length xs = omega (arith, within, length-map xs f) in
      let m : i < length xs = omega (arith, n, below) in
      rw (get_or-map f xs i d d m, get_or-map f xs j d d n)
      (keeps (get_or xs i d) (get_or xs j d) (Contains-get_or xs i d m) (Contains-get_or xs j d n) (h i j d below n))

-- the edge whose place is taken has the role of the new one
pub takes_place-role : (new old : Edge) → takes_place new old ≡ true → new.role ≡ old.role
takes_place-role new old h =
    same_role-true new.role old.role
    (and-right (same_parent new.parent old.parent) (same_role new.role old.role)
    (and-left (same_parent new.parent old.parent && same_role new.role old.role)
    (not (same_role new.role Between) || new.child == old.child) h))

takes_place-parent : (new old : Edge) → takes_place new old ≡ true → new.parent ≡ old.parent
takes_place-parent new old h =
    same_parent-true new.parent old.parent
    (and-left (same_parent new.parent old.parent) (same_role new.role old.role)
    (and-left (same_parent new.parent old.parent && same_role new.role old.role)
    (not (same_role new.role Between) || new.child == old.child) h))

taken : (p r b c : Bool) → p ≡ true → r ≡ true → b ≡ false → (p && r && (not b || c)) ≡ true
taken true true false c parents roles is = refl
taken true true true c parents roles is = absurd (cc is)
taken true false b c parents roles is = absurd (cc roles)
taken false r b c parents roles is = absurd (cc parents)

-- where it isn't taken, the two differ
pub apart : (new old : Edge) → takes_place new old ≡ false → old.parent ≡ new.parent → old.role ≡ new.role → old.role ≡ Between
apart new old h same_parents same_roles = by_test (same_role new.role Between) refl
  where
    parents : same_parent new.parent old.parent ≡ true
    parents = rw same_parents (same_parent-refl new.parent)

    roles : same_role new.role old.role ≡ true
    roles = rw same_roles (same_role-refl new.role)

    by_test : (b : Bool) → same_role new.role Between ≡ b → old.role ≡ Between
    by_test true is = same_roles ∙ same_role-true new.role Between is
    by_test false is =
        let place : takes_place new old ≡ true
        = taken (same_parent new.parent old.parent) (same_role new.role old.role) (same_role new.role Between) (new.child == old.child) parents roles is in
        absurd (false≢true (sym h ∙ place))

pub moved-role : (from to : ℕ) (e : Edge) → (moved from to e).role ≡ e.role
moved-role from to e = by_test (e.child == from)
  where
    by_test : (b : Bool) → (cond b (with_child to e) e).role ≡ e.role
    by_test true = refl
    by_test false = refl

pub replaced-role : (from to : ℕ) (but : Option Parent) (e : Edge) → (replaced from to but e).role ≡ e.role
replaced-role from to but e = by_test (e.child == from && not (stays but e.parent))
  where
    by_test : (b : Bool) → (cond b (with_child to e) e).role ≡ e.role
    by_test true = refl
    by_test false = refl

child_taken : (b c : Bool) → b ≡ true → (not b || c) ≡ true → c ≡ true
child_taken true c is h = h
child_taken false c is h = absurd (cc is)

-- the edge whose place is taken, of the role Between, has the child of the new one
takes_place-child : (new old : Edge) → takes_place new old ≡ true → new.role ≡ Between → new.child ≡ old.child
takes_place-child new old h is =
    let between : same_role new.role Between ≡ true = rw is refl in
    eqb-true new.child old.child
    (child_taken (same_role new.role Between) (new.child == old.child) between
    (and-right (same_parent new.parent old.parent && same_role new.role old.role)
    (not (same_role new.role Between) || new.child == old.child) h))

taken_at : (p r b c : Bool) → p ≡ true → r ≡ true → c ≡ true → (p && r && (not b || c)) ≡ true
taken_at true true true c parents roles is = is
taken_at true true false c parents roles is = refl
taken_at true false b c parents roles is = absurd (cc roles)
taken_at false r b c parents roles is = absurd (cc parents)

apart_in_place : (new old : Edge) → takes_place new old ≡ false → DifferInPlace old new
apart_in_place new old h same_parents same_roles =
    let parents : same_parent new.parent old.parent ≡ true = rw same_parents (same_parent-refl new.parent) in
    let roles : same_role new.role old.role ≡ true = rw same_roles (same_role-refl new.role) in (
      apart new old h same_parents same_roles,
      λ same_children.
          let place : takes_place new old ≡ true
          = taken_at (same_parent new.parent old.parent) (same_role new.role old.role) (same_role new.role Between) (new.child == old.child) parents roles
          (eq-eqb new.child old.child (sym same_children)) in
          absurd (false≢true (sym h ∙ place)),
    )

pub AllPairs-with_edge : (new : Edge) (edges : List Edge) → AllPairs DifferInPlace edges → AllPairs DifferInPlace (with_edge new edges)
AllPairs-with_edge new [] h = more_pairs DifferInPlace new [] (λ y there. absurd (omega (arith, there.1))) h
AllPairs-with_edge new (old ∷ edges) h = by_test (takes_place new old) refl (AllPairs-with_edge new edges (tail_pairs DifferInPlace old edges h))
  where
    by_test : (b : Bool) → takes_place new old ≡ b → AllPairs DifferInPlace (with_edge new edges)
        → AllPairs DifferInPlace (cond b (new ∷ edges) (old ∷ with_edge new edges))
    by_test true is ih =
        more_pairs DifferInPlace new edges
        (λ y there parents roles.
        let was = head_pairs DifferInPlace old edges h y there (sym (takes_place-parent new old is) ∙ parents) (sym (takes_place-role new old is) ∙ roles) in
        let between : new.role ≡ Between = takes_place-role new old is ∙ was.0 in
        (between, λ same. was.1 (sym (takes_place-child new old is between) ∙ same)))
        (tail_pairs DifferInPlace old edges h)
    by_test false is ih =
        more_pairs DifferInPlace old (with_edge new edges)
        (λ y there. elim (Contains-with_edge new edges y there) [
          | inl is_new ↦ rw is_new (apart_in_place new old is)
          | inr kept ↦ head_pairs DifferInPlace old edges h y kept
        ])
        ih

-- edges that keep parent, role and child
pub kept_apart : (a b c d : Edge) → IsSameEdge c a → IsSameEdge d b → DifferInPlace a b → DifferInPlace c d
kept_apart a b c d p q h = λ parents roles.
    let was = h (sym p.parent ∙ parents ∙ q.parent) (sym p.role ∙ roles ∙ q.role) in
    (p.role ∙ was.0, λ same. was.1 (sym p.child ∙ same ∙ q.child))

all_true : (p q r s : Bool) → p ≡ false → q ≡ true → r ≡ true → s ≡ true → (not p && q && r && s) ≡ true
all_true false true true s hp hq hr hs = hs
all_true true q r s hp hq hr hs = absurd cc
all_true false false r s hp hq hr hs = absurd cc
all_true false true false s hp hq hr hs = absurd cc

module _ (from to : ℕ) (edges : List Edge) where
  -- one of two edges of a job would come to where the other leads
  doubled : (a b : Edge) → Contains edges b → a.child ≡ from → b.child ≡ to → from ≢ to → b.parent ≡ a.parent
      → a.role ≡ Between → b.role ≡ Between → is_double edges from to a ≡ true
  doubled a b there at_from at_to differ parents role other =
      let same : same_parent b.parent a.parent ≡ true = rw parents (same_parent-refl a.parent) in
      let between : same_role b.role Between ≡ true = rw other refl in
      let own : same_role a.role Between ≡ true = rw role refl in
      all_true (from == to) (a.child == from) (same_role a.role Between) (list_any (is_between a.parent to) edges)
      (ne_eqb from to differ) (eq-eqb a.child from at_from) own
      (list_any-there (is_between a.parent to) edges b there
      (three (same_parent b.parent a.parent) (same_role b.role Between) (b.child == to) same between (eq-eqb b.child to at_to)))
    where
      three : (p q r : Bool) → p ≡ true → q ≡ true → r ≡ true → (p && q && r) ≡ true
      three true true r hp hq hr = hr
      three false q r hp hq hr = absurd cc
      three true false r hp hq hr = absurd cc

  moved_apart : (a b : Edge) → Contains edges a → Contains edges b → is_double edges from to a ≡ false
      → is_double edges from to b ≡ false → DifferInPlace a b → DifferInPlace (moved from to a) (moved from to b)
  moved_apart a b at_a at_b keep_a keep_b differ parents roles =
      (moved-role from to a ∙ was.0, λ same. by_cases same (moved-cases from to a) (moved-cases from to b))
    where
      parent : a.parent ≡ b.parent
      parent = sym (moved-parent from to a) ∙ parents ∙ moved-parent from to b

      role : a.role ≡ b.role
      role = sym (moved-role from to a) ∙ roles ∙ moved-role from to b

      was : (a.role ≡ Between) × (a.child ≢ b.child)
      was = differ parent role

      by_cases : (moved from to a).child ≡ (moved from to b).child
          → ((a.child ≡ from) × (moved from to a ≡ with_child to a)) ⊎ ((a.child ≢ from) × (moved from to a ≡ a))
          → ((b.child ≡ from) × (moved from to b ≡ with_child to b)) ⊎ ((b.child ≢ from) × (moved from to b ≡ b)) → ⊥
      by_cases same (inl x) (inl y) = was.1 (x.0 ∙ sym y.0)
      by_cases same (inl x) (inr y) =
          let to_b : b.child ≡ to = ap (λ (e : Edge). e.child) (sym y.1) ∙ sym same ∙ ap (λ (e : Edge). e.child) x.1 in
          let double = doubled a b at_b x.0 to_b (λ e. y.0 (to_b ∙ sym e)) (sym parent) was.0 (sym role ∙ was.0) in
          false≢true (sym keep_a ∙ double)
      by_cases same (inr x) (inl y) =
          let to_a : a.child ≡ to = ap (λ (e : Edge). e.child) (sym x.1) ∙ same ∙ ap (λ (e : Edge). e.child) y.1 in
          let double = doubled b a at_a y.0 to_a (λ e. x.0 (to_a ∙ sym e)) parent (sym role ∙ was.0) was.0 in
          false≢true (sym keep_b ∙ double)
      by_cases same (inr x) (inr y) =
          was.1 (ap (λ (e : Edge). e.child) (sym x.1) ∙ same ∙ ap (λ (e : Edge). e.child) y.1)

  single : (b : Bool) → not b ≡ true → b ≡ false
  single true h = absurd cc
  single false h = refl

  moved_part : (xs : List Edge) → ((e : Edge) → Contains xs e → Contains edges e) → AllPairs DifferInPlace xs
      → AllPairs DifferInPlace (map (moved from to) (filter (λ e. not (is_double edges from to e)) xs))
  moved_part [] inside h = λ i j d below within. absurd (omega (arith, within))
  moved_part (x ∷ xs) inside h =
      by_test (is_double edges from to x) refl
      (moved_part xs (λ e there. inside e (Contains-there x xs e there)) (tail_pairs DifferInPlace x xs h))
    where
      rest : List Edge
      rest = filter (λ e. not (is_double edges from to e)) xs

      heads : is_double edges from to x ≡ false → (y : Edge) → Contains (map (moved from to) rest) y → DifferInPlace (moved from to x) y
      heads keep y there =
          let r = Contains-map (moved from to) rest y there in
          let s = Contains-filter (λ e. not (is_double edges from to e)) xs r.0 r.1 in
          rw r.2 (moved_apart x r.0 (inside x (Contains-here x xs)) (inside r.0 (Contains-there x xs r.0 s.0)) keep
          (single (is_double edges from to r.0) s.1) (head_pairs DifferInPlace x xs h r.0 s.0))

      by_test : (b : Bool) → is_double edges from to x ≡ b → AllPairs DifferInPlace (map (moved from to) rest)
          → AllPairs DifferInPlace (map (moved from to) (cond (not b) (x ∷ rest) rest))
      by_test true is ih = ih
      by_test false is ih = more_pairs DifferInPlace (moved from to x) (map (moved from to) rest) (heads is) ih

  pub AllPairs-moved : AllPairs DifferInPlace edges → AllPairs DifferInPlace (with_moved from to edges)
  AllPairs-moved h = moved_part edges (λ e there. there) h

-- a job's edges stay where edges are replaced
job_stays : (but : Option Parent) (parent : Parent) → is_job parent ≡ true → stays but parent ≡ true
job_stays None parent h = h
job_stays (Some but) parent h = rw h refl

replaced-job : (from to : ℕ) (but : Option Parent) (e : Edge) → is_job e.parent ≡ true → replaced from to but e ≡ e
replaced-job from to but e h =
    ap (λ t. cond (e.child == from && not t) (with_child to e) e) (job_stays but e.parent h) ∙ by_test (e.child == from)
  where
    by_test : (b : Bool) → cond (b && false) (with_child to e) e ≡ e
    by_test true = refl
    by_test false = refl

pub between_job : (p : Parent) (r : Role) → may_have p r ≡ true → r ≡ Between → is_job p ≡ true
between_job (Node n) r h is = absurd (let no : may_have (Node n) Between ≡ true = rw is at h in cc)
between_job (Guest n) r h is = absurd (let no : may_have (Guest n) Between ≡ true = rw is at h in cc)
between_job (Job n) r h is = refl

replaced_apart : (from to : ℕ) (but : Option Parent) (a b : Edge) → may_have a.parent a.role ≡ true → DifferInPlace a b
    → DifferInPlace (replaced from to but a) (replaced from to but b)
replaced_apart from to but a b own differ parents roles =
    let parent : a.parent ≡ b.parent = sym (replaced-parent from to but a) ∙ parents ∙ replaced-parent from to but b in
    let role : a.role ≡ b.role = sym (replaced-role from to but a) ∙ roles ∙ replaced-role from to but b in
    let was = differ parent role in
    let job : is_job a.parent ≡ true = between_job a.parent a.role own was.0 in
    let same_a : replaced from to but a ≡ a = replaced-job from to but a job in
    let same_b : replaced from to but b ≡ b = replaced-job from to but b (rw parent at job) in (
      replaced-role from to but a ∙ was.0,
      λ same. was.1 (ap (λ (e : Edge). e.child) (sym same_a) ∙ same ∙ ap (λ (e : Edge). e.child) same_b),
    )

pub AllPairs-with_replaced : (from to : ℕ) (but : Option Parent) (edges : List Edge)
    → ((e : Edge) → Contains edges e → may_have e.parent e.role ≡ true) → AllPairs DifferInPlace edges
    → AllPairs DifferInPlace (with_replaced from to but edges)
AllPairs-with_replaced from to but edges own =
    map_pairs DifferInPlace (replaced from to but) edges (λ a b at_a at_b. replaced_apart from to but a b (own a at_a))

pub AllPairs-with_filter : (node over : ℕ) (perm shared : Perms) (edges : List Edge) → IsLone edges over → AllPairs DifferInPlace edges
    → AllPairs DifferInPlace (with_filter node over perm shared edges)
AllPairs-with_filter node over perm shared edges lone h =
    let others : List Edge = with_moved node over edges in
    all_pairs_push DifferInPlace others (filter_edge over node perm shared) (AllPairs-moved node over edges h)
    (λ k d within parents roles.
    let r = Contains-with_moved node over edges (get_or others k d) (Contains-get_or others k d within) in
    absurd (lone.leaves r.0 r.1 (sym (moved-parent node over r.0) ∙ sym (ap (λ (x : Edge). x.parent) r.2) ∙ parents)))

-- what is true of each edge of a list
abbrev pub EachIs : (Edge → Type 0) → List Edge → Type 0
EachIs P edges = (e : Edge) → Contains edges e → P e

module _ (P : Edge → Type 0) where
  pub EachIs-filter : (p : Edge → Bool) (edges : List Edge) → EachIs P edges → EachIs P (filter p edges)
  EachIs-filter p edges each = λ e h. each e (Contains-filter p edges e h).0

  pub EachIs-with_edge : (new : Edge) (edges : List Edge) → P new → EachIs P edges → EachIs P (with_edge new edges)
  EachIs-with_edge new edges own each = λ e h. elim (Contains-with_edge new edges e h) [
    | inl is_new ↦ rw is_new own
    | inr kept ↦ each e kept
  ]

  pub EachIs-moved : (from to : ℕ) (edges : List Edge) → ((e : Edge) → P e → P (with_child to e)) → EachIs P edges
      → EachIs P (with_moved from to edges)
  EachIs-moved from to edges further each = λ e h.
      let r = Contains-with_moved from to edges e h in
      elim (moved-cases from to r.0) [
        | inl at ↦ rw (r.2 ∙ at.1) (further r.0 (each r.0 r.1))
        | inr away ↦ rw (r.2 ∙ away.1) (each r.0 r.1)
      ]

  pub EachIs-replaced : (from to : ℕ) (but : Option Parent) (edges : List Edge) → ((e : Edge) → P e → P (with_child to e))
      → EachIs P edges → EachIs P (with_replaced from to but edges)
  EachIs-replaced from to but edges further each = λ e h.
      let r = Contains-map (replaced from to but) edges e h in
      rw r.2 (by_test r.0 (r.0.child == from && not (stays but r.0.parent)) (each r.0 r.1))
    where
      by_test : (x : Edge) (b : Bool) → P x → P (cond b (with_child to x) x)
      by_test x true h = further x h
      by_test x false h = h

  pub EachIs-with_filter : (node over : ℕ) (perm shared : Perms) (edges : List Edge) → ((e : Edge) → P e → P (with_child over e))
      → P (filter_edge over node perm shared) → EachIs P edges → EachIs P (with_filter node over perm shared edges)
  EachIs-with_filter node over perm shared edges further own each = λ e h.
      elim (Contains-push_cases (with_moved node over edges) (filter_edge over node perm shared) e h) [
        | inl was ↦ EachIs-moved node over edges further each e was
        | inr is ↦ rw (← is) own
      ]
