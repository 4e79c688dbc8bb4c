-- Nodes that become clear, and that those which never do lead back to themselves.
use Rattle.std.proofs.Common.{◌≡◌, ◌≢◌, ◌⊎◌, ℕ, zero, suc, ◌+◌, ◌<◌, ◌≤◌, List, [], ◌∷◌, length, drop, set, refl, sym, ◌∙◌, ap, inl, inr, arith, Bool, true, false}
use Rattle.std.specs.Prelude.{◌&&◌, ◌||◌, not, ◌==◌, nat_eq}
use Rattle.std.specs.List.{Contains, IsDistinct, AllByRecursion, list_any}
use Rattle.std.specs.Cmp.{nat_eq_equiv, unsigned_Decides}
use Rattle.std.specs.Set.{is_member}
use Rattle.std.proofs.lemmas.Bool.{eqb-true, eqb-false}
use Rattle.std.proofs.lemmas.List.{get_or-set_other, get_or-set_same}
use Rattle.std.proofs.lemmas.Map.Keys.{IsDistinct-cons}
use Rattle.std.proofs.lemmas.Map.Made.{length-le_from_is_member, is_member-Decides}
use Rattle.blk_graph.specs.declared.edge.Edge.{Edge}
use Rattle.blk_graph.specs.declared.edge.Parent.{Parent}
use Rattle.blk_graph.specs.declared.edge.Parent.TheVariants.{Node, Guest, Job}
use Rattle.blk_graph.specs.Clear.{AreClear, leads_to_unclear, AreWaiting, AreCleared, is_unclear, is_unclear_by, AreStuck}
use Rattle.blk_graph.specs.Edges.{same_parent, HasNumber, IsListed}
use Rattle.blk_graph.specs.Paths.{IsPath, HasCycle}
use Rattle.std.specs.Bool.{MatchBool}
use Rattle.std.proofs.lemmas.List.{length-set}
use Rattle.blk_graph.specs.Walk.{is_marked, mark_count}
use Rattle.blk_graph.proofs.WalkLemmas.{mark_count-set}
use Rattle.blk_graph.proofs.CycleLemmas.{and-left, and-right, same_parent-true}
use Rattle.blk_graph.proofs.IdLemmas.{numbers_below, below-there, length-below}
use Rattle.blk_graph.proofs.InverseLemmas.{same_parent-refl}
use Rattle.blk_graph.proofs.LengthLemmas.{visited, length-visited, visited-within}
use Rattle.blk_graph.proofs.Members.{Contains-here, Contains-there, Contains-cases, Contains-nil, list_any-there}
use Rattle.blk_graph.proofs.PathLemmas.{Reaches-cons}

list_any-found : {X : Type 0} (p : X → Bool) (xs : List X) → list_any p xs ≡ true → (x : X) × Contains xs x × (p x ≡ true)
list_any-found p [] h = absurd cc
list_any-found {X} p (x ∷ xs) h = by_test (p x) refl (list_any-found p xs) h
  where
    by_test : (b : Bool) → p x ≡ b → (list_any p xs ≡ true → (y : X) × Contains xs y × (p y ≡ true))
        → (b || list_any p xs) ≡ true → (y : X) × Contains (x ∷ xs) y × (p y ≡ true)
    by_test true is ih k = (x, Contains-here x xs, is)
    by_test false is ih k = let r = ih k in (r.0, Contains-there x xs r.0 r.1, r.2)

not_true : (b : Bool) → not b ≡ true → b ≡ false
not_true true h = absurd cc
not_true false h = refl

pub drop_all : {X : Type 0} (xs : List X) → drop (length xs) xs ≡ []
drop_all [] = refl
drop_all (x ∷ xs) = drop_all xs

-- at first none is clear
pub AreClear-none : (edges : List Edge) (clear : List Bool) → ((node : ℕ) → is_marked clear node ≡ true → ⊥) → AreClear edges clear
AreClear-none edges clear none = record {
  closed = λ e node there parent marked. absurd (none node marked);
  free = λ node marked. absurd (none node marked);
}

-- clear nodes reach clear ones alone
clear_path : (edges : List Edge) (clear : List Bool) → AreClear edges clear → (from to : ℕ) (path : List Edge)
    → is_marked clear from ≡ true → IsPath edges from path to → is_marked clear to ≡ true
clear_path edges clear are from to [] marked is = rw is at marked
clear_path edges clear are from to (e ∷ path) marked is =
    clear_path edges clear are e.child to path (are.closed e from is.0 is.1 marked) is.2

module _ (edges : List Edge) (old new waiting : List Bool) (are : AreClear edges old) (waiting_are : AreWaiting edges old waiting)
    (cleared : AreCleared waiting old new) (listed : IsListed edges) where
  -- a node that is clear now was, or leads to nodes that were
  was_clear : (node : ℕ) → node < 64 → is_marked new node ≡ true
      → (e : Edge) → Contains edges e → e.parent ≡ Node node → is_marked old e.child ≡ true
  was_clear node small marked e there parent = by_old (is_marked old node) refl (sym (cleared node small) ∙ marked)
    where
      shut : is_marked waiting node ≡ false → is_marked old e.child ≡ true
      shut none = by_child (is_marked old e.child) refl
        where
          by_child : (b : Bool) → is_marked old e.child ≡ b → is_marked old e.child ≡ true
          by_child true is = is
          by_child false is =
              let own : same_parent e.parent (Node node) ≡ true = rw parent (same_parent-refl (Node node)) in
              let leads : leads_to_unclear old node e ≡ true = both (same_parent e.parent (Node node)) (is_marked old e.child) own is in
              let any = list_any-there (leads_to_unclear old node) edges e there leads in
              let no : false ≡ true = sym none ∙ waiting_are node small ∙ any in absurd cc
            where
              both : (a b : Bool) → a ≡ true → b ≡ false → (a && not b) ≡ true
              both true false h k = refl
              both true true h k = absurd cc
              both false b h k = absurd cc

      by_old : (b : Bool) → is_marked old node ≡ b → (b || not (is_marked waiting node)) ≡ true → is_marked old e.child ≡ true
      by_old true is k = are.closed e node there parent is
      by_old false is k = shut (not_true (is_marked waiting node) k)

  still_clear : (node : ℕ) → node < 64 → is_marked old node ≡ true → is_marked new node ≡ true
  still_clear node small marked = cleared node small ∙ rw marked refl

  pub AreClear-more : ((node : ℕ) → is_marked new node ≡ true → node < 64) → AreClear edges new
  AreClear-more small = record {
    closed = λ e node there parent marked.
        still_clear e.child (listed.each e there).child (was_clear node (small node marked) marked e there parent);
    free = λ node marked cycle.
        let child = was_clear node (small node marked) marked cycle.first cycle.path.0 cycle.path.1 in
        are.free node (clear_path edges old are cycle.first.child node cycle.rest child cycle.path.2) cycle;
  }

  -- where none became clear, each that isn't leads to one that isn't
  pub AreStuck-same : new ≡ old → AreStuck edges new
  AreStuck-same same node small unmarked =
      let none : is_marked old node ≡ false = rw same at unmarked in
      let waits : is_marked waiting node ≡ true = shown (is_marked old node) (is_marked waiting node) none
      (sym (cleared node small) ∙ unmarked) in
      let r = list_any-found (leads_to_unclear old node) edges (sym (waiting_are node small) ∙ waits) in
      record {
        edge = r.0;
        there = r.1;
        parent = same_parent-true r.0.parent (Node node) (and-left (same_parent r.0.parent (Node node)) (not (is_marked old r.0.child)) r.2);
        unclear_child = ap (λ marks. is_marked marks r.0.child) same ∙ not_true (is_marked old r.0.child)
            (and-right (same_parent r.0.parent (Node node)) (not (is_marked old r.0.child)) r.2);
      }
    where
      shown : (a b : Bool) → a ≡ false → (a || not b) ≡ false → b ≡ true
      shown false true h k = refl
      shown false false h k = absurd cc
      shown true b h k = absurd cc

-- a node that isn't among others is apart from each
all_apart : (x : ℕ) (xs : List ℕ) → list_any (nat_eq x) xs ≡ false → AllByRecursion (λ y. nat_eq x y ≡ false) xs
all_apart x [] h = tt
all_apart x (y ∷ ys) h = by_test (nat_eq x y) refl (all_apart x ys) h
  where
    by_test : (b : Bool) → nat_eq x y ≡ b → (list_any (nat_eq x) ys ≡ false → AllByRecursion (λ z. nat_eq x z ≡ false) ys)
        → (b || list_any (nat_eq x) ys) ≡ false → (nat_eq x y ≡ false) × AllByRecursion (λ z. nat_eq x z ≡ false) ys
    by_test true is ih k = absurd cc
    by_test false is ih k = (is, ih k)

-- a path comes to each node that it visits
path_to : (edges : List Edge) (from to : ℕ) (p : List Edge) → IsPath edges from p to → (x : ℕ) → Contains (visited from p) x
    → (q : List Edge) × IsPath edges from q x
path_to edges from to [] is x there = elim (Contains-cases from [] x there) [
  | inl here ↦ ([], sym here)
  | inr none ↦ absurd (Contains-nil x none)
]
path_to edges from to (e ∷ p) is x there = elim (Contains-cases from (visited e.child p) x there) [
  | inl here ↦ ([], sym here)
  | inr further ↦ let r = path_to edges e.child to p is.2 x further in (e ∷ r.0, (is.0, is.1, r.1))
]

-- a path comes to some node twice, or to each once
twice_or_once : (edges : List Edge) (from to : ℕ) (p : List Edge) → IsPath edges from p to
    → HasCycle edges ⊎ IsDistinct nat_eq (visited from p)
unfolding IsDistinct
twice_or_once edges from to [] is = inr (IsDistinct-cons nat_eq from [] tt tt)
twice_or_once edges from to (e ∷ p) is = elim (twice_or_once edges e.child to p is.2) [
  | inl cycle ↦ inl cycle
  | inr once ↦ by_test (list_any (nat_eq from) (visited e.child p)) refl once
]
  where
    by_test : (b : Bool) → list_any (nat_eq from) (visited e.child p) ≡ b → IsDistinct nat_eq (visited e.child p)
        → HasCycle edges ⊎ IsDistinct nat_eq (from ∷ visited e.child p)
    by_test true again once =
        let there : Contains (visited e.child p) from = (is_member-Decides unsigned_Decides (visited e.child p) from).0 again in
        let q = path_to edges e.child to p is.2 from there in
        inl (record { node = from; cycle = Reaches-cons edges from from e q.0 is.0 is.1 q.1 })
    by_test false none once = inr (IsDistinct-cons nat_eq from (visited e.child p) (all_apart from (visited e.child p) none) once)

module _ (edges : List Edge) (clear : List Bool) (listed : IsListed edges) (stuck : AreStuck edges clear) where
  -- a path that is as long as one likes
  far : (steps node : ℕ) → node < 64 → is_marked clear node ≡ false
      → (path : List Edge) × (to : ℕ) × IsPath edges node path to × (length path ≡ steps)
  far zero node small unmarked = ([], node, refl, refl)
  far (suc steps) node small unmarked =
      let o = stuck node small unmarked in
      let r = far steps o.edge.child (listed.each o.edge o.there).child o.unclear_child in
      (o.edge ∷ r.0, r.1, (o.there, o.parent, r.2), omega (arith, r.3))

  HasCycle-from_unclear : (node : ℕ) → node < 64 → is_marked clear node ≡ false → HasCycle edges
  HasCycle-from_unclear node small unmarked =
      let r = far 64 node small unmarked in
      elim (twice_or_once edges node r.1 r.0 r.2) [
        | inl cycle ↦ cycle
        | inr once ↦
            let within : (q : ℕ) → is_member nat_eq (visited node r.0) q ≡ true → is_member nat_eq (numbers_below 64) q ≡ true
            = λ q m. (is_member-Decides unsigned_Decides (numbers_below 64) q).1
            (visited-within edges (numbers_below 64) node r.1 r.0 (λ e h. below-there 64 e.child (listed.each e h).child)
            (below-there 64 node small) r.2 q ((is_member-Decides unsigned_Decides (visited node r.0) q).0 m)) in
            let fewer = length-le_from_is_member nat_eq_equiv (visited node r.0) (numbers_below 64) once within in
            absurd (omega (arith, fewer, length-visited node r.0, length-below 64, r.3))
      ]

  pub HasCycle-from_edge : (e : Edge) → Contains edges e → is_unclear clear e ≡ true → HasCycle edges
  HasCycle-from_edge e there unclear = by_parent e.parent (listed.each e there).number unclear
    where
      by_parent : (p : Parent) → HasNumber p → is_unclear_by clear p ≡ true → HasCycle edges
      by_parent (Node n) small is = HasCycle-from_unclear n small (not_true (is_marked clear n) is)
      by_parent (Guest n) small is = absurd cc
      by_parent (Job n) small is = absurd cc

-- where each node with edges is clear, none reaches itself
pub none_unclear : (edges : List Edge) (clear : List Bool) → AreClear edges clear → ((e : Edge) → Contains edges e → is_unclear clear e ≡ false)
    → HasCycle edges → ⊥
none_unclear edges clear are shut has =
    let first = has.cycle.first in
    let path = has.cycle.path in
    let no : not (is_marked clear has.node) ≡ false = rw path.1 at (shut first path.0) in
    are.free has.node (not_false (is_marked clear has.node) no) has.cycle
  where
    not_false : (b : Bool) → not b ≡ false → b ≡ true
    not_false true h = refl
    not_false false h = absurd cc

-- nodes below a place are cleared
pub record Clearing (waiting initial clear : List Bool) (i : ℕ) (grew : Bool) : Type 0 where
  pub done : (k : ℕ) → k < i → is_marked clear k ≡ (is_marked initial k || not (is_marked waiting k))
  pub rest : (k : ℕ) → i ≤ k → is_marked clear k ≡ is_marked initial k
  pub room : length clear ≡ 64
  pub fewer : mark_count initial ≤ mark_count clear
  pub grown : grew ≡ true → mark_count initial < mark_count clear
  pub same : grew ≡ false → clear ≡ initial

pub Clearing-none : (waiting initial : List Bool) → length initial ≡ 64 → Clearing waiting initial initial 0 false
Clearing-none waiting initial room = record {
  done = λ k low. absurd (omega (arith, low));
  rest = λ k h. refl;
  room = room;
  fewer = omega arith;
  grown = λ e. absurd cc;
  same = λ e. refl;
}

pub Clearing-set : (waiting initial clear : List Bool) (i : ℕ) (grew : Bool) → Clearing waiting initial clear i grew → i < 64
    → (not (is_marked clear i) && not (is_marked waiting i)) ≡ true → Clearing waiting initial (set clear i true) (i + 1) true
Clearing-set waiting initial clear i grew h small shut =
    let none : is_marked clear i ≡ false = not_true (is_marked clear i) (and-left (not (is_marked clear i)) (not (is_marked waiting i)) shut) in
    let within : i < length clear = omega (arith, small, h.room) in
    let more : mark_count (set clear i true) ≡ mark_count clear + 1 = mark_count-set clear i within none in
    let here : not (is_marked waiting i) ≡ true = and-right (not (is_marked clear i)) (not (is_marked waiting i)) shut in
    record {
      done = λ k low. by_place k low within here (k == i) refl;
      rest = λ k above. let differ : k ≢ i = λ e. omega (arith, above, e) in
          get_or-set_other clear i k true false differ ∙ h.rest k (omega (arith, above));
      room = length-set clear i true ∙ h.room;
      fewer = omega (arith, more, h.fewer);
      grown = λ e. omega (arith, more, h.fewer);
      same = λ e. absurd cc;
    }
  where
    last : (a b : Bool) → b ≡ true → (a || b) ≡ true
    last true b is = refl
    last false b is = is

    by_place : (k : ℕ) → k < i + 1 → i < length clear → not (is_marked waiting i) ≡ true → (b : Bool) → (k == i) ≡ b
        → is_marked (set clear i true) k ≡ (is_marked initial k || not (is_marked waiting k))
    by_place k low within here true is =
        let same : k ≡ i = eqb-true k i is in
        ap (is_marked (set clear i true)) same ∙ get_or-set_same clear i true false within
        ∙ sym (last (is_marked initial k) (not (is_marked waiting k)) (rw same here))
    by_place k low within here false is =
        let differ : k ≢ i = eqb-false k i is in
        get_or-set_other clear i k true false differ ∙ h.done k (omega (arith, low, differ))

pub Clearing-kept : (waiting initial clear : List Bool) (i : ℕ) (grew : Bool) → Clearing waiting initial clear i grew
    → (not (is_marked clear i) && not (is_marked waiting i)) ≡ false → Clearing waiting initial clear (i + 1) grew
Clearing-kept waiting initial clear i grew h held = record {
  done = λ k low. by_place k low (k == i) refl;
  rest = λ k above. h.rest k (omega (arith, above));
  room = h.room;
  fewer = h.fewer;
  grown = h.grown;
  same = h.same;
}
  where
    here : (a b c : Bool) → a ≡ b → (not a && not c) ≡ false → a ≡ (b || not c)
    here true true c e k = refl
    here false false true e k = refl
    here false false false e k = absurd cc
    here true false c e k = absurd cc
    here false true c e k = absurd cc

    by_place : (k : ℕ) → k < i + 1 → (b : Bool) → (k == i) ≡ b
        → is_marked clear k ≡ (is_marked initial k || not (is_marked waiting k))
    by_place k low true is =
        let same : k ≡ i = eqb-true k i is in
        rw same (here (is_marked clear i) (is_marked initial i) (is_marked waiting i) (h.rest i (omega arith)) held)
    by_place k low false is = let differ : k ≢ i = eqb-false k i is in h.done k (omega (arith, low, differ))

pub Clearing-more : (waiting initial clear : List Bool) (i : ℕ) (grew : Bool) → Clearing waiting initial clear i grew
    → MatchBool grew (mark_count initial < mark_count clear) (clear ≡ initial)
Clearing-more waiting initial clear i true h = h.grown refl
Clearing-more waiting initial clear i false h = h.same refl

pub marked_small : (marks : List Bool) (node : ℕ) → is_marked marks node ≡ true → node < length marks
marked_small [] zero h = absurd cc
marked_small [] (suc node) h = absurd cc
marked_small (b ∷ marks) zero h = omega arith
marked_small (b ∷ marks) (suc node) h = let less = marked_small marks node h in omega (arith, less)

pub match_else : (b : Bool) (P Q R : Type 0) → (Q → R) → MatchBool b P Q → MatchBool b P R
match_else true P Q R f h = h
match_else false P Q R f h = f h
