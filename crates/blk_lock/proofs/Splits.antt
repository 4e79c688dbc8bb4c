-- A split keeps the rule: the new pass has a name that nobody has, and what it was given is its own alone.
use Rattle.std.proofs.Common.{◌≡◌, ◌≢◌, ℕ, zero, suc, ◌+◌, ◌<◌, ◌≤◌, true, false, not, cond, eqb, eqb-true, eq-eqb, List, [], ◌∷◌, ◌++◌, filter, length, set, All, Option, Some, None, IfSome, ◌⊎◌, inl, inr, ⊎_elim, refl, sym, ap, ◌∙◌, subst, arith, append_assoc, length-append}
use Rattle.std.proofs.lemmas.List.Elements.{All-nil, All-cons, All-head, All-tail}
use mathlib.Core.Option.{some, some-injective, some-ne-none}
use lib.ListN.{get_elem?}
use Rattle.atomic_table.specs.Table.{State, Splits}
use Rattle.atomic_table.proofs.Lists.{at_set, set_else, at_longer}
use Rattle.blk_base.specs.declared.memory.Room.{Room}
use Rattle.blk_lock.specs.declared.known.Stamped.{Stamped}
use Rattle.blk_lock.specs.declared.known.View.{View}
use Rattle.blk_lock.specs.declared.known.Known.{Known}
use Rattle.blk_lock.specs.declared.known.Stage.TheVariants.{Rest}
use Rattle.blk_lock.specs.Rooms.{Measure, amount, IsWithinRoom}
use Rattle.blk_lock.specs.Stamps.{is_among, has_actor, is_by, IsOthers}
use Rattle.blk_lock.specs.Stages.{IsLive, has_world_out}
use Rattle.blk_lock.specs.Order.{HoldsAtStage, MayGive, IsSoundPass, AreApart, Has, rooms, IsHome, IsAway}
use Rattle.blk_lock.specs.Plays.{without, list_of, split_known, fresh_known}
use Rattle.blk_lock.proofs.Tests.{not_true, not_both, or_cases, is_among-here, is_among-one, has_actor-without}
use Rattle.blk_lock.proofs.Histories.{All-then, All-later, OthersAdd-fewer}
use Rattle.blk_lock.proofs.Passes.{total-set, total-push, AreApart-sym, on_each, on_pairs, on_all_pairs, makers_stay}
use Rattle.blk_lock.proofs.Frames.{Rule, IsNamed}
use Rattle.blk_lock.proofs.Puts.{amount-less, within}

-- one element longer
module _ {X : Type 0} where
  pub at_push : (xs : List X) (x y : X) (j : ℕ) → get_elem? (xs ++ x ∷ []) j ≡ some y → (get_elem? xs j ≡ some y) ⊎ ((j ≡ length xs) × (x ≡ y))
  at_push [] x y zero at = inr (refl, some-injective x y at)
  at_push [] x y (suc j) at = absurd (some-ne-none y (sym at))
  at_push (z ∷ xs) x y zero at = inl at
  at_push (z ∷ xs) x y (suc j) at = ⊎_elim inl (λ t. inr (ap suc t.0, t.1)) (at_push xs x y j at)

  -- two ways to end one list with an element: the other way has it too, or goes beyond
  pub same_end : (xs rest ys : List X) (k c : X) → xs ++ k ∷ rest ≡ ys ++ c ∷ [] → (xs ≡ ys) ⊎ ((more : List X) × (ys ≡ xs ++ k ∷ more))
  same_end [] rest [] k c e = inl refl
  same_end [] rest (y ∷ ys) k c e = let head : k ≡ y = cc in inr (ys, ap (λ (x : X). x ∷ ys) (sym head))
  same_end (x ∷ xs) rest [] k c e = absurd (let n = ap length e in let m = length-append xs (k ∷ rest) in omega arith)
  same_end (x ∷ xs) rest (y ∷ ys) k c e =
      let head : x ≡ y = cc in let tail : xs ++ k ∷ rest ≡ ys ++ c ∷ [] = cc in
      ⊎_elim (λ (s : xs ≡ ys). inl (let r : x ∷ xs ≡ y ∷ ys = cc in r)) (λ (t : (more : List X) × (ys ≡ xs ++ k ∷ more)). inr (t.0, (let u = t.1 in let r : y ∷ ys ≡ x ∷ (xs ++ k ∷ t.0) = cc in r))) (same_end xs rest ys k c tail)

-- an actor that was given is not kept
taken_out : (xs : List ℕ) (b a : ℕ) → b ≡ a → has_actor (filter (λ x. not (eqb x b)) xs) a ≡ true → ⊥
taken_out [] b a same h = cc
taken_out (x ∷ xs) b a same h =
    elim (eqb x b) as (λ t. eqb x b ≡ t → has_actor (cond (not t) (x ∷ filter (λ y. not (eqb y b)) xs) (filter (λ y. not (eqb y b)) xs)) a ≡ true → ⊥) [
      | true ↦ λ is there. taken_out xs b a same there
      | false ↦ λ is there. ⊎_elim (λ (here : eqb x a ≡ true). let e : x ≡ b = eqb-true x a here ∙ sym same in not_both (eqb x b) (eq-eqb x b e) is) (λ later. taken_out xs b a same later) (or_cases (eqb x a) (has_actor (filter (λ y. not (eqb y b)) xs) a) there)
    ] refl h

pub has_actor-one : (b a : ℕ) → has_actor (b ∷ []) a ≡ true → b ≡ a
has_actor-one b a h = ⊎_elim (λ here. eqb-true b a here) (λ (none : false ≡ true). cc) (or_cases (eqb b a) false h)

pub kept_or_given : (xs : List ℕ) (given : Option ℕ) (a : ℕ) → has_actor (without xs given) a ≡ true → has_actor (list_of given) a ≡ true → ⊥
kept_or_given xs None a h k = cc
kept_or_given xs (Some b) a h k = taken_out xs b a (has_actor-one b a k) h

pub given_was_held : (xs : List ℕ) (given : Option ℕ) (a : ℕ) → IfSome given (λ b. has_actor xs b ≡ true) → has_actor (list_of given) a ≡ true → has_actor xs a ≡ true
given_was_held xs None a held k = cc
given_was_held xs (Some b) a held k = subst (λ x. has_actor xs x ≡ true) (has_actor-one b a k) held

next_is_given : (name : List ℕ) (c k : ℕ) (rest : List ℕ) → name ++ c ∷ [] ≡ name ++ k ∷ rest → c ≡ k
next_is_given [] c k rest e = cc
next_is_given (x ∷ name) c k rest e = next_is_given name c k rest (let t : name ++ c ∷ [] ≡ name ++ k ∷ rest = cc in t)

module _ {E O : Type 0} where
  -- the passes, and one more
  module _ (passes : List (Known E O)) (u : Known E O) where
    has_push : (j : ℕ) (q : Known E O) → Has (passes ++ u ∷ []) j q → Has passes j q ⊎ ((j ≡ length passes) × (u ≡ q))
    has_push j q h = ⊎_elim (λ at. inl (at, h.1)) inr (at_push passes u q j h.0)

    pub push_each : (P : Known E O → Type 0) → P u → ((j : ℕ) (q : Known E O) → Has passes j q → P q) → (j : ℕ) (q : Known E O) → Has (passes ++ u ∷ []) j q → P q
    push_each P new old j q h = ⊎_elim (old j q) (λ t. subst P t.1 new) (has_push j q h)

    pub push_pairs : (R : Known E O → Known E O → Type 0) → ((j : ℕ) (q : Known E O) → Has passes j q → R u q) → ((p q : Known E O) → R p q → R q p)
        → ((i j : ℕ) (p q : Known E O) → i ≢ j → Has passes i p → Has passes j q → R p q)
        → (i j : ℕ) (p q : Known E O) → i ≢ j → Has (passes ++ u ∷ []) i p → Has (passes ++ u ∷ []) j q → R p q
    push_pairs R new turn old i j p q apart hi hj = ⊎_elim
        (λ (s : Has passes i p). ⊎_elim (λ (t : Has passes j q). old i j p q apart s t) (λ (t : (j ≡ length passes) × (u ≡ q)). subst (λ (x : Known E O). R p x) t.1 (turn u p (new i p s))) (has_push j q hj))
        (λ (s : (i ≡ length passes) × (u ≡ p)). ⊎_elim (λ (t : Has passes j q). subst (λ (x : Known E O). R x q) s.1 (new j q t)) (λ (t : (j ≡ length passes) × (u ≡ q)). absurd (apart (s.0 ∙ sym t.0))) (has_push j q hj))
        (has_push i p hi)

    pub push_all_pairs : (R : Known E O → Known E O → Type 0) → R u u → ((j : ℕ) (q : Known E O) → Has passes j q → R u q × R q u)
        → ((i j : ℕ) (p q : Known E O) → Has passes i p → Has passes j q → R p q)
        → (i j : ℕ) (p q : Known E O) → Has (passes ++ u ∷ []) i p → Has (passes ++ u ∷ []) j q → R p q
    push_all_pairs R self new old i j p q hi hj = ⊎_elim
        (λ (s : Has passes i p). ⊎_elim (λ (t : Has passes j q). old i j p q s t) (λ (t : (j ≡ length passes) × (u ≡ q)). subst (λ (x : Known E O). R p x) t.1 (new i p s).1) (has_push j q hj))
        (λ (s : (i ≡ length passes) × (u ≡ p)). ⊎_elim (λ (t : Has passes j q). subst (λ (x : Known E O). R x q) s.1 (new j q t).0) (λ (t : (j ≡ length passes) × (u ≡ q)). subst (λ (x : Known E O × Known E O). R x.0 x.1) (λ k. (s.1 k, t.1 k)) self) (has_push j q hj))
        (has_push i p hi)

  -- the names that a pass may still give, after and before a split
  gives_less : (v : View E O) (n : List ℕ) → (k : ℕ) × (rest : List ℕ) × (v.splits + 1 < k) × (n ≡ v.name ++ k ∷ rest) → MayGive v n
  gives_less v n g = let lt : v.splits + 1 < g.0 = g.2 in (g.0, g.1, omega arith, g.3)

  gives_through : (v : View E O) (n : List ℕ) → (k : ℕ) × (rest : List ℕ) × (0 < k) × (n ≡ (v.name ++ (v.splits + 1) ∷ []) ++ k ∷ rest) → MayGive v n
  gives_through v n g = (v.splits + 1, g.0 ∷ g.1, omega arith, g.3 ∙ append_assoc v.name ((v.splits + 1) ∷ []) (g.0 ∷ g.1))

  gives_next : (v : View E O) → MayGive v (v.name ++ (v.splits + 1) ∷ [])
  gives_next v = (v.splits + 1, [], omega arith, refl)

module _ {W E O : Type 0} (history : W → List E) (actor : E → Option ℕ) (spare : W → Room) (comes : W → O → Type 0) (opening : O) (start : Room) where
  abbrev St : Type 0
  St = State (Option W) (Known E O)

  abbrev Lawful : St → Type 0
  Lawful = Rule history actor spare comes opening start

  module _ (s : St) (r : Lawful s) (id : ℕ) (v : Known E O) (room : Room) (given : Option ℕ) (at : get_elem? s.views id ≡ some v) (rest : v.stage ≡ Rest)
      (enough : 2 ≤ v.view.shares) (fits : IsWithinRoom room v.view.room) (held : IfSome given (λ a. has_actor v.view.actors a ≡ true)) where
    abbrev left : Known E O
    left = split_known room given v

    abbrev right : Known E O
    right = fresh_known room given v

    abbrev name : List ℕ
    name = v.view.name ++ (v.view.splits + 1) ∷ []

    abbrev passes : List (Known E O)
    passes = set s.views id left

    live : IsLive v.stage
    live = subst IsLive (sym rest) tt

    here : Has s.views id v
    here = (at, live)

    mine : IsSoundPass actor opening r.drawn r.log v
    mine = r.sound id v here

    -- nobody has the new name
    nobodys : (j : ℕ) (q : Known E O) → Has s.views j q → (n : List ℕ) → is_among (name ∷ []) n ≡ true → is_among q.view.names n ≡ true → ⊥
    nobodys j q h n new old = r.unnamed id j v q here h n old (subst (MayGive v.view) (is_among-one n name new) (gives_next v.view))

    none_made : All (λ m. is_among (name ∷ []) m.maker ≡ false) r.log
    none_made = All-then (IsNamed history actor spare comes opening start s.views) (λ m. is_among (name ∷ []) m.maker ≡ false)
        (λ m t. not_true (is_among (name ∷ []) m.maker) (λ new. nobodys t.0 t.1 t.2 m.maker new t.3)) r.log r.made

    fewer : (a : ℕ) → has_actor (without v.view.actors given) a ≡ true → has_actor v.view.actors a ≡ true
    fewer a h = has_actor-without v.view.actors given a h

    was_held : (a : ℕ) → has_actor (list_of given) a ≡ true → has_actor v.view.actors a ≡ true
    was_held a h = given_was_held v.view.actors given a held h

    all_others : (xs : List (Stamped E)) → All (λ m. is_among (name ∷ []) m.maker ≡ false) xs → All (IsOthers actor v.view.names v.view.actors) xs → All (IsOthers actor (name ∷ []) (list_of given)) xs
    all_others [] new old = All-nil (IsOthers actor (name ∷ []) (list_of given))
    all_others (x ∷ xs) new old =
        let N : Stamped E → Type 0 = λ m. is_among (name ∷ []) m.maker ≡ false in let P : Stamped E → Type 0 = IsOthers actor v.view.names v.view.actors in
        All-cons (IsOthers actor (name ∷ []) (list_of given)) x xs record { by_another = All-head N x xs new; of_another = not_by (actor x.entry) (All-head P x xs old).of_another } (all_others xs (All-tail N x xs new) (All-tail P x xs old))
      where
        not_by : (a : Option ℕ) → is_by v.view.actors a ≡ false → is_by (list_of given) a ≡ false
        not_by None h = refl
        not_by (Some a) h = not_true (has_actor (list_of given) a) (λ t. not_both (has_actor v.view.actors a) (was_held a t) h)

    sound_right : IsSoundPass actor opening r.drawn r.log right
    sound_right = record {
      opened = mine.opened;
      named = is_among-here name [];
      shared = omega arith;
      goes_on = record {
        rest = mine.goes_on.rest;
        begins = mine.goes_on.begins;
        by_others = all_others mine.goes_on.rest (All-later (λ m. is_among (name ∷ []) m.maker ≡ false) v.view.seen mine.goes_on.rest (subst (All (λ m. is_among (name ∷ []) m.maker ≡ false)) mine.goes_on.begins none_made)) mine.goes_on.by_others;
      };
      stands = none_made;
    }

    sound_left : IsSoundPass actor opening r.drawn r.log left
    sound_left = record {
      opened = mine.opened;
      named = mine.named;
      shared = omega arith;
      goes_on = OthersAdd-fewer actor v.view.names v.view.names v.view.actors (without v.view.actors given) (λ n t. t) fewer v.view.seen r.log mine.goes_on;
      stands = subst (HoldsAtStage actor r.drawn r.log left.view) (sym rest) tt;
    }

    apart_left : (j : ℕ) (q : Known E O) → j ≢ id → Has s.views j q → AreApart left q
    apart_left j q ne h = let a = r.apart id j v q (λ e. ne (sym e)) here h in record { names = a.names; actors = λ x k. a.actors x (fewer x k); tickets = a.tickets }

    apart_right : (j : ℕ) (q : Known E O) → Has passes j q → AreApart right q
    apart_right = on_each s.views id left (AreApart right)
        record { names = λ n new. nobodys id v here n new; actors = λ x k l. kept_or_given v.view.actors given x l k; tickets = λ t k l. cc }
        (λ j q ne h. let a = r.apart id j v q (λ e. ne (sym e)) here h in record { names = λ n new. nobodys j q h n new; actors = λ x k. a.actors x (was_held x k); tickets = λ t k l. cc })

    -- no other pass gives the new name
    not_given : (j : ℕ) (q : Known E O) → j ≢ id → Has s.views j q → (n : List ℕ) → name ≡ n → MayGive q.view n → ⊥
    not_given j q ne h n is g =
        let a = r.apart id j v q (λ e. ne (sym e)) here h in let its = r.sound j q h in
        ⊎_elim (λ (same : q.view.name ≡ v.view.name). a.names v.view.name mine.named (subst (λ (x : List ℕ). is_among q.view.names x ≡ true) same its.named))
        (λ (t : (more : List ℕ) × (v.view.name ≡ q.view.name ++ g.0 ∷ more)). r.unnamed j id q v h here v.view.name mine.named (g.0, t.0, g.2, t.1))
        (same_end q.view.name g.1 v.view.name g.0 (v.view.splits + 1) (sym g.3 ∙ sym is))

    abbrev Unnamed : Known E O → Known E O → Type 0
    Unnamed p q = (n : List ℕ) → is_among q.view.names n ≡ true → MayGive p.view n → ⊥

    unnamed_passes : (i j : ℕ) (p q : Known E O) → Has passes i p → Has passes j q → Unnamed p q
    unnamed_passes = on_all_pairs s.views id left Unnamed
        (λ n k g. r.unnamed id id v v here here n k (gives_less v.view n g))
        (λ j q ne h. ((λ n k g. r.unnamed id j v q here h n k (gives_less v.view n g)), r.unnamed j id q v h here))
        r.unnamed

    unnamed_right : (j : ℕ) (q : Known E O) → Has passes j q → Unnamed right q × Unnamed q right
    unnamed_right = on_each s.views id left (λ q. Unnamed right q × Unnamed q right) (
      (λ n k g. r.unnamed id id v v here here n k (gives_through v.view n g)),
      (λ n k g. let is = is_among-one n name k in let lt : v.view.splits + 1 < g.0 = g.2 in let e : v.view.splits + 1 ≡ g.0 = next_is_given v.view.name (v.view.splits + 1) g.0 g.1 (is ∙ g.3) in absurd (omega arith)),
    )
        (λ j q ne h. ((λ n k g. r.unnamed id j v q here h n k (gives_through v.view n g)), (λ n k g. not_given j q ne h n (is_among-one n name k) g)))

    unnamed_itself : Unnamed right right
    unnamed_itself n k g = let is = is_among-one n name k in let e = ap length (is ∙ g.3) in let l = length-append name (g.0 ∷ g.1) in absurd (omega arith)

    makers : (n : List ℕ) → (i : ℕ) × (p : Known E O) × Has s.views i p × (is_among p.view.names n ≡ true) → (i : ℕ) × (p : Known E O) × Has (passes ++ right ∷ []) i p × (is_among p.view.names n ≡ true)
    makers n t = let u = makers_stay s.views id left v at (λ m k. k) live n t in (u.0, u.1, (at_longer passes (right ∷ []) u.0 u.1 u.2.0, u.2.1), u.3)

    rooms_same : (k : Measure) → rooms k (passes ++ right ∷ []) ≡ rooms k s.views
    rooms_same k =
        let f : Known E O → ℕ = λ p. amount k p.view.room in
        let a = total-push f passes right in let b = total-set f s.views id v left at in let c = amount-less k v.view.room room in let d = within k room v.view.room fits in omega arith

    place : IsHome history spare comes opening r.log s.homes s.views ⊎ IsAway r.served s.homes s.views → IsHome history spare comes opening r.log s.homes (passes ++ right ∷ []) ⊎ IsAway r.served s.homes (passes ++ right ∷ [])
    place (inl h) = inl record {
      world = h.world;
      in_slot = h.in_slot;
      told = h.told;
      opened = h.opened;
      has_room = λ k. let a = rooms_same k in let b = h.has_room k in omega arith;
      none_out = λ j q p. ⊎_elim
          (λ (old : get_elem? passes j ≡ some q). ⊎_elim (λ (t : (j ≡ id) × (left ≡ q)). subst (λ (x : Known E O). has_world_out x.stage ≡ false) t.1 (ap has_world_out rest)) (λ (t : (j ≢ id) × (get_elem? s.views j ≡ some q)). h.none_out j q t.1) (at_set s.views id j left q old))
          (λ (t : (j ≡ length passes) × (right ≡ q)). subst (λ (x : Known E O). has_world_out x.stage ≡ false) t.1 refl)
          (at_push passes right q j p);
    }
    place (inr a) =
        let ne : a.holder ≢ id = λ e. not_both (has_world_out v.stage) (subst (λ (x : Known E O). has_world_out x.stage ≡ true) (some-injective a.pass v (sym a.there ∙ (ap (get_elem? s.views) e ∙ at))) a.out) (ap has_world_out rest) in
        inr record {
          holder = a.holder;
          pass = a.pass;
          had = a.had;
          there = at_longer passes (right ∷ []) a.holder a.pass (set_else s.views id a.holder left ne ∙ a.there);
          out = a.out;
          ticket = a.ticket;
          turn = a.turn;
          empty = a.empty;
          has_room = λ k. let e = rooms_same k in let b = a.has_room k in omega arith;
          alone = λ j q p o. ⊎_elim
              (λ (old : get_elem? passes j ≡ some q). ⊎_elim (λ (t : (j ≡ id) × (left ≡ q)). not_both (has_world_out q.stage) o (subst (λ (x : Known E O). has_world_out x.stage ≡ false) t.1 (ap has_world_out rest))) (λ (t : (j ≢ id) × (get_elem? s.views j ≡ some q)). a.alone j q t.1 o) (at_set s.views id j left q old))
              (λ (t : (j ≡ length passes) × (right ≡ q)). not_both (has_world_out q.stage) o (subst (λ (x : Known E O). has_world_out x.stage ≡ false) t.1 refl))
              (at_push passes right q j p);
        }

    splits_one : Lawful record { words = s.words; homes = s.homes; views = passes ++ right ∷ [] }
    splits_one = record {
      drawn = r.drawn;
      served = r.served;
      log = r.log;
      words = r.words;
      sound = push_each passes right (IsSoundPass actor opening r.drawn r.log) sound_right (on_each s.views id left (IsSoundPass actor opening r.drawn r.log) sound_left (λ j q ne h. r.sound j q h));
      apart = push_pairs passes right AreApart apart_right AreApart-sym (on_pairs s.views id left AreApart apart_left AreApart-sym r.apart);
      unnamed = push_all_pairs passes right Unnamed unnamed_itself unnamed_right unnamed_passes;
      made = All-then (IsNamed history actor spare comes opening start s.views) (IsNamed history actor spare comes opening start (passes ++ right ∷ [])) (λ m. makers m.maker) r.log r.made;
      shares = (let f : Known E O → ℕ = λ p. p.view.shares in let a = total-push f passes right in let b = total-set f s.views id v left at in let c = r.shares in omega arith);
      in_room = λ k. let a = rooms_same k in let b = r.in_room k in omega arith;
      place = place r.place;
    }

  pub splits : (id : ℕ) (v : Known E O) (room : Room) (given : Option ℕ) → v.stage ≡ Rest → 2 ≤ v.view.shares → IsWithinRoom room v.view.room → IfSome given (λ a. has_actor v.view.actors a ≡ true)
      → Splits Lawful id v (split_known room given v) (fresh_known room given v)
  splits id v room given rest enough fits held s r at = splits_one s r id v room given at rest enough fits held
