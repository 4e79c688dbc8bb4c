-- A join keeps the rule, and so do the looks that end a split and a join.
use Rattle.std.proofs.Common.{◌≡◌, ◌≢◌, ℕ, ◌+◌, true, false, List, length, get_or, set, All, Option, ◌⊎◌, inl, inr, ⊎_elim, refl, sym, ap, ◌∙◌, subst, arith}
use mathlib.Core.Option.{some, some-injective}
use mathlib.Core.Logic.{dite}
use native.Mathlib.Decide.{ℕ_discrete}
use lib.ListN.{get_elem?}
use Rattle.atomic_table.specs.Table.{State, Me, keeps, Allows, Joins, stepped}
use Rattle.atomic_table.proofs.Lists.{at_set, set_else, set_here}
use Rattle.blk_base.specs.declared.memory.Room.{Room}
use Rattle.blk_lock.specs.declared.known.Stamped.{Stamped}
use Rattle.blk_lock.specs.declared.known.Side.{Side}
use Rattle.blk_lock.specs.declared.known.Known.{Known}
use Rattle.blk_lock.specs.declared.known.Stage.TheVariants.{Fresh, Joined, Rest}
use Rattle.blk_lock.specs.Rooms.{Measure, in_entries, in_bytes, amount, no_room, plus}
use Rattle.blk_lock.specs.Stamps.{is_among}
use Rattle.blk_lock.specs.Stages.{IsLive, has_world_out}
use Rattle.blk_lock.specs.Order.{HaveNoneInCommon, Unites, HoldsAtStage, MayGive, IsSoundPass, AreApart, Has, rooms, IsHome, IsAway}
use Rattle.blk_lock.specs.Plays.{longer, joined_known, spent_known, resting, Settles}
use Rattle.blk_lock.specs.Plays as plays
use Rattle.blk_lock.proofs.Tests.{not_both, is_among-left, is_among-right, is_among-cases, has_actor-cases}
use Rattle.blk_lock.proofs.Histories.{All-then, All-earlier, OthersAdd-longer, OthersAdd-between, length-longer-left, length-longer-right}
use Rattle.blk_lock.proofs.Made.{made_from-none}
use Rattle.blk_lock.proofs.Passes.{total-set, AreApart-sym, at_inside}
use Rattle.blk_lock.proofs.Frames.{Rule, IsNamed, moves, stays, rooms_stay}

amount-plus : (k : Measure) (a b : Room) → amount k (plus a b) ≡ amount k a + amount k b
amount-plus in_entries a b = refl
amount-plus in_bytes a b = refl

amount-no_room : (k : Measure) → amount k no_room ≡ 0
amount-no_room in_entries = refl
amount-no_room in_bytes = refl

module _ {E O : Type 0} (passes : List (Known E O)) (id other : ℕ) (both : Known E O) where
  abbrev after : List (Known E O)
  after = set (set passes id both) other spent_known

  has_joined : (j : ℕ) (q : Known E O) → Has after j q → ((j ≡ id) × (both ≡ q)) ⊎ ((j ≢ id) × (j ≢ other) × Has passes j q)
  has_joined j q h = ⊎_elim
      (λ (t : (j ≡ other) × (spent_known ≡ q)). let none : IsLive (spent_known {E = E} {O = O}).stage = subst (λ (x : Known E O). IsLive x.stage) (sym t.1) h.1 in absurd none)
      (λ (t : (j ≢ other) × (get_elem? (set passes id both) j ≡ some q)). ⊎_elim inl (λ (u : (j ≢ id) × (get_elem? passes j ≡ some q)). inr (u.0, t.0, (u.1, h.1))) (at_set passes id j both q t.1))
      (at_set (set passes id both) other j spent_known q h.0)

  joined_each : (P : Known E O → Type 0) → P both → ((j : ℕ) (q : Known E O) → Has passes j q → P q) → (j : ℕ) (q : Known E O) → Has after j q → P q
  joined_each P mine old j q h = ⊎_elim (λ t. subst P t.1 mine) (λ t. old j q t.2) (has_joined j q h)

  joined_pairs : (R : Known E O → Known E O → Type 0) → ((j : ℕ) (q : Known E O) → j ≢ id → j ≢ other → Has passes j q → R both q) → ((p q : Known E O) → R p q → R q p)
      → ((i j : ℕ) (p q : Known E O) → i ≢ j → Has passes i p → Has passes j q → R p q)
      → (i j : ℕ) (p q : Known E O) → i ≢ j → Has after i p → Has after j q → R p q
  joined_pairs R mine turn old i j p q apart hi hj = ⊎_elim
      (λ (s : (i ≡ id) × (both ≡ p)). ⊎_elim (λ (t : (j ≡ id) × (both ≡ q)). absurd (apart (s.0 ∙ sym t.0))) (λ (t : (j ≢ id) × (j ≢ other) × Has passes j q). subst (λ (x : Known E O). R x q) s.1 (mine j q t.0 t.1 t.2)) (has_joined j q hj))
      (λ (s : (i ≢ id) × (i ≢ other) × Has passes i p). ⊎_elim (λ (t : (j ≡ id) × (both ≡ q)). subst (λ (x : Known E O). R p x) t.1 (turn both p (mine i p s.0 s.1 s.2))) (λ (t : (j ≢ id) × (j ≢ other) × Has passes j q). old i j p q apart s.2 t.2) (has_joined j q hj))
      (has_joined i p hi)

  joined_all_pairs : (R : Known E O → Known E O → Type 0) → R both both → ((j : ℕ) (q : Known E O) → Has passes j q → R both q × R q both)
      → ((i j : ℕ) (p q : Known E O) → Has passes i p → Has passes j q → R p q)
      → (i j : ℕ) (p q : Known E O) → Has after i p → Has after j q → R p q
  joined_all_pairs R self mine old i j p q hi hj = ⊎_elim
      (λ (s : (i ≡ id) × (both ≡ p)). ⊎_elim (λ (t : (j ≡ id) × (both ≡ q)). subst (λ (x : Known E O × Known E O). R x.0 x.1) (λ k. (s.1 k, t.1 k)) self) (λ (t : (j ≢ id) × (j ≢ other) × Has passes j q). subst (λ (x : Known E O). R x q) s.1 (mine j q t.2).0) (has_joined j q hj))
      (λ (s : (i ≢ id) × (i ≢ other) × Has passes i p). ⊎_elim (λ (t : (j ≡ id) × (both ≡ q)). subst (λ (x : Known E O). R p x) t.1 (mine i p s.2).1) (λ (t : (j ≢ id) × (j ≢ other) × Has passes j q). old i j p q s.2 t.2) (has_joined j q hj))
      (has_joined i p hi)

module _ {W E O : Type 0} (history : W → List E) (actor : E → Option ℕ) (spare : W → Room) (comes : W → O → Type 0) (opening : O) (start : Room) where
  abbrev St : Type 0
  St = State (Option W) (Known E O)

  abbrev M : Type 0
  M = Me (Option W) (Known E O)

  abbrev Lawful : St → Type 0
  Lawful = Rule history actor spare comes opening start

  module _ (s : St) (r : Lawful s) (id other : ℕ) (v u : Known E O) (at : get_elem? s.views id ≡ some v) (ne : other ≢ id) (there : get_elem? s.views other ≡ some u) (rest : v.stage ≡ Rest) (rests : u.stage ≡ Rest) where
    abbrev both : Known E O
    both = joined_known v u

    abbrev passes : List (Known E O)
    passes = set (set s.views id both) other spent_known

    here : Has s.views id v
    here = (at, subst IsLive (sym rest) tt)

    away : Has s.views other u
    away = (there, subst IsLive (sym rests) tt)

    mine : IsSoundPass actor opening r.drawn r.log v
    mine = r.sound id v here

    its : IsSoundPass actor opening r.drawn r.log u
    its = r.sound other u away

    apart_two : HaveNoneInCommon v.view.names v.view.actors u.view.names u.view.actors
    apart_two = let a = r.apart id other v u (λ e. ne (sym e)) here away in record { no_name = a.names; no_actor = a.actors }

    sound_both : IsSoundPass actor opening r.drawn r.log both
    sound_both = record {
      opened = mine.opened;
      named = is_among-left v.view.names u.view.names v.view.name mine.named;
      shared = (let a = mine.shared in omega arith);
      goes_on = OthersAdd-longer actor v.view.names u.view.names v.view.actors u.view.actors v.view.seen u.view.seen r.log mine.goes_on its.goes_on;
      stands = record { names = refl; actors = refl; apart = apart_two; from_left = mine.goes_on; from_right = its.goes_on };
    }

    apart_both : (j : ℕ) (q : Known E O) → j ≢ id → j ≢ other → Has s.views j q → AreApart both q
    apart_both j q n m h = let a = r.apart id j v q (λ e. n (sym e)) here h in let b = r.apart other j u q (λ e. m (sym e)) away h in record {
      names = λ x k l. ⊎_elim (λ c. a.names x c l) (λ c. b.names x c l) (is_among-cases v.view.names u.view.names x k);
      actors = λ x k l. ⊎_elim (λ c. a.actors x c l) (λ c. b.actors x c l) (has_actor-cases v.view.actors u.view.actors x k);
      tickets = λ t k l. cc;
    }

    abbrev Unnamed : Known E O → Known E O → Type 0
    Unnamed p q = (n : List ℕ) → is_among q.view.names n ≡ true → MayGive p.view n → ⊥

    unnamed_by : (j : ℕ) (q : Known E O) → Has s.views j q → Unnamed q both
    unnamed_by j q h n k g = ⊎_elim (λ c. r.unnamed j id q v h here n c g) (λ c. r.unnamed j other q u h away n c g) (is_among-cases v.view.names u.view.names n k)

    maker : (m : List ℕ) → (i : ℕ) × (p : Known E O) × Has s.views i p × (is_among p.view.names m ≡ true) → (i : ℕ) × (p : Known E O) × Has passes i p × (is_among p.view.names m ≡ true)
    maker m t =
        let it_has : Has passes id both = (set_else (set s.views id both) other id spent_known (λ e. ne (sym e)) ∙ set_here s.views id both (at_inside s.views id v at), tt) in
        dite (ℕ_discrete t.0 id)
        (λ is. let same : t.1 ≡ v = some-injective t.1 v (sym t.2.0 ∙ (ap (get_elem? s.views) is ∙ at)) in
        (id, both, it_has, is_among-left v.view.names u.view.names m (subst (λ (x : Known E O). is_among x.view.names m ≡ true) same t.3)))
        (λ not_id. dite (ℕ_discrete t.0 other)
        (λ is. let same : t.1 ≡ u = some-injective t.1 u (sym t.2.0 ∙ (ap (get_elem? s.views) is ∙ there)) in
        (id, both, it_has, is_among-right v.view.names u.view.names m (subst (λ (x : Known E O). is_among x.view.names m ≡ true) same t.3)))
        (λ not_other. (t.0, t.1, (set_else (set s.views id both) other t.0 spent_known not_other ∙ (set_else s.views id t.0 both not_id ∙ t.2.0), t.2.1), t.3)))

    other_there : get_elem? (set s.views id both) other ≡ some u
    other_there = set_else s.views id other both ne ∙ there

    rooms_same : (k : Measure) → rooms k passes ≡ rooms k s.views
    rooms_same k =
        let f : Known E O → ℕ = λ p. amount k p.view.room in
        let a = total-set f (set s.views id both) other u spent_known other_there in let b = total-set f s.views id v both at in
        let c = amount-plus k v.view.room u.view.room in let d = amount-no_room k in omega arith

    place : IsHome history spare comes opening r.log s.homes s.views ⊎ IsAway r.served s.homes s.views → IsHome history spare comes opening r.log s.homes passes ⊎ IsAway r.served s.homes passes
    place (inl h) = inl record {
      world = h.world;
      in_slot = h.in_slot;
      told = h.told;
      opened = h.opened;
      has_room = λ k. let a = rooms_same k in let b = h.has_room k in omega arith;
      none_out = λ j q p. ⊎_elim
          (λ (t : (j ≡ other) × (spent_known ≡ q)). subst (λ (x : Known E O). has_world_out x.stage ≡ false) t.1 refl)
          (λ (t : (j ≢ other) × (get_elem? (set s.views id both) j ≡ some q)). ⊎_elim (λ (x : (j ≡ id) × (both ≡ q)). subst (λ (y : Known E O). has_world_out y.stage ≡ false) x.1 refl) (λ (x : (j ≢ id) × (get_elem? s.views j ≡ some q)). h.none_out j q x.1) (at_set s.views id j both q t.1))
          (at_set (set s.views id both) other j spent_known q p);
    }
    place (inr a) =
        let ne_id : a.holder ≢ id = λ e. not_both (has_world_out v.stage) (subst (λ (x : Known E O). has_world_out x.stage ≡ true) (some-injective a.pass v (sym a.there ∙ (ap (get_elem? s.views) e ∙ at))) a.out) (ap has_world_out rest) in
        let ne_other : a.holder ≢ other = λ e. not_both (has_world_out u.stage) (subst (λ (x : Known E O). has_world_out x.stage ≡ true) (some-injective a.pass u (sym a.there ∙ (ap (get_elem? s.views) e ∙ there))) a.out) (ap has_world_out rests) in
        inr record {
          holder = a.holder;
          pass = a.pass;
          had = a.had;
          there = set_else (set s.views id both) other a.holder spent_known ne_other ∙ (set_else s.views id a.holder both ne_id ∙ a.there);
          out = a.out;
          ticket = a.ticket;
          turn = a.turn;
          empty = a.empty;
          has_room = λ k. let e = rooms_same k in let b = a.has_room k in omega arith;
          alone = λ j q p o. ⊎_elim
              (λ (t : (j ≡ other) × (spent_known ≡ q)). not_both (has_world_out q.stage) o (subst (λ (x : Known E O). has_world_out x.stage ≡ false) t.1 refl))
              (λ (t : (j ≢ other) × (get_elem? (set s.views id both) j ≡ some q)). ⊎_elim (λ (x : (j ≡ id) × (both ≡ q)). not_both (has_world_out q.stage) o (subst (λ (y : Known E O). has_world_out y.stage ≡ false) x.1 refl)) (λ (x : (j ≢ id) × (get_elem? s.views j ≡ some q)). a.alone j q x.1 o) (at_set s.views id j both q t.1))
              (at_set (set s.views id both) other j spent_known q p);
        }

    joins_one : Lawful record { words = s.words; homes = s.homes; views = passes }
    joins_one = record {
      drawn = r.drawn;
      served = r.served;
      log = r.log;
      words = r.words;
      sound = joined_each s.views id other both (IsSoundPass actor opening r.drawn r.log) sound_both r.sound;
      apart = joined_pairs s.views id other both AreApart apart_both AreApart-sym r.apart;
      unnamed = joined_all_pairs s.views id other both Unnamed (unnamed_by id v here) (λ j q h. (r.unnamed id j v q here h, unnamed_by j q h)) r.unnamed;
      made = All-then (IsNamed history actor spare comes opening start s.views) (IsNamed history actor spare comes opening start passes) (λ m. maker m.maker) r.log r.made;
      shares = (let f : Known E O → ℕ = λ p. p.view.shares in let a = total-set f (set s.views id both) other u spent_known other_there in let b = total-set f s.views id v both at in let c = r.shares in omega arith);
      in_room = λ k. let a = rooms_same k in let b = r.in_room k in omega arith;
      place = place r.place;
    }

  pub joins : (id other : ℕ) (v u : Known E O) → v.stage ≡ Rest → u.stage ≡ Rest → Joins Lawful id v other u (joined_known v u) spent_known
  joins id other v u rest rests s r at ne there = joins_one s r id other v u at ne (sym (set_else s.views id other (joined_known v u) ne) ∙ there) rest rests

  -- a pass that looks at the count and rests then
  module _ (s : St) (r : Lawful s) (id : ℕ) (v : Known E O) (at : get_elem? s.views id ≡ some v) (live : IsLive v.stage) (off : has_world_out v.stage ≡ false) where
    rests_one : (cs : List (ℕ × Option W)) → Lawful (stepped s 2 (get_or s.words 2 0) id cs (resting v) keeps)
    rests_one cs =
        let same : (k : Measure) → amount k v.view.room ≡ amount k v.view.room = λ k. refl in
        moves history actor spare comes opening start s r id v at live Rest v.view.seen v.view.room v.view.turn tt
        (λ j q n h t k l. cc)
        r.drawn r.served r.log (set s.words 2 (get_or s.words 2 0)) s.homes
        (ap (λ l. set l 2 (get_or l 2 0)) r.words)
        (r.sound id v (at, live)).goes_on
        tt
        (λ j q n h. r.sound j q h)
        r.made
        (λ k. let e = rooms_stay history actor spare comes opening start s r id v at live Rest v.view.seen v.view.room v.view.turn same k in let b = r.in_room k in omega arith)
        (stays history actor spare comes opening start s r id v at live Rest v.view.seen v.view.room v.view.turn off refl same r.place)

  pub settles : (slots id : ℕ) (me : M) → me.0.stage ≡ Fresh → Allows Lawful slots id me 2 (λ n. n) (λ _ m. Settles me m)
  settles slots id me fresh s r _ at _ =
      let v : Known E O = me.0 in
      let live : IsLive v.stage = subst IsLive (sym fresh) tt in
      let mine = r.sound id v (at, live) in
      let P : Stamped E → Type 0 = λ m. is_among v.view.names m.maker ≡ false in
      let none : All P r.log = subst (HoldsAtStage actor r.drawn r.log v.view) fresh mine.stands in (
        resting v,
        keeps,
        tt,
        rests_one s r id v at live (ap has_world_out fresh) me.1,
        record { after = refl; nothing = made_from-none v.view.names 0 v.view.seen (All-earlier P v.view.seen mine.goes_on.rest (subst (All P) mine.goes_on.begins none)) },
      )

  pub unites : (slots id : ℕ) (me : M) (left right : Side E) → me.0.stage ≡ Joined left right → Allows Lawful slots id me 2 (λ n. n) (λ _ m. plays.Joins actor me m)
  unites slots id me left right joined s r _ at _ =
      let v : Known E O = me.0 in
      let live : IsLive v.stage = subst IsLive (sym joined) tt in
      let mine = r.sound id v (at, live) in (
        resting v,
        keeps,
        tt,
        rests_one s r id v at live (ap has_world_out joined) me.1,
        record {
          after = refl;
          apart = λ l x is. (let two : Unites actor r.log v.view l x = subst (HoldsAtStage actor r.drawn r.log v.view) is mine.stands in two.apart);
          both = λ l x is longest.
              let two : Unites actor r.log v.view l x = subst (HoldsAtStage actor r.drawn r.log v.view) is mine.stands in
              let a = length-longer-left l.seen x.seen in let b = length-longer-right l.seen x.seen in let c = ap length longest in (
                OthersAdd-between actor l.names v.view.names l.actors v.view.actors l.seen v.view.seen r.log two.from_left mine.goes_on (omega arith),
                OthersAdd-between actor x.names v.view.names x.actors v.view.actors x.seen v.view.seen r.log two.from_right mine.goes_on (omega arith),
              );
        },
      )
