-- Counting what a turn made, and serving the next, keep the rule.
use Rattle.std.proofs.Common.{◌≡◌, ◌≢◌, ℕ, ◌+◌, ◌-◌, ◌<◌, ◌≤◌, ◌^◌, ◌%◌, true, false, List, [], ◌∷◌, ◌++◌, length, get_or, set, All, Option, Some, None, IfSome, unwrap_or, inl, inr, ⊎_elim, refl, sym, ap, ◌∙◌, subst, arith, mod-eq_of_lt, length-append}
use Rattle.std.proofs.lemmas.List.Elements.{All-append}
use mathlib.Core.Option.{some, some-injective}
use lib.ListN.{get_elem?}
use Rattle.atomic_table.specs.Table.{State, Me, keeps, gives, Allows, stepped}
use Rattle.atomic_table.proofs.Lists.{at_set, set_here}
use Rattle.blk_base.specs.declared.memory.Room.{Room}
use Rattle.blk_lock.specs.declared.known.Stamped.{Stamped}
use Rattle.blk_lock.specs.declared.known.View.{View}
use Rattle.blk_lock.specs.declared.known.Known.{Known}
use Rattle.blk_lock.specs.declared.known.Stage.{Stage}
use Rattle.blk_lock.specs.declared.known.Stage.TheVariants.{Spent, Fresh, Joined, Rest, Waiting, Out, Counted}
use Rattle.blk_lock.specs.Rooms.{Measure, in_entries, in_bytes, amount, no_room, less, IsWithinRoom}
use Rattle.blk_lock.specs.Stamps.{is_among, has_actor, is_by, may_make, entries_of, stamped, IsOthers, OthersAdd}
use Rattle.blk_lock.specs.Stages.{IsLive, ticket_of, has_world_out}
use Rattle.blk_lock.specs.Order.{IsDrawn, HoldsAtStage, IsSoundPass, AreApart, Has, rooms, IsAway}
use Rattle.blk_lock.specs.Plays.{made_since, counted_known, CountsMade, Serves}
use Rattle.blk_lock.proofs.Tests.{not_true, not_both, is_among-left, is_among-right, has_actor-left, has_actor-right}
use Rattle.blk_lock.proofs.Histories.{All-then, OthersAdd-same, OthersAdd-more, IsOthers-fewer}
use Rattle.blk_lock.proofs.Made.{All-stamped, entries_of-stamped, taken-stamped, taken-append, length-entries_of}
use Rattle.blk_lock.proofs.Passes.{total-set, pass_moved, at_inside}
use Rattle.blk_lock.proofs.Frames.{Rule, IsNamed, moves, rooms_stay}

pub amount-less : (k : Measure) (a b : Room) → amount k (less a b) ≡ amount k a - amount k b
amount-less in_entries a b = refl
amount-less in_bytes a b = refl

pub within : (k : Measure) (a b : Room) → IsWithinRoom a b → amount k a ≤ amount k b
within in_entries a b h = h.0
within in_bytes a b h = h.1

-- the value in hand, if there is one
abbrev pub in_hand_or : {W : Type 0} → W → List (ℕ × Option W) → W
in_hand_or d [] = d
in_hand_or d (x ∷ xs) = unwrap_or x.1 d

module _ {E : Type 0} (actor : E → Option ℕ) where
  pub length-stamped : (name : List ℕ) (took : Room) (es : List E) → length (stamped name took es) ≡ length es
  length-stamped name took es = sym (length-entries_of (stamped name took es)) ∙ ap length (entries_of-stamped name took es)

  -- an entry that the holder of these actors may make is of none that another holds
  not_anothers : (actors others : List ℕ) (a : Option ℕ) → ((x : ℕ) → has_actor actors x ≡ true → has_actor others x ≡ true → ⊥) → may_make actors a ≡ true → is_by others a ≡ false
  not_anothers actors others None apart h = refl
  not_anothers actors others (Some a) apart h = not_true (has_actor others a) (apart a h)

  -- what one pass makes, another did not
  pub made_by_another : (name : List ℕ) (took : Room) (made : List E) (names : List (List ℕ)) (actors actors' : List ℕ)
      → (is_among names name ≡ true → ⊥) → ((x : ℕ) → has_actor actors x ≡ true → has_actor actors' x ≡ true → ⊥) → All (λ e. may_make actors (actor e) ≡ true) made
      → All (IsOthers actor names actors') (stamped name took made)
  made_by_another name took made names actors actors' other apart all = All-stamped (IsOthers actor names actors') (λ e. may_make actors (actor e) ≡ true) name took made
      (λ e t may. record { by_another = not_true (is_among names name) other; of_another = not_anothers actors actors' (actor e) apart may }) all

module _ {E O : Type 0} (actor : E → Option ℕ) where
  -- what holds of a pass stays so when another's entries are counted
  pub stands_on : (drawn : ℕ) (log more : List (Stamped E)) (v : View E O) (s : Stage E) → has_world_out s ≡ false → All (IsOthers actor v.names v.actors) more → HoldsAtStage actor drawn log v s → HoldsAtStage actor drawn (log ++ more) v s
  stands_on drawn log more v Spent off all h = tt
  stands_on drawn log more v Fresh off all h = All-append (λ m. is_among v.names m.maker ≡ false) log more h (All-then (IsOthers actor v.names v.actors) (λ m. is_among v.names m.maker ≡ false) (λ m o. o.by_another) more all)
  stands_on drawn log more v (Joined l r) off all h =
      let names : (n : List ℕ) → is_among (l.names ++ r.names) n ≡ true → is_among v.names n ≡ true = λ n t. subst (λ (x : List (List ℕ)). is_among x n ≡ true) (sym h.names) t in
      let actors : (a : ℕ) → has_actor (l.actors ++ r.actors) a ≡ true → has_actor v.actors a ≡ true = λ a t. subst (λ (x : List ℕ). has_actor x a ≡ true) (sym h.actors) t in
      record {
        names = h.names;
        actors = h.actors;
        apart = h.apart;
        from_left = OthersAdd-more actor l.names l.actors l.seen log more h.from_left (All-then (IsOthers actor v.names v.actors) (IsOthers actor l.names l.actors)
            (IsOthers-fewer actor v.names l.names v.actors l.actors (λ n t. names n (is_among-left l.names r.names n t)) (λ a t. actors a (has_actor-left l.actors r.actors a t))) more all);
        from_right = OthersAdd-more actor r.names r.actors r.seen log more h.from_right (All-then (IsOthers actor v.names v.actors) (IsOthers actor r.names r.actors)
            (IsOthers-fewer actor v.names r.names v.actors r.actors (λ n t. names n (is_among-right l.names r.names n t)) (λ a t. actors a (has_actor-right l.actors r.actors a t))) more all);
      }
  stands_on drawn log more v Rest off all h = tt
  stands_on drawn log more v (Waiting t) off all h = h
  stands_on drawn log more v (Out t) off all h = cc
  stands_on drawn log more v (Counted t) off all h = cc

module _ {W E O : Type 0} (history : W → List E) (actor : E → Option ℕ) (spare : W → Room) (comes : W → O → Type 0) (opening : O) (start : Room) where
  abbrev St : Type 0
  St = State (Option W) (Known E O)

  abbrev M : Type 0
  M = Me (Option W) (Known E O)

  abbrev Lawful : St → Type 0
  Lawful = Rule history actor spare comes opening start

  -- where a pass has the value, it is out with that pass alone
  pub record IsMine (s : St) (r : Lawful s) (id : ℕ) (v : Known E O) : Type 0 where
    pub away : IsAway r.served s.homes s.views
    pub holder : id ≡ away.holder
    pub pass : v ≡ away.pass
    pub ticket : ticket_of v.stage ≡ Some r.served

  pub is_mine : (s : St) (r : Lawful s) (id : ℕ) (v : Known E O) → get_elem? s.views id ≡ some v → has_world_out v.stage ≡ true → IsMine s r id v
  is_mine s r id v at out = ⊎_elim (λ h. not_both (has_world_out v.stage) out (h.none_out id v at))
      (λ a. let here : id ≡ a.holder = a.alone id v at out in
      let same : v ≡ a.pass = some-injective v a.pass (sym at ∙ (ap (get_elem? s.views) here ∙ a.there)) in
      record { away = a; holder = here; pass = same; ticket = ap (λ (x : Known E O). ticket_of x.stage) same ∙ a.ticket })
      r.place

  pub others_are_in : (s : St) (r : Lawful s) (id : ℕ) (v : Known E O) → IsMine s r id v → (j : ℕ) (q : Known E O) → j ≢ id → get_elem? s.views j ≡ some q → has_world_out q.stage ≡ false
  others_are_in s r id v m j q ne at = not_true (has_world_out q.stage) (λ out. ne (m.away.alone j q at out ∙ sym m.holder))

  -- what a turn made is counted
  module _ (s : St) (r : Lawful s) (id t : ℕ) (v : Known E O) (world : W) (at : get_elem? s.views id ≡ some v) (out : v.stage ≡ Out t)
      (grown : history world ≡ entries_of v.view.seen ++ made_since v.view.seen (history world))
      (fits : IsWithinRoom (less (unwrap_or v.view.turn no_room) (spare world)) v.view.room)
      (allowed : All (λ e. may_make v.view.actors (actor e) ≡ true) (made_since v.view.seen (history world))) where
    abbrev made : List E
    made = made_since v.view.seen (history world)

    abbrev took : Room
    took = less (unwrap_or v.view.turn no_room) (spare world)

    abbrev stamps : List (Stamped E)
    stamps = stamped v.view.name took made

    abbrev ticket : ℕ
    ticket = unwrap_or (ticket_of v.stage) 0

    abbrev w : Known E O
    w = counted_known made (spare world) v

    ticket_is : ticket_of v.stage ≡ Some ticket
    ticket_is = ap ticket_of out ∙ ap (λ (x : Stage E). Some (unwrap_or (ticket_of x) 0)) (sym out)

    live : IsLive v.stage
    live = subst IsLive (sym out) tt

    mine : IsSoundPass actor opening r.drawn r.log v
    mine = r.sound id v (at, live)

    stands : IsDrawn r.drawn ticket × (v.view.seen ≡ r.log)
    stands =
        let h : IsDrawn r.drawn t × (v.view.seen ≡ r.log) = subst (HoldsAtStage actor r.drawn r.log v.view) out mine.stands in
        let same : t ≡ ticket = ap (λ (x : Stage E). unwrap_or (ticket_of x) 0) (sym out) in
        (subst (IsDrawn r.drawn) same h.0, h.1)

    has_it : IsMine s r id v
    has_it = is_mine s r id v at (ap has_world_out out)

    apart_from : (j : ℕ) (q : Known E O) → j ≢ id → Has s.views j q → AreApart v q
    apart_from j q ne h = r.apart id j v q (λ e. ne (sym e)) (at, live) h

    by_me : (j : ℕ) (q : Known E O) → j ≢ id → Has s.views j q → All (IsOthers actor q.view.names q.view.actors) stamps
    by_me j q ne h = let a = apart_from j q ne h in made_by_another actor v.view.name took made q.view.names v.view.actors q.view.actors (a.names v.view.name mine.named) a.actors allowed

    length_is : length (history world) ≡ length (r.log ++ stamps)
    length_is =
        let a = ap length grown in let b = length-append (entries_of v.view.seen) made in let c = length-entries_of v.view.seen in
        let d = length-stamped actor v.view.name took made in let e = ap length stands.1 in let f = length-append r.log stamps in omega arith

    rooms_less : (k : Measure) → rooms k (set s.views id w) + amount k took ≡ rooms k s.views
    rooms_less k =
        let all = total-set (λ p. amount k p.view.room) s.views id v w at in
        let left = amount-less k v.view.room took in let enough = within k took v.view.room fits in omega arith

    had_is : (k : Measure) → amount k (unwrap_or v.view.turn no_room) ≡ amount k has_it.away.had
    had_is k = ap (λ (x : Known E O). amount k (unwrap_or x.view.turn no_room)) has_it.pass ∙ ap (λ (o : Option Room). amount k (unwrap_or o no_room)) has_it.away.turn

    counts_one : (cs : List (ℕ × Option W)) → Lawful (stepped s 2 (length (history world)) id cs w keeps)
    counts_one cs = moves history actor spare comes opening start s r id v at live (Counted ticket) (v.view.seen ++ stamps) (less v.view.room took) (Some (spare world)) tt
        (λ j q ne h n its qs. (apart_from j q ne h).tickets n (ticket_is ∙ its) qs)
        r.drawn r.served (r.log ++ stamps) (set s.words 2 (length (history world))) s.homes
        (ap (λ l. set l 2 (length (history world))) r.words ∙ ap (λ n. r.drawn ∷ r.served ∷ n ∷ []) length_is)
        (subst (λ l. OthersAdd actor v.view.names v.view.actors (v.view.seen ++ stamps) (l ++ stamps)) stands.1 (OthersAdd-same actor v.view.names v.view.actors (v.view.seen ++ stamps)))
        (stands.0, ap (λ l. l ++ stamps) stands.1)
        (λ j q ne h. let k = r.sound j q h in record {
          opened = k.opened;
          named = k.named;
          shared = k.shared;
          goes_on = OthersAdd-more actor q.view.names q.view.actors q.view.seen r.log stamps k.goes_on (by_me j q ne h);
          stands = stands_on actor r.drawn r.log stamps q.view q.stage (others_are_in s r id v has_it j q ne h.0) (by_me j q ne h) k.stands;
        })
        (All-append (IsNamed history actor spare comes opening start s.views) r.log stamps r.made
        (All-stamped (IsNamed history actor spare comes opening start s.views) (λ e. may_make v.view.actors (actor e) ≡ true) v.view.name took made (λ e n may. (id, v, (at, live), mine.named)) allowed))
        (λ k. let a = rooms_less k in let b = taken-append k r.log stamps in let c = taken-stamped k v.view.name took made in let d = r.in_room k in omega arith)
        (inr record {
          holder = id;
          pass = w;
          had = spare world;
          there = set_here s.views id w (at_inside s.views id v at);
          out = refl;
          ticket = sym ticket_is ∙ has_it.ticket;
          turn = refl;
          empty = has_it.away.empty;
          has_room = λ k. let a = rooms_less k in let b = has_it.away.has_room k in let c = had_is k in let d = amount-less k (unwrap_or v.view.turn no_room) (spare world) in omega arith;
          alone = λ j q p o. ⊎_elim (λ (x : (j ≡ id) × (w ≡ q)). x.0) (λ (x : (j ≢ id) × (get_elem? s.views j ≡ some q)). has_it.away.alone j q x.1 o ∙ sym has_it.holder) (at_set s.views id j w q p);
        })

  pub counts : (slots id t : ℕ) (me : M) (world : W) → me.0.stage ≡ Out t → me.1 ≡ (0, Some world) ∷ []
      → history world ≡ entries_of me.0.view.seen ++ made_since me.0.view.seen (history world)
      → IsWithinRoom (less (unwrap_or me.0.view.turn no_room) (spare world)) me.0.view.room
      → All (λ e. may_make me.0.view.actors (actor e) ≡ true) (made_since me.0.view.seen (history world))
      → Allows Lawful slots id me 2 (λ _. length (history world)) (λ _ m. CountsMade history spare me m)
  counts slots id t me world out hand grown fits allowed s r _ at _ =
      let v : Known E O = me.0 in (
        counted_known (made_since v.view.seen (history world)) (spare world) v,
        keeps,
        tt,
        counts_one s r id t v world at out grown fits allowed me.1,
        record {
          after = λ other its. let same : world ≡ other = (let e : ◌≡◌ {A = List (ℕ × Option W)} ((0, Some world) ∷ []) ((0, Some other) ∷ []) = sym hand ∙ its in ap (in_hand_or world) e) in
              ap (λ (x : W). (counted_known (made_since v.view.seen (history x)) (spare x) v, me.1)) same;
          named = (r.sound id v (at, subst IsLive (sym out) tt)).named;
        },
      )

  -- the value is given back, and the next ticket served
  serves_one : (s : St) (r : Lawful s) (id t : ℕ) (v : Known E O) (world : W) (at : get_elem? s.views id ≡ some v) → v.stage ≡ Counted t → history world ≡ entries_of v.view.seen → IfSome v.view.opening (comes world)
      → v.view.turn ≡ Some (spare world) → Lawful (stepped s 1 ((get_or s.words 1 0 + 1) % 2 ^ 64) id ((0, Some world) ∷ []) (pass_moved v Rest v.view.seen v.view.room None) gives)
  serves_one s r id t v world at out told opened turn =
      let live : IsLive v.stage = subst IsLive (sym out) tt in
      let mine = r.sound id v (at, live) in
      let h : IsDrawn r.drawn t × (v.view.seen ≡ r.log) = subst (HoldsAtStage actor r.drawn r.log v.view) out mine.stands in
      let m = is_mine s r id v at (ap has_world_out out) in
      let w : Known E O = pass_moved v Rest v.view.seen v.view.room None in
      let now : get_or s.words 1 0 ≡ r.served = ap (λ l. get_or l 1 0) r.words in
      let is : t ≡ r.served = (let e : Some t ≡ Some r.served = sym (ap ticket_of out) ∙ m.ticket in cc) in
      let last : t + 1 < 2 ^ 64 = h.0.1 in
      let next : (get_or s.words 1 0 + 1) % 2 ^ 64 ≡ r.served + 1 = (let fits : get_or s.words 1 0 + 1 < 2 ^ 64 = omega arith in mod-eq_of_lt fits ∙ ap (λ n. n + 1) now) in
      let same : (k : Measure) → amount k v.view.room ≡ amount k v.view.room = λ k. refl in
      let kept : (k : Measure) → rooms k (set s.views id w) ≡ rooms k s.views = rooms_stay history actor spare comes opening start s r id v at live Rest v.view.seen v.view.room None same in
      let had_is : (k : Measure) → amount k (spare world) ≡ amount k m.away.had =
      λ k. ap (λ (o : Option Room). amount k (unwrap_or o no_room)) (sym turn ∙ (ap (λ (x : Known E O). x.view.turn) m.pass ∙ m.away.turn)) in
      moves history actor spare comes opening start s r id v at live Rest v.view.seen v.view.room None tt
      (λ j q ne k n its qs. cc)
      r.drawn (r.served + 1) r.log (set s.words 1 ((get_or s.words 1 0 + 1) % 2 ^ 64)) (set s.homes 0 (some (Some world)))
      (ap (λ l. set l 1 ((get_or s.words 1 0 + 1) % 2 ^ 64)) r.words ∙ ap (λ n. r.drawn ∷ n ∷ length r.log ∷ []) next)
      mine.goes_on
      tt
      (λ j q ne k. r.sound j q k)
      r.made
      (λ k. let e = kept k in let b = r.in_room k in omega arith)
      (inl record {
        world = world;
        in_slot = ap (λ l. set l 0 (some (Some world))) m.away.empty;
        told = told ∙ ap entries_of h.1;
        opened = subst (λ o. IfSome o (comes world)) mine.opened opened;
        has_room = λ k. let e = kept k in let b = m.away.has_room k in let c = had_is k in omega arith;
        none_out = λ j q p. ⊎_elim (λ (x : (j ≡ id) × (w ≡ q)). subst (λ (y : Known E O). has_world_out y.stage ≡ false) x.1 refl) (λ (x : (j ≢ id) × (get_elem? s.views j ≡ some q)). others_are_in s r id v m j q x.0 x.1) (at_set s.views id j w q p);
      })

  serves_in_hand : (slots id t : ℕ) (v : Known E O) (world : W) → v.stage ≡ Counted t → history world ≡ entries_of v.view.seen → IfSome v.view.opening (comes world) → v.view.turn ≡ Some (spare world)
      → Allows Lawful slots id (v, (0, Some world) ∷ []) 1 (λ n. (n + 1) % 2 ^ 64) (λ _ m. Serves (v, (0, Some world) ∷ []) m)
  serves_in_hand slots id t v world out told opened turn s r _ at _ = (pass_moved v Rest v.view.seen v.view.room None, gives, tt, serves_one s r id t v world at out told opened turn, refl)

  pub serves : (slots id t : ℕ) (me : M) (world : W) → me.0.stage ≡ Counted t → me.1 ≡ (0, Some world) ∷ [] → history world ≡ entries_of me.0.view.seen → IfSome me.0.view.opening (comes world)
      → me.0.view.turn ≡ Some (spare world) → Allows Lawful slots id me 1 (λ n. (n + 1) % 2 ^ 64) (λ _ m. Serves me m)
  serves slots id t me world out hand told opened turn =
      let Given : List (ℕ × Option W) → Type 0 = λ cs. Allows Lawful slots id (me.0, cs) 1 (λ n. (n + 1) % 2 ^ 64) (λ _ m. Serves (me.0, cs) m) in
      subst Given (sym hand) (serves_in_hand slots id t me.0 world out told opened turn)
