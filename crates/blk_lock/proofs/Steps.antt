-- Each step on a word keeps the rule, and tells what its `Play` says: drawing, taking and looking.
use Rattle.std.proofs.Common.{◌≡◌, ◌≢◌, ℕ, ◌+◌, ◌<◌, ◌≤◌, ◌^◌, ◌==◌, true, false, List, get_or, set, Option, Some, IfSome, inr, ⊎_elim, refl, sym, ap, ◌∙◌, subst, arith}
use mathlib.Core.Option.{none, some, some-injective}
use mathlib.Core.Logic.{dite}
use native.Mathlib.Decide.{ℕ_discrete}
use lib.ListN.{get_elem?}
use prog.Atomic.{either}
use Rattle.atomic_table.specs.Table.{State, Me, Act, keeps, takes, Valid, Allows, step, stepped, carried_after}
use Rattle.atomic_table.proofs.Lists.{at_set, set_here, exchanged}
use Rattle.blk_base.specs.declared.memory.Room.{Room}
use Rattle.blk_lock.specs.declared.known.Stamped.{Stamped}
use Rattle.blk_lock.specs.declared.known.View.{View}
use Rattle.blk_lock.specs.declared.known.Known.{Known}
use Rattle.blk_lock.specs.declared.known.Stage.{Stage}
use Rattle.blk_lock.specs.declared.known.Stage.TheVariants.{Spent, Fresh, Joined, Rest, Waiting, Out, Counted}
use Rattle.blk_lock.specs.Rooms.{Measure, in_entries, in_bytes, amount}
use Rattle.blk_lock.specs.Stages.{IsLive, ticket_of, has_world_out}
use Rattle.blk_lock.specs.Order.{IsDrawn, HoldsAtStage, Has, rooms, IsHome, IsAway}
use Rattle.blk_lock.specs.Plays.{Draws, Watches, LooksAtHistory}
use Rattle.blk_lock.proofs.Tests.{not_both}
use Rattle.blk_lock.proofs.Histories.{OthersAdd-same}
use Rattle.blk_lock.proofs.Passes.{total-at, pass_moved, out_is_live, at_inside}
use Rattle.blk_lock.proofs.Frames.{Rule, unmoved, moves, stays, rooms_stay}

more_drawn : (drawn drawn' t : ℕ) → drawn ≤ drawn' → IsDrawn drawn t → IsDrawn drawn' t
more_drawn drawn drawn' t le h = let lt : t < drawn = h.0 in (omega arith, h.1)

module _ {E O : Type 0} where
  -- a ticket that a pass has was drawn
  pub ticket_drawn : (actor : E → Option ℕ) (drawn : ℕ) (log : List (Stamped E)) (v : View E O) (s : Stage E) (t : ℕ) → HoldsAtStage actor drawn log v s → ticket_of s ≡ Some t → t < drawn
  ticket_drawn actor drawn log v Spent t h e = cc
  ticket_drawn actor drawn log v Fresh t h e = cc
  ticket_drawn actor drawn log v (Joined l r) t h e = cc
  ticket_drawn actor drawn log v Rest t h e = cc
  ticket_drawn actor drawn log v (Waiting u) t h e = let same : u ≡ t = cc in let lt : u < drawn = h.0 in omega arith
  ticket_drawn actor drawn log v (Out u) t h e = let same : u ≡ t = cc in let lt : u < drawn = h.0.0 in omega arith
  ticket_drawn actor drawn log v (Counted u) t h e = let same : u ≡ t = cc in let lt : u < drawn = h.0.0 in omega arith

  -- what holds of a pass stays so when more tickets are drawn
  stands_more : (actor : E → Option ℕ) (drawn drawn' : ℕ) (log : List (Stamped E)) (v : View E O) (s : Stage E) → drawn ≤ drawn' → HoldsAtStage actor drawn log v s → HoldsAtStage actor drawn' log v s
  stands_more actor drawn drawn' log v Spent le h = tt
  stands_more actor drawn drawn' log v Fresh le h = h
  stands_more actor drawn drawn' log v (Joined l r) le h = h
  stands_more actor drawn drawn' log v Rest le h = tt
  stands_more actor drawn drawn' log v (Waiting t) le h = more_drawn drawn drawn' t le h
  stands_more actor drawn drawn' log v (Out t) le h = (more_drawn drawn drawn' t le h.0, h.1)
  stands_more actor drawn drawn' log v (Counted t) le h = (more_drawn drawn drawn' t le h.0, h.1)

module _ {W E O : Type 0} (history : W → List E) (actor : E → Option ℕ) (spare : W → Room) (comes : W → O → Type 0) (opening : O) (start : Room) where
  abbrev St : Type 0
  St = State (Option W) (Known E O)

  abbrev M : Type 0
  M = Me (Option W) (Known E O)

  abbrev Lawful : St → Type 0
  Lawful = Rule history actor spare comes opening start

  -- a ticket is drawn
  draws_one : (s : St) (r : Lawful s) (id old : ℕ) (v : Known E O) (cs : List (ℕ × Option W)) → get_elem? s.views id ≡ some v → v.stage ≡ Rest → old + 1 < 2 ^ 64 → get_or s.words 0 0 ≡ old
      → Lawful (stepped s 0 (old + 1) id cs (record v { stage = Waiting old }) keeps)
  draws_one s r id old v cs at rest below hit =
      let live : IsLive v.stage = subst IsLive (sym rest) tt in
      let now : get_or s.words 0 0 ≡ r.drawn = ap (λ l. get_or l 0 0) r.words in
      let drawn : r.drawn ≡ old = sym now ∙ hit in
      let same : (k : Measure) → amount k v.view.room ≡ amount k v.view.room = λ k. refl in
      moves history actor spare comes opening start s r id v at live (Waiting old) v.view.seen v.view.room v.view.turn tt
      (λ j q ne h t mine its. let lt : t < r.drawn = ticket_drawn actor r.drawn r.log q.view q.stage t (r.sound j q h).stands its in let is : old ≡ t = cc in absurd (omega arith))
      (old + 1) r.served r.log (set s.words 0 (old + 1)) s.homes
      (ap (λ l. set l 0 (old + 1)) r.words)
      (r.sound id v (at, live)).goes_on
      (omega arith, below)
      (λ j q ne h. let k = r.sound j q h in record { opened = k.opened; named = k.named; shared = k.shared; goes_on = k.goes_on; stands = stands_more actor r.drawn (old + 1) r.log q.view q.stage (omega arith) k.stands })
      r.made
      (λ k. let e = rooms_stay history actor spare comes opening start s r id v at live (Waiting old) v.view.seen v.view.room v.view.turn same k in let b = r.in_room k in omega arith)
      (stays history actor spare comes opening start s r id v at live (Waiting old) v.view.seen v.view.room v.view.turn (ap has_world_out rest) refl same r.place)

  pub draws : (slots id : ℕ) (me : M) (old : ℕ) → me.0.stage ≡ Rest → old + 1 < 2 ^ 64 → Allows Lawful slots id me 0 (λ n. either (n == old) (old + 1) n) (Draws (step slots 0 old (old + 1) none) me)
  draws slots id me old rest below s r _ at _ =
      let n : ℕ = get_or s.words 0 0 in
      let Told : ℕ → Type 0 = λ n'. (w : Known E O) × (a : Act (Option W)) × Valid s.homes me.1 a × Lawful (stepped s 0 n' id me.1 w a) × Draws (step slots 0 old (old + 1) none) me n (w, carried_after me.1 a) in
      exchanged n old (old + 1) Told
      (λ hit. (record me.0 { stage = Waiting old }, keeps, tt, draws_one s r id old me.0 me.1 at rest below hit, record { drawn = λ _. refl; missed = λ ne. absurd (ne hit) }))
      (λ miss. (me.0, keeps, tt, unmoved history actor spare comes opening start s r 0 id me.1 me.0 at, record { drawn = λ e. absurd (miss e); missed = λ _. refl }))

  -- the history so far is seen
  pub looks : (slots id : ℕ) (me : M) → me.0.stage ≡ Rest → Allows Lawful slots id me 2 (λ n. n) (λ n m. LooksAtHistory actor me n m)
  looks slots id me rest s r _ at _ =
      let v : Known E O = me.0 in
      let live : IsLive v.stage = subst IsLive (sym rest) tt in
      let mine = r.sound id v (at, live) in
      let same : (k : Measure) → amount k v.view.room ≡ amount k v.view.room = λ k. refl in (
        record v { view = record v.view { seen = r.log } },
        keeps,
        tt,
        moves history actor spare comes opening start s r id v at live v.stage r.log v.view.room v.view.turn live
            (λ j q ne h t its qs. (r.apart id j v q (λ e. ne (sym e)) (at, live) h).tickets t its qs)
            r.drawn r.served r.log (set s.words 2 (get_or s.words 2 0)) s.homes
            (ap (λ l. set l 2 (get_or l 2 0)) r.words)
            (OthersAdd-same actor v.view.names v.view.actors r.log)
            (subst (HoldsAtStage actor r.drawn r.log (record v.view { seen = r.log })) (sym rest) tt)
            (λ j q ne h. r.sound j q h)
            r.made
            (λ k. let e = rooms_stay history actor spare comes opening start s r id v at live v.stage r.log v.view.room v.view.turn same k in let b = r.in_room k in omega arith)
            (stays history actor spare comes opening start s r id v at live v.stage r.log v.view.room v.view.turn (ap has_world_out rest) (ap has_world_out rest) same r.place),
        record { seen = r.log; after = refl; found_all = ap (λ l. get_or l 2 0) r.words; others = mine.goes_on },
      )

  -- the value is at home where the ticket that is served is that of a waiting pass
  served_home : (s : St) (r : Lawful s) (id n : ℕ) (v : Known E O) → Has s.views id v → has_world_out v.stage ≡ false → ticket_of v.stage ≡ Some n → r.served ≡ n → IsAway r.served s.homes s.views → ⊥
  served_home s r id n v has in_wait ticket now a =
      let ne : id ≢ a.holder = λ e. not_both (has_world_out v.stage) (subst (λ (x : Known E O). has_world_out x.stage ≡ true) (some-injective a.pass v (sym a.there ∙ (ap (get_elem? s.views) (sym e) ∙ has.0))) a.out) in_wait in
      (r.apart id a.holder v a.pass ne has (a.there, out_is_live a.pass.stage a.out)).tickets n ticket (a.ticket ∙ ap (λ (t : ℕ). Some t) now)

  takes_one : (s : St) (r : Lawful s) (id n : ℕ) (v : Known E O) (cs : List (ℕ × Option W)) (at : get_elem? s.views id ≡ some v) → v.stage ≡ Waiting n → get_or s.words 1 0 ≡ n
      → (h : IsHome history spare comes opening r.log s.homes s.views)
      → Lawful (stepped s 1 (get_or s.words 1 0) id cs (pass_moved v (Out n) r.log v.view.room (Some (spare h.world))) (takes 0 (Some h.world)))
  takes_one s r id n v cs at waits now h =
      let live : IsLive v.stage = subst IsLive (sym waits) tt in
      let mine = r.sound id v (at, live) in
      let served : r.served ≡ n = sym (ap (λ l. get_or l 1 0) r.words) ∙ now in
      let same : (k : Measure) → amount k v.view.room ≡ amount k v.view.room = λ k. refl in
      let turn : Option Room = Some (spare h.world) in
      let w : Known E O = pass_moved v (Out n) r.log v.view.room turn in
      let kept : (k : Measure) → rooms k (set s.views id w) ≡ rooms k s.views = rooms_stay history actor spare comes opening start s r id v at live (Out n) r.log v.view.room turn same in
      moves history actor spare comes opening start s r id v at live (Out n) r.log v.view.room turn tt
      (λ j q ne k t its qs. (r.apart id j v q (λ e. ne (sym e)) (at, live) k).tickets t (ap ticket_of waits ∙ its) qs)
      r.drawn r.served r.log (set s.words 1 (get_or s.words 1 0)) (set s.homes 0 none)
      (ap (λ l. set l 1 (get_or l 1 0)) r.words)
      (OthersAdd-same actor v.view.names v.view.actors r.log)
      (subst (HoldsAtStage actor r.drawn r.log v.view) waits mine.stands, refl)
      (λ j q ne k. r.sound j q k)
      r.made
      (λ k. let e = kept k in let b = r.in_room k in omega arith)
      (inr record {
        holder = id;
        pass = w;
        had = spare h.world;
        there = set_here s.views id w (at_inside s.views id v at);
        out = refl;
        ticket = ap (λ (t : ℕ). Some t) (sym served);
        turn = refl;
        empty = ap (λ l. set l 0 none) h.in_slot;
        has_room = λ k. let e = kept k in let b = h.has_room k in omega arith;
        alone = λ j q p o. ⊎_elim (λ (t : (j ≡ id) × (w ≡ q)). t.0) (λ (t : (j ≢ id) × (get_elem? s.views j ≡ some q)). not_both (has_world_out q.stage) o (h.none_out j q t.1)) (at_set s.views id j w q p);
      })

  room_for : (s : St) (id : ℕ) (v : Known E O) (world : W) → get_elem? s.views id ≡ some v → ((k : Measure) → rooms k s.views ≤ amount k (spare world)) → (k : Measure) → amount k v.view.room ≤ amount k (spare world)
  room_for s id v world at all k = let part = total-at (λ p. amount k p.view.room) s.views id v at in let b = all k in omega arith

  pub watches : (slots id ticket : ℕ) (me : M) → me.0.stage ≡ Waiting ticket → Allows Lawful slots id me 1 (λ n. n) (λ n m. Watches history actor spare comes me n m)
  watches slots id ticket me waits s r _ at _ =
      let v : Known E O = me.0 in
      let n : ℕ = get_or s.words 1 0 in
      let live : IsLive v.stage = subst IsLive (sym waits) tt in
      let mine = r.sound id v (at, live) in
      dite (ℕ_discrete n ticket)
      (λ now. let its : v.stage ≡ Waiting n = waits ∙ ap (λ (t : ℕ). Waiting t) (sym now) in
      let served : r.served ≡ n = sym (ap (λ l. get_or l 1 0) r.words) in
      let h : IsHome history spare comes opening r.log s.homes s.views = ⊎_elim (λ h. h) (λ a. absurd (served_home s r id n v (at, live) (ap has_world_out waits) (ap ticket_of its) served a)) r.place in (
        pass_moved v (Out n) r.log v.view.room (Some (spare h.world)),
        takes 0 (Some h.world),
        ap (λ l. get_elem? l 0) h.in_slot,
        takes_one s r id n v me.1 at its refl h,
        record {
          served = λ _. record {
            world = h.world;
            taken = record {
              seen = r.log;
              after = refl;
              told = h.told;
              opened = subst (λ o. IfSome o (comes h.world)) (sym mine.opened) h.opened;
              room = (room_for s id v h.world at h.has_room in_entries, room_for s id v h.world at h.has_room in_bytes);
              others = mine.goes_on;
            };
            in_hand = refl;
          };
          missed = λ ne. absurd (ne (ap ticket_of its));
        },
      ))
      (λ other. (
        v,
        keeps,
        tt,
        unmoved history actor spare comes opening start s r 1 id me.1 v at,
        record {
          served = λ is. absurd (other (let e : Some ticket ≡ Some n = sym (ap ticket_of waits) ∙ is in cc));
          missed = λ _. refl;
        },
      ))
