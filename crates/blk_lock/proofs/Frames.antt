-- A step of one pass keeps the rule: what has to be shown of that pass, and what stays.
use Rattle.std.proofs.Common.{◌≡◌, ◌≢◌, ℕ, ◌+◌, ◌≤◌, true, false, List, [], ◌∷◌, length, get_or, set, All, Option, Some, ◌⊎◌, inl, inr, ⊎_elim, sym, ap, ◌∙◌, subst, arith}
use mathlib.Core.Option.{none, some, some-injective, some-ne-none}
use lib.ListN.{get_elem?}
use lib.Seq.{set-get_or}
use Rattle.atomic_table.specs.Table.{State, keeps, stepped}
use Rattle.atomic_table.proofs.Lists.{at_set, set_again, set_else}
use Rattle.blk_base.specs.declared.memory.Room.{Room}
use Rattle.blk_lock.specs.declared.known.Stamped.{Stamped}
use Rattle.blk_lock.specs.declared.known.Known.{Known}
use Rattle.blk_lock.specs.declared.known.Stage.{Stage}
use Rattle.blk_lock.specs.Rooms.{Measure, amount}
use Rattle.blk_lock.specs.Stamps.{is_among, room_taken, OthersAdd}
use Rattle.blk_lock.specs.Stages.{IsLive, ticket_of, has_world_out}
use Rattle.blk_lock.specs.Order.{HoldsAtStage, MayGive, IsSoundPass, AreApart, Has, rooms, IsHome, IsAway, InOrder}
use Rattle.blk_lock.proofs.Tests.{not_both}
use Rattle.blk_lock.proofs.Histories.{All-then}
use Rattle.blk_lock.proofs.Passes.{total-set, pass_moved, AreApart-sym, on_each, on_pairs, on_all_pairs, makers_stay}

module _ {W E O : Type 0} (history : W → List E) (actor : E → Option ℕ) (spare : W → Room) (comes : W → O → Type 0) (opening : O) (start : Room) where
  abbrev pub St : Type 0
  St = State (Option W) (Known E O)

  abbrev pub Rule : St → Type 0
  Rule = InOrder history actor spare comes opening start

  abbrev pub Place : ℕ → List (Stamped E) → List (mathlib.Core.Option.Option (Option W)) → List (Known E O) → Type 0
  Place served log homes passes = IsHome history spare comes opening log homes passes ⊎ IsAway served homes passes

  -- the maker of an entry is named by a pass
  abbrev pub IsNamed : List (Known E O) → Stamped E → Type 0
  IsNamed passes m = (i : ℕ) × (p : Known E O) × Has passes i p × (is_among p.view.names m.maker ≡ true)

  -- nothing changed
  pub unmoved : (s : St) → Rule s → (i id : ℕ) (cs : List (ℕ × Option W)) (v : Known E O) → get_elem? s.views id ≡ some v → Rule (stepped s i (get_or s.words i 0) id cs v keeps)
  unmoved s r i id cs v at =
      let same_words : set s.words i (get_or s.words i 0) ≡ s.words = set-get_or s.words i 0 in
      let same_views : set s.views id v ≡ s.views = set_again s.views id v at in
      subst (λ (z : List ℕ × List (Known E O)). Rule record { words = z.0; homes = s.homes; views = z.1 }) (λ k. (sym same_words k, sym same_views k)) r

  module _ (s : St) (r : Rule s) (id : ℕ) (v : Known E O) (at : get_elem? s.views id ≡ some v) (live : IsLive v.stage) where
    here : Has s.views id v
    here = (at, live)

    module _ (stage : Stage E) (seen : List (Stamped E)) (room : Room) (turn : Option Room) where
      abbrev w : Known E O
      w = pass_moved v stage seen room turn

      -- its ticket is no other pass's
      abbrev pub IsOnly : Type 0
      IsOnly = (j : ℕ) (q : Known E O) → j ≢ id → Has s.views j q → (t : ℕ) → ticket_of stage ≡ Some t → ticket_of q.stage ≡ Some t → ⊥

      pub moves : IsLive stage → IsOnly
          → (drawn served : ℕ) (log : List (Stamped E)) (words : List ℕ) (homes : List (mathlib.Core.Option.Option (Option W)))
          → words ≡ drawn ∷ served ∷ length log ∷ []
          → OthersAdd actor v.view.names v.view.actors seen log
          → HoldsAtStage actor drawn log w.view stage
          → ((j : ℕ) (q : Known E O) → j ≢ id → Has s.views j q → IsSoundPass actor opening drawn log q)
          → All (IsNamed s.views) log
          → ((k : Measure) → rooms k (set s.views id w) + room_taken k log ≤ amount k start)
          → Place served log homes (set s.views id w)
          → Rule record { words = words; homes = homes; views = set s.views id w }
      moves is_live only drawn served log words homes words_are goes_on stands others named in_room place =
          let mine = r.sound id v here in record {
            drawn = drawn;
            served = served;
            log = log;
            words = words_are;
            sound = on_each s.views id w (IsSoundPass actor opening drawn log) record { opened = mine.opened; named = mine.named; shared = mine.shared; goes_on = goes_on; stands = stands } others;
            apart = on_pairs s.views id w AreApart
                (λ j q ne h. let a = r.apart id j v q (λ e. ne (sym e)) here h in record { names = a.names; actors = a.actors; tickets = only j q ne h })
                AreApart-sym r.apart;
            unnamed = on_all_pairs s.views id w (λ p q. (n : List ℕ) → is_among q.view.names n ≡ true → MayGive p.view n → ⊥)
                (r.unnamed id id v v here here)
                (λ j q ne h. (r.unnamed id j v q here h, r.unnamed j id q v h here))
                r.unnamed;
            made = All-then (IsNamed s.views) (IsNamed (set s.views id w)) (λ m. makers_stay s.views id w v at (λ n t. t) is_live m.maker) log named;
            shares = (let all = total-set (λ p. p.view.shares) s.views id v w at in let sum = r.shares in omega arith);
            in_room = in_room;
            place = place;
          }

      -- the rooms stay, where its own does
      pub rooms_stay : ((k : Measure) → amount k room ≡ amount k v.view.room) → (k : Measure) → rooms k (set s.views id w) ≡ rooms k s.views
      rooms_stay same k = let all = total-set (λ p. amount k p.view.room) s.views id v w at in let e = same k in omega arith

      -- the value stays where it is, where the pass does not have it
      pub stays : has_world_out v.stage ≡ false → has_world_out stage ≡ false → ((k : Measure) → amount k room ≡ amount k v.view.room) → Place r.served r.log s.homes s.views → Place r.served r.log s.homes (set s.views id w)
      stays was is same (inl h) = inl record {
        world = h.world;
        in_slot = h.in_slot;
        told = h.told;
        opened = h.opened;
        has_room = λ k. let e = rooms_stay same k in let b = h.has_room k in omega arith;
        none_out = λ j q p. ⊎_elim (λ (t : (j ≡ id) × (w ≡ q)). subst (λ (x : Known E O). has_world_out x.stage ≡ false) t.1 is) (λ (t : (j ≢ id) × (get_elem? s.views j ≡ some q)). h.none_out j q t.1) (at_set s.views id j w q p);
      }
      stays was is same (inr a) =
          let ne : a.holder ≢ id = λ e. not_both (has_world_out v.stage) (subst (λ (x : Known E O). has_world_out x.stage ≡ true) (some-injective a.pass v (sym a.there ∙ (ap (get_elem? s.views) e ∙ at))) a.out) was in
          inr record {
            holder = a.holder;
            pass = a.pass;
            had = a.had;
            there = set_else s.views id a.holder w ne ∙ a.there;
            out = a.out;
            ticket = a.ticket;
            turn = a.turn;
            empty = a.empty;
            has_room = λ k. let e = rooms_stay same k in let b = a.has_room k in omega arith;
            alone = λ j q p o. ⊎_elim (λ (t : (j ≡ id) × (w ≡ q)). not_both (has_world_out q.stage) o (subst (λ (x : Known E O). has_world_out x.stage ≡ false) t.1 is)) (λ (t : (j ≢ id) × (get_elem? s.views j ≡ some q)). a.alone j q t.1 o) (at_set s.views id j w q p);
          }
