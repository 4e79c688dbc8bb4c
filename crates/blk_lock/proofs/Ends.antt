-- The rule holds at the start, and what it says at the end.
use Rattle.std.proofs.Common.{◌≡◌, ℕ, zero, suc, ◌≤◌, true, false, List, [], ◌∷◌, ◌++◌, map, All, Option, Some, IfSome, inl, ⊎_elim, refl, sym, ap, ◌∙◌, subst, arith, append-nil}
use Rattle.std.proofs.lemmas.List.Elements.{All-nil, All-head}
use Rattle.std.specs.List.{enumerate_from}
use mathlib.Core.Option.{some, some-injective, some-ne-none}
use mathlib.Core.Logic.{dite}
use native.Mathlib.Decide.{ℕ_discrete}
use lib.ListN.{get_elem?}
use Rattle.atomic_table.specs.Table.{State, Final, Seen}
use Rattle.blk_base.specs.declared.memory.Room.{Room}
use Rattle.blk_lock.specs.declared.known.Stamped.{Stamped}
use Rattle.blk_lock.specs.declared.known.Known.{Known}
use Rattle.blk_lock.specs.declared.known.Stage.TheVariants.{Rest}
use Rattle.blk_lock.specs.Rooms.{Measure, in_entries, in_bytes, amount, IsWithinRoom}
use Rattle.blk_lock.specs.Stamps.{is_among, entries_of, made_by, IsOthers}
use Rattle.blk_lock.specs.Stages.{IsLive, has_world_out}
use Rattle.blk_lock.specs.Order.{MayGive, IsSoundPass, Has, IsHome, first_known}
use Rattle.blk_lock.proofs.Tests.{not_both, is_among-one}
use Rattle.blk_lock.proofs.Histories.{All-then, All-later, OthersAdd-same}
use Rattle.blk_lock.proofs.Made.{made_from-all}
use Rattle.blk_lock.proofs.Passes.{total-at, total-two, out_is_live}
use Rattle.blk_lock.proofs.Frames.{Rule, IsNamed}

at_one : {X : Type 0} (x y : X) (i : ℕ) → get_elem? (x ∷ []) i ≡ some y → (i ≡ 0) × (x ≡ y)
at_one x y zero at = (refl, some-injective x y at)
at_one x y (suc i) at = absurd (some-ne-none y (sym at))

module _ {X : Type 0} where
  none_of_both : (P Q : X → Type 0) → ((x : X) → P x → Q x → ⊥) → (xs : List X) → All P xs → All Q xs → xs ≡ []
  none_of_both P Q not [] p q = refl
  none_of_both P Q not (x ∷ xs) p q = absurd (not x (All-head P x xs p) (All-head Q x xs q))

module _ {W E O : Type 0} (history : W → List E) (spare : W → Room) (comes : W → O → Type 0) where
  -- all that the value has is the pass's own
  pub record IsAllOwn (v : Known E O) (world : W) : Type 0 where
    pub told : history world ≡ entries_of v.view.seen
    pub opened : IfSome v.view.opening (comes world)
    pub made : made_by v.view.names v.view.seen ≡ enumerate_from 0 (history world)
    pub room : IsWithinRoom v.view.room (spare world)

  pub whole_as : (v : Known E O) (taken : Option W) (world x : W) → taken ≡ Some world → taken ≡ Some x → IsAllOwn v world → IsAllOwn v x
  whole_as v taken world x is its h = let same : world ≡ x = (let e : Some world ≡ Some x = sym is ∙ its in cc) in subst (IsAllOwn v) same h

module _ {W E O : Type 0} (history : W → List E) (actor : E → Option ℕ) (spare : W → Room) (comes : W → O → Type 0) (opening : O) where
  abbrev St : Type 0
  St = State (Option W) (Known E O)

  -- the rule holds of a lock that was just made
  pub begins : (world : W) → history world ≡ [] → comes world opening
      → Rule history actor spare comes opening (spare world) record { words = 0 ∷ 0 ∷ 0 ∷ []; homes = map some (Some world ∷ []); views = first_known opening (spare world) ∷ [] }
  begins world empty opened =
      let first : Known E O = first_known opening (spare world) in
      let one : (P : Known E O → Type 0) → P first → (i : ℕ) (p : Known E O) → Has (first ∷ []) i p → P p = λ P h i p has. subst P (at_one first p i has.0).1 h in record {
        drawn = 0;
        served = 0;
        log = [];
        words = refl;
        sound = one (IsSoundPass actor opening 0 []) record { opened = refl; named = refl; shared = omega arith; goes_on = OthersAdd-same actor ([] ∷ []) first.view.actors []; stands = tt };
        apart = λ i j p q ne hi hj. absurd (ne ((at_one first p i hi.0).0 ∙ sym (at_one first q j hj.0).0));
        unnamed = λ i j p q hi hj. let a = (at_one first p i hi.0).1 in let b = (at_one first q j hj.0).1 in
            subst (λ (x : Known E O × Known E O). (n : List ℕ) → is_among x.1.view.names n ≡ true → MayGive x.0.view n → ⊥) (λ k. (a k, b k))
            (λ n is g. let e : ◌≡◌ {A = List ℕ} [] (g.0 ∷ g.1) = is_among-one n [] is ∙ g.3 in cc);
        made = All-nil (IsNamed history actor spare comes opening (spare world) (first ∷ []));
        shares = refl;
        in_room = λ k. omega arith;
        place = inl record {
          world = world;
          in_slot = refl;
          told = empty;
          opened = opened;
          has_room = λ k. omega arith;
          none_out = λ i p at. subst (λ (x : Known E O). has_world_out x.stage ≡ false) (at_one first p i at).1 refl;
        };
      }

  module _ (start : Room) where
    abbrev Lawful : St → Type 0
    Lawful = Rule history actor spare comes opening start

    module _ (s : St) (r : Lawful s) (id : ℕ) (v : Known E O) (at : get_elem? s.views id ≡ some v) (rest : v.stage ≡ Rest) (all : v.view.shares ≡ 1024) where
      here : Has s.views id v
      here = (at, subst IsLive (sym rest) tt)

      -- there is no other pass
      alone : (j : ℕ) (q : Known E O) → Has s.views j q → j ≡ id
      alone j q h = dite (ℕ_discrete j id) (λ e. e)
          (λ ne. let two = total-two (λ p. p.view.shares) s.views id j v q (λ e. ne (sym e)) at h.0 in let some_share = (r.sound j q h).shared in let sum = r.shares in absurd (omega arith))

      mine : IsSoundPass actor opening r.drawn r.log v
      mine = r.sound id v here

      is_home : IsHome history spare comes opening r.log s.homes s.views
      is_home = ⊎_elim (λ h. h)
          (λ a. let same : id ≡ a.holder = sym (alone a.holder a.pass (a.there, out_is_live a.pass.stage a.out)) in
          not_both (has_world_out v.stage) (subst (λ (x : Known E O). has_world_out x.stage ≡ true) (some-injective a.pass v (sym a.there ∙ (ap (get_elem? s.views) (sym same) ∙ at))) a.out) (ap has_world_out rest))
          r.place

      all_mine : All (λ m. is_among v.view.names m.maker ≡ true) r.log
      all_mine = All-then (IsNamed history actor spare comes opening start s.views) (λ m. is_among v.view.names m.maker ≡ true)
          (λ m t. subst (λ (x : Known E O). is_among x.view.names m.maker ≡ true) (some-injective t.1 v (sym t.2.0 ∙ (ap (get_elem? s.views) (alone t.0 t.1 t.2) ∙ at))) t.3) r.log r.made

      none_left : mine.goes_on.rest ≡ []
      none_left =
          let Mine : Stamped E → Type 0 = λ m. is_among v.view.names m.maker ≡ true in
          none_of_both Mine (IsOthers actor v.view.names v.view.actors) (λ m a o. not_both (is_among v.view.names m.maker) a o.by_another) mine.goes_on.rest
          (All-later Mine v.view.seen mine.goes_on.rest (subst (All Mine) mine.goes_on.begins all_mine)) mine.goes_on.by_others

      seen_all : v.view.seen ≡ r.log
      seen_all = sym (mine.goes_on.begins ∙ ap (λ l. v.view.seen ++ l) none_left ∙ append-nil v.view.seen)

      room_fits : (k : Measure) → amount k v.view.room ≤ amount k (spare is_home.world)
      room_fits k = let part = total-at (λ p. amount k p.view.room) s.views id v at in let b = is_home.has_room k in omega arith

      told_all : history is_home.world ≡ entries_of v.view.seen
      told_all = is_home.told ∙ ap entries_of (sym seen_all)

      made_all : made_by v.view.names v.view.seen ≡ enumerate_from 0 (history is_home.world)
      made_all = made_from-all v.view.names 0 v.view.seen (subst (All (λ m. is_among v.view.names m.maker ≡ true)) (sym seen_all) all_mine) ∙ ap (enumerate_from 0) (sym told_all)

    -- what comes out of the slot at the end, where one pass has all shares
    pub ends : (id : ℕ) (v : Known E O) (words : List ℕ) (items : List (Option W)) (taken : Option W) → Final (Seen Lawful id v) words items → v.stage ≡ Rest → v.view.shares ≡ 1024 → get_elem? items 0 ≡ some taken
        → (world : W) × (taken ≡ Some world) × IsAllOwn history spare comes v world
    ends id v words items taken final rest all there =
        let s : St = final.0 in let r : Lawful s = final.1.0 in let at : get_elem? s.views id ≡ some v = final.1.1 in
        let h = is_home s r id v at rest all in (
          h.world,
          some-injective taken (Some h.world) (sym there ∙ final.4 0 (Some h.world) (ap (λ l. get_elem? l 0) h.in_slot)),
          record {
            told = told_all s r id v at rest all;
            opened = subst (λ o. IfSome o (comes h.world)) (sym (mine s r id v at rest all).opened) h.opened;
            made = made_all s r id v at rest all;
            room = (room_fits s r id v at rest all in_entries, room_fits s r id v at rest all in_bytes);
          },
        )
