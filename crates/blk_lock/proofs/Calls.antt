-- What the calls put together from the steps that they make.
use Rattle.std.proofs.Common.{◌≡◌, ℕ, ◌+◌, ◌%◌, ◌^◌, true, List, [], ◌∷◌, ◌++◌, length, All, Contains, ◌↔◌, ◌⊎◌, Option, Some, None, IfSome, IsSomeAnd, unwrap_or, arith, ◌-◌, ◌≤◌, refl, sym, ap, ◌∙◌, subst}
use Rattle.std.specs.List.{enumerate_from}
use Rattle.atomic_table.specs.Table.{State, Me, Allows, rest}
use Rattle.blk_base.specs.declared.memory.Room.{Room}
use Rattle.blk_lock.specs.declared.known.Stamped.{Stamped}
use Rattle.blk_lock.specs.declared.known.View.{View}
use Rattle.blk_lock.specs.declared.known.Known.{Known}
use Rattle.blk_lock.specs.declared.known.Stage.{Stage}
use Rattle.blk_lock.specs.declared.known.Stage.TheVariants.{Spent, Fresh, Joined, Rest, Waiting, Out, Counted}
use Rattle.blk_lock.specs.Rooms.{no_room, less, IsWithinRoom}
use Rattle.blk_lock.specs.Stamps.{is_among, may_make, entries_of, stamped, made_by, OthersAdd}
use Rattle.blk_lock.specs.Stages.{is_at_rest_or_out, ticket_of}
use Rattle.blk_lock.specs.Views.{mine}
use Rattle.blk_lock.specs.Order.{HaveNoneInCommon}
use Rattle.blk_lock.specs.Plays.{longer, side_of, joined_known, Joins, made_since, after_put, counted_known, HasTaken, CountsMade, Serves}
use Rattle.blk_lock.proofs.Made.{made_by-append, made_by-stamped, entries_of-stamped, entries_of-append}
use Rattle.blk_lock.proofs.Frames.{Rule}
use Rattle.blk_lock.proofs.Puts.{counts, serves}

-- the first value in hand
abbrev pub in_hand_first : {W : Type 0} → List (ℕ × Option W) → Option W
in_hand_first [] = None
in_hand_first (x ∷ xs) = x.1

pub taken_out : {W : Type 0} (hand : List (ℕ × Option W)) (x y : Option W) → hand ≡ (0, x) ∷ [] → hand ≡ (0, y) ∷ rest hand → y ≡ x
taken_out hand x y is its = sym (ap in_hand_first its) ∙ ap in_hand_first is

-- a pass rests where it has no turn out
pub rests : {E : Type 0} (turn : Option Room) (stage : Stage E) → is_at_rest_or_out turn stage ≡ true → turn ≡ None → stage ≡ Rest
rests None Rest fits e = refl
rests None Spent fits e = cc
rests None Fresh fits e = cc
rests None (Joined l r) fits e = cc
rests None (Waiting t) fits e = cc
rests None (Out t) fits e = cc
rests None (Counted t) fits e = cc
rests (Some had) stage fits e = cc

-- and has a ticket served where it has one out
pub is_out_with : {E : Type 0} (turn : Option Room) (had : Room) (stage : Stage E) → is_at_rest_or_out turn stage ≡ true → turn ≡ Some had → (t : ℕ) × (stage ≡ Out t)
is_out_with None had stage fits e = cc
is_out_with (Some r) had (Out t) fits e = (t, refl)
is_out_with (Some r) had Spent fits e = cc
is_out_with (Some r) had Fresh fits e = cc
is_out_with (Some r) had (Joined l x) fits e = cc
is_out_with (Some r) had Rest fits e = cc
is_out_with (Some r) had (Waiting t) fits e = cc
is_out_with (Some r) had (Counted t) fits e = cc

-- what a turn made is its pass's own afterwards
pub mine-put : {E O : Type 0} (made : List E) (spare : Room) (v : View E O) → is_among v.names v.name ≡ true → mine (after_put made spare v) ≡ mine v ++ enumerate_from (length v.seen) made
mine-put made spare v named = made_by-stamped v.names v.name (less (unwrap_or v.turn no_room) spare) v.seen made named

-- a turn that took no room leaves its pass's
pub less-none : (room had now : Room) → IsWithinRoom had now → less room (less had now) ≡ room
less-none room had now h =
    let e : room.entries - (had.entries - now.entries) ≡ room.entries = (let le : had.entries ≤ now.entries = h.0 in omega arith) in
    let b : room.bytes - (had.bytes - now.bytes) ≡ room.bytes = (let le : had.bytes ≤ now.bytes = h.1 in omega arith) in
    λ i. record { entries = e i; bytes = b i }

pub unspent : (room now : Room) (turn : Option Room) → IfSome turn (λ had. IsWithinRoom had now) → less room (less (unwrap_or turn no_room) now) ≡ room
unspent room now None h = less-none room no_room now (omega arith, omega arith)
unspent room now (Some had) h = less-none room had now h

-- where the room that was to spare is known, its turn is out
pub has_turn : {E : Type 0} (P : Room → Type 0) (turn : Option Room) (stage : Stage E) → is_at_rest_or_out turn stage ≡ true → IsSomeAnd turn P → (t : ℕ) × (stage ≡ Out t)
has_turn P None stage fits h = absurd h
has_turn P (Some had) stage fits h = is_out_with (Some had) had stage fits refl

module _ {W E O : Type 0} where
  abbrev pub me_holding : Known E O → W → Me (Option W) (Known E O)
  me_holding p world = (p, (0, Some world) ∷ [])

  -- the value is in hand again
  pub handed : (m n : Me (Option W) (Known E O)) (world : W) → m.1 ≡ (0, None) ∷ [] → n ≡ (m.0, (0, Some world) ∷ rest m.1) → n ≡ me_holding m.0 world
  handed m n world empty is = is ∙ ap (λ (l : List (ℕ × Option W)). (m.0, (0, Some world) ∷ rest l)) empty

module _ {W E O : Type 0} (history : W → List E) (spare : W → Room) where
  abbrev pub me_counted : Known E O → W → Me (Option W) (Known E O)
  me_counted p world = me_holding (counted_known (made_since p.view.seen (history world)) (spare world) p) world

  pub counted_as : (p : Known E O) (m n : Me (Option W) (Known E O)) (world : W) → m ≡ me_holding p world → CountsMade history spare m n → n ≡ me_counted p world
  counted_as p m n world is h =
      let k : CountsMade history spare (me_holding p world) n = subst (λ (z : Me (Option W) (Known E O)). CountsMade history spare z n) is h in k.after world refl

  pub counted_named : (p : Known E O) (m n : Me (Option W) (Known E O)) (world : W) → m ≡ me_holding p world → CountsMade history spare m n → is_among p.view.names p.view.name ≡ true
  counted_named p m n world is h =
      let k : CountsMade history spare (me_holding p world) n = subst (λ (z : Me (Option W) (Known E O)). CountsMade history spare z n) is h in k.named

module _ {W E O : Type 0} (history : W → List E) (actor : E → Option ℕ) (spare : W → Room) (comes : W → O → Type 0) where
  abbrev M : Type 0
  M = Me (Option W) (Known E O)

  -- a pass that waited has taken what it waited for
  pub HasTaken-from : (ticket drawn : ℕ) (m d : M) (q q' : Known E O) (x y : W) → HasTaken history actor spare comes ticket d.0 q x → d ≡ (record m.0 { stage = Waiting drawn }, m.1) → q' ≡ q → x ≡ y → HasTaken history actor spare comes ticket m.0 q' y
  HasTaken-from ticket drawn m d q q' x y h waited same is =
      let k : HasTaken history actor spare comes ticket (record m.0 { stage = Waiting drawn }) q' y =
      subst (λ (z : M × Known E O × W). HasTaken history actor spare comes ticket z.0.0 z.1 z.2) (λ i. (waited i, sym same i, is i)) h in
      record { seen = k.seen; after = k.after; told = k.told; opened = k.opened; room = k.room; others = k.others }

  -- what a pass whose turn is out may give back
  pub record MayPut (p : Known E O) (world : W) : Type 0 where
    pub ticket : ℕ
    pub out : p.stage ≡ Out ticket
    pub grown : history world ≡ entries_of p.view.seen ++ made_since p.view.seen (history world)
    pub opened : IfSome p.view.opening (comes world)
    pub room : IsWithinRoom (less (unwrap_or p.view.turn no_room) (spare world)) p.view.room
    pub allowed : All (λ e. may_make p.view.actors (actor e) ≡ true) (made_since p.view.seen (history world))

  module _ (opening : O) (start : Room) where
    abbrev Lawful : State (Option W) (Known E O) → Type 0
    Lawful = Rule history actor spare comes opening start

    pub counts_held : (slots id entries : ℕ) (p : Known E O) (m : M) (world : W) → MayPut p world → m ≡ me_holding p world → entries ≡ length (history world)
        → Allows Lawful slots id m 2 (λ _. entries) (λ _ n. CountsMade history spare m n)
    counts_held slots id entries p m world may is all =
        let Told : M × ℕ → Type 0 = λ z. Allows Lawful slots id z.0 2 (λ _. z.1) (λ _ n. CountsMade history spare z.0 n) in
        subst Told (λ i. (sym is i, sym all i)) (counts history actor spare comes opening start slots id may.ticket (me_holding p world) world may.out refl may.grown may.room may.allowed)

    pub serves_held : (slots id : ℕ) (p : Known E O) (m : M) (world : W) → MayPut p world → m ≡ me_counted history spare p world
        → Allows Lawful slots id m 1 (λ n. (n + 1) % 2 ^ 64) (λ _ n. Serves m n)
    serves_held slots id p m world may is =
        let made : List E = made_since p.view.seen (history world) in
        let stamps : List (Stamped E) = stamped p.view.name (less (unwrap_or p.view.turn no_room) (spare world)) made in
        let told : history world ≡ entries_of (p.view.seen ++ stamps) =
        may.grown ∙ ap (λ l. entries_of p.view.seen ++ l) (sym (entries_of-stamped p.view.name (less (unwrap_or p.view.turn no_room) (spare world)) made)) ∙ sym (entries_of-append p.view.seen stamps) in
        subst (λ (z : M). Allows Lawful slots id z 1 (λ n. (n + 1) % 2 ^ 64) (λ _ n. Serves z n)) (sym is)
        (serves history actor spare comes opening start slots id (unwrap_or (ticket_of p.stage) 0) (me_counted history spare p world) world refl refl told may.opened refl)

-- what two passes made is what the pass that they were joined into has made
pub both_made : {E : Type 0} (names n1 n2 : List (List ℕ)) (seen : List (Stamped E)) (m1 m2 : List (ℕ × E)) → names ≡ n1 ++ n2 → made_by n1 seen ≡ m1 → made_by n2 seen ≡ m2
    → (x : ℕ × E) → Contains (made_by names seen) x ↔ (Contains m1 x ⊎ Contains m2 x)
both_made {E} names n1 n2 seen m1 m2 is one two x =
    let Told : List (List ℕ) × List (ℕ × E) × List (ℕ × E) → Type 0 = λ z. Contains (made_by z.0 seen) x ↔ (Contains z.1 x ⊎ Contains z.2 x) in
    subst Told (λ i. (sym is i, one i, two i)) (made_by-append n1 n2 seen x)

module _ {W E O : Type 0} (actor : E → Option ℕ) where
  -- after a join what was seen goes on from both
  pub united : (p q : Known E O) (hand : List (ℕ × Option W)) (m n : Me (Option W) (Known E O)) → m ≡ (joined_known p q, hand) → Joins actor m n
      → OthersAdd actor p.view.names p.view.actors p.view.seen n.0.view.seen × OthersAdd actor q.view.names q.view.actors q.view.seen n.0.view.seen
  united p q hand m n is h =
      let k : Joins actor (joined_known p q, hand) n = subst (λ (z : Me (Option W) (Known E O)). Joins actor z n) is h in
      let two = k.both (side_of p.view) (side_of q.view) refl refl in
      let same : longer p.view.seen q.view.seen ≡ n.0.view.seen = ap (λ (z : Me (Option W) (Known E O)). z.0.view.seen) (sym k.after) in
      (subst (OthersAdd actor p.view.names p.view.actors p.view.seen) same two.0, subst (OthersAdd actor q.view.names q.view.actors q.view.seen) same two.1)

  -- two passes that were joined had nothing in common
  pub were_apart : (p q : Known E O) (hand : List (ℕ × Option W)) (m n : Me (Option W) (Known E O)) → m ≡ (joined_known p q, hand) → Joins actor m n → HaveNoneInCommon p.view.names p.view.actors q.view.names q.view.actors
  were_apart p q hand m n is h =
      let k : Joins actor (joined_known p q, hand) n = subst (λ (z : Me (Option W) (Known E O)). Joins actor z n) is h in k.apart (side_of p.view) (side_of q.view) refl
