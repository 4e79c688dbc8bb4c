-- The rule: what holds of the words, the slot and the passes between any two atomic steps.
use Rattle.std.specs.Prelude.{◌≡◌, ◌≢◌, ℕ, ◌+◌, ◌<◌, ◌≤◌, ◌^◌, ◌⊎◌, true, false, List, [], ◌∷◌, ◌++◌, length, All, Option, Some, None}
use mathlib.Core.Option.{none, some}
use lib.ListN.{get_elem?}
use Rattle.atomic_table.specs.Table.{State}
use Rattle.blk_base.specs.declared.memory.Room.{Room}
use Rattle.blk_lock.specs.declared.known.Stamped.{Stamped}
use Rattle.blk_lock.specs.declared.known.View.{View}
use Rattle.blk_lock.specs.declared.known.Side.{Side}
use Rattle.blk_lock.specs.declared.known.Known.{Known}
use Rattle.blk_lock.specs.declared.known.Stage.{Stage}
use Rattle.blk_lock.specs.declared.known.Stage.TheVariants.{Fresh, Joined, Rest, Waiting, Out, Counted}
use Rattle.blk_lock.specs.Rooms.{Measure, amount}
use Rattle.blk_lock.specs.Stamps.{is_among, has_actor, entries_of, room_taken, OthersAdd}
use Rattle.blk_lock.specs.Stages.{IsLive, ticket_of, has_world_out}

abbrev pub total : {X : Type 0} → (X → ℕ) → List X → ℕ
total f [] = 0
total f (x ∷ xs) = f x + total f xs

-- the ticket was drawn, and it is not the last that there is
abbrev pub IsDrawn : ℕ → ℕ → Type 0
IsDrawn drawn ticket = (ticket < drawn) × (ticket + 1 < 2 ^ 64)

module _ {E : Type 0} where
  -- what follows on what this side had seen, others made
  abbrev pub GoesOnByOthers : (E → Option ℕ) → List (Stamped E) → Side E → Type 0
  GoesOnByOthers actor log side = OthersAdd actor side.names side.actors side.seen log

-- two passes have no name and no actor in common
pub record HaveNoneInCommon (names : List (List ℕ)) (actors : List ℕ) (names' : List (List ℕ))
    (actors' : List ℕ) : Type 0 where
  pub no_name : (n : List ℕ) → is_among names n ≡ true → is_among names' n ≡ true → ⊥
  pub no_actor : (a : ℕ) → has_actor actors a ≡ true → has_actor actors' a ≡ true → ⊥

module _ {E O : Type 0} where
  -- a pass that two were joined into goes on from both
  pub record Unites (actor : E → Option ℕ) (log : List (Stamped E)) (v : View E O)
      (left right : Side E) : Type 0 where
    pub names : v.names ≡ left.names ++ right.names
    pub actors : v.actors ≡ left.actors ++ right.actors
    pub apart : HaveNoneInCommon left.names left.actors right.names right.actors
    pub from_left : GoesOnByOthers actor log left
    pub from_right : GoesOnByOthers actor log right

  -- what holds of a pass by where it stands
  abbrev pub HoldsAtStage : (E → Option ℕ) → ℕ → List (Stamped E) → View E O → Stage E → Type 0
  HoldsAtStage actor drawn log v Fresh = All (λ m. is_among v.names m.maker ≡ false) log
  HoldsAtStage actor drawn log v (Joined left right) = Unites actor log v left right
  HoldsAtStage actor drawn log v (Waiting ticket) = IsDrawn drawn ticket
  HoldsAtStage actor drawn log v (Out ticket) = IsDrawn drawn ticket × (v.seen ≡ log)
  HoldsAtStage actor drawn log v (Counted ticket) = IsDrawn drawn ticket × (v.seen ≡ log)
  HoldsAtStage actor drawn log v _ = Unit {0}

  -- a later split of the pass gives this name, or a split of that pass
  abbrev pub MayGive : View E O → List ℕ → Type 0
  MayGive v name = (k : ℕ) × (rest : List ℕ) × (v.splits < k) × (name ≡ v.name ++ k ∷ rest)

  -- what holds of each pass: it has seen a beginning of the log, and the rest of it others made
  pub record IsSoundPass (actor : E → Option ℕ) (opening : O) (drawn : ℕ) (log : List (Stamped E))
      (p : Known E O) : Type 0 where
    pub opened : p.view.opening ≡ Some opening
    pub named : is_among p.view.names p.view.name ≡ true
    pub shared : 0 < p.view.shares
    pub goes_on : OthersAdd actor p.view.names p.view.actors p.view.seen log
    pub stands : HoldsAtStage actor drawn log p.view p.stage

  -- two passes have no name, actor or ticket in common
  pub record AreApart (p q : Known E O) : Type 0 where
    pub names : (n : List ℕ) → is_among p.view.names n ≡ true → is_among q.view.names n ≡ true → ⊥
    pub actors : (a : ℕ) → has_actor p.view.actors a ≡ true → has_actor q.view.actors a ≡ true → ⊥
    pub tickets : (t : ℕ) → ticket_of p.stage ≡ Some t → ticket_of q.stage ≡ Some t → ⊥

  -- the pass at this place, which is not spent
  abbrev pub Has : List (Known E O) → ℕ → Known E O → Type 0
  Has passes i p = (get_elem? passes i ≡ some p) × IsLive p.stage

  -- the rooms of all passes
  abbrev pub rooms : Measure → List (Known E O) → ℕ
  rooms k passes = total (λ p. amount k p.view.room) passes

module _ {W E O : Type 0} where
  -- the value is in its slot. Its history is the log, and its spare room is enough for all passes
  pub record IsHome (history : W → List E) (spare : W → Room) (comes : W → O → Type 0) (opening : O)
      (log : List (Stamped E)) (homes : List (mathlib.Core.Option.Option (Option W)))
      (passes : List (Known E O)) : Type 0 where
    pub world : W
    pub in_slot : homes ≡ some (Some world) ∷ []
    pub told : history world ≡ entries_of log
    pub opened : comes world opening
    pub has_room : (k : Measure) → rooms k passes ≤ amount k (spare world)
    pub none_out : (i : ℕ) (p : Known E O) → get_elem? passes i ≡ some p
        → has_world_out p.stage ≡ false

  -- the value is out with the pass whose ticket is served
  pub record IsAway (served : ℕ) (homes : List (mathlib.Core.Option.Option (Option W)))
      (passes : List (Known E O)) : Type 0 where
    pub holder : ℕ
    pub pass : Known E O
    pub had : Room
    pub there : get_elem? passes holder ≡ some pass
    pub out : has_world_out pass.stage ≡ true
    pub ticket : ticket_of pass.stage ≡ Some served
    pub turn : pass.view.turn ≡ Some had
    pub empty : homes ≡ none ∷ []
    pub has_room : (k : Measure) → rooms k passes ≤ amount k had
    pub alone : (i : ℕ) (p : Known E O) → get_elem? passes i ≡ some p → has_world_out p.stage ≡ true
        → i ≡ holder

  pub record InOrder (history : W → List E) (actor : E → Option ℕ) (spare : W → Room)
      (comes : W → O → Type 0) (opening : O) (start : Room)
      (s : State (Option W) (Known E O)) : Type 0 where
    pub drawn : ℕ
    pub served : ℕ
    pub log : List (Stamped E)
    pub words : s.words ≡ drawn ∷ served ∷ length log ∷ []
    pub sound : (i : ℕ) (p : Known E O) → Has s.views i p → IsSoundPass actor opening drawn log p
    pub apart : (i j : ℕ) (p q : Known E O) → i ≢ j → Has s.views i p → Has s.views j q
        → AreApart p q
    pub unnamed : (i j : ℕ) (p q : Known E O) → Has s.views i p → Has s.views j q → (n : List ℕ)
        → is_among q.view.names n ≡ true → MayGive p.view n → ⊥
    pub made : All
        (λ m. (i : ℕ) × (p : Known E O) × Has s.views i p × (is_among p.view.names m.maker ≡ true))
        log
    pub shares : total (λ p. p.view.shares) s.views ≡ 1024
    pub in_room : (k : Measure) → rooms k s.views + room_taken k log ≤ amount k start
    pub place : IsHome history spare comes opening log s.homes s.views
        ⊎ IsAway served s.homes s.views

module _ {E O : Type 0} where
  -- the view that the first pass has: of a value with this room to spare
  abbrev pub first_view : O → Room → View E O
  first_view opening room = record {
    opening = Some opening;
    name = [];
    splits = 0;
    names = [] ∷ [];
    seen = [];
    room = room;
    shares = 1024;
    actors = 0 ∷ 1 ∷ 2 ∷ 3 ∷ 4 ∷ 5 ∷ 6 ∷ 7 ∷ 8 ∷ 9 ∷ 10 ∷ 11 ∷ 12 ∷ 13 ∷ 14 ∷ 15 ∷ 16 ∷ [];
    turn = None;
  }

  abbrev pub first_known : O → Room → Known E O
  first_known opening room = record { stage = Rest; view = first_view opening room }
