-- A history whose entries stand with their makers, and which of them are whose.
-- A name is a list of numbers: that of a pass is its parent's followed by the number of the split that gave it.
use Rattle.std.specs.Prelude.{◌≡◌, ℕ, ◌+◌, Bool, true, false, ◌&&◌, ◌||◌, ◌==◌, List, [], ◌∷◌, ◌++◌, map, filter, All, Option, Some, None}
use Rattle.std.specs.List.{enumerate_from}
use Rattle.blk_base.specs.declared.memory.Room.{Room}
use Rattle.blk_lock.specs.declared.known.Stamped.{Stamped}
use Rattle.blk_lock.specs.Rooms.{Measure, room_amount_if}

abbrev pub same_name : List ℕ → List ℕ → Bool
same_name [] [] = true
same_name (a ∷ m) (b ∷ n) = (a == b) && same_name m n
same_name _ _ = false

abbrev pub is_among : List (List ℕ) → List ℕ → Bool
is_among [] name = false
is_among (n ∷ names) name = same_name n name || is_among names name

abbrev pub has_actor : List ℕ → ℕ → Bool
has_actor [] a = false
has_actor (b ∷ actors) a = (b == a) || has_actor actors a

-- the actor is known, and is one of these
abbrev pub is_by : List ℕ → Option ℕ → Bool
is_by actors None = false
is_by actors (Some a) = has_actor actors a

-- who holds these actors may make an entry of this one, and any entry that no actor makes
abbrev pub may_make : List ℕ → Option ℕ → Bool
may_make actors None = true
may_make actors (Some a) = has_actor actors a

module _ {E : Type 0} where
  abbrev pub entries_of : List (Stamped E) → List E
  entries_of stamps = map (λ s. s.entry) stamps

  -- the entries that one turn of the pass of this name made, the first with the room that they took
  abbrev pub stamped : List ℕ → Room → List E → List (Stamped E)
  stamped name took [] = []
  stamped name took (e ∷ es) =
      record { entry = e; maker = name; took = Some took }
      ∷ map (λ x. record { entry = x; maker = name; took = None }) es

  -- the room that all turns of a history took
  abbrev pub room_taken : Measure → List (Stamped E) → ℕ
  room_taken k [] = 0
  room_taken k (s ∷ stamps) = room_amount_if k s.took + room_taken k stamps

  -- the entries that those of these names made, each with its place
  abbrev pub made_by : List (List ℕ) → List (Stamped E) → List (ℕ × E)
  made_by names stamps =
      map (λ p. (p.0, p.1.entry)) (filter (λ p. is_among names p.1.maker) (enumerate_from 0 stamps))

  -- what this actor made, in its order
  abbrev pub made_by_actor : (E → Option ℕ) → ℕ → List (Stamped E) → List E
  made_by_actor actor a stamps = filter (λ e. is_by (a ∷ []) (actor e)) (entries_of stamps)

  -- others made it: neither a pass of these names, nor one of these actors
  pub record IsOthers (actor : E → Option ℕ) (names : List (List ℕ)) (actors : List ℕ)
      (s : Stamped E) : Type 0 where
    pub by_another : is_among names s.maker ≡ false
    pub of_another : is_by actors (actor s.entry) ≡ false

  -- the one history begins with the other, and goes on with what others made
  pub record OthersAdd (actor : E → Option ℕ) (names : List (List ℕ)) (actors : List ℕ)
      (before after : List (Stamped E)) : Type 0 where
    pub rest : List (Stamped E)
    pub begins : after ≡ before ++ rest
    pub by_others : All (IsOthers actor names actors) rest
