-- Where a pass stands between two atomic steps, as far as its type and its rule ask.
use Rattle.std.specs.Prelude.{ℕ, Bool, true, false, List, [], ◌∷◌, Option, Some, None}
use Rattle.blk_base.specs.declared.memory.Room.{Room}
use Rattle.blk_lock.specs.declared.known.Stage.{Stage}
use Rattle.blk_lock.specs.declared.known.Stage.TheVariants.{Spent, Rest, Waiting, Out, Counted}

module _ {E : Type 0} where
  -- a pass that its owner holds rests, or has its turn out
  abbrev pub is_at_rest_or_out : Option Room → Stage E → Bool
  is_at_rest_or_out None Rest = true
  is_at_rest_or_out (Some r) (Out t) = true
  is_at_rest_or_out _ _ = false

  -- the slots that it holds: an emptied one while its turn is out
  abbrev pub in_hand : {W : Type 0} → Stage E → List (ℕ × Option W)
  in_hand (Out t) = (0, None) ∷ []
  in_hand _ = []

  abbrev pub IsLive : Stage E → Type 0
  IsLive Spent = ⊥
  IsLive _ = Unit {0}

  abbrev pub ticket_of : Stage E → Option ℕ
  ticket_of (Waiting t) = Some t
  ticket_of (Out t) = Some t
  ticket_of (Counted t) = Some t
  ticket_of _ = None

  -- the world is out with this pass
  abbrev pub has_world_out : Stage E → Bool
  has_world_out (Out t) = true
  has_world_out (Counted t) = true
  has_world_out _ = false
