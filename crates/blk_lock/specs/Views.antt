-- What clauses see of a pass and of its lock.
use Rattle.std.specs.Prelude.{◌≡◌, ◌++◌, true, All, Option, IfSome, IsSomeAnd, ℕ, List}
use Rattle.atomic_table.specs.Seated.{TableId}
use Rattle.blk_lock.specs.declared.known.View.{View}
use Rattle.blk_lock.specs.declared.logged.Logged.{Ghosts}
use Rattle.blk_lock.specs.declared.pass.Pass.{Pass}
use Rattle.blk_lock.specs.declared.turns.Turns.{Turns}
use Rattle.blk_base.specs.declared.memory.Room.{Room}
use Rattle.blk_lock.specs.Rooms.{less, IsWithinRoom}
use Rattle.blk_lock.specs.Stamps.{may_make, entries_of, made_by, OthersAdd}
use Rattle.blk_lock.specs.Plays.{made_since}

module _ {W E O : Type 0} {g : Ghosts W E O} where
  -- what the pass has seen and made
  abbrev pub view : Pass W E O g → View E O
  view p = p.seat.me.0.view

  -- the lock that the pass is of
  abbrev pub lock_of : Pass W E O g → TableId
  lock_of p = p.seat.table_id

module _ {W E O : Type 0} where
  abbrev pub lock_id : Turns W E O → TableId
  lock_id t = t.table.shared.table_id

module _ {E O : Type 0} where
  -- the entries that the pass, or one joined into it, has made, each with its place
  abbrev pub mine : View E O → List (ℕ × E)
  mine v = made_by v.names v.seen

  -- the one has seen what the other had, and behind it what others made
  abbrev pub SeesMore : (E → Option ℕ) → View E O → View E O → Type 0
  SeesMore actor v w = OthersAdd actor v.names v.actors v.seen w.seen

  -- what a history has behind what the pass has seen
  abbrev pub made_behind : View E O → List E → List E
  made_behind v history = made_since v.seen history

  -- the history begins with what the pass has seen
  abbrev pub BeginsWithSeen : View E O → List E → Type 0
  BeginsWithSeen v history = history ≡ entries_of v.seen ++ made_behind v history

  -- the pass holds the actor of each of these entries that has one
  abbrev pub HoldsActors : (E → Option ℕ) → View E O → List E → Type 0
  HoldsActors actor v made = All (λ e. may_make v.actors (actor e) ≡ true) made

  -- of what was to spare at the take no more is gone than the pass's room
  abbrev pub KeepsRoom : View E O → Room → Type 0
  KeepsRoom v spare = IsSomeAnd v.turn (λ had. IsWithinRoom (less had spare) v.room)

  -- nothing is gone of what was to spare at the take
  abbrev pub KeepsSpareSinceTake : View E O → Room → Type 0
  KeepsSpareSinceTake v spare = IfSome v.turn (λ had. IsWithinRoom had spare)
