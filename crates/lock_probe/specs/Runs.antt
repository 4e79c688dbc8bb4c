-- Actors that run in threads: what they need, and what they have done at their end.
use Rattle.std.specs.Prelude.{◌≡◌, ℕ, ◌+◌, ◌*◌, ◌<◌, ◌≤◌, ◌^◌, ◌++◌, true, None}
use Rattle.blk_base.specs.declared.memory.Room.{Room}
use Rattle.blk_lock.specs.declared.known.View.{View}
use Rattle.blk_lock.specs.Stamps.{has_actor, made_by_actor}
use Rattle.blk_lock.specs.Order.{first_view}
use Rattle.lock_probe.specs.declared.register.RegisterWrite.{RegisterWrite}
use Rattle.lock_probe.specs.declared.register.InitialValue.{InitialValue}
use Rattle.lock_probe.specs.Replay.{actor_of, script}

-- the first pass of a register that had this value, with room for so many entries
pub record IsFirstPass (value most : ℕ) (v : View RegisterWrite InitialValue) : Type 0 where
  pub room : Room
  pub is : v ≡ first_view (record { value = value }) room
  pub enough : most ≤ room.entries

-- the pass has what so many actors from the first on need to write their scripts
pub record MayRun (v : View RegisterWrite InitialValue) (first count rounds : ℕ) : Type 0 where
  pub free : v.turn ≡ None
  pub shares : count < v.shares
  pub room : count * rounds ≤ v.room.entries
  pub fits : first + count < 2 ^ 32
  pub actors : (a : ℕ) → first ≤ a → a < first + count → has_actor v.actors a ≡ true

-- the entries of each of these actors are those that it had and then its script, and the pass has all that it had but room
pub record HasRun (v w : View RegisterWrite InitialValue) (first count rounds : ℕ) : Type 0 where
  pub free : w.turn ≡ None
  pub shares : w.shares ≡ v.shares
  pub actors : (a : ℕ) → has_actor v.actors a ≡ true → has_actor w.actors a ≡ true
  pub own : (a : ℕ) → first ≤ a → a < first + count
      → made_by_actor actor_of a w.seen ≡ made_by_actor actor_of a v.seen ++ script a rounds

-- the pass of one actor may write its script
pub record MayWrite (v : View RegisterWrite InitialValue) (actor rounds : ℕ) : Type 0 where
  pub free : v.turn ≡ None
  pub room : rounds ≤ v.room.entries
  pub actor_held : has_actor v.actors actor ≡ true

-- the pass has written it, and changed in nothing but what it has seen and its room
pub record HasWritten (v w : View RegisterWrite InitialValue) (actor rounds : ℕ) : Type 0 where
  pub same : w ≡ record v { seen = w.seen; room = w.room }
  pub own : made_by_actor actor_of actor w.seen
      ≡ made_by_actor actor_of actor v.seen ++ script actor rounds
