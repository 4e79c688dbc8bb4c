-- What a register of one thread has after a history, and what an actor writes.
use Rattle.std.specs.Prelude.{◌≡◌, ℕ, zero, suc, List, [], ◌∷◌, ◌++◌, length, filter, Option, Some, IfSome}
use Rattle.blk_lock.specs.declared.known.Stamped.{Stamped}
use Rattle.blk_lock.specs.declared.known.View.{View}
use Rattle.blk_lock.specs.Stamps.{is_by, entries_of, OthersAdd}
use Rattle.blk_lock.specs.Views.{mine}
use Rattle.lock_probe.specs.declared.register.RegisterWrite.{RegisterWrite}
use Rattle.lock_probe.specs.declared.register.InitialValue.{InitialValue}
use Rattle.lock_probe.specs.Face.{one_entry}

abbrev pub actor_of : RegisterWrite → Option ℕ
actor_of e = Some e.actor

abbrev pub value_after : ℕ → List RegisterWrite → ℕ
value_after value [] = value
value_after value (e ∷ es) = value_after e.value es

-- what an actor writes in so many turns: the numbers from 0 on
abbrev pub script : ℕ → ℕ → List RegisterWrite
script actor zero = []
script actor (suc turns) = script actor turns ++ record { actor = actor; value = turns } ∷ []

-- what an actor wrote, in its order
abbrev pub written_by : ℕ → List RegisterWrite → List RegisterWrite
written_by actor es = filter (λ e. is_by (actor ∷ []) (actor_of e)) es

-- one event: behind what others had made by then stands this entry, and the answer is what a register of one thread has at that place
pub record Makes (v w : View RegisterWrite InitialValue) (entry : RegisterWrite)
    (answer : ℕ) : Type 0 where
  pub before : List (Stamped RegisterWrite)
  pub others : OthersAdd actor_of v.names v.actors v.seen before
  pub made : w.seen ≡ before ++ record { entry = entry; maker = v.name; took = Some one_entry } ∷ []
  pub answered : IfSome v.opening (λ o. answer ≡ value_after o.value (entries_of before))
  pub mine_once : mine w ≡ mine v ++ (length before, entry) ∷ []
