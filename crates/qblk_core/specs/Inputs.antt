-- Refusals of inputs.
use Rattle.std.specs.Prelude.{◌≡◌, ℕ, List}
use Rattle.qblk_core.specs.declared.status.InputWhy.{InputWhy}
use Rattle.qblk_core.specs.declared.status.Status.{Status}
use Rattle.qblk_core.specs.declared.status.Status.TheVariants.{Done, Usage, Input, Fault, Stuck, NoMemory}

-- the status is the refusal of that file, or tells of want of memory
abbrev pub IsRefusal : List ℕ → ℕ → InputWhy → Status → Type 0
IsRefusal name line why Done = ⊥
IsRefusal name line why Usage = ⊥
IsRefusal name line why (Input n l w) = (n.bytes ≡ name) × (l ≡ line) × (w ≡ why)
IsRefusal name line why (Fault from count) = ⊥
IsRefusal name line why (Stuck actor waits) = ⊥
IsRefusal name line why NoMemory = Unit {0}
