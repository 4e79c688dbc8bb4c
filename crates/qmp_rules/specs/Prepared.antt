-- Why nothing is prepared.
use Rattle.std.specs.Prelude.{◌≡◌, Option, Some}
use Rattle.qmp_rules.specs.declared.judge.PrepareStop.{PrepareStop}
use Rattle.qmp_rules.specs.declared.judge.PrepareStop.TheVariants.{Refused, NoMemory}
use Rattle.qmp_rules.specs.declared.refusal.Refusal.{Refusal}

-- for this first refusal of the command, or for want of memory
abbrev pub IsStoppedFor : Option Refusal → PrepareStop → Type 0
IsStoppedFor first (Refused cause) = first ≡ Some cause
IsStoppedFor first NoMemory = Unit {0}
