-- What a creation is told, and what was done so.
use Rattle.std.specs.Prelude.{◌≡◌, ◌⊎◌, ◌≤◌, ℕ, List, Option, Some, None}
use Rattle.qmp_codec.specs.Commands.{Cmd}
use Rattle.qmp_codec.specs.declared.command.Command.TheVariants as command
use Rattle.qmp_codec.specs.declared.nodes.Created.{Created}
use Rattle.qmp_codec.specs.declared.nodes.Created.TheVariants as created
use Rattle.qmp_rules.specs.Answers.{refusal_to, told_none}
use Rattle.qmp_rules.specs.Looks.{create_told}
use Rattle.qmp_rules.specs.Table.{RunTable}
use Rattle.qmp_rules.specs.declared.refusal.Refusal.{Refusal}
use Rattle.qmp_rules.specs.declared.refusal.Refusal.TheVariants as refusal
use Rattle.qmp_asks.specs.declared.look.Look.{Look}
use Rattle.qmp_asks.specs.declared.look.Look.TheVariants as look
use Rattle.qmp_rules.specs.declared.told.Told.{Told}
use Rattle.blk_base.specs.declared.fault.FaultFrom.TheVariants.{Dev}
use Rattle.world_parts.specs.Counting.{IsNumbered}
use Rattle.world_parts.specs.Creating.{HasCreated, IsFailed}
use Rattle.world_parts.specs.Deleting.{Ground}

-- ---- what is told

-- before any call: what the store's room says
abbrev pub told_first : Cmd → ℕ → Told
told_first (command.BlockdevCreate c) room = create_told c.options room
told_first c room = told_none

abbrev pub look_of : Created (List ℕ) → Look
look_of (created.File c) = look.File
look_of options = look.Format

-- and where a call failed
abbrev pub told_failed : Cmd → ℕ → Refusal → Told
told_failed (command.BlockdevCreate c) room cause =
    record (create_told c.options room) {
      stopped = Some
          (record { look = look_of c.options; refusal = cause });
    }
told_failed c room cause = told_none

-- ---- what was done

abbrev pub CreatesBy : RunTable → Cmd → Ground → Ground → Type 0
CreatesBy t (command.BlockdevCreate c) old now = HasCreated t c.options old now
CreatesBy t c old now = ⊥

abbrev pub FailsBy : RunTable → Cmd → Ground → Ground → Refusal → Type 0
FailsBy t (command.BlockdevCreate c) old now cause = IsFailed t c.options old now cause
FailsBy t c old now cause = ⊥

-- numbers of devices have 32 bits, and counts 64
abbrev pub FitsWords : Refusal → Type 0
FitsWords (refusal.Io from count) = IsNumbered from × (count ≤ 18446744073709551615)
FitsWords (refusal.NoSpace dev) = IsNumbered (Dev dev)
FitsWords cause = ⊥

-- a call failed
pub record HasEndedSo (t : RunTable) (c : Cmd) (old now : Ground) (cause : Refusal) : Type 0 where
  pub failed : FailsBy t c old now cause
  pub fits : FitsWords cause

-- ---- the answer

pub record FailsSo (t : RunTable) (c : Cmd) (old now : Ground) (told : Told)
    (cause : Refusal) : Type 0
  where
    pub told_is : told ≡ told_failed c old.store.room cause
    pub accepted : refusal_to t (told_first c old.store.room) c ≡ None
    pub ended : HasEndedSo t c old now cause

-- made, refused before any call, or failed in one
abbrev pub MadeSo : RunTable → Cmd → Ground → Ground → Told → Option Refusal → Type 0
MadeSo t c old now told None = (told ≡ told_first c old.store.room) × CreatesBy t c old now
MadeSo t c old now told (Some cause) =
    ((told ≡ told_first c old.store.room) × (now ≡ old)) ⊎ FailsSo t c old now told cause
