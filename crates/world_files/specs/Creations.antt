-- Creations: when they can be carried out, and what is answered.
use Rattle.std.specs.Prelude.{◌≡◌, ℕ, ◌≤◌, true, IsTrue, List, Some, None, Ok, Err, Bool, false, Option}
use Rattle.std.specs.Option.{ForSome}
use Rattle.blk_base.specs.Files.{is_out}
use Rattle.blk_graph.specs.Judged.{first_parent}
use Rattle.q2_format.specs.Created.{IsNewName}
use Rattle.q2_format.specs.declared.header.TheConstants.{MAX_DISK_SIZE}
use Rattle.qmp_codec.specs.declared.nodes.CreateFile.{CreateFile}
use Rattle.qmp_codec.specs.declared.nodes.CreateQcow2.{CreateQcow2}
use Rattle.qmp_codec.specs.declared.nodes.Created.{Created}
use Rattle.qmp_codec.specs.declared.nodes.Created.TheVariants as created
use Rattle.qmp_rules.specs.Table.{RunTable, id_named}
use Rattle.qmp_asks.specs.Values.{amount_or}
use Rattle.qmp_rules.specs.declared.judge.PrepareStop.{PrepareStop}
use Rattle.qmp_rules.specs.declared.judge.PrepareStop.TheVariants.{Refused, NoMemory}
use Rattle.qmp_rules.specs.declared.refusal.Refusal.{Refusal}
use Rattle.qmp_rules.specs.declared.refusal.Refusal.TheVariants as refusal
use Rattle.blk_nodes.specs.Joined.{IsFile}
use Rattle.blk_nodes.specs.Nodes.{Nodes}
use Rattle.world_parts.specs.Deleting.{Ground}
use Rattle.world_parts.specs.Steps.{StoreSeen}
use Rattle.world_parts.specs.Creating.{HasMakingFailed, IsFailed}
use Rattle.qmp_codec.specs.Commands.{Cmd}
use Rattle.qmp_codec.specs.declared.command.Command.TheVariants as command
use Rattle.qmp_rules.specs.Answers.{answer, left_by, refusal_to, returned}
use Rattle.qmp_rules.specs.Changes.{all_changed}
use Rattle.qmp_rules.specs.Edits.{spoiled}
use Rattle.qmp_rules.specs.declared.change.Change.{Change}
use Rattle.qmp_rules.specs.declared.told.Told.{Told}
use Rattle.world_parts.specs.Saying.{EndsRefusals, IsSaid}
use Rattle.world_parts.specs.Making.{CreatesBy, HasEndedSo, MadeSo}

-- ---- files

-- why no file was made
abbrev pub IsUnmade : List ℕ → ℕ → StoreSeen → StoreSeen → PrepareStop → Type 0
IsUnmade name size old new (Refused cause) = HasMakingFailed name size old new cause
IsUnmade name size old new NoMemory = new ≡ old

-- ---- creations

-- when one can be carried out: no device of the file is out, and the store has room for it; or the node is a `file` node that
-- no edge leads to
pub record CanMake (c : CreateFile (List ℕ)) (x : Ground) : Type 0 where
  pub closed : IsTrue (is_out c.filename x.store.opened) → ⊥
  pub room : amount_or 0 (Some c.size) ≤ x.store.room

pub record CanFormat (t : RunTable) (c : CreateQcow2 (List ℕ)) (nodes : Nodes) : Type 0 where
  pub node : ℕ
  pub found : id_named t c.file ≡ Some node
  pub is_file : IsFile nodes node
  pub lone : first_parent node nodes.graph.edges ≡ None
  pub small : amount_or 0 (Some c.size) ≤ MAX_DISK_SIZE
  pub named : ForSome c.backing_file IsNewName

abbrev pub CanCreate : RunTable → Created (List ℕ) → Ground → Type 0
CanCreate t (created.File c) x = CanMake c x
CanCreate t (created.Qcow2 c) x = CanFormat t c x.nodes
CanCreate t created.Unknown x = ⊥

-- why it was not carried out
abbrev pub IsUncreated : RunTable → Created (List ℕ) → Ground → Ground → PrepareStop → Type 0
IsUncreated t options old now (Refused cause) = IsFailed t options old now cause
IsUncreated t options old now NoMemory = now ≡ old

abbrev pub is_creation : Cmd → Bool
is_creation (command.BlockdevCreate c) = true
is_creation c = false

-- ---- what was done

abbrev pub CanCreateBy : RunTable → Cmd → Ground → Type 0
CanCreateBy t (command.BlockdevCreate c) x = CanCreate t c.options x
CanCreateBy t c x = ⊥

abbrev pub spoiled_by : RunTable → Cmd → List Change
spoiled_by t (command.BlockdevCreate c) = spoiled t c.options
spoiled_by t c = left_by t c (refusal.NoSpace (record { 0 = 0 }))

-- it was made, or a call failed and this is the text of that
pub record IsMadeNow (t : RunTable) (c : Cmd) (old now : Ground) (u : RunTable)
    (edits : List Change)
    (accepted text : List ℕ) : Type 0 where
  pub made : CreatesBy t c old now
  pub table : u ≡ all_changed t edits
  pub said : text ≡ accepted

pub record IsSpoiledNow (t : RunTable) (c : Cmd) (old now : Ground) (u : RunTable)
    (edits : List Change)
    (back text : List ℕ) : Type 0 where
  pub cause : Refusal
  pub ended : HasEndedSo t c old now cause
  pub table : u ≡ all_changed t edits
  pub said : (given : List ℕ) → EndsRefusals given back → IsSaid given (Err cause) text

-- with the text that answers a line
pub record IsMadeSaying (given : List ℕ) (t : RunTable) (told : Told) (c : Cmd) (old now : Ground)
    (u : RunTable) (edits : List Change) (text : List ℕ) : Type 0 where
  pub made : CreatesBy t c old now
  pub table : u ≡ all_changed t edits
  pub said : IsSaid given (Ok (returned t told c)) text

pub record IsSpoiledSaying (given : List ℕ) (t : RunTable) (c : Cmd) (old now : Ground)
    (u : RunTable)
    (edits : List Change) (text : List ℕ) : Type 0 where
  pub cause : Refusal
  pub ended : HasEndedSo t c old now cause
  pub table : u ≡ all_changed t edits
  pub said : IsSaid given (Err cause) text

-- ---- the answer

pub record IsAnswerMade (given : List ℕ) (t : RunTable) (c : Cmd) (old now : Ground) (u : RunTable)
    (text : List ℕ) : Type 0 where
  pub told : Told
  pub refusal : Option Refusal
  pub judged : refusal_to t told c ≡ refusal
  pub done_is : MadeSo t c old now told refusal
  pub table : u ≡ all_changed t (answer t told c).changes
  pub said : IsSaid given (answer t told c).reply text
