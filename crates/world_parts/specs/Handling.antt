-- What is left of table, store and nodes by a command that opens and makes no file, with the text that answers it.
use Rattle.std.specs.Prelude.{◌≡◌, ℕ, List, [], ◌∷◌, Option, Some, None, Err}
use Rattle.blk_bitmaps.specs.declared.row.Bitmap.{Bitmap}
use Rattle.blk_bitmaps.specs.Calls.{rows_after_call, RemoveAll}
use Rattle.qmp_codec.specs.Commands.{Cmd}
use Rattle.qmp_codec.specs.declared.command.Command.TheVariants as command
use Rattle.qmp_rules.specs.Answers.{answer, refusal_to, told_none}
use Rattle.qmp_rules.specs.Changes.{all_changed}
use Rattle.qmp_rules.specs.Table.{RunTable, id_named, kinds_of}
use Rattle.qmp_rules.specs.declared.judge.PrepareStop.{PrepareStop}
use Rattle.qmp_rules.specs.declared.judge.PrepareStop.TheVariants.{Refused, NoMemory}
use Rattle.qmp_rules.specs.declared.refusal.Refusal.{Refusal}
use Rattle.blk_nodes.specs.Contents.{disk_of}
use Rattle.blk_nodes.specs.Nodes.{Nodes}
use Rattle.blk_nodes.specs.Rewiring.{rewired, AreReadings}
use Rattle.world_parts.specs.Deleting.{going}
use Rattle.world_parts.specs.Saying.{IsSaid}

-- accepted, this was done; refused, that holds
abbrev pub DoneIf : Option Refusal → Type 0 → Type 0 → Type 0
DoneIf None done undone = done
DoneIf (Some cause) done undone = undone

-- The command is answered by the table alone. Its changes are made, and what they say was done to store and nodes.
pub record IsHandled (given : List ℕ) (t : RunTable) (c : Cmd) (u : RunTable) (done undone : Type 0)
    (text : List ℕ) : Type 0 where
  pub refusal : Option Refusal
  pub judged : refusal_to t told_none c ≡ refusal
  pub done_is : DoneIf refusal done undone
  pub table : u ≡ all_changed t (answer t told_none c).changes
  pub said : IsSaid given (answer t told_none c).reply text

-- for want of memory nothing has changed
pub record IsUntouched (t u : RunTable) (undone : Type 0) : Type 0 where
  pub table : u ≡ t
  pub kept : undone

-- the text of a refusal, where there is one
abbrev pub SaysRefusal : List ℕ → PrepareStop → List ℕ → Type 0
SaysRefusal given (Refused cause) text = IsSaid given (Err cause) text
SaysRefusal given NoMemory text = ⊥

-- ---- bitmaps

-- the bitmaps of nodes that go
abbrev pub bitmaps_but : List ℕ → List Bitmap → List Bitmap
bitmaps_but [] bitmaps = bitmaps
bitmaps_but (node ∷ nodes) bitmaps = bitmaps_but nodes (rows_after_call bitmaps (RemoveAll node))

-- A deletion takes the bitmaps of the node with it, and those of the `file` node that goes too.
abbrev pub bitmaps_named : RunTable → Option ℕ → List Bitmap → List Bitmap
bitmaps_named t None bitmaps = bitmaps
bitmaps_named t (Some node) bitmaps = bitmaps_but (going t node) bitmaps

abbrev pub bitmaps_deleted : RunTable → Cmd → List Bitmap → List Bitmap
bitmaps_deleted t (command.BlockdevDel name) bitmaps = bitmaps_named t (id_named t name) bitmaps
bitmaps_deleted t c bitmaps = bitmaps

-- ---- edges

-- the nodes have the table's kinds and edges, and disks that go with these are what they read as
pub record IsRewired (u : RunTable) (nodes now : Nodes) : Type 0 where
  pub are : now ≡ rewired (kinds_of u.nodes) u.edges nodes
  pub reads : (reads : ℕ → List ℕ) → AreReadings now reads → (node : ℕ) → disk_of now node ≡ reads node
