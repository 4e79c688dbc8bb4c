-- What commands leave that change table, edges and bitmaps, and no nodes: one carrier carries them out.
use Rattle.std.specs.Prelude.{◌≡◌, ℕ, Bool, true, false, List, Option, None, string_bytes}
use Rattle.blk_bitmaps.specs.declared.row.Bitmap.{Bitmap}
use Rattle.qmp_codec.specs.Commands.{Cmd}
use Rattle.qmp_codec.specs.declared.command.Command.TheVariants as command
use Rattle.qmp_rules.specs.Answers.{answer, refusal_to, told_none}
use Rattle.qmp_rules.specs.Changes.{all_changed}
use Rattle.qmp_rules.specs.Table.{RunTable}
use Rattle.qmp_rules.specs.declared.refusal.Refusal.{Refusal}
use Rattle.qmp_rules.specs.declared.told.Told.{Told}
use Rattle.blk_nodes.specs.Nodes.{Nodes}
use Rattle.flat_machine.specs.Marks.{AreCalm, Drained, MustWait, after_later, drained_by}
use Rattle.flat_machine.specs.State.{State}
use Rattle.world_parts.specs.declared.carried.Carried.{Carried}
use Rattle.world_parts.specs.declared.carried.Carried.TheVariants.{Said, Later}
use Rattle.world_parts.specs.Handling.{DoneIf, IsRewired}
use Rattle.world_parts.specs.Recorded.{AreAfter}
use Rattle.world_parts.specs.Saying.{IsSaid}
use Rattle.world_parts.specs.Snapshots.{TellsMapped}

-- ---- which commands these are

-- all that add, make and drop no node and put no filter; the query of what is dirty is told more
abbrev pub is_change : Cmd → Bool
is_change (command.BlockdevAdd c) = false
is_change (command.BlockdevCreate c) = false
is_change (command.BlockdevDel name) = false
is_change (command.BlockdevBackup c) = false
is_change (command.BlockdevMirror c) = false
is_change (command.QueryNamedBlockNodes flat) = false
is_change c = true

abbrev pub is_snapshot : Cmd → Bool
is_snapshot (command.BlockdevSnapshot c) = true
is_snapshot c = false

-- a snapshot is told whether the image of its overlay maps a cluster, and no other command anything
pub record TellsMappedAlone (t : RunTable) (nodes : Nodes) (c : Cmd) (told : Told) : Type 0 where
  pub maps : TellsMapped t nodes c told.mapped
  pub rest : told ≡ record told_none { mapped = told.mapped }
  pub none : is_snapshot c ≡ false → told ≡ told_none

-- ---- what they leave, beside their answers

-- a table, the nodes, the disks that are held, and the bitmaps
pub record Scene : Type 0 where
  pub table : RunTable
  pub nodes : Nodes
  pub drains : Drained
  pub bitmaps : List Bitmap

abbrev pub scene : RunTable → Nodes → Drained → List Bitmap → Scene
scene table nodes drains bitmaps =
    record { table = table; nodes = nodes; drains = drains; bitmaps = bitmaps }

-- the nodes have the kinds and edges of the table then, and the bitmaps are what the command makes of them
pub record IsDone (c : Cmd) (x y : Scene) : Type 0 where
  pub rewired : IsRewired y.table x.nodes y.nodes
  pub bitmaps : AreAfter x.table c x.bitmaps y.bitmaps

pub record IsUndone (x y : Scene) : Type 0 where
  pub nodes : y.nodes ≡ x.nodes
  pub bitmaps : y.bitmaps ≡ x.bitmaps

-- The changes are made, or the command is refused. Where they are, no request was in flight on a disk that it must drain.
pub record HasChanged (s : State) (given : List ℕ) (c : Cmd) (x y : Scene) (text : List ℕ) : Type 0
  where
    pub told : Told
    pub tells : TellsMappedAlone x.table x.nodes c told
    pub refusal : Option Refusal
    pub judged : refusal_to x.table told c ≡ refusal
    pub done_is : DoneIf refusal (IsDone c x y) (IsUndone x y)
    pub table : y.table ≡ all_changed x.table (answer x.table told c).changes
    pub said : IsSaid given (answer x.table told c).reply text
    pub calm : refusal ≡ None → AreCalm s.table s.guests (drained_by x.table c)
    pub drains : y.drains ≡ x.drains

-- nothing refuses it, and this request is in the way: the disks are held, and nothing else changes
pub record HasToBeLater (s : State) (c : Cmd) (x y : Scene) (g r : ℕ) : Type 0 where
  pub told : Told
  pub tells : TellsMappedAlone x.table x.nodes c told
  pub accepted : refusal_to x.table told c ≡ None
  pub waits : MustWait s (drained_by x.table c) g r
  pub left : y ≡ record x { drains = after_later (drained_by x.table c) x.drains }

abbrev pub IsChange : State → List ℕ → Cmd → Scene → Scene → Carried → Type 0
IsChange s given c x y (Said text) = HasChanged s given c x y (string_bytes text)
IsChange s given c x y (Later g r) = HasToBeLater s c x y g r
