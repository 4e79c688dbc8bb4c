-- What a line that is answered leaves of the store and of the nodes over its files.
use Rattle.std.specs.Prelude.{◌≡◌, List, [], Option, Some, None, Result, Ok, Err}
use Rattle.blk_bitmaps.specs.declared.row.Bitmap.{Bitmap}
use Rattle.q2_image.specs.Image.{Known}
use Rattle.qmp_codec.specs.Commands.{Cmd}
use Rattle.qmp_codec.specs.Lines.{Stop}
use Rattle.qmp_codec.specs.declared.command.Command.TheVariants as command
use Rattle.qmp_rules.specs.Answers.{refusal_to}
use Rattle.qmp_rules.specs.Table.{RunTable}
use Rattle.qmp_rules.specs.declared.refusal.Refusal.{Refusal}
use Rattle.qmp_rules.specs.declared.told.Told.{Told}
use Rattle.world_parts.specs.Adding.{Adding, Taken}
use Rattle.world_parts.specs.Deleting.{Ground, IsDeleted, ground_in}
use Rattle.world_parts.specs.Handling.{IsRewired, bitmaps_deleted}
use Rattle.qmp_rules.specs.Edits.{backup_job, mirror_job}
use Rattle.world_parts.specs.Jobs.{PutsFilter}
use Rattle.world_parts.specs.Joining.{HasAdded}
use Rattle.world_parts.specs.Looking.{HasLooked, Site, site}
use Rattle.world_parts.specs.Making.{MadeSo}
use Rattle.world_parts.specs.Recorded.{AreAfter}
use Rattle.world_parts.specs.Staging.{IsNotAdded, back_if}

-- ---- additions

-- Accepted, its nodes are there, over the device that was taken out for it. Refused, that device is back.
abbrev pub EndsAddition : RunTable → Adding → Option Refusal → Option Taken → Option Known → Site
    → Site → Type 0
EndsAddition t c None out image between new =
    (new.store ≡ between.store) × HasAdded t c out image between.nodes new.nodes
EndsAddition t c (Some cause) out image between new =
    new ≡ site (back_if c.driver out between.store) between.nodes

-- The store and the image were looked at first, and told this.
pub record LeavesAddition (t : RunTable) (told : Told) (c : Adding) (refusal : Option Refusal)
    (old new : Site) : Type 0 where
  pub between : Site
  pub out : Option Taken
  pub image : Option Known
  pub looked : HasLooked t c old between out image told
  pub ends : EndsAddition t c refusal out image between new

-- ---- other commands

abbrev pub ground_at : Site → Ground
ground_at x = ground_in x.store x.nodes

-- One that is accepted, with the table that it leaves. What is not named here leaves all as it was.
abbrev pub LeavesDone : RunTable → Cmd → RunTable → Site → Site → Type 0
LeavesDone t (command.BlockdevDel name) u old new =
    IsDeleted t name (ground_at old) (ground_at new)
LeavesDone t (command.DeviceAdd c) u old new =
    (new.store ≡ old.store) × IsRewired u old.nodes new.nodes
LeavesDone t (command.DeviceDel id) u old new =
    (new.store ≡ old.store) × IsRewired u old.nodes new.nodes
LeavesDone t (command.BlockdevSnapshot c) u old new =
    (new.store ≡ old.store) × IsRewired u old.nodes new.nodes
LeavesDone t (command.BlockdevBackup c) u old new =
    (new.store ≡ old.store) × PutsFilter u (backup_job t None c) old.nodes new.nodes
LeavesDone t (command.BlockdevMirror c) u old new =
    (new.store ≡ old.store) × PutsFilter u (mirror_job t c) old.nodes new.nodes
LeavesDone t c u old new = new ≡ old

-- Told this, it is refused or not. A refusal leaves all as it was, but for the looks of an addition, and for what a call of a
-- creation did before it failed.
abbrev pub Leaves : RunTable → Told → Cmd → Option Refusal → RunTable → Site → Site → Type 0
Leaves t told (command.BlockdevAdd c) refusal u old new = LeavesAddition t told c refusal old new
Leaves t told (command.BlockdevCreate c) refusal u old new =
    MadeSo t (command.BlockdevCreate c) (ground_at old) (ground_at new) told refusal
Leaves t told c None u old new = LeavesDone t c u old new
Leaves t told c (Some cause) u old new = new ≡ old

-- For want of memory all is as it was, but for the looks of an addition, whose file is back.
abbrev pub LeavesBack : RunTable → Cmd → Site → Site → Type 0
LeavesBack t (command.BlockdevAdd c) old new = IsNotAdded t c old new
LeavesBack t c old new = new ≡ old

-- ---- bitmaps

-- A deletion takes those of its nodes with it, and commands on bitmaps make of them what they say. A refusal leaves all.
abbrev pub LeavesBitmaps : RunTable → Cmd → Option Refusal → List Bitmap → List Bitmap → Type 0
LeavesBitmaps t c None old new = AreAfter t c (bitmaps_deleted t c old) new
LeavesBitmaps t c (Some cause) old new = new ≡ old

-- ---- lines

-- what is told, but for what is dirty
abbrev pub clean_told : Told → Told
clean_told told = record told { dirty = [] }

-- A line that is no command leaves all as it was.
abbrev pub LeavesIn : RunTable → Told → Result Cmd Stop → RunTable → Site → Site → Type 0
LeavesIn t told (Ok c) u old new = Leaves t (clean_told told) c (refusal_to t told c) u old new
LeavesIn t told (Err why) u old new = new ≡ old

abbrev pub LeavesBitmapsIn : RunTable → Told → Result Cmd Stop → List Bitmap → List Bitmap → Type 0
LeavesBitmapsIn t told (Ok c) old new = LeavesBitmaps t c (refusal_to t told c) old new
LeavesBitmapsIn t told (Err why) old new = new ≡ old
