-- What the looks of an addition come to together, and what they leave.
use Rattle.std.specs.Prelude.{◌≡◌, ℕ, List, Option, Some, None}
use Rattle.q2_image.specs.Image.{Known}
use Rattle.blk_nodes.specs.Contents.{disk_of}
use Rattle.blk_nodes.specs.Nodes.{Nodes}
use Rattle.blk_nodes.specs.Reading.{HaveRisen}
use Rattle.qmp_codec.specs.declared.nodes.AddQcow2.{AddQcow2}
use Rattle.qmp_codec.specs.declared.nodes.Added.{Added}
use Rattle.qmp_codec.specs.declared.nodes.Added.TheVariants as added
use Rattle.qmp_codec.specs.declared.nodes.FileRef.{FileRef}
use Rattle.qmp_codec.specs.declared.nodes.FileRef.TheVariants as file_ref
use Rattle.qmp_rules.specs.Answers.{told_none}
use Rattle.qmp_rules.specs.Looks.{part_look}
use Rattle.qmp_rules.specs.Table.{RunTable}
use Rattle.qmp_asks.specs.declared.look.Look.{Look}
use Rattle.qmp_asks.specs.declared.look.Look.TheVariants as look
use Rattle.qmp_rules.specs.declared.told.Told.{Told}
use Rattle.world_parts.specs.Adding.{Adding, IsBackIfOut, Looks, LooksUnder, Opens, Taken, opens}
use Rattle.world_parts.specs.Stores.{StoreInRun}

-- a store, and the nodes over its files
pub record Site : Type 0 where
  pub store : StoreInRun
  pub nodes : Nodes

abbrev pub site : StoreInRun → Nodes → Site
site store nodes = record { store = store; nodes = nodes }

-- ---- what is called

-- nodes but for counts of devices
pub record HasCalled (old new : Nodes) : Type 0 where
  pub kept : new ≡ record old { devices = new.devices }
  pub risen : HaveRisen old.devices new.devices
  pub disks : (other : ℕ) → disk_of new other ≡ disk_of old other

-- ---- the looks of a command

-- nothing is looked at
pub record LooksNowhere (old new : Site) (out : Option Taken) (image : Option Known)
    (told : Told) : Type 0 where
  pub is : told ≡ told_none
  pub none : out ≡ None
  pub unread : image ≡ None
  pub kept : new ≡ old

-- a file of the store
pub record LooksOut (t : RunTable) (c : Adding) (at : Opens) (old new : Site)
    (out : Option Taken) (image : Option Known) (told : Told) : Type 0 where
  pub looks : Looks t c at old.store new.store out image told
  pub kept : new.nodes ≡ old.nodes

-- the image in a `file` node
pub record LooksIn (t : RunTable) (c : Adding) (added : AddQcow2 (List ℕ)) (file : List ℕ)
    (old new : Site) (out : Option Taken) (image : Option Known) (told : Told) : Type 0 where
  pub looks : LooksUnder t c added file old.nodes new.nodes image told
  pub none : out ≡ None
  pub kept : new.store ≡ old.store
  pub called : HasCalled old.nodes new.nodes

-- the file of a part, at the look that opens it
abbrev pub LooksAtPart : RunTable → Adding → Look → FileRef (List ℕ) → Site → Site → Option Taken
    → Option Known → Told → Type 0
LooksAtPart t c what (file_ref.Name name) old new out image told =
    LooksNowhere old new out image told
LooksAtPart t c what (file_ref.Inline file) old new out image told =
    LooksOut t c (record { filename = file.filename; what = what }) old new out image told

abbrev pub LooksAtImage : RunTable → Adding → AddQcow2 (List ℕ) → FileRef (List ℕ) → Site → Site
    → Option Taken → Option Known → Told → Type 0
LooksAtImage t c added (file_ref.Name name) old new out image told =
    LooksIn t c added name old new out image told
LooksAtImage t c added (file_ref.Inline file) old new out image told =
    LooksOut t c (record { filename = file.filename; what = look.File }) old new out image told

-- by the driver of the node
abbrev pub LooksBy : RunTable → Adding → Added (List ℕ) → Site → Site → Option Taken → Option Known
    → Told → Type 0
LooksBy t c (added.File filename) old new out image told =
    LooksOut t c (record { filename = filename; what = look.File }) old new out image told
LooksBy t c (added.Raw raw) old new out image told =
    LooksAtPart t c (part_look raw) raw.file old new out image told
LooksBy t c (added.Qcow2 qcow2) old new out image told =
    LooksAtImage t c qcow2 qcow2.file old new out image told
LooksBy t c driver old new out image told = LooksNowhere old new out image told

abbrev pub HasLooked : RunTable → Adding → Site → Site → Option Taken → Option Known → Told → Type 0
HasLooked t c old new out image told = LooksBy t c c.driver old new out image told

-- ---- want of memory

-- a file that was opened is back, and no read failed
abbrev pub StoreIsBack : Option Opens → StoreInRun → StoreInRun → Type 0
StoreIsBack None old new = new ≡ old
StoreIsBack (Some at) old new = IsBackIfOut old new at.filename

pub record IsLookedBack (driver : Added (List ℕ)) (old new : Site) : Type 0 where
  pub store : StoreIsBack (opens driver) old.store new.store
  pub kept : new.nodes ≡ old.nodes
