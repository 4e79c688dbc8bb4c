-- What the store's files and the images of nodes tell for a command, by what is known of them.
use Rattle.std.specs.Prelude.{◌≡◌, ◌⊎◌, ℕ, ◌≤◌, nat_lt, ◌==◌, Bool, true, false, not, ◌&&◌, if◌then◌else◌, List, [], ◌∷◌, map, length, Contains, Option, Some, None, is_some, option_map, option_and_then}
use Rattle.blk_base.specs.declared.fault.FaultFrom.TheVariants as from
use Rattle.q2_format.specs.Sizes.{clusters_for}
use Rattle.q2_format.specs.Header.{header_of}
use Rattle.q2_format.specs.Sound.{Refusal as Unsound, InHeader, image_refusal}
use Rattle.q2_format.specs.Sound as sound
use Rattle.q2_format.specs.Created.{created_length}
use Rattle.q2_format.specs.declared.header.HeaderStop.TheVariants.{TooLarge}
use Rattle.q2_image.specs.declared.stop.ImageStop.{ImageStop}
use Rattle.q2_image.specs.declared.stop.ImageStop.TheVariants as stop
use Rattle.qmp_codec.specs.Commands.{Act, Cmd}
use Rattle.qmp_codec.specs.declared.command.Action.TheVariants as action
use Rattle.qmp_codec.specs.declared.command.Command.TheVariants as command
use Rattle.qmp_codec.specs.declared.nodes.FileRef.{FileRef}
use Rattle.qmp_codec.specs.declared.nodes.FileRef.TheVariants as file_ref
use Rattle.qmp_codec.specs.declared.nodes.AddRaw.{AddRaw}
use Rattle.qmp_codec.specs.declared.nodes.Added.{Added}
use Rattle.qmp_codec.specs.declared.nodes.Added.TheVariants as added
use Rattle.qmp_codec.specs.declared.nodes.Created.{Created}
use Rattle.qmp_codec.specs.declared.nodes.Created.TheVariants as created
use Rattle.qmp_asks.specs.Asking.{same_look}
use Rattle.qmp_asks.specs.declared.look.Look.{Look}
use Rattle.qmp_asks.specs.declared.look.Look.TheVariants as look
use Rattle.qmp_rules.specs.declared.told.Stopped.{Stopped}
use Rattle.qmp_rules.specs.declared.told.Told.{Told}
use Rattle.qmp_rules.specs.declared.refusal.FileFault.TheVariants.{Absent}
use Rattle.qmp_rules.specs.declared.refusal.Refusal.{Refusal}
use Rattle.qmp_rules.specs.declared.refusal.Refusal.TheVariants as refusal
use Rattle.qmp_rules.specs.Table.{RunTable, node_named, id_named, has_name}
use Rattle.qmp_rules.specs.Looks.{FileSight, ImageSight, is_unopened, is_free_file, part_look, add_told, create_told}
use Rattle.qmp_rules.specs.Answers.{told_none}
use Rattle.blk_history.specs.Fold.{With}
use Rattle.flat_machine.specs.State.{State, Content, Bytes, Blank, Unknown, Mapped, MapsNone, MapsSome, Unsure, Image, content_in}
use Rattle.flat_machine.specs.Marking.{dirty_bytes}

-- ---- the file of an addition, and the image in it

abbrev pub stop_for : Unsound → ImageStop
stop_for (InHeader cause) = stop.Header cause
stop_for (sound.Offset offset) = stop.Offset offset
stop_for (sound.Reserved table index) = stop.Reserved table index
stop_for (sound.Compressed cluster) = stop.Compressed cluster
stop_for (sound.Overlap cluster) = stop.Overlap cluster
stop_for (sound.Refcount cluster) = stop.Refcount cluster
stop_for sound.HeaderFull = stop.HeaderFull

abbrev pub too_large : ImageStop
too_large = stop.Header TooLarge

-- a created image is sound in a file that isn't too long
abbrev pub blank_stop : Option ℕ → Option ImageStop
blank_stop None = None
blank_stop (Some len) = if nat_lt 8388608 (clusters_for 65536 len) then Some too_large else None

abbrev pub image_sight : Content → ImageSight
image_sight (Bytes file) = record {
  stop = option_map stop_for (image_refusal file);
  size = (header_of file).size;
  names_backing = is_some (header_of file).name;
}
image_sight (Blank new len) = record {
  stop = blank_stop len;
  size = new.size;
  names_backing = is_some new.name;
}
image_sight Unknown = record { stop = None; size = 0; names_backing = false }

-- what a file of which no length is known would tell of it isn't asked: a node stands for it, or it was used
abbrev pub content_length : Content → ℕ
content_length (Bytes file) = length file
content_length (Blank new None) = created_length new
content_length (Blank new (Some len)) = len
content_length Unknown = 0

abbrev pub sight_of : Content → FileSight
sight_of content = record { length = content_length content; image = image_sight content }

-- the file that a command opens, or that of the file node under a new format node
abbrev pub file_of_ref : RunTable → FileRef (List ℕ) → Option (List ℕ)
file_of_ref t (file_ref.Name name) = option_and_then (λ row. row.filename) (node_named t name)
file_of_ref t (file_ref.Inline file) = Some file.filename

abbrev pub file_looked_at : RunTable → Added (List ℕ) → Option (List ℕ)
file_looked_at t (added.File filename) = Some filename
file_looked_at t (added.Raw raw) = file_of_ref t raw.file
file_looked_at t (added.Qcow2 image) = file_of_ref t image.file
file_looked_at t driver = None

abbrev pub sight_for : State → Added (List ℕ) → Option FileSight
sight_for s driver =
    option_map sight_of (option_and_then (content_in s.files) (file_looked_at s.table driver))

abbrev pub told_for : State → Cmd → Told
told_for s (command.BlockdevAdd c) = add_told s.table c (sight_for s c.driver)
told_for s (command.BlockdevCreate c) = create_told c.options s.room
told_for s c = told_none

-- where no call fails and no image maps a cluster
abbrev pub expected : State → Cmd → Told
expected s c = record (told_for s c) { dirty = map dirty_bytes s.dirty }

-- ---- failed calls

abbrev pub order_of : Look → ℕ
order_of look.Begin = 0
order_of look.End = 1
order_of look.File = 2
order_of look.Image = 3
order_of look.Backing = 4
order_of look.Size = 5
order_of look.Format = 6

abbrev pub opens_file : RunTable → FileRef (List ℕ) → Bool
opens_file t (file_ref.Name name) = false
opens_file t (file_ref.Inline file) = not (is_unopened t file.filename)

-- the image under a file node that has a parent is not read
abbrev pub reads_image : RunTable → FileRef (List ℕ) → Bool
reads_image t (file_ref.Name name) = is_free_file t name
reads_image t (file_ref.Inline file) = not (is_unopened t file.filename)

-- the file of a part, at the look that opens it
abbrev pub opens_part : RunTable → Look → AddRaw (List ℕ) → Bool
opens_part t what raw = same_look what (part_look raw) && opens_file t raw.file

-- the calls of an addition: a file is opened, and an image is read
abbrev pub adds_at : RunTable → Look → Added (List ℕ) → Bool
adds_at t look.File (added.File filename) = not (is_unopened t filename)
adds_at t look.Begin (added.Raw raw) = opens_part t look.Begin raw
adds_at t look.End (added.Raw raw) = opens_part t look.End raw
adds_at t look.File (added.Raw raw) = opens_part t look.File raw
adds_at t look.File (added.Qcow2 image) = opens_file t image.file
adds_at t look.Image (added.Qcow2 image) = reads_image t image.file
adds_at t what driver = false

-- and of a creation: a file is made, or a node's file is formatted
abbrev pub creates_at : Look → Created (List ℕ) → Bool
creates_at look.File (created.File c) = true
creates_at look.Format (created.Qcow2 c) = true
creates_at what driver = false

abbrev pub calls_at : RunTable → Look → Cmd → Bool
calls_at t what (command.BlockdevAdd c) = adds_at t what c.driver
calls_at t what (command.BlockdevCreate c) = creates_at what c.options
calls_at t what c = false

-- The store failed to open or to make a file, a device to read an image, or to take a created one; or that would have passed
-- its capacity.
abbrev pub IsFailure : Look → Refusal → Type 0
IsFailure look.Begin (refusal.Io from.Store count) = Unit {0}
IsFailure look.End (refusal.Io from.Store count) = Unit {0}
IsFailure look.File (refusal.Io from.Store count) = Unit {0}
IsFailure look.Image (refusal.Io (from.Dev dev) count) = Unit {0}
IsFailure look.Format (refusal.Io (from.Dev dev) count) = Unit {0}
IsFailure look.Format (refusal.NoSpace dev) = Unit {0}
IsFailure what cause = ⊥

-- No absent file is opened, and none is made that is too long. Before any other refusal of an addition its file is opened.
abbrev pub is_opened : Cmd → Refusal → Bool
is_opened (command.BlockdevAdd c) (refusal.File name Absent) = false
is_opened (command.BlockdevAdd c) cause = true
is_opened c cause = false

-- A call is made where nothing that the files tell before it refuses. One that fails takes the place of what it would have
-- told: of an image why it is refused, of a file that is opened all that its length tells.
abbrev pub IsReached : Cmd → Look → Option Stopped → Type 0
IsReached c what None = Unit {0}
IsReached c what (Some expected) =
    (order_of what ≤ order_of expected.look) × (is_opened c expected.refusal ≡ true)

pub record Fails (t : RunTable) (c : Cmd) (expected : Option Stopped) (stopped : Stopped) : Type 0
  where
    pub call : calls_at t stopped.look c ≡ true
    pub failure : IsFailure stopped.look stopped.refusal
    pub reached : IsReached c stopped.look expected

-- the image of a formatted file whose length isn't known may be too large
abbrev pub is_of_unknown_length : Option Content → Bool
is_of_unknown_length (Some (Blank new None)) = true
is_of_unknown_length content = false

abbrev pub may_be_large : State → Cmd → Bool
may_be_large s (command.BlockdevAdd c) =
    adds_at s.table look.Image c.driver
    && is_of_unknown_length (option_and_then (content_in s.files) (file_looked_at s.table c.driver))
may_be_large s c = false

abbrev pub IsTooLarge : State → Cmd → Option Stopped → Type 0
IsTooLarge s c stopped =
    (may_be_large s c ≡ true)
    × (stopped ≡ Some (record { look = look.Image; refusal = refusal.Image too_large }))

abbrev pub MayStop : State → Cmd → Option Stopped → Option Stopped → Type 0
MayStop s c expected stopped =
    (stopped ≡ expected) ⊎ (With stopped (Fails s.table c expected) ⊎ IsTooLarge s c stopped)

-- ---- images that map a cluster

abbrev pub action_overlays : List Act → List (List ℕ)
action_overlays [] = []
action_overlays (action.Snapshot c ∷ actions) = c.overlay ∷ action_overlays actions
action_overlays (act ∷ actions) = action_overlays actions

abbrev pub overlays_of : Cmd → List (List ℕ)
overlays_of (command.BlockdevSnapshot c) = c.overlay ∷ []
overlays_of (command.Transaction c) = action_overlays c.actions
overlays_of c = []

abbrev pub mapped_at : List Image → ℕ → Mapped
mapped_at [] node = Unsure
mapped_at (image ∷ images) node = if image.node == node then image.mapped else mapped_at images node

abbrev pub AgreesWith : Mapped → Bool → Type 0
AgreesWith MapsNone told = told ≡ false
AgreesWith MapsSome told = told ≡ true
AgreesWith Unsure told = Unit {0}

-- an overlay whose image is fresh maps none, one whose file was found with a mapped cluster does, and of every other one
-- either may be told; of a name that no node has nothing is asked
abbrev pub MayMap : State → List (List ℕ) → List (List ℕ) → Type 0
MayMap s overlays mapped =
    (name : List ℕ) (node : ℕ) → Contains overlays name → id_named s.table name ≡ Some node
    → AgreesWith (mapped_at s.images node) (has_name name mapped)

-- ---- all that is told

pub record IsTold (s : State) (c : Cmd) (told : Told) : Type 0 where
  pub file : told.length ≡ (told_for s c).length
  pub image : told.size ≡ (told_for s c).size
  pub refusal : MayStop s c (told_for s c).stopped told.stopped
  pub clusters : MayMap s (overlays_of c) told.mapped
  pub bitmaps : told.dirty ≡ map dirty_bytes s.dirty
