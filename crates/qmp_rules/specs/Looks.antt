-- What the store's files tell for a command: the first refusal that they decide, the length of the file that is opened, and
-- the size of the image in it.
use Rattle.std.specs.Prelude.{ℕ, nat_lt, ◌==◌, Bool, true, false, not, ◌&&◌, ◌||◌, if◌then◌else◌, List, [], ◌∷◌, codes, Option, Some, None, option_map, option_and_then, is_some, is_none}
use Rattle.q2_image.specs.declared.stop.ImageStop.{ImageStop}
use Rattle.qmp_codec.specs.declared.fields.Amount.{Amount}
use Rattle.qmp_codec.specs.declared.nodes.InlineFile.{InlineFile}
use Rattle.qmp_codec.specs.declared.nodes.FileRef.{FileRef}
use Rattle.qmp_codec.specs.declared.nodes.FileRef.TheVariants as file_ref
use Rattle.qmp_codec.specs.declared.nodes.AddRaw.{AddRaw}
use Rattle.qmp_codec.specs.declared.nodes.AddQcow2.{AddQcow2}
use Rattle.qmp_codec.specs.declared.nodes.Added.{Added}
use Rattle.qmp_codec.specs.declared.nodes.Added.TheVariants as added
use Rattle.qmp_codec.specs.declared.nodes.BlockdevAdd.{BlockdevAdd}
use Rattle.qmp_codec.specs.declared.nodes.Created.{Created}
use Rattle.qmp_codec.specs.declared.nodes.Created.TheVariants as created
use Rattle.qmp_rules.specs.declared.refusal.FileFault.TheVariants.{Absent, TooLong}
use Rattle.qmp_rules.specs.declared.refusal.Refusal.{Refusal}
use Rattle.qmp_rules.specs.declared.refusal.Refusal.TheVariants as refusal
use Rattle.qmp_rules.specs.declared.rows.FileState.TheVariants.{Used}
use Rattle.qmp_asks.specs.declared.look.Look.{Look}
use Rattle.qmp_asks.specs.declared.look.Look.TheVariants as look
use Rattle.qmp_rules.specs.declared.told.Stopped.{Stopped}
use Rattle.qmp_rules.specs.declared.told.Told.{Told}
use Rattle.qmp_rules.specs.Table.{RunTable, node_named, file_state, first_into}
use Rattle.qmp_rules.specs.Refusals.{refused}
use Rattle.qmp_rules.specs.Asks.{if_there, file_node, stands_for, is_lost}
use Rattle.qmp_asks.specs.Naming.{is_file_name}
use Rattle.qmp_asks.specs.NodeAsks.{backing_name}
use Rattle.qmp_asks.specs.Values.{most_length, begins_within, ends_within, part_fits, amount_or}
use Rattle.std.specs.List.{list_any}

-- an image in a file: why it is refused, the bytes of its disk, and whether it names a backing file
pub record ImageSight : Type 0 where
  pub stop : Option ImageStop
  pub size : ℕ
  pub names_backing : Bool

-- a file of the store: its length and the image in it; none where it is absent
pub record FileSight : Type 0 where
  pub length : ℕ
  pub image : ImageSight

-- a refusal at a look, or else a later one
abbrev pub stop_at : Look → Option Refusal → Option Stopped → Option Stopped
stop_at what None later = later
stop_at what (Some cause) later = Some (record { look = what; refusal = cause })

abbrev pub told_record : Option ℕ → Option ℕ → Option Stopped → Told
told_record length size stopped = record {
  length = length;
  size = size;
  stopped = stopped;
  mapped = [];
  dirty = [];
}

-- ---- files

abbrev pub too_long : List ℕ → Bool → Option Refusal
too_long filename is_long = refused is_long (refusal.File filename TooLong)

abbrev pub absent_file : List ℕ → Option Stopped
absent_file filename = stop_at look.File (Some (refusal.File filename Absent)) None

-- the file is not opened: its name is none, a node stands for it, or its bytes are not known any more
abbrev pub is_unopened : RunTable → List ℕ → Bool
is_unopened t filename =
    not (is_file_name filename)
    || (list_any (stands_for filename) t.nodes || is_lost false (file_state t filename))

-- the look that opens the file of a part: that at its beginning or its end, where one is said, else that at files
abbrev pub look_for : Option Amount → Option Amount → Look
look_for (Some offset) size = look.Begin
look_for None (Some size) = look.End
look_for None None = look.File

abbrev pub part_look : AddRaw (List ℕ) → Look
part_look raw = look_for raw.offset raw.size

-- a file is longer than a node may stand for
abbrev pub file_stop : List ℕ → ℕ → Option Stopped
file_stop filename length = stop_at look.File (too_long filename (nat_lt most_length length)) None

-- so it is, or a part begins or ends past it or is too long
abbrev pub raw_stop : List ℕ → AddRaw (List ℕ) → ℕ → Option Stopped
raw_stop filename raw length =
    stop_at look.Begin
    (refused (not (begins_within raw.offset length)) (refusal.BadValue (codes "offset")))
    (stop_at look.End
    (refused (not (ends_within raw.offset raw.size length)) (refusal.BadValue (codes "size")))
    (stop_at look.File
    (too_long filename (nat_lt most_length length || not (part_fits raw.offset raw.size length)))
    None))

-- the image is refused, names a backing file and no member says what to do with that, or has another size than its
-- backing node
abbrev pub unfit_image : RunTable → List ℕ → AddQcow2 (List ℕ) → ImageSight → Option Stopped
unfit_image t name c image =
    stop_at look.Image (option_map refusal.Image image.stop)
    (stop_at look.Backing
    (refused (image.names_backing && is_none c.backing) (refusal.BackingNeeded name))
    (stop_at look.Size
    (if_there (λ row. refused (not (row.size == image.size)) (refusal.SizeDiffers name row.name))
    (option_and_then (node_named t) (backing_name c.backing)))
    None))

-- the first of two that is there
abbrev pub first_stop : Option Stopped → Option Stopped → Option Stopped
first_stop None later = later
first_stop (Some stopped) later = Some stopped

-- ---- what a command is told of the file that it opens

abbrev pub told_if_there : List ℕ → (ℕ → ImageSight → Told) → Option FileSight → Told
told_if_there filename tell None = told_record None None (absent_file filename)
told_if_there filename tell (Some file) = tell file.length file.image

-- a file that is not opened tells nothing
abbrev pub told_of_file : RunTable → List ℕ → (ℕ → ImageSight → Told) → Option FileSight → Told
told_of_file t filename tell sight =
    if is_unopened t filename then told_record None None None else told_if_there filename tell sight

abbrev pub file_told : List ℕ → ℕ → ImageSight → Told
file_told filename length image = told_record (Some length) None (file_stop filename length)

abbrev pub raw_told : List ℕ → AddRaw (List ℕ) → ℕ → ImageSight → Told
raw_told filename raw length image = told_record (Some length) None (raw_stop filename raw length)

abbrev pub qcow2_told : RunTable → List ℕ → List ℕ → AddQcow2 (List ℕ) → ℕ → ImageSight → Told
qcow2_told t name filename c length image =
    told_record (Some length) (Some image.size)
    (first_stop (file_stop filename length) (unfit_image t name c image))

-- where the file node has a parent, its image is not opened
abbrev pub is_free_file : RunTable → List ℕ → Bool
is_free_file t file = elim (file_node t file) as (λ _. Bool) [
  | None ↦ false
  | Some row ↦ is_none (first_into row.id t.edges)
]

abbrev pub image_told : RunTable → List ℕ → List ℕ → AddQcow2 (List ℕ) → Option FileSight → Told
image_told t name file c None = told_record None None None
image_told t name file c (Some sight) =
    if is_free_file t file
    then told_record None (Some sight.image.size) (unfit_image t name c sight.image)
    else told_record None None None

-- of the file that a `blockdev-add` opens, or under the file node that it names
abbrev pub raw_told_of : RunTable → AddRaw (List ℕ) → FileRef (List ℕ) → Option FileSight → Told
raw_told_of t raw (file_ref.Name file) sight = told_record None None None
raw_told_of t raw (file_ref.Inline file) sight =
    told_of_file t file.filename (raw_told file.filename raw) sight

abbrev pub qcow2_told_of : RunTable → List ℕ → AddQcow2 (List ℕ) → FileRef (List ℕ)
    → Option FileSight
    → Told
qcow2_told_of t name c (file_ref.Name file) sight = image_told t name file c sight
qcow2_told_of t name c (file_ref.Inline file) sight =
    told_of_file t file.filename (qcow2_told t name file.filename c) sight

unfoldable pub add_told : RunTable → BlockdevAdd (List ℕ) → Option FileSight → Told
add_told t c sight = elim c.driver as (λ _. Told) [
  | added.File filename ↦ told_of_file t filename (file_told filename) sight
  | added.Raw raw ↦ raw_told_of t raw raw.file sight
  | added.Qcow2 image ↦ qcow2_told_of t c.node_name image image.file sight
  | _ ↦ told_record None None None
]

-- ---- what a creation is told of the store's room

unfoldable pub create_told : Created (List ℕ) → ℕ → Told
create_told (created.File c) room =
    told_record None None
    (stop_at look.File (too_long c.filename (nat_lt room (amount_or 0 (Some c.size)))) None)
create_told _ room = told_record None None None
