-- What files decide has the place of the look at which it comes.
use Rattle.std.proofs.Common.{◌≡◌, ℕ, refl, ◌==◌, nat_lt, Bool, true, false, not, ◌&&◌, ◌||◌, List, codes, Option, Some, None, option_map, option_and_then, is_none, if◌then◌else◌}
use Rattle.q2_image.specs.declared.stop.ImageStop.{ImageStop}
use Rattle.qmp_codec.specs.declared.nodes.AddRaw.{AddRaw}
use Rattle.qmp_codec.specs.declared.nodes.AddQcow2.{AddQcow2}
use Rattle.qmp_codec.specs.declared.nodes.Added.TheVariants as added
use Rattle.qmp_codec.specs.declared.nodes.BlockdevAdd.{BlockdevAdd}
use Rattle.qmp_codec.specs.declared.nodes.Created.{Created}
use Rattle.qmp_codec.specs.declared.nodes.Created.TheVariants as created
use Rattle.qmp_codec.specs.declared.nodes.FileRef.{FileRef}
use Rattle.qmp_codec.specs.declared.nodes.FileRef.TheVariants as file_ref
use Rattle.qmp_rules.specs.declared.refusal.FileFault.TheVariants.{TooLong}
use Rattle.qmp_rules.specs.declared.refusal.Refusal.{Refusal}
use Rattle.qmp_rules.specs.declared.refusal.Refusal.TheVariants as refusal
use Rattle.qmp_rules.specs.declared.rows.NodeRecord.{NodeRecord}
use Rattle.qmp_asks.specs.declared.look.Look.{Look}
use Rattle.qmp_asks.specs.declared.look.Look.TheVariants as look
use Rattle.qmp_rules.specs.declared.told.Stopped.{Stopped}
use Rattle.qmp_rules.specs.declared.told.Told.{Told}
use Rattle.qmp_rules.specs.Table.{RunTable, node_named}
use Rattle.qmp_rules.specs.Refusals.{refused, place_of}
use Rattle.qmp_asks.specs.Asking.{look_place}
use Rattle.qmp_rules.specs.Asks.{if_there}
use Rattle.qmp_asks.specs.NodeAsks.{backing_name}
use Rattle.qmp_asks.specs.Values.{most_length, begins_within, ends_within, part_fits, amount_or}
use Rattle.qmp_rules.specs.Looks.{ImageSight, FileSight, stop_at, told_record, file_stop, raw_stop, unfit_image, first_stop, is_unopened, told_of_file, told_if_there, file_told, raw_told, qcow2_told, is_free_file, image_told, raw_told_of, qcow2_told_of, add_told, create_told}
use Rattle.qmp_rules.specs.Places.{HasLookPlace}

stop_refused : (what : Look) (b : Bool) (cause : Refusal) (later : Option Stopped)
    → place_of cause ≡ Some (look_place what) → HasLookPlace later → HasLookPlace (stop_at what (refused b cause) later)
stop_refused what false cause later e h = h
stop_refused what true cause later e h = e

stop_image : (stop : Option ImageStop) (later : Option Stopped)
    → HasLookPlace later → HasLookPlace (stop_at look.Image (option_map refusal.Image stop) later)
stop_image None later h = h
stop_image (Some stop) later h = refl

stop_size : (f : NodeRecord → Option Refusal) (found : Option NodeRecord)
    → ((row : NodeRecord) → HasLookPlace (stop_at look.Size (f row) None))
    → HasLookPlace (stop_at look.Size (if_there f found) None)
stop_size f None h = tt
stop_size f (Some row) h = h row

stop_file : (filename : List ℕ) (length : ℕ) → HasLookPlace (file_stop filename length)
stop_file filename length = stop_refused look.File (nat_lt most_length length) (refusal.File filename TooLong) None refl tt

-- a part that is too long, and one that ends past its file
abbrev long_part : List ℕ → AddRaw (List ℕ) → ℕ → Option Stopped
long_part filename raw length = stop_at look.File
    (refused (nat_lt most_length length || not (part_fits raw.offset raw.size length)) (refusal.File filename TooLong))
    None

abbrev part_end : List ℕ → AddRaw (List ℕ) → ℕ → Option Stopped
part_end filename raw length = stop_at look.End
    (refused (not (ends_within raw.offset raw.size length)) (refusal.BadValue (codes "size")))
    (long_part filename raw length)

stop_raw : (filename : List ℕ) (raw : AddRaw (List ℕ)) (length : ℕ) → HasLookPlace (raw_stop filename raw length)
stop_raw filename raw length =
    stop_refused look.Begin (not (begins_within raw.offset length)) (refusal.BadValue (codes "offset"))
    (part_end filename raw length) refl
    (stop_refused look.End (not (ends_within raw.offset raw.size length)) (refusal.BadValue (codes "size"))
    (long_part filename raw length) refl
    (stop_refused look.File (nat_lt most_length length || not (part_fits raw.offset raw.size length))
    (refusal.File filename TooLong) None refl tt))

-- an image of another size than its backing node
abbrev other_size : RunTable → List ℕ → AddQcow2 (List ℕ) → ImageSight → Option Stopped
other_size t name c image =
    stop_at look.Size (if_there (λ row. refused (not (row.size == image.size)) (refusal.SizeDiffers name row.name))
    (option_and_then (node_named t) (backing_name c.backing))) None

stop_qcow2 : (t : RunTable) (name : List ℕ) (c : AddQcow2 (List ℕ)) (image : ImageSight)
    → HasLookPlace (unfit_image t name c image)
stop_qcow2 t name c image = stop_image image.stop
    (stop_at look.Backing (refused (image.names_backing && is_none c.backing) (refusal.BackingNeeded name))
    (other_size t name c image))
    (stop_refused look.Backing (image.names_backing && is_none c.backing) (refusal.BackingNeeded name)
    (other_size t name c image) refl
    (stop_size (λ row. refused (not (row.size == image.size)) (refusal.SizeDiffers name row.name))
    (option_and_then (node_named t) (backing_name c.backing))
    (λ row. stop_refused look.Size (not (row.size == image.size)) (refusal.SizeDiffers name row.name) None refl tt)))

first_place : (a b : Option Stopped) → HasLookPlace a → HasLookPlace b → HasLookPlace (first_stop a b)
first_place None b ha hb = hb
first_place (Some stopped) b ha hb = ha

-- ---- what is told

if_told : (b : Bool) (x y : Told) → HasLookPlace x.stopped → HasLookPlace y.stopped
    → HasLookPlace (if b then x else y).stopped
if_told true x y hx hy = hx
if_told false x y hx hy = hy

there_told : (filename : List ℕ) (tell : ℕ → ImageSight → Told) (sight : Option FileSight)
    → ((n : ℕ) (image : ImageSight) → HasLookPlace (tell n image).stopped)
    → HasLookPlace (told_if_there filename tell sight).stopped
there_told filename tell None h = refl
there_told filename tell (Some file) h = h file.length file.image

file_place : (t : RunTable) (filename : List ℕ) (tell : ℕ → ImageSight → Told) (sight : Option FileSight)
    → ((n : ℕ) (image : ImageSight) → HasLookPlace (tell n image).stopped)
    → HasLookPlace (told_of_file t filename tell sight).stopped
file_place t filename tell sight h =
    if_told (is_unopened t filename) (told_record None None None) (told_if_there filename tell sight) tt
    (there_told filename tell sight h)

image_place : (t : RunTable) (name file : List ℕ) (c : AddQcow2 (List ℕ)) (sight : Option FileSight)
    → HasLookPlace (image_told t name file c sight).stopped
image_place t name file c None = tt
image_place t name file c (Some sight) =
    if_told (is_free_file t file) (told_record None (Some sight.image.size) (unfit_image t name c sight.image))
    (told_record None None None) (stop_qcow2 t name c sight.image) tt

raw_place : (t : RunTable) (raw : AddRaw (List ℕ)) (file : FileRef (List ℕ)) (sight : Option FileSight)
    → HasLookPlace (raw_told_of t raw file sight).stopped
raw_place t raw (file_ref.Name file) sight = tt
raw_place t raw (file_ref.Inline file) sight =
    file_place t file.filename (raw_told file.filename raw) sight (λ n image. stop_raw file.filename raw n)

qcow2_place : (t : RunTable) (name : List ℕ) (c : AddQcow2 (List ℕ)) (file : FileRef (List ℕ)) (sight : Option FileSight)
    → HasLookPlace (qcow2_told_of t name c file sight).stopped
qcow2_place t name c (file_ref.Name file) sight = image_place t name file c sight
qcow2_place t name c (file_ref.Inline file) sight =
    file_place t file.filename (qcow2_told t name file.filename c) sight
    (λ n image. first_place (file_stop file.filename n) (unfit_image t name c image) (stop_file file.filename n)
    (stop_qcow2 t name c image))

pub add_has_place : (t : RunTable) (c : BlockdevAdd (List ℕ)) (sight : Option FileSight)
    → HasLookPlace (add_told t c sight).stopped
unfolding add_told
add_has_place t c sight = elim c.driver as (λ d. HasLookPlace (elim d as (λ _. Told) [
  | added.File filename ↦ told_of_file t filename (file_told filename) sight
  | added.Raw raw ↦ raw_told_of t raw raw.file sight
  | added.Qcow2 image ↦ qcow2_told_of t c.node_name image image.file sight
  | _ ↦ told_record None None None
]).stopped) [
  | added.File filename ↦ file_place t filename (file_told filename) sight (λ n image. stop_file filename n)
  | added.Raw raw ↦ raw_place t raw raw.file sight
  | added.Qcow2 image ↦ qcow2_place t c.node_name image image.file sight
  | _ ↦ tt
]

pub create_has_place : (c : Created (List ℕ)) (room : ℕ) → HasLookPlace (create_told c room).stopped
unfolding create_told
create_has_place (created.File c) room =
    stop_refused look.File (nat_lt room (amount_or 0 (Some c.size))) (refusal.File c.filename TooLong) None refl tt
create_has_place _ room = tt
