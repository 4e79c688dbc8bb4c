-- Which writes the calls on an image make, in their order, and what they leave of a device.
use Rattle.std.specs.Prelude.{◌≡◌, ◌≢◌, ◌⊎◌, ℕ, ◌<◌, ◌==◌, if◌then◌else◌, List, [], ◌∷◌, ◌++◌, replicate, take, Option, Some, None, Result, Ok, Err}
use Rattle.blk_base.specs.Calls.{FailedLast}
use Rattle.blk_base.specs.Content.{Write}
use Rattle.blk_base.specs.Device.{Untouched, Writes, Wrote}
use Rattle.blk_base.specs.Pieces.{Extent}
use Rattle.blk_base.specs.Writes.{write_of, IsCutBy, IsPart}
use Rattle.blk_base.specs.declared.device.Device.{Ghosts}
use Rattle.blk_base.specs.declared.device.DeviceCall.TheVariants as calls
use Rattle.blk_base.specs.declared.device.WriteStop.{WriteStop}
use Rattle.blk_base.specs.declared.device.Stop.TheVariants as why
use Rattle.blk_base.specs.declared.fault.DevStop.{DevStop}
use Rattle.blk_base.specs.declared.fault.DevStop.TheVariants.{Io, NoSpace}
use Rattle.q2_format.specs.Entry.{host_of, l2_spelling}
use Rattle.q2_format.specs.Sound.{IsSound}
use Rattle.q2_format.specs.declared.entries.L2Entry.{L2Entry}
use Rattle.q2_format.specs.declared.entries.L2Entry.TheVariants.{Zero, Host}
use Rattle.q2_refs.specs.Allocating.{block_writes_for, count_write, with_block_for}
use Rattle.q2_refs.specs.Free.{free_cluster}
use Rattle.q2_tables.specs.Linking.{link_writes, with_entry}
use Rattle.q2_image.specs.Image.{Known, entry_in}
use Rattle.q2_image.specs.Writing.{IsDiskWith, IsSameDisk, autocleared, counts_once, host_for, needs_host, needs_table, own_place, table_for, with_host, with_table, with_taken}

-- the autoclear field is written as 0 where it isn't
abbrev pub clear_writes : Known → List Write
clear_writes image = if image.header.autoclear == 0 then [] else write_of 88 (replicate 8 0) ∷ []

-- a part of a mapped cluster is written in place
abbrev pub own_writes : Known → Extent → List ℕ → List Write
own_writes image span bytes = clear_writes image ++ write_of (own_place image span) bytes ∷ []

-- the bytes behind which a write was stopped, if it was
abbrev pub stopped_after : {A : Type 0} → Result A WriteStop → Option ℕ
stopped_after (Ok done) = None
stopped_after (Err stop) = Some stop.done

-- What a write in place leaves that a failed call stopped behind so many of these bytes: their own write failed, behind a cleared
-- autoclear field; or the field's did, of which nothing was made, and none of the bytes.
abbrev pub StoppedOwn : {D : Type 0} → Ghosts D → Known → Known → Extent → List ℕ → ℕ → D → D
    → Type 0
StoppedOwn g old new span bytes n before now =
    ((n < span.len) × (new ≡ autocleared old)
    × Wrote g (own_writes old span (take n bytes)) before now
    × FailedLast (calls.Write (own_place old span) span.len) (g.failed_call now))
    ⊎ ((n ≡ 0) × (old.header.autoclear ≢ 0) × (new ≡ old)
    × Wrote g (write_of 88 [] ∷ []) before now
    × FailedLast (calls.Write 88 8) (g.failed_call now))

-- What a write in place leaves, by where it was stopped: all of these bytes are written behind a cleared autoclear field, and no
-- call failed; or one did.
abbrev pub WroteOwn : {D : Type 0} → Ghosts D → Known → Known → Extent → List ℕ → Option ℕ → D → D
    → Type 0
WroteOwn g old new span bytes None before now =
    (new ≡ autocleared old) × Wrote g (own_writes old span bytes) before now
    × (g.failed_call now ≡ g.failed_call before)
WroteOwn g old new span bytes (Some n) before now = StoppedOwn g old new span bytes n before now

-- so it is, unless there was no room
abbrev pub UnlessFull : {A : Type 0} → Result A WriteStop → Type 0 → Type 0
UnlessFull (Ok done) P = P
UnlessFull (Err stop) P = stop.why ≡ why.Failed → P

-- wherever a write in place stops, the file is sound, and its disk is the old one with some of the first bytes of the span
abbrev pub IsOwnPart : ℕ → List ℕ → List ℕ → List ℕ → Type 0
IsOwnPart at bytes before now = (n : ℕ) × IsSound now × IsDiskWith before now at (take n bytes)

-- wherever a call stops that puts bytes at a place of the disk, the file is sound, and its disk is the old one or the one with them
abbrev pub IsOldOrWith : ℕ → List ℕ → List ℕ → List ℕ → Type 0
IsOldOrWith at bytes before now =
    IsSound now × (IsSameDisk before now ⊎ IsDiskWith before now at bytes)

-- Steps of a call.

-- writes that belong together, and what is known of the image once all of them are made
pub record WriteStep : Type 0 where
  pub writes : List Write
  pub known : Known

-- all writes of some steps, in their order
abbrev pub writes_of_steps : List WriteStep → List Write
writes_of_steps [] = []
writes_of_steps (step ∷ steps) = step.writes ++ writes_of_steps steps

-- what is known behind the last of them
abbrev pub known_after : Known → List WriteStep → Known
known_after image [] = image
known_after image (step ∷ steps) = known_after step.known steps

-- What a stop leaves of some steps: those before one of them are made, and of that one's writes a part; what is known is
-- what was known before it.
pub record IsStoppedIn (IsCut : Write → Write → Type 0) (image : Known) (steps : List WriteStep)
    (made : List Write) (left : Known) : Type 0 where
  pub before : List WriteStep
  pub step : WriteStep
  pub behind : List WriteStep
  pub steps_are : steps ≡ before ++ step ∷ behind
  pub cut : List Write
  pub part : IsPart IsCut step.writes cut
  pub made_are : made ≡ writes_of_steps before ++ cut
  pub known : left ≡ known_after image before

-- what is known, by the stop that a call tells
abbrev pub IsKnownBy : Option DevStop → Known → List WriteStep → List Write → Known → Type 0
IsKnownBy None image steps made left = left ≡ known_after image steps
IsKnownBy (Some stop) image steps made left = IsStoppedIn (IsCutBy stop) image steps made left

-- what a call leaves of an image and of its device that makes these steps, by the stop that it tells
pub record MakesSteps {D : Type 0} (g : Ghosts D) (image : Known) (steps : List WriteStep)
    (stop : Option DevStop) (left : Known) (before now : D) : Type 0 where
  pub writes : Writes g (writes_of_steps steps) stop before now
  pub known : IsKnownBy stop image steps writes.made left

-- the same of one that looks for room before it begins
abbrev pub ChangesImage : {A D : Type 0} → Ghosts D → Known → List WriteStep → Result A DevStop
    → Known → D → D → Type 0
ChangesImage g image steps (Ok done) left before now = MakesSteps g image steps None left before now
ChangesImage g image steps (Err (Io count)) left before now =
    MakesSteps g image steps (Some (Io count)) left before now
ChangesImage g image steps (Err NoSpace) left before now = (left ≡ image) × Untouched g before now

-- Which steps a put and a zero write make.

-- the autoclear field is cleared
abbrev pub clear_steps : Known → List WriteStep
clear_steps image = record { writes = clear_writes image; known = autocleared image } ∷ []

-- the next cluster is taken: its refcount block is put where it is absent, and it counts one
abbrev pub take_steps : Known → List WriteStep
take_steps image =
    let n = free_cluster image.refs 0 in
    let block = with_block_for image.refs n in
    record { writes = block_writes_for image.refs n; known = record image { refs = block } }
    ∷ record { writes = count_write block n ∷ []; known = with_taken image }
    ∷ []

-- one is taken for the L2 table of a guest cluster that has none, and one for its data
abbrev pub table_steps : Known → ℕ → List WriteStep
table_steps image cluster = if needs_table image cluster then take_steps image else []

abbrev pub host_steps : Known → ℕ → List WriteStep
host_steps image cluster = if needs_host image cluster then take_steps image else []

-- bytes are written where no guest byte lies
abbrev pub data_steps : Known → ℕ → List ℕ → List WriteStep
data_steps image at bytes = record { writes = write_of at bytes ∷ []; known = image } ∷ []

-- the word of an entry, with bit 63 set exactly where it has a host cluster that counts once
abbrev pub word_for : Known → L2Entry → ℕ
word_for image entry = l2_spelling entry (counts_once image (host_of entry))

-- a guest cluster gets an entry, in a new L2 table where its offset isn't 0
abbrev pub entry_steps : Known → ℕ → L2Entry → ℕ → List WriteStep
entry_steps image cluster entry table =
    record {
      writes = link_writes image.tables cluster (word_for image entry) table;
      known = record image {
        tables = with_entry image.tables cluster (word_for image entry) table;
      };
    }
    ∷ []

-- the steps of a put behind a cleared autoclear field: clusters are taken, then the data are written, and then the entry
abbrev pub fill_steps : Known → ℕ → List ℕ → List WriteStep
fill_steps image cluster bytes =
    let first = with_table image cluster in
    let second = with_host first cluster in
    let host = host_for image cluster in
    table_steps image cluster ++ (host_steps first cluster ++ (data_steps second host bytes
    ++ entry_steps second cluster (Host host) (table_for image cluster)))

-- and those of a zero write: a cluster for the table alone is taken, and the entry is written
abbrev pub clean_steps : Known → ℕ → List WriteStep
clean_steps image cluster =
    table_steps image cluster
    ++ entry_steps (with_table image cluster) cluster (Zero (host_of (entry_in image cluster)))
    (table_for image cluster)

-- all of them
abbrev pub put_steps : Known → ℕ → List ℕ → List WriteStep
put_steps image cluster bytes = clear_steps image ++ fill_steps (autocleared image) cluster bytes

abbrev pub zero_steps : Known → ℕ → List WriteStep
zero_steps image cluster = clear_steps image ++ clean_steps (autocleared image) cluster

abbrev pub put_writes : Known → ℕ → List ℕ → List Write
put_writes image cluster bytes = writes_of_steps (put_steps image cluster bytes)

abbrev pub zero_writes : Known → ℕ → List Write
zero_writes image cluster = writes_of_steps (zero_steps image cluster)
