-- A look at the store came to what its files may tell.
use Rattle.std.proofs.Common.{◌≡◌, ◌≢◌, ◌⊎◌, ℕ, ◌≤◌, Bool, true, false, List, length, inl, inr, refl, sym, ◌∙◌, ap, subst, arith, Option, Some, None}
use Rattle.std.proofs.lemmas.Bool.{le-leb}
use Rattle.std.specs.Prelude.{◌==◌, if◌then◌else◌, codes, is_none, is_some, nat_lt, ◌||◌, ◌&&◌, not, option_map, option_and_then}
use Rattle.blk_base.specs.Answers.{HasFile}
use Rattle.blk_base.specs.Files.{file_at}
use Rattle.blk_base.specs.declared.fault.DevNo.{DevNo}
use Rattle.blk_base.specs.declared.fault.FaultFrom.TheVariants.{Store, Dev}
use Rattle.blk_base.specs.declared.file.File.{File}
use Rattle.q2_format.specs.Header.{header_of}
use Rattle.q2_format.specs.Sound.{Refusal as Unsound, image_refusal}
use Rattle.q2_format.specs.declared.header.Header.{Header}
use Rattle.q2_image.specs.Image.{Known}
use Rattle.q2_image.specs.Opening.{Names}
use Rattle.q2_image.specs.declared.stop.ImageStop.{ImageStop}
use Rattle.q2_image.specs.declared.stop.ImageStop.TheVariants as stop
use Rattle.qmp_codec.specs.declared.command.Command.TheVariants as command
use Rattle.qmp_codec.specs.declared.fields.Amount.{Amount}
use Rattle.qmp_codec.specs.declared.nodes.AddRaw.{AddRaw}
use Rattle.qmp_codec.specs.declared.nodes.AddQcow2.{AddQcow2}
use Rattle.qmp_codec.specs.declared.nodes.Added.{Added}
use Rattle.qmp_codec.specs.declared.nodes.Added.TheVariants as added
use Rattle.qmp_codec.specs.declared.nodes.FileRef.TheVariants as file_ref
use Rattle.qmp_codec.specs.declared.nodes.InlineFile.{InlineFile}
use Rattle.qmp_rules.specs.declared.refusal.FileFault.TheVariants.{Absent, TooLong}
use Rattle.qmp_rules.specs.declared.refusal.Refusal.{Refusal}
use Rattle.qmp_rules.specs.declared.refusal.Refusal.TheVariants as refusal
use Rattle.qmp_rules.specs.declared.rows.NodeRecord.{NodeRecord}
use Rattle.qmp_asks.specs.declared.look.Look.{Look}
use Rattle.qmp_asks.specs.declared.look.Look.TheVariants as look
use Rattle.qmp_rules.specs.declared.told.Stopped.{Stopped}
use Rattle.qmp_rules.specs.declared.told.Told.{Told}
use Rattle.qmp_rules.specs.Table.{RunTable, node_named}
use Rattle.qmp_rules.specs.Refusals.{refused}
use Rattle.qmp_rules.specs.Asks.{if_there}
use Rattle.qmp_rules.specs.Looks.{FileSight, ImageSight, add_told, file_stop, file_told, first_stop, look_for, part_look, qcow2_told, raw_told, told_if_there, told_of_file, unfit_image, is_unopened, raw_stop, stop_at, told_record, too_long}
use Rattle.qmp_asks.specs.NodeAsks.{add_asks, backing_name}
use Rattle.qmp_asks.specs.Values.{begins_within, ends_within, part_fits}
use Rattle.qmp_rules.specs.Answers as rules
use Rattle.flat_machine.specs.State.{State, Bytes, content_in}
use Rattle.flat_machine.specs.Agreement.{Agrees, Contents}
use Rattle.flat_machine.specs.Final.{bytes_named}
use Rattle.flat_machine.specs.Sights.{IsFailure, IsReached, adds_at, calls_at, image_sight, is_opened, opens_file, order_of, stop_for}
use Rattle.flat_machine.specs.Standing.{Stands}
use Rattle.world_parts.specs.Adding.{Adding, HasOpeningFailed, IsAbsent, IsTakenOut, Looks, LooksInVain, Opens, Taken, TellsAddition, TellsAddedImage, TellsInside, TellsLength, TellsLong, TellsRefusal, look_in_vain, opened_sight, probe, unopened}
use Rattle.world_parts.specs.Stores.{StoreInRun}
use Rattle.world_additions.proofs.AddSights.{IsSeenAs, expects, fails, known-absent, known-there, seen-stopped, seen-unreached, seen-whole}
use Rattle.world_additions.proofs.AddSeen.{AsFile, AsImage, AsPart, OpensAs, expects-absent, expects-closed, expects-file, expects-image, expects-part, has-at, looks-as}
use Rattle.world_additions.proofs.AddRefused.{IsPartLook, has-opened, part-looks}
use Rattle.world_additions.proofs.AddTold.{IsFrom, has_look}

-- ---- refusals of files that were opened

-- none says that the file is absent
abbrev pub SaysFileIsThere : Option Refusal → Type 0
SaysFileIsThere None = Unit {0}
SaysFileIsThere (Some cause) = (c : Adding) → is_opened (command.BlockdevAdd c) cause ≡ true

abbrev pub AreThere : Option Stopped → Type 0
AreThere None = Unit {0}
AreThere (Some stopped) = (c : Adding) → is_opened (command.BlockdevAdd c) stopped.refusal ≡ true

there-at : (what : Look) (cause : Option Refusal) (later : Option Stopped) → SaysFileIsThere cause → AreThere later → AreThere (stop_at what cause later)
there-at what None later here rest = rest
there-at what (Some cause) later here rest = here

there-if : (b : Bool) (cause : Refusal) → ((c : Adding) → is_opened (command.BlockdevAdd c) cause ≡ true) → SaysFileIsThere (refused b cause)
there-if false cause is = tt
there-if true cause is = is

there-file : (name : List ℕ) (n : ℕ) → AreThere (file_stop name n)
there-file name n = there-at look.File (too_long name (nat_lt 549755813888 n)) None (there-if (nat_lt 549755813888 n) (refusal.File name TooLong) (λ c. refl)) tt

there-first : (a b : Option Stopped) → AreThere a → AreThere b → AreThere (first_stop a b)
there-first None b here rest = rest
there-first (Some stopped) b here rest = here

there-three : (name : List ℕ) (a b d : Bool) → AreThere (stop_at look.Begin (refused a (refusal.BadValue (codes "offset")))
    (stop_at look.End (refused b (refusal.BadValue (codes "size"))) (stop_at look.File (too_long name d) None)))
there-three name true b d = λ c. refl
there-three name false true d = λ c. refl
there-three name false false true = λ c. refl
there-three name false false false = tt

there-part : (name : List ℕ) (raw : AddRaw (List ℕ)) (n : ℕ) → AreThere (raw_stop name raw n)
there-part name raw n =
    there-three name (not (begins_within raw.offset n)) (not (ends_within raw.offset raw.size n))
    (nat_lt 549755813888 n || not (part_fits raw.offset raw.size n))

-- a stop of the image says nothing of the kind, and stands at the image or behind it
abbrev pub IsBehind : Option Stopped → Type 0
IsBehind stopped = IsFrom 3 stopped

there-sizes : (name : List ℕ) (cause : Option ImageStop) (b : Bool) (sizes : Option Refusal) → SaysFileIsThere sizes
    → AreThere (stop_at look.Image (option_map refusal.Image cause) (stop_at look.Backing (refused b (refusal.BackingNeeded name)) (stop_at look.Size sizes None)))
there-sizes name (Some cause) b sizes is = λ c. refl
there-sizes name None true sizes is = λ c. refl
there-sizes name None false (Some size) is = is
there-sizes name None false None is = tt

behind-sizes : (name : List ℕ) (cause : Option ImageStop) (b : Bool) (sizes : Option Refusal)
    → IsBehind (stop_at look.Image (option_map refusal.Image cause) (stop_at look.Backing (refused b (refusal.BackingNeeded name)) (stop_at look.Size sizes None)))
behind-sizes name (Some cause) b sizes = omega arith
behind-sizes name None true sizes = omega arith
behind-sizes name None false (Some size) = omega arith
behind-sizes name None false None = tt

abbrev sizes_of : RunTable → List ℕ → AddQcow2 (List ℕ) → ℕ → Option Refusal
sizes_of t name added size =
    if_there (λ row. refused (not (row.size == size)) (refusal.SizeDiffers name row.name)) (option_and_then (node_named t) (backing_name added.backing))

there-row : (size : ℕ) (name : List ℕ) (found : Option NodeRecord)
    → SaysFileIsThere (if_there (λ row. refused (not (row.size == size)) (refusal.SizeDiffers name row.name)) found)
there-row size name None = tt
there-row size name (Some row) = there-if (not (row.size == size)) (refusal.SizeDiffers name row.name) (λ c. refl)

pub there-inside : (t : RunTable) (name : List ℕ) (added : AddQcow2 (List ℕ)) (sight : ImageSight) → AreThere (unfit_image t name added sight)
there-inside t name added sight =
    there-sizes name sight.stop (sight.names_backing && is_none added.backing) (sizes_of t name added sight.size)
    (there-row sight.size name (option_and_then (node_named t) (backing_name added.backing)))

pub behind-inside : (t : RunTable) (name : List ℕ) (added : AddQcow2 (List ℕ)) (sight : ImageSight) → IsBehind (unfit_image t name added sight)
behind-inside t name added sight =
    behind-sizes name sight.stop (sight.names_backing && is_none added.backing) (sizes_of t name added sight.size)

from-file : (name : List ℕ) (n : ℕ) → IsFrom 2 (file_stop name n)
from-file name n = by_test (nat_lt 549755813888 n)
  where
    by_test : (b : Bool) → IsFrom 2 (stop_at look.File (too_long name b) None)
    by_test true = omega arith
    by_test false = tt

from-first : (a b : Option Stopped) → IsFrom 2 a → IsBehind b → IsFrom 2 (first_stop a b)
from-first None None here rest = tt
from-first None (Some stopped) here rest = omega (arith, rest)
from-first (Some stopped) b here rest = here

from-none : (stopped : Option Stopped) → IsFrom 0 stopped
from-none None = tt
from-none (Some stopped) = omega arith

begins-anywhere : (n : ℕ) → begins_within None n ≡ true
begins-anywhere n = le-leb 0 n (omega arith)

-- what a part's file tells stands at the look that opens it or behind it
from-said : (name : List ℕ) (offset size : Option Amount) (n : ℕ) (long : Bool)
    → IsFrom (order_of (look_for offset size)) (stop_at look.Begin (refused (not (begins_within offset n)) (refusal.BadValue (codes "offset")))
    (stop_at look.End (refused (not (ends_within offset size n)) (refusal.BadValue (codes "size"))) (stop_at look.File (too_long name long) None)))
from-said name (Some offset) size n long = from-none _
from-said name None (Some size) n long = rw (begins-anywhere n) (by_tests (ends_within None (Some size) n) long)
  where
    by_tests : (ends long : Bool)
        → IsFrom 1 (stop_at look.End (refused (not ends) (refusal.BadValue (codes "size"))) (stop_at look.File (too_long name long) None))
    by_tests false long = omega arith
    by_tests true true = omega arith
    by_tests true false = tt
from-said name None None n true = rw (begins-anywhere n) (omega arith)
from-said name None None n false = rw (begins-anywhere n) tt

from-part : (name : List ℕ) (raw : AddRaw (List ℕ)) (n : ℕ) → IsFrom (order_of (part_look raw)) (raw_stop name raw n)
from-part name raw n = from-said name raw.offset raw.size n (nat_lt 549755813888 n || not (part_fits raw.offset raw.size n))

file-or-before : (raw : AddRaw (List ℕ)) → order_of (part_look raw) ≤ 2
file-or-before raw = by_said raw.offset raw.size
  where
    by_said : (offset size : Option Amount) → order_of (look_for offset size) ≤ 2
    by_said (Some offset) size = omega arith
    by_said None (Some size) = omega arith
    by_said None None = omega arith

-- so does what any file tells, or that it is absent
from-sight : (k : ℕ) (t : RunTable) (name : List ℕ) (tell : ℕ → ImageSight → Told) (sight : Option FileSight) → k ≤ 2
    → ((n : ℕ) (image : ImageSight) → IsFrom k (tell n image).stopped) → IsFrom k (told_of_file t name tell sight).stopped
from-sight k t name tell sight low tells = by_closed (is_unopened t name)
  where
    by_sight : (found : Option FileSight) → IsFrom k (told_if_there name tell found).stopped
    by_sight None = low
    by_sight (Some file) = tells file.length file.image

    by_closed : (b : Bool) → IsFrom k (if b then told_record None None None else told_if_there name tell sight).stopped
    by_closed true = tt
    by_closed false = by_sight sight

-- ---- a file that is too long stops at the look at files

long-at : (name : List ℕ) (b : Bool) (stopped : Stopped) → stop_at look.File (too_long name b) None ≡ Some stopped
    → stopped ≡ record { look = look.File; refusal = refusal.File name TooLong }
long-at name false stopped is = absurd (cc is)
long-at name true stopped is = cc (sym is)

-- ---- what a stop of an image names

pub named-stop : (found : Option Unsound) (cause : ImageStop) → cause ≢ stop.NoMemory → ((n : ℕ) → cause ≢ stop.Io n) → Names found cause
    → option_map stop_for found ≡ Some cause
named-stop found (stop.Header why) memory io names = ap (option_map stop_for) names
named-stop found (stop.Offset offset) memory io names = ap (option_map stop_for) names
named-stop found (stop.Reserved table index) memory io names = ap (option_map stop_for) names
named-stop found (stop.Compressed cluster) memory io names = ap (option_map stop_for) names
named-stop found (stop.Overlap cluster) memory io names = ap (option_map stop_for) names
named-stop found (stop.Refcount cluster) memory io names = ap (option_map stop_for) names
named-stop found stop.HeaderFull memory io names = ap (option_map stop_for) names
named-stop found (stop.Io count) memory io names = absurd (io count refl)
named-stop found stop.NoMemory memory io names = absurd (memory refl)

-- a stop is a failed read or none
pub is-io : (cause : ImageStop) → ((n : ℕ) × (cause ≡ stop.Io n)) ⊎ ((n : ℕ) → cause ≢ stop.Io n)
is-io (stop.Io n) = inl (n, refl)
is-io (stop.Header why) = inr (λ n same. absurd (cc same))
is-io (stop.Offset offset) = inr (λ n same. absurd (cc same))
is-io (stop.Reserved table index) = inr (λ n same. absurd (cc same))
is-io (stop.Compressed cluster) = inr (λ n same. absurd (cc same))
is-io (stop.Overlap cluster) = inr (λ n same. absurd (cc same))
is-io (stop.Refcount cluster) = inr (λ n same. absurd (cc same))
is-io stop.HeaderFull = inr (λ n same. absurd (cc same))
is-io stop.NoMemory = inr (λ n same. absurd (cc same))

pub not-io : (number : DevNo) (cause : ImageStop) → ((n : ℕ) → cause ≢ stop.Io n) → unopened number cause ≡ refusal.Image cause
not-io number (stop.Io n) io = absurd (io n refl)
not-io number (stop.Header why) io = refl
not-io number (stop.Offset offset) io = refl
not-io number (stop.Reserved table index) io = refl
not-io number (stop.Compressed cluster) io = refl
not-io number (stop.Overlap cluster) io = refl
not-io number (stop.Refcount cluster) io = refl
not-io number stop.HeaderFull io = refl
not-io number stop.NoMemory io = refl

-- ---- failed calls

reach-from : (c : Adding) (what : Look) (expected : Option Stopped) → AreThere expected → IsFrom (order_of what) expected
    → IsReached (command.BlockdevAdd c) what expected
reach-from c what None there from = tt
reach-from c what (Some stopped) there from = (from, there c)

pub reach-image : (c : Adding) (expected : Option Stopped) → AreThere expected → IsBehind expected → IsReached (command.BlockdevAdd c) look.Image expected
reach-image c expected there behind = reach-from c look.Image expected there behind

-- ---- a device that was taken out holds the file's bytes

pub record HoldsFile (files : List File) (name : List ℕ) (device : Taken) : Type 0 where
  pub bytes : List ℕ
  pub there : bytes_named files name ≡ Some bytes
  pub content : device.content ≡ Some bytes
  pub size : device.size ≡ length bytes

pub holds-file : (old new : StoreInRun) (files : List File) (name : List ℕ) (device : Taken) → old.files ≡ Some files → IsTakenOut old new name device
    → HoldsFile files name device
holds-file old new files name device told out =
    let its = rw told at out.is_its in
    record {
      bytes = its.0.bytes;
      there = ap (option_map (λ (f : File). f.bytes)) its.1;
      content = its.2;
      size = out.sized its.0.bytes its.2;
    }

-- ---- what an image tells that is open

sight_by : Option Unsound → Header → ImageSight
sight_by why header = record { stop = option_map stop_for why; size = header.size; names_backing = is_some header.name }

pub sight-open : (bytes : List ℕ) (header : Header) → image_refusal bytes ≡ None → header_of bytes ≡ header → image_sight (Bytes bytes) ≡ opened_sight header
unfolding sight_by
sight-open bytes header sound is = ap (λ (why : Option Unsound). sight_by why (header_of bytes)) sound ∙ ap (sight_by None) is

told-open : (t : RunTable) (node filename : List ℕ) (image : AddQcow2 (List ℕ)) (bytes : List ℕ) (header : Header) (size : ℕ) → size ≡ length bytes
    → file_stop filename (length bytes) ≡ None → header_of bytes ≡ header → image_sight (Bytes bytes) ≡ opened_sight header
    → told_record (Some (length bytes)) (Some (header_of bytes).size) (first_stop (file_stop filename (length bytes)) (unfit_image t node image (image_sight (Bytes bytes))))
    ≡ told_record (Some size) (Some header.size) (unfit_image t node image (opened_sight header))
told-open t node filename image bytes header size long fits is sight =
    ap (λ (f : Option Stopped). told_record (Some (length bytes)) (Some (header_of bytes).size) (first_stop f (unfit_image t node image (image_sight (Bytes bytes))))) fits
    ∙ ap (λ (s : ImageSight). told_record (Some (length bytes)) (Some (header_of bytes).size) (unfit_image t node image s)) sight
    ∙ ap (λ (h : Header). told_record (Some (length bytes)) (Some h.size) (unfit_image t node image (opened_sight header))) is
    ∙ ap (λ (n : ℕ). told_record (Some n) (Some header.size) (unfit_image t node image (opened_sight header))) (sym long)

-- ---- looks

module _ (opening : List ℕ → Option (List ℕ)) (s : State) (held : Contents) (agrees : Agrees opening s held) (stands : Stands s) (c : Adding) (at : Opens)
    (opener : OpensAs c at) (old new : StoreInRun) (files : List File) (told-files : old.files ≡ Some files)
    (own : is_unopened s.table at.filename ≡ false → held.held at.filename ≡ bytes_named files at.filename) where
  calls-file : OpensAs c at → is_unopened s.table at.filename ≡ false → calls_at s.table at.what (command.BlockdevAdd c) ≡ true
  calls-file (AsFile e what) free = rw (what, e, free) refl
  calls-file (AsPart raw file e f name what) free = rw (what, e) (by_look (part_look raw) (part-looks raw) refl)
    where
      opens-it : opens_file s.table raw.file ≡ true
      opens-it = rw (f, name, free) refl

      by_look : (l : Look) → IsPartLook l → part_look raw ≡ l → adds_at s.table l (added.Raw raw) ≡ true
      by_look look.Begin is same = rw (same, opens-it) refl
      by_look look.End is same = rw (same, opens-it) refl
      by_look look.File is same = rw (same, opens-it) refl
      by_look _ is same = absurd is
  calls-file (AsImage image file e f name what) free = rw (what, e, f, name, free) refl

  failed-file : (count : ℕ) → OpensAs c at → IsFailure at.what (refusal.Io Store count)
  failed-file count (AsFile e what) = subst (λ (l : Look). IsFailure l (refusal.Io Store count)) (sym what) tt
  failed-file count (AsPart raw file e f name what) =
      subst (λ (l : Look). IsFailure l (refusal.Io Store count)) (sym what) (by_look (part_look raw) (part-looks raw))
    where
      by_look : (l : Look) → IsPartLook l → IsFailure l (refusal.Io Store count)
      by_look look.Begin is = tt
      by_look look.End is = tt
      by_look look.File is = tt
      by_look _ is = absurd is
  failed-file count (AsImage image file e f name what) = subst (λ (l : Look). IsFailure l (refusal.Io Store count)) (sym what) tt

  -- what is expected of a file that is there
  expects-there : (bytes : List ℕ) → content_in s.files at.filename ≡ Some (Bytes bytes) → is_unopened s.table at.filename ≡ false → OpensAs c at
      → AreThere (expects s c).stopped
  expects-there bytes known free (AsFile e what) =
      subst (λ (t : Told). AreThere t.stopped) (sym (expects-file s c at.filename bytes free known e)) (there-file at.filename (length bytes))
  expects-there bytes known free (AsPart raw file e f name what) =
      subst (λ (t : Told). AreThere t.stopped) (sym (expects-part s c at.filename bytes free known raw file e f name))
      (there-part at.filename raw (length bytes))
  expects-there bytes known free (AsImage image file e f name what) =
      subst (λ (t : Told). AreThere t.stopped) (sym (expects-image s c at.filename bytes free known image file e f name))
      (there-first (file_stop at.filename (length bytes)) (unfit_image s.table c.node_name image (image_sight (Bytes bytes)))
      (there-file at.filename (length bytes)) (there-inside s.table c.node_name image (image_sight (Bytes bytes))))

  -- what is expected of any file stands at that look or behind it
  expects-from : OpensAs c at → IsFrom (order_of at.what) (expects s c).stopped
  unfolding add_told
  expects-from (AsFile e what) =
      rw (what, e) (from-sight 2 s.table at.filename (file_told at.filename) _ (omega arith) (λ n image. from-file at.filename n))
  expects-from (AsPart raw file e f name what) =
      rw (what, e, f)
      (from-sight (order_of (part_look raw)) s.table file.filename (raw_told file.filename raw) _ (file-or-before raw)
      (λ n image. from-part file.filename raw n))
  expects-from (AsImage q file e f name what) =
      rw (what, e, f)
      (from-sight 2 s.table file.filename (qcow2_told s.table c.node_name file.filename q) _ (omega arith)
      (λ n image. from-first (file_stop file.filename n) (unfit_image s.table c.node_name q image) (from-file file.filename n)
      (behind-inside s.table c.node_name q image)))

  in-vain : (told : Told) → is_unopened s.table at.filename ≡ false → LooksInVain at old new told → IsSeenAs s c told
  in-vain told free looks = by_cause looks.cause
    where
      by_cause : (IsAbsent old new at.filename looks.why ⊎ HasOpeningFailed old new at.filename looks.why) → IsSeenAs s c told
      by_cause (inl absent) =
          let lacks : file_at at.filename files ≡ None = rw told-files at absent.lacks in
          let none : held.held at.filename ≡ None = own free ∙ ap (option_map (λ (f : File). f.bytes)) lacks in
          let known : content_in s.files at.filename ≡ None = known-absent opening s held agrees stands at.filename free none in
          let is : told ≡ told_record None None (Some (record { look = look.File; refusal = refusal.File at.filename Absent })) =
          looks.is ∙ ap (λ (r : Refusal). told_record None None (Some (record { look = look_in_vain at.what r; refusal = r }))) absent.is in
          seen-whole s c told (expects-absent s c at opener free known ∙ sym is)
      by_cause (inr failed) =
          let there : HasFile at.filename (λ _. Unit {0}) files = rw told-files at failed.there in
          let bytes : held.held at.filename ≡ Some there.0.bytes = own free ∙ ap (option_map (λ (f : File). f.bytes)) there.1 in
          let known : content_in s.files at.filename ≡ Some (Bytes there.0.bytes) =
          known-there opening s held agrees stands at.filename free there.0.bytes bytes in
          let stops : told.stopped ≡ Some (record { look = at.what; refusal = refusal.Io Store new.faults }) =
          ap (λ (t : Told). t.stopped) looks.is
          ∙ ap (λ (r : Refusal). let x : Stopped = record { look = look_in_vain at.what r; refusal = r } in Some x) failed.is in
          seen-stopped s c told at.what (refusal.Io Store new.faults) stops (has-at c at opener)
          (fails s c told at.what (refusal.Io Store new.faults) stops (record {
            call = calls-file opener free;
            failure = failed-file new.faults opener;
            reached = reach-from c at.what (expects s c).stopped (expects-there there.0.bytes known free opener) (expects-from opener);
          }))

  -- the image in a file that is known
  module _ (free : is_unopened s.table at.filename ≡ false) (first : Taken) (holds : HoldsFile files at.filename first) where
    known : content_in s.files at.filename ≡ Some (Bytes holds.bytes)
    known = known-there opening s held agrees stands at.filename free holds.bytes (own free ∙ holds.there)

    module _ (image : AddQcow2 (List ℕ)) (file : InlineFile (List ℕ)) (e : c.driver ≡ added.Qcow2 image) (f : image.file ≡ file_ref.Inline file)
        (name : file.filename ≡ at.filename) where
      expected : expects s c ≡ told_record (Some (length holds.bytes)) (Some (header_of holds.bytes).size)
          (first_stop (file_stop at.filename (length holds.bytes)) (unfit_image s.table c.node_name image (image_sight (Bytes holds.bytes))))
      expected = expects-image s c at.filename holds.bytes free known image file e f name

      inside-image : (now : Taken) (open_image : Known) (told : Told) → TellsAddedImage s.table c.node_name at.filename image first now open_image told
          → IsSeenAs s c told
      inside-image now open_image told tells =
          let its = tells.on.on.known holds.bytes holds.content in
          let fits : file_stop at.filename (length holds.bytes) ≡ None = rw (sym holds.size) tells.fits in
          let sight : image_sight (Bytes holds.bytes) ≡ opened_sight open_image.header = sight-open holds.bytes open_image.header its.sound its.header in
          seen-whole s c told
          (expected
          ∙ told-open s.table c.node_name at.filename image holds.bytes open_image.header first.size holds.size fits its.header sight
          ∙ sym tells.is)

      inside-long : (now : Taken) (told : Told) → TellsLong at.filename first now told → IsSeenAs s c told
      inside-long now told tells =
          let long : file_stop at.filename (length holds.bytes) ≡ Some tells.stopped = rw (sym holds.size) tells.long in
          let is : tells.stopped ≡ record { look = look.File; refusal = refusal.File at.filename TooLong } =
          long-at at.filename (nat_lt 549755813888 first.size) tells.stopped tells.long in
          let told-stops : told.stopped ≡ Some tells.stopped = ap (λ (t : Told). t.stopped) tells.is in
          let stops : told.stopped ≡ Some (record { look = look.File; refusal = refusal.File at.filename TooLong }) = told-stops ∙ ap Some is in
          let expects-stops : (expects s c).stopped ≡ Some tells.stopped = ap (λ (t : Told). t.stopped) expected ∙ rw long refl in
          seen-stopped s c told look.File (refusal.File at.filename TooLong) stops (has-opened c image file e f).0 (inl (told-stops ∙ sym expects-stops))

      inside-refused : (now : Taken) (told : Told) → TellsRefusal at.filename first now told → IsSeenAs s c told
      inside-refused now told tells = by_io (is-io tells.on.cause)
        where
          stops : told.stopped ≡ Some (record { look = look.Image; refusal = tells.why })
          stops = ap (λ (t : Told). t.stopped) tells.is

          fits : file_stop at.filename (length holds.bytes) ≡ None
          fits = rw (sym holds.size) tells.fits

          expects-stops : (expects s c).stopped ≡ unfit_image s.table c.node_name image (image_sight (Bytes holds.bytes))
          expects-stops = ap (λ (t : Told). t.stopped) expected ∙ rw fits refl

          has : has_look look.Image (add_asks c) ≡ true
          has = (has-opened c image file e f).1

          by_io : ((n : ℕ) × (tells.on.cause ≡ stop.Io n)) ⊎ ((n : ℕ) → tells.on.cause ≢ stop.Io n) → IsSeenAs s c told
          by_io (inl io) =
              let why : tells.why ≡ refusal.Io (Dev first.number) io.0 = tells.on.is ∙ ap (unopened first.number) io.1 in
              seen-stopped s c told look.Image tells.why stops has
              (fails s c told look.Image tells.why stops (record {
                call = rw (e, f, name, free) refl;
                failure = rw why tt;
                reached = subst (IsReached (command.BlockdevAdd c) look.Image) (sym expects-stops)
                    (reach-image c (unfit_image s.table c.node_name image (image_sight (Bytes holds.bytes)))
                    (there-inside s.table c.node_name image (image_sight (Bytes holds.bytes))) (behind-inside s.table c.node_name image (image_sight (Bytes holds.bytes))));
              }))
          by_io (inr other) =
              let names : Names (image_refusal holds.bytes) tells.on.cause = tells.on.on.named holds.bytes holds.content in
              let found : option_map stop_for (image_refusal holds.bytes) ≡ Some tells.on.cause =
              named-stop (image_refusal holds.bytes) tells.on.cause tells.on.memory other names in
              let why : tells.why ≡ refusal.Image tells.on.cause = tells.on.is ∙ not-io first.number tells.on.cause other in
              let also : (expects s c).stopped ≡ Some (record { look = look.Image; refusal = refusal.Image tells.on.cause }) = expects-stops ∙ rw found refl in
              seen-stopped s c told look.Image tells.why stops has
              (inl (stops ∙ ap (λ (r : Refusal). Some (record { look = look.Image; refusal = r })) why ∙ sym also))

    -- what it tells, by the driver
    seen-tells : (now : Taken) (image : Option Known) (told : Told) → TellsAddition s.table c.node_name at.filename c.driver first now image told
        → OpensAs c at → IsSeenAs s c told
    seen-tells now image told tells (AsFile e what) =
        let its : TellsLength (file_stop at.filename first.size) first now image told =
        subst (λ (d : Added (List ℕ)). TellsAddition s.table c.node_name at.filename d first now image told) e tells in
        seen-whole s c told (expects-file s c at.filename holds.bytes free known e ∙ rw (← holds.size) refl ∙ sym its.is)
    seen-tells now image told tells (AsPart raw file e f name what) =
        let its : TellsLength (raw_stop at.filename raw first.size) first now image told =
        subst (λ (d : Added (List ℕ)). TellsAddition s.table c.node_name at.filename d first now image told) e tells in
        seen-whole s c told (expects-part s c at.filename holds.bytes free known raw file e f name ∙ rw (← holds.size) refl ∙ sym its.is)
    seen-tells now image told tells (AsImage added' file e f name what) =
        by_image image (subst (λ (d : Added (List ℕ)). TellsAddition s.table c.node_name at.filename d first now image told) e tells)
      where
        by_image : (found : Option Known) → TellsInside s.table c.node_name at.filename added' first now found told → IsSeenAs s c told
        by_image (Some open_image) its = inside-image added' file e f name now open_image told its
        by_image None (inl long) = inside-long added' file e f name now told long
        by_image None (inr why) = inside-refused added' file e f name now told why

  -- what was seen may be told
  pub seen-looks : (out : Option Taken) (image : Option Known) (told : Told) → Looks s.table c at old new out image told → IsSeenAs s c told
  seen-looks out image told (inl looks) = by_away looks.0.away
    where
      by_away : (rules.refusal_to s.table (probe at.what) (command.BlockdevAdd c) ≢ Some refusal.Aborted) ⊎ (is_unopened s.table at.filename ≡ true) → IsSeenAs s c told
      by_away (inl not) =
          seen-unreached s c told at.what (looks-as c at opener) (has-at c at opener) not
          (subst (λ (a : Told). IsFrom (order_of at.what) a.stopped) (sym looks.0.is) tt) (expects-from opener)
      by_away (inr closed) = seen-whole s c told (expects-closed s c at opener closed ∙ sym looks.0.is)
  seen-looks None image told (inr looks) = in-vain told looks.1 looks.0
  seen-looks (Some now) image told (inr looks) =
      let inside = looks.0 in
      seen-tells looks.1 inside.first (holds-file old new files at.filename inside.first told-files inside.out) now image told inside.tells opener
