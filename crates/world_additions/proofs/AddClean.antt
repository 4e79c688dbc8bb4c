-- What is told of files for an addition says nothing of bitmaps, and is stopped by what files may refuse.
use Rattle.std.proofs.Common.{◌≡◌, ◌⊎◌, ℕ, Bool, true, false, List, [], inl, inr, sym, ap, subst, Option, Some, None}
use Rattle.std.specs.Prelude.{codes, is_none, nat_lt, not, ◌==◌, ◌&&◌, ◌||◌, option_and_then, option_map}
use Rattle.blk_base.specs.declared.fault.DevNo.{DevNo}
use Rattle.q2_image.specs.Image.{Known}
use Rattle.q2_image.specs.declared.stop.ImageStop.{ImageStop}
use Rattle.q2_image.specs.declared.stop.ImageStop.TheVariants as stop
use Rattle.qmp_codec.specs.declared.nodes.AddQcow2.{AddQcow2}
use Rattle.qmp_codec.specs.declared.nodes.AddRaw.{AddRaw}
use Rattle.qmp_codec.specs.declared.nodes.Added.{Added}
use Rattle.qmp_codec.specs.declared.nodes.Added.TheVariants as added
use Rattle.qmp_codec.specs.declared.nodes.FileRef.{FileRef}
use Rattle.qmp_codec.specs.declared.nodes.FileRef.TheVariants as file_ref
use Rattle.qmp_rules.specs.Asks.{if_there}
use Rattle.qmp_rules.specs.Looks.{ImageSight, unfit_image, raw_stop, stop_at, told_record, too_long, part_look}
use Rattle.qmp_asks.specs.NodeAsks.{backing_name}
use Rattle.qmp_rules.specs.Refusals.{refused}
use Rattle.qmp_rules.specs.Table.{RunTable, node_named}
use Rattle.qmp_asks.specs.Values.{begins_within, ends_within, part_fits}
use Rattle.qmp_rules.specs.declared.refusal.Refusal.TheVariants as refusal
use Rattle.qmp_rules.specs.declared.rows.NodeRecord.{NodeRecord}
use Rattle.qmp_asks.specs.declared.look.Look.{Look}
use Rattle.qmp_asks.specs.declared.look.Look.TheVariants as look
use Rattle.qmp_rules.specs.declared.told.Stopped.{Stopped}
use Rattle.qmp_rules.specs.declared.told.Told.{Told}
use Rattle.world_parts.specs.Adding.{Adding, HasOpeningFailed, IsAbsent, Looks, LooksUnder, Opens, Taken, TellsAddition, TellsInside, opened_sight, unopened}
use Rattle.world_parts.specs.Carrying.{IsOfFiles, StopsByFiles}
use Rattle.world_parts.specs.Looking.{HasLooked, LooksAtImage, LooksAtPart, LooksBy, Site}
use Rattle.world_parts.specs.Stores.{StoreInRun}
use Rattle.blk_nodes.specs.Nodes.{Nodes}

-- ---- refusals of files

by-files : (length size : Option ℕ) (stopped : Option Stopped) (told : Told) → told ≡ told_record length size stopped → StopsByFiles stopped
    → (told.dirty ≡ []) × StopsByFiles told.stopped
by-files length size stopped told is by = (ap (λ (a : Told). a.dirty) is, subst (λ (a : Told). StopsByFiles a.stopped) (sym is) by)

files-three : (name : List ℕ) (a b d : Bool) → StopsByFiles (stop_at look.Begin (refused a (refusal.BadValue (codes "offset")))
    (stop_at look.End (refused b (refusal.BadValue (codes "size"))) (stop_at look.File (too_long name d) None)))
files-three name true b d = tt
files-three name false true d = tt
files-three name false false true = tt
files-three name false false false = tt

files-long : (name : List ℕ) (b : Bool) → StopsByFiles (stop_at look.File (too_long name b) None)
files-long name true = tt
files-long name false = tt

files-part : (name : List ℕ) (raw : AddRaw (List ℕ)) (n : ℕ) → StopsByFiles (raw_stop name raw n)
files-part name raw n =
    files-three name (not (begins_within raw.offset n)) (not (ends_within raw.offset raw.size n))
    (nat_lt 549755813888 n || not (part_fits raw.offset raw.size n))

files-size : (name : List ℕ) (size : ℕ) (found : Option NodeRecord)
    → StopsByFiles (stop_at look.Size (if_there (λ row. refused (not (row.size == size)) (refusal.SizeDiffers name row.name)) found) None)
files-size name size None = tt
files-size name size (Some row) = by_test (not (row.size == size))
  where
    by_test : (b : Bool) → StopsByFiles (stop_at look.Size (refused b (refusal.SizeDiffers name row.name)) None)
    by_test true = tt
    by_test false = tt

files-backing : (name : List ℕ) (b : Bool) (later : Option Stopped) → StopsByFiles later
    → StopsByFiles (stop_at look.Backing (refused b (refusal.BackingNeeded name)) later)
files-backing name true later by = tt
files-backing name false later by = by

files-image : (name : List ℕ) (cause : Option ImageStop) (later : Option Stopped) → StopsByFiles later
    → StopsByFiles (stop_at look.Image (option_map refusal.Image cause) later)
files-image name (Some cause) later by = tt
files-image name None later by = by

files-inside : (t : RunTable) (name : List ℕ) (c : AddQcow2 (List ℕ)) (sight : ImageSight) → StopsByFiles (unfit_image t name c sight)
files-inside t name c sight =
    files-image name sight.stop _
    (files-backing name (sight.names_backing && is_none c.backing) _
    (files-size name sight.size (option_and_then (node_named t) (backing_name c.backing))))

files-unopened : (number : DevNo) (cause : ImageStop) → IsOfFiles (unopened number cause)
files-unopened number (stop.Io count) = tt
files-unopened number (stop.Header why) = tt
files-unopened number (stop.Offset offset) = tt
files-unopened number (stop.Reserved table index) = tt
files-unopened number (stop.Compressed cluster) = tt
files-unopened number (stop.Overlap cluster) = tt
files-unopened number (stop.Refcount cluster) = tt
files-unopened number stop.HeaderFull = tt
files-unopened number stop.NoMemory = tt

-- ---- what is told

module _ (t : RunTable) (node filename : List ℕ) (first now : Taken) (told : Told) where
  clean-inside : (c : AddQcow2 (List ℕ)) (image : Option Known) → TellsInside t node filename c first now image told → (told.dirty ≡ []) × StopsByFiles told.stopped
  clean-inside c (Some image) is = by-files _ _ _ told is.is (files-inside t node c (opened_sight image.header))
  clean-inside c None (inl long) =
      by-files _ _ _ told long.is (subst StopsByFiles long.long (files-long filename (nat_lt 549755813888 first.size)))
  clean-inside c None (inr why) = by-files _ _ _ told why.is (subst IsOfFiles (sym why.on.is) (files-unopened first.number why.on.cause))

  clean-tells : (driver : Added (List ℕ)) (image : Option Known) → TellsAddition t node filename driver first now image told → (told.dirty ≡ []) × StopsByFiles told.stopped
  clean-tells (added.File own) image is = by-files _ _ _ told is.is (files-long filename (nat_lt 549755813888 first.size))
  clean-tells (added.Raw raw) image is = by-files _ _ _ told is.is (files-part filename raw first.size)
  clean-tells (added.Qcow2 c) image is = clean-inside c image is
  clean-tells (added.CopyOnRead own) image is = by-files _ _ _ told is.is tt
  clean-tells added.Unknown image is = by-files _ _ _ told is.is tt

module _ (t : RunTable) (c : Adding) (told : Told) where
  clean-out : (at : Opens) (old now : StoreInRun) (out : Option Taken) (image : Option Known) → Looks t c at old now out image told
      → (told.dirty ≡ []) × StopsByFiles told.stopped
  clean-out at old now out image (inl away) = by-files None None None told away.0.is tt
  clean-out at old now None image (inr looks) = by-files _ _ _ told looks.0.is (by_cause looks.0.cause)
    where
      by_cause : IsAbsent old now at.filename looks.0.why ⊎ HasOpeningFailed old now at.filename looks.0.why → IsOfFiles looks.0.why
      by_cause (inl absent) = subst IsOfFiles (sym absent.is) tt
      by_cause (inr failed) = subst IsOfFiles (sym failed.is) tt
  clean-out at old now (Some device) image (inr looks) = clean-tells t c.node_name at.filename looks.0.first device told c.driver image looks.0.tells

  clean-under : (q : AddQcow2 (List ℕ)) (file : List ℕ) (old now : Nodes) (image : Option Known) → LooksUnder t c q file old now image told
      → (told.dirty ≡ []) × StopsByFiles told.stopped
  clean-under q file old now (Some image) looks = by-files _ _ _ told looks.is (files-inside t c.node_name q (opened_sight image.header))
  clean-under q file old now None (inl past) = by-files None None None told past.is tt
  clean-under q file old now None (inr badly) = by-files _ _ _ told badly.is (files-unopened badly.device.number badly.cause)

  clean-part : (what : Look) (file : FileRef (List ℕ)) (old now : Site) (out : Option Taken) (image : Option Known) → LooksAtPart t c what file old now out image told
      → (told.dirty ≡ []) × StopsByFiles told.stopped
  clean-part what (file_ref.Name name) old now out image looks = by-files None None None told looks.is tt
  clean-part what (file_ref.Inline file) old now out image looks =
      clean-out (record { filename = file.filename; what = what }) old.store now.store out image looks.looks

  clean-image : (q : AddQcow2 (List ℕ)) (file : FileRef (List ℕ)) (old now : Site) (out : Option Taken) (image : Option Known)
      → LooksAtImage t c q file old now out image told → (told.dirty ≡ []) × StopsByFiles told.stopped
  clean-image q (file_ref.Name name) old now out image looks = clean-under q name old.nodes now.nodes image looks.looks
  clean-image q (file_ref.Inline file) old now out image looks =
      clean-out (record { filename = file.filename; what = look.File }) old.store now.store out image looks.looks

  clean-by : (driver : Added (List ℕ)) (old now : Site) (out : Option Taken) (image : Option Known) → LooksBy t c driver old now out image told
      → (told.dirty ≡ []) × StopsByFiles told.stopped
  clean-by (added.File filename) old now out image looks =
      clean-out (record { filename = filename; what = look.File }) old.store now.store out image looks.looks
  clean-by (added.Raw raw) old now out image looks = clean-part (part_look raw) raw.file old now out image looks
  clean-by (added.Qcow2 q) old now out image looks = clean-image q q.file old now out image looks
  clean-by (added.CopyOnRead child) old now out image looks = by-files None None None told looks.is tt
  clean-by added.Unknown old now out image looks = by-files None None None told looks.is tt

  pub told-clean : (old now : Site) (out : Option Taken) (image : Option Known) → HasLooked t c old now out image told
      → (told.dirty ≡ []) × StopsByFiles told.stopped
  told-clean old now out image looks = clean-by c.driver old now out image looks
