-- Why a call of an addition failed: its count rose in this event, and the addition calls it.
use Rattle.std.proofs.Common.{◌≡◌, ◌⊎◌, ℕ, ◌+◌, ◌<◌, ◌≤◌, Bool, true, false, List, [], ◌∷◌, ◌++◌, length, map, drop, inl, inr, refl, sym, ◌∙◌, ap, subst, arith, Option, Some, None}
use Rattle.std.specs.Prelude.{if◌then◌else◌, option_and_then, option_map, slice_get}
use Rattle.std.proofs.lemmas.Option.{slice_get-map}
use Rattle.blk_base.specs.Counts.{HasFailedSince, Rose}
use Rattle.blk_base.specs.declared.fault.DevNo.{DevNo}
use Rattle.blk_base.specs.declared.fault.FaultFrom.TheVariants.{Dev}
use Rattle.blk_base.specs.declared.file.Opened.{Opened}
use Rattle.blk_graph.proofs.Members.{find-Some}
use Rattle.q2_image.specs.Image.{Known}
use Rattle.q2_image.specs.declared.stop.ImageStop.TheVariants as stop
use Rattle.blk_nodes.specs.Nodes.{DeviceSeen, Nodes, device_in, is_device_of}
use Rattle.blk_nodes.specs.Overlays.{IsUnopenedOn}
use Rattle.blk_nodes.specs.Reading.{HasRisen, HaveRisen}
use Rattle.qmp_codec.specs.Commands.{Cmd}
use Rattle.qmp_codec.specs.declared.command.Command.TheVariants as command
use Rattle.qmp_codec.specs.declared.nodes.AddQcow2.{AddQcow2}
use Rattle.qmp_codec.specs.declared.nodes.AddRaw.{AddRaw}
use Rattle.qmp_codec.specs.declared.nodes.Added.{Added}
use Rattle.qmp_codec.specs.declared.nodes.Added.TheVariants as added
use Rattle.qmp_codec.specs.declared.nodes.FileRef.{FileRef}
use Rattle.qmp_codec.specs.declared.nodes.FileRef.TheVariants as file_ref
use Rattle.qmp_codec.specs.declared.nodes.InlineFile.{InlineFile}
use Rattle.qmp_rules.specs.Answers.{refusal_to}
use Rattle.qmp_rules.specs.Asks.{file_node, is_file}
use Rattle.qmp_rules.specs.Looks.{file_stop, unfit_image, is_unopened, raw_stop, part_look}
use Rattle.qmp_rules.specs.Table.{RunTable, id_named, node_named}
use Rattle.qmp_rules.specs.declared.refusal.Refusal.{Refusal}
use Rattle.qmp_rules.specs.declared.refusal.Refusal.TheVariants as refusal
use Rattle.qmp_rules.specs.declared.rows.NodeRecord.{NodeRecord}
use Rattle.qmp_asks.specs.declared.look.Look.{Look}
use Rattle.qmp_asks.specs.declared.look.Look.TheVariants as look
use Rattle.qmp_rules.specs.declared.told.Stopped.{Stopped}
use Rattle.qmp_rules.specs.declared.told.Told.{Told}
use Rattle.world_parts.specs.Adding.{Adding, CountFits, HasOpeningFailed, IsAbsent, IsTakenOut, Looks, LooksBadly, LooksUnder, Opens, Taken, LooksAtFile, LooksInVain, TellsAddition, TellsInside, TellsLength, look_in_vain, of_node, opened_sight, put_back, unopened}
use Rattle.world_parts.specs.Carrying.{IsCaused, is_io_refusal}
use Rattle.world_parts.specs.Coherent.{IsCoherent}
use Rattle.world_parts.specs.Counting.{RunsOn, counts_within}
use Rattle.world_parts.specs.Face.{WorldSeen, count_of_opening, counts_now, first_counts}
use Rattle.world_additions.specs.Additions.{AreIn}
use Rattle.world_parts.specs.Looking.{HasLooked, LooksAtImage, LooksAtPart, LooksBy, LooksIn, LooksOut, Site, site}
use Rattle.world_parts.specs.Staging.{back_if, opened_name, site_of, store_of}
use Rattle.world_parts.specs.Stores.{StoreInRun}
use Rattle.world_additions.proofs.AddFailed.{calm-inside, calm-long, calm-not, calm-part, NamesNoFailedCall, refused-of, unopened-of}
use Rattle.world_additions.proofs.AddImages.{opened-risen}
use Rattle.world_additions.proofs.AddOut.{get-last}
use Rattle.world_additions.proofs.AddRuns.{back-is, closed-opening}
use Rattle.world_parts.proofs.CountsKept.{length-counts}
use Rattle.world_additions.proofs.CountsOpened.{one-behind}
use Rattle.world_parts.proofs.CountLemmas.{counts-at, out-same, reached-held, same-risen, with-of}

-- ---- counts of an opening that is over

file-named : (t : RunTable) (name : List ℕ) (row : NodeRecord) → file_node t name ≡ Some row → node_named t name ≡ Some row
file-named t name row is = by_row (node_named t name) refl is
  where
    by_kind : (found : NodeRecord) (b : Bool) → node_named t name ≡ Some found → (if b then Some found else None) ≡ Some row → node_named t name ≡ Some row
    by_kind found false there h = absurd (let bad : ⊥ = cc h in bad)
    by_kind found true there h = there ∙ h

    by_row : (found : Option NodeRecord) → node_named t name ≡ found
        → option_and_then (λ (r : NodeRecord). if is_file r then Some r else None) found ≡ Some row → node_named t name ≡ Some row
    by_row None there h = absurd (let bad : ⊥ = cc h in bad)
    by_row (Some found) there h = by_kind found (is_file found) there h

module _ (w v : WorldSeen) (c : Adding) (first_same : v.first_faults ≡ w.first_faults) (counted : w.first_faults ≤ w.faults)
    (coherent : IsCoherent w.table w.nodes w.opened w.progress) (runs : RunsOn w v) where
  abbrev cmd : Cmd
  cmd = command.BlockdevAdd c

  calm : (cause : Refusal) → is_io_refusal cause ≡ false → IsCaused w v cmd cause
  calm (refusal.Io from count) call = absurd cc
  calm (refusal.NoSpace dev) call = absurd cc
  calm _ call = tt

  -- ---- the store failed

  store-failed : (now : StoreInRun) (filename : List ℕ) (why : Refusal) → HasOpeningFailed (store_of w) now filename why → v.faults ≡ now.faults → IsCaused w v cmd why
  store-failed now filename why failed same =
      let rose = failed.rose in
      let least = counted in
      let since : HasFailedSince v.first_faults now.faults = omega (arith, rose, least, first_same) in
      let again : HasFailedSince w.faults now.faults = omega (arith, rose) in
      let reached : now.faults ≤ v.faults = omega (arith, same) in
      rw failed.is
      (record {
        called = tt;
        numbered = tt;
        reached = record {
          rise = record { risen = since; reached = reached };
          new = record { risen = again; reached = reached };
          fits = failed.fits;
        };
      })

  -- ---- a device that was opened and is back

  module _ (q : AddQcow2 (List ℕ)) (file : InlineFile (List ℕ)) (e : c.driver ≡ added.Qcow2 q) (f : q.file ≡ file_ref.Inline file)
      (opening : Opened) (opened : v.opened ≡ w.opened ++ opening ∷ []) (number : DevNo) (is : number ≡ record { 0 = length w.opened }) (n : ℕ)
      (back : opening.returned ≡ Some n) (rose : Rose opening.faults n) (fits : n ≤ 18446744073709551615) where
    since : HasFailedSince opening.faults n
    since = omega (arith, rose)

    at : number.0 ≡ length w.opened
    at = ap (λ (d : DevNo). d.0) is

    there : slice_get v.opened (length w.opened) ≡ Some opening
    there = ap (λ (l : List Opened). slice_get l (length w.opened)) opened ∙ get-last w.opened opening

    first : slice_get (first_counts v).devices number.0 ≡ Some opening.faults
    first =
        ap (slice_get (map (λ (o : Opened). o.faults) v.opened)) at ∙ slice_get-map (λ (o : Opened). o.faults) v.opened (length w.opened)
        ∙ ap (option_map (λ (o : Opened). o.faults)) there

    now-count : slice_get (counts_now v).devices number.0 ≡ Some n
    now-count =
        let count : count_of_opening v.nodes.devices (0 + length w.opened) opening ≡ n = rw back refl in
        ap (slice_get (counts_now v).devices) at ∙ counts-at v.nodes.devices v.opened 0 (length w.opened) opening there ∙ ap Some count

    within : slice_get (counts_within w v).devices number.0 ≡ Some opening.faults
    within =
        let long : number.0 ≡ length (counts_now w).devices = at ∙ sym (length-counts w.nodes.devices 0 w.opened) in
        let behind : drop (length w.opened) (first_counts v).devices ≡ opening.faults ∷ [] =
        ap (λ (l : List Opened). drop (length w.opened) (map (λ (o : Opened). o.faults) l)) opened ∙ one-behind w.opened opening in
        ap (slice_get (counts_within w v).devices) long ∙ ap (λ (l : List ℕ). slice_get ((counts_now w).devices ++ l) (length (counts_now w).devices)) behind
        ∙ get-last (counts_now w).devices opening.faults

    out-failed : number.0 < 4294967296 → IsCaused w v cmd (refusal.Io (Dev number) n)
    out-failed small = record {
      called = rw (e, f) (at ∙ sym (length-counts w.nodes.devices 0 w.opened));
      numbered = small;
      reached = record {
        rise = record {
          risen = with-of (slice_get (first_counts v).devices number.0) opening.faults (λ before. HasFailedSince before n) first since;
          reached = with-of (slice_get (counts_now v).devices number.0) n (λ now. n ≤ now) now-count (omega arith);
        };
        new = record {
          risen = with-of (slice_get (counts_within w v).devices number.0) opening.faults (λ before. HasFailedSince before n) within since;
          reached = with-of (slice_get (counts_now v).devices number.0) n (λ now. n ≤ now) now-count (omega arith);
        };
        fits = fits;
      };
    }

  -- ---- the device of a `file` node

  module _ (q : AddQcow2 (List ℕ)) (name : List ℕ) (e : c.driver ≡ added.Qcow2 q) (f : q.file ≡ file_ref.Name name) (told : Told) (y : Nodes)
      (same_nodes : v.nodes ≡ y) (badly : LooksBadly w.table c name w.nodes y told) (opened : v.opened ≡ w.opened) (risen : HaveRisen w.nodes.devices y.devices) (n : ℕ)
      (io : badly.cause ≡ stop.Io n) where
    same : badly.stopped.before ≡ badly.device
    same = let both : Some badly.stopped.before ≡ Some badly.device = sym badly.stopped.held ∙ badly.held in cc both

    after : HasRisen badly.device badly.stopped.after
    after =
        let later = opened-risen w.nodes.devices y.devices risen badly.node badly.device badly.held in
        let both : Some later.0 ≡ Some badly.stopped.after = sym later.1 ∙ badly.stopped.left in
        let one : later.0 ≡ badly.stopped.after = cc both in
        subst (HasRisen badly.device) one later.2

    on : IsUnopenedOn badly.device badly.stopped.after (stop.Io n)
    on =
        subst (IsUnopenedOn badly.device badly.stopped.after) io
        (subst (λ (d : DeviceSeen). IsUnopenedOn d badly.stopped.after badly.cause) same badly.stopped.on)

    node-failed : IsCaused w v cmd (refusal.Io (Dev badly.device.number) n)
    node-failed =
        let fits : n ≤ 18446744073709551615 = subst CountFits io badly.fits in
        let found = find-Some (is_device_of badly.node) w.nodes.devices badly.device badly.held in
        let left : device_in v.nodes.devices badly.node ≡ Some badly.stopped.after = ap (λ (m : Nodes). device_in m.devices badly.node) same_nodes ∙ badly.stopped.left in
        let found_now = find-Some (is_device_of badly.node) v.nodes.devices badly.stopped.after left in
        let number : badly.stopped.after.number ≡ badly.device.number = ap (λ (d : DeviceSeen). d.number) after.same in
        let risen_v : HaveRisen w.nodes.devices v.nodes.devices = subst (λ (m : Nodes). HaveRisen w.nodes.devices m.devices) (sym same_nodes) risen in
        let out_now = out-same w.table w.nodes v.nodes w.opened (same-risen w.nodes.devices v.nodes.devices risen_v) coherent.out in
        let id : id_named w.table name ≡ Some badly.node =
        ap (option_map (λ (r : NodeRecord). r.id)) (file-named w.table name badly.free.row badly.free.named) ∙ ap Some badly.free.is in
        let device : option_map (λ (d : DeviceSeen). d.number.0) (device_in w.nodes.devices badly.node) ≡ Some badly.device.number.0 =
        ap (option_map (λ (d : DeviceSeen). d.number.0)) badly.held in
        record {
          called = rw (e, f, id) device;
          numbered = badly.numbered;
          reached = reached-held w v badly.device badly.stopped.after n runs opened coherent.out out_now found.0 found_now.0 number
              (record { named = refl; rose = on.cause.0; now = on.cause.1 }) fits;
        }

  -- ---- by what was looked at

  module _ (told : Told) (now : Site) (out : Option Taken) (image : Option Known) (closed : AreIn w.table w.opened)
      (put : site_of v ≡ site (back_if c.driver out now.store) now.nodes) (cause : Refusal) (stopped : Stopped) (stops : told.stopped ≡ Some stopped)
      (is_cause : stopped.refusal ≡ cause) where
    calm-by : (found : Option Stopped) → told.stopped ≡ found → NamesNoFailedCall found → IsCaused w v cmd cause
    calm-by found is quiet = calm cause (ap is_io_refusal (sym is_cause) ∙ calm-not told found is quiet stopped stops)

    no-stop : told.stopped ≡ None → IsCaused w v cmd cause
    no-stop none = calm-by None none tt

    -- it is this one
    cause-is : (what : Look) (why : Refusal) → told.stopped ≡ Some (record { look = what; refusal = why }) → why ≡ cause
    cause-is what why is =
        let both : Some stopped ≡ Some (record { look = what; refusal = why }) = sym stops ∙ is in
        let one : stopped ≡ record { look = what; refusal = why } = cc both in
        sym (ap (λ (s : Stopped). s.refusal) one) ∙ is_cause

    by-inside : (q : AddQcow2 (List ℕ)) (file : InlineFile (List ℕ)) → c.driver ≡ added.Qcow2 q → q.file ≡ file_ref.Inline file
        → (first device : Taken) → out ≡ Some device → IsTakenOut (store_of w) now.store file.filename first → is_unopened w.table file.filename ≡ false
        → opened_name c.driver ≡ file.filename → (found : Option Known) → TellsInside w.table c.node_name file.filename q first device found told → IsCaused w v cmd cause
    by-inside q file e f begun device is taken free name_is (Some open_image) its =
        calm-by (unfit_image w.table c.node_name q (opened_sight open_image.header)) (ap (λ (a : Told). a.stopped) its.is)
        (calm-inside w.table c.node_name q (opened_sight open_image.header))
    by-inside q file e f begun device is taken free name_is None (inl long) =
        calm-by (file_stop file.filename begun.size) (ap (λ (a : Told). a.stopped) long.is ∙ sym long.long) (calm-long file.filename _)
    by-inside q file e f begun device is taken free name_is None (inr why) = by_stop (unopened-of begun.number why.on.cause)
      where
        here : why.why ≡ cause
        here = cause-is look.Image why.why (ap (λ (a : Told). a.stopped) why.is)

        by_stop : ((n : ℕ) × (why.on.cause ≡ stop.Io n) × (unopened begun.number why.on.cause ≡ refusal.Io (Dev begun.number) n))
            ⊎ (is_io_refusal (unopened begun.number why.on.cause) ≡ false) → IsCaused w v cmd cause
        by_stop (inr quiet) = calm cause (ap is_io_refusal (sym here ∙ why.on.is) ∙ quiet)
        by_stop (inl io) =
            let on = subst (IsUnopenedOn (of_node 0 begun) (of_node 0 device)) io.1 why.on.on in
            let inside = closed file.filename free in
            let store : store_of v ≡ put_back file.filename device now.store =
            ap (λ (y : Site). y.store) put ∙ ap (λ (o : Option Taken). back_if c.driver o now.store) is
            ∙ ap (λ (name : List ℕ). put_back name device now.store) name_is in
            let opened : v.opened ≡ w.opened ++ closed-opening (store_of w) now.store file.filename begun device taken why.on.kept inside ∷ [] =
            ap (λ (s : StoreInRun). s.opened) (store ∙ back-is (store_of w) now.store file.filename begun device taken why.on.kept inside) in
            let back : Some device.faults ≡ Some io.0 = ap Some (sym on.cause.1) in
            subst (IsCaused w v cmd) (sym io.2 ∙ sym why.on.is ∙ here)
            (out-failed q file e f (closed-opening (store_of w) now.store file.filename begun device taken why.on.kept inside) opened begun.number taken.number io.0
            back on.cause.0 (subst CountFits io.1 why.on.fits) why.on.numbered)

    by-vain : (at : Opens) → out ≡ None → LooksInVain at (store_of w) now.store told → IsCaused w v cmd cause
    by-vain at none vain = by_why vain.cause
      where
        here : vain.why ≡ cause
        here = cause-is (look_in_vain at.what vain.why) vain.why (ap (λ (a : Told). a.stopped) vain.is)

        same : v.faults ≡ now.store.faults
        same = ap (λ (y : Site). y.store.faults) put ∙ ap (λ (o : Option Taken). (back_if c.driver o now.store).faults) none

        by_why : IsAbsent (store_of w) now.store at.filename vain.why ⊎ HasOpeningFailed (store_of w) now.store at.filename vain.why → IsCaused w v cmd cause
        by_why (inl absent) = calm cause (ap is_io_refusal (sym here ∙ absent.is))
        by_why (inr failed) = subst (IsCaused w v cmd) here (store-failed now.store at.filename vain.why failed same)

    by-store : (at : Opens)
        → ((first device : Taken) → out ≡ Some device → IsTakenOut (store_of w) now.store at.filename first → is_unopened w.table at.filename ≡ false
        → TellsAddition w.table c.node_name at.filename c.driver first device image told → IsCaused w v cmd cause)
        → LooksOut w.table c at (site_of w) now out image told → IsCaused w v cmd cause
    by-store at inside looks = by_looks looks.looks
      where
        by_out : (found : Option Taken) → out ≡ found → LooksAtFile w.table c at (store_of w) now.store found image told
            → is_unopened w.table at.filename ≡ false → IsCaused w v cmd cause
        by_out (Some device) is its free = inside its.first device is its.out free its.tells
        by_out None is vain free = by-vain at is vain

        by_looks : Looks w.table c at (store_of w) now.store out image told → IsCaused w v cmd cause
        by_looks (inl away) = no-stop (ap (λ (a : Told). a.stopped) away.0.is)
        by_looks (inr its) = by_out out refl its.0 its.1

    by-under : (q : AddQcow2 (List ℕ)) (name : List ℕ) → c.driver ≡ added.Qcow2 q → q.file ≡ file_ref.Name name
        → LooksIn w.table c q name (site_of w) now out image told → IsCaused w v cmd cause
    by-under q name e f looks = by_image image looks.looks
      where
        same_nodes : v.nodes ≡ now.nodes
        same_nodes = ap (λ (y : Site). y.nodes) put

        opened : v.opened ≡ w.opened
        opened =
            ap (λ (y : Site). y.store.opened) put ∙ ap (λ (o : Option Taken). (back_if c.driver o now.store).opened) looks.none
            ∙ ap (λ (s : StoreInRun). s.opened) looks.kept

        by_badly : LooksBadly w.table c name w.nodes now.nodes told → IsCaused w v cmd cause
        by_badly badly = by_stop (unopened-of badly.device.number badly.cause)
          where
            here : unopened badly.device.number badly.cause ≡ cause
            here = cause-is look.Image (unopened badly.device.number badly.cause) (ap (λ (a : Told). a.stopped) badly.is)

            by_stop : ((n : ℕ) × (badly.cause ≡ stop.Io n) × (unopened badly.device.number badly.cause ≡ refusal.Io (Dev badly.device.number) n))
                ⊎ (is_io_refusal (unopened badly.device.number badly.cause) ≡ false) → IsCaused w v cmd cause
            by_stop (inr quiet) = calm cause (ap is_io_refusal (sym here) ∙ quiet)
            by_stop (inl io) =
                subst (IsCaused w v cmd) (sym io.2 ∙ here)
                (node-failed q name e f told now.nodes same_nodes badly opened looks.called.risen io.0 io.1)

        by_image : (found : Option Known) → LooksUnder w.table c q name w.nodes now.nodes found told → IsCaused w v cmd cause
        by_image (Some open_image) well =
            calm-by (unfit_image w.table c.node_name q (opened_sight open_image.header)) (ap (λ (a : Told). a.stopped) well.is)
            (calm-inside w.table c.node_name q (opened_sight open_image.header))
        by_image None (inl past) = no-stop (ap (λ (a : Told). a.stopped) past.is)
        by_image None (inr badly) = by_badly badly

    by-part : (raw : AddRaw (List ℕ)) (file : FileRef (List ℕ)) → c.driver ≡ added.Raw raw → LooksAtPart w.table c (part_look raw) file (site_of w) now out image told → IsCaused w v cmd cause
    by-part raw (file_ref.Name name) e looks = no-stop (ap (λ (a : Told). a.stopped) looks.is)
    by-part raw (file_ref.Inline file) e looks =
        by-store (record { filename = file.filename; what = part_look raw })
        (λ first device is taken free tells.
        let its : TellsLength (raw_stop file.filename raw first.size) first device image told =
        subst (λ (d : Added (List ℕ)). TellsAddition w.table c.node_name file.filename d first device image told) e tells in
        calm-by (raw_stop file.filename raw first.size) (ap (λ (a : Told). a.stopped) its.is) (calm-part file.filename raw first.size))
        looks

    by-image : (q : AddQcow2 (List ℕ)) (file : FileRef (List ℕ)) → c.driver ≡ added.Qcow2 q → q.file ≡ file
        → LooksAtImage w.table c q file (site_of w) now out image told → IsCaused w v cmd cause
    by-image q (file_ref.Name name) e f looks = by-under q name e f looks
    by-image q (file_ref.Inline file) e f looks =
        by-store (record { filename = file.filename; what = look.File })
        (λ first device is taken free tells.
        let its : TellsInside w.table c.node_name file.filename q first device image told =
        subst (λ (d : Added (List ℕ)). TellsAddition w.table c.node_name file.filename d first device image told) e tells in
        by-inside q file e f first device is taken free (rw (e, f) refl) image its)
        looks

    by-driver : (driver : Added (List ℕ)) → c.driver ≡ driver → LooksBy w.table c driver (site_of w) now out image told → IsCaused w v cmd cause
    by-driver (added.File filename) e looks =
        by-store (record { filename = filename; what = look.File })
        (λ first device is taken free tells.
        let its : TellsLength (file_stop filename first.size) first device image told =
        subst (λ (d : Added (List ℕ)). TellsAddition w.table c.node_name filename d first device image told) e tells in
        calm-by (file_stop filename first.size) (ap (λ (a : Told). a.stopped) its.is) (calm-long filename _))
        looks
    by-driver (added.Raw raw) e looks = by-part raw raw.file e looks
    by-driver (added.Qcow2 q) e looks = by-image q q.file e refl looks
    by-driver (added.CopyOnRead child) e looks = no-stop (ap (λ (a : Told). a.stopped) looks.is)
    by-driver added.Unknown e looks = no-stop (ap (λ (a : Told). a.stopped) looks.is)

  pub causes : (now : Site) (out : Option Taken) (image : Option Known) (told : Told) → AreIn w.table w.opened → HasLooked w.table c (site_of w) now out image told
      → site_of v ≡ site (back_if c.driver out now.store) now.nodes → (cause : Refusal) → refusal_to w.table told cmd ≡ Some cause → IsCaused w v cmd cause
  causes now out image told closed looked put cause is = elim (refused-of w.table told c cause is) [
    | inl quiet ↦ calm cause quiet
    | inr its ↦ by-driver told now out image closed put cause its.0 its.1 its.2 c.driver refl looked
  ]
