-- An addition hides no fault: where a call of its looks failed, that is its answer, and no other count has risen.
use Rattle.std.proofs.Common.{◌≡◌, ◌⊎◌, ℕ, ◌==◌, Bool, true, false, cond, List, [], ◌∷◌, ◌++◌, length, inl, inr, refl, sym, ◌∙◌, ap, subst, arith, eq-eqb, Option, Some, None}
use Rattle.std.specs.Prelude.{IfSome}
use Rattle.std.proofs.lemmas.Bool.{eqb-true}
use Rattle.std.proofs.lemmas.Option.{same_Some, slice_get_within}
use Rattle.blk_base.specs.Calls.{FailsReading}
use Rattle.blk_base.specs.Device.{CountsFault}
use Rattle.blk_base.specs.Files.{is_out}
use Rattle.blk_base.specs.declared.device.DeviceCall.{DeviceCall}
use Rattle.blk_base.specs.declared.fault.DevNo.{DevNo}
use Rattle.blk_base.specs.declared.fault.FaultAt.{FaultAt}
use Rattle.blk_base.specs.declared.fault.FaultFrom.{FaultFrom}
use Rattle.blk_base.specs.declared.fault.FaultFrom.TheVariants.{Store, Dev}
use Rattle.blk_graph.proofs.Members.{find-Some}
use Rattle.q2_image.specs.Image.{Known}
use Rattle.q2_image.specs.Opening.{fault_in_image}
use Rattle.q2_image.specs.declared.stop.ImageStop.{ImageStop}
use Rattle.q2_image.specs.declared.stop.ImageStop.TheVariants as stop
use Rattle.blk_nodes.specs.Joined.{IsJoined}
use Rattle.blk_nodes.specs.Nodes.{DeviceSeen, Nodes, device_in}
use Rattle.blk_nodes.specs.Overlays.{KeptBy}
use Rattle.blk_nodes.specs.Reading.{HaveRisen, OnlyAt, StoppedAt}
use Rattle.qmp_codec.specs.Commands.{Cmd}
use Rattle.qmp_codec.specs.declared.command.Command.TheVariants as command
use Rattle.qmp_codec.specs.declared.nodes.AddQcow2.{AddQcow2}
use Rattle.qmp_codec.specs.declared.nodes.AddRaw.{AddRaw}
use Rattle.qmp_codec.specs.declared.nodes.Added.{Added}
use Rattle.qmp_codec.specs.declared.nodes.Added.TheVariants as added
use Rattle.qmp_codec.specs.declared.nodes.FileRef.{FileRef}
use Rattle.qmp_codec.specs.declared.nodes.FileRef.TheVariants as file_ref
use Rattle.qmp_codec.specs.declared.nodes.InlineFile.{InlineFile}
use Rattle.qmp_rules.specs.Answers.{refusal_to}
use Rattle.qmp_rules.specs.Looks.{file_stop, unfit_image, is_unopened, raw_stop, part_look}
use Rattle.qmp_rules.specs.Table.{RunTable}
use Rattle.qmp_rules.specs.declared.refusal.Refusal.{Refusal}
use Rattle.qmp_rules.specs.declared.refusal.Refusal.TheVariants as refusal
use Rattle.qmp_asks.specs.declared.look.Look.TheVariants as look
use Rattle.qmp_rules.specs.declared.told.Stopped.{Stopped}
use Rattle.qmp_rules.specs.declared.told.Told.{Told}
use Rattle.flat_machine.specs.Licence.{fault_at}
use Rattle.world_parts.specs.Adding.{Adding, HasOpeningFailed, IsAbsent, IsBackIfOut, IsLookReached, IsTakenOut, Looks, LooksAtFile, LooksBadly, LooksInVain, LooksUnder, Opens, Taken, TellsAddition, TellsInside, TellsRefusal, look_in_vain, of_node, opened_sight, opening_of, opens, put_back, unopened}
use Rattle.world_parts.specs.Carrying.{HasFailed as HasFailedIn, fault_named, is_io_refusal}
use Rattle.world_parts.specs.Coherent.{AreOut, IsWholeWorld}
use Rattle.world_parts.specs.Counting.{HidesNoFault, RunsOn}
use Rattle.world_parts.specs.Face.{WorldSeen, count_of_opening, counts_from, device_numbered}
use Rattle.world_parts.specs.Joining.{HasAdded}
use Rattle.world_additions.specs.Additions.{AreIn}
use Rattle.world_parts.specs.Looking.{HasLooked, LooksAtImage, LooksAtPart, LooksBy, LooksNowhere, Site, StoreIsBack, site}
use Rattle.world_parts.specs.Staging.{IsNotAdded, back_if, opened_name, site_of, store_of}
use Rattle.world_parts.specs.Stores.{StoreInRun}
use Rattle.world_additions.proofs.AddCause.{causes}
use Rattle.world_additions.proofs.AddCarried.{sited}
use Rattle.world_additions.proofs.AddClosed.{closed-in}
use Rattle.world_additions.proofs.AddFailed.{NamesNoFailedCall, calm-inside, calm-long, calm-not, calm-part, refused-of, unopened-of}
use Rattle.world_additions.proofs.AddKinds.{has-device, no-device-more}
use Rattle.world_additions.proofs.AddRefused.{has-named, image-told, looks-named, stop-told}
use Rattle.world_additions.proofs.AddRuns.{back-is, closed-opening, counts-more}
use Rattle.world_additions.proofs.AddSeen.{AsFile, AsImage, AsPart, OpensAs, has-at, looks-as}
use Rattle.world_parts.proofs.CarryPlain.{quiet_named}
use Rattle.world_parts.proofs.CountLemmas.{out-same, same-risen}
use Rattle.world_additions.proofs.CountsOpened.{hides-failed, hides-opened}
use Rattle.world_parts.proofs.CountsKept.{hides-same, hides-stopped, hides-store}
use Rattle.world_parts.proofs.NodesAfter.{same_in}

-- ---- stops of images

-- a read failed, or the count stands, and so does which call failed last
caused-or : (before now : ℕ) (last last_now : Option DeviceCall) (cause : ImageStop) → CountsFault (fault_in_image cause) before now
    → FailsReading (fault_in_image cause) last last_now → ((n : ℕ) × (cause ≡ stop.Io n)) ⊎ ((now ≡ before) × (last_now ≡ last))
caused-or before now last last_now (stop.Io n) caused call = inl (n, refl)
caused-or before now last last_now (stop.Header why) caused call = inr (caused, call)
caused-or before now last last_now (stop.Offset offset) caused call = inr (caused, call)
caused-or before now last last_now (stop.Reserved table index) caused call = inr (caused, call)
caused-or before now last last_now (stop.Compressed cluster) caused call = inr (caused, call)
caused-or before now last last_now (stop.Overlap cluster) caused call = inr (caused, call)
caused-or before now last last_now (stop.Refcount cluster) caused call = inr (caused, call)
caused-or before now last last_now stop.HeaderFull caused call = inr (caused, call)
caused-or before now last last_now stop.NoMemory caused call = inr (caused, call)

kept-or : (old new : List DeviceSeen) (cause : ImageStop) → KeptBy cause old new → ((n : ℕ) × (cause ≡ stop.Io n)) ⊎ (new ≡ old)
kept-or old new (stop.Io n) kept = inl (n, refl)
kept-or old new (stop.Header why) kept = inr kept
kept-or old new (stop.Offset offset) kept = inr kept
kept-or old new (stop.Reserved table index) kept = inr kept
kept-or old new (stop.Compressed cluster) kept = inr kept
kept-or old new (stop.Overlap cluster) kept = inr kept
kept-or old new (stop.Refcount cluster) kept = inr kept
kept-or old new stop.HeaderFull kept = inr kept
kept-or old new stop.NoMemory kept = inr kept

-- ---- what the looks came to

-- a device is out, and no call of it failed
pub record IsOutCalmly (name : List ℕ) (old now : Site) (out : Option Taken) : Type 0 where
  pub first : Taken
  pub is : out ≡ Some first
  pub taken : IsTakenOut old.store now.store name first
  pub inside : is_out name old.store.opened ≡ false
  pub nodes : now.nodes ≡ old.nodes

-- or none is, and all is as before
abbrev pub IsLookedCalmly : List ℕ → Site → Site → Option Taken → Type 0
IsLookedCalmly name old now out = ((out ≡ None) × (now ≡ old)) ⊎ IsOutCalmly name old now out

module _ (w : WorldSeen) (c : Adding) (told : Told) (now : Site) (out : Option Taken) where
  abbrev cmd : Cmd
  cmd = command.BlockdevAdd c

  -- files told something else than a failed call
  pub record IsCalmAll : Type 0 where
    pub stopped : NamesNoFailedCall told.stopped
    pub looked : IsLookedCalmly (opened_name c.driver) (site_of w) now out

  -- a call failed: that is the refusal, and once all is back no other count has risen
  pub record HasFailedSo : Type 0 where
    pub from : FaultFrom
    pub count : ℕ
    pub refuses : refusal_to w.table told cmd ≡ Some (refusal.Io from count)
    pub hides : (v : WorldSeen) → site_of v ≡ site (back_if c.driver out now.store) now.nodes → HidesNoFault w v (Some (fault_at from count))

  abbrev pub IsLookedOver : Type 0
  IsLookedOver = IsCalmAll ⊎ HasFailedSo

same-site : (old now : Site) → now.store ≡ old.store → now.nodes ≡ old.nodes → now ≡ old
same-site old now store nodes = ap (λ (s : StoreInRun). site s now.nodes) store ∙ ap (site old.store) nodes

module _ (w : WorldSeen) (whole : IsWholeWorld w) (joined : IsJoined w.nodes) (c : Adding) (told : Told) (now : Site) (out : Option Taken)
    (closed : AreIn w.table w.opened) where
  abbrev cmd' : Cmd
  cmd' = command.BlockdevAdd c

  -- nothing was called
  still : told.stopped ≡ None → out ≡ None → now ≡ site_of w → IsLookedOver w c told now out
  still stopped none same = inl (record { stopped = subst NamesNoFailedCall (sym stopped) tt; looked = inl (none, same) })

  calm-as : (found : Option Stopped) → told.stopped ≡ found → NamesNoFailedCall found → IsLookedCalmly (opened_name c.driver) (site_of w) now out
      → IsLookedOver w c told now out
  calm-as found is calm looked = inl (record { stopped = subst NamesNoFailedCall (sym is) calm; looked = looked })

  -- ---- a file of the store

  module _ (at : Opens) (opener : OpensAs c at) (named : opened_name c.driver ≡ at.filename) (nodes : now.nodes ≡ w.nodes) where
    -- the device is that which was opened
    out-as : (first : Taken) → out ≡ Some first → IsTakenOut (store_of w) now.store at.filename first → is_unopened w.table at.filename ≡ false
        → IsLookedCalmly (opened_name c.driver) (site_of w) now out
    out-as first is taken free =
        subst (λ (name : List ℕ). IsLookedCalmly name (site_of w) now out) (sym named)
        (inr (record { first = first; is = is; taken = taken; inside = closed at.filename free; nodes = nodes }))

    -- the store failed to open it
    store-failed : (why : Refusal) → HasOpeningFailed (store_of w) now.store at.filename why → out ≡ None
        → told.stopped ≡ Some (record { look = look_in_vain at.what why; refusal = why }) → IsLookReached w.table cmd' at.what
        → IsLookedOver w c told now out
    store-failed why failed none stops reached =
        let stops_so : told.stopped ≡ Some (record { look = at.what; refusal = refusal.Io Store now.store.faults }) =
        stops ∙ ap (λ (r : Refusal). let x : Stopped = record { look = look_in_vain at.what r; refusal = r } in Some x) failed.is in
        inr
        (record {
          from = Store;
          count = now.store.faults;
          refuses = stop-told w.table at.what c (looks-as c at opener) (has-at c at opener) reached told (refusal.Io Store now.store.faults) stops_so;
          hides = λ v put.
              let store : store_of v ≡ now.store =
              ap (λ (x : Site). x.store) put ∙ ap (λ (o : Option Taken). back_if c.driver o now.store) none in
              hides-store w v (ap (λ (s : StoreInRun). s.opened) (store ∙ failed.kept)) now.store.faults (ap (λ (s : StoreInRun). s.faults) store)
              (ap (λ (n : Nodes). counts_from n.devices 0 w.opened) (ap (λ (x : Site). x.nodes) put ∙ nodes));
        })

    in-vain : out ≡ None → LooksInVain at (store_of w) now.store told → IsLookReached w.table cmd' at.what → IsLookedOver w c told now out
    in-vain none vain reached = by_why vain.cause
      where
        stops : told.stopped ≡ Some (record { look = look_in_vain at.what vain.why; refusal = vain.why })
        stops = ap (λ (a : Told). a.stopped) vain.is

        by_why : IsAbsent (store_of w) now.store at.filename vain.why ⊎ HasOpeningFailed (store_of w) now.store at.filename vain.why
            → IsLookedOver w c told now out
        by_why (inl absent) =
            calm-as (Some (record { look = look_in_vain at.what vain.why; refusal = vain.why })) stops (ap is_io_refusal absent.is)
            (inl (none, same-site (site_of w) now absent.kept nodes))
        by_why (inr failed) = store-failed vain.why failed none stops reached

    -- the image in it isn't opened
    module _ (q : AddQcow2 (List ℕ)) (file : InlineFile (List ℕ)) (e : c.driver ≡ added.Qcow2 q) (f : q.file ≡ file_ref.Inline file)
        (name : file.filename ≡ at.filename) (what : at.what ≡ look.File) (first device : Taken) (is : out ≡ Some device)
        (taken : IsTakenOut (store_of w) now.store at.filename first) (free : is_unopened w.table at.filename ≡ false)
        (reached : IsLookReached w.table cmd' at.what) (refused : TellsRefusal at.filename first device told) where
      stops-image : told.stopped ≡ Some (record { look = look.Image; refusal = refused.why })
      stops-image = ap (λ (a : Told). a.stopped) refused.is

      io-failed : (n : ℕ) → refused.on.cause ≡ stop.Io n → IsLookedOver w c told now out
      io-failed n io =
          let why : refused.why ≡ refusal.Io (Dev first.number) n = refused.on.is ∙ ap (unopened first.number) io in
          let caused : CountsFault (Some n) first.faults device.faults =
          subst (λ (x : ImageStop). CountsFault (fault_in_image x) first.faults device.faults) io refused.on.on.cause in
          inr
          (record {
            from = Dev first.number;
            count = n;
            refuses = image-told c w.table q file e f (subst (IsLookReached w.table cmd') what reached)
                (subst (λ (m : List ℕ). is_unopened w.table m ≡ false) (sym name) free) told (refusal.Io (Dev first.number) n)
                (stops-image ∙ ap (λ (r : Refusal). let x : Stopped = record { look = look.Image; refusal = r } in Some x) why);
            hides = λ v put.
                let inside = closed at.filename free in
                let store : store_of v ≡ put_back at.filename device now.store =
                ap (λ (x : Site). x.store) put ∙ ap (λ (o : Option Taken). back_if c.driver o now.store) is
                ∙ ap (λ (m : List ℕ). put_back m device now.store) named in
                let all = store ∙ back-is (store_of w) now.store at.filename first device taken refused.on.kept inside in
                hides-failed w v (closed-opening (store_of w) now.store at.filename first device taken refused.on.kept inside)
                (ap (λ (s : StoreInRun). s.opened) all) (ap (λ (s : StoreInRun). s.faults) all)
                (ap (λ (m : Nodes). counts_from m.devices 0 w.opened) (ap (λ (x : Site). x.nodes) put ∙ nodes)) n (sym caused.1) first.number
                (ap (λ (d : DevNo). d.0) taken.number);
          })

      refused-calmly : (device.faults ≡ first.faults) × (device.failed_call ≡ first.failed_call) → (is_io_refusal (unopened first.number refused.on.cause) ≡ false) → IsLookedOver w c told now out
      refused-calmly same quiet =
          let same_device : device ≡ first =
          refused.on.kept ∙ ap (λ (n : ℕ). let x : Taken = record first { faults = n; failed_call = device.failed_call } in x) same.0
          ∙ ap (λ (c : Option DeviceCall). let x : Taken = record first { failed_call = c } in x) same.1 in
          calm-as (Some (record { look = look.Image; refusal = refused.why })) stops-image (ap is_io_refusal refused.on.is ∙ quiet)
          (out-as first (is ∙ ap (λ (d : Taken). Some d) same_device) taken free)

      refused-over : IsLookedOver w c told now out
      refused-over = by_stop
          (caused-or first.faults device.faults first.failed_call device.failed_call refused.on.cause refused.on.on.cause refused.on.on.call)
          (unopened-of first.number refused.on.cause)
        where
          by_stop : ((n : ℕ) × (refused.on.cause ≡ stop.Io n)) ⊎ ((device.faults ≡ first.faults) × (device.failed_call ≡ first.failed_call))
              → ((n : ℕ) × (refused.on.cause ≡ stop.Io n) × (unopened first.number refused.on.cause ≡ refusal.Io (Dev first.number) n))
              ⊎ (is_io_refusal (unopened first.number refused.on.cause) ≡ false) → IsLookedOver w c told now out
          by_stop (inl io) quiet = io-failed io.0 io.1
          by_stop (inr same) (inl io) = io-failed io.0 io.1
          by_stop (inr same) (inr quiet) = refused-calmly same quiet

    -- what a file that was opened told
    told-over : (first device : Taken) (image : Option Known) → out ≡ Some device → IsTakenOut (store_of w) now.store at.filename first
        → is_unopened w.table at.filename ≡ false → IsLookReached w.table cmd' at.what
        → TellsAddition w.table c.node_name at.filename c.driver first device image told → (opens : OpensAs c at) → IsLookedOver w c told now out
    told-over first device image is taken free reached tells (AsFile e what) =
        let its = subst (λ (d : Added (List ℕ)). TellsAddition w.table c.node_name at.filename d first device image told) e tells in
        calm-as (file_stop at.filename first.size) (ap (λ (a : Told). a.stopped) its.is) (calm-long at.filename _)
        (out-as first (is ∙ ap (λ (d : Taken). Some d) its.kept) taken free)
    told-over first device image is taken free reached tells (AsPart raw file e f name what) =
        let its = subst (λ (d : Added (List ℕ)). TellsAddition w.table c.node_name at.filename d first device image told) e tells in
        calm-as (raw_stop at.filename raw first.size) (ap (λ (a : Told). a.stopped) its.is) (calm-part at.filename raw first.size)
        (out-as first (is ∙ ap (λ (d : Taken). Some d) its.kept) taken free)
    told-over first device image is taken free reached tells (AsImage q file e f name what) =
        by_image image (subst (λ (d : Added (List ℕ)). TellsAddition w.table c.node_name at.filename d first device image told) e tells)
      where
        by_image : (found : Option Known) → TellsInside w.table c.node_name at.filename q first device found told → IsLookedOver w c told now out
        by_image (Some open_image) its =
            calm-as (unfit_image w.table c.node_name q (opened_sight open_image.header)) (ap (λ (a : Told). a.stopped) its.is)
            (calm-inside w.table c.node_name q (opened_sight open_image.header))
            (out-as first (is ∙ ap (λ (d : Taken). Some d) its.on.kept) taken free)
        by_image None (inl long) =
            calm-as (file_stop at.filename first.size) (ap (λ (a : Told). a.stopped) long.is ∙ sym long.long) (calm-long at.filename _)
            (out-as first (is ∙ ap (λ (d : Taken). Some d) long.kept) taken free)
        by_image None (inr refused) = refused-over q file e f name what first device is taken free reached refused

    store-over : (image : Option Known) → Looks w.table c at (store_of w) now.store out image told → IsLookedOver w c told now out
    store-over image (inl away) =
        still (ap (λ (a : Told). a.stopped) away.0.is) away.1 (same-site (site_of w) now away.0.kept nodes)
    store-over image (inr its) = by_out out refl its.0
      where
        by_out : (found : Option Taken) → out ≡ found → LooksAtFile w.table c at (store_of w) now.store found image told → IsLookedOver w c told now out
        by_out (Some device) is inside = told-over inside.first device image is inside.out its.1 its.2 inside.tells opener
        by_out None is vain = in-vain is vain its.2

  -- ---- the image in a `file` node

  module _ (q : AddQcow2 (List ℕ)) (name : List ℕ) (e : c.driver ≡ added.Qcow2 q) (f : q.file ≡ file_ref.Name name) (none : out ≡ None)
      (store : now.store ≡ store_of w) where
    module _ (badly : LooksBadly w.table c name w.nodes now.nodes told) (kept : now.nodes ≡ record w.nodes { devices = now.nodes.devices })
        (risen : HaveRisen w.nodes.devices now.nodes.devices) where
      stops-under : told.stopped ≡ Some (record { look = look.Image; refusal = unopened badly.device.number badly.cause })
      stops-under = ap (λ (a : Told). a.stopped) badly.is

      held-is : badly.stopped.before ≡ badly.device
      held-is = same_Some badly.stopped.before badly.device (sym badly.stopped.held ∙ badly.held)

      node-failed : (n : ℕ) → badly.cause ≡ stop.Io n → IsLookedOver w c told now out
      node-failed n io =
          let caused =
          subst (λ (x : ImageStop). CountsFault (fault_in_image x) badly.stopped.before.faults badly.stopped.after.faults) io badly.stopped.on.cause in
          let same = same-risen w.nodes.devices now.nodes.devices risen in
          let number = (same_in w.nodes.devices now.nodes.devices badly.node badly.stopped.before badly.stopped.after same badly.stopped.held badly.stopped.left).number in
          let at : StoppedAt badly.node w.nodes.devices now.nodes.devices badly.device.number n = record {
            before = badly.stopped.before;
            after = badly.stopped.after;
            held = badly.stopped.held;
            left = badly.stopped.left;
            stopped = record { named = ap (λ (d : DeviceSeen). d.number) (sym held-is); rose = caused.0; now = caused.1 };
            only = badly.stopped.only;
          } in
          inr
          (record {
            from = Dev badly.device.number;
            count = n;
            refuses = stop-told w.table look.Image c (looks-named c q name e f) (has-named c q name e f) badly.reached told
                (refusal.Io (Dev badly.device.number) n)
                (stops-under
                ∙ ap (λ (x : ImageStop). let y : Stopped = record { look = look.Image; refusal = unopened badly.device.number x } in Some y) io);
            hides = λ v put.
                let all : store_of v ≡ store_of w =
                ap (λ (x : Site). x.store) put ∙ ap (λ (o : Option Taken). back_if c.driver o now.store) none ∙ store in
                let nodes : now.nodes ≡ v.nodes = sym (ap (λ (x : Site). x.nodes) put) in
                failed-on v (ap (λ (s : StoreInRun). s.opened) all) (ap (λ (s : StoreInRun). s.faults) all) at number
                (out-same w.table w.nodes now.nodes w.opened same whole.coherent.out) nodes;
          })
        where
          failed-on : (v : WorldSeen) → v.opened ≡ w.opened → v.faults ≡ w.faults
              → (at : StoppedAt badly.node w.nodes.devices now.nodes.devices badly.device.number n) → at.after.number ≡ at.before.number
              → AreOut w.table now.nodes w.opened → now.nodes ≡ v.nodes → HidesNoFault w v (Some (fault_at (Dev badly.device.number) n))
          failed-on v opened faults at number out' nodes =
              hides-stopped w v opened faults joined.once (subst (λ (m : Nodes). AreOut w.table m w.opened) nodes out') badly.node
              badly.device.number n
              (record {
                before = at.before;
                after = at.after;
                held = at.held;
                left = subst (λ (m : Nodes). device_in m.devices badly.node ≡ Some at.after) nodes at.left;
                stopped = at.stopped;
                only = subst (λ (m : Nodes). OnlyAt badly.node w.nodes.devices m.devices) nodes at.only;
              }) number

      badly-over : IsLookedOver w c told now out
      badly-over = by_stop (kept-or w.nodes.devices now.nodes.devices badly.cause badly.stopped.kept) (unopened-of badly.device.number badly.cause)
        where
          by_stop : ((n : ℕ) × (badly.cause ≡ stop.Io n)) ⊎ (now.nodes.devices ≡ w.nodes.devices)
              → ((n : ℕ) × (badly.cause ≡ stop.Io n) × (unopened badly.device.number badly.cause ≡ refusal.Io (Dev badly.device.number) n))
              ⊎ (is_io_refusal (unopened badly.device.number badly.cause) ≡ false) → IsLookedOver w c told now out
          by_stop (inl io) quiet = node-failed io.0 io.1
          by_stop (inr same) (inl io) = node-failed io.0 io.1
          by_stop (inr same) (inr quiet) =
              calm-as (Some (record { look = look.Image; refusal = unopened badly.device.number badly.cause })) stops-under quiet
              (inl (
                none,
                same-site (site_of w) now store
                    (kept ∙ ap (λ (ds : List DeviceSeen). let m : Nodes = record w.nodes { devices = ds } in m) same),
              ))

    under-over : (image : Option Known) → LooksUnder w.table c q name w.nodes now.nodes image told
        → now.nodes ≡ record w.nodes { devices = now.nodes.devices } → HaveRisen w.nodes.devices now.nodes.devices → IsLookedOver w c told now out
    under-over (Some open_image) well kept risen =
        calm-as (unfit_image w.table c.node_name q (opened_sight open_image.header)) (ap (λ (a : Told). a.stopped) well.is)
        (calm-inside w.table c.node_name q (opened_sight open_image.header)) (inl (none, same-site (site_of w) now store well.kept))
    under-over None (inl past) kept risen = still (ap (λ (a : Told). a.stopped) past.is) none (same-site (site_of w) now store past.kept)
    under-over None (inr badly) kept risen = badly-over badly kept risen

  -- ---- all looks

  nowhere-over : (image : Option Known) → LooksNowhere (site_of w) now out image told → IsLookedOver w c told now out
  nowhere-over image looks = still (ap (λ (a : Told). a.stopped) looks.is) looks.none looks.kept

  part-over : (raw : AddRaw (List ℕ)) (file : FileRef (List ℕ)) (image : Option Known) → c.driver ≡ added.Raw raw → raw.file ≡ file
      → LooksAtPart w.table c (part_look raw) file (site_of w) now out image told → IsLookedOver w c told now out
  part-over raw (file_ref.Name name) image e f looks = nowhere-over image looks
  part-over raw (file_ref.Inline file) image e f looks =
      store-over (record { filename = file.filename; what = part_look raw }) (AsPart raw file e f refl refl) (rw (e, f) refl) looks.kept image looks.looks

  image-over : (q : AddQcow2 (List ℕ)) (file : FileRef (List ℕ)) (image : Option Known) → c.driver ≡ added.Qcow2 q → q.file ≡ file
      → LooksAtImage w.table c q file (site_of w) now out image told → IsLookedOver w c told now out
  image-over q (file_ref.Name name) image e f looks =
      under-over q name e f looks.none looks.kept image looks.looks looks.called.kept looks.called.risen
  image-over q (file_ref.Inline file) image e f looks =
      store-over (record { filename = file.filename; what = look.File }) (AsImage q file e f refl refl) (rw (e, f) refl) looks.kept image looks.looks

  driver-over : (driver : Added (List ℕ)) (image : Option Known) → c.driver ≡ driver → LooksBy w.table c driver (site_of w) now out image told
      → IsLookedOver w c told now out
  driver-over (added.File filename) image e looks =
      store-over (record { filename = filename; what = look.File }) (AsFile e refl) (rw e refl) looks.kept image looks.looks
  driver-over (added.Raw raw) image e looks = part-over raw raw.file image e refl looks
  driver-over (added.Qcow2 q) image e looks = image-over q q.file image e refl looks
  driver-over (added.CopyOnRead child) image e looks = nowhere-over image looks
  driver-over added.Unknown image e looks = nowhere-over image looks

  pub looked-over : (image : Option Known) → HasLooked w.table c (site_of w) now out image told → IsLookedOver w c told now out
  looked-over image looks = driver-over c.driver image refl looks

-- ---- what is left of it

module _ (w v : WorldSeen) (now : Site) (driver : Added (List ℕ)) (out : Option Taken) where
  -- all is back
  pub calm-back : IsLookedCalmly (opened_name driver) (site_of w) now out → site_of v ≡ site (back_if driver out now.store) now.nodes
      → HidesNoFault w v None
  calm-back (inl still) put =
      let same : site_of v ≡ site_of w =
      put ∙ ap (λ (o : Option Taken). site (back_if driver o now.store) now.nodes) still.0 ∙ still.1 in
      hides-same w v (ap (λ (x : Site). x.store.opened) same) (ap (λ (x : Site). x.store.faults) same) (ap (λ (x : Site). x.nodes.devices) same)
  calm-back (inr opened) put =
      let all = ap (λ (x : Site). x.store) put ∙ ap (λ (o : Option Taken). back_if driver o now.store) opened.is
      ∙ back-is (store_of w) now.store (opened_name driver) opened.first opened.first opened.taken refl opened.inside in
      hides-opened w v (closed-opening (store_of w) now.store (opened_name driver) opened.first opened.first opened.taken refl opened.inside)
      (ap (λ (s : StoreInRun). s.opened) all) (ap (λ (s : StoreInRun). s.faults) all)
      (ap (λ (m : Nodes). counts_from m.devices 0 w.opened) (ap (λ (x : Site). x.nodes) put ∙ opened.nodes)) opened.first.faults refl refl

-- a device behind others, under another number than theirs
numbered-last : (ds : List DeviceSeen) (d : DeviceSeen) (n : ℕ) → device_numbered ds n ≡ None → d.number.0 ≡ n
    → device_numbered (ds ++ d ∷ []) n ≡ Some d
numbered-last [] d n none is = rw (eq-eqb d.number.0 n is) refl
numbered-last (x ∷ ds) d n none is = by_test (x.number.0 == n) none (λ rest. numbered-last ds d n rest is)
  where
    by_test : (b : Bool) → cond b (Some x) (device_numbered ds n) ≡ None → (device_numbered ds n ≡ None → device_numbered (ds ++ d ∷ []) n ≡ Some d)
        → cond b (Some x) (device_numbered (ds ++ d ∷ []) n) ≡ Some d
    by_test true bad rest = absurd (let e : ⊥ = cc bad in e)
    by_test false none rest = rest none

-- no device has the number of the next opening
next-free : (w : WorldSeen) → IsWholeWorld w → device_numbered w.nodes.devices (length w.opened) ≡ None
next-free w whole = by_found (device_numbered w.nodes.devices (length w.opened)) refl
  where
    by_found : (found : Option DeviceSeen) → device_numbered w.nodes.devices (length w.opened) ≡ found → found ≡ None
    by_found None is = refl
    by_found (Some x) is =
        let at = find-Some (λ (d : DeviceSeen). d.number.0 == length w.opened) w.nodes.devices x is in
        let number : x.number.0 ≡ length w.opened = eqb-true x.number.0 (length w.opened) at.1 in
        let out = whole.coherent.out.each x at.0 in
        let within = slice_get_within w.opened x.number.0 out.opening out.there in
        absurd (omega (arith, within, number))

module _ (w v : WorldSeen) (whole : IsWholeWorld w) (now : Site) (driver : Added (List ℕ)) (out : Option Taken) (t : RunTable) (c : Adding)
    (image : Option Known) where
  -- its nodes are there
  pub calm-added : IsLookedCalmly (opened_name driver) (site_of w) now out → store_of v ≡ now.store → HasAdded t c out image now.nodes v.nodes
      → HidesNoFault w v None
  calm-added (inl still) store has =
      let devices : v.nodes.devices ≡ now.nodes.devices =
      no-device-more t c image now.nodes v.nodes (subst (λ (o : Option Taken). HasAdded t c o image now.nodes v.nodes) still.0 has) in
      let all : store_of v ≡ store_of w = store ∙ ap (λ (x : Site). x.store) still.1 in
      hides-same w v (ap (λ (s : StoreInRun). s.opened) all) (ap (λ (s : StoreInRun). s.faults) all)
      (devices ∙ ap (λ (x : Site). x.nodes.devices) still.1)
  calm-added (inr opened) store has =
      let all : store_of v ≡ record (store_of w) { opened = w.opened ++ opening_of (opened_name driver) opened.first ∷ [] } =
      store ∙ opened.taken.kept in
      let made = has-device t c image now.nodes v.nodes opened.first (subst (λ (o : Option Taken). HasAdded t c o image now.nodes v.nodes) opened.is has) in
      let devices : v.nodes.devices ≡ w.nodes.devices ++ of_node made.id opened.first ∷ [] =
      made.devices ∙ ap (λ (n : Nodes). n.devices ++ of_node made.id opened.first ∷ []) opened.nodes in
      let number : opened.first.number.0 ≡ length w.opened = ap (λ (n : DevNo). n.0) opened.taken.number in
      let counts : counts_from v.nodes.devices 0 w.opened ≡ counts_from w.nodes.devices 0 w.opened =
      ap (λ (ds : List DeviceSeen). counts_from ds 0 w.opened) devices
      ∙ counts-more w.nodes.devices (of_node made.id opened.first) 0 w.opened (omega (arith, number)) in
      let found : device_numbered v.nodes.devices (length w.opened) ≡ Some (of_node made.id opened.first) =
      ap (λ (ds : List DeviceSeen). device_numbered ds (length w.opened)) devices
      ∙ numbered-last w.nodes.devices (of_node made.id opened.first) (length w.opened) (next-free w whole) number in
      let own : count_of_opening v.nodes.devices (length w.opened) (opening_of (opened_name driver) opened.first) ≡ opened.first.faults =
      rw found refl in
      hides-opened w v (opening_of (opened_name driver) opened.first) (ap (λ (s : StoreInRun). s.opened) all)
      (ap (λ (s : StoreInRun). s.faults) all) counts opened.first.faults own refl

-- ---- by the answer

module _ (w v : WorldSeen) (whole : IsWholeWorld w) (c : Adding) (told : Told) (now : Site) (out : Option Taken) (image : Option Known)
    (over : IsLookedOver w c told now out) where
  pub hides-refused : site_of v ≡ site (back_if c.driver out now.store) now.nodes → (cause : Refusal)
      → refusal_to w.table told (command.BlockdevAdd c) ≡ Some cause → HidesNoFault w v (fault_named cause)
  hides-refused put cause is = by_kind over
    where
      by_kind : IsLookedOver w c told now out → HidesNoFault w v (fault_named cause)
      by_kind (inl calm) =
          let quiet : is_io_refusal cause ≡ false = elim (refused-of w.table told c cause is) [
            | inl quiet ↦ quiet
            | inr its ↦ ap is_io_refusal (sym its.2) ∙ calm-not told told.stopped refl calm.stopped its.0 its.1
          ] in
          subst (HidesNoFault w v) (sym (quiet_named cause quiet)) (calm-back w v now c.driver out calm.looked put)
      by_kind (inr failed) =
          let same : Some (refusal.Io failed.from failed.count) ≡ Some cause = sym failed.refuses ∙ is in
          let one : refusal.Io failed.from failed.count ≡ cause = cc same in
          subst (λ (r : Refusal). HidesNoFault w v (fault_named r)) one (failed.hides v put)

  pub hides-added : store_of v ≡ now.store → HasAdded w.table c out image now.nodes v.nodes
      → refusal_to w.table told (command.BlockdevAdd c) ≡ None → HidesNoFault w v None
  hides-added store has none = by_kind over
    where
      by_kind : IsLookedOver w c told now out → HidesNoFault w v None
      by_kind (inl calm) = calm-added w v whole now c.driver out w.table c image calm.looked store has
      by_kind (inr failed) =
          let bad : Some (refusal.Io failed.from failed.count) ≡ None = sym failed.refuses ∙ none in
          absurd (let e : ⊥ = cc bad in e)

-- ---- want of memory

module _ (w : WorldSeen) (whole : IsWholeWorld w) (joined : IsJoined w.nodes) (c : Adding) (x : Site) (u : RunTable) where
  -- at most one call failed, and the addition made it
  abbrev pub HidesAtMostOne : Type 0
  HidesAtMostOne = (fault : Option FaultAt) × HidesNoFault w (sited w x u) fault
      × IfSome fault (λ f. HasFailedIn w (sited w x u) (command.BlockdevAdd c) f.from f.count)

  closed-all : AreIn w.table w.opened
  closed-all name unopened = closed-in w.table w.nodes w.opened name whole.coherent.out unopened

  back-hides : (name : List ℕ) → x.nodes ≡ w.nodes → IsBackIfOut (store_of w) x.store name → HidesAtMostOne
  back-hides name nodes (inl same) =
      (None, hides-same w (sited w x u) (ap (λ (s : StoreInRun). s.opened) same) (ap (λ (s : StoreInRun). s.faults) same) (ap (λ (n : Nodes). n.devices) nodes), tt)
  back-hides name nodes (inr again) =
      let all = again.is ∙ back-is (store_of w) again.between name again.first again.first again.out refl again.inside in (
        None,
        hides-opened w (sited w x u) (closed-opening (store_of w) again.between name again.first again.first again.out refl again.inside)
            (ap (λ (s : StoreInRun). s.opened) all) (ap (λ (s : StoreInRun). s.faults) all)
            (ap (λ (n : Nodes). counts_from n.devices 0 w.opened) nodes) again.first.faults refl refl,
        tt,
      )

  opens-hides : (at : Option Opens) → x.nodes ≡ w.nodes → StoreIsBack at (store_of w) x.store → HidesAtMostOne
  opens-hides None nodes same =
      (None, hides-same w (sited w x u) (ap (λ (s : StoreInRun). s.opened) same) (ap (λ (s : StoreInRun). s.faults) same) (ap (λ (n : Nodes). n.devices) nodes), tt)
  opens-hides (Some at) nodes back = back-hides at.filename nodes back

  pub put-hides : RunsOn w (sited w x u) → IsNotAdded w.table c (site_of w) x → HidesAtMostOne
  put-hides runs (inl back) = opens-hides (opens c.driver) back.kept back.store
  put-hides runs (inr undone) =
      by_kind (looked-over w whole joined c undone.told undone.between undone.out closed-all undone.image undone.looked)
    where
      by_kind : IsLookedOver w c undone.told undone.between undone.out → HidesAtMostOne
      by_kind (inl calm) = (None, calm-back w (sited w x u) undone.between c.driver undone.out calm.looked undone.is, tt)
      by_kind (inr failed) = (
        Some (fault_at failed.from failed.count),
        failed.hides (sited w x u) undone.is,
        causes w (sited w x u) c refl whole.counted whole.coherent runs undone.between undone.out undone.image undone.told closed-all undone.looked
            undone.is (refusal.Io failed.from failed.count) failed.refuses,
      )
