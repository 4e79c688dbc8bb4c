-- A piece leaves a world that comes of the same opening.
use Rattle.std.proofs.Common.{◌≡◌, ℕ, ◌<◌, ◌≤◌, ◌^◌, arith, Bool, true, false, List, [], ◌∷◌, ◌++◌, length, Option, Some, None, refl, sym, ◌∙◌, ap, subst}
use Rattle.std.specs.Prelude.{is_some}
use Rattle.std.proofs.lemmas.List.{append-nil}
use Rattle.std.proofs.lemmas.List.Elements.{All-nil}
use Rattle.blk_base.specs.Pieces.{Extent, end_of}
use Rattle.blk_base.specs.declared.fault.DevNo.{DevNo}
use Rattle.blk_base.specs.declared.fault.FaultAt.{FaultAt}
use Rattle.blk_base.specs.declared.fault.FaultFrom.TheVariants.{Dev}
use Rattle.blk_base.specs.declared.fault.Outcome.{Outcome}
use Rattle.blk_base.specs.declared.fault.Outcome.TheVariants.{Good, Torn, Io, NoSpace}
use Rattle.blk_graph.specs.declared.edge.Edge.{Edge}
use Rattle.blk_graph.specs.declared.edge.Role.TheVariants.{File}
use Rattle.blk_graph.proofs.Members.{find-Some}
use Rattle.blk_history.specs.Disk.{is_write, payload_in}
use Rattle.blk_history.specs.Fold.{With}
use Rattle.blk_history.specs.Machine.{Flight}
use Rattle.blk_history.specs.declared.event.Event.{Event}
use Rattle.trace_codec.specs.declared.op.Op.{Op}
use Rattle.qmp_rules.specs.Chains.{disk_node}
use Rattle.qmp_rules.specs.Queries.{bytes_of_node}
use Rattle.qmp_rules.specs.Table.{RunTable, child, device_by_number}
use Rattle.qmp_rules.specs.declared.rows.DeviceRow.{DeviceRow}
use Rattle.flat_machine.specs.EventLicence.{IsOnTheWay, ReachesDevice, RoseIn, WouldPass, full_by, faulty_device}
use Rattle.flat_machine.specs.Legal.{Fits, IsForbidden}
use Rattle.flat_machine.specs.Licence.{fault_at, faults_of, named_by}
use Rattle.flat_machine.specs.Machine.{after, flight_of, replay, with_part, with_piece}
use Rattle.flat_machine.specs.Opening.{start}
use Rattle.flat_machine.specs.Marks.{IsCalm}
use Rattle.flat_machine.specs.State.{State, Guest, drive_of}
use Rattle.blk_history.specs.Small.{IsSmallOutcome}
use Rattle.flat_machine.specs.Writing.{CanWrite, PieceDone, ReadsWritten, written_file}
use Rattle.flat_machine.specs.Imaging.{KeepsMapping}
use Rattle.flat_machine.specs.declared.opening.Opening.{Opening}
use Rattle.flat_machine.proofs.Resting.{guest_can}
use Rattle.blk_nodes.specs.Contents.{Unfolds, disk_of}
use Rattle.blk_nodes.specs.Copying.{IsBeside}
use Rattle.blk_nodes.specs.Joined.{IsJoined}
use Rattle.blk_nodes.specs.Nodes.{DeviceSeen, AreTold, is_device_of}
use Rattle.blk_nodes.specs.Reading.{LeadsTo, StoppedAt, StoppedBy}
use Rattle.blk_nodes.specs.Writing.{IsApartFrom}
use Rattle.world_parts.specs.Coherent.{AreDrainsKept, AreJobsKept, IsCoherent, IsWholeWorld, DevicesTell}
use Rattle.world_parts.specs.Comes.{Comes, ShowsState}
use Rattle.world_parts.specs.Counting.{RunsOn, IsFaultReached, IsReachedBy, seen_sources, counts_within, HidesNoFault}
use Rattle.world_parts.specs.Face.{WorldSeen, dirty_of, held, counts_now, first_counts, node_over, contents_of}
use Rattle.blk_pieces.specs.Pieces.{CanTransfer}
use Rattle.blk_pieces.proofs.Payloads.{payload_length, putting_by}
use Rattle.world_pieces.specs.Pieces.{IsPieceMade, HasPieceLicence, piece_entry, piece_passes, noted_after, written_in}
use Rattle.world_parts.specs.Piecing.{table_after, part_of, shown_in_flight}
use Rattle.world_parts.specs.Progress.{Progress, HasNext, flight_at, requests_done, ended_in, with_piece_entry}
use Rattle.flat_machine.specs.Bitmaps.{AreBitmapsOf}
use Rattle.flat_machine.specs.Recording.{dirty_by}
use Rattle.world_parts.specs.Tabling.{piece_table, piece_dirty}
use Rattle.world_pieces.proofs.BitmapsNoted.{noted-follow, noted-listed}
use Rattle.world_parts.proofs.Coherence.{coherent-past}
use Rattle.world_parts.proofs.CountLemmas.{runs-devices, reached-held, out-same}
use Rattle.world_parts.proofs.DrainsKept.{asked_same, drains_stay}
use Rattle.world_parts.proofs.Quiet.{files-beside}
use Rattle.world_parts.proofs.Rises.{rises-entry}
use Rattle.world_parts.specs.Keeping.{AreRises, ShowsJobs, faults_kept}
use Rattle.world_pieces.proofs.PieceJobs.{IsApartFromJobs, can_pass, jobs_after, marked_faults, no_commit}
use Rattle.job_ends.proofs.Held.{other_held}
use Rattle.job_entries.proofs.Found.{other_begun}
use Rattle.job_progress.proofs.Belong.{marks_belong}
use Rattle.job_progress.proofs.Entries.{entries_leave}
use Rattle.job_progress.proofs.Pieces.{piece_goes}
use Rattle.job_progress.specs.Going.{AreJobsAhead}
use Rattle.job_progress.specs.Piecing.{CanPass, IsGuarded, marked_by}
use Rattle.job_commands.specs.Granules.{GranulesStand}
use Rattle.job_commands.proofs.WholeEntries.{beside_whole, piece_keeps_whole}
use Rattle.world_parts.proofs.WholeDisks.{piece_granules}
use Rattle.job_tables.proofs.TargetEvents.{piece_files}
use Rattle.world_parts.proofs.CountsKept.{counts-same, hides-none, hides-stopped}
use Rattle.world_parts.proofs.OverFiles.{over-row}
use Rattle.world_parts.proofs.ImageTold.{mapping_kept}
use Rattle.world_parts.proofs.InStep.{ended-push}
use Rattle.world_pieces.proofs.PieceCounts.{AreCounted, piece-counted}
use Rattle.world_pieces.proofs.PieceCopied.{MeetsOwnImage, Went, writes_file, images_of, piece_went}
use Rattle.world_pieces.proofs.PieceContents.{content_after, else_by, over_same, held_after}
use Rattle.world_pieces.proofs.PieceFits.{piece_fits, to_disk, stop_reached}
use Rattle.world_parts.proofs.NodesAfter.{same_in, AreNodesAfter}
use Rattle.world_pieces.proofs.PieceNodes.{nodes_after, StoppedOn, IsStop, stop_of, passes_of}
use Rattle.world_pieces.proofs.PieceReady.{IsGuestDisk, disk_is, writer, can_transfer, part_within, is_apart, is_beside, over_disk, disk_read}
use Rattle.world_pieces.proofs.PieceShows.{piece_done, piece_shows}
use Rattle.world_pieces.proofs.PieceTold.{told_after}
use Rattle.world_parts.proofs.SoundImages.{images-sound}
use Rattle.world_parts.proofs.TablesAfter.{coherent_moved}
use Rattle.world_pieces.proofs.PieceTables.{eased_after, rests_after, disks_after}
use Rattle.world_parts.proofs.Pushing.{comes-push}

-- ---- a device, by its number, and its count

of_64 : (count : ℕ) → count < 2 ^ 64 → count ≤ 18446744073709551615
of_64 count less = omega arith

-- what stopped the piece is the device that it names
pub stop_names : (before after : DeviceSeen) (outcome : Outcome) (dev : DevNo) → IsStop before after outcome dev → dev ≡ before.number
stop_names before after Good dev never = absurd never
stop_names before after (Torn done other count) dev stop = stop.named
stop_names before after (Io other count) dev stop = stop.named
stop_names before after (NoSpace other) dev stop = stop

-- a guest has a device, which allows what is asked
allows : (t : RunTable) (g : ℕ) (op : Op) (device : Option DeviceRow) → device_by_number t g ≡ device → With device (λ d. IsForbidden op d.read_only → ⊥)
    → (d : DeviceRow) × (device_by_number t g ≡ Some d) × (is_write op ≡ true → d.read_only ≡ false)
allows t g op None is never = absurd never
allows t g op (Some d) is allowed = (d, is, λ writes. by_access d.read_only writes allowed)
  where
    by_access : (read_only : Bool) → is_write op ≡ true → (IsForbidden op read_only → ⊥) → read_only ≡ false
    by_access false writes free = refl
    by_access true writes free = absurd (free writes)

-- ---- the piece

module _ (w v : WorldSeen) (g : ℕ) (f : Flight) (outcome : Outcome) (made : IsPieceMade w v g f outcome) (next : HasNext f)
    (flies : flight_at w.progress.guests g ≡ Some f) (joined : IsJoined w.nodes) (was : IsCoherent w.table w.nodes w.opened w.progress)
    (kept : AreJobsKept w.table w.works w.progress.aside) where
  abbrev node : ℕ
  node = disk_node w.table made.drive

  abbrev part : Extent
  part = part_of f

  abbrev entry : Event
  entry = piece_entry w g f outcome made.buffer

  disk : IsGuestDisk w.table w.nodes g node
  disk = disk_is w.table w.nodes w.progress joined w.opened was g f made.drive made.on flies

  can : CanTransfer w.nodes made.drive node f.op part
  can = can_transfer w.table w.nodes w.progress joined w.opened was g f made.drive made.on flies next

  within : end_of part ≤ bytes_of_node w.table node
  within = part_within w.table w.nodes w.progress joined w.opened was g f made.drive made.on flies next

  -- the images that a read of the drive meets
  met : MeetsOwnImage w.table w.nodes made.drive part.start
  met = images_of w.table w.nodes joined was.alike was.table.stands made.drive part.start

  went : Went w.table f.op w.nodes v.nodes made.drive node part outcome made.buffer
  went = piece_went w.table w.nodes v.nodes made.drive part outcome made.buffer met f.op made.transferred

  moved : AreNodesAfter w.nodes v.nodes
  moved = nodes_after w.nodes v.nodes joined w.table made.drive node part outcome made.buffer f.op made.transferred went

  opened_kept : v.opened ≡ w.opened
  opened_kept = ap (λ (x : WorldSeen). x.opened) made.kept

  table_kept : v.table ≡ table_after f.op node w.table
  table_kept = ap (λ (x : WorldSeen). x.table) made.kept

  noted : v.bitmaps ≡ noted_after outcome (written_in f.op part) made.drive v.table w.bitmaps
  noted = ap (λ (x : WorldSeen). x.bitmaps) made.kept

  pub piece_runs : RunsOn w v
  piece_runs =
      runs-devices w v (ap (λ (x : WorldSeen). is_some x.files) made.kept) (ap (λ (x : WorldSeen). x.room) made.kept) (ap (λ (x : WorldSeen). x.first_faults) made.kept)
      (ap (λ (x : WorldSeen). x.earlier) made.kept) (ap (λ (x : WorldSeen). x.faults) made.kept) opened_kept moved.devices

  pub piece_coherent : IsCoherent v.table v.nodes v.opened v.progress
  piece_coherent =
      let q : Progress = with_piece_entry g f.next outcome (shown_in_flight f outcome made.buffer) w.progress in
      let past : IsCoherent w.table w.nodes w.opened q = coherent-past w.table w.nodes w.opened w.progress was q g outcome refl in
      let disks = disks_after w.table w.nodes w.opened w.progress joined was (no_commit w.table w.works w.progress.aside kept w.nodes was.alike) g made.drive made.on f.op (writer w.table w.nodes w.progress joined w.opened was g f made.drive made.on flies) in
      let now : IsCoherent (table_after f.op node w.table) v.nodes w.opened q =
      coherent_moved w.table (table_after f.op node w.table) (eased_after f.op node w.table) w.nodes v.nodes w.opened q moved (rests_after f.op node w.table was.table) disks past in
      subst (λ (x : WorldSeen). IsCoherent x.table x.nodes x.opened x.progress) (sym made.kept) now

  -- and its devices tell their bytes where they did
  tell_then : DevicesTell w.files w.nodes.devices → IsJoined v.nodes → DevicesTell v.files v.nodes.devices
  tell_then tell now = λ tells.
      told_after w.table f.op w.nodes v.nodes made.drive node part outcome made.buffer joined now moved.devices went (tell (sym (ap (λ (x : WorldSeen). is_some x.files) made.kept) ∙ tells))

  works_then : v.works ≡ marked_by f.op outcome w.table node part w.works
  works_then = ap (λ (x : WorldSeen). x.works) made.kept

  pub piece_jobs : IsApartFromJobs w.table node f.op → AreJobsKept v.table v.works v.progress.aside
  piece_jobs apart =
      subst (λ (x : WorldSeen). AreJobsKept x.table x.works x.progress.aside) (sym made.kept)
      (jobs_after w.table node w.works (marked_by f.op outcome w.table node part w.works) w.progress.aside f.op was.table.stands kept
      (marks_belong w.table node f.op outcome part w.works kept.belong) apart)

  -- the faults that jobs keep are those that they kept
  faults_same : faults_kept v.works ≡ faults_kept w.works
  faults_same = ap faults_kept works_then ∙ marked_faults f.op outcome w.table node part w.works

  pub piece_drains : AreDrainsKept w.table w.drains → AreDrainsKept v.table v.drains
  piece_drains drains =
      subst (λ (x : WorldSeen). AreDrainsKept x.table x.drains) (sym made.kept)
      (drains_stay w.table (table_after f.op node w.table) w.drains (asked_same w.table (table_after f.op node w.table) (eased_after f.op node w.table).jobs) drains)

  pub piece_whole : IsApartFromJobs w.table node f.op → IsWholeWorld w → IsJoined v.nodes → IsWholeWorld v
  piece_whole apart whole now = record {
    coherent = piece_coherent;
    tell = tell_then whole.tell now;
    counted = subst (λ (x : WorldSeen). x.first_faults ≤ x.faults) (sym made.kept) whole.counted;
    bitmaps = noted-listed outcome made.drive w.bitmaps (written_in f.op part) v.bitmaps w.table v.table node f.op table_kept noted whole.bitmaps;
    jobs = piece_jobs apart;
    drains = piece_drains whole.drains;
  }

  -- what is dirty then, by the table alone
  dirty_then : AreBitmapsOf w.table.bitmaps w.bitmaps → dirty_of v ≡ dirty_by f.op outcome part made.drive v.table (dirty_of w)
  dirty_then bitmaps =
      noted-follow f.op part outcome made.drive w.bitmaps (written_in f.op part) v.bitmaps w.table v.table node f.op table_kept refl noted bitmaps

  -- ---- its fault

  stopped : (dev : DevNo) → faulty_device outcome ≡ Some dev → StoppedOn w.nodes v.nodes made.drive outcome dev
  stopped dev named =
      let down : LeadsTo w.nodes.graph.edges made.drive node =
      subst (λ (es : List Edge). LeadsTo es made.drive node) (sym was.alike.edges) (to_disk w.table w.nodes joined was.alike was.table.stands made.drive) in
      stop_of w.table w.nodes v.nodes made.drive node part outcome made.buffer dev named down f.op can.may went

  on_the_way : (found : Option DevNo) → faulty_device outcome ≡ found → IsOnTheWay w.table (seen_sources w) (drive_of w.table g) found
  on_the_way None is = tt
  on_the_way (Some dev) is =
      let stop = stopped dev is in
      let reached = stop_reached w.table w.nodes joined was.alike was.table.stands w v.nodes made.drive outcome dev refl stop (stop_names stop.before stop.after outcome dev stop.stop) in
      subst (λ (drive : Option ℕ). With drive (λ n. ReachesDevice w.table (seen_sources w) n dev.0)) (sym made.on) reached

  reached_by : (dev : DevNo) (count : ℕ) (stop : StoppedOn w.nodes v.nodes made.drive outcome dev) → StoppedBy stop.before stop.after dev count → count ≤ 18446744073709551615
      → IsFaultReached w v (fault_at (Dev dev) count)
  reached_by dev count stop by fits =
      let same = same_in w.nodes.devices v.nodes.devices stop.file stop.before stop.after moved.devices stop.held stop.left in
      let held = (find-Some (is_device_of stop.file) w.nodes.devices stop.before stop.held).0 in
      let held_now = (find-Some (is_device_of stop.file) v.nodes.devices stop.after stop.left).0 in
      let own : StoppedBy stop.before stop.after stop.before.number count = subst (λ (d : DevNo). StoppedBy stop.before stop.after d count) by.named by in
      subst (λ (d : DevNo). IsFaultReached w v (fault_at (Dev d) count)) (sym by.named)
      (reached-held w v stop.before stop.after count piece_runs opened_kept was.out (out-same w.table w.nodes v.nodes w.opened moved.devices was.out) held held_now same.number own fits)

  reached : (o : Outcome) → outcome ≡ o → IsSmallOutcome o → IsReachedBy w v (named_by o)
  reached Good is fits = tt
  reached (Torn done dev count) is fits =
      let stop = stopped dev (ap faulty_device is) in
      reached_by dev count stop (subst (λ (o : Outcome). IsStop stop.before stop.after o dev) is stop.stop) (of_64 count fits.2)
  reached (Io dev count) is fits =
      let stop = stopped dev (ap faulty_device is) in
      reached_by dev count stop (subst (λ (o : Outcome). IsStop stop.before stop.after o dev) is stop.stop) (of_64 count fits.1)
  reached (NoSpace dev) is fits = tt

  pub piece_reached : IsReachedBy w v (named_by outcome)
  piece_reached = reached outcome refl made.fits

  rose : (fault : Option FaultAt) → IsReachedBy w v fault → RoseIn (counts_within w v) (counts_now v) fault
  rose None is = tt
  rose (Some fault) is = is.new

  -- what writes puts as many bytes as its part has
  puts_length : is_write f.op ≡ true → length (payload_in f.op part) ≡ part.len
  puts_length writes = payload_length f.op part (putting_by f.op w.nodes v.nodes made.drive node part outcome made.buffer made.transferred writes)

  passes : (o : Outcome) → outcome ≡ o → WouldPass (piece_passes w.nodes made.drive node f.op part) (full_by o)
  passes Good is = tt
  passes (Torn done dev count) is = tt
  passes (Io dev count) is = tt
  passes (NoSpace dev) is =
      passes_of w.table w.nodes v.nodes made.drive node part made.buffer dev f.op puts_length can.may
      (subst (λ (o : Outcome). Went w.table f.op w.nodes v.nodes made.drive node part o made.buffer) is went)

  -- no other count rose
  store_kept : v.faults ≡ w.faults
  store_kept = ap (λ (x : WorldSeen). x.faults) made.kept

  hides_at : (dev : DevNo) (count file : ℕ) → StoppedAt file w.nodes.devices v.nodes.devices dev count
      → HidesNoFault w v (Some (fault_at (Dev dev) count))
  hides_at dev count file at =
      hides-stopped w v opened_kept store_kept joined.once
      (out-same w.table w.nodes v.nodes w.opened moved.devices was.out) file dev count at
      (same_in w.nodes.devices v.nodes.devices file at.before at.after moved.devices at.held at.left).number

  hides_by : (o : Outcome) → AreCounted o w.nodes.devices v.nodes.devices → HidesNoFault w v (named_by o)
  hides_by Good same = hides-none w v opened_kept store_kept (counts-same w.nodes.devices v.nodes.devices w.opened same)
  hides_by (Torn done dev count) at = hides_at dev count at.0 at.1
  hides_by (Io dev count) at = hides_at dev count at.0 at.1
  hides_by (NoSpace dev) same = hides-none w v opened_kept store_kept (counts-same w.nodes.devices v.nodes.devices w.opened same)

  piece_hides : HidesNoFault w v (named_by outcome)
  piece_hides = hides_by outcome (piece-counted w.nodes v.nodes joined.once w.table made.drive node part outcome made.buffer f.op went)

  pub piece_licence : HasPieceLicence w v g f outcome made
  piece_licence = record {
    runs = piece_runs;
    hides = piece_hides;
    licensed = (on_the_way (faulty_device outcome) refl, rose (named_by outcome) piece_reached, passes outcome refl);
  }

  -- ---- what nodes and files hold

  over_kept : (name : List ℕ) → node_over v.table name ≡ node_over w.table name
  over_kept name = ap (λ (t : RunTable). node_over t name) table_kept ∙ over_same w.table (table_after f.op node w.table) (eased_after f.op node w.table) name

  held_else : (name : List ℕ) → (writes_file w.table made.drive f.op ≡ true → written_file w.table node ≡ Some name → ⊥) → held v name ≡ held w name
  held_else name none =
      held_after w v name (ap (λ (x : WorldSeen). x.files) made.kept) (over_kept name)
      (λ n is. content_after w.nodes v.nodes node n w.table made.drive part outcome made.buffer f.op went
      (λ changes. else_by w.table w.nodes was.alike node disk.row disk.at disk.id_is disk.own disk.own_at disk.alike (writes_file w.table made.drive f.op) n name
      (over-row w.table name n was.table.stands.apart is) (none changes) changes))

  apart : (other : ℕ) → (ReadsWritten w.table node other → ⊥) → IsApartFrom w.nodes other node
  apart = is_apart w.table w.nodes joined was.alike was.table.stands node disk.row disk.at disk.held disk.id_is disk.has.own
      (over_disk w.table w.nodes joined was.alike was.table.stands disk.row disk.has) disk.own disk.own_at disk.alike

  beside : (other : ℕ) → (child w.table node File ≡ Some other → ⊥) → IsBeside w.nodes other node
  beside = is_beside w.table w.nodes joined was.alike was.table.stands node disk.row disk.at disk.held disk.id_is disk.has.own
      (over_disk w.table w.nodes joined was.alike was.table.stands disk.row disk.has) disk.own disk.own_at disk.alike

  module _ (o : Opening) (s : State) (unfolds : Unfolds w.nodes) (told : AreTold w.nodes.devices) (bitmaps : AreBitmapsOf w.table.bitmaps w.bitmaps) (shows : ShowsState o s w)
      (joined_now : IsJoined v.nodes) where
    on_then : drive_of s.table g ≡ Some made.drive
    on_then = ap (λ (t : RunTable). drive_of t g) shows.table.table_is ∙ made.on

    can_write : CanWrite s made.drive f.op
    can_write =
        let device = allows w.table g f.op (device_by_number w.table g) refl (was.allowed g f flies) in
        guest_can s g device.0 made.drive f.op shows.stands (ap (λ (t : RunTable). device_by_number t g) shows.table.table_is ∙ device.1) on_then device.2

    pub did : PieceDone s made.drive f.op outcome part (contents_of w) (contents_of v)
    did = piece_done s w.table w v made.drive f.op outcome part made.buffer shows.table.table_is made.transferred met beside apart told held_else

    pub shows_then : ShowsState o (after s entry) v
    shows_then =
        piece_shows o s w v g f.next made.drive f outcome entry (requests_done w.progress.guests g) (shown_in_flight f outcome made.buffer) refl shows on_then
        (ap (λ (guests : List Guest). flight_at guests g) shows.guests.guests_are ∙ flies)
        (ap (λ (x : WorldSeen). x.room) made.kept) table_kept (ap (λ (x : WorldSeen). x.progress.guests) made.kept)
        (ap (λ (x : WorldSeen). ended_in x.progress.log.events) made.kept ∙ ended-push w.progress.log.events entry refl) (dirty_then bitmaps)
        can_write did
        (subst (λ (t : RunTable). KeepsMapping t (disk_node t made.drive) (contents_of w) (contents_of v)) (sym shows.table.table_is)
        (mapping_kept w v was.alike joined joined_now was.table.stands moved told over_kept node))

    pub fits_then : Fits s entry
    fits_then =
        piece_fits o s w v g made.drive f outcome made.buffer disk.row shows told made.on disk.at disk.has flies next
        (disk_read w.table w.nodes joined was.alike was.table.stands unfolds made.drive) made.transferred

  -- jobs are as far as before
  going_then : IsApartFromJobs w.table node f.op → (is_write f.op ≡ true → IsGuarded w.table w.works node part) → (o : Opening) (s : State) (unfolds : Unfolds w.nodes)
      (told : AreTold w.nodes.devices) (bitmaps : AreBitmapsOf w.table.bitmaps w.bitmaps) (shows : ShowsState o s w) → IsJoined v.nodes
      → ShowsJobs o w.progress.log.events s w → ShowsJobs o (w.progress.log.events ++ entry ∷ []) (after s entry) v
  going_then apart guarded o s unfolds told bitmaps shows joined_now going =
      let t_is = shows.table.table_is in
      let on = on_then o s unfolds told bitmaps shows joined_now in
      let s_node : disk_node s.table made.drive ≡ node = ap (λ (t : RunTable). disk_node t made.drive) t_is in
      let pass : CanPass s.table w.works (disk_node s.table made.drive) f.op part =
      rw (s_node, t_is) (can_pass w.table w.works node f.op part apart guarded) in
      let flight = ap (λ (guests : List Guest). flight_at guests g) shows.guests.guests_are ∙ flies in
      let now : State = with_part made.drive f.op outcome part s in
      let is_now : with_piece (drive_of s.table g) (flight_of s g) f.next outcome s ≡ now = rw (on, flight) refl in
      record {
        begun = other_begun s entry refl going.begun;
        files =
            files-beside now (after s entry) (rw is_now (record { table = refl; files = refl; left = refl; starts = refl }))
            (piece_files s made.drive f.op outcome part going.files);
        ahead =
            let far = piece_goes (start o) w.progress.log.events s made.drive outcome part (contents_of w) (contents_of v) w.works (rw t_is kept.stand) (rw t_is kept.belong)
            (rw (s_node, t_is) within) going.ahead f.op (can_write o s unfolds told bitmaps shows joined_now) pass (did o s unfolds told bitmaps shows joined_now) in
            let same = subst (AreJobsAhead (start o) w.progress.log.events now (disk_of v.nodes))
            (ap (λ (t : RunTable). marked_by f.op outcome t (disk_node t made.drive) part w.works) t_is ∙ sym works_then) far in
            entries_leave (start o) now (after s entry) w.progress.log.events entry (disk_of v.nodes) v.works (ap (λ (x : State). x.table) is_now) (ap (λ (x : State). x.disks) is_now) (ap (λ (x : State). x.begun) is_now) same;
        unsure = other_held s entry refl going.unsure;
        whole =
            beside_whole now (after s entry) (ap (λ (x : State). x.table) is_now) (ap (λ (x : State). x.disks) is_now)
            (piece_keeps_whole s made.drive f.op outcome part (rw (s_node, t_is) within) going.whole);
      }

  pub piece_comes : IsApartFromJobs w.table node f.op → (is_write f.op ≡ true → IsGuarded w.table w.works node part) → Unfolds w.nodes → DevicesTell w.files w.nodes.devices
      → AreBitmapsOf w.table.bitmaps w.bitmaps → IsJoined v.nodes → (o : Opening) → Comes o w → Comes o v
  piece_comes apart guarded unfolds told bitmaps joined_now o comes =
      comes-push o w v (entry ∷ []) comes (record {
        events = ap (λ (x : WorldSeen). x.progress.log.events) made.kept;
        names = ap (λ (t : RunTable). t.guests) table_kept ∙ (eased_after f.op node w.table).guests;
        told = ap (λ (x : WorldSeen). is_some x.files) made.kept;
        guests = ap (λ (x : WorldSeen). x.progress.guests) made.kept;
        table = (
          v.table,
          dirty_of v,
          record {
            table =
                table_kept ∙ ap (λ (drive : Option ℕ). piece_table drive (Some f) w.table) (sym made.on)
                ∙ ap (λ (flight : Option Flight). piece_table (drive_of w.table g) flight w.table) (sym flies);
            dirty =
                dirty_then bitmaps ∙ ap (λ (drive : Option ℕ). piece_dirty drive (Some f) f.next outcome v.table (dirty_of w)) (sym made.on)
                ∙ ap (λ (flight : Option Flight). piece_dirty (drive_of w.table g) flight f.next outcome v.table (dirty_of w)) (sym flies);
          },
          (refl, refl),
        );
        granules = λ was.
            subst (GranulesStand v.table) (sym (dirty_then bitmaps))
            (subst (λ (t : RunTable). GranulesStand t (dirty_by f.op outcome part made.drive t (dirty_of w))) (sym table_kept)
            (piece_granules w.table (dirty_of w) f.op node made.drive outcome part was));
        counted = λ least. subst (λ (x : WorldSeen). x.first_faults ≤ x.faults) (sym made.kept) least;
        coherent = λ coherent. piece_coherent;
        jobs = λ jobs. piece_jobs apart;
        kept = λ rises.
            subst (λ faults. AreRises (first_counts v) (counts_now v) (faults_of (w.progress.log.events ++ entry ∷ []) ++ faults)) (sym faults_same)
            (rises-entry w v piece_runs w.progress.log.events w.works entry piece_reached rises);
        sound = λ tells. images-sound v joined_now piece_coherent (tell_then told joined_now tells);
        fits = λ tells shows going.
            let s : State = replay (start o) w.progress.log.events in
            record {
              legal = (fits_then o s unfolds (told tells) bitmaps shows joined_now, tt);
              marks = (All-nil (IsCalm s.table s.guests), tt);
              shows = shows_then o s unfolds (told tells) bitmaps shows joined_now;
              going = going_then apart guarded o s unfolds (told tells) bitmaps shows joined_now going;
              names = ap (λ (x : WorldSeen). x.progress.jobs) made.kept ∙ sym (append-nil w.progress.jobs);
            };
      })
