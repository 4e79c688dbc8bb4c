-- How a command that leaves the nodes is answered, or has to wait, and what that leaves of the world.
use Rattle.std.proofs.Common.{◌≡◌, ℕ, ◌<◌, true, false, List, [], Option, Some, None, Ok, Err, refl, sym, ◌∙◌, ap, subst}
use Rattle.std.specs.Prelude.{Contains, Result, IfOk, IsSome, OnErr, string_bytes}
use Rattle.std.proofs.lemmas.Bool.{false≢true}
use Rattle.blk_bitmaps.specs.declared.row.Bitmap.{Bitmap}
use Rattle.blk_graph.specs.declared.edge.Edge.{Edge}
use Rattle.blk_graph.specs.declared.edge.Parent.TheVariants.{Guest as GuestOf}
use Rattle.blk_graph.specs.declared.edge.Role.TheVariants.{Drive}
use Rattle.blk_graph.specs.Graph.{HasParent}
use Rattle.blk_graph.proofs.ChildLemmas.{child-edge}
use Rattle.qmp_codec.specs.Commands.{Cmd}
use Rattle.qmp_codec.specs.declared.command.Command.TheVariants as command
use Rattle.qmp_rules.specs.declared.change.Change.{Change}
use Rattle.qmp_rules.specs.declared.refusal.Refusal.{Refusal}
use Rattle.qmp_rules.specs.declared.refusal.Refusal.TheVariants as refusal
use Rattle.qmp_rules.specs.declared.told.Told.{Told}
use Rattle.qmp_rules.specs.Answers.{Answer, answer, command_edits, left_by, refusal_to}
use Rattle.qmp_rules.specs.Changes.{all_changed}
use Rattle.qmp_rules.specs.Table.{RunTable}
use Rattle.flat_machine.specs.Bitmaps.{FollowChanges}
use Rattle.flat_machine.specs.Marks.{AreCalm, Drained, after_later, drained_by}
use Rattle.flat_machine.specs.Performing.{AllPerformed}
use Rattle.flat_machine.specs.Recording.{dirty_after}
use Rattle.flat_machine.specs.State.{State, drive_of}
use Rattle.flat_machine.proofs.BitmapRows.{follow-none}
use Rattle.blk_nodes.specs.Joined.{IsJoined}
use Rattle.blk_nodes.specs.Nodes.{Nodes}
use Rattle.world_parts.specs.declared.carried.Carried.{Carried}
use Rattle.world_parts.specs.declared.carried.Carried.TheVariants as carried
use Rattle.world_parts.specs.Carrying.{IsCarried, IsCarriedAs, IsCarriedOut, IsCaused, IsLate, IsPutBackBy, StopsByFiles, held_for, is_io_refusal}
use Rattle.world_parts.specs.Coherent.{AreNodesOf, IsWholeWorld}
use Rattle.world_parts.specs.Counting.{HidesNoFault}
use Rattle.world_parts.specs.Face.{WorldSeen, contents_of, dirty_of, seen_state}
use Rattle.world_parts.specs.Handling.{DoneIf, IsRewired}
use Rattle.world_parts.specs.Leaving.{Leaves, LeavesBitmaps, clean_told}
use Rattle.world_parts.specs.Recorded.{AreAfter}
use Rattle.world_parts.specs.Saying.{IsSaid}
use Rattle.world_parts.specs.Staging.{site_of}
use Rattle.world_parts.proofs.CarryPlain.{quiet-self, quiet_named, told_quiet}
use Rattle.world_parts.proofs.CountLemmas.{runs-devices, same-devices}
use Rattle.world_parts.proofs.CountsKept.{hides-same}
use Rattle.world_parts.proofs.DisksKept.{as_in}
use Rattle.world_parts.proofs.Placed.{answer-is, put_back_by}
use Rattle.world_changes.specs.Changing.{HasChanged, HasToBeLater, IsChange, IsDone, IsUndone, Scene, TellsMappedAlone, is_change, scene}
use Rattle.world_changes.proofs.ChangesCarried.{changed_carried, changed_follows, changed_whole, opens_none, silent, stops_not}
use Rattle.world_changes.proofs.SnapshotTold.{late_so, told_so}

-- few guests have a device
pub few_drives : (t : RunTable) (nodes : Nodes) → AreNodesOf t nodes → IsJoined nodes → (g : ℕ) → IsSome (drive_of t g) → g < 80
few_drives t nodes alike joined g some = by_drive (drive_of t g) refl some
  where
    by_drive : (found : Option ℕ) → drive_of t g ≡ found → IsSome found → g < 80
    by_drive None e bad = absurd (let no : ⊥ = cc bad in no)
    by_drive (Some drive) e some =
        let edge = child-edge (GuestOf g) Drive t.edges drive e in
        let fits = joined.sound.fit.each edge.edge (subst (λ (edges : List Edge). Contains edges edge.edge) (sym alike.edges) edge.there) in
        subst (HasParent nodes.graph) edge.from fits.parent

-- the world in which a command holds other disks belongs together as before
pub whole_held : (w : WorldSeen) (disks : List ℕ) → IsWholeWorld w → IsWholeWorld (record w { drains = after_later disks w.drains })
whole_held w disks is = record {
  coherent = is.coherent;
  tell = is.tell;
  counted = is.counted;
  bitmaps = is.bitmaps;
  jobs = is.jobs;
  drains = record { each = is.drains.each; once = is.drains.once };
}

abbrev pub staged : WorldSeen → Scene → WorldSeen
staged w y = record w { nodes = y.nodes; table = y.table; drains = y.drains; bitmaps = y.bitmaps }

-- none of them takes a node's bitmaps away
left_bitmaps : (t : RunTable) (c : Cmd) (old now : List Bitmap) → is_change c ≡ true → AreAfter t c old now → LeavesBitmaps t c None old now
left_bitmaps t (command.BlockdevDel name) old now is after = absurd cc
left_bitmaps t c old now is after = after

leaves_nothing : (t : RunTable) (c : Cmd) (cause : Refusal) → is_change c ≡ true → left_by t c cause ≡ []
leaves_nothing t (command.BlockdevCreate c) cause is = absurd cc
leaves_nothing t c cause is = refl

module _ (w : WorldSeen) (whole : IsWholeWorld w) (joined : IsJoined w.nodes) (given : List ℕ) (c : Cmd) (is : is_change c ≡ true) (y : Scene) (after : IsJoined y.nodes) where
  abbrev x : Scene
  x = scene w.table w.nodes w.drains w.bitmaps

  abbrev v : WorldSeen
  v = staged w y

  abbrev Answered : List ℕ → WorldSeen → Type 0
  Answered text f = IsCarriedAs w f given c text × IsWholeWorld f

  said_so : (f : WorldSeen) (told : Told) (refusal' : Option Refusal) (text : List ℕ)
      → ((carried : IsCarried w f c refusal') × (carried.told ≡ told)) → IsSaid given (answer w.table told c).reply text
      → dirty_of f ≡ dirty_after w.table (dirty_of w) (answer w.table told c).changes → LeavesBitmaps w.table c refusal' w.bitmaps f.bitmaps
      → IsCarriedAs w f given c text
  said_so f told refusal' text carried said dirty bitmaps = record {
    refusal = refusal';
    carried = carried.0;
    said = subst (λ (z : Told). IsSaid given (answer w.table z c).reply text) (sym carried.1) said;
    dirty = subst (λ (z : Told). dirty_of f ≡ dirty_after w.table (dirty_of w) (answer w.table z c).changes) (sym carried.1) dirty;
    bitmaps = bitmaps;
  }

  -- ---- it is refused

  module _ (told : Told) (tells : TellsMappedAlone w.table w.nodes c told) where
    stopped : told.stopped ≡ None
    stopped = stops_not w.table w.nodes c told tells

    uncaused : (cause : Refusal) → is_io_refusal cause ≡ false → IsCaused w w c cause
    uncaused (refusal.Io source count) call = absurd (let bad : ⊥ = cc call in bad)
    uncaused (refusal.NoSpace dev) call = absurd (let bad : ⊥ = cc call in bad)
    uncaused _ call = tt

    stays : (c : Cmd) → is_change c ≡ true → (cause : Refusal) → Leaves w.table (clean_told told) c (Some cause) w.table (site_of w) (site_of w)
    stays (command.BlockdevAdd c) is cause = absurd cc
    stays (command.BlockdevCreate c) is cause = absurd cc
    stays c is cause = refl

    refused : (cause : Refusal) → refusal_to w.table told c ≡ Some cause → (carried : IsCarried w w c (Some cause)) × (carried.told ≡ told)
    refused cause some =
        let changes : (answer w.table told c).changes ≡ []
        = ap (λ (a : Answer). a.changes) (answer-is w.table told c (Some cause) some) ∙ leaves_nothing w.table c cause is in
        let quiet = told_quiet w.table told c cause stopped some in
        let carried : IsCarried w w c (Some cause) = record {
          told = told;
          counts = λ prints. absurd (false≢true (sym (silent c is) ∙ prints));
          by_files = subst StopsByFiles (sym stopped) tt;
          maps = tells.maps;
          answered = some;
          table = sym (ap (all_changed w.table) changes);
          progress = refl;
          drains = refl;
          works = refl;
          calm = λ none. absurd (let bad : ⊥ = cc none in bad);
          runs = runs-devices w w refl refl refl refl refl refl (same-devices w.nodes.devices);
          hides = subst (HidesNoFault w w) (sym (quiet_named cause quiet)) (hides-same w w refl refl refl);
          opens = opens_none c is w.opened;
          site = stays c is cause;
          cause = uncaused cause quiet;
          coherent = λ was. was;
          shows = λ some' o s shows.
              told_so w whole joined c is told tells o s some' shows w
              (subst (λ (cs : List Change). AllPerformed s cs (contents_of w) (contents_of w)) (sym changes) (quiet-self (contents_of w)));
        } in
        (carried, refl)

    refused_follows : (cause : Refusal) → refusal_to w.table told c ≡ Some cause → FollowChanges w.table w.bitmaps w.bitmaps (answer w.table told c).changes
    refused_follows cause some =
        subst (FollowChanges w.table w.bitmaps w.bitmaps)
        (sym (ap (λ (a : Answer). a.changes) (answer-is w.table told c (Some cause) some) ∙ leaves_nothing w.table c cause is))
        (follow-none w.table w.bitmaps whole.bitmaps)

    by_refusal : (text : List ℕ) → IsSaid given (answer w.table told c).reply text → y.table ≡ all_changed w.table (answer w.table told c).changes
        → (refusal' : Option Refusal) → refusal_to w.table told c ≡ refusal' → DoneIf refusal' (IsDone c x y) (IsUndone x y)
        → (refusal' ≡ None → AreCalm w.table w.progress.guests (drained_by w.table c)) → Answered text (record v { drains = w.drains })
    by_refusal text said table None none done calm =
        let edits : y.table ≡ all_changed w.table (command_edits w.table told c)
        = table ∙ ap (λ (a : Answer). all_changed w.table a.changes) (answer-is w.table told c None none) in
        let put = done.rewired in
        subst (λ (n : Nodes). Answered text (record w { nodes = n; table = y.table; bitmaps = y.bitmaps })) (sym put.are)
        (let joined_then = subst IsJoined put.are after in
        let reads = (subst (IsRewired y.table w.nodes) put.are put).reads in
        let f : WorldSeen = record w { nodes = as_in y.table w.nodes; table = y.table; bitmaps = y.bitmaps } in (
          said_so f told None text (changed_carried w whole joined c is told tells none (calm refl) y.table edits joined_then reads y.bitmaps done.bitmaps) said
              (changed_follows w whole joined c is told tells none (calm refl) y.table edits joined_then reads y.bitmaps done.bitmaps).dirty
              (left_bitmaps w.table c w.bitmaps y.bitmaps is done.bitmaps),
          changed_whole w whole joined c is told tells none (calm refl) y.table edits joined_then reads y.bitmaps done.bitmaps,
        ))
    by_refusal text said table (Some cause) some kept calm =
        let changes : (answer w.table told c).changes ≡ []
        = ap (λ (a : Answer). a.changes) (answer-is w.table told c (Some cause) some) ∙ leaves_nothing w.table c cause is in
        let same_table : y.table ≡ w.table = table ∙ ap (all_changed w.table) changes in
        let same : w ≡ record v { drains = w.drains }
        = ap (λ (n : Nodes). let f : WorldSeen = record w { nodes = n } in f) (sym kept.nodes)
        ∙ ap (λ (t : RunTable). let f : WorldSeen = record w { nodes = y.nodes; table = t } in f) (sym same_table)
        ∙ ap (λ (b : List Bitmap). let f : WorldSeen = record w { nodes = y.nodes; table = y.table; bitmaps = b } in f) (sym kept.bitmaps) in
        subst (Answered text) same (said_so w told (Some cause) text (refused cause some) said (refused_follows cause some).dirty refl, whole)

  said : (text : List ℕ) → HasChanged (seen_state w) given c x y text → Answered text v
  said text has =
      subst (λ (drains : Drained). Answered text (record v { drains = drains })) (sym has.drains)
      (by_refusal has.told has.tells text has.said has.table has.refusal has.judged has.done_is has.calm)

  -- ---- it has to wait

  late : (g r : ℕ) → HasToBeLater (seen_state w) c x y g r → IsLate w v c g r × IsWholeWorld v
  late g r has =
      let left : v ≡ held_for c w = ap (staged w) has.left in
      let tells = has.tells in (
        record {
          told = has.told;
          by_files = subst StopsByFiles (sym (stops_not w.table w.nodes c has.told tells)) tt;
          maps = tells.maps;
          waits = record { accepted = has.accepted; waits = has.waits };
          left = left;
          shows = λ some o s shows. late_so w whole joined c is has.told tells o s some shows;
        },
        subst IsWholeWorld (sym left) (whole_held w (drained_by w.table c) whole),
      )

  -- ---- whichever it is

  module _ {E : Type 0} (r : Result Carried E) (ok : IfOk r (λ a. (s : State) → s.table ≡ w.table → s.guests ≡ w.progress.guests → IsChange s given c x y a)) where
    both : (a : Carried) → IsChange (seen_state w) given c x y a → IsCarriedOut w v given c a × IsWholeWorld v
    both (carried.Said text) has = said (string_bytes text) has
    both (carried.Later g n) has = late g n has

    pub changes_carried : IfOk r (λ a. IsCarriedOut w v given c a)
    changes_carried = by_result r ok
      where
        by_result : (r : Result Carried E) → IfOk r (λ a. (s : State) → s.table ≡ w.table → s.guests ≡ w.progress.guests → IsChange s given c x y a)
            → IfOk r (λ a. IsCarriedOut w v given c a)
        by_result (Ok a) has = (both a (has (seen_state w) refl refl)).0
        by_result (Err e) has = has

    pub changes_whole : OnErr r (y ≡ x) → IsWholeWorld v
    changes_whole back = by_result r ok back
      where
        by_result : (r : Result Carried E) → IfOk r (λ a. (s : State) → s.table ≡ w.table → s.guests ≡ w.progress.guests → IsChange s given c x y a)
            → OnErr r (y ≡ x) → IsWholeWorld v
        by_result (Ok a) has back = (both a (has (seen_state w) refl refl)).1
        by_result (Err e) has back = subst IsWholeWorld (ap (staged w) (sym back)) whole

    pub changes_back : OnErr r (y ≡ x) → OnErr r (IsPutBackBy w v c)
    changes_back back = by_result r back
      where
        by_result : (r : Result Carried E) → OnErr r (y ≡ x) → OnErr r (IsPutBackBy w v c)
        by_result (Ok a) back = back
        by_result (Err e) back = subst (λ (f : WorldSeen). IsPutBackBy w f c) (ap (staged w) (sym back)) (put_back_by w c)
