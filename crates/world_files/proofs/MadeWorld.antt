-- A creation in the world: carried out, refused, or stopped by a call.
use Rattle.std.proofs.Common.{◌≡◌, ℕ, ◌≤◌, true, List, [], ◌∷◌, inr, refl, sym, ◌∙◌, ap, subst, Option, Some, None, Ok, Err}
use Rattle.std.specs.Prelude.{is_some}
use Rattle.std.proofs.lemmas.List.Elements.{All-nil}
use Rattle.flat_machine.specs.Marks.{IsCalm}
use Rattle.qmp_codec.specs.Commands.{Cmd}
use Rattle.qmp_codec.specs.declared.command.Command.TheVariants as command
use Rattle.qmp_codec.specs.declared.nodes.BlockdevCreate.{BlockdevCreate}
use Rattle.qmp_codec.specs.declared.nodes.Created.{Created}
use Rattle.qmp_codec.specs.declared.nodes.Created.TheVariants as created
use Rattle.qmp_rules.specs.Answers.{Answer, answer, refusal_to}
use Rattle.qmp_rules.specs.Changes.{all_changed}
use Rattle.qmp_rules.specs.Edits.{create_edits, edits_of, file_of_node, spoiled}
use Rattle.qmp_rules.specs.Looks.{create_told}
use Rattle.qmp_rules.specs.Table.{RunTable}
use Rattle.qmp_rules.specs.Asks.{id_or}
use Rattle.qmp_asks.specs.Values.{amount_or}
use Rattle.qmp_rules.specs.declared.change.Change.TheVariants.{FormatFile, KeepId}
use Rattle.blk_nodes.specs.Nodes.{Nodes}
use Rattle.qmp_rules.specs.declared.change.Change.{Change}
use Rattle.qmp_rules.specs.declared.refusal.Refusal.{Refusal}
use Rattle.qmp_rules.specs.declared.refusal.Refusal.TheVariants as refusal
use Rattle.qmp_rules.specs.declared.told.Told.{Told}
use Rattle.flat_machine.specs.Performing.{AllPerformed}
use Rattle.flat_machine.specs.State.{State}
use Rattle.flat_machine.specs.Wiring.{TableAtRest}
use Rattle.flat_machine.proofs.TableRests.{command_rests, spoiled_rests}
use Rattle.blk_nodes.specs.Joined.{IsJoined}
use Rattle.world_parts.specs.Carrying.{IsCarried, IsOfFiles, StopsByFiles, fault_named, opened_names}
use Rattle.world_parts.specs.Coherent.{IsWholeWorld}
use Rattle.world_parts.specs.Counting.{HidesNoFault}
use Rattle.world_parts.specs.Creating.{HasCreated, HasFormatted, creation_for}
use Rattle.world_parts.specs.Deleting.{Ground, ground_of}
use Rattle.world_parts.specs.Face.{WorldSeen, contents_of}
use Rattle.world_parts.specs.Leaving.{clean_told}
use Rattle.world_parts.specs.Making.{FitsWords, HasEndedSo, look_of, told_failed}
use Rattle.world_files.proofs.Belonging.{belong_of}
use Rattle.world_parts.proofs.CountLemmas.{out-same}
use Rattle.world_parts.proofs.CountsKept.{hides-same}
use Rattle.world_files.proofs.CreatedAsked.{file_asked}
use Rattle.world_files.proofs.CreatedCauses.{FitsSo, created_causes}
use Rattle.world_files.proofs.CreatedFits.{created_fits}
use Rattle.world_files.proofs.CreatedReady.{can_create}
use Rattle.world_files.proofs.MadeHandled.{fails-so, left-some}
use Rattle.world_files.proofs.MadeCarried.{id_is, its, lone_file, made_ground, moves_failed, moves_image, moves_made}
use Rattle.world_files.proofs.MadeCounts.{hides_failed, hides_formatted, hides_unformatted}
use Rattle.world_files.proofs.MadeMoves.{IsEasedTo, Moves, eased_image, eased_spoiled, moved_coherent, moved_runs, moved_whole}
use Rattle.world_files.proofs.MadePerformed.{performed_failed, performed_image, performed_made, performed_stopped}
use Rattle.world_files.proofs.MadeTold.{stopped-none, told_by_failure, told_by_room}
use Rattle.world_parts.proofs.BitmapsLeft.{left-listed}
use Rattle.world_parts.proofs.JobsAnswered.{drains_kept, jobs_kept}
use Rattle.world_parts.proofs.Placed.{placed, answer-is}

-- carried out, and told this
abbrev pub CarriedTold : WorldSeen → WorldSeen → Cmd → Option Refusal → Told → Type 0
CarriedTold w v c refusal told = (carried : IsCarried w v c refusal) × (carried.told ≡ told)

-- what is accepted leaves the table at rest
rests-created : (w : WorldSeen) (c : BlockdevCreate (List ℕ)) (told : Told) → refusal_to w.table told (command.BlockdevCreate c) ≡ None → TableAtRest w.table
    → TableAtRest (all_changed w.table (create_edits w.table c))
unfolding edits_of
rests-created w c told none was = (command_rests w.table told told (command.BlockdevCreate c) refl was none).1

pub changes-created : (t : RunTable) (told : Told) (c : BlockdevCreate (List ℕ)) → refusal_to t told (command.BlockdevCreate c) ≡ None
    → (answer t told (command.BlockdevCreate c)).changes ≡ create_edits t c
unfolding edits_of
changes-created t told c none = ap (λ (a : Answer). a.changes) (answer-is t told (command.BlockdevCreate c) None none)

-- nothing is told of what is dirty
pub clean_first : (options : Created (List ℕ)) (room : ℕ) → clean_told (create_told options room) ≡ create_told options room
unfolding create_told
clean_first (created.File c) room = refl
clean_first _ room = refl

clean_failed : (id : List ℕ) (options : Created (List ℕ)) (room : ℕ) (cause : Refusal)
    → clean_told (told_failed (command.BlockdevCreate (record { job_id = id; options = options })) room cause)
    ≡ told_failed (command.BlockdevCreate (record { job_id = id; options = options })) room cause
clean_failed id options room cause =
    ap (λ (told : Told). let x : Told = record told { stopped = Some (record { look = look_of options; refusal = cause }) } in x) (clean_first options room)

-- ---- accepted

module _ (w : WorldSeen) (whole : IsWholeWorld w) (joined : IsJoined w.nodes) (c : BlockdevCreate (List ℕ)) (none : refusal_to w.table (create_told c.options w.room) (command.BlockdevCreate c) ≡ None)
    (x : Ground) (created_is : HasCreated w.table c.options (ground_of w) x) where
  abbrev v : WorldSeen
  v = placed w x (all_changed w.table (create_edits w.table c))

  pub accepted_carried : Moves w v → HidesNoFault w v None → ((s : State) → is_some w.files ≡ true → s.table ≡ w.table → AllPerformed s (create_edits w.table c) (contents_of w) (contents_of v))
      → CarriedTold w v (command.BlockdevCreate c) None (create_told c.options w.room) × IsWholeWorld v
  accepted_carried moves hides performed =
      let told : Told = create_told c.options w.room in
      let changes = changes-created w.table told c none in
      let rest = rests-created w c told none whole.coherent.table in
      let carried : IsCarried w v (command.BlockdevCreate c) None = record {
        told = told;
        counts = λ prints. absurd (let bad : ⊥ = cc prints in bad);
        by_files = subst StopsByFiles (sym (stopped-none w.table c.job_id c.options w.room none)) tt;
        maps = tt;
        answered = none;
        table = ap (all_changed w.table) (sym changes);
        progress = refl;
        drains = refl;
        works = refl;
        runs = moved_runs w v moves;
        hides = hides;
        opens = ap opened_names moves.opened;
        site = (clean_first c.options w.room, created_is);
        calm = λ is. All-nil (IsCalm w.table w.progress.guests);
        cause = created_fits w x whole.coherent.out.once c created_is;
        coherent = moved_coherent w v moves rest;
        shows = λ told_files o s shows. told_by_room o s w v c shows
            (subst (λ (cs : List Change). AllPerformed s cs (contents_of w) (contents_of v)) (sym changes) (performed s told_files shows.table.table_is));
      } in (
        (carried, refl),
        moved_whole w v moves rest (left-listed w.table told (command.BlockdevCreate c) w.bitmaps v.table refl carried.table whole.bitmaps)
            (jobs_kept w whole joined (command.BlockdevCreate c) told v.table (λ accepted. record { one = tt; none = refl }) carried.table)
            (drains_kept w whole joined (command.BlockdevCreate c) told v.table (λ accepted. record { one = tt; none = refl }) carried.table) whole,
      )

-- ---- a call failed

FitsSo-of : (cause : Refusal) → FitsWords cause → FitsSo cause
FitsSo-of (refusal.Io source count) fits = fits
FitsSo-of (refusal.NoSpace dev) fits = fits
FitsSo-of _ fits = absurd fits

files-of : (cause : Refusal) → FitsWords cause → IsOfFiles cause
files-of (refusal.Io source count) fits = tt
files-of (refusal.NoSpace dev) fits = tt
files-of _ fits = absurd fits

module _ (w : WorldSeen) (whole : IsWholeWorld w) (joined : IsJoined w.nodes) (c : BlockdevCreate (List ℕ)) (none : refusal_to w.table (create_told c.options w.room) (command.BlockdevCreate c) ≡ None)
    (x : Ground) (cause : Refusal) (ended : HasEndedSo w.table (command.BlockdevCreate c) (ground_of w) x cause) where
  abbrev failed_then : WorldSeen
  failed_then = placed w x (all_changed w.table (spoiled w.table c.options))

  pub stopped_carried : Moves w failed_then → HidesNoFault w failed_then (fault_named cause)
      → ((s : State) → is_some w.files ≡ true → s.table ≡ w.table → AllPerformed s (spoiled w.table c.options) (contents_of w) (contents_of failed_then))
      → CarriedTold w failed_then (command.BlockdevCreate c) (Some cause) (told_failed (command.BlockdevCreate c) w.room cause) × IsWholeWorld failed_then
  stopped_carried moves hides performed =
      let told : Told = told_failed (command.BlockdevCreate c) w.room cause in
      let some : refusal_to w.table told (command.BlockdevCreate c) ≡ Some cause = fails-so w.table c.job_id c.options w.room cause none in
      let changes : (answer w.table told (command.BlockdevCreate c)).changes ≡ spoiled w.table c.options =
      ap (λ (a : Answer). a.changes) (answer-is w.table told (command.BlockdevCreate c) (Some cause) some) ∙ left-some w.table c cause ended.fits in
      let rest = spoiled_rests w.table c.options whole.coherent.table in
      let can = can_create w.table (ground_of w) (belong_of w.table (ground_of w) w.progress whole.coherent) c.job_id c.options none in
      let carried : IsCarried w failed_then (command.BlockdevCreate c) (Some cause) = record {
        told = told;
        counts = λ prints. absurd (let bad : ⊥ = cc prints in bad);
        by_files = files-of cause ended.fits;
        maps = tt;
        answered = some;
        table = ap (all_changed w.table) (sym changes);
        progress = refl;
        drains = refl;
        works = refl;
        runs = moved_runs w failed_then moves;
        hides = hides;
        opens = ap opened_names moves.opened;
        site = inr (record { told_is = clean_failed c.job_id c.options w.room cause; accepted = none; ended = ended });
        calm = λ is. All-nil (IsCalm w.table w.progress.guests);
        cause = created_causes w failed_then c (moved_runs w failed_then moves) whole.counted moves.opened whole.coherent.out
            (out-same w.table w.nodes x.nodes w.opened moves.nodes.devices whole.coherent.out) cause none can ended.failed (FitsSo-of cause ended.fits);
        coherent = moved_coherent w failed_then moves rest;
        shows = λ told_files o s shows. told_by_failure o s w failed_then c.job_id c.options (ground_of w) x cause shows none ended.failed
            (subst (λ (cs : List Change). AllPerformed s cs (contents_of w) (contents_of failed_then)) (sym changes) (performed s told_files shows.table.table_is));
      } in (
        (carried, refl),
        moved_whole w failed_then moves rest (left-listed w.table told (command.BlockdevCreate c) w.bitmaps failed_then.table refl carried.table whole.bitmaps)
            (jobs_kept w whole joined (command.BlockdevCreate c) told failed_then.table (λ accepted. record { one = tt; none = refl }) carried.table)
            (drains_kept w whole joined (command.BlockdevCreate c) told failed_then.table (λ accepted. record { one = tt; none = refl }) carried.table) whole,
      )

-- ---- by what is created

module _ (w : WorldSeen) (whole : IsWholeWorld w) (joined : IsJoined w.nodes) (id : List ℕ) (x : Ground) (after : IsJoined x.nodes) where
  abbrev asks_for : Created (List ℕ) → BlockdevCreate (List ℕ)
  asks_for options = record { job_id = id; options = options }

  abbrev made_then : Created (List ℕ) → Ground → WorldSeen
  made_then options y = placed w y (all_changed w.table (create_edits w.table (asks_for options)))

  pub made_world : (options : Created (List ℕ)) → refusal_to w.table (create_told options w.room) (command.BlockdevCreate (asks_for options)) ≡ None
      → HasCreated w.table options (ground_of w) x
      → CarriedTold w (made_then options x) (command.BlockdevCreate (asks_for options)) None (create_told options w.room) × IsWholeWorld (made_then options x)
  made_world (created.File c) none is =
      let asked = file_asked w.table (create_told (created.File c) w.room) id c none in
      subst (λ (y : Ground). CarriedTold w (made_then (created.File c) y) (command.BlockdevCreate (asks_for (created.File c))) None (create_told (created.File c) w.room)
      × IsWholeWorld (made_then (created.File c) y)) (sym is)
      (accepted_carried w whole joined (asks_for (created.File c)) none (made_ground w whole id c) refl (moves_made w whole id c)
      (hides-same w (made_then (created.File c) (made_ground w whole id c)) refl refl refl)
      (λ s told same. performed_made w whole id c asked.closed s told))
  made_world (created.Qcow2 c) none is =
      let rest = whole.coherent.table in
      let row = (its w.table rest id c w.room none).row in
      let name : List ℕ = file_of_node w.table c.file in
      let size : ℕ = amount_or 0 (Some c.size) in
      let lone = lone_file w.table rest id c w.room none in
      let same = id_is w.table rest id c w.room none in
      let eased : IsEasedTo w.table (all_changed w.table (create_edits w.table (asks_for (created.Qcow2 c)))) =
      subst (λ (n : ℕ). IsEasedTo w.table (all_changed w.table (KeepId id ∷ FormatFile n name size c.backing_file c.backing_fmt ∷ []))) (sym same)
      (eased_image w.table rest.stands row name lone id size c) in
      accepted_carried w whole joined (asks_for (created.Qcow2 c)) none x is
      (moves_image w whole joined x after (id_or 0 w.table (Some c.file)) (creation_for c) (Ok tt) is _ eased)
      (hides_formatted w whole joined x (all_changed w.table (create_edits w.table (asks_for (created.Qcow2 c)))) (id_or 0 w.table (Some c.file)) (creation_for c) (Ok tt) is is.format.formatted.cause)
      (λ s told at.
      subst (λ (n : ℕ). AllPerformed s (KeepId id ∷ FormatFile n name size c.backing_file c.backing_fmt ∷ []) (contents_of w) (contents_of (made_then (created.Qcow2 c) x))) (sym same)
      (performed_image w whole x _ row name lone eased.eased (creation_for c) (Ok tt)
      (subst (λ (n : ℕ). HasFormatted n (ground_of w) x (creation_for c) (Ok tt)) same is) told s id size c.backing_file c.backing_fmt tt refl refl))
  made_world created.Unknown none is = absurd is

  abbrev spoiled_then : Created (List ℕ) → Ground → WorldSeen
  spoiled_then options y = placed w y (all_changed w.table (spoiled w.table options))

  pub spoiled_world : (options : Created (List ℕ)) (cause : Refusal) → refusal_to w.table (create_told options w.room) (command.BlockdevCreate (asks_for options)) ≡ None
      → HasEndedSo w.table (command.BlockdevCreate (asks_for options)) (ground_of w) x cause → w.faults ≤ x.store.faults
      → CarriedTold w (spoiled_then options x) (command.BlockdevCreate (asks_for options)) (Some cause) (told_failed (command.BlockdevCreate (asks_for options)) w.room cause)
      × IsWholeWorld (spoiled_then options x)
  spoiled_world (created.File c) cause none ended least =
      let asked = file_asked w.table (create_told (created.File c) w.room) id c none in
      let nodes = sym ended.failed.0 in
      stopped_carried w whole joined (asks_for (created.File c)) none x cause ended
      (subst (λ (n : Nodes). Moves w (spoiled_then (created.File c) (record { store = x.store; nodes = n }))) nodes (moves_failed w whole id c none x.store cause ended.failed.1 least))
      (hides_failed w whole joined x (all_changed w.table (spoiled w.table (created.File c))) c.filename (amount_or 0 (Some c.size)) cause ended.failed.0 ended.failed.1)
      (λ s told same.
      subst (λ (n : Nodes). AllPerformed s (spoiled w.table (created.File c)) (contents_of w) (contents_of (spoiled_then (created.File c) (record { store = x.store; nodes = n })))) nodes
      (performed_failed w whole id c asked.closed s x.store ended.failed.1.others))
  spoiled_world (created.Qcow2 c) cause none ended least =
      let rest = whole.coherent.table in
      let row = (its w.table rest id c w.room none).row in
      let name : List ℕ = file_of_node w.table c.file in
      let lone = lone_file w.table rest id c w.room none in
      let same = id_is w.table rest id c w.room none in
      let eased = eased_spoiled w.table rest.stands row name lone in
      stopped_carried w whole joined (asks_for (created.Qcow2 c)) none x cause ended
      (moves_image w whole joined x after (id_or 0 w.table (Some c.file)) (creation_for c) (Err ended.failed.why) ended.failed.formatted _ eased)
      (hides_unformatted w whole joined x (all_changed w.table (spoiled w.table (created.Qcow2 c))) (id_or 0 w.table (Some c.file)) (creation_for c) (Err ended.failed.why) ended.failed.formatted cause
      ended.failed.why ended.failed.formatted.format.formatted.cause ended.failed.is)
      (λ s told at.
      performed_stopped w whole x _ row name lone eased.eased (creation_for c) (Err ended.failed.why)
      (subst (λ (n : ℕ). HasFormatted n (ground_of w) x (creation_for c) (Err ended.failed.why)) same ended.failed.formatted) told s at)
  spoiled_world created.Unknown cause none ended least = absurd ended.failed
