-- How a command that starts a backup or a mirror is carried out in a world: refused, put off, or accepted, with its filter over its source.
use Rattle.std.proofs.Common.{◌≡◌, ℕ, Bool, true, false, cond, List, [], ◌∷◌, ◌++◌, Some, None, Ok, Err, Option, refl, sym, ◌∙◌, ap, subst}
use Rattle.std.specs.Prelude.{IsSome, Result, is_some, string_bytes}
use Rattle.std.proofs.lemmas.Bool.{false≢true}
use Rattle.blk_bitmaps.specs.declared.row.Bitmap.{Bitmap}
use Rattle.blk_graph.specs.declared.kind.Kind.{Kind}
use Rattle.blk_nodes.specs.Contents.{Unfolds}
use Rattle.blk_nodes.specs.Joined.{IsJoined}
use Rattle.blk_nodes.specs.Nodes.{Nodes}
use Rattle.flat_machine.specs.Marks.{AreCalm, Drained, MustWait, drained_by}
use Rattle.flat_machine.specs.Performing.{AllPerformed}
use Rattle.flat_machine.specs.Recording.{dirty_after, dirty_beside}
use Rattle.flat_machine.specs.State.{Dirty, State}
use Rattle.flat_machine.specs.declared.opening.Opening.{Opening}
use Rattle.qmp_codec.specs.Commands.{Cmd}
use Rattle.qmp_rules.specs.Answers.{Answer, answer, command_edits, refusal_to, returned, told_none}
use Rattle.qmp_rules.specs.Asks.{is_file}
use Rattle.qmp_rules.specs.Changes.{all_changed, changed}
use Rattle.qmp_rules.specs.Edits.{copy_edits, device_uses, file_used, file_uses, filter_edits, filter_row, of_row, target_edits, uses_target}
use Rattle.qmp_rules.specs.Table.{RunTable, node_by_id}
use Rattle.qmp_rules.specs.declared.change.Change.{Change}
use Rattle.qmp_rules.specs.declared.change.Change.TheVariants as change
use Rattle.qmp_rules.specs.declared.refusal.Refusal.{Refusal}
use Rattle.qmp_rules.specs.declared.rows.JobRecord.{JobRecord}
use Rattle.qmp_rules.specs.declared.rows.NodeRecord.{NodeRecord}
use Rattle.qmp_rules.specs.declared.told.Told.{Told}
use Rattle.job_commands.specs.Begun.{CopyCmd, OfBackup, OfMirror, cmd_of, copy_job}
use Rattle.world_goings.proofs.CopyStarts.{command_starts, driver_of, start_copies}
use Rattle.world_goings.proofs.StartReply.{refused_none}
use Rattle.world_goings.proofs.StartWorld.{start_coherent, start_did}
use Rattle.world_parts.specs.Carrying.{IsCarried, IsCarriedAs, IsCarriedIn, IsLate, held_for, is_io_refusal, prints_counts}
use Rattle.world_parts.specs.Coherent.{IsWholeWorld}
use Rattle.world_parts.specs.Comes.{ShowsState}
use Rattle.world_parts.specs.Counting.{AreSameDevices, HidesNoFault}
use Rattle.world_parts.specs.Face.{WorldSeen, contents_of, dirty_of, seen_state}
use Rattle.world_parts.specs.Jobs.{PutsFilter}
use Rattle.world_parts.specs.Leaving.{Leaves, LeavesBitmaps, clean_told}
use Rattle.world_parts.specs.Looking.{Site}
use Rattle.world_parts.specs.Saying.{IsSaid}
use Rattle.world_parts.specs.Staging.{site_of}
use Rattle.world_jobs.specs.Started.{IsStartIn}
use Rattle.world_jobs.specs.Starting.{IsStartOf, StartScene, start_scene}
use Rattle.world_jobs.specs.declared.start.Started.{Started}
use Rattle.world_jobs.specs.declared.start.Started.TheVariants.{Refused, Later, Begun}
use Rattle.world_parts.proofs.CarryPlain.{fits_all, late_nothing, maps_nothing, opens_nothing, plain_opens, quiet-leaves, quiet-self, quiet_cause, quiet_named, table_quiet, told_nothing}
use Rattle.world_parts.proofs.CountLemmas.{runs-devices, same-devices}
use Rattle.world_parts.proofs.CountsKept.{hides-same}
use Rattle.world_parts.proofs.Placed.{answer-is}

-- ---- its changes make nothing dirty

abbrev IsSilent : Change → Type 0
IsSilent c = (t : RunTable) (ds : List Dirty) → dirty_beside t ds c ≡ ds

abbrev AreSilent : List Change → Type 0
AreSilent [] = Unit {0}
AreSilent (c ∷ changes) = IsSilent c × AreSilent changes

silent_dirty : (changes : List Change) (t : RunTable) (ds : List Dirty) → AreSilent changes → dirty_after t ds changes ≡ ds
silent_dirty [] t ds silent = refl
silent_dirty (c ∷ changes) t ds silent =
    ap (λ (x : List Dirty). dirty_after (changed t c) x changes) (silent.0 t ds) ∙ silent_dirty changes (changed t c) ds silent.1

silent_both : (xs ys : List Change) → AreSilent xs → AreSilent ys → AreSilent (xs ++ ys)
silent_both [] ys first later = later
silent_both (x ∷ xs) ys first later = (first.0, silent_both xs ys first.1 later)

named_silent : (name : Option (List ℕ)) → AreSilent (file_uses name)
named_silent None = tt
named_silent (Some name) = (λ t ds. refl, tt)

used_silent : (found : Option NodeRecord) → AreSilent (of_row device_uses found)
used_silent None = tt
used_silent (Some row) = by_file (is_file row)
  where
    by_file : (b : Bool) → AreSilent (cond b (file_uses row.filename) [])
    by_file true = named_silent row.filename
    by_file false = tt

target_silent : (t : RunTable) (target : Option ℕ) → AreSilent (target_edits t target)
target_silent t None = tt
target_silent t (Some target) = silent_both (file_used t (Some target)) (change.Unsettle target ∷ []) (used_silent (node_by_id t target)) (λ u ds. refl, tt)

filter_silent : (t : RunTable) (driver : Kind) (id : List ℕ) (found : Option NodeRecord)
    → AreSilent (of_row (λ row. change.PutFilter (filter_row t driver id row) row.id ∷ []) found)
filter_silent t driver id None = tt
filter_silent t driver id (Some row) = (λ u ds. refl, tt)

uses_silent : (job : JobRecord) (target : Option ℕ) → AreSilent (uses_target job target)
uses_silent job None = tt
uses_silent job (Some target) = (λ u ds. refl, tt)

copy_silent : (t : RunTable) (driver : Kind) (job : JobRecord) → AreSilent (copy_edits t driver job)
copy_silent t driver job =
    silent_both (target_edits t job.target ++ filter_edits t driver job) (change.StartJob job ∷ uses_target job job.target)
    (silent_both (target_edits t job.target) (filter_edits t driver job) (target_silent t job.target) (filter_silent t driver job.id (node_by_id t job.source)))
    (λ u ds. refl, uses_silent job job.target)

edits_silent : (t : RunTable) (c : CopyCmd) → AreSilent (command_edits t told_none (cmd_of c))
edits_silent t c = subst AreSilent (sym (command_starts t told_none c ∙ start_copies t c)) (copy_silent t (driver_of c) (copy_job t c))

-- ---- nothing is told to it, and it leaves store and bitmaps

opens_none : (c : CopyCmd) → opens_nothing (cmd_of c) ≡ true
opens_none (OfBackup c) = refl
opens_none (OfMirror c) = refl

prints_none : (c : CopyCmd) → prints_counts (cmd_of c) ≡ false
prints_none (OfBackup c) = refl
prints_none (OfMirror c) = refl

leaves_site : (t : RunTable) (told : Told) (c : CopyCmd) (u : RunTable) (old new : Site) → new.store ≡ old.store → PutsFilter u (copy_job t c) old.nodes new.nodes
    → Leaves t told (cmd_of c) None u old new
leaves_site t told (OfBackup c) u old new store puts = (store, puts)
leaves_site t told (OfMirror c) u old new store puts = (store, puts)

leaves_bitmaps : (t : RunTable) (c : CopyCmd) (rows : List Bitmap) → LeavesBitmaps t (cmd_of c) None rows rows
leaves_bitmaps t (OfBackup c) rows = record { new = None; is_new = tt; are = refl }
leaves_bitmaps t (OfMirror c) rows = record { new = None; is_new = tt; are = refl }

-- ---- it is refused, or has to wait

module _ (w : WorldSeen) (given : List ℕ) (c : CopyCmd) where
  abbrev command : Cmd
  command = cmd_of c

  module _ (cause : Refusal) (some : refusal_to w.table told_none command ≡ Some cause) where
    answer_some : answer w.table told_none command ≡ record { changes = []; reply = Err cause }
    answer_some =
        answer-is w.table told_none command (Some cause) some
        ∙ ap (λ (cs : List Change). let a : Answer = record { changes = cs; reply = Err cause } in a) (refused_none w.table c cause)

    abbrev refused_carried : (carried : IsCarried w w command (Some cause)) × (carried.told ≡ told_none)
    refused_carried =
        let quiet = table_quiet w.table command cause some in
        let carried : IsCarried w w command (Some cause) = record {
          told = told_none;
          counts = λ prints. absurd (false≢true (sym (prints_none c) ∙ prints));
          by_files = tt;
          maps = maps_nothing w.table w.nodes command [] (opens_none c);
          answered = some;
          table = sym (ap (λ (a : Answer). all_changed w.table a.changes) answer_some);
          progress = refl;
          drains = refl;
          works = refl;
          runs = runs-devices w w refl refl refl refl refl refl (same-devices w.nodes.devices);
          hides = subst (HidesNoFault w w) (sym (quiet_named cause quiet)) (hides-same w w refl refl refl);
          opens = plain_opens command (opens_none c) w.opened w.opened refl;
          site = quiet-leaves w.table told_none command cause w.table _ (opens_none c);
          cause = quiet_cause w w command (Some cause) (opens_none c) (λ other is. let same : cause ≡ other = cc is in subst (λ (r : Refusal). is_io_refusal r ≡ false) same quiet);
          calm = λ none. absurd (let bad : ⊥ = cc none in bad);
          coherent = λ was. was;
          shows = λ some' o s shows.
              told_nothing o s w w command (opens_none c) (λ prints. absurd (false≢true (sym (prints_none c) ∙ prints))) shows
              (subst (λ (a : Answer). AllPerformed s a.changes (contents_of w) (contents_of w)) (sym answer_some) (quiet-self (contents_of w)));
        } in
        (carried, refl)

    pub start_refused : (text : List ℕ) → IsSaid given (Err cause) text → (is : IsCarriedAs w w given command text) × IsSome is.refusal
    start_refused text said =
        let carried : IsCarriedAs w w given command text = record {
          refusal = Some cause;
          carried = refused_carried.0;
          said = subst (λ (a : Answer). IsSaid given a.reply text) (sym answer_some) said;
          dirty = sym (ap (λ (a : Answer). dirty_after w.table (dirty_of w) a.changes) answer_some);
          bitmaps = refl;
        } in
        (carried, refl)

  pub start_late : (g r : ℕ) → refusal_to w.table told_none command ≡ None → MustWait (seen_state w) (drained_by w.table command) g r
      → IsLate w (held_for command w) command g r
  start_late g r none waits = record {
    told = told_none;
    by_files = tt;
    maps = maps_nothing w.table w.nodes command [] (opens_none c);
    waits = record { accepted = none; waits = waits };
    left = refl;
    shows = λ some o s shows. late_nothing o s w command (opens_none c) (prints_none c);
  }

  -- ---- it is accepted

  module _ (whole : IsWholeWorld w) (joined : IsJoined w.nodes) (unfolds : Unfolds w.nodes) (u : RunTable) (now : Nodes)
      (none : refusal_to w.table told_none command ≡ None) (calm : AreCalm w.table w.progress.guests (drained_by w.table command))
      (table_is : u ≡ all_changed w.table (command_edits w.table told_none command)) (puts : PutsFilter u (copy_job w.table c) w.nodes now) (after : IsJoined now) where
    abbrev v : WorldSeen
    v = record w { table = u; nodes = now }

    answer_none : answer w.table told_none command ≡ record { changes = command_edits w.table told_none command; reply = Ok (returned w.table told_none command) }
    answer_none = answer-is w.table told_none command None none

    devices_same : now.devices ≡ w.nodes.devices
    devices_same = ap (λ (n : Nodes). n.devices) puts.are

    abbrev accepted_carried : IsCarried w v command None
    accepted_carried = record {
      told = told_none;
      counts = λ prints. absurd (false≢true (sym (prints_none c) ∙ prints));
      by_files = tt;
      maps = maps_nothing w.table w.nodes command [] (opens_none c);
      answered = none;
      table = table_is ∙ sym (ap (λ (a : Answer). all_changed w.table a.changes) answer_none);
      progress = refl;
      drains = refl;
      works = refl;
      runs = runs-devices w v refl refl refl refl refl refl
          (subst (λ ds. AreSameDevices w.nodes.devices ds) (sym devices_same) (same-devices w.nodes.devices));
      hides = hides-same w v refl refl devices_same;
      opens = plain_opens command (opens_none c) w.opened w.opened refl;
      site = leaves_site w.table (clean_told told_none) c u (site_of w) (site_of v) refl puts;
      cause = fits_all w command (opens_none c);
      calm = λ accepted. calm;
      coherent = λ was. start_coherent w u now told_none told_none c whole joined none table_is puts after;
      shows = λ some o s shows.
          told_nothing o s w v command (opens_none c) (λ prints. absurd (false≢true (sym (prints_none c) ∙ prints))) shows
          (subst (λ (a : Answer). AllPerformed s a.changes (contents_of w) (contents_of v)) (sym answer_none)
          (start_did w u now told_none told_none c whole joined none table_is puts after unfolds s shows.table.table_is));
    }

    pub start_accepted : (text : List ℕ) → IsSaid given (Ok (returned w.table told_none command)) text → IsCarriedAs w v given command text
    start_accepted text said = record {
      refusal = None;
      carried = accepted_carried;
      said = subst (λ (a : Answer). IsSaid given a.reply text) (sym answer_none) said;
      dirty =
          sym (ap (λ (a : Answer). dirty_after w.table (dirty_of w) a.changes) answer_none
          ∙ silent_dirty (command_edits w.table told_none command) w.table (dirty_of w) (edits_silent w.table c));
      bitmaps = leaves_bitmaps w.table c w.bitmaps;
    }

-- ---- each start

module _ (w : WorldSeen) (given : List ℕ) (c : CopyCmd) (u : RunTable) (now : Nodes) (drains : Drained) (whole : IsWholeWorld w) (joined : IsJoined w.nodes)
    (unfolds : Unfolds w.nodes) (after : IsJoined now) where
  pub started_in : (started : Started) → IsStartOf (seen_state w) given c w.bitmaps (start_scene w.table w.nodes w.drains) (start_scene u now drains) started
      → IsStartIn w u now drains given c started
  started_in (Refused text) did = (
    ap (λ (x : StartScene). record w { table = x.table; nodes = x.nodes; drains = x.drains }) did.kept,
    (start_refused w given c did.cause did.judged (string_bytes text) did.said).0,
    (start_refused w given c did.cause did.judged (string_bytes text) did.said).1,
  )
  started_in (Later g r) did = (
    ap (λ (x : StartScene). record w { table = x.table; nodes = x.nodes; drains = x.drains }) did.left,
    start_late w given c g r did.accepted did.waits,
  )
  started_in (Begun text new) did = (
    did.drains,
    start_accepted w given c whole joined unfolds u now did.accepted did.calm did.table did.puts after (string_bytes text) did.said,
    did.new_is,
  )
