-- The reply to a command that was carried out leaves a world that comes of the same opening.
use Rattle.std.proofs.Common.{◌≡◌, ℕ, Bool, true, false, List, [], ◌∷◌, ◌++◌, refl, sym, ◌∙◌, ap, subst, arith, Option, Some, None, Ok, Err}
use Rattle.std.specs.Prelude.{is_some}
use Rattle.std.specs.List.{list_all}
use Rattle.std.proofs.lemmas.Bool.{false≢true}
use Rattle.std.proofs.lemmas.List.{append-nil}
use Rattle.std.proofs.lemmas.List.Elements.{All-nil}
use Rattle.blk_history.specs.declared.event.Event.{Event}
use Rattle.blk_history.specs.declared.event.Event.TheVariants.{Reply}
use Rattle.block_jobs.specs.Work.{JobWork}
use Rattle.blk_nodes.specs.Contents.{disk_of}
use Rattle.job_ends.specs.Images.{HeldAreUnsure}
use Rattle.job_commands.specs.Granules.{GranulesStand}
use Rattle.job_commands.specs.Whole.{DisksAreWhole, HaveRowSizes}
use Rattle.job_entries.specs.Found.{HaveBegun}
use Rattle.job_progress.specs.Going.{AreJobsAhead}
use Rattle.job_progress.proofs.Entries.{entries_leave}
use Rattle.job_tables.specs.TargetFiles.{TargetFilesStand}
use Rattle.blk_base.specs.declared.fault.FaultFrom.TheVariants as from
use Rattle.qmp_codec.specs.declared.nodes.Created.{Created}
use Rattle.qmp_codec.specs.declared.nodes.Created.TheVariants as created
use Rattle.qmp_rules.specs.Refusals.{refusal_text, refusal_class}
use Rattle.serde_json.specs.Written.{compact_text}
use Rattle.qmp_codec.specs.Commands.{Cmd}
use Rattle.qmp_codec.specs.declared.command.Command.TheVariants as command
use Rattle.qmp_codec.specs.Lines.{command_at, id_at}
use Rattle.qmp_rules.specs.declared.change.Change.{Change}
use Rattle.qmp_rules.specs.declared.refusal.Refusal.{Refusal}
use Rattle.qmp_rules.specs.declared.refusal.Refusal.TheVariants as refusal
use Rattle.qmp_rules.specs.declared.told.Told.{Told}
use Rattle.qmp_rules.specs.Table.{RunTable}
use Rattle.qmp_rules.specs.Changes.{all_changed}
use Rattle.qmp_rules.specs.Edits.{spoiled}
use Rattle.qmp_rules.specs.Answers.{Answer, answer, answer_by, refusal_to, left_by, returned, answer_data, line_text, line_answer, answer_for}
use Rattle.flat_machine.specs.State.{State, Guest}
use Rattle.flat_machine.specs.Machine.{after, replay}
use Rattle.flat_machine.specs.Opening.{start}
use Rattle.flat_machine.specs.Wiring.{TableAtRest}
use Rattle.flat_machine.specs.Changed.{all_stepped}
use Rattle.flat_machine.specs.Legal.{Fits, IsNotDone}
use Rattle.flat_machine.specs.Marks.{AreCalm, IsCalm, marks_of, reply_marks}
use Rattle.flat_machine.specs.Replies.{IsAnswer, begins_job, is_accepted, edits_by}
use Rattle.flat_machine.specs.Sights.{IsTold}
use Rattle.flat_machine.specs.Licence.{named_in}
use Rattle.flat_machine.specs.Final.{bytes_named}
use Rattle.flat_machine.specs.Agreement.{Agrees, ReadAsDisks}
use Rattle.flat_machine.specs.Performing.{AllCan, AllPerformed}
use Rattle.flat_machine.specs.Standing.{Stands, StandsAtRest}
use Rattle.flat_machine.specs.Suiting.{AllSuit}
use Rattle.flat_machine.specs.Imaging.{ImagesAreSound, ShowsImages, AllKeepImages}
use Rattle.flat_machine.specs.declared.opening.Opening.{Opening}
use Rattle.flat_machine.proofs.Accepted.{accepted_can}
use Rattle.flat_machine.proofs.Answered.{reads_refused}
use Rattle.flat_machine.proofs.Kept.{changes_keep}
use Rattle.flat_machine.proofs.ImagesChanged.{all_images_keep}
use Rattle.flat_machine.proofs.Resting.{RestsBehindStart, answer_rests}
use Rattle.flat_machine.proofs.Recorded.{all_stepped-dirty}
use Rattle.flat_machine.specs.Recording.{dirty_after}
use Rattle.world_parts.specs.Progress.{Progress, with_bare_entry, ended_in}
use Rattle.world_parts.specs.Coherent.{AreJobsKept}
use Rattle.world_parts.specs.Face.{WorldSeen, contents_of, counts_now, dirty_of, first_counts, held, seen_state}
use Rattle.world_parts.specs.Keeping.{AreRises, ShowsJobs, all_faults}
use Rattle.world_parts.specs.Counting.{RunsOn, IsReachedBy}
use Rattle.world_parts.specs.Comes.{Comes, ShowsState}
use Rattle.world_parts.specs.Saying.{IsSaid}
use Rattle.world_parts.specs.Carrying.{IsCarried, IsCarriedIn, IsCaused, HasAnswerCause, with_counts, counts_of}
use Rattle.world_parts.specs.Steps.{with_history}
use Rattle.world_parts.specs.Tabling.{IsAnsweredBy}
use Rattle.world_parts.proofs.InStep.{ended-push}
use Rattle.world_parts.proofs.Coherence.{coherent-same}
use Rattle.world_parts.proofs.Pushing.{comes-push}
use Rattle.world_parts.proofs.Quiet.{undone}
use Rattle.world_parts.proofs.Counted.{answer-counted}
use Rattle.world_parts.proofs.JobsAnswered.{StartsNoJob, begins_not, answer_begun, answer_files, answer_goes, answer_unsure}
use Rattle.world_parts.proofs.WholeDisks.{answer_granules, answer_whole}
use Rattle.world_parts.proofs.Rises.{rises-entry}
use Rattle.world_lines.proofs.CarryCalm.{marked_calm}
use Rattle.world_lines.proofs.CarryWords.{IsTellable}
use Rattle.world_lines.proofs.CarryNames.{not_found_word}
use Rattle.world_lines.proofs.CarryImages.{answer_suits, answer_keeps_images}
use Rattle.world_lines.proofs.CarryState.{is_plain_change, edits_plain, left_plain, all_tables, all_keep, all_tables_keep}
use Rattle.world_lines.proofs.CarrySaid.{reply_fault, CanBeTold, said_fault, said_edits}
use Rattle.world_parts.proofs.Accepted.{built_accepted}

-- ---- answers

plain-by : (t : RunTable) (told : Told) (c : Cmd) → (refusal_to t told c ≡ None → StartsNoJob t c) → (first : Option Refusal) → refusal_to t told c ≡ first
    → list_all is_plain_change (answer_by t told c first).changes ≡ true
plain-by t told c starts None is = edits_plain t told c (built_accepted t told c is) (starts is)
plain-by t told c starts (Some cause) is = left_plain t told c cause

pub answer_plain : (t : RunTable) (told : Told) (c : Cmd) → (refusal_to t told c ≡ None → StartsNoJob t c) → list_all is_plain_change (answer t told c).changes ≡ true
unfolding answer
answer_plain t told c starts = plain-by t told c starts (refusal_to t told c) refl

-- ---- its changes can be made

left-can : (s : State) (c : Cmd) (cause : Refusal) → AllCan s (left_by s.table c cause)
left-can s (command.BlockdevCreate c) (refusal.Io source count) = spoiled-can c.options
  where
    spoiled-can : (options : Created (List ℕ)) → AllCan s (spoiled s.table options)
    spoiled-can (created.File o) = (tt, tt)
    spoiled-can (created.Qcow2 o) = (tt, tt)
    spoiled-can created.Unknown = tt
left-can s (command.BlockdevCreate c) (refusal.NoSpace dev) = spoiled-can c.options
  where
    spoiled-can : (options : Created (List ℕ)) → AllCan s (spoiled s.table options)
    spoiled-can (created.File o) = (tt, tt)
    spoiled-can (created.Qcow2 o) = (tt, tt)
    spoiled-can created.Unknown = tt
left-can s (command.BlockdevCreate c) _ = tt
left-can s _ cause = tt

can-change : (s : State) (c : Cmd) (told seen : Told) → Stands s → IsTold s c seen → answer s.table seen c ≡ answer s.table told c
    → AllCan s (answer s.table told c).changes
unfolding answer
can-change s c told seen stands is_told same = at (refusal_to s.table seen c) refl (refusal_to s.table told c) same
  where
    at : (first : Option Refusal) → refusal_to s.table seen c ≡ first → (other : Option Refusal)
        → answer_by s.table seen c first ≡ answer_by s.table told c other → AllCan s (answer_by s.table told c other).changes
    at None none None same = accepted_can s seen told c stands is_told.refusal none
    at (Some cause) some None same = absurd (let reply : Err cause ≡ Ok (returned s.table told c) = ap (λ (a : Answer). a.reply) same in cc reply)
    at first is (Some cause) same = left-can s c cause

-- one answer is no refusal where the same one, told other things, is none
none_too : (t : RunTable) (c : Cmd) (seen told : Told) → answer t seen c ≡ answer t told c → refusal_to t seen c ≡ None → refusal_to t told c ≡ None
unfolding answer
none_too t c seen told same none = at (refusal_to t told c) refl (subst (λ (first : Option Refusal). answer_by t seen c first ≡ answer t told c) none same)
  where
    at : (other : Option Refusal) → refusal_to t told c ≡ other → answer_by t seen c None ≡ answer_by t told c other → refusal_to t told c ≡ None
    at None is same = is
    at (Some cause) is same = absurd (let reply : Ok (returned t seen c) ≡ Err cause = ap (λ (a : Answer). a.reply) same in let bad : ⊥ = cc reply in bad)

-- ---- parts of the world

pub runs-onward : (w u : WorldSeen) (f : Progress → Progress) → RunsOn w u → RunsOn w (with_history u f)
runs-onward w u f is = record {
  told = is.told;
  room = is.room;
  first = is.first;
  earlier = is.earlier;
  store = is.store;
  openings = is.openings;
  devices = is.devices;
}

-- a refusal can be told: its numbers fit, and a name that isn't found has no blank
module _ (w u : WorldSeen) (c : Cmd) (refusal' : Option Refusal) (is : IsCarried w u c refusal') where
  tellable : (cause : Refusal) → refusal_to w.table is.told c ≡ Some cause → IsCaused w u c cause → IsTellable cause
  tellable (refusal.NotFound name is_device) first caused = not_found_word w.table is.told c name is_device is.by_files first
  tellable (refusal.Io from.Store count) first caused = let low = caused.reached.fits in omega arith
  tellable (refusal.Io (from.Dev dev) count) first caused = let low = caused.reached.fits in (caused.numbered, omega arith)
  tellable (refusal.Io from.Sink count) first caused = absurd caused.called
  tellable (refusal.NoSpace dev) first caused = caused.numbered
  tellable _ first caused = tt

  can-by : (first : Option Refusal) → refusal_to w.table is.told c ≡ first → HasAnswerCause w u c first → CanBeTold (answer_by w.table is.told c first).reply
  can-by None none caused = tt
  can-by (Some cause) some caused = tellable cause some caused

  pub can_tell : CanBeTold (answer w.table is.told c).reply
  unfolding answer
  can_tell = can-by (refusal_to w.table is.told c) refl (rw is.answered is.cause)

  -- the fault that the reply names was reached
  reached-by : (first : Option Refusal) → HasAnswerCause w u c first → IsReachedBy w u (reply_fault (answer_by w.table is.told c first).reply)
  reached-by None caused = tt
  reached-by (Some (refusal.Io source count)) caused = caused.reached
  reached-by (Some _) caused = tt

  pub reply-reached : IsReachedBy w u (reply_fault (answer w.table is.told c).reply)
  unfolding answer
  reply-reached = reached-by (refusal_to w.table is.told c) (rw is.answered is.cause)

  module _ (given text : List ℕ) (line : command_at given ≡ Ok c) (said : IsSaid given (answer w.table is.told c).reply text)
      (dirty : dirty_of u ≡ dirty_after w.table (dirty_of w) (answer w.table is.told c).changes) (starts : refusal' ≡ None → StartsNoJob w.table c) where
    abbrev reply : ℕ → Event
    reply number = Reply number given (Some c) text

    starts-by : refusal_to w.table is.told c ≡ None → StartsNoJob w.table c
    starts-by none = starts (sym is.answered ∙ none)

    names-reached : (number : ℕ) → IsReachedBy w u (named_in (reply number))
    names-reached number = rw (said_fault given _ text said can_tell) reply-reached

    accepted-none : (first : Option Refusal) → refusal_to w.table is.told c ≡ first → is_accepted text ≡ true → refusal' ≡ None
    unfolding answer
    accepted-none None none known = sym is.answered ∙ none
    accepted-none (Some cause) some known =
        let says : IsSaid given (Err cause) text = subst (λ (first : Option Refusal). IsSaid given (answer_by w.table is.told c first).reply text) some said in
        let no = (reads_refused text (id_at given) (refusal_class cause) (refusal_text cause) says.reads).0 in
        absurd (false≢true (sym no ∙ known))

    -- with what is dirty, be it asked for or not
    counted-own : answer w.table is.told c ≡ line_answer w.table (with_counts is.told (counts_of w)) given
    unfolding line_answer
    counted-own =
        sym (answer-counted is.told (counts_of w) w.table c (λ prints. sym (is.counts prints)))
        ∙ sym (ap (answer_for w.table (with_counts is.told (counts_of w)) given) line)

    -- a line that is accepted found the disks calm that it marks
    marked : AreCalm w.table w.progress.guests (reply_marks w.table given text)
    marked = at (is_accepted text) refl
      where
        at : (b : Bool) → is_accepted text ≡ b → AreCalm w.table w.progress.guests (reply_marks w.table given text)
        at false known = rw known (All-nil (IsCalm w.table w.progress.guests))
        at true known =
            let found = is.calm (accepted-none (refusal_to w.table is.told c) refl known) in
            rw (known, line) (marked_calm w.table w.progress.guests c found)

    answered-by : IsAnsweredBy w.progress.guests w.table (dirty_of w) given text u.table (dirty_of u)
    unfolding line_text
    answered-by = record {
      calm = marked;
      told = with_counts is.told (counts_of w);
      counts = refl;
      says = said.prints ∙ ap (λ (a : Answer). compact_text (answer_data (id_at given) a.reply)) counted-own;
      changes = is.table ∙ ap (λ (a : Answer). all_changed w.table a.changes) counted-own;
      dirty = dirty ∙ ap (λ (a : Answer). dirty_after w.table (dirty_of w) a.changes) counted-own;
    }

    -- ---- where the store tells its files

    module _ (o : Opening) (s : State) (told : is_some w.files ≡ true) (shows : ShowsState o s w) where
      in-it : IsCarriedIn s w u c is.told
      in-it = is.shows told o s shows

      same-table : s.table ≡ w.table
      same-table = shows.table.table_is

      abbrev changes : List Change
      changes = (answer w.table is.told c).changes

      told-same : answer s.table in-it.seen c ≡ answer s.table is.told c
      told-same = subst (λ (t : RunTable). answer t in-it.seen c ≡ answer t is.told c) (sym same-table) in-it.same

      starts-s : refusal_to s.table is.told c ≡ None → StartsNoJob s.table c
      starts-s = subst (λ (t : RunTable). refusal_to t is.told c ≡ None → StartsNoJob t c) (sym same-table) starts-by

      begins-seen : refusal_to s.table in-it.seen c ≡ None → begins_job c ≡ false
      begins-seen none = begins_not s.table c (starts-s (none_too s.table c in-it.seen is.told told-same none))

      stands-for : edits_by s text (command_at given) ≡ changes
      stands-for =
          let can = subst (λ (t : RunTable). CanBeTold (answer t is.told c).reply) (sym same-table) can_tell in
          let says = subst (λ (t : RunTable). IsSaid given (answer t is.told c).reply text) (sym same-table) said in
          said_edits s is.told in-it.seen c given text line in-it.is_told told-same says can
          ∙ ap (λ (t : RunTable). (answer t is.told c).changes) same-table

      -- ---- the entry fits

      line-same : answer w.table is.told c ≡ line_answer s.table in-it.seen given
      unfolding line_answer
      line-same =
          sym in-it.same ∙ ap (λ (t : RunTable). answer t in-it.seen c) (sym same-table) ∙ sym (ap (answer_for s.table in-it.seen given) line)

      text-said : text ≡ line_text s.table in-it.seen given
      unfolding line_text
      text-said = said.prints ∙ ap (λ (a : Answer). compact_text (answer_data (id_at given) a.reply)) line-same

      answers : IsAnswer s given (Some c) text
      answers = record {
        understood = rw line refl;
        told = in-it.seen;
        is_told = rw line in-it.is_told;
        answered = text-said;
      }

      rests-behind : RestsBehindStart s given answers.told
      unfolding answers
      rests-behind other line' begins none =
          let same : other ≡ c = cc (sym line' ∙ line) in
          absurd (false≢true (sym (begins-seen (subst (λ (x : Cmd). refusal_to s.table in-it.seen x ≡ None) same none)) ∙ ap begins_job (sym same) ∙ begins))

      calm : (number : ℕ) → AreCalm s.table s.guests (marks_of s (reply number))
      calm number =
          subst (λ (t : RunTable). AreCalm t s.guests (reply_marks t given text)) (sym same-table)
          (subst (λ (rows : List Guest). AreCalm w.table rows (reply_marks w.table given text)) (sym shows.guests.guests_are) marked)

      -- ---- the state after it

      plain : list_all is_plain_change changes ≡ true
      plain = answer_plain w.table is.told c starts-by

      abbrev now : State
      now = all_stepped s changes

      table-now : now.table ≡ u.table
      table-now = all_tables changes s ∙ ap (λ (t : RunTable). all_changed t changes) same-table ∙ sym is.table

      can-all : AllCan s changes
      can-all =
          subst (λ (t : RunTable). AllCan s (answer t is.told c).changes) same-table
          (can-change s c is.told in-it.seen shows.stands.stands in-it.is_told told-same)

      agrees : Agrees (bytes_named o.files) now (contents_of u)
      agrees = changes_keep (bytes_named o.files) changes s (contents_of w) (contents_of u) can-all in-it.performed shows.contents

      suit-all : AllSuit s changes
      suit-all =
          subst (λ (t : RunTable). AllSuit s (answer t is.told c).changes) same-table
          (answer_suits s c is.told in-it.seen begins-seen shows.stands in-it.is_told told-same)

      keep-all : AllKeepImages s changes
      keep-all =
          subst (λ (t : RunTable). AllKeepImages s (answer t is.told c).changes) same-table
          (answer_keeps_images s is.told c shows.stands.stands (built_accepted s.table is.told c) (λ none. begins_not s.table c (starts-s none)))

      images : ShowsImages now (contents_of u)
      images =
          all_images_keep (bytes_named o.files) changes s (contents_of w) (contents_of u) suit-all can-all keep-all shows.stands.stands shows.contents
          in-it.performed shows.images

      shows-now : (number : ℕ) → StandsAtRest now → ShowsState o now (with_history u (with_bare_entry (reply number)))
      shows-now number stands =
          let kept = all_keep changes s plain in
          let tables = all_tables_keep changes s.table plain in
          let moved : now.table.started ≡ s.table.started = ap (λ (t : RunTable). t.started) (all_tables changes s) ∙ tables.started in
          record {
            stands = stands;
            dirty =
                all_stepped-dirty changes s ∙ ap (λ (t : RunTable). dirty_after t s.dirty changes) same-table
                ∙ ap (λ ds. dirty_after w.table ds changes) shows.dirty ∙ sym dirty;
            table = record {
              room_is = kept.room ∙ shows.table.room_is ∙ sym is.runs.room;
              table_is = table-now;
              rest = record {
                started = kept.starts ∙ shows.table.rest.started ∙ sym moved;
                ended = kept.ending ∙ shows.table.rest.ended;
              };
            };
            guests = record {
              guests_are = kept.guests ∙ shows.guests.guests_are ∙ ap (λ (p : Progress). p.guests) (sym is.progress);
              ended_are = kept.ended ∙ shows.guests.ended_are ∙ ap (λ (p : Progress). ended_in p.log.events) (sym is.progress) ∙ sym (ended-push u.progress.log.events (reply number) refl);
            };
            contents = record {
              disks = agrees.disks;
              known = agrees.known;
              absent = agrees.absent;
              left = agrees.left;
              unchanged = agrees.unchanged;
            };
            images = λ node. record { noted = (images node).noted; mapped = (images node).mapped };
          }

      -- ---- jobs

      module _ (kept : AreJobsKept w.table w.works w.progress.aside) (going : ShowsJobs o w.progress.log.events s w) (rest : TableAtRest w.table)
          (sizes : is_some u.files ≡ true → HaveRowSizes u.table (disk_of u.nodes)) where
        rest-s : TableAtRest s.table
        rest-s = subst TableAtRest (sym same-table) rest

        kept-s : AreJobsKept s.table w.works w.progress.aside
        kept-s = subst (λ (t : RunTable). AreJobsKept t w.works w.progress.aside) (sym same-table) kept

        as-changes : (P : List Change → Type 0) → P (answer s.table is.told c).changes → P changes
        as-changes P = subst (λ (t : RunTable). P (answer t is.told c).changes) same-table

        begun-now : HaveBegun now
        begun-now =
            as-changes (λ cs. HaveBegun (all_stepped s cs)) (answer_begun s is.told c w.works w.progress.aside rest-s kept-s starts-s going.begun)

        files-now : TargetFilesStand now
        files-now =
            as-changes (λ cs. TargetFilesStand (all_stepped s cs)) (answer_files s is.told c w.works w.progress.aside rest-s kept-s starts-s going.files)

        unsure-now : HeldAreUnsure now
        unsure-now =
            as-changes (λ cs. HeldAreUnsure (all_stepped s cs)) (answer_unsure s is.told c w.works w.progress.aside rest-s kept-s starts-s going.unsure)

        abbrev Whole : List Change → Type 0
        Whole cs = AllCan s cs → ReadAsDisks (all_stepped s cs) (contents_of u) → HaveRowSizes (all_stepped s cs).table (disk_of u.nodes) → DisksAreWhole (all_stepped s cs)

        whole-now : DisksAreWhole now
        whole-now =
            as-changes Whole
            (answer_whole s is.told c (contents_of u) rest-s kept-s.stand (λ none. (starts-s none).one) going.whole)
            can-all agrees.disks (subst (λ (t : RunTable). HaveRowSizes t (disk_of u.nodes)) (sym table-now) (sizes (is.runs.told ∙ told)))

        abbrev Goes : List Change → Type 0
        Goes cs = AllPerformed s cs (contents_of w) (contents_of u) → AreJobsAhead (start o) w.progress.log.events s (disk_of w.nodes) w.works
            → AreJobsAhead (start o) w.progress.log.events (all_stepped s cs) (disk_of u.nodes) w.works

        ahead-now : AreJobsAhead (start o) w.progress.log.events now (disk_of u.nodes) u.works
        ahead-now =
            subst (AreJobsAhead (start o) w.progress.log.events now (disk_of u.nodes)) (sym is.works)
            (as-changes Goes
            (answer_goes s is.told c w.works w.progress.aside rest-s kept-s starts-s (start o) w.progress.log.events (contents_of w) (contents_of u))
            in-it.performed going.ahead)

        going-now : (number : ℕ) → ShowsJobs o (w.progress.log.events ++ reply number ∷ []) now (with_history u (with_bare_entry (reply number)))
        going-now number = record {
          begun = begun-now;
          files = files-now;
          unsure = unsure-now;
          whole = whole-now;
          ahead = entries_leave (start o) now now w.progress.log.events (reply number) (disk_of u.nodes) u.works refl refl refl ahead-now;
        }

        going-behind : (number : ℕ) → ShowsJobs o (w.progress.log.events ++ reply number ∷ []) (after s (reply number)) (with_history u (with_bare_entry (reply number)))
        going-behind number =
            subst (λ (cs : List Change). ShowsJobs o (w.progress.log.events ++ reply number ∷ []) (all_stepped s cs) (with_history u (with_bare_entry (reply number))))
            (sym stands-for) (going-now number)

    fits-now : (number : ℕ) (o : Opening) → IsNotDone (seen_state w) 0 → (s : State) (told : is_some w.files ≡ true) (shows : ShowsState o s w)
        → Fits s (reply number) × AreCalm s.table s.guests (marks_of s (reply number)) × ShowsState o (after s (reply number)) (with_history u (with_bare_entry (reply number)))
    fits-now number o not_done s told shows =
        let means = stands-for o s told shows in
        let stays = subst (λ (cs : List Change). StandsAtRest (all_stepped s cs)) means (answer_rests s given (Some c) text shows.stands (answers o s told shows) (rests-behind o s told shows)) in
        let after_it = subst (λ (cs : List Change). ShowsState o (all_stepped s cs) (with_history u (with_bare_entry (reply number)))) (sym means) (shows-now o s told shows number stays) in
        ((shows.table.rest, (undone o s w 0 shows not_done, answers o s told shows)), calm o s told shows number, after_it)

    -- ---- the whole

    pub carried_comes : (is_some u.files ≡ true → ImagesAreSound u.table (held u)) → AreJobsKept u.table u.works u.progress.aside
        → (is_some u.files ≡ true → HaveRowSizes u.table (disk_of u.nodes)) → (number : ℕ) (o : Opening) → IsNotDone (seen_state w) 0 → Comes o w
        → Comes o (with_history u (with_bare_entry (reply number)))
    carried_comes sound kept sizes number o not_done comes = comes-push o w (with_history u (with_bare_entry (reply number))) (reply number ∷ []) comes (record {
      events = ap (λ (p : Progress). p.log.events ++ reply number ∷ []) is.progress;
      names = ap (λ (t : RunTable). t.guests) is.table ∙ (all_tables_keep (answer w.table is.told c).changes w.table (answer_plain w.table is.told c starts-by)).guests;
      told = is.runs.told;
      guests = ap (λ (p : Progress). p.guests) is.progress;
      table = (u.table, dirty_of u, answered-by, (refl, refl));
      granules = granules-then comes.coherent.table comes.jobs;
      counted = λ was. (let first = is.runs.first in let now = is.runs.store in omega arith);
      coherent = λ was. coherent-same u.table u.nodes u.opened u.progress (is.coherent was) (with_bare_entry (reply number) u.progress) refl;
      jobs = λ was. kept;
      kept = λ was. kept-then number was;
      sound = sound;
      fits = λ told shows going.
          let s : State = replay (start o) w.progress.log.events in
          let fits = fits-now number o not_done s told shows in
          record {
            legal = (fits.0, tt);
            marks = (fits.1, tt);
            shows = fits.2;
            going = going-behind o s told shows comes.jobs going comes.coherent.table sizes number;
            names = ap (λ (p : Progress). p.jobs) is.progress ∙ sym (append-nil w.progress.jobs);
          };
    })
      where
        granules-then : TableAtRest w.table → AreJobsKept w.table w.works w.progress.aside → GranulesStand w.table (dirty_of w) → GranulesStand u.table (dirty_of u)
        granules-then rest was stand =
            let behind = answer_granules w.table (dirty_of w) is.told c rest was.stand (λ none. (starts-by none).one) stand in
            subst (GranulesStand u.table) (sym dirty) (subst (λ (t : RunTable). GranulesStand t (dirty_after w.table (dirty_of w) (answer w.table is.told c).changes)) (sym is.table) behind)

        kept-then : (number : ℕ) → AreRises (first_counts w) (counts_now w) (all_faults w.progress.log.events w.works)
            → AreRises (first_counts u) (counts_now u) (all_faults (w.progress.log.events ++ reply number ∷ []) u.works)
        kept-then number was =
            subst (λ (works : List JobWork). AreRises (first_counts u) (counts_now u) (all_faults (w.progress.log.events ++ reply number ∷ []) works)) (sym is.works)
            (rises-entry w u is.runs w.progress.log.events w.works (reply number) (names-reached number) was)
