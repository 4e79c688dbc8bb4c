-- Replies to lines: what they may name, and that the world still comes of its opening.
use Rattle.std.proofs.Common.{◌≡◌, ℕ, Bool, true, false, List, [], ◌∷◌, ◌++◌, inl, refl, sym, ◌∙◌, ap, subst, Option, Some, None, Ok, Err}
use Rattle.std.specs.Prelude.{Result, if◌then◌else◌, is_some}
use Rattle.std.proofs.lemmas.List.{append-nil}
use Rattle.std.proofs.lemmas.List.Elements.{All-nil}
use Rattle.blk_nodes.specs.Contents.{disk_of}
use Rattle.blk_history.specs.declared.event.Event.{Event}
use Rattle.blk_history.specs.declared.event.Event.TheVariants.{Reply}
use Rattle.serde_json.specs.Data.{Data, object, no_members}
use Rattle.qmp_codec.specs.Commands.{Cmd}
use Rattle.qmp_codec.specs.Lines.{Stop, command_at, asks_for_capabilities}
use Rattle.qmp_codec.specs.declared.stop.CodecStop.TheVariants as stop
use Rattle.qmp_rules.specs.declared.refusal.Refusal.{Refusal}
use Rattle.qmp_rules.specs.declared.refusal.Refusal.TheVariants as refusal
use Rattle.qmp_rules.specs.declared.told.Told.{Told}
use Rattle.qmp_rules.specs.Table.{RunTable}
use Rattle.qmp_rules.specs.Refusals.{or_else}
use Rattle.qmp_rules.specs.Changes.{all_changed}
use Rattle.qmp_rules.specs.Answers.{Answer, answer, answer_by, answer_for, told_none, accepted, refused_so, refusal_to, line_refusal, stop_refusal, member_refusal, out_of_turn, line_answer, line_text}
use Rattle.flat_machine.specs.State.{State}
use Rattle.flat_machine.specs.Legal.{Fits, IsNotDone}
use Rattle.flat_machine.specs.Machine.{replay}
use Rattle.flat_machine.specs.Opening.{start}
use Rattle.job_commands.specs.Whole.{HaveRowSizes}
use Rattle.job_progress.proofs.Entries.{entries_leave}
use Rattle.flat_machine.specs.Marks.{IsCalm, after_later, after_reply, drained_by, reply_marks, snapshot_marks}
use Rattle.flat_machine.specs.Replies.{is_accepted, command_read, replied, edits_by}
use Rattle.flat_machine.specs.Changed.{all_stepped}
use Rattle.flat_machine.specs.Imaging.{ImagesAreSound}
use Rattle.flat_machine.specs.Licence.{named_in, named_in_text}
use Rattle.flat_machine.specs.EventLicence.{IsLicensedBy, IsCommandsFault, IsCommandsFull, RoseIn}
use Rattle.flat_machine.specs.Performing.{AllPerformed}
use Rattle.flat_machine.specs.Recording.{dirty_after}
use Rattle.flat_machine.specs.declared.opening.Opening.{Opening}
use Rattle.world_parts.specs.Progress.{Progress, with_bare_entry}
use Rattle.world_parts.specs.Face.{WorldSeen, counts_now, contents_of, dirty_of, held, seen_state}
use Rattle.world_parts.specs.Counting.{seen_sources, counts_within, RunsOn, HidesNoFault}
use Rattle.world_parts.specs.Coherent.{AreJobsKept}
use Rattle.world_parts.specs.Comes.{Comes, ShowsState}
use Rattle.world_parts.specs.Keeping.{ShowsJobs}
use Rattle.world_parts.specs.Tabling.{IsAnsweredBy}
use Rattle.world_parts.specs.Saying.{Given, IsSaid}
use Rattle.world_parts.specs.Carrying.{IsCarried, IsCarriedIn, IsCarriedAs, HasAnswerCause, HasFitted, AnswersLine, IsReplied, with_counts, counts_of, reply_entry, would_pass, IsLate, IsPutOff, fault_named, fault_told}
use Rattle.world_parts.specs.Leaving.{Leaves, LeavesBitmaps, clean_told}
use Rattle.world_parts.specs.Staging.{site_of}
use Rattle.world_parts.specs.Steps.{with_history, lifted}
use Rattle.world_parts.proofs.InStep.{ended-push}
use Rattle.world_parts.proofs.Coherence.{coherent-same}
use Rattle.world_parts.proofs.CountLemmas.{same-devices, runs-devices}
use Rattle.world_parts.proofs.CountsKept.{hides-same}
use Rattle.world_parts.proofs.JobsAnswered.{StartsNoJob}
use Rattle.world_parts.proofs.Quiet.{undone, shows-onward}
use Rattle.world_parts.proofs.Pushing.{comes-push, comes-drains, rises-quiet}
use Rattle.world_lines.proofs.CarryWords.{IsTellable, full_named}
use Rattle.world_lines.proofs.CarrySaid.{reply_fault, full_of, CanBeTold, said_fault, said_full}
use Rattle.world_parts.proofs.CarryPlain.{quiet-self}
use Rattle.world_parts.proofs.Counted.{answer-counted, refusal-counted}
use Rattle.world_lines.proofs.CarryComes.{answer_plain, can_tell, runs-onward, carried_comes}
use Rattle.world_lines.proofs.CarryState.{all_tables_keep}

-- ---- texts

pub text_is : (t : RunTable) (told : Told) (given text : List ℕ) → IsSaid given (line_answer t told given).reply text → text ≡ line_text t told given
unfolding line_text
text_is t told given text said = said.prints

-- the answer to a command is that to its line
pub line_command : (t : RunTable) (told : Told) (given : List ℕ) (c : Cmd) → command_at given ≡ Ok c → line_answer t told given ≡ answer t told c
unfolding line_answer
line_command t told given c line = ap (answer_for t told given) line

-- ---- refusals of lines that are no commands

record IsMild (cause : Refusal) : Type 0 where
  pub tellable : IsTellable cause
  pub fault : fault_named cause ≡ None
  pub full : full_named cause ≡ None

turn-mild : (a b : Bool) (rest : Option Refusal) (cause : Refusal) → ((c : Refusal) → rest ≡ Some c → IsMild c) → or_else (out_of_turn a b) rest ≡ Some cause → IsMild cause
turn-mild true true rest cause later is = let same : refusal.Negotiation true ≡ cause = cc is in rw (← same) (record { tellable = tt; fault = refl; full = refl })
turn-mild true false rest cause later is = later cause is
turn-mild false true rest cause later is = later cause is
turn-mild false false rest cause later is = let same : refusal.Negotiation false ≡ cause = cc is in rw (← same) (record { tellable = tt; fault = refl; full = refl })

line-mild : (why : Stop) (a b : Bool) (cause : Refusal) → or_else (stop_refusal why) (or_else (out_of_turn a b) (member_refusal why)) ≡ Some cause → IsMild cause
line-mild stop.BadJson a b cause is = let same : refusal.BadJson ≡ cause = cc is in rw (← same) (record { tellable = tt; fault = refl; full = refl })
line-mild (stop.UnknownCommand name) a b cause is = let same : refusal.UnknownCommand name ≡ cause = cc is in rw (← same) (record { tellable = tt; fault = refl; full = refl })
line-mild (stop.Missing member) a b cause is =
    turn-mild a b (Some (refusal.Missing member)) cause (λ c some. let same : refusal.Missing member ≡ c = cc some in rw (← same) (record { tellable = tt; fault = refl; full = refl })) is
line-mild (stop.Unexpected member) a b cause is =
    turn-mild a b (Some (refusal.Unexpected member)) cause (λ c some. let same : refusal.Unexpected member ≡ c = cc some in rw (← same) (record { tellable = tt; fault = refl; full = refl })) is
line-mild (stop.BadType member) a b cause is =
    turn-mild a b (Some (refusal.BadType member)) cause (λ c some. let same : refusal.BadType member ≡ c = cc some in rw (← same) (record { tellable = tt; fault = refl; full = refl })) is
line-mild stop.NoMemory a b cause is = turn-mild a b None cause (λ c some. absurd cc) is

pub record IsMildReply (reply : Result Data Refusal) : Type 0 where
  pub can : CanBeTold reply
  pub fault : reply_fault reply ≡ None
  pub full : full_of reply ≡ None

mild-none : (d : Data) → IsMildReply (Ok d)
mild-none d = record { can = tt; fault = refl; full = refl }

module _ (t : RunTable) (given : List ℕ) (why : Stop) (line : command_at given ≡ Err why) where
  by-refusal : (found : Option Refusal) → ((cause : Refusal) → found ≡ Some cause → IsMild cause)
      → IsMildReply (elim found as (λ _. Answer) [ None ↦ accepted [] (object no_members) | Some cause ↦ refused_so [] cause ]).reply
  by-refusal None mild = mild-none (object no_members)
  by-refusal (Some cause) mild = let is = mild cause refl in record { can = is.tellable; fault = is.fault; full = is.full }

  unchanged-by : (found : Option Refusal) → (elim found as (λ _. Answer) [ None ↦ accepted [] (object no_members) | Some cause ↦ refused_so [] cause ]).changes ≡ []
  unchanged-by None = refl
  unchanged-by (Some cause) = refl

  pub mild_reply : IsMildReply (line_answer t told_none given).reply
  unfolding line_answer line_refusal
  mild_reply = rw line (by-refusal (line_refusal t given why) (λ cause some. line-mild why (asks_for_capabilities given) t.negotiated cause some))

  pub unchanged : (line_answer t told_none given).changes ≡ []
  unfolding line_answer
  unchanged = rw line (unchanged-by (line_refusal t given why))

-- ---- the entry as the line and the answer make it

entry-is : (w : WorldSeen) (told : Told) (line : Given) (command : Option Cmd) (text : List ℕ) → command_read (command_at line.text) ≡ command
    → text ≡ line_text w.table told line.text → Reply line.number line.text command text ≡ reply_entry w told line
entry-is w told line command text is_command is_text = rw (is_command, ← is_text) refl

licensed-of : (w v : WorldSeen) (line : Given) (told : Told) (text : List ℕ) (reply : Result Data Refusal) → IsSaid line.text reply text → CanBeTold reply
    → text ≡ line_text w.table told line.text
    → IsCommandsFault w.table (seen_sources w) (counts_now w) (reply_fault reply) (command_read (command_at line.text))
    → RoseIn (counts_within w v) (counts_now v) (reply_fault reply)
    → IsCommandsFull w.table (seen_sources w) (counts_now w) (would_pass w (command_read (command_at line.text))) (full_of reply) (command_read (command_at line.text))
    → IsLicensedBy (seen_state w) (seen_sources w) (counts_now w) (counts_within w v) (counts_now v) (would_pass w (command_read (command_at line.text))) (reply_entry w told line)
licensed-of w v line told text reply said can is_text called rose full =
    rw (← is_text, said_fault line.text reply text said can, said_full line.text reply text said can) (called, rose, full)

hides-of : (w v : WorldSeen) (line : Given) (told : Told) (text : List ℕ) (reply : Result Data Refusal) → IsSaid line.text reply text → CanBeTold reply
    → text ≡ line_text w.table told line.text → HidesNoFault w v (reply_fault reply) → HidesNoFault w v (named_in (reply_entry w told line))
hides-of w v line told text reply said can is_text hides =
    subst (HidesNoFault w v) (sym (ap named_in_text (sym is_text) ∙ said_fault line.text reply text said can)) hides

-- ---- lines that are no commands

module _ (w : WorldSeen) (line : Given) (text : List ℕ) (why : Stop) (bad : command_at line.text ≡ Err why)
    (said : IsSaid line.text (line_answer w.table told_none line.text).reply text) where
  abbrev entry : Event
  entry = Reply line.number line.text None text

  no-command : command_read (command_at line.text) ≡ None
  no-command = ap command_read bad

  names-none : named_in_text text ≡ None
  names-none = let mild = mild_reply w.table line.text why bad in said_fault line.text _ text said mild.can ∙ mild.fault

  -- what is dirty is told, and decides nothing
  abbrev told-then : Told
  told-then = with_counts told_none (counts_of w)

  same-then : line_answer w.table told-then line.text ≡ line_answer w.table told_none line.text
  unfolding line_answer
  same-then = rw bad refl

  none-changed : (line_answer w.table told-then line.text).changes ≡ []
  none-changed = ap (λ (a : Answer). a.changes) same-then ∙ unchanged w.table line.text why bad

  said-then : IsSaid line.text (line_answer w.table told-then line.text).reply text
  said-then = subst (λ (a : Answer). IsSaid line.text a.reply text) (sym same-then) said

  pub no_command_replied : IsReplied w (lifted (with_history w (with_bare_entry entry))) line
  no_command_replied =
      let mild = mild_reply w.table line.text why bad in
      let same : entry ≡ reply_entry w told-then line = entry-is w told-then line None text no-command (text_is w.table told-then line.text text said-then) in
      record {
        told = told-then;
        counts = refl;
        by_files = tt;
        maps = rw bad tt;
        table = sym (ap (all_changed w.table) none-changed);
        dirty = sym (ap (dirty_after w.table (dirty_of w)) none-changed);
        bitmaps = rw bad refl;
        progress = ap (λ (e : Event). with_bare_entry e w.progress) same;
        drains = refl;
        works = refl;
        calm = rw bad tt;
        runs = runs-devices w (lifted (with_history w (with_bare_entry entry))) refl refl refl refl refl refl (same-devices w.nodes.devices);
        licensed = licensed-of w (lifted (with_history w (with_bare_entry entry))) line told-then text (line_answer w.table told_none line.text).reply said mild.can
            (text_is w.table told-then line.text text said-then) (rw mild.fault tt) (rw mild.fault tt) (rw mild.full tt);
        hides = hides-of w (lifted (with_history w (with_bare_entry entry))) line told-then text (line_answer w.table told_none line.text).reply said mild.can
            (text_is w.table told-then line.text text said-then)
            (subst (HidesNoFault w (lifted (with_history w (with_bare_entry entry)))) (sym mild.fault)
            (hides-same w (lifted (with_history w (with_bare_entry entry))) refl refl refl));
        fits = rw no-command tt;
        opens = rw bad refl;
        site = rw bad refl;
        shows = λ told o s shows. rw bad (quiet-self (contents_of w));
      }

  fits : (o : Opening) (s : State) → IsNotDone (seen_state w) 0 → ShowsState o s w → Fits s entry
  fits o s not_done shows = (
    shows.table.rest,
    (
      undone o s w 0 shows not_done,
      record {
        understood = rw bad refl;
        told = told_none;
        is_told = rw bad tt;
        answered = text_is w.table told_none line.text text said ∙ ap (λ (t : RunTable). line_text t told_none line.text) (sym shows.table.table_is);
      },
    ),
  )

  stays : (s : State) → replied s line.text text ≡ s
  stays s = ap (λ changes. all_stepped s changes) (ap (edits_by s text) bad)

  unmarked : (t : RunTable) → reply_marks t line.text text ≡ []
  unmarked t = at (is_accepted text)
    where
      none : snapshot_marks t (command_at line.text) ≡ []
      none = ap (snapshot_marks t) bad

      at : (b : Bool) → (if b then snapshot_marks t (command_at line.text) else []) ≡ []
      at true = none
      at false = refl

  entry_comes : (o : Opening) → IsNotDone (seen_state w) 0 → Comes o w → Comes o (with_history w (with_bare_entry entry))
  entry_comes o not_done comes = comes-push o w (with_history w (with_bare_entry entry)) (entry ∷ []) comes (record {
    events = refl;
    names = refl;
    told = refl;
    guests = refl;
    table = (w.table, dirty_of w, answered-so, (refl, refl));
    granules = λ was. was;
    counted = λ was. was;
    coherent = λ was. coherent-same w.table w.nodes w.opened w.progress was (with_bare_entry entry w.progress) refl;
    jobs = λ was. was;
    kept = rises-quiet _ _ w.progress.log.events w.works entry names-none;
    sound = comes.sound;
    fits = λ told shows going.
        let s : State = replay (start o) w.progress.log.events in
        record {
          legal = (fits o s not_done shows, tt);
          marks = (rw (unmarked s.table) (All-nil (IsCalm s.table s.guests)), tt);
          shows =
              subst (λ (now : State). ShowsState o now (with_history w (with_bare_entry entry))) (sym (stays s))
              (shows-onward o s w (with_bare_entry entry w.progress) s.guests s.ended shows shows.guests.guests_are
              (shows.guests.ended_are ∙ sym (ended-push w.progress.log.events entry refl)));
          going =
              subst (λ (now : State). ShowsJobs o (w.progress.log.events ++ entry ∷ []) now (with_history w (with_bare_entry entry))) (sym (stays s))
              (record {
                begun = going.begun;
                files = going.files;
                unsure = going.unsure;
                whole = going.whole;
                ahead = entries_leave (start o) s s w.progress.log.events entry (disk_of w.nodes) w.works refl refl refl going.ahead;
              });
          names = sym (append-nil w.progress.jobs);
        };
  })
    where
      answered-so : IsAnsweredBy w.progress.guests w.table (dirty_of w) line.text text w.table (dirty_of w)
      answered-so = record {
        calm = rw (unmarked w.table) (All-nil (IsCalm w.table w.progress.guests));
        told = told-then;
        counts = refl;
        says = text_is w.table told-then line.text text said-then;
        changes = sym (ap (all_changed w.table) none-changed);
        dirty = sym (ap (dirty_after w.table (dirty_of w)) none-changed);
      }

  pub no_command_comes : (o : Opening) → IsNotDone (seen_state w) 0 → Comes o w → Comes o (lifted (with_history w (with_bare_entry entry)))
  no_command_comes o not_done comes = comes-drains o (with_history w (with_bare_entry entry)) (after_reply w.drains) (entry_comes o not_done comes)

  pub no_command_answers : AnswersLine w (lifted (with_history w (with_bare_entry entry))) line
  no_command_answers = record {
    between = lifted (with_history w (with_bare_entry entry));
    replied = no_command_replied;
    begins = inl (record { started = refl; kept = refl });
  }

-- ---- commands

runs-lifted : (w u : WorldSeen) → RunsOn w u → RunsOn w (lifted u)
runs-lifted w u is = record {
  told = is.told;
  room = is.room;
  first = is.first;
  earlier = is.earlier;
  store = is.store;
  openings = is.openings;
  devices = is.devices;
}

seen-onward : (w u : WorldSeen) (c : Cmd) (told : Told) (s : State) (f : Progress → Progress) → IsCarriedIn s w u c told → IsCarriedIn s w (lifted (with_history u f)) c told
seen-onward w u c told s f is = record {
  seen = is.seen;
  is_told = is.is_told;
  exact = is.exact;
  same = is.same;
  performed = is.performed;
}

module _ (w u : WorldSeen) (c : Cmd) (refusal' : Option Refusal) (is : IsCarried w u c refusal') (line : Given) (text : List ℕ)
    (good : command_at line.text ≡ Ok c) (said : IsSaid line.text (answer w.table is.told c).reply text)
    (dirty : dirty_of u ≡ dirty_after w.table (dirty_of w) (answer w.table is.told c).changes)
    (bitmaps : LeavesBitmaps w.table c refusal' w.bitmaps u.bitmaps) where
  -- with what is dirty, be it asked for or not
  abbrev told-so : Told
  told-so = with_counts is.told (counts_of w)

  answer-so : answer w.table told-so c ≡ answer w.table is.told c
  answer-so = answer-counted is.told (counts_of w) w.table c (λ prints. sym (is.counts prints))

  refused-so : refusal_to w.table told-so c ≡ refusal'
  refused-so = refusal-counted is.told (counts_of w) w.table c ∙ is.answered

  line-so : line_answer w.table told-so line.text ≡ answer w.table is.told c
  line-so = line_command w.table told-so line.text c good ∙ answer-so

  seen-so : (s : State) → IsCarriedIn s w u c is.told → IsCarriedIn s w u c told-so
  seen-so s was = record {
    seen = was.seen;
    is_told = was.is_told;
    exact = was.exact;
    same = was.same ∙ sym answer-so;
    performed = subst (λ (a : Answer). AllPerformed s a.changes (contents_of w) (contents_of u)) (sym answer-so) was.performed;
  }

  abbrev reply : Event
  reply = Reply line.number line.text (Some c) text

  is-command : command_read (command_at line.text) ≡ Some c
  is-command = ap command_read good

  called-by : (first : Option Refusal) → HasAnswerCause w u c first
      → IsCommandsFault w.table (seen_sources w) (counts_now w) (reply_fault (answer_by w.table is.told c first).reply) (Some c)
  called-by None caused = tt
  called-by (Some (refusal.Io source count)) caused = caused.called
  called-by (Some _) caused = tt

  rose-by : (first : Option Refusal) → HasAnswerCause w u c first → RoseIn (counts_within w u) (counts_now u) (reply_fault (answer_by w.table is.told c first).reply)
  rose-by None caused = tt
  rose-by (Some (refusal.Io source count)) caused = caused.reached.new
  rose-by (Some _) caused = tt

  full-by : (first : Option Refusal) → HasAnswerCause w u c first
      → IsCommandsFull w.table (seen_sources w) (counts_now w) (would_pass w (Some c)) (full_of (answer_by w.table is.told c first).reply) (Some c)
  full-by None caused = tt
  full-by (Some (refusal.NoSpace dev)) caused = (caused.called, caused.passes)
  full-by (Some _) caused = tt

  hides-by : (first : Option Refusal) → HidesNoFault w u (fault_told first)
      → HidesNoFault w u (reply_fault (answer_by w.table is.told c first).reply)
  hides-by None hides = hides
  hides-by (Some cause) hides = hides

  fits-by : (first : Option Refusal) → HasAnswerCause w u c first → HasFitted w (Some c) (answer_by w.table is.told c first).reply
  fits-by None caused = caused
  fits-by (Some _) caused = tt

  cause-first : HasAnswerCause w u c (refusal_to w.table is.told c)
  cause-first = rw is.answered is.cause

  line-said : IsSaid line.text (line_answer w.table told-so line.text).reply text
  line-said = subst (λ (a : Answer). IsSaid line.text a.reply text) (sym line-so) said

  hides-first : HidesNoFault w u (fault_told (refusal_to w.table is.told c))
  hides-first = subst (λ (first : Option Refusal). HidesNoFault w u (fault_told first)) (sym is.answered) is.hides

  pub command_replied : IsReplied w (lifted (with_history u (with_bare_entry reply))) line
  unfolding answer
  command_replied =
      let same : reply ≡ reply_entry w told-so line = entry-is w told-so line (Some c) text is-command (text_is w.table told-so line.text text line-said) in
      record {
        told = told-so;
        counts = refl;
        by_files = is.by_files;
        maps = rw good is.maps;
        table = is.table ∙ ap (λ (a : Answer). all_changed w.table a.changes) (sym line-so);
        dirty = dirty ∙ ap (λ (a : Answer). dirty_after w.table (dirty_of w) a.changes) (sym line-so);
        bitmaps = rw good (subst (λ (first : Option Refusal). LeavesBitmaps w.table c first w.bitmaps u.bitmaps) (sym refused-so) bitmaps);
        progress = ap (λ (e : Event). with_bare_entry e u.progress) same ∙ ap (with_bare_entry (reply_entry w told-so line)) is.progress;
        drains = ap after_reply is.drains;
        works = is.works;
        calm = rw good (λ none. is.calm (sym is.answered ∙ sym (refusal-counted is.told (counts_of w) w.table c) ∙ none));
        runs = runs-lifted w (with_history u (with_bare_entry reply)) (runs-onward w u (with_bare_entry reply) is.runs);
        licensed = licensed-of w (lifted (with_history u (with_bare_entry reply))) line told-so text (answer w.table is.told c).reply said (can_tell w u c refusal' is) (text_is w.table told-so line.text text line-said) (rw is-command (called-by (refusal_to w.table is.told c) cause-first)) (rose-by (refusal_to w.table is.told c) cause-first) (rw is-command (full-by (refusal_to w.table is.told c) cause-first));
        hides = hides-of w (lifted (with_history u (with_bare_entry reply))) line told-so text (answer w.table is.told c).reply said (can_tell w u c refusal' is)
            (text_is w.table told-so line.text text line-said) (hides-by (refusal_to w.table is.told c) hides-first);
        fits = rw (is-command, line-so) (fits-by (refusal_to w.table is.told c) cause-first);
        opens = rw good is.opens;
        site = rw good (subst (λ (first : Option Refusal). Leaves w.table (clean_told is.told) c first u.table (site_of w) (site_of u))
            (sym refused-so) is.site);
        shows = λ told o s shows. rw good (seen-onward w u c told-so s (with_bare_entry reply) (seen-so s (is.shows told o s shows)));
      }

-- ---- with the text that is given

module _ (w u : WorldSeen) (line : Given) (text : List ℕ) (c : Cmd) (good : command_at line.text ≡ Ok c) (is : IsCarriedAs w u line.text c text) where
  pub answered_replied : IsReplied w (lifted (with_history u (with_bare_entry (Reply line.number line.text (Some c) text)))) line
  answered_replied = command_replied w u c is.refusal is.carried line text good is.said is.dirty is.bitmaps

  -- a command that begins no job
  module _ (starts : is.refusal ≡ None → StartsNoJob w.table c) where
    none_started : u.table.started ≡ w.table.started
    none_started =
        let plain = answer_plain w.table is.carried.told c (λ none. starts (sym is.carried.answered ∙ none)) in
        ap (λ (t : RunTable). t.started) is.carried.table ∙ (all_tables_keep (answer w.table is.carried.told c).changes w.table plain).started

    pub answered_answers : AnswersLine w (lifted (with_history u (with_bare_entry (Reply line.number line.text (Some c) text)))) line
    answered_answers = record {
      between = lifted (with_history u (with_bare_entry (Reply line.number line.text (Some c) text)));
      replied = answered_replied;
      begins = inl (record { started = none_started; kept = refl });
    }

    pub answered_comes : (is_some u.files ≡ true → ImagesAreSound u.table (held u)) → AreJobsKept u.table u.works u.progress.aside
        → (is_some u.files ≡ true → HaveRowSizes u.table (disk_of u.nodes)) → (o : Opening) → IsNotDone (seen_state w) 0 → Comes o w
        → Comes o (lifted (with_history u (with_bare_entry (Reply line.number line.text (Some c) text))))
    answered_comes sound kept sizes o not_done comes =
        comes-drains o (with_history u (with_bare_entry (Reply line.number line.text (Some c) text))) (after_reply u.drains)
        (carried_comes w u c is.refusal is.carried line.text text good is.said is.dirty starts sound kept sizes line.number o not_done comes)

-- ---- what became of a line

pub late_put_off : (w v : WorldSeen) (line : Given) (c : Cmd) (g r : ℕ) → command_at line.text ≡ Ok c → IsLate w v c g r → IsPutOff w v line g r
late_put_off w v line c g r good is = record {
  told = is.told;
  by_files = is.by_files;
  command = c;
  read = good;
  maps = is.maps;
  waits = is.waits;
  left = is.left;
  shows = is.shows;
}

pub late_comes : (w v : WorldSeen) (c : Cmd) (g r : ℕ) → IsLate w v c g r → (o : Opening) → Comes o w → Comes o v
late_comes w v c g r is o comes = subst (Comes o) (sym is.left) (comes-drains o w (after_later (drained_by w.table c) w.drains) comes)
