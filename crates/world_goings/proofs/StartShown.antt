-- Where the store tells its files, the state behind the reply to an accepted backup or mirror and its start shows the world that they leave.
use Rattle.std.proofs.Common.{◌≡◌, ℕ, ◌+◌, ◌<◌, ◌==◌, Bool, true, false, cond, List, [], ◌∷◌, ◌++◌, refl, sym, ◌∙◌, ap, subst, arith, Option, Some, None, Ok}
use Rattle.std.specs.Prelude.{Contains, IsSome, is_some}
use Rattle.std.proofs.lemmas.Bool.{eqb-true}
use Rattle.std.proofs.lemmas.List.{append_assoc}
use Rattle.std.proofs.lemmas.List.Elements.{All-nil}
use Rattle.blk_graph.proofs.Members.{find-Some}
use Rattle.blk_history.specs.Names.{JobLine}
use Rattle.blk_history.specs.declared.event.Event.{Event}
use Rattle.blk_history.specs.declared.event.Event.TheVariants.{Start}
use Rattle.block_jobs.specs.Work.{JobWork}
use Rattle.blk_nodes.specs.Contents.{Unfolds, disk_of}
use Rattle.blk_nodes.specs.Joined.{IsJoined}
use Rattle.qmp_codec.specs.Lines.{command_at, id_at}
use Rattle.qmp_rules.specs.Answers.{Answer, answer, answer_by, answer_data, answer_for, command_edits, line_answer, line_text, refusal_to}
use Rattle.qmp_rules.specs.Changes.{all_changed}
use Rattle.qmp_rules.specs.Edits.{edits_of, start_edits}
use Rattle.qmp_rules.specs.Queries.{bytes_of_node}
use Rattle.qmp_rules.specs.Table.{RunTable, job_at, node_by_id}
use Rattle.qmp_rules.specs.declared.change.Change.{Change}
use Rattle.qmp_rules.specs.declared.refusal.Refusal.{Refusal}
use Rattle.qmp_rules.specs.declared.rows.JobRecord.{JobRecord}
use Rattle.qmp_rules.specs.declared.rows.UsedBitmap.{UsedBitmap}
use Rattle.serde_json.specs.Written.{compact_text}
use Rattle.flat_machine.specs.Agreement.{Agrees, ReadAsDisks}
use Rattle.flat_machine.specs.Begun.{begun_of}
use Rattle.flat_machine.specs.Bitmaps.{AreBitmapsOf}
use Rattle.flat_machine.specs.Changed.{all_stepped}
use Rattle.flat_machine.specs.Comes.{job_line_of, jobs_from}
use Rattle.flat_machine.specs.Final.{bytes_named}
use Rattle.flat_machine.specs.Imaging.{ShowsImages}
use Rattle.flat_machine.specs.Jobs.{granules_of, noted_start, started}
use Rattle.flat_machine.specs.Legal.{Fits, IsNotDone}
use Rattle.flat_machine.specs.Machine.{after, replay}
use Rattle.flat_machine.specs.Marking.{dirty_at}
use Rattle.flat_machine.specs.Marks.{AreCalm, IsCalm, marks_of, of_job, reply_marks, snapshot_marks, start_marks}
use Rattle.flat_machine.specs.Opening.{start}
use Rattle.flat_machine.specs.Performing.{AllCan, AllPerformed}
use Rattle.flat_machine.specs.Recording.{dirty_after}
use Rattle.flat_machine.specs.Sights.{expected}
use Rattle.flat_machine.specs.Replies.{IsAnswer, IsToldOf, edits_by, failed_edits, is_accepted, tells_failure, command_read}
use Rattle.flat_machine.specs.Standing.{StandsAtRest}
use Rattle.flat_machine.specs.State.{Begun, Dirty, Guest, State}
use Rattle.flat_machine.specs.Suiting.{AllSuit}
use Rattle.flat_machine.specs.Wiring.{TableAtRest}
use Rattle.flat_machine.specs.declared.opening.Opening.{Opening}
use Rattle.flat_machine.proofs.ImagesChanged.{all_images_keep}
use Rattle.flat_machine.proofs.Kept.{changes_keep}
use Rattle.flat_machine.proofs.Recorded.{all_stepped-dirty}
use Rattle.flat_machine.proofs.Resting.{stepped_table}
use Rattle.job_commands.specs.Begun.{CopyCmd, cmd_of, copy_job}
use Rattle.job_commands.specs.Copies.{DisksStand}
use Rattle.job_commands.specs.Granules.{GranulesStand}
use Rattle.job_commands.specs.Whole.{DisksAreWhole, HaveRowSizes}
use Rattle.job_commands.proofs.WholeCommands.{command_whole}
use Rattle.job_commands.proofs.WholeEntries.{started_whole}
use Rattle.blk_nodes.specs.Nodes.{AreTold}
use Rattle.world_parts.proofs.WholeDisks.{row_sizes}
use Rattle.job_commands.proofs.Copies.{command_goes}
use Rattle.job_ends.proofs.Held.{beginning_held, started_held}
use Rattle.job_entries.specs.Found.{HaveBegun}
use Rattle.job_entries.specs.Starts.{ShowsFilter}
use Rattle.job_entries.proofs.Inline.{steps_rest}
use Rattle.job_entries.proofs.Noted.{started_agrees, started_images, started_rests, started_table}
use Rattle.job_entries.proofs.StartSuits.{start_suits}
use Rattle.job_entries.proofs.Starting.{start_can, start_steps}
use Rattle.job_entries.proofs.Steps.{steps_keep}
use Rattle.job_progress.specs.Beginning.{CanBeCopied, begun_by, work_begun}
use Rattle.job_progress.specs.Belonging.{AreWorksOf}
use Rattle.job_progress.specs.Going.{AreJobsAhead}
use Rattle.job_progress.proofs.Begin.{start_begins}
use Rattle.job_progress.proofs.Entries.{entries_leave}
use Rattle.job_tables.specs.Accepted.{Begins, IsMet, JobsAreDrawn}
use Rattle.job_tables.specs.Jobs.{JobsStand}
use Rattle.job_tables.specs.Running.{JobsRun}
use Rattle.job_tables.specs.Starts.{JobBegins}
use Rattle.job_tables.specs.TargetFiles.{TargetFilesStand}
use Rattle.job_tables.proofs.TargetEvents.{start_noted, starts_keep_files}
use Rattle.job_works.specs.Works.{work_of}
use Rattle.world_parts.specs.Carrying.{FoundCalm, IsCarriedIn, IsReplied, IsSeenIn, reply_entry}
use Rattle.world_parts.specs.Coherent.{IsWholeWorld}
use Rattle.world_parts.specs.Comes.{ShowsState}
use Rattle.world_parts.specs.Face.{WorldSeen, contents_of, dirty_of, held, seen_state}
use Rattle.world_parts.specs.Jobs.{PutsFilter, bitmaps_begun}
use Rattle.world_parts.specs.Keeping.{ShowsJobs}
use Rattle.world_parts.specs.Progress.{Progress, ended_in, with_start}
use Rattle.world_parts.specs.Saying.{Given}
use Rattle.world_parts.proofs.InStep.{ended-push}
use Rattle.world_parts.proofs.Pushing.{FitsOn}
use Rattle.world_parts.proofs.Quiet.{undone}
use Rattle.world_goings.specs.Begun.{CanCopyWhole}
use Rattle.world_goings.proofs.CopyStarts.{command_starts, copy_begun, copy_can, edits_start, marks_calm, new_copy, no_snapshot, one_command}
use Rattle.world_goings.proofs.StartKept as kept
use Rattle.world_goings.proofs.StartKept.{dirty_begun, started_dirty}
use Rattle.world_goings.proofs.StartReply as reply
use Rattle.world_goings.proofs.StartSteps.{StaysAside, start_aside, started_aside}
use Rattle.world_goings.proofs.StartWorld as world

-- works rest on table and dirty granules alone
granules_same : (s u : State) (row : JobRecord) (by : Option UsedBitmap) → s.dirty ≡ u.dirty → granules_of s row by ≡ granules_of u row by
granules_same s u row None same = refl
granules_same s u row (Some used) same = ap (λ (ds : List Dirty). dirty_at ds row.source used.name) same

work_same : (s u : State) (row : JobRecord) → s.table ≡ u.table → s.dirty ≡ u.dirty → work_begun s row ≡ work_begun u row
work_same s u row table dirty =
    ap (λ (t : RunTable). begun_by row (bytes_of_node t row.source) (granules_of s row row.bitmap)) table
    ∙ ap (begun_by row (bytes_of_node u.table row.source)) (granules_same s u row row.bitmap dirty)

-- no work is of a job that is still to come
none_yet : (t : RunTable) (works : List JobWork) → JobsRun t → AreWorksOf t works → (number : ℕ) → number ≡ t.started → work_of works number ≡ None
none_yet t works run belong number is = by_found (work_of works number) refl
  where
    by_found : (found : Option JobWork) → work_of works number ≡ found → found ≡ None
    by_found None e = refl
    by_found (Some work) e =
        let at = find-Some (λ (x : JobWork). x.job == number) works work e in
        let of = belong.owned work at.0 in
        let less : of.row.number < t.started = run.numbers of.row of.there in
        let same : of.row.number ≡ number = of.number ∙ eqb-true work.job number at.1 in
        absurd (omega (arith, less, same, is))

module _ (o : Opening) (w x : WorldSeen) (line : Given) (c : CopyCmd) (good : command_at line.text ≡ Ok (cmd_of c)) (replied : IsReplied w x line)
    (began : x.table.started ≡ w.table.started + 1) (whole : IsWholeWorld w) (joined : IsJoined w.nodes) (unfolds : Unfolds w.nodes) (joined_next : IsJoined x.nodes)
    (can : CanCopyWhole o w (copy_job w.table c)) (says : is_accepted (line_text w.table replied.told line.text) ≡ true) where
  abbrev t : RunTable
  t = w.table

  abbrev h : List Event
  h = w.progress.log.events

  abbrev pub job : JobRecord
  job = copy_job w.table c

  abbrev text : List ℕ
  text = line_text w.table replied.told line.text

  abbrev e : Event
  e = reply_entry w replied.told line

  abbrev Edits : RunTable → List Change
  Edits u = start_edits u (copy_job u c)

  -- its row, its number and its work are these
  abbrev pub left : WorldSeen
  left = record x {
    bitmaps = bitmaps_begun (copy_job w.table c) x.bitmaps;
    works = x.works ++ work_begun (seen_state x) (copy_job w.table c) ∷ [];
    progress = with_start (copy_job w.table c).number (job_line_of (seen_state x) (Some (copy_job w.table c))) x.progress;
  }

  pub none : refusal_to t replied.told (cmd_of c) ≡ None
  none = reply.accepted w x line c good replied began

  pub table_is : x.table ≡ all_changed t (command_edits t replied.told (cmd_of c))
  table_is = reply.table_is w x line c good replied began

  pub puts : PutsFilter x.table job w.nodes x.nodes
  puts = reply.puts w x line c good replied began

  pub met : IsMet t replied.told (cmd_of c)
  met = world.met w x.table x.nodes replied.told replied.told c whole joined none table_is puts joined_next

  pub drawn : JobsAreDrawn t
  drawn = world.drawn w x.table x.nodes replied.told replied.told c whole joined none table_is puts joined_next

  pub size_is : bytes_of_node x.table job.source ≡ bytes_of_node t job.source
  size_is = world.size_same w x.table x.nodes replied.told replied.told c whole joined none table_is puts joined_next

  pub jobs_are : x.table.jobs ≡ t.jobs ++ job ∷ []
  jobs_are = world.jobs_are w x.table x.nodes replied.told replied.told c whole joined none table_is puts joined_next

  pub drawn_next : JobsAreDrawn x.table
  drawn_next = kept.drawn_next t x.table replied.told replied.told c w.works w.progress.aside whole.jobs whole.coherent.table.stands drawn met table_is jobs_are size_is can.size

  pub found_next : job_at x.table job.number ≡ Some job
  found_next = kept.found_next t x.table replied.told replied.told c w.works w.progress.aside whole.jobs whole.coherent.table.stands drawn met table_is jobs_are size_is can.size

  -- no request is in flight on what its start marks, before and behind
  pub calm_marked : AreCalm x.table w.progress.guests (start_marks job job.kind)
  calm_marked =
      world.start_calm w x.table x.nodes replied.told replied.told c whole joined none table_is puts joined_next w.progress.guests
      (marks_calm t replied.told w.progress.guests c met (subst (FoundCalm (seen_state w) replied.told) good replied.calm none))

  marks_start : (s : State) → s.table ≡ x.table → marks_of s (Start job.number) ≡ start_marks job job.kind
  marks_start s same = ap (λ (found : Option JobRecord). of_job found (λ (row : JobRecord). start_marks row row.kind)) (ap (λ (u : RunTable). job_at u job.number) same ∙ found_next)

  pub calm_start : (s : State) (u : RunTable) (guests : List Guest) → s.table ≡ x.table → u ≡ x.table → guests ≡ w.progress.guests → AreCalm u guests (marks_of s (Start job.number))
  calm_start s u guests same table are =
      subst (AreCalm u guests) (sym (marks_start s same))
      (subst (λ (v : RunTable). AreCalm v guests (start_marks job job.kind)) (sym table)
      (subst (λ (gs : List Guest). AreCalm x.table gs (start_marks job job.kind)) (sym are) calm_marked))

  pub calm_reply : (s : State) (u : RunTable) (guests : List Guest) → AreCalm u guests (reply_marks s.table line.text text)
  calm_reply s u guests = by_accepted (is_accepted text)
    where
      none_marked : snapshot_marks s.table (command_at line.text) ≡ []
      none_marked = ap (snapshot_marks s.table) good ∙ no_snapshot s.table c

      by_accepted : (b : Bool) → AreCalm u guests (cond b (snapshot_marks s.table (command_at line.text)) [])
      by_accepted true = subst (AreCalm u guests) (sym none_marked) (All-nil (IsCalm u guests))
      by_accepted false = All-nil (IsCalm u guests)

  module _ (told : is_some w.files ≡ true) (shows : ShowsState o (replay (start o) w.progress.log.events) w)
      (going : ShowsJobs o w.progress.log.events (replay (start o) w.progress.log.events) w) (not_done : IsNotDone (seen_state w) 0) where
    abbrev s : State
    s = replay (start o) w.progress.log.events

    same : s.table ≡ t
    same = shows.table.table_is

    in_it : IsCarriedIn s w x (cmd_of c) replied.told
    in_it = subst (IsSeenIn s w x replied.told) good (replied.shows told o s shows)

    -- ---- the reply's entry fits

    edits_are : edits_by s text (command_at line.text) ≡ Edits s.table
    edits_are =
        ap (edits_by s text) good
        ∙ ap (λ (b : Bool). cond b (command_edits s.table (expected s (cmd_of c)) (cmd_of c)) (cond (tells_failure text) (failed_edits s.table (cmd_of c)) [])) says
        ∙ command_starts s.table (expected s (cmd_of c)) c

    abbrev mid : State
    mid = all_stepped s (Edits s.table)

    after_reply : after s e ≡ mid
    after_reply = ap (all_stepped s) edits_are

    text_said : text ≡ line_text s.table in_it.seen line.text
    unfolding line_text line_answer
    text_said =
        ap (λ read. compact_text (answer_data (id_at line.text) (answer_for t replied.told line.text read).reply)) good
        ∙ ap (λ (a : Answer). compact_text (answer_data (id_at line.text) a.reply)) (sym in_it.same)
        ∙ ap (λ (u : RunTable). compact_text (answer_data (id_at line.text) (answer u in_it.seen (cmd_of c)).reply)) (sym same)
        ∙ sym (ap (λ read. compact_text (answer_data (id_at line.text) (answer_for s.table in_it.seen line.text read).reply)) good)

    answers : IsAnswer s line.text (command_read (command_at line.text)) text
    answers = record {
      understood = refl;
      told = in_it.seen;
      is_told = subst (λ read. IsToldOf s (command_read read) in_it.seen) (sym good) in_it.is_told;
      answered = text_said;
    }

    -- ---- its changes

    changes_are : (answer t replied.told (cmd_of c)).changes ≡ Edits t
    unfolding answer
    changes_are = ap (λ (f : Option Refusal). (answer_by t replied.told (cmd_of c) f).changes) none ∙ command_starts t replied.told c

    did : AllPerformed s (Edits s.table) (contents_of w) (contents_of x)
    did = subst (λ (cs : List Change). AllPerformed s cs (contents_of w) (contents_of x)) (changes_are ∙ ap Edits (sym same)) in_it.performed

    did_command : AllPerformed s (edits_of s.table replied.told (cmd_of c)) (contents_of w) (contents_of x)
    did_command = subst (λ (cs : List Change). AllPerformed s cs (contents_of w) (contents_of x)) (sym (edits_start s.table replied.told c)) did

    drawn_s : JobsAreDrawn s.table
    drawn_s = subst JobsAreDrawn (sym same) drawn

    begins_s : Begins s.table (copy_job s.table c)
    begins_s =
        subst (λ (u : RunTable). Begins u (copy_job u c)) (sym same)
        (world.begins w x.table x.nodes replied.told replied.told c whole joined none table_is puts joined_next)

    begins : JobBegins s.table (copy_job s.table c)
    begins = begins_s.job

    met_s : IsMet s.table replied.told (cmd_of c)
    met_s = subst (λ (u : RunTable). IsMet u replied.told (cmd_of c)) (sym same) met

    rest_s : TableAtRest s.table
    rest_s = subst TableAtRest (sym same) whole.coherent.table

    suits : AllSuit s (Edits s.table)
    suits = start_suits s shows.stands.stands.table drawn_s.jobs.stand drawn_s.edges (copy_job s.table c) begins (new_copy s.table c).lends

    can_all : AllCan s (Edits s.table)
    can_all = start_can s (copy_job s.table c) begins

    rests : StandsAtRest mid
    rests = steps_rest (Edits s.table) s (start_steps s (copy_job s.table c) begins shows.stands.stands.table) suits shows.stands

    agrees : Agrees (bytes_named o.files) mid (contents_of x)
    agrees = changes_keep (bytes_named o.files) (Edits s.table) s (contents_of w) (contents_of x) can_all did shows.contents

    images : ShowsImages mid (contents_of x)
    images =
        all_images_keep (bytes_named o.files) (Edits s.table) s (contents_of w) (contents_of x) suits can_all
        (steps_keep (Edits s.table) s (start_steps s (copy_job s.table c) begins shows.stands.stands.table)) shows.stands.stands shows.contents did shows.images

    table_mid : mid.table ≡ x.table
    table_mid =
        stepped_table (Edits s.table) s ∙ ap (λ (u : RunTable). all_changed u (Edits u)) same ∙ ap (all_changed t) (sym (command_starts t replied.told c)) ∙ sym table_is

    dirty_mid : mid.dirty ≡ dirty_of x
    dirty_mid =
        all_stepped-dirty (Edits s.table) s ∙ ap (λ (u : RunTable). dirty_after u s.dirty (Edits u)) same
        ∙ ap (λ (ds : List Dirty). dirty_after t ds (Edits t)) shows.dirty ∙ ap (dirty_after t (dirty_of w)) (sym (command_starts t replied.told c))
        ∙ sym (reply.dirty_is w x line c good replied began)

    aside : StaysAside s mid
    aside =
        let list = world.start_list w x.table x.nodes replied.told replied.told c whole joined none table_is puts joined_next in
        subst (λ (cs : List Change). StaysAside s (all_stepped s cs)) (sym (ap Edits same ∙ list.is))
        (start_aside s (node_by_id t list.target) list.target list.source list.filter job)

    -- ---- then it begins

    abbrev final : State
    final = started mid (Some job)

    job_mid : job_at mid.table job.number ≡ Some job
    job_mid = ap (λ (u : RunTable). job_at u job.number) table_mid ∙ found_next

    after_start : after mid (Start job.number) ≡ final
    after_start = ap (started mid) job_mid

    after_both : after (after s e) (Start job.number) ≡ final
    after_both = ap (λ (m : State). after m (Start job.number)) after_reply ∙ after_start

    noted : StaysAside (noted_start mid job) final
    noted = started_aside mid job

    turn : job.number ≡ mid.starts
    turn = (new_copy t c).number ∙ sym (aside.starts ∙ shows.table.rest.started ∙ ap (λ (u : RunTable). u.started) same)

    stand_mid : JobsStand mid.table
    stand_mid = subst JobsStand (sym table_mid) drawn_next.jobs.stand

    there_mid : Contains mid.table.jobs job
    there_mid = (find-Some (λ (r : JobRecord). r.number == job.number) mid.table.jobs job job_mid).0

    shown : ShowsState o final left
    shown = record {
      stands = started_rests mid (Some job) rests;
      dirty =
          started_dirty mid job
          ∙ sym (dirty_begun t x.table job x.bitmaps (subst (AreBitmapsOf t.bitmaps) (sym (reply.bitmaps_same w x line c good replied began)) whole.bitmaps)
          (world.bitmaps_are w x.table x.nodes replied.told replied.told c whole joined none table_is puts joined_next) mid table_mid dirty_mid);
      table = record {
        room_is = noted.room ∙ aside.room ∙ shows.table.room_is ∙ sym replied.runs.room;
        table_is = started_table mid (Some job) ∙ table_mid;
        rest = record {
          started =
              noted.starts ∙ ap (λ n. n + 1) (sym turn ∙ (new_copy t c).number) ∙ sym began ∙ sym (ap (λ (u : RunTable). u.started) (started_table mid (Some job) ∙ table_mid));
          ended = noted.ending ∙ aside.ending ∙ shows.table.rest.ended;
        };
      };
      guests = record {
        guests_are = noted.guests ∙ aside.guests ∙ shows.guests.guests_are ∙ ap (λ (p : Progress). p.guests) (sym replied.progress);
        ended_are =
            noted.ended ∙ aside.ended ∙ shows.guests.ended_are ∙ sym (ended-push h e refl)
            ∙ ap (λ (p : Progress). ended_in p.log.events) (sym replied.progress) ∙ sym (ended-push x.progress.log.events (Start job.number) refl);
      };
      contents =
          let now = started_agrees (bytes_named o.files) mid (Some job) (contents_of x) agrees in
          record { disks = now.disks; known = now.known; absent = now.absent; left = now.left; unchanged = now.unchanged };
      images = λ node. let now = started_images mid (Some job) (contents_of x) images node in record { noted = now.noted; mapped = now.mapped };
    }

    -- ---- jobs

    shows_filter : ShowsFilter (copy_job s.table c) (contents_of w) (contents_of x)
    shows_filter =
        let was = world.start_shows w x.table x.nodes replied.told replied.told c whole joined none table_is puts joined_next unfolds in
        subst (λ (u : RunTable). ShowsFilter (copy_job u c) (contents_of w) (contents_of x)) (sym same)
        (record {
          nodes = was.nodes;
          files = λ name other.
              ap (λ files. held (record x { files = files }) name) (reply.files_same w x line c good replied began) ∙ was.files name other;
          filter = was.filter;
        })

    disks : DisksStand s (contents_of w)
    disks = record {
      whole = can.disks told;
      reads = subst (λ (u : RunTable). HaveRowSizes u (disk_of w.nodes)) (sym same) (can.reads told);
      agree = shows.contents.disks;
      granules = subst (λ (u : RunTable). GranulesStand u s.dirty) (sym same) (subst (GranulesStand t) (sym shows.dirty) can.granules);
    }

    target : ℕ
    target = (world.copy w x.table x.nodes replied.told replied.told c whole joined none table_is puts joined_next).target

    -- what the command's changes leave
    made : all_stepped s (edits_of s.table replied.told (cmd_of c)) ≡ mid
    made = ap (all_stepped s) (edits_start s.table replied.told c)

    copies : CanBeCopied mid (disk_of x.nodes) job target
    unfolding target
    copies =
        subst (λ (u : RunTable). CanBeCopied mid (disk_of x.nodes) (copy_job u c) target) same
        (subst (λ (m : State). CanBeCopied m (disk_of x.nodes) (copy_job s.table c) target) made
        (copy_can s replied.told replied.told c target (contents_of w) (contents_of x) shows.stands.stands.table drawn_s.jobs.stand met_s
        (subst (λ (u : RunTable). (copy_job u c).target ≡ Some target) (sym same)
        (world.copy w x.table x.nodes replied.told replied.told c whole joined none table_is puts joined_next).is_target)
        disks shows_filter))

    belong_s : AreWorksOf s.table w.works
    belong_s = subst (λ (u : RunTable). AreWorksOf u w.works) (sym same) whole.jobs.belong

    ahead_mid : AreJobsAhead (start o) (h ++ e ∷ []) mid (disk_of x.nodes) w.works
    ahead_mid =
        entries_leave (start o) mid mid h e (disk_of x.nodes) w.works refl refl refl
        (subst (λ (m : State). AreJobsAhead (start o) h m (disk_of x.nodes) w.works) made
        (command_goes (start o) s h replied.told replied.told (cmd_of c) (contents_of w) (contents_of x) w.works rest_s drawn_s.jobs.stand drawn_s.jobs.run belong_s
        (one_command c) met_s did_command going.ahead))

    begun_none : begun_of mid.begun job.number ≡ None
    begun_none =
        ap (λ (bs : List Begun). begun_of bs job.number) aside.begun
        ∙ going.begun.later job.number (let starts = aside.starts in let is = turn in omega (arith, starts, is))

    works_are : w.works ++ work_begun mid job ∷ [] ≡ left.works
    works_are =
        ap (λ (works : List JobWork). works ++ work_begun mid job ∷ []) (sym replied.works)
        ∙ ap (λ (work : JobWork). x.works ++ work ∷ []) (work_same mid (seen_state x) job table_mid dirty_mid)

    ahead_next : AreJobsAhead (start o) (h ++ e ∷ Start job.number ∷ []) final (disk_of x.nodes) left.works
    ahead_next =
        subst (λ (past : List Event). AreJobsAhead (start o) past final (disk_of x.nodes) left.works) (append_assoc h (e ∷ []) (Start job.number ∷ []))
        (subst (AreJobsAhead (start o) ((h ++ e ∷ []) ++ Start job.number ∷ []) final (disk_of x.nodes)) works_are
        (subst (λ (m : State). AreJobsAhead (start o) ((h ++ e ∷ []) ++ Start job.number ∷ []) m (disk_of x.nodes) (w.works ++ work_begun mid job ∷ [])) after_start
        (start_begins (start o) mid (h ++ e ∷ []) (disk_of x.nodes) job target w.works stand_mid job_mid
        (none_yet t w.works whole.jobs.run whole.jobs.belong job.number (new_copy t c).number) begun_none copies ahead_mid)))

    begun_next : HaveBegun final
    begun_next =
        subst HaveBegun
        (ap (λ (m : State). after m (Start s.table.started)) made ∙ ap (λ (n : ℕ). after mid (Start n)) (ap (λ (u : RunTable). u.started) same ∙ sym (new_copy t c).number)
        ∙ after_start)
        (copy_begun s replied.told replied.told c rest_s drawn_s met_s shows.table.rest (can.disks told) going.begun)

    files_next : TargetFilesStand final
    files_next =
        subst TargetFilesStand after_start
        (start_noted mid job.number rests.stands.table stand_mid turn
        (starts_keep_files s (copy_job s.table c) rest_s.stands drawn_s.jobs.stand drawn_s.jobs.run begins_s.job begins_s.run shows.table.rest.started going.files)
        (subst IsSome (sym job_mid) refl))

    reads_mid : HaveRowSizes mid.table (disk_of x.nodes)
    reads_mid =
        let alike = (world.start_coherent w x.table x.nodes replied.told replied.told c whole joined none table_is puts joined_next).alike in
        let tells : AreTold x.nodes.devices = subst AreTold (sym (ap (λ nodes. nodes.devices) puts.are)) (whole.tell told) in
        subst (λ (u : RunTable). HaveRowSizes u (disk_of x.nodes)) (sym table_mid) (row_sizes x.table x.nodes alike joined_next tells)

    whole_next : DisksAreWhole final
    whole_next = started_whole mid (Some job) (subst DisksAreWhole made by_command)
      where
        by_command : DisksAreWhole (all_stepped s (edits_of s.table replied.told (cmd_of c)))
        by_command =
            command_whole s replied.told replied.told (cmd_of c) (contents_of x) rest_s drawn_s.jobs.stand (one_command c) met_s
            (subst (AllCan s) (sym (edits_start s.table replied.told c)) can_all) (subst (λ (m : State). ReadAsDisks m (contents_of x)) (sym made) agrees.disks)
            (subst (λ (m : State). HaveRowSizes m.table (disk_of x.nodes)) (sym made) reads_mid) (can.disks told)

    goes_on : ShowsJobs o (h ++ e ∷ Start job.number ∷ []) final left
    goes_on = record {
      begun = begun_next;
      files = files_next;
      ahead = ahead_next;
      unsure =
          started_held mid job stand_mid there_mid turn
          (beginning_held s (copy_job s.table c) shows.stands.stands.table drawn_s.jobs.stand begins
          (let is = shows.table.rest.started in let number = (new_copy s.table c).number in omega (arith, is, number)) going.unsure);
      whole = whole_next;
    }

    -- ---- all of it

    fits_start : Fits mid (Start job.number)
    fits_start =
        let later : mid.table.started ≡ t.started + 1 = ap (λ (u : RunTable). u.started) table_mid ∙ began in
        let number = (new_copy t c).number in
        let is = turn in
        ((turn, omega (arith, later, number, is)), subst IsSome (sym job_mid) refl)

    names : left.progress.jobs ≡ w.progress.jobs ++ jobs_from s (e ∷ Start job.number ∷ [])
    names =
        ap (λ (p : Progress). p.jobs ++ job_line_of (seen_state x) (Some job) ∷ []) replied.progress
        ∙ ap (λ (l : JobLine). w.progress.jobs ++ l ∷ []) (sym lines)
      where
        lines : job_line_of (after s e) (job_at (after s e).table job.number) ≡ job_line_of (seen_state x) (Some job)
        lines =
            ap (λ (m : State). job_line_of m (job_at m.table job.number)) after_reply ∙ ap (job_line_of mid) job_mid
            ∙ ap (λ (u : RunTable). let l : JobLine = record { id = job.id; kind = job.kind; size = bytes_of_node u job.source } in l) table_mid

    pub start_fits : FitsOn o w.progress.log.events (replay (start o) w.progress.log.events) w left (reply_entry w replied.told line ∷ Start (copy_job w.table c).number ∷ [])
    start_fits = record {
      legal = (
        (shows.table.rest, (undone o s w 0 shows not_done, answers)),
        (subst (λ (m : State). Fits m (Start job.number)) (sym after_reply) fits_start, tt),
      );
      marks = (
        calm_reply s s.table s.guests,
        (
          subst (λ (m : State). AreCalm m.table m.guests (marks_of m (Start job.number))) (sym after_reply)
              (calm_start mid mid.table mid.guests table_mid table_mid (aside.guests ∙ shows.guests.guests_are)),
          tt,
        ),
      );
      shows = subst (λ (m : State). ShowsState o m left) (sym after_both) shown;
      going = subst (λ (m : State). ShowsJobs o (h ++ e ∷ Start job.number ∷ []) m left) (sym after_both) goes_on;
      names = names;
    }
