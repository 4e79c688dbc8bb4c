-- What each entry of a history leaves of guests and of the names of jobs, be it of a start or an end.
use Rattle.std.proofs.Common.{◌≡◌, ℕ, ◌<◌, ◌≤◌, Bool, true, false, List, [], ◌∷◌, ◌++◌, map, length, refl, sym, ap, subst, ◌∙◌, arith, Option, Some, None, option_and_then}
use Rattle.std.specs.Prelude.{◌==◌, if◌then◌else◌, slice_get, IsSome}
use Rattle.std.specs.List.{find}
use Rattle.std.proofs.lemmas.List.{append_assoc, length-append}
use Rattle.blk_base.specs.Pieces.{Extent}
use Rattle.blk_base.specs.declared.fault.Outcome.{Outcome}
use Rattle.trace_codec.specs.declared.op.Op.{Op}
use Rattle.trace_codec.specs.declared.op.Op.TheVariants.{Read, Write, Zero, Flush, Discard}
use Rattle.qmp_codec.specs.Lines.{command_at}
use Rattle.qmp_codec.specs.declared.event.JobKind.{JobKind}
use Rattle.qmp_codec.specs.declared.event.JobKind.TheVariants as job_kind
use Rattle.blk_graph.specs.declared.kind.Kind.{Kind}
use Rattle.blk_graph.specs.declared.kind.Kind.TheVariants.{Protocol, Raw, Qcow2, CopyOnRead, BeforeWrite, Mirror, Commit}
use Rattle.blk_graph.specs.declared.edge.Role.TheVariants.{File}
use Rattle.qmp_rules.specs.declared.change.Change.{Change}
use Rattle.qmp_rules.specs.declared.change.Change.TheVariants as change
use Rattle.qmp_rules.specs.declared.change.JobOutcome.{JobOutcome}
use Rattle.qmp_rules.specs.declared.change.JobOutcome.TheVariants as outcome
use Rattle.qmp_rules.specs.declared.change.NewDisk.{NewDisk}
use Rattle.qmp_rules.specs.declared.rows.NodeRecord.{NodeRecord}
use Rattle.qmp_rules.specs.declared.rows.JobRecord.{JobRecord}
use Rattle.qmp_rules.specs.Asks.{name_of_file}
use Rattle.qmp_rules.specs.Chains.{disk_node, written_under}
use Rattle.qmp_rules.specs.Changes.{changed}
use Rattle.qmp_rules.specs.Ends.{drops_aside, filter_gone, parents_to, overlay_to, moves, settles_target, settle_if, settled_by, top_lost, read_only_if, given_back_to, done_edits, end_edits}
use Rattle.qmp_rules.specs.Table.{RunTable, child, node_by_id, job_at}
use Rattle.blk_history.specs.Disk.{piece, done_in}
use Rattle.blk_history.specs.Machine.{Flight, done_by}
use Rattle.blk_history.specs.Names.{JobLine}
use Rattle.blk_history.specs.declared.entry.JobEnd.{JobEnd}
use Rattle.blk_history.specs.declared.event.Event.{Event}
use Rattle.blk_history.specs.declared.event.Event.TheVariants.{Admit, Refuse, Piece, Retire, Reply, Reached, Start, Ready, End, Done}
use Rattle.blk_history.proofs.Folds.{length-change}
use Rattle.flat_machine.specs.State.{State, Guest, Content, Unknown, Left, Mapped, drive_of, content_in, filename_of}
use Rattle.flat_machine.specs.Comes.{job_line_of, jobs_from}
use Rattle.flat_machine.specs.Contents.{file_bytes, mapped_in}
use Rattle.flat_machine.specs.Changed.{stepped, all_stepped, name_if, leave, know_if, note_image, add_file, put, name_file, content_under, bytes_by_format, left_disk, overlay_file}
use Rattle.flat_machine.specs.Jobs.{unsure, target_file, copied_to, unleft, noted_start, started, changes_at_end, outcome_of, ended, readied_by}
use Rattle.flat_machine.specs.Legal.{Fits}
use Rattle.flat_machine.specs.Machine.{after, admitted, finished, past_piece, with_disk, node_written, with_part, with_piece, flight_of, path, note, noted, is_noted, read_through, copies_through}
use Rattle.flat_machine.specs.Replies.{edits_by}
use Rattle.flat_machine.proofs.JobCommands.{answer_fresh}
use Rattle.flat_machine.proofs.JobNames.{AllDiffer, IsNamedJob, JobsAreNamed, begun-named, AllStartFresh, change-named, AllKeepJobs, keep-append, keep-fresh}

-- ---- pieces

-- the guests, and how many jobs have begun
abbrev guests_starts : State → List Guest × ℕ
guests_starts s = (s.guests, s.starts)

-- with the jobs of the table
abbrev guests_starts_jobs : State → (List Guest × ℕ) × (List JobRecord × ℕ)
guests_starts_jobs s = (guests_starts s, (s.table.jobs, s.table.started))

noted-kept : (s : State) (outcome : Outcome) (part : Extent) (drive : ℕ) → guests_starts_jobs (note outcome part drive s) ≡ guests_starts_jobs s
noted-kept s outcome part drive = by_flag (is_noted outcome)
  where
    by_flag : (b : Bool) → guests_starts_jobs (if b then record s { dirty = noted s.table part s.dirty (path s.table drive) } else s) ≡ guests_starts_jobs s
    by_flag true = refl
    by_flag false = refl

read-kept : (s : State) (drive : ℕ) → guests_starts_jobs (read_through drive s) ≡ guests_starts_jobs s
read-kept s drive = by_flag (copies_through s.table drive)
  where
    by_flag : (b : Bool) → guests_starts_jobs (if b then record s { images = map (unsure (disk_node s.table drive ∷ [])) s.images } else s) ≡ guests_starts_jobs s
    by_flag true = refl
    by_flag false = refl

written-kept : (node : ℕ) (s : State) → guests_starts_jobs (node_written node s) ≡ guests_starts_jobs s
unfolding written_under
written-kept node s = refl

part-kept : (s : State) (drive : ℕ) (op : Op) (outcome : Outcome) (part : Extent) → guests_starts_jobs (with_part drive op outcome part s) ≡ guests_starts_jobs s
part-kept s drive (Read span) outcome part =
    read-kept (with_disk (disk_node s.table drive) (done_in (Read span) part (done_by outcome part)) s) drive
part-kept s drive (Write span payload) outcome part =
    noted-kept (node_written (disk_node s.table drive) (with_disk (disk_node s.table drive) (done_in (Write span payload) part (done_by outcome part)) s))
    outcome part drive
    ∙ written-kept (disk_node s.table drive) (with_disk (disk_node s.table drive) (done_in (Write span payload) part (done_by outcome part)) s)
part-kept s drive (Zero span) outcome part =
    noted-kept (node_written (disk_node s.table drive) (with_disk (disk_node s.table drive) (done_in (Zero span) part (done_by outcome part)) s))
    outcome part drive
    ∙ written-kept (disk_node s.table drive) (with_disk (disk_node s.table drive) (done_in (Zero span) part (done_by outcome part)) s)
part-kept s drive Flush outcome part = refl
part-kept s drive (Discard span) outcome part = refl

piece-kept : (s : State) (drive : Option ℕ) (flight : Option Flight) (k : ℕ) (outcome : Outcome)
    → guests_starts_jobs (with_piece drive flight k outcome s) ≡ guests_starts_jobs s
piece-kept s (Some drive) (Some f) k outcome = part-kept s drive f.op outcome (piece f.op k)
piece-kept s (Some drive) None k outcome = refl
piece-kept s None flight k outcome = refl

-- ---- changes

named-counts : (name : Option (List ℕ)) (s : State) → guests_starts (name_if name s) ≡ guests_starts s
named-counts None s = refl
named-counts (Some name) s = refl

left-counts : (left : Option Left) (s : State) → guests_starts (leave left s) ≡ guests_starts s
left-counts None s = refl
left-counts (Some left) s = refl

known-counts : (name : Option (List ℕ)) (content : Content) (s : State) → guests_starts (know_if name content s) ≡ guests_starts s
known-counts None content s = refl
known-counts (Some name) content s = refl

image-counts : (driver : Kind) (node : ℕ) (mapped : Mapped) (s : State) → guests_starts (note_image driver node mapped s) ≡ guests_starts s
image-counts Protocol node mapped s = refl
image-counts Raw node mapped s = refl
image-counts Qcow2 node mapped s = refl
image-counts CopyOnRead node mapped s = refl
image-counts BeforeWrite node mapped s = refl
image-counts Mirror node mapped s = refl
image-counts Commit node mapped s = refl

file-counts : (row : NodeRecord) (s : State) → guests_starts (add_file row s) ≡ guests_starts s
file-counts row s = by_flag row.read_only
  where
    added : State
    added = put row.id (file_bytes row.size (content_in s.files (name_of_file row))) s

    by_flag : (b : Bool) → guests_starts (if b then added else name_file (name_of_file row) added) ≡ guests_starts s
    by_flag true = refl
    by_flag false = refl

stepped-counts : (s : State) (c : Change) → guests_starts (stepped s c) ≡ guests_starts s
stepped-counts s (change.AddFile row) = file-counts row s
stepped-counts s (change.AddFormat row file backing) =
    known-counts (filename_of s.table file) Unknown
    (note_image row.kind row.id (mapped_in (content_under s file)) (put row.id (bytes_by_format s row file backing row.kind) s))
    ∙ image-counts row.kind row.id (mapped_in (content_under s file)) (put row.id (bytes_by_format s row file backing row.kind) s)
stepped-counts s (change.RemoveNode node) = left-counts (option_and_then (left_disk s) (node_by_id s.table node)) s
stepped-counts s (change.MakeWritable node) = named-counts (filename_of s.table node) s
stepped-counts s (change.StartJob row) = named-counts (overlay_file s.table row row.kind) s
stepped-counts s change.Negotiate = refl
stepped-counts s (change.KeepId id) = refl
stepped-counts s (change.DropId id) = refl
stepped-counts s (change.MakeFile name size) = refl
stepped-counts s (change.FormatFile node name size backing_file backing_fmt) = refl
stepped-counts s (change.SpoilFile name) = refl
stepped-counts s (change.UseFile name) = refl
stepped-counts s (change.AddFilter row child) = refl
stepped-counts s (change.Unsettle id) = refl
stepped-counts s (change.PutFilter row node) = refl
stepped-counts s (change.UseNode slot what node) = refl
stepped-counts s (change.AskJob number asked) = refl
stepped-counts s (change.ReadyJob number) = refl
stepped-counts s (change.EndJob number slot drops) = refl
stepped-counts s (change.PullFilter filter) = refl
stepped-counts s (change.Rebase node backing) = refl
stepped-counts s (change.Settle node disk) = refl
stepped-counts s (change.MakeReadOnly id) = refl
stepped-counts s (change.AddDevice device node) = refl
stepped-counts s (change.RemoveDevice number) = refl
stepped-counts s (change.Attach overlay node) = refl
stepped-counts s (change.Move from to but) = refl
stepped-counts s (change.AddBitmap row) = refl
stepped-counts s (change.RemoveBitmap node name) = refl
stepped-counts s (change.TurnBitmap node name on) = refl
stepped-counts s (change.ClearBitmap node name) = refl
stepped-counts s (change.MergeBitmap node name source_node source) = refl

-- ---- the jobs of a state

-- The jobs have names, and these are the lines of those that have begun.
pub record StateIsNamed (lines : List JobLine) (s : State) : Type 0 where
  pub jobs : JobsAreNamed lines s.table
  pub many : length lines ≡ s.starts

steps_named : (lines : List JobLine) (changes : List Change) (s : State) → AllStartFresh s.table changes → StateIsNamed lines s
    → StateIsNamed lines (all_stepped s changes)
steps_named lines [] s fresh h = h
steps_named lines (c ∷ changes) s fresh h = steps_named lines changes (stepped s c) fresh.1 (record {
  jobs = change-named lines s.table c fresh.0 h.jobs;
  many = h.many ∙ sym (ap (λ (p : List Guest × ℕ). p.1) (stepped-counts s c));
})

steps_guests : (changes : List Change) (s : State) → (all_stepped s changes).guests ≡ s.guests
steps_guests [] s = refl
steps_guests (c ∷ changes) s = steps_guests changes (stepped s c) ∙ ap (λ (p : List Guest × ℕ). p.0) (stepped-counts s c)

like_named : (lines : List JobLine) (s now : State) → guests_starts_jobs now ≡ guests_starts_jobs s → StateIsNamed lines s → StateIsNamed lines now
like_named lines s now same h =
    let jobs : now.table.jobs ≡ s.table.jobs = ap (λ (p : (List Guest × ℕ) × (List JobRecord × ℕ)). p.1.0) same in
    let begun : now.table.started ≡ s.table.started = ap (λ (p : (List Guest × ℕ) × (List JobRecord × ℕ)). p.1.1) same in
    record {
      jobs = record {
        rows = subst (λ rows. AllDiffer (IsNamedJob lines now.table.started) rows) (sym jobs)
            (subst (λ n. AllDiffer (IsNamedJob lines n) s.table.jobs) (sym begun) h.jobs.rows);
        many = subst (λ n. length lines ≤ n) (sym begun) h.jobs.many;
      };
      many = h.many ∙ sym (ap (λ (p : (List Guest × ℕ) × (List JobRecord × ℕ)). p.0.1) same);
    }

-- ---- starts

unleft_kept : (name : Option (List ℕ)) (s : State) → guests_starts_jobs (unleft name s) ≡ guests_starts_jobs s
unleft_kept None s = refl
unleft_kept (Some name) s = refl

start_named : (lines : List JobLine) (s : State) (job : ℕ) (found : Option JobRecord) → job_at s.table job ≡ found → IsSome found → job ≡ s.starts
    → s.starts < s.table.started → StateIsNamed lines s → StateIsNamed (lines ++ job_line_of s found ∷ []) (started s found)
start_named lines s job None e some next less h = absurd cc
start_named lines s job (Some row) e some next less h =
    let at_next : find (λ j. j.number == length lines) s.table.jobs ≡ Some row =
    subst (λ n. find (λ j. j.number == n) s.table.jobs ≡ Some row) (next ∙ sym h.many) e in
    let more = length-append lines (job_line_of s (Some row) ∷ []) in
    let many = h.many in
    let now : StateIsNamed (lines ++ job_line_of s (Some row) ∷ []) (noted_start s row) = record {
      jobs = record {
        rows = begun-named lines (job_line_of s (Some row)) s.table.started s.table.jobs row at_next refl h.jobs.rows;
        many = omega arith;
      };
      many = omega arith;
    } in
    like_named (lines ++ job_line_of s (Some row) ∷ []) (noted_start s row) (started s (Some row))
    (unleft_kept (target_file s.table (option_and_then (node_by_id s.table) (copied_to row row.kind))) (noted_start s row)) now

start_guests : (s : State) (found : Option JobRecord) → (started s found).guests ≡ s.guests
start_guests s None = refl
start_guests s (Some row) =
    ap (λ (p : (List Guest × ℕ) × (List JobRecord × ℕ)). p.0.0)
    (unleft_kept (target_file s.table (option_and_then (node_by_id s.table) (copied_to row row.kind))) (noted_start s row))

-- ---- ends

module _ (row : JobRecord) where
  keep_pulled : (filter : Option ℕ) → AllKeepJobs (filter_gone filter)
  keep_pulled None = tt
  keep_pulled (Some filter) = (tt, tt)

  keep_parents : (source : ℕ) (filter target : Option ℕ) → AllKeepJobs (parents_to source filter target)
  keep_parents source (Some filter) (Some target) = (tt, tt)
  keep_parents source (Some filter) None = tt
  keep_parents source None target = tt

  keep_overlay : (overlay base : Option ℕ) → AllKeepJobs (overlay_to overlay base)
  keep_overlay None base = tt
  keep_overlay (Some overlay) base = (tt, tt)

  keep_moves : (kind : JobKind) (why : JobOutcome) → AllKeepJobs (moves row kind why)
  keep_moves job_kind.Stream outcome.Completed = (tt, tt)
  keep_moves job_kind.Commit outcome.Completed = keep_overlay (slice_get row.read 0) row.target
  keep_moves job_kind.Commit outcome.Pivoted = keep_parents row.source row.filter row.target
  keep_moves job_kind.Mirror outcome.Pivoted = keep_parents row.source row.filter row.target
  keep_moves _ _ = tt

  keep_settled : (so : Bool) (target : Option ℕ) (disk : NewDisk) → AllKeepJobs (settle_if so target disk)
  keep_settled true (Some target) disk = (tt, tt)
  keep_settled true None disk = tt
  keep_settled false target disk = tt

  keep_settles : (kind : JobKind) → AllKeepJobs (settled_by row kind)
  keep_settles job_kind.Backup = keep_settled (settles_target row.bitmap) row.target _
  keep_settles job_kind.Mirror = keep_settled true row.target _
  keep_settles job_kind.Commit = keep_settled true row.target _
  keep_settles job_kind.Stream = tt

  keep_top : (kind : JobKind) (why : JobOutcome) → AllKeepJobs (top_lost row kind why)
  keep_top job_kind.Commit outcome.Pivoted = (tt, tt)
  keep_top _ _ = tt

  keep_read_only : (so : Bool) (node : Option ℕ) → AllKeepJobs (read_only_if so node)
  keep_read_only true (Some id) = (tt, tt)
  keep_read_only true None = tt
  keep_read_only false target = tt

  keep_given : (t : RunTable) (why : JobOutcome) → AllKeepJobs (given_back_to t row why)
  keep_given t outcome.Pivoted = tt
  keep_given t _ =
      keep-append (read_only_if row.made_writable.base row.target)
      (read_only_if row.made_writable.file (option_and_then (λ base. child t base File) row.target))
      (keep_read_only row.made_writable.base row.target)
      (keep_read_only row.made_writable.file (option_and_then (λ base. child t base File) row.target))

  keep_done : (why : JobOutcome) → AllKeepJobs (done_edits row why)
  keep_done outcome.Stopped = tt
  keep_done why =
      keep-append (moves row row.kind why ++ settled_by row row.kind) (top_lost row row.kind why)
      (keep-append (moves row row.kind why) (settled_by row row.kind) (keep_moves row.kind why) (keep_settles row.kind)) (keep_top row.kind why)

  end_fresh : (t : RunTable) (why : JobOutcome) → AllStartFresh t (end_edits t row why)
  unfolding end_edits
  end_fresh t why = (
    tt,
    keep-fresh (filter_gone row.filter ++ done_edits row why ++ given_back_to t row why)
        (changed t (change.EndJob row.number row.slot (drops_aside why row.bitmap)))
        (keep-append (filter_gone row.filter ++ done_edits row why) (given_back_to t row why)
        (keep-append (filter_gone row.filter) (done_edits row why) (keep_pulled row.filter) (keep_done why)) (keep_given t why)),
  )

end_named : (lines : List JobLine) (s : State) (found : Option JobRecord) (why : JobEnd) → StateIsNamed lines s → StateIsNamed lines (ended s found why)
end_named lines s None why h = h
end_named lines s (Some row) why h =
    let now = steps_named lines (changes_at_end s row why) s (end_fresh row s.table (outcome_of why)) h in
    record { jobs = now.jobs; many = now.many }

end_guests : (s : State) (found : Option JobRecord) (why : JobEnd) → (ended s found why).guests ≡ s.guests
end_guests s None why = refl
end_guests s (Some row) why = steps_guests (changes_at_end s row why) s

ready_named : (lines : List JobLine) (s : State) (found : Option JobRecord) → StateIsNamed lines s → StateIsNamed lines (readied_by s found)
ready_named lines s None h = h
ready_named lines s (Some row) h = steps_named lines (change.ReadyJob row.number ∷ []) s (tt, tt) h

ready_guests : (s : State) (found : Option JobRecord) → (readied_by s found).guests ≡ s.guests
ready_guests s None = refl
ready_guests s (Some row) = steps_guests (change.ReadyJob row.number ∷ []) s

-- ---- each entry

-- as many guests as before
pub entry_guests : (s : State) (e : Event) → length (after s e).guests ≡ length s.guests
entry_guests s (Admit g r op) = length-change g (admitted op) s.guests
entry_guests s (Refuse g r op why) = length-change g finished s.guests
entry_guests s (Piece g r k outcome got) =
    length-change g (past_piece outcome) (with_piece (drive_of s.table g) (flight_of s g) k outcome s).guests
    ∙ ap (λ (p : (List Guest × ℕ) × (List JobRecord × ℕ)). length p.0.0) (piece-kept s (drive_of s.table g) (flight_of s g) k outcome)
entry_guests s (Retire g r) = length-change g finished s.guests
entry_guests s (Reply line given command text) = ap length (steps_guests (edits_by s text (command_at given)) s)
entry_guests s (Reached line what) = refl
entry_guests s (Start job) = ap length (start_guests s (job_at s.table job))
entry_guests s (Ready job) = ap length (ready_guests s (job_at s.table job))
entry_guests s (End job outcome offset) = ap length (end_guests s (job_at s.table job) outcome)
entry_guests s (Done actor) = refl

-- the lines of the jobs that have begun by then
abbrev pub lines_after : List JobLine → State → Event → List JobLine
lines_after lines s (Start job) = lines ++ job_line_of s (job_at s.table job) ∷ []
lines_after lines s e = lines

pub entry_named : (lines : List JobLine) (s : State) (e : Event) → Fits s e → StateIsNamed lines s
    → StateIsNamed (lines_after lines s e) (after s e)
entry_named lines s (Admit g r op) fits h = record { jobs = h.jobs; many = h.many }
entry_named lines s (Refuse g r op why) fits h = record { jobs = h.jobs; many = h.many }
entry_named lines s (Piece g r k outcome got) fits h =
    let now =
    like_named lines s (with_piece (drive_of s.table g) (flight_of s g) k outcome s) (piece-kept s (drive_of s.table g) (flight_of s g) k outcome) h in
    record { jobs = now.jobs; many = now.many }
entry_named lines s (Retire g r) fits h = record { jobs = h.jobs; many = h.many }
entry_named lines s (Reply line given command text) fits h =
    steps_named lines (edits_by s text (command_at given)) s (answer_fresh s given command text fits.1.1) h
entry_named lines s (Reached line what) fits h = h
entry_named lines s (Start job) fits h = start_named lines s job (job_at s.table job) refl fits.1 fits.0.0 fits.0.1 h
entry_named lines s (Ready job) fits h = ready_named lines s (job_at s.table job) h
entry_named lines s (End job outcome offset) fits h = end_named lines s (job_at s.table job) outcome h
entry_named lines s (Done actor) fits h = record { jobs = h.jobs; many = h.many }

-- the lines of a history, one entry further
pub lines_on : (lines : List JobLine) (s : State) (e : Event) (es : List Event)
    → lines ++ jobs_from s (e ∷ es) ≡ lines_after lines s e ++ jobs_from (after s e) es
lines_on lines s (Start job) es = sym (append_assoc lines (job_line_of s (job_at s.table job) ∷ []) (jobs_from (after s (Start job)) es))
lines_on lines s (Admit g r op) es = refl
lines_on lines s (Refuse g r op why) es = refl
lines_on lines s (Piece g r k outcome got) es = refl
lines_on lines s (Retire g r) es = refl
lines_on lines s (Reply line given command text) es = refl
lines_on lines s (Reached line what) es = refl
lines_on lines s (Ready job) es = refl
lines_on lines s (End job outcome offset) es = refl
lines_on lines s (Done actor) es = refl
