-- Legal histories from an opening in which no job begins leave states that stand.
use Rattle.std.proofs.Common.{◌≡◌, ℕ, Bool, true, false, List, [], ◌∷◌, ◌++◌, refl, sym, ap, subst, ◌∙◌, arith, Option, Some, None, Result, Ok, Err}
use Rattle.std.specs.Prelude.{◌==◌, if◌then◌else◌, map, All, IsSome}
use Rattle.std.proofs.lemmas.List.Elements.{All-head, All-tail}
use Rattle.std.specs.List.{find}
use Rattle.blk_base.specs.Pieces.{Extent}
use Rattle.blk_base.specs.declared.fault.Outcome.{Outcome}
use Rattle.trace_codec.specs.declared.op.Op.{Op}
use Rattle.trace_codec.specs.declared.op.Op.TheVariants.{Read, Write, Zero, Flush, Discard}
use Rattle.serde_json.specs.Written.{compact_text}
use Rattle.qmp_codec.specs.Commands.{Cmd, SeenSources}
use Rattle.qmp_codec.specs.Lines.{Stop, command_at, id_at}
use Rattle.qmp_codec.specs.declared.command.Command.TheVariants as command
use Rattle.qmp_codec.specs.declared.nodes.FileRef.{FileRef}
use Rattle.qmp_codec.specs.declared.nodes.FileRef.TheVariants as file_ref
use Rattle.qmp_codec.specs.declared.nodes.AddRaw.{AddRaw}
use Rattle.qmp_codec.specs.declared.nodes.Added.{Added}
use Rattle.qmp_codec.specs.declared.nodes.Added.TheVariants as added
use Rattle.qmp_codec.specs.declared.nodes.Created.{Created}
use Rattle.qmp_codec.specs.declared.nodes.Created.TheVariants as created
use Rattle.qmp_codec.specs.declared.nodes.DeviceAdd.{DeviceAdd}
use Rattle.qmp_rules.specs.declared.change.Change.{Change}
use Rattle.qmp_rules.specs.declared.change.Change.TheVariants as change
use Rattle.qmp_rules.specs.declared.refusal.Refusal.{Refusal}
use Rattle.qmp_rules.specs.declared.rows.NodeRecord.{NodeRecord}
use Rattle.qmp_rules.specs.declared.rows.AskedEnd.{AskedEnd}
use Rattle.qmp_rules.specs.declared.rows.AskedEnd.TheVariants as asked
use Rattle.qmp_rules.specs.declared.rows.DeviceRow.{DeviceRow}
use Rattle.qmp_rules.specs.declared.rows.JobRecord.{JobRecord}
use Rattle.qmp_rules.specs.declared.told.Told.{Told}
use Rattle.qmp_rules.specs.Table.{RunTable, device_named, job_named, node_named, job_at}
use Rattle.qmp_rules.specs.Chains.{disk_node, written_under}
use Rattle.qmp_rules.specs.Changes.{asked_for, changed, all_changed}
use Rattle.qmp_rules.specs.Refusals.{refusal_text, refusal_class}
use Rattle.qmp_asks.specs.NodeAsks.{is_read_only, backing_name}
use Rattle.qmp_asks.specs.Values.{flag_or_false}
use Rattle.qmp_rules.specs.Edits.{edits_of, file_uses, file_under, with_inline, goes_with_node, row_gone, of_row, created_change, spoiled, raw_edits, qcow2_edits, added_edits, new_device, device_uses, merges, asked_by_cancel}
use Rattle.qmp_rules.specs.Asks.{is_file}
use Rattle.qmp_rules.specs.Answers.{unbuilt, refusal_to, command_edits, answer, answer_by, answer_for, line_answer, line_text, answer_data}
use Rattle.blk_history.specs.Fold.{With}
use Rattle.blk_history.specs.Disk.{piece, done_in}
use Rattle.blk_history.specs.Machine.{Flight, done_by}
use Rattle.blk_history.specs.declared.event.Event.{Event}
use Rattle.blk_history.specs.declared.event.Event.TheVariants.{Admit, Refuse, Piece, Retire, Reply, Reached, Start, Ready, End, Done}
use Rattle.flat_machine.specs.State.{State, drive_of}
use Rattle.flat_machine.specs.Machine.{after, replay, with_part, with_piece, with_disk, node_written, flight_of, path, note, noted, is_noted, read_through, copies_through}
use Rattle.flat_machine.specs.Sights.{expected}
use Rattle.flat_machine.specs.Replies.{begins_job, command_read, edits_by, failed_edits, is_accepted, tells_failure, IsAnswer}
use Rattle.flat_machine.specs.Jobs.{unsure, can_be_ready}
use Rattle.flat_machine.specs.Legal.{CanEnd, Fits, Legal}
use Rattle.flat_machine.specs.Entries.{BeginsNoJob}
use Rattle.flat_machine.specs.Opening.{start}
use Rattle.flat_machine.specs.Standing.{StandsAtRest}
use Rattle.flat_machine.specs.declared.opening.Opening.{Opening}
use Rattle.flat_machine.proofs.Asked.{none-both}
use Rattle.flat_machine.proofs.Openings.{start_rests}
use Rattle.flat_machine.proofs.ReadBack.{not_accepted}
use Rattle.flat_machine.proofs.Resting.{stepped_table, answer_rests, beside_rests, piece_rests}

-- ---- changes that begin no job

pub record NoJobs (t : RunTable) : Type 0 where
  pub jobs : t.jobs ≡ []
  pub started : t.started ≡ 0

abbrev IsPlain : Change → Type 0
IsPlain (change.StartJob row) = ⊥
IsPlain (change.ReadyJob number) = ⊥
IsPlain (change.EndJob number slot drops) = ⊥
IsPlain c = Unit {0}

abbrev ArePlain : List Change → Type 0
ArePlain [] = Unit {0}
ArePlain (c ∷ changes) = IsPlain c × ArePlain changes

plain_append : (xs ys : List Change) → ArePlain xs → ArePlain ys → ArePlain (xs ++ ys)
plain_append [] ys h k = k
plain_append (c ∷ xs) ys h k = (h.0, plain_append xs ys h.1 k)

plain_keeps : (t : RunTable) (c : Change) → IsPlain c → NoJobs t → NoJobs (changed t c)
unfolding changed
plain_keeps t (change.StartJob row) plain h = absurd plain
plain_keeps t (change.AskJob number new) plain h = record { jobs = ap (map (asked_for number new)) h.jobs; started = h.started }
plain_keeps t (change.ReadyJob number) plain h = absurd plain
plain_keeps t (change.EndJob number slot drops) plain h = absurd plain
plain_keeps t (change.PullFilter filter) plain h = record { jobs = h.jobs; started = h.started }
plain_keeps t (change.Rebase node backing) plain h = record { jobs = h.jobs; started = h.started }
plain_keeps t (change.Settle node disk) plain h = record { jobs = h.jobs; started = h.started }
plain_keeps t (change.MakeReadOnly id) plain h = record { jobs = h.jobs; started = h.started }
plain_keeps t change.Negotiate plain h = record { jobs = h.jobs; started = h.started }
plain_keeps t (change.KeepId id) plain h = record { jobs = h.jobs; started = h.started }
plain_keeps t (change.DropId id) plain h = record { jobs = h.jobs; started = h.started }
plain_keeps t (change.MakeFile name size) plain h = record { jobs = h.jobs; started = h.started }
plain_keeps t (change.FormatFile node name size backing_file backing_fmt) plain h = record { jobs = h.jobs; started = h.started }
plain_keeps t (change.SpoilFile name) plain h = record { jobs = h.jobs; started = h.started }
plain_keeps t (change.UseFile name) plain h = record { jobs = h.jobs; started = h.started }
plain_keeps t (change.AddFile row) plain h = record { jobs = h.jobs; started = h.started }
plain_keeps t (change.AddFormat row file backing) plain h = record { jobs = h.jobs; started = h.started }
plain_keeps t (change.AddFilter row child) plain h = record { jobs = h.jobs; started = h.started }
plain_keeps t (change.RemoveNode node) plain h = record { jobs = h.jobs; started = h.started }
plain_keeps t (change.Unsettle id) plain h = record { jobs = h.jobs; started = h.started }
plain_keeps t (change.MakeWritable id) plain h = record { jobs = h.jobs; started = h.started }
plain_keeps t (change.PutFilter row node) plain h = record { jobs = h.jobs; started = h.started }
plain_keeps t (change.UseNode slot what node) plain h = record { jobs = h.jobs; started = h.started }
plain_keeps t (change.AddDevice device node) plain h = record { jobs = h.jobs; started = h.started }
plain_keeps t (change.RemoveDevice number) plain h = record { jobs = h.jobs; started = h.started }
plain_keeps t (change.Attach overlay node) plain h = record { jobs = h.jobs; started = h.started }
plain_keeps t (change.Move from to but) plain h = record { jobs = h.jobs; started = h.started }
plain_keeps t (change.AddBitmap row) plain h = record { jobs = h.jobs; started = h.started }
plain_keeps t (change.RemoveBitmap node name) plain h = record { jobs = h.jobs; started = h.started }
plain_keeps t (change.TurnBitmap node name on) plain h = record { jobs = h.jobs; started = h.started }
plain_keeps t (change.ClearBitmap node name) plain h = h
plain_keeps t (change.MergeBitmap node name source_node source) plain h = h

all_plain : (changes : List Change) (t : RunTable) → ArePlain changes → NoJobs t → NoJobs (all_changed t changes)
all_plain [] t plain h = h
all_plain (c ∷ changes) t plain h = all_plain changes (changed t c) plain.1 (plain_keeps t c plain.0 h)

-- ---- those of commands that are carried out

plain_uses : (name : Option (List ℕ)) → ArePlain (file_uses name)
plain_uses None = tt
plain_uses (Some name) = (tt, tt)

plain_created : (t : RunTable) (options : Created (List ℕ)) → ArePlain (created_change t options)
plain_created t (created.File c) = (tt, tt)
plain_created t (created.Qcow2 c) = (tt, tt)
plain_created t created.Unknown = tt

plain_spoiled : (t : RunTable) (options : Created (List ℕ)) → ArePlain (spoiled t options)
plain_spoiled t (created.File c) = (tt, tt)
plain_spoiled t (created.Qcow2 c) = (tt, tt)
plain_spoiled t created.Unknown = tt

plain_inline : (t : RunTable) (id : ℕ) → ArePlain (with_inline t id)
plain_inline t id = by_row (find (goes_with_node id) t.nodes)
  where
    by_row : (found : Option NodeRecord) → ArePlain (elim found as (λ _. List Change) [ None ↦ [] | Some row ↦ change.RemoveNode row.id ∷ [] ])
    by_row None = tt
    by_row (Some row) = (tt, tt)

plain_del : (t : RunTable) (found : Option NodeRecord) → ArePlain (of_row (row_gone t) found)
plain_del t None = tt
plain_del t (Some row) =
    plain_append (file_uses (file_under t row)) (change.RemoveNode row.id ∷ with_inline t row.id) (plain_uses (file_under t row))
    (tt, plain_inline t row.id)

plain_device_uses : (row : NodeRecord) (b : Bool) → ArePlain (if b then file_uses row.filename else [])
plain_device_uses row true = plain_uses row.filename
plain_device_uses row false = tt

plain_device : (t : RunTable) (c : DeviceAdd (List ℕ)) (found : Option NodeRecord)
    → ArePlain (of_row (λ row. device_uses row ++ change.AddDevice (new_device t c row) row.id ∷ []) found)
plain_device t c None = tt
plain_device t c (Some row) = plain_append (device_uses row) (change.AddDevice (new_device t c row) row.id ∷ [])
    (plain_device_uses row (is_file row)) (tt, tt)

plain_gone : (found : Option DeviceRow) → ArePlain (elim found as (λ _. List Change) [ None ↦ [] | Some device ↦ change.RemoveDevice device.number ∷ [] ])
plain_gone None = tt
plain_gone (Some device) = (tt, tt)

plain_raw : (t : RunTable) (exp : Told) (name : List ℕ) (read_only : Bool) (raw : AddRaw (List ℕ)) (file : FileRef (List ℕ))
    → ArePlain (raw_edits t exp name read_only raw file)
plain_raw t exp name read_only raw (file_ref.Name file) = (tt, tt)
plain_raw t exp name read_only raw (file_ref.Inline file) = (tt, (tt, tt))

plain_qcow2 : (t : RunTable) (exp : Told) (name : List ℕ) (read_only : Bool) (back : Option (List ℕ)) (file : FileRef (List ℕ))
    → ArePlain (qcow2_edits t exp name read_only back file)
plain_qcow2 t exp name read_only back (file_ref.Name file) = (tt, tt)
plain_qcow2 t exp name read_only back (file_ref.Inline file) = (tt, (tt, tt))

plain_added : (t : RunTable) (exp : Told) (name : List ℕ) (read_only : Bool) (driver : Added (List ℕ))
    → ArePlain (added_edits t exp name read_only driver)
plain_added t exp name read_only (added.File filename) = (tt, tt)
plain_added t exp name read_only (added.Raw raw) = plain_raw t exp name read_only raw raw.file
plain_added t exp name read_only (added.Qcow2 image) = plain_qcow2 t exp name read_only (backing_name image.backing) image.file
plain_added t exp name read_only (added.CopyOnRead file) = (tt, tt)
plain_added t exp name read_only added.Unknown = tt

plain_asked : (ask : JobRecord → AskedEnd) (found : Option JobRecord)
    → ArePlain (elim found as (λ _. List Change) [ None ↦ [] | Some job ↦ change.AskJob job.number (ask job) ∷ [] ])
plain_asked ask None = tt
plain_asked ask (Some job) = (tt, tt)

plain_merges : (t : RunTable) (node target : List ℕ) (sources : SeenSources) → ArePlain (merges t node target sources)
plain_merges t node target [] = tt
plain_merges t node target (source ∷ sources) = (tt, plain_merges t node target sources)

plain_command : (t : RunTable) (exp : Told) (c : Cmd) → begins_job c ≡ false → unbuilt c ≡ None → ArePlain (command_edits t exp c)
unfolding edits_of
plain_command t exp (command.Capabilities enable) begins is = (tt, tt)
plain_command t exp (command.BlockdevCreate c) begins is = (tt, plain_created t c.options)
plain_command t exp (command.JobDismiss id) begins is = (tt, tt)
plain_command t exp (command.BlockdevAdd c) begins is = plain_added t exp c.node_name (is_read_only c.options) c.driver
plain_command t exp (command.BlockdevDel name) begins is = plain_del t (node_named t name)
plain_command t exp (command.DeviceAdd c) begins is = plain_device t c (node_named t c.drive)
plain_command t exp (command.BlockdevSnapshot c) begins is = (tt, (tt, tt))
plain_command t exp (command.DeviceDel id) begins is = plain_gone (device_named t id)
plain_command t exp (command.BlockJobCancel job force) begins is = plain_asked (asked_by_cancel (flag_or_false force)) (job_named t job)
plain_command t exp (command.BlockJobComplete job) begins is = plain_asked (λ row. asked.Complete) (job_named t job)
plain_command t exp command.QueryBlockJobs begins is = tt
plain_command t exp (command.QueryNamedBlockNodes flat) begins is = tt
plain_command t exp (command.BitmapAdd c) begins is = (tt, tt)
plain_command t exp (command.BitmapRemove c) begins is = (tt, tt)
plain_command t exp (command.BitmapClear c) begins is = (tt, tt)
plain_command t exp (command.BitmapEnable c) begins is = (tt, tt)
plain_command t exp (command.BitmapDisable c) begins is = (tt, tt)
plain_command t exp (command.BitmapMerge c) begins is = plain_merges t c.node c.target c.bitmaps
plain_command t exp _ begins is = absurd cc

plain_failed : (t : RunTable) (c : Cmd) → ArePlain (failed_edits t c)
plain_failed t (command.BlockdevCreate c) = plain_spoiled t c.options
plain_failed t c = tt

-- ---- replies

-- a line's command begins no job
by_reading : (line : ℕ) (given : List ℕ) (command : Option Cmd) (text : List ℕ) (c : Result Cmd Stop) → command ≡ command_read c
    → BeginsNoJob (Reply line given command text) → (d : Cmd) → c ≡ Ok d → begins_job d ≡ false
by_reading line given None text c is none d read = absurd (let bad : None ≡ Some d = is ∙ ap command_read read in cc)
by_reading line given (Some x) text c is none d read =
    let both : Some x ≡ Some d = is ∙ ap command_read read in
    let same : x ≡ d = cc in
    subst (λ (y : Cmd). begins_job y ≡ false) same none

plain_answer : (s : State) (given : List ℕ) (command : Option Cmd) (text : List ℕ) → IsAnswer s given command text
    → ((c : Cmd) → command_at given ≡ Ok c → begins_job c ≡ false) → ArePlain (edits_by s text (command_at given))
unfolding line_text line_answer answer refusal_to
plain_answer s given command text a none = by_line (command_at given) none a.answered
  where
    by_flags : (c : Cmd) (b : Bool) → begins_job c ≡ false → (b ≡ true → unbuilt c ≡ None) → (failed : Bool)
        → ArePlain (if b then command_edits s.table (expected s c) c else if failed then failed_edits s.table c else [])
    by_flags c true begins built failed = plain_command s.table (expected s c) c begins (built refl)
    by_flags c false begins built true = plain_failed s.table c
    by_flags c false begins built false = tt

    built : (c : Cmd) (cause : Option Refusal) → refusal_to s.table a.told c ≡ cause
        → text ≡ compact_text (answer_data (id_at given) (answer_by s.table a.told c cause).reply) → is_accepted text ≡ true → unbuilt c ≡ None
    built c None quiet is accepted = (none-both (unbuilt c) _ quiet).0
    built c (Some cause) quiet is accepted =
        let no = not_accepted given (refusal_class cause) (refusal_text cause) in
        let yes = subst (λ t. is_accepted t ≡ true) is accepted in
        absurd cc

    by_line : (c : Result Cmd Stop) → ((d : Cmd) → c ≡ Ok d → begins_job d ≡ false)
        → text ≡ compact_text (answer_data (id_at given) (answer_for s.table a.told given c).reply) → ArePlain (edits_by s text c)
    by_line (Err why) none is = tt
    by_line (Ok c) none is = by_flags c (is_accepted text) (none c refl) (built c (refusal_to s.table a.told c) refl is) (tells_failure text)

-- ---- pieces

plain_written : (t : RunTable) (node : ℕ) → NoJobs t → NoJobs (written_under node t)
unfolding written_under
plain_written t node h = record { jobs = h.jobs; started = h.started }

plain_note : (s : State) (outcome : Outcome) (part : Extent) (drive : ℕ) → NoJobs s.table → NoJobs (note outcome part drive s).table
plain_note s outcome part drive h = by_flag (is_noted outcome)
  where
    by_flag : (b : Bool) → NoJobs (if b then record s { dirty = noted s.table part s.dirty (path s.table drive) } else s).table
    by_flag true = h
    by_flag false = h

plain_read : (s : State) (drive : ℕ) → NoJobs s.table → NoJobs (read_through drive s).table
plain_read s drive h = by_flag (copies_through s.table drive)
  where
    by_flag : (b : Bool) → NoJobs (if b then record s { images = map (unsure (disk_node s.table drive ∷ [])) s.images } else s).table
    by_flag true = h
    by_flag false = h

plain_piece : (s : State) (drive : ℕ) (op : Op) (outcome : Outcome) (part : Extent) → NoJobs s.table
    → NoJobs (with_part drive op outcome part s).table
plain_piece s drive (Read span) outcome part h =
    plain_read (with_disk (disk_node s.table drive) (done_in (Read span) part (done_by outcome part)) s) drive h
plain_piece s drive (Write span payload) outcome part h =
    plain_note (node_written (disk_node s.table drive) (with_disk (disk_node s.table drive) (done_in (Write span payload) part (done_by outcome part)) s))
    outcome part drive (plain_written s.table (disk_node s.table drive) h)
plain_piece s drive (Zero span) outcome part h =
    plain_note (node_written (disk_node s.table drive) (with_disk (disk_node s.table drive) (done_in (Zero span) part (done_by outcome part)) s))
    outcome part drive (plain_written s.table (disk_node s.table drive) h)
plain_piece s drive Flush outcome part h = h
plain_piece s drive (Discard span) outcome part h = h

-- ---- each entry

pub record Runs (s : State) : Type 0 where
  pub rests : StandsAtRest s
  pub none : NoJobs s.table

beside_runs : (s now : State) → now.table ≡ s.table → now.disks ≡ s.disks → now.files ≡ s.files → now.left ≡ s.left → now.named ≡ s.named
    → Runs s → Runs now
beside_runs s now table disks files left named h = record {
  rests = beside_rests s now table files left named (λ n some. subst (λ ds. IsSome (find (λ d. d.node == n) ds)) (sym disks) some) h.rests;
  none = subst NoJobs (sym table) h.none;
}

no_job_at : (t : RunTable) → NoJobs t → (job : ℕ) → job_at t job ≡ None
no_job_at t h job = ap (find (λ row. row.number == job)) h.jobs

piece_runs : (s : State) (drive : Option ℕ) (flight : Option Flight) (k : ℕ) (outcome : Outcome) → Runs s → Runs (with_piece drive flight k outcome s)
piece_runs s (Some drive) (Some f) k outcome h = record {
  rests = piece_rests s drive f.op outcome (piece f.op k) h.rests;
  none = plain_piece s drive f.op outcome (piece f.op k) h.none;
}
piece_runs s (Some drive) None k outcome h = h
piece_runs s None flight k outcome h = h

pub entry_runs : (s : State) (e : Event) → BeginsNoJob e → Fits s e → Runs s → Runs (after s e)
entry_runs s (Admit g r op) none fits h = beside_runs s (after s (Admit g r op)) refl refl refl refl refl h
entry_runs s (Refuse g r op why) none fits h = beside_runs s (after s (Refuse g r op why)) refl refl refl refl refl h
entry_runs s (Piece g r k outcome got) none fits h =
    beside_runs (with_piece (drive_of s.table g) (flight_of s g) k outcome s) (after s (Piece g r k outcome got)) refl refl refl refl refl
    (piece_runs s (drive_of s.table g) (flight_of s g) k outcome h)
entry_runs s (Retire g r) none fits h = beside_runs s (after s (Retire g r)) refl refl refl refl refl h
entry_runs s (Reply line given command text) none fits h = record {
  rests = answer_rests s given command text h.rests fits.1.1 (λ c read begins quiet. let none = begins_none c read in absurd cc);
  none = subst NoJobs (sym (stepped_table (edits_by s text (command_at given)) s))
      (all_plain (edits_by s text (command_at given)) s.table (plain_answer s given command text fits.1.1 begins_none) h.none);
}
  where
    begins_none : (c : Cmd) → command_at given ≡ Ok c → begins_job c ≡ false
    begins_none = by_reading line given command text (command_at given) fits.1.1.understood none
entry_runs s (Reached line what) none fits h = h
entry_runs s (Start job) none fits h = absurd (let few = fits.0.1 in let none = h.none.started in omega arith)
entry_runs s (Ready job) none fits h = absurd (subst (λ row. With row (λ r. (can_be_ready r r.kind ≡ true) × (r.is_ready ≡ false))) (no_job_at s.table h.none job) fits.1)
entry_runs s (End job outcome offset) none fits h = absurd (subst (λ row. With row (CanEnd s outcome offset)) (no_job_at s.table h.none job) fits.1)
entry_runs s (Done actor) none fits h = beside_runs s (after s (Done actor)) refl refl refl refl refl h

all_run : (h : List Event) (s : State) → All BeginsNoJob h → Legal s h → Runs s → Runs (replay s h)
all_run [] s none legal runs = runs
all_run (e ∷ es) s none legal runs =
    all_run es (after s e) (All-tail BeginsNoJob e es none) legal.1 (entry_runs s e (All-head BeginsNoJob e es none) legal.0 runs)

pub start_runs : (o : Opening) → Runs (start o)
start_runs o = record { rests = start_rests o; none = record { jobs = refl; started = refl } }

pub history_rests : (o : Opening) (h : List Event) → All BeginsNoJob h → Legal (start o) h → StandsAtRest (replay (start o) h)
history_rests o h none legal = (all_run h (start o) none legal (start_runs o)).rests
