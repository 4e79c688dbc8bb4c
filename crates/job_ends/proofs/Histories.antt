-- The rows of copies stay behind each entry of a history.
use Rattle.std.proofs.Common.{◌≡◌, ℕ, Bool, true, false, cond, List, [], ◌∷◌, map, refl, sym, subst, Option, Some, None}
use Rattle.blk_base.specs.Pieces.{Extent}
use Rattle.blk_base.specs.declared.fault.Outcome.{Outcome}
use Rattle.blk_history.specs.Disk.{done_in, piece}
use Rattle.blk_history.specs.Machine.{Flight, done_by}
use Rattle.blk_history.specs.declared.entry.JobEnd.{JobEnd}
use Rattle.blk_history.specs.declared.event.Event.{Event}
use Rattle.blk_history.specs.declared.event.Event.TheVariants.{Admit, Refuse, Piece, Retire, Reply, Reached, Start, Ready, End, Done}
use Rattle.qmp_rules.specs.Chains.{disk_node, written_under}
use Rattle.qmp_rules.specs.Ends.{ready_edits}
use Rattle.qmp_rules.specs.Table.{RunTable, job_at}
use Rattle.qmp_rules.specs.declared.rows.JobRecord.{JobRecord}
use Rattle.trace_codec.specs.declared.op.Op.{Op}
use Rattle.trace_codec.specs.declared.op.Op.TheVariants.{Read, Write, Zero, Flush, Discard}
use Rattle.flat_machine.specs.Jobs.{changes_at_end, ended, outcome_of, readied_by, unsure}
use Rattle.flat_machine.specs.Machine.{after, copies_through, flight_of, is_noted, node_written, note, noted, path, read_through, replay, with_disk, with_part, with_piece}
use Rattle.flat_machine.specs.Opening.{start}
use Rattle.flat_machine.specs.State.{State, drive_of}
use Rattle.flat_machine.specs.declared.opening.Opening.{Opening}
use Rattle.flat_machine.proofs.Resting.{stepped_table}
use Rattle.job_entries.proofs.Noted.{started_table}
use Rattle.job_ends.specs.Rows.{AreCopyRows}
use Rattle.job_ends.proofs.Commands.{replied_rows}
use Rattle.job_ends.proofs.Rows.{changes_rows, end_rows, no_rows}

-- ---- pieces leave jobs

note_jobs : (outcome : Outcome) (part : Extent) (drive : ℕ) (s : State) → (note outcome part drive s).table.jobs ≡ s.table.jobs
note_jobs outcome part drive s = by_flag (is_noted outcome)
  where
    by_flag : (b : Bool) → (cond b (record s { dirty = noted s.table part s.dirty (path s.table drive) }) s).table.jobs ≡ s.table.jobs
    by_flag true = refl
    by_flag false = refl

read_jobs : (drive : ℕ) (s : State) → (read_through drive s).table.jobs ≡ s.table.jobs
read_jobs drive s = by_flag (copies_through s.table drive)
  where
    by_flag : (b : Bool) → (cond b (record s { images = map (unsure (disk_node s.table drive ∷ [])) s.images }) s).table.jobs ≡ s.table.jobs
    by_flag true = refl
    by_flag false = refl

part_jobs : (drive : ℕ) (op : Op) (outcome : Outcome) (part : Extent) (s : State) → (with_part drive op outcome part s).table.jobs ≡ s.table.jobs
unfolding written_under
part_jobs drive (Read span) outcome part s = read_jobs drive (with_disk (disk_node s.table drive) (done_in (Read span) part (done_by outcome part)) s)
part_jobs drive (Write span payload) outcome part s =
    note_jobs outcome part drive
    (node_written (disk_node s.table drive) (with_disk (disk_node s.table drive) (done_in (Write span payload) part (done_by outcome part)) s))
part_jobs drive (Zero span) outcome part s =
    note_jobs outcome part drive (node_written (disk_node s.table drive) (with_disk (disk_node s.table drive) (done_in (Zero span) part (done_by outcome part)) s))
part_jobs drive Flush outcome part s = refl
part_jobs drive (Discard span) outcome part s = refl

piece_jobs : (drive : Option ℕ) (flight : Option Flight) (k : ℕ) (outcome : Outcome) (s : State)
    → (with_piece drive flight k outcome s).table.jobs ≡ s.table.jobs
piece_jobs (Some drive) (Some f) k outcome s = part_jobs drive f.op outcome (piece f.op k) s
piece_jobs (Some drive) None k outcome s = refl
piece_jobs None flight k outcome s = refl

-- ---- entries

readied_rows : (s : State) (found : Option JobRecord) → AreCopyRows s.table.jobs → AreCopyRows (readied_by s found).table.jobs
readied_rows s None rows = rows
readied_rows s (Some row) rows =
    subst (λ (t : RunTable). AreCopyRows t.jobs) (sym (stepped_table (ready_edits row) s)) (changes_rows (ready_edits row) s.table (tt, tt) rows)

ended_rows : (s : State) (found : Option JobRecord) (why : JobEnd) → AreCopyRows s.table.jobs → AreCopyRows (ended s found why).table.jobs
ended_rows s None why rows = rows
ended_rows s (Some row) why rows =
    subst (λ (t : RunTable). AreCopyRows t.jobs) (sym (stepped_table (changes_at_end s row why) s)) (end_rows row s.table (outcome_of why) rows)

pub entry_rows : (s : State) (e : Event) → AreCopyRows s.table.jobs → AreCopyRows (after s e).table.jobs
entry_rows s (Admit g r op) rows = rows
entry_rows s (Refuse g r op why) rows = rows
entry_rows s (Piece g r k outcome got) rows = subst AreCopyRows (sym (piece_jobs (drive_of s.table g) (flight_of s g) k outcome s)) rows
entry_rows s (Retire g r) rows = rows
entry_rows s (Reply line given command text) rows = replied_rows s given text rows
entry_rows s (Reached line what) rows = rows
entry_rows s (Start job) rows = subst (λ (t : RunTable). AreCopyRows t.jobs) (sym (started_table s (job_at s.table job))) rows
entry_rows s (Ready job) rows = readied_rows s (job_at s.table job) rows
entry_rows s (End job outcome offset) rows = ended_rows s (job_at s.table job) outcome rows
entry_rows s (Done actor) rows = rows

replay_rows : (h : List Event) (s : State) → AreCopyRows s.table.jobs → AreCopyRows (replay s h).table.jobs
replay_rows [] s rows = rows
replay_rows (e ∷ h) s rows = replay_rows h (after s e) (entry_rows s e rows)

pub history_rows : (o : Opening) (h : List Event) → AreCopyRows (replay (start o) h).table.jobs
history_rows o h = replay_rows h (start o) no_rows
