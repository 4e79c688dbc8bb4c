-- What starts found stands by the rows of jobs, behind each entry.
use Rattle.std.proofs.Common.{◌≡◌, ◌≢◌, ◌⊎◌, ℕ, ◌+◌, ◌<◌, ◌≤◌, Bool, true, false, cond, List, [], ◌∷◌, ◌++◌, map, length, refl, sym, ◌∙◌, ap, subst, arith, inl, inr, Option, Some, None}
use Rattle.std.specs.Prelude.{◌==◌, not, slice_get, option_and_then}
use Rattle.std.specs.List.{find, filter, Contains}
use Rattle.std.proofs.lemmas.Bool.{eqb-true, eq-eqb, ne_eqb, cases_eq}
use Rattle.blk_base.specs.Pieces.{Extent}
use Rattle.blk_base.specs.declared.fault.Outcome.{Outcome}
use Rattle.blk_graph.specs.declared.edge.Role.TheVariants.{File}
use Rattle.blk_graph.specs.declared.kind.Kind.{Kind}
use Rattle.blk_graph.specs.declared.kind.Kind.TheVariants as driver
use Rattle.blk_graph.proofs.Members.{Contains-nil, Contains-filter}
use Rattle.trace_codec.specs.declared.op.Op.{Op}
use Rattle.trace_codec.specs.declared.op.Op.TheVariants.{Read, Write, Zero, Flush, Discard}
use Rattle.qmp_codec.specs.declared.event.JobKind.{JobKind}
use Rattle.qmp_codec.specs.declared.event.JobKind.TheVariants.{Stream, Commit, Mirror, Backup}
use Rattle.qmp_rules.specs.declared.change.Change.{Change}
use Rattle.qmp_rules.specs.declared.change.Change.TheVariants as change
use Rattle.qmp_rules.specs.declared.change.NewDisk.{NewDisk}
use Rattle.qmp_rules.specs.declared.change.NewDisk.TheVariants.{OfNode, OfStart}
use Rattle.qmp_rules.specs.declared.change.JobOutcome.{JobOutcome}
use Rattle.qmp_rules.specs.declared.change.JobOutcome.TheVariants.{Completed, Pivoted, Copied, Stopped}
use Rattle.qmp_rules.specs.declared.rows.NodeRecord.{NodeRecord}
use Rattle.qmp_rules.specs.declared.rows.JobRecord.{JobRecord}
use Rattle.qmp_rules.specs.Changes.{changed, all_changed}
use Rattle.qmp_rules.specs.Chains.{disk_node, is_over, unsettled_over, written_under}
use Rattle.qmp_rules.specs.Ends.{drops_aside, filter_gone, parents_to, overlay_to, moves, settles_target, settle_if, settled_by, top_lost, read_only_if, given_back_to, done_edits, end_edits}
use Rattle.qmp_rules.specs.Asks.{name_of_file}
use Rattle.qmp_rules.specs.Edits.{start_edits}
use Rattle.qmp_rules.specs.Queries.{bytes_of_node}
use Rattle.qmp_rules.specs.Table.{RunTable, child, job_at}
use Rattle.blk_history.specs.Disk.{piece, done_in}
use Rattle.blk_history.specs.Machine.{Flight, done_by}
use Rattle.blk_history.specs.declared.entry.JobEnd.{JobEnd}
use Rattle.blk_history.specs.declared.event.Event.{Event}
use Rattle.blk_history.specs.declared.event.Event.TheVariants.{Admit, Refuse, Piece, Retire, Reply, Reached, Start, Ready, End, Done}
use Rattle.flat_machine.specs.State.{State, Begun, Left, Mapped, Content, Unknown, content_in, filename_of, drive_of}
use Rattle.flat_machine.specs.Begun.{begun_of}
use Rattle.flat_machine.specs.Contents.{file_bytes}
use Rattle.flat_machine.specs.Changed.{put, name_file, name_if, add_file, know_if, note_image, leave, overlay_file, stepped, all_stepped}
use Rattle.flat_machine.specs.Jobs.{outcome_of, changes_at_end, noted_end, writes_target, target_bytes, begin, unsure, unleft, noted_start, started, readied, readied_by}
use Rattle.flat_machine.specs.Legal.{IsAtRest}
use Rattle.flat_machine.specs.Machine.{after, with_part, with_piece, with_disk, node_written, flight_of, path, note, noted, is_noted, read_through, copies_through}
use Rattle.flat_machine.specs.Opening.{start}
use Rattle.flat_machine.specs.Suiting.{AllTableSuit}
use Rattle.flat_machine.specs.Wiring.{TableStands}
use Rattle.flat_machine.specs.declared.opening.Opening.{Opening}
use Rattle.flat_machine.proofs.Finds.{find-filter}
use Rattle.flat_machine.proofs.Fresh.{found-longer, found-new}
use Rattle.flat_machine.proofs.ImagesKept.{find_before}
use Rattle.flat_machine.proofs.Resting.{stepped_table}
use Rattle.job_tables.specs.Changes.{AllLeaveJobs}
use Rattle.job_tables.specs.Jobs.{JobsStand}
use Rattle.job_tables.specs.Starts.{JobBegins}
use Rattle.job_tables.proofs.Changes.{plain_no_filter}
use Rattle.job_tables.proofs.RowEdges.{in_left, holds_source}
use Rattle.job_entries.specs.Found.{HasBegun, HaveBegun, FindsWhole, leaves_jobs}
use Rattle.job_entries.proofs.Sources.{WasJob, KeepSources, KeepsSize, mapped_sizes, same_sources, still_sources, readied_sources, ended_sources, SparesSources, AllSpare, changes_spare, spare-append, all_leaving_spare}
use Rattle.job_entries.proofs.Starting.{start_spares}

-- ---- what is noted of starts stays

pub record NotesSame (s now : State) : Type 0 where
  pub begun : now.begun ≡ s.begun
  pub starts : now.starts ≡ s.starts

notes_self : (s : State) → NotesSame s s
notes_self s = record { begun = refl; starts = refl }

notes_then : (a b c : State) → NotesSame a b → NotesSame b c → NotesSame a c
notes_then a b c ab bc = record { begun = bc.begun ∙ ab.begun; starts = bc.starts ∙ ab.starts }

name_notes : (name : Option (List ℕ)) (s : State) → NotesSame s (name_if name s)
name_notes None s = notes_self s
name_notes (Some name) s = record { begun = refl; starts = refl }

file_notes : (row : NodeRecord) (s : State) → NotesSame s (add_file row s)
file_notes row s = by_flag row.read_only
  where
    with_disk : State
    with_disk = put row.id (file_bytes row.size (content_in s.files (name_of_file row))) s

    by_flag : (b : Bool) → NotesSame s (cond b with_disk (name_file (name_of_file row) with_disk))
    by_flag true = record { begun = refl; starts = refl }
    by_flag false = record { begun = refl; starts = refl }

image_notes : (k : Kind) (node : ℕ) (mapped : Mapped) (s : State) → NotesSame s (note_image k node mapped s)
image_notes driver.Qcow2 node mapped s = record { begun = refl; starts = refl }
image_notes driver.Protocol node mapped s = notes_self s
image_notes driver.Raw node mapped s = notes_self s
image_notes driver.CopyOnRead node mapped s = notes_self s
image_notes driver.BeforeWrite node mapped s = notes_self s
image_notes driver.Mirror node mapped s = notes_self s
image_notes driver.Commit node mapped s = notes_self s

know_notes : (name : Option (List ℕ)) (content : Content) (s : State) → NotesSame s (know_if name content s)
know_notes None content s = notes_self s
know_notes (Some name) content s = record { begun = refl; starts = refl }

leave_notes : (left : Option Left) (s : State) → NotesSame s (leave left s)
leave_notes None s = notes_self s
leave_notes (Some left) s = record { begun = refl; starts = refl }

step_notes : (s : State) (c : Change) → NotesSame s (stepped s c)
step_notes s change.Negotiate = record { begun = refl; starts = refl }
step_notes s (change.KeepId id) = record { begun = refl; starts = refl }
step_notes s (change.DropId id) = record { begun = refl; starts = refl }
step_notes s (change.MakeFile name size) = record { begun = refl; starts = refl }
step_notes s (change.FormatFile node name size backing_file backing_fmt) = record { begun = refl; starts = refl }
step_notes s (change.SpoilFile name) = record { begun = refl; starts = refl }
step_notes s (change.UseFile name) = record { begun = refl; starts = refl }
step_notes s (change.AddFile row) = let h = file_notes row s in record { begun = h.begun; starts = h.starts }
step_notes s (change.AddFormat row file backing) =
    let one : State = put row.id _ s in
    let two : State = note_image row.kind row.id _ one in
    let h = notes_then s one two (record { begun = refl; starts = refl }) (image_notes row.kind row.id _ one) in
    let k = notes_then s two _ h (know_notes (filename_of s.table file) Unknown two) in
    record { begun = k.begun; starts = k.starts }
step_notes s (change.AddFilter row child) = record { begun = refl; starts = refl }
step_notes s (change.RemoveNode node) = let h = leave_notes _ s in record { begun = h.begun; starts = h.starts }
step_notes s (change.Unsettle node) = record { begun = refl; starts = refl }
step_notes s (change.MakeWritable node) = let h = name_notes (filename_of s.table node) s in record { begun = h.begun; starts = h.starts }
step_notes s (change.PutFilter row node) = record { begun = refl; starts = refl }
step_notes s (change.UseNode slot what node) = record { begun = refl; starts = refl }
step_notes s (change.StartJob row) = let h = name_notes (overlay_file s.table row row.kind) s in record { begun = h.begun; starts = h.starts }
step_notes s (change.AskJob number asked) = record { begun = refl; starts = refl }
step_notes s (change.ReadyJob number) = record { begun = refl; starts = refl }
step_notes s (change.EndJob number slot drops) = record { begun = refl; starts = refl }
step_notes s (change.PullFilter filter) = record { begun = refl; starts = refl }
step_notes s (change.Rebase node backing) = record { begun = refl; starts = refl }
step_notes s (change.Settle node disk) = record { begun = refl; starts = refl }
step_notes s (change.MakeReadOnly node) = record { begun = refl; starts = refl }
step_notes s (change.AddDevice device node) = record { begun = refl; starts = refl }
step_notes s (change.RemoveDevice number) = record { begun = refl; starts = refl }
step_notes s (change.Attach overlay node) = record { begun = refl; starts = refl }
step_notes s (change.Move from to but) = record { begun = refl; starts = refl }
step_notes s (change.AddBitmap row) = record { begun = refl; starts = refl }
step_notes s (change.RemoveBitmap node name) = record { begun = refl; starts = refl }
step_notes s (change.TurnBitmap node name on) = record { begun = refl; starts = refl }
step_notes s (change.ClearBitmap node name) = record { begun = refl; starts = refl }
step_notes s (change.MergeBitmap node name source_node source) = record { begun = refl; starts = refl }

pub steps_note : (changes : List Change) (s : State) → NotesSame s (all_stepped s changes)
steps_note [] s = notes_self s
steps_note (c ∷ changes) s = notes_then s (stepped s c) (all_stepped (stepped s c) changes) (step_notes s c) (steps_note changes (stepped s c))

-- ---- by rows that were there

has_still : (s now : State) (row : JobRecord) (w : WasJob s.table now.table row) → begun_of now.begun row.number ≡ begun_of s.begun row.number
    → HasBegun s w.old → HasBegun now row
has_still s now row w noted_same h = record {
  begun = h.begun;
  found = noted_same ∙ subst (λ n. begun_of s.begun n ≡ Some h.begun) w.number h.found;
  source = h.source ∙ size;
  target = λ node is. h.target node (w.target ∙ is) ∙ size;
}
  where
    size : bytes_of_node s.table w.old.source ≡ bytes_of_node now.table row.source
    size = ap (bytes_of_node s.table) w.source ∙ sym w.size

pub begun_still : (s now : State) → NotesSame s now → KeepSources s.starts s.table now.table → HaveBegun s → HaveBegun now
begun_still s now same keeps h = record {
  begun = λ row there small.
      let before : row.number < s.starts = subst (λ n. row.number < n) same.starts small in
      let w = keeps row there before in
      has_still s now row w (ap (λ bs. begun_of bs row.number) same.begun) (h.begun w.old w.there (subst (λ n. n < s.starts) (sym w.number) before));
  later = λ number late.
      ap (λ bs. begun_of bs number) same.begun ∙ h.later number (subst (λ n. n ≤ number) same.starts late);
}

-- changes in turn
pub changes_begun : (changes : List Change) (s : State) → AllSpare s.starts s.table changes → HaveBegun s → HaveBegun (all_stepped s changes)
changes_begun changes s spare =
    begun_still s (all_stepped s changes) (steps_note changes s)
    (subst (KeepSources s.starts s.table) (sym (stepped_table changes s)) (changes_spare s.starts changes s.table spare))

-- ---- entries of jobs

pub opening_begun : (o : Opening) → HaveBegun (start o)
opening_begun o = record { begun = λ row there small. absurd (Contains-nil row there); later = λ number late. refl }

pub readied_begun : (s : State) (job : ℕ) → HaveBegun s → HaveBegun (readied job s)
readied_begun s job h = by_row (job_at s.table job)
  where
    by_row : (row : Option JobRecord) → HaveBegun (readied_by s row)
    by_row None = h
    by_row (Some row) = begun_still s (readied_by s (Some row)) (record { begun = refl; starts = refl }) (readied_sources s.starts s.table row.number) h

unleft_begun : (name : Option (List ℕ)) (s : State) → HaveBegun s → HaveBegun (unleft name s)
unleft_begun None s h = h
unleft_begun (Some name) s h =
    begun_still s (unleft (Some name) s) (record { begun = refl; starts = refl }) (still_sources s.starts s.table s.table refl refl) h

module _ (s : State) (row : JobRecord) (j : JobsStand s.table) (here : Contains s.table.jobs row) (turn : row.number ≡ s.starts) (whole : FindsWhole s row)
    (h : HaveBegun s) where
  abbrev test : ℕ → Begun → Bool
  test number b = b.job == number

  new_found : begun_of (noted_start s row).begun row.number ≡ Some (begin s row)
  new_found =
      found-new (test row.number) s.begun (begin s row) (h.later row.number (subst (λ n. n ≤ row.number) turn (omega arith))) (eq-eqb row.number row.number refl)

  target_is : (k : JobKind) → (node : ℕ) → cond (writes_target k) row.target None ≡ Some node → row.target ≡ Some node
  target_is Stream node is = absurd cc
  target_is Commit node is = is
  target_is Mirror node is = is
  target_is Backup node is = is

  own : HasBegun (noted_start s row) row
  own = record {
    begun = begin s row;
    found = new_found;
    source = whole.source;
    target = λ node is. ap (λ target. length (target_bytes s target)) (target_is row.kind node is) ∙ whole.target node is;
  }

  old : (other : JobRecord) → Contains s.table.jobs other → other.number < s.starts → HasBegun (noted_start s row) other
  old other there small =
      let b = h.begun other there small in
      record { begun = b.begun; found = found-longer (test other.number) s.begun (begin s row) b.begun b.found; source = b.source; target = b.target }

  by_number : (other : JobRecord) → Contains s.table.jobs other → (other.number ≡ row.number) ⊎ (other.number ≢ row.number) → other.number < s.starts + 1
      → HasBegun (noted_start s row) other
  by_number other there (inl same) small = subst (HasBegun (noted_start s row)) (sym (j.numbers other row there here same)) own
  by_number other there (inr differ) small = old other there (let apart : other.number ≢ s.starts = λ same. differ (same ∙ sym turn) in omega (arith, apart, small))

  noted_begun : HaveBegun (noted_start s row)
  noted_begun = record {
    begun = λ other there small. by_number other there (cases_eq other.number row.number) small;
    later = λ number late.
        let apart : row.number ≢ number = (let n : row.number ≡ s.starts = turn in omega (arith, late, n)) in
        let before : s.starts ≤ number = omega (arith, late) in
        find_before (test number) s.begun (begin s row) (ne_eqb row.number number apart) ∙ h.later number before;
  }

  pub started_begun : HaveBegun (started s (Some row))
  started_begun = unleft_begun _ (noted_start s row) noted_begun

-- ---- ends

abbrev IsOfMoves : Change → Type 0
IsOfMoves (change.Move from to but) = Unit {0}
IsOfMoves (change.Rebase node backing) = Unit {0}
IsOfMoves (change.Settle node disk) = Unit {0}
IsOfMoves (change.Unsettle node) = Unit {0}
IsOfMoves (change.MakeReadOnly node) = Unit {0}
IsOfMoves c = ⊥

abbrev AreOfMoves : List Change → Type 0
AreOfMoves [] = Unit {0}
AreOfMoves (c ∷ changes) = IsOfMoves c × AreOfMoves changes

moves-append : (a b : List Change) → AreOfMoves a → AreOfMoves b → AreOfMoves (a ++ b)
moves-append [] b h k = k
moves-append (c ∷ a) b h k = (h.0, moves-append a b h.1 k)

moves_spare : (from : ℕ) (changes : List Change) (t : RunTable) → AreOfMoves changes → AllSpare from t changes
moves_spare from [] t h = tt
moves_spare from (c ∷ changes) t h = (one c h.0, moves_spare from changes (changed t c) h.1)
  where
    one : (x : Change) → IsOfMoves x → SparesSources from t x
    one (change.Move a b d) k = tt
    one (change.Rebase node backing) k = tt
    one (change.Settle node disk) k = tt
    one (change.Unsettle node) k = tt
    one (change.MakeReadOnly node) k = tt
    one x k = absurd k

module _ (row : JobRecord) where
  of_if : (b : Bool) (node : Option ℕ) → AreOfMoves (read_only_if b node)
  of_if true (Some node) = (tt, tt)
  of_if true None = tt
  of_if false node = tt

  of_back : (t : RunTable) → AreOfMoves
      (read_only_if row.made_writable.base row.target ++ read_only_if row.made_writable.file (option_and_then (λ b. child t b File) row.target))
  of_back t =
      moves-append (read_only_if row.made_writable.base row.target) (read_only_if row.made_writable.file (option_and_then (λ b. child t b File) row.target))
      (of_if row.made_writable.base row.target) (of_if row.made_writable.file (option_and_then (λ b. child t b File) row.target))

  of_given : (t : RunTable) (o : JobOutcome) → AreOfMoves (given_back_to t row o)
  of_given t Pivoted = tt
  of_given t Completed = of_back t
  of_given t Copied = of_back t
  of_given t Stopped = of_back t

  of_settle : (b : Bool) (target : Option ℕ) (disk : NewDisk) → AreOfMoves (settle_if b target disk)
  of_settle true (Some target) disk = (tt, tt)
  of_settle true None disk = tt
  of_settle false target disk = tt

  of_settled : (k : JobKind) → AreOfMoves (settled_by row k)
  of_settled Stream = tt
  of_settled Commit = of_settle true row.target (OfNode row.source)
  of_settled Mirror = of_settle true row.target (OfNode row.source)
  of_settled Backup = of_settle (settles_target row.bitmap) row.target (OfStart row.number)

  of_top : (k : JobKind) (o : JobOutcome) → AreOfMoves (top_lost row k o)
  of_top Commit Pivoted = (tt, tt)
  of_top Commit Completed = tt
  of_top Commit Copied = tt
  of_top Commit Stopped = tt
  of_top Stream o = tt
  of_top Mirror o = tt
  of_top Backup o = tt

  of_parents : (source : ℕ) (filter target : Option ℕ) → AreOfMoves (parents_to source filter target)
  of_parents source (Some filter) (Some target) = (tt, tt)
  of_parents source (Some filter) None = tt
  of_parents source None target = tt

  of_overlay : (overlay base : Option ℕ) → AreOfMoves (overlay_to overlay base)
  of_overlay None base = tt
  of_overlay (Some overlay) base = (tt, tt)

  of_moves : (k : JobKind) (o : JobOutcome) → AreOfMoves (moves row k o)
  of_moves Stream Completed = (tt, tt)
  of_moves Stream Pivoted = tt
  of_moves Stream Copied = tt
  of_moves Stream Stopped = tt
  of_moves Commit Completed = of_overlay (slice_get row.read 0) row.target
  of_moves Commit Pivoted = of_parents row.source row.filter row.target
  of_moves Commit Copied = tt
  of_moves Commit Stopped = tt
  of_moves Mirror Completed = tt
  of_moves Mirror Pivoted = of_parents row.source row.filter row.target
  of_moves Mirror Copied = tt
  of_moves Mirror Stopped = tt
  of_moves Backup o = tt

  of_by : (o : JobOutcome) → AreOfMoves (moves row row.kind o ++ settled_by row row.kind ++ top_lost row row.kind o)
  of_by o =
      moves-append (moves row row.kind o ++ settled_by row row.kind) (top_lost row row.kind o)
      (moves-append (moves row row.kind o) (settled_by row row.kind) (of_moves row.kind o) (of_settled row.kind)) (of_top row.kind o)

  of_done : (o : JobOutcome) → AreOfMoves (done_edits row o)
  of_done Stopped = tt
  of_done Completed = of_by Completed
  of_done Pivoted = of_by Pivoted
  of_done Copied = of_by Copied

module _ (s : State) (row : JobRecord) (why : JobEnd) (j : JobsStand s.table) (here : Contains s.table.jobs row) (h : HaveBegun s) where
  abbrev drops : Bool
  drops = drops_aside (outcome_of why) row.bitmap

  abbrev over : Change
  over = change.EndJob row.number row.slot (drops_aside (outcome_of why) row.bitmap)

  abbrev first : RunTable
  first = changed s.table (change.EndJob row.number row.slot (drops_aside (outcome_of why) row.bitmap))

  abbrev rest : List Change
  rest = filter_gone row.filter ++ done_edits row (outcome_of why) ++ given_back_to s.table row (outcome_of why)

  changes_are : changes_at_end s row why ≡ over ∷ rest
  unfolding end_edits
  changes_are = refl

  gone_spares : (filter : Option ℕ) → row.filter ≡ filter → AllSpare s.starts first (filter_gone filter)
  gone_spares None is = tt
  gone_spares (Some filter) is = (λ other at small same. no_source other at small (is ∙ ap Some (sym same)), tt)
    where
      no_source : (other : JobRecord) → Contains first.jobs other → other.number < s.starts → row.filter ≢ Some other.source
      no_source other at small same =
          let w = ended_sources s.starts s.table row.number row.slot drops other at small in
          let there = j.each w.old w.there in
          let held = in_left w.old.held w.old.read w.old.source (holds_source s.table w.old there) in
          plain_no_filter s.table j w.old.source (there.plain w.old.source held) row here (same ∙ ap Some (sym w.source))

  rest_spares : AllSpare s.starts first rest
  rest_spares =
      spare-append s.starts (filter_gone row.filter ++ done_edits row (outcome_of why)) (given_back_to s.table row (outcome_of why)) first
      (spare-append s.starts (filter_gone row.filter) (done_edits row (outcome_of why)) first (gone_spares row.filter refl)
      (moves_spare s.starts (done_edits row (outcome_of why)) (all_changed first (filter_gone row.filter)) (of_done row (outcome_of why))))
      (moves_spare s.starts (given_back_to s.table row (outcome_of why)) (all_changed first (filter_gone row.filter ++ done_edits row (outcome_of why)))
      (of_given row s.table (outcome_of why)))

  behind : all_changed first rest ≡ (noted_end s row why).table
  behind = ap (all_changed s.table) (sym changes_are) ∙ sym (stepped_table (changes_at_end s row why) s)

  -- another job's row was there, and has another number
  record WasOther (other : JobRecord) : Type 0 where
    was : WasJob s.table (noted_end s row why).table other
    differs : other.number ≢ row.number

  was_other : (other : JobRecord) → Contains (noted_end s row why).table.jobs other → other.number < s.starts → WasOther other
  unfolding changed
  was_other other at small =
      let w = changes_spare s.starts rest first rest_spares other (subst (λ (t : RunTable). Contains t.jobs other) (sym behind) at) small in
      let old = Contains-filter (λ (job : JobRecord). not (job.number == row.number)) s.table.jobs w.old w.there in
      record {
        was = record {
          old = w.old;
          there = old.0;
          number = w.number;
          source = w.source;
          target = w.target;
          size = subst (λ (t : RunTable). bytes_of_node t other.source ≡ bytes_of_node s.table other.source) behind w.size;
        };
        differs = λ same. passed (w.old.number == row.number) (eq-eqb w.old.number row.number (w.number ∙ same)) old.1;
      }
    where
      passed : (b : Bool) → b ≡ true → not b ≡ true → ⊥
      passed true e k = cc
      passed false e k = cc

  keeps_other : (number : ℕ) → number ≢ row.number → begun_of (noted_end s row why).begun number ≡ begun_of s.begun number
  keeps_other number differs =
      find-filter (λ (b : Begun). b.job == number) (λ b. not (b.job == row.number))
      (λ b is. ap not (ne_eqb b.job row.number (λ same. differs (sym (eqb-true b.job number is) ∙ same)))) s.begun

  none_fewer : (p q : Begun → Bool) (bs : List Begun) → find p bs ≡ None → find p (filter q bs) ≡ None
  none_fewer p q [] none = refl
  none_fewer p q (b ∷ bs) none = by_test (p b) (q b) refl none (none_fewer p q bs)
    where
      by_test : (x y : Bool) → p b ≡ x → cond x (Some b) (find p bs) ≡ None → (find p bs ≡ None → find p (filter q bs) ≡ None)
          → find p (cond y (b ∷ filter q bs) (filter q bs)) ≡ None
      by_test true y e k ih = absurd cc
      by_test false true e k ih = rw e (ih k)
      by_test false false e k ih = ih k

  pub ended_begun : HaveBegun (noted_end s row why)
  ended_begun = record {
    begun = λ other at small.
        let before : other.number < s.starts = subst (λ n. other.number < n) (steps_note (changes_at_end s row why) s).starts small in
        let w = was_other other at before in
        has_still s (noted_end s row why) other w.was (keeps_other other.number w.differs)
        (h.begun w.was.old w.was.there (subst (λ n. n < s.starts) (sym w.was.number) before));
    later = λ number late.
        none_fewer (λ b. b.job == number) (λ b. not (b.job == row.number)) s.begun
        (h.later number (subst (λ n. n ≤ number) (steps_note (changes_at_end s row why) s).starts late));
  }

-- ---- commands

pub leaving_begun : (changes : List Change) (s : State) → TableStands s.table → JobsStand s.table → AllTableSuit s.table changes → AllLeaveJobs s.table changes
    → HaveBegun s → HaveBegun (all_stepped s changes)
leaving_begun changes s h j suits leaves = changes_begun changes s (all_leaving_spare s.starts changes s.table h j suits leaves)

pub snapshot_begun : (s : State) (node overlay : ℕ) → HaveBegun s
    → HaveBegun (all_stepped s (change.Attach overlay node ∷ change.Move node overlay overlay ∷ []))
snapshot_begun s node overlay = changes_begun (change.Attach overlay node ∷ change.Move node overlay overlay ∷ []) s (tt, (tt, tt))

pub beginning_begun : (s : State) (row : JobRecord) → JobsStand s.table → JobBegins s.table row → s.starts ≤ row.number → HaveBegun s
    → HaveBegun (all_stepped s (start_edits s.table row))
beginning_begun s row j b late = changes_begun (start_edits s.table row) s (start_spares s row b j s.starts late)

-- ---- other entries

pub record BesideJobs (s now : State) : Type 0 where
  pub notes : NotesSame s now
  pub sources : KeepSources s.starts s.table now.table

beside_jobs : (s now : State) → now.table ≡ s.table → now.begun ≡ s.begun → now.starts ≡ s.starts → BesideJobs s now
beside_jobs s now table begun starts = record {
  notes = record { begun = begun; starts = starts };
  sources = still_sources s.starts s.table now.table (ap (λ (t : RunTable). t.nodes) table) (ap (λ (t : RunTable). t.jobs) table);
}

over_keeps : (t : RunTable) (node : ℕ) (row : NodeRecord) → KeepsSize (unsettled_over t node) row
over_keeps t node row = record { id = ids (is_over t node row.id); size = sizes (is_over t node row.id) }
  where
    lost : NodeRecord
    lost = record row { is_settled = false }

    ids : (b : Bool) → (cond b lost row).id ≡ row.id
    ids true = refl
    ids false = refl

    sizes : (b : Bool) → (cond b lost row).size ≡ row.size
    sizes true = refl
    sizes false = refl

module _ (s : State) (drive : ℕ) (outcome : Outcome) (part : Extent) where
  written_beside : (op : Op)
      → BesideJobs s (node_written (disk_node s.table drive) (with_disk (disk_node s.table drive) (done_in op part (done_by outcome part)) s))
  unfolding written_under
  written_beside op = record {
    notes = record { begun = refl; starts = refl };
    sources = same_sources s.starts s.table (written_under (disk_node s.table drive) s.table) refl
        (λ row at small. mapped_sizes s.table (written_under (disk_node s.table drive) s.table) (unsettled_over s.table (disk_node s.table drive))
        (over_keeps s.table (disk_node s.table drive)) refl row.source);
  }

  noted_beside : (now : State) → BesideJobs s now → BesideJobs s (note outcome part drive now)
  noted_beside now b = by_flag (is_noted outcome)
    where
      by_flag : (flag : Bool) → BesideJobs s (cond flag (record now { dirty = noted now.table part now.dirty (path now.table drive) }) now)
      by_flag true = record { notes = record { begun = b.notes.begun; starts = b.notes.starts }; sources = b.sources }
      by_flag false = b

  read_beside : (now : State) → BesideJobs s now → BesideJobs s (read_through drive now)
  read_beside now b = by_flag (copies_through now.table drive)
    where
      by_flag : (flag : Bool) → BesideJobs s (cond flag (record now { images = map (unsure (disk_node now.table drive ∷ [])) now.images }) now)
      by_flag true = record { notes = record { begun = b.notes.begun; starts = b.notes.starts }; sources = b.sources }
      by_flag false = b

  part_beside : (op : Op) → BesideJobs s (with_part drive op outcome part s)
  part_beside (Read span) = read_beside _ (beside_jobs s (with_disk (disk_node s.table drive) (done_in (Read span) part (done_by outcome part)) s) refl refl refl)
  part_beside (Write span payload) = noted_beside _ (written_beside (Write span payload))
  part_beside (Zero span) = noted_beside _ (written_beside (Zero span))
  part_beside (Discard span) = beside_jobs s _ refl refl refl
  part_beside Flush = beside_jobs s _ refl refl refl

piece_beside : (s : State) (drive : Option ℕ) (flight : Option Flight) (k : ℕ) (outcome : Outcome) → BesideJobs s (with_piece drive flight k outcome s)
piece_beside s (Some drive) (Some f) k outcome = part_beside s drive outcome (piece f.op k) f.op
piece_beside s (Some drive) None k outcome = beside_jobs s s refl refl refl
piece_beside s None flight k outcome = beside_jobs s s refl refl refl

pub other_begun : (s : State) (e : Event) → leaves_jobs e ≡ true → HaveBegun s → HaveBegun (after s e)
other_begun s e leaves h = begun_still s (after s e) (beside e leaves).notes (beside e leaves).sources h
  where
    beside : (x : Event) → leaves_jobs x ≡ true → BesideJobs s (after s x)
    beside (Admit g r op) is = beside_jobs s (after s (Admit g r op)) refl refl refl
    beside (Refuse g r op cause) is = beside_jobs s (after s (Refuse g r op cause)) refl refl refl
    beside (Piece g r k outcome got) is =
        let b = piece_beside s (drive_of s.table g) (flight_of s g) k outcome in
        record { notes = record { begun = b.notes.begun; starts = b.notes.starts }; sources = b.sources }
    beside (Retire g r) is = beside_jobs s (after s (Retire g r)) refl refl refl
    beside (Reply line given command text) is = absurd cc
    beside (Reached line what) is = beside_jobs s s refl refl refl
    beside (Start job) is = absurd cc
    beside (Ready job) is = absurd cc
    beside (End job outcome offset) is = absurd cc
    beside (Done actor) is = beside_jobs s (after s (Done actor)) refl refl refl

pub rest_begun : (s : State) (row : JobRecord) → IsAtRest s → HaveBegun s → Contains s.table.jobs row → row.number < s.table.started → HasBegun s row
rest_begun s row rest h here below = h.begun row here (subst (λ n. row.number < n) (sym rest.started) below)
