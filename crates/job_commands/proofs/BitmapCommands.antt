-- Uses of bitmaps stand behind accepted commands, failed creations, ends of jobs, and all entries but replies.
use Rattle.std.proofs.Common.{◌≡◌, ℕ, Bool, true, false, cond, List, [], ◌∷◌, ◌++◌, map, refl, sym, ap, ◌∙◌, subst, inl, inr, Option, Some, None}
use Rattle.std.specs.Prelude.{◌==◌, IsSome}
use Rattle.std.specs.Option.{option_map}
use Rattle.std.specs.List.{find, list_all, Contains}
use Rattle.std.proofs.lemmas.Bool.{false≢true, eq-eqb}
use Rattle.blk_base.specs.Pieces.{Extent}
use Rattle.blk_base.specs.declared.fault.Outcome.{Outcome}
use Rattle.blk_graph.proofs.Members.{Contains-nil, find-Some}
use Rattle.blk_history.specs.Machine.{Flight, done_by}
use Rattle.blk_history.specs.Disk.{piece, done_in}
use Rattle.blk_history.specs.declared.entry.JobEnd.{JobEnd}
use Rattle.blk_history.specs.declared.event.Event.{Event}
use Rattle.blk_history.specs.declared.event.Event.TheVariants.{Admit, Refuse, Piece, Retire, Reply, Reached, Start, Ready, End, Done}
use Rattle.trace_codec.specs.declared.op.Op.{Op}
use Rattle.trace_codec.specs.declared.op.Op.TheVariants.{Read, Write, Zero, Flush, Discard}
use Rattle.qmp_codec.specs.Commands.{Cmd}
use Rattle.qmp_codec.specs.declared.command.Command.TheVariants as command
use Rattle.qmp_codec.specs.declared.jobs.Backup.{Backup}
use Rattle.qmp_codec.specs.declared.nodes.Created.{Created}
use Rattle.qmp_codec.specs.declared.nodes.Created.TheVariants as created
use Rattle.qmp_asks.specs.declared.ask.Ask.TheVariants as ask
use Rattle.qmp_asks.specs.CommandAsks.{asks_of}
use Rattle.qmp_asks.specs.JobAsks.{backup_values, backup_names, backup_rest}
use Rattle.qmp_rules.specs.declared.change.Change.{Change}
use Rattle.qmp_rules.specs.declared.change.Change.TheVariants as change
use Rattle.qmp_rules.specs.declared.change.JobOutcome.{JobOutcome}
use Rattle.qmp_rules.specs.declared.rows.BitmapRow.{BitmapRow}
use Rattle.qmp_rules.specs.declared.rows.JobRecord.{JobRecord}
use Rattle.qmp_rules.specs.declared.rows.UsedBitmap.{UsedBitmap}
use Rattle.qmp_rules.specs.declared.told.Told.{Told}
use Rattle.qmp_rules.specs.Asks.{id_or, holds}
use Rattle.qmp_rules.specs.Chains.{disk_node, written_under}
use Rattle.qmp_rules.specs.Changes.{changed, all_changed, is_used_by}
use Rattle.qmp_rules.specs.Edits.{stream_job, commit_job, mirror_job, backup_job, used_bitmap, edits_of, spoiled}
use Rattle.qmp_rules.specs.Ends.{is_of_event, end_edits}
use Rattle.qmp_rules.specs.Table.{RunTable, is_bitmap, bitmap_at, job_at, opening_table}
use Rattle.qmp_rules.proofs.EndLemmas.{ends_are_events, event_here, events_then}
use Rattle.flat_machine.specs.InUse.{IsUnused, is_use_of}
use Rattle.flat_machine.specs.Jobs.{outcome_of, changes_at_end, unsure, ended, readied_by}
use Rattle.flat_machine.specs.Machine.{after, with_part, with_piece, with_disk, node_written, note, noted, is_noted, path, read_through, copies_through, flight_of}
use Rattle.flat_machine.specs.State.{State, drive_of}
use Rattle.flat_machine.specs.Wiring.{TableAtRest}
use Rattle.flat_machine.proofs.Asked.{NoneHolds, none-holds, none-behind}
use Rattle.flat_machine.proofs.Resting.{stepped_table}
use Rattle.job_entries.proofs.Noted.{started_table}
use Rattle.job_tables.specs.Accepted.{IsMet}
use Rattle.job_tables.specs.Jobs.{JobsStand}
use Rattle.job_tables.specs.Rows.{nodes_of_job}
use Rattle.job_tables.specs.Running.{JobsRun}
use Rattle.job_tables.proofs.Ended.{all_changed-append}
use Rattle.job_tables.proofs.RowEdges.{in_left, holds_source}
use Rattle.job_commands.specs.Begun.{IsOneCommand, job_begun}
use Rattle.job_commands.specs.Bitmaps.{UsesStand, IsNoReply}
use Rattle.job_commands.proofs.Copies.{begun_among, number_is_new}
use Rattle.job_commands.proofs.Shapes.{ChangesBitmap, MayChange, free_bitmap, found_bitmap, command_spares, BeginsAmong}
use Rattle.job_commands.proofs.Spared.{SparesJobs, AllSpareJobs, sparing_keeps_jobs, all_sparing_keep_jobs, all_prepare_spare, all_prepare_bitmaps, SameRowsBut, uses_same}
use Rattle.job_commands.proofs.Uses.{is_some_found, same_names, MayUse, LeavesUses, AllLeaveUses, changes_use, uses_at}

-- ---- changes that spare jobs

spared_uses : (t : RunTable) → JobsStand t → (now : RunTable) (c : Change) → now.jobs ≡ t.jobs → SparesJobs t c → LeavesUses now c
spared_uses t j now (change.RemoveNode node) same s = λ row here is.
    let was = subst (λ rows. Contains rows row) same here in
    s.held row was (subst (Contains (nodes_of_job row)) is (in_left row.held row.read row.source (holds_source t row (j.each row was))))
spared_uses t j now (change.AddBitmap row) same s = absurd s
spared_uses t j now (change.RemoveBitmap node name) same s = absurd s
spared_uses t j now (change.StartJob row) same s = absurd s
spared_uses t j now c same s = tt

all_spared_uses : (t : RunTable) → JobsStand t → (changes : List Change) (now : RunTable) → now.jobs ≡ t.jobs → AllSpareJobs t changes → AllLeaveUses now changes
all_spared_uses t j [] now same s = tt
all_spared_uses t j (c ∷ changes) now same s =
    (spared_uses t j now c same s.0, all_spared_uses t j changes (changed now c) (sparing_keeps_jobs t now c s.0 ∙ same) s.1)

one_uses : (t : RunTable) (c : Change) → ChangesBitmap t c → LeavesUses t c
one_uses t (change.AddBitmap row) leaves = (leaves.0, leaves.1)
one_uses t (change.RemoveBitmap node name) leaves = leaves
one_uses t c leaves = absurd leaves

may_uses : (t : RunTable) → JobsStand t → (changes : List Change) → MayChange t changes → AllLeaveUses t changes
may_uses t j changes (inl spares) = all_spared_uses t j changes t refl spares
may_uses t j changes (inr (inl asks)) = subst (AllLeaveUses t) (sym asks.is) (tt, tt)
may_uses t j changes (inr (inr of)) = subst (AllLeaveUses t) (sym of.is) (one_uses t of.one of.leaves, tt)

-- ---- a job that begins

-- where the first row of a name is free, so is each
unused_by : (t : RunTable) → UsesStand t → (source : ℕ) (used : UsedBitmap) (first : BitmapRow) → bitmap_at t source used.name ≡ Some first → first.busy ≡ None
    → IsUnused t source (Some used)
unused_by t u source used first found free row there copied = by_busy row.busy refl
  where
    at_first : Contains t.bitmaps first × (is_bitmap source used.name first ≡ true)
    at_first = find-Some (is_bitmap source used.name) t.bitmaps first found

    same_use : (job : Option JobRecord) → is_use_of job row ≡ is_use_of job first
    same_use job = same_names job row first source used.name copied at_first.1

    by_busy : (b : Option ℕ) → row.busy ≡ b → row.busy ≡ None
    by_busy None e = e
    by_busy (Some number) e =
        let used_so : is_used_by number row.busy ≡ true = ap (is_used_by number) e ∙ eq-eqb number number refl in
        let unused : is_used_by number first.busy ≡ false = ap (is_used_by number) free in
        absurd (false≢true (sym unused ∙ u.busy first at_first.0 number ∙ sym (same_use (job_at t number)) ∙ sym (u.busy row there number) ∙ used_so))

module _ (t : RunTable) (told : Told) (r : JobsRun t) (u : UsesStand t) where
  bare_use : (row : JobRecord) → row.number ≡ t.started → row.bitmap ≡ None → MayUse t row
  bare_use row number none = record {
    own = number_is_new t r row.number number;
    unused = subst (IsUnused t row.source) (sym none) (λ other there is. absurd (false≢true is));
    there = λ used by. absurd (let bad = sym none ∙ by in cc);
  }

  backup_use : (c : Backup (List ℕ)) → NoneHolds t told (backup_rest c) → MayUse t (backup_job t None c)
  backup_use c rest = by_bitmap c.bitmap rest.1.1.0 rest.1.1.1.1.1.1.1.1.1.1.0
    where
      by_bitmap : (name : Option (List ℕ)) → holds t told (ask.BitmapFound c.device name) ≡ None → holds t told (ask.BitmapFree c.device name) ≡ None
          → MayUse t (record (backup_job t None c) { bitmap = option_map (used_bitmap t c) name })
      by_bitmap None found free = bare_use (record (backup_job t None c) { bitmap = None }) refl refl
      by_bitmap (Some name) found free =
          let source : ℕ = id_or 0 t (Some c.device) in
          let there = found_bitmap t told c.device name rest.0 found in
          let first = is_some_found (bitmap_at t source name) there in
          record {
            own = number_is_new t r t.started refl;
            unused = unused_by t u source (used_bitmap t c name) first.0 first.1 (free_bitmap t told c.device name rest.0 free first.0 first.1);
            there = λ used by. let same : used_bitmap t c name ≡ used = (let both : Some (used_bitmap t c name) ≡ Some used = by in cc both) in
                subst (λ (x : UsedBitmap). IsSome (bitmap_at t source x.name)) same there;
          }

  begun_use : (c : Cmd) (row : JobRecord) → job_begun t c ≡ Some row → NoneHolds t told (asks_of c) → MayUse t row
  unfolding asks_of
  begun_use (command.BlockStream c) row is asks = let same : stream_job t c ≡ row = cc in subst (MayUse t) same (bare_use (stream_job t c) refl refl)
  begun_use (command.BlockCommit c) row is asks = let same : commit_job t c ≡ row = cc in subst (MayUse t) same (bare_use (commit_job t c) refl refl)
  begun_use (command.BlockdevMirror c) row is asks = let same : mirror_job t c ≡ row = cc in subst (MayUse t) same (bare_use (mirror_job t c) refl refl)
  begun_use (command.BlockdevBackup c) row is asks =
      let same : backup_job t None c ≡ row = cc in
      subst (MayUse t) same (backup_use c (none-behind t told (backup_values c ++ backup_names c) (backup_rest c) asks))
  begun_use c row is asks = absurd cc

may_use_at : (t now : RunTable) (row : JobRecord) → now.jobs ≡ t.jobs → now.bitmaps ≡ t.bitmaps → MayUse t row → MayUse now row
may_use_at t now row jobs rows may = record {
  own = ap (find (λ (j : JobRecord). j.number == row.number)) jobs ∙ may.own;
  unused = λ other there is. may.unused other (subst (λ rs. Contains rs other) rows there) is;
  there = λ used by. subst (λ rs. IsSome (find (is_bitmap row.source used.name) rs)) (sym rows) (may.there used by);
}

begins_use : (t : RunTable) (row : JobRecord) (changes : List Change) → BeginsAmong t row changes → MayUse t row → UsesStand t → UsesStand (all_changed t changes)
begins_use t row changes b may u =
    subst UsesStand (sym last_is)
    (uses_at then last same.jobs same.bitmaps (changes_use (change.StartJob row ∷ []) first (may_use_at t first row jobs rows may, tt) (uses_at t first jobs rows u)))
  where
    first : RunTable
    first = all_changed t b.before

    then : RunTable
    then = changed first (change.StartJob row)

    last : RunTable
    last = all_changed then b.behind

    same : SameRowsBut then last
    same = uses_same b.behind then b.uses

    last_is : all_changed t changes ≡ last
    last_is = ap (all_changed t) b.is ∙ all_changed-append t b.before (change.StartJob row ∷ b.behind)

    jobs : first.jobs ≡ t.jobs
    jobs = all_sparing_keep_jobs t b.before t (all_prepare_spare t b.before b.prepare)

    rows : first.bitmaps ≡ t.bitmaps
    rows = all_prepare_bitmaps t b.before t b.prepare

-- ---- commands

pub command_uses : (t : RunTable) (told exp : Told) (c : Cmd) → TableAtRest t → JobsStand t → JobsRun t → IsOneCommand c → IsMet t told c → UsesStand t
    → UsesStand (all_changed t (edits_of t exp c))
command_uses t told exp c h j r one met u = by_job (job_begun t c) refl
  where
    asks : NoneHolds t told (asks_of c)
    asks = none-holds t told (asks_of c) met.asks

    by_job : (found : Option JobRecord) → job_begun t c ≡ found → UsesStand (all_changed t (edits_of t exp c))
    by_job None none = changes_use (edits_of t exp c) t (may_uses t j (edits_of t exp c) (command_spares t told exp c h j one none asks)) u
    by_job (Some row) is = begins_use t row (edits_of t exp c) (begun_among t told exp c row j is asks) (begun_use t told r u c row is asks) u

pub failure_uses : (t : RunTable) (options : Created (List ℕ)) → UsesStand t → UsesStand (all_changed t (spoiled t options))
failure_uses t options u = changes_use (spoiled t options) t (leaves options) u
  where
    leaves : (o : Created (List ℕ)) → AllLeaveUses t (spoiled t o)
    leaves created.Unknown = tt
    leaves (created.File c) = (tt, tt)
    leaves (created.Qcow2 c) = (tt, tt)

-- ---- ends

event_uses : (t : RunTable) (c : Change) → is_of_event c ≡ true → LeavesUses t c
event_uses t (change.AddBitmap row) is = absurd (false≢true is)
event_uses t (change.RemoveBitmap node name) is = absurd (false≢true is)
event_uses t (change.RemoveNode node) is = absurd (false≢true is)
event_uses t (change.StartJob row) is = absurd (false≢true is)
event_uses t c is = tt

events_use : (changes : List Change) (t : RunTable) → list_all is_of_event changes ≡ true → AllLeaveUses t changes
events_use [] t are = tt
events_use (c ∷ changes) t are = (event_uses t c (event_here c changes are), events_use changes (changed t c) (events_then c changes are))

pub end_uses : (t : RunTable) (row : JobRecord) (outcome : JobOutcome) → UsesStand t → UsesStand (all_changed t (end_edits t row outcome))
end_uses t row outcome = changes_use (end_edits t row outcome) t (events_use (end_edits t row outcome) t (ends_are_events t row outcome))

-- ---- entries

pub opening_uses : (guests : List (List ℕ)) → UsesStand (opening_table guests)
opening_uses guests = record { busy = λ row there. absurd (Contains-nil row there); there = λ number job used at by. absurd cc }

written_uses : (t : RunTable) (node : ℕ) → UsesStand t → UsesStand (written_under node t)
unfolding written_under
written_uses t node u = record { busy = u.busy; there = u.there }

note_uses : (s : State) (outcome : Outcome) (part : Extent) (drive : ℕ) → UsesStand s.table → UsesStand (note outcome part drive s).table
note_uses s outcome part drive u = by_flag (is_noted outcome)
  where
    by_flag : (b : Bool) → UsesStand (cond b (record s { dirty = noted s.table part s.dirty (path s.table drive) }) s).table
    by_flag true = u
    by_flag false = u

read_uses : (s : State) (drive : ℕ) → UsesStand s.table → UsesStand (read_through drive s).table
read_uses s drive u = by_flag (copies_through s.table drive)
  where
    by_flag : (b : Bool) → UsesStand (cond b (record s { images = map (unsure (disk_node s.table drive ∷ [])) s.images }) s).table
    by_flag true = u
    by_flag false = u

part_uses : (s : State) (drive : ℕ) (op : Op) (outcome : Outcome) (part : Extent) → UsesStand s.table → UsesStand (with_part drive op outcome part s).table
part_uses s drive (Read span) outcome part u =
    read_uses (with_disk (disk_node s.table drive) (done_in (Read span) part (done_by outcome part)) s) drive u
part_uses s drive (Write span payload) outcome part u =
    note_uses (node_written (disk_node s.table drive) (with_disk (disk_node s.table drive) (done_in (Write span payload) part (done_by outcome part)) s))
    outcome part drive (written_uses s.table (disk_node s.table drive) u)
part_uses s drive (Zero span) outcome part u =
    note_uses (node_written (disk_node s.table drive) (with_disk (disk_node s.table drive) (done_in (Zero span) part (done_by outcome part)) s))
    outcome part drive (written_uses s.table (disk_node s.table drive) u)
part_uses s drive Flush outcome part u = u
part_uses s drive (Discard span) outcome part u = u

piece_uses : (s : State) (drive : Option ℕ) (flight : Option Flight) (k : ℕ) (outcome : Outcome) → UsesStand s.table
    → UsesStand (with_piece drive flight k outcome s).table
piece_uses s (Some drive) (Some f) k outcome u = part_uses s drive f.op outcome (piece f.op k) u
piece_uses s (Some drive) None k outcome u = u
piece_uses s None flight k outcome u = u

ready_uses : (s : State) (row : Option JobRecord) → UsesStand s.table → UsesStand (readied_by s row).table
ready_uses s None u = u
ready_uses s (Some row) u = changes_use (change.ReadyJob row.number ∷ []) s.table (tt, tt) u

ended_uses : (s : State) (row : Option JobRecord) (why : JobEnd) → UsesStand s.table → UsesStand (ended s row why).table
ended_uses s None why u = u
ended_uses s (Some row) why u = subst UsesStand (sym (stepped_table (changes_at_end s row why) s)) (end_uses s.table row (outcome_of why) u)

pub entry_uses : (s : State) (e : Event) → IsNoReply e → UsesStand s.table → UsesStand (after s e).table
entry_uses s (Admit g r op) other u = u
entry_uses s (Refuse g r op why) other u = u
entry_uses s (Piece g r k outcome got) other u = piece_uses s (drive_of s.table g) (flight_of s g) k outcome u
entry_uses s (Retire g r) other u = u
entry_uses s (Reply line given command text) other u = absurd other
entry_uses s (Reached line what) other u = u
entry_uses s (Start job) other u = subst UsesStand (sym (started_table s (job_at s.table job))) u
entry_uses s (Ready job) other u = ready_uses s (job_at s.table job) u
entry_uses s (End job outcome offset) other u = ended_uses s (job_at s.table job) outcome u
entry_uses s (Done actor) other u = u
