-- No disk is left in the files of backing nodes behind the starts and ends of jobs, and behind pieces of guests' requests.
use Rattle.std.proofs.Common.{◌≡◌, ◌≢◌, ℕ, List, [], ◌∷◌, ◌++◌, map, refl, sym, ◌∙◌, ap, subst, Bool, true, false, cond, Option, Some, None}
use Rattle.std.specs.Prelude.{not, bytes_eq, slice_get}
use Rattle.std.specs.Option.{option_and_then}
use Rattle.std.specs.List.{Contains}
use Rattle.std.proofs.lemmas.List.Elements.{All-contains, All-contains_itself, All-weaker}
use Rattle.blk_base.specs.Pieces.{Extent}
use Rattle.blk_base.specs.declared.fault.Outcome.{Outcome}
use Rattle.blk_graph.specs.declared.edge.Parent.TheVariants.{Node}
use Rattle.blk_graph.specs.declared.edge.Role.TheVariants.{Backing, Filtered}
use Rattle.blk_graph.specs.declared.kind.Kind.{Kind}
use Rattle.blk_graph.specs.declared.kind.Kind.TheVariants as driver
use Rattle.blk_graph.specs.declared.kind.JobUse.{JobUse}
use Rattle.blk_graph.specs.declared.kind.JobUse.TheVariants.{CommitTop, CommitBetween, CommitBase, StreamTop, StreamBelow}
use Rattle.blk_graph.proofs.Members.{Contains-filter, Contains-map}
use Rattle.blk_history.specs.Disk.{done_in}
use Rattle.blk_history.specs.Machine.{done_by}
use Rattle.blk_history.specs.declared.entry.JobEnd.{JobEnd}
use Rattle.trace_codec.specs.declared.op.Op.{Op}
use Rattle.trace_codec.specs.declared.op.Op.TheVariants.{Read, Write, Zero, Flush, Discard}
use Rattle.qmp_codec.specs.declared.event.JobKind.{JobKind}
use Rattle.qmp_codec.specs.declared.event.JobKind.TheVariants.{Stream, Commit, Mirror, Backup}
use Rattle.qmp_rules.specs.declared.change.Change.{Change}
use Rattle.qmp_rules.specs.declared.change.Change.TheVariants as change
use Rattle.qmp_rules.specs.declared.change.JobOutcome.{JobOutcome}
use Rattle.qmp_rules.specs.declared.change.JobOutcome.TheVariants.{Completed, Pivoted, Copied, Stopped}
use Rattle.qmp_rules.specs.declared.rows.NodeRecord.{NodeRecord}
use Rattle.qmp_rules.specs.declared.rows.JobRecord.{JobRecord}
use Rattle.qmp_rules.specs.Asks.{is_base}
use Rattle.qmp_rules.specs.Chains.{disk_node, is_over, written_under, unsettled_over}
use Rattle.qmp_rules.specs.Changes.{changed}
use Rattle.qmp_rules.specs.Edits.{of_row, filter_row, filter_edits, file_used, base_edits, under_top, commit_unsettles, commit_uses, target_edits, uses_target, uses_as, copy_edits, edits_by_kind, start_edits}
use Rattle.qmp_rules.specs.Ends.{drops_aside, filter_gone as pulled, overlay_to, parents_to, moves, given_back_to, end_edits}
use Rattle.qmp_rules.specs.Table.{RunTable, node_by_id, job_at, child}
use Rattle.flat_machine.specs.State.{State, Left}
use Rattle.flat_machine.specs.Changed.{stepped, all_stepped}
use Rattle.flat_machine.specs.Jobs.{copied_to, target_file, unleft, unsure, noted_start, started, outcome_of, changes_at_end, noted_end, readied_by, readied}
use Rattle.flat_machine.specs.Machine.{copies_through, is_noted, note, noted, path, with_disk, node_written, read_through, with_part}
use Rattle.flat_machine.specs.Suiting.{NoneLeftIn}
use Rattle.flat_machine.specs.Wiring.{StandsFor, TableStands}
use Rattle.flat_machine.proofs.WritingKept.{role_edge}
use Rattle.job_tables.specs.Ends.{EndSuits}
use Rattle.job_tables.specs.Jobs.{StandsByKind, JobsStand, EdgesAreDrawn}
use Rattle.job_tables.specs.Rows.{AreLinked}
use Rattle.job_tables.specs.Starts.{JobBegins}
use Rattle.job_tables.proofs.Begun.{IsBefore, AreBefore}
use Rattle.job_tables.proofs.Changes.{filter_of}
use Rattle.job_tables.proofs.EndKeeps.{over_child}
use Rattle.job_tables.proofs.Ended.{IsQuiet, AreQuiet, quiet-append, quiet_given, quiet_rest, moves_by, rest_by, end_is}
use Rattle.job_tables.proofs.Runs.{written_by}
use Rattle.job_tables.proofs.Started.{before_used, before_target, before_commit}
use Rattle.job_entries.specs.Starts.{LendsAsRead}
use Rattle.job_entries.proofs.Commands.{suit_tables}
use Rattle.job_entries.proofs.StartSuits.{start_suits}
use Rattle.job_chains.specs.Lent.{BackedAreUnleft, BacksUnleft, AllBackUnleft}
use Rattle.job_chains.proofs.LentLeft.{unleft_kept, change_unleft}
use Rattle.job_chains.proofs.LentLeftKept.{changes_unleft}

-- ---- starts

-- the change makes no node a backing node
abbrev IsEasy : Change → Type 0
IsEasy (change.AddFormat row file backing) = ⊥
IsEasy (change.PullFilter filter) = ⊥
IsEasy (change.Attach overlay node) = ⊥
IsEasy (change.Move from to but) = ⊥
IsEasy (change.Rebase node backing) = ⊥
IsEasy c = Unit {0}

abbrev AreEasy : List Change → Type 0
AreEasy [] = Unit {0}
AreEasy (c ∷ changes) = IsEasy c × AreEasy changes

easy-append : (a b : List Change) → AreEasy a → AreEasy b → AreEasy (a ++ b)
easy-append [] b h k = k
easy-append (c ∷ a) b h k = (h.0, easy-append a b h.1 k)

easy_unleft : (changes : List Change) (s : State) → AreEasy changes → AllBackUnleft s changes
easy_unleft [] s h = tt
easy_unleft (c ∷ changes) s h = (one c h.0, easy_unleft changes (stepped s c) h.1)
  where
    one : (c : Change) → IsEasy c → BacksUnleft s c
    one (change.AddFormat row file backing) k = absurd k
    one (change.PullFilter filter) k = absurd k
    one (change.Attach overlay node) k = absurd k
    one (change.Move from to but) k = absurd k
    one (change.Rebase node backing) k = absurd k
    one c k = tt

before_easy : (changes : List Change) → AreBefore changes → AreEasy changes
before_easy [] h = tt
before_easy (c ∷ changes) h = (one c h.0, before_easy changes h.1)
  where
    one : (c : Change) → IsBefore c → IsEasy c
    one (change.UseFile name) k = tt
    one (change.Unsettle node) k = tt
    one (change.MakeWritable node) k = tt
    one c k = absurd k

filter_easy : (t : RunTable) (kind : Kind) (row : JobRecord) → AreEasy (filter_edits t kind row)
filter_easy t kind row = by_found (node_by_id t row.source)
  where
    by_found : (found : Option NodeRecord) → AreEasy (of_row (λ r. change.PutFilter (filter_row t kind row.id r) r.id ∷ []) found)
    by_found None = tt
    by_found (Some r) = (tt, tt)

uses_easy : (slot : ℕ) (what : ℕ → JobUse) (ids : List ℕ) → AreEasy (map (λ id. change.UseNode slot (what id) id) ids)
uses_easy slot what [] = tt
uses_easy slot what (id ∷ ids) = (tt, uses_easy slot what ids)

target_easy : (row : JobRecord) (target : Option ℕ) → AreEasy (uses_target row target)
target_easy row None = tt
target_easy row (Some target) = (tt, tt)

copy_easy : (t : RunTable) (kind : Kind) (row : JobRecord) → AreEasy (copy_edits t kind row)
copy_easy t kind row =
    easy-append (target_edits t row.target ++ filter_edits t kind row) (change.StartJob row ∷ uses_target row row.target)
    (easy-append (target_edits t row.target) (filter_edits t kind row) (before_easy (target_edits t row.target) (before_target t row.target)) (filter_easy t kind row))
    (tt, target_easy row row.target)

commit_easy : (t : RunTable) (row : JobRecord) → AreEasy (edits_by_kind t row Commit)
commit_easy t row =
    easy-append (file_used t row.target ++ commit_unsettles t row ++ base_edits t row ++ filter_edits t driver.Commit row)
    (change.StartJob row ∷ change.UseNode row.slot CommitTop row.source ∷ commit_uses row)
    (easy-append (file_used t row.target ++ commit_unsettles t row ++ base_edits t row) (filter_edits t driver.Commit row)
    (before_easy (file_used t row.target ++ commit_unsettles t row ++ base_edits t row) (before_commit t row)) (filter_easy t driver.Commit row))
    (tt, (tt, uses_easy row.slot (λ id. cond (is_base row.target id) CommitBase CommitBetween) (under_top row)))

start_easy : (t : RunTable) (row : JobRecord) → AreEasy (start_edits t row)
unfolding start_edits
start_easy t row = by_kind row.kind
  where
    by_kind : (k : JobKind) → AreEasy (edits_by_kind t row k)
    by_kind Stream =
        easy-append (file_used t row.target) (change.StartJob row ∷ change.UseNode row.slot StreamTop row.source ∷ uses_as row.slot StreamBelow row.read)
        (before_easy (file_used t row.target) (before_used t row.target)) (tt, (tt, uses_easy row.slot (λ id. StreamBelow) row.read))
    by_kind Commit = commit_easy t row
    by_kind Mirror = copy_easy t driver.Mirror row
    by_kind Backup = copy_easy t driver.BeforeWrite row

pub starts_unleft : (s : State) (row : JobRecord) → TableStands s.table → JobsStand s.table → EdgesAreDrawn s.table → JobBegins s.table row
    → LendsAsRead s.table row row.kind → BackedAreUnleft s → BackedAreUnleft (all_stepped s (start_edits s.table row))
starts_unleft s row h j d b lends g =
    changes_unleft (start_edits s.table row) s h (suit_tables (start_edits s.table row) s (start_suits s h j d row b lends))
    (easy_unleft (start_edits s.table row) s (start_easy s.table row)) g

-- ---- what is noted of a start, and that a job is ready

-- where nodes and edges stay, and no disk more is left
like_unleft : (s now : State) → now.table.edges ≡ s.table.edges
    → ((name : List ℕ) (row : NodeRecord) → StandsFor now.table name row → (old : NodeRecord) × StandsFor s.table name old × (old.id ≡ row.id))
    → ((l : Left) → Contains now.left l → Contains s.left l) → BackedAreUnleft s → BackedAreUnleft now
like_unleft s now edges rows left g e there backs name row of id =
    let old = rows name row of in
    let none = g e (subst (λ es. Contains es e) edges there) backs name old.0 old.1 (old.2 ∙ id) in
    All-weaker (Contains now.left) (λ (l : Left). l.file ≢ name)
    (λ l at. All-contains (λ (l : Left). l.file ≢ name) s.left l none (left l at)) now.left (All-contains_itself now.left)

pub started_unleft : (s : State) (row : Option JobRecord) → BackedAreUnleft s → BackedAreUnleft (started s row)
started_unleft s None g = g
started_unleft s (Some row) g = by_file (target_file s.table (option_and_then (node_by_id s.table) (copied_to row row.kind)))
  where
    by_file : (file : Option (List ℕ)) → BackedAreUnleft (unleft file (noted_start s row))
    by_file None = like_unleft s (noted_start s row) refl (λ name r of. (r, of, refl)) (λ l at. at) g
    by_file (Some file) =
        like_unleft s (unleft (Some file) (noted_start s row)) refl (λ name r of. (r, of, refl))
        (λ l at. (Contains-filter (λ (x : Left). not (bytes_eq x.file file)) s.left l at).0) g

pub readied_unleft : (s : State) (number : ℕ) → BackedAreUnleft s → BackedAreUnleft (readied number s)
readied_unleft s number g = by_found (job_at s.table number)
  where
    by_found : (found : Option JobRecord) → BackedAreUnleft (readied_by s found)
    by_found None = g
    by_found (Some row) = change_unleft s g (change.ReadyJob row.number) tt

-- ---- ends

-- each change leads backing edges to the target alone
abbrev LeadsTo : Option ℕ → Change → Type 0
LeadsTo target (change.Move from to but) = target ≡ Some to
LeadsTo target (change.Rebase node backing) = target ≡ backing
LeadsTo target (change.Settle node disk) = Unit {0}
LeadsTo target (change.Unsettle node) = Unit {0}
LeadsTo target (change.MakeReadOnly node) = Unit {0}
LeadsTo target c = ⊥

abbrev AllLeadTo : Option ℕ → List Change → Type 0
AllLeadTo target [] = Unit {0}
AllLeadTo target (c ∷ changes) = LeadsTo target c × AllLeadTo target changes

lead-append : (target : Option ℕ) (a b : List Change) → AllLeadTo target a → AllLeadTo target b → AllLeadTo target (a ++ b)
lead-append target [] b h k = k
lead-append target (c ∷ a) b h k = (h.0, lead-append target a b h.1 k)

abbrev NoneInTarget : State → Option ℕ → Type 0
NoneInTarget s target = (node : ℕ) → target ≡ Some node → NoneLeftIn s node

one_led : (s : State) (target : Option ℕ) (c : Change) → LeadsTo target c → NoneInTarget s target → BackedAreUnleft s
    → BackedAreUnleft (stepped s c) × NoneInTarget (stepped s c) target
one_led s target (change.Move from to but) h none g =
    (change_unleft s g (change.Move from to but) (none to h), λ node is. unleft_kept s (change.Move from to but) node tt (λ l more. absurd more) (none node is))
one_led s target (change.Rebase over backing) h none g = (
  change_unleft s g (change.Rebase over backing) (λ base is. none base (h ∙ is)),
  λ node is. unleft_kept s (change.Rebase over backing) node tt (λ l more. absurd more) (none node is),
)
one_led s target (change.Settle over disk) h none g =
    (change_unleft s g (change.Settle over disk) tt, λ node is. unleft_kept s (change.Settle over disk) node tt (λ l more. absurd more) (none node is))
one_led s target (change.Unsettle over) h none g =
    (change_unleft s g (change.Unsettle over) tt, λ node is. unleft_kept s (change.Unsettle over) node tt (λ l more. absurd more) (none node is))
one_led s target (change.MakeReadOnly over) h none g =
    (change_unleft s g (change.MakeReadOnly over) tt, λ node is. unleft_kept s (change.MakeReadOnly over) node tt (λ l more. absurd more) (none node is))
one_led s target c h none g = absurd h

all_led : (changes : List Change) (s : State) (target : Option ℕ) → AllLeadTo target changes → NoneInTarget s target → BackedAreUnleft s
    → BackedAreUnleft (all_stepped s changes)
all_led [] s target h none g = g
all_led (c ∷ changes) s target h none g = let x = one_led s target c h.0 none g in all_led changes (stepped s c) target h.1 x.1 x.0

quiet_lead : (target : Option ℕ) (changes : List Change) → AreQuiet changes → AllLeadTo target changes
quiet_lead target [] q = tt
quiet_lead target (c ∷ changes) q = (one c q.0, quiet_lead target changes q.1)
  where
    one : (c : Change) → IsQuiet c → LeadsTo target c
    one (change.Settle node disk) h = tt
    one (change.Unsettle node) h = tt
    one (change.MakeReadOnly node) h = tt
    one c h = absurd h

-- the lowest node of a chain has one over it
pub over_last : (t : RunTable) (node : ℕ) (between : List ℕ) (base : ℕ) → AreLinked t node (between ++ base ∷ []) → (n : ℕ) × (child t n Backing ≡ Some base)
over_last t node [] base l = (node, l.0)
over_last t node (below ∷ between) base l = over_last t below between base l.1

pub linked_unleft : (s : State) → BackedAreUnleft s → (node : ℕ) (between : List ℕ) (base : ℕ) → AreLinked s.table node (between ++ base ∷ []) → NoneLeftIn s base
linked_unleft s g node between base l =
    let over = over_last s.table node between base l in
    let x = role_edge (Node over.0) Backing s.table.edges base over.1 in
    subst (NoneLeftIn s) x.to (g x.edge x.there x.role_is)

module _ (s : State) (row : JobRecord) (j : JobsStand s.table) (here : Contains s.table.jobs row) (e : EndSuits s row) (g : BackedAreUnleft s) where
  target_none : (node : ℕ) → row.target ≡ Some node → NoneLeftIn s node
  target_none node is = by_kind row.kind refl (j.each row here).shape
    where
      by_kind : (k : JobKind) → row.kind ≡ k → StandsByKind s.table row k → NoneLeftIn s node
      by_kind Stream same x = let r = x.reads node is in linked_unleft s g row.source r.between node r.linked
      by_kind Commit same x = (e.target node (written_by row Commit same ∙ is)).left
      by_kind Mirror same x = (e.target node (written_by row Mirror same ∙ is)).left
      by_kind Backup same x = (e.target node (written_by row Backup same ∙ is)).left

  lead_parents : (filter target : Option ℕ) → row.target ≡ target → AllLeadTo row.target (parents_to row.source filter target)
  lead_parents (Some filter) (Some target) is = (is, tt)
  lead_parents (Some filter) None is = tt
  lead_parents None target is = tt

  lead_overlay : (overlay : Option ℕ) → AllLeadTo row.target (overlay_to overlay row.target)
  lead_overlay None = tt
  lead_overlay (Some overlay) = (refl, tt)

  lead_moves : (k : JobKind) (o : JobOutcome) → AllLeadTo row.target (moves row k o)
  lead_moves Stream Completed = (refl, tt)
  lead_moves Commit Completed = lead_overlay (slice_get row.read 0)
  lead_moves Commit Pivoted = lead_parents row.filter row.target refl
  lead_moves Mirror Pivoted = lead_parents row.filter row.target refl
  lead_moves k o = tt

  lead_moved : (k : JobKind) (o : JobOutcome) → AllLeadTo row.target (moves_by row k o)
  lead_moved k Stopped = tt
  lead_moved k Completed = lead_moves k Completed
  lead_moved k Pivoted = lead_moves k Pivoted
  lead_moved k Copied = lead_moves k Copied

  abbrev later : JobOutcome → List Change
  later o = moves_by row row.kind o ++ (rest_by row row.kind o ++ given_back_to s.table row o)

  lead_later : (o : JobOutcome) → AllLeadTo row.target (later o)
  lead_later o =
      lead-append row.target (moves_by row row.kind o) (rest_by row row.kind o ++ given_back_to s.table row o) (lead_moved row.kind o)
      (quiet_lead row.target (rest_by row row.kind o ++ given_back_to s.table row o)
      (quiet-append (rest_by row row.kind o) (given_back_to s.table row o) (quiet_rest row row.kind o) (quiet_given s.table row o)))

  module _ (o : JobOutcome) where
    abbrev over : Change
    over = change.EndJob row.number row.slot (drops_aside o row.bitmap)

    abbrev s1 : State
    s1 = stepped s over

    kept : (node : ℕ) → NoneLeftIn s node → NoneLeftIn s1 node
    kept node none = unleft_kept s over node tt (λ l more. absurd more) none

    g1 : BackedAreUnleft s1
    g1 = change_unleft s g over tt

    source_below : (filter : ℕ) → row.filter ≡ Some filter → (below : ℕ) → child s1.table filter Filtered ≡ Some below → below ≡ row.source
    unfolding changed
    source_below filter is below at =
        let f = filter_of s.table row row.kind (j.each row here).shape filter is in
        let was : child s.table filter Filtered ≡ Some below = sym (over_child s.table row.number row.slot (drops_aside o row.bitmap) filter Filtered) ∙ at in
        let both : Some below ≡ Some row.source = sym was ∙ subst (λ n. child s.table n Filtered ≡ Some row.source) f.3 f.2.over in
        cc both

    by_filter : (filter : Option ℕ) → row.filter ≡ filter
        → BackedAreUnleft (all_stepped s1 ((pulled filter ++ moves_by row row.kind o) ++ (rest_by row row.kind o ++ given_back_to s.table row o)))
    by_filter None is = all_led (later o) s1 row.target (lead_later o) (λ node at. kept node (target_none node at)) g1
    by_filter (Some filter) is =
        let pull : Change = change.PullFilter filter in
        all_led (later o) (stepped s1 pull) row.target (lead_later o)
        (λ node at. unleft_kept s1 pull node tt (λ l more. absurd more) (kept node (target_none node at)))
        (change_unleft s1 g1 pull (λ below at. subst (NoneLeftIn s1) (sym (source_below filter is below at)) (kept row.source e.source)))

    pub ends_unleft : BackedAreUnleft (all_stepped s (end_edits s.table row o))
    ends_unleft = subst (λ changes. BackedAreUnleft (all_stepped s changes)) (sym (end_is s.table row o)) (by_filter row.filter refl)

pub noted_unleft : (s : State) (row : JobRecord) (why : JobEnd) → JobsStand s.table → Contains s.table.jobs row → EndSuits s row → BackedAreUnleft s
    → BackedAreUnleft (noted_end s row why)
noted_unleft s row why j here e g =
    like_unleft (all_stepped s (changes_at_end s row why)) (noted_end s row why) refl (λ name r of. (r, of, refl)) (λ l at. at)
    (ends_unleft s row j here e g (outcome_of why))

-- ---- a guest's piece

written_unleft : (s : State) (node : ℕ) → BackedAreUnleft s → BackedAreUnleft (node_written node s)
unfolding written_under
written_unleft s node g =
    like_unleft s (node_written node s) refl
    (λ name row of.
    let r = Contains-map (unsettled_over s.table node) s.table.nodes row of.there in
    let same = as_before r.0 (is_over s.table node r.0.id) in (
      r.0,
      record { there = r.1; filename = sym (ap (λ (x : NodeRecord). x.filename) r.2 ∙ same.1) ∙ of.filename },
      sym (ap (λ (x : NodeRecord). x.id) r.2 ∙ same.0),
    )) (λ l at. at) g
  where
    as_before : (row : NodeRecord) (b : Bool) → ((cond b (record row { is_settled = false }) row).id ≡ row.id)
        × ((cond b (record row { is_settled = false }) row).filename ≡ row.filename)
    as_before row true = (refl, refl)
    as_before row false = (refl, refl)

note_unleft : (s : State) (outcome : Outcome) (part : Extent) (drive : ℕ) → BackedAreUnleft s → BackedAreUnleft (note outcome part drive s)
note_unleft s outcome part drive g = by_flag (is_noted outcome)
  where
    by_flag : (b : Bool) → BackedAreUnleft (cond b (record s { dirty = noted s.table part s.dirty (path s.table drive) }) s)
    by_flag true = g
    by_flag false = g

read_unleft : (s : State) (drive : ℕ) → BackedAreUnleft s → BackedAreUnleft (read_through drive s)
read_unleft s drive g = by_flag (copies_through s.table drive)
  where
    by_flag : (b : Bool) → BackedAreUnleft (cond b (record s { images = map (unsure (disk_node s.table drive ∷ [])) s.images }) s)
    by_flag true = g
    by_flag false = g

pub piece_unleft : (s : State) (drive : ℕ) (op : Op) (outcome : Outcome) (part : Extent) → BackedAreUnleft s → BackedAreUnleft (with_part drive op outcome part s)
piece_unleft s drive op outcome part g = by_op op
  where
    node : ℕ
    node = disk_node s.table drive

    done : Op → State
    done op = with_disk node (done_in op part (done_by outcome part)) s

    done_unleft : (op : Op) → BackedAreUnleft (done op)
    done_unleft op = like_unleft s (done op) refl (λ name r of. (r, of, refl)) (λ l at. at) g

    by_op : (op : Op) → BackedAreUnleft (with_part drive op outcome part s)
    by_op (Read span) = read_unleft (done (Read span)) drive (done_unleft (Read span))
    by_op (Write span payload) =
        note_unleft (node_written node (done (Write span payload))) outcome part drive (written_unleft (done (Write span payload)) node (done_unleft (Write span payload)))
    by_op (Zero span) = note_unleft (node_written node (done (Zero span))) outcome part drive (written_unleft (done (Zero span)) node (done_unleft (Zero span)))
    by_op (Discard span) = done_unleft (Discard span)
    by_op Flush = done_unleft Flush
