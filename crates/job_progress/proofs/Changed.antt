-- Changes that leave copies, one after another.
use Rattle.std.proofs.Common.{◌≡◌, ◌≢◌, ℕ, Bool, true, false, cond, List, [], ◌∷◌, ◌++◌, refl, sym, ap, ◌∙◌, subst, inl, inr, Option, Some, None}
use Rattle.std.specs.Prelude.{◌==◌, not, IsSome, option_and_then}
use Rattle.std.specs.List.{Contains}
use Rattle.blk_graph.specs.declared.kind.Kind.{Kind}
use Rattle.blk_graph.specs.declared.kind.Kind.TheVariants as driver
use Rattle.std.proofs.lemmas.Bool.{false≢true, eqb-true}
use Rattle.blk_graph.proofs.Members.{Contains-nil, Contains-here, Contains-there, Contains-cases, Contains-filter, Contains-map, find-Some}
use Rattle.blk_history.specs.declared.event.Event.{Event}
use Rattle.block_jobs.specs.Work.{JobWork}
use Rattle.qmp_codec.specs.declared.event.JobKind.{JobKind}
use Rattle.qmp_codec.specs.declared.event.JobKind.TheVariants.{Stream, Commit, Mirror, Backup}
use Rattle.qmp_rules.specs.declared.change.Change.{Change}
use Rattle.qmp_rules.specs.declared.change.Change.TheVariants as change
use Rattle.qmp_rules.specs.declared.rows.AskedEnd.{AskedEnd}
use Rattle.qmp_rules.specs.declared.rows.NodeRecord.{NodeRecord}
use Rattle.qmp_rules.specs.declared.rows.JobRecord.{JobRecord}
use Rattle.qmp_rules.specs.Asks.{name_of_file}
use Rattle.qmp_rules.specs.Chains.{filter_role}
use Rattle.qmp_rules.specs.Changes.{changed, asked_for, ready_for, followed}
use Rattle.qmp_rules.specs.Queries.{bytes_of_node}
use Rattle.qmp_rules.specs.Table.{RunTable, node_by_id}
use Rattle.flat_machine.specs.Agreement.{Contents}
use Rattle.flat_machine.specs.Begun.{begun_of}
use Rattle.flat_machine.specs.Changed.{beside, stepped, all_stepped, put, know_if, name_if, note_image, leave, left_disk, content_under, bytes_by_format, name_file, new_bytes, overlay_file}
use Rattle.flat_machine.specs.Contents.{mapped_in, file_bytes}
use Rattle.flat_machine.specs.Jobs.{writes_target}
use Rattle.flat_machine.specs.Performing.{Performed, AllPerformed, IsQuiet}
use Rattle.flat_machine.specs.State.{State, Content, Unknown, Mapped, Left, bytes_in, bytes_at_node, content_in, filename_of}
use Rattle.flat_machine.proofs.Finds.{bytes_in-put_other, bytes_in-drop}
use Rattle.flat_machine.proofs.Kept.{own_disk}
use Rattle.job_tables.specs.Changes.{IsNoJobs}
use Rattle.job_tables.specs.Jobs.{CopyStands, CommitJobStands, StandsByKind, JobsStand}
use Rattle.job_tables.specs.Rows.{nodes_of_job}
use Rattle.job_tables.proofs.RowEdges.{in_either, in_left, in_right}
use Rattle.job_works.specs.Works.{work_of}
use Rattle.job_progress.specs.Going.{AreJobsAhead}
use Rattle.job_progress.specs.Leaving.{AreNoJobs, LeavesCopies, AllLeaveCopies}
use Rattle.job_progress.proofs.Stays.{IsOwn, own_then, IsOfJobs, not_gone, stays}
use Rattle.job_progress.proofs.Goes.{IsAlike, alike_itself, goes}

-- ---- what every table has

-- what copies holds its source and its target or base
pub record HoldsBoth (row : JobRecord) : Type 0 where
  pub source : Contains (nodes_of_job row) row.source
  pub target : (target : ℕ) → row.target ≡ Some target → Contains (nodes_of_job row) target

pub record Rests (works : List JobWork) (t : RunTable) : Type 0 where
  pub own : (node : ℕ) → IsOfJobs works t node → IsOwn t node
  pub holds : (row : JobRecord) → Contains t.jobs row → IsSome (work_of works row.number) → writes_target row.kind ≡ true → HoldsBoth row

copy_holds : (t : RunTable) (row : JobRecord) (kind : Kind) → CopyStands t row kind → HoldsBoth row
copy_holds t row kind c = record {
  source = rw (nodes_of_job, c.held) (Contains-here row.source (c.target ∷ row.read));
  target = λ target is.
      let both : Some c.target ≡ Some target = sym c.is_target ∙ is in
      let one : c.target ≡ target = cc both in
      subst (Contains (nodes_of_job row)) one
      (rw (nodes_of_job, c.held) (Contains-there row.source (c.target ∷ row.read) c.target (Contains-here c.target row.read)));
}

commit_holds : (t : RunTable) (row : JobRecord) → CommitJobStands t row → HoldsBoth row
commit_holds t row c = record {
  source = rw (nodes_of_job, c.held) (Contains-here row.source ((c.between ++ c.base ∷ []) ++ row.read));
  target = λ target is.
      let both : Some c.base ≡ Some target = sym c.is_base ∙ is in
      let one : c.base ≡ target = cc both in
      subst (Contains (nodes_of_job row)) one
      (in_left row.held row.read c.base
      (subst (λ ids. Contains ids c.base) (sym c.held)
      (Contains-there row.source (c.between ++ c.base ∷ []) c.base (in_right c.between (c.base ∷ []) c.base (Contains-here c.base [])))));
}

pub rests_by : (works : List JobWork) (t : RunTable) → JobsStand t → Rests works t
rests_by works t j = record {
  own = λ node of. let p = (j.each of.row of.there).plain node of.held in record { row = p.row; found = p.there; own = p.own };
  holds = λ row there some copies. by_kind row row.kind copies (j.each row there).shape;
}
  where
    by_kind : (row : JobRecord) (k : JobKind) → writes_target k ≡ true → StandsByKind t row k → HoldsBoth row
    by_kind row Stream copies s = absurd (false≢true copies)
    by_kind row Commit copies s = commit_holds t row s
    by_kind row Mirror copies s = copy_holds t row driver.Mirror s
    by_kind row Backup copies s = copy_holds t row driver.BeforeWrite s

-- ---- rows of jobs: each was there, or has no work yet

pub record Came (t : RunTable) (later : JobRecord) : Type 0 where
  pub row : JobRecord
  pub there : Contains t.jobs row
  pub alike : IsAlike row later
  pub nodes : nodes_of_job later ≡ nodes_of_job row

pub came_itself : (t : RunTable) (row : JobRecord) → Contains t.jobs row → Came t row
came_itself t row there = record { row = row; there = there; alike = alike_itself row; nodes = refl }

pub came_asked : (t : RunTable) (number : ℕ) (new : AskedEnd) (row later : JobRecord) → Contains t.jobs row → later ≡ asked_for number new row → Came t later
came_asked t number new row later there is = subst (Came t) (sym is) (by_test (row.number == number))
  where
    by_test : (b : Bool) → Came t (cond b (record row { asked = followed row.asked new }) row)
    by_test true = record { row = row; there = there; alike = record { number = refl; kind = refl; source = refl; target = refl; bitmap = refl }; nodes = refl }
    by_test false = came_itself t row there

pub came_ready : (t : RunTable) (number : ℕ) (row later : JobRecord) → Contains t.jobs row → later ≡ ready_for number row → Came t later
came_ready t number row later there is = subst (Came t) (sym is) (by_test (row.number == number))
  where
    by_test : (b : Bool) → Came t (cond b (record row { is_ready = true }) row)
    by_test true = record { row = row; there = there; alike = record { number = refl; kind = refl; source = refl; target = refl; bitmap = refl }; nodes = refl }
    by_test false = came_itself t row there

module _ (works : List JobWork) (t : RunTable) (later : JobRecord) (some : IsSome (work_of works later.number)) where
  pub came : (c : Change) → LeavesCopies works t c → Contains (changed t c).jobs later → Came t later
  unfolding changed
  came (change.StartJob row) leaves there = elim (in_either t.jobs (row ∷ []) later there) [
    | inl was ↦ came_itself t later was
    | inr new ↦ elim (Contains-cases row [] later new) [
      | inl same ↦ absurd (let bad = subst IsSome leaves (subst (λ (r : JobRecord). IsSome (work_of works r.number)) same some) in cc)
      | inr more ↦ absurd (Contains-nil later more)
    ]
  ]
  came (change.AskJob number new) leaves there = let m = Contains-map (asked_for number new) t.jobs later there in came_asked t number new m.0 later m.1 m.2
  came (change.ReadyJob number) leaves there = let m = Contains-map (ready_for number) t.jobs later there in came_ready t number m.0 later m.1 m.2
  came (change.EndJob number slot drops) leaves there = came_itself t later (Contains-filter (λ (job : JobRecord). not (job.number == number)) t.jobs later there).0
  came c leaves there = came_itself t later there

-- ---- beside the table

disks_named : (name : Option (List ℕ)) (s : State) → (name_if name s).disks ≡ s.disks
disks_named None s = refl
disks_named (Some name) s = refl

disks_known : (name : Option (List ℕ)) (content : Content) (s : State) → (know_if name content s).disks ≡ s.disks
disks_known None content s = refl
disks_known (Some name) content s = refl

disks_noted : (kind : Kind) (node : ℕ) (mapped : Mapped) (s : State) → (note_image kind node mapped s).disks ≡ s.disks
disks_noted driver.Qcow2 node mapped s = refl
disks_noted driver.Protocol node mapped s = refl
disks_noted driver.Raw node mapped s = refl
disks_noted driver.CopyOnRead node mapped s = refl
disks_noted driver.BeforeWrite node mapped s = refl
disks_noted driver.Mirror node mapped s = refl
disks_noted driver.Commit node mapped s = refl

disks_left : (left : Option Left) (s : State) → (leave left s).disks ≡ s.disks
disks_left None s = refl
disks_left (Some left) s = refl

begun_named : (name : Option (List ℕ)) (s : State) → (name_if name s).begun ≡ s.begun
begun_named None s = refl
begun_named (Some name) s = refl

begun_known : (name : Option (List ℕ)) (content : Content) (s : State) → (know_if name content s).begun ≡ s.begun
begun_known None content s = refl
begun_known (Some name) content s = refl

begun_noted : (kind : Kind) (node : ℕ) (mapped : Mapped) (s : State) → (note_image kind node mapped s).begun ≡ s.begun
begun_noted driver.Qcow2 node mapped s = refl
begun_noted driver.Protocol node mapped s = refl
begun_noted driver.Raw node mapped s = refl
begun_noted driver.CopyOnRead node mapped s = refl
begun_noted driver.BeforeWrite node mapped s = refl
begun_noted driver.Mirror node mapped s = refl
begun_noted driver.Commit node mapped s = refl

begun_left : (left : Option Left) (s : State) → (leave left s).begun ≡ s.begun
begun_left None s = refl
begun_left (Some left) s = refl

-- what starts found stays
pub begun_stays : (s : State) (c : Change) → (beside s c).begun ≡ s.begun
begun_stays s (change.AddFile row) = by_test row.read_only
  where
    added : State
    added = put row.id (file_bytes row.size (content_in s.files (name_of_file row))) s

    by_test : (b : Bool) → (cond b added (name_file (name_of_file row) added)).begun ≡ s.begun
    by_test true = refl
    by_test false = refl
begun_stays s (change.AddFormat row file backing) =
    begun_known (filename_of s.table file) Unknown
    (note_image row.kind row.id (mapped_in (content_under s file)) (put row.id (bytes_by_format s row file backing row.kind) s))
    ∙ begun_noted row.kind row.id (mapped_in (content_under s file)) (put row.id (bytes_by_format s row file backing row.kind) s)
begun_stays s (change.RemoveNode node) = begun_left (option_and_then (left_disk s) (node_by_id s.table node)) s
begun_stays s (change.MakeWritable node) = begun_named (filename_of s.table node) s
begun_stays s (change.StartJob row) = begun_named (overlay_file s.table row row.kind) s
begun_stays s c = refl

module _ (works : List JobWork) (s : State) (node : ℕ) (of : IsOfJobs works s.table node) where
  differs : (gone : ℕ) → IsNoJobs s.table gone → node ≢ gone
  differs gone none = not_gone works s.table node gone of none

  put_stays : (at : ℕ) (bytes : List ℕ) → IsNoJobs s.table at → bytes_in (put at bytes s).disks node ≡ bytes_in s.disks node
  put_stays at bytes none = bytes_in-put_other at node bytes s.disks (differs at none)

  -- and so does a job's disk
  pub disk_stays : (c : Change) → LeavesCopies works s.table c → bytes_in (beside s c).disks node ≡ bytes_in s.disks node
  disk_stays (change.AddFile row) leaves = by_test row.read_only
    where
      bytes : List ℕ
      bytes = file_bytes row.size (content_in s.files (name_of_file row))

      by_test : (b : Bool) → bytes_in (cond b (put row.id bytes s) (name_file (name_of_file row) (put row.id bytes s))).disks node ≡ bytes_in s.disks node
      by_test true = put_stays row.id bytes leaves
      by_test false = put_stays row.id bytes leaves
  disk_stays (change.AddFormat row file backing) leaves =
      let added : State = put row.id (bytes_by_format s row file backing row.kind) s in
      ap (λ ds. bytes_in ds node)
      (disks_known (filename_of s.table file) Unknown (note_image row.kind row.id (mapped_in (content_under s file)) added)
      ∙ disks_noted row.kind row.id (mapped_in (content_under s file)) added)
      ∙ put_stays row.id (bytes_by_format s row file backing row.kind) leaves
  disk_stays (change.RemoveNode gone) leaves =
      bytes_in-drop gone node (leave (option_and_then (left_disk s) (node_by_id s.table gone)) s).disks (differs gone leaves)
      ∙ ap (λ ds. bytes_in ds node) (disks_left (option_and_then (left_disk s) (node_by_id s.table gone)) s)
  disk_stays (change.MakeWritable id) leaves = ap (λ ds. bytes_in ds node) (disks_named (filename_of s.table id) s)
  disk_stays (change.StartJob row) leaves = ap (λ ds. bytes_in ds node) (disks_named (overlay_file s.table row row.kind) s)
  disk_stays (change.Attach overlay under) leaves = put_stays overlay (bytes_at_node s under) leaves
  disk_stays (change.Settle at disk) leaves = put_stays at (new_bytes s disk) leaves
  disk_stays c leaves = refl

  -- a file of which a change says something is not that of a job's node
  not_of_file : IsOwn s.table node → (name : List ℕ) → AreNoJobs s.table name → filename_of s.table node ≡ Some name → ⊥
  not_of_file own name none is =
      let at = find-Some (λ (row : NodeRecord). row.id == node) s.table.nodes own.row own.found in
      let named : own.row.filename ≡ Some name = sym (rw (filename_of, own.found) refl) ∙ is in
      (none own.row at.0 named).held of.row of.there (subst (Contains (nodes_of_job of.row)) (sym (eqb-true own.row.id node at.1)) of.held)

  -- and what a job's node reads as
  pub reads_stay : (c : Change) (old new : Contents) → IsOwn s.table node → LeavesCopies works s.table c → Performed s c old new → new.reads node ≡ old.reads node
  reads_stay (change.AddFile row) old new own leaves did = did.nodes node (differs row.id leaves)
  reads_stay (change.AddFormat row file backing) old new own leaves did = did.nodes node (differs row.id leaves)
  reads_stay (change.AddFilter row over) old new own leaves did = did.nodes node (differs row.id leaves)
  reads_stay (change.PutFilter row over) old new own leaves did = did.nodes node (differs row.id leaves)
  reads_stay (change.RemoveNode gone) old new own leaves did = did.nodes node (differs gone leaves)
  reads_stay (change.MakeFile name size) old new own leaves did = did.0.nodes node (λ never. never)
  reads_stay (change.FormatFile at name size backing_file backing_fmt) old new own leaves did = did.0.nodes node (differs at leaves)
  reads_stay (change.SpoilFile name) old new own leaves did = did.nodes node (not_of_file own name leaves)
  reads_stay (change.Attach overlay under) old new own leaves did = did.nodes node (differs overlay leaves)
  reads_stay (change.PullFilter filter) old new own leaves did = did.nodes node (differs filter leaves)
  reads_stay (change.Rebase at backing) old new own leaves did = did.nodes node (λ under. differs node (leaves node under) refl)
  reads_stay (change.Settle at disk) old new own leaves did = did.nodes node (differs at leaves)
  reads_stay c old new own leaves did = did.nodes node (λ never. never)

-- ---- a change

-- what a job holds was held before
of_then : (works : List JobWork) (t : RunTable) (c : Change) → LeavesCopies works t c → (node : ℕ) → IsOfJobs works (changed t c) node → IsOfJobs works t node
of_then works t c leaves node of =
    let was = came works t of.row of.has c leaves of.there in
    record {
      row = was.row;
      there = was.there;
      held = subst (λ ids. Contains ids node) was.nodes of.held;
      has = subst (λ n. IsSome (work_of works n)) was.alike.number of.has;
    }

rests_then : (works : List JobWork) (t : RunTable) (c : Change) → LeavesCopies works t c → Rests works t → Rests works (changed t c)
rests_then works t c leaves r = record {
  own = λ node of.
      let was = of_then works t c leaves node of in
      own_then t (changed t c) node (stays works t node (r.own node was) was c leaves);
  holds = λ later there some copies.
      let was = came works t later some c leaves there in
      let both = r.holds was.row was.there (subst (λ n. IsSome (work_of works n)) was.alike.number some) (ap writes_target (sym was.alike.kind) ∙ copies) in
      record {
        source = subst (λ ids. Contains ids later.source) (sym was.nodes) (subst (Contains (nodes_of_job was.row)) (sym was.alike.source) both.source);
        target = λ target is. subst (λ ids. Contains ids target) (sym was.nodes) (both.target target (sym was.alike.target ∙ is));
      };
}

pub size_of : (t : RunTable) (node : ℕ) (row : NodeRecord) → node_by_id t node ≡ Some row → bytes_of_node t node ≡ row.size
size_of t node row found = rw (bytes_of_node, found) refl

module _ (works : List JobWork) (first : State) (h : List Event) where
  step_goes : (s : State) (c : Change) (old new : Contents) → Rests works s.table → LeavesCopies works s.table c → Performed s c old new
      → AreJobsAhead first h s old.reads works → AreJobsAhead first h (stepped s c) new.reads works
  step_goes s c old new r leaves did go later work there copies is going =
      let some : IsSome (work_of works later.number) = subst IsSome (sym is) refl in
      let was = came works s.table later some c leaves there in
      let some_then = subst (λ n. IsSome (work_of works n)) was.alike.number some in
      let both = r.holds was.row was.there some_then (ap writes_target (sym was.alike.kind) ∙ copies) in
      let of_source : IsOfJobs works s.table was.row.source = record { row = was.row; there = was.there; held = both.source; has = some_then } in
      let own = r.own was.row.source of_source in
      let stay = stays works s.table was.row.source own of_source c leaves in
      goes first h s (stepped s c) old.reads new.reads was.row later work was.alike
      (record {
        begun = ap (λ bs. begun_of bs was.row.number) (begun_stays s c);
        size = size_of (changed s.table c) was.row.source stay.later stay.found ∙ stay.size ∙ sym (size_of s.table was.row.source stay.was.row stay.was.found);
        source =
            ap (bytes_in (beside s c).disks) (own_disk (changed s.table c) was.row.source stay.later stay.found (ap filter_role stay.kind ∙ stay.was.own))
            ∙ disk_stays works s was.row.source of_source c leaves
            ∙ ap (bytes_in s.disks) (sym (own_disk s.table was.row.source own.row own.found own.own));
        target = λ target to.
            let of_target : IsOfJobs works s.table target = record { row = was.row; there = was.there; held = both.target target to; has = some_then } in
            reads_stay works s target of_target c old new (r.own target of_target) leaves did;
      })
      (go was.row work was.there (ap writes_target (sym was.alike.kind) ∙ copies) (ap (work_of works) (sym was.alike.number) ∙ is) going)

  quiet_goes : (s : State) (old new : Contents) → IsQuiet old new → AreJobsAhead first h s old.reads works → AreJobsAhead first h s new.reads works
  quiet_goes s old new quiet go row work there copies is going =
      goes first h s s old.reads new.reads row row work (alike_itself row)
      (record { begun = refl; size = refl; source = refl; target = λ target to. quiet.nodes target (λ never. never) })
      (go row work there copies is going)

  pub all_go : (changes : List Change) (s : State) (old new : Contents) → Rests works s.table → AllLeaveCopies works s.table changes → AllPerformed s changes old new
      → AreJobsAhead first h s old.reads works → AreJobsAhead first h (all_stepped s changes) new.reads works
  all_go [] s old new r leaves did go = quiet_goes s old new did go
  all_go (c ∷ changes) s old new r leaves did go =
      all_go changes (stepped s c) did.0 new (rests_then works s.table c leaves.0 r) leaves.1 did.2
      (step_goes s c old did.0 r leaves.0 did.1 go)
