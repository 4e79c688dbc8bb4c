-- Nodes of jobs stay what they are behind changes that leave copies.
use Rattle.std.proofs.Common.{◌≡◌, ◌≢◌, ℕ, Bool, true, false, cond, List, [], ◌∷◌, ◌++◌, map, refl, ap, ◌∙◌, subst, Some, None}
use Rattle.std.specs.Prelude.{◌==◌, IsSome}
use Rattle.std.specs.Option.{option_map}
use Rattle.std.specs.List.{Contains, find}
use Rattle.block_jobs.specs.Work.{JobWork}
use Rattle.qmp_rules.specs.declared.change.Change.{Change}
use Rattle.qmp_rules.specs.declared.change.Change.TheVariants as change
use Rattle.qmp_rules.specs.declared.rows.NodeRecord.{NodeRecord}
use Rattle.qmp_rules.specs.declared.rows.JobRecord.{JobRecord}
use Rattle.qmp_rules.specs.Chains.{filter_role}
use Rattle.qmp_rules.specs.Changes.{changed, without_record, node_changed, unsettled, settled, writable, kept_from_writes, lost_with, stands_over}
use Rattle.qmp_rules.specs.Table.{RunTable, node_by_id}
use Rattle.flat_machine.proofs.Finds.{find-map}
use Rattle.job_tables.specs.Changes.{IsNoJobs}
use Rattle.job_tables.specs.Rows.{nodes_of_job}
use Rattle.job_tables.proofs.NodeKinds.{still_found}
use Rattle.job_works.specs.Works.{work_of}
use Rattle.job_progress.specs.Leaving.{LeavesCopies}

-- ---- a node that is no filter

pub record IsOwn (t : RunTable) (node : ℕ) : Type 0 where
  pub row : NodeRecord
  pub found : node_by_id t node ≡ Some row
  pub own : filter_role row.kind ≡ None

-- it stays so, and of its size
pub record StaysAt (t now : RunTable) (node : ℕ) : Type 0 where
  pub was : IsOwn t node
  pub later : NodeRecord
  pub found : node_by_id now node ≡ Some later
  pub kind : later.kind ≡ was.row.kind
  pub size : later.size ≡ was.row.size

pub own_then : (t now : RunTable) (node : ℕ) → StaysAt t now node → IsOwn now node
own_then t now node s = record { row = s.later; found = s.found; own = ap filter_role s.kind ∙ s.was.own }

-- a node of a job that has a work
pub record IsOfJobs (works : List JobWork) (t : RunTable) (node : ℕ) : Type 0 where
  pub row : JobRecord
  pub there : Contains t.jobs row
  pub held : Contains (nodes_of_job row) node
  pub has : IsSome (work_of works row.number)

pub not_gone : (works : List JobWork) (t : RunTable) (node gone : ℕ) → IsOfJobs works t node → IsNoJobs t gone → node ≢ gone
not_gone works t node gone of none same = none.held of.row of.there (subst (Contains (nodes_of_job of.row)) same of.held)

-- ---- by what becomes of the rows

stays_same : (t now : RunTable) (node : ℕ) → IsOwn t node → node_by_id now node ≡ node_by_id t node → StaysAt t now node
stays_same t now node own same = record { was = own; later = own.row; found = same ∙ own.found; kind = refl; size = refl }

-- a row that keeps id, kind and size
pub record IsAs (row later : NodeRecord) : Type 0 where
  pub id : later.id ≡ row.id
  pub kind : later.kind ≡ row.kind
  pub size : later.size ≡ row.size

pub stays_mapped : (t now : RunTable) (node : ℕ) (f : NodeRecord → NodeRecord) → ((row : NodeRecord) → IsAs row (f row)) → now.nodes ≡ map f t.nodes
    → IsOwn t node → StaysAt t now node
stays_mapped t now node f alike nodes own = record {
  was = own;
  later = f own.row;
  found = ap (find (λ r. r.id == node)) nodes ∙ find-map (λ r. r.id == node) f (λ r. ap (λ k. k == node) (alike r).id) t.nodes ∙ ap (option_map f) own.found;
  kind = (alike own.row).kind;
  size = (alike own.row).size;
}

find_before : (p : NodeRecord → Bool) (xs ys : List NodeRecord) (x : NodeRecord) → find p xs ≡ Some x → find p (xs ++ ys) ≡ Some x
find_before p [] ys x h = absurd cc
find_before p (z ∷ xs) ys x h = by_test (p z) (find_before p xs ys x) h
  where
    by_test : (b : Bool) → (find p xs ≡ Some x → find p (xs ++ ys) ≡ Some x) → cond b (Some z) (find p xs) ≡ Some x → cond b (Some z) (find p (xs ++ ys)) ≡ Some x
    by_test true ih k = k
    by_test false ih k = ih k

stays_pushed : (t now : RunTable) (node : ℕ) (more : List NodeRecord) → now.nodes ≡ t.nodes ++ more → IsOwn t node → StaysAt t now node
stays_pushed t now node more nodes own = record {
  was = own;
  later = own.row;
  found = ap (find (λ r. r.id == node)) nodes ∙ find_before (λ r. r.id == node) t.nodes more own.row own.found;
  kind = refl;
  size = refl;
}

-- ---- the rows' changes

as_changed : (id : ℕ) (f : NodeRecord → NodeRecord) → ((row : NodeRecord) → IsAs row (f row)) → (row : NodeRecord) → IsAs row (node_changed id f row)
as_changed id f alike row = by_test (row.id == id)
  where
    by_test : (b : Bool) → IsAs row (cond b (f row) row)
    by_test true = alike row
    by_test false = record { id = refl; kind = refl; size = refl }

as_unsettled : (row : NodeRecord) → IsAs row (unsettled row)
as_unsettled row = record { id = refl; kind = refl; size = refl }

as_settled : (row : NodeRecord) → IsAs row (settled row)
as_settled row = record { id = refl; kind = refl; size = refl }

as_writable : (row : NodeRecord) → IsAs row (writable row)
as_writable row = record { id = refl; kind = refl; size = refl }

as_kept : (row : NodeRecord) → IsAs row (kept_from_writes row)
as_kept row = record { id = refl; kind = refl; size = refl }

as_lost : (name : List ℕ) (row : NodeRecord) → IsAs row (lost_with name row)
as_lost name row = by_test (stands_over name row.filename)
  where
    by_test : (b : Bool) → IsAs row (cond b (unsettled row) row)
    by_test true = as_unsettled row
    by_test false = record { id = refl; kind = refl; size = refl }

-- ---- each kind of change

module _ (works : List JobWork) (t : RunTable) (node : ℕ) (own : IsOwn t node) (of : IsOfJobs works t node) where
  mapped : (now : RunTable) (f : NodeRecord → NodeRecord) → ((row : NodeRecord) → IsAs row (f row)) → now.nodes ≡ map f t.nodes → StaysAt t now node
  mapped now f alike nodes = stays_mapped t now node f alike nodes own

  dropped : (now : RunTable) (gone : ℕ) → IsNoJobs t gone → node_by_id now node ≡ find (λ row. row.id == node) (without_record gone t.nodes) → StaysAt t now node
  dropped now gone none same = stays_same t now node own (same ∙ still_found t gone node (not_gone works t node gone of none))

  -- what a job holds stays what it is
  pub stays : (c : Change) → LeavesCopies works t c → StaysAt t (changed t c) node
  unfolding changed stays_pushed stays_mapped own_then
  stays change.Negotiate leaves = stays_same t (changed t change.Negotiate) node own refl
  stays (change.KeepId id) leaves = stays_same t (changed t (change.KeepId id)) node own refl
  stays (change.DropId id) leaves = stays_same t (changed t (change.DropId id)) node own refl
  stays (change.MakeFile name size) leaves = stays_same t (changed t (change.MakeFile name size)) node own refl
  stays (change.FormatFile n name size backing_file backing_fmt) leaves =
      mapped (changed t (change.FormatFile n name size backing_file backing_fmt)) (node_changed n unsettled) (as_changed n unsettled as_unsettled) refl
  stays (change.SpoilFile name) leaves = mapped (changed t (change.SpoilFile name)) (lost_with name) (as_lost name) refl
  stays (change.UseFile name) leaves = stays_same t (changed t (change.UseFile name)) node own refl
  stays (change.AddFile row) leaves = stays_pushed t (changed t (change.AddFile row)) node (row ∷ []) refl own
  stays (change.AddFormat row file backing) leaves =
      let first = stays_mapped t (record t { nodes = map (node_changed file unsettled) t.nodes }) node (node_changed file unsettled) (as_changed file unsettled as_unsettled) refl own in
      let then = stays_pushed (record t { nodes = map (node_changed file unsettled) t.nodes }) (changed t (change.AddFormat row file backing)) node (row ∷ []) refl
      (own_then t (record t { nodes = map (node_changed file unsettled) t.nodes }) node first) in
      record { was = own; later = then.later; found = then.found; kind = then.kind ∙ first.kind; size = then.size ∙ first.size }
  stays (change.AddFilter row child) leaves = stays_pushed t (changed t (change.AddFilter row child)) node (row ∷ []) refl own
  stays (change.RemoveNode gone) leaves = dropped (changed t (change.RemoveNode gone)) gone leaves refl
  stays (change.Unsettle id) leaves = mapped (changed t (change.Unsettle id)) (node_changed id unsettled) (as_changed id unsettled as_unsettled) refl
  stays (change.MakeWritable id) leaves = mapped (changed t (change.MakeWritable id)) (node_changed id writable) (as_changed id writable as_writable) refl
  stays (change.PutFilter row over) leaves = stays_pushed t (changed t (change.PutFilter row over)) node (row ∷ []) refl own
  stays (change.UseNode slot what n) leaves = stays_same t (changed t (change.UseNode slot what n)) node own refl
  stays (change.StartJob row) leaves = stays_same t (changed t (change.StartJob row)) node own refl
  stays (change.AskJob number new) leaves = stays_same t (changed t (change.AskJob number new)) node own refl
  stays (change.ReadyJob number) leaves = stays_same t (changed t (change.ReadyJob number)) node own refl
  stays (change.EndJob number slot drops) leaves = stays_same t (changed t (change.EndJob number slot drops)) node own refl
  stays (change.PullFilter filter) leaves = dropped (changed t (change.PullFilter filter)) filter leaves refl
  stays (change.Rebase n backing) leaves = stays_same t (changed t (change.Rebase n backing)) node own refl
  stays (change.Settle n disk) leaves = mapped (changed t (change.Settle n disk)) (node_changed n settled) (as_changed n settled as_settled) refl
  stays (change.MakeReadOnly id) leaves = mapped (changed t (change.MakeReadOnly id)) (node_changed id kept_from_writes) (as_changed id kept_from_writes as_kept) refl
  stays (change.AddDevice device n) leaves = stays_same t (changed t (change.AddDevice device n)) node own refl
  stays (change.RemoveDevice number) leaves = stays_same t (changed t (change.RemoveDevice number)) node own refl
  stays (change.Attach overlay n) leaves = stays_same t (changed t (change.Attach overlay n)) node own refl
  stays (change.Move from to but) leaves = stays_same t (changed t (change.Move from to but)) node own refl
  stays (change.AddBitmap row) leaves = stays_same t (changed t (change.AddBitmap row)) node own refl
  stays (change.RemoveBitmap n name) leaves = stays_same t (changed t (change.RemoveBitmap n name)) node own refl
  stays (change.TurnBitmap n name on) leaves = stays_same t (changed t (change.TurnBitmap n name on)) node own refl
  stays (change.ClearBitmap n name) leaves = stays_same t (changed t (change.ClearBitmap n name)) node own refl
  stays (change.MergeBitmap n name source_node source) leaves = stays_same t (changed t (change.MergeBitmap n name source_node source)) node own refl
