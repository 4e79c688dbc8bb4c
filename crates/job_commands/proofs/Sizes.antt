-- Nodes keep kind and size behind each kind of change but those by which they go.
use Rattle.std.proofs.Common.{◌≡◌, ◌≢◌, ℕ, Bool, true, false, cond, List, [], ◌∷◌, ◌++◌, map, refl, ap, ◌∙◌, Some}
use Rattle.std.specs.Prelude.{◌==◌}
use Rattle.std.specs.Option.{option_map}
use Rattle.std.specs.List.{find}
use Rattle.qmp_rules.specs.declared.change.Change.{Change}
use Rattle.qmp_rules.specs.declared.change.Change.TheVariants as change
use Rattle.qmp_rules.specs.declared.rows.NodeRecord.{NodeRecord}
use Rattle.qmp_rules.specs.Changes.{changed, all_changed, node_changed, unsettled, with_unsettled, writable, settled, kept_from_writes, lost_with, stands_over}
use Rattle.qmp_rules.specs.Queries.{bytes_of_node}
use Rattle.qmp_rules.specs.Table.{RunTable, node_by_id}
use Rattle.flat_machine.proofs.Finds.{find-map}
use Rattle.flat_machine.proofs.Fresh.{found-longer}
use Rattle.job_tables.proofs.NodeKinds.{still_found}

-- the row of a node, later
pub record HasLater (now : RunTable) (node : ℕ) (row : NodeRecord) : Type 0 where
  pub later : NodeRecord
  pub found : node_by_id now node ≡ Some later
  pub kind : later.kind ≡ row.kind
  pub size : later.size ≡ row.size

abbrev pub StaysNode : RunTable → RunTable → ℕ → Type 0
StaysNode t now node = (row : NodeRecord) → node_by_id t node ≡ Some row → HasLater now node row

pub row_stays_then : (a b c : RunTable) (node : ℕ) → StaysNode a b node → StaysNode b c node → StaysNode a c node
row_stays_then a b c node ab bc row found =
    let x = ab row found in
    let y = bc x.later x.found in
    record { later = y.later; found = y.found; kind = y.kind ∙ x.kind; size = y.size ∙ x.size }

pub row_stays_same : (t now : RunTable) (node : ℕ) → node_by_id now node ≡ node_by_id t node → StaysNode t now node
row_stays_same t now node same row found = record { later = row; found = same ∙ found; kind = refl; size = refl }

-- a row that keeps id, kind and size
pub record KeepsKindAndSize (f : NodeRecord → NodeRecord) (row : NodeRecord) : Type 0 where
  pub id : (f row).id ≡ row.id
  pub kind : (f row).kind ≡ row.kind
  pub size : (f row).size ≡ row.size

pub row_stays_mapped : (t now : RunTable) (f : NodeRecord → NodeRecord) (node : ℕ) → ((row : NodeRecord) → KeepsKindAndSize f row) → now.nodes ≡ map f t.nodes → StaysNode t now node
row_stays_mapped t now f node keeps nodes row found = record {
  later = f row;
  found =
      ap (find (λ (r : NodeRecord). r.id == node)) nodes
      ∙ find-map (λ (r : NodeRecord). r.id == node) f (λ r. ap (λ k. k == node) (keeps r).id) t.nodes ∙ ap (option_map f) found;
  kind = (keeps row).kind;
  size = (keeps row).size;
}

pub row_stays_pushed : (t now : RunTable) (new : NodeRecord) (node : ℕ) → now.nodes ≡ t.nodes ++ new ∷ [] → StaysNode t now node
row_stays_pushed t now new node nodes row found = record {
  later = row;
  found = ap (find (λ (r : NodeRecord). r.id == node)) nodes ∙ found-longer (λ (r : NodeRecord). r.id == node) t.nodes new row found;
  kind = refl;
  size = refl;
}

-- ---- what becomes of rows

pub keeps_where : (test : NodeRecord → Bool) (f : NodeRecord → NodeRecord) → ((row : NodeRecord) → KeepsKindAndSize f row) → (row : NodeRecord)
    → KeepsKindAndSize (λ r. cond (test r) (f r) r) row
keeps_where test f keeps row = let k = by_test (test row) in record { id = k.0; kind = k.1; size = k.2 }
  where
    by_test : (b : Bool) → ((cond b (f row) row).id ≡ row.id) × ((cond b (f row) row).kind ≡ row.kind) × ((cond b (f row) row).size ≡ row.size)
    by_test true = let k = keeps row in (k.id, k.kind, k.size)
    by_test false = (refl, refl, refl)

pub keeps_unsettled : (row : NodeRecord) → KeepsKindAndSize unsettled row
keeps_unsettled row = record { id = refl; kind = refl; size = refl }

pub keeps_writable : (row : NodeRecord) → KeepsKindAndSize writable row
keeps_writable row = record { id = refl; kind = refl; size = refl }

pub keeps_settled : (row : NodeRecord) → KeepsKindAndSize settled row
keeps_settled row = record { id = refl; kind = refl; size = refl }

pub keeps_read_only : (row : NodeRecord) → KeepsKindAndSize kept_from_writes row
keeps_read_only row = record { id = refl; kind = refl; size = refl }

-- ---- each kind of change

-- the node doesn't go by it
abbrev pub LeavesNode : ℕ → Change → Type 0
LeavesNode node (change.RemoveNode gone) = node ≢ gone
LeavesNode node (change.PullFilter filter) = node ≢ filter
LeavesNode node c = Unit {0}

abbrev pub AllLeaveNode : ℕ → List Change → Type 0
AllLeaveNode node [] = Unit {0}
AllLeaveNode node (c ∷ changes) = LeavesNode node c × AllLeaveNode node changes

module _ (t : RunTable) (node : ℕ) where
  mapped : (c : Change) (f : NodeRecord → NodeRecord) → ((row : NodeRecord) → KeepsKindAndSize f row) → (changed t c).nodes ≡ map f t.nodes → StaysNode t (changed t c) node
  mapped c f keeps nodes = row_stays_mapped t (changed t c) f node keeps nodes

  pub change_stays : (c : Change) → LeavesNode node c → StaysNode t (changed t c) node
  unfolding changed
  change_stays (change.FormatFile id name size backing_file backing_fmt) leaves =
      mapped (change.FormatFile id name size backing_file backing_fmt) (node_changed id unsettled) (keeps_where (λ r. r.id == id) unsettled keeps_unsettled) refl
  change_stays (change.SpoilFile name) leaves =
      mapped (change.SpoilFile name) (lost_with name) (keeps_where (λ r. stands_over name r.filename) unsettled keeps_unsettled) refl
  change_stays (change.AddFile row) leaves = row_stays_pushed t (changed t (change.AddFile row)) row node refl
  change_stays (change.AddFormat row file backing) leaves =
      let between : RunTable = record t { nodes = with_unsettled file t.nodes } in
      row_stays_then t between (changed t (change.AddFormat row file backing)) node
      (row_stays_mapped t between (node_changed file unsettled) node (keeps_where (λ r. r.id == file) unsettled keeps_unsettled) refl)
      (row_stays_pushed between (changed t (change.AddFormat row file backing)) row node refl)
  change_stays (change.AddFilter row child) leaves = row_stays_pushed t (changed t (change.AddFilter row child)) row node refl
  change_stays (change.PutFilter row over) leaves = row_stays_pushed t (changed t (change.PutFilter row over)) row node refl
  change_stays (change.RemoveNode gone) leaves = row_stays_same t (changed t (change.RemoveNode gone)) node (still_found t gone node leaves)
  change_stays (change.PullFilter filter) leaves = row_stays_same t (changed t (change.PullFilter filter)) node (still_found t filter node leaves)
  change_stays (change.Unsettle id) leaves = mapped (change.Unsettle id) (node_changed id unsettled) (keeps_where (λ r. r.id == id) unsettled keeps_unsettled) refl
  change_stays (change.MakeWritable id) leaves = mapped (change.MakeWritable id) (node_changed id writable) (keeps_where (λ r. r.id == id) writable keeps_writable) refl
  change_stays (change.Settle id disk) leaves = mapped (change.Settle id disk) (node_changed id settled) (keeps_where (λ r. r.id == id) settled keeps_settled) refl
  change_stays (change.MakeReadOnly id) leaves =
      mapped (change.MakeReadOnly id) (node_changed id kept_from_writes) (keeps_where (λ r. r.id == id) kept_from_writes keeps_read_only) refl
  change_stays c leaves = λ row found. record { later = row; found = found; kind = refl; size = refl }

pub changes_stay : (node : ℕ) (changes : List Change) (t : RunTable) → AllLeaveNode node changes → StaysNode t (all_changed t changes) node
changes_stay node [] t leaves = row_stays_same t t node refl
changes_stay node (c ∷ changes) t leaves =
    row_stays_then t (changed t c) (all_changed (changed t c) changes) node (change_stays t node c leaves.0) (changes_stay node changes (changed t c) leaves.1)

pub leave_node-append : (node : ℕ) (a b : List Change) → AllLeaveNode node a → AllLeaveNode node b → AllLeaveNode node (a ++ b)
leave_node-append node [] b h k = k
leave_node-append node (c ∷ a) b h k = (h.0, leave_node-append node a b h.1 k)

pub size_there : (t : RunTable) (node : ℕ) (row : NodeRecord) → node_by_id t node ≡ Some row → bytes_of_node t node ≡ row.size
size_there t node row found = rw (bytes_of_node, found) refl
