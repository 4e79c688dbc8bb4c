-- What a piece leaves of the nodes beside devices.
use Rattle.std.proofs.Common.{◌≡◌, ℕ, List, [], ◌∷◌, get_or, Option, Some, None, refl, sym, ◌∙◌, ap, subst, inl, inr}
use Rattle.blk_base.specs.Pieces.{Extent}
use Rattle.blk_base.specs.declared.fault.Outcome.{Outcome}
use Rattle.blk_base.specs.declared.fault.Outcome.TheVariants.{Good, Torn, Io, NoSpace}
use Rattle.trace_codec.specs.declared.op.Op.{Op}
use Rattle.trace_codec.specs.declared.op.Op.TheVariants.{Read, Write, Zero, Flush, Discard}
use Rattle.blk_nodes.specs.Copying.{MapsNext, MapsEach, ReadsPiece, images_met}
use Rattle.blk_nodes.specs.Nodes.{Nodes, row_at}
use Rattle.blk_nodes.specs.Writing.{IsDriverAfter, IsRowAfter, AreRowsAfter, LeavesNodes}
use Rattle.blk_nodes.specs.declared.row.Driver.{Driver}
use Rattle.blk_nodes.specs.declared.row.Driver.TheVariants as drivers
use Rattle.blk_nodes.specs.declared.row.Row.{Row}
use Rattle.blk_nodes.proofs.Alike.{alike_but, row_refl}
use Rattle.blk_pieces.specs.Pieces.{Transfers}

pub record RowsAfter (old new : Nodes) : Type 0 where
  pub graph : new.graph ≡ old.graph
  pub rows : (n : ℕ) → AreRowsAfter (row_at old n) (row_at new n)

-- ---- one step and the next

driver_then : (a b c : Driver) → IsDriverAfter a b → IsDriverAfter b c → IsDriverAfter a c
driver_then drivers.File b c first next = subst (λ (d : Driver). IsDriverAfter d c) first next
driver_then (drivers.Raw part) b c first next = subst (λ (d : Driver). IsDriverAfter d c) first next
driver_then (drivers.Qcow2 image) b c first next =
    let on : IsDriverAfter (drivers.Qcow2 first.0) c = subst (λ (d : Driver). IsDriverAfter d c) first.1 next in
    (on.0, on.1, on.2 ∙ first.2, (λ n taken. on.3 n (first.3 n taken)), λ cluster mapped. on.4 cluster (first.4 cluster mapped))
driver_then drivers.CopyOnRead b c first next = subst (λ (d : Driver). IsDriverAfter d c) first next
driver_then (drivers.Filter kind) b c first next = subst (λ (d : Driver). IsDriverAfter d c) first next

row_then : (a b c : Row) → IsRowAfter a b → IsRowAfter b c → IsRowAfter a c
row_then a b c first next = record {
  size = next.size ∙ first.size;
  is_read_only = next.is_read_only ∙ first.is_read_only;
  driver = driver_then a.driver b.driver c.driver first.driver next.driver;
}

found_then : (a b c : Option Row) → AreRowsAfter a b → AreRowsAfter b c → AreRowsAfter a c
found_then None b c first next = subst (λ (r : Option Row). AreRowsAfter r c) first next
found_then (Some a) b c first next =
    let on : AreRowsAfter (Some first.0) c = subst (λ (r : Option Row). AreRowsAfter r c) first.1 next in
    (on.0, on.1, row_then a first.0 on.0 first.2 on.2)

pub rows_then : (old mid new : Nodes) → RowsAfter old mid → RowsAfter mid new → RowsAfter old new
rows_then old mid new first next = record {
  graph = next.graph ∙ first.graph;
  rows = λ n. found_then (row_at old n) (row_at mid n) (row_at new n) (first.rows n) (next.rows n);
}

-- ---- what was done

pub rows_kept : (old new : Nodes) → new ≡ record old { devices = new.devices } → RowsAfter old new
rows_kept old new kept = record {
  graph = ap (λ (n : Nodes). n.graph) kept;
  rows = λ n. subst (λ (rs : List (Option Row)). AreRowsAfter (row_at old n) (get_or rs n None)) (sym (ap (λ (n : Nodes). n.rows) kept)) (row_refl (row_at old n));
}

pub rows_same : (old new : Nodes) → new ≡ old → RowsAfter old new
rows_same old new same = subst (λ (n : Nodes). RowsAfter old n) (sym same) (record { graph = refl; rows = λ n. row_refl (row_at old n) })

pub rows_left : (old new : Nodes) (node : ℕ) → LeavesNodes old new node → RowsAfter old new
rows_left old new node leaves = record { graph = leaves.graph; rows = alike_but old new node leaves.others leaves.own }

rows_next : (below : Outcome) (mid new : Nodes) (node : ℕ) (span : Extent) (bytes : List ℕ) (outcome : Outcome) → MapsNext below mid new node span bytes outcome → RowsAfter mid new
rows_next Good mid new node span bytes outcome one = rows_left mid new node one.kept
rows_next (Torn done dev count) mid new node span bytes outcome stopped = rows_same mid new stopped.0
rows_next (Io dev count) mid new node span bytes outcome stopped = rows_same mid new stopped.0
rows_next (NoSpace dev) mid new node span bytes outcome stopped = rows_same mid new stopped.0

-- the images of a read were written
pub rows_mapped : (images : List ℕ) (old new : Nodes) (span : Extent) (bytes : List ℕ) (outcome : Outcome) → MapsEach images old new span bytes outcome → RowsAfter old new
rows_mapped [] old new span bytes outcome maps = rows_same old new maps.0
rows_mapped (node ∷ rest) old new span bytes outcome maps =
    rows_then old maps.0 new (rows_mapped rest old maps.0 span bytes maps.1 maps.2) (rows_next maps.1 maps.0 new node span bytes outcome maps.3)

pub rows_read : (old new : Nodes) (drive : ℕ) (span : Extent) (bytes : List ℕ) (outcome : Outcome) → ReadsPiece old new drive span bytes outcome → RowsAfter old new
rows_read old new drive span bytes outcome went = elim went [
  | inl lacks ↦ rows_same old new lacks.same
  | inr reads ↦ elim reads.went [
    | inl stopped ↦ rows_kept old new stopped.kept
    | inr maps ↦ rows_mapped (images_met old drive span.start) old new span bytes outcome maps
  ]
]

pub rows_after : (old new : Nodes) (drive node : ℕ) (op : Op) (part : Extent) (outcome : Outcome) (buffer : List ℕ)
    → Transfers op old new drive node part outcome buffer → RowsAfter old new
rows_after old new drive node (Read span) part outcome buffer did = rows_read old new drive part buffer outcome did.went
rows_after old new drive node (Write span payload) part outcome buffer did = rows_left old new node did.1.kept
rows_after old new drive node (Zero span) part outcome buffer did = rows_left old new node did.1.kept
rows_after old new drive node Flush part outcome buffer did = rows_kept old new did.kept
rows_after old new drive node (Discard span) part outcome buffer did = absurd did
