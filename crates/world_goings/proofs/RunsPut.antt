-- Runs of bytes that are put to a node leave the same devices, and what files hold but that of the node.
use Rattle.std.proofs.Common.{◌≡◌, ◌≢◌, ℕ, List, [], ◌∷◌, replicate, Option, Some, None, refl, sym, ◌∙◌, ap, subst, inl, inr, arith}
use Rattle.std.specs.Prelude.{AllPairs}
use Rattle.blk_base.specs.Pieces.{Extent}
use Rattle.blk_base.specs.declared.fault.Outcome.{Outcome}
use Rattle.blk_graph.specs.Graph.{Graph}
use Rattle.blk_graph.specs.Edits.{child_of}
use Rattle.blk_graph.specs.declared.edge.Parent.TheVariants.{Node}
use Rattle.blk_graph.specs.declared.edge.Role.TheVariants.{File}
use Rattle.blk_graph.proofs.RoleLemmas.{head_pairs, more_pairs, tail_pairs}
use Rattle.blk_nodes.specs.Joined.{DifferInNode}
use Rattle.blk_nodes.specs.Nodes.{DeviceSeen, Nodes, file_of, row_at}
use Rattle.blk_nodes.specs.Writing.{AreRowsAfter, IsDriverAfter, LeavesNodes, WritesBy, WritesFile, WritesImage, ZerosBy, own_file}
use Rattle.blk_nodes.specs.declared.row.Driver.{Driver}
use Rattle.blk_nodes.specs.declared.row.Driver.TheVariants as drivers
use Rattle.blk_nodes.specs.declared.row.Row.{Row}
use Rattle.node_copies.specs.Putting.{PutsRun, PutsRuns}
use Rattle.node_copies.specs.Sectors.{run_bytes, run_span}
use Rattle.world_parts.specs.Counting.{AreSameDevices}
use Rattle.world_parts.proofs.CountLemmas.{found-before, same-devices, same-only, same-risen}
use Rattle.world_parts.proofs.NodesAfter.{only_content}
use Rattle.world_goings.specs.Copied.{IsElsewhere, LeavesFiles}
use Rattle.world_goings.proofs.Takes.{content_risen}

-- ---- the same devices, one step behind another

pub same_then : (a b c : List DeviceSeen) → AreSameDevices a b → AreSameDevices b c → AreSameDevices a c
same_then [] [] [] first next = tt
same_then (x ∷ a) (y ∷ b) (z ∷ c) first next = (
  record {
    node = next.0.node ∙ first.0.node;
    number = next.0.number ∙ first.0.number;
    capacity = next.0.capacity ∙ first.0.capacity;
    faults = (let one = first.0.faults in let two = next.0.faults in omega arith);
  },
  same_then a b c first.1 next.1,
)
same_then [] (y ∷ b) c first next = absurd first
same_then (x ∷ a) [] c first next = absurd first
same_then a (y ∷ b) [] first next = absurd next
same_then a [] (z ∷ c) first next = absurd next

-- each is still on a node of its own
pub once_then : (old new : List DeviceSeen) → AreSameDevices old new → AllPairs DifferInNode old → AllPairs DifferInNode new
once_then [] [] same once = once
once_then (x ∷ old) (y ∷ new) same once =
    more_pairs DifferInNode y new
    (λ z there.
    let was = found-before old new z same.1 there in
    subst (λ n. y.node ≡ n → ⊥) (sym was.2.node)
    (subst (λ n. n ≡ was.0.node → ⊥) (sym same.0.node) (head_pairs DifferInNode x old once was.0 was.1)))
    (once_then old new same.1 (tail_pairs DifferInNode x old once))
once_then [] (y ∷ new) same once = absurd same
once_then (x ∷ old) [] same once = absurd same

-- ---- one run

module _ (old new : Nodes) (once : AllPairs DifferInNode old.devices) (target : ℕ) where
  by_file : (place : ℕ) (bytes : List ℕ) (outcome : Outcome) → WritesFile old new target place bytes outcome → LeavesFiles old new target
  by_file place bytes outcome wrote = record {
    devices =
        same-only wrote.file old.devices new.devices wrote.at.before wrote.at.after once wrote.at.only wrote.at.held wrote.at.left
        (record { node = wrote.at.wrote.node; number = wrote.at.wrote.number; capacity = wrote.at.wrote.capacity; faults = wrote.at.wrote.faults });
    others = λ node apart. only_content wrote.file old.devices new.devices wrote.at.only node (apart wrote.row wrote.file wrote.there wrote.own);
  }

  by_image : (fits : ℕ → Type 0) (own : Option ℕ) (rest : Option Extent) (n : ℕ) (outcome : Outcome) (row : Row) (d : Driver) → row_at old target ≡ Some row → row.driver ≡ d
      → (wrote : WritesImage fits own rest old new target n outcome) → own_file old target d ≡ Some wrote.file → LeavesFiles old new target
  by_image fits own rest n outcome row d there driver wrote is = elim wrote.devices [
    | inl only ↦
        record {
          devices =
              same-only wrote.file old.devices new.devices wrote.before wrote.after once only wrote.held wrote.left
              (record { node = wrote.device.node; number = wrote.device.number; capacity = wrote.device.capacity; faults = wrote.device.faults });
          others = λ node apart. only_content wrote.file old.devices new.devices only node (apart row wrote.file there (ap (own_file old target) driver ∙ is));
        }
    | inr risen ↦
        record {
          devices = same-risen old.devices new.devices risen;
          others = λ node apart. content_risen old.devices new.devices risen node;
        }
  ]

  by_write : (part : Extent) (bytes : List ℕ) (outcome : Outcome) (row : Row) → row_at old target ≡ Some row → (d : Driver) → row.driver ≡ d
      → WritesBy d old new target part bytes outcome → LeavesFiles old new target
  by_write part bytes outcome row there (drivers.Qcow2 image) driver wrote = by_image _ _ _ _ outcome row (drivers.Qcow2 image) there driver wrote wrote.edge
  by_write part bytes outcome row there drivers.File driver wrote = by_file part.start bytes outcome wrote
  by_write part bytes outcome row there (drivers.Raw p) driver wrote = by_file part.start bytes outcome wrote
  by_write part bytes outcome row there drivers.CopyOnRead driver wrote = by_file part.start bytes outcome wrote
  by_write part bytes outcome row there (drivers.Filter kind) driver wrote = by_file part.start bytes outcome wrote

  by_zeros : (part : Extent) (outcome : Outcome) (row : Row) → row_at old target ≡ Some row → (d : Driver) → row.driver ≡ d → ZerosBy d old new target part outcome
      → LeavesFiles old new target
  by_zeros part outcome row there (drivers.Qcow2 image) driver wrote = by_image _ _ _ _ outcome row (drivers.Qcow2 image) there driver wrote wrote.edge
  by_zeros part outcome row there drivers.File driver wrote = by_file part.start (replicate part.len 0) outcome wrote
  by_zeros part outcome row there (drivers.Raw p) driver wrote = by_file part.start (replicate part.len 0) outcome wrote
  by_zeros part outcome row there drivers.CopyOnRead driver wrote = by_file part.start (replicate part.len 0) outcome wrote
  by_zeros part outcome row there (drivers.Filter kind) driver wrote = by_file part.start (replicate part.len 0) outcome wrote

  by_run : (block span : Extent) (bytes : List ℕ) (outcome : Outcome) → PutsRun block old new target span bytes outcome → LeavesFiles old new target
  by_run block span bytes outcome put = elim put.made [
    | inl zeros ↦ by_zeros span outcome zeros.1.row zeros.1.there zeros.1.row.driver refl zeros.1.wrote
    | inr wrote ↦ by_write span bytes outcome wrote.1.row wrote.1.there wrote.1.row.driver refl wrote.1.wrote
  ]

-- ---- one behind another

pub files_same : (old new : Nodes) (target : ℕ) → new ≡ old → LeavesFiles old new target
files_same old new target same = subst (λ (n : Nodes). LeavesFiles old n target) (sym same) (record {
  devices = same-devices old.devices;
  others = λ node apart. refl;
})

-- a node that is over another file stays so
elsewhere_still : (old mid : Nodes) (target node : ℕ) → LeavesNodes old mid target → IsElsewhere old target node → IsElsewhere mid target node
elsewhere_still old mid target node leaves apart row file there own =
    by_row (row_at old target) refl (subst (AreRowsAfter (row_at old target)) there leaves.own)
  where
    files : file_of mid target ≡ file_of old target
    files = ap (λ (g : Graph). child_of (Node target) File g.edges) leaves.graph

    by_driver : (d e : Driver) → IsDriverAfter d e → own_file mid target e ≡ own_file old target d
    by_driver drivers.File e is = ap (own_file mid target) is
    by_driver (drivers.Raw part) e is = ap (own_file mid target) is ∙ files
    by_driver (drivers.Qcow2 image) e is = ap (own_file mid target) is.1 ∙ files
    by_driver drivers.CopyOnRead e is = ap (own_file mid target) is
    by_driver (drivers.Filter kind) e is = ap (own_file mid target) is

    by_row : (found : Option Row) → row_at old target ≡ found → AreRowsAfter found (Some row) → node ≢ file
    by_row None at bad = absurd (let no : ⊥ = cc bad in no)
    by_row (Some was) at next =
        let same : row ≡ next.0 = cc next.1 in
        apart was file at (sym (by_driver was.driver next.0.driver next.2.driver) ∙ ap (λ (r : Row). own_file mid target r.driver) (sym same) ∙ own)

pub files_then : (old mid new : Nodes) (target : ℕ) → LeavesNodes old mid target → LeavesFiles old mid target → LeavesFiles mid new target → LeavesFiles old new target
files_then old mid new target leaves first next = record {
  devices = same_then old.devices mid.devices new.devices first.devices next.devices;
  others = λ node apart. next.others node (elsewhere_still old mid target node leaves apart) ∙ first.others node apart;
}

pub files_put : (runs : List _) (block : Extent) (target : ℕ) (bytes : List ℕ) (old new : Nodes) (outcome : Outcome) → AllPairs DifferInNode old.devices
    → PutsRuns runs block old new target bytes outcome → LeavesFiles old new target
files_put [] block target bytes old new outcome once is = files_same old new target is.0
files_put (run ∷ runs) block target bytes old new outcome once (mid, first, put, rest) =
    let one = by_run old mid once target block (run_span block run) (run_bytes block bytes run) first put in
    elim rest [
      | inl on ↦
          files_then old mid new target put.kept one
          (files_put runs block target bytes mid new outcome (once_then old.devices mid.devices one.devices once) on.1)
      | inr stop ↦ subst (λ (n : Nodes). LeavesFiles old n target) (sym stop.1) one
    ]
