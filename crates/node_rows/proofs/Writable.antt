-- A qcow2 node may be written into whose file no other node has an edge, and whose backing node leads elsewhere.
use Rattle.std.proofs.Common.{◌≡◌, ℕ, false, Option, Some, None, refl, sym, ◌∙◌, inl, inr}
use Rattle.std.specs.Prelude.{All, IfSome, option_map}
use Rattle.std.proofs.lemmas.List.Elements.{All-contains}
use Rattle.blk_graph.specs.declared.edge.Parent.TheVariants as parents
use Rattle.blk_graph.specs.declared.edge.Role.TheVariants as roles
use Rattle.blk_graph.specs.declared.kind.Kind.TheVariants as kinds
use Rattle.blk_graph.proofs.ChildLemmas.{child-edge}
use Rattle.blk_nodes.specs.Adding.{is_read_only_in}
use Rattle.blk_nodes.specs.Nodes.{Nodes, row_at, driver_kind, kind_in, file_of, backing_of}
use Rattle.blk_nodes.specs.Reading.{LeadsTo}
use Rattle.blk_nodes.specs.Writing.{MayWriteThrough, CanBeWritten, IsOverApart, OwnsFile, own_file}
use Rattle.blk_nodes.specs.declared.row.Driver.{Driver}
use Rattle.blk_nodes.specs.declared.row.Driver.TheVariants.{File, Raw, Qcow2, CopyOnRead, Filter}
use Rattle.blk_nodes.specs.declared.row.FilterKind.{FilterKind}
use Rattle.blk_nodes.specs.declared.row.FilterKind.TheVariants.{BeforeWrite, Mirror, Commit}
use Rattle.blk_nodes.specs.declared.row.Row.{Row}
use Rattle.node_rows.specs.Lone.{IsNoOthers, IsAwayFrom}

not_led : (nodes : Nodes) (file over : ℕ) → IsAwayFrom nodes.graph.edges file over → ¬ LeadsTo nodes.graph.edges over file
not_led nodes file over apart (inl same) = apart.0 same
not_led nodes file over apart (inr path) = apart.1 path

over_apart : (nodes : Nodes) (node file : ℕ) (over : Option ℕ) → file_of nodes node ≡ Some file → backing_of nodes node ≡ over
    → IfSome over (IsAwayFrom nodes.graph.edges file) → IsOverApart nodes node
over_apart nodes node file None own below apart = λ o f is owns leads. let bad : ⊥ = cc in absurd bad
over_apart nodes node file (Some over) own below apart = λ o f is owns leads.
    let same_over : o ≡ over = cc in
    let same_file : f ≡ file = cc in
    not_led nodes file over apart (rw (← same_over, ← same_file) leads)

-- a job's filter is no image
by_filter : (kind : FilterKind) → driver_kind (Filter kind) ≡ kinds.Qcow2 → ⊥
by_filter BeforeWrite is = let bad : ⊥ = cc is in bad
by_filter Mirror is = let bad : ⊥ = cc is in bad
by_filter Commit is = let bad : ⊥ = cc is in bad

only_owner : (nodes : Nodes) (node file : ℕ) → All (IsNoOthers node file) nodes.graph.edges → OwnsFile nodes node file
only_owner nodes node file used other has =
    let e = child-edge (parents.Node other) roles.File nodes.graph.edges file has.edge in
    let from : parents.Node other ≡ parents.Node node = sym e.from ∙ All-contains (IsNoOthers node file) nodes.graph.edges e.edge used e.there e.to in
    cc

pub may_write : (nodes : Nodes) (node file : ℕ) (over : Option ℕ) → file_of nodes node ≡ Some file → backing_of nodes node ≡ over
    → option_map kind_in (row_at nodes node) ≡ Some kinds.Qcow2 → is_read_only_in (row_at nodes node) ≡ false
    → All (IsNoOthers node file) nodes.graph.edges → IfSome over (IsAwayFrom nodes.graph.edges file) → MayWriteThrough nodes node
may_write nodes node file over own below kind writable used apart = by_row (row_at nodes node) refl kind writable
  where
    can_be : (d : Driver) → driver_kind d ≡ kinds.Qcow2 → CanBeWritten nodes node d
    can_be File is = absurd cc
    can_be (Raw part) is = absurd cc
    can_be (Qcow2 image) is = over_apart nodes node file over own below apart
    can_be CopyOnRead is = absurd cc
    can_be (Filter kind) is = absurd (by_filter kind is)

    own_is : (d : Driver) → driver_kind d ≡ kinds.Qcow2 → (f : ℕ) → own_file nodes node d ≡ Some f → f ≡ file
    own_is File is f e = absurd cc
    own_is (Raw part) is f e = absurd cc
    own_is (Qcow2 image) is f e = cc
    own_is CopyOnRead is f e = absurd cc
    own_is (Filter kind) is f e = absurd (by_filter kind is)

    by_row : (found : Option Row) → row_at nodes node ≡ found → option_map kind_in found ≡ Some kinds.Qcow2 → is_read_only_in found ≡ false
        → MayWriteThrough nodes node
    by_row None e k w = absurd cc
    by_row (Some row) e k w =
        let is : driver_kind row.driver ≡ kinds.Qcow2 = cc in
        record {
          row = row;
          there = e;
          writable = w;
          can = can_be row.driver is;
          owns = λ f own other has. let same : f ≡ file = own_is row.driver is f own in
              only_owner nodes node file used other (rw (← same) has);
        }
