-- Kinds and edges that nodes may take: the edges fit, are derived from the kinds, make no cycle and keep the rule, format nodes have their files, and
-- what a node reads has its size.
use Rattle.std.proofs.Common.{◌≡◌, ℕ, ◌+◌, ◌≤◌, true, List, length, Option, Some, None, refl, sym, ◌∙◌, ap, subst, arith}
use Rattle.blk_graph.specs.declared.edge.Edge.{Edge}
use Rattle.blk_graph.specs.declared.edge.Parent.TheVariants.{Node}
use Rattle.blk_graph.specs.declared.edge.Role.{Role}
use Rattle.blk_graph.specs.declared.edge.Role.TheVariants.{File as FileRole, Backing, Filtered}
use Rattle.blk_graph.specs.declared.kind.NodeKind.{NodeKind}
use Rattle.blk_graph.specs.Edits.{child_of}
use Rattle.blk_graph.specs.Graph.{HasNode, IsFit, IsSoundGraph}
use Rattle.blk_graph.specs.Paths.{IsAcyclic}
use Rattle.blk_graph.specs.Refreshed.{IsRefreshed, kind_at, no_kind}
use Rattle.blk_graph.specs.Rule.{KeepsPermissions}
use Rattle.blk_nodes.specs.Joined.{HasBelow, HasSize, IsJoined, IsSized}
use Rattle.blk_nodes.specs.Nodes.{Nodes, driver_kind, row_at}
use Rattle.blk_nodes.specs.Rewiring.{AreKindsKept, IsWiring, rewired}
use Rattle.blk_nodes.specs.declared.row.Driver.{Driver}
use Rattle.blk_nodes.specs.declared.row.Driver.TheVariants.{CopyOnRead, File, Filter, Qcow2, Raw}
use Rattle.blk_nodes.specs.declared.row.Row.{Row}
use Rattle.blk_nodes.proofs.Rewired.{file_then, size_then, sizes_same}
use Rattle.flat_machine.proofs.Redrawn.{keeps_size}
use Rattle.qmp_rules.specs.Chains.{filter_role}
use Rattle.world_parts.proofs.JobFilters.{filter_keeps}

-- what the edges are, whatever the nodes read below them
pub record EdgesFit (nodes : Nodes) (kinds : List NodeKind) (edges : List Edge) : Type 0 where
  pub count : length kinds ≡ 64
  pub vacant : (n : ℕ) → (HasNode nodes.graph n → ⊥) → kind_at kinds n ≡ no_kind
  pub alike : AreKindsKept nodes kinds
  pub fit : IsFit (record nodes.graph { kinds = kinds }) edges
  pub acyclic : IsAcyclic edges
  pub derived : IsRefreshed kinds edges
  pub rule : KeepsPermissions edges

-- and what they lead to
pub record LeadRightly (nodes : Nodes) (edges : List Edge) : Type 0 where
  pub files : (n : ℕ) (row : Row) → row_at nodes n ≡ Some row → filter_role (driver_kind row.driver) ≡ None
      → child_of (Node n) FileRole edges ≡ child_of (Node n) FileRole nodes.graph.edges
  pub copies : (n : ℕ) (row : Row) → row_at nodes n ≡ Some row → row.driver ≡ CopyOnRead
      → (below : ℕ) × (child_of (Node n) FileRole edges ≡ Some below)
  pub sizes : (n : ℕ) (row : Row) (role : Role) (below : ℕ) → row_at nodes n ≡ Some row → child_of (Node n) role edges ≡ Some below
      → keeps_size (driver_kind row.driver) role ≡ true → HasSize nodes below row.size

module _ (nodes : Nodes) (kinds : List NodeKind) (edges : List Edge) (joined : IsJoined nodes) (fit : EdgesFit nodes kinds edges)
    (lead : LeadRightly nodes edges) where
  sound : IsSoundGraph (record nodes.graph { kinds = kinds; edges = edges })
  sound = record {
    different_nodes = joined.sound.different_nodes;
    different_names = joined.sound.different_names;
    few_nodes = joined.sound.few_nodes;
    small = joined.sound.small;
    kinds = fit.count;
    vacant = fit.vacant;
    fit = record {
      each = λ e there. let fits = fit.fit.each e there in record { parent = fits.parent; child = fits.child; table = fits.table };
      places = fit.fit.places;
    };
    just = record { acyclic = fit.acyclic; refreshed = fit.derived; rule = fit.rule };
  }

  below_sized : (n : ℕ) (row : Row) (role : Role) (below : ℕ) → row_at nodes n ≡ Some row → child_of (Node n) role edges ≡ Some below
      → keeps_size (driver_kind row.driver) role ≡ true → HasSize (rewired kinds edges nodes) below row.size
  below_sized n row role below there is keeps = size_then nodes kinds edges joined below row.size (lead.sizes n row role below there is keeps)

  has_below : (n : ℕ) (row : Row) → row_at nodes n ≡ Some row → HasBelow (rewired kinds edges nodes) n row.size row.driver
  has_below n row there = by_driver row.driver refl (joined.below n row there) (joined.sized n row there)
    where
      by_driver : (d : Driver) → row.driver ≡ d → HasBelow nodes n row.size d → IsSized row.size d → HasBelow (rewired kinds edges nodes) n row.size d
      by_driver File is has own = has
      by_driver (Raw part) is has own =
          let sizes = sizes_same nodes kinds edges joined has.file in
          let within = has.within in
          record {
            file = has.file;
            edge = lead.files n row there (ap (λ (d : Driver). filter_role (driver_kind d)) is) ∙ has.edge;
            is_file = file_then nodes kinds edges joined has.file has.is_file;
            within = omega (arith, sizes, within);
          }
      by_driver (Qcow2 image) is has own = record {
        file = has.file;
        edge = lead.files n row there (ap (λ (d : Driver). filter_role (driver_kind d)) is) ∙ has.edge;
        is_file = file_then nodes kinds edges joined has.file has.is_file;
        opened = has.opened;
        known = has.known;
        backing = λ over edge.
            subst (HasSize (rewired kinds edges nodes) over) (sym own)
            (below_sized n row Backing over there edge (ap (λ (d : Driver). keeps_size (driver_kind d) Backing) is));
      }
      by_driver CopyOnRead is has own =
          let below = lead.copies n row there is in
          record {
            child = below.0;
            edge = below.1;
            same = below_sized n row FileRole below.0 there below.1 (ap (λ (d : Driver). keeps_size (driver_kind d) FileRole) is);
          }
      by_driver (Filter kind) is has own = λ child edge.
          below_sized n row Filtered child there edge (ap (λ (d : Driver). keeps_size (driver_kind d) Filtered) is ∙ filter_keeps kind)

  pub takes_wiring : IsWiring nodes kinds edges
  takes_wiring = record { sound = sound; alike = fit.alike; below = has_below }
