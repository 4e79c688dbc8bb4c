-- What all edges of a kind share, whatever stands over them.
use Rattle.std.specs.Prelude.{◌≡◌, Bool, true, false, List, Contains}
use Rattle.blk_graph.specs.declared.edge.Edge.{Edge}
use Rattle.blk_graph.specs.declared.edge.Parent.{Parent}
use Rattle.blk_graph.specs.declared.edge.Parent.TheVariants.{Node, Guest, Job}
use Rattle.blk_graph.specs.declared.edge.Role.{Role}
use Rattle.blk_graph.specs.declared.edge.Role.TheVariants.{File}
use Rattle.blk_graph.specs.declared.kind.Kind.{Kind}
use Rattle.blk_graph.specs.declared.kind.Kind.TheVariants.{Raw, Qcow2, CopyOnRead, Commit}
use Rattle.blk_graph.specs.declared.kind.NodeKind.{NodeKind}
use Rattle.blk_graph.specs.Refreshed.{kind_at}
use Rattle.job_edges.specs.Chains.{is_plain}

-- all edges let others read, but those of jobs and of format nodes to their files
abbrev pub is_open_by : Kind → Role → Bool
is_open_by Raw File = false
is_open_by Qcow2 File = false
is_open_by kind role = true

abbrev pub is_open_from : List NodeKind → Role → Parent → Bool
is_open_from kinds role (Node n) = is_open_by (kind_at kinds n).kind role
is_open_from kinds role (Guest n) = true
is_open_from kinds role (Job n) = false

abbrev pub is_open : List NodeKind → Edge → Bool
is_open kinds edge = is_open_from kinds edge.role edge.parent

-- an edge of the filter of a commit, which alone may write and not read
abbrev pub is_hiding : Kind → Bool
is_hiding Commit = true
is_hiding kind = false

abbrev pub is_hidden_from : List NodeKind → Parent → Bool
is_hidden_from kinds (Node n) = is_hiding (kind_at kinds n).kind
is_hidden_from kinds (Guest n) = false
is_hidden_from kinds (Job n) = false

abbrev pub is_hidden : List NodeKind → Edge → Bool
is_hidden kinds edge = is_hidden_from kinds edge.parent

abbrev pub is_copying : Kind → Bool
is_copying CopyOnRead = true
is_copying kind = false

-- Over a filter stand no job and no format node as over its file, and over a `copy-on-read` node no filter of a commit.
pub record FiltersStand (kinds : List NodeKind) (edges : List Edge) : Type 0 where
  pub apart : (e : Edge) → Contains edges e → is_plain (kind_at kinds e.child).kind ≡ false
      → is_open kinds e ≡ true
  pub top : (e : Edge) → Contains edges e → is_copying (kind_at kinds e.child).kind ≡ true
      → is_hidden kinds e ≡ false
