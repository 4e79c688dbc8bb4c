-- Filters of jobs, and kinds of nodes while one is there that the table has no more.
use Rattle.std.specs.Prelude.{ℕ, false, List, slice_set}
use Rattle.blk_graph.specs.declared.kind.Kind.{Kind}
use Rattle.blk_graph.specs.declared.kind.NodeKind.{NodeKind}
use Rattle.blk_nodes.specs.Nodes.{filter_kind}
use Rattle.blk_nodes.specs.declared.row.FilterKind.{FilterKind}
use Rattle.blk_nodes.specs.declared.row.FilterKind.TheVariants as filters
use Rattle.qmp_codec.specs.declared.event.JobKind.{JobKind}
use Rattle.qmp_codec.specs.declared.event.JobKind.TheVariants.{Backup}

-- that of a backup, and that of a mirror
abbrev pub filter_of : JobKind → FilterKind
filter_of Backup = filters.BeforeWrite
filter_of kind = filters.Mirror

abbrev pub filter_only : FilterKind → NodeKind
filter_only kind = record { kind = filter_kind kind; writes = false }

abbrev pub kinds_with : FilterKind → ℕ → List NodeKind → List NodeKind
kinds_with kind filter kinds = slice_set kinds filter (filter_only kind)
