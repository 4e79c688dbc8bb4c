-- The backing names that ends of jobs write into headers.
use Rattle.std.specs.Prelude.{ℕ, Bool, true, false, if◌then◌else◌, List, [], ◌∷◌, Option, Some, None, option_map, option_and_then, unwrap_or}
use Rattle.blk_graph.specs.declared.kind.Kind.{Kind}
use Rattle.blk_graph.specs.declared.kind.Kind.TheVariants as kind
use Rattle.qmp_codec.specs.declared.event.JobKind.{JobKind}
use Rattle.qmp_codec.specs.declared.event.JobKind.TheVariants as job_kind
use Rattle.qmp_codec.specs.declared.words.ImageFormat.{ImageFormat}
use Rattle.qmp_codec.specs.declared.words.ImageFormat.TheVariants as format
use Rattle.qmp_rules.specs.declared.rows.JobRecord.{JobRecord}
use Rattle.qmp_rules.specs.declared.rows.NodeRecord.{NodeRecord}
use Rattle.qmp_rules.specs.Table.{RunTable, node_by_id}
use Rattle.qmp_rules.specs.Edits.{file_under}

-- a backing name, and the format of what it names
pub record BackingName : Type 0 where
  pub name : List ℕ
  pub fmt : ImageFormat

-- that of a file of the store is raw
abbrev pub format_of : Kind → ImageFormat
format_of kind.Qcow2 = format.Qcow2
format_of driver = format.Raw

-- the name that the command gave, or else the base's file
abbrev pub named_for : RunTable → JobRecord → NodeRecord → BackingName
named_for t row base = record {
  name = unwrap_or row.backing_file (unwrap_or (file_under t base) []);
  fmt = format_of base.kind;
}

-- Of a stream the top's header is written; of a commit to an inner base, which has an overlay over its top, that of the
-- overlay.
abbrev pub first_of : List ℕ → Option ℕ
first_of [] = None
first_of (id ∷ ids) = Some id

abbrev pub renamed_node : JobRecord → JobKind → Option ℕ
renamed_node row job_kind.Stream = Some row.source
renamed_node row job_kind.Commit = first_of row.read
renamed_node row what = None

-- what that header is to say after an end without error: the base, or no backing file where there is no base
abbrev pub new_backing : RunTable → JobRecord → Option BackingName
new_backing t row = option_map (named_for t row) (option_and_then (node_by_id t) row.target)
