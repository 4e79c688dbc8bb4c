-- The nodes that guests read through commits.
use Rattle.std.specs.Prelude.{ℕ, Bool, false, ◌&&◌, not}
use Rattle.std.specs.List.{list_any}
use Rattle.qmp_codec.specs.declared.event.JobKind.{JobKind}
use Rattle.qmp_codec.specs.declared.event.JobKind.TheVariants.{Commit}
use Rattle.qmp_rules.specs.declared.rows.JobRecord.{JobRecord}
use Rattle.qmp_rules.specs.Asks.{is_base}
use Rattle.qmp_rules.specs.Chains.{is_listed}
use Rattle.qmp_rules.specs.Table.{RunTable}

-- a commit holds the node above its base
abbrev pub is_above_base : ℕ → JobRecord → JobKind → Bool
is_above_base node row Commit = is_listed node row.held && not (is_base row.target node)
is_above_base node row kind = false

abbrev pub is_in_commit : RunTable → ℕ → Bool
is_in_commit t node = list_any (λ row. is_above_base node row row.kind) t.jobs
