-- What becomes of the dirty granules of bitmaps, by the table alone.
use Rattle.std.specs.Prelude.{ℕ, ◌==◌, not, if◌then◌else◌, List, [], ◌∷◌, ◌++◌, filter}
use Rattle.blk_base.specs.Pieces.{Extent}
use Rattle.blk_base.specs.declared.fault.Outcome.{Outcome}
use Rattle.trace_codec.specs.declared.op.Op.{Op}
use Rattle.trace_codec.specs.declared.op.Op.TheVariants.{Write, Zero}
use Rattle.qmp_rules.specs.declared.change.Change.{Change}
use Rattle.qmp_rules.specs.declared.change.Change.TheVariants as change
use Rattle.qmp_rules.specs.Table.{RunTable, job_at}
use Rattle.flat_machine.specs.Changed.{back_by}
use Rattle.qmp_rules.specs.Changes.{changed}
use Rattle.qmp_rules.specs.Queries.{bytes_of_node}
use Rattle.flat_machine.specs.State.{Dirty}
use Rattle.flat_machine.specs.Machine.{is_noted, noted, path}
use Rattle.flat_machine.specs.Marking.{clean, made_clean, is_dirty_of, dirty_at, where_dirty, merge_from}

-- ---- changes of commands

abbrev pub dirty_beside : RunTable → List Dirty → Change → List Dirty
dirty_beside t ds (change.AddBitmap row) = ds ++ clean row (bytes_of_node t row.node) ∷ []
dirty_beside t ds (change.RemoveBitmap node name) = filter (λ d. not (is_dirty_of node name d)) ds
dirty_beside t ds (change.ClearBitmap node name) = where_dirty (is_dirty_of node name) made_clean ds
dirty_beside t ds (change.MergeBitmap node name source_node source) =
    merge_from (dirty_at ds source_node source) node name ds
dirty_beside t ds (change.RemoveNode node) = filter (λ d. not (d.node == node)) ds
dirty_beside t ds (change.EndJob number slot drops) = back_by (job_at t number) drops ds
dirty_beside t ds c = ds

-- changes in turn
abbrev pub dirty_after : RunTable → List Dirty → List Change → List Dirty
dirty_after t ds [] = ds
dirty_after t ds (c ∷ changes) = dirty_after (changed t c) (dirty_beside t ds c) changes

-- ---- pieces, each on a guest's drive

abbrev pub dirty_noted : Outcome → Extent → ℕ → RunTable → List Dirty → List Dirty
dirty_noted outcome part drive t ds =
    if is_noted outcome then noted t part ds (path t drive) else ds

abbrev pub dirty_by : Op → Outcome → Extent → ℕ → RunTable → List Dirty → List Dirty
dirty_by (Write span payload) outcome part drive t ds = dirty_noted outcome part drive t ds
dirty_by (Zero span) outcome part drive t ds = dirty_noted outcome part drive t ds
dirty_by op outcome part drive t ds = ds
