-- Granules are as their nodes' disks have them, and disks as long as rows say, behind the answer to a command and behind a piece.
use Rattle.std.proofs.Common.{◌≡◌, ℕ, List, refl, sym, ◌∙◌, ap, subst, Option, Some, None}
use Rattle.std.specs.Prelude.{length}
use Rattle.blk_base.specs.Pieces.{Extent}
use Rattle.blk_base.specs.declared.fault.Outcome.{Outcome}
use Rattle.blk_nodes.specs.Contents.{disk_of}
use Rattle.blk_nodes.specs.Joined.{IsJoined}
use Rattle.blk_nodes.specs.Nodes.{AreTold, Nodes, row_at}
use Rattle.blk_nodes.specs.declared.row.Row.{Row}
use Rattle.blk_nodes.proofs.CoveredDisks.{length_disk}
use Rattle.trace_codec.specs.declared.op.Op.{Op}
use Rattle.trace_codec.specs.declared.op.Op.TheVariants.{Read, Write, Zero, Flush, Discard}
use Rattle.qmp_codec.specs.Commands.{Cmd}
use Rattle.qmp_rules.specs.Answers.{answer, command_edits, refusal_to}
use Rattle.qmp_rules.specs.Changes.{all_changed}
use Rattle.qmp_rules.specs.Table.{RunTable, node_by_id}
use Rattle.qmp_rules.specs.declared.change.Change.{Change}
use Rattle.qmp_rules.specs.declared.rows.NodeRecord.{NodeRecord}
use Rattle.qmp_rules.specs.declared.told.Told.{Told}
use Rattle.flat_machine.specs.Agreement.{Contents, ReadAsDisks}
use Rattle.flat_machine.specs.Changed.{all_stepped}
use Rattle.flat_machine.specs.Performing.{AllCan}
use Rattle.flat_machine.specs.Recording.{dirty_after, dirty_by}
use Rattle.flat_machine.specs.State.{State, Dirty}
use Rattle.flat_machine.specs.Wiring.{TableAtRest}
use Rattle.job_tables.specs.Jobs.{JobsStand}
use Rattle.job_commands.specs.Begun.{IsOneCommand}
use Rattle.job_commands.specs.Granules.{GranulesStand}
use Rattle.job_commands.specs.Whole.{DisksAreWhole, HaveRowSizes}
use Rattle.job_commands.proofs.Granules.{by_granules, command_granules, failure_granules, granules_at, written_stays}
use Rattle.job_commands.proofs.Sizes.{StaysNode, row_stays_same}
use Rattle.job_commands.proofs.WholeCommands.{command_whole, failure_whole}
use Rattle.world_parts.specs.Coherent.{AreAlike, AreNodesOf}
use Rattle.world_parts.specs.Piecing.{table_after}
use Rattle.world_parts.proofs.JobsAnswered.{answered_as, met_of, own_edits}

-- ---- what nodes read

pub row_sizes : (t : RunTable) (nodes : Nodes) → AreNodesOf t nodes → IsJoined nodes → AreTold nodes.devices → HaveRowSizes t (disk_of nodes)
row_sizes t nodes alike joined told node row found own = by_row (row_at nodes node) refl (subst (λ (r : Option NodeRecord). AreAlike r (row_at nodes node)) found (alike.rows node))
  where
    by_row : (r : Option Row) → row_at nodes node ≡ r → AreAlike (Some row) r → length (disk_of nodes node) ≡ row.size
    by_row None is like = absurd like
    by_row (Some r) is like = length_disk nodes joined told node r is ∙ sym like.size

-- ---- an answer

pub answer_granules : (t : RunTable) (ds : List Dirty) (told : Told) (c : Cmd) → TableAtRest t → JobsStand t → (refusal_to t told c ≡ None → IsOneCommand c) → GranulesStand t ds
    → GranulesStand (all_changed t (answer t told c).changes) (dirty_after t ds (answer t told c).changes)
answer_granules t ds told c rest stand one was = answered_as t told c (λ changes. GranulesStand (all_changed t changes) (dirty_after t ds changes))
    (λ none.
    subst (λ (cs : List Change). GranulesStand (all_changed t cs) (dirty_after t ds cs)) (sym (own_edits t told c (one none)))
    (command_granules t ds told told c rest stand (one none) (met_of t told c none) was))
    was (λ create cause some placeless. failure_granules t ds create.options was)

abbrev StaysWhole : State → Contents → List Change → Type 0
StaysWhole s new changes =
    AllCan s changes → ReadAsDisks (all_stepped s changes) new → HaveRowSizes (all_stepped s changes).table new.reads → DisksAreWhole (all_stepped s changes)

pub answer_whole : (s : State) (told : Told) (c : Cmd) (new : Contents) → TableAtRest s.table → JobsStand s.table → (refusal_to s.table told c ≡ None → IsOneCommand c) → DisksAreWhole s
    → AllCan s (answer s.table told c).changes → ReadAsDisks (all_stepped s (answer s.table told c).changes) new
    → HaveRowSizes (all_stepped s (answer s.table told c).changes).table new.reads → DisksAreWhole (all_stepped s (answer s.table told c).changes)
answer_whole s told c new rest stand one was = answered_as s.table told c (StaysWhole s new)
    (λ none.
    subst (StaysWhole s new) (sym (own_edits s.table told c (one none)))
    (λ can disks reads. command_whole s told told c new rest stand (one none) (met_of s.table told c none) can disks reads was))
    (λ can disks reads. was) (λ create cause some placeless can disks reads. failure_whole s create.options was)

-- ---- a piece

pub piece_granules : (t : RunTable) (ds : List Dirty) (op : Op) (node drive : ℕ) (outcome : Outcome) (part : Extent) → GranulesStand t ds
    → GranulesStand (table_after op node t) (dirty_by op outcome part drive (table_after op node t) ds)
piece_granules t ds op node drive outcome part was =
    by_granules op outcome part drive (table_after op node t) ds (granules_at t (table_after op node t) ds (stays op) was)
  where
    stays : (o : Op) → (n : ℕ) → StaysNode t (table_after o node t) n
    stays (Read span) n = row_stays_same t t n refl
    stays (Write span payload) n = written_stays t node n
    stays (Zero span) n = written_stays t node n
    stays Flush n = row_stays_same t t n refl
    stays (Discard span) n = row_stays_same t t n refl
