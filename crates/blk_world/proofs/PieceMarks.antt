-- What a guest's piece wrote on a node, the mirror of the node has to copy again.
use Rattle.std.proofs.Common.{◌≡◌, ℕ, Bool, true, false, cond, List, Option, Some, None, refl, ap, ◌∙◌}
use Rattle.std.specs.Prelude.{find}
use Rattle.blk_base.specs.Pieces.{Extent}
use Rattle.blk_base.specs.declared.fault.Outcome.{Outcome}
use Rattle.block_jobs.specs.Work.{JobWork}
use Rattle.flat_machine.specs.Machine.{is_noted}
use Rattle.job_progress.specs.Piecing.{is_follower_of, marked_by, marked_for, marked_if}
use Rattle.qmp_rules.specs.Table.{RunTable}
use Rattle.trace_codec.specs.declared.op.Op.{Op}
use Rattle.trace_codec.specs.declared.op.Op.TheVariants.{Read, Write, Zero, Flush, Discard}
use Rattle.world_jobs.specs.Marking.{marked_in}
use Rattle.world_pieces.specs.Pieces.{noted_part, written_in}

pub marked_so : (op : Op) (outcome : Outcome) (t u : RunTable) (node : ℕ) (part : Extent) (works : List JobWork) (written : Option Extent) → written ≡ written_in op part → u.jobs ≡ t.jobs
    → marked_in (noted_part outcome written) u node works ≡ marked_by op outcome t node part works
marked_so op outcome t u node part works written is same = ap (λ some. marked_in (noted_part outcome some) u node works) is ∙ by_op op
  where
    all_of : (so : Bool) → marked_in (cond so (Some part) None) u node works ≡ marked_if so t node part works
    all_of true = ap (λ jobs. marked_for (find (is_follower_of node) jobs) part works) same
    all_of false = refl

    nothing : (so : Bool) → marked_in (cond so None None) u node works ≡ works
    nothing true = refl
    nothing false = refl

    by_op : (o : Op) → marked_in (noted_part outcome (written_in o part)) u node works ≡ marked_by o outcome t node part works
    by_op (Write span payload) = all_of (is_noted outcome)
    by_op (Zero span) = all_of (is_noted outcome)
    by_op (Read span) = nothing (is_noted outcome)
    by_op Flush = nothing (is_noted outcome)
    by_op (Discard span) = nothing (is_noted outcome)
