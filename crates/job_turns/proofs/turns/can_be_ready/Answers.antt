use Rattle.std.proofs.Common.{ℕ, List, length, ◌∙◌, sym, ap}
use Rattle.std.specs.Prelude.{◌==◌}
use Rattle.flat_machine.specs.Jobs.{can_be_ready}
use Rattle.job_turns.proofs.Overlays.{no_overlay}
use Rattle.job_turns.proofs.turns.can_be_ready.Goals as goal

pub returns-in-Commit : goal.returns-in-Commit
returns-in-Commit c =
    c.is_empty.ensures
    ∙ ap (λ (ids : List ℕ). length ids == 0) c.as_slice.ensures
    ∙ no_overlay c.args.row.now.read
    ∙ ap (can_be_ready c.args.row.now) (sym c.in-Commit.is)
