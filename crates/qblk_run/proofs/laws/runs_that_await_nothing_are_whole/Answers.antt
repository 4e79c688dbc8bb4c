use Rattle.qblk_run.proofs.Completes.{none-stuck}
use Rattle.qblk_run.proofs.laws.runs_that_await_nothing_are_whole.Goals as goal

pub returns : goal.returns
returns c = λ is_told work a actor what can order stuck attached.
    none-stuck work a.events stuck.state actor what can order.order stuck.stuck attached
