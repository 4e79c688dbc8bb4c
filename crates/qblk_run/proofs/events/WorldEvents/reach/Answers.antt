use Rattle.std.specs.Prelude.{is_none}
use Rattle.trace_codec.specs.Awaits.{seen_await}
use Rattle.qblk_run.proofs.Staying.{wait_stay}
use Rattle.qblk_run.proofs.events.WorldEvents.reach.Goals as goal

pub returns-clause-stays : goal.returns-clause-stays
returns-clause-stays g c =
    wait_stay c.args.self.now c.reach.new.self c.reach.ensures.comes c.args.line (seen_await c.args.what) (is_none c.reach.result) c.reach.ensures.kept
