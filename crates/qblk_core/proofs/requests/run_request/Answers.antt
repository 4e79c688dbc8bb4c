use Rattle.qblk_core.proofs.Progress.{request-refused, request-retired}
use Rattle.qblk_core.proofs.requests.run_request.Goals as goal

pub returns-then-is_some : goal.returns-then-is_some
returns-then-is_some g c = request-refused c.args.engine.now c.admit.new.self c.args.op c.admit.result c.requires (cc) c.admit.ensures.kept c.admit.ensures.comes

pub returns : goal.returns
returns g c = request-retired c.args.engine.now c.admit.new.self c.run_pieces.new.engine c.retire.new.self c.args.op c.admit.result c.requires (cc) c.admit.ensures.kept c.admit.ensures.comes c.run_pieces.ensures c.retire.ensures.kept c.retire.ensures.comes
