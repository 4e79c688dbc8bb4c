use Rattle.std.proofs.Common.{◌≡◌, ◌<◌, ◌≤◌, length, arith, rules}
use Rattle.qmp_rules.proofs.ReachLemmas.{mark_step, mark_end}
use Rattle.qmp_rules.proofs.reach.mark.Goals as goal

pub loop-i-preserved : goal.loop-i-preserved
loop-i-preserved c =
    let some : 0 < c.loop-i.i = omega arith in
    let within : c.loop-i.i ≤ length c.args.edges.now = omega arith in
    record {
      marks = mark_step c.args.edges.now c.args.to c.loop-i.i c.index-edges-i.result c.args.before.now c.loop-i.after
          c.mark_one.new.after some within c.index-edges-i.is c.mark_one.ensures c.loop-i.invariant.marks;
      room = first_of (omega arith, search rules);
    }

pub returns : goal.returns
returns c =
    let none : c.loop-i.i ≡ 0 = omega arith in
    mark_end c.args.edges.now c.args.to c.loop-i.i c.args.before.now c.loop-i.after none c.loop-i.invariant.marks
