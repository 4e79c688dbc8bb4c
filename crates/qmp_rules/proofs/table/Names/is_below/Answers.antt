use Rattle.std.proofs.Common.{◌<◌, ◌∙◌, sym, ap, arith}
use Rattle.qmp_rules.specs.Chains.{chain_below, is_listed}
use Rattle.qmp_rules.proofs.ChainLemmas.{below_start}
use Rattle.qmp_rules.proofs.WriteLemmas.{has_more}
use Rattle.qmp_rules.proofs.table.Names.is_below.Goals as goal

pub loop-init : goal.loop-init
loop-init c = ap (is_listed c.args.node) (below_start c.args.self.now.table c.args.id)

pub returns-in-Some : goal.returns-in-Some
returns-in-Some c =
    let less : c.loop.counter < 64 = omega arith in
    let more = has_more c.loop.counter c.args.self.now.table c.loop.top c.args.node (is_listed c.args.node (chain_below c.args.self.now.table c.args.id)) c.loop.invariant c.in-Some.below less (sym c.in-Some.ensures) in
    rw (sym c.eq.ensures ∙ c.if-eq.true) at more

pub loop-preserved : goal.loop-preserved
loop-preserved c =
    let less : c.loop.counter < 64 = omega arith in
    let more = has_more c.loop.counter c.args.self.now.table c.loop.top c.args.node (is_listed c.args.node (chain_below c.args.self.now.table c.args.id)) c.loop.invariant c.in-Some.below less (sym c.in-Some.ensures) in
    rw (sym c.eq.ensures ∙ c.if-eq.false) at more
