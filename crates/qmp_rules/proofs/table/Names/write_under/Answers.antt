use Rattle.std.proofs.Common.{◌≡◌, ◌∙◌, ap, arith, refl, length}
use Rattle.qmp_rules.specs.Room.{Roomy}
use Rattle.qmp_rules.proofs.WriteLemmas.{written_none, written_step, written_all}
use Rattle.qmp_rules.proofs.table.Names.write_under.Goals as goal

pub loop-at-init : goal.loop-at-init
loop-at-init c = record { rows = written_none c.args.self.now.table c.args.node; table = refl; spare = refl }

pub loop-at-preserved : goal.loop-at-preserved
loop-at-preserved c =
    let count : length c.self.inside.nodes.items ≡ length c.args.self.now.table.nodes = ap (λ (v : Roomy). length v.table.nodes) c.self.view_is in
    let step = written_step c.args.self.now.table c.loop-at.self.table c.write_row.new.self.table c.args.node c.loop-at.at c.loop-at.invariant.table c.loop-at.invariant.rows
    (omega (arith, count, c.self.inside.nodes.ok.0, c.loop-at-test.true, c.len-at-end.ensures)) c.write_row.ensures.table in
    record { rows = step.0; table = step.1; spare = c.write_row.ensures.spare ∙ c.loop-at.invariant.spare }

pub returns-clause-table : goal.returns-clause-table
returns-clause-table c =
    let count : length c.self.inside.nodes.items ≡ length c.args.self.now.table.nodes = ap (λ (v : Roomy). length v.table.nodes) c.self.view_is in
    c.loop-at.invariant.table
    ∙ written_all c.args.self.now.table c.args.node c.loop-at.at c.loop-at.self.table.nodes (omega (arith, count, c.self.inside.nodes.ok.0, c.loop-at.invariant.rows.count, c.len-at-end.ensures, c.loop-at-test.false)) c.loop-at.invariant.rows
