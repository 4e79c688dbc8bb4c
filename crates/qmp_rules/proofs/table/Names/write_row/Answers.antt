use Rattle.std.proofs.Common.{◌≡◌, ◌∙◌, sym, subst, get_or}
use Rattle.qmp_rules.specs.Room.{Roomy}
use Rattle.qmp_rules.proofs.WriteLemmas.{kept_row}
use Rattle.qmp_rules.proofs.table.Names.write_row.Goals as goal

pub returns-else-is_over-clause-table : goal.returns-else-is_over-clause-table
returns-else-is_over-clause-table c = λ row is.
    kept_row c.args.self.now.table c.args.node c.args.at c.index.result.now row
    (subst (λ (v : Roomy). c.index.result.now ≡ get_or v.table.nodes c.args.at c.index.result.now) c.self.view_is c.index.ensures)
    (sym c.is_over.ensures ∙ c.if-is_over.false) is
