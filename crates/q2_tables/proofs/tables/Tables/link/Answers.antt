use Rattle.std.proofs.Common.{ℕ, sym, subst}
use Rattle.blk_base.specs.Device.{Writes, stop_of}
use Rattle.q2_tables.specs.Linking.{link_writes}
use Rattle.q2_tables.proofs.LinkWrites.{link_bound}
use Rattle.q2_tables.proofs.tables.Tables.link.Goals as goal

pub returns-then-table-eq0-clause-bound : goal.returns-then-table-eq0-clause-bound
returns-then-table-eq0-clause-bound g c =
    let P : ℕ → Type 0 = λ t. Writes g.D.Device (link_writes c.args.self.now c.args.cluster c.l2_word-word.result t) (stop_of c.link_entry.result) c.args.dev.now c.link_entry.new.dev in
    link_bound g.D.Device c.args.dev.now c.link_entry.new.dev c.args.self.now c.args.cluster c.l2_word-word.result c.args.table (stop_of c.link_entry.result)
    (subst P (sym c.if-table-eq0.true) c.link_entry.ensures.writes)

pub returns-else-table-eq0-clause-bound : goal.returns-else-table-eq0-clause-bound
returns-else-table-eq0-clause-bound g c =
    link_bound g.D.Device c.args.dev.now c.link_table.new.dev c.args.self.now c.args.cluster c.l2_word-word.result c.args.table (stop_of c.link_table.result)
    c.link_table.ensures.writes
