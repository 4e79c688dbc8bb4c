use Rattle.qmp_asks.specs.Seen.{seen_text}
use Rattle.qmp_rules.proofs.table.Names.clear.Goals as goal

pub returns-in-Commit : goal.returns-in-Commit
returns-in-Commit c = rw c.in-Commit.is (c.clear_top.ensures (seen_text c.in-Commit.base))
