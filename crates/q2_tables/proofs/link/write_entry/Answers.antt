use Rattle.std.proofs.Common.{[], ◌∷◌, ℕ, List, subst}
use Rattle.blk_base.specs.Device.{Writes, stop_of}
use Rattle.blk_base.specs.Writes.{write_of}
use Rattle.q2_tables.specs.Linking.{entry_write}
use Rattle.q2_tables.proofs.LinkWrites.{entry_made, entry_kept}
use Rattle.q2_tables.proofs.link.write_entry.Goals as goal

pub returns-clause-writes : goal.returns-clause-writes
unfolding entry_write
returns-clause-writes g c =
    let P : List ℕ → Type 0 = λ bytes. Writes g.D.Device (write_of c.args.at bytes ∷ []) (stop_of c.write.result) c.args.dev.now c.write.new.dev in
    subst P c.word_bytes.ensures c.write.ensures

pub returns-clause-written : goal.returns-clause-written
returns-clause-written g c =
    entry_made g.D.Device c.args.dev.now c.write.new.dev c.write.result c.args.at c.args.word (returns-clause-writes g c)

pub returns-clause-kept : goal.returns-clause-kept
returns-clause-kept g c =
    entry_kept g.D.Device c.args.dev.now c.write.new.dev c.write.result c.args.at c.args.word c.requires (returns-clause-writes g c)
