use Rattle.std.proofs.Common.{rules}
use Rattle.std.specs.Prelude.{◌==◌, not}
use Rattle.std.proofs.lemmas.Fn.{filter_same}
use Rattle.blk_bitmaps.proofs.bitmaps.drop_all.Goals as goal

pub returns-clause-rows : goal.returns-clause-rows
returns-clause-rows c =
    filter_same _ (λ row. not (row.node == c.args.node)) _ (λ x b f' t. search rules) c.args.rows.now.items
    c.retain.new.self.items c.retain.ensures.filtered
