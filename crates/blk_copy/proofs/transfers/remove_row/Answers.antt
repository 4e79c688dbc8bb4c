use Rattle.std.proofs.Common.{rules, not}
use Rattle.std.proofs.lemmas.Fn.{filter_same}
use Rattle.blk_copy.specs.Rows.{is_of}
use Rattle.blk_copy.proofs.transfers.remove_row.Goals as goal

pub returns-clause-rows : goal.returns-clause-rows
returns-clause-rows c =
    filter_same _ (λ row. not (is_of c.args.job c.args.cluster row)) _ (λ x b f' k. search rules) _ _ c.retain.ensures.filtered
