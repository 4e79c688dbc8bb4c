-- The entry stands first, among zeros.
use Rattle.std.proofs.Common.{◌∙◌}
use Rattle.q2_format.proofs.ByPlace.{number_at-zeros}
use Rattle.q2_format.proofs.Creating.{made_table}
use Rattle.q2_format.proofs.refcounts.write_refcount_table.Goals as goal

pub returns : goal.returns
returns c size name format small =
    made_table c.put_u64.new.out size name format small c.put_u64.ensures.put
    (λ i far. c.put_u64.ensures.behind i 8 far ∙ number_at-zeros c.clear.new.out i 8 (λ j low high. c.clear.ensures j))
