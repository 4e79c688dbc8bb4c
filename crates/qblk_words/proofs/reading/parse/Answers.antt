use Rattle.std.proofs.Common.{map}
use Rattle.qblk_words.proofs.Taking.{taken-by, refused-by, refused-reads}
use Rattle.qblk_words.proofs.reading.parse.Goals as goal

pub form_of-requires : goal.form_of-requires
form_of-requires c =
    let its = c.in-Ok-try_get_matches_from.ensures in
    (map (λ w. w.now) c.args.words.now, taken-by _ _ _ c.in-Ok.ensures c.requires its.kinds its.matches)

pub returns-in-Ok-try_get_matches_from : goal.returns-in-Ok-try_get_matches_from
returns-in-Ok-try_get_matches_from c =
    let its = c.in-Ok-try_get_matches_from.ensures in
    c.form_of.ensures (map (λ w. w.now) c.args.words.now) (taken-by _ _ _ c.in-Ok.ensures c.requires its.kinds its.matches)

pub returns-in-Err : goal.returns-in-Err
returns-in-Err c =
    refused-reads (map (λ w. w.now) c.args.words.now) c.stop_of.result _ c.stop_of.ensures
    (λ other. refused-by _ _ c.in-Err.error c.in-Ok.ensures c.in-Err.ensures.kinds other)
