use Rattle.std.proofs.Common.{arith, sym, ap, ◌∙◌}
use Rattle.std.specs.Prelude.{map}
use Rattle.qblk_words.specs.Words.{texts_in, player_of, player_names, all_differ}
use Rattle.qblk_words.proofs.PlayerWords.{first_rest, differ_no, differ_on}
use Rattle.qblk_words.proofs.players.all_differ.Goals as goal

pub returns-then-is_among : goal.returns-then-is_among
returns-then-is_among c =
    let split = first_rest c.loop-rest.rest.now c.word-item.result (omega arith) c.word-item.is in
    sym (differ_no c.word-item.result _ (sym c.is_among.ensures ∙ c.if-is_among.true))
    ∙ ap (λ ws. all_differ (player_names (map player_of (texts_in ws)))) (sym split) ∙ c.loop-rest.invariant

pub loop-rest-preserved : goal.loop-rest-preserved
loop-rest-preserved c =
    let split = first_rest c.loop-rest.rest.now c.word-item.result (omega arith) c.word-item.is in
    sym (differ_on c.word-item.result _ (sym c.is_among.ensures ∙ c.if-is_among.false))
    ∙ ap (λ ws. all_differ (player_names (map player_of (texts_in ws)))) (sym split) ∙ c.loop-rest.invariant
