use Rattle.std.proofs.Common.{rules, ◌≡◌, true, false, arith, sym, ◌∙◌}
use Rattle.qblk_words.proofs.PlayerWords.{players_many, players_other, players_all}
use Rattle.qblk_words.proofs.players.are_players.Goals as goal

pub returns-then-words-gt16 : goal.returns-then-words-gt16
returns-then-words-gt16 c = players_many c.args.words.now c.if-words-gt16.true

pub returns-then-not-all_players : goal.returns-then-not-all_players
returns-then-not-all_players c =
    let no : c.all_players.result ≡ false = search rules in
    players_other c.args.words.now (sym no ∙ c.all_players.ensures)

pub returns : goal.returns
returns c =
    let yes : c.all_players.result ≡ true = search rules in
    c.all_differ.ensures ∙ players_all c.args.words.now (omega arith) (sym yes ∙ c.all_players.ensures)
