use Rattle.std.proofs.Common.{◌≡◌, length}
use Rattle.std.specs.Prelude.{map}
use Rattle.qblk_words.specs.Words.{texts_in, player_of, player_names, all_differ}
use Rattle.qblk_words.proofs.players.all_differ.Given as goal

abbrev pub invariant-loop-rest : goal.invariant-loop-rest
invariant-loop-rest l = all_differ (player_names (map player_of (texts_in l.rest))) ≡ all_differ (player_names (map player_of (texts_in l.words)))

abbrev pub decreases-loop-rest : goal.decreases-loop-rest
decreases-loop-rest l = length l.rest
