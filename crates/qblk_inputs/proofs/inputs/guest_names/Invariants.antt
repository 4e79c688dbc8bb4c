use Rattle.std.proofs.Common.{◌≡◌, ◌++◌}
use Rattle.std.specs.Prelude.{map, drop}
use Rattle.qblk_words.specs.Words.{texts_in, player_of, player_names}
use Rattle.qblk_inputs.proofs.inputs.guest_names.Given as goal

-- the names so far, and those of the words that are left
abbrev pub invariant-loop-word : goal.invariant-loop-word
invariant-loop-word l =
    map (λ t. t.bytes) l.names.items ++ player_names (map player_of (texts_in (drop l.word-index l.players))) ≡ player_names (map player_of (texts_in l.players))
