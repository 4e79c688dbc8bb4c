use Rattle.std.proofs.Common.{◌≡◌, ◌++◌}
use Rattle.std.specs.Prelude.{map, drop}
use Rattle.qblk_words.specs.Words.{texts_in}
use Rattle.qblk_words.proofs.reading.lent.Given as goal

abbrev pub invariant-loop-word : goal.invariant-loop-word
invariant-loop-word l = map (λ w. w.now) l.lent.items ++ texts_in (drop l.word-index l.words) ≡ texts_in l.words
