-- What reading the words gives.
use Rattle.std.specs.Prelude.{ℕ, List, Result, Ok, Err}
use Rattle.qblk_words.specs.Words.{Cast, IsIo, IsRunOf, cast_of, texts_in}
use Rattle.qblk_words.specs.declared.words.Format.{Format}
use Rattle.qblk_words.specs.declared.words.Form.{Form}
use Rattle.qblk_words.specs.declared.words.Form.TheVariants.{Io, Run}
use Rattle.qblk_words.specs.declared.words.WordsStop.{WordsStop}
use Rattle.qblk_words.specs.declared.words.WordsStop.TheVariants.{Usage, NoMemory}

-- the words are of this form
abbrev pub IsForm : List (List ℕ) → Form → Type 0
IsForm words (Io io) = IsIo words io.format io.image.bytes io.trace.bytes
IsForm words (Run run) = IsRunOf words (cast_of run.script.bytes (texts_in run.players.items))

-- they are of none
pub record IsNoForm (words : List (List ℕ)) : Type 0 where
  pub io : (format : Format) (image trace : List ℕ) → IsIo words format image trace → ⊥
  pub run : (cast : Cast) → IsRunOf words cast → ⊥

-- a form is read just where the words are of it; want of memory may come at any words
abbrev pub Reads : List (List ℕ) → Result Form WordsStop → Type 0
Reads words (Ok form) = IsForm words form
Reads words (Err Usage) = IsNoForm words
Reads words (Err NoMemory) = Unit {0}
