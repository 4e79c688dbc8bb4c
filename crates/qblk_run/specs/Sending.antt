-- How long the lines of a transcript are.
use Rattle.std.specs.Prelude.{◌≡◌, ℕ, ◌≤◌, List, length, slice_get, get_or, [], Some, ◌<◌}
use Rattle.blk_history.specs.Line.{reply_by}
use Rattle.blk_history.specs.declared.event.Event.{Event}

-- no reply's text is longer
abbrev pub RepliesFit : ℕ → List Event → Type 0
RepliesFit most events =
    (at : ℕ) (e : Event) (text : List ℕ) → slice_get events at ≡ Some e → reply_by e ≡ Some text
    → length text ≤ most

-- no name is
abbrev pub NamesFit : ℕ → List (List ℕ) → Type 0
NamesFit most names = (place : ℕ) → place < length names → length (get_or names place []) ≤ most
