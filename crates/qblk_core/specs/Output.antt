-- A transcript that goes out in parts.
use Rattle.std.specs.Prelude.{◌≡◌, ℕ, ◌+◌, ◌<◌, ◌≤◌, List, [], ◌∷◌, ◌++◌, length, Option, option_map}
use Rattle.blk_base.specs.Counts.{Rose}
use Rattle.blk_base.specs.Written.{Written, memory_of}
use Rattle.blk_history.specs.Line.{IsActorNamed, line_room}
use Rattle.blk_history.specs.Names.{RowNames}
use Rattle.blk_history.specs.declared.event.Event.{Event}

-- an entry's line has its names, and fits in so much memory behind 64 KiB
pub record LineFits (names : RowNames) (memory : ℕ) (e : Event) : Type 0 where
  pub named : IsActorNamed names e
  pub room : 65536 + line_room names e ≤ memory

abbrev pub AllLinesFit : RowNames → ℕ → List Event → Type 0
AllLinesFit names memory [] = Unit {0}
AllLinesFit names memory (e ∷ es) = LineFits names memory e × AllLinesFit names memory es

-- the text has less than 64 KiB, and so much memory at least
pub record IsBuffer (memory : ℕ) (line : Written) : Type 0 where
  pub short : length line.bytes < 65536
  pub room : memory ≤ memory_of line

-- a part of these bytes went out, and the rest stands in the text
pub record SendsPart (memory : ℕ) (old new : Option (List ℕ)) (whole : List ℕ)
    (line : Written) : Type 0 where
  pub part : (front : List ℕ) × (front ++ line.bytes ≡ whole)
      × (new ≡ option_map (λ s. s ++ front) old)
  pub buffer : IsBuffer memory line

-- a part of these bytes went out, and a put failed
pub record SendsFront (old new : Option (List ℕ)) (whole : List ℕ) (before now : ℕ) : Type 0 where
  pub part : (front : List ℕ) × (rest : List ℕ) × (front ++ rest ≡ whole)
      × (new ≡ option_map (λ s. s ++ front) old)
  pub rose : Rose before now
