-- A text that is being written.
use Rattle.std.specs.Prelude.{ℕ, ◌+◌, List, length}

-- its bytes, and how many more go in without taking memory
pub record Written : Type 0 where
  pub bytes : List ℕ
  pub spare : ℕ

-- how many bytes its memory holds
abbrev pub memory_of : Written → ℕ
memory_of text = text.spare + length text.bytes
