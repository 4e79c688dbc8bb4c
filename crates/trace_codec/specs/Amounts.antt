-- What traces ask for together.
use Rattle.std.specs.Prelude.{ℕ}

-- pieces, and bytes that are read
pub record Amounts : Type 0 where
  pub pieces : ℕ
  pub read_bytes : ℕ

abbrev pub nothing : Amounts
nothing = record { pieces = 0; read_bytes = 0 }
