-- What a contract sees of a table of transfers.
use Rattle.std.specs.Prelude.{ℕ, List}
use Rattle.blk_copy.specs.declared.transfers.Transfer.{Transfer}

pub record Table : Type 0 where
  pub rows : List Transfer
  pub room : ℕ
