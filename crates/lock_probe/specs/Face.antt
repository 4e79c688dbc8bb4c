-- What contracts see of a register.
use Rattle.std.specs.Prelude.{ℕ, List}
use Rattle.blk_base.specs.declared.memory.Room.{Room}
use Rattle.lock_probe.specs.declared.register.RegisterWrite.{RegisterWrite}

pub record Face : Type 0 where
  pub value : ℕ
  pub log : List RegisterWrite
  pub spare : Room

abbrev pub one_entry : Room
one_entry = record { entries = 1; bytes = 0 }
