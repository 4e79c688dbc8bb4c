-- What is done for a backup before a guest writes a block of its source.
use Rattle.std.specs.Prelude.{◌≡◌, ◌≢◌, ◌⊎◌, ℕ, Result, Ok, Err}
use Rattle.blk_base.specs.declared.fault.Fault.{Fault}
use Rattle.blk_nodes.specs.Nodes.{Nodes, node_size}
use Rattle.block_jobs.specs.Work.{JobWork, after_copy, failed_by, sectors_left}
use Rattle.node_copies.specs.Putting.{CopiesBlock}
use Rattle.node_copies.specs.Sectors.{block_of}

-- the work behind a copy that was answered so
abbrev pub after_guard : Result (Unit {0}) Fault → ℕ → JobWork → JobWork
after_guard (Ok done) block work = after_copy block work
after_guard (Err fault) block work = failed_by fault work

-- what is left of the block is copied
pub record CopiesLeft (old new : Nodes) (was now : JobWork) (source target block : ℕ) : Type 0
  where
    pub some : sectors_left was block ≢ 0
    pub result : Result (Unit {0}) Fault
    pub copies : CopiesBlock old new source target (block_of (node_size old target) block)
        (sectors_left was block) result
    pub work : now ≡ after_guard result block was

-- or nothing is left of it, and nothing is done
abbrev pub Guards : Nodes → Nodes → JobWork → JobWork → ℕ → ℕ → ℕ → Type 0
Guards old new was now source target block =
    ((sectors_left was block ≡ 0) × (new ≡ old) × (now ≡ was))
    ⊎ CopiesLeft old new was now source target block
