-- What is done for a stream or a commit with the next block that is left.
use Rattle.std.specs.Prelude.{◌≡◌, ◌⊎◌, ℕ, ◌-◌, ◌*◌, ◌^◌, Bool, true, false, not, ◌&&◌, Option, Some, None, Result}
use Rattle.blk_base.specs.declared.fault.Fault.{Fault}
use Rattle.blk_nodes.specs.Nodes.{Nodes, row_at}
use Rattle.blk_nodes.specs.Owning.{has_own}
use Rattle.block_jobs.specs.Work.{JobWork, after_copy, next_block}
use Rattle.node_copies.specs.Between.{is_held_below}
use Rattle.node_copies.specs.Putting.{CopiesBlock}
use Rattle.node_copies.specs.Sectors.{block_of}
use Rattle.job_copies.specs.Guarding.{after_guard}

abbrev pub all_sectors : ℕ
all_sectors = 2 ^ 128 - 1

-- what the top reads as in a block is copied to a node
pub record CopiesTop (old new : Nodes) (was now : JobWork) (top to block : ℕ) : Type 0 where
  pub result : Result (Unit {0}) Fault
  pub copies : CopiesBlock old new top to (block_of was.size block) all_sectors result
  pub work : now ≡ after_guard result block was

-- or the block isn't copied, since it has not to be; it is left no more
abbrev pub PassesBlock : Bool → Nodes → Nodes → JobWork → JobWork → ℕ → ℕ → ℕ → Type 0
PassesBlock true old new was now top to block = CopiesTop old new was now top to block
PassesBlock false old new was now top to block = (new ≡ old) × (now ≡ after_copy block was)

-- of the next block, by whether what begins there must be copied; the answer is whether there is one
abbrev pub PassesNext : (ℕ → Bool) → Nodes → Nodes → JobWork → JobWork → ℕ → ℕ → Bool → Type 0
PassesNext must old new was now top to false = (next_block was ≡ None) × (new ≡ old) × (now ≡ was)
PassesNext must old new was now top to true = (block : ℕ) × (next_block was ≡ Some block)
    × PassesBlock (must (block * 65536)) old new was now top to block

-- a stream copies a block into its top that a node above the base has, and the top hasn't
abbrev pub is_streamed : Nodes → Option ℕ → ℕ → ℕ → Bool
is_streamed nodes base top place =
    not (has_own place (row_at nodes top)) && is_held_below nodes base top place

-- a place is the top's own then, or no node below it, down to above the base, has it
abbrev pub IsShown : Nodes → Option ℕ → ℕ → ℕ → Type 0
IsShown nodes base top place = (has_own place (row_at nodes top) ≡ true)
    ⊎ (is_held_below nodes base top place ≡ false)
