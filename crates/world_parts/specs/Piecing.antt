-- A piece of a guest's request that was made and noted.
use Rattle.std.specs.Prelude.{◌≡◌, ◌≤◌, ℕ, List, length}
use Rattle.blk_base.specs.Pieces.{Extent}
use Rattle.blk_base.specs.declared.fault.Outcome.{Outcome}
use Rattle.trace_codec.specs.declared.op.Op.{Op}
use Rattle.trace_codec.specs.declared.op.Op.TheVariants.{Write, Zero}
use Rattle.blk_history.specs.Disk.{piece}
use Rattle.blk_history.specs.Machine.{Flight}
use Rattle.blk_nodes.specs.Nodes.{Nodes}
use Rattle.blk_pieces.specs.Pieces.{Transfers, shown_of, shows_in}
use Rattle.qmp_rules.specs.Chains.{written_under}
use Rattle.qmp_rules.specs.Table.{RunTable}
use Rattle.blk_history.specs.Small.{IsSmallOutcome}
use Rattle.world_parts.specs.Progress.{Progress, with_piece_entry}

-- ---- what it leaves of the world

-- a write notes which nodes have no flat disk any more
abbrev pub table_after : Op → ℕ → RunTable → RunTable
table_after (Write span payload) node t = written_under node t
table_after (Zero span) node t = written_under node t
table_after op node t = t

abbrev pub shown_in_flight : Flight → Outcome → List ℕ → List ℕ
shown_in_flight f outcome buffer = shown_of f.op outcome buffer

abbrev pub part_of : Flight → Extent
part_of f = piece f.op f.next

-- The next piece of a guest's request in flight was made on a drive, which reads as the node, and noted.
pub record IsMadeOn (nodes now : Nodes) (p q : Progress) (drive node g : ℕ) (f : Flight)
    (outcome : Outcome) : Type 0 where
  pub buffer : List ℕ
  pub transferred : Transfers f.op nodes now drive node (part_of f) outcome buffer
  pub fits : IsSmallOutcome outcome
  pub shown : length (shown_in_flight f outcome buffer) ≤ shows_in f.op (part_of f).len
  pub noted : q ≡ with_piece_entry g f.next outcome (shown_in_flight f outcome buffer) p
