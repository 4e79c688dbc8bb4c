use Rattle.std.proofs.Common.{◌≡◌, ◌*◌, ◌/◌, ℕ, List, length, Some}
use Rattle.blk_base.specs.Device.{Untouched}
use Rattle.q2_tables.specs.Words.{AreUnnamedZero}
use Rattle.q2_tables.proofs.Loaded.{HasTables, HasZerosFrom, StandBelow}
use Rattle.q2_tables.proofs.load.read_l2_tables.Given as goal

abbrev pub invariant-loop-i : goal.invariant-loop-i
invariant-loop-i g l = record {
  told : (file : List ℕ) → g.D.Device.content l.fn.dev ≡ Some file → HasTables file (length l.fn.buffer) l.i l.l1 l.words;
  zeros : HasZerosFrom (length l.fn.buffer / 8) l.i l.words;
  unnamed : AreUnnamedZero (length l.fn.buffer / 8) l.l1 l.words (l.i * (length l.fn.buffer / 8));
  stands : StandBelow (g.D.Device.size l.fn.dev) (length l.fn.buffer / 8) l.i l.l1 l.words;
  device : Untouched g.D.Device l.fn.dev l.dev;
}
