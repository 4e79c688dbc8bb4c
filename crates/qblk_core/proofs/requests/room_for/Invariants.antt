use Rattle.std.proofs.Common.{◌≡◌, ◌+◌, drop}
use Rattle.qblk_core.specs.Requests.{entries_to_add, bytes_to_read, HaveCountedPieces}
use Rattle.qblk_core.proofs.requests.room_for.Given as goal

abbrev pub invariant-loop-op : goal.invariant-loop-op
invariant-loop-op l = record {
  entries : l.room.entries + entries_to_add (drop l.op-index l.ops) ≡ entries_to_add l.ops;
  bytes : l.room.bytes + bytes_to_read (drop l.op-index l.ops) ≡ bytes_to_read l.ops;
  pieces : HaveCountedPieces (drop l.op-index l.ops) → HaveCountedPieces l.ops;
}
