use Rattle.std.proofs.Common.{ℕ, List, [], ◌∷◌, subst}
use Rattle.blk_base.specs.Device.{Writes, stop_of}
use Rattle.blk_base.specs.Writes.{write_of}
use Rattle.blk_base.proofs.DeviceLemmas.{writes_then}
use Rattle.q2_refs.proofs.writing.write_block.Goals as goal

pub returns : goal.returns
returns g c =
    let P : List ℕ → Type 0 = λ xs.
    Writes g.D.Device (write_of c.args.offset c.args.block.now ∷ write_of c.args.entry xs ∷ []) (stop_of c.write-2.result) c.args.dev.now c.write-2.new.dev in
    subst P c.word_bytes.ensures
    (writes_then g.D.Device (write_of c.args.offset c.args.block.now ∷ []) (write_of c.args.entry c.word_bytes.result ∷ []) (stop_of c.write-2.result)
    c.args.dev.now c.write.new.dev c.write-2.new.dev c.in_ok-write.ensures c.write-2.ensures)
