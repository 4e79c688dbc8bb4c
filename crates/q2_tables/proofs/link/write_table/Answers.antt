use Rattle.std.proofs.Common.{[], ◌∷◌, ◌/◌, ℕ, List, length, subst, arith, Result, Ok, Err, OnOk, refl, ◌≡◌}
use Rattle.blk_base.specs.Device.{Writes, stop_of}
use Rattle.blk_base.specs.Writes.{write_of}
use Rattle.blk_base.specs.declared.fault.DevStop.{DevStop}
use Rattle.q2_tables.proofs.LinkWrites.{table_told, table_written, table_reaches}
use Rattle.q2_tables.proofs.Written.{entry_after}
use Rattle.q2_tables.proofs.link.write_table.Goals as goal

pub returns-clause-writes : goal.returns-clause-writes
returns-clause-writes g c =
    let P : List ℕ → Type 0 = λ bytes. Writes g.D.Device (write_of c.args.at bytes ∷ []) (stop_of c.write.result) c.args.dev.now c.write.new.dev in
    subst P c.put_entry.ensures.bytes c.write.ensures

pub returns-clause-told : goal.returns-clause-told
returns-clause-told g c = λ file told.
    table_told g.D.Device c.args.dev.now c.write.new.dev (stop_of c.write.result) c.args.at (length c.args.buffer.now) c.put_entry.new.buffer file c.write.ensures (omega arith) told

pub returns-clause-reaches : goal.returns-clause-reaches
returns-clause-reaches g c =
    table_reaches g.D.Device c.args.dev.now c.write.new.dev c.write.result c.args.at (length c.args.buffer.now) c.put_entry.new.buffer c.write.ensures
    (omega arith) (omega arith)

on_ok : {P : Type 0} (r : Result (Unit {0}) DevStop) → ((t : Unit {0}) → r ≡ Ok t → P) → OnOk r P
on_ok (Ok t) f = f t refl
on_ok (Err stop) f = tt

pub returns-clause-entry : goal.returns-clause-entry
returns-clause-entry g c = on_ok c.write.result (λ t ok file told.
    let P : Result (Unit {0}) DevStop → Type 0 = λ r. Writes g.D.Device (write_of c.args.at c.put_entry.new.buffer ∷ []) (stop_of r) c.args.dev.now c.write.new.dev in
    let written = table_written g.D.Device c.args.dev.now c.write.new.dev c.args.at c.put_entry.new.buffer (subst P ok c.write.ensures) in
    entry_after (g.D.Device.content c.args.dev.now) (g.D.Device.content c.write.new.dev) file c.put_entry.new.buffer c.args.at
    (length c.args.buffer.now / 8) c.args.column c.args.word written told (omega arith) (omega arith) c.put_entry.ensures.entry)
