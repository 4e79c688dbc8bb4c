use Rattle.std.proofs.Common.{◌*◌, ◌/◌, ℕ, List, length, subst, arith}
use Rattle.byteorder.specs.Endian.{big_bytes}
use Rattle.q2_format.specs.Bytes.{IsWritten}
use Rattle.q2_tables.proofs.LinkWrites.{table_made}
use Rattle.q2_tables.proofs.Written.{one_entry}
use Rattle.q2_tables.proofs.link.put_entry.Goals as goal

pub returns-clause-bytes : goal.returns-clause-bytes
returns-clause-bytes c =
    table_made (length c.args.buffer.now) c.args.column c.args.word c.clear.new.buffer c.word_bytes.result c.put_bytes.new.out
    c.clear.ensures.list c.word_bytes.ensures c.requires c.put_bytes.ensures.list

pub returns-clause-entry : goal.returns-clause-entry
returns-clause-entry c =
    let P : List ℕ → Type 0 = λ bytes. IsWritten c.clear.new.buffer c.put_bytes.new.out (8 * c.args.column) bytes in
    let written : P (big_bytes 8 c.args.word) = subst P c.word_bytes.ensures c.put_bytes.ensures.written in
    one_entry c.clear.new.buffer c.put_bytes.new.out (length c.args.buffer.now / 8) c.args.column c.args.word c.clear.ensures.zeros written (omega arith) (omega arith)
