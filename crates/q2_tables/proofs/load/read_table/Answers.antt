use Rattle.std.proofs.Common.{◌*◌, length, arith}
use Rattle.q2_tables.proofs.Loaded.{words_of_buffer, read_of_length, buffer_stands}
use Rattle.q2_tables.proofs.load.read_table.Goals as goal

pub returns-in-Ok-clause-told : goal.returns-in-Ok-clause-told
returns-in-Ok-clause-told g c = λ file told.
    words_of_buffer file c.read_at.new.buf c.read_u64_into.new.dst c.args.at (length c.args.words.now)
    (read_of_length file c.read_at.new.buf c.args.at (length c.args.buffer.now) (8 * length c.args.words.now) (c.in-Ok.ensures.read file told) c.requires)
    (omega arith) c.read_u64_into.ensures

pub returns-in-Ok-clause-stands : goal.returns-in-Ok-clause-stands
returns-in-Ok-clause-stands g c =
    buffer_stands c.read_at.new.buf c.read_u64_into.new.dst (g.D.Device.size c.args.dev.now) c.args.at c.in-Ok.ensures.past c.read_u64_into.ensures
