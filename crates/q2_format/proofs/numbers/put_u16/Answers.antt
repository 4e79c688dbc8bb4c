-- The bytes of the number were put at the place, and nothing else.
use Rattle.std.proofs.Common.{drop, replicate, arith}
use Rattle.q2_format.proofs.ByPlace.{number_at-written, number_at-before, number_at-behind}
use Rattle.q2_format.proofs.numbers.put_u16.Goals as goal

pub returns-clause-put : goal.returns-clause-put
returns-clause-put c =
    number_at-written c.args.out.now c.put_bytes.new.out c.args.at 2 c.args.value (drop 2 (replicate 2 0)) c.write_u16.new.buf
    c.put_bytes.ensures.written c.write_u16.ensures c.write_u16.auto.buf (omega arith)

pub returns-clause-before : goal.returns-clause-before
returns-clause-before c i n h = number_at-before c.args.out.now c.put_bytes.new.out c.args.at c.write_u16.new.buf c.put_bytes.ensures.written i n h

pub returns-clause-behind : goal.returns-clause-behind
returns-clause-behind c i n h =
    number_at-behind c.args.out.now c.put_bytes.new.out c.args.at c.write_u16.new.buf c.put_bytes.ensures.written i n (omega (arith, c.write_u16.auto.buf))
