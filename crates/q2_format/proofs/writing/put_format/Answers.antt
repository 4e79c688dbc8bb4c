-- The type, the length and the text stand where they were put, with zeros behind them.
use Rattle.std.proofs.Common.{◌∙◌, inr, arith}
use Rattle.q2_format.proofs.ByPlace.{number_at-before, bytes_at-written}
use Rattle.q2_format.proofs.writing.put_format.Goals as goal

pub returns-clause-extension : goal.returns-clause-extension
returns-clause-extension c =
    let text = c.put_bytes.ensures.written in
    record {
      kind = number_at-before c.put_u32-2.new.out c.put_bytes.new.out 120 c.args.format.now text 112 4 (omega arith)
          ∙ c.put_u32-2.ensures.before 112 4 (omega arith) ∙ c.put_u32.ensures.put;
      length_field = number_at-before c.put_u32-2.new.out c.put_bytes.new.out 120 c.args.format.now text 116 4 (omega arith)
          ∙ c.put_u32-2.ensures.put;
      text = bytes_at-written c.put_u32-2.new.out c.put_bytes.new.out 120 c.args.format.now text;
      padding = λ i low high. text.outside i (inr low) ∙ c.put_u32-2.ensures.bytes_behind i (omega arith)
          ∙ c.put_u32.ensures.bytes_behind i (omega arith) ∙ c.requires.zeros i (omega arith) (omega arith);
    }
