-- The name's fields and its text stand where they were put, and all else as it was.
use Rattle.std.proofs.Common.{◌∙◌, inl, inr, arith}
use Rattle.q2_format.proofs.ByPlace.{number_at-before, bytes_at-written}
use Rattle.q2_format.proofs.Creating.{named_fields}
use Rattle.q2_format.proofs.writing.put_name.Goals as goal

pub returns-clause-fields : goal.returns-clause-fields
returns-clause-fields c size format fields =
    let text = c.put_bytes.ensures.written in
    let offset = number_at-before c.put_u32.new.out c.put_bytes.new.out 32768 c.args.name.now text 8 8 (omega arith)
    ∙ c.put_u32.ensures.before 8 8 (omega arith) ∙ c.put_u64.ensures.put in
    let len = number_at-before c.put_u32.new.out c.put_bytes.new.out 32768 c.args.name.now text 16 4 (omega arith) ∙ c.put_u32.ensures.put in
    named_fields size format c.args.name.now c.args.out.now c.put_bytes.new.out fields offset len
    (record { same = λ i low high. text.outside i (inl (omega arith)) ∙ c.put_u32.ensures.bytes_before i (omega arith) ∙ c.put_u64.ensures.bytes_before i (omega arith) })
    (record { same = λ i low high. text.outside i (inl (omega arith)) ∙ c.put_u32.ensures.bytes_behind i (omega arith) ∙ c.put_u64.ensures.bytes_behind i (omega arith) })

pub returns-clause-name : goal.returns-clause-name
returns-clause-name c size format =
    let text = c.put_bytes.ensures.written in
    record {
      text = bytes_at-written c.put_u32.new.out c.put_bytes.new.out 32768 c.args.name.now text;
      behind = λ i low high. text.outside i (inr low) ∙ c.put_u32.ensures.bytes_behind i (omega arith)
          ∙ c.put_u64.ensures.bytes_behind i (omega arith) ∙ c.requires.zeros i (omega arith) high;
    }
