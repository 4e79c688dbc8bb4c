use Rattle.std.proofs.Common.{◌∙◌, ap, arith, append_assoc, ◌++◌}
use Rattle.std.specs.Prelude.{decimal}
use Rattle.blk_history.proofs.Words.{short_decimal}
use Rattle.world_files.proofs.failed_text.push_words.Goals as goal

pub push_number-requires : goal.push_number-requires
push_number-requires c =
    let short = short_decimal c.args.number (omega arith) in
    let has = c.requires in
    let left = c.push_str.ensures.room in
    omega arith

pub returns-clause-bytes : goal.returns-clause-bytes
returns-clause-bytes c =
    c.push_number.ensures.bytes ∙ ap (λ bytes. bytes ++ decimal c.args.number) c.push_str.ensures.bytes
    ∙ append_assoc c.args.out.now.bytes c.args.words.now (decimal c.args.number)

pub returns-clause-room : goal.returns-clause-room
returns-clause-room c =
    let short = short_decimal c.args.number (omega arith) in
    let left = c.push_str.ensures.room in
    let less = c.push_number.ensures.room in
    omega arith
