use Rattle.std.proofs.Common.{◌∙◌}
use Rattle.trace_codec.proofs.WishLemmas.{read_wishes}
use Rattle.trace_codec.proofs.trace.read_wishes_after.Goals as goal

pub returns-clause-wishes : goal.returns-clause-wishes
returns-clause-wishes c =
    c.finish-wishes.ensures.wishes
    ∙ read_wishes c.args.asked.now c.args.text.now c.in_ok-read_wish_lines.field-0 (rw c.as_bytes.ensures.value at c.in_ok-read_wish_lines.ensures.ok)
