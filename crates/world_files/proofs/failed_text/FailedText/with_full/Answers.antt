use Rattle.std.proofs.Common.{ap, length, arith}
use Rattle.world_files.proofs.FailedTexts.{says_full}
use Rattle.world_files.proofs.failed_text.FailedText.with_full.Goals as goal

pub push_words-requires : goal.push_words-requires
push_words-requires c = let has = c.self.invariant.1 in omega arith

pub push_str-requires : goal.push_str-requires
push_str-requires c =
    let has = c.self.invariant.1 in
    let same = ap length c.as_str.ensures in
    let left = c.push_words.ensures.room in
    omega arith

pub returns : goal.returns
returns c = λ given ends.
    let closed = rw (← c.self.view_is) at ends in
    rw (c.into_string.ensures, c.push_str.ensures.bytes, c.push_words.ensures.bytes, c.self.invariant.0, c.as_str.ensures, c.from.ensures)
    (says_full given c.self.inside.back.bytes c.args.dev (omega arith) closed)
