use Rattle.std.proofs.Common.{◌≡◌, ◌∙◌, true, false, rules, sym, map}
use Rattle.qblk_words.proofs.Flags.{flagged-none, all-plain}
use Rattle.qblk_words.proofs.reading.read_words.Goals as goal

pub returns-then-not-none_flags : goal.returns-then-not-none_flags
returns-then-not-none_flags c =
    let no : c.none_flags.result ≡ false = search rules in
    flagged-none c.args.words.now (sym c.none_flags.ensures ∙ no)

pub parse-requires : goal.parse-requires
parse-requires c =
    let yes : c.none_flags.result ≡ true = search rules in
    all-plain c.args.words.now (map (λ w. w.now) c.as_slice.result.now) (sym c.none_flags.ensures ∙ yes) (search rules)
