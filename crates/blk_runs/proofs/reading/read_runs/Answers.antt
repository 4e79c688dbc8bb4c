use Rattle.std.proofs.Common.{◌≡◌, subst, sym, refl, ◌∙◌, ap, rules}
use Rattle.blk_runs.specs.Runs.{bytes_of_runs, runs_of, runs_text, text_of}
use Rattle.blk_runs.specs.Reading.{IsBlock}
use Rattle.blk_runs.proofs.ReadBack.{block-read, read-block, text-of-read, text-of-block}
use Rattle.blk_runs.proofs.reading.read_runs.Goals as goal

pub returns-in_default-clause-bad : goal.returns-in_default-clause-bad
returns-in_default-clause-bad c = (
  λ _ bytes block is. c.in_default.ensures (runs_of bytes) (block-read bytes block) (text-of-block bytes _ is ∙ sym c.as_bytes.ensures.value),
  λ _. refl,
)

pub returns-in_err-read_bytes-clause-bad : goal.returns-in_err-read_bytes-clause-bad
returns-in_err-read_bytes-clause-bad c =
    let rs = c.in-Some.ensures.0 in
    let text : text_of rs ≡ c.args.text.now = c.in-Some.ensures.2 ∙ c.as_bytes.ensures.value in (
      λ bad. absurd (search (rules, bad, c.from_residual.ensures)),
      λ none. absurd (none (bytes_of_runs rs) (read-block rs c.in-Some.ensures.1) (text-of-read rs c.in-Some.ensures.1 ∙ text)),
    )

pub returns-clause-ok : goal.returns-clause-ok
returns-clause-ok c =
    let rs = c.in-Some.ensures.0 in
    let text : text_of rs ≡ c.args.text.now = c.in-Some.ensures.2 ∙ c.as_bytes.ensures.value in
    let bytes : c.in_ok-read_bytes.field-0 ≡ bytes_of_runs rs
    = c.in_ok-read_bytes.ensures rs c.in-Some.ensures.1 (c.in-Some.ensures.2 ∙ c.as_bytes.ensures.value ∙ sym c.as_bytes-2.ensures.value) in
    (subst IsBlock (sym bytes) (read-block rs c.in-Some.ensures.1), ap runs_text bytes ∙ text-of-read rs c.in-Some.ensures.1 ∙ text)

pub returns-clause-bad : goal.returns-clause-bad
returns-clause-bad c =
    let rs = c.in-Some.ensures.0 in
    let text : text_of rs ≡ c.args.text.now = c.in-Some.ensures.2 ∙ c.as_bytes.ensures.value in (
      λ bad. absurd (cc bad),
      λ none. absurd (none (bytes_of_runs rs) (read-block rs c.in-Some.ensures.1) (text-of-read rs c.in-Some.ensures.1 ∙ text)),
    )
