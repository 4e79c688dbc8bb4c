use Rattle.std.proofs.Common.{◌≡◌, ℕ, None, subst}
use Rattle.std.proofs.lemmas.Result.{err_from_is_err_and}
use Rattle.q2_image.specs.Opening.{Names, uses_in, overlap_stop}
use Rattle.q2_image.specs.Seen.{IsSeen}
use Rattle.q2_image.proofs.opening.name_once.Goals as goal

pub returns-in_err-check_overlap-clause-judged : goal.returns-in_err-check_overlap-clause-judged
returns-in_err-check_overlap-clause-judged c =
    let p = err_from_is_err_and c.from_residual-in_err-check_overlap.result c.from_residual-in_err-check_overlap.ensures.1 in
    let uses : ℕ → ℕ = uses_in c.args.header.now c.args.table.now c.args.tables.now.l1 c.args.tables.now.words in
    let seen : IsSeen uses c.in_ok-seen.seen = rw (c.l1.ensures, c.words.ensures) at c.in_ok-seen.ensures.seen in
    let P : ℕ → Type 0 = λ n. Names (overlap_stop uses n) c.in_err-check_overlap.field-0.0 in
    rw (p.1, p.2) (subst P c.in_ok-seen.ensures.count (c.in_err-check_overlap.ensures.judged uses seen))

pub returns-clause-seen : goal.returns-clause-seen
returns-clause-seen c = rw (c.l1.ensures, c.words.ensures) at c.in_ok-seen.ensures.seen

pub returns-clause-judged : goal.returns-clause-judged
returns-clause-judged c =
    let uses : ℕ → ℕ = uses_in c.args.header.now c.args.table.now c.args.tables.now.l1 c.args.tables.now.words in
    let seen : IsSeen uses c.in_ok-seen.seen = rw (c.l1.ensures, c.words.ensures) at c.in_ok-seen.ensures.seen in
    let N : ℕ → Type 0 = λ n. overlap_stop uses n ≡ None in
    subst N c.in_ok-seen.ensures.count (c.in_ok-check_overlap.ensures.judged uses seen)
