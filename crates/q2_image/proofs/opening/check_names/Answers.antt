use Rattle.std.proofs.Common.{length, refl}
use Rattle.std.proofs.lemmas.Result.{err_from_is_err_and}
use Rattle.q2_image.proofs.Order.{uncounted_names, full_judges}
use Rattle.q2_image.proofs.opening.check_names.Goals as goal

pub returns-in_err-check_counted-clause-judged : goal.returns-in_err-check_counted-clause-judged
returns-in_err-check_counted-clause-judged c =
    let p = err_from_is_err_and c.from_residual.result c.from_residual.ensures.1 in
    rw (p.1, p.2) (λ uses seen once. uncounted_names c.args.header.now uses c.args.refs.now.counts (length c.args.seen.now.named) c.args.seen.now
    c.in_err-check_counted.field-0.0 refl once (c.in_err-check_counted.ensures.judged uses seen))

pub returns-clause-judged : goal.returns-clause-judged
returns-clause-judged c = λ uses seen once.
    full_judges (Unit {0}) c.args.header.now uses c.args.refs.now.counts (length c.args.seen.now.named) c.check_room.result once (c.in_ok-check_counted.ensures.judged uses seen) c.check_room.ensures.judged
