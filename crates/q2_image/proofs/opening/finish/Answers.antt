use Rattle.std.proofs.Common.{◌≡◌, ℕ, length, take, Err, Ok, sym, ap, subst, ◌∙◌, arith}
use Rattle.std.proofs.lemmas.Result.{err_from_is_err_and}
use Rattle.q2_format.specs.References.{cluster_bound, reach_of}
use Rattle.q2_refs.specs.Kept as refs
use Rattle.q2_image.specs.Image.{IsOpen}
use Rattle.q2_image.specs.Opening.{uses_in}
use Rattle.q2_image.specs.Placed.{FitsFile}
use Rattle.q2_image.proofs.Opened.{is_open}
use Rattle.q2_image.proofs.Order.{judges_at}
use Rattle.q2_image.proofs.Placed.{fits_file}
use Rattle.q2_image.proofs.opening.finish.Goals as goal

pub check_names-requires-clause-list : goal.check_names-requires-clause-list
check_names-requires-clause-list c =
    let bits = c.requires.limits.cluster_bits in
    let list = rw bits at c.requires.limits.list in
    omega (arith, list)

pub returns-in_err-check_names-clause-judged : goal.returns-in_err-check_names-clause-judged
returns-in_err-check_names-clause-judged c =
    let p = err_from_is_err_and c.from_residual.result c.from_residual.ensures.1 in
    let uses : ℕ → ℕ = uses_in c.args.header c.args.refs.table c.args.tables.l1 c.args.tables.words in
    rw (p.1, p.2) (judges_at ℕ c.args.header uses c.args.refs.counts (length c.args.seen.now.named) (cluster_bound c.args.header c.args.len)
    (Err c.in_err-check_names.field-0.0) c.requires.count c.requires.once (c.in_err-check_names.ensures.judged uses c.requires.seen))

pub returns-clause-judged : goal.returns-clause-judged
returns-clause-judged c =
    let uses : ℕ → ℕ = uses_in c.args.header c.args.refs.table c.args.tables.l1 c.args.tables.words in
    judges_at ℕ c.args.header uses c.args.refs.counts (length c.args.seen.now.named) (cluster_bound c.args.header c.args.len)
    (Ok 0) c.requires.count c.requires.once (c.in_ok-check_names.ensures.judged uses c.requires.seen)

pub invariant_of-result : goal.invariant_of-result
invariant_of-result c =
    let uses : ℕ → ℕ = uses_in c.args.header c.args.refs.table c.args.tables.l1 c.args.tables.words in
    let judged = judges_at ℕ c.args.header uses c.args.refs.counts (length c.args.seen.now.named) (cluster_bound c.args.header c.args.len)
    (Ok 0) c.requires.count c.requires.once (c.in_ok-check_names.ensures.judged uses c.requires.seen) in
    let all : refs.KeptRefs = c.args.refs in
    let first : ℕ → refs.KeptRefs = λ n. record all { counts = take n all.counts } in
    let kept : c.keep_first.new.self ≡ first (reach_of c.args.header c.args.len) = c.keep_first.ensures.kept ∙ ap first c.reach.ensures in
    let P : refs.KeptRefs → Type 0 = λ r. IsOpen (record { header = c.args.header; tables = c.args.tables; refs = r }) in
    subst P (sym kept)
    (is_open c.args.header c.args.len c.args.refs c.args.tables c.requires.readable c.requires.limits c.requires.places c.requires.kept.tables c.requires.kept.counts judged)

pub returns-clause-fits : goal.returns-clause-fits
returns-clause-fits c =
    let uses : ℕ → ℕ = uses_in c.args.header c.args.refs.table c.args.tables.l1 c.args.tables.words in
    let judged = judges_at ℕ c.args.header uses c.args.refs.counts (length c.args.seen.now.named) (cluster_bound c.args.header c.args.len)
    (Ok 0) c.requires.count c.requires.once (c.in_ok-check_names.ensures.judged uses c.requires.seen) in
    let all : refs.KeptRefs = c.args.refs in
    let first : ℕ → refs.KeptRefs = λ n. record all { counts = take n all.counts } in
    let kept : c.keep_first.new.self ≡ first (reach_of c.args.header c.args.len) = c.keep_first.ensures.kept ∙ ap first c.reach.ensures in
    let P : refs.KeptRefs → Type 0 = λ r. FitsFile c.args.len (record { header = c.args.header; tables = c.args.tables; refs = r }) in
    subst P (sym kept)
    (fits_file c.args.header c.args.len c.args.refs c.args.tables c.requires.readable c.requires.limits c.requires.places c.requires.kept judged)
