use Rattle.std.proofs.Common.{◌≡◌, ◌<◌, [], Some, rules}
use Rattle.std.proofs.lemmas.Result.{err_from_is_err_and}
use Rattle.q2_format.specs.Header.{header_refusal}
use Rattle.q2_image.proofs.FirstCluster.{refused_alike}
use Rattle.q2_image.proofs.Refused.{none_begin, short_for, unnamed_for}
use Rattle.q2_image.proofs.header.open_header.Goals as goal

pub returns-clause-judged : goal.returns-clause-judged
returns-clause-judged g c = λ file told.
    let refused : Some c.in-Err.stop ≡ header_refusal c.in_ok-cluster.cluster.items (g.D.Device.size c.args.dev.now) = cc (c.in-Err.ensures.refused) in
    refused_alike file c.in_ok-cluster.cluster.items (g.D.Device.size c.args.dev.now) c.in-Err.stop (c.in_ok-cluster.ensures.read file told) refused

pub returns-in_err-cluster-clause-refusal : goal.returns-in_err-cluster-clause-refusal
returns-in_err-cluster-clause-refusal g c =
    let p = err_from_is_err_and c.from_residual.result c.from_residual.ensures.1 in
    rw (p.1, p.2) (unnamed_for c.in_err-cluster.field-0.0 (g.D.Device.size c.args.dev.now) c.in_err-cluster.ensures.stop)

pub returns-then-len-from-clause-refusal : goal.returns-then-len-from-clause-refusal
returns-then-len-from-clause-refusal g c =
    let few : g.D.Device.size c.args.dev.now < 104 = search rules in
    ([], none_begin (g.D.Device.size c.args.dev.now), short_for (g.D.Device.size c.args.dev.now) few)
