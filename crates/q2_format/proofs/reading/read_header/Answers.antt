-- What is accepted keeps within the limits.
use Rattle.std.proofs.Common.{◌≡◌, None, arith}
use Rattle.std.proofs.lemmas.Grind.{common_steps}
use Rattle.q2_format.specs.Header.{header_refusal}
use Rattle.q2_format.proofs.Limits.{within_limits}
use Rattle.q2_format.proofs.reading.read_header.Goals as goal

pub returns-clause-limits : goal.returns-clause-limits
unfolding header_refusal
returns-clause-limits c =
    let accepted : header_refusal c.args.cluster.now c.args.file_len ≡ None = grind (arith, common_steps) in
    rw c.fields.ensures (within_limits c.args.cluster.now c.args.file_len accepted)
