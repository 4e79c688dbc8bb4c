use Rattle.std.proofs.Common.{sym, arith}
use Rattle.std.proofs.lemmas.List.{length-take-le, get_or-take}
use Rattle.q2_image.proofs.create.first_sector.Goals as goal

pub slice_bounds-result-end : goal.slice_bounds-result-end
slice_bounds-result-end c = sym (length-take-le 512 c.args.cluster.now (omega arith))

pub returns-clause-whole : goal.returns-clause-whole
returns-clause-whole c = length-take-le 512 c.args.cluster.now (omega arith)

pub returns-clause-bytes : goal.returns-clause-bytes
returns-clause-bytes c i below = get_or-take 512 c.args.cluster.now i 0 below
