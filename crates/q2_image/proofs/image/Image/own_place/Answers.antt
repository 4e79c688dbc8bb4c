use Rattle.std.proofs.Common.{sym, arith}
use Rattle.q2_image.proofs.Mapped.{host_below}
use Rattle.q2_image.proofs.image.Image.own_place.Goals as goal

pub overflow_add-result : goal.overflow_add-result
overflow_add-result c =
    let small = host_below _ c.in-Host.host (sym c.in-Host.ensures) in
    let size = c.cluster_size-cluster_size.ensures.number in
    omega arith
