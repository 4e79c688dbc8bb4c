use Rattle.std.proofs.Common.{◌≡◌, sym, ◌∙◌}
use Rattle.blk_graph.specs.declared.edge.Role.TheVariants.{Drive, Backing}
use Rattle.job_edges.proofs.Below.{none_below}
use Rattle.job_edges.proofs.laws.no_guest_writes_what_is_read.Goals as goal

pub returns : goal.returns
returns c = λ kinds edges through writer reader guest node along down stand commits there from role.
    none_below kinds edges stand through commits writer reader guest 0 node along down there from
    (λ is. let bad : Drive ≡ Backing = sym role ∙ is in cc bad)
