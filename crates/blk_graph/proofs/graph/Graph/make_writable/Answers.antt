use Rattle.std.proofs.Common.{◌≡◌, sym, true, None, Ok, Err}
use Rattle.blk_graph.specs.Graph.{with_writes}
use Rattle.blk_graph.specs.Refreshed.{refreshed}
use Rattle.blk_graph.specs.Rule.{first_conflict}
use Rattle.blk_graph.proofs.KindLemmas.{IsKept-writable, judged_writable}
use Rattle.blk_graph.proofs.graph.Graph.make_writable.Goals as goal

pub invariant_of-self : goal.invariant_of-self
invariant_of-self c =
    let none : first_conflict c.as_slice.result.now (refreshed (with_writes c.args.node true c.self.inside.kinds) c.self.inside.edges) ≡ None
    = rw (c.set_writes.ensures, c.copy_from.ensures) at c.in-Ok.ensures.ruled in
    rw (c.in-Ok.ensures.ok, c.set_writes.ensures, c.copy_from.ensures)
    (IsKept-writable c.self.inside.names c.self.inside.keys c.self.inside.order.items c.self.inside.kinds c.self.inside.edges _
    c.self.invariant c.args.node c.as_slice.result.now c.as_slice.ensures.value (rw (← c.self.view_is) at c.requires) none)

pub returns-in-Ok-clause-judged : goal.returns-in-Ok-clause-judged
returns-in-Ok-clause-judged c =
    rw (sym c.self.view_is)
    (judged_writable c.self.inside.names c.self.inside.keys c.self.inside.order.items c.self.inside.kinds c.self.inside.edges _ c.self.invariant
    c.args.node c.as_slice.result.now _ _ (Ok tt) c.as_slice.ensures.value c.set_writes.ensures c.copy_from.ensures
    c.in-Ok.ensures.ruled)

pub returns-in-Ok-clause-sound : goal.returns-in-Ok-clause-sound
returns-in-Ok-clause-sound c = (invariant_of-self c).sound

pub returns-in-Err-clause-judged : goal.returns-in-Err-clause-judged
returns-in-Err-clause-judged c =
    rw (sym c.self.view_is)
    (judged_writable c.self.inside.names c.self.inside.keys c.self.inside.order.items c.self.inside.kinds c.self.inside.edges _ c.self.invariant
    c.args.node c.as_slice.result.now _ _ (Err c.in-Err.stop) c.as_slice.ensures.value c.set_writes.ensures c.copy_from.ensures
    c.in-Err.ensures.ruled)
