use Rattle.std.proofs.Common.{◌≡◌, ◌+◌, ◌∙◌, refl, ap, arith}
use Rattle.blk_base.specs.Pieces.{end_of}
use Rattle.blk_history.specs.Disk.{span_of}
use Rattle.blk_nodes.specs.Nodes.{node_size}
use Rattle.qblk_core.proofs.Flights.{request-push}
use Rattle.qblk_core.proofs.engine.Engine.put_admission.Goals as goal

pub invariant_of-self-2 : goal.invariant_of-self-2
invariant_of-self-2 g c =
    let placed = request-push c.self.inside.history.events c.args.op c.self.inside.done (c.note_admission-place.result) c.note_admission-place.ensures.place in
    let span = c.request_span-span.ensures in
    let is = c.span.view_is in
    let size : c.size.result ≡ node_size c.self.inside.nodes 1 = c.size.ensures ∙ ap (node_size c.self.inside.nodes) c.self.invariant.image in
    record {
      one = c.self.invariant.one;
      image = c.self.invariant.image;
      admitted = (
        c.args.op,
        rw c.note_admission-place.ensures.noted placed,
        (let end : c.span.inside.start + c.span.inside.len ≡ end_of (span_of c.args.op) = ap end_of (is ∙ span) in omega arith),
      );
      block = c.self.invariant.block;
    }

pub returns-clause-kept : goal.returns-clause-kept
returns-clause-kept g c =
    let placed = request-push c.self.inside.history.events c.args.op c.self.inside.done (c.note_admission-place.result) c.note_admission-place.ensures.place in
    rw (c.note_admission-place.ensures.noted, placed, ← c.self.view_is) refl
