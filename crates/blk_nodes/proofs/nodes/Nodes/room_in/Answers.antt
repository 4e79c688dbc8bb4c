use Rattle.std.proofs.Common.{◌≡◌, ℕ, ◌/◌, ◌<◌, List, length, Option, None, get_or, sym, ◌∙◌, ap, subst, arith}
use Rattle.std.proofs.lemmas.List.{get_or_default}
use Rattle.blk_base.specs.Pieces.{Extent}
use Rattle.q2_image.specs.Writing.{PutFits}
use Rattle.blk_nodes.specs.Nodes.{Nodes, row_at}
use Rattle.blk_nodes.specs.Parts.{OfImage}
use Rattle.blk_nodes.specs.Writing.{HasRoomAt}
use Rattle.blk_nodes.specs.declared.row.Row.{Row}
use Rattle.blk_nodes.proofs.Copied.{IsPutInto, put_into, held_there, room_said}
use Rattle.blk_nodes.proofs.nodes.Nodes.room_in.Goals as goal

pub room_of-requires-clause-held : goal.room_of-requires-clause-held
room_of-requires-clause-held g c =
    let nodes : Nodes = record { graph = c.self.inside.graph; rows = c.self.inside.rows.items; devices = c.self.inside.devices } in
    let puts = rw (sym c.self.view_is) at c.requires.puts in
    let into : IsPutInto nodes c.args.child c.args.span.start = put_into nodes c.args.node c.args.child c.args.span.start puts in
    held_there nodes c.self.invariant c.args.child c.args.span into c.in-Some.file (sym c.child.ensures.child ∙ c.in-Some.is)

pub returns : goal.returns
returns g c =
    let nodes : Nodes = record { graph = c.self.inside.graph; rows = c.self.inside.rows.items; devices = c.self.inside.devices } in
    let puts = rw (sym c.self.view_is) at c.requires.puts in
    let into : IsPutInto nodes c.args.child c.args.span.start = put_into nodes c.args.node c.args.child c.args.span.start puts in
    let start : c.span.inside.start ≡ c.args.span.start = ap (λ (s : Extent). s.start) c.span.view_is in
    let rows : List (Option Row) = c.self.inside.rows.items in
    let count = c.self.invariant.rows in
    let small = c.index.ensures.small in
    let within : c.index.result < length rows = omega (arith, count, small) in
    let found : row_at nodes c.args.child ≡ c.index-2.result.now
    = ap (λ (k : ℕ). get_or rows k None) (sym c.index.ensures.value) ∙ get_or_default rows c.index.result None c.index-2.result.now within ∙ sym c.index-2.ensures in
    let said = rw start at c.room_of.ensures in
    rw (sym c.self.view_is)
    (room_said nodes c.self.invariant c.args.child c.args.span into c.in-Some.file c.room_of.result (sym c.child.ensures.child ∙ c.in-Some.is)
    (subst (λ (r : Option Row). OfImage r (λ image. HasRoomAt c.in-Some.file nodes.devices (PutFits image (c.args.span.start / 65536)) c.room_of.result)) (sym found) said))
