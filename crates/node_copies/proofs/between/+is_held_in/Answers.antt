use Rattle.std.proofs.Common.{rules, ◌≡◌, ◌-◌, suc, false, Some, None, sym, ◌∙◌, arith}
use Rattle.blk_nodes.specs.Nodes.{Nodes, node_size, row_at}
use Rattle.blk_nodes.specs.Owning.{has_own}
use Rattle.node_copies.specs.Between.{below_of, is_base}
use Rattle.node_copies.proofs.Below.{held_below}
use Rattle.node_copies.proofs.Chained.{size_below}
use Rattle.node_copies.proofs.between.+is_held_in.Goals as goal

pub is_held_in-requires : goal.is_held_in-requires
is_held_in-requires g t c κs within =
    let nodes : Nodes = c.args.nodes.now in
    let own : has_own c.args.place (row_at nodes c.args.node) ≡ false = sym c.has_own.ensures ∙ c.if-has_own.false in
    let below : below_of nodes c.args.node ≡ Some c.in-Some.next = sym c.below_of.ensures ∙ c.in-Some.is in
    let size : node_size nodes c.in-Some.next ≡ node_size nodes c.args.node
    = size_below nodes c.args.node c.args.place c.in-Some.next c.edges.ensures.joined own below in
    let inside = c.requires in
    (omega (arith, c.decreases, c.if-turns-eq0.false), (search rules, omega (arith, inside, size)))

pub returns-in-None : goal.returns-in-None
returns-in-None g t c =
    let nodes : Nodes = c.args.nodes.now in
    let one : c.args.turns ≡ suc (c.args.turns - 1) = omega (arith, c.if-turns-eq0.false) in
    let base : is_base c.args.base.now c.args.node ≡ false = sym c.is_base.ensures ∙ c.if-is_base.false in
    let own : has_own c.args.place (row_at nodes c.args.node) ≡ false = sym c.has_own.ensures ∙ c.if-has_own.false in
    let below : below_of nodes c.args.node ≡ None = sym c.below_of.ensures ∙ c.in-None.is in
    sym (held_below nodes c.args.base.now c.args.place c.args.turns (c.args.turns - 1) c.args.node None one base own below)

pub returns-in-Some : goal.returns-in-Some
returns-in-Some g t c =
    let nodes : Nodes = c.args.nodes.now in
    let one : c.args.turns ≡ suc (c.args.turns - 1) = omega (arith, c.if-turns-eq0.false) in
    let base : is_base c.args.base.now c.args.node ≡ false = sym c.is_base.ensures ∙ c.if-is_base.false in
    let own : has_own c.args.place (row_at nodes c.args.node) ≡ false = sym c.has_own.ensures ∙ c.if-has_own.false in
    let below : below_of nodes c.args.node ≡ Some c.in-Some.next = sym c.below_of.ensures ∙ c.in-Some.is in
    c.is_held_in.ensures
    ∙ sym (held_below nodes c.args.base.now c.args.place c.args.turns (c.args.turns - 1) c.args.node (Some c.in-Some.next) one base own below)
