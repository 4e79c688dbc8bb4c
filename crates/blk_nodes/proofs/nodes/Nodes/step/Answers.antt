use Rattle.std.proofs.Common.{◌≡◌, ℕ, ◌<◌, Some, None, refl, sym, ◌∙◌, ap, arith, get_or}
use Rattle.std.proofs.lemmas.List.{get_or_default}
use Rattle.blk_nodes.specs.Nodes.{Nodes, row_at, size_by, node_size}
use Rattle.blk_nodes.proofs.Joints.{goes_by}
use Rattle.blk_nodes.proofs.Leading.{step_leads}
use Rattle.blk_nodes.proofs.nodes.Nodes.step.Goals as goal

pub returns-in-Some-clause-walk : goal.returns-in-Some-clause-walk
returns-in-Some-clause-walk g c =
    let nodes : Nodes = record { graph = c.self.inside.graph; rows = c.self.inside.rows.items; devices = c.self.inside.devices } in
    let rows = c.self.inside.rows.items in
    let index : c.index.result ≡ c.args.node = c.index.ensures.value in
    let count = c.self.invariant.rows in
    let small = c.index.ensures.small in
    let there : row_at nodes c.args.node ≡ Some c.in-Some.row =
    ap (λ (k : ℕ). get_or rows k None) (sym index) ∙ get_or_default rows c.index.result None c.index-2.result.now (omega (arith, count, small)) ∙ sym c.index-2.ensures ∙ c.in-Some.is in
    let size : node_size nodes c.args.node ≡ c.in-Some.row.size = ap size_by there in
    let inside : c.args.place < node_size nodes c.args.node = rw (sym c.self.view_is) at c.requires in
    rw (sym c.self.view_is)
    (rw (c.step.ensures, c.child-file.ensures.child, c.child-backing.ensures.child, c.child-filtered.ensures.child)
    (goes_by nodes c.args.node c.args.place c.in-Some.row c.in-Some.row.driver c.self.invariant there refl (omega (arith, size, inside))))

pub returns-in-Some-clause-leads : goal.returns-in-Some-clause-leads
returns-in-Some-clause-leads g c =
    rw (sym c.self.view_is)
    (rw (c.step.ensures, c.child-file.ensures.child, c.child-backing.ensures.child, c.child-filtered.ensures.child)
    (step_leads c.self.inside.graph.edges c.args.node c.args.place c.in-Some.row.driver))
