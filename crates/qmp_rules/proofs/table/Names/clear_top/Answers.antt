use Rattle.std.proofs.Common.{◌≡◌, ℕ, List, Option, Some, subst, ap, ◌∙◌, if◌then◌else◌}
use Rattle.std.specs.Prelude.{◌==◌, IfOk}
use Rattle.std.specs.Option.{option_copied}
use Rattle.blk_graph.specs.declared.edge.Edge.{Edge}
use Rattle.qmp_rules.specs.declared.refusal.Refusal.{Refusal}
use Rattle.qmp_rules.specs.Asks.{id_or, in_use, second_into}
use Rattle.qmp_rules.specs.Chains.{overlay_edge}
use Rattle.qmp_asks.specs.Seen.{seen_text}
use Rattle.qmp_rules.specs.Table.{name_at}
use Rattle.qmp_rules.proofs.table.Names.clear_top.Goals as goal

pub returns : goal.returns
returns c base =
    let t = c.args.self.now.table in
    let judged : ℕ → ℕ → Option Refusal = λ (id : ℕ) (device : ℕ).
    in_use t (name_at t id) (if id == device then overlay_edge t id else second_into id t.edges) in
    subst (λ (r : Option Refusal). IfOk c.in_use.result (λ found. found ≡ r))
    (ap (λ (n : List ℕ). in_use t n (option_copied c.edge_in_the_way-edge.result)) c.name_at.ensures
    ∙ ap (λ (e : Option Edge). in_use t (name_at t c.id_or-id.result) e) c.edge_in_the_way-edge.ensures
    ∙ ap (λ (id : ℕ). judged id c.id_of-device.result) c.id_or-id.ensures
    ∙ ap (λ (device : ℕ). judged (id_or device t (seen_text c.args.top)) device) c.id_of-device.ensures)
    c.in_use.ensures
