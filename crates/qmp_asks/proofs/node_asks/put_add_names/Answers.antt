use Rattle.std.proofs.Common.{ℕ, List, [], ◌∷◌, ◌++◌, Some, ap, ◌∙◌}
use Rattle.std.specs.Prelude.{codes, string_bytes}
use Rattle.qmp_codec.specs.Nodes.{seen_added}
use Rattle.qmp_asks.specs.declared.ask.Ask.TheVariants.{Named}
use Rattle.qmp_asks.specs.Asking.{Asking}
use Rattle.qmp_asks.specs.NodeAsks.{added_names}
use Rattle.qmp_asks.specs.Seen.{seen_asks}
use Rattle.qmp_asks.proofs.AskLists.{tail_two}
use Rattle.qmp_asks.proofs.node_asks.put_add_names.Goals as goal

pub returns : goal.returns
returns c =
    let shown : List ℕ → List Asking = λ (name : List ℕ). Named (codes "node-name") (Some name) ∷ [] in
    tail_two c.put_added_names.result (seen_asks c.args.asks.now.items) (seen_asks c.put.new.asks.items)
    (seen_asks c.put_added_names.new.asks.items) (shown (string_bytes c.args.c.now.node_name))
    (added_names (seen_added c.args.c.now.driver))
    (c.in_ok-put.ensures ∙ ap (λ (name : List ℕ). seen_asks c.args.asks.now.items ++ shown name) c.as_str.ensures.value)
    c.put_added_names.ensures
