use Rattle.std.proofs.Common.{Bool, List, [], ◌∷◌, ◌++◌, map, ap, subst, ◌∙◌, ◌≡◌}
use Rattle.std.specs.Prelude.{codes, OnOk}
use Rattle.qmp_codec.specs.Commands.{MadeAction, seen_action}
use Rattle.qmp_asks.specs.declared.ask.Ask.TheVariants.{Good}
use Rattle.qmp_asks.specs.Asking.{Asking}
use Rattle.qmp_asks.specs.CommandAsks.{all_names}
use Rattle.qmp_asks.specs.Seen.{seen_asks}
use Rattle.qmp_asks.specs.Values.{absent_or, is_completion_mode}
use Rattle.qmp_asks.proofs.AskLists.{tail_two}
use Rattle.qmp_asks.proofs.command_asks.put_transaction_names.Goals as goal

pub returns : goal.returns
returns c =
    let shown : Bool → List Asking = λ (ok : Bool). Good (codes "completion-mode") ok ∷ [] in
    tail_two c.put_all_names.result (seen_asks c.args.asks.now.items) (seen_asks c.put.new.asks.items)
    (seen_asks c.put_all_names.new.asks.items) (shown (absent_or is_completion_mode c.args.c.now.completion_mode))
    (all_names (map seen_action c.args.c.now.actions.items))
    (c.in_ok-put.ensures ∙ ap (λ (ok : Bool). seen_asks c.args.asks.now.items ++ shown ok) c.is_completion_mode-ok.ensures)
    (subst (λ (actions : List MadeAction). OnOk c.put_all_names.result (seen_asks c.put_all_names.new.asks.items
    ≡ seen_asks c.put.new.asks.items ++ all_names (map seen_action actions))) c.as_slice.ensures.value c.put_all_names.ensures)
