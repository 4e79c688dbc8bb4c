use Rattle.std.proofs.Common.{◌≡◌, ℕ, Bool, List, [], ◌∷◌, Option, Some, ap, ◌∙◌}
use Rattle.std.specs.Prelude.{codes, string_bytes}
use Rattle.qmp_asks.specs.declared.ask.Ask.TheVariants.{Named, FileNamed}
use Rattle.std.specs.Option.{option_map}
use Rattle.qmp_codec.specs.declared.nodes.Created.TheVariants.{Qcow2}
use Rattle.qmp_codec.specs.Nodes.{seen_create_qcow2}
use Rattle.qmp_asks.specs.NodeAsks.{create_names}
use Rattle.qmp_asks.specs.Asking.{Asking}
use Rattle.qmp_asks.specs.Seen.{seen_ask, seen_asks, seen_text}
use Rattle.qmp_asks.proofs.AskLists.{put_as}
use Rattle.qmp_asks.proofs.node_asks.put_create_qcow2_names.Goals as goal

pub returns : goal.returns
returns c =
    let shown : List ℕ → Option (List ℕ) → List Asking = λ (f : List ℕ) (b : Option (List ℕ)). Named (codes "file") (Some f) ∷ FileNamed (codes "backing-file") b ∷ [] in
    put_as c.put.result (seen_asks c.args.asks.now.items) (seen_asks c.put.new.asks.items)
    (shown c.as_str.result.now (seen_text c.maybe.result)) (create_names (Qcow2 (seen_create_qcow2 c.args.c.now)))
    (ap (λ (x : List ℕ). shown x (seen_text c.maybe.result)) (c.as_str.ensures.value)
    ∙ ap (λ (x : Option (List ℕ)). shown (string_bytes c.args.c.now.file) x) (c.maybe.ensures))
    c.put.ensures
