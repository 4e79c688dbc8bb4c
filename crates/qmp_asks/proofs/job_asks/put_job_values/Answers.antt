use Rattle.std.proofs.Common.{◌≡◌, ℕ, Bool, List, [], ◌∷◌, Option, Some, ap, ◌∙◌}
use Rattle.std.specs.Prelude.{codes, string_bytes}
use Rattle.qmp_asks.specs.declared.ask.Ask.TheVariants.{Good}
use Rattle.qmp_asks.specs.Values.{is_just, is_true}
use Rattle.qmp_asks.specs.JobAsks.{job_values}
use Rattle.qmp_asks.specs.Asking.{Asking}
use Rattle.qmp_asks.specs.Seen.{seen_ask, seen_asks, seen_text}
use Rattle.qmp_asks.proofs.AskLists.{put_as}
use Rattle.qmp_asks.proofs.job_asks.put_job_values.Goals as goal

pub returns : goal.returns
returns c =
    let shown : Bool → Bool → Bool → List Asking = λ (a : Bool) (b : Bool) (d : Bool). Good (codes "speed") a ∷ Good (codes "auto-finalize") b ∷ Good (codes "auto-dismiss") d ∷ [] in
    put_as c.put.result (seen_asks c.args.asks.now.items) (seen_asks c.put.new.asks.items)
    (shown c.is_just.result c.is_true.result c.is_true-2.result) (job_values c.args.options.now)
    (ap (λ (x : Bool). shown x c.is_true.result c.is_true-2.result) (c.is_just.ensures)
    ∙ ap (λ (x : Bool). shown (is_just 0 c.args.options.now.speed) x c.is_true-2.result) (c.is_true.ensures)
    ∙ ap (λ (x : Bool). shown (is_just 0 c.args.options.now.speed) (is_true c.args.options.now.auto_finalize) x) (c.is_true-2.ensures))
    c.put.ensures
