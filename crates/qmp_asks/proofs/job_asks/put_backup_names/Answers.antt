use Rattle.std.proofs.Common.{◌≡◌, ℕ, Bool, List, [], ◌∷◌, Option, Some, ap, ◌∙◌}
use Rattle.std.specs.Prelude.{codes, string_bytes}
use Rattle.qmp_asks.specs.declared.ask.Ask.TheVariants.{Named}
use Rattle.std.specs.Option.{option_map}
use Rattle.qmp_codec.specs.Jobs.{seen_backup}
use Rattle.qmp_asks.specs.JobAsks.{backup_names}
use Rattle.qmp_asks.specs.Asking.{Asking}
use Rattle.qmp_asks.specs.Seen.{seen_ask, seen_asks, seen_text}
use Rattle.qmp_asks.proofs.AskLists.{put_as}
use Rattle.qmp_asks.proofs.job_asks.put_backup_names.Goals as goal

pub returns : goal.returns
returns c =
    let shown : List ℕ → List ℕ → List ℕ → Option (List ℕ) → List Asking = λ (j : List ℕ) (d : List ℕ) (t : List ℕ) (b : Option (List ℕ)). Named (codes "job-id") (Some j) ∷ Named (codes "device") (Some d) ∷ Named (codes "target") (Some t) ∷ Named (codes "bitmap") b ∷ [] in
    put_as c.put.result (seen_asks c.args.asks.now.items) (seen_asks c.put.new.asks.items)
    (shown c.as_str.result.now c.as_str-2.result.now c.as_str-3.result.now (seen_text c.maybe.result)) (backup_names (seen_backup c.args.c.now))
    (ap (λ (x : List ℕ). shown x c.as_str-2.result.now c.as_str-3.result.now (seen_text c.maybe.result)) (c.as_str.ensures.value)
    ∙ ap (λ (x : List ℕ). shown (string_bytes c.args.c.now.job_id) x c.as_str-3.result.now (seen_text c.maybe.result)) (c.as_str-2.ensures.value)
    ∙ ap (λ (x : List ℕ). shown (string_bytes c.args.c.now.job_id) (string_bytes c.args.c.now.device) x (seen_text c.maybe.result)) (c.as_str-3.ensures.value)
    ∙ ap (λ (x : Option (List ℕ)). shown (string_bytes c.args.c.now.job_id) (string_bytes c.args.c.now.device) (string_bytes c.args.c.now.target) x) (c.maybe.ensures))
    c.put.ensures
