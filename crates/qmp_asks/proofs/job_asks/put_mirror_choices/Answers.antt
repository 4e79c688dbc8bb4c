use Rattle.std.proofs.Common.{◌≡◌, ℕ, Bool, List, [], ◌∷◌, Option, Some, ap, ◌∙◌}
use Rattle.std.specs.Prelude.{codes, string_bytes}
use Rattle.qmp_asks.specs.declared.ask.Ask.TheVariants.{Good}
use Rattle.qmp_asks.specs.Values.{absent_or, is_full, is_copy_mode}
use Rattle.qmp_codec.specs.Jobs.{seen_mirror}
use Rattle.qmp_asks.specs.JobAsks.{mirror_choices, is_other, on_error_value}
use Rattle.qmp_asks.specs.Asking.{Asking}
use Rattle.qmp_asks.specs.Seen.{seen_ask, seen_asks, seen_text}
use Rattle.qmp_asks.proofs.AskLists.{put_as}
use Rattle.qmp_asks.proofs.job_asks.put_mirror_choices.Goals as goal

pub returns : goal.returns
returns c =
    let shown : Bool → Bool → Bool → Asking → Asking → List Asking = λ (a : Bool) (b : Bool) (d : Bool) (f : Asking) (g : Asking). Good (codes "target") a ∷ Good (codes "sync") b ∷ Good (codes "copy-mode") d ∷ f ∷ g ∷ [] in
    put_as c.put.result (seen_asks c.args.asks.now.items) (seen_asks c.put.new.asks.items)
    (shown c.is_other.result c.is_full.result c.is_copy_mode.result (seen_ask c.on_error_value.result) (seen_ask c.on_error_value-2.result)) (mirror_choices (seen_mirror c.args.c.now))
    (ap (λ (x : Bool). shown x c.is_full.result c.is_copy_mode.result (seen_ask c.on_error_value.result) (seen_ask c.on_error_value-2.result)) (c.is_other.ensures ∙ ap (λ (x : List ℕ). is_other x c.as_str-2.result.now) c.as_str.ensures.value ∙ ap (λ (y : List ℕ). is_other (string_bytes c.args.c.now.target) y) c.as_str-2.ensures.value)
    ∙ ap (λ (x : Bool). shown (is_other (string_bytes c.args.c.now.target) (string_bytes c.args.c.now.device)) x c.is_copy_mode.result (seen_ask c.on_error_value.result) (seen_ask c.on_error_value-2.result)) (c.is_full.ensures)
    ∙ ap (λ (x : Bool). shown (is_other (string_bytes c.args.c.now.target) (string_bytes c.args.c.now.device)) (is_full c.args.c.now.sync) x (seen_ask c.on_error_value.result) (seen_ask c.on_error_value-2.result)) (c.is_copy_mode.ensures)
    ∙ ap (λ (x : Asking). shown (is_other (string_bytes c.args.c.now.target) (string_bytes c.args.c.now.device)) (is_full c.args.c.now.sync) (absent_or is_copy_mode c.args.c.now.copy_mode) x (seen_ask c.on_error_value-2.result)) (c.on_error_value.ensures)
    ∙ ap (λ (x : Asking). shown (is_other (string_bytes c.args.c.now.target) (string_bytes c.args.c.now.device)) (is_full c.args.c.now.sync) (absent_or is_copy_mode c.args.c.now.copy_mode) (on_error_value (codes "on-source-error") c.args.c.now.on_source_error) x) (c.on_error_value-2.ensures))
    c.put.ensures
