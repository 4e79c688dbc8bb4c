use Rattle.std.proofs.Common.{◌≡◌, ℕ, Bool, List, [], ◌∷◌, Option, Some, ap, ◌∙◌}
use Rattle.std.specs.Prelude.{codes, string_bytes}
use Rattle.qmp_asks.specs.declared.ask.Ask.TheVariants.{Good}
use Rattle.qmp_asks.specs.Values.{is_sync, is_bitmap_for, is_mode_for}
use Rattle.std.specs.Option.{option_map}
use Rattle.qmp_codec.specs.Jobs.{seen_backup}
use Rattle.qmp_asks.specs.JobAsks.{backup_choices, is_other, on_error_value}
use Rattle.qmp_asks.specs.Asking.{Asking}
use Rattle.qmp_asks.specs.Seen.{seen_ask, seen_asks, seen_text}
use Rattle.qmp_asks.proofs.AskLists.{put_as}
use Rattle.qmp_asks.proofs.job_asks.put_backup_choices.Goals as goal

pub returns : goal.returns
returns c =
    let shown : Bool → Bool → Bool → Bool → Asking → Asking → List Asking = λ (a : Bool) (b : Bool) (d : Bool) (e : Bool) (f : Asking) (g : Asking). Good (codes "target") a ∷ Good (codes "sync") b ∷ Good (codes "bitmap") d ∷ Good (codes "bitmap-mode") e ∷ f ∷ g ∷ [] in
    put_as c.put.result (seen_asks c.args.asks.now.items) (seen_asks c.put.new.asks.items)
    (shown c.is_other.result c.is_sync.result c.is_bitmap_for.result c.is_mode_for.result (seen_ask c.on_error_value.result) (seen_ask c.on_error_value-2.result)) (backup_choices (seen_backup c.args.c.now))
    (ap (λ (x : Bool). shown x c.is_sync.result c.is_bitmap_for.result c.is_mode_for.result (seen_ask c.on_error_value.result) (seen_ask c.on_error_value-2.result)) (c.is_other.ensures ∙ ap (λ (x : List ℕ). is_other x c.as_str-2.result.now) c.as_str.ensures.value ∙ ap (λ (y : List ℕ). is_other (string_bytes c.args.c.now.target) y) c.as_str-2.ensures.value)
    ∙ ap (λ (x : Bool). shown (is_other (string_bytes c.args.c.now.target) (string_bytes c.args.c.now.device)) x c.is_bitmap_for.result c.is_mode_for.result (seen_ask c.on_error_value.result) (seen_ask c.on_error_value-2.result)) (c.is_sync.ensures)
    ∙ ap (λ (x : Bool). shown (is_other (string_bytes c.args.c.now.target) (string_bytes c.args.c.now.device)) (is_sync c.args.c.now.sync) x c.is_mode_for.result (seen_ask c.on_error_value.result) (seen_ask c.on_error_value-2.result)) (c.is_bitmap_for.ensures)
    ∙ ap (λ (x : Bool). shown (is_other (string_bytes c.args.c.now.target) (string_bytes c.args.c.now.device)) (is_sync c.args.c.now.sync) (is_bitmap_for c.args.c.now.sync (option_map string_bytes c.args.c.now.bitmap)) x (seen_ask c.on_error_value.result) (seen_ask c.on_error_value-2.result)) (c.is_mode_for.ensures)
    ∙ ap (λ (x : Asking). shown (is_other (string_bytes c.args.c.now.target) (string_bytes c.args.c.now.device)) (is_sync c.args.c.now.sync) (is_bitmap_for c.args.c.now.sync (option_map string_bytes c.args.c.now.bitmap)) (is_mode_for c.args.c.now.sync c.args.c.now.bitmap_mode) x (seen_ask c.on_error_value-2.result)) (c.on_error_value.ensures)
    ∙ ap (λ (x : Asking). shown (is_other (string_bytes c.args.c.now.target) (string_bytes c.args.c.now.device)) (is_sync c.args.c.now.sync) (is_bitmap_for c.args.c.now.sync (option_map string_bytes c.args.c.now.bitmap)) (is_mode_for c.args.c.now.sync c.args.c.now.bitmap_mode) (on_error_value (codes "on-source-error") c.args.c.now.on_source_error) x) (c.on_error_value-2.ensures))
    c.put.ensures
