use Rattle.std.proofs.Common.{◌≡◌, ℕ, Bool, List, [], ◌∷◌, Option, Some, ap, ◌∙◌}
use Rattle.std.specs.Prelude.{codes, string_bytes}
use Rattle.qmp_asks.specs.declared.ask.Ask.TheVariants.{Good}
use Rattle.qmp_asks.specs.Values.{is_false, is_granularity}
use Rattle.qmp_codec.specs.Bitmaps.{seen_bitmap_add}
use Rattle.qmp_asks.specs.BitmapAsks.{bitmap_add_values}
use Rattle.qmp_asks.specs.Asking.{Asking}
use Rattle.qmp_asks.specs.Seen.{seen_ask, seen_asks, seen_text}
use Rattle.qmp_asks.proofs.AskLists.{put_as}
use Rattle.qmp_asks.proofs.bitmap_asks.put_bitmap_add_values.Goals as goal

pub returns : goal.returns
returns c =
    let shown : Bool → Bool → List Asking = λ (a : Bool) (b : Bool). Good (codes "granularity") a ∷ Good (codes "persistent") b ∷ [] in
    put_as c.put.result (seen_asks c.args.asks.now.items) (seen_asks c.put.new.asks.items)
    (shown c.is_granularity.result c.is_false.result) (bitmap_add_values (seen_bitmap_add c.args.c.now))
    (ap (λ (x : Bool). shown x c.is_false.result) (c.is_granularity.ensures)
    ∙ ap (λ (x : Bool). shown (is_granularity c.args.c.now.granularity) x) (c.is_false.ensures))
    c.put.ensures
