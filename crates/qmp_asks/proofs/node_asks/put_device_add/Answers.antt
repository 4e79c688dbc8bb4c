use Rattle.std.proofs.Common.{◌≡◌, ℕ, Bool, List, [], ◌∷◌, Option, Some, ap, ◌∙◌}
use Rattle.std.specs.Prelude.{codes, string_bytes}
use Rattle.qmp_asks.specs.declared.ask.Ask.TheVariants.{Good, Named, Found, FreshDevice, RoomForDevice, Settled}
use Rattle.qmp_asks.specs.Values.{absent_or, is_device_driver, is_sharing}
use Rattle.qmp_codec.specs.Nodes.{seen_device_add}
use Rattle.qmp_asks.specs.NodeAsks.{device_add_asks}
use Rattle.qmp_asks.specs.Asking.{Asking}
use Rattle.qmp_asks.specs.Seen.{seen_ask, seen_asks, seen_text}
use Rattle.qmp_asks.proofs.AskLists.{put_as}
use Rattle.qmp_asks.proofs.node_asks.put_device_add.Goals as goal

pub returns : goal.returns
returns c =
    let shown : Bool → Bool → List ℕ → List ℕ → List Asking = λ (a : Bool) (b : Bool) (i : List ℕ) (d : List ℕ). Good (codes "driver") a ∷ Good (codes "share-rw") b ∷ Named (codes "id") (Some i) ∷ Named (codes "drive") (Some d) ∷ Found (Some d) ∷ FreshDevice i ∷ RoomForDevice ∷ Settled (Some d) ∷ [] in
    put_as c.put.result (seen_asks c.args.asks.now.items) (seen_asks c.put.new.asks.items)
    (shown c.is_device_driver.result c.is_sharing.result c.as_str-id.result.now c.as_str-drive.result.now) (device_add_asks (seen_device_add c.args.c.now))
    (ap (λ (x : Bool). shown x c.is_sharing.result c.as_str-id.result.now c.as_str-drive.result.now) (c.is_device_driver.ensures)
    ∙ ap (λ (x : Bool). shown (is_device_driver c.args.c.now.driver) x c.as_str-id.result.now c.as_str-drive.result.now) (c.is_sharing.ensures)
    ∙ ap (λ (x : List ℕ). shown (is_device_driver c.args.c.now.driver) (absent_or is_sharing c.args.c.now.share_rw) x c.as_str-drive.result.now) (c.as_str-id.ensures.value)
    ∙ ap (λ (x : List ℕ). shown (is_device_driver c.args.c.now.driver) (absent_or is_sharing c.args.c.now.share_rw) (string_bytes c.args.c.now.id) x) (c.as_str-drive.ensures.value))
    c.put.ensures
