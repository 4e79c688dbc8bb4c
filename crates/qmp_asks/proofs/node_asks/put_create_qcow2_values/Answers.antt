use Rattle.std.proofs.Common.{◌≡◌, ℕ, Bool, List, [], ◌∷◌, Option, Some, ap, ◌∙◌}
use Rattle.std.specs.Prelude.{codes, string_bytes}
use Rattle.qmp_asks.specs.declared.ask.Ask.TheVariants.{Good}
use Rattle.qmp_asks.specs.Values.{absent_or, is_image_size, is_image_format, is_just, is_version}
use Rattle.qmp_codec.specs.Nodes.{seen_create_qcow2}
use Rattle.qmp_asks.specs.NodeAsks.{create_qcow2_values}
use Rattle.qmp_asks.specs.Asking.{Asking}
use Rattle.qmp_asks.specs.Seen.{seen_ask, seen_asks, seen_text}
use Rattle.qmp_asks.proofs.AskLists.{put_as}
use Rattle.qmp_asks.proofs.node_asks.put_create_qcow2_values.Goals as goal

pub returns : goal.returns
returns c =
    let shown : Bool → Bool → Bool → Bool → Bool → List Asking = λ (a : Bool) (b : Bool) (d : Bool) (e : Bool) (f : Bool). Good (codes "size") a ∷ Good (codes "backing-fmt") b ∷ Good (codes "cluster-size") d ∷ Good (codes "refcount-bits") e ∷ Good (codes "version") f ∷ [] in
    put_as c.put.result (seen_asks c.args.asks.now.items) (seen_asks c.put.new.asks.items)
    (shown c.is_image_size.result c.is_image_format.result c.is_just.result c.is_just-2.result c.is_version.result) (create_qcow2_values (seen_create_qcow2 c.args.c.now))
    (ap (λ (x : Bool). shown x c.is_image_format.result c.is_just.result c.is_just-2.result c.is_version.result) (c.is_image_size.ensures)
    ∙ ap (λ (x : Bool). shown (is_image_size c.args.c.now.size) x c.is_just.result c.is_just-2.result c.is_version.result) (c.is_image_format.ensures)
    ∙ ap (λ (x : Bool). shown (is_image_size c.args.c.now.size) (absent_or is_image_format c.args.c.now.backing_fmt) x c.is_just-2.result c.is_version.result) (c.is_just.ensures)
    ∙ ap (λ (x : Bool). shown (is_image_size c.args.c.now.size) (absent_or is_image_format c.args.c.now.backing_fmt) (is_just 65536 c.args.c.now.cluster_size) x c.is_version.result) (c.is_just-2.ensures)
    ∙ ap (λ (x : Bool). shown (is_image_size c.args.c.now.size) (absent_or is_image_format c.args.c.now.backing_fmt) (is_just 65536 c.args.c.now.cluster_size) (is_just 16 c.args.c.now.refcount_bits) x) (c.is_version.ensures))
    c.put.ensures
