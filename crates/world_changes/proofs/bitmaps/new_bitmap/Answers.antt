use Rattle.std.proofs.Common.{◌≡◌, ap, ◌∙◌, None, Some}
use Rattle.qmp_codec.specs.Bitmaps.{seen_bitmap_add}
use Rattle.qmp_rules.specs.Asks.{id_or}
use Rattle.blk_bitmaps.specs.Refusals.{add_refusal}
use Rattle.world_changes.proofs.BitmapsChanged.{when-none}
use Rattle.world_changes.proofs.bitmaps.new_bitmap.Goals as goal

pub no_memory-requires : goal.no_memory-requires
no_memory-requires c =
    let rows = c.args.bitmaps.now in
    let granularity = c.amount_or-granularity.result in
    let name : c.in_ok-name.name.bytes ≡ (seen_bitmap_add c.args.c.now).name = c.in_ok-name.ensures ∙ c.as_str-2.ensures.value in
    let node : c.id_of-node.result ≡ id_or 0 c.args.names.now.table (Some (seen_bitmap_add c.args.c.now).node) =
    c.id_of-node.ensures ∙ ap (λ m. id_or 0 c.args.names.now.table (Some m)) c.as_str.ensures.value in
    let none : add_refusal rows c.id_of-node.result c.in_ok-name.name.bytes granularity ≡ None =
    ap (λ n. add_refusal rows n c.in_ok-name.name.bytes granularity) node
    ∙ ap (λ m. add_refusal rows (id_or 0 c.args.names.now.table (Some (seen_bitmap_add c.args.c.now).node)) m granularity) name
    ∙ ap (λ g. add_refusal rows (id_or 0 c.args.names.now.table (Some (seen_bitmap_add c.args.c.now).node)) (seen_bitmap_add c.args.c.now).name g) c.amount_or-granularity.ensures
    ∙ c.requires in
    when-none (add_refusal rows c.id_of-node.result c.in_ok-name.name.bytes granularity) _ _ none c.in-Err.ensures.answer
