use Rattle.std.proofs.Common.{arith, ◌<◌, ◌+◌, ◌≡◌, ◌∷◌, ◌∙◌, ℕ, List, Some, ap, drop, get_or, length, map, subst, sym}
use Rattle.std.proofs.lemmas.List.{at_drop_more}
use Rattle.qmp_codec.specs.Bitmaps.{seen_bitmap_merge, seen_source}
use Rattle.qmp_rules.specs.Asks.{id_or}
use Rattle.qmp_asks.specs.BitmapAsks.{source_node}
use Rattle.qmp_rules.specs.Table.{RunTable}
use Rattle.world_parts.specs.Recorded.{bitmaps_merged}
use Rattle.world_changes.proofs.BitmapsChanged.{merged-more}
use Rattle.world_changes.proofs.bitmaps.merge.Goals as goal

pub loop-source-preserved : goal.loop-source-preserved
loop-source-preserved c =
    let t : RunTable = c.args.names.now.table in
    let node : List ℕ = (seen_bitmap_merge c.args.c.now).node in
    let target : List ℕ = (seen_bitmap_merge c.args.c.now).target in
    let items = c.args.c.now.bitmaps.items in
    let same : c.deref-source-items.result.now ≡ items = c.deref-source-items.ensures.value in
    let i : ℕ = c.loop-source.source-index in
    let rest = drop (i + 1) items in
    let within : i < length c.deref-source-items.result.now = omega arith in
    let less : i < length items = subst (λ xs. i < length xs) same within in
    let item : c.source-item.result ≡ get_or items i c.source-item.result = c.source-item.is ∙ ap (λ xs. get_or xs i c.source-item.result) same in
    let from : c.id_of-from.result ≡ id_or 0 t (Some (source_node node (seen_source c.source-item.result))) =
    c.id_of-from.ensures ∙ ap (λ m. id_or 0 t (Some m)) (c.source_node.ensures ∙ ap (λ n. source_node n (seen_source c.source-item.result)) c.as_str.ensures.value) in
    let to : c.id_of-target.result ≡ id_or 0 t (Some node) =
    c.id_of-target.ensures ∙ ap (λ m. id_or 0 t (Some m)) c.as_str-in-loop-source.ensures.value in
    let one = merged-more t node target (seen_source c.source-item.result) (map seen_source rest) c.loop-source.bitmaps c.merge_one.new.self
    c.id_of-target.result c.id_of-from.result c.as_str-in-loop-source-2.result.now c.source_name.result.now
    to c.as_str-in-loop-source-2.ensures.value from c.source_name.ensures c.merge_one.ensures in
    let first = at_drop_more (λ ss. bitmaps_merged t node target (map seen_source ss) c.loop-source.bitmaps) items i c.source-item.result less in
    one
    ∙ ap (λ s. bitmaps_merged t node target (map seen_source (s ∷ rest)) c.loop-source.bitmaps) item
    ∙ sym first
    ∙ c.loop-source.invariant
