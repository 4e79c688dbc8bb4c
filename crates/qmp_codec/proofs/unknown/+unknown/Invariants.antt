use Rattle.std.proofs.Common.{◌≡◌, ◌+◌, ◌*◌, drop, map, None, option_map}
use Rattle.serde_json.specs.View.{view, items_view}
use Rattle.qmp_codec.specs.Tables.{named}
use Rattle.qmp_codec.specs.Walk.{least_unknown, rows_unknown, least_of_first, least_of_parts}
use Rattle.qmp_codec.proofs.unknown.+unknown.Given as goal

abbrev pub invariant-inner_unknown-loop-row : goal.invariant-inner_unknown-loop-row
invariant-inner_unknown-loop-row l =
    rows_unknown (λ inner part. least_unknown l.depth inner (view l.object) part) (view l.object) (option_map (λ s. s.now) l.found) (map named (drop l.row-index l.rows))
    ≡ rows_unknown (λ inner part. least_unknown l.depth inner (view l.object) part) (view l.object) None (map named l.rows)

abbrev pub invariant-first_of_parts-loop-item : goal.invariant-first_of_parts-loop-item
invariant-first_of_parts-loop-item l =
    least_of_first (λ p. least_unknown l.depth l.form (view l.around) p) (items_view (drop l.item-index l.item-items))
    ≡ least_of_first (λ p. least_unknown l.depth l.form (view l.around) p) (items_view l.items.items)

abbrev pub invariant-least_of_parts-loop-item : goal.invariant-least_of_parts-loop-item
invariant-least_of_parts-loop-item l =
    least_of_parts (λ p. least_unknown l.depth l.form (view l.around) p) (option_map (λ s. s.now) l.found) (items_view (drop l.item-index l.item-items))
    ≡ least_of_parts (λ p. least_unknown l.depth l.form (view l.around) p) None (items_view l.items.items)

abbrev pub decreases-object_unknown : goal.decreases-object_unknown
decreases-object_unknown l = l.depth * 8

abbrev pub decreases-inner_unknown : goal.decreases-inner_unknown
decreases-inner_unknown l = l.depth * 8 + 6

abbrev pub decreases-row_unknown : goal.decreases-row_unknown
decreases-row_unknown l = l.depth * 8 + 5

abbrev pub decreases-first_of_parts : goal.decreases-first_of_parts
decreases-first_of_parts l = l.depth * 8 + 2

abbrev pub decreases-least_of_parts : goal.decreases-least_of_parts
decreases-least_of_parts l = l.depth * 8 + 2

abbrev pub decreases-part_unknown : goal.decreases-part_unknown
decreases-part_unknown l = l.depth * 8 + 1
