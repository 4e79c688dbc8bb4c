use Rattle.std.proofs.Common.{◌≡◌, ◌+◌, ◌-◌, ◌*◌, drop, map}
use Rattle.serde_json.specs.View.{view, items_view}
use Rattle.qmp_codec.specs.Tables.{named}
use Rattle.qmp_codec.specs.Walk.{first_fault, rows_fault, parts_fault, wrong}
use Rattle.qmp_codec.proofs.walk.+fault.Given as goal

abbrev pub invariant-object_fault-loop-row : goal.invariant-object_fault-loop-row
invariant-object_fault-loop-row l =
    rows_fault l.search (λ inner part. first_fault (l.depth - 1) l.search inner (view l.object) part) (view l.object) (map named (drop l.row-index l.row-items))
    ≡ first_fault l.depth l.search l.fn.form (view l.around) (view l.object)

abbrev pub invariant-parts_fault-loop-item : goal.invariant-parts_fault-loop-item
invariant-parts_fault-loop-item l =
    parts_fault (wrong l.search l.name) (λ p. first_fault l.depth l.search l.part.form (view l.around) p) l.part.texts (items_view (drop l.item-index l.item-items))
    ≡ parts_fault (wrong l.search l.name) (λ p. first_fault l.depth l.search l.part.form (view l.around) p) l.part.texts (items_view l.items.items)

abbrev pub decreases-object_fault : goal.decreases-object_fault
decreases-object_fault l = l.depth * 8

abbrev pub decreases-row_fault : goal.decreases-row_fault
decreases-row_fault l = l.depth * 8 + 5

abbrev pub decreases-value_fault : goal.decreases-value_fault
decreases-value_fault l = l.depth * 8 + 4

abbrev pub decreases-list_fault : goal.decreases-list_fault
decreases-list_fault l = l.depth * 8 + 3

abbrev pub decreases-parts_fault : goal.decreases-parts_fault
decreases-parts_fault l = l.depth * 8 + 2

abbrev pub decreases-part_fault : goal.decreases-part_fault
decreases-part_fault l = l.depth * 8 + 1
