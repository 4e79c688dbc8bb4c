use Rattle.std.proofs.Common.{◌∙◌, true, false}
use Rattle.blk_bitmaps.specs.Calls.{with_first}
use Rattle.blk_bitmaps.specs.Rows.{is_named, switched}
use Rattle.world_changes.proofs.BitmapsChanged.{changed-so, idle-named, same-named}
use Rattle.world_changes.proofs.bitmaps.turn.Goals as goal

pub returns-then-on : goal.returns-then-on
returns-then-on c =
    rw c.if-on.true
    (changed-so c.args.bitmaps.now c.enable.new.self (is_named c.id_of-node.result c.as_str-then-on.result.now)
    (idle-named c.args.names.now.table c.args.bitmaps.now c.id_of-node.result c.as_str.result.now _ c.as_str-then-on.result.now _
    c.id_of-node.ensures c.as_str.ensures.value c.as_str-then-on.ensures.value c.requires) c.enable.result
    c.enable.ensures.answer c.enable.ensures.refused (switched true) c.enable.ensures.done
    ∙ same-named c.args.names.now.table (λ test. with_first test (switched true) c.args.bitmaps.now) c.id_of-node.result c.as_str.result.now _ c.as_str-then-on.result.now _
    c.id_of-node.ensures c.as_str.ensures.value c.as_str-then-on.ensures.value)

pub returns-else-on : goal.returns-else-on
returns-else-on c =
    rw c.if-on.false
    (changed-so c.args.bitmaps.now c.disable.new.self (is_named c.id_of-node.result c.as_str-else-on.result.now)
    (idle-named c.args.names.now.table c.args.bitmaps.now c.id_of-node.result c.as_str.result.now _ c.as_str-else-on.result.now _
    c.id_of-node.ensures c.as_str.ensures.value c.as_str-else-on.ensures.value c.requires) c.disable.result
    c.disable.ensures.answer c.disable.ensures.refused (switched false) c.disable.ensures.done
    ∙ same-named c.args.names.now.table (λ test. with_first test (switched false) c.args.bitmaps.now) c.id_of-node.result c.as_str.result.now _ c.as_str-else-on.result.now _
    c.id_of-node.ensures c.as_str.ensures.value c.as_str-else-on.ensures.value)
