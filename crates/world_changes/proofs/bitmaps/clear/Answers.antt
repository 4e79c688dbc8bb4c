use Rattle.std.proofs.Common.{◌∙◌}
use Rattle.blk_bitmaps.specs.Calls.{with_first}
use Rattle.blk_bitmaps.specs.Rows.{emptied, is_named}
use Rattle.world_changes.proofs.BitmapsChanged.{changed-so, idle-named, same-named}
use Rattle.world_changes.proofs.bitmaps.clear.Goals as goal

pub returns : goal.returns
returns c =
    changed-so c.args.bitmaps.now c.clear.new.self (is_named c.id_of.result c.as_str-2.result.now) (idle-named c.args.names.now.table c.args.bitmaps.now c.id_of.result c.as_str.result.now _ c.as_str-2.result.now _
    c.id_of.ensures c.as_str.ensures.value c.as_str-2.ensures.value c.requires) c.clear.result
    c.clear.ensures.answer c.clear.ensures.refused emptied c.clear.ensures.done
    ∙ same-named c.args.names.now.table (λ test. with_first test emptied c.args.bitmaps.now) c.id_of.result c.as_str.result.now _ c.as_str-2.result.now _
    c.id_of.ensures c.as_str.ensures.value c.as_str-2.ensures.value
