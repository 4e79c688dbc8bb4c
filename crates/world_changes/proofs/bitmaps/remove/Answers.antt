use Rattle.std.proofs.Common.{◌∙◌}
use Rattle.blk_bitmaps.specs.Calls.{without_first}
use Rattle.blk_bitmaps.specs.Rows.{is_named}
use Rattle.world_changes.proofs.BitmapsChanged.{idle-named, removed-so, same-named}
use Rattle.world_changes.proofs.bitmaps.remove.Goals as goal

pub returns : goal.returns
returns c =
    removed-so c.args.bitmaps.now c.remove.new.self (is_named c.id_of.result c.as_str-2.result.now) (idle-named c.args.names.now.table c.args.bitmaps.now c.id_of.result c.as_str.result.now _ c.as_str-2.result.now _
    c.id_of.ensures c.as_str.ensures.value c.as_str-2.ensures.value c.requires) c.remove.result
    c.remove.ensures.answer c.remove.ensures.refused c.remove.ensures.done
    ∙ same-named c.args.names.now.table (λ test. without_first test c.args.bitmaps.now) c.id_of.result c.as_str.result.now _ c.as_str-2.result.now _
    c.id_of.ensures c.as_str.ensures.value c.as_str-2.ensures.value
