use Rattle.std.proofs.Common.{List, Option, get_or, ◌<◌, length, arith}
use Rattle.std.proofs.lemmas.List.{get_or_default}
use Rattle.blk_nodes.specs.declared.row.Row.{Row}
use Rattle.blk_nodes.proofs.PartsWritten.{own_asks, own_at}
use Rattle.blk_nodes.proofs.parts.own_part.Goals as goal

pub write_row-requires-clause-image : goal.write_row-requires-clause-image
write_row-requires-clause-image g c =
    let count = c.requires.rows in
    let small = c.index-at.ensures.small in
    let rows : List (Option Row) = c.args.rows.now in
    let row : Option Row = get_or rows c.index-at.result c.index-rows-at.result in
    let within : c.index-at.result < length rows = omega (arith, count, small) in
    let same = get_or_default rows c.index-at.result c.index-rows-at.result row within in
    own_asks c.args.rows.now c.args.devices.now c.args.part.now c.requires.piece c.index-at.result row c.index-at.ensures.value within same c.requires.mapped

pub returns : goal.returns
returns g c =
    let count = c.requires.rows in
    let small = c.index-at.ensures.small in
    let rows : List (Option Row) = c.args.rows.now in
    let row : Option Row = get_or rows c.index-at.result c.index-rows-at.result in
    let within : c.index-at.result < length rows = omega (arith, count, small) in
    let same = get_or_default rows c.index-at.result c.index-rows-at.result row within in
    own_at c.args.rows.now c.args.devices.now c.args.part.now c.requires.piece c.index-at.result row c.index-at.ensures.value within same
    c.write_row.new.devices c.args.bytes.now c.write_row.result c.write_row.new.row c.write_row.ensures c.requires.whole
