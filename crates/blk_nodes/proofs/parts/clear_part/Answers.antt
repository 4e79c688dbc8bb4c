use Rattle.std.proofs.Common.{◌≡◌, List, Option, get_or, ◌<◌, length, ap, arith}
use Rattle.blk_base.specs.Pieces.{Extent}
use Rattle.std.proofs.lemmas.List.{get_or_default}
use Rattle.blk_nodes.specs.declared.row.Row.{Row}
use Rattle.blk_nodes.proofs.PartsWritten.{clear_asks, clear_at}
use Rattle.blk_nodes.proofs.parts.clear_part.Goals as goal

pub zero_row-requires-clause-image : goal.zero_row-requires-clause-image
zero_row-requires-clause-image g c =
    let start : c.span.inside.start ≡ c.args.part.now.span.start = ap (λ (s : Extent). s.start) c.span.view_is in
    let count = c.requires.rows in
    let small = c.index-at.ensures.small in
    let rows : List (Option Row) = c.args.rows.now in
    let row : Option Row = get_or rows c.index-at.result c.index-rows-at.result in
    let within : c.index-at.result < length rows = omega (arith, count, small) in
    let same = get_or_default rows c.index-at.result c.index-rows-at.result row within in
    rw start (clear_asks c.args.rows.now c.args.devices.now c.args.part.now c.requires.piece
    c.index-at.result row c.index-at.ensures.value within same)

pub returns : goal.returns
returns g c =
    let start : c.span.inside.start ≡ c.args.part.now.span.start = ap (λ (s : Extent). s.start) c.span.view_is in
    let count = c.requires.rows in
    let small = c.index-at.ensures.small in
    let rows : List (Option Row) = c.args.rows.now in
    let row : Option Row = get_or rows c.index-at.result c.index-rows-at.result in
    let within : c.index-at.result < length rows = omega (arith, count, small) in
    let same = get_or_default rows c.index-at.result c.index-rows-at.result row within in
    clear_at c.args.rows.now c.args.devices.now c.args.part.now c.requires.piece c.index-at.result row c.index-at.ensures.value within same
    c.zero_row.new.devices c.zero_row.result c.zero_row.new.row (rw start at c.zero_row.ensures) c.requires.all
