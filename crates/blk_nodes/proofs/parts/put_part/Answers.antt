use Rattle.std.proofs.Common.{◌≡◌, List, Option, get_or, ◌<◌, length, sym, ◌∙◌, ap, arith}
use Rattle.blk_base.specs.Pieces.{Extent}
use Rattle.std.proofs.lemmas.List.{get_or_default}
use Rattle.blk_nodes.specs.declared.row.Row.{Row}
use Rattle.blk_nodes.proofs.PartsWritten.{put_asks, put_at, read_stopped}
use Rattle.blk_nodes.proofs.parts.put_part.Goals as goal

pub put_row-requires-clause-image : goal.put_row-requires-clause-image
put_row-requires-clause-image g c =
    let start : c.span.inside.start ≡ c.args.part.now.span.start = ap (λ (s : Extent). s.start) c.span.view_is in
    let count = c.requires.rows in
    let small = c.index-at.ensures.small in
    let rows : List (Option Row) = c.args.rows.now in
    let within : c.index-at.result < length rows = omega (arith, count, small) in
    let first : Option Row = get_or rows c.index-at.result c.index-rows-at.result in
    let row : Option Row = get_or rows c.index-at.result c.index-rows-at-2.result in
    let first_is = get_or_default rows c.index-at.result c.index-rows-at.result first within in
    let row_is = get_or_default rows c.index-at.result c.index-rows-at-2.result row within in
    rw start (put_asks c.args.rows.now c.args.devices.now c.gather-read.new.devices c.args.part.now c.bytes.result.now c.room_of-room.result c.gather-read.result c.requires.piece
    c.index-at.result first row c.index-at.ensures.value within first_is row_is
    (rw start at c.room_of-room.ensures) (sym c.is_good.ensures ∙ c.if-not-is_good.false) (sym c.is_good-2.ensures ∙ c.if-not-is_good-2.false) c.gather-read.ensures.outcome c.bytes.ensures.whole)

pub returns : goal.returns
returns g c =
    let start : c.span.inside.start ≡ c.args.part.now.span.start = ap (λ (s : Extent). s.start) c.span.view_is in
    let count = c.requires.rows in
    let small = c.index-at.ensures.small in
    let rows : List (Option Row) = c.args.rows.now in
    let within : c.index-at.result < length rows = omega (arith, count, small) in
    let first : Option Row = get_or rows c.index-at.result c.index-rows-at.result in
    let row : Option Row = get_or rows c.index-at.result c.index-rows-at-2.result in
    let first_is = get_or_default rows c.index-at.result c.index-rows-at.result first within in
    let row_is = get_or_default rows c.index-at.result c.index-rows-at-2.result row within in
    put_at c.args.rows.now c.args.devices.now c.gather-read.new.devices c.put_row.new.devices c.args.part.now c.args.bytes.now c.bytes.result.now c.gather-read.new.self c.gather-read.result c.put_row.result
    c.put_row.new.row c.requires.piece
    c.index-at.result row c.index-at.ensures.value within row_is (rw start at c.put_row.ensures) c.requires.whole
    c.bytes.ensures.bytes (sym c.is_good-2.ensures ∙ c.if-not-is_good-2.false) c.gather-read.ensures.outcome c.gather-read.ensures.found c.gather-read.ensures.laid

pub returns-then-not-is_good-2 : goal.returns-then-not-is_good-2
returns-then-not-is_good-2 g c =
    let start : c.span.inside.start ≡ c.args.part.now.span.start = ap (λ (s : Extent). s.start) c.span.view_is in
    let count = c.requires.rows in
    let small = c.index-at.ensures.small in
    let rows : List (Option Row) = c.args.rows.now in
    let within : c.index-at.result < length rows = omega (arith, count, small) in
    let first : Option Row = get_or rows c.index-at.result c.index-rows-at.result in
    let first_is = get_or_default rows c.index-at.result c.index-rows-at.result first within in
    read_stopped c.args.rows.now c.args.devices.now c.gather-read.new.devices c.args.part.now c.args.bytes.now c.room_of-room.result c.gather-read.result c.requires.piece
    c.index-at.result first c.index-at.ensures.value within first_is
    (rw start at c.room_of-room.ensures) (sym c.is_good.ensures ∙ c.if-not-is_good.false) (sym c.is_good-2.ensures ∙ c.if-not-is_good-2.true) c.gather-read.ensures.outcome
    c.gather-read.ensures.devices
