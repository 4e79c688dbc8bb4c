use Rattle.std.proofs.Common.{◌≡◌, List, Option, get_or, ◌/◌, ◌<◌, length, ap, subst, arith}
use Rattle.std.proofs.lemmas.List.{get_or_default}
use Rattle.blk_nodes.specs.declared.row.Row.{Row}
use Rattle.q2_image.specs.Image.{entry_in}
use Rattle.q2_tables.specs.Entries.{entry_of}
use Rattle.q2_tables.specs.declared.mapping.Mapping.{Mapping}
use Rattle.blk_nodes.specs.Parts.{OfImage, row_in}
use Rattle.blk_base.specs.Pieces.{Extent}
use Rattle.blk_nodes.proofs.PartFits.{host_at, write_own_as, write_put_as, not_host, seen_at}
use Rattle.blk_nodes.proofs.parts.write_part.Goals as goal

pub own_part-requires-clause-mapped : goal.own_part-requires-clause-mapped
own_part-requires-clause-mapped g c =
    let start : c.span.inside.start ≡ c.args.part.now.span.start = ap (λ (s : Extent). s.start) c.span.view_is in
    let count = c.requires.rows in
    let small = c.index.ensures.small in
    let rows : List (Option Row) = c.args.rows.now in
    let row : Option Row = get_or rows c.index.result c.index-rows-index.result in
    let within : c.index.result < length rows = omega (arith, count, small) in
    let same = get_or_default rows c.index.result c.index-rows-index.result row within in
    let seen = seen_at c.args.rows.now c.args.part.now c.index.result row c.index.ensures.value within same
    c.mapping_of.result (rw start at c.mapping_of.ensures) in
    let P : Mapping → Type 0 = λ m. OfImage (row_in c.args.rows.now c.args.part.now.node) (λ image. entry_of m ≡ entry_in image (c.args.part.now.span.start / 65536)) in
    host_at c.args.rows.now c.args.devices.now c.args.part.now c.requires.piece c.in-Host.host (subst P c.in-Host.is seen)

pub returns-in-Host : goal.returns-in-Host
returns-in-Host g c =
    let start : c.span.inside.start ≡ c.args.part.now.span.start = ap (λ (s : Extent). s.start) c.span.view_is in
    let count = c.requires.rows in
    let small = c.index.ensures.small in
    let rows : List (Option Row) = c.args.rows.now in
    let row : Option Row = get_or rows c.index.result c.index-rows-index.result in
    let within : c.index.result < length rows = omega (arith, count, small) in
    let same = get_or_default rows c.index.result c.index-rows-index.result row within in
    let seen = seen_at c.args.rows.now c.args.part.now c.index.result row c.index.ensures.value within same
    c.mapping_of.result (rw start at c.mapping_of.ensures) in
    let P : Mapping → Type 0 = λ m. OfImage (row_in c.args.rows.now c.args.part.now.node) (λ image. entry_of m ≡ entry_in image (c.args.part.now.span.start / 65536)) in
    write_own_as c.args.rows.now c.own_part.new.rows c.args.devices.now c.own_part.new.devices c.args.part.now c.args.bytes.now c.own_part.result c.requires.piece
    c.in-Host.host (subst P c.in-Host.is seen) c.own_part.ensures

pub returns-in_default : goal.returns-in_default
returns-in_default g c =
    let start : c.span.inside.start ≡ c.args.part.now.span.start = ap (λ (s : Extent). s.start) c.span.view_is in
    let count = c.requires.rows in
    let small = c.index.ensures.small in
    let rows : List (Option Row) = c.args.rows.now in
    let row : Option Row = get_or rows c.index.result c.index-rows-index.result in
    let within : c.index.result < length rows = omega (arith, count, small) in
    let same = get_or_default rows c.index.result c.index-rows-index.result row within in
    let seen = seen_at c.args.rows.now c.args.part.now c.index.result row c.index.ensures.value within same
    c.mapping_of.result (rw start at c.mapping_of.ensures) in
    write_put_as c.args.rows.now c.put_part.new.rows c.args.devices.now c.put_part.new.devices c.args.part.now c.args.bytes.now c.put_part.result c.requires.piece
    (entry_of c.mapping_of.result) (not_host c.mapping_of.result c.in_default.not-Host) seen c.put_part.ensures
