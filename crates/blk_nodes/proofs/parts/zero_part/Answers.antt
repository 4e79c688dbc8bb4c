use Rattle.std.proofs.Common.{◌≡◌, List, Option, get_or, ◌≢◌, ◌/◌, ◌<◌, replicate, length, sym, ◌∙◌, ap, subst, arith}
use Rattle.std.proofs.lemmas.List.{get_or_default}
use Rattle.blk_nodes.specs.declared.row.Row.{Row}
use Rattle.q2_image.specs.Image.{entry_in}
use Rattle.q2_tables.specs.Entries.{entry_of}
use Rattle.q2_tables.specs.declared.mapping.Mapping.{Mapping}
use Rattle.blk_nodes.specs.Parts.{OfImage, row_in}
use Rattle.blk_base.specs.Pieces.{Extent}
use Rattle.blk_nodes.proofs.PartFits.{zero_clear_as, zero_left_as, zero_rest_as, seen_at}
use Rattle.blk_nodes.proofs.parts.zero_part.Goals as goal

pub returns-then-span-whole : goal.returns-then-span-whole
returns-then-span-whole g c =
    let len : c.span.inside.len ≡ c.args.part.now.span.len = ap (λ (s : Extent). s.len) c.span.view_is in
    let whole : c.whole.inside.len ≡ c.args.part.now.whole.len = ap (λ (s : Extent). s.len) c.whole.view_is in
    zero_clear_as c.args.rows.now c.clear_part.new.rows c.args.devices.now c.clear_part.new.devices c.args.part.now (replicate c.args.part.now.span.len 0) c.clear_part.result c.requires.piece
    (sym len ∙ c.if-span-whole.true ∙ whole) c.clear_part.ensures

pub returns-in-Zero : goal.returns-in-Zero
returns-in-Zero g c =
    let start : c.span.inside.start ≡ c.args.part.now.span.start = ap (λ (s : Extent). s.start) c.span.view_is in
    let len : c.span.inside.len ≡ c.args.part.now.span.len = ap (λ (s : Extent). s.len) c.span.view_is in
    let whole : c.whole.inside.len ≡ c.args.part.now.whole.len = ap (λ (s : Extent). s.len) c.whole.view_is in
    let less : c.args.part.now.span.len ≢ c.args.part.now.whole.len = λ is. c.if-span-whole.false (len ∙ is ∙ sym whole) in
    let count = c.requires.rows in
    let small = c.index.ensures.small in
    let rows : List (Option Row) = c.args.rows.now in
    let row : Option Row = get_or rows c.index.result c.index-rows-index.result in
    let within : c.index.result < length rows = omega (arith, count, small) in
    let same = get_or_default rows c.index.result c.index-rows-index.result row within in
    let seen = seen_at c.args.rows.now c.args.part.now c.index.result row c.index.ensures.value within same
    c.mapping_of.result (rw start at c.mapping_of.ensures) in
    let P : Mapping → Type 0 = λ m. OfImage (row_in c.args.rows.now c.args.part.now.node) (λ image. entry_of m ≡ entry_in image (c.args.part.now.span.start / 65536)) in
    zero_left_as c.args.rows.now c.args.devices.now c.args.part.now c.requires.piece less c.in-Zero.host (subst P c.in-Zero.is seen)

pub returns-in_default : goal.returns-in_default
returns-in_default g c =
    let start : c.span.inside.start ≡ c.args.part.now.span.start = ap (λ (s : Extent). s.start) c.span.view_is in
    let len : c.span.inside.len ≡ c.args.part.now.span.len = ap (λ (s : Extent). s.len) c.span.view_is in
    let whole : c.whole.inside.len ≡ c.args.part.now.whole.len = ap (λ (s : Extent). s.len) c.whole.view_is in
    let less : c.args.part.now.span.len ≢ c.args.part.now.whole.len = λ is. c.if-span-whole.false (len ∙ is ∙ sym whole) in
    let count = c.requires.rows in
    let small = c.index.ensures.small in
    let rows : List (Option Row) = c.args.rows.now in
    let row : Option Row = get_or rows c.index.result c.index-rows-index.result in
    let within : c.index.result < length rows = omega (arith, count, small) in
    let same = get_or_default rows c.index.result c.index-rows-index.result row within in
    let seen = seen_at c.args.rows.now c.args.part.now c.index.result row c.index.ensures.value within same
    c.mapping_of.result (rw start at c.mapping_of.ensures) in
    let wrote = rw c.requires.zeros at c.write_part.ensures in
    zero_rest_as c.args.rows.now c.write_part.new.rows c.args.devices.now c.write_part.new.devices c.args.part.now c.write_part.result c.requires.piece
    less c.mapping_of.result c.in_default.not-Zero seen wrote
