use Rattle.std.proofs.Common.{◌≡◌, Some, sym, ◌∙◌, arith}
use Rattle.blk_nodes.specs.Parts.{row_in}
use Rattle.blk_nodes.proofs.Joints.{same_image}
use Rattle.blk_nodes.proofs.Rows.{row_found}
use Rattle.blk_nodes.proofs.found.read_mapped.Goals as goal

pub read_image-requires-clause-known : goal.read_image-requires-clause-known
read_image-requires-clause-known g c =
    let count = c.requires.rows in
    let small = c.index.ensures.small in
    let there : row_in c.args.rows.now c.args.node ≡ Some c.in-Some.row =
    row_found c.args.rows.now c.index.result c.args.node c.index-rows-index.result c.index.ensures.value (omega (arith, count, small)) c.index-rows-index.is ∙ c.in-Some.is in
    let mapped = c.requires.mapped in
    let same = same_image mapped.row c.in-Some.row mapped.image c.in-Qcow2.image (sym mapped.there ∙ there) mapped.driver c.in-Qcow2.is in
    rw (sym same) mapped.known

pub returns-clause-outcome : goal.returns-clause-outcome
returns-clause-outcome g c =
    let count = c.requires.rows in
    let small = c.index.ensures.small in
    record {
      row = c.in-Some.row;
      image = c.in-Qcow2.image;
      there = row_found c.args.rows.now c.index.result c.args.node c.index-rows-index.result c.index.ensures.value (omega (arith, count, small)) c.index-rows-index.is ∙ c.in-Some.is;
      driver = c.in-Qcow2.is;
      read = c.read_image.ensures.outcome;
    }

pub returns-clause-can : goal.returns-clause-can
returns-clause-can g c =
    let count = c.requires.rows in
    let small = c.index.ensures.small in
    λ good. record {
      row = c.in-Some.row;
      image = c.in-Qcow2.image;
      there = row_found c.args.rows.now c.index.result c.args.node c.index-rows-index.result c.index.ensures.value (omega (arith, count, small)) c.index-rows-index.is ∙ c.in-Some.is;
      driver = c.in-Qcow2.is;
      past = c.read_image.ensures.past good;
    }
