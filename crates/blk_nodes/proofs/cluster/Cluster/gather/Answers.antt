use Rattle.std.proofs.Common.{◌≡◌, ℕ, List, ap}
use Rattle.blk_nodes.specs.Found.{found_bytes}
use Rattle.blk_nodes.specs.declared.part.Part.{Part}
use Rattle.blk_base.specs.Pieces.{Extent}
use Rattle.blk_nodes.proofs.PartsWritten.{gathered, laid_part}
use Rattle.blk_nodes.proofs.cluster.Cluster.gather.Goals as goal

pub returns-clause-found : goal.returns-clause-found
returns-clause-found g c = λ all good.
    let part : Part = c.args.part.now in
    let old : List ℕ = c.rest-outcome.new.self in
    let bytes : List ℕ = c.args.bytes.now in
    let start : c.span.inside.start ≡ part.span.start = ap (λ (s : Extent). s.start) c.span.view_is in
    let laid = rw start at c.lay.ensures.bytes in
    gathered c.args.rows.now c.args.devices.now part c.requires.piece old (found_bytes c.args.devices.now part.source part.whole.start part.whole.len) bytes c.lay.new.self
    c.lay.ensures.whole laid c.requires.whole (c.rest-outcome.ensures.read all good)

pub returns-clause-laid : goal.returns-clause-laid
returns-clause-laid g c = λ good.
    let part : Part = c.args.part.now in
    let old : List ℕ = c.rest-outcome.new.self in
    let bytes : List ℕ = c.args.bytes.now in
    let start : c.span.inside.start ≡ part.span.start = ap (λ (s : Extent). s.start) c.span.view_is in
    let laid = rw start at c.lay.ensures.bytes in
    laid_part c.args.rows.now c.args.devices.now part c.requires.piece old bytes c.lay.new.self c.lay.ensures.whole laid c.requires.whole c.rest-outcome.ensures.behind
