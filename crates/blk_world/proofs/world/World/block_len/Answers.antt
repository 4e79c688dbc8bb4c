use Rattle.std.proofs.Common.{◌≡◌, ◌∙◌, ℕ, ap, sym, Some, None}
use Rattle.node_copies.specs.Sectors.{block_of}
use Rattle.blk_world.proofs.BlockSizes.{source_sized}
use Rattle.blk_world.proofs.world.World.block_len.Goals as goal

pub returns-in-Some-clause-len : goal.returns-in-Some-clause-len
returns-in-Some-clause-len g c = λ work at.
    let is : Some c.in-Some.size ≡ Some work.size
    = sym c.in-Some.is ∙ c.source_size.ensures ∙ source_sized c.args.self.now c.law.ensures.whole c.law.ensures.joined c.args.t.job work at in
    let same : c.in-Some.size ≡ work.size = cc is in
    c.len_of.ensures.len ∙ ap (λ (n : ℕ). (block_of n c.args.t.cluster).len) same

pub returns-in-None-clause-len : goal.returns-in-None-clause-len
returns-in-None-clause-len g c = λ work at.
    let bad : None ≡ Some work.size
    = sym c.in-None.is ∙ c.source_size.ensures ∙ source_sized c.args.self.now c.law.ensures.whole c.law.ensures.joined c.args.t.job work at in
    absurd (cc bad)
