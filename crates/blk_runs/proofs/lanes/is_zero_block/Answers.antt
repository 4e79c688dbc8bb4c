use Rattle.std.proofs.Common.{◌≡◌, get_or, ap, sym, refl, ◌∙◌}
use Rattle.blk_runs.proofs.LaneLemmas.{quarters, quarters-zero, zero-quarters}
use Rattle.blk_runs.proofs.lanes.is_zero_block.Goals as goal

pub returns : goal.returns
returns c =
    let lanes : c.either.result ≡ quarters c.args.bytes.now c.args.at
    = rw (c.either.ensures, c.either-front.ensures, c.either-back.ensures, c.load.ensures, c.load-2.ensures, c.load-3.ensures, c.load-4.ensures) refl in (
      (λ yes. quarters-zero c.args.bytes.now c.args.at c.requires (λ k. ap (λ l. get_or l k 0) (sym lanes) ∙ c.are_zero.ensures.0 yes k)),
      (λ zeros. c.are_zero.ensures.1 (λ k. ap (λ l. get_or l k 0) lanes ∙ zero-quarters c.args.bytes.now c.args.at c.requires zeros k)),
    )
