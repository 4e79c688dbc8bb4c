use Rattle.std.proofs.Common.{◌≡◌, ◌<◌, ◌≤◌, ◌+◌, ◌*◌, ◌-◌, ◌^◌, ◌∙◌, ℕ, Bool, map, cond, ap, subst, arith}
use Rattle.std.specs.List.{range_with_len}
use Rattle.std.specs.Simd.Lanes.{mask_l}
use Rattle.block_jobs.specs.Work.{JobWork, is_left, sectors_left}
use Rattle.block_jobs.proofs.PartLemmas.{bit_most, mask_bound, mask_step}
use Rattle.block_jobs.proofs.work.JobWork.sectors_left.Goals as goal

abbrev Left : JobWork → ℕ → ℕ → Bool
Left work block sector = is_left work (block * 65536 + sector * 512)

abbrev From : JobWork → ℕ → ℕ → ℕ
From work block sector = mask_l (map (Left work block) (range_with_len sector (128 - sector)))

pub overflow_mul-sectors : goal.overflow_mul-sectors
overflow_mul-sectors c =
    let few : 128 - c.loop-sector.sector ≤ 127 = omega (arith, c.loop-sector-test.true) in
    let less : 2 * From c.args.self.now c.args.block c.loop-sector.sector + 1 < 2 ^ 128 = mask_bound (Left c.args.self.now c.args.block) c.loop-sector.sector (128 - c.loop-sector.sector) few in
    let is : c.loop-sector.sectors ≡ From c.args.self.now c.args.block c.loop-sector.sector = c.loop-sector.invariant.1 in
    omega (arith, less, is)

pub overflow_add-sectors : goal.overflow_add-sectors
overflow_add-sectors c =
    let few : 128 - c.loop-sector.sector ≤ 127 = omega (arith, c.loop-sector-test.true) in
    let less : 2 * From c.args.self.now c.args.block c.loop-sector.sector + 1 < 2 ^ 128 = mask_bound (Left c.args.self.now c.args.block) c.loop-sector.sector (128 - c.loop-sector.sector) few in
    let is : c.loop-sector.sectors ≡ From c.args.self.now c.args.block c.loop-sector.sector = c.loop-sector.invariant.1 in
    let most : cond c.holds.result 1 0 ≤ 1 = bit_most c.holds.result in
    omega (arith, less, is, c.bit.ensures, most)

pub loop-sector-preserved : goal.loop-sector-preserved
loop-sector-preserved c =
    let sector : ℕ = c.loop-sector.sector - 1 in
    let is : c.loop-sector.sectors ≡ From c.args.self.now c.args.block c.loop-sector.sector = c.loop-sector.invariant.1 in
    let held : c.holds.result ≡ Left c.args.self.now c.args.block (c.loop-sector.sector - 1)
    = subst (λ (x : JobWork). c.holds.result ≡ Left x c.args.block (c.loop-sector.sector - 1)) c.self.view_is c.holds.ensures in
    let bit : c.bit.result ≡ cond (Left c.args.self.now c.args.block (c.loop-sector.sector - 1)) 1 0 = c.bit.ensures ∙ ap (λ (b : Bool). cond b 1 0) held in
    let step : 2 * From c.args.self.now c.args.block c.loop-sector.sector + cond (Left c.args.self.now c.args.block (c.loop-sector.sector - 1)) 1 0
    ≡ From c.args.self.now c.args.block (c.loop-sector.sector - 1)
    = mask_step (Left c.args.self.now c.args.block) (c.loop-sector.sector - 1) c.loop-sector.sector (128 - c.loop-sector.sector) (128 - (c.loop-sector.sector - 1))
    (omega (arith, c.loop-sector-test.true)) (omega (arith, c.loop-sector-test.true, c.loop-sector.invariant.0)) in (
      omega (arith, c.loop-sector.invariant.0),
      ap (λ (n : ℕ). 2 * n + c.bit.result) is ∙ ap (λ (n : ℕ). 2 * From c.args.self.now c.args.block c.loop-sector.sector + n) bit ∙ step,
    )

pub returns : goal.returns
unfolding sectors_left
returns c =
    let none : c.loop-sector.sector ≡ 0 = omega (arith, c.loop-sector-test.false) in
    let is : c.loop-sector.sectors ≡ From c.args.self.now c.args.block c.loop-sector.sector = c.loop-sector.invariant.1 in
    is ∙ ap (λ (s : ℕ). From c.args.self.now c.args.block s) none
