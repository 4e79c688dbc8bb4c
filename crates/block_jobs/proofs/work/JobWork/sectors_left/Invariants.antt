use Rattle.std.proofs.Common.{◌≡◌, ◌≤◌, ◌+◌, ◌*◌, ◌-◌, map}
use Rattle.std.specs.List.{range_with_len}
use Rattle.std.specs.Simd.Lanes.{mask_l}
use Rattle.block_jobs.specs.Work.{is_left}
use Rattle.block_jobs.proofs.work.JobWork.sectors_left.Given as goal

abbrev pub invariant-loop-sector : goal.invariant-loop-sector
invariant-loop-sector l =
    (l.sector ≤ 128)
    × (l.sectors ≡ mask_l (map (λ sector. is_left l.fn.self (l.block * 65536 + sector * 512)) (range_with_len l.sector (128 - l.sector))))

abbrev pub decreases-loop-sector : goal.decreases-loop-sector
decreases-loop-sector l = l.sector
