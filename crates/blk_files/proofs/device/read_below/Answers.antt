use Rattle.std.proofs.Common.{◌≤◌, ℕ, List, ◌++◌, drop, length, arith}
use Rattle.std.proofs.lemmas.List.{length-append, length-take-le}
use Rattle.blk_files.proofs.Zeros.{zeros_from}
use Rattle.blk_files.proofs.device.read_below.Goals as goal

pub returns : goal.returns
returns c = λ k past.
    let w : ℕ = c.min-within.result in
    let old : List ℕ = c.args.buf.now in
    let xs : List ℕ = c.read_full.new.buf ++ drop w old in
    let rest = c.saturating_sub.ensures in
    let least = c.min-within.ensures in
    let fits : w ≤ length old = omega (arith, least) in
    let read = c.read_full.auto.buf in
    let whole : w ≤ length xs = omega (arith, length-append c.read_full.new.buf (drop w old), read, length-take-le w old fits) in
    zeros_from xs c.fill.new.self _ w k whole (c.fill.ensures.after (λ y same. same)) (omega (arith, rest, least, past))
