use Rattle.std.proofs.Common.{◌≡◌, ◌<◌, true, length, get_or, slice_index_or, false, sym, arith, eq-eqb, refl}
use Rattle.q2_format.proofs.Firsts.{lowest_at}
use Rattle.q2_image.specs.Seen.{is_uncounted}
use Rattle.q2_image.proofs.counting.first_uncounted.Goals as goal

pub returns-then-count_of-eq0 : goal.returns-then-count_of-eq0
returns-then-count_of-eq0 c =
    let seen = c.args.seen.now in
    let counts = c.args.refs.now.counts in
    let at = c.loop-cluster.cluster in
    let within : at < length seen.named = omega arith in
    let named : slice_index_or seen.named at false ≡ true = cc in
    let zero_count : get_or counts at 0 ≡ 0 = cc in
    let both : is_uncounted seen.named counts at ≡ true = let test = eq-eqb (get_or counts at 0) 0 zero_count in rw (named, test) refl in
    sym (lowest_at (is_uncounted seen.named counts) (length seen.named) at within both c.loop-cluster.invariant)
