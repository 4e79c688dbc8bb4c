use Rattle.std.proofs.Common.{ℕ, ◌+◌, ap, sym}
use Rattle.q2_image.proofs.Sightings.{seen_alike, once-some}
use Rattle.q2_image.proofs.seen.Seen.mark_offset.Goals as goal

pub returns-then-offset-ne0-clause-seen : goal.returns-then-offset-ne0-clause-seen
returns-then-offset-ne0-clause-seen c = λ uses seen. seen_alike _ _ _
    (λ k. ap (λ (n : ℕ). uses k + n) (sym (once-some c.args.cluster_size c.args.offset k c.if-offset-ne0.true)))
    (c.mark.ensures.seen uses seen)
