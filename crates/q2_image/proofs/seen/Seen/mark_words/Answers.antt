use Rattle.std.proofs.Common.{ℕ, ◌+◌, List, ap, arith}
use Rattle.std.proofs.lemmas.List.{take_all}
use Rattle.q2_image.specs.Seen.{times_named, named_once}
use Rattle.q2_image.proofs.Sightings.{seen_alike, words-more}
use Rattle.q2_image.proofs.seen.Seen.mark_words.Goals as goal

pub loop-word-preserved : goal.loop-word-preserved
loop-word-preserved c = (
  omega arith,
  λ uses seen. seen_alike _ _ _
      (λ k. let more = words-more c.args.cluster_size c.args.kind c.args.words.now c.loop-word.word-index k (omega arith) in
      let offset = ap (λ (o : ℕ). named_once c.args.cluster_size o k) c.offset_in.ensures in
      omega arith)
      (c.mark_offset.ensures.seen _ (c.loop-word.invariant.1 uses seen)),
)

pub returns-clause-seen : goal.returns-clause-seen
returns-clause-seen c = λ uses seen. seen_alike _ _ _ (λ k. ap (λ (ws : List ℕ). uses k + times_named c.args.cluster_size c.args.kind ws k) (take_all c.loop-word.word-index c.args.words.now (omega arith))) (c.loop-word.invariant.1 uses seen)
