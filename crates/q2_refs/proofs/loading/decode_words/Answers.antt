use Rattle.std.proofs.Common.{◌*◌, ◌∙◌, arith}
use Rattle.q2_refs.proofs.Decoding.{number_behind}
use Rattle.q2_refs.proofs.loading.decode_words.Goals as goal

pub returns : goal.returns
returns c = λ k below. c.read_u64_into.ensures k (omega arith) ∙ number_behind c.args.bytes.now 8 (8 * k)
