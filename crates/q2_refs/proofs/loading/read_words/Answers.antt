use Rattle.std.proofs.Common.{ℕ, ◌*◌, ◌∙◌, List, ap, length, arith}
use Rattle.blk_base.specs.Content.{bytes_at}
use Rattle.q2_format.specs.Bytes.{number_at}
use Rattle.q2_format.proofs.Standing.{words_stand}
use Rattle.q2_refs.proofs.Decoding.{words_read}
use Rattle.q2_refs.proofs.loading.read_words.Goals as goal

pub returns-clause-words : goal.returns-clause-words
returns-clause-words g c = λ file told.
    let bytes = c.in_ok-read.ensures.read file told ∙ ap (bytes_at file c.args.at) c.requires in
    words_read file c.decode_words.new.words c.args.at (length c.args.words.now) (omega arith)
    (λ k below. c.decode_words.ensures k below ∙ ap (λ (read : List ℕ). number_at read (8 * k) 8) bytes)

pub returns-clause-stands : goal.returns-clause-stands
returns-clause-stands g c =
    words_stand (g.D.Device.size c.args.dev.now) c.args.at c.read.new.buf c.in_ok-read.ensures.past c.decode_words.new.words
    (λ k below. c.decode_words.ensures k (omega (arith, below)))
