use Rattle.std.proofs.Common.{◌≡◌, ap, codes}
use Rattle.clap.specs.Words.{first_of}
use Rattle.qblk_words.proofs.reading.io_of.Goals as goal

pub returns : goal.returns
returns c = λ format image trace rows.
    let f : c.value.result.now ≡ format = c.value.ensures format (ap (first_of (codes "format")) rows) in
    let i : c.value-2.result.now ≡ image = c.value-2.ensures image (ap (first_of (codes "image")) rows) in
    let t : c.value-3.result.now ≡ trace = c.value-3.ensures trace (ap (first_of (codes "trace")) rows) in
    rw (f, i, t) at c.io_words.ensures
