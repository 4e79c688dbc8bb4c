use Rattle.std.proofs.Common.{◌≡◌, ◌∷◌, false, sym, ◌∙◌, ap}
use Rattle.std.specs.Prelude.{codes}
use Rattle.std.specs.Option.{option_copied}
use Rattle.std.specs.Str.{bytes_eq}
use Rattle.trace_codec.specs.Cut.{parts_of}
use Rattle.trace_codec.specs.Line.{words_of, request_in}
use Rattle.trace_codec.proofs.Parts.{no_request}
use Rattle.trace_codec.proofs.line.read_request.Goals as goal

pub returns-else-eq-4 : goal.returns-else-eq-4
returns-else-eq-4 c =
    let name = c.cut.result.0.now in
    let rest = c.in-Some.words.now in
    let read : bytes_eq name (codes "read") ≡ false = cc in
    let write : bytes_eq name (codes "write") ≡ false = cc in
    let bytes : bytes_eq name (codes "bytes") ≡ false = cc in
    let discard : bytes_eq name (codes "discard") ≡ false = cc in
    let parts : words_of c.args.line.now ≡ name ∷ words_of rest = c.cut.ensures.parts ∙ ap (λ r. name ∷ parts_of 32 (option_copied r)) c.in-Some.is in
    sym (ap request_in parts ∙ no_request name rest read write bytes discard)
