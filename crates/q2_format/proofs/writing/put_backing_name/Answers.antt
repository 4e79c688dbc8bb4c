-- The name that was put is the one that was given.
use Rattle.std.proofs.Common.{◌≡◌, ◌∙◌, ap, sym, Some}
use Rattle.std.specs.Option.{option_copied}
use Rattle.q2_format.proofs.writing.put_backing_name.Goals as goal

pub returns-in-Some-clause-fields : goal.returns-in-Some-clause-fields
returns-in-Some-clause-fields c size format fields =
    let same : option_copied c.args.name ≡ Some c.text_bytes.result.now = ap option_copied c.in-Some.is ∙ ap Some (sym c.text_bytes.ensures.bytes) in
    rw same (c.put_name.ensures.fields size format fields)

pub returns-in-Some-clause-name : goal.returns-in-Some-clause-name
returns-in-Some-clause-name c size format =
    let same : option_copied c.args.name ≡ Some c.text_bytes.result.now = ap option_copied c.in-Some.is ∙ ap Some (sym c.text_bytes.ensures.bytes) in
    rw same (c.put_name.ensures.name size format)
