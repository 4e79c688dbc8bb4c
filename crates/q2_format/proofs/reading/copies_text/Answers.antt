-- What was copied is what is tested.
use Rattle.std.proofs.Common.{◌≡◌, ◌∙◌, ap}
use Rattle.std.specs.Str.{is_utf8, IsValidUpTo, valid_up_to}
use Rattle.q2_format.proofs.Texts.{is_ok_as_test}
use Rattle.q2_format.proofs.reading.copies_text.Goals as goal

pub returns : goal.returns
returns c =
    c.is_ok.ensures.value
    ∙ is_ok_as_test (λ s. s.now ≡ c.copy_from.new.out) (λ e. IsValidUpTo c.copy_from.new.out (valid_up_to e)) c.from_utf8.result c.copy_from.new.out c.from_utf8.ensures.cases
    ∙ ap is_utf8 c.copy_from.ensures
