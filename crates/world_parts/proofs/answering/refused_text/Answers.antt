use Rattle.std.proofs.Common.{◌∙◌, ap}
use Rattle.std.specs.Prelude.{option_map}
use Rattle.serde_json.specs.View.{view}
use Rattle.world_parts.proofs.CarryGiven.{said_refusal}
use Rattle.world_parts.proofs.Borrowed.{mapped_through}
use Rattle.world_parts.proofs.answering.refused_text.Goals as goal

pub returns : goal.returns
returns c =
    let same = mapped_through view c.as_ref.result ∙ ap (option_map view) c.as_ref.ensures.value ∙ c.in_ok-id.ensures in
    let words = c.from_string-desc.ensures ∙ c.in_ok-text.ensures in
    rw c.into_string.ensures
    (said_refusal c.args.given.now c.in_ok-text-2.text.bytes _ c.args.cause.now c.from_string-desc.result.bytes same words
    (rw (← c.class.ensures) c.in_ok-text-2.ensures.text) (rw (← c.class.ensures) c.in_ok-text-2.ensures.reads_back))
