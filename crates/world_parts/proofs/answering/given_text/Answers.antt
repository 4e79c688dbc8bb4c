use Rattle.std.proofs.Common.{◌∙◌, ap}
use Rattle.std.specs.Prelude.{option_map}
use Rattle.serde_json.specs.View.{view}
use Rattle.world_parts.proofs.CarryGiven.{said_given}
use Rattle.world_parts.proofs.Borrowed.{mapped_through}
use Rattle.world_parts.proofs.answering.given_text.Goals as goal

pub returns : goal.returns
returns c =
    let same = mapped_through view c.as_ref.result ∙ ap (option_map view) c.as_ref.ensures.value ∙ c.in_ok-id.ensures in
    rw c.into_string.ensures (said_given c.args.given.now c.in_ok-text.text.bytes _ (view c.args.value) same c.requires c.in_ok-text.ensures.text c.in_ok-text.ensures.reads_back)
