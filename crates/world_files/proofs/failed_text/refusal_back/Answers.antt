use Rattle.std.proofs.Common.{◌∙◌, ap, sym}
use Rattle.std.specs.Prelude.{option_map, string_bytes}
use Rattle.serde_json.specs.View.{view}
use Rattle.world_files.proofs.FailedTexts.{ends_none, ends_some}
use Rattle.world_files.proofs.failed_text.refusal_back.Goals as goal

pub returns-in_ok-from_str-in-None : goal.returns-in_ok-from_str-in-None
returns-in_ok-from_str-in-None c =
    let none = ap (option_map view) (sym c.in-None.is) ∙ c.in_ok-read_id.ensures in
    rw c.in_ok-from_str-in-None.ensures.ok (ends_none c.args.given.now none)

pub returns-in_ok-push_str-in-Some-2 : goal.returns-in_ok-push_str-in-Some-2
returns-in_ok-push_str-in-Some-2 c =
    let some = ap (option_map view) (sym c.in-Some.is) ∙ c.in_ok-read_id.ensures in
    let told = c.in_ok-id-in-Some.ensures in
    rw (c.in_ok-push_str-in-Some-2.ensures.bytes, c.in_ok-push_str-in-Some.ensures.bytes, c.in_ok-back-in-Some.ensures.ok, c.as_str.ensures.value)
    (ends_some c.args.given.now (string_bytes c.in_ok-id-in-Some.id)
    (view c.in-Some.id) some told.text told.order told.reads_back)
