-- Answers as they are printed.
use Rattle.std.proofs.Common.{◌≡◌, ◌≤◌, false, List, [], ℕ, ap, sym, ◌∙◌, Option, Some, None, Ok, Err}
use Rattle.serde_json.specs.Data.{Data, depth}
use Rattle.serde_json.specs.Read.{read, max_depth}
use Rattle.serde_json.specs.Written.{has_float, compact_text}
use Rattle.qmp_codec.specs.Lines.{Stop, id_at, command_at}
use Rattle.qmp_codec.specs.Replies.{returned_data, refused_data}
use Rattle.qmp_rules.specs.declared.refusal.Refusal.{Refusal}
use Rattle.qmp_rules.specs.Refusals.{refusal_text, refusal_class}
use Rattle.qmp_rules.specs.Table.{RunTable}
use Rattle.qmp_rules.specs.Answers.{Answer, accepted, refused_so, line_refusal, line_answer, answer_for, told_none}
use Rattle.serde_json.specs.Data.{object, no_members}
use Rattle.world_parts.specs.Saying.{IsPrintable, IsSaid}
use Rattle.world_parts.proofs.CarryTexts.{id_plain, given_plain, refusal_plain}

pub said_given : (given text : List ℕ) (id : Option Data) (d : Data) → id ≡ id_at given → IsPrintable 126 d
    → (has_float (returned_data id d) ≡ false → text ≡ compact_text (returned_data id d))
    → (depth (returned_data id d) ≤ max_depth → read text ≡ Some (returned_data id d)) → IsSaid given (Ok d) text
said_given given text id d same plain prints reads =
    let is = given_plain id d (λ i some. id_plain given i (sym same ∙ some)) plain in
    record { prints = rw (← same) (prints is.whole); reads = rw (← same) (reads is.low) }

pub said_refusal : (given text : List ℕ) (id : Option Data) (cause : Refusal) (desc : List ℕ) → id ≡ id_at given → desc ≡ refusal_text cause
    → (has_float (refused_data id (refusal_class cause) desc) ≡ false → text ≡ compact_text (refused_data id (refusal_class cause) desc))
    → (depth (refused_data id (refusal_class cause) desc) ≤ max_depth → read text ≡ Some (refused_data id (refusal_class cause) desc))
    → IsSaid given (Err cause) text
said_refusal given text id cause desc same words prints reads =
    let is = refusal_plain id (refusal_class cause) desc (λ i some. id_plain given i (sym same ∙ some)) in
    record { prints = rw (← same, ← words) (prints is.whole); reads = rw (← same, ← words) (reads is.low) }

-- the answer to a line that is no command
module _ (t : RunTable) (given : List ℕ) (why : Stop) (line : command_at given ≡ Err why) where
  abbrev by : Option Refusal → Answer
  by found = elim found as (λ _. Answer) [ None ↦ accepted [] (object no_members) | Some cause ↦ refused_so [] cause ]

  answered-by : line_answer t told_none given ≡ by (line_refusal t given why)
  unfolding line_answer
  answered-by = ap (answer_for t told_none given) line

  pub refused_line : (cause : Refusal) → line_refusal t given why ≡ Some cause → (line_answer t told_none given).reply ≡ Err cause
  refused_line cause refuses = ap (λ (a : Answer). a.reply) (answered-by ∙ ap by refuses)

  pub accepted_line : line_refusal t given why ≡ None → (line_answer t told_none given).reply ≡ Ok (object no_members)
  accepted_line none = ap (λ (a : Answer). a.reply) (answered-by ∙ ap by none)
