-- A line of the script, and what is said of it.
use Rattle.std.specs.Prelude.{◌≡◌, ℕ, ◌≤◌, false, List, ◌++◌, codes, Some, Result}
use Rattle.json.specs.Print.{escape}
use Rattle.serde_json.specs.Data.{Data, depth}
use Rattle.serde_json.specs.Read.{read}
use Rattle.serde_json.specs.Written.{has_float, compact_text}
use Rattle.qmp_codec.specs.Lines.{id_at}
use Rattle.qmp_codec.specs.Replies.{refused_data}
use Rattle.qmp_codec.specs.declared.reply.Class.TheVariants.{GenericError}
use Rattle.qmp_rules.specs.declared.refusal.Refusal.{Refusal}
use Rattle.qmp_rules.specs.Answers.{answer_data}

-- its number, and its text as it was given
pub record Given : Type 0 where
  pub number : ℕ
  pub text : List ℕ

abbrev pub given_line : ℕ → List ℕ → Given
given_line number text = record { number = number; text = text }

-- a value of integers alone, so deep at most
pub record IsPrintable (most : ℕ) (d : Data) : Type 0 where
  pub whole : has_float d ≡ false
  pub low : depth d ≤ most

-- the text of an answer to a line, which reads back as that answer
pub record IsSaid (given : List ℕ) (reply : Result Data Refusal) (text : List ℕ) : Type 0 where
  pub prints : text ≡ compact_text (answer_data (id_at given) reply)
  pub reads : read text ≡ Some (answer_data (id_at given) reply)

-- ---- a refusal of which a call failed, before it is known which

-- how a refusal of the class GenericError begins, up to its words
abbrev pub refusal_front : List ℕ
refusal_front = codes "{\"error\":{\"class\":\"GenericError\",\"desc\":\""

-- the text of such a refusal of a line, which reads back as it
pub record IsRefusalText (given desc text : List ℕ) : Type 0 where
  pub prints : text ≡ compact_text (refused_data (id_at given) GenericError desc)
  pub reads : read text ≡ Some (refused_data (id_at given) GenericError desc)

-- This ends each such refusal of a line whose words stand in JSON as they are.
abbrev pub EndsRefusals : List ℕ → List ℕ → Type 0
EndsRefusals given back = (desc : List ℕ) → escape desc ≡ desc
    → IsRefusalText given desc (refusal_front ++ desc ++ back)
