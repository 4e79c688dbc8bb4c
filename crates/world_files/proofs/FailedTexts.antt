-- Answers that a call failed, whichever it was.
use Rattle.std.proofs.Common.{◌≡◌, ℕ, ◌<◌, ◌≤◌, ◌^◌, List, [], ◌∷◌, ◌++◌, false, refl, sym, ◌∙◌, ap, arith, append_assoc, append-nil, Some, None, Err}
use Rattle.std.specs.Prelude.{codes, decimal}
use Rattle.std.proofs.lemmas.List.{append_cancel_left, append_cancel_right}
use Rattle.std.proofs.lemmas.List.Concat.{flat_map-append}
use Rattle.json.specs.Print.{escape, escape_byte}
use Rattle.json.specs.Lex.{tokens}
use Rattle.json.specs.Json as json
use Rattle.json.specs.Tree as tree
use Rattle.json.proofs.Numbered.{ArePrintableOrBad-tokens, value-HasNumbers}
use Rattle.json.proofs.Printed.Trees.{value-json_tokens}
use Rattle.serde_json.specs.Data.{Data, depth}
use Rattle.serde_json.specs.Read.{of_json, max_depth, read}
use Rattle.serde_json.specs.Written.{IsInOrder, outline, has_float, compact_text}
use Rattle.serde_json.proofs.Texts.{tokens_from_order}
use Rattle.blk_base.specs.declared.fault.DevNo.{DevNo}
use Rattle.blk_base.specs.declared.fault.FaultFrom.{FaultFrom}
use Rattle.blk_base.specs.declared.fault.FaultFrom.TheVariants.{Store, Dev, Sink}
use Rattle.blk_base.specs.declared.fault.Fault.TheVariants as fault
use Rattle.blk_history.specs.Line.{StaysInJson}
use Rattle.blk_history.specs.Transcript.{fault_text}
use Rattle.blk_history.proofs.Tellings.{plain_io, plain_space}
use Rattle.qmp_codec.specs.Lines.{id_at}
use Rattle.qmp_codec.specs.Replies.{refused_data}
use Rattle.qmp_codec.specs.declared.reply.Class.TheVariants.{GenericError}
use Rattle.flat_machine.proofs.ReadBack.{read-compact}
use Rattle.qmp_rules.specs.Refusals.{io_text}
use Rattle.qmp_rules.specs.declared.refusal.Refusal.TheVariants as refusal
use Rattle.world_parts.specs.Saying.{IsSaid, EndsRefusals, refusal_front}
use Rattle.world_parts.specs.Counting.{IsNumbered}
use Rattle.world_parts.proofs.CarryTexts.{id_plain}

-- ---- words that stand in JSON as they are

escaped : (text : List ℕ) → StaysInJson text → escape text ≡ text
escaped text plain = let within : escape text ++ 34 ∷ [] ≡ text ++ 34 ∷ [] = cc plain in append_cancel_right
    (escape text) text (34 ∷ []) within

both-escaped : (a b : List ℕ) → escape a ≡ a → escape b ≡ b → escape (a ++ b) ≡ a ++ b
both-escaped a b one two = flat_map-append escape_byte a b ∙ (let left = one in let right = two in cc)

-- digits, by the texts of other faults
none-escaped : escape (decimal 0) ≡ decimal 0
unfolding escape_byte
none-escaped =
    let all : escape (codes "nospace dev" ++ decimal 0) ≡ codes "nospace dev" ++ decimal 0 =
    escaped (fault_text (fault.NoSpace (record { 0 = 0 }))) (plain_space 0 (omega arith)) in
    cc

digits-escaped : (n : ℕ) → n < 2 ^ 64 → escape (decimal n) ≡ decimal n
unfolding escape_byte
digits-escaped n small =
    let all : escape (codes "io dev" ++ (decimal 0 ++ 32 ∷ decimal n)) ≡ codes "io dev" ++
    (decimal 0 ++ 32 ∷ decimal n) =
    escaped (fault_text (fault.Io (record { 0 = 0 }) n)) (plain_io 0 n (omega arith) small) in
    let inner : escape (decimal 0 ++ 32 ∷ decimal n) ≡ decimal 0 ++ 32 ∷ decimal n = cc in
    let first : escape (decimal 0 ++ 32 ∷ decimal n) ≡ escape (decimal 0) ++ escape
    (32 ∷ decimal n) = flat_map-append escape_byte (decimal 0) (32 ∷ decimal n) in
    let parts : decimal 0 ++ 32 ∷ escape (decimal n) ≡ decimal 0 ++ 32 ∷ decimal n =
    ap (λ bytes. bytes ++ 32 ∷ escape (decimal n)) (sym none-escaped) ∙ sym first ∙ inner in
    let cut : 32 ∷ escape (decimal n) ≡ 32 ∷ decimal n = append_cancel_left (decimal 0) (32 ∷ escape (decimal n))
    (32 ∷ decimal n) parts in
    cc

fault-escaped : (from : FaultFrom) (count : ℕ) → IsNumbered from → count < 2 ^ 64 → escape (io_text from count)
    ≡ io_text from count
unfolding escape_byte
fault-escaped Store count numbered small = both-escaped (codes "io store ") (decimal count) refl
    (digits-escaped count small)
fault-escaped (Dev dev) count numbered small =
    both-escaped (codes "io dev" ++ decimal dev.0 ++ codes " ") (decimal count)
    (both-escaped (codes "io dev" ++ decimal dev.0) (codes " ")
    (both-escaped (codes "io dev") (decimal dev.0) refl (digits-escaped dev.0 (omega arith))) refl)
    (digits-escaped count small)
fault-escaped Sink count numbered small = both-escaped (codes "io sink ") (decimal count) refl
    (digits-escaped count small)

full-escaped : (dev : ℕ) → dev < 2 ^ 32 → escape (codes "nospace dev" ++ decimal dev)
    ≡ codes "nospace dev" ++ decimal dev
unfolding escape_byte
full-escaped dev numbered = both-escaped (codes "nospace dev") (decimal dev) refl (digits-escaped dev (omega arith))

-- ---- values that were printed

-- their numbers print
printed-numbers : (text : List ℕ) (d : Data) → tokens text ≡ tree.json_tokens (outline d) → tree.HasNumbers (outline d)
printed-numbers text d is =
    let n = tree.depth (outline d) in
    value-HasNumbers n (tokens text) [] (outline d) (ArePrintableOrBad-tokens text)
    (ap (json.value n) (is ∙ sym (append-nil (tree.json_tokens (outline d)))) ∙ value-json_tokens (outline d) n []
    (omega arith))

-- ---- ends of refusals

behind : (desc rest : List ℕ) → escape desc ≡ desc → ((escape desc ++ 34 ∷ []) ++ 125 ∷ []) ++ rest ≡ desc ++
    (34 ∷ 125 ∷ rest)
behind desc rest plain = rw plain (simp append_assoc)

prints-none : (desc : List ℕ) → escape desc ≡ desc → refusal_front ++ desc ++ codes "\"}}" ≡ compact_text
    (refused_data None GenericError desc)
unfolding escape_byte
prints-none desc plain = ap (λ bytes. refusal_front ++ bytes) (sym (behind desc (125 ∷ []) plain))

prints-some : (desc : List ℕ) (id : Data) → escape desc ≡ desc
    → refusal_front ++ desc ++ (codes "\"},\"id\":" ++ compact_text id ++ codes "}") ≡ compact_text
    (refused_data (Some id) GenericError desc)
unfolding escape_byte
prints-some desc id plain =
    ap (λ bytes. refusal_front ++ bytes) (sym (behind desc (codes ",\"id\":" ++ compact_text id ++ codes "}") plain))

pub ends_none : (given : List ℕ) → None ≡ id_at given → EndsRefusals given (codes "\"}}")
ends_none given none desc plain =
    record {
      prints = rw (← none) (prints-none desc plain);
      reads = rw (← none) (ap read (prints-none desc plain) ∙ read-compact (refused_data None GenericError desc)
          ((tt, (tt, tt)), tt) (omega arith));
    }

module _ (given text : List ℕ) (id : Data) (some : Some id ≡ id_at given)
    (is : has_float id ≡ false → text ≡ compact_text id) (order : IsInOrder text id)
    (reads : depth id ≤ max_depth → read text ≡ Some id) where
  whole : has_float id ≡ false
  whole = (id_plain given id (sym some)).whole

  low : depth id ≤ 126
  low = (id_plain given id (sym some)).low

  numbers : tree.HasNumbers (outline id)
  numbers = printed-numbers text id (tokens_from_order text id order whole)

  id-reads : of_json (outline id) ≡ Some id
  id-reads =
      let shallow = low in
      sym (read-compact id numbers (omega arith)) ∙ ap read (sym (is whole)) ∙ reads (omega arith)

  refusal-reads : (desc : List ℕ) → read (compact_text (refused_data (Some id) GenericError desc)) ≡ Some
      (refused_data (Some id) GenericError desc)
  refusal-reads desc =
      let shallow = low in
      read-compact (refused_data (Some id) GenericError desc) ((tt, (tt, tt)), (numbers, tt)) (omega arith)
      ∙ rw id-reads refl

  pub ends_some : EndsRefusals given (codes "\"},\"id\":" ++ text ++ codes "}")
  ends_some desc plain =
      let same = is whole in
      record {
        prints = rw (same, ← some) (prints-some desc id plain);
        reads = rw (same, ← some) (ap read (prints-some desc id plain) ∙ refusal-reads desc);
      }

-- ---- with the words

pub says_fault : (given back : List ℕ) (from : FaultFrom) (count : ℕ) → IsNumbered from → count < 2 ^ 64
    → EndsRefusals given back
    → IsSaid given (Err (refusal.Io from count)) (refusal_front ++ io_text from count ++ back)
says_fault given back from count numbered small ends =
    let said = ends (io_text from count) (fault-escaped from count numbered small) in
    record { prints = said.prints; reads = said.reads }

pub says_full : (given back : List ℕ) (dev : DevNo) → dev.0 < 2 ^ 32 → EndsRefusals given back
    → IsSaid given (Err (refusal.NoSpace dev)) (refusal_front ++ (codes "nospace dev" ++ decimal dev.0) ++ back)
says_full given back dev numbered ends =
    let said = ends (codes "nospace dev" ++ decimal dev.0) (full-escaped dev.0 numbered) in
    record { prints = said.prints; reads = said.reads }
