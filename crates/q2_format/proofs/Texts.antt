-- `from_utf8` as a test.
use Rattle.std.proofs.Common.{◌≡◌, List, ℕ, Result, Ok, Err, MatchResult, is_ok, sym}
use Rattle.std.specs.Str.{IsUtf8, is_utf8}
use Rattle.std.proofs.lemmas.Bool.{false_from_ne_true}
use Rattle.std.proofs.lemmas.Str.{IsUtf8-from_is_utf8, is_utf8-from_IsUtf8}

-- an answer that is Ok exactly where the bytes are UTF-8
pub is_ok_as_test : {T E : Type 0} (P : T → Type 0) (Q : E → Type 0) (r : Result T E) (bytes : List ℕ)
    → MatchResult r (λ s. P s × IsUtf8 bytes) (λ e. (IsUtf8 bytes → ⊥) × Q e) → is_ok r ≡ is_utf8 bytes
is_ok_as_test P Q (Ok s) bytes h = sym (is_utf8-from_IsUtf8 bytes h.1)
is_ok_as_test P Q (Err e) bytes h = sym (false_from_ne_true (is_utf8 bytes) (λ t. h.0 (IsUtf8-from_is_utf8 bytes t)))
