-- The runs of some bytes are the one list of longest runs that stands for them.
use Rattle.std.proofs.Common.{◌≡◌, ◌≢◌, ℕ, zero, suc, ◌+◌, ◌-◌, ◌<◌, List, [], ◌∷◌, ◌++◌, true, false, eqb, replicate, refl, ap, sym, ◌∙◌, subst, arith, add-one, eq-eqb, ne_eqb, ⊎_elim}
use Rattle.std.proofs.lemmas.Bool.{cases_Bool, eqb-true, eqb-false}
use Rattle.blk_runs.specs.Runs.{Run, with_byte, runs_of, bytes_of_runs, AreLongest}

bytes_of-with_byte : (b : ℕ) (rs : List Run) → bytes_of_runs (with_byte b rs) ≡ b ∷ bytes_of_runs rs
bytes_of-with_byte b [] = refl
bytes_of-with_byte b (r ∷ rs) = ⊎_elim
    (λ e. rw e (rw add-one (rw (eqb-true b r.byte e) refl)))
    (λ e. rw e refl)
    (cases_Bool (eqb b r.byte))

pub bytes_of-runs_of : (bytes : List ℕ) → bytes_of_runs (runs_of bytes) ≡ bytes
bytes_of-runs_of [] = refl
bytes_of-runs_of (b ∷ bytes) = bytes_of-with_byte b (runs_of bytes) ∙ ap (λ bs. b ∷ bs) (bytes_of-runs_of bytes)

longer : (b : ℕ) (r : Run) (rs : List Run) → b ≡ r.byte → AreLongest (r ∷ rs) → AreLongest (record { byte = b; count = r.count + 1 } ∷ rs)
longer b r [] e h = omega arith
longer b r (q ∷ rs) e h = (omega arith, (λ same. h.1 (sym e ∙ same)), h.2)

AreLongest-with_byte : (b : ℕ) (rs : List Run) → AreLongest rs → AreLongest (with_byte b rs)
AreLongest-with_byte b [] h = omega arith
AreLongest-with_byte b (r ∷ rs) h = ⊎_elim
    (λ e. rw e (longer b r rs (eqb-true b r.byte e) h))
    (λ e. rw e (omega arith, eqb-false b r.byte e, h))
    (cases_Bool (eqb b r.byte))

pub AreLongest-runs_of : (bytes : List ℕ) → AreLongest (runs_of bytes)
AreLongest-runs_of [] = tt
AreLongest-runs_of (b ∷ bytes) = AreLongest-with_byte b (runs_of bytes) (AreLongest-runs_of bytes)

-- no run follows, or one of another byte
abbrev IsApart : ℕ → List Run → Type 0
IsApart b [] = Unit {0}
IsApart b (r ∷ rs) = b ≢ r.byte

with_byte-apart : (b : ℕ) (rs : List Run) → IsApart b rs → with_byte b rs ≡ record { byte = b; count = 1 } ∷ rs
with_byte-apart b [] h = refl
with_byte-apart b (r ∷ rs) h = let e : eqb b r.byte ≡ false = ne_eqb b r.byte h in rw e refl

runs_of-replicate : (n b : ℕ) (bytes : List ℕ) → IsApart b (runs_of bytes) → runs_of (replicate (suc n) b ++ bytes) ≡ record { byte = b; count = suc n } ∷ runs_of bytes
runs_of-replicate zero b bytes h = with_byte-apart b (runs_of bytes) h
runs_of-replicate (suc n) b bytes h =
    let same : eqb b b ≡ true = eq-eqb b b refl in
    ap (with_byte b) (runs_of-replicate n b bytes h) ∙ rw same (rw add-one refl)

one_more : (r : Run) (rs : List Run) → 0 < r.count → IsApart r.byte rs → runs_of (bytes_of_runs rs) ≡ rs → runs_of (bytes_of_runs (r ∷ rs)) ≡ r ∷ rs
one_more r rs some apart same =
    let e : r.count ≡ suc (r.count - 1) = omega arith in
    ap (λ n. runs_of (replicate n r.byte ++ bytes_of_runs rs)) e
    ∙ runs_of-replicate (r.count - 1) r.byte (bytes_of_runs rs) (subst (IsApart r.byte) (sym same) apart)
    ∙ ap (λ n. record { byte = r.byte; count = n } ∷ runs_of (bytes_of_runs rs)) (sym e)
    ∙ ap (λ qs. r ∷ qs) same

pub runs_of-bytes_of : (rs : List Run) → AreLongest rs → runs_of (bytes_of_runs rs) ≡ rs
runs_of-bytes_of [] h = refl
runs_of-bytes_of (r ∷ []) h = one_more r [] h tt refl
runs_of-bytes_of (r ∷ q ∷ rs) h = one_more r (q ∷ rs) h.0 h.1 (runs_of-bytes_of (q ∷ rs) h.2)
