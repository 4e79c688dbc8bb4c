-- The first run of some bytes, and what is written for it.
use Rattle.std.proofs.Common.{◌≡◌, ◌≢◌, ℕ, zero, suc, ◌+◌, ◌*◌, ◌<◌, ◌≤◌, ◌^◌, List, [], ◌∷◌, ◌++◌, true, false, eqb, length, drop, refl, ap, sym, ◌∙◌, arith, append_assoc, append-nil, eq-eqb, ne_eqb, ⊎_elim}
use Rattle.std.proofs.lemmas.Bool.{cases_Bool, cases_lt}
use Rattle.std.proofs.lemmas.List.{nil_from_length}
use Rattle.std.proofs.lemmas.Fmt.{length-decimal-le, length-decimal-le_succ}
use Rattle.blk_runs.specs.Runs.{IsFront, Run, with_byte, runs_of, run_text, text_of, runs_text}

rest_of_front : (b n c : ℕ) (bytes : List ℕ) → IsFront b (suc n) (c ∷ bytes) → IsFront b n bytes
rest_of_front b n c bytes h = record {
  within = omega (arith, h.within);
  same = λ k l. h.same (suc k) (omega arith);
  ends = λ l. h.ends (omega arith);
}

-- where no byte at the front is b, another b is a run of its own
apart : (b c : ℕ) (rs qs : List Run) (r : Run) → rs ≡ r ∷ qs → r.byte ≡ c → c ≢ b → with_byte b rs ≡ record { byte = b; count = 1 } ∷ rs
apart b c rs qs r e same other =
    let differ : eqb b r.byte ≡ false = ne_eqb b r.byte (λ s. other (sym (s ∙ same))) in
    rw e (rw differ refl)

joined : (b n : ℕ) (rs qs : List Run) → rs ≡ record { byte = b; count = n } ∷ qs → with_byte b rs ≡ record { byte = b; count = n + 1 } ∷ qs
joined b n rs qs e =
    let same : eqb b b ≡ true = eq-eqb b b refl in
    rw e (rw same refl)

begins : (c : ℕ) (rs : List Run) → (r : Run) × (qs : List Run) × (with_byte c rs ≡ r ∷ qs) × (r.byte ≡ c)
begins c [] = (record { byte = c; count = 1 }, [], refl, refl)
begins c (r ∷ rs) = ⊎_elim
    (λ e. (record { byte = c; count = r.count + 1 }, rs, (rw e refl), refl))
    (λ e. (record { byte = c; count = 1 }, r ∷ rs, (rw e refl), refl))
    (cases_Bool (eqb c r.byte))

-- the runs of a byte and the bytes behind it, of which so many join its run
pub first_run : (b n : ℕ) (bytes : List ℕ) → IsFront b n bytes → runs_of (b ∷ bytes) ≡ record { byte = b; count = n + 1 } ∷ runs_of (drop n bytes)
first_run b zero [] h = refl
first_run b (suc n) [] h = absurd (omega (arith, h.within))
first_run b zero (c ∷ bytes) h =
    let w = begins c (runs_of bytes) in
    apart b c (with_byte c (runs_of bytes)) w.1 w.0 w.2 w.3 (h.ends (omega arith))
first_run b (suc n) (c ∷ bytes) h =
    let more : suc n + 1 ≡ (n + 1) + 1 = omega arith in
    let same : c ≡ b = h.same 0 (omega arith) in
    rw more (joined b (n + 1) (with_byte c (runs_of bytes)) (runs_of (drop n bytes))
    (ap (λ x. with_byte x (runs_of bytes)) same ∙ first_run b n bytes (rest_of_front b n c bytes h)))

-- some runs are left while bytes are
some_runs : (bytes : List ℕ) → 0 < length bytes → (r : Run) × (qs : List Run) × (runs_of bytes ≡ r ∷ qs)
some_runs [] h = absurd (omega arith)
some_runs (c ∷ bytes) h = let w = begins c (runs_of bytes) in (w.0, w.1, w.2)

-- what is written for the last run
pub last_run : (b n : ℕ) (bytes : List ℕ) → IsFront b n bytes → length (drop n bytes) ≡ 0 → runs_text (b ∷ bytes) ≡ run_text (record { byte = b; count = n + 1 })
unfolding runs_text
last_run b n bytes h none =
    ap text_of (first_run b n bytes h ∙ ap (λ cs. record { byte = b; count = n + 1 } ∷ runs_of cs) (nil_from_length (drop n bytes) none))

-- what is written for a run that others follow
pub next_run : (b n : ℕ) (bytes : List ℕ) → IsFront b n bytes → 0 < length (drop n bytes) →
    runs_text (b ∷ bytes) ≡ run_text (record { byte = b; count = n + 1 }) ++ 32 ∷ runs_text (drop n bytes)
unfolding runs_text
next_run b n bytes h some =
    let r : Run = record { byte = b; count = n + 1 } in
    let w = some_runs (drop n bytes) some in
    ap text_of (first_run b n bytes h ∙ ap (λ rs. r ∷ rs) w.2) ∙ ap (λ rs. run_text r ++ 32 ∷ text_of rs) (sym w.2)

-- five bytes for each byte of a run are enough for its text and the space behind it
pub run_room : (b n : ℕ) → n + 1 < 2 ^ 64 → length (run_text (record { byte = b; count = n + 1 })) + 1 ≤ 5 * (n + 1)
run_room b n h = ⊎_elim
    (λ small. omega (arith, length-decimal-le 1 (n + 1) (omega arith) small h))
    (λ large. omega (arith, length-decimal-le_succ (n + 1) h))
    (cases_lt (n + 1) 10)

-- the text once a run and a space are written, and what the rest will add
pub written_next : (b n : ℕ) (bytes old mid new : List ℕ) → IsFront b n bytes → 0 < length (drop n bytes) → mid ≡ old ++ run_text (record { byte = b; count = n + 1 }) → new ≡ mid ++ 32 ∷ [] → new ++ runs_text (drop n bytes) ≡ old ++ runs_text (b ∷ bytes)
written_next b n bytes old mid new h some e f =
    let r : Run = record { byte = b; count = n + 1 } in
    let rest = runs_text (drop n bytes) in
    ap (λ t. t ++ rest) f ∙ append_assoc mid (32 ∷ []) rest ∙ ap (λ t. t ++ 32 ∷ rest) e ∙ append_assoc old (run_text r) (32 ∷ rest)
    ∙ ap (λ t. old ++ t) (sym (next_run b n bytes h some))

-- the text once the last run is written
pub written_last : (b n : ℕ) (bytes old new : List ℕ) → IsFront b n bytes → length (drop n bytes) ≡ 0 → new ≡ old ++ run_text (record { byte = b; count = n + 1 }) → new ++ runs_text (drop n bytes) ≡ old ++ runs_text (b ∷ bytes)
unfolding runs_text
written_last b n bytes old new h none e =
    rw (nil_from_length (drop n bytes) none) (rw append-nil (e ∙ ap (λ t. old ++ t) (sym (last_run b n bytes h none))))

-- the text once no bytes are left
pub written_all : (rest text whole : List ℕ) → length rest ≡ 0 → text ++ runs_text rest ≡ whole → text ≡ whole
unfolding runs_text
written_all rest text whole none e = sym (append-nil text) ∙ ap (λ bytes. text ++ runs_text bytes) (sym (nil_from_length rest none)) ∙ e
