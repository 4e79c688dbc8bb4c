-- Lists of writes one behind the other, and what holds wherever they are stopped.
use Rattle.std.proofs.Common.{Some, ◌≡◌, ◌⊎◌, ℕ, zero, suc, ◌+◌, ◌%◌, ◌<◌, ◌≤◌, max, List, [], ◌∷◌, ◌++◌, length, take, refl, sym, ◌∙◌, ap, subst, arith, inl, inr}
use Rattle.std.specs.Prelude.{◌&&◌}
use Rattle.blk_base.specs.Calls.{stopped_at}
use Rattle.blk_base.specs.Content.{Write, Log, with_bytes, size_with, log_with, after_writes}
use Rattle.blk_base.specs.Writes.{end_of_write, end_of_writes, size_after_writes, log_after_writes, are_none, first_bytes, IsTorn, IsRefused, IsCutBy, IsPart, AtEachStop}
use Rattle.blk_base.specs.declared.fault.DevStop.{DevStop}
use Rattle.blk_base.specs.declared.fault.DevStop.TheVariants.{Io, NoSpace}

pub after_writes-append : (b : List ℕ) (vs ws : List Write) → after_writes b (vs ++ ws) ≡ after_writes (after_writes b vs) ws
after_writes-append b [] ws = refl
after_writes-append b (v ∷ vs) ws = after_writes-append (with_bytes b v.offset v.bytes) vs ws

pub size_after_writes-append : (size : ℕ) (vs ws : List Write) → size_after_writes size (vs ++ ws) ≡ size_after_writes (size_after_writes size vs) ws
size_after_writes-append size [] ws = refl
size_after_writes-append size (v ∷ vs) ws = size_after_writes-append (size_with size v.offset v.bytes) vs ws

pub log_after_writes-append : (log : Log) (vs ws : List Write) → log_after_writes log (vs ++ ws) ≡ log_after_writes (log_after_writes log vs) ws
log_after_writes-append log [] ws = refl
log_after_writes-append log (v ∷ vs) ws = log_after_writes-append (log_with log v.offset v.bytes) vs ws

pub end_of_writes-append : (vs ws : List Write) → end_of_writes (vs ++ ws) ≡ max (end_of_writes vs) (end_of_writes ws)
end_of_writes-append [] ws = omega arith
end_of_writes-append (v ∷ vs) ws = let more = end_of_writes-append vs ws in omega (arith, more)

pub are_none-append : (vs ws : List Write) → are_none (vs ++ ws) ≡ (are_none vs && are_none ws)
are_none-append [] ws = refl
are_none-append (v ∷ vs) ws = refl

-- a file doesn't shrink
size_with-grows : (size offset : ℕ) (xs : List ℕ) → size ≤ size_with size offset xs
size_with-grows size offset [] = omega arith
size_with-grows size offset (x ∷ xs) = omega arith

pub size_after_writes-grows : (size : ℕ) (ws : List Write) → size ≤ size_after_writes size ws
size_after_writes-grows size [] = omega arith
size_after_writes-grows size (w ∷ ws) =
    let more = size_after_writes-grows (size_with size w.offset w.bytes) ws in
    omega (arith, more, size_with-grows size w.offset w.bytes)

-- a part of later writes, and of sooner ones, is a part of both
pub part-later : (C : Write → Write → Type 0) (vs ws made : List Write) → IsPart C ws made → IsPart C (vs ++ ws) (vs ++ made)
part-later C [] ws made part = part
part-later C (v ∷ vs) ws made part = inl (refl, part-later C vs ws made part)

pub part-sooner : (C : Write → Write → Type 0) (vs ws made : List Write) → IsPart C vs made → IsPart C (vs ++ ws) made
part-sooner C [] ws made part = absurd part
part-sooner C (v ∷ vs) ws [] part = absurd part
part-sooner C (v ∷ vs) ws (m ∷ made) (inl (same, part)) = inl (same, part-sooner C vs ws made part)
part-sooner C (v ∷ vs) ws (m ∷ made) (inr cut) = inr cut

-- the write at which such a part stops
pub stopped_at-later : (C : Write → Write → Type 0) (vs ws made : List Write) → IsPart C ws made → stopped_at (vs ++ ws) (vs ++ made) ≡ stopped_at ws made
stopped_at-later C [] ws made part = refl
stopped_at-later C (v ∷ []) [] made part = absurd part
stopped_at-later C (v ∷ []) (w ∷ ws) [] part = absurd part
stopped_at-later C (v ∷ []) (w ∷ ws) (m ∷ made) part = refl
stopped_at-later C (v ∷ u ∷ vs) ws made part = stopped_at-later C (u ∷ vs) ws made part

pub stopped_at-sooner : (C : Write → Write → Type 0) (vs ws made : List Write) → IsPart C vs made → stopped_at (vs ++ ws) made ≡ stopped_at vs made
stopped_at-sooner C [] ws made part = absurd part
stopped_at-sooner C (v ∷ vs) ws [] part = absurd part
stopped_at-sooner C (v ∷ vs) ws (m ∷ []) part = refl
stopped_at-sooner C (v ∷ vs) ws (m ∷ n ∷ made) (inl (same, part)) = stopped_at-sooner C vs ws (n ∷ made) part
stopped_at-sooner C (v ∷ vs) ws (m ∷ n ∷ made) (inr (cut, none)) = let bad : ⊥ = cc none in absurd bad

-- where one of them ends above a capacity, the highest end is above it
pub stopped_at-within : (ws made : List Write) (w : Write) → stopped_at ws made ≡ Some w → end_of_write w ≤ end_of_writes ws
stopped_at-within [] made w is = let bad : ⊥ = cc is in absurd bad
stopped_at-within (v ∷ ws) [] w is = let bad : ⊥ = cc is in absurd bad
stopped_at-within (v ∷ ws) (m ∷ []) w is = let same : v ≡ w = cc is in let end = ap end_of_write same in omega (arith, end)
stopped_at-within (v ∷ ws) (m ∷ n ∷ made) w is = let later = stopped_at-within ws (n ∷ made) w is in omega (arith, later)

-- and a part of both is one of the sooner, or they are made and then a part of the later
pub part-split : (C : Write → Write → Type 0) (vs ws made : List Write) → IsPart C (vs ++ ws) made
    → IsPart C vs made ⊎ ((rest : List Write) × (made ≡ vs ++ rest) × IsPart C ws rest)
part-split C [] ws made part = inr (made, refl, part)
part-split C (v ∷ vs) ws [] part = absurd part
part-split C (v ∷ vs) ws (m ∷ made) (inr cut) = inl (inr cut)
part-split C (v ∷ vs) ws (m ∷ made) (inl (same, part)) = elim (part-split C vs ws made part) [
  | inl sooner ↦ inl (inl (same, sooner))
  | inr later ↦ inr (later.0, ap (λ ms. m ∷ ms) later.1 ∙ ap (λ x. x ∷ vs ++ later.0) same, later.2)
]

-- what is made of the write at which a call stops, and of one that lies within a sector
pub cut-bytes : (stop : DevStop) (w m : Write) → IsCutBy stop w m → (n : ℕ) × (m ≡ first_bytes n w)
cut-bytes (Io count) w m cut = (cut.n, cut.first)
cut-bytes NoSpace w m cut = (0, cut)

pub cut-sector : (stop : DevStop) (w m : Write) → w.offset % 512 + length w.bytes ≤ 512 → IsCutBy stop w m → m ≡ first_bytes 0 w
cut-sector (Io count) w m within cut =
    let none : cut.n ≡ 0 = elim cut.sector [
      | inl none ↦ none
      | inr border ↦ let short = cut.short in omega (arith, short, border, within)
    ] in
    cut.first ∙ ap (λ n. first_bytes n w) none
cut-sector NoSpace w m within cut = cut

module _ (P : List ℕ → Type 0) where
  pub at_each_stop-none : (b : List ℕ) → P b → AtEachStop P [] b
  at_each_stop-none b holds = record { stopped = λ made part. absurd part; done = holds }

  -- one write
  pub at_each_stop-one : (w : Write) (b : List ℕ)
      → ((n : ℕ) → n < length w.bytes → (n ≡ 0) ⊎ ((w.offset + n) % 512 ≡ 0) → P (with_bytes b w.offset (take n w.bytes)))
      → P (with_bytes b w.offset w.bytes) → AtEachStop P (w ∷ []) b
  at_each_stop-one w b torn whole = record { stopped = stopped; done = whole }
    where
      stopped : (made : List Write) → IsPart IsTorn (w ∷ []) made → P (after_writes b made)
      stopped [] part = absurd part
      stopped (m ∷ made) (inl (same, part)) = absurd part
      stopped (m ∷ made) (inr (cut, none)) =
          let is : m ∷ made ≡ first_bytes cut.n w ∷ [] = ap (λ ms. m ∷ ms) none ∙ ap (λ x. x ∷ []) cut.first in
          subst (λ ms. P (after_writes b ms)) (sym is) (torn cut.n cut.short cut.sector)

  -- a write within one sector
  pub at_each_stop-sector : (w : Write) (b : List ℕ) → w.offset % 512 + length w.bytes ≤ 512 → P b
      → P (with_bytes b w.offset w.bytes) → AtEachStop P (w ∷ []) b
  at_each_stop-sector w b within before whole = at_each_stop-one w b torn whole
    where
      torn : (n : ℕ) → n < length w.bytes → (n ≡ 0) ⊎ ((w.offset + n) % 512 ≡ 0) → P (with_bytes b w.offset (take n w.bytes))
      torn zero short border = before
      torn (suc n) short (inl none) = absurd (omega arith)
      torn (suc n) short (inr border) = absurd (omega (arith, short, border, within))

  -- what is behind the first write
  pub at_each_stop-tail : (w : Write) (ws : List Write) (b : List ℕ) → AtEachStop P (w ∷ ws) b → AtEachStop P ws (with_bytes b w.offset w.bytes)
  at_each_stop-tail w ws b all = record { stopped = λ made part. all.stopped (w ∷ made) (inl (refl, part)); done = all.done }

  -- before them
  pub at_each_stop-before : (ws : List Write) (b : List ℕ) → AtEachStop P ws b → P b
  at_each_stop-before [] b all = all.done
  at_each_stop-before (w ∷ ws) b all = of_first w.bytes refl (at_each_stop-before ws (with_bytes b w.offset w.bytes) (at_each_stop-tail w ws b all))
    where
      of_first : (xs : List ℕ) → w.bytes ≡ xs → P (with_bytes b w.offset w.bytes) → P b
      of_first [] none later =
          let same : with_bytes b w.offset w.bytes ≡ b = ap (with_bytes b w.offset) none in
          subst P same later
      of_first (x ∷ xs) some later =
          let short : 0 < length w.bytes = omega (arith, ap length some) in
          all.stopped (first_bytes 0 w ∷ []) (inr (record { n = 0; short = short; sector = inl refl; first = refl }, refl))

  -- some writes, and others behind them
  pub at_each_stop-then : (vs ws : List Write) (b : List ℕ) → AtEachStop P vs b → AtEachStop P ws (after_writes b vs) → AtEachStop P (vs ++ ws) b
  at_each_stop-then vs ws b first later = record {
    stopped = stopped vs b first later;
    done = subst P (sym (after_writes-append b vs ws)) later.done;
  }
    where
      stopped : (vs : List Write) (b : List ℕ) → AtEachStop P vs b → AtEachStop P ws (after_writes b vs)
          → (made : List Write) → IsPart IsTorn (vs ++ ws) made → P (after_writes b made)
      stopped [] b first later made part = later.stopped made part
      stopped (v ∷ vs) b first later [] part = absurd part
      stopped (v ∷ vs) b first later (m ∷ made) (inl (same, part)) =
          subst (λ x. P (after_writes b (x ∷ made))) (sym same)
          (stopped vs (with_bytes b v.offset v.bytes) (at_each_stop-tail v vs b first) later made part)
      stopped (v ∷ vs) b first later (m ∷ made) (inr cut) = first.stopped (m ∷ made) (inr cut)

  -- at a write that is refused
  pub at_each_stop-refused : (ws : List Write) (b : List ℕ) (made : List Write) → AtEachStop P ws b → IsPart IsRefused ws made → P (after_writes b made)
  at_each_stop-refused [] b made all part = absurd part
  at_each_stop-refused (w ∷ ws) b [] all part = absurd part
  at_each_stop-refused (w ∷ ws) b (m ∷ made) all (inl (same, part)) =
      subst (λ x. P (after_writes b (x ∷ made))) (sym same)
      (at_each_stop-refused ws (with_bytes b w.offset w.bytes) made (at_each_stop-tail w ws b all) part)
  at_each_stop-refused (w ∷ ws) b (m ∷ made) all (inr (refused, none)) =
      let is : m ∷ made ≡ first_bytes 0 w ∷ [] = ap (λ ms. m ∷ ms) none ∙ ap (λ x. x ∷ []) refused in
      subst (λ ms. P (after_writes b ms)) (sym is) (at_each_stop-before (w ∷ ws) b all)

pub at_each_stop-weaker : (P Q : List ℕ → Type 0) (ws : List Write) (b : List ℕ) → ((c : List ℕ) → P c → Q c) → AtEachStop P ws b → AtEachStop Q ws b
at_each_stop-weaker P Q ws b weaker all = record {
  stopped = λ made part. weaker (after_writes b made) (all.stopped made part);
  done = weaker (after_writes b ws) all.done;
}

pub at_each_stop-both : (P Q : List ℕ → Type 0) (ws : List Write) (b : List ℕ) → AtEachStop P ws b → AtEachStop Q ws b → AtEachStop (λ c. P c × Q c) ws b
at_each_stop-both P Q ws b all each = record {
  stopped = λ made part. (all.stopped made part, each.stopped made part);
  done = (all.done, each.done);
}
