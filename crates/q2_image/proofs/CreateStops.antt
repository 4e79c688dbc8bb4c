-- The writes that make an image, wherever they stop: the file is as before, or no image.
use Rattle.std.proofs.Common.{◌≡◌, ℕ, ◌+◌, ◌≤◌, inl, inr, List, [], ◌∷◌, length, take, replicate, get_or, refl, sym, ap, subst, ◌∙◌, arith}
use Rattle.std.proofs.lemmas.List.{get_or-replicate, length-replicate, length-take-le}
use Rattle.blk_base.specs.Content.{Write, with_bytes, size_with}
use Rattle.blk_base.specs.Writes.{AtEachStop}
use Rattle.blk_base.proofs.Contents.{get_or-with_bytes_inside, get_or-with_bytes_outside, length-with_bytes}
use Rattle.blk_base.proofs.WriteLists.{at_each_stop-one, at_each_stop-sector, at_each_stop-then, at_each_stop-weaker}
use Rattle.q2_format.specs.Created.{Creation}
use Rattle.q2_image.specs.Creating.{AreStages, IsBeforeOrNone, LacksHeader}
use Rattle.q2_image.proofs.Creations.{headless_refused}

grows : (size offset : ℕ) (xs : List ℕ) → size ≤ size_with size offset xs
grows size offset [] = omega arith
grows size offset (x ∷ xs) = omega arith

-- a write behind the first sector
lacks_still : (file : List ℕ) (offset : ℕ) (xs : List ℕ) → 512 ≤ offset → LacksHeader file → LacksHeader (with_bytes file offset xs)
lacks_still file offset xs behind lacks = record {
  sector = λ i low below. get_or-with_bytes_outside file offset xs i (inl (omega (arith, behind, below))) ∙ lacks.sector i low below;
  whole = let whole = lacks.whole in omega (arith, whole, length-with_bytes file offset xs, grows (length file) offset xs);
}

one_behind : (w : Write) (file : List ℕ) → 512 ≤ w.offset → LacksHeader file → AtEachStop LacksHeader (w ∷ []) file
one_behind w file behind lacks =
    at_each_stop-one LacksHeader w file (λ n short border. lacks_still file w.offset (take n w.bytes) behind lacks) (lacks_still file w.offset w.bytes behind lacks)

-- zeros over the first sector
cleared_lacks : (file : List ℕ) → LacksHeader (with_bytes file 0 (replicate 512 0))
cleared_lacks file =
    let len = length-replicate {A = ℕ} 512 0 in
    record {
      sector = λ i low below.
          let P : ℕ → Type 0 = λ n. get_or (with_bytes file 0 (replicate 512 0)) n 0 ≡ 0 in
          let place : 0 + i ≡ i = omega arith in
          subst P place (get_or-with_bytes_inside file 0 (replicate 512 0) i (omega (arith, below, len)) ∙ get_or-replicate 512 i 0 0 below);
      whole = omega (arith, length-with_bytes file 0 (replicate 512 0), reach (length file) (replicate 512 0) len);
    }
  where
    reach : (size : ℕ) (xs : List ℕ) → length xs ≡ 512 → 512 ≤ size_with size 0 xs
    reach size [] none = absurd (omega (arith, none))
    reach size (x ∷ xs) len = omega (arith, len)

-- the first sector is written whole or not at all
last_stops : (P : List ℕ → Type 0) (w : Write) (b : List ℕ) → w.offset ≡ 0 → length w.bytes ≡ 512 → P b → P (with_bytes b w.offset w.bytes) → AtEachStop P (w ∷ []) b
last_stops P w b at len before after = at_each_stop-sector P w b (omega (arith, at, len)) before after

module _ (new : Creation) (w0 w1 w2 w3 w4 w5 : Write) (file : List ℕ) (stages : AreStages new 0 (w0 ∷ (w1 ∷ (w2 ∷ (w3 ∷ (w4 ∷ (w5 ∷ []))))))) where
  abbrev ws : List Write
  ws = w0 ∷ (w1 ∷ (w2 ∷ (w3 ∷ (w4 ∷ (w5 ∷ [])))))

  abbrev P : List ℕ → Type 0
  P = IsBeforeOrNone ws file

  abbrev b0 : List ℕ
  b0 = with_bytes file w0.offset w0.bytes

  headless : (b : List ℕ) → LacksHeader b → P b
  headless b lacks = inr (inl (headless_refused b lacks))

  lacks_first : LacksHeader b0
  lacks_first =
      let L : Write → Type 0 = λ w. LacksHeader (with_bytes file w.offset w.bytes) in
      subst L (sym stages.0) (cleared_lacks file)

  behind_first : (512 ≤ w1.offset) × (512 ≤ w2.offset) × (512 ≤ w3.offset) × (512 ≤ w4.offset)
  behind_first =
      let one = ap (λ (w : Write). w.offset) stages.1.0 in
      let two = stages.1.1.0.0.offset in
      let three = stages.1.1.1.0.0.offset in
      let four = ap (λ (w : Write). w.offset) stages.1.1.1.1.0.is in
      (omega (arith, one), omega (arith, two), omega (arith, three), omega (arith, four))

  abbrev b1 : List ℕ
  b1 = with_bytes b0 w1.offset w1.bytes

  abbrev b2 : List ℕ
  b2 = with_bytes b1 w2.offset w2.bytes

  abbrev b3 : List ℕ
  b3 = with_bytes b2 w3.offset w3.bytes

  abbrev b4 : List ℕ
  b4 = with_bytes b3 w4.offset w4.bytes

  middle_stops : AtEachStop LacksHeader (w1 ∷ (w2 ∷ (w3 ∷ (w4 ∷ [])))) b0
  middle_stops =
      let places = behind_first in
      let one = one_behind w1 b0 places.0 lacks_first in
      let two = one_behind w2 b1 places.1 one.done in
      let three = one_behind w3 b2 places.2 two.done in
      let four = one_behind w4 b3 places.3 three.done in
      at_each_stop-then LacksHeader (w1 ∷ []) (w2 ∷ (w3 ∷ (w4 ∷ []))) b0 one
      (at_each_stop-then LacksHeader (w2 ∷ []) (w3 ∷ (w4 ∷ [])) b1 two
      (at_each_stop-then LacksHeader (w3 ∷ []) (w4 ∷ []) b2 three four))

  six_stops : AtEachStop P ws file
  six_stops =
      let len = length-replicate {A = ℕ} 512 0 in
      let first_at = ap (λ (w : Write). w.offset) stages.0 in
      let first_len = ap (λ (w : Write). length w.bytes) stages.0 in
      let header = stages.1.1.1.1.1.0 in
      let whole = header.whole in
      let last_at = ap (λ (w : Write). w.offset) header.is in
      let last_len = ap (λ (w : Write). length w.bytes) header.is in
      let short = length-take-le 512 header.cluster (omega (arith, whole)) in
      let first = last_stops P w0 file first_at (omega (arith, first_len, len)) (inl refl) (headless b0 lacks_first) in
      let last = last_stops P w5 b4 last_at (omega (arith, last_len, short)) (headless b4 middle_stops.done) (inr (inr refl)) in
      at_each_stop-then P (w0 ∷ []) (w1 ∷ (w2 ∷ (w3 ∷ (w4 ∷ (w5 ∷ []))))) file first
      (at_each_stop-then P (w1 ∷ (w2 ∷ (w3 ∷ (w4 ∷ [])))) (w5 ∷ []) b0
      (at_each_stop-weaker LacksHeader P (w1 ∷ (w2 ∷ (w3 ∷ (w4 ∷ [])))) b0 headless middle_stops) last)

pub create_stops : (new : Creation) (ws : List Write) (file : List ℕ) → AreStages new 0 ws → length ws ≡ 6 → AtEachStop (IsBeforeOrNone ws file) ws file
create_stops new (w0 ∷ (w1 ∷ (w2 ∷ (w3 ∷ (w4 ∷ (w5 ∷ [])))))) file stages six = six_stops new w0 w1 w2 w3 w4 w5 file stages
create_stops new ws file stages six = absurd (omega (arith, six))
