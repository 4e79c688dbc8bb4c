-- The writes that make an image, one behind the other.
use Rattle.std.proofs.Common.{◌≡◌, ℕ, Bool, false, option_map, suc, ◌+◌, ◌<◌, List, [], ◌∷◌, ◌++◌, length, get_or, replicate, Option, Some, None, Err, refl, sym, subst, ◌∙◌, arith, length-append}
use Rattle.std.proofs.lemmas.List.{ext_get_or, get_or-replicate, length-replicate}
use Rattle.blk_base.specs.Content.{Write}
use Rattle.blk_base.specs.Device.{Writes}
use Rattle.blk_base.specs.declared.device.Device.{Ghosts}
use Rattle.blk_base.specs.declared.fault.DevStop.{DevStop}
use Rattle.blk_base.proofs.DeviceLemmas.{writes_then}
use Rattle.q2_format.specs.Bytes.{Holds}
use Rattle.q2_format.specs.Created.{Creation}
use Rattle.q2_image.specs.Creating.{IsStage, AreStages, MakesStages, MakesImage, IsFailedCall, LacksHeader, call_stop}
use Rattle.q2_image.specs.declared.create.CreateStop.{CreateStop}
use Rattle.q2_image.specs.declared.create.CreateStop.TheVariants.{Io, NoSpace, NoMemory}

-- bytes that are 0
pub zeros_are : (n : ℕ) (xs : List ℕ) → length xs ≡ n → ((i : ℕ) → i < n → get_or xs i 0 ≡ 0) → xs ≡ replicate n 0
zeros_are n xs whole zeros =
    let len = length-replicate {A = ℕ} n 0 in
    ext_get_or 0 xs (replicate n 0) (whole ∙ sym len) (λ i below. zeros i (omega (arith, below, whole)) ∙ sym (get_or-replicate n i 0 0 (omega (arith, below, whole))))

-- a file's first sector that was written as zeros
pub sector_lacks : (file bytes : List ℕ) → length bytes ≡ 512 → ((i : ℕ) → i < 512 → get_or bytes i 0 ≡ 0) → Holds file 0 bytes → LacksHeader file
sector_lacks file bytes whole zeros held = record {
  sector = λ i low below.
      let place : 0 + i ≡ i = omega arith in
      let P : ℕ → Type 0 = λ n. get_or file n 0 ≡ 0 in
      subst P place (held.each i (omega (arith, below, whole)) ∙ zeros i below);
  whole = let ends = held.ends in omega (arith, ends, whole);
}

pub false_twice : (f : Option Bool) → option_map {U = Bool} (λ (b : Bool). false) (option_map {U = Bool} (λ (b : Bool). false) f) ≡ option_map {U = Bool} (λ (b : Bool). false) f
false_twice None = refl
false_twice (Some b) = refl

stages-append : (new : Creation) (k n : ℕ) (vs ws : List Write) → k + length vs ≡ n → AreStages new k vs → AreStages new n ws → AreStages new k (vs ++ ws)
stages-append new k n [] ws at first later = let P : ℕ → Type 0 = λ m. AreStages new m ws in let same : n ≡ k = omega (arith, at) in subst P same later
stages-append new k n (v ∷ vs) ws at first later = (first.0, stages-append new (suc k) n vs ws (omega (arith, at)) first.1 later)

module _ {D : Type 0} (g : Ghosts D) (new : Creation) where
  pub one_stage : (k : ℕ) (w : Write) (stop : Option DevStop) (a b : D) → IsStage new k w → Writes g (w ∷ []) stop a b → MakesStages g new k 1 stop a b
  one_stage k w stop a b stage writes = record { ws = w ∷ []; stages = (stage, tt); all = λ none. refl; writes = writes }

  pub stages_then : (k n m next count : ℕ) (stop : Option DevStop) (a b c : D) → k + n ≡ next → n + m ≡ count → MakesStages g new k n None a b → MakesStages g new next m stop b c
      → MakesStages g new k count stop a c
  stages_then k n m next count stop a b c at total first later =
      let some = first.all refl in
      record {
        ws = first.ws ++ later.ws;
        stages = stages-append new k next first.ws later.ws (omega (arith, some, at)) first.stages later.stages;
        all = λ none. let rest = later.all none in let both = length-append first.ws later.ws in omega (arith, some, rest, both, total);
        writes = writes_then g first.ws later.ws stop a b c first.writes later.writes;
      }

  -- where a call stopped, how many there are in all does not matter
  pub stages_more : (k n m : ℕ) (stop : Option DevStop) (a b : D) → (stop ≡ None → ⊥) → MakesStages g new k n stop a b → MakesStages g new k m stop a b
  stages_more k n m stop a b some made = record { ws = made.ws; stages = made.stages; all = λ none. absurd (some none); writes = made.writes }

pub some_stop : (A : Type 0) (stop : CreateStop) → call_stop {A = A} (Err stop) ≡ None → ⊥
some_stop A (Io count) none = cc
some_stop A NoSpace none = cc
some_stop A NoMemory none = cc

-- a call that failed behind the first write
pub makes_failed : {D : Type 0} (g : Ghosts D) (new : Creation) (stop : CreateStop) (before now : ℕ) (a b : D) → IsFailedCall before now stop
    → MakesStages g new 0 6 (call_stop {A = Unit {0}} (Err stop)) a b → MakesImage {A = Unit {0}} g new (Err stop) a b
makes_failed g new (Io count) before now a b cause made = made
makes_failed g new NoSpace before now a b cause made = absurd cause
makes_failed g new NoMemory before now a b cause made = absurd cause
