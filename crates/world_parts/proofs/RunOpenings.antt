-- The openings of a run are the last ones of its store.
use Rattle.std.proofs.Common.{◌≡◌, ℕ, zero, suc, ◌+◌, ◌-◌, Bool, true, false, List, [], ◌∷◌, ◌++◌, length, take, drop, refl, sym, ◌∙◌, ap, subst, arith, IsTrue}
use Rattle.std.specs.Prelude.{◌||◌, Err, Ok, Option, Result}
use Rattle.std.proofs.lemmas.Bool.{false≢true}
use Rattle.std.proofs.lemmas.List.{length-append, take-append-drop}
use Rattle.std.proofs.lemmas.List.Folds.{list_any-append}
use Rattle.std.proofs.Math.Seq.{drop-append_seam, take-append_seam}
use Rattle.blk_base.specs.Answers.{CreateAnswers, IsIn, OpenAnswers}
use Rattle.blk_base.specs.Files.{is_out, is_out_as, given_back}
use Rattle.blk_base.specs.declared.device.DeviceCall.{DeviceCall}
use Rattle.blk_base.specs.declared.file.File.{File}
use Rattle.blk_base.specs.declared.store.StoreStop.{StoreStop}
use Rattle.blk_base.specs.declared.store.StoreStop.TheVariants.{Absent, InUse, TooLong, Failed, NoMemory}
use Rattle.blk_base.specs.declared.file.Opened.{Opened}
use Rattle.world_parts.specs.Stores.{AreLast, StopsOpening, StoreInRun, last_opened, first_opened}

-- ---- none of a store is a new run's

length-less : (n : ℕ) → n - 0 ≡ n
length-less n = omega arith

-- ---- how many there are

length-drop : (k : ℕ) (xs : List Opened) → length (drop k xs) ≡ length xs - k
length-drop zero xs = sym (length-less (length xs))
length-drop (suc k) [] = let none : 0 ≡ 0 - suc k = omega arith in none
length-drop (suc k) (x ∷ xs) =
    let same : suc (length xs) - suc k ≡ length xs - k = omega arith in
    length-drop k xs ∙ sym same

pub length-last : (n : ℕ) (opened : List Opened) → AreLast n opened → length (last_opened n opened) ≡ n
length-last n opened last =
    let all = length-drop (length opened - n) opened in
    omega (arith, all, last.many)

-- ---- what is out

pub out-last : (n : ℕ) (opened : List Opened) → AreLast n opened → (name : List ℕ) → is_out name opened ≡ is_out name (last_opened n opened)
out-last n opened last name =
    ap (is_out name) (sym (take-append-drop (length opened - n) opened))
    ∙ list_any-append (is_out_as name) (first_opened n opened) (last_opened n opened)
    ∙ ap (λ (b : Bool). b || is_out name (last_opened n opened)) (last.back name)

-- ---- one that comes back

back-behind : (name : List ℕ) (count : ℕ) (call : Option DeviceCall) (xs ys : List Opened) → is_out name xs ≡ false → given_back name count call (xs ++ ys) ≡ xs ++ given_back name count call ys
back-behind name count call [] ys none = refl
back-behind name count call (x ∷ xs) ys none = by_test (is_out_as name x) refl (back-behind name count call xs ys)
  where
    by_test : (b : Bool) → is_out_as name x ≡ b → (is_out name xs ≡ false → given_back name count call (xs ++ ys) ≡ xs ++ given_back name count call ys)
        → given_back name count call (x ∷ xs ++ ys) ≡ x ∷ xs ++ given_back name count call ys
    by_test true is rest = absurd (let bad : true ≡ false = rw is at none in false≢true (sym bad))
    by_test false is rest =
        let later : is_out name xs ≡ false = rw is at none in
        rw is (ap (λ (more : List Opened). x ∷ more) (rest later))

-- openings are as many once one is back
pub length-back : (name : List ℕ) (count : ℕ) (call : Option DeviceCall) (xs : List Opened) → length (given_back name count call xs) ≡ length xs
length-back name count call [] = refl
length-back name count call (x ∷ xs) = by_test (is_out_as name x) refl (length-back name count call xs)
  where
    by_test : (b : Bool) → is_out_as name x ≡ b → length (given_back name count call xs) ≡ length xs → length (given_back name count call (x ∷ xs)) ≡ length (x ∷ xs)
    by_test true is rest = rw is refl
    by_test false is rest = rw is (ap suc rest)

module _ (n : ℕ) (opened : List Opened) (last : AreLast n opened) (name : List ℕ) (count : ℕ) (call : Option DeviceCall) where
  abbrev seam : ℕ
  seam = length opened - n

  split : given_back name count call opened ≡ first_opened n opened ++ given_back name count call (last_opened n opened)
  split =
      ap (given_back name count call) (sym (take-append-drop seam opened))
      ∙ back-behind name count call (first_opened n opened) (last_opened n opened) (last.back name)

  length-first : length (first_opened n opened) ≡ seam
  length-first =
      let all : length (first_opened n opened) + length (last_opened n opened) ≡ length opened =
      sym (length-append (first_opened n opened) (last_opened n opened)) ∙ ap length (take-append-drop seam opened) in
      let rest = length-last n opened last in
      omega (arith, all, rest)

  seam-back : length (given_back name count call opened) - n ≡ length (first_opened n opened)
  seam-back = let same = length-back name count call opened in let first = length-first in omega (arith, same, first)

  pub last-back : last_opened n (given_back name count call opened) ≡ given_back name count call (last_opened n opened)
  last-back =
      ap (λ (k : ℕ). drop k (given_back name count call opened)) seam-back
      ∙ ap (drop (length (first_opened n opened))) split
      ∙ drop-append_seam (first_opened n opened) (given_back name count call (last_opened n opened))

  pub first-back : first_opened n (given_back name count call opened) ≡ first_opened n opened
  first-back =
      ap (λ (k : ℕ). take k (given_back name count call opened)) seam-back
      ∙ ap (take (length (first_opened n opened))) split
      ∙ take-append_seam (first_opened n opened) (given_back name count call (last_opened n opened))

  pub are-last-back : AreLast n (given_back name count call opened)
  are-last-back =
      let same = length-back name count call opened in
      record { many = omega (arith, same, last.many); back = λ other. ap (is_out other) first-back ∙ last.back other }

-- ---- answers of the store, by the openings of the run

module _ (name : List ℕ) (whole part : List Opened) (same : is_out name whole ≡ is_out name part) where
  pub in-last : IsIn name whole → IsIn name part
  in-last inside = λ is. inside (same ∙ is)

  out-whole : IsTrue (is_out name whole) → IsTrue (is_out name part)
  out-whole is = sym same ∙ is

  pub create-last : {A : Type 0} (len room before now : ℕ) (result : Result A StoreStop)
      → CreateAnswers name len room whole before now result → CreateAnswers name len room part before now result
  create-last len room before now (Ok done) is = (in-last is.0, is.1)
  create-last len room before now (Err Absent) is = is
  create-last len room before now (Err InUse) is = out-whole is
  create-last len room before now (Err TooLong) is = (in-last is.0, is.1)
  create-last len room before now (Err Failed) is = (in-last is.0, is.1, is.2)
  create-last len room before now (Err NoMemory) is = tt

stops-by : (name : List ℕ) (store : StoreInRun) (whole : List Opened) (now : ℕ) (stop : StoreStop) → is_out name whole ≡ is_out name store.opened
    → OpenAnswers {A = Unit {0}} name store.files whole store.faults now (Err stop) → StopsOpening name store now stop
stops-by name store whole now Absent same is = (in-last name whole store.opened same is.0, is.1)
stops-by name store whole now InUse same is = out-whole name whole store.opened same is
stops-by name store whole now TooLong same is = is
stops-by name store whole now Failed same is = ((in-last name whole store.opened same is.0, is.1), is.2)
stops-by name store whole now NoMemory same is = tt

-- a stop is answered for the same cause, whatever would be opened
stop-only : {A : Type 0} (name : List ℕ) (files : Option (List File)) (opened : List Opened) (before now : ℕ) (result : Result A StoreStop) (stop : StoreStop)
    → result ≡ Err stop → OpenAnswers name files opened before now result → OpenAnswers {A = Unit {0}} name files opened before now (Err stop)
stop-only {A} name files opened before now result stop is answers =
    by_stop stop (subst (OpenAnswers {A = A} name files opened before now) is answers)
  where
    by_stop : (other : StoreStop) → OpenAnswers {A = A} name files opened before now (Err other) → OpenAnswers {A = Unit {0}} name files opened before now (Err other)
    by_stop Absent a = a
    by_stop InUse a = a
    by_stop TooLong a = a
    by_stop Failed a = a
    by_stop NoMemory a = a

pub stops-last : {A : Type 0} (name : List ℕ) (store : StoreInRun) (whole : List Opened) (now : ℕ) (result : Result A StoreStop) (stop : StoreStop)
    → is_out name whole ≡ is_out name store.opened → result ≡ Err stop → OpenAnswers name store.files whole store.faults now result
    → StopsOpening name store now stop
stops-last name store whole now result stop same is answers =
    stops-by name store whole now stop same (stop-only name store.files whole store.faults now result stop is answers)
