-- Traces past the waits that are over.
use Rattle.std.proofs.Common.{◌≡◌, ℕ, true, false, Bool, List, [], ◌∷◌, ◌++◌, length, ◌≤◌, arith, refl, sym, ◌∙◌, ap, Option, Some, None}
use Rattle.std.specs.Prelude.{◌==◌, ◌||◌, option_to_list}
use Rattle.std.proofs.lemmas.Bool.{false≢true}
use Rattle.trace_codec.specs.declared.wish.Wish.{Wish}
use Rattle.trace_codec.specs.declared.wish.Wish.TheVariants.{Ask, Wait}
use Rattle.flat_machine.specs.Courses.{past_waits, is_answered}
use Rattle.qblk_inputs.specs.Room.{entries_for, bytes_for, HaveNumbers}
use Rattle.qblk_run.specs.Turns.{is_over_in}

-- each line that was answered is so later
abbrev pub StayAnswered : List ℕ → List ℕ → Type 0
StayAnswered a b = (line : ℕ) → is_answered a line ≡ true → is_answered b line ≡ true

pub grows-same : (a : List ℕ) → StayAnswered a a
grows-same a line is = is

pub grows-more : (a more : List ℕ) → StayAnswered a (a ++ more)
grows-more [] more line is = absurd (false≢true is)
grows-more (x ∷ a) more line is = by_test (x == line) refl (grows-more a more line)
  where
    by_test : (b : Bool) → (x == line) ≡ b → (is_answered a line ≡ true → is_answered (a ++ more) line ≡ true) → ((x == line) || is_answered (a ++ more) line) ≡ true
    by_test true e rest = rw e refl
    by_test false e rest = rw e (rest (rw e at is))

-- with the waits that were over before, or without them
pub through : (a b : List ℕ) → StayAnswered a b → (wishes : List Wish) → past_waits b (past_waits a wishes) ≡ past_waits b wishes
through a b grows [] = refl
through a b grows (Ask op ∷ wishes) = refl
through a b grows (Wait line ∷ wishes) = by_test (is_answered a line) refl (through a b grows wishes)
  where
    by_test : (t : Bool) → is_answered a line ≡ t → past_waits b (past_waits a wishes) ≡ past_waits b wishes
        → past_waits b (past_waits a (Wait line ∷ wishes)) ≡ past_waits b (Wait line ∷ wishes)
    by_test true e rest = rw (e, grows line e) rest
    by_test false e rest = rw e refl

-- what is alike past waits stays so
pub alike-later : (a b : List ℕ) → StayAnswered a b → (x y : List Wish) → past_waits a x ≡ past_waits a y → past_waits b x ≡ past_waits b y
alike-later a b grows x y same = sym (through a b grows x) ∙ ap (past_waits b) same ∙ through a b grows y

-- a first wish that is no such wait
pub stops : (a : List ℕ) (next : Option Wish) (rest : List Wish) → is_over_in a next ≡ false → (next ≡ None → rest ≡ []) → past_waits a (option_to_list next ++ rest) ≡ option_to_list next ++ rest
stops a None rest over none = rw (none refl) refl
stops a (Some (Ask op)) rest over none = refl
stops a (Some (Wait line)) rest over none = rw over refl

-- one that is is passed
pub passes : (a : List ℕ) (next : Option Wish) (rest : List Wish) → is_over_in a next ≡ true → past_waits a (option_to_list next ++ rest) ≡ past_waits a rest
passes a None rest over = absurd (false≢true over)
passes a (Some (Ask op)) rest over = absurd (false≢true over)
passes a (Some (Wait line)) rest over = rw over refl

-- ---- a trace without its waits asks for the same

pub entries-past : (a : List ℕ) (wishes : List Wish) → entries_for (past_waits a wishes) ≡ entries_for wishes
entries-past a [] = refl
entries-past a (Ask op ∷ wishes) = refl
entries-past a (Wait line ∷ wishes) = by_test (is_answered a line) refl (entries-past a wishes)
  where
    by_test : (t : Bool) → is_answered a line ≡ t → entries_for (past_waits a wishes) ≡ entries_for wishes → entries_for (past_waits a (Wait line ∷ wishes)) ≡ entries_for wishes
    by_test true e rest = rw e rest
    by_test false e rest = rw e refl

pub bytes-past : (a : List ℕ) (wishes : List Wish) → bytes_for (past_waits a wishes) ≡ bytes_for wishes
bytes-past a [] = refl
bytes-past a (Ask op ∷ wishes) = refl
bytes-past a (Wait line ∷ wishes) = by_test (is_answered a line) refl (bytes-past a wishes)
  where
    by_test : (t : Bool) → is_answered a line ≡ t → bytes_for (past_waits a wishes) ≡ bytes_for wishes → bytes_for (past_waits a (Wait line ∷ wishes)) ≡ bytes_for wishes
    by_test true e rest = rw e rest
    by_test false e rest = rw e refl

pub numbers-past : (a : List ℕ) (wishes : List Wish) → HaveNumbers wishes → HaveNumbers (past_waits a wishes)
numbers-past a [] all = all
numbers-past a (Ask op ∷ wishes) all = all
numbers-past a (Wait line ∷ wishes) all = by_test (is_answered a line) refl (numbers-past a wishes all)
  where
    by_test : (t : Bool) → is_answered a line ≡ t → HaveNumbers (past_waits a wishes) → HaveNumbers (past_waits a (Wait line ∷ wishes))
    by_test true e rest = rw e rest
    by_test false e rest = rw e all

pub length-past : (a : List ℕ) (wishes : List Wish) → length (past_waits a wishes) ≤ length wishes
length-past a [] = omega arith
length-past a (Ask op ∷ wishes) = omega arith
length-past a (Wait line ∷ wishes) = by_test (is_answered a line) refl (length-past a wishes)
  where
    by_test : (t : Bool) → is_answered a line ≡ t → length (past_waits a wishes) ≤ length wishes → length (past_waits a (Wait line ∷ wishes)) ≤ length (Wait line ∷ wishes)
    by_test true e rest = rw e (omega arith)
    by_test false e rest = rw e (omega arith)
