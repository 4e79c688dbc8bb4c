-- Whether a line was answered, as a test and as a fact.
use Rattle.std.proofs.Common.{◌≡◌, ◌↔◌, ℕ, true, false, Bool, List, IsTrue, Option, Some, None, refl, sym, ap}
use Rattle.std.specs.Prelude.{Contains}
use Rattle.std.proofs.lemmas.Bool.{false≢true}
use Rattle.qmp_rules.specs.Chains.{is_listed}
use Rattle.world_parts.proofs.Ends.{has-is, is-has}
use Rattle.flat_machine.specs.Courses.{is_answered}
use Rattle.trace_codec.specs.declared.wish.Wish.{Wish}
use Rattle.trace_codec.specs.declared.wish.Wish.TheVariants.{Ask, Wait}
use Rattle.qblk_run.specs.Turns.{waited_in, is_over_in}

-- a test that says the same
pub answered-is : (b : Bool) (answered : List ℕ) (line : ℕ) → IsTrue b ↔ Contains answered line → b ≡ is_answered answered line
answered-is true answered line says = sym (is-has line answered (says.0 refl))
answered-is false answered line says = by_test (is_listed line answered) refl
  where
    by_test : (t : Bool) → is_listed line answered ≡ t → false ≡ is_listed line answered
    by_test true e = absurd (false≢true (says.1 (has-is line answered e)))
    by_test false e = sym e

-- a first wish that is a wait, and one that isn't
pub waits-over : (a : List ℕ) (next : Option Wish) (line : ℕ) → waited_in next ≡ Some line → is_over_in a next ≡ is_answered a line
waits-over a None line is = let bad : ⊥ = cc is in absurd bad
waits-over a (Some (Ask op)) line is = let bad : ⊥ = cc is in absurd bad
waits-over a (Some (Wait other)) line is = let same : other ≡ line = cc is in ap (is_answered a) same

pub none-over : (a : List ℕ) (next : Option Wish) → waited_in next ≡ None → is_over_in a next ≡ false
none-over a None is = refl
none-over a (Some (Ask op)) is = refl
none-over a (Some (Wait other)) is = let bad : ⊥ = cc is in absurd bad
