-- What was read, where something is told and where nothing is.
use Rattle.std.proofs.Common.{◌≡◌, Option, Some, None, refl, subst}
use Rattle.blk_base.specs.Files.{IfTold, WasRead}

pub told_if : {A : Type 0} (told : Option A) (P : A → Type 0) → ((a : A) → told ≡ Some a → P a) → IfTold told P
told_if None P all = tt
told_if (Some a) P all = all a refl

module _ {A B : Type 0} (told : Option A) (of : A → B) (P : B → Type 0) where
  -- a value that is the one of what is told
  pub read_as : (value : B) → ((a : A) → told ≡ Some a → value ≡ of a) → P value → WasRead told of P
  read_as value same holds = record { value = value; is = told_if told (λ a. value ≡ of a) same; holds = holds }

  -- what holds of what is told
  pub read_of : WasRead told of P → (a : A) → told ≡ Some a → P (of a)
  read_of read a is =
      let I : Option A → Type 0 = λ o. IfTold o (λ a. read.value ≡ of a) in
      subst P (subst I is read.is) read.holds

  pub read_map : (Q : B → Type 0) → ((value : B) → P value → Q value) → WasRead told of P → WasRead told of Q
  read_map Q map read = record { value = read.value; is = read.is; holds = map read.value read.holds }

-- what holds of what is told, and of another value where nothing is
pub was_read : {A B : Type 0} (told : Option A) (of : A → B) (P : B → Type 0) (other : B) → ((a : A) → told ≡ Some a → P (of a)) → P other → WasRead told of P
was_read None of P other all spare = record { value = other; is = tt; holds = spare }
was_read (Some a) of P other all spare = record { value = of a; is = refl; holds = all a refl }
