-- What is behind a reference.
use Rattle.std.proofs.Common.{◌≡◌, refl, Option, Some, None, Bor}
use Rattle.std.specs.Prelude.{option_map}
use Rattle.std.specs.Option.{option_copied}

pub mapped_through : {A B : Type 0} (f : A → B) (o : Option (Bor A)) → option_map (λ b. f b.now) o ≡ option_map f (option_copied o)
mapped_through f None = refl
mapped_through f (Some b) = refl
