-- Sources of mirrors, one by one.
use Rattle.std.proofs.Common.{◌≡◌, ℕ, Bool, true, false, List, [], ◌∷◌, Option, Some, None, is_some, refl, sym, if◌then◌else◌}
use Rattle.qmp_rules.specs.declared.refusal.Refusal.{Refusal}
use Rattle.qmp_rules.specs.declared.rows.JobRecord.{JobRecord}
use Rattle.qmp_rules.specs.Table.{RunTable}
use Rattle.qmp_rules.specs.Refusals.{or_else}
use Rattle.qmp_rules.specs.Asks.{first_reached, is_mirror, mirrored}

else_first : (x later found : Option Refusal) → found ≡ or_else x None → is_some found ≡ true → or_else x later ≡ found
else_first None later found is there = cc
else_first (Some cause) later found is there = sym is

-- where the first source is reached, it is the one that is told
pub mirrored_first : (t : RunTable) (target : ℕ) (job : JobRecord) (rest : List JobRecord) (found : Option Refusal)
    → found ≡ first_reached t target (mirrored (job ∷ [])) → is_some found ≡ true
    → first_reached t target (mirrored (job ∷ rest)) ≡ found
mirrored_first t target job rest found is there = by_kind (is_mirror job) is
  where
    by_kind : (b : Bool) → found ≡ first_reached t target (if b then job.source ∷ [] else [])
        → first_reached t target (if b then job.source ∷ mirrored rest else mirrored rest) ≡ found
    by_kind true h = else_first _ (first_reached t target (mirrored rest)) found h there
    by_kind false h = cc
