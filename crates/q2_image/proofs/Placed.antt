-- What an opening keeps fits together.
use Rattle.std.proofs.Common.{◌≡◌, ℕ, List, None, Result, IfOk, refl, sym, subst}
use Rattle.q2_format.specs.Header.{CanBeRead, IsWithinLimits}
use Rattle.q2_format.specs.declared.header.Header.{Header}
use Rattle.q2_refs.specs.Kept.{AreAbsentFree}
use Rattle.q2_refs.specs.Kept as refs
use Rattle.q2_tables.specs.Kept as tables
use Rattle.q2_tables.specs.Loading.{IsLoaded}
use Rattle.q2_image.specs.Image.{Known}
use Rattle.q2_image.specs.Loading.{HasCounts, IsTableRead, counts_loaded}
use Rattle.q2_image.specs.Opening.{place_stops}
use Rattle.q2_image.specs.Placed.{AreKept, FitsFile, kept_stops}
use Rattle.q2_image.specs.declared.stop.ImageStop.{ImageStop}
use Rattle.q2_image.proofs.Whole.{image_with}

-- what was loaded
pub kept_refs : (h : Header) (len : ℕ) (table : List ℕ) (r : refs.KeptRefs) (t : tables.KeptTables) → r.table ≡ table → IsTableRead h len table → IsLoaded h len t
    → HasCounts h len (counts_loaded h len) r → AreAbsentFree r → AreKept h len r t
kept_refs h len table r t same read loaded counts absent =
    record { table = subst (IsTableRead h len) (sym same) read; tables = loaded; counts = counts; absent = absent }

pub fits_file : (h : Header) (len : ℕ) (r : refs.KeptRefs) (t : tables.KeptTables) → CanBeRead h len → IsWithinLimits h len → place_stops h len ≡ None → AreKept h len r t
    → kept_stops h len r t ≡ None → FitsFile len (image_with h len r t)
fits_file h len r t readable limits places are none =
    record { readable = readable; limits = limits; places = places; all = r; kept = are; none = none; first = refl }

-- in a file of that length
pub ok_fits_at : (result : Result Known ImageStop) (n m : ℕ) → n ≡ m → IfOk result (FitsFile n) → IfOk result (FitsFile m)
ok_fits_at result n m same is = let P : ℕ → Type 0 = λ k. IfOk result (FitsFile k) in subst P same is
