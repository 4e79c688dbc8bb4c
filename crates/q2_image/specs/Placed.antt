-- What an opening keeps fits together, and fits a file of so many bytes, whether or not that tells them.
use Rattle.std.specs.Prelude.{◌≡◌, ℕ, take, Option, None}
use Rattle.q2_format.specs.Header.{CanBeRead, IsWithinLimits}
use Rattle.q2_format.specs.References.{cluster_bound, reach_of}
use Rattle.q2_format.specs.Sound.{Refusal}
use Rattle.q2_format.specs.declared.header.Header.{Header}
use Rattle.q2_refs.specs.Kept.{AreAbsentFree}
use Rattle.q2_refs.specs.Kept as refs
use Rattle.q2_tables.specs.Kept as tables
use Rattle.q2_tables.specs.Loading.{IsLoaded}
use Rattle.q2_image.specs.Image.{Known}
use Rattle.q2_image.specs.Loading.{HasCounts, IsTableRead, counts_loaded}
use Rattle.q2_image.specs.Opening.{names_stops, place_stops, uses_in}

-- the refcounts and the tables of a header: nothing of their words is refused, and what has no block counts 0
pub record AreKept (h : Header) (len : ℕ) (r : refs.KeptRefs) (t : tables.KeptTables) : Type 0
  where
    pub table : IsTableRead h len r.table
    pub tables : IsLoaded h len t
    pub counts : HasCounts h len (counts_loaded h len) r
    pub absent : AreAbsentFree r

-- the refusals of what they name and count
abbrev pub kept_stops : Header → ℕ → refs.KeptRefs → tables.KeptTables → Option Refusal
kept_stops h len r t =
    names_stops h (uses_in h r.table t.l1 t.words) r.counts (cluster_bound h len)

pub record FitsFile (len : ℕ) (image : Known) : Type 0 where
  -- the header is one that reading can give
  pub readable : CanBeRead image.header len
  pub limits : IsWithinLimits image.header len
  -- both tables lie in their places, and so does all that they name
  pub places : place_stops image.header len ≡ None
  -- the refcounts that were read, of which the first are kept; with them nothing is refused
  pub all : refs.KeptRefs
  pub kept : AreKept image.header len all image.tables
  pub none : kept_stops image.header len all image.tables ≡ None
  pub first : image.refs ≡ record all { counts = take (reach_of image.header len) all.counts }
