-- Which read of an opening fails, by the answers of the calls that make it up.
use Rattle.std.proofs.Common.{◌≡◌, ℕ, ◌⊎◌, inl, inr, List, Option, Some, None, Result, Ok, Err, IfErr, sym, ap, subst, ◌∙◌}
use Rattle.blk_base.specs.Calls.{FailsAt}
use Rattle.blk_base.specs.declared.device.DeviceCall.{DeviceCall}
use Rattle.blk_base.proofs.Calls.{fails_as}
use Rattle.blk_base.proofs.Readings.{told_if}
use Rattle.q2_format.specs.Header.{CanBeRead, IsWithinLimits, header_of}
use Rattle.q2_format.specs.References.{cluster_bound}
use Rattle.q2_format.specs.declared.header.Header.{Header}
use Rattle.q2_refs.specs.Loading.{IsBlockCall, table_call}
use Rattle.q2_tables.specs.Kept as tables
use Rattle.q2_tables.specs.Loading.{IsLoaded, IsTablesCall}
use Rattle.q2_image.specs.Loading.{IsReadFrom, IsTableRead, counts_loaded}
use Rattle.q2_image.specs.Opening.{IsNoFault, fault_in_image, fault_of_image, header_stops, overlap_stop, place_stops, uses_in}
use Rattle.q2_image.specs.OpeningCalls.{AreBlocksPlaced, AreTablesRead, IsFirstCall, IsHeaderRead, IsOpeningCall}
use Rattle.q2_image.specs.declared.stop.ImageStop.{ImageStop}

-- an answer that tells no failed call, and one that passes a stop on
pub no_call : {A : Type 0} (P : DeviceCall → Type 0) (r : Result A ImageStop) (last : Option DeviceCall) → IfErr r IsNoFault → FailsAt P (fault_of_image r) last
no_call P (Ok done) last quiet = tt
no_call P (Err stop) last quiet = subst (λ told. FailsAt P told last) (sym quiet) tt

module _ {A : Type 0} (P : DeviceCall → Type 0) (e stop : ImageStop) (r : Result A ImageStop) (last : Option DeviceCall) (is : r ≡ Err e) (by : e ≡ stop) where
  pub call_passed : FailsAt P (fault_in_image stop) last → FailsAt P (fault_of_image r) last
  call_passed failed = subst (λ x. FailsAt P (fault_of_image x) last) (sym (is ∙ ap Err by)) failed

  pub no_call_passed : IsNoFault stop → FailsAt P (fault_of_image r) last
  no_call_passed quiet = call_passed (subst (λ told. FailsAt P told last) (sym quiet) tt)

-- the reads of all tables
abbrev pub IsLoadCall : Header → ℕ → Option (List ℕ) → DeviceCall → Type 0
IsLoadCall h len content call = (call ≡ table_call h) ⊎ (AreBlocksPlaced h len content × IsTablesCall h len content call)

-- those of the refcount blocks, behind them
abbrev pub IsCountsCall : Header → ℕ → Option (List ℕ) → List ℕ → DeviceCall → Type 0
IsCountsCall h len content table call = AreTablesRead h len content table × IsBlockCall h (counts_loaded h len) table call

-- of the refcount table
pub table_fails : (h : Header) (len : ℕ) (content : Option (List ℕ)) (told : Option ℕ) (last : Option DeviceCall) → FailsAt (λ call. call ≡ table_call h) told last → FailsAt (IsLoadCall h len content) told last
table_fails h len content told last failed = fails_as (λ call. call ≡ table_call h) (IsLoadCall h len content) told last (λ call is. inl is) failed

-- behind it
pub tables_fail : (h : Header) (len size : ℕ) (content then : Option (List ℕ)) (told : Option ℕ) (last : Option DeviceCall) → size ≡ len → then ≡ content
    → AreBlocksPlaced h len content → FailsAt (IsTablesCall h size then) told last → FailsAt (IsLoadCall h len content) told last
tables_fail h len size content then told last same alike placed failed =
    let F : ℕ → Option (List ℕ) → Type 0 = λ n b. FailsAt (IsTablesCall h n b) told last in
    let here : F len content = subst (λ n. F n content) same (subst (λ b. F size b) alike failed) in
    fails_as (IsTablesCall h len content) (IsLoadCall h len content) told last (λ call is. inr (placed, is)) here

-- Behind the header.
module _ (h : Header) (len size : ℕ) (content then : Option (List ℕ)) (told : Option ℕ) (last : Option DeviceCall) (same : size ≡ len) (alike : then ≡ content)
    (read : IsHeaderRead h len content) where
  pub load_fails : FailsAt (IsLoadCall h size then) told last → FailsAt (IsOpeningCall len content) told last
  load_fails failed =
      let F : ℕ → Option (List ℕ) → Type 0 = λ n b. FailsAt (IsLoadCall h n b) told last in
      let here : F len content = subst (λ n. F n content) same (subst (λ b. F size b) alike failed) in
      fails_as (IsLoadCall h len content) (IsOpeningCall len content) told last
      (λ call is. inr (h, read, elim is [ inl first ↦ inl first | inr later ↦ inr (inl later) ])) here

  pub counts_fail : (table : List ℕ) → FailsAt (IsCountsCall h size then table) told last → FailsAt (IsOpeningCall len content) told last
  counts_fail table failed =
      let F : ℕ → Option (List ℕ) → Type 0 = λ n b. FailsAt (IsCountsCall h n b table) told last in
      let here : F len content = subst (λ n. F n content) same (subst (λ b. F size b) alike failed) in
      fails_as (IsCountsCall h len content table) (IsOpeningCall len content) told last
      (λ call is. inr (h, read, inr (inr (table, is.0, is.1)))) here

-- before the header
pub first_fails : (len : ℕ) (content : Option (List ℕ)) (told : Option ℕ) (last : Option DeviceCall) → FailsAt (IsFirstCall len) told last → FailsAt (IsOpeningCall len content) told last
first_fails len content told last failed = fails_as (IsFirstCall len) (IsOpeningCall len content) told last (λ call is. inl is) failed

-- a header that was read, by what each call told
pub header_read : (h : Header) (len asked : ℕ) (content : Option (List ℕ)) → asked ≡ len → IsWithinLimits h len → CanBeRead h len → place_stops h asked ≡ None
    → ((file : List ℕ) → content ≡ Some file → header_stops file len ≡ None) → ((file : List ℕ) → content ≡ Some file → header_of file ≡ h) → IsHeaderRead h len content
header_read h len asked content same limits readable places headers is =
    let P : ℕ → Type 0 = λ n. place_stops h n ≡ None in
    record {
      limits = limits;
      readable = readable;
      places = subst P same places;
      told = told_if content (λ file. (header_stops file len ≡ None) × (header_of file ≡ h)) (λ file told. (headers file told, is file told));
    }

-- and tables
pub tables_read : (h : Header) (len asked : ℕ) (content : Option (List ℕ)) (table : List ℕ) (t : tables.KeptTables) → asked ≡ len → IsTableRead h len table → IsLoaded h len t
    → overlap_stop (uses_in h table t.l1 t.words) (cluster_bound h asked) ≡ None → ((file : List ℕ) → content ≡ Some file → IsReadFrom file h table t) → AreTablesRead h len content table
tables_read h len asked content table t same read loaded once told =
    let O : ℕ → Type 0 = λ n. overlap_stop (uses_in h table t.l1 t.words) (cluster_bound h n) ≡ None in
    record {
      read = read;
      tables = t;
      loaded = loaded;
      once = subst O same once;
      told = told_if content (λ file. IsReadFrom file h table t) told;
    }

-- the reads of the refcount blocks behind them
pub counts_read : (h : Header) (len : ℕ) (content : Option (List ℕ)) (table : List ℕ) (told : Option ℕ) (last : Option DeviceCall) → AreTablesRead h len content table
    → FailsAt (IsBlockCall h (counts_loaded h len) table) told last → FailsAt (IsCountsCall h len content table) told last
counts_read h len content table told last read failed =
    fails_as (IsBlockCall h (counts_loaded h len) table) (IsCountsCall h len content table) told last (λ call is. (read, is)) failed
