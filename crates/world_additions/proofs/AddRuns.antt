-- One more opening: counts run on, be its device with a node or back again.
use Rattle.std.proofs.Common.{◌≡◌, ◌≢◌, ℕ, ◌+◌, ◌≤◌, ◌==◌, Bool, true, false, cond, List, [], ◌∷◌, ◌++◌, length, refl, sym, ◌∙◌, ap, subst, arith, IsTrue, Option, Some, None}
use Rattle.std.specs.Prelude.{is_some, slice_get}
use Rattle.std.proofs.lemmas.Bool.{false≢true, ne_eqb}
use Rattle.blk_base.specs.Files.{closed_with, given_back, is_out}
use Rattle.blk_base.specs.Stored.{IsDeviceOf, files_with_returned}
use Rattle.blk_base.specs.declared.file.File.{File}
use Rattle.blk_base.specs.declared.file.Opened.{Opened}
use Rattle.blk_base.proofs.Openings.{back-opened, put-same}
use Rattle.blk_history.specs.Fold.{With}
use Rattle.blk_nodes.specs.Nodes.{DeviceSeen}
use Rattle.world_parts.specs.Adding.{IsTakenOut, Taken, opening_of, put_back}
use Rattle.world_parts.specs.Counting.{HaveNotFallen, IsLater, RunsOn}
use Rattle.world_parts.specs.Face.{WorldSeen, count_of_opening, counts_from, counts_now, device_numbered}
use Rattle.world_parts.specs.Stores.{StoreInRun}
use Rattle.world_additions.proofs.AddOut.{get-before}
use Rattle.world_parts.proofs.CountLemmas.{goes-on, there, with-of}

-- ---- counts

pub counts-append : (ds : List DeviceSeen) (k : ℕ) (xs : List Opened) (y : Opened)
    → counts_from ds k (xs ++ y ∷ []) ≡ counts_from ds k xs ++ count_of_opening ds (k + length xs) y ∷ []
counts-append ds k [] y = let same : k + 0 ≡ k = omega arith in rw same refl
counts-append ds k (x ∷ xs) y =
    let same : k + length (x ∷ xs) ≡ k + 1 + length xs = omega arith in
    rw same (ap (λ (l : List ℕ). count_of_opening ds k x ∷ l) (counts-append ds (k + 1) xs y))

not-fallen-longer : (a b : List ℕ) (last : ℕ) → HaveNotFallen a b → HaveNotFallen a (b ++ last ∷ [])
not-fallen-longer a b last not n count is =
    let at = there (slice_get b n) (λ now. count ≤ now) (not n count is) in
    with-of (slice_get (b ++ last ∷ []) n) at.at (λ now. count ≤ now) (get-before b last at.at n at.is) at.holds

pub not-fallen-itself : (a : List ℕ) → HaveNotFallen a a
not-fallen-itself a n count is = with-of (slice_get a n) count (λ now. count ≤ now) is (omega arith)

numbered-behind : (ds : List DeviceSeen) (d : DeviceSeen) (n : ℕ) → d.number.0 ≢ n → device_numbered (ds ++ d ∷ []) n ≡ device_numbered ds n
numbered-behind [] d n other = rw (ne_eqb d.number.0 n other) refl
numbered-behind (x ∷ ds) d n other = by_test (x.number.0 == n) (numbered-behind ds d n other)
  where
    by_test : (b : Bool) → device_numbered (ds ++ d ∷ []) n ≡ device_numbered ds n
        → cond b (Some x) (device_numbered (ds ++ d ∷ []) n) ≡ cond b (Some x) (device_numbered ds n)
    by_test true rest = refl
    by_test false rest = rest

-- a device of a later opening says nothing of those before it
pub counts-more : (ds : List DeviceSeen) (d : DeviceSeen) (k : ℕ) (xs : List Opened) → k + length xs ≤ d.number.0
    → counts_from (ds ++ d ∷ []) k xs ≡ counts_from ds k xs
counts-more ds d k [] later = refl
counts-more ds d k (x ∷ xs) later =
    let other : d.number.0 ≢ k = λ same. absurd (omega (arith, later, same)) in
    let more : k + 1 + length xs ≤ d.number.0 = omega (arith, later) in
    rw (numbered-behind ds d k other, counts-more ds d (k + 1) xs more) refl

-- ---- one more opening

module _ (w v : WorldSeen) (told : is_some v.files ≡ is_some w.files) (room : v.room ≡ w.room) (first : v.first_faults ≡ w.first_faults)
    (earlier : v.earlier ≡ w.earlier) (store : w.faults ≤ v.faults) where
  pub runs-opened : (o : Opened) → v.opened ≡ w.opened ++ o ∷ []
      → HaveNotFallen (counts_from w.nodes.devices 0 w.opened) (counts_from v.nodes.devices 0 w.opened) → RunsOn w v
  runs-opened o opened counts = record {
    told = told;
    room = room;
    first = first;
    earlier = earlier;
    store = store;
    openings = λ n was is.
        subst (λ (all : List Opened). With (slice_get all n) (IsLater was)) (sym opened)
        (with-of (slice_get (w.opened ++ o ∷ []) n) was (IsLater was) (get-before w.opened o was n is) (goes-on was));
    devices =
        subst (λ (all : List Opened). HaveNotFallen (counts_now w).devices (counts_from v.nodes.devices 0 all)) (sym opened)
        (subst (HaveNotFallen (counts_now w).devices) (sym (counts-append v.nodes.devices 0 w.opened o))
        (not-fallen-longer (counts_now w).devices (counts_from v.nodes.devices 0 w.opened) (count_of_opening v.nodes.devices (0 + length w.opened) o) counts));
  }

-- ---- a device that is back again, with nothing written to it

returned-untold : (name : List ℕ) (content : Option (List ℕ)) (limit : ℕ) (flushed : Option Bool) → files_with_returned name content limit flushed None ≡ None
returned-untold name None limit flushed = refl
returned-untold name (Some bytes) limit None = refl
returned-untold name (Some bytes) limit (Some f) = refl

returned-same : (name : List ℕ) (content : Option (List ℕ)) (limit : ℕ) (flushed : Option Bool) (files : List File)
    → IsDeviceOf (Some files) name content limit flushed → files_with_returned name content limit flushed (Some files) ≡ Some files
returned-same name content limit flushed files its =
    subst (λ (c : Option (List ℕ)). files_with_returned name c limit flushed (Some files) ≡ Some files) (sym its.2)
    (subst (λ (n : ℕ). files_with_returned name (Some its.0.bytes) n flushed (Some files) ≡ Some files) (sym its.3)
    (subst (λ (f : Option Bool). files_with_returned name (Some its.0.bytes) its.0.capacity f (Some files) ≡ Some files) (sym its.4)
    (ap Some (put-same name its.0 files its.1))))

module _ (old between : StoreInRun) (name : List ℕ) (first now : Taken) (out : IsTakenOut old between name first)
    (same : now ≡ record first { faults = now.faults; failed_call = now.failed_call }) (inside : is_out name old.opened ≡ false) where
  files-back : (files : Option (List File)) → IsDeviceOf files name first.content first.capacity first.is_flushed
      → files_with_returned name first.content first.capacity first.is_flushed files ≡ files
  files-back None its = returned-untold name first.content first.capacity first.is_flushed
  files-back (Some files) its = returned-same name first.content first.capacity first.is_flushed files its

  abbrev pub closed-opening : Opened
  closed-opening = closed_with now.faults now.failed_call (opening_of name first)

  pub back-is : put_back name now between ≡ record old { opened = old.opened ++ closed-opening ∷ [] }
  back-is =
      let none : IsTrue (is_out name old.opened) → ⊥ = λ is. false≢true (sym inside ∙ is) in
      let opened : given_back name now.faults now.failed_call between.opened ≡ old.opened ++ closed-opening ∷ [] =
      ap (λ (s : StoreInRun). given_back name now.faults now.failed_call s.opened) out.kept ∙ back-opened old.opened (opening_of name first) now.faults now.failed_call refl none in
      let files : files_with_returned name now.content now.capacity now.is_flushed between.files ≡ old.files =
      ap (λ (d : Taken). files_with_returned name d.content d.capacity d.is_flushed between.files) same
      ∙ ap (λ (s : StoreInRun). files_with_returned name first.content first.capacity first.is_flushed s.files) out.kept
      ∙ files-back old.files out.is_its in
      ap (λ (s : StoreInRun). record s { files = files_with_returned name now.content now.capacity now.is_flushed between.files; opened = given_back name now.faults now.failed_call between.opened }) out.kept
      ∙ ap (λ (f : Option (List File)). record old { files = f; opened = given_back name now.faults now.failed_call between.opened }) files
      ∙ ap (λ (o : List Opened). record old { opened = o }) opened
