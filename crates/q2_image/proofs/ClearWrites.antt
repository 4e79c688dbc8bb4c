-- The write of the autoclear field, in the list of a call's writes.
use Rattle.std.proofs.Common.{◌≡◌, ◌≢◌, ℕ, ◌<◌, ◌≤◌, inl, inr, List, [], ◌∷◌, take, replicate, Option, Some, None, refl, ap, subst, ◌∙◌, arith}
use Rattle.std.proofs.lemmas.Bool.{cases_eq, eq-eqb, ne_eqb}
use Rattle.blk_base.specs.Calls.{FailedLast, IsWriteAfterStop, FailsWriting, call_of_write}
use Rattle.blk_base.specs.Content.{Write}
use Rattle.blk_base.specs.Counts.{Rose, IsFailedWrite}
use Rattle.blk_base.specs.Device.{Wrote, Writes, IsMade}
use Rattle.blk_base.specs.Writes.{write_of, IsCutBy, IsPart}
use Rattle.blk_base.specs.declared.device.Device.{Ghosts}
use Rattle.blk_base.specs.declared.device.DeviceCall.{DeviceCall}
use Rattle.blk_base.specs.declared.device.DeviceCall.TheVariants as calls
use Rattle.blk_base.specs.declared.device.Stop.{Stop}
use Rattle.blk_base.specs.declared.device.Stop.TheVariants as why
use Rattle.blk_base.specs.declared.fault.DevStop.{DevStop}
use Rattle.blk_base.specs.declared.fault.DevStop.TheVariants.{Io, NoSpace}
use Rattle.blk_base.proofs.Calls.{if_told, write_failed}
use Rattle.blk_base.proofs.DeviceLemmas.{untouched-same, untouched-writes}
use Rattle.q2_image.specs.Image.{Known}
use Rattle.q2_image.specs.Made.{clear_writes}
use Rattle.q2_image.specs.Writing.{TellsFault, autoclear_end}

-- where the field is 0 nothing is written
pub cleared_before : {D : Type 0} (g : Ghosts D) (image : Known) (a : D) → image.header.autoclear ≡ 0 → Writes g (clear_writes image) None a a
cleared_before g image a none = let test = eq-eqb image.header.autoclear 0 none in rw test (untouched-writes g a a (untouched-same g a))

-- else it is, whole
pub cleared_all : {D : Type 0} (g : Ghosts D) (image : Known) (a b : D) → image.header.autoclear ≢ 0 → Wrote g (write_of 88 (replicate 8 0) ∷ []) a b → 96 ≤ g.capacity a
    → g.faults b ≡ g.faults a → g.failed_call b ≡ g.failed_call a → Writes g (clear_writes image) None a b
cleared_all g image a b some wrote fits quiet call =
    let test = ne_eqb image.header.autoclear 0 some in
    rw test (record { made = write_of 88 (replicate 8 0) ∷ []; part = refl; wrote = wrote; cause = (fits, quiet); call = call })

-- or not at all
pub cleared_part : {D : Type 0} (g : Ghosts D) (image : Known) (done count : ℕ) (reason : Stop) (a b : D) → image.header.autoclear ≢ 0 → done ≡ 0
    → Wrote g (write_of 88 (take done (replicate 8 0)) ∷ []) a b → 96 ≤ g.capacity a → Rose (g.faults a) count → count ≡ g.faults b
    → reason ≡ why.Failed → IsWriteAfterStop reason (calls.Write 88 8) (g.failed_call a) (g.failed_call b) → Writes g (clear_writes image) (Some (Io count)) a b
cleared_part g image done count reason a b some none wrote fits rose is failed call =
    let test = ne_eqb image.header.autoclear 0 some in
    let short : done < 8 = omega (arith, none) in
    rw test (record {
      made = write_of 88 (take done (replicate 8 0)) ∷ [];
      part = inr (record { n = done; short = short; sector = inl none; first = refl }, refl);
      wrote = wrote;
      cause = ((write_of 88 (replicate 8 0), refl, fits), rose, is);
      call = write_failed 88 count (replicate 8 0) (write_of 88 (take done (replicate 8 0))) reason (g.failed_call a) (g.failed_call b) failed call;
    })

pub clear_fits : (image : Known) (capacity : ℕ) → image.header.autoclear ≢ 0 → autoclear_end image ≤ capacity → 96 ≤ capacity
clear_fits image capacity some fits = let test = ne_eqb image.header.autoclear 0 some in rw test at fits

pub rose_by_why : (reason : Stop) (done capacity before now : ℕ) → (reason ≡ why.NoSpace → (capacity < 96) × (done ≡ 0) × (now ≡ before))
    → (reason ≡ why.Failed → (96 ≤ capacity) × IsFailedWrite 88 done 8 before now) → 96 ≤ capacity → Rose before now
rose_by_why why.NoSpace done capacity before now no_space failed fits = absurd (let beyond = (no_space refl).0 in omega (arith, beyond, fits))
rose_by_why why.Failed done capacity before now no_space failed fits = (failed refl).1.rose

pub failed_by_why : (reason : Stop) (done capacity before now : ℕ) → (reason ≡ why.NoSpace → (capacity < 96) × (done ≡ 0) × (now ≡ before)) → 96 ≤ capacity → reason ≡ why.Failed
failed_by_why why.NoSpace done capacity before now no_space fits = absurd (let beyond = (no_space refl).0 in omega (arith, beyond, fits))
failed_by_why why.Failed done capacity before now no_space fits = refl

-- The field lies in one sector, so of a write of it that stops nothing is made.

none_of_field : (stop : DevStop) (made : List Write) → IsPart (IsCutBy stop) (write_of 88 (replicate 8 0) ∷ []) made → made ≡ write_of 88 [] ∷ []
none_of_field stop [] part = absurd part
none_of_field stop (m ∷ made) (inl (same, part)) = absurd part
none_of_field (Io count) (m ∷ made) (inr (cut, none)) =
    let nothing : cut.n ≡ 0 = let short = cut.short in elim cut.sector [ inl zero_bytes ↦ zero_bytes | inr border ↦ absurd (omega (arith, short, border)) ] in
    let is : m ≡ write_of 88 (take 0 (replicate 8 0)) = cut.first ∙ ap (λ (n : ℕ). write_of 88 (take n (replicate 8 0))) nothing in
    ap (λ (ms : List Write). m ∷ ms) none ∙ ap (λ (x : Write). x ∷ []) is
none_of_field NoSpace (m ∷ made) (inr (refused, none)) = ap (λ (ms : List Write). m ∷ ms) none ∙ ap (λ (x : Write). x ∷ []) refused

pub clear_stopped : (image : Known) (stop : DevStop) (made : List Write) → IsMade (Some stop) (clear_writes image) made
    → (image.header.autoclear ≢ 0) × (made ≡ write_of 88 [] ∷ [])
clear_stopped image stop made part = elim (cases_eq image.header.autoclear 0) [
  | inl none ↦ absurd (let test = eq-eqb image.header.autoclear 0 none in rw test at part)
  | inr some ↦ (some, let test = ne_eqb image.header.autoclear 0 some in none_of_field stop made (rw test at part))
]

-- and the call that failed is that write
pub clear_call : (image : Known) (stop : DevStop) (made : List Write) (before now : Option DeviceCall) → TellsFault stop → IsMade (Some stop) (clear_writes image) made
    → FailsWriting (Some stop) (clear_writes image) made before now → FailedLast (calls.Write 88 8) now
clear_call image NoSpace made before now tells part call = absurd tells
clear_call image (Io count) made before now tells part call = elim (cases_eq image.header.autoclear 0) [
  | inl none ↦ absurd (let test = eq-eqb image.header.autoclear 0 none in rw test at part)
  | inr some ↦
      let test = ne_eqb image.header.autoclear 0 some in
      let field : Write = write_of 88 (replicate 8 0) in
      let nothing = (clear_stopped image (Io count) made part).1 in
      let F : List Write → Type 0 = λ ms. FailsWriting (Some (Io count)) (clear_writes image) ms before now in
      let here : FailsWriting (Some (Io count)) (field ∷ []) (write_of 88 [] ∷ []) before now = rw test at (subst F nothing call) in
      if_told (λ (last : DeviceCall). Some (call_of_write field) ≡ Some last) (λ last. last ≡ calls.Write 88 8) now (λ last same. last_is last same) here
]
  where
    last_is : (last : DeviceCall) → Some (calls.Write 88 8) ≡ Some last → last ≡ calls.Write 88 8
    last_is last same = cc same
