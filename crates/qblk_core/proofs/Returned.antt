-- A device that comes back.
use Rattle.std.proofs.Common.{◌≡◌, ℕ, Bool, true, false, List, [], ◌∷◌, ◌++◌, refl, sym, ap, ◌∙◌, None}
use Rattle.std.specs.Prelude.{◌&&◌, bytes_eq}
use Rattle.blk_base.proofs.Openings.{back-opened}
use Rattle.blk_base.specs.Files.{is_out, given_back}
use Rattle.blk_base.specs.declared.file.Opened.{Opened}
use Rattle.blk_nodes.specs.Nodes.{DeviceSeen}
use Rattle.qblk_core.specs.Run.{closed_opening}
use Rattle.qblk_inputs.specs.Reading.{NoneOut}

-- the record of the image's device while it is out
abbrev pub open_opening : List ℕ → DeviceSeen → Opened
open_opening image device = record {
  name = image;
  size = device.size;
  capacity = device.capacity;
  faults = device.faults;
  returned = None;
  failed_call = device.failed_call;
}

-- and once it is back
pub closed-is : (image : List ℕ) (device back : DeviceSeen) (os new : List Opened) → (is_out image os ≡ true → ⊥)
    → new ≡ given_back image back.faults back.failed_call (os ++ open_opening image device ∷ []) → new ≡ os ++ closed_opening image device back ∷ []
closed-is image device back os new none is = is ∙ back-opened os (open_opening image device) back.faults back.failed_call refl none

-- a device that is back is out under no name
and-false : (b : Bool) → (b && false) ≡ false
and-false true = refl
and-false false = refl

same-out : (name image : List ℕ) (device back : DeviceSeen) (os : List Opened) → is_out name (os ++ closed_opening image device back ∷ []) ≡ is_out name os
same-out name image device back [] = rw (and-false (bytes_eq name image)) refl
same-out name image device back (o ∷ os) = rw (same-out name image device back os) refl

pub none-out-back : (image : List ℕ) (device back : DeviceSeen) (os new : List Opened) → NoneOut os
    → new ≡ given_back image back.faults back.failed_call (os ++ open_opening image device ∷ []) → NoneOut new
none-out-back image device back os new none is =
    let same = closed-is image device back os new (none image) is in
    λ name out. none name (sym (ap (is_out name) same ∙ same-out name image device back os) ∙ out)
