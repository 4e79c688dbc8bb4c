-- Objects none of whose calls fails.
use Rattle.std.proofs.Common.{◌≡◌, ℕ, Bool, true, false, cond, List, [], ◌∷◌, ◌++◌, refl, sym, Some}
use Rattle.std.specs.Prelude.{bytes_eq}
use Rattle.blk_fakes.specs.Calls.{CallState, NeverFails, fails_next, after_call}
use Rattle.blk_fakes.specs.Disk.{DeviceState}
use Rattle.blk_fakes.specs.Shelf.{FileState, NoneFails, device_at, remade, zeroed, with_made, with_device}

-- the next call goes well
pub next_goes : (calls : CallState) → NeverFails calls → fails_next calls ≡ false
next_goes calls sure = rw sure.list refl

-- and after a call that did not fail it is as before
pub sure_after : (calls : CallState) (failed : Bool) → NeverFails calls → failed ≡ false → NeverFails (after_call failed calls)
sure_after calls failed sure is = rw is (record { list = sure.list; count = sure.count })

sure_zeroed : (len room : ℕ) → NeverFails (zeroed len room).calls
sure_zeroed len room = record { list = refl; count = refl }

lent_by : (b : Bool) (f : FileState) (name : List ℕ) (files : List FileState) (dev : DeviceState) → NoneFails (f ∷ files)
    → (device_at name files ≡ Some dev → NeverFails dev.calls) → cond b (Some f.device) (device_at name files) ≡ Some dev → NeverFails dev.calls
lent_by true f name files dev sure rest is = let same : f.device ≡ dev = cc is in rw (sym same) sure.0
lent_by false f name files dev sure rest is = rest is

-- the device of a file is such an object
pub sure_lent : (name : List ℕ) (files : List FileState) (dev : DeviceState) → NoneFails files → device_at name files ≡ Some dev → NeverFails dev.calls
sure_lent name [] dev sure is = absurd (cc is)
sure_lent name (f ∷ files) dev sure is = lent_by (bytes_eq name f.name) f name files dev sure (sure_lent name files dev sure.1) is

pub none_added : (files : List FileState) (f : FileState) → NoneFails files → NeverFails f.device.calls → NoneFails (files ++ f ∷ [])
none_added [] f sure one = (one, tt)
none_added (g ∷ files) f sure one = (sure.0, none_added files f sure.1 one)

made_by : (b : Bool) (name : List ℕ) (len room : ℕ) (f : FileState) (files : List FileState) → NoneFails (f ∷ files) → NoneFails (with_made name len room files)
    → NoneFails (cond b (record f { device = remade f.device len room } ∷ files) (f ∷ with_made name len room files))
made_by true name len room f files sure rest = (record { list = sure.0.list; count = sure.0.count }, sure.1)
made_by false name len room f files sure rest = (sure.0, rest)

pub none_made : (name : List ℕ) (len room : ℕ) (files : List FileState) → NoneFails files → NoneFails (with_made name len room files)
none_made name len room [] sure = (sure_zeroed len room, tt)
none_made name len room (f ∷ files) sure = made_by (bytes_eq name f.name) name len room f files sure (none_made name len room files sure.1)

given_by : (b : Bool) (name : List ℕ) (dev : DeviceState) (f : FileState) (files : List FileState) → NoneFails (f ∷ files) → NeverFails dev.calls → NoneFails (with_device name dev files)
    → NoneFails (cond b (record f { device = dev } ∷ files) (f ∷ with_device name dev files))
given_by true name dev f files sure one rest = (one, sure.1)
given_by false name dev f files sure one rest = (sure.0, rest)

pub none_given : (name : List ℕ) (dev : DeviceState) (files : List FileState) → NoneFails files → NeverFails dev.calls → NoneFails (with_device name dev files)
none_given name dev [] sure one = tt
none_given name dev (f ∷ files) sure one = given_by (bytes_eq name f.name) name dev f files sure one (none_given name dev files sure.1 one)
