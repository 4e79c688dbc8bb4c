-- A name that no file of a store has.
use Rattle.std.proofs.Common.{◌≡◌, ℕ, Bool, true, false, List, [], ◌∷◌, refl, Option, Some, None}
use Rattle.std.specs.Prelude.{bytes_eq, ◌||◌, if◌then◌else◌}
use Rattle.blk_fakes.specs.Disk.{DeviceState}
use Rattle.blk_fakes.specs.Shelf.{FileState, is_held, device_at}

free-or : (is : Bool) (d : DeviceState) (o : Option DeviceState) (held : Bool) → (if is then Some d else o) ≡ None
    → (o ≡ None → held ≡ false) → (is || held) ≡ false
free-or true d o held none more = absurd cc
free-or false d o held none more = more none

-- the name under which no device is found
pub free : (name : List ℕ) (files : List FileState) → device_at name files ≡ None → is_held name files ≡ false
free name [] none = refl
free name (f ∷ files) none = free-or (bytes_eq name f.name) f.device (device_at name files) (is_held name files) none (free name files)
