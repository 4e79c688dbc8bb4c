-- A file's device that was taken out may be given back.
use Rattle.std.proofs.Common.{◌≡◌, ℕ, true, List, [], ◌∷◌, ◌++◌, refl, Option, None}
use Rattle.blk_base.specs.Files.{is_out}
use Rattle.blk_base.specs.declared.device.DeviceCall.{DeviceCall}
use Rattle.blk_base.specs.declared.file.Opened.{Opened}
use Rattle.blk_base.proofs.Openings.{out-opened}

pub is_lent : (name : List ℕ) (opened : List Opened) (size capacity faults : ℕ) (call : Option DeviceCall)
    → is_out name (opened ++ record { name = name; size = size; capacity = capacity; faults = faults; returned = None; failed_call = call } ∷ []) ≡ true
is_lent name opened size capacity faults call =
    out-opened opened (record { name = name; size = size; capacity = capacity; faults = faults; returned = None; failed_call = call }) refl
