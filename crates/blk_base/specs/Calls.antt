-- Which call of a device or of a store failed last, where they tell it.
use Rattle.std.specs.Prelude.{◌≡◌, ℕ, List, [], ◌∷◌, length, Option, option_map, Some, None, Result, Ok, Err}
use Rattle.blk_base.specs.Content.{Write}
use Rattle.blk_base.specs.Files.{IfTold}
use Rattle.blk_base.specs.declared.device.DeviceCall.{DeviceCall}
use Rattle.blk_base.specs.declared.device.DeviceCall.TheVariants as calls
use Rattle.blk_base.specs.declared.device.Stop.{Stop}
use Rattle.blk_base.specs.declared.device.Stop.TheVariants as why
use Rattle.blk_base.specs.declared.device.WriteStop.{WriteStop}
use Rattle.blk_base.specs.declared.fault.DevStop.{DevStop}
use Rattle.blk_base.specs.declared.fault.DevStop.TheVariants.{Io, NoSpace}
use Rattle.blk_base.specs.declared.file.CallOnFile.{CallOnFile}
use Rattle.blk_base.specs.declared.store.StoreStop.{StoreStop}
use Rattle.blk_base.specs.declared.store.StoreStop.TheVariants.{Failed}

-- this call failed last, where that is told
abbrev pub FailedLast : DeviceCall → Option DeviceCall → Type 0
FailedLast call told = IfTold told (λ last. last ≡ call)

-- which call failed last, behind this read or flush
abbrev pub IsCallAfter : {A E : Type 0} → Result A E → DeviceCall → Option DeviceCall
    → Option DeviceCall → Type 0
IsCallAfter (Ok done) call before now = now ≡ before
IsCallAfter (Err fault) call before now = FailedLast call now

-- and behind this write
abbrev pub IsWriteAfterStop : Stop → DeviceCall → Option DeviceCall → Option DeviceCall → Type 0
IsWriteAfterStop why.Failed call before now = FailedLast call now
IsWriteAfterStop why.NoSpace call before now = now ≡ before

abbrev pub IsWriteAfter : {A : Type 0} → Result A WriteStop → DeviceCall → Option DeviceCall
    → Option DeviceCall → Type 0
IsWriteAfter (Ok done) call before now = now ≡ before
IsWriteAfter (Err stop) call before now = IsWriteAfterStop stop.why call before now

-- Calls that make several.

-- a read
abbrev pub IsRead : DeviceCall → Type 0
IsRead (calls.Read offset len) = Unit {0}
IsRead (calls.Write offset len) = ⊥
IsRead calls.Flush = ⊥

-- which call failed last, behind reads, by the fault that they tell
abbrev pub FailsReading : Option ℕ → Option DeviceCall → Option DeviceCall → Type 0
FailsReading None before now = now ≡ before
FailsReading (Some count) before now = IfTold now IsRead

-- the call that makes a write
abbrev pub call_of_write : Write → DeviceCall
call_of_write w = calls.Write w.offset (length w.bytes)

-- of these writes the one at which a call stops that has made so much of them
abbrev pub stopped_at : List Write → List Write → Option Write
stopped_at [] made = None
stopped_at (w ∷ ws) [] = None
stopped_at (w ∷ ws) (m ∷ []) = Some w
stopped_at (w ∷ ws) (m ∷ n ∷ made) = stopped_at ws (n ∷ made)

-- which call failed last, behind writes of which so much was made, by the stop that they tell
abbrev pub FailsWriting : Option DevStop → List Write → List Write → Option DeviceCall
    → Option DeviceCall → Type 0
FailsWriting None ws made before now = now ≡ before
FailsWriting (Some (Io count)) ws made before now =
    IfTold now (λ last. option_map call_of_write (stopped_at ws made) ≡ Some last)
FailsWriting (Some NoSpace) ws made before now = now ≡ before

-- a call failed last of which that holds, behind calls, by the fault that they tell
abbrev pub FailsAt : (DeviceCall → Type 0) → Option ℕ → Option DeviceCall → Type 0
FailsAt P None last = Unit {0}
FailsAt P (Some count) last = IfTold last P

-- Of a store.

-- which of its calls failed last, behind this one
abbrev pub IsStoreCallAfterStop : StoreStop → CallOnFile → Option CallOnFile → Option CallOnFile
    → Type 0
IsStoreCallAfterStop Failed call before now = IfTold now (λ last. last ≡ call)
IsStoreCallAfterStop stop call before now = now ≡ before

abbrev pub IsStoreCallAfter : {A : Type 0} → Result A StoreStop → CallOnFile → Option CallOnFile
    → Option CallOnFile → Type 0
IsStoreCallAfter (Ok done) call before now = now ≡ before
IsStoreCallAfter (Err stop) call before now = IsStoreCallAfterStop stop call before now
