-- Which call failed last, behind one call and behind several.
use Rattle.std.proofs.Common.{◌≡◌, ℕ, List, [], ◌∷◌, ◌++◌, length, sym, ◌∙◌, ap, subst, Option, Some, None}
use Rattle.std.specs.Option.{option_map}
use Rattle.blk_base.specs.Calls.{FailedLast, FailsAt, IsWriteAfterStop, IsRead, FailsReading, FailsWriting, call_of_write}
use Rattle.blk_base.specs.Content.{Write}
use Rattle.blk_base.specs.Device.{IsMade}
use Rattle.blk_base.specs.Files.{IfTold}
use Rattle.blk_base.specs.Writes.{write_of, IsCutBy}
use Rattle.blk_base.specs.declared.device.DeviceCall.{DeviceCall}
use Rattle.blk_base.specs.declared.device.DeviceCall.TheVariants as calls
use Rattle.blk_base.specs.declared.device.Stop.{Stop}
use Rattle.blk_base.specs.declared.device.Stop.TheVariants as why
use Rattle.blk_base.specs.declared.fault.DevStop.{DevStop}
use Rattle.blk_base.specs.declared.fault.DevStop.TheVariants.{Io, NoSpace}
use Rattle.blk_base.proofs.WriteLists.{stopped_at-later, stopped_at-sooner}

pub if_told : {A : Type 0} (P Q : A → Type 0) (told : Option A) → ((a : A) → P a → Q a) → IfTold told P → IfTold told Q
if_told P Q None map is = is
if_told P Q (Some a) map is = map a is

-- a call that failed, of which something holds, and so something else
pub fails_at : (P : DeviceCall → Type 0) (told : Option ℕ) (call : DeviceCall) (last : Option DeviceCall) → P call → FailedLast call last → FailsAt P told last
fails_at P None call last holds is = tt
fails_at P (Some count) call last holds is =
    if_told (λ (other : DeviceCall). other ≡ call) P last (λ other same. subst P (sym same) holds) is

pub fails_as : (P Q : DeviceCall → Type 0) (told : Option ℕ) (last : Option DeviceCall) → ((call : DeviceCall) → P call → Q call) → FailsAt P told last → FailsAt Q told last
fails_as P Q None last map is = tt
fails_as P Q (Some count) last map is = if_told P Q last map is

-- a read that failed is one
pub read_failed : (offset len count : ℕ) (before now : Option DeviceCall) → FailedLast (calls.Read offset len) now → FailsReading (Some count) before now
read_failed offset len count before now last =
    if_told (λ (call : DeviceCall). call ≡ calls.Read offset len) IsRead now (λ call same. subst IsRead (sym same) tt) last

-- one write that failed, and one that was refused
pub write_failed : (at count : ℕ) (bytes : List ℕ) (made : Write) (reason : Stop) (before now : Option DeviceCall) → reason ≡ why.Failed
    → IsWriteAfterStop reason (calls.Write at (length bytes)) before now → FailsWriting (Some (Io count)) (write_of at bytes ∷ []) (made ∷ []) before now
write_failed at count bytes made reason before now is last =
    let failed : FailedLast (calls.Write at (length bytes)) now = subst (λ (r : Stop). IsWriteAfterStop r (calls.Write at (length bytes)) before now) is last in
    if_told (λ (call : DeviceCall). call ≡ calls.Write at (length bytes)) (λ call. Some (calls.Write at (length bytes)) ≡ Some call) now (λ call same. ap Some (sym same)) failed

pub write_refused : (at : ℕ) (bytes : List ℕ) (made : Write) (reason : Stop) (before now : Option DeviceCall) → reason ≡ why.NoSpace
    → IsWriteAfterStop reason (calls.Write at (length bytes)) before now → FailsWriting (Some NoSpace) (write_of at bytes ∷ []) (made ∷ []) before now
write_refused at bytes made reason before now is last = subst (λ (r : Stop). IsWriteAfterStop r (calls.Write at (length bytes)) before now) is last

-- writes behind some that were all made
pub call_later : (vs ws made : List Write) (stop : Option DevStop) (before mid now : Option DeviceCall) → IsMade stop ws made → mid ≡ before
    → FailsWriting stop ws made mid now → FailsWriting stop (vs ++ ws) (vs ++ made) before now
call_later vs ws made None before mid now part first later = later ∙ first
call_later vs ws made (Some (Io count)) before mid now part first later =
    subst (λ (w : Option Write). IfTold now (λ last. option_map call_of_write w ≡ Some last)) (sym (stopped_at-later (IsCutBy (Io count)) vs ws made part)) later
call_later vs ws made (Some NoSpace) before mid now part first later = later ∙ first

-- a stop, with others that would have come behind
pub call_sooner : (vs ws made : List Write) (stop : DevStop) (before now : Option DeviceCall) → IsMade (Some stop) vs made
    → FailsWriting (Some stop) vs made before now → FailsWriting (Some stop) (vs ++ ws) made before now
call_sooner vs ws made (Io count) before now part call =
    subst (λ (w : Option Write). IfTold now (λ last. option_map call_of_write w ≡ Some last)) (sym (stopped_at-sooner (IsCutBy (Io count)) vs ws made part)) call
call_sooner vs ws made NoSpace before now part call = call
