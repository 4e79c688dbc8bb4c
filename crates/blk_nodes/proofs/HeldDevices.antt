-- The devices of the nodes in their list, and one that was used.
use Rattle.std.proofs.Common.{◌≡◌, ◌≢◌, ℕ, zero, suc, ◌<◌, ◌≤◌, ◌==◌, nat_lt, Bool, true, false, cond, List, [], ◌∷◌, length, map, get_or, set, refl, sym, ◌∙◌, ap, subst, arith, inl, Option, Some, None, Result, Ok, Err}
use Rattle.std.specs.Prelude.{IsSome, is_some, IfOk, IfErr, OnOk}
use Rattle.std.specs.List.{position, position_or_len}
use Rattle.std.proofs.lemmas.List.{set-get_or}
use Rattle.std.proofs.lemmas.List.Quantifiers.{position-Some}
use Rattle.std.proofs.lemmas.List.Sums.{fails_before_first}
use Rattle.std.proofs.lemmas.Bool.{eqb-true, ne_eqb}
use Rattle.std.proofs.lemmas.Bool.Decides.{nat_tests}
use Rattle.blk_graph.proofs.Members.{find-Some}
use Rattle.blk_base.specs.Calls.{FailsReading}
use Rattle.blk_base.specs.Content.{AreZeroPast}
use Rattle.blk_base.specs.Device.{CountsFault}
use Rattle.blk_base.specs.declared.device.DeviceCall.{DeviceCall}
use Rattle.blk_base.specs.declared.fault.DevNo.{DevNo}
use Rattle.blk_base.specs.declared.fault.Outcome.{Outcome}
use Rattle.blk_base.specs.declared.fault.Outcome.TheVariants.{Good, Torn, Io, NoSpace}
use Rattle.blk_nodes.specs.Contents.{told, bytes_by}
use Rattle.blk_nodes.specs.Found.{IsZeroPastFile}
use Rattle.blk_nodes.specs.Nodes.{DeviceSeen, AreTold, IsFileTold, is_device_of, device_in}
use Rattle.blk_nodes.specs.Changing.{ImageChange}
use Rattle.blk_nodes.specs.Writing.{IsDeviceAfter, IsWriteOf, IsWriteAt, IsImageCall, IsImageCallAt, HasImageCause, HasRoomBy, HasRoomAt}
use Rattle.blk_nodes.specs.Flushing.{IsFlushOf, IsFlushAt}
use Rattle.q2_image.specs.Image.{Known}
use Rattle.q2_image.specs.Opening.{fault_in_image}
use Rattle.q2_image.specs.declared.stop.ImageStop.{ImageStop}
use Rattle.q2_image.specs.declared.stop.ImageStop.TheVariants as images
use Rattle.blk_nodes.specs.Overlays.{IsOpenedOn, IsOpened, IsUnopenedOn, IsUnopened, KeptBy}
use Rattle.blk_nodes.specs.Reading.{OnlyAt, HasRisen, HaveRisen, IsReadOf, IsReadAt}

-- that is the first place at which the test passes
pub record IsFirst {A : Type 0} (test : A → Bool) (xs : List A) (at : ℕ) (x : A) : Type 0 where
  pub within : at < length xs
  pub passes : test (get_or xs at x) ≡ true
  pub before : (k : ℕ) → k < at → test (get_or xs k x) ≡ false

pub first : {A : Type 0} (test : A → Bool) (xs : List A) (at : ℕ) (x : A) → position test xs ≡ Some at → IsFirst test xs at x
first test xs at x is = let p = position-Some test xs at x is in record { within = p.0; passes = p.1; before = p.2 }

pub later : {A : Type 0} (test : A → Bool) (y : A) (xs : List A) (at : ℕ) (x : A) → IsFirst test (y ∷ xs) (suc at) x → IsFirst test xs at x
later test y xs at x is = record { within = omega (arith, is.within); passes = is.passes; before = λ k below. is.before (suc k) (omega arith) }

past : (n at : ℕ) → cond (nat_lt at n) (Some at) None ≡ None → n ≤ at
past n at is = grind (arith, nat_tests)

pub nowhere : {A : Type 0} (test : A → Bool) (xs : List A) (x : A) → position test xs ≡ None → (k : ℕ) → k < length xs → test (get_or xs k x) ≡ false
nowhere test xs x is k below = fails_before_first test xs k x (omega (arith, past (length xs) (position_or_len test xs) is))

found : (file : ℕ) (devices : List DeviceSeen) (at : ℕ) (d : DeviceSeen) → IsFirst (is_device_of file) devices at d → device_in devices file ≡ Some (get_or devices at d)
found file [] at d is = absurd (omega (arith, is.within))
found file (device ∷ devices) zero d is = rw is.passes refl
found file (device ∷ devices) (suc at) d is = rw (is.before 0 (omega arith)) (found file devices at d (later _ device devices at d is))

pub missing : (file : ℕ) (devices : List DeviceSeen) → ((k : ℕ) (d : DeviceSeen) → k < length devices → is_device_of file (get_or devices k d) ≡ false) → device_in devices file ≡ None
missing file [] none = refl
missing file (device ∷ devices) none = rw (none 0 device (omega arith)) (missing file devices (λ k d below. none (suc k) d (omega arith)))

-- a device has a place in the list
pub is_placed : (file : ℕ) (devices : List DeviceSeen) → position (is_device_of file) devices ≡ None → IsSome (device_in devices file) → ⊥
is_placed file devices is there =
    let none = missing file devices (λ k d below. nowhere (is_device_of file) devices d is k below) in
    let bad : is_some {T = DeviceSeen} None ≡ true = rw none at there in
    absurd (cc bad)

pub at_place : (file : ℕ) (devices : List DeviceSeen) (at : ℕ) (d : DeviceSeen) → position (is_device_of file) devices ≡ Some at → device_in devices file ≡ Some (get_or devices at d)
at_place file devices at d is = found file devices at d (first (is_device_of file) devices at d is)

-- a device takes the place of itself
used : (file : ℕ) (devices : List DeviceSeen) (at : ℕ) (d y : DeviceSeen) → IsFirst (is_device_of file) devices at d → HasRisen (get_or devices at d) y
    → device_in (set devices at y) file ≡ Some y
used file [] at d y is risen = absurd (omega (arith, is.within))
used file (device ∷ devices) zero d y is risen =
    let node : y.node ≡ device.node = ap (λ (d : DeviceSeen). d.node) (risen.same) in
    rw (node, is.passes) refl
used file (device ∷ devices) (suc at) d y is risen =
    rw (is.before 0 (omega arith)) (used file devices at d y (later _ device devices at d is) risen)

pub HasRisen-refl : (device : DeviceSeen) → HasRisen device device
HasRisen-refl device = record { same = refl; faults = omega arith }

pub HaveRisen-refl : (devices : List DeviceSeen) → HaveRisen devices devices
HaveRisen-refl [] = tt
HaveRisen-refl (device ∷ devices) = (HasRisen-refl device, HaveRisen-refl devices)

pub HaveRisen-set : (devices : List DeviceSeen) (at : ℕ) (d y : DeviceSeen) → at < length devices → HasRisen (get_or devices at d) y → HaveRisen devices (set devices at y)
HaveRisen-set [] at d y within risen = absurd (omega (arith, within))
HaveRisen-set (device ∷ devices) zero d y within risen = (risen, HaveRisen-refl devices)
HaveRisen-set (device ∷ devices) (suc at) d y within risen = (HasRisen-refl device, HaveRisen-set devices at d y (omega arith) risen)

pub told_is : (content : Option (List ℕ)) → is_some content ≡ true → content ≡ Some (told content)
told_is None is = absurd (cc is)
told_is (Some bytes) is = refl

-- the device at a place tells its bytes
pub told_at : (file : ℕ) (devices : List DeviceSeen) (at : ℕ) (d : DeviceSeen) → position (is_device_of file) devices ≡ Some at → IsFileTold devices file
    → (get_or devices at d).content ≡ Some (bytes_by (device_in devices file))
told_at file devices at d place told =
    let held = at_place file devices at d place in
    rw held (told_is (get_or devices at d).content (told (get_or devices at d) held))

-- that of each `file` node does, where all do
pub held_told : (devices : List DeviceSeen) (file : ℕ) → AreTold devices → IsFileTold devices file
held_told devices file all device held = all device (find-Some (is_device_of file) devices device held).0

-- which devices there are stays
back_or : (file : ℕ) (a b : DeviceSeen) (old new : List DeviceSeen) (y : DeviceSeen) (here : Bool) → HasRisen a b
    → (device_in new file ≡ Some y → (x : DeviceSeen) × (device_in old file ≡ Some x) × HasRisen x y)
    → cond here (Some b) (device_in new file) ≡ Some y → (x : DeviceSeen) × (cond here (Some a) (device_in old file) ≡ Some x) × HasRisen x y
back_or file a b old new y true risen rest is = let same : b ≡ y = cc in (a, refl, subst (λ (d : DeviceSeen). HasRisen a d) same risen)
back_or file a b old new y false risen rest is = rest is

pub before_rise : (file : ℕ) (old new : List DeviceSeen) (y : DeviceSeen) → HaveRisen old new → device_in new file ≡ Some y
    → (x : DeviceSeen) × (device_in old file ≡ Some x) × HasRisen x y
before_rise file [] [] y risen is = absurd cc
before_rise file (a ∷ old) (b ∷ new) y risen is =
    let node : b.node ≡ a.node = ap (λ (d : DeviceSeen). d.node) (risen.0.same) in
    let P : Bool → Type 0 = λ here. cond here (Some b) (device_in new file) ≡ Some y in
    back_or file a b old new y (a.node == file) risen.0 (before_rise file old new y risen.1) (subst P (ap (λ (n : ℕ). n == file) node) is)
before_rise file [] (b ∷ new) y risen is = absurd risen
before_rise file (a ∷ old) [] y risen is = absurd risen

forth_or : (file : ℕ) (a b : DeviceSeen) (old new : List DeviceSeen) (here : Bool)
    → (IsSome (device_in old file) → IsSome (device_in new file)) → IsSome (cond here (Some a) (device_in old file)) → IsSome (cond here (Some b) (device_in new file))
forth_or file a b old new true rest is = refl
forth_or file a b old new false rest is = rest is

pub held_after : (file : ℕ) (old new : List DeviceSeen) → HaveRisen old new → IsSome (device_in old file) → IsSome (device_in new file)
held_after file [] [] risen is = is
held_after file (a ∷ old) (b ∷ new) risen is =
    let node : b.node ≡ a.node = ap (λ (d : DeviceSeen). d.node) (risen.0.same) in
    let P : Bool → Type 0 = λ here. IsSome (cond here (Some b) (device_in new file)) in
    subst P (ap (λ (n : ℕ). n == file) (sym node)) (forth_or file a b old new (a.node == file) (held_after file old new risen.1) is)
held_after file [] (b ∷ new) risen is = absurd risen
held_after file (a ∷ old) [] risen is = absurd risen

after_or : (file : ℕ) (a b : DeviceSeen) (old new : List DeviceSeen) (here : Bool)
    → (IsSome (device_in new file) → IsSome (device_in old file)) → IsSome (cond here (Some b) (device_in new file)) → IsSome (cond here (Some a) (device_in old file))
after_or file a b old new true rest is = refl
after_or file a b old new false rest is = rest is

pub held_before : (file : ℕ) (old new : List DeviceSeen) → HaveRisen old new → IsSome (device_in new file) → IsSome (device_in old file)
held_before file [] [] risen is = is
held_before file (a ∷ old) (b ∷ new) risen is =
    let node : b.node ≡ a.node = ap (λ (d : DeviceSeen). d.node) (risen.0.same) in
    let P : Bool → Type 0 = λ here. IsSome (cond here (Some b) (device_in new file)) in
    after_or file a b old new (a.node == file) (held_before file old new risen.1) (subst P (ap (λ (n : ℕ). n == file) node) is)
held_before file [] (b ∷ new) risen is = absurd risen
held_before file (a ∷ old) [] risen is = absurd risen

-- a device that is held tells its bytes, where all do
pub told_held : (file : ℕ) (devices : List DeviceSeen) → AreTold devices → IsSome (device_in devices file)
    → (d : DeviceSeen) × (device_in devices file ≡ Some d) × (d.content ≡ Some (bytes_by (device_in devices file)))
told_held file devices all some = by_found (device_in devices file) refl some
  where
    by_found : (found : Option DeviceSeen) → device_in devices file ≡ found → IsSome found → (d : DeviceSeen) × (device_in devices file ≡ Some d) × (d.content ≡ Some (bytes_by (device_in devices file)))
    by_found None is bad = absurd (cc bad)
    by_found (Some d) is here = (d, is, rw is (told_is d.content (all d (find-Some (is_device_of file) devices d is).0)))

-- a device of the same node in its place
placed : (file : ℕ) (devices : List DeviceSeen) (at : ℕ) (d y : DeviceSeen) → IsFirst (is_device_of file) devices at d → y.node ≡ (get_or devices at d).node
    → device_in (set devices at y) file ≡ Some y
placed file [] at d y is same = absurd (omega (arith, is.within))
placed file (device ∷ devices) zero d y is same = rw (same, is.passes) refl
placed file (device ∷ devices) (suc at) d y is same =
    rw (is.before 0 (omega arith)) (placed file devices at d y (later _ device devices at d is) same)

pub put_held : (file : ℕ) (devices : List DeviceSeen) (at : ℕ) (d y : DeviceSeen) → position (is_device_of file) devices ≡ Some at → y.node ≡ (get_or devices at d).node
    → device_in (set devices at y) file ≡ Some y
put_held file devices at d y place same = placed file devices at d y (first (is_device_of file) devices at d place) same

-- the others are found as before
others_by : (file : ℕ) (devices : List DeviceSeen) (at : ℕ) (d y : DeviceSeen) (other : ℕ) → IsFirst (is_device_of file) devices at d → y.node ≡ (get_or devices at d).node
    → other ≢ file → device_in (set devices at y) other ≡ device_in devices other
others_by file [] at d y other is same apart = absurd (omega (arith, is.within))
others_by file (device ∷ devices) zero d y other is same apart =
    let of : device.node ≡ file = eqb-true device.node file is.passes in
    let old : (device.node == other) ≡ false = ne_eqb device.node other (λ e. apart (sym e ∙ of)) in
    let now : (y.node == other) ≡ false = ne_eqb y.node other (λ e. apart (sym e ∙ same ∙ of)) in
    rw (old, now) refl
others_by file (device ∷ devices) (suc at) d y other is same apart =
    ap (λ (found : Option DeviceSeen). cond (device.node == other) (Some device) found)
    (others_by file devices at d y other (later _ device devices at d is) same apart)

nodes_kept : (devices : List DeviceSeen) (at : ℕ) (d y : DeviceSeen) → at < length devices → y.node ≡ (get_or devices at d).node
    → map (λ (x : DeviceSeen). x.node) (set devices at y) ≡ map (λ (x : DeviceSeen). x.node) devices
nodes_kept [] at d y within same = absurd (omega (arith, within))
nodes_kept (x ∷ devices) zero d y within same = ap (λ (n : ℕ). n ∷ map (λ (x : DeviceSeen). x.node) devices) same
nodes_kept (x ∷ devices) (suc at) d y within same =
    ap (λ (ns : List ℕ). x.node ∷ ns) (nodes_kept devices at d y (omega arith) same)

pub only_at : (file : ℕ) (devices : List DeviceSeen) (at : ℕ) (d y : DeviceSeen) → position (is_device_of file) devices ≡ Some at → y.node ≡ (get_or devices at d).node
    → OnlyAt file devices (set devices at y)
only_at file devices at d y place same =
    let is = first (is_device_of file) devices at d place in
    record {
      nodes = nodes_kept devices at d y is.within same;
      others = λ other apart. others_by file devices at d y other is same apart;
    }

-- a call of one of the devices that reads
pub read_over : (file : ℕ) (call : DeviceCall) (devices : List DeviceSeen) (at : ℕ) (d y : DeviceSeen) (outcome : Outcome) → position (is_device_of file) devices ≡ Some at
    → HasRisen (get_or devices at d) y → IsReadOf call (get_or devices at d) y outcome → IsReadAt file call devices (set devices at y) outcome
read_over file call devices at d y Good place risen is = ap (set devices at) is ∙ set-get_or devices at d
read_over file call devices at d y (Torn done dev count) place risen is = is
read_over file call devices at d y (Io dev count) place risen is =
    let same : y.node ≡ (get_or devices at d).node = ap (λ (x : DeviceSeen). x.node) risen.same in (
      record {
        before = get_or devices at d;
        after = y;
        held = at_place file devices at d place;
        left = put_held file devices at d y place same;
        stopped = is.0;
        only = only_at file devices at d y place same;
      },
      is.1,
    )
read_over file call devices at d y (NoSpace dev) place risen is = is

-- what was read of the device at a place is 0 past its end
pub past_over : (file : ℕ) (devices : List DeviceSeen) (at : ℕ) (d : DeviceSeen) (start : ℕ) (bytes : List ℕ) → position (is_device_of file) devices ≡ Some at
    → AreZeroPast (get_or devices at d).size start bytes → IsZeroPastFile devices file start bytes
past_over file devices at d start bytes place past = rw (at_place file devices at d place) past

-- a write of one of the devices
pub written_over : (file : ℕ) (devices : List DeviceSeen) (at : ℕ) (d y : DeviceSeen) (start : ℕ) (bytes : List ℕ) (outcome : Outcome) → position (is_device_of file) devices ≡ Some at
    → IsWriteOf (get_or devices at d) y start bytes outcome → IsWriteAt file devices (set devices at y) start bytes outcome
written_over file devices at d y start bytes outcome place wrote = record {
  before = get_or devices at d;
  after = y;
  held = at_place file devices at d place;
  left = put_held file devices at d y place wrote.node;
  wrote = wrote;
  only = only_at file devices at d y place wrote.node;
}

-- a flush of one of the devices
pub flushed_over : (file : ℕ) (devices : List DeviceSeen) (at : ℕ) (d y : DeviceSeen) (outcome : Outcome) → position (is_device_of file) devices ≡ Some at
    → IsFlushOf (get_or devices at d) y outcome → IsFlushAt file devices (set devices at y) outcome
flushed_over file devices at d y outcome place flush =
    let same : y.node ≡ (get_or devices at d).node = ap (λ (x : DeviceSeen). x.node) flush.is in
    inl record {
      before = get_or devices at d;
      after = y;
      held = at_place file devices at d place;
      left = put_held file devices at d y place same;
      flush = flush;
      only = only_at file devices at d y place same;
    }

-- the image on one of the devices was opened, or not
pub opened_over : {E : Type 0} (file : ℕ) (devices : List DeviceSeen) (at : ℕ) (d : DeviceSeen) (result : Result Known E) → position (is_device_of file) devices ≡ Some at
    → IfOk result (IsOpenedOn (get_or devices at d)) → IfOk result (IsOpened devices file)
opened_over file devices at d (Ok image) place is = record { device = get_or devices at d; held = at_place file devices at d place; on = is }
opened_over file devices at d (Err stop) place is = tt

-- a call that no failed read stopped has changed nothing
kept_over : (devices : List DeviceSeen) (at : ℕ) (d y : DeviceSeen) (stop : ImageStop) → HasRisen (get_or devices at d) y
    → CountsFault (fault_in_image stop) (get_or devices at d).faults y.faults
    → FailsReading (fault_in_image stop) (get_or devices at d).failed_call y.failed_call → KeptBy stop devices (set devices at y)
kept_over devices at d y (images.Io count) risen cause call = tt
kept_over devices at d y _ risen cause call =
    let x : DeviceSeen = get_or devices at d in
    let counted : ℕ → Option DeviceCall → DeviceSeen = λ n last. record x { faults = n; failed_call = last } in
    let same : y ≡ x = risen.same ∙ ap (λ (n : ℕ). counted n y.failed_call) cause ∙ ap (λ (last : Option DeviceCall). counted x.faults last) call in
    ap (set devices at) same ∙ set-get_or devices at d

pub quiet_over : {A E : Type 0} (devices : List DeviceSeen) (at : ℕ) (d y : DeviceSeen) (result : Result A E)
    → OnOk result (y ≡ get_or devices at d) → OnOk result (set devices at y ≡ devices)
quiet_over devices at d y (Ok a) same = ap (set devices at) same ∙ set-get_or devices at d
quiet_over devices at d y (Err e) same = tt

pub unopened_over : {A : Type 0} (file : ℕ) (devices : List DeviceSeen) (at : ℕ) (d y : DeviceSeen) (result : Result A ImageStop) → position (is_device_of file) devices ≡ Some at
    → HasRisen (get_or devices at d) y → IfErr result (IsUnopenedOn (get_or devices at d) y) → IfErr result (IsUnopened devices (set devices at y) file)
unopened_over file devices at d y (Ok image) place risen is = tt
unopened_over file devices at d y (Err stop) place risen is = record {
  before = get_or devices at d;
  after = y;
  held = at_place file devices at d place;
  left = put_held file devices at d y place (ap (λ (x : DeviceSeen). x.node) risen.same);
  on = is;
  only = only_at file devices at d y place (ap (λ (x : DeviceSeen). x.node) risen.same);
  kept = kept_over devices at d y stop risen is.cause is.call;
}

-- a call of the image on one of the devices
pub called_over : (file : ℕ) (devices : List DeviceSeen) (at : ℕ) (d y : DeviceSeen) (fits : ℕ → Type 0) (own : Option ℕ) (change : ImageChange)
    (image now : Known) (place : ℕ) (bytes : List ℕ) (outcome : Outcome) → position (is_device_of file) devices ≡ Some at
    → IsImageCall (fits (get_or devices at d).capacity) own change (get_or devices at d) y image now place bytes outcome
    → IsImageCallAt file fits own change devices (set devices at y) image now place bytes outcome
called_over file devices at d y fits own change image now place bytes outcome is call = record {
  before = get_or devices at d;
  after = y;
  held = at_place file devices at d is;
  left = put_held file devices at d y is call.wrote.device.node;
  call = call;
  only = only_at file devices at d y is call.wrote.device.node;
  full = λ dev none. ap (set devices at) (nothing outcome dev none call.cause) ∙ set-get_or devices at d;
}
  where
    nothing : (o : Outcome) (dev : DevNo) → o ≡ NoSpace dev
        → HasImageCause (fits (get_or devices at d).capacity) own (length bytes) (get_or devices at d) y image now o → y ≡ get_or devices at d
    nothing Good dev none cause = absurd (cc none)
    nothing (Torn done other count) dev none cause = absurd (cc none)
    nothing (Io other count) dev none cause = absurd (cc none)
    nothing (NoSpace other) dev none cause = cause.2

-- whether there is room on one of the devices
pub room_over : (file : ℕ) (devices : List DeviceSeen) (at : ℕ) (d : DeviceSeen) (fits : ℕ → Type 0) (outcome : Outcome) → position (is_device_of file) devices ≡ Some at
    → HasRoomBy (fits (get_or devices at d).capacity) (get_or devices at d) outcome → HasRoomAt file devices fits outcome
room_over file devices at d fits outcome is room device held =
    let same : get_or devices at d ≡ device = cc (sym (at_place file devices at d is) ∙ held) in
    subst (λ (x : DeviceSeen). HasRoomBy (fits x.capacity) x outcome) same room

-- a device of which only the count has risen, and which call failed last
pub device_risen : (old new : DeviceSeen) → HasRisen old new → IsDeviceAfter old new
device_risen old new is = record {
  node = ap (λ (d : DeviceSeen). d.node) is.same;
  number = ap (λ (d : DeviceSeen). d.number) is.same;
  told = ap (λ (d : DeviceSeen). is_some d.content) is.same;
  capacity = ap (λ (d : DeviceSeen). d.capacity) is.same;
  faults = is.faults;
}

pub some_device : (found : Option DeviceSeen) → IsSome found → (device : DeviceSeen) × (found ≡ Some device)
some_device None is = absurd (cc is)
some_device (Some device) is = (device, refl)
