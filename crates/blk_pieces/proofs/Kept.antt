-- What a read of a guest was, where a copy-on-read keeps nothing of it, and where one image is to keep it.
use Rattle.std.proofs.Common.{◌≡◌, ℕ, List, [], ◌∷◌, sym, ◌∙◌, ap, subst, inl, inr}
use Rattle.std.specs.Prelude.{◌⊎◌}
use Rattle.blk_base.specs.Pieces.{Extent}
use Rattle.blk_base.specs.declared.fault.DevNo.{DevNo}
use Rattle.blk_base.specs.declared.fault.Outcome.{Outcome}
use Rattle.blk_base.specs.declared.fault.Outcome.TheVariants.{Good, NoSpace}
use Rattle.blk_nodes.specs.Contents.{disk_of}
use Rattle.blk_nodes.specs.Copying.{LacksRoomIn, LowestLacks, MapsNext, MapsEach, MapsOne, StopsUnread, images_met}
use Rattle.blk_nodes.specs.Nodes.{Nodes, DeviceSeen}
use Rattle.blk_nodes.specs.Reading.{HaveRisen, IsReadBelow}
use Rattle.blk_nodes.proofs.Disks.{disks_risen}
use Rattle.blk_nodes.proofs.HeldDevices.{HaveRisen-refl}
use Rattle.blk_pieces.specs.Pieces.{ReadsPart}

-- ---- nothing was written

-- the drive was read: of devices counts alone may have risen, and which call failed last
pub record ReadsOnly (old new : Nodes) (drive : ℕ) (outcome : Outcome) : Type 0 where
  pub kept : new ≡ record old { devices = new.devices }
  pub devices : HaveRisen old.devices new.devices
  pub outcome_is : IsReadBelow old new drive outcome
  pub disks : (other : ℕ) → disk_of new other ≡ disk_of old other

reads_only : (old new : Nodes) (drive : ℕ) (outcome : Outcome) → new ≡ record old { devices = new.devices } → HaveRisen old.devices new.devices
    → IsReadBelow old new drive outcome → ReadsOnly old new drive outcome
reads_only old new drive outcome kept risen read = record {
  kept = kept;
  devices = risen;
  outcome_is = read;
  disks = λ other. ap (λ (n : Nodes). disk_of n other) kept ∙ disks_risen old new.devices risen other;
}

reads_good : (old new : Nodes) (drive : ℕ) (outcome : Outcome) → new ≡ old → outcome ≡ Good → ReadsOnly old new drive outcome
reads_good old new drive outcome same good =
    reads_only old new drive outcome (same ∙ ap (λ (devices : List DeviceSeen). record old { devices = devices }) (sym (ap (λ (n : Nodes). n.devices) same)))
    (subst (λ (n : Nodes). HaveRisen old.devices n.devices) (sym same) (HaveRisen-refl old.devices))
    (subst (λ (o : Outcome). IsReadBelow old new drive o) (sym good) same)

-- a fault stopped it before all was read
pub stopped_only : (old new : Nodes) (drive : ℕ) (part : Extent) (outcome : Outcome) → StopsUnread old new drive part outcome → ReadsOnly old new drive outcome
stopped_only old new drive part outcome stops =
    reads_only old new drive outcome stops.kept stops.devices (subst (λ (o : Outcome). IsReadBelow old new drive o) (sym stops.is) stops.stopped)

module _ (old new : Nodes) (drive : ℕ) (part : Extent) (outcome : Outcome) (buffer : List ℕ) (did : ReadsPart old new drive part outcome buffer) where
  -- where no image is to keep it
  pub none_met : images_met old drive part.start ≡ [] → ReadsOnly old new drive outcome
  none_met none = elim did.went [
    | inl lacks ↦ absurd (subst (LowestLacks old part lacks.dev) none lacks.lacks)
    | inr reads ↦ elim reads.went [
      | inl stops ↦ stopped_only old new drive part outcome stops
      | inr maps ↦
          let all : MapsEach [] old new part buffer outcome = subst (λ (images : List ℕ). MapsEach images old new part buffer outcome) none maps in
          reads_good old new drive outcome all.0 all.1
    ]
  ]

-- ---- one image is to keep it

-- it has no room, and nothing was tried
pub record LacksItsRoom (old new : Nodes) (node : ℕ) (part : Extent) (outcome : Outcome) : Type 0 where
  pub dev : DevNo
  pub is : outcome ≡ NoSpace dev
  pub lacks : LacksRoomIn old part dev node
  pub same : new ≡ old

-- it has none, or a fault stopped the read before that, or what was read was written to it
abbrev pub ReadsIntoOne : Nodes → Nodes → ℕ → ℕ → Extent → Outcome → List ℕ → Type 0
ReadsIntoOne old new drive node part outcome buffer =
    LacksItsRoom old new node part outcome ⊎ (StopsUnread old new drive part outcome ⊎ MapsOne old new node part buffer outcome)

only_lacks : (old : Nodes) (part : Extent) (dev : DevNo) (node : ℕ) → LowestLacks old part dev (node ∷ []) → LacksRoomIn old part dev node
only_lacks old part dev node (inl none) = absurd none
only_lacks old part dev node (inr lacks) = lacks.1

maps_first : (old new : Nodes) (node : ℕ) (part : Extent) (outcome : Outcome) (buffer : List ℕ) → MapsEach (node ∷ []) old new part buffer outcome
    → MapsOne old new node part buffer outcome
maps_first old new node part outcome buffer maps =
    let first : MapsNext Good maps.0 new node part buffer outcome = subst (λ (o : Outcome). MapsNext o maps.0 new node part buffer outcome) maps.2.1 maps.3 in
    subst (λ (mid : Nodes). MapsOne mid new node part buffer outcome) maps.2.0 first

module _ (old new : Nodes) (drive : ℕ) (part : Extent) (outcome : Outcome) (buffer : List ℕ) (did : ReadsPart old new drive part outcome buffer) where
  pub one_met : (node : ℕ) → images_met old drive part.start ≡ node ∷ [] → ReadsIntoOne old new drive node part outcome buffer
  one_met node one = elim did.went [
    | inl lacks ↦
        inl (record {
          dev = lacks.dev;
          is = lacks.is;
          lacks = only_lacks old part lacks.dev node (subst (LowestLacks old part lacks.dev) one lacks.lacks);
          same = lacks.same;
        })
    | inr reads ↦ elim reads.went [
      | inl stops ↦ inr (inl stops)
      | inr maps ↦ inr (inr (maps_first old new node part outcome buffer (subst (λ (images : List ℕ). MapsEach images old new part buffer outcome) one maps)))
    ]
  ]
