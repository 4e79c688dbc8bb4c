-- What the last flush leaves of the nodes and of the device that is given back.
use Rattle.std.proofs.Common.{◌≡◌, ℕ, ◌≤◌, ◌||◌, Bool, true, false, List, [], ◌∷◌, refl, sym, ◌∙◌, ap, subst, arith, Option, Some, None, inl, inr}
use Rattle.std.specs.Prelude.{is_some, is_none, option_map}
use Rattle.std.proofs.lemmas.Bool.{false≢true}
use Rattle.blk_base.specs.Counts.{Rose}
use Rattle.blk_base.specs.Outcomes.{is_good}
use Rattle.blk_base.specs.declared.fault.DevNo.{DevNo}
use Rattle.blk_base.specs.declared.fault.FaultAt.{FaultAt}
use Rattle.blk_base.specs.declared.fault.FaultFrom.TheVariants.{Dev}
use Rattle.blk_base.specs.declared.fault.Outcome.{Outcome}
use Rattle.blk_base.specs.declared.fault.Outcome.TheVariants.{Good, Torn, Io, NoSpace}
use Rattle.blk_nodes.specs.Contents.{disk_of, Unfolds}
use Rattle.blk_nodes.specs.Flushing.{base_of, HasFlushCause, IsFlushOn, IsFlushAt}
use Rattle.blk_nodes.specs.Joined.{IsJoined}
use Rattle.blk_nodes.specs.Nodes.{Nodes, DeviceSeen, device_in, filtered_of}
use Rattle.blk_nodes.specs.Reading.{StoppedBy}
use Rattle.qblk_core.specs.Along.{CountsOutcome}
use Rattle.qblk_core.specs.ImageNodes.{only_device, HaveOneImage, HaveShapeOf, content_of, device_faults, capacity_of, told_disk}
use Rattle.qblk_core.specs.Session.{flush_fault, AreNodesClosed}
use Rattle.qblk_core.proofs.OneDevice.{head-same, content-is, faults-is, capacity-is}
use Rattle.blk_pieces.proofs.Rows.{rows_kept}
use Rattle.qblk_core.proofs.OneImage.{StepsOnDevice, base-is, no-filter, flush-goes, flush-size, shape-after, one-after, the-one}

-- the last flush was good, or its fault is told
abbrev pub IsFlushed : DeviceSeen → ℕ → Option FaultAt → Type 0
IsFlushed now faults None = ((bytes : List ℕ) → now.content ≡ Some bytes → now.is_flushed ≡ Some true) × (now.faults ≡ faults)
IsFlushed now faults (Some fault) = (fault.from ≡ Dev only_device) × Rose faults fault.count × (fault.count ≡ now.faults)

pub record HasClosed (left last : Nodes) (flush : Outcome) (n : DeviceSeen) (fault : Option FaultAt) : Type 0 where
  pub flushed : IsFlushed n (device_faults left) fault
  pub good : is_good flush ≡ is_none fault
  pub more : device_faults left ≤ n.faults
  pub counts : CountsOutcome (device_faults left) n.faults flush
  pub content : content_of left ≡ n.content
  pub capacity : capacity_of left ≡ Some n.capacity
  pub disk : told_disk last ≡ told_disk left
  pub shape : HaveShapeOf left last

flag-true : (before now : Option Bool) → now ≡ option_map (λ f. true || f) before → is_some now ≡ true → now ≡ Some true
flag-true None now is some = absurd (false≢true (sym (ap is_some is) ∙ some))
flag-true (Some f) now is some = is

flushed-by : (before n : DeviceSeen) (flush : Outcome) (number : before.number ≡ only_device) → HasFlushCause before n flush
    → n.is_flushed ≡ option_map (λ f. is_good flush || f) before.is_flushed
    → ((bytes : List ℕ) → n.content ≡ Some bytes → is_some n.is_flushed ≡ true)
    → IsFlushed n before.faults (flush_fault flush) × (is_good flush ≡ is_none (flush_fault flush))
flushed-by before n Good number cause is tells = ((λ bytes told. flag-true before.is_flushed n.is_flushed is (tells bytes told), cause), refl)
flushed-by before n (Torn done dev count) number cause is tells = absurd cause
flushed-by before n (Io dev count) number cause is tells = ((ap Dev (cause.named ∙ number), cause.rose, cause.now), refl)
flushed-by before n (NoSpace dev) number cause is tells = absurd cause

flushed-on : (left last : Nodes) (flush : Outcome) {n : DeviceSeen} {fault : Option FaultAt} → HaveOneImage left → AreNodesClosed left last flush n fault
    → IsFlushOn (base_of left 1) left.devices last.devices flush
flushed-on left last flush one closed = by closed.flushed.flushed
  where
    same : filtered_of left 0 ≡ None
    same = sym (ap (λ (nodes : Nodes). filtered_of nodes 0) closed.flushed.kept) ∙ no-filter last closed.joined closed.one

    by : IsFlushAt (base_of left 1) left.devices last.devices flush → IsFlushOn (base_of left 1) left.devices last.devices flush
    by (inl on) = on
    by (inr none) =
        let at : device_in left.devices 0 ≡ Some one.device = rw (one.only, one.node) refl in
        let bad : Some one.device ≡ None = sym at ∙ ap (device_in left.devices) (sym (base-is left one same)) ∙ none.0 in
        absurd (cc bad)

pub closed-facts : (left last : Nodes) (flush : Outcome) (n : DeviceSeen) (fault : Option FaultAt) → HaveOneImage left → AreNodesClosed left last flush n fault
    → ((bytes : List ℕ) → n.content ≡ Some bytes → is_some n.is_flushed ≡ true) → HasClosed left last flush n fault
closed-facts left last flush n fault one closed tells =
    let f = flushed-on left last flush one closed in
    let r = the-one left last one (base_of left 1) f.before f.after f.only f.held f.left in
    let after : f.after ≡ n = head-same f.after n [] (sym r.0 ∙ closed.given) in
    let was : f.before ≡ one.device = r.1 in
    let number : f.before.number ≡ only_device = ap (λ (x : DeviceSeen). x.number) was ∙ one.number in
    let is : n ≡ record f.before { is_flushed = option_map (λ b. is_good flush || b) f.before.is_flushed; faults = f.after.faults; failed_call = f.after.failed_call } = sym after ∙ f.flush.is in
    let cause : HasFlushCause f.before n flush = subst (λ (x : DeviceSeen). HasFlushCause f.before x flush) after f.flush.cause in
    let by = flushed-by f.before n flush number cause (ap (λ (x : DeviceSeen). x.is_flushed) is) tells in
    let faults : f.before.faults ≡ device_faults left = ap (λ (x : DeviceSeen). x.faults) was ∙ sym (faults-is left one.device one.only one.node) in
    let content : content_of left ≡ n.content = content-is left one.device one.only one.node ∙ sym (ap (λ (x : DeviceSeen). x.content) was) ∙ sym (ap (λ (x : DeviceSeen). x.content) is) in
    let node : n.node ≡ one.device.node = ap (λ (x : DeviceSeen). x.node) is ∙ ap (λ (x : DeviceSeen). x.node) was in
    let capacity : n.capacity ≡ one.device.capacity = ap (λ (x : DeviceSeen). x.capacity) is ∙ ap (λ (x : DeviceSeen). x.capacity) was in
    let now : content_of last ≡ n.content = content-is last n closed.given (node ∙ one.node) in
    record {
      flushed = subst (IsFlushed n (device_faults left)) (sym closed.told) (subst (λ (k : ℕ). IsFlushed n k (flush_fault flush)) faults by.0);
      good = by.1 ∙ ap is_none (sym closed.told);
      more = let least : f.before.faults ≤ n.faults = subst (λ (x : DeviceSeen). f.before.faults ≤ x.faults) after f.flush.faults in omega (arith, least, faults);
      counts =
          let g = flush-goes left last one (base_of left 1) flush (inl f) in
          subst (λ (k : ℕ). CountsOutcome k n.faults flush) (sym (faults-is left one.device one.only one.node))
          (subst (λ (x : DeviceSeen). CountsOutcome one.device.faults x.faults flush) (head-same g.device n [] (sym g.is ∙ closed.given)) g.steps.cause);
      content = content;
      capacity = capacity-is left one.device one.only one.node ∙ ap Some (sym capacity);
      disk = ap (option_map (λ (_ : List ℕ). disk_of last 1)) (now ∙ sym content) ∙ ap (λ (d : List ℕ). option_map (λ (_ : List ℕ). d) (content_of left)) (closed.flushed.disks 1);
      shape = shape-after left last one n closed.given node capacity (rows_kept left last closed.flushed.kept);
    }

-- the nodes that the last flush leaves
pub one-flushed : (left last : Nodes) (file : ℕ) (flush : Outcome) → HaveOneImage left → IsFlushAt file left.devices last.devices flush → last ≡ record left { devices = last.devices }
    → HaveOneImage last
one-flushed left last file flush one flushed kept =
    let g = flush-goes left last one file flush flushed in
    one-after left last one g.device g.is g.steps.node g.steps.number
    (λ p raw. flush-size left last one file flush g.device g.is flushed) (rows_kept left last kept)

pub closed-by : (left last : Nodes) (node : ℕ) (flush : Outcome) (back : DeviceSeen) (fault : Option FaultAt) → HaveOneImage left → node ≡ 1
    → IsFlushAt (base_of left node) left.devices last.devices flush → last ≡ record left { devices = last.devices } → ((other : ℕ) → disk_of last other ≡ disk_of left other)
    → IsJoined last → Unfolds last → fault ≡ flush_fault flush → last.devices ≡ back ∷ [] → AreNodesClosed left last flush back fault
closed-by left last node flush back fault one image flushed kept disks joined whole told given =
    let at : IsFlushAt (base_of left 1) left.devices last.devices flush = subst (λ (n : ℕ). IsFlushAt (base_of left n) left.devices last.devices flush) image flushed in
    record {
      flushed = record { flushed = at; kept = kept; disks = disks };
      told = told;
      joined = joined;
      disks = whole;
      one = one-flushed left last (base_of left 1) flush one at kept;
      given = given;
    }
