-- Counts that stay in an event, and those of which one rises.
use Rattle.std.proofs.Common.{◌≡◌, ◌≢◌, ◌⊎◌, ℕ, zero, suc, ◌+◌, ◌≤◌, ◌==◌, Bool, true, false, cond, List, [], ◌∷◌, ◌++◌, length, map, drop, refl, sym, ◌∙◌, ap, subst, arith, inl, inr, eq-eqb, Option, Some, None}
use Rattle.std.specs.Prelude.{AllPairs, Contains, slice_get, slice_set, option_map, unwrap_or}
use Rattle.std.proofs.lemmas.Bool.{cases_eq, eqb-true, ne_eqb}
use Rattle.std.proofs.lemmas.List.{append-nil}
use Rattle.std.proofs.lemmas.Option.{same_Some}
use Rattle.blk_base.specs.declared.fault.DevNo.{DevNo}
use Rattle.blk_base.specs.declared.fault.FaultFrom.TheVariants.{Store, Dev}
use Rattle.blk_base.specs.declared.file.Opened.{Opened}
use Rattle.blk_graph.proofs.Members.{find-Some}
use Rattle.blk_graph.proofs.RoleLemmas.{tail_pairs, head_pairs}
use Rattle.blk_nodes.specs.Joined.{DifferInNode}
use Rattle.blk_nodes.specs.Nodes.{Nodes, DeviceSeen, is_device_of, device_in}
use Rattle.blk_nodes.specs.Reading.{OnlyAt, StoppedAt}
use Rattle.qmp_rules.specs.Table.{RunTable}
use Rattle.flat_machine.specs.Licence.{Counts, fault_at}
use Rattle.world_parts.specs.Coherent.{AreOut}
use Rattle.world_parts.specs.Counting.{HidesNoFault, counts_within, counts_with}
use Rattle.world_parts.specs.Face.{WorldSeen, count_of_opening, counts_from, counts_now, device_numbered, first_counts}
use Rattle.world_parts.proofs.CountLemmas.{count-out, counts-at}

-- ---- counts of openings, by those of devices

abbrev pub faults_at : List DeviceSeen → ℕ → Option ℕ
faults_at devices n = option_map (λ (device : DeviceSeen). device.faults) (device_numbered devices n)

-- the same, and the same but at one number
abbrev pub AreSame : List DeviceSeen → List DeviceSeen → Type 0
AreSame old new = (n : ℕ) → faults_at new n ≡ faults_at old n

abbrev pub AreSameBut : ℕ → List DeviceSeen → List DeviceSeen → Type 0
AreSameBut at old new = (n : ℕ) → n ≢ at → faults_at new n ≡ faults_at old n

count-same : (old new : List DeviceSeen) (n : ℕ) (o : Opened) → faults_at new n ≡ faults_at old n
    → count_of_opening new n o ≡ count_of_opening old n o
count-same old new n o same = ap (λ (f : Option ℕ). unwrap_or o.returned (unwrap_or f o.faults)) same

counts-past : (old new : List DeviceSeen) (k : ℕ) (opened : List Opened) → ((n : ℕ) → k ≤ n → faults_at new n ≡ faults_at old n)
    → counts_from new k opened ≡ counts_from old k opened
counts-past old new k [] same = refl
counts-past old new k (o ∷ opened) same =
    ap (λ (c : ℕ). c ∷ counts_from new (k + 1) opened) (count-same old new k o (same k (omega arith)))
    ∙ ap (λ (l : List ℕ). count_of_opening old k o ∷ l)
    (counts-past old new (k + 1) opened (λ n least. same n (omega (arith, least))))

pub counts-same : (old new : List DeviceSeen) (opened : List Opened) → AreSame old new → counts_from new 0 opened ≡ counts_from old 0 opened
counts-same old new opened same = counts-past old new 0 opened (λ n least. same n)

counts-set : (old new : List DeviceSeen) (at count k m : ℕ) (opened : List Opened) → AreSameBut at old new → k + m ≡ at
    → ((o : Opened) → slice_get opened m ≡ Some o → count_of_opening new at o ≡ count)
    → counts_from new k opened ≡ slice_set (counts_from old k opened) m count
counts-set old new at count k m [] but is own = refl
counts-set old new at count k zero (o ∷ opened) but is own =
    let here : k ≡ at = omega (arith, is) in
    ap (λ (c : ℕ). c ∷ counts_from new (k + 1) opened) (ap (λ (n : ℕ). count_of_opening new n o) here ∙ own o refl)
    ∙ ap (λ (l : List ℕ). count ∷ l)
    (counts-past old new (k + 1) opened (λ n least. but n (λ same. absurd (omega (arith, least, same, here)))))
counts-set old new at count k (suc m) (o ∷ opened) but is own =
    ap (λ (c : ℕ). c ∷ counts_from new (k + 1) opened)
    (count-same old new k o (but k (λ same. absurd (omega (arith, is, same)))))
    ∙ ap (λ (l : List ℕ). count_of_opening old k o ∷ l)
    (counts-set old new at count (k + 1) m opened but (omega (arith, is)) own)

pub length-counts : (devices : List DeviceSeen) (k : ℕ) (opened : List Opened) → length (counts_from devices k opened) ≡ length opened
length-counts devices k [] = refl
length-counts devices k (o ∷ opened) = ap suc (length-counts devices (k + 1) opened)

-- counts that stay each by itself
pub counts-equal : (old new : List ℕ) → length new ≡ length old → ((n count : ℕ) → slice_get old n ≡ Some count → slice_get new n ≡ Some count)
    → new ≡ old
counts-equal [] [] long stay = refl
counts-equal [] (y ∷ new) long stay = absurd (omega (arith, long))
counts-equal (x ∷ old) [] long stay = absurd (omega (arith, long))
counts-equal (x ∷ old) (y ∷ new) long stay =
    ap (λ (c : ℕ). c ∷ new) (same_Some y x (stay 0 x refl))
    ∙ ap (λ (l : List ℕ). x ∷ l) (counts-equal old new (omega (arith, long)) (λ n count at. stay (suc n) count at))

-- ---- one node's device was called

-- each two devices one beside the other are related
abbrev pub AreRelated : (DeviceSeen → DeviceSeen → Type 0) → List DeviceSeen → List DeviceSeen → Type 0
AreRelated R [] [] = Unit {0}
AreRelated R (a ∷ old) (b ∷ new) = R a b × AreRelated R old new
AreRelated R _ _ = ⊥

module _ (R : DeviceSeen → DeviceSeen → Type 0) where
  related-found : (old new : List DeviceSeen) → map (λ (d : DeviceSeen). d.node) new ≡ map (λ (d : DeviceSeen). d.node) old
      → AllPairs DifferInNode old
      → ((node : ℕ) (x : DeviceSeen) → device_in old node ≡ Some x → (y : DeviceSeen) × (device_in new node ≡ Some y) × R x y)
      → AreRelated R old new
  related-found [] [] nodes once found = tt
  related-found [] (b ∷ new) nodes once found = absurd (let bad : ⊥ = cc nodes in bad)
  related-found (a ∷ old) [] nodes once found = absurd (let bad : ⊥ = cc nodes in bad)
  related-found (a ∷ old) (b ∷ new) nodes once found =
      let node : b.node ≡ a.node = cc nodes in
      let rest : map (λ (d : DeviceSeen). d.node) new ≡ map (λ (d : DeviceSeen). d.node) old = cc nodes in
      let here : device_in (a ∷ old) a.node ≡ Some a = rw (eq-eqb a.node a.node refl) refl in
      let now : device_in (b ∷ new) a.node ≡ Some b = rw (eq-eqb b.node a.node node) refl in
      let again = found a.node a here in
      let is_b : again.0 ≡ b = same_Some again.0 b (sym again.1 ∙ now) in
      (subst (R a) is_b again.2, related-found old new rest (tail_pairs DifferInNode a old once) (later node))
    where
      later : b.node ≡ a.node → (n : ℕ) (x : DeviceSeen) → device_in old n ≡ Some x
          → (y : DeviceSeen) × (device_in new n ≡ Some y) × R x y
      later node n x is =
          let at = find-Some (is_device_of n) old x is in
          let differ : a.node ≢ n = λ same. head_pairs DifferInNode a old once x at.0 (same ∙ sym (eqb-true x.node n at.1)) in
          let past : (a.node == n) ≡ false = ne_eqb a.node n differ in
          let past_now : (b.node == n) ≡ false = ne_eqb b.node n (λ same. differ (sym node ∙ same)) in
          let was : device_in (a ∷ old) n ≡ Some x = rw past is in
          let again = found n x was in
          (again.0, rw past_now at again.1, again.2)

  -- one node's device was used, and all others are as before
  pub related-only : (file : ℕ) (old new : List DeviceSeen) (before after : DeviceSeen) → AllPairs DifferInNode old
      → OnlyAt file old new → device_in old file ≡ Some before → device_in new file ≡ Some after
      → ((x : DeviceSeen) → R x x) → R before after → AreRelated R old new
  related-only file old new before after once only held left itself is = related-found old new only.nodes once found
    where
      by_node : (node : ℕ) (x : DeviceSeen) → device_in old node ≡ Some x → (node ≡ file) ⊎ (node ≢ file)
          → (y : DeviceSeen) × (device_in new node ≡ Some y) × R x y
      by_node node x there (inl same) =
          let was : before ≡ x = same_Some before x (sym held ∙ subst (λ (n : ℕ). device_in old n ≡ Some x) same there) in
          (after, subst (λ (n : ℕ). device_in new n ≡ Some after) (sym same) left, subst (λ (d : DeviceSeen). R d after) was is)
      by_node node x there (inr apart) = (x, only.others node apart ∙ there, itself x)

      found : (node : ℕ) (x : DeviceSeen) → device_in old node ≡ Some x → (y : DeviceSeen) × (device_in new node ≡ Some y) × R x y
      found node x there = by_node node x there (cases_eq node file)

-- it has its number, and its count but where it has this number
abbrev IsSameBut : ℕ → DeviceSeen → DeviceSeen → Type 0
IsSameBut at a b = (b.number ≡ a.number) × ((a.number.0 ≡ at) ⊎ (b.faults ≡ a.faults))

abbrev IsSame : DeviceSeen → DeviceSeen → Type 0
IsSame a b = (b.number ≡ a.number) × (b.faults ≡ a.faults)

faults-here : (t : Bool) (a b : DeviceSeen) (old new : List DeviceSeen) (n : ℕ) → (t ≡ true → b.faults ≡ a.faults)
    → (t ≡ false → faults_at new n ≡ faults_at old n)
    → option_map (λ (d : DeviceSeen). d.faults) (cond t (Some b) (device_numbered new n))
    ≡ option_map (λ (d : DeviceSeen). d.faults) (cond t (Some a) (device_numbered old n))
faults-here true a b old new n here rest = ap Some (here refl)
faults-here false a b old new n here rest = rest refl

faults-both : (a b : DeviceSeen) (old new : List DeviceSeen) (n : ℕ) → b.number ≡ a.number → ((a.number.0 == n) ≡ true → b.faults ≡ a.faults)
    → ((a.number.0 == n) ≡ false → faults_at new n ≡ faults_at old n) → faults_at (b ∷ new) n ≡ faults_at (a ∷ old) n
faults-both a b old new n number here rest =
    ap (λ (m : DevNo). option_map (λ (d : DeviceSeen). d.faults) (cond (m.0 == n) (Some b) (device_numbered new n))) number
    ∙ faults-here (a.number.0 == n) a b old new n here rest

same-but : (at : ℕ) (old new : List DeviceSeen) → AreRelated (IsSameBut at) old new → AreSameBut at old new
same-but at [] [] related n apart = refl
same-but at [] (b ∷ new) related n apart = absurd related
same-but at (a ∷ old) [] related n apart = absurd related
same-but at (a ∷ old) (b ∷ new) related n apart =
    faults-both a b old new n related.0.0 (λ here. by_count here related.0.1) (λ past. same-but at old new related.1 n apart)
  where
    by_count : (a.number.0 == n) ≡ true → (a.number.0 ≡ at) ⊎ (b.faults ≡ a.faults) → b.faults ≡ a.faults
    by_count here (inl its) = absurd (apart (sym (eqb-true a.number.0 n here) ∙ its))
    by_count here (inr same) = same

same-all : (old new : List DeviceSeen) → AreRelated IsSame old new → AreSame old new
same-all [] [] related n = refl
same-all [] (b ∷ new) related n = absurd related
same-all (a ∷ old) [] related n = absurd related
same-all (a ∷ old) (b ∷ new) related n =
    faults-both a b old new n related.0.0 (λ here. related.0.1) (λ past. same-all old new related.1 n)

module _ (file : ℕ) (old new : List DeviceSeen) (before after : DeviceSeen) (once : AllPairs DifferInNode old)
    (only : OnlyAt file old new) (held : device_in old file ≡ Some before) (left : device_in new file ≡ Some after)
    (number : after.number ≡ before.number) where
  pub only-but : AreSameBut before.number.0 old new
  only-but =
      same-but before.number.0 old new
      (related-only (IsSameBut before.number.0) file old new before after once only held left
      (λ x. (refl, inr refl)) (number, inl refl))

  pub only-same : after.faults ≡ before.faults → AreSame old new
  only-same same =
      same-all old new (related-only IsSame file old new before after once only held left (λ x. (refl, refl)) (number, same))

-- the count of one device has risen, and no other
pub counts-risen : (t : RunTable) (nodes now : Nodes) (opened : List Opened) (before after : DeviceSeen) → AreOut t now opened
    → Contains now.devices after → after.number ≡ before.number → AreSameBut before.number.0 nodes.devices now.devices
    → counts_from now.devices 0 opened ≡ slice_set (counts_from nodes.devices 0 opened) before.number.0 after.faults
counts-risen t nodes now opened before after out held number but =
    counts-set nodes.devices now.devices before.number.0 after.faults 0 before.number.0 opened but (omega arith) own
  where
    own : (o : Opened) → slice_get opened before.number.0 ≡ Some o → count_of_opening now.devices before.number.0 o ≡ after.faults
    own o at =
        let zero_first : 0 + before.number.0 ≡ before.number.0 = omega arith in
        let same : count_of_opening now.devices (0 + before.number.0) o ≡ after.faults =
        same_Some (count_of_opening now.devices (0 + before.number.0) o) after.faults
        (sym (counts-at now.devices opened 0 before.number.0 o at)
        ∙ ap (λ (d : DevNo). slice_get (counts_from now.devices 0 opened) d.0) (sym number)
        ∙ count-out t now opened after held out) in
        ap (λ (n : ℕ). count_of_opening now.devices n o) (sym zero_first) ∙ same

-- ---- the counts of a world

none-behind : (opened : List Opened) → drop (length opened) (map (λ (o : Opened). o.faults) opened) ≡ []
none-behind [] = refl
none-behind (o ∷ opened) = none-behind opened

abbrev pub counts : ℕ → List ℕ → Counts
counts store devices = record { store = store; devices = devices }

module _ (w v : WorldSeen) where
  -- no file was opened
  module _ (opened : v.opened ≡ w.opened) where
    within-is : counts_within w v ≡ counts_now w
    within-is =
        ap (λ (l : List ℕ). counts w.faults ((counts_now w).devices ++ l))
        (ap (λ (all : List Opened). drop (length w.opened) (map (λ (o : Opened). o.faults) all)) opened ∙ none-behind w.opened)
        ∙ ap (counts w.faults) (append-nil (counts_now w).devices)

    now-is : (devices : List ℕ) → counts_from v.nodes.devices 0 w.opened ≡ devices → counts_now v ≡ counts v.faults devices
    now-is devices same =
        ap (λ (all : List Opened). counts v.faults (counts_from v.nodes.devices 0 all)) opened ∙ ap (counts v.faults) same

    -- no count rose
    pub hides-none : v.faults ≡ w.faults → counts_from v.nodes.devices 0 w.opened ≡ (counts_now w).devices → HidesNoFault w v None
    hides-none faults same =
        now-is (counts_now w).devices same ∙ ap (λ (n : ℕ). counts n (counts_now w).devices) faults ∙ sym within-is

    -- that of the store rose
    pub hides-store : (n : ℕ) → v.faults ≡ n → counts_from v.nodes.devices 0 w.opened ≡ (counts_now w).devices
        → HidesNoFault w v (Some (fault_at Store n))
    hides-store n faults same =
        now-is (counts_now w).devices same ∙ ap (λ (m : ℕ). counts m (counts_now w).devices) faults
        ∙ ap (λ (c : Counts). counts_with c (Some (fault_at Store n))) (sym within-is)

    -- that of a device rose
    pub hides-device : (dev : DevNo) (n : ℕ) → v.faults ≡ w.faults
        → counts_from v.nodes.devices 0 w.opened ≡ slice_set (counts_now w).devices dev.0 n → HidesNoFault w v (Some (fault_at (Dev dev) n))
    hides-device dev n faults same =
        now-is (slice_set (counts_now w).devices dev.0 n) same
        ∙ ap (λ (m : ℕ). counts m (slice_set (counts_now w).devices dev.0 n)) faults
        ∙ ap (λ (c : Counts). counts_with c (Some (fault_at (Dev dev) n))) (sym within-is)

-- ---- between two moments

-- no count rose, and no file was opened
pub record KeepsFaultCounts (w v : WorldSeen) : Type 0 where
  pub now : counts_now v ≡ counts_now w
  pub many : length v.opened ≡ length w.opened

pub keeps-then : (w x v : WorldSeen) → KeepsFaultCounts w x → KeepsFaultCounts x v → KeepsFaultCounts w v
keeps-then w x v first next = record { now = next.now ∙ first.now; many = next.many ∙ first.many }

pub hides-kept : (w v : WorldSeen) → KeepsFaultCounts w v → HidesNoFault w v None
hides-kept w v keeps =
    let none : drop (length w.opened) (first_counts v).devices ≡ [] =
    ap (λ (n : ℕ). drop n (first_counts v).devices) (sym keeps.many) ∙ none-behind v.opened in
    let within : counts_within w v ≡ counts_now w =
    ap (λ (l : List ℕ). counts w.faults ((counts_now w).devices ++ l)) none ∙ ap (counts w.faults) (append-nil (counts_now w).devices) in
    keeps.now ∙ sym within

-- where the devices are the same
pub hides-same : (w v : WorldSeen) → v.opened ≡ w.opened → v.faults ≡ w.faults → v.nodes.devices ≡ w.nodes.devices → HidesNoFault w v None
hides-same w v opened faults devices =
    hides-none w v opened faults (ap (λ (ds : List DeviceSeen). counts_from ds 0 w.opened) devices)

-- where a device of a `file` node stopped the call
pub hides-stopped : (w v : WorldSeen) (opened : v.opened ≡ w.opened) → v.faults ≡ w.faults → AllPairs DifferInNode w.nodes.devices
    → AreOut w.table v.nodes w.opened → (file : ℕ) (dev : DevNo) (count : ℕ) (at : StoppedAt file w.nodes.devices v.nodes.devices dev count)
    → at.after.number ≡ at.before.number → HidesNoFault w v (Some (fault_at (Dev dev) count))
hides-stopped w v opened faults once out file dev count at number =
    let held = (find-Some (is_device_of file) v.nodes.devices at.after at.left).0 in
    let but = only-but file w.nodes.devices v.nodes.devices at.before at.after once at.only at.held at.left number in
    let risen = counts-risen w.table w.nodes v.nodes w.opened at.before at.after out held number but in
    hides-device w v opened dev count faults
    (risen ∙ ap (slice_set (counts_now w).devices at.before.number.0) (sym at.stopped.now)
    ∙ ap (λ (d : DevNo). slice_set (counts_now w).devices d.0 count) (sym at.stopped.named))
