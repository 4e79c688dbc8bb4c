-- Nodes of one device: what is found there, and which device a call's clauses speak of.
use Rattle.std.proofs.Common.{◌≡◌, ℕ, ◌≤◌, ◌==◌, Bool, true, false, cond, List, [], ◌∷◌, map, Option, Some, None, refl, sym, ◌∙◌, ap, subst, eq-eqb, inl, inr}
use Rattle.std.specs.Prelude.{Contains, is_some, option_map, option_and_then}
use Rattle.blk_base.specs.declared.fault.DevNo.{DevNo}
use Rattle.blk_base.specs.Counts.{Rose}
use Rattle.blk_graph.proofs.Members.{Contains-nil, Contains-cases}
use Rattle.blk_nodes.specs.Nodes.{Nodes, DeviceSeen, AreTold, device_in}
use Rattle.blk_nodes.specs.Reading.{HasRisen, HaveRisen, OnlyAt, StoppedAt, StoppedBy}
use Rattle.qblk_core.specs.ImageNodes.{only_device, content_of, faults_by, device_faults, capacity_of}

-- ---- one device in a list

pub first-found : (d b : DeviceSeen) (file : ℕ) → device_in (d ∷ []) file ≡ Some b → b ≡ d
first-found d b file is = by_test (d.node == file) is
  where
    by_test : (t : Bool) → cond t (Some d) None ≡ Some b → b ≡ d
    by_test true same = let equal : d ≡ b = cc same in sym equal
    by_test false same = let bad : ⊥ = cc same in absurd bad

pub found-at : (d : DeviceSeen) → d.node ≡ 0 → device_in (d ∷ []) 0 ≡ Some d
found-at d node = ap (λ (b : Bool). cond b (Some d) None) (eq-eqb d.node 0 node)

pub head-same : (a b : DeviceSeen) (rest : List DeviceSeen) → a ∷ [] ≡ b ∷ rest → a ≡ b
head-same a b rest is = cc is

-- the others are as before, and there are none
pub only-one : (file : ℕ) (d before after : DeviceSeen) (new : List DeviceSeen) → OnlyAt file (d ∷ []) new
    → device_in (d ∷ []) file ≡ Some before → device_in new file ≡ Some after → (new ≡ after ∷ []) × (before ≡ d)
only-one file d before after [] only held left = let bad : ⊥ = cc left in absurd bad
only-one file d before after (e ∷ []) only held left =
    (ap (λ (x : DeviceSeen). x ∷ []) (sym (first-found e after file left)), first-found d before file held)
only-one file d before after (e ∷ f ∷ new) only held left = let bad : ⊥ = cc only.nodes in absurd bad

pub risen-one : (d : DeviceSeen) (new : List DeviceSeen) → HaveRisen (d ∷ []) new
    → (e : DeviceSeen) × (new ≡ e ∷ []) × HasRisen d e
risen-one d [] risen = absurd risen
risen-one d (e ∷ []) risen = (e, refl, risen.0)
risen-one d (e ∷ f ∷ new) risen = absurd risen.1

pub told-one : (d : DeviceSeen) (bytes : List ℕ) → d.content ≡ Some bytes → AreTold (d ∷ [])
told-one d bytes is device there = elim (Contains-cases d [] device there) [
  | inl same ↦ ap (λ (x : DeviceSeen). is_some x.content) same ∙ ap is_some is
  | inr none ↦ absurd (Contains-nil device none)
]

-- ---- what is seen of nodes by their device

pub content-is : (nodes : Nodes) (d : DeviceSeen) → nodes.devices ≡ d ∷ [] → d.node ≡ 0 → content_of nodes ≡ d.content
content-is nodes d only node =
    ap (λ (ds : List DeviceSeen). option_and_then (λ (x : DeviceSeen). x.content) (device_in ds 0)) only
    ∙ ap (option_and_then (λ (x : DeviceSeen). x.content)) (found-at d node)

pub faults-is : (nodes : Nodes) (d : DeviceSeen) → nodes.devices ≡ d ∷ [] → d.node ≡ 0 → device_faults nodes ≡ d.faults
faults-is nodes d only node = ap (λ (ds : List DeviceSeen). faults_by (device_in ds 0)) only ∙ ap faults_by (found-at d node)

pub capacity-is : (nodes : Nodes) (d : DeviceSeen) → nodes.devices ≡ d ∷ [] → d.node ≡ 0 → capacity_of nodes ≡ Some d.capacity
capacity-is nodes d only node =
    ap (λ (ds : List DeviceSeen). option_map (λ (x : DeviceSeen). x.capacity) (device_in ds 0)) only
    ∙ ap (option_map (λ (x : DeviceSeen). x.capacity)) (found-at d node)

-- ---- which device stopped a call

pub stopped-by : (d e : DeviceSeen) (dev : DevNo) (count : ℕ) → d.number ≡ only_device → StoppedBy d e dev count
    → (dev.0 ≡ 0) × Rose d.faults count × (count ≡ e.faults)
stopped-by d e dev count number stopped = (ap (λ (n : DevNo). n.0) (stopped.named ∙ number), stopped.rose, stopped.now)

pub stopped-at : (file : ℕ) (d e : DeviceSeen) (new : List DeviceSeen) (dev : DevNo) (count : ℕ) → d.number ≡ only_device
    → new ≡ e ∷ [] → StoppedAt file (d ∷ []) new dev count → (dev.0 ≡ 0) × Rose d.faults count × (count ≡ e.faults)
stopped-at file d e new dev count number is stopped =
    let r = only-one file d stopped.before stopped.after new stopped.only stopped.held stopped.left in
    let after : stopped.after ≡ e = head-same stopped.after e [] (sym r.0 ∙ is) in
    stopped-by d e dev count number
    (subst (λ (x : DeviceSeen). StoppedBy d x dev count) after (subst (λ (x : DeviceSeen). StoppedBy x stopped.after dev count) r.1 stopped.stopped))
