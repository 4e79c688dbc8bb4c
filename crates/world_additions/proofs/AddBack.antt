-- A world in which an addition was looked at and not made is as whole as before.
use Rattle.std.proofs.Common.{◌≡◌, ◌⊎◌, ℕ, true, false, List, [], ◌∷◌, ◌++◌, length, inl, inr, refl, sym, ◌∙◌, ap, subst, Option, Some, None}
use Rattle.std.specs.Prelude.{is_some, slice_get}
use Rattle.blk_base.specs.Stored.{IsDeviceOf}
use Rattle.blk_base.specs.declared.file.File.{File}
use Rattle.blk_base.specs.declared.file.Opened.{Opened}
use Rattle.blk_graph.proofs.Members.{Contains-cases, Contains-here, Contains-nil, Contains-there}
use Rattle.q2_image.specs.Image.{Known}
use Rattle.blk_nodes.specs.Nodes.{AreTold, DeviceSeen, Nodes, row_at}
use Rattle.blk_nodes.specs.Reading.{HaveRisen}
use Rattle.qmp_codec.specs.declared.nodes.Added.{Added}
use Rattle.qmp_rules.specs.Table.{RunTable, node_by_id}
use Rattle.flat_machine.proofs.Tables.{pushed-cases}
use Rattle.world_parts.specs.Adding.{Adding, Taken, of_node}
use Rattle.world_parts.specs.Coherent.{AreAlike, AreNodesOf, AreOut, DevicesTell, IsCoherent}
use Rattle.world_parts.specs.Face.{WorldSeen}
use Rattle.world_parts.specs.Joining.{HasAdded}
use Rattle.world_parts.specs.Looking.{HasCalled, Site, site}
use Rattle.world_parts.specs.Progress.{Progress}
use Rattle.world_parts.specs.Staging.{back_if, opened_name, site_of, store_of}
use Rattle.world_parts.specs.Stores.{StoreInRun}
use Rattle.world_additions.proofs.AddKinds.{IsLookedSo, has-device, no-device-more}
use Rattle.world_additions.proofs.AddOut.{get-before, get-cases}
use Rattle.world_additions.proofs.AddRuns.{back-is, closed-opening}
use Rattle.world_parts.proofs.CountLemmas.{out-same, same-risen}

-- ---- openings that are over

-- one more that is back again
pub out-closed : (t : RunTable) (nodes : Nodes) (opened : List Opened) (o : Opened) (count : ℕ) → o.returned ≡ Some count → AreOut t nodes opened → AreOut t nodes (opened ++ o ∷ [])
out-closed t nodes opened o count back was = record {
  each = λ held there.
      let is = was.each held there in
      record { opening = is.opening; there = get-before opened o is.opening held.number.0 is.there; out = is.out; named = is.named; capacity = is.capacity; faults = is.faults };
  once = was.once;
  order = was.order;
  all = λ n other there out. elim (get-cases opened o other n there) [
    | inl before ↦ was.all n other before out
    | inr last ↦ absurd (never other last.1 out)
  ];
  names = λ a b p q at_a at_b out_p out_q same. by_places a b p q (get-cases opened o p a at_a) (get-cases opened o q b at_b) out_p out_q same;
}
  where
    never : (other : Opened) → other ≡ o → other.returned ≡ None → ⊥
    never other same out =
        let bad : Some count ≡ None = sym back ∙ ap (λ (x : Opened). x.returned) (sym same) ∙ out in
        cc bad

    by_places : (a b : ℕ) (p q : Opened) → (slice_get opened a ≡ Some p) ⊎ ((a ≡ length opened) × (p ≡ o)) → (slice_get opened b ≡ Some q) ⊎ ((b ≡ length opened) × (q ≡ o))
        → p.returned ≡ None → q.returned ≡ None → p.name ≡ q.name → a ≡ b
    by_places a b p q (inl here) (inl there) out_p out_q same = was.names a b p q here there out_p out_q same
    by_places a b p q (inr last) other out_p out_q same = absurd (never p last.1 out_p)
    by_places a b p q (inl here) (inr last) out_p out_q same = absurd (never q last.1 out_q)

-- ---- the other parts stay

pub coherent-put : (t : RunTable) (nodes now : Nodes) (opened opened' : List Opened) (p : Progress) → IsCoherent t nodes opened p → AreNodesOf t now → AreOut t now opened'
    → IsCoherent t now opened' p
coherent-put t nodes now opened opened' p was alike out = record {
  table = was.table;
  drives = was.drives;
  disks = was.disks;
  alike = alike;
  asks = was.asks;
  writable = was.writable;
  within = was.within;
  allowed = was.allowed;
  count = was.count;
  out = out;
}

pub alike-called : (t : RunTable) (old now : Nodes) → HasCalled old now → AreNodesOf t old → AreNodesOf t now
alike-called t old now called alike = record {
  listed = ap (λ (n : Nodes). n.graph.nodes) called.kept ∙ alike.listed;
  edges = ap (λ (n : Nodes). n.graph.edges) called.kept ∙ alike.edges;
  rows = λ id. subst (λ (n : Nodes). AreAlike (node_by_id t id) (row_at n id)) (sym called.kept) (alike.rows id);
}

pub told-risen : (old new : List DeviceSeen) → HaveRisen old new → AreTold old → AreTold new
told-risen [] [] risen told d there = absurd (Contains-nil d there)
told-risen [] (b ∷ new) risen told d there = absurd risen
told-risen (a ∷ old) [] risen told d there = absurd risen
told-risen (a ∷ old) (b ∷ new) risen told d there = elim (Contains-cases b new d there) [
  | inl here ↦
      let content : b.content ≡ a.content = ap (λ (x : DeviceSeen). x.content) risen.0.same in
      let was : is_some a.content ≡ true = told a (Contains-here a old) in
      ap (λ (x : DeviceSeen). is_some x.content) here ∙ ap (λ (x : Option (List ℕ)). is_some x) content ∙ was
  | inr behind ↦ told-risen old new risen.1 (λ x at. told x (Contains-there a old x at)) d behind
]

told-more : (ds : List DeviceSeen) (new : DeviceSeen) → AreTold ds → is_some new.content ≡ true → AreTold (ds ++ new ∷ [])
told-more ds new told own d there = elim (pushed-cases ds new d there) [
  | inl before ↦ told d before
  | inr is ↦ ap (λ (x : DeviceSeen). is_some x.content) is ∙ own
]

-- ---- by what the looks left

module _ (w : WorldSeen) (coherent : IsCoherent w.table w.nodes w.opened w.progress) (tell : DevicesTell w.files w.nodes.devices) (now : Site) (driver : Added (List ℕ)) (out : Option Taken) (x : Site) where
  -- nothing is left of it
  pub back-both : IsLookedSo (opened_name driver) (site_of w) now out → x ≡ site (back_if driver out now.store) now.nodes
      → IsCoherent w.table x.nodes x.store.opened w.progress × DevicesTell x.store.files x.nodes.devices
  back-both (inl called) is =
      let store : x.store ≡ record (store_of w) { faults = now.store.faults; failed_call = now.store.failed_call } =
      ap (λ (y : Site). y.store) is ∙ ap (λ (o : Option Taken). back_if driver o now.store) called.none ∙ called.store in
      let nodes : x.nodes ≡ now.nodes = ap (λ (y : Site). y.nodes) is in
      let opened : x.store.opened ≡ w.opened = ap (λ (s : StoreInRun). s.opened) store in
      let files : x.store.files ≡ w.files = ap (λ (s : StoreInRun). s.files) store in (
        subst (λ (n : Nodes). IsCoherent w.table n x.store.opened w.progress) (sym nodes)
            (subst (λ (o : List Opened). IsCoherent w.table now.nodes o w.progress) (sym opened)
            (coherent-put w.table w.nodes now.nodes w.opened w.opened w.progress coherent (alike-called w.table w.nodes now.nodes called.called coherent.alike)
            (out-same w.table w.nodes now.nodes w.opened (same-risen w.nodes.devices now.nodes.devices called.called.risen) coherent.out))),
        λ told.
            subst (λ (n : Nodes). AreTold n.devices) (sym nodes)
            (told-risen w.nodes.devices now.nodes.devices called.called.risen (tell (ap (λ (f : Option (List File)). is_some f) (sym files) ∙ told))),
      )
  back-both (inr opened) is =
      let closed : Opened = closed-opening (store_of w) now.store (opened_name driver) opened.first opened.device opened.taken opened.read.same opened.inside in
      let store : x.store ≡ record (store_of w) { opened = w.opened ++ closed ∷ [] } =
      ap (λ (y : Site). y.store) is ∙ ap (λ (o : Option Taken). back_if driver o now.store) opened.is
      ∙ back-is (store_of w) now.store (opened_name driver) opened.first opened.device opened.taken opened.read.same opened.inside in
      let nodes : x.nodes ≡ w.nodes = ap (λ (y : Site). y.nodes) is ∙ opened.nodes in
      let openings : x.store.opened ≡ w.opened ++ closed ∷ [] = ap (λ (s : StoreInRun). s.opened) store in
      let files : x.store.files ≡ w.files = ap (λ (s : StoreInRun). s.files) store in (
        subst (λ (n : Nodes). IsCoherent w.table n x.store.opened w.progress) (sym nodes)
            (subst (λ (o : List Opened). IsCoherent w.table w.nodes o w.progress) (sym openings)
            (coherent-put w.table w.nodes w.nodes w.opened (w.opened ++ closed ∷ []) w.progress coherent coherent.alike
            (out-closed w.table w.nodes w.opened closed opened.device.faults refl coherent.out))),
        λ told.
            subst (λ (n : Nodes). AreTold n.devices) (sym nodes) (tell (ap (λ (f : Option (List File)). is_some f) (sym files) ∙ told)),
      )

  -- its device tells what the store does
  pub added-tell : (t : RunTable) (c : Adding) (image : Option Known) → IsLookedSo (opened_name driver) (site_of w) now out → x.store ≡ now.store
      → HasAdded t c out image now.nodes x.nodes → DevicesTell x.store.files x.nodes.devices
  added-tell t c image (inl called) same has told =
      let files : x.store.files ≡ w.files = ap (λ (s : StoreInRun). s.files) (same ∙ called.store) in
      let devices : x.nodes.devices ≡ now.nodes.devices =
      no-device-more t c image now.nodes x.nodes (subst (λ (o : Option Taken). HasAdded t c o image now.nodes x.nodes) called.none has) in
      subst AreTold (sym devices)
      (told-risen w.nodes.devices now.nodes.devices called.called.risen (tell (ap (λ (f : Option (List File)). is_some f) (sym files) ∙ told)))
  added-tell t c image (inr opened) same has told =
      let files : x.store.files ≡ w.files = ap (λ (s : StoreInRun). s.files) (same ∙ opened.taken.kept) in
      let made = has-device t c image now.nodes x.nodes opened.device (subst (λ (o : Option Taken). HasAdded t c o image now.nodes x.nodes) opened.is has) in
      let devices : x.nodes.devices ≡ w.nodes.devices ++ of_node made.id opened.device ∷ [] =
      made.devices ∙ ap (λ (n : Nodes). n.devices ++ of_node made.id opened.device ∷ []) opened.nodes in
      let told_w : is_some w.files ≡ true = ap (λ (f : Option (List File)). is_some f) (sym files) ∙ told in
      let content : is_some opened.device.content ≡ true =
      ap (λ (d : Taken). is_some d.content) opened.read.same ∙ by_files w.files told_w opened.taken.is_its in
      subst AreTold (sym devices) (told-more w.nodes.devices (of_node made.id opened.device) (tell told_w) content)
    where
      by_files : (f : Option (List File)) → is_some f ≡ true → IsDeviceOf f (opened_name driver) opened.first.content opened.first.capacity opened.first.is_flushed
          → is_some opened.first.content ≡ true
      by_files None bad its = absurd (let e : false ≡ true = bad in cc e)
      by_files (Some told) some its = ap (λ (b : Option (List ℕ)). is_some b) its.2
