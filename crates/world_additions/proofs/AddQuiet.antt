-- What looks and refusals leave of nodes and files: all reads as before.
use Rattle.std.proofs.Common.{◌≡◌, ℕ, ◌==◌, Bool, true, false, cond, List, [], ◌∷◌, ◌++◌, inl, inr, refl, sym, ◌∙◌, ap, subst, Option, Some, None}
use Rattle.std.specs.Prelude.{find, if◌then◌else◌, option_and_then, option_map}
use Rattle.blk_base.specs.declared.file.File.{File}
use Rattle.blk_nodes.specs.Nodes.{DeviceSeen, device_in}
use Rattle.blk_nodes.specs.Reading.{HaveRisen}
use Rattle.qmp_codec.specs.declared.nodes.Added.{Added}
use Rattle.qmp_rules.specs.Asks.{stands_for}
use Rattle.qmp_rules.specs.Changes.{node_changed, unsettled, with_unsettled}
use Rattle.qmp_rules.specs.Table.{RunTable}
use Rattle.qmp_rules.specs.declared.rows.NodeRecord.{NodeRecord}
use Rattle.flat_machine.specs.Performing.{IsQuiet}
use Rattle.flat_machine.proofs.Finds.{find-map}
use Rattle.world_parts.specs.Adding.{Taken}
use Rattle.world_parts.specs.Face.{WorldSeen, contents_of, held_in_file, node_over, told_bytes}
use Rattle.world_parts.specs.Looking.{HasCalled, Site, site}
use Rattle.world_parts.specs.Staging.{back_if, opened_name, site_of, store_of}
use Rattle.world_parts.specs.Stores.{StoreInRun}
use Rattle.world_additions.proofs.AddKinds.{IsLookedSo}
use Rattle.world_parts.proofs.Uncalled.{called_itself}
use Rattle.world_additions.proofs.AddRuns.{back-is}

-- ---- devices of which counts have risen

content-risen : (old new : List DeviceSeen) → HaveRisen old new → (node : ℕ)
    → option_and_then (λ (d : DeviceSeen). d.content) (device_in new node) ≡ option_and_then (λ (d : DeviceSeen). d.content) (device_in old node)
content-risen [] [] risen node = refl
content-risen [] (b ∷ new) risen node = absurd risen
content-risen (a ∷ old) [] risen node = absurd risen
content-risen (a ∷ old) (b ∷ new) risen node =
    let same : b.node ≡ a.node = ap (λ (d : DeviceSeen). d.node) risen.0.same in
    let content : b.content ≡ a.content = ap (λ (d : DeviceSeen). d.content) risen.0.same in
    subst (λ (n : ℕ). option_and_then (λ (d : DeviceSeen). d.content) (if n == node then Some b else device_in new node)
    ≡ option_and_then (λ (d : DeviceSeen). d.content) (device_in (a ∷ old) node)) (sym same) (by_test (a.node == node) content (content-risen old new risen.1 node))
  where
    by_test : (t : Bool) → b.content ≡ a.content
        → option_and_then (λ (d : DeviceSeen). d.content) (device_in new node) ≡ option_and_then (λ (d : DeviceSeen). d.content) (device_in old node)
        → option_and_then (λ (d : DeviceSeen). d.content) (if t then Some b else device_in new node)
        ≡ option_and_then (λ (d : DeviceSeen). d.content) (if t then Some a else device_in old node)
    by_test true content rest = content
    by_test false content rest = rest

pub quiet-called : (w v : WorldSeen) → v.files ≡ w.files → v.table ≡ w.table → HasCalled w.nodes v.nodes → IsQuiet (contents_of w) (contents_of v)
quiet-called w v files table called = record {
  nodes = λ node other. called.disks node;
  files = λ name other.
      ap (λ (t : RunTable). held_in_file v name (node_over t name)) table ∙ by_node name (node_over w.table name);
}
  where
    by_node : (name : List ℕ) (found : Option ℕ) → held_in_file v name found ≡ held_in_file w name found
    by_node name None = ap (λ (f : Option (List File)). told_bytes f name) files
    by_node name (Some node) = content-risen w.nodes.devices v.nodes.devices called.risen node

-- ---- by what the looks left

module _ (w v : WorldSeen) (now : Site) (driver : Added (List ℕ)) (out : Option Taken) (table : v.table ≡ w.table) where
  pub quiet-back : IsLookedSo (opened_name driver) (site_of w) now out → site_of v ≡ site (back_if driver out now.store) now.nodes
      → IsQuiet (contents_of w) (contents_of v)
  quiet-back (inl called) is =
      let files : v.files ≡ w.files =
      ap (λ (x : Site). x.store.files) is ∙ ap (λ (o : Option Taken). (back_if driver o now.store).files) called.none ∙ ap (λ (s : StoreInRun). s.files) called.store in
      quiet-called w v files table (subst (HasCalled w.nodes) (sym (ap (λ (x : Site). x.nodes) is)) called.called)
  quiet-back (inr opened) is =
      let files : v.files ≡ w.files =
      ap (λ (x : Site). x.store.files) is ∙ ap (λ (o : Option Taken). (back_if driver o now.store).files) opened.is
      ∙ ap (λ (s : StoreInRun). s.files)
      (back-is (store_of w) now.store (opened_name driver) opened.first opened.device opened.taken opened.read.same opened.inside) in
      quiet-called w v files table
      (subst (HasCalled w.nodes) (sym (ap (λ (x : Site). x.nodes) is ∙ opened.nodes)) (called_itself w.nodes))

-- ---- which node stands for a file

stands-unsettled : (file : ℕ) (name : List ℕ) (row : NodeRecord) → stands_for name (node_changed file unsettled row) ≡ stands_for name row
stands-unsettled file name row = by_test (row.id == file)
  where
    by_test : (b : Bool) → stands_for name (cond b (unsettled row) row) ≡ stands_for name row
    by_test true = refl
    by_test false = refl

id-unsettled : (file : ℕ) (found : Option NodeRecord) → option_map (λ (r : NodeRecord). r.id) (option_map (node_changed file unsettled) found) ≡ option_map (λ (r : NodeRecord). r.id) found
id-unsettled file None = refl
id-unsettled file (Some row) = by_test (row.id == file)
  where
    by_test : (b : Bool) → Some (cond b (unsettled row) row).id ≡ Some row.id
    by_test true = refl
    by_test false = refl

over-last : (name : List ℕ) (rows : List NodeRecord) (new : NodeRecord) → new.filename ≡ None → find (stands_for name) (rows ++ new ∷ []) ≡ find (stands_for name) rows
over-last name [] new none = rw none refl
over-last name (row ∷ rows) new none = by_test (stands_for name row) (over-last name rows new none)
  where
    by_test : (b : Bool) → find (stands_for name) (rows ++ new ∷ []) ≡ find (stands_for name) rows
        → cond b (Some row) (find (stands_for name) (rows ++ new ∷ [])) ≡ cond b (Some row) (find (stands_for name) rows)
    by_test true rest = refl
    by_test false rest = rest

-- a node that stands for no file changes nothing of it
pub over-added : (t t' : RunTable) (new : NodeRecord) (file : ℕ) → new.filename ≡ None → t'.nodes ≡ with_unsettled file t.nodes ++ new ∷ []
    → (name : List ℕ) → node_over t' name ≡ node_over t name
over-added t t' new file none nodes name =
    ap (λ (rows : List NodeRecord). option_map (λ (r : NodeRecord). r.id) (find (stands_for name) rows)) nodes
    ∙ ap (option_map (λ (r : NodeRecord). r.id)) (over-last name (with_unsettled file t.nodes) new none)
    ∙ ap (option_map (λ (r : NodeRecord). r.id)) (find-map (stands_for name) (node_changed file unsettled) (λ r. stands-unsettled file name r) t.nodes)
    ∙ id-unsettled file (find (stands_for name) t.nodes)

pub over-filtered : (t t' : RunTable) (new : NodeRecord) → new.filename ≡ None → t'.nodes ≡ t.nodes ++ new ∷ [] → (name : List ℕ) → node_over t' name ≡ node_over t name
over-filtered t t' new none nodes name =
    ap (λ (rows : List NodeRecord). option_map (λ (r : NodeRecord). r.id) (find (stands_for name) rows)) nodes
    ∙ ap (option_map (λ (r : NodeRecord). r.id)) (over-last name t.nodes new none)
