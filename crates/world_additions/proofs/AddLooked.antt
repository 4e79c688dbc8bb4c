-- What the looks of an addition leave: its device is out, and the nodes are those of the table.
use Rattle.std.proofs.Common.{◌≡◌, ℕ, Bool, true, false, List, inl, inr, refl, sym, ◌∙◌, ap, subst, Option, Some, None, Ok, Err}
use Rattle.std.specs.Prelude.{OnErr, Result, bytes_eq, if◌then◌else◌, option_and_then}
use Rattle.blk_base.specs.Files.{is_out}
use Rattle.blk_base.proofs.Openings.{out-opened}
use Rattle.blk_graph.proofs.Members.{find-Some}
use Rattle.blk_nodes.specs.Joined.{IsFile}
use Rattle.blk_nodes.specs.Nodes.{Nodes, row_at}
use Rattle.q2_image.specs.Image.{Known}
use Rattle.qmp_codec.specs.declared.nodes.AddQcow2.{AddQcow2}
use Rattle.qmp_codec.specs.declared.nodes.AddRaw.{AddRaw}
use Rattle.qmp_codec.specs.declared.nodes.Added.{Added}
use Rattle.qmp_codec.specs.declared.nodes.Added.TheVariants as added
use Rattle.qmp_codec.specs.declared.nodes.FileRef.{FileRef}
use Rattle.qmp_codec.specs.declared.nodes.FileRef.TheVariants as file_ref
use Rattle.qmp_rules.specs.Asks.{is_file}
use Rattle.qmp_rules.specs.Looks.{part_look}
use Rattle.qmp_rules.specs.Table.{RunTable, node_by_id, node_named}
use Rattle.qmp_rules.specs.declared.rows.NodeRecord.{NodeRecord}
use Rattle.qmp_asks.specs.declared.look.Look.{Look}
use Rattle.qmp_asks.specs.declared.look.Look.TheVariants as look
use Rattle.qmp_rules.specs.declared.told.Told.{Told}
use Rattle.flat_machine.specs.Wiring.{HaveDistinctIds}
use Rattle.flat_machine.proofs.Accepted.{is_protocol}
use Rattle.world_parts.specs.Adding.{Adding, IsTakenOut, Looks, Opens, Taken, opening_of}
use Rattle.world_parts.specs.Coherent.{AreAlike, AreNodesOf}
use Rattle.world_parts.specs.Looking.{HasCalled, HasLooked, LooksAtImage, LooksAtPart, LooksBy, Site}
use Rattle.world_additions.specs.Additions.{HaveFileNodes, IsOutForAddition}
use Rattle.world_parts.specs.Staging.{opened_name}
use Rattle.world_parts.specs.Stores.{StoreInRun}
use Rattle.world_additions.proofs.AddPlaces.{file-of}

-- ---- answers

pub on-err : {A E : Type 0} (r : Result A E) (P Q : Type 0) → (P → Q) → OnErr r P → OnErr r Q
on-err (Ok a) P Q f h = tt
on-err (Err e) P Q f h = f h

-- ---- a device is out

pub taken-is-out : (old new : StoreInRun) (name : List ℕ) (device : Taken) → IsTakenOut old new name device → is_out name new.opened ≡ true
taken-is-out old new name device out =
    ap (λ (s : StoreInRun). is_out name s.opened) out.kept ∙ out-opened old.opened (opening_of name device) refl

module _ (t : RunTable) (c : Adding) (told : Told) (old new : StoreInRun) (image : Option Known) where
  out-at : (at : Opens) (out : Option Taken) → Looks t c at old new out image told → (device : Taken) → out ≡ Some device → is_out at.filename new.opened ≡ true
  out-at at out (inl away) device is = let bad : None ≡ Some device = sym away.1 ∙ is in absurd (cc bad)
  out-at at None (inr looks) device is = absurd (cc is)
  out-at at (Some now) (inr looks) device is = taken-is-out old new at.filename looks.0.first looks.0.out

out-by : (driver : Added (List ℕ)) (store : StoreInRun) (out : Option Taken) → ((device : Taken) → out ≡ Some device → is_out (opened_name driver) store.opened ≡ true)
    → IsOutForAddition driver out store
out-by driver store None is = tt
out-by driver store (Some device) is = is device refl

module _ (t : RunTable) (c : Adding) (told : Told) (old new : Site) (out : Option Taken) (image : Option Known) where
  none-out : (driver : Added (List ℕ)) → out ≡ None → IsOutForAddition driver out new.store
  none-out driver none = subst (λ (o : Option Taken). IsOutForAddition driver o new.store) (sym none) tt

  out-part : (raw : AddRaw (List ℕ)) (file : FileRef (List ℕ)) → raw.file ≡ file → LooksAtPart t c (part_look raw) file old new out image told → IsOutForAddition (added.Raw raw) out new.store
  out-part raw (file_ref.Name name) f looks = none-out (added.Raw raw) looks.none
  out-part raw (file_ref.Inline file) f looks =
      out-by (added.Raw raw) new.store out
      (λ device is. rw f (out-at t c told old.store new.store image (record { filename = file.filename; what = part_look raw }) out looks.looks device is))

  out-image : (qcow2 : AddQcow2 (List ℕ)) (file : FileRef (List ℕ)) → qcow2.file ≡ file → LooksAtImage t c qcow2 file old new out image told
      → IsOutForAddition (added.Qcow2 qcow2) out new.store
  out-image qcow2 (file_ref.Name name) f looks = none-out (added.Qcow2 qcow2) looks.none
  out-image qcow2 (file_ref.Inline file) f looks =
      out-by (added.Qcow2 qcow2) new.store out
      (λ device is. rw f (out-at t c told old.store new.store image (record { filename = file.filename; what = look.File }) out looks.looks device is))

  out-for-by : (driver : Added (List ℕ)) → LooksBy t c driver old new out image told → IsOutForAddition driver out new.store
  out-for-by (added.File filename) looks =
      out-by (added.File filename) new.store out
      (λ device is. out-at t c told old.store new.store image (record { filename = filename; what = look.File }) out looks.looks device is)
  out-for-by (added.Raw raw) looks = out-part raw raw.file refl looks
  out-for-by (added.Qcow2 qcow2) looks = out-image qcow2 qcow2.file refl looks
  out-for-by (added.CopyOnRead child) looks = none-out (added.CopyOnRead child) looks.none
  out-for-by added.Unknown looks = none-out added.Unknown looks.none

  pub out-for : HasLooked t c old new out image told → IsOutForAddition c.driver out new.store
  out-for looks = out-for-by c.driver looks

  -- ---- the nodes are those of the table

  pub called-alike : HasCalled old.nodes new.nodes → AreNodesOf t old.nodes → AreNodesOf t new.nodes
  called-alike called alike = record {
    listed = ap (λ (n : Nodes). n.graph.nodes) called.kept ∙ alike.listed;
    edges = ap (λ (n : Nodes). n.graph.edges) called.kept ∙ alike.edges;
    rows = λ id. subst (λ (n : Nodes). AreAlike (node_by_id t id) (row_at n id)) (sym called.kept) (alike.rows id);
  }

  same-alike : new.nodes ≡ old.nodes → AreNodesOf t old.nodes → AreNodesOf t new.nodes
  same-alike same alike = subst (AreNodesOf t) (sym same) alike

  alike-part : (what : Look) (file : FileRef (List ℕ)) → LooksAtPart t c what file old new out image told → AreNodesOf t old.nodes → AreNodesOf t new.nodes
  alike-part what (file_ref.Name name) looks = same-alike (ap (λ (x : Site). x.nodes) looks.kept)
  alike-part what (file_ref.Inline file) looks = same-alike looks.kept

  alike-image : (qcow2 : AddQcow2 (List ℕ)) (file : FileRef (List ℕ)) → LooksAtImage t c qcow2 file old new out image told
      → AreNodesOf t old.nodes → AreNodesOf t new.nodes
  alike-image qcow2 (file_ref.Name name) looks = called-alike looks.called
  alike-image qcow2 (file_ref.Inline file) looks = same-alike looks.kept

  alike-by : (driver : Added (List ℕ)) → LooksBy t c driver old new out image told → AreNodesOf t old.nodes → AreNodesOf t new.nodes
  alike-by (added.File filename) looks = same-alike looks.kept
  alike-by (added.Raw raw) looks = alike-part (part_look raw) raw.file looks
  alike-by (added.Qcow2 qcow2) looks = alike-image qcow2 qcow2.file looks
  alike-by (added.CopyOnRead child) looks = same-alike (ap (λ (x : Site). x.nodes) looks.kept)
  alike-by added.Unknown looks = same-alike (ap (λ (x : Site). x.nodes) looks.kept)

  pub looked-alike : HasLooked t c old new out image told → AreNodesOf t old.nodes → AreNodesOf t new.nodes
  looked-alike looks = alike-by c.driver looks

-- ---- `file` nodes of the table are over devices

pub have-files : (t : RunTable) (nodes : Nodes) → AreNodesOf t nodes → HaveDistinctIds t → HaveFileNodes t nodes
have-files t nodes alike apart name row is = by_row (node_named t name) refl is
  where
    by_kind : (found : NodeRecord) (b : Bool) → is_file found ≡ b → node_named t name ≡ Some found → (if b then Some found else None) ≡ Some row → IsFile nodes row.id
    by_kind found false kind there h = absurd (cc h)
    by_kind found true kind there h =
        let same : found ≡ row = cc h in
        let at : node_by_id t found.id ≡ Some found = apart found (find-Some (λ (r : NodeRecord). bytes_eq r.name name) t.nodes found there).0 in
        subst (λ (r : NodeRecord). IsFile nodes r.id) same (file-of t nodes found.id found alike at (is_protocol found.kind kind))

    by_row : (found : Option NodeRecord) → node_named t name ≡ found
        → option_and_then (λ (r : NodeRecord). if is_file r then Some r else None) found ≡ Some row → IsFile nodes row.id
    by_row None there h = absurd (cc h)
    by_row (Some found) there h = by_kind found (is_file found) refl there h
