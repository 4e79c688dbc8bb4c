-- Plain nodes stay so where format nodes and their edges to files were there.
use Rattle.std.proofs.Common.{◌≡◌, ℕ, List, map, refl, sym, ◌∙◌, ap, subst, Some, None}
use Rattle.std.specs.Prelude.{◌==◌, IsSome}
use Rattle.std.specs.List.{Contains}
use Rattle.std.proofs.lemmas.Bool.{eqb-true}
use Rattle.blk_graph.specs.declared.edge.Edge.{Edge}
use Rattle.blk_graph.specs.declared.edge.Parent.TheVariants.{Node}
use Rattle.blk_graph.specs.declared.edge.Role.TheVariants.{File}
use Rattle.blk_graph.specs.declared.kind.NodeKind.{NodeKind}
use Rattle.blk_graph.specs.Refreshed.{refreshed}
use Rattle.blk_graph.proofs.Members.{find-Some, Contains-map}
use Rattle.qmp_rules.specs.declared.rows.NodeRecord.{NodeRecord}
use Rattle.qmp_rules.specs.Chains.{filter_role}
use Rattle.qmp_rules.specs.Table.{RunTable, node_by_id}
use Rattle.flat_machine.specs.Suiting.{IsPlainNode}
use Rattle.flat_machine.proofs.Tables.{refreshed-old}

-- a node has another one as its file
pub record HasFile (edges : List Edge) (over file : ℕ) : Type 0 where
  pub edge : Edge
  pub there : Contains edges edge
  pub parent : edge.parent ≡ Node over
  pub role : edge.role ≡ File
  pub child : edge.child ≡ file

pub file-before : (kinds : List NodeKind) (edges : List Edge) (over file : ℕ) → HasFile (refreshed kinds edges) over file → HasFile edges over file
file-before kinds edges over file h =
    let like = refreshed-old kinds edges h.edge h.there in
    record {
      edge = like.edge;
      there = like.there;
      parent = like.same.parent ∙ h.parent;
      role = like.same.role ∙ h.role;
      child = like.same.child ∙ h.child;
    }

-- a row that keeps its id, kind and file
pub record KeepsRow (row later : NodeRecord) : Type 0 where
  pub id : later.id ≡ row.id
  pub kind : later.kind ≡ row.kind
  pub filename : later.filename ≡ row.filename

-- a format node that has the node as its file was one
pub record WasFormat (t : RunTable) (over : NodeRecord) : Type 0 where
  pub row : NodeRecord
  pub there : Contains t.nodes row
  pub id : over.id ≡ row.id
  pub own : filter_role row.kind ≡ None

abbrev pub FormatsWere : RunTable → RunTable → ℕ → Type 0
FormatsWere t now node =
    (over : NodeRecord) → Contains now.nodes over → filter_role over.kind ≡ None → HasFile t.edges over.id node → WasFormat t over

pub formats-same : (t now : RunTable) (node : ℕ) → now.nodes ≡ t.nodes → FormatsWere t now node
formats-same t now node nodes over there own file =
    record { row = over; there = subst (λ ns. Contains ns over) nodes there; id = refl; own = own }

pub formats-mapped : (t now : RunTable) (f : NodeRecord → NodeRecord) → ((row : NodeRecord) → KeepsRow row (f row)) → now.nodes ≡ map f t.nodes
    → (node : ℕ) → FormatsWere t now node
formats-mapped t now f keeps nodes node over there own file =
    let r = Contains-map f t.nodes over (subst (λ ns. Contains ns over) nodes there) in
    record {
      row = r.0;
      there = r.1;
      id = ap (λ (x : NodeRecord). x.id) r.2 ∙ (keeps r.0).id;
      own = sym (ap filter_role (ap (λ (x : NodeRecord). x.kind) r.2 ∙ (keeps r.0).kind)) ∙ own;
    }

pub plain-back : (t now : RunTable) (node : ℕ) (p : IsPlainNode t node) (later : NodeRecord) → node_by_id now node ≡ Some later → KeepsRow p.row later
    → FormatsWere t now node → ((over : ℕ) → HasFile now.edges over node → HasFile t.edges over node) → IsPlainNode now node
plain-back t now node p later found keeps formats files = record {
  row = later;
  there = found;
  own = ap filter_role keeps.kind ∙ p.own;
  free = λ row over at named f own.
      let same : row ≡ later = let both : Some row ≡ Some later = sym at ∙ found in cc both in
      let id_is : row.id ≡ node = eqb-true row.id node (find-Some (λ (r : NodeRecord). r.id == node) now.nodes row at).1 in
      let file : HasFile t.edges over.id node
      = files over.id (record { edge = f.edge; there = f.there; parent = f.parent; role = f.role; child = f.child ∙ id_is }) in
      let was : WasFormat t over = formats over f.over_there own file in
      let here = find-Some (λ (r : NodeRecord). r.id == node) t.nodes p.row p.there in
      p.free p.row was.row p.there (subst IsSome (ap (λ (r : NodeRecord). r.filename) same ∙ keeps.filename) named)
      (record {
        over_there = was.there;
        under_there = here.0;
        edge = file.edge;
        there = file.there;
        parent = file.parent ∙ ap Node was.id;
        role = file.role;
        child = file.child ∙ sym (eqb-true p.row.id node here.1);
      })
      was.own;
}

pub plain_same : (t now : RunTable) (node : ℕ) → node_by_id now node ≡ node_by_id t node → FormatsWere t now node
    → ((over : ℕ) → HasFile now.edges over node → HasFile t.edges over node) → IsPlainNode t node → IsPlainNode now node
plain_same t now node same formats files p =
    plain-back t now node p p.row (same ∙ p.there) (record { id = refl; kind = refl; filename = refl }) formats files
