-- Nothing leads to a copy's target, nor to the file under it but the target: so all other nodes are apart from it.
use Rattle.std.proofs.Common.{◌≡◌, ◌≢◌, ◌⊎◌, ℕ, List, [], ◌∷◌, Option, Some, None, refl, sym, ◌∙◌, ap, subst, inl, inr}
use Rattle.std.specs.Prelude.{Contains, IsSome, option_and_then, ◌==◌}
use Rattle.std.proofs.lemmas.Bool.{eqb-true}
use Rattle.blk_graph.specs.Edits.{child_of}
use Rattle.blk_graph.specs.Paths.{IsPath}
use Rattle.blk_graph.specs.declared.edge.Edge.{Edge}
use Rattle.blk_graph.specs.declared.edge.Parent.TheVariants.{Job, Node}
use Rattle.blk_graph.specs.declared.edge.Role.TheVariants.{File}
use Rattle.blk_graph.proofs.Members.{find-Some}
use Rattle.blk_graph.proofs.PathLemmas.{Reaches-edge}
use Rattle.blk_nodes.specs.Nodes.{Nodes, driver_kind, file_of, row_at}
use Rattle.blk_nodes.specs.Reading.{LeadsTo}
use Rattle.blk_nodes.specs.Writing.{IsApartFrom, own_file}
use Rattle.blk_nodes.specs.declared.row.Driver.{Driver}
use Rattle.blk_nodes.specs.declared.row.Driver.TheVariants as drivers
use Rattle.blk_nodes.specs.declared.row.Row.{Row}
use Rattle.blk_nodes.proofs.Leading.{leads_on}
use Rattle.qmp_rules.specs.Table.{RunTable, child, node_by_id}
use Rattle.qmp_rules.specs.declared.rows.NodeRecord.{NodeRecord}
use Rattle.flat_machine.specs.Changed.{own_filename, written_file}
use Rattle.flat_machine.specs.State.{filename_of}
use Rattle.flat_machine.specs.Suiting.{IsPlainNode}
use Rattle.flat_machine.specs.Wiring.{LeadsToFile, TableStands}
use Rattle.flat_machine.proofs.WritingKept.{RoleEdge, role_edge}
use Rattle.world_parts.specs.Coherent.{AreAlike, AreNodesOf, IsRowOf}
use Rattle.world_parts.specs.Face.{node_over}
use Rattle.world_parts.proofs.OverFiles.{over-row}
use Rattle.world_goings.specs.Copied.{IsElsewhere}

-- ---- the last edge of a path

record EndsBy (edges : List Edge) (from to : ℕ) : Type 0 where
  edge : Edge
  parent : ℕ
  there : Contains edges edge
  from_is : edge.parent ≡ Node parent
  to_is : edge.child ≡ to
  leads : LeadsTo edges from parent

last_of : (edges : List Edge) (p : List Edge) (e : Edge) (from to : ℕ) → IsPath edges from (e ∷ p) to → EndsBy edges from to
last_of edges [] e from to path = record { edge = e; parent = from; there = path.0; from_is = path.1; to_is = path.2; leads = inl refl }
last_of edges (f ∷ p) e from to path =
    let rest = last_of edges p f e.child to path.2 in
    record {
      edge = rest.edge;
      parent = rest.parent;
      there = rest.there;
      from_is = rest.from_is;
      to_is = rest.to_is;
      leads = leads_on edges from e.child rest.parent (inr (Reaches-edge edges from e path.0 path.1)) rest.leads;
    }

module _ (t : RunTable) (nodes : Nodes) (are : AreNodesOf t nodes) (stands : TableStands t) (slot target : ℕ) (plain : IsPlainNode t target)
    (alone : (edge : Edge) → Contains t.edges edge → edge.child ≡ target → edge.parent ≡ Job slot) where
  here : Contains t.nodes plain.row
  here = (find-Some (λ (r : NodeRecord). r.id == target) t.nodes plain.row plain.there).0

  id_is : plain.row.id ≡ target
  id_is = eqb-true plain.row.id target (find-Some (λ (r : NodeRecord). r.id == target) t.nodes plain.row plain.there).1

  in_table : file_of nodes target ≡ child t target File
  in_table = ap (child_of (Node target) File) are.edges

  -- ---- what leads there

  itself : (n : ℕ) → LeadsTo t.edges n target → n ≡ target
  itself n (inl same) = same
  itself n (inr path) =
      let last = last_of t.edges path.rest path.first n target path.path in
      absurd (let bad : Node last.parent ≡ Job slot = sym last.from_is ∙ alone last.edge last.there last.to_is in let no : ⊥ = cc bad in no)

  record FileRow (file : ℕ) : Type 0 where
    row : NodeRecord
    there : Contains t.nodes row
    id : row.id ≡ file

  file_row : (file : ℕ) → IsSome (node_by_id t file) → FileRow file
  file_row file some = by_found (node_by_id t file) refl some
    where
      by_found : (found : Option NodeRecord) → node_by_id t file ≡ found → IsSome found → FileRow file
      by_found None at bad = absurd (let no : ⊥ = cc bad in no)
      by_found (Some row) at is =
          let found = find-Some (λ (r : NodeRecord). r.id == file) t.nodes row at in
          record { row = row; there = found.0; id = eqb-true row.id file found.1 }

  -- its file is under it alone
  sole : (file : ℕ) (e : Edge) → child t target File ≡ Some file → Contains t.edges e → e.child ≡ file → e.parent ≡ Node target
  sole file e is there to = by_name under.row.filename refl
    where
      edge : RoleEdge t.edges (Node target) File file
      edge = role_edge (Node target) File t.edges file is

      under : FileRow file
      under = file_row file (subst (λ n. IsSome (node_by_id t n)) edge.to (stands.edges edge.edge edge.there).child)

      below : LeadsToFile t plain.row under.row
      below = record {
        over_there = here;
        under_there = under.there;
        edge = edge.edge;
        there = edge.there;
        parent = edge.from ∙ ap Node (sym id_is);
        role = edge.role_is;
        child = edge.to ∙ sym under.id;
      }

      by_name : (name : Option (List ℕ)) → under.row.filename ≡ name → e.parent ≡ Node target
      by_name None named = let filter = stands.filtered plain.row under.row below named in let bad = subst IsSome plain.own filter in absurd (let no : ⊥ = cc bad in no)
      by_name (Some name) named =
          ((stands.taken plain.row under.row below (subst IsSome (sym named) refl) plain.own).sole e there (to ∙ sym under.id)).0 ∙ ap Node id_is

  to_file : (n file : ℕ) → child t target File ≡ Some file → LeadsTo t.edges n file → (n ≡ file) ⊎ (n ≡ target)
  to_file n file is (inl same) = inl same
  to_file n file is (inr path) =
      let last = last_of t.edges path.rest path.first n file path.path in
      let both : Node last.parent ≡ Node target = sym last.from_is ∙ sole file last.edge is last.there last.to_is in
      let same : last.parent ≡ target = cc both in
      inr (itself n (subst (LeadsTo t.edges n) same last.leads))

  pub target_apart : (n : ℕ) → n ≢ target → (child t target File ≡ Some n → ⊥) → IsApartFrom nodes n target
  target_apart n other below found file there own leads = by_driver found.driver own
    where
      way : LeadsTo t.edges n file
      way = subst (λ (es : List Edge). LeadsTo es n file) are.edges leads

      by_file : child t target File ≡ Some file → ⊥
      by_file is = elim (to_file n file is way) [
        | inl same ↦ below (is ∙ ap Some (sym same))
        | inr same ↦ other same
      ]

      by_driver : (d : Driver) → own_file nodes target d ≡ Some file → ⊥
      by_driver drivers.File is = let same : target ≡ file = cc is in other (itself n (subst (LeadsTo t.edges n) (sym same) way))
      by_driver (drivers.Raw part) is = by_file (sym in_table ∙ is)
      by_driver (drivers.Qcow2 image) is = by_file (sym in_table ∙ is)
      by_driver drivers.CopyOnRead is = let no : ⊥ = cc is in no
      by_driver (drivers.Filter kind) is = let no : ⊥ = cc is in no

  -- ---- the file that it writes, by its name

  written_by : (own : Row) → IsRowOf plain.row own → (file : ℕ) → own_file nodes target own.driver ≡ Some file → written_file t target ≡ filename_of t file
  written_by own alike file is =
      ap (option_and_then (λ (r : NodeRecord). own_filename t r r.kind)) plain.there ∙ ap (own_filename t plain.row) alike.kind ∙ by_driver own.driver is
    where
      child_is : file_of nodes target ≡ Some file → child t plain.row.id File ≡ Some file
      child_is edge = ap (λ (n : ℕ). child t n File) id_is ∙ sym in_table ∙ edge

      by_driver : (d : Driver) → own_file nodes target d ≡ Some file → own_filename t plain.row (driver_kind d) ≡ filename_of t file
      by_driver drivers.File same =
          let equal : target ≡ file = cc same in
          sym (ap (option_and_then (λ (r : NodeRecord). r.filename)) (subst (λ (n : ℕ). node_by_id t n ≡ Some plain.row) equal plain.there))
      by_driver (drivers.Raw part) edge = ap (option_and_then (filename_of t)) (child_is edge)
      by_driver (drivers.Qcow2 image) edge = ap (option_and_then (filename_of t)) (child_is edge)
      by_driver drivers.CopyOnRead bad = absurd (let e : ⊥ = cc bad in e)
      by_driver (drivers.Filter kind) bad = absurd (let e : ⊥ = cc bad in e)

  -- a node over another file
  pub elsewhere : (name : List ℕ) (n : ℕ) → node_over t name ≡ Some n → (written_file t target ≡ Some name → ⊥) → IsElsewhere nodes target n
  elsewhere name n over other own file there is same =
      let alike : IsRowOf plain.row own = by_rows (node_by_id t target) (row_at nodes target) plain.there there (are.rows target) in
      other (written_by own alike file is ∙ ap (filename_of t) (sym same) ∙ over-row t name n stands.apart over)
    where
      by_rows : (a : Option NodeRecord) (b : Option Row) → a ≡ Some plain.row → b ≡ Some own → AreAlike a b → IsRowOf plain.row own
      by_rows a b at to alike = subst (λ (y : Option Row). AreAlike (Some plain.row) y) to (subst (λ (x : Option NodeRecord). AreAlike x b) at alike)
