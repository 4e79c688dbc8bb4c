-- The rows that stand for a file.
use Rattle.std.proofs.Common.{◌≡◌, ℕ, ◌==◌, true, false, List, Option, Some, None, refl, sym, ◌∙◌, ap}
use Rattle.std.specs.Prelude.{IsSome, Contains, find, option_map, option_and_then, unwrap_or, bytes_eq}
use Rattle.std.proofs.lemmas.Bool.{eqb-true}
use Rattle.blk_graph.proofs.Members.{find-Some}
use Rattle.qmp_rules.specs.Asks.{stands_for}
use Rattle.qmp_rules.specs.Table.{RunTable, node_by_id}
use Rattle.qmp_rules.specs.declared.rows.NodeRecord.{NodeRecord}
use Rattle.flat_machine.specs.Wiring.{HaveDistinctIds, StandAlone}
use Rattle.flat_machine.specs.State.{filename_of}
use Rattle.flat_machine.proofs.Finds.{bytes_eq-same, same-bytes_eq}
use Rattle.world_parts.specs.Face.{node_over}
use Rattle.world_parts.proofs.DeletedLists.{find_there}

-- ---- rows that stand for a file

pub stands-named : (name : List ℕ) (row : NodeRecord) → stands_for name row ≡ true → row.filename ≡ Some name
stands-named name row is = by_name row.filename refl is
  where
    by_name : (found : Option (List ℕ)) → row.filename ≡ found → unwrap_or (option_map (λ filename. bytes_eq filename name) found) false ≡ true
        → row.filename ≡ Some name
    by_name None at passes = absurd (let bad : ⊥ = cc passes in bad)
    by_name (Some filename) at passes = at ∙ ap (λ (n : List ℕ). Some n) (same-bytes_eq filename name passes)

pub named-stands : (name : List ℕ) (row : NodeRecord) → row.filename ≡ Some name → stands_for name row ≡ true
named-stands name row is =
    ap (λ (found : Option (List ℕ)). unwrap_or (option_map (λ filename. bytes_eq filename name) found) false) is ∙ bytes_eq-same name

module _ (t : RunTable) (alone : StandAlone t) where
  pub over_by : (name : List ℕ) (row : NodeRecord) → Contains t.nodes row → row.filename ≡ Some name → node_over t name ≡ Some row.id
  over_by name row there is = by_found (find (stands_for name) t.nodes) refl (find_there (stands_for name) t.nodes row there (named-stands name row is))
    where
      by_found : (found : Option NodeRecord) → find (stands_for name) t.nodes ≡ found → IsSome found → option_map (λ (r : NodeRecord). r.id) found ≡ Some row.id
      by_found None at some = absurd (let bad : ⊥ = cc some in bad)
      by_found (Some other) at some =
          let found = find-Some (stands_for name) t.nodes other at in
          ap (λ (n : ℕ). Some n)
          (alone name other row (record { there = found.0; filename = stands-named name other found.1 }) (record { there = there; filename = is }))

  -- the node over a file
  pub over : (name : List ℕ) (node : ℕ) → filename_of t node ≡ Some name → node_over t name ≡ Some node
  over name node is = by_row (node_by_id t node) refl is
    where
      by_row : (row : Option NodeRecord) → node_by_id t node ≡ row → option_and_then (λ (r : NodeRecord). r.filename) row ≡ Some name → node_over t name ≡ Some node
      by_row None at named = absurd (let bad : ⊥ = cc named in bad)
      by_row (Some row) at named =
          let found = find-Some (λ (r : NodeRecord). r.id == node) t.nodes row at in
          over_by name row found.0 named ∙ ap (λ (n : ℕ). Some n) (eqb-true row.id node found.1)

-- the row of a node over a file
pub over-row : (t : RunTable) (name : List ℕ) (node : ℕ) → HaveDistinctIds t → node_over t name ≡ Some node → filename_of t node ≡ Some name
over-row t name node apart is = by_found (find (stands_for name) t.nodes) refl is
  where
    by_found : (found : Option NodeRecord) → find (stands_for name) t.nodes ≡ found → option_map (λ (r : NodeRecord). r.id) found ≡ Some node
        → filename_of t node ≡ Some name
    by_found None at is = absurd (let bad : ⊥ = cc is in bad)
    by_found (Some row) at is =
        let same : row.id ≡ node = cc is in
        let found = find-Some (stands_for name) t.nodes row at in
        ap (λ (r : Option NodeRecord). option_and_then (λ (x : NodeRecord). x.filename) r) (ap (node_by_id t) (sym same) ∙ apart row found.0)
        ∙ stands-named name row found.1
