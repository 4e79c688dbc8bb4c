-- Where the table has a place for a node, the nodes have it, and what keeps the permission rule there keeps it here.
use Rattle.std.proofs.Common.{◌≡◌, ◌⊎◌, ℕ, zero, suc, ◌+◌, ◌<◌, ◌≤◌, ◌==◌, Bool, true, false, cond, List, [], ◌∷◌, ◌++◌, length, map, set, replicate, inl, inr, refl, sym, ◌∙◌, ap, subst, arith, Option, Some, None}
use Rattle.std.specs.Prelude.{◌||◌, Contains, IsSome, bytes_eq, find, nat_eq}
use Rattle.std.specs.List.{list_any}
use Rattle.std.proofs.lemmas.Bool.{cases_lt, eq-eqb, eqb-true, false≢true}
use Rattle.std.proofs.lemmas.List.{length-map, map-append}
use Rattle.blk_graph.specs.declared.edge.Edge.{Edge}
use Rattle.blk_graph.specs.declared.kind.Kind.TheVariants.{Protocol}
use Rattle.blk_graph.specs.declared.kind.NodeKind.{NodeKind}
use Rattle.blk_graph.specs.Graph.{HasNode, NodeRow, ids}
use Rattle.blk_graph.specs.Ids.{IsLowestFree, lowest_free, lowest_from}
use Rattle.blk_graph.specs.Refreshed.{no_kind, refreshed}
use Rattle.blk_graph.specs.Rule.{first_conflict}
use Rattle.blk_graph.proofs.Members.{Contains-cases, Contains-here, Contains-nil, Contains-there}
use Rattle.blk_nodes.specs.Adding.{IsAllowed}
use Rattle.blk_nodes.specs.Joined.{IsFile, IsJoined}
use Rattle.blk_nodes.specs.Nodes.{Nodes, driver_kind, row_at}
use Rattle.blk_nodes.specs.Overlays.{HasRoomForNode}
use Rattle.blk_nodes.specs.declared.row.Driver.{Driver}
use Rattle.blk_nodes.specs.declared.row.Driver.TheVariants as drivers
use Rattle.blk_nodes.specs.declared.row.Row.{Row}
use Rattle.qmp_rules.specs.Changes.{unsettled, with_unsettled}
use Rattle.qmp_rules.specs.Edits.{free_id}
use Rattle.qmp_rules.specs.Table.{RunTable, kind_of_record, kinds_from, kinds_of, node_by_id, node_named}
use Rattle.qmp_rules.specs.declared.rows.NodeRecord.{NodeRecord}
use Rattle.flat_machine.proofs.Finds.{bytes_eq-same}
use Rattle.flat_machine.proofs.Fresh.{lowest_free-free}
use Rattle.world_parts.specs.Coherent.{AreAlike, AreNodesOf, IsRowOf, node_row}
use Rattle.world_additions.proofs.AddAlike.{apart-of, id_of, ids-alike}
use Rattle.world_parts.proofs.TableKinds.{kinds_alike}
use Rattle.world_parts.proofs.JobFilters.{no_file}

-- ---- names

names-mapped : (rows : List NodeRecord) → map (λ (r : NodeRow). r.name) (map node_row rows) ≡ map (λ (r : NodeRecord). r.name) rows
names-mapped [] = refl
names-mapped (row ∷ rows) = ap (λ (l : List (List ℕ)). row.name ∷ l) (names-mapped rows)

not-head : (row : NodeRecord) (rows : List NodeRecord) (name : List ℕ) (b : Bool) → bytes_eq row.name name ≡ b
    → cond b (Some row) (find (λ r. bytes_eq r.name name) rows) ≡ None
    → (name ≡ row.name) ⊎ Contains (map (λ (r : NodeRecord). r.name) rows) name
    → (find (λ r. bytes_eq r.name name) rows ≡ None → Contains (map (λ (r : NodeRecord). r.name) rows) name → ⊥) → ⊥
not-head row rows name true e none has rest = absurd (cc none)
not-head row rows name false e none (inl here) rest =
    let yes : bytes_eq row.name name ≡ true = ap (bytes_eq row.name) here ∙ bytes_eq-same row.name in
    false≢true (sym e ∙ yes)
not-head row rows name false e none (inr behind) rest = rest none behind

not-named : (rows : List NodeRecord) (name : List ℕ) → find (λ row. bytes_eq row.name name) rows ≡ None
    → Contains (map (λ (r : NodeRecord). r.name) rows) name → ⊥
not-named [] name none has = Contains-nil name has
not-named (row ∷ rows) name none has =
    not-head row rows name (bytes_eq row.name name) refl none (Contains-cases row.name (map (λ (r : NodeRecord). r.name) rows) name has)
    (λ later there. not-named rows name later there)

pub place-of : (t : RunTable) (nodes : Nodes) (name : List ℕ) (more : ℕ) → AreNodesOf t nodes → node_named t name ≡ None → 0 < more
    → length t.nodes + more ≤ 64 → HasRoomForNode nodes name
place-of t nodes name more alike none some room = record {
  free = λ has.
      let there : Contains (map (λ (r : NodeRecord). r.name) t.nodes) name =
      subst (λ (l : List (List ℕ)). Contains l name) (ap (map (λ (r : NodeRow). r.name)) alike.listed ∙ names-mapped t.nodes) has in
      not-named t.nodes name none there;
  room = λ full.
      let mapped : length (map node_row t.nodes) ≡ length t.nodes = simp length-map in
      let same : length nodes.graph.nodes ≡ length t.nodes = ap length alike.listed ∙ mapped in
      omega (arith, full, same, some, room);
}

-- ---- ids

any-head : (id x : ℕ) (taken : List ℕ) (b : Bool) → (id == x) ≡ b → (b || list_any (nat_eq id) taken) ≡ true
    → (list_any (nat_eq id) taken ≡ true → Contains taken id) → Contains (x ∷ taken) id
any-head id x taken true e is rest = subst (Contains (x ∷ taken)) (sym (eqb-true id x e)) (Contains-here x taken)
any-head id x taken false e is rest = Contains-there x taken id (rest is)

has-any : (id : ℕ) (taken : List ℕ) → list_any (nat_eq id) taken ≡ true → Contains taken id
has-any id [] is = absurd (false≢true is)
has-any id (x ∷ taken) is = any-head id x taken (id == x) refl is (λ later. has-any id taken later)

none-head : (id x : ℕ) (taken : List ℕ) (b : Bool) → (id == x) ≡ b → (b || list_any (nat_eq id) taken) ≡ false
    → (id ≡ x) ⊎ Contains taken id → (list_any (nat_eq id) taken ≡ false → Contains taken id → ⊥) → ⊥
none-head id x taken true e none has rest = false≢true (sym none)
none-head id x taken false e none (inl here) rest = false≢true (sym e ∙ eq-eqb id x here)
none-head id x taken false e none (inr behind) rest = rest none behind

has-none : (id : ℕ) (taken : List ℕ) → list_any (nat_eq id) taken ≡ false → Contains taken id → ⊥
has-none id [] none has = Contains-nil id has
has-none id (x ∷ taken) none has =
    none-head id x taken (id == x) refl none (Contains-cases x taken id has) (λ later there. has-none id taken later there)

lowest-head : (more id : ℕ) (taken : List ℕ) (below : ℕ) (b : Bool) → list_any (nat_eq id) taken ≡ b → id ≤ below
    → below < cond b (lowest_from more (id + 1) taken) id → (id + 1 ≤ below → below < lowest_from more (id + 1) taken → Contains taken below)
    → Contains taken below
lowest-head more id taken below true e least less rest = elim (cases_lt id below) [
  | inl above ↦ rest (omega (arith, above)) less
  | inr most ↦ let same : id ≡ below = omega (arith, least, most) in subst (Contains taken) same (has-any id taken e)
]
lowest-head more id taken below false e least less rest = absurd (omega (arith, least, less))

below-lowest : (more id : ℕ) (taken : List ℕ) (below : ℕ) → id ≤ below → below < lowest_from more id taken → Contains taken below
below-lowest zero id taken below least less = absurd (omega (arith, least, less))
below-lowest (suc more) id taken below least less =
    lowest-head more id taken below (list_any (nat_eq id) taken) refl least less (λ later further. below-lowest more (id + 1) taken below later further)

lowest-below : (taken : List ℕ) (below : ℕ) → below < lowest_free taken → Contains taken below
unfolding lowest_free
lowest-below taken below less = below-lowest 64 0 taken below (omega arith) less

pub lowest-free : (taken : List ℕ) → length taken < 64 → IsLowestFree taken (lowest_free taken)
lowest-free taken few = record {
  free = has-none (lowest_free taken) taken (lowest_free-free taken few);
  lowest = lowest-below taken;
}

module _ (t : RunTable) (nodes : Nodes) (alike : AreNodesOf t nodes) (joined : IsJoined nodes) (room : length t.nodes < 64) where
  same_ids : ids nodes.graph ≡ map id_of t.nodes
  same_ids = ids-alike t nodes alike.listed

  few : length (map id_of t.nodes) < 64
  few = let same : length (map id_of t.nodes) ≡ length t.nodes = simp length-map in omega (arith, same, room)

  pub free-lowest : IsLowestFree (ids nodes.graph) (free_id t)
  free-lowest = subst (λ (l : List ℕ). IsLowestFree l (free_id t)) (sym same_ids) (lowest-free (map id_of t.nodes) few)

-- ---- rows by id

alike-row : (own : Option Row) (row : NodeRecord) → AreAlike (Some row) own → (r : Row) × (own ≡ Some r) × IsRowOf row r
alike-row None row is = absurd is
alike-row (Some r) row is = (r, refl, is)

pub row-of : (t : RunTable) (nodes : Nodes) (id : ℕ) (row : NodeRecord) → AreNodesOf t nodes → node_by_id t id ≡ Some row
    → (own : Row) × (row_at nodes id ≡ Some own) × IsRowOf row own
row-of t nodes id row alike there =
    alike-row (row_at nodes id) row (subst (λ (found : Option NodeRecord). AreAlike found (row_at nodes id)) there (alike.rows id))

is-file-driver : (driver : Driver) → driver_kind driver ≡ Protocol → driver ≡ drivers.File
is-file-driver drivers.File is = refl
is-file-driver (drivers.Raw part) is = absurd (cc is)
is-file-driver (drivers.Qcow2 image) is = absurd (cc is)
is-file-driver drivers.CopyOnRead is = absurd (cc is)
is-file-driver (drivers.Filter kind) is = absurd (no_file kind is)

pub file-of : (t : RunTable) (nodes : Nodes) (id : ℕ) (row : NodeRecord) → AreNodesOf t nodes → node_by_id t id ≡ Some row → row.kind ≡ Protocol
    → IsFile nodes id
file-of t nodes id row alike there kind =
    let own = row-of t nodes id row alike there in
    record { row = own.0; there = own.1; driver = is-file-driver own.0.driver (sym own.2.kind ∙ kind) }

pub node-of : (t : RunTable) (nodes : Nodes) (id : ℕ) (row : NodeRecord) → AreNodesOf t nodes → IsJoined nodes → node_by_id t id ≡ Some row → HasNode nodes.graph id
node-of t nodes id row alike joined there =
    let own = row-of t nodes id row alike there in
    joined.only id (subst IsSome (sym own.1) refl)

-- ---- kinds of one row more

kinds-push : (rows : List NodeRecord) (new : NodeRecord) (kinds : List NodeKind)
    → kinds_from kinds (rows ++ new ∷ []) ≡ set (kinds_from kinds rows) new.id (kind_of_record new)
kinds-push [] new kinds = refl
kinds-push (row ∷ rows) new kinds = kinds-push rows new (set kinds row.id (kind_of_record row))

kinds-head : (row : NodeRecord) (rows more : List NodeRecord) (kinds : List NodeKind) (b : Bool)
    → ((k : List NodeKind) → kinds_from k more ≡ kinds_from k rows)
    → kinds_from (set kinds (cond b (unsettled row) row).id (kind_of_record (cond b (unsettled row) row))) more ≡ kinds_from (set kinds row.id (kind_of_record row)) rows
kinds-head row rows more kinds true rest = rest (set kinds row.id (kind_of_record row))
kinds-head row rows more kinds false rest = rest (set kinds row.id (kind_of_record row))

kinds-unsettled : (id : ℕ) (rows : List NodeRecord) (kinds : List NodeKind) → kinds_from kinds (with_unsettled id rows) ≡ kinds_from kinds rows
kinds-unsettled id [] kinds = refl
kinds-unsettled id (row ∷ rows) kinds = kinds-head row rows (with_unsettled id rows) kinds (row.id == id) (λ k. kinds-unsettled id rows k)

ids-head : (row : NodeRecord) (rest more : List ℕ) (b : Bool) → more ≡ rest → id_of (cond b (unsettled row) row) ∷ more ≡ id_of row ∷ rest
ids-head row rest more true same = ap (λ (l : List ℕ). row.id ∷ l) same
ids-head row rest more false same = ap (λ (l : List ℕ). row.id ∷ l) same

ids-unsettled : (id : ℕ) (rows : List NodeRecord) → map id_of (with_unsettled id rows) ≡ map id_of rows
ids-unsettled id [] = refl
ids-unsettled id (row ∷ rows) = ids-head row (map id_of rows) (map id_of (with_unsettled id rows)) (row.id == id) (ids-unsettled id rows)

-- ---- the permission rule

module _ (t : RunTable) (nodes : Nodes) (alike : AreNodesOf t nodes) (joined : IsJoined nodes) (room : length t.nodes < 64)
    (rows : List NodeRecord) (same_ids' : map id_of rows ≡ map id_of t.nodes) (same_kinds : kinds_of rows ≡ kinds_of t.nodes)
    (new : NodeRecord) (is : new.id ≡ free_id t) (edges : ℕ → List Edge → List Edge)
    (none : first_conflict (map id_of (rows ++ new ∷ [])) (refreshed (kinds_of (rows ++ new ∷ [])) (edges new.id t.edges)) ≡ None) where
  all_ids : map id_of (rows ++ new ∷ []) ≡ ids nodes.graph ++ new.id ∷ []
  all_ids =
      map-append id_of rows (new ∷ [])
      ∙ ap (λ (l : List ℕ). l ++ new.id ∷ []) (same_ids' ∙ sym (ids-alike t nodes alike.listed))

  all_kinds : kinds_of (rows ++ new ∷ []) ≡ set nodes.graph.kinds new.id (kind_of_record new)
  all_kinds =
      kinds-push rows new (replicate 64 no_kind)
      ∙ ap (λ (k : List NodeKind). set k new.id (kind_of_record new)) (same_kinds ∙ kinds_alike t nodes joined (apart-of t nodes alike.listed joined) alike.rows)

  pub allowed-of : IsAllowed nodes (kind_of_record new) edges
  allowed-of = record {
    id = new.id;
    lowest = subst (IsLowestFree (ids nodes.graph)) (sym is) (free-lowest t nodes alike joined room);
    first =
        ap (λ (l : List ℕ). first_conflict l (refreshed (set nodes.graph.kinds new.id (kind_of_record new)) (edges new.id nodes.graph.edges))) (sym all_ids)
        ∙ ap (λ (k : List NodeKind). first_conflict (map id_of (rows ++ new ∷ [])) (refreshed k (edges new.id nodes.graph.edges))) (sym all_kinds)
        ∙ ap (λ (e : List Edge). first_conflict (map id_of (rows ++ new ∷ [])) (refreshed (kinds_of (rows ++ new ∷ [])) (edges new.id e))) alike.edges
        ∙ none;
  }

pub unsettled-kinds : (id : ℕ) (rows : List NodeRecord) → kinds_of (with_unsettled id rows) ≡ kinds_of rows
unsettled-kinds id rows = kinds-unsettled id rows (replicate 64 no_kind)

pub unsettled-ids : (id : ℕ) (rows : List NodeRecord) → map id_of (with_unsettled id rows) ≡ map id_of rows
unsettled-ids id rows = ids-unsettled id rows
