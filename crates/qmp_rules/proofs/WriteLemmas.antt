-- What a guest's write makes of the rows, one after another.
use Rattle.std.proofs.Common.{◌≡◌, ◌==◌, ℕ, zero, suc, ◌+◌, ◌-◌, ◌<◌, ◌≤◌, Bool, true, false, cond, List, [], ◌∷◌, ◌++◌, map, take, drop, set, get_or, length, refl, sym, ◌∙◌, ap, subst, arith, add-one, Option, Some, None, option_map}
use Rattle.std.specs.Prelude.{slice_get, option_and_then, find, ◌||◌}
use Rattle.std.proofs.lemmas.Option.{same_Some, get_or_from_slice_get}
use Rattle.std.proofs.lemmas.List.{length-set}
use Rattle.blk_graph.specs.declared.edge.Role.{Role}
use Rattle.blk_graph.specs.declared.edge.Role.TheVariants.{Backing}
use Rattle.qmp_rules.specs.declared.rows.NodeRecord.{NodeRecord}
use Rattle.qmp_rules.specs.Table.{RunTable, child}
use Rattle.qmp_rules.specs.Chains.{filter_role, filtered, disk_from, disk_node, backing, chain_from, chain, chain_below, is_listed, is_over, unsettled_over, written_under}
use Rattle.qmp_rules.proofs.ChainLemmas.{below_some}

-- ---- rows of the same nodes, which are of the same kinds

pub record IsNodeAlike (a b : NodeRecord) : Type 0 where
  pub id : b.id ≡ a.id
  pub kind : b.kind ≡ a.kind

abbrev pub AreNodesAlike : List NodeRecord → List NodeRecord → Type 0
AreNodesAlike [] [] = Unit {0}
AreNodesAlike (a ∷ old) (b ∷ new) = IsNodeAlike a b × AreNodesAlike old new
AreNodesAlike _ _ = ⊥

pub alike_itself : (rows : List NodeRecord) → AreNodesAlike rows rows
alike_itself [] = tt
alike_itself (row ∷ rows) = (record { id = refl; kind = refl }, alike_itself rows)

pub alike_set : (old new : List NodeRecord) (at : ℕ) (row now : NodeRecord) → AreNodesAlike old new → slice_get new at ≡ Some row → IsNodeAlike row now → AreNodesAlike old (set new at now)
alike_set [] [] at row now all is one = tt
alike_set (a ∷ old) (b ∷ new) zero row now all is one =
    let same : b ≡ row = same_Some b row is in
    (record { id = one.id ∙ ap (λ (r : NodeRecord). r.id) (sym same) ∙ all.0.id; kind = one.kind ∙ ap (λ (r : NodeRecord). r.kind) (sym same) ∙ all.0.kind }, all.1)
alike_set (a ∷ old) (b ∷ new) (suc at) row now all is one = (all.0, alike_set old new at row now all.1 is one)
alike_set [] (b ∷ new) at row now all is one = absurd all
alike_set (a ∷ old) [] at row now all is one = absurd all

-- a filter among the one is one among the other
abbrev pub role_in : Option NodeRecord → Option Role
role_in found = option_and_then (λ (row : NodeRecord). filter_role row.kind) found

role_alike : (old new : List NodeRecord) (id : ℕ) → AreNodesAlike old new → role_in (find (λ row. row.id == id) new) ≡ role_in (find (λ row. row.id == id) old)
role_alike [] [] id all = refl
role_alike (a ∷ old) (b ∷ new) id all =
    ap (λ n. role_in (cond (n == id) (Some b) (find (λ row. row.id == id) new))) all.0.id ∙ by_test (a.id == id) (role_alike old new id all.1)
  where
    by_test : (here : Bool) → role_in (find (λ row. row.id == id) new) ≡ role_in (find (λ row. row.id == id) old)
        → role_in (cond here (Some b) (find (λ row. row.id == id) new)) ≡ role_in (cond here (Some a) (find (λ row. row.id == id) old))
    by_test true rest = ap filter_role all.0.kind
    by_test false rest = rest
role_alike [] (b ∷ new) id all = absurd all
role_alike (a ∷ old) [] id all = absurd all

-- ---- chains over such rows

module _ (t : RunTable) (rows : List NodeRecord) (all : AreNodesAlike t.nodes rows) where
  abbrev now : RunTable
  now = record t { nodes = rows }

  filtered_alike : (id : ℕ) → filtered now id ≡ filtered t id
  filtered_alike id = ap (λ role. option_and_then (child t id) role) (role_alike t.nodes rows id all)

  disk_alike : (n id : ℕ) → disk_from n now id ≡ disk_from n t id
  disk_alike zero id = refl
  disk_alike (suc n) id = ap (λ f. elim f as (λ _. ℕ) [ None ↦ id | Some under ↦ disk_from n now under ]) (filtered_alike id) ∙ by_found (filtered t id) (disk_alike n)
    where
      by_found : (found : Option ℕ) → ((under : ℕ) → disk_from n now under ≡ disk_from n t under)
          → elim found as (λ _. ℕ) [ None ↦ id | Some under ↦ disk_from n now under ] ≡ elim found as (λ _. ℕ) [ None ↦ id | Some under ↦ disk_from n t under ]
      by_found None each = refl
      by_found (Some under) each = each under

  node_alike : (id : ℕ) → disk_node now id ≡ disk_node t id
  unfolding disk_node
  node_alike id = disk_alike 64 id

  backing_alike : (id : ℕ) → backing now id ≡ backing t id
  backing_alike id = by_found (child t id Backing)
    where
      by_found : (found : Option ℕ) → option_map (disk_node now) found ≡ option_map (disk_node t) found
      by_found None = refl
      by_found (Some under) = ap Some (node_alike under)

  chain_alike : (n id : ℕ) → chain_from n now id ≡ chain_from n t id
  chain_alike zero id = refl
  chain_alike (suc n) id = ap (λ f. id ∷ (elim f as (λ _. List ℕ) [ None ↦ [] | Some under ↦ chain_from n now under ])) (backing_alike id) ∙ by_found (backing t id) (chain_alike n)
    where
      by_found : (found : Option ℕ) → ((under : ℕ) → chain_from n now under ≡ chain_from n t under)
          → id ∷ (elim found as (λ _. List ℕ) [ None ↦ [] | Some under ↦ chain_from n now under ]) ≡ id ∷ (elim found as (λ _. List ℕ) [ None ↦ [] | Some under ↦ chain_from n t under ])
      by_found None each = refl
      by_found (Some under) each = ap (λ rest. id ∷ rest) (each under)

  below_alike : (id : ℕ) → chain_below now id ≡ chain_below t id
  unfolding chain
  below_alike id = ap (drop 1) (chain_alike 64 id)

  over_alike : (node id : ℕ) → is_over now node id ≡ is_over t node id
  over_alike node id = ap (λ d. is_listed node (chain_below now d)) (node_alike id) ∙ ap (is_listed node) (below_alike (disk_node t id))

  pub unsettled_alike : (node : ℕ) (row : NodeRecord) → unsettled_over now node row ≡ unsettled_over t node row
  unsettled_alike node row = ap (λ b. cond b (record row { is_settled = false }) row) (over_alike node row.id)

-- ---- row by row

pub like_over : (t : RunTable) (node : ℕ) (row : NodeRecord) → IsNodeAlike row (unsettled_over t node row)
like_over t node row = by_test (is_over t node row.id)
  where
    by_test : (b : Bool) → IsNodeAlike row (cond b (record row { is_settled = false }) row)
    by_test true = record { id = refl; kind = refl }
    by_test false = record { id = refl; kind = refl }

step : (f : NodeRecord → NodeRecord) (rows : List NodeRecord) (at : ℕ) (row : NodeRecord) → slice_get rows at ≡ Some row
    → take (suc at) (set rows at (f row)) ++ map f (drop (suc at) (set rows at (f row))) ≡ take at rows ++ map f (drop at rows)
step f [] at row is = absurd (let bad : ⊥ = cc is in bad)
step f (x ∷ rows) zero row is = let same : x ≡ row = same_Some x row is in rw same refl
step f (x ∷ rows) (suc at) row is = ap (λ rest. x ∷ rest) (step f rows at row is)

-- the rows from a place on are still to be written
pub record AreWrittenTo (t : RunTable) (node at : ℕ) (rows : List NodeRecord) : Type 0 where
  pub so_far : take at rows ++ map (unsettled_over t node) (drop at rows) ≡ map (unsettled_over t node) t.nodes
  pub alike : AreNodesAlike t.nodes rows
  pub count : length rows ≡ length t.nodes

pub written_none : (t : RunTable) (node : ℕ) → AreWrittenTo t node 0 t.nodes
written_none t node = record { so_far = refl; alike = alike_itself t.nodes; count = refl }

pub written_one : (t : RunTable) (node at : ℕ) (rows : List NodeRecord) (row : NodeRecord) → slice_get rows at ≡ Some row → AreWrittenTo t node at rows
    → AreWrittenTo t node (at + 1) (set rows at (unsettled_over (record t { nodes = rows }) node row))
written_one t node at rows row is was =
    let same : unsettled_over (record t { nodes = rows }) node row ≡ unsettled_over t node row = unsettled_alike t rows was.alike node row in
    subst (λ y. AreWrittenTo t node (at + 1) (set rows at y)) (sym same) (record {
      so_far = rw (add-one at) (step (unsettled_over t node) rows at row is ∙ was.so_far);
      alike = alike_set t.nodes rows at row (unsettled_over t node row) was.alike is (like_over t node row);
      count = length-set rows at (unsettled_over t node row) ∙ was.count;
    })

pub written_all : (t : RunTable) (node at : ℕ) (rows : List NodeRecord) → length rows ≤ at → AreWrittenTo t node at rows → record t { nodes = rows } ≡ written_under node t
unfolding written_under
written_all t node at rows all was =
    let left : take at rows ++ map (unsettled_over t node) (drop at rows) ≡ rows = rest at rows all in
    ap (λ (nodes : List NodeRecord). record t { nodes = nodes }) (sym left ∙ was.so_far)
  where
    rest : (n : ℕ) (xs : List NodeRecord) → length xs ≤ n → take n xs ++ map (unsettled_over t node) (drop n xs) ≡ xs
    rest zero [] le = refl
    rest zero (x ∷ xs) le = absurd (omega (arith, le))
    rest (suc n) [] le = refl
    rest (suc n) (x ∷ xs) le = ap (λ more. x ∷ more) (rest n xs (omega (arith, le)))

there_is : {A : Type 0} (xs : List A) (i : ℕ) → i < length xs → (x : A) × (slice_get xs i ≡ Some x)
there_is [] i less = absurd (omega (arith, less))
there_is (x ∷ xs) zero less = (x, refl)
there_is (x ∷ xs) (suc i) less = there_is xs i (omega (arith, less))

pub written_step : (t before after : RunTable) (node at : ℕ) → before ≡ record t { nodes = before.nodes } → AreWrittenTo t node at before.nodes → at < length t.nodes
    → ((row : NodeRecord) → slice_get before.nodes at ≡ Some row → after ≡ record before { nodes = set before.nodes at (unsettled_over before node row) })
    → AreWrittenTo t node (at + 1) after.nodes × (after ≡ record t { nodes = after.nodes })
written_step t before after node at rest was less step =
    let row = there_is before.nodes at (omega (arith, less, was.count)) in
    let is = step row.0 row.1 in
    let nodes : after.nodes ≡ set before.nodes at (unsettled_over (record t { nodes = before.nodes }) node row.0) =
    ap (λ (u : RunTable). u.nodes) is ∙ ap (λ (u : RunTable). set before.nodes at (unsettled_over u node row.0)) rest in
    let one = written_one t node at before.nodes row.0 row.1 was in (
      subst (AreWrittenTo t node (at + 1)) (sym nodes) one,
      is ∙ ap (λ (u : RunTable). record u { nodes = set before.nodes at (unsettled_over before node row.0) }) rest ∙ ap (λ (rows : List NodeRecord). record t { nodes = rows }) (sym (ap (λ (u : RunTable). u.nodes) is)),
    )

-- a row that isn't over the node stays
set_same : (rows : List NodeRecord) (at : ℕ) (row : NodeRecord) → slice_get rows at ≡ Some row → set rows at row ≡ rows
set_same [] at row is = refl
set_same (x ∷ rows) zero row is = ap (λ r. r ∷ rows) (sym (same_Some x row is))
set_same (x ∷ rows) (suc at) row is = ap (λ rest. x ∷ rest) (set_same rows at row is)

pub kept_row : (t : RunTable) (node at : ℕ) (seen row : NodeRecord) → seen ≡ get_or t.nodes at seen → is_over t node seen.id ≡ false → slice_get t.nodes at ≡ Some row
    → t ≡ record t { nodes = set t.nodes at (unsettled_over t node row) }
kept_row t node at seen row read apart is =
    let same : seen ≡ row = read ∙ get_or_from_slice_get t.nodes at row seen is in
    let past : is_over t node row.id ≡ false = subst (λ (r : NodeRecord). is_over t node r.id ≡ false) same apart in
    let stays : unsettled_over t node row ≡ row = ap (λ b. cond b (record row { is_settled = false }) row) past in
    ap (λ (rows : List NodeRecord). record t { nodes = rows }) (sym (ap (set t.nodes at) stays ∙ set_same t.nodes at row is))

-- ---- down a chain

module _ (i : ℕ) (t : RunTable) (top node : ℕ) (is : Bool) (so : is_listed node (drop 1 (chain_from (64 - i) t top)) ≡ is) where
  pub has_more : (under : ℕ) → i < 64 → backing t top ≡ Some under → ((under == node) || is_listed node (drop 1 (chain_from (64 - (i + 1)) t under))) ≡ is
  has_more under less some = ap (is_listed node) (below_some i t top under [] (drop 1 (chain_from (64 - i) t top)) less some refl) ∙ so
