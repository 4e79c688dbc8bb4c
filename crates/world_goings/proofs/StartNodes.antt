-- The nodes behind the start of a backup or a mirror: they are the table's, its filter reads as its source, and all else as before.
use Rattle.std.proofs.Common.{◌≡◌, ◌≢◌, ℕ, zero, suc, ◌<◌, ◌≤◌, ◌==◌, Bool, true, false, not, cond, List, [], ◌∷◌, ◌++◌, map, length, set, get_or, Option, Some, None, refl, sym, ◌∙◌, ap, subst, arith, inl, inr}
use Rattle.std.specs.Prelude.{Contains, IsSome, find, option_map}
use Rattle.std.proofs.lemmas.Bool.{cases_eq, cases_lt, eqb-true, ne_eqb}
use Rattle.std.proofs.lemmas.List.{get_or-set_other, get_or-set_same, get_or_past, length-set, map-append}
use Rattle.blk_graph.specs.Graph.{NodeRow}
use Rattle.blk_graph.specs.Refreshed.{kind_at, no_kind}
use Rattle.blk_graph.specs.declared.edge.Parent.TheVariants.{Node}
use Rattle.blk_graph.specs.declared.edge.Role.TheVariants.{File as FileRole}
use Rattle.blk_graph.specs.declared.kind.Kind.{Kind}
use Rattle.blk_graph.specs.declared.kind.NodeKind.{NodeKind}
use Rattle.blk_graph.proofs.Members.{Contains-here, Contains-there, find-Some}
use Rattle.blk_nodes.specs.Adding.{filtering_row, with_node_row}
use Rattle.blk_nodes.specs.Jobs.{with_read_only}
use Rattle.blk_nodes.specs.Joined.{IsJoined}
use Rattle.blk_nodes.specs.Nodes.{Nodes, filter_kind, row_at}
use Rattle.blk_nodes.specs.Rewiring.{rewired, rows_by}
use Rattle.blk_nodes.specs.declared.row.FilterKind.{FilterKind}
use Rattle.blk_nodes.specs.declared.row.FilterKind.TheVariants as filters
use Rattle.blk_nodes.specs.declared.row.Row.{Row}
use Rattle.qmp_rules.specs.Chains.{filter_role}
use Rattle.qmp_rules.specs.Changes.{node_changed, unsettled}
use Rattle.qmp_rules.specs.Table.{RunTable, child, kinds_of, node_by_id}
use Rattle.qmp_rules.specs.declared.rows.JobRecord.{JobRecord}
use Rattle.qmp_rules.specs.declared.rows.NodeRecord.{NodeRecord}
use Rattle.flat_machine.specs.Suiting.{IsPlainNode}
use Rattle.flat_machine.specs.Wiring.{HaveDistinctIds, LeadsToFile, TableStands}
use Rattle.flat_machine.proofs.Finds.{find-map}
use Rattle.flat_machine.proofs.RowKinds.{kind_by, kind_or}
use Rattle.flat_machine.proofs.WritingKept.{role_edge}
use Rattle.world_parts.specs.Coherent.{AreAlike, AreNodesOf, IsOfFileLength, node_row}
use Rattle.world_goings.proofs.StartTables.{IsPutTable, row_lost}

-- ---- rows that may be written as kinds say

abbrev pub by_writes : NodeKind → Row → Row
by_writes kind row = with_read_only (not kind.writes) row

module _ (kinds : List NodeKind) (rows : List (Option Row)) (count : length rows ≡ 64) where
  length-by : (k : ℕ) → length (rows_by k kinds rows) ≡ 64
  unfolding rows_by
  length-by zero = count
  length-by (suc k) = length-set (rows_by k kinds rows) k (option_map (by_writes (kind_at kinds k)) (get_or (rows_by k kinds rows) k None)) ∙ length-by k

  not_yet : (k n : ℕ) → k ≤ n → get_or (rows_by k kinds rows) n None ≡ get_or rows n None
  unfolding rows_by
  not_yet zero n most = refl
  not_yet (suc k) n most =
      get_or-set_other (rows_by k kinds rows) k n (option_map (by_writes (kind_at kinds k)) (get_or (rows_by k kinds rows) k None)) None
      (λ same. omega (arith, most, same))
      ∙ not_yet k n (omega (arith, most))

  turned : (k n : ℕ) → n < k → k ≤ 64 → get_or (rows_by k kinds rows) n None ≡ option_map (by_writes (kind_at kinds n)) (get_or rows n None)
  unfolding rows_by
  turned zero n less most = absurd (omega (arith, less))
  turned (suc k) n less most = elim (cases_eq n k) [
    | inl same ↦
        let long = length-by k in
        ap (λ (m : ℕ). get_or (rows_by (suc k) kinds rows) m None) same
        ∙ get_or-set_same (rows_by k kinds rows) k (option_map (by_writes (kind_at kinds k)) (get_or (rows_by k kinds rows) k None)) None (omega (arith, long, most))
        ∙ ap (option_map (by_writes (kind_at kinds k))) (not_yet k k (omega arith))
        ∙ ap (λ (m : ℕ). option_map (by_writes (kind_at kinds m)) (get_or rows m None)) (sym same)
    | inr apart ↦
        get_or-set_other (rows_by k kinds rows) k n (option_map (by_writes (kind_at kinds k)) (get_or (rows_by k kinds rows) k None)) None apart
        ∙ turned k n (omega (arith, less, apart)) (omega (arith, most))
  ]

  row_turned : (n : ℕ) → get_or (rows_by 64 kinds rows) n None ≡ option_map (by_writes (kind_at kinds n)) (get_or rows n None)
  row_turned n = elim (cases_lt n 64) [
    | inl less ↦ turned 64 n less (omega arith)
    | inr more ↦
        let long = length-by 64 in
        let counted = count in
        get_or_past (rows_by 64 kinds rows) n None (omega (arith, long, more))
        ∙ ap (option_map (by_writes (kind_at kinds n))) (sym (get_or_past rows n None (omega (arith, counted, more))))
  ]

-- ---- a plain node is under no format node

pub none_over : (t : RunTable) → TableStands t → (source : ℕ) → IsPlainNode t source → (n : ℕ) (over : NodeRecord) → node_by_id t n ≡ Some over → filter_role over.kind ≡ None
    → child t n FileRole ≡ Some source → ⊥
none_over t h source p n over at own under =
    let above = find-Some (λ (r : NodeRecord). r.id == n) t.nodes over at in
    let below = find-Some (λ (r : NodeRecord). r.id == source) t.nodes p.row p.there in
    let edge = role_edge (Node n) FileRole t.edges source under in
    let leads : LeadsToFile t over p.row = record {
      over_there = above.0;
      under_there = below.0;
      edge = edge.edge;
      there = edge.there;
      parent = edge.from ∙ ap Node (sym (eqb-true over.id n above.1));
      role = edge.role_is;
      child = edge.to ∙ sym (eqb-true p.row.id source below.1);
    } in
    by_name leads p.row.filename refl
  where
    by_name : LeadsToFile t over p.row → (name : Option (List ℕ)) → p.row.filename ≡ name → ⊥
    by_name leads None named = let filter = h.filtered over p.row leads named in let bad = subst IsSome own filter in let no : ⊥ = cc bad in no
    by_name leads (Some name) named = p.free p.row over p.there (subst IsSome (sym named) refl) leads own

-- ---- table and nodes

not_not : (b : Bool) → not (not b) ≡ b
not_not true = refl
not_not false = refl

no_file_length : (kind : FilterKind) (k : Kind) (size : ℕ) → k ≡ filter_kind kind → IsOfFileLength k size
no_file_length filters.BeforeWrite k size is = subst (λ (x : Kind). IsOfFileLength x size) (sym is) tt
no_file_length filters.Mirror k size is = subst (λ (x : Kind). IsOfFileLength x size) (sym is) tt
no_file_length filters.Commit k size is = subst (λ (x : Kind). IsOfFileLength x size) (sym is) tt

length_still : (target : ℕ) (r : NodeRecord) → IsOfFileLength r.kind r.size → IsOfFileLength (node_changed target unsettled r).kind (node_changed target unsettled r).size
length_still target r is = by_test (r.id == target)
  where
    by_test : (b : Bool) → IsOfFileLength (cond b (unsettled r) r).kind (cond b (unsettled r) r).size
    by_test true = is
    by_test false = is

module _ (t u : RunTable) (new : NodeRecord) (source target : ℕ) (job : JobRecord) (p : IsPutTable t u new source target job) where
  abbrev unsettles : NodeRecord → NodeRecord
  unsettles = node_changed target unsettled

  found_behind : (n : ℕ) → n ≢ new.id → (rows : List NodeRecord) → find (λ (r : NodeRecord). r.id == n) (rows ++ new ∷ []) ≡ find (λ (r : NodeRecord). r.id == n) rows
  found_behind n other [] = rw (ne_eqb new.id n (λ same. other (sym same))) refl
  found_behind n other (x ∷ rows) = by_test (x.id == n) (found_behind n other rows)
    where
      by_test : (b : Bool) → find (λ (r : NodeRecord). r.id == n) (rows ++ new ∷ []) ≡ find (λ (r : NodeRecord). r.id == n) rows
          → cond b (Some x) (find (λ (r : NodeRecord). r.id == n) (rows ++ new ∷ [])) ≡ cond b (Some x) (find (λ (r : NodeRecord). r.id == n) rows)
      by_test true rest = refl
      by_test false rest = rest

  pub found_other : (n : ℕ) → n ≢ new.id → node_by_id u n ≡ option_map unsettles (node_by_id t n)
  found_other n other =
      ap (find (λ (r : NodeRecord). r.id == n)) p.rows ∙ found_behind n other (map unsettles t.nodes)
      ∙ find-map (λ (r : NodeRecord). r.id == n) unsettles (λ r. ap (λ (m : ℕ). m == n) (row_lost target (λ (x : NodeRecord). x.id) (λ x. refl) r)) t.nodes

  pub found_own : HaveDistinctIds u → node_by_id u new.id ≡ Some new
  found_own apart = apart new (subst (λ (rows : List NodeRecord). Contains rows new) (sym p.rows) (last (map unsettles t.nodes)))
    where
      last : (rows : List NodeRecord) → Contains (rows ++ new ∷ []) new
      last [] = Contains-here new []
      last (x ∷ rows) = Contains-there x (rows ++ new ∷ []) new (last rows)

module _ (t u : RunTable) (new : NodeRecord) (source target : ℕ) (job : JobRecord) (p : IsPutTable t u new source target job) (fresh : node_by_id t new.id ≡ None)
    (h : TableStands t) (plain : IsPlainNode t source) (bare : new.offset ≡ 0) (apart : HaveDistinctIds u) (nodes : Nodes) (joined : IsJoined nodes)
    (alike : AreNodesOf t nodes) (kind : FilterKind) (of_kind : new.kind ≡ filter_kind kind) (small : new.id < 64) where
  abbrev lost : NodeRecord → NodeRecord
  lost = node_changed target unsettled

  abbrev kinds : List NodeKind
  kinds = kinds_of u.nodes

  abbrev own : Row
  own = filtering_row kind new.size new.read_only

  abbrev pub now : Nodes
  now = rewired (kinds_of u.nodes) u.edges (with_node_row nodes new.id new.name (filtering_row kind new.size new.read_only))

  pub row_other : (n : ℕ) → n ≢ new.id → row_at now n ≡ option_map (by_writes (kind_at kinds n)) (row_at nodes n)
  row_other n other =
      row_turned kinds (set nodes.rows new.id (Some own)) (length-set nodes.rows new.id (Some own) ∙ joined.rows) n
      ∙ ap (option_map (by_writes (kind_at kinds n))) (get_or-set_other nodes.rows new.id n (Some own) None other)

  pub row_own : row_at now new.id ≡ Some (by_writes (kind_at kinds new.id) own)
  row_own =
      row_turned kinds (set nodes.rows new.id (Some own)) (length-set nodes.rows new.id (Some own) ∙ joined.rows) new.id
      ∙ ap (option_map (by_writes (kind_at kinds new.id)))
      (get_or-set_same nodes.rows new.id (Some own) None (let len = joined.rows in let s = small in omega (arith, len, s)))

  pub unlisted : row_at nodes new.id ≡ None
  unlisted = by_row (row_at nodes new.id) (subst (λ (x : Option NodeRecord). AreAlike x (row_at nodes new.id)) fresh (alike.rows new.id))
    where
      by_row : (found : Option Row) → AreAlike None found → found ≡ None
      by_row None is = refl
      by_row (Some row) bad = absurd bad

  writes_own : not (kind_at kinds new.id).writes ≡ new.read_only
  writes_own = ap (λ (k : NodeKind). not k.writes) (kind_by u new.id apart small ∙ ap (kind_or no_kind) (found_own t u new source target job p apart)) ∙ not_not new.read_only

  rows_alike : (n : ℕ) → AreAlike (node_by_id u n) (row_at now n)
  rows_alike n = elim (cases_eq n new.id) [
    | inl same ↦
        subst (λ (m : ℕ). AreAlike (node_by_id u m) (row_at now m)) (sym same)
        (subst (λ (x : Option NodeRecord). AreAlike x (row_at now new.id)) (sym (found_own t u new source target job p apart))
        (subst (AreAlike (Some new)) (sym row_own) (record {
          kind = of_kind;
          size = refl;
          access = sym writes_own;
          place = bare;
          small = no_file_length kind new.kind new.size of_kind;
        })))
    | inr other ↦
        subst (λ (x : Option NodeRecord). AreAlike x (row_at now n)) (sym (found_other t u new source target job p n other))
        (subst (AreAlike (option_map lost (node_by_id t n))) (sym (row_other n other)) (by_rows n other (node_by_id t n) (row_at nodes n) refl refl (alike.rows n)))
  ]
    where
      by_rows : (m : ℕ) → m ≢ new.id → (x : Option NodeRecord) (y : Option Row) → node_by_id t m ≡ x → row_at nodes m ≡ y → AreAlike x y
          → AreAlike (option_map lost x) (option_map (by_writes (kind_at kinds m)) y)
      by_rows m other None None e f is = tt
      by_rows m other None (Some row) e f bad = bad
      by_rows m other (Some r) None e f bad = bad
      by_rows m other (Some r) (Some row) e f is =
          let below : m < 64 = joined.sound.small m (joined.only m (subst IsSome (sym f) refl)) in
          let writes : not (kind_at kinds m).writes ≡ (lost r).read_only =
          ap (λ (k : NodeKind). not k.writes) (kind_by u m apart below ∙ ap (kind_or no_kind) (found_other t u new source target job p m other ∙ ap (option_map lost) e)) ∙ not_not (lost r).read_only in
          record {
            kind = row_lost target (λ (x : NodeRecord). x.kind) (λ x. refl) r ∙ is.kind;
            size = row_lost target (λ (x : NodeRecord). x.size) (λ x. refl) r ∙ is.size;
            access = sym writes;
            place = row_lost target (λ (x : NodeRecord). x.offset) (λ x. refl) r ∙ is.place;
            small = length_still target r is.small;
          }

  listed_lost : (rows : List NodeRecord) → map node_row (map lost rows) ≡ map node_row rows
  listed_lost [] = refl
  listed_lost (r ∷ rows) = ap (λ (x : NodeRow). x ∷ map node_row (map lost rows)) (row_lost target node_row (λ x. refl) r) ∙ ap (λ (xs : List NodeRow). node_row r ∷ xs) (listed_lost rows)

  pub put_alike : AreNodesOf u now
  put_alike = record {
    listed =
        ap (λ (xs : List NodeRow). xs ++ node_row new ∷ []) (alike.listed ∙ sym (listed_lost t.nodes))
        ∙ sym (map-append node_row (map lost t.nodes) (new ∷ [])) ∙ ap (map node_row) (sym p.rows);
    edges = refl;
    rows = rows_alike;
  }
