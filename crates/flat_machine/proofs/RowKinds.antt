-- The kinds of nodes by their rows.
use Rattle.std.proofs.Common.{◌≡◌, ◌≢◌, ◌⊎◌, ℕ, ◌<◌, ◌==◌, Bool, cond, List, [], ◌∷◌, length, map, set, replicate, Option, Some, None, inl, inr, refl, sym, ◌∙◌, ap, arith}
use Rattle.std.specs.List.{find, Contains}
use Rattle.std.proofs.lemmas.Bool.{eqb-true, eq-eqb, ne_eqb, cases_eq}
use Rattle.std.proofs.lemmas.List.{length-set, length-replicate, get_or-replicate, get_or-set_same, get_or-set_other}
use Rattle.blk_graph.specs.declared.kind.NodeKind.{NodeKind}
use Rattle.blk_graph.specs.Refreshed.{kind_at, no_kind}
use Rattle.blk_graph.proofs.Members.{Contains-here, Contains-there, find-Some}
use Rattle.blk_graph.proofs.StillLemmas.{get_or-replicate as none-there}
use Rattle.qmp_rules.specs.Table.{RunTable, node_by_id, kind_of_record, kinds_from, kinds_of}
use Rattle.qmp_rules.specs.declared.rows.NodeRecord.{NodeRecord}
use Rattle.flat_machine.specs.Wiring.{HaveDistinctIds}

-- rows of one id are the same row
abbrev pub AreOnce : List NodeRecord → Type 0
AreOnce rows = (a b : NodeRecord) → Contains rows a → Contains rows b → a.id ≡ b.id → a ≡ b

once-tail : (row : NodeRecord) (rows : List NodeRecord) → AreOnce (row ∷ rows) → AreOnce rows
once-tail row rows once a b there other = once a b (Contains-there row rows a there) (Contains-there row rows b other)

pub once_by : (t : RunTable) → HaveDistinctIds t → AreOnce t.nodes
once_by t apart a b there other same =
    let here : node_by_id t a.id ≡ Some a = apart a there in
    let also : node_by_id t b.id ≡ Some b = apart b other in
    let e : Some a ≡ Some b = sym here ∙ ap (node_by_id t) same ∙ also in
    cc e

-- what a row makes of the kind at its id, where there is one
abbrev pub kind_or : NodeKind → Option NodeRecord → NodeKind
kind_or kind None = kind
kind_or kind (Some row) = kind_of_record row

pub length-kinds : (rows : List NodeRecord) (kinds : List NodeKind) → length (kinds_from kinds rows) ≡ length kinds
length-kinds [] kinds = refl
length-kinds (row ∷ rows) kinds = length-kinds rows (set kinds row.id (kind_of_record row)) ∙ length-set kinds row.id (kind_of_record row)

pub kinds_by : (rows : List NodeRecord) (kinds : List NodeKind) (id : ℕ) → AreOnce rows → id < length kinds
    → kind_at (kinds_from kinds rows) id ≡ kind_or (kind_at kinds id) (find (λ row. row.id == id) rows)
kinds_by [] kinds id once small = refl
kinds_by (row ∷ rows) kinds id once small =
    by_id (cases_eq row.id id)
    (kinds_by rows (set kinds row.id (kind_of_record row)) id (once-tail row rows once) (omega (arith, small, length-set kinds row.id (kind_of_record row))))
  where
    more : List NodeKind
    more = set kinds row.id (kind_of_record row)

    -- a later row of the same id is this one
    later : row.id ≡ id → (found : Option NodeRecord) → find (λ r. r.id == id) rows ≡ found
        → kind_or (kind_at more id) found ≡ kind_of_record row
    later same None is = ap (λ (n : ℕ). kind_at (set kinds n (kind_of_record row)) id) same ∙ get_or-set_same kinds id (kind_of_record row) no_kind small
    later same (Some other) is =
        let at = find-Some (λ (r : NodeRecord). r.id == id) rows other is in
        ap kind_of_record (once other row (Contains-there row rows other at.0) (Contains-here row rows) (eqb-true other.id id at.1 ∙ sym same))

    by_id : (row.id ≡ id) ⊎ (row.id ≢ id) → kind_at (kinds_from more rows) id ≡ kind_or (kind_at more id) (find (λ r. r.id == id) rows)
        → kind_at (kinds_from more rows) id ≡ kind_or (kind_at kinds id) (cond (row.id == id) (Some row) (find (λ r. r.id == id) rows))
    by_id (inl same) rest =
        rest ∙ later same (find (λ r. r.id == id) rows) refl
        ∙ ap (λ (b : Bool). kind_or (kind_at kinds id) (cond b (Some row) (find (λ (r : NodeRecord). r.id == id) rows))) (sym (eq-eqb row.id id same))
    by_id (inr apart) rest =
        rest
        ∙ ap (λ (kind : NodeKind). kind_or kind (find (λ (r : NodeRecord). r.id == id) rows))
        (get_or-set_other kinds row.id id (kind_of_record row) no_kind (λ same. apart (sym same)))
        ∙ ap (λ (b : Bool). kind_or (kind_at kinds id) (cond b (Some row) (find (λ (r : NodeRecord). r.id == id) rows))) (sym (ne_eqb row.id id apart))

-- the kind at an id is that of its row, and where no row has it none
pub kind_by : (t : RunTable) (id : ℕ) → HaveDistinctIds t → id < 64 → kind_at (kinds_of t.nodes) id ≡ kind_or no_kind (node_by_id t id)
kind_by t id apart small =
    kinds_by t.nodes (replicate 64 no_kind) id (once_by t apart) (omega (arith, small, length-replicate 64 no_kind))
    ∙ ap (λ (kind : NodeKind). kind_or kind (node_by_id t id)) (get_or-replicate 64 id no_kind no_kind small)

pub length-kinds_of : (rows : List NodeRecord) → length (kinds_of rows) ≡ 64
length-kinds_of rows = length-kinds rows (replicate 64 no_kind) ∙ length-replicate 64 no_kind

-- rows that change in something else have the same
pub kinds-mapped : (f : NodeRecord → NodeRecord) → ((row : NodeRecord) → (f row).id ≡ row.id)
    → ((row : NodeRecord) → kind_of_record (f row) ≡ kind_of_record row) → (rows : List NodeRecord) (kinds : List NodeKind)
    → kinds_from kinds (map f rows) ≡ kinds_from kinds rows
kinds-mapped f ids same [] kinds = refl
kinds-mapped f ids same (row ∷ rows) kinds =
    kinds-mapped f ids same rows (set kinds (f row).id (kind_of_record (f row)))
    ∙ ap (λ (id : ℕ). kinds_from (set kinds id (kind_of_record (f row))) rows) (ids row)
    ∙ ap (λ (kind : NodeKind). kinds_from (set kinds row.id kind) rows) (same row)

-- where no row has the id there is none
none_by : (rows : List NodeRecord) (kinds : List NodeKind) (id : ℕ) → find (λ row. row.id == id) rows ≡ None
    → kind_at (kinds_from kinds rows) id ≡ kind_at kinds id
none_by [] kinds id none = refl
none_by (row ∷ rows) kinds id none = by_id (cases_eq row.id id) (none_by rows (set kinds row.id (kind_of_record row)) id)
  where
    more : List NodeKind
    more = set kinds row.id (kind_of_record row)

    by_id : (row.id ≡ id) ⊎ (row.id ≢ id)
        → (find (λ (r : NodeRecord). r.id == id) rows ≡ None → kind_at (kinds_from more rows) id ≡ kind_at more id)
        → kind_at (kinds_from more rows) id ≡ kind_at kinds id
    by_id (inl same) rest = absurd (let yes = eq-eqb row.id id same in let some = rw yes at none in cc)
    by_id (inr apart) rest =
        let no = ne_eqb row.id id apart in
        let later : find (λ (r : NodeRecord). r.id == id) rows ≡ None = rw no at none in
        rest later ∙ get_or-set_other kinds row.id id (kind_of_record row) no_kind (λ same. apart (sym same))

pub kind_of_none : (t : RunTable) (id : ℕ) → node_by_id t id ≡ None → kind_at (kinds_of t.nodes) id ≡ no_kind
kind_of_none t id none = none_by t.nodes (replicate 64 no_kind) id none ∙ none-there 64 id no_kind
