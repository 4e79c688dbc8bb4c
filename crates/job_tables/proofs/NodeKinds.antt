-- The kinds of nodes by their rows, where one goes or may be written no more.
use Rattle.std.proofs.Common.{◌≡◌, ◌≢◌, ◌⊎◌, ℕ, ◌<◌, ◌≤◌, arith, List, refl, sym, ◌∙◌, ap, subst, inl, inr, Bool, true, false, cond, Option, Some, None}
use Rattle.std.specs.Prelude.{◌==◌, not, IsTrue}
use Rattle.std.specs.Option.{option_map}
use Rattle.std.specs.List.{Contains, find}
use Rattle.std.proofs.lemmas.Bool.{false≢true, eqb-true, eqb-false, ne_eqb, cases_lt}
use Rattle.std.proofs.lemmas.List.{get_or_past}
use Rattle.blk_graph.specs.declared.kind.NodeKind.{NodeKind}
use Rattle.blk_graph.specs.Drafts.{WriteLess}
use Rattle.blk_graph.specs.Refreshed.{kind_at, no_kind}
use Rattle.blk_graph.proofs.Members.{Contains-filter}
use Rattle.qmp_rules.specs.declared.rows.NodeRecord.{NodeRecord}
use Rattle.qmp_rules.specs.Changes.{node_changed, kept_from_writes, with_read_only, without_record}
use Rattle.qmp_rules.specs.Table.{RunTable, node_by_id, kind_of_record, kinds_of}
use Rattle.flat_machine.specs.Wiring.{HaveDistinctIds}
use Rattle.flat_machine.proofs.Finds.{find-filter}
pub use Rattle.flat_machine.proofs.Rows.{found_mapped, mapped_apart}
use Rattle.flat_machine.proofs.RowKinds.{kind_or, kind_by, length-kinds_of}
use Rattle.job_edges.specs.Ended.{AreOthers}

pub kind_found : (t : RunTable) (node : ℕ) (row : NodeRecord) → HaveDistinctIds t → node < 64 → node_by_id t node ≡ Some row
    → kind_at (kinds_of t.nodes) node ≡ kind_of_record row
kind_found t node row apart small there = kind_by t node apart small ∙ ap (kind_or no_kind) there

pub past : (rows : List NodeRecord) (node : ℕ) → 64 ≤ node → kind_at (kinds_of rows) node ≡ no_kind
past rows node large = get_or_past (kinds_of rows) node no_kind (omega (arith, large, length-kinds_of rows))

pub small_or : (n : ℕ) → (n < 64) ⊎ (64 ≤ n)
small_or n = cases_lt n 64

-- ---- a node goes

passes : (b : Bool) → not b ≡ true → b ≡ false
passes true h = absurd (false≢true h)
passes false h = refl

pub still_found : (t : RunTable) (gone node : ℕ) → node ≢ gone → find (λ row. row.id == node) (without_record gone t.nodes) ≡ node_by_id t node
still_found t gone node differ =
    find-filter (λ r. r.id == node) (λ r. not (r.id == gone))
    (λ r e. ap not (ne_eqb r.id gone (λ same. differ (sym (eqb-true r.id node e) ∙ same)))) t.nodes

pub gone_apart : (t now : RunTable) (gone : ℕ) → now.nodes ≡ without_record gone t.nodes → HaveDistinctIds t → HaveDistinctIds now
gone_apart t now gone nodes apart row there =
    let old = Contains-filter (λ r. not (r.id == gone)) t.nodes row (subst (λ ns. Contains ns row) nodes there) in
    ap (find (λ r. r.id == row.id)) nodes ∙ still_found t gone row.id (eqb-false row.id gone (passes (row.id == gone) old.1)) ∙ apart row old.0

pub others_gone : (t now : RunTable) (gone : ℕ) → now.nodes ≡ without_record gone t.nodes → HaveDistinctIds t
    → AreOthers (kinds_of t.nodes) (kinds_of now.nodes) gone
others_gone t now gone nodes apart n differ = elim (small_or n) [
  | inl small ↦
      kind_by now n (gone_apart t now gone nodes apart) small
      ∙ ap (kind_or no_kind) (ap (find (λ r. r.id == n)) nodes ∙ still_found t gone n differ)
      ∙ sym (kind_by t n apart small)
  | inr large ↦ past now.nodes n large ∙ sym (past t.nodes n large)
]

-- ---- a node may be written no more

read_only_id : (id : ℕ) (row : NodeRecord) → (node_changed id kept_from_writes row).id ≡ row.id
read_only_id id row = by_test (row.id == id)
  where
    by_test : (b : Bool) → (cond b (kept_from_writes row) row).id ≡ row.id
    by_test true = refl
    by_test false = refl

pub read_only_apart : (t now : RunTable) (id : ℕ) → now.nodes ≡ with_read_only id t.nodes → HaveDistinctIds t → HaveDistinctIds now
read_only_apart t now id nodes apart = mapped_apart t now (node_changed id kept_from_writes) (read_only_id id) nodes apart

pub read_only_less : (t now : RunTable) (id : ℕ) → now.nodes ≡ with_read_only id t.nodes → HaveDistinctIds t
    → WriteLess (kinds_of t.nodes) (kinds_of now.nodes)
read_only_less t now id nodes apart = record { kind = λ n. (less n).0; writes = λ n. (less n).1 }
  where
    Less : NodeKind → NodeKind → Type 0
    Less new old = (new.kind ≡ old.kind) × (IsTrue new.writes → IsTrue old.writes)

    of_row : (row : NodeRecord) (b : Bool) → Less (kind_of_record (cond b (kept_from_writes row) row)) (kind_of_record row)
    of_row row true = (refl, λ h. absurd (false≢true h))
    of_row row false = (refl, λ h. h)

    of_found : (found : Option NodeRecord) → Less (kind_or no_kind (option_map (node_changed id kept_from_writes) found)) (kind_or no_kind found)
    of_found None = (refl, λ h. h)
    of_found (Some row) = of_row row (row.id == id)

    less : (n : ℕ) → Less (kind_at (kinds_of now.nodes) n) (kind_at (kinds_of t.nodes) n)
    less n = elim (small_or n) [
      | inl small ↦
          let new : kind_at (kinds_of now.nodes) n ≡ kind_or no_kind (option_map (node_changed id kept_from_writes) (node_by_id t n))
          = kind_by now n (read_only_apart t now id nodes apart) small
          ∙ ap (kind_or no_kind) (found_mapped t now (node_changed id kept_from_writes) (read_only_id id) nodes n) in
          let old : kind_at (kinds_of t.nodes) n ≡ kind_or no_kind (node_by_id t n) = kind_by t n apart small in
          subst (λ k. Less k (kind_at (kinds_of t.nodes) n)) (sym new)
          (subst (Less (kind_or no_kind (option_map (node_changed id kept_from_writes) (node_by_id t n)))) (sym old) (of_found (node_by_id t n)))
      | inr large ↦
          let same : kind_at (kinds_of now.nodes) n ≡ kind_at (kinds_of t.nodes) n = past now.nodes n large ∙ sym (past t.nodes n large) in
          subst (λ k. Less k (kind_at (kinds_of t.nodes) n)) (sym same) (refl, λ h. h)
    ]
