-- What tables contain after their changes: rows, edges, and what became of files.
use Rattle.std.proofs.Common.{◌≡◌, ◌≢◌, ◌⊎◌, ℕ, zero, suc, Bool, true, false, cond, List, [], ◌∷◌, ◌++◌, map, refl, sym, ap, ◌∙◌, inl, inr, Some, option_map}
use Rattle.std.specs.Prelude.{◌||◌, bytes_eq}
use Rattle.std.specs.List.{find, filter, list_any, Contains}
use Rattle.std.proofs.lemmas.Bool.{false_from_ne_true, or_parts}
use Rattle.blk_graph.specs.declared.edge.Edge.{Edge}
use Rattle.blk_graph.specs.declared.kind.NodeKind.{NodeKind}
use Rattle.blk_graph.specs.Edges.{same_parent}
use Rattle.blk_graph.specs.Edits.{takes_place, with_edge}
use Rattle.blk_graph.specs.Refreshed.{turned, turned_by, refreshed, uses_into, ruled}
use Rattle.blk_graph.proofs.Members.{Contains-here, Contains-there, Contains-nil, Contains-cases, Contains-map, map-Contains}
use Rattle.blk_graph.proofs.CycleLemmas.{same_parent-true}
use Rattle.blk_graph.proofs.EditLemmas.{IsSameEdge}
use Rattle.blk_graph.proofs.RefreshLemmas.{ruled-same}
use Rattle.qmp_rules.specs.declared.rows.FileRow.{FileRow}
use Rattle.qmp_rules.specs.declared.rows.FileState.{FileState}
use Rattle.qmp_rules.specs.Table.{row_in_state, has_file, with_file}
use Rattle.flat_machine.proofs.Finds.{bytes_eq-same, bytes_eq-other, same-bytes_eq}

module _ {X : Type 0} where
  -- one element more
  pub pushed-cases : (xs : List X) (y x : X) → Contains (xs ++ y ∷ []) x → Contains xs x ⊎ (x ≡ y)
  pushed-cases [] y x h = elim (Contains-cases y [] x h) [
    | inl here ↦ inr here
    | inr behind ↦ absurd (Contains-nil x behind)
  ]
  pushed-cases (z ∷ xs) y x h = elim (Contains-cases z (xs ++ y ∷ []) x h) [
    | inl here ↦ inl (rw here (Contains-here z xs))
    | inr behind ↦ elim (pushed-cases xs y x behind) [
      | inl old ↦ inl (Contains-there z xs x old)
      | inr is_new ↦ inr is_new
    ]
  ]

  pub pushed-old : (xs : List X) (y x : X) → Contains xs x → Contains (xs ++ y ∷ []) x
  pushed-old [] y x h = absurd (Contains-nil x h)
  pushed-old (z ∷ xs) y x h = elim (Contains-cases z xs x h) [
    | inl here ↦ rw here (Contains-here z (xs ++ y ∷ []))
    | inr behind ↦ Contains-there z (xs ++ y ∷ []) x (pushed-old xs y x behind)
  ]

  pub pushed-new : (xs : List X) (y : X) → Contains (xs ++ y ∷ []) y
  pushed-new [] y = Contains-here y []
  pushed-new (z ∷ xs) y = Contains-there z (xs ++ y ∷ []) y (pushed-new xs y)

  -- what passes stays
  pub filter-keeps : (p : X → Bool) (xs : List X) (x : X) → p x ≡ true → Contains xs x → Contains (filter p xs) x
  filter-keeps p [] x t h = absurd (Contains-nil x h)
  filter-keeps p (y ∷ xs) x t h = by_test (p y) refl (filter-keeps p xs x t) (Contains-cases y xs x h)
    where
      by_test : (b : Bool) → p y ≡ b → (Contains xs x → Contains (filter p xs) x) → ((x ≡ y) ⊎ Contains xs x)
          → Contains (cond b (y ∷ filter p xs) (filter p xs)) x
      by_test true e ih (inl here) = rw here (Contains-here y (filter p xs))
      by_test true e ih (inr behind) = Contains-there y (filter p xs) x (ih behind)
      by_test false e ih (inl here) = let no_pass = ap p here in absurd cc
      by_test false e ih (inr behind) = ih behind

-- ---- edges

-- an edge with this one's ends and role
pub record HasLike (edges : List Edge) (e : Edge) : Type 0 where
  pub edge : Edge
  pub there : Contains edges edge
  pub same : IsSameEdge edge e

pub same-edge : (e : Edge) → IsSameEdge e e
same-edge e = record { parent = refl; role = refl; child = refl }

turned-old : (kinds : List NodeKind) (edges : List Edge) (e : Edge) → Contains (turned kinds edges) e → HasLike edges e
turned-old kinds edges e h =
    let from = Contains-map (ruled kinds (uses_into edges)) edges e h in
    let same = ruled-same kinds (uses_into edges) from.0 in
    record {
      edge = from.0;
      there = from.1;
      same = record {
        parent = sym (ap (λ x. x.parent) from.2 ∙ same.parent);
        role = sym (ap (λ x. x.role) from.2 ∙ same.role);
        child = sym (ap (λ x. x.child) from.2 ∙ same.child);
      };
    }

turned-new : (kinds : List NodeKind) (edges : List Edge) (e : Edge) → Contains edges e → HasLike (turned kinds edges) e
turned-new kinds edges e h = record {
  edge = ruled kinds (uses_into edges) e;
  there = map-Contains (ruled kinds (uses_into edges)) edges e h;
  same = ruled-same kinds (uses_into edges) e;
}

pub like-then : (a b : Edge) (c : Edge) → IsSameEdge a b → IsSameEdge b c → IsSameEdge a c
like-then a b c h k = record { parent = h.parent ∙ k.parent; role = h.role ∙ k.role; child = h.child ∙ k.child }

turned_by-old : (turns : ℕ) (kinds : List NodeKind) (edges : List Edge) (e : Edge) → Contains (turned_by turns kinds edges) e → HasLike edges e
turned_by-old zero kinds edges e h = record { edge = e; there = h; same = same-edge e }
turned_by-old (suc turns) kinds edges e h =
    let last = turned-old kinds (turned_by turns kinds edges) e h in
    let before = turned_by-old turns kinds edges last.edge last.there in
    record { edge = before.edge; there = before.there; same = like-then before.edge last.edge e before.same last.same }

turned_by-new : (turns : ℕ) (kinds : List NodeKind) (edges : List Edge) (e : Edge) → Contains edges e → HasLike (turned_by turns kinds edges) e
turned_by-new zero kinds edges e h = record { edge = e; there = h; same = same-edge e }
turned_by-new (suc turns) kinds edges e h =
    let before = turned_by-new turns kinds edges e h in
    let last = turned-new kinds (turned_by turns kinds edges) before.edge before.there in
    record { edge = last.edge; there = last.there; same = like-then last.edge before.edge e last.same before.same }

pub refreshed-old : (kinds : List NodeKind) (edges : List Edge) (e : Edge) → Contains (refreshed kinds edges) e → HasLike edges e
unfolding refreshed
refreshed-old kinds edges e h = turned_by-old 64 kinds edges e h

pub refreshed-new : (kinds : List NodeKind) (edges : List Edge) (e : Edge) → Contains edges e → HasLike (refreshed kinds edges) e
unfolding refreshed
refreshed-new kinds edges e h = turned_by-new 64 kinds edges e h

-- an edge whose place is not taken stays
pub with_edge-keeps : (new : Edge) (edges : List Edge) (e : Edge) → takes_place new e ≡ false → Contains edges e → Contains (with_edge new edges) e
with_edge-keeps new [] e apart h = absurd (Contains-nil e h)
with_edge-keeps new (old ∷ edges) e apart h =
    by_test (takes_place new old) refl (with_edge-keeps new edges e apart) (Contains-cases old edges e h)
  where
    by_test : (b : Bool) → takes_place new old ≡ b → (Contains edges e → Contains (with_edge new edges) e) → ((e ≡ old) ⊎ Contains edges e)
        → Contains (cond b (new ∷ edges) (old ∷ with_edge new edges)) e
    by_test true t ih (inl here) = let taken = ap (takes_place new) here in absurd cc
    by_test true t ih (inr behind) = Contains-there new edges e behind
    by_test false t ih (inl here) = rw here (Contains-here old (with_edge new edges))
    by_test false t ih (inr behind) = Contains-there old (with_edge new edges) e (ih behind)

-- so it is with those of other parents
pub apart-parents : (new e : Edge) → new.parent ≢ e.parent → takes_place new e ≡ false
apart-parents new e differ =
    let no_same : same_parent new.parent e.parent ≡ false = false_from_ne_true _ (λ h. differ (same_parent-true new.parent e.parent h)) in
    rw no_same refl

-- ---- what became of files

pub file_state-with : (name : List ℕ) (state : FileState) (files : List FileRow)
    → option_map (λ row. row.state) (find (λ row. bytes_eq row.name name) (with_file name state files)) ≡ Some state
unfolding with_file has_file
file_state-with name state files = by_test (list_any (λ row. bytes_eq row.name name) files) refl
  where
    in_rows : (rows : List FileRow) → list_any (λ row. bytes_eq row.name name) rows ≡ true
        → option_map (λ row. row.state) (find (λ row. bytes_eq row.name name) (map (row_in_state name state) rows)) ≡ Some state
    in_rows [] h = absurd cc
    in_rows (row ∷ rows) h = by_row (bytes_eq row.name name) refl h (in_rows rows)
      where
        by_row : (b : Bool) → bytes_eq row.name name ≡ b → (b || list_any (λ r. bytes_eq r.name name) rows) ≡ true
            → (list_any (λ r. bytes_eq r.name name) rows ≡ true
            → option_map (λ r. r.state) (find (λ r. bytes_eq r.name name) (map (row_in_state name state) rows)) ≡ Some state)
            → option_map (λ r. r.state) (find (λ r. bytes_eq r.name name) (cond b (record row { state = state }) row ∷ map (row_in_state name state) rows))
            ≡ Some state
        by_row true e k ih = rw e refl
        by_row false e k ih = rw e (ih k)

    behind : (rows : List FileRow) → list_any (λ row. bytes_eq row.name name) rows ≡ false
        → option_map (λ row. row.state) (find (λ row. bytes_eq row.name name) (rows ++ record { name = name; state = state } ∷ [])) ≡ Some state
    behind [] h = rw (bytes_eq-same name) refl
    behind (row ∷ rows) h =
        let parts = or_parts (bytes_eq row.name name) (list_any (λ r. bytes_eq r.name name) rows) h in
        rw parts.0 (behind rows parts.1)

    by_test : (b : Bool) → list_any (λ row. bytes_eq row.name name) files ≡ b
        → option_map (λ row. row.state) (find (λ row. bytes_eq row.name name)
        (cond b (map (row_in_state name state) files) (files ++ record { name = name; state = state } ∷ []))) ≡ Some state
    by_test true e = in_rows files e
    by_test false e = behind files e

pub file_state-other : (name other : List ℕ) (state : FileState) (files : List FileRow) → other ≢ name
    → option_map (λ row. row.state) (find (λ row. bytes_eq row.name other) (with_file name state files))
    ≡ option_map (λ row. row.state) (find (λ row. bytes_eq row.name other) files)
unfolding with_file has_file
file_state-other name other state files differ = by_test (list_any (λ row. bytes_eq row.name name) files)
  where
    in_rows : (rows : List FileRow)
        → option_map (λ row. row.state) (find (λ row. bytes_eq row.name other) (map (row_in_state name state) rows))
        ≡ option_map (λ row. row.state) (find (λ row. bytes_eq row.name other) rows)
    in_rows [] = refl
    in_rows (row ∷ rows) = by_row (bytes_eq row.name name) refl (in_rows rows)
      where
        by_row : (b : Bool) → bytes_eq row.name name ≡ b
            → option_map (λ r. r.state) (find (λ r. bytes_eq r.name other) (map (row_in_state name state) rows))
            ≡ option_map (λ r. r.state) (find (λ r. bytes_eq r.name other) rows)
            → option_map (λ r. r.state) (find (λ r. bytes_eq r.name other) (cond b (record row { state = state }) row ∷ map (row_in_state name state) rows))
            ≡ option_map (λ r. r.state) (find (λ r. bytes_eq r.name other) (row ∷ rows))
        by_row true e ih =
            let no_other : bytes_eq row.name other ≡ false =
            bytes_eq-other row.name other (λ k. differ (sym k ∙ same-bytes_eq row.name name e)) in
            rw no_other ih
        by_row false e ih = by_other (bytes_eq row.name other) refl ih
          where
            by_other : (b : Bool) → bytes_eq row.name other ≡ b
                → option_map (λ r. r.state) (find (λ r. bytes_eq r.name other) (map (row_in_state name state) rows))
                ≡ option_map (λ r. r.state) (find (λ r. bytes_eq r.name other) rows)
                → option_map (λ r. r.state) (find (λ r. bytes_eq r.name other) (row ∷ map (row_in_state name state) rows))
                ≡ option_map (λ r. r.state) (find (λ r. bytes_eq r.name other) (row ∷ rows))
            by_other true f ih = rw f refl
            by_other false f ih = rw f ih

    behind : (rows : List FileRow)
        → option_map (λ row. row.state) (find (λ row. bytes_eq row.name other) (rows ++ record { name = name; state = state } ∷ []))
        ≡ option_map (λ row. row.state) (find (λ row. bytes_eq row.name other) rows)
    behind [] = rw (bytes_eq-other name other (λ k. differ (sym k))) refl
    behind (row ∷ rows) = by_other (bytes_eq row.name other) refl (behind rows)
      where
        by_other : (b : Bool) → bytes_eq row.name other ≡ b
            → option_map (λ r. r.state) (find (λ r. bytes_eq r.name other) (rows ++ record { name = name; state = state } ∷ []))
            ≡ option_map (λ r. r.state) (find (λ r. bytes_eq r.name other) rows)
            → option_map (λ r. r.state) (find (λ r. bytes_eq r.name other) (row ∷ rows ++ record { name = name; state = state } ∷ []))
            ≡ option_map (λ r. r.state) (find (λ r. bytes_eq r.name other) (row ∷ rows))
        by_other true f ih = rw f refl
        by_other false f ih = rw f ih

    by_test : (b : Bool)
        → option_map (λ row. row.state) (find (λ row. bytes_eq row.name other)
        (cond b (map (row_in_state name state) files) (files ++ record { name = name; state = state } ∷ [])))
        ≡ option_map (λ row. row.state) (find (λ row. bytes_eq row.name other) files)
    by_test true = in_rows files
    by_test false = behind files
