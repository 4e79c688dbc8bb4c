-- What a start does before its filter comes: nodes may lose their disks and be written, and stay with their edges.
use Rattle.std.proofs.Common.{◌≡◌, ℕ, Bool, true, false, cond, List, [], ◌∷◌, ◌++◌, map, refl, ◌∙◌, ap, Option, Some, None}
use Rattle.std.specs.Prelude.{◌==◌, option_and_then}
use Rattle.std.specs.Option.{option_map}
use Rattle.std.specs.List.{filter, Contains}
use Rattle.blk_graph.specs.declared.edge.Edge.{Edge}
use Rattle.qmp_rules.specs.declared.change.Change.{Change}
use Rattle.qmp_rules.specs.declared.change.Change.TheVariants as change
use Rattle.qmp_rules.specs.declared.rows.NodeRecord.{NodeRecord}
use Rattle.qmp_rules.specs.declared.rows.JobRecord.{JobRecord}
use Rattle.qmp_rules.specs.Asks.{is_file}
use Rattle.qmp_rules.specs.Changes.{changed, all_changed, node_changed, unsettled, writable, with_writable}
use Rattle.qmp_rules.specs.Edits.{of_row, device_uses, file_uses, file_used, file_below, writable_if, base_edits, under_top, reads_one_of, commit_unsettles, target_edits}
use Rattle.qmp_rules.specs.Table.{RunTable, node_by_id, kinds_of}
use Rattle.flat_machine.specs.State.{State}
use Rattle.flat_machine.specs.Suiting.{AllSuit}
use Rattle.flat_machine.proofs.Tables.{HasLike, same-edge, like-then, refreshed-old}
use Rattle.job_tables.proofs.Begun.{IsBefore, AreBefore, before-append}
use Rattle.job_tables.proofs.NodeKinds.{found_mapped}

-- ---- which changes they are

before_file : (b : Bool) (name : Option (List ℕ)) → AreBefore (cond b (file_uses name) [])
before_file true None = tt
before_file true (Some name) = (tt, tt)
before_file false name = tt

pub used_before : (t : RunTable) (node : Option ℕ) → AreBefore (file_used t node)
used_before t node = by_row (option_and_then (node_by_id t) node)
  where
    by_row : (found : Option NodeRecord) → AreBefore (of_row device_uses found)
    by_row None = tt
    by_row (Some row) = before_file (is_file row) row.filename

pub target_before : (t : RunTable) (target : Option ℕ) → AreBefore (target_edits t target)
target_before t None = tt
target_before t (Some target) = before-append (file_used t (Some target)) (change.Unsettle target ∷ []) (used_before t (Some target)) (tt, tt)

before_unsettles : (rows : List NodeRecord) → AreBefore (map (λ row. change.Unsettle row.id) rows)
before_unsettles [] = tt
before_unsettles (row ∷ rows) = (tt, before_unsettles rows)

before_if : (b : Bool) (node : Option ℕ) → AreBefore (writable_if b node)
before_if true (Some node) = (tt, tt)
before_if true None = tt
before_if false node = tt

pub unsettled_before : (t : RunTable) (row : JobRecord) → AreBefore (file_used t row.target ++ commit_unsettles t row)
unsettled_before t row =
    before-append (file_used t row.target) (commit_unsettles t row) (used_before t row.target)
    (before_unsettles (filter (reads_one_of t row.source (under_top row)) t.nodes))

pub commit_before : (t : RunTable) (row : JobRecord) → AreBefore (file_used t row.target ++ commit_unsettles t row ++ base_edits t row)
commit_before t row =
    before-append (file_used t row.target ++ commit_unsettles t row) (base_edits t row) (unsettled_before t row)
    (before-append (writable_if row.made_writable.file (file_below t row.target)) (writable_if row.made_writable.base row.target)
    (before_if row.made_writable.file (file_below t row.target)) (before_if row.made_writable.base row.target))

-- of files that are used nothing is asked
pub used_suits : (s : State) (node : Option ℕ) → AllSuit s (file_used s.table node)
used_suits s node = by_row (option_and_then (node_by_id s.table) node)
  where
    by_file : (b : Bool) (name : Option (List ℕ)) → AllSuit s (cond b (file_uses name) [])
    by_file true None = tt
    by_file true (Some name) = (tt, tt)
    by_file false name = tt

    by_row : (found : Option NodeRecord) → AllSuit s (of_row device_uses found)
    by_row None = tt
    by_row (Some row) = by_file (is_file row) row.filename

-- ---- what they leave

-- a node is there, of its kind, and may be written where it might be before
pub record IsRowAfter (now : RunTable) (n : ℕ) (row : NodeRecord) : Type 0 where
  pub later : NodeRecord
  pub found : node_by_id now n ≡ Some later
  pub kind : later.kind ≡ row.kind
  pub writes : row.read_only ≡ false → later.read_only ≡ false

pub record IsAlike (t now : RunTable) : Type 0 where
  pub edges : (e : Edge) → Contains now.edges e → HasLike t.edges e
  pub rows : (n : ℕ) (row : NodeRecord) → node_by_id t n ≡ Some row → IsRowAfter now n row

alike_self : (t : RunTable) → IsAlike t t
alike_self t = record {
  edges = λ e there. record { edge = e; there = there; same = same-edge e };
  rows = λ n row found. record { later = row; found = found; kind = refl; writes = λ is. is };
}

pub alike_then : (a b c : RunTable) → IsAlike a b → IsAlike b c → IsAlike a c
alike_then a b c ab bc = record {
  edges = λ e there.
      let near = bc.edges e there in
      let far = ab.edges near.edge near.there in
      record { edge = far.edge; there = far.there; same = like-then far.edge near.edge e far.same near.same };
  rows = λ n row found.
      let near = ab.rows n row found in
      let far = bc.rows n near.later near.found in
      record { later = far.later; found = far.found; kind = far.kind ∙ near.kind; writes = λ is. far.writes (near.writes is) };
}

-- rows are changed, none of which may be written less
module _ (t now : RunTable) (f : NodeRecord → NodeRecord) (ids : (row : NodeRecord) → (f row).id ≡ row.id)
    (kinds : (row : NodeRecord) → (f row).kind ≡ row.kind) (writes : (row : NodeRecord) → row.read_only ≡ false → (f row).read_only ≡ false)
    (nodes : now.nodes ≡ map f t.nodes) where
  rows_after : (n : ℕ) (row : NodeRecord) → node_by_id t n ≡ Some row → IsRowAfter now n row
  rows_after n row found =
      record { later = f row; found = found_mapped t now f ids nodes n ∙ ap (option_map f) found; kind = kinds row; writes = writes row }

if_same : {X : Type 0} (g : NodeRecord → X) (changed row : NodeRecord) → g changed ≡ g row → (b : Bool) → g (cond b changed row) ≡ g row
if_same g changed row same true = same
if_same g changed row same false = refl

before_alike : (t : RunTable) (c : Change) → IsBefore c → IsAlike t (changed t c)
unfolding changed
before_alike t (change.UseFile name) h = record {
  edges = λ e there. record { edge = e; there = there; same = same-edge e };
  rows = λ n row found. record { later = row; found = found; kind = refl; writes = λ is. is };
}
before_alike t (change.Unsettle node) h =
    let f : NodeRecord → NodeRecord = node_changed node unsettled in
    record {
      edges = λ e there. record { edge = e; there = there; same = same-edge e };
      rows = rows_after t (changed t (change.Unsettle node)) f (λ row. if_same (λ r. r.id) (unsettled row) row refl (row.id == node))
          (λ row. if_same (λ r. r.kind) (unsettled row) row refl (row.id == node))
          (λ row is. if_same (λ r. r.read_only) (unsettled row) row refl (row.id == node) ∙ is) refl;
    }
before_alike t (change.MakeWritable node) h =
    let f : NodeRecord → NodeRecord = node_changed node writable in
    record {
      edges = refreshed-old (kinds_of (with_writable node t.nodes)) t.edges;
      rows = rows_after t (changed t (change.MakeWritable node)) f (λ row. if_same (λ r. r.id) (writable row) row refl (row.id == node))
          (λ row. if_same (λ r. r.kind) (writable row) row refl (row.id == node)) (λ row is. may row is (row.id == node)) refl;
    }
  where
    may : (row : NodeRecord) → row.read_only ≡ false → (b : Bool) → (cond b (writable row) row).read_only ≡ false
    may row is true = refl
    may row is false = is
before_alike t c h = absurd h

pub all_alike : (changes : List Change) (t : RunTable) → AreBefore changes → IsAlike t (all_changed t changes)
all_alike [] t h = alike_self t
all_alike (c ∷ changes) t h = alike_then t (changed t c) (all_changed (changed t c) changes) (before_alike t c h.0) (all_alike changes (changed t c) h.1)
