-- The changes by which a backup or mirror starts can be made.
use Rattle.std.proofs.Common.{◌≡◌, ℕ, Bool, true, false, cond, List, [], ◌∷◌, ◌++◌, refl, sym, ap, subst, ◌∙◌, append_assoc, Option, Some, None, option_map}
use Rattle.std.specs.Prelude.{◌==◌, IsSome}
use Rattle.blk_graph.specs.declared.kind.Kind.{Kind}
use Rattle.qmp_rules.specs.declared.change.Change.{Change}
use Rattle.qmp_rules.specs.declared.change.Change.TheVariants as change
use Rattle.qmp_rules.specs.declared.rows.JobRecord.{JobRecord}
use Rattle.qmp_rules.specs.declared.rows.NodeRecord.{NodeRecord}
use Rattle.qmp_rules.specs.Asks.{is_file}
use Rattle.qmp_rules.specs.Chains.{filter_role}
use Rattle.qmp_rules.specs.Changes.{changed, node_changed, unsettled}
use Rattle.qmp_rules.specs.Edits.{free_id, filter_row, filter_edits, file_uses, device_uses, of_row, file_used, target_edits, uses_target, copy_edits}
use Rattle.qmp_rules.specs.Table.{RunTable, node_by_id}
use Rattle.flat_machine.specs.State.{State}
use Rattle.flat_machine.specs.Changed.{stepped, all_stepped}
use Rattle.flat_machine.specs.Performing.{Can, AllCan}
use Rattle.flat_machine.proofs.Finds.{find-map}

pub can-append : (a b : List Change) (s : State) → AllCan s a → AllCan (all_stepped s a) b → AllCan s (a ++ b)
can-append [] b s h k = k
can-append (c ∷ a) b s h k = (h.0, can-append a b (stepped s c) h.1 k)

-- ---- what becomes of the target, before the filter

abbrev IsEarly : Change → Type 0
IsEarly (change.UseFile name) = Unit {0}
IsEarly (change.Unsettle node) = Unit {0}
IsEarly c = ⊥

abbrev AreEarly : List Change → Type 0
AreEarly [] = Unit {0}
AreEarly (c ∷ changes) = IsEarly c × AreEarly changes

early-append : (a b : List Change) → AreEarly a → AreEarly b → AreEarly (a ++ b)
early-append [] b h k = k
early-append (c ∷ a) b h k = (h.0, early-append a b h.1 k)

early_can : (changes : List Change) (s : State) → AreEarly changes → AllCan s changes
early_can [] s h = tt
early_can (c ∷ changes) s h = (one c h.0, early_can changes (stepped s c) h.1)
  where
    one : (x : Change) → IsEarly x → Can s x
    one (change.UseFile name) k = tt
    one (change.Unsettle node) k = tt
    one x k = absurd k

-- no node comes by it
still_free : (t : RunTable) (c : Change) (n : ℕ) → IsEarly c → node_by_id t n ≡ None → node_by_id (changed t c) n ≡ None
unfolding changed
still_free t (change.UseFile name) n h none = none
still_free t (change.Unsettle node) n h none =
    find-map (λ (row : NodeRecord). row.id == n) (node_changed node unsettled) (λ row. ap (λ k. k == n) (same row (row.id == node))) t.nodes
    ∙ ap (option_map (node_changed node unsettled)) none
  where
    same : (row : NodeRecord) (b : Bool) → (cond b (unsettled row) row).id ≡ row.id
    same row true = refl
    same row false = refl
still_free t c n h none = absurd h

all_free : (changes : List Change) (s : State) (n : ℕ) → AreEarly changes → node_by_id s.table n ≡ None → node_by_id (all_stepped s changes).table n ≡ None
all_free [] s n h none = none
all_free (c ∷ changes) s n h none = all_free changes (stepped s c) n h.1 (still_free s.table c n h.0 none)

early_uses : (b : Bool) (name : Option (List ℕ)) → AreEarly (cond b (file_uses name) [])
early_uses true None = tt
early_uses true (Some name) = (tt, tt)
early_uses false name = tt

early_target : (t : RunTable) (target : Option ℕ) → AreEarly (target_edits t target)
early_target t None = tt
early_target t (Some node) = early-append (file_used t (Some node)) (change.Unsettle node ∷ []) (by_row (node_by_id t node)) (tt, tt)
  where
    by_row : (found : Option NodeRecord) → AreEarly (of_row device_uses found)
    by_row None = tt
    by_row (Some row) = early_uses (is_file row) row.filename

-- ---- all of it

module _ (s : State) (row : JobRecord) (kind : Kind) (filters : IsSome (filter_role kind)) (fresh : node_by_id s.table (free_id s.table) ≡ None) where
  behind_can : (now : State) (target : Option ℕ) → AllCan now (change.StartJob row ∷ uses_target row target)
  behind_can now None = (tt, tt)
  behind_can now (Some node) = (tt, (tt, tt))

  filter_can : (now : State) → node_by_id now.table (free_id s.table) ≡ None → (found : Option NodeRecord)
      → AllCan now (of_row (λ r. change.PutFilter (filter_row s.table kind row.id r) r.id ∷ []) found ++ change.StartJob row ∷ uses_target row row.target)
  filter_can now none None = behind_can now row.target
  filter_can now none (Some r) =
      (record { fresh = none; filter = filters }, behind_can (stepped now (change.PutFilter (filter_row s.table kind row.id r) r.id)) row.target)

  pub copy_can : AllCan s (copy_edits s.table kind row)
  copy_can =
      let lost = target_edits s.table row.target in
      let behind = change.StartJob row ∷ uses_target row row.target in
      let early = early_target s.table row.target in
      subst (AllCan s) (sym (append_assoc lost (filter_edits s.table kind row) behind))
      (can-append lost (filter_edits s.table kind row ++ behind) s (early_can lost s early)
      (filter_can (all_stepped s lost) (all_free lost s (free_id s.table) early fresh) (node_by_id s.table row.source)))
