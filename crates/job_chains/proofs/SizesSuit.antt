-- Changes that suit a table leave its chains of one size, where new nodes are as large as those that they read.
use Rattle.std.proofs.Common.{◌≡◌, ℕ, List, [], ◌∷◌, refl, sym, ◌∙◌, ap, subst, true, Option, Some, None}
use Rattle.std.specs.Prelude.{◌==◌, IsSome}
use Rattle.std.proofs.lemmas.Bool.{eqb-true}
use Rattle.blk_graph.specs.declared.edge.Parent.TheVariants.{Node}
use Rattle.blk_graph.specs.declared.edge.Role.TheVariants.{Backing, Filtered}
use Rattle.blk_graph.specs.declared.kind.Kind.{Kind}
use Rattle.blk_graph.specs.declared.kind.Kind.TheVariants as driver
use Rattle.blk_graph.specs.Permissions.{has_role}
use Rattle.blk_graph.proofs.Members.{find-Some}
use Rattle.qmp_rules.specs.declared.change.Change.{Change}
use Rattle.qmp_rules.specs.declared.change.Change.TheVariants as change
use Rattle.qmp_rules.specs.declared.rows.NodeRecord.{NodeRecord}
use Rattle.qmp_rules.specs.Chains.{filter_role}
use Rattle.qmp_rules.specs.Changes.{changed, all_changed}
use Rattle.qmp_rules.specs.Table.{RunTable, node_by_id, child}
use Rattle.flat_machine.specs.Suiting.{HaveOneSize, SuitsRebase, TableSuits, AllTableSuit}
use Rattle.flat_machine.specs.Wiring.{TableStands}
use Rattle.flat_machine.proofs.TableRests.{table_keeps}
use Rattle.job_chains.specs.Sizes.{ChainsHaveOneSize, IsAsLarge, LeavesSizes, AllLeaveSizes}
use Rattle.job_chains.proofs.SizesKept.{HasSize, PullsSized, KeepsSizes, AllKeepSizes, changes_sized}

-- what is there has the new node's size
as_large : (t : RunTable) (new : NodeRecord) (node : ℕ) → IsSome (node_by_id t node) → IsAsLarge t new node → HasSize t node new.size
as_large t new node there large = by_found (node_by_id t node) refl there
  where
    by_found : (found : Option NodeRecord) → node_by_id t node ≡ found → IsSome found → HasSize t node new.size
    by_found None e some = absurd cc
    by_found (Some row) e some = record { row = row; found = e; is = large row e }

no_backing : (kind : Kind) → filter_role kind ≡ Some Filtered → has_role kind Backing ≡ true → ⊥
no_backing driver.Qcow2 down back = absurd (let bad : None ≡ Some Filtered = down in cc bad)
no_backing kind down back = absurd cc

-- a filter of a job that is over a node that is none
pub pulls_sized : (t : RunTable) (filter below : ℕ) (row low : NodeRecord) → TableStands t → node_by_id t filter ≡ Some row → filter_role row.kind ≡ Some Filtered
    → child t filter Filtered ≡ Some below → node_by_id t below ≡ Some low → filter_role low.kind ≡ None → PullsSized t filter
pulls_sized t filter below row low h there role over low_there own = record {
  below = below;
  over = over;
  other = λ same.
      let both : Some low ≡ Some row = sym low_there ∙ ap (node_by_id t) same ∙ there in
      let one : low ≡ row = cc in
      let bad : None ≡ Some Filtered = sym own ∙ ap (λ (r : NodeRecord). filter_role r.kind) one ∙ role in
      cc bad;
  bare = λ e e_there from back.
      let at = find-Some (λ (r : NodeRecord). r.id == filter) t.nodes row there in
      no_backing row.kind role
      (subst (λ r. has_role row.kind r ≡ true) back (h.roles e row e_there at.0 (from ∙ ap Node (sym (eqb-true row.id filter at.1)))));
}

keeps_sizes : (t : RunTable) (c : Change) → TableStands t → TableSuits t c → LeavesSizes t c → KeepsSizes t c
keeps_sizes t (change.AddFormat new file backing) h suits leaves =
    (suits.fresh, λ node is. as_large t new node (suits.backed node is).there (leaves node is))
keeps_sizes t (change.RemoveNode node) h suits leaves = suits
keeps_sizes t (change.PutFilter new node) h suits leaves =
    (suits.fresh, record { row = suits.under.row; found = suits.under.there; is = leaves suits.under.row suits.under.there })
keeps_sizes t (change.PullFilter filter) h suits leaves =
    pulls_sized t filter suits.below suits.row suits.under.row h suits.there suits.role suits.over suits.under.there suits.under.own
keeps_sizes t (change.Rebase node backing) h suits leaves = by_backing backing suits
  where
    by_backing : (back : Option ℕ) → SuitsRebase t node back → (base : ℕ) → back ≡ Some base → HaveOneSize t node base
    by_backing None s base is = absurd (let bad : None ≡ Some base = is in cc bad)
    by_backing (Some own) s base is = let same : own ≡ base = cc in subst (HaveOneSize t node) same s.sizes
keeps_sizes t (change.Attach overlay node) h suits leaves = suits.sizes
keeps_sizes t (change.Move from to but) h suits leaves = suits.sizes
keeps_sizes t c h suits leaves = tt

all_keep_sizes : (changes : List Change) (t : RunTable) → TableStands t → AllTableSuit t changes → AllLeaveSizes t changes → AllKeepSizes t changes
all_keep_sizes [] t h suits leaves = tt
all_keep_sizes (c ∷ changes) t h suits leaves =
    (keeps_sizes t c h suits.0 leaves.0, all_keep_sizes changes (changed t c) (table_keeps t c suits.0 h) suits.1 leaves.1)

pub changes_keep_sizes : (changes : List Change) (t : RunTable) → TableStands t → AllTableSuit t changes → AllLeaveSizes t changes → ChainsHaveOneSize t
    → ChainsHaveOneSize (all_changed t changes)
changes_keep_sizes changes t h suits leaves = changes_sized changes t (all_keep_sizes changes t h suits leaves)
