-- What commits lend of nodes, and that no disk is left in the files of backing nodes.
use Rattle.std.specs.Prelude.{◌≡◌, ℕ, false, List, [], ◌∷◌, Contains, Some}
use Rattle.blk_graph.specs.declared.edge.Edge.{Edge}
use Rattle.blk_graph.specs.declared.edge.Role.TheVariants.{Backing, Filtered}
use Rattle.qmp_rules.specs.declared.change.Change.{Change}
use Rattle.qmp_rules.specs.declared.change.Change.TheVariants as change
use Rattle.qmp_rules.specs.declared.rows.JobRecord.{JobRecord}
use Rattle.qmp_rules.specs.Asks.{lends}
use Rattle.qmp_rules.specs.Changes.{changed}
use Rattle.qmp_rules.specs.Table.{RunTable, child}
use Rattle.flat_machine.specs.Changed.{stepped}
use Rattle.flat_machine.specs.State.{State}
use Rattle.flat_machine.specs.Suiting.{NoneLeftIn}
use Rattle.job_tables.specs.Ends.{LentSuits}

-- ---- nodes that commits made writable

-- each job can give back what it made writable
abbrev pub BasesAreLent : RunTable → Type 0
BasesAreLent t = (row : JobRecord) → Contains t.jobs row → LentSuits t row

-- no job made the node writable that it may give back
abbrev pub IsNotLent : RunTable → ℕ → Type 0
IsNotLent t node = (row : JobRecord) → Contains t.jobs row → lends node row ≡ false

-- Of changes by which no job begins or ends: none that copies what is read comes over a lent node.
abbrev pub LeavesLent : RunTable → Change → Type 0
LeavesLent t (change.AddFilter row child) = IsNotLent t child
LeavesLent t c = Unit {0}

abbrev pub AllLeaveLent : RunTable → List Change → Type 0
AllLeaveLent t [] = Unit {0}
AllLeaveLent t (c ∷ changes) = LeavesLent t c × AllLeaveLent (changed t c) changes

-- ---- backing nodes

-- no disk is left in the file of a `file` node that is another one's backing node
abbrev pub BackedAreUnleft : State → Type 0
BackedAreUnleft s =
    (edge : Edge) → Contains s.table.edges edge → edge.role ≡ Backing → NoneLeftIn s edge.child

-- nor in that of one that becomes so
abbrev pub BacksUnleft : State → Change → Type 0
BacksUnleft s (change.AddFormat row file backing) =
    (node : ℕ) → backing ≡ Some node → NoneLeftIn s node
BacksUnleft s (change.PullFilter filter) =
    (below : ℕ) → child s.table filter Filtered ≡ Some below → NoneLeftIn s below
BacksUnleft s (change.Attach overlay node) = NoneLeftIn s node
BacksUnleft s (change.Move from to but) = NoneLeftIn s to
BacksUnleft s (change.Rebase node backing) = (base : ℕ) → backing ≡ Some base → NoneLeftIn s base
BacksUnleft s c = Unit {0}

abbrev pub AllBackUnleft : State → List Change → Type 0
AllBackUnleft s [] = Unit {0}
AllBackUnleft s (c ∷ changes) = BacksUnleft s c × AllBackUnleft (stepped s c) changes
