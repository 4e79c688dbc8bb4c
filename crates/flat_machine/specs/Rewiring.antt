-- Changes that leave which nodes there are. A list of them comes to kinds and edges that the nodes take at once.
use Rattle.std.specs.Prelude.{◌≡◌, Bool, true, false, List, [], ◌∷◌}
use Rattle.qmp_rules.specs.declared.change.Change.{Change}
use Rattle.qmp_rules.specs.declared.change.Change.TheVariants as change

-- no node comes or goes
abbrev pub keeps_nodes : Change → Bool
keeps_nodes (change.AddFile row) = false
keeps_nodes (change.AddFormat row file backing) = false
keeps_nodes (change.AddFilter row child) = false
keeps_nodes (change.RemoveNode node) = false
keeps_nodes (change.PutFilter row node) = false
keeps_nodes (change.PullFilter filter) = false
keeps_nodes c = true

abbrev pub AllKeepNodes : List Change → Type 0
AllKeepNodes [] = Unit {0}
AllKeepNodes (c ∷ changes) = (keeps_nodes c ≡ true) × AllKeepNodes changes
