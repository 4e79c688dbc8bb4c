-- Edges of guests ask and share what they were set to: where edges are derived anew they stay.
use Rattle.std.proofs.Common.{◌≡◌, ℕ, not, List, sym, ◌∙◌, ap, subst}
use Rattle.std.specs.Prelude.{Contains, find, ◌==◌}
use Rattle.blk_graph.specs.Edges.{same_parent}
use Rattle.blk_graph.specs.Refreshed.{uses_into, ruled, ruled_from, turned, refreshed}
use Rattle.blk_graph.specs.declared.edge.Edge.{Edge}
use Rattle.blk_graph.specs.declared.edge.Parent.TheVariants.{Node, Guest}
use Rattle.blk_graph.specs.declared.kind.NodeKind.{NodeKind}
use Rattle.blk_graph.proofs.Members.{Contains-filter, Contains-map, map-Contains}
use Rattle.blk_graph.proofs.RefreshLemmas.{refreshed-by, ruled-same}
use Rattle.qmp_rules.specs.Changes.{changed}
use Rattle.qmp_rules.specs.Table.{RunTable}
use Rattle.qmp_rules.specs.declared.change.Change.TheVariants.{RemoveNode}
use Rattle.qmp_rules.specs.declared.rows.DeviceRow.{DeviceRow}
use Rattle.world_parts.specs.Coherent.{AskToWrite}
use Rattle.world_parts.proofs.EasedTables.{IsTableEased}

-- the edges of a guest among these are among those
abbrev pub HaveGuests : List Edge → List Edge → Type 0
HaveGuests now edges = (e : Edge) (g : ℕ) → Contains now e → e.parent ≡ Guest g → Contains edges e

guests-turned : (kinds : List NodeKind) (now edges : List Edge) → HaveGuests now edges → HaveGuests (turned kinds now) edges
guests-turned kinds now edges have e g there from =
    let old = Contains-map (ruled kinds (uses_into now)) now e there in
    let parent : old.0.parent ≡ Guest g = sym (ap (λ (x : Edge). x.parent) old.2 ∙ (ruled-same kinds (uses_into now) old.0).parent) ∙ from in
    let kept : ruled kinds (uses_into now) old.0 ≡ old.0 = ap (ruled_from kinds (uses_into now) old.0) parent in
    subst (Contains edges) (sym (old.2 ∙ kept)) (have old.0 g old.1 parent)

pub guest_edge : (kinds : List NodeKind) (edges : List Edge) → HaveGuests (refreshed kinds edges) edges
guest_edge kinds edges =
    refreshed-by kinds (λ (now : List Edge). HaveGuests now edges) (λ now have. guests-turned kinds now edges have) edges (λ e g there from. there)

-- ---- guests that may write ask to

pub asks_left : (t : RunTable) (node : ℕ) → AskToWrite t → AskToWrite (changed t (RemoveNode node))
unfolding changed
asks_left t node asks g device edge at writes there from =
    let old = guest_edge _ _ edge g there from in
    asks g device edge at writes (Contains-filter (λ (e : Edge). not (same_parent e.parent (Node node))) t.edges edge old).0 from

pub asks_eased : (t now : RunTable) → IsTableEased t now → AskToWrite t → AskToWrite now
asks_eased t now e asks g device edge at writes there from =
    asks g device edge (sym (ap (find (λ (d : DeviceRow). d.number == g)) e.devices) ∙ at) writes
    (subst (λ (edges : List Edge). Contains edges edge) e.edges there) from

-- ---- and they stay

pub guest_stays : (kinds : List NodeKind) (edges : List Edge) (e : Edge) (g : ℕ) → Contains edges e → e.parent ≡ Guest g → Contains (refreshed kinds edges) e
guest_stays kinds edges e g there from =
    refreshed-by kinds (λ (now : List Edge). Contains now e)
    (λ now at. subst (Contains (turned kinds now)) (ap (ruled_from kinds (uses_into now) e) from) (map-Contains (ruled kinds (uses_into now)) now e at))
    edges there
