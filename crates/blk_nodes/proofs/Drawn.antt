-- The edges that are drawn for a new node are those of a sound graph, where they keep the permission rule.
use Rattle.std.proofs.Common.{◌≡◌, ◌≢◌, ℕ, true, List, Option, Some, None, Result, Ok, Err, inl, inr}
use Rattle.std.specs.Prelude.{Contains, IfSome, MatchResult, OnOk}
use Rattle.blk_graph.specs.Edits.{with_edge, IsLone}
use Rattle.blk_graph.specs.Graph.{Graph, ids, HasNode, IsFit, IsSoundGraph}
use Rattle.blk_graph.specs.Paths.{IsAcyclic, LeadsBack}
use Rattle.blk_graph.specs.Permissions.{node_edge, has_role}
use Rattle.blk_graph.specs.Refreshed.{kind_at, refreshed}
use Rattle.blk_graph.specs.Rule.{first_conflict}
use Rattle.blk_graph.specs.declared.edge.Edge.{Edge}
use Rattle.blk_graph.specs.declared.edge.Parent.TheVariants.{Node}
use Rattle.blk_graph.specs.declared.edge.Role.{Role}
use Rattle.blk_graph.specs.declared.edge.Role.TheVariants.{File, Backing}
use Rattle.blk_graph.proofs.ChildLemmas.{reached-entered}
use Rattle.blk_graph.proofs.DraftLemmas.{acyclic_put}
use Rattle.blk_graph.proofs.EditLemmas.{Contains-with_edge}
use Rattle.blk_graph.proofs.FitLemmas.{IsFit-with_edge, IsFit-refreshed, listed_fit}
use Rattle.blk_graph.proofs.JudgeLemmas.{children-refreshed}
use Rattle.blk_graph.proofs.RefreshLemmas.{IsAcyclic-refreshed, IsRefreshed-refreshed}
use Rattle.blk_graph.proofs.RuleLemmas.{KeepsPermissions-from_None}
use Rattle.blk_nodes.specs.Overlays.{format_edges}

-- a list that may be a graph's, once what its edges ask and share is derived
pub record IsDraft (graph : Graph) (edges : List Edge) : Type 0 where
  pub fit : IsFit graph edges
  pub acyclic : IsAcyclic edges

-- nothing leads back to a node that no edge enters
no_way_back : (edges : List Edge) (id child : ℕ) → ((e : Edge) → Contains edges e → e.child ≢ id) → child ≢ id → LeadsBack edges child (Node id) → ⊥
no_way_back edges id child enters apart (inl same) = apart same
no_way_back edges id child enters apart (inr reaches) = reached-entered edges child id reaches.first reaches.rest reaches.path enters

-- one more edge of a node that no edge enters
draft_put : (graph : Graph) (edges : List Edge) (id child : ℕ) (role : Role) → IsDraft graph edges → HasNode graph id → HasNode graph child → child ≢ id
    → has_role (kind_at graph.kinds id).kind role ≡ true → ((e : Edge) → Contains edges e → e.child ≢ id) → IsDraft graph (with_edge (node_edge id role child) edges)
draft_put graph edges id child role draft there below apart may enters =
    let new : Edge = node_edge id role child in
    record {
      fit = IsFit-with_edge graph new edges (record { parent = there; child = below; table = may }) draft.fit;
      acyclic = acyclic_put new edges (no_way_back edges id child enters apart) draft.acyclic;
    }

-- and that node is still not entered
enters_put : (edges : List Edge) (id child : ℕ) (role : Role) → child ≢ id → ((e : Edge) → Contains edges e → e.child ≢ id)
    → (e : Edge) → Contains (with_edge (node_edge id role child) edges) e → e.child ≢ id
enters_put edges id child role apart enters e h = elim (Contains-with_edge (node_edge id role child) edges e h) [
  | inl is ↦ rw is apart
  | inr kept ↦ enters e kept
]

-- what is derived from it is sound, where it keeps the rule
pub draft_sound : (graph : Graph) (edges : List Edge) → IsSoundGraph graph → IsDraft graph edges
    → first_conflict (ids graph) (refreshed graph.kinds edges) ≡ None → IsSoundGraph (record graph { edges = refreshed graph.kinds edges })
draft_sound graph edges sound draft none =
    let made = IsFit-refreshed graph graph.kinds edges draft.fit in
    record {
      different_nodes = sound.different_nodes;
      different_names = sound.different_names;
      few_nodes = sound.few_nodes;
      small = sound.small;
      kinds = sound.kinds;
      vacant = sound.vacant;
      fit = record { each = λ e h. let fits = made.each e h in record { parent = fits.parent; child = fits.child; table = fits.table }; places = made.places };
      just = record {
        acyclic = IsAcyclic-refreshed graph.kinds edges draft.acyclic;
        refreshed = IsRefreshed-refreshed graph.kinds edges (listed_fit graph sound.small edges draft.fit) draft.acyclic;
        rule = KeepsPermissions-from_None (ids graph) (refreshed graph.kinds edges)
            (children-refreshed (ids graph) graph.kinds edges (λ e h. (draft.fit.each e h).child)) none;
      };
    }

-- the edges of a node over a file and a backing node
module _ (graph : Graph) (id file : ℕ) (sound : IsSoundGraph graph) (there : HasNode graph id) (lone : IsLone graph.edges id)
    (below : HasNode graph file × (file ≢ id)) (may_file : has_role (kind_at graph.kinds id).kind File ≡ true) where
  abbrev with_file : List Edge
  with_file = with_edge (node_edge id File file) graph.edges

  file_draft : IsDraft graph with_file
  file_draft = draft_put graph graph.edges id file File (record { fit = sound.fit; acyclic = sound.just.acyclic }) there below.0 below.1 may_file lone.enters

  pub format_draft : (backing : Option ℕ) → IfSome backing (λ over. HasNode graph over × (over ≢ id))
      → IfSome backing (λ _. has_role (kind_at graph.kinds id).kind Backing ≡ true) → IsDraft graph (format_edges id file backing graph.edges)
  format_draft None is may = file_draft
  format_draft (Some over) is may =
      draft_put graph with_file id over Backing file_draft there is.0 is.1 may (enters_put graph.edges id file File below.1 lone.enters)

-- a list that was judged, where it was not refused
pub when_judged : {E : Type 0} (result : Result (Unit {0}) E) (none : Type 0) (some : E → Type 0) (P : Type 0) → MatchResult result (λ _. none) some → (none → P) → OnOk result P
when_judged (Ok done) none some P is f = f is
when_judged (Err pair) none some P is f = tt
