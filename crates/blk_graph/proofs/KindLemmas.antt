-- A node that may be written, or no longer, keeps its kind, so its edges still fit.
use Rattle.std.proofs.Common.{◌≡◌, ℕ, zero, suc, List, [], ◌∷◌, set, get_or, Bool, true, false, refl, sym, ◌∙◌, ap, subst, inl, inr, Result, None}
use Rattle.std.specs.List.{Contains}
use Rattle.std.proofs.lemmas.List.{length-set}
use Rattle.std.proofs.lemmas.Bool.{cases_eq}
use Rattle.blk_base.specs.Written.{Written}
use Rattle.slab.specs.Slab.{Slab}
use Rattle.blk_graph.specs.declared.edge.Edge.{Edge}
use Rattle.blk_graph.specs.declared.edge.Parent.{Parent}
use Rattle.blk_graph.specs.declared.edge.Parent.TheVariants.{Node, Guest, Job}
use Rattle.blk_graph.specs.declared.kind.NodeKind.{NodeKind}
use Rattle.blk_graph.specs.declared.stop.GraphStop.{GraphStop}
use Rattle.blk_graph.specs.Drafts.{WriteLess}
use Rattle.blk_graph.specs.Edges.{IsListed}
use Rattle.blk_graph.specs.Graph.{Graph, ids, with_writes, HasNode, IsFit}
use Rattle.blk_graph.specs.Judged.{IsJudged, IsRuled}
use Rattle.blk_graph.specs.Layout.{graph_of, IsKept}
use Rattle.blk_graph.specs.Permissions.{has_role}
use Rattle.blk_graph.specs.Refreshed.{no_kind, kind_at, IsOf, IsByTable, refreshed}
use Rattle.blk_graph.specs.Rule.{KeepsPermissions, first_conflict}
use Rattle.blk_graph.proofs.EaseLemmas.{KeepsPermissions-less}
use Rattle.blk_graph.proofs.FitLemmas.{IsFit-refreshed, listed_fit}
use Rattle.blk_graph.proofs.GraphLemmas.{ids-graph_of}
use Rattle.blk_graph.proofs.JudgeLemmas.{children-refreshed, IsJudged-ruled}
use Rattle.blk_graph.proofs.NodeLemmas.{set-default, kind_at-other}
use Rattle.blk_graph.proofs.RefreshLemmas.{IsAcyclic-refreshed, IsRefreshed-refreshed}
use Rattle.blk_graph.proofs.RuleLemmas.{KeepsPermissions-from_None}
use Rattle.blk_graph.proofs.StillLemmas.{refreshed-fixed}

set_kind : (xs : List NodeKind) (i n : ℕ) (k : NodeKind) → k.kind ≡ (get_or xs i no_kind).kind
    → (get_or (set xs i k) n no_kind).kind ≡ (get_or xs n no_kind).kind
set_kind [] i n k h = refl
set_kind (x ∷ xs) zero zero k h = h
set_kind (x ∷ xs) zero (suc n) k h = refl
set_kind (x ∷ xs) (suc i) zero k h = refl
set_kind (x ∷ xs) (suc i) (suc n) k h = set_kind xs i n k h

set_less : (xs : List NodeKind) (i n : ℕ) (k : NodeKind) → k.writes ≡ false
    → (get_or (set xs i k) n no_kind).writes ≡ true → (get_or xs n no_kind).writes ≡ true
set_less [] i n k h is = is
set_less (x ∷ xs) zero zero k h is = absurd (let no : false ≡ true = sym h ∙ is in cc)
set_less (x ∷ xs) zero (suc n) k h is = is
set_less (x ∷ xs) (suc i) zero k h is = is
set_less (x ∷ xs) (suc i) (suc n) k h is = set_less xs i n k h is

pub same_kinds : (node : ℕ) (writes : Bool) (kinds : List NodeKind) (n : ℕ)
    → (kind_at (with_writes node writes kinds) n).kind ≡ (kind_at kinds n).kind
same_kinds node writes kinds n = set_kind kinds node n (record (kind_at kinds node) { writes = writes }) refl

pub writes_less : (node : ℕ) (kinds : List NodeKind) → WriteLess kinds (with_writes node false kinds)
writes_less node kinds = record {
  kind = same_kinds node false kinds;
  writes = λ n. set_less kinds node n (record (kind_at kinds node) { writes = false }) refl;
}

table_same : (kinds new : List NodeKind) → ((n : ℕ) → (kind_at new n).kind ≡ (kind_at kinds n).kind) → (e : Edge)
    → IsByTable kinds e → IsByTable new e
table_same kinds new same e h = by_parent e.parent h
  where
    by_parent : (p : Parent) → IsOf kinds e p → IsOf new e p
    by_parent (Node n) own = ap (λ k. has_role k e.role) (same n) ∙ own
    by_parent (Guest n) own = own
    by_parent (Job n) own = own

module _ (names : Slab Written) (keys order : List ℕ) (kinds : List NodeKind) (edges : List Edge) (room : ℕ)
    (kept : IsKept names keys order kinds edges room) where
  abbrev before : Graph
  before = graph_of names keys order kinds edges

  listed : IsListed edges
  listed = listed_fit before kept.sound.small edges kept.sound.fit

  IsKept-kinds : (node : ℕ) (writes : Bool)
      → ((id : ℕ) → (HasNode before id → ⊥) → kind_at (with_writes node writes kinds) id ≡ no_kind)
      → KeepsPermissions (refreshed (with_writes node writes kinds) edges)
      → IsKept names keys order (with_writes node writes kinds) (refreshed (with_writes node writes kinds) edges) room
  IsKept-kinds node writes vacant rule =
      let new : List NodeKind = with_writes node writes kinds in
      let g : Graph = graph_of names keys order new edges in
      let fit : IsFit g edges = record {
        each = λ e h. let own = kept.sound.fit.each e h in
            record { parent = own.parent; child = own.child; table = table_same kinds new (same_kinds node writes kinds) e own.table };
        places = kept.sound.fit.places;
      } in
      let fits = IsFit-refreshed g new edges fit in
      record {
        named = kept.named;
        apart = kept.apart;
        keys_room = kept.keys_room;
        count = kept.count;
        names_room = kept.names_room;
        nodes_fit = kept.nodes_fit;
        sound = record {
          different_nodes = kept.sound.different_nodes;
          different_names = kept.sound.different_names;
          few_nodes = kept.sound.few_nodes;
          kinds = length-set kinds node (record (kind_at kinds node) { writes = writes }) ∙ kept.sound.kinds;
          vacant = vacant;
          small = kept.sound.small;
          fit = record {
            each = λ e h. let own = fits.each e h in record { parent = own.parent; child = own.child; table = own.table };
            places = fits.places;
          };
          just = record {
            acyclic = IsAcyclic-refreshed new edges kept.sound.just.acyclic;
            refreshed = IsRefreshed-refreshed new edges listed kept.sound.just.acyclic;
            rule = rule;
          };
        };
      }

  -- a node that is no longer written breaks nothing
  pub IsKept-read_only : (node : ℕ)
      → IsKept names keys order (with_writes node false kinds) (refreshed (with_writes node false kinds) edges) room
  IsKept-read_only node =
      IsKept-kinds node false
      (λ id none. elim (cases_eq id node) [
        | inl same ↦
            let was : kind_at kinds node ≡ no_kind = rw same at (kept.sound.vacant id none) in
            rw same (ap (λ (k : NodeKind). kind_at (set kinds node (record k { writes = false })) node) was ∙ set-default kinds node no_kind)
        | inr other ↦ kind_at-other kinds node id (record (kind_at kinds node) { writes = false }) other ∙ kept.sound.vacant id none
      ])
      (KeepsPermissions-less kinds (with_writes node false kinds) edges (writes_less node kinds)
      (rw (refreshed-fixed kinds edges kept.sound.just.refreshed) kept.sound.just.rule))

  children_there : (e : Edge) → Contains edges e → Contains order e.child
  children_there e h = rw (ids-graph_of names keys order kinds edges) at (kept.sound.fit.each e h).child

  -- a node that may now be written, where that was not refused
  pub IsKept-writable : (node : ℕ) (nodes : List ℕ) → nodes ≡ order → HasNode before node
      → first_conflict nodes (refreshed (with_writes node true kinds) edges) ≡ None
      → IsKept names keys order (with_writes node true kinds) (refreshed (with_writes node true kinds) edges) room
  IsKept-writable node nodes same there none =
      IsKept-kinds node true
      (λ id absent. kind_at-other kinds node id (record (kind_at kinds node) { writes = true }) (λ is. absent (rw is there))
      ∙ kept.sound.vacant id absent)
      (KeepsPermissions-from_None order (refreshed (with_writes node true kinds) edges)
      (children-refreshed order (with_writes node true kinds) edges children_there) (rw same at none))

  pub judged_writable : (node : ℕ) (nodes : List ℕ) (ruling : List NodeKind) (edited : List Edge) (result : Result (Unit {0}) GraphStop)
      → nodes ≡ order → ruling ≡ with_writes node true kinds → edited ≡ edges → IsRuled nodes (refreshed ruling edited) result
      → IsJudged (ids before) (with_writes node true kinds) edges result
  judged_writable node nodes ruling edited result same same_kinds same_edges ruled =
      let new : List NodeKind = with_writes node true kinds in
      let by_kinds : IsRuled nodes (refreshed new edited) result
      = subst (λ (ks : List NodeKind). IsRuled nodes (refreshed ks edited) result) same_kinds ruled in
      let by_edges : IsRuled nodes (refreshed new edges) result
      = subst (λ (es : List Edge). IsRuled nodes (refreshed new es) result) same_edges by_kinds in
      rw (ids-graph_of names keys order kinds edges)
      (IsJudged-ruled order new edges children_there kept.sound.just.acyclic result (rw same at by_edges))
