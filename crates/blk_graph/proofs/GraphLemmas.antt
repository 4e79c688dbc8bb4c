-- What is true of every graph stays true at each edit.
use Rattle.std.proofs.Common.{◌≡◌, ℕ, ◌-◌, ◌≤◌, List, [], ◌∷◌, length, map, refl, ap, arith, Bool, None, Result, Ok, Err}
use Rattle.std.specs.Prelude.{OnOk, OnErr}
use Rattle.std.specs.List.{Contains, filter}
use Rattle.blk_base.specs.Written.{Written}
use Rattle.slab.specs.Slab.{Slab}
use Rattle.blk_graph.specs.declared.edge.Edge.{Edge}
use Rattle.blk_graph.specs.declared.stop.GraphStop.{GraphStop}
use Rattle.blk_graph.specs.declared.kind.NodeKind.{NodeKind}
use Rattle.blk_graph.specs.Graph.{NodeRow, Graph, ids, HasParent, IsFit, IsSoundGraph, PathsAreShort}
use Rattle.blk_graph.specs.Refreshed.{refreshed}
use Rattle.blk_graph.specs.Rule.{KeepsPermissions, first_conflict}
use Rattle.blk_graph.specs.Layout.{graph_of, IsKept}
use Rattle.blk_graph.specs.Paths.{IsAcyclic}
use Rattle.blk_graph.specs.Judged.{IsJudged, IsRuled, LeadTo}
use Rattle.blk_graph.proofs.Members.{Contains-filter}
use Rattle.blk_graph.proofs.PathLemmas.{IsAcyclic-fewer}
use Rattle.blk_graph.proofs.LengthLemmas.{length-IsPath}
use Rattle.blk_graph.proofs.EaseLemmas.{KeepsPermissions-fewer}
use Rattle.blk_graph.proofs.FitLemmas.{IsFit-filter, IsFit-refreshed, listed_fit}
use Rattle.blk_graph.proofs.JudgeLemmas.{children-refreshed, IsJudged-ruled}
use Rattle.blk_graph.proofs.RefreshLemmas.{IsAcyclic-refreshed, IsRefreshed-refreshed}
use Rattle.blk_graph.proofs.RuleLemmas.{KeepsPermissions-from_None}

-- the ids of the rows are the keys
pub ids-graph_of : (names : Slab Written) (keys order : List ℕ) (kinds : List NodeKind) (edges : List Edge)
    → ids (graph_of names keys order kinds edges) ≡ order
ids-graph_of names keys [] kinds edges = refl
ids-graph_of names keys (id ∷ order) kinds edges = ap (λ xs. id ∷ xs) (ids-graph_of names keys order kinds edges)

pub length-ids : (rows : List NodeRow) → length (map (λ row. row.id) rows) ≡ length rows
length-ids [] = refl
length-ids (row ∷ rows) = let h = length-ids rows in omega (arith, h)

module _ (names : Slab Written) (keys order : List ℕ) (kinds : List NodeKind) (old : List Edge) (room : ℕ)
    (kept : IsKept names keys order kinds old room) where
  -- an edited list without cycles, in which what nodes' edges ask and share is derived, is just where it keeps the rule
  IsKept-refreshed : (edited : List Edge) → IsFit (graph_of names keys order kinds old) edited
      → IsAcyclic edited → KeepsPermissions (refreshed kinds edited) → IsKept names keys order kinds (refreshed kinds edited) room
  IsKept-refreshed edited fit acyclic rule =
      let g : Graph = graph_of names keys order kinds old in
      let fits = IsFit-refreshed g kinds edited fit in
      record {
        named = kept.named;
        apart = kept.apart;
        keys_room = kept.keys_room;
        count = kept.count;
        names_room = kept.names_room;
        nodes_fit = kept.nodes_fit;
        sound = record {
          different_nodes = kept.sound.different_nodes;
          different_names = kept.sound.different_names;
          few_nodes = kept.sound.few_nodes;
          kinds = kept.sound.kinds;
          vacant = kept.sound.vacant;
          small = kept.sound.small;
          fit = record {
            each = λ e h. let own = fits.each e h in record { parent = own.parent; child = own.child; table = own.table };
            places = fits.places;
          };
          just = record {
            acyclic = IsAcyclic-refreshed kinds edited acyclic;
            refreshed = IsRefreshed-refreshed kinds edited (listed_fit g kept.sound.small edited fit) acyclic;
            rule = rule;
          };
        };
      }

  -- fewer edges are never refused
  pub IsKept-fewer : (p : Edge → Bool) → IsKept names keys order kinds (refreshed kinds (filter p old)) room
  IsKept-fewer p =
      IsKept-refreshed (filter p old)
      (IsFit-filter (graph_of names keys order kinds old) p old kept.sound.fit)
      (IsAcyclic-fewer (filter p old) old (λ e h. (Contains-filter p old e h).0) kept.sound.just.acyclic)
      (KeepsPermissions-fewer kinds p old kept.sound.just.refreshed kept.sound.just.rule)

  children_of : (edited : List Edge) → IsFit (graph_of names keys order kinds old) edited → (e : Edge) → Contains edited e
      → Contains order e.child
  children_of edited fit e h = rw (ids-graph_of names keys order kinds old) at (fit.each e h).child

  -- an edited list that was judged stands in the place of the other, or the other stays
  pub IsKept-settled : (edited new : List Edge) (nodes : List ℕ) (result : Result (Unit {0}) GraphStop) → nodes ≡ order
      → IsFit (graph_of names keys order kinds old) edited → IsAcyclic edited
      → IsRuled nodes (refreshed kinds edited) result → OnOk result (new ≡ refreshed kinds edited) → OnErr result (new ≡ old)
      → IsKept names keys order kinds new room
  IsKept-settled edited new nodes (Ok u) same fit acyclic ruled ok err =
      let none : first_conflict order (refreshed kinds edited) ≡ None = rw same at ruled in
      rw ok (IsKept-refreshed edited fit acyclic
      (KeepsPermissions-from_None order (refreshed kinds edited)
      (children-refreshed order kinds edited (children_of edited fit)) none))
  IsKept-settled edited new nodes (Err e) same fit acyclic ruled ok err = rw err kept

  pub judged_of : (edited : List Edge) (nodes : List ℕ) (result : Result (Unit {0}) GraphStop) → nodes ≡ order
      → IsFit (graph_of names keys order kinds old) edited → IsAcyclic edited
      → IsRuled nodes (refreshed kinds edited) result
      → IsJudged (ids (graph_of names keys order kinds old)) kinds edited result
  judged_of edited nodes result same fit acyclic ruled =
      rw (ids-graph_of names keys order kinds old)
      (IsJudged-ruled order kinds edited (children_of edited fit) acyclic result (rw same at ruled))

  -- the same of a list that may have had cycles
  pub IsKept-judged : (edited new : List Edge) (result : Result (Unit {0}) GraphStop)
      → IsFit (graph_of names keys order kinds old) edited
      → IsJudged (ids (graph_of names keys order kinds old)) kinds edited result
      → OnOk result (new ≡ refreshed kinds edited) → OnErr result (new ≡ old) → IsKept names keys order kinds new room
  IsKept-judged edited new (Ok u) fit judged ok err = let r = judged.ok.0 refl in rw ok (IsKept-refreshed edited fit r.0 r.1)
  IsKept-judged edited new (Err e) fit judged ok err = rw err kept

  pub judged_lead : (edited : List Edge) (nodes : List ℕ) (result : Result (Unit {0}) GraphStop) → nodes ≡ order
      → IsFit (graph_of names keys order kinds old) edited → (LeadTo nodes edited → IsJudged nodes kinds edited result)
      → IsJudged (ids (graph_of names keys order kinds old)) kinds edited result
  judged_lead edited nodes result same fit judged =
      let lead : LeadTo nodes edited = rw same (children_of edited fit) in
      let h : IsJudged order kinds edited result = rw same at (judged lead) in
      rw (ids-graph_of names keys order kinds old) h

-- no path of a graph is longer than its nodes
pub PathsAreShort-from_IsSound : (g : Graph) → IsSoundGraph g → PathsAreShort g
PathsAreShort-from_IsSound g sound from to path h =
    let short : length path ≤ length (ids g) - 1
    = length-IsPath g.edges (ids g) from to path sound.just.acyclic (λ e m. (sound.fit.each e m).child)
    (λ e a m is. let p : HasParent g e.parent = (sound.fit.each e m).parent in rw is at p) h in
    omega (arith, short, length-ids g.nodes)
