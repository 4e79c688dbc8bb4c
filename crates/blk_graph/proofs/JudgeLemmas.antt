-- The three ways in which an edited list is judged.
use Rattle.std.proofs.Common.{◌≡◌, ℕ, List, Result, Some, None, Ok, Err, refl, sym, ◌∙◌, ap}
use Rattle.std.specs.List.{Contains}
use Rattle.blk_graph.specs.declared.edge.Edge.{Edge}
use Rattle.blk_graph.specs.declared.edge.Conflict.{Conflict as Pair}
use Rattle.blk_graph.specs.declared.kind.NodeKind.{NodeKind}
use Rattle.blk_graph.specs.declared.stop.GraphStop.{GraphStop}
use Rattle.blk_graph.specs.declared.stop.GraphStop.TheVariants.{NameTaken, Cycle, InUse, Conflict, TooManyNodes, NoMemory}
use Rattle.blk_graph.specs.Edges.{IsListed}
use Rattle.blk_graph.specs.Graph.{IsJust}
use Rattle.std.specs.Prelude.{OnOk}
use Rattle.blk_graph.specs.Paths.{HasCycle, IsAcyclic}
use Rattle.blk_graph.specs.Refreshed.{uses_into, ruled, refreshed}
use Rattle.blk_graph.specs.Rule.{KeepsPermissions, first_conflict}
use Rattle.blk_graph.specs.Judged.{IsJudged, IsSettled, IsRuled}
use Rattle.blk_graph.proofs.Members.{Contains-map}
use Rattle.blk_graph.proofs.RefreshLemmas.{ruled-same, refreshed-by, IsAcyclic-refreshed, IsRefreshed-refreshed}
use Rattle.blk_graph.proofs.RuleLemmas.{KeepsPermissions-from_None, None-from_KeepsPermissions}

-- the children stay among some nodes
pub children-refreshed : (nodes : List ℕ) (kinds : List NodeKind) (edges : List Edge)
    → ((e : Edge) → Contains edges e → Contains nodes e.child)
    → (e : Edge) → Contains (refreshed kinds edges) e → Contains nodes e.child
children-refreshed nodes kinds =
    refreshed-by kinds (λ now. (e : Edge) → Contains now e → Contains nodes e.child)
    (λ now h e there.
    let r = Contains-map (ruled kinds (uses_into now)) now e there in
    let is : e.child ≡ r.0.child = ap (λ (x : Edge). x.child) r.2 ∙ (ruled-same kinds (uses_into now) r.0).child in
    rw is (h r.0 r.1))

pub IsJudged-cycle : (nodes : List ℕ) (kinds : List NodeKind) (edited : List Edge) → HasCycle edited
    → IsJudged nodes kinds edited (Err Cycle)
IsJudged-cycle nodes kinds edited has = record {
  cycle = (λ _. has, λ _. refl);
  conflict = λ pair. (λ e. absurd cc, λ h. absurd (h.0 has.node has.cycle));
  ok = (λ is. absurd cc, λ h. absurd (h.0 has.node has.cycle));
  only = tt;
}

IsJudged-conflict : (nodes : List ℕ) (kinds : List NodeKind) (edited : List Edge) (pair : Pair) → IsAcyclic edited
    → first_conflict nodes (refreshed kinds edited) ≡ Some pair → IsJudged nodes kinds edited (Err (Conflict pair))
IsJudged-conflict nodes kinds edited pair acyclic found = record {
  cycle = (λ e. absurd cc, λ has. absurd (acyclic has.node has.cycle));
  conflict = λ other. (
    λ e. (acyclic, let same : pair ≡ other = cc in rw (← same) found),
    λ h. let same : Some pair ≡ Some other = sym found ∙ h.1 in cc,
  );
  ok = (
    λ is. absurd cc,
    λ h. let none : first_conflict nodes (refreshed kinds edited) ≡ None
        = None-from_KeepsPermissions nodes (refreshed kinds edited) h.1 in absurd cc,
  );
  only = tt;
}

IsJudged-ok : (nodes : List ℕ) (kinds : List NodeKind) (edited : List Edge)
    → ((e : Edge) → Contains edited e → Contains nodes e.child) → IsAcyclic edited
    → first_conflict nodes (refreshed kinds edited) ≡ None → IsJudged nodes kinds edited (Ok tt)
IsJudged-ok nodes kinds edited children acyclic none = record {
  cycle = (λ e. absurd cc, λ has. absurd (acyclic has.node has.cycle));
  conflict = λ pair. (λ e. absurd cc, λ h. absurd cc);
  ok = (
    λ _. (acyclic, KeepsPermissions-from_None nodes (refreshed kinds edited) (children-refreshed nodes kinds edited children) none),
    λ _. refl,
  );
  only = tt;
}

pub IsJudged-ruled : (nodes : List ℕ) (kinds : List NodeKind) (edited : List Edge)
    → ((e : Edge) → Contains edited e → Contains nodes e.child) → IsAcyclic edited → (result : Result (Unit {0}) GraphStop)
    → IsRuled nodes (refreshed kinds edited) result → IsJudged nodes kinds edited result
IsJudged-ruled nodes kinds edited children acyclic (Ok tt) h = IsJudged-ok nodes kinds edited children acyclic h
IsJudged-ruled nodes kinds edited children acyclic (Err (Conflict pair)) h = IsJudged-conflict nodes kinds edited pair acyclic h
IsJudged-ruled nodes kinds edited children acyclic (Err NameTaken) h = absurd h
IsJudged-ruled nodes kinds edited children acyclic (Err Cycle) h = absurd h
IsJudged-ruled nodes kinds edited children acyclic (Err (InUse parent)) h = absurd h
IsJudged-ruled nodes kinds edited children acyclic (Err TooManyNodes) h = absurd h
IsJudged-ruled nodes kinds edited children acyclic (Err NoMemory) h = absurd h

pub IsSettled-cycle : (nodes : List ℕ) (kinds : List NodeKind) (edited : List Edge) → HasCycle edited
    → IsSettled nodes kinds edited (Err Cycle)
IsSettled-cycle nodes kinds edited has = record {
  cycle = (λ _. has, λ _. refl);
  conflict = λ pair. (λ e. absurd cc, λ h. absurd (h.0 has.node has.cycle));
  ok = (λ is. absurd cc, λ h. absurd (h.0 has.node has.cycle));
  only = tt;
}

pub IsSettled-ruled : (nodes : List ℕ) (kinds : List NodeKind) (edited : List Edge) → IsAcyclic edited
    → (result : Result (Unit {0}) GraphStop) → IsRuled nodes (refreshed kinds edited) result → IsSettled nodes kinds edited result
IsSettled-ruled nodes kinds edited acyclic (Ok tt) none = record {
  cycle = (λ e. absurd cc, λ has. absurd (acyclic has.node has.cycle));
  conflict = λ pair. (λ e. absurd cc, λ h. absurd cc);
  ok = (λ _. (acyclic, none), λ _. refl);
  only = tt;
}
IsSettled-ruled nodes kinds edited acyclic (Err (Conflict pair)) found = record {
  cycle = (λ e. absurd cc, λ has. absurd (acyclic has.node has.cycle));
  conflict = λ other. (
    λ e. (acyclic, let same : pair ≡ other = cc in rw (← same) found),
    λ h. let same : Some pair ≡ Some other = sym found ∙ h.1 in cc,
  );
  ok = (λ is. absurd cc, λ h. absurd (let no : Some pair ≡ None = sym found ∙ h.1 in cc));
  only = tt;
}
IsSettled-ruled nodes kinds edited acyclic (Err NameTaken) h = absurd h
IsSettled-ruled nodes kinds edited acyclic (Err Cycle) h = absurd h
IsSettled-ruled nodes kinds edited acyclic (Err (InUse parent)) h = absurd h
IsSettled-ruled nodes kinds edited acyclic (Err TooManyNodes) h = absurd h
IsSettled-ruled nodes kinds edited acyclic (Err NoMemory) h = absurd h

-- what is derived from a list that was taken is just
pub just_ruled : (nodes : List ℕ) (kinds : List NodeKind) (edited : List Edge)
    → ((e : Edge) → Contains edited e → Contains nodes e.child) → IsListed edited → IsAcyclic edited
    → (result : Result (Unit {0}) GraphStop) → IsRuled nodes (refreshed kinds edited) result
    → OnOk result (IsJust kinds (refreshed kinds edited))
just_ruled nodes kinds edited children listed acyclic (Ok tt) none = record {
  acyclic = IsAcyclic-refreshed kinds edited acyclic;
  refreshed = IsRefreshed-refreshed kinds edited listed acyclic;
  rule = KeepsPermissions-from_None nodes (refreshed kinds edited) (children-refreshed nodes kinds edited children) none;
}
just_ruled nodes kinds edited children listed acyclic (Err stop) h = tt

-- a list that keeps the rule is refused for no pair
pub no_conflict : (nodes : List ℕ) (kinds : List NodeKind) (edited : List Edge) (result : Result (Unit {0}) GraphStop)
    → IsJudged nodes kinds edited result → KeepsPermissions (refreshed kinds edited) → (pair : Pair) → result ≡ Err (Conflict pair) → ⊥
no_conflict nodes kinds edited result judged rule pair is =
    let found = (judged.conflict pair).0 is in
    let none : first_conflict nodes (refreshed kinds edited) ≡ None = None-from_KeepsPermissions nodes (refreshed kinds edited) rule in
    absurd (let no : Some pair ≡ None = sym found.1 ∙ none in cc)
