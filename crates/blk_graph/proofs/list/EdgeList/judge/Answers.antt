use Rattle.std.proofs.Common.{◌≡◌, sym, ◌∙◌, ap, Some, None}
use Rattle.blk_graph.specs.Rule.{first_conflict}
use Rattle.blk_graph.proofs.ListLemmas.{judged-None, judged-Some}
use Rattle.blk_graph.proofs.RuleLemmas.{IsBroken-first}
use Rattle.blk_graph.proofs.list.EdgeList.judge.Goals as goal

pub returns-in-None-clause-rule : goal.returns-in-None-clause-rule
returns-in-None-clause-rule c =
    let none : first_conflict c.args.nodes.now c.args.self.now ≡ None
    = ap (first_conflict c.args.nodes.now) (sym (c.as_slice.ensures.value ∙ c.self.view_is)) ∙ sym c.first_conflict.ensures ∙ c.in-None.is in
    judged-None c.args.nodes.now c.args.self.now none

pub returns-in-Some-clause-broken : goal.returns-in-Some-clause-broken
returns-in-Some-clause-broken c =
    let found : first_conflict c.args.nodes.now c.args.self.now ≡ Some c.in-Some.pair
    = ap (first_conflict c.args.nodes.now) (sym (c.as_slice.ensures.value ∙ c.self.view_is)) ∙ sym c.first_conflict.ensures ∙ c.in-Some.is in
    IsBroken-first c.args.nodes.now c.args.self.now c.in-Some.pair found

pub returns-in-Some-clause-rule : goal.returns-in-Some-clause-rule
returns-in-Some-clause-rule c = λ _.
    let found : first_conflict c.args.nodes.now c.args.self.now ≡ Some c.in-Some.pair
    = ap (first_conflict c.args.nodes.now) (sym (c.as_slice.ensures.value ∙ c.self.view_is)) ∙ sym c.first_conflict.ensures ∙ c.in-Some.is in
    judged-Some c.args.nodes.now c.args.self.now c.in-Some.pair found
