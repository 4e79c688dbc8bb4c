use Rattle.std.proofs.Common.{ℕ, ◌∙◌, ◌∷◌, ◌++◌, List, map, refl, sym, ap, subst, Bool, Option, Some}
use Rattle.std.specs.Prelude.{is_none, option_to_list}
use Rattle.blk_base.specs.Written.{Written}
use Rattle.trace_codec.specs.Awaits.{seen_await}
use Rattle.trace_codec.specs.Script.{Order, seen_order}
use Rattle.trace_codec.specs.declared.order.Order.{Order as OrderOf}
use Rattle.trace_codec.specs.declared.order.Order.TheVariants.{Give, Watch}
use Rattle.world_parts.specs.Carrying.{AnswersLine, IsExecuted, IsPutOff}
use Rattle.world_parts.specs.Saying.{given_line}
use Rattle.world_parts.specs.Steps.{after_wait}
use Rattle.world_parts.specs.declared.executed.Executed.{Executed}
use Rattle.qblk_run.specs.Tasks.{ScriptTask}
use Rattle.qblk_run.specs.Worlds.{HasCome}
use Rattle.qblk_run.proofs.ScriptTurns.{answered-moves, none-next, first-next, script-open}
use Rattle.qblk_run.proofs.Worlds.{come-done, come-put-off, come-reached, come-replied, put-off-by, undone-by}
use Rattle.qblk_run.proofs.script_turn.script_turn.Goals as goal

pub returns-in-None-clause-comes : goal.returns-in-None-clause-comes
returns-in-None-clause-comes g c = λ o d first has.
    let v = g.W.Events.face c.finish.new.self in
    let left = none-next c.args.script.now.orders c.script.inside.next c.look.new.next c.take.new.self c.script.inside.rest.items c.look.new.rest.items
    (ap (λ (s : ScriptTask). s.orders) (sym c.script.view_is)) c.look.ensures.kept (sym c.take.ensures.value ∙ c.in-None.is) c.take.ensures.after in
    subst (HasCome o d first v) left
    (come-done o d first (g.W.Events.face c.args.world.now) v c.args.script.now.orders has (c.finish.ensures.comes o) 0
    (script-open (g.W.Events.face c.args.world.now) _ c.args.script.now c.requires.task c.script.view_is c.if-script.false) tt c.finish.ensures.kept)

pub returns-in-Ok-Replied-clause-comes : goal.returns-in-Ok-Replied-clause-comes
returns-in-Ok-Replied-clause-comes g c = λ o d first has.
    let w = g.W.Events.face c.args.world.now in
    let v = g.W.Events.face c.execute.new.self in
    let line = c.in-Some-Give.line in
    let after : List Order = map seen_order (option_to_list c.take.new.self ++ c.look.new.rest.items) in
    let next = first-next c.args.script.now.orders c.script.inside.next c.look.new.next c.take.new.self c.script.inside.rest.items c.look.new.rest.items
    (Give line c.in-Some-Give.text) (ap (λ (s : ScriptTask). s.orders) (sym c.script.view_is)) c.look.ensures.kept
    (sym c.take.ensures.value ∙ c.in-Some-Give.is ∙ ap (λ order. Some order) c.in-Some-Give.field-0-is) c.take.ensures.after in
    let given = given_line line c.as_str.result.now in
    let replied : AnswersLine w v given = subst (λ (x : Executed). IsExecuted w v given x) c.in-Ok-Replied.field-0-is c.in-Ok-Replied.ensures.done in
    come-replied o d first w v c.args.script.now.orders has (c.execute.ensures.comes o) given after
    (next ∙ ap (λ (text : List ℕ). Give line text ∷ after) (sym c.as_str.ensures))
    (script-open (g.W.Events.face c.args.world.now) _ c.args.script.now c.requires.task c.script.view_is c.if-script.false) replied

pub returns-in-Ok-Replied-clause-turn : goal.returns-in-Ok-Replied-clause-turn
returns-in-Ok-Replied-clause-turn g c =
    let w = g.W.Events.face c.args.world.now in
    let v = g.W.Events.face c.execute.new.self in
    let line = c.in-Some-Give.line in
    let after : List Order = map seen_order (option_to_list c.take.new.self ++ c.look.new.rest.items) in
    let next = first-next c.args.script.now.orders c.script.inside.next c.look.new.next c.take.new.self c.script.inside.rest.items c.look.new.rest.items
    (Give line c.in-Some-Give.text) (ap (λ (s : ScriptTask). s.orders) (sym c.script.view_is)) c.look.ensures.kept
    (sym c.take.ensures.value ∙ c.in-Some-Give.is ∙ ap (λ order. Some order) c.in-Some-Give.field-0-is) c.take.ensures.after in
    let given = given_line line c.as_str.result.now in
    let answers : AnswersLine w v given = subst (λ (x : Executed). IsExecuted w v given x) c.in-Ok-Replied.field-0-is c.in-Ok-Replied.ensures.done in
    answered-moves w v c.args.script.now (record { orders = after; is_done = c.script.inside.is_done }) given answers
    (ap (λ (s : ScriptTask). s.is_done) (sym c.script.view_is) ∙ c.if-script.false)
    (next ∙ ap (λ (text : List ℕ). Give line text ∷ after) (sym c.as_str.ensures)) c.if-script.false c.execute.ensures.named

pub returns-in-Ok-Later-clause-comes : goal.returns-in-Ok-Later-clause-comes
returns-in-Ok-Later-clause-comes g c = λ o d first has.
    let w = g.W.Events.face c.args.world.now in
    let v = g.W.Events.face c.execute.new.self in
    let line = c.in-Some-Give.line in
    let text : List ℕ = c.in-Some-Give.text.bytes in
    let after : List Order = map seen_order (option_to_list c.take.new.self ++ c.look.new.rest.items) in
    let next = first-next c.args.script.now.orders c.script.inside.next c.look.new.next c.take.new.self c.script.inside.rest.items c.look.new.rest.items
    (Give line c.in-Some-Give.text) (ap (λ (s : ScriptTask). s.orders) (sym c.script.view_is)) c.look.ensures.kept
    (sym c.take.ensures.value ∙ c.in-Some-Give.is ∙ ap (λ order. Some order) c.in-Some-Give.field-0-is) c.take.ensures.after in
    let given = given_line line c.as_str.result.now in
    let done : IsPutOff w v given c.in-Ok-Later.field-0-0 c.in-Ok-Later.field-0-1 =
    subst (λ (x : Executed). IsExecuted w v given x) c.in-Ok-Later.field-0-is c.in-Ok-Later.ensures.done in
    let off = put-off-by w v c.args.script.now.orders line c.in-Ok-Later.field-0-0 c.in-Ok-Later.field-0-1 text after given
    (ap (given_line line) c.as_str.ensures) next done in
    subst (HasCome o d first v)
    (next ∙ ap (λ (n : Option (OrderOf Written)). Give line text ∷ map seen_order (option_to_list n ++ c.look.new.rest.items)) c.take.ensures.after)
    (come-put-off o d first w v c.args.script.now.orders has (c.execute.ensures.comes o) off)

pub returns-in-None-reach-clause-comes : goal.returns-in-None-reach-clause-comes
returns-in-None-reach-clause-comes g c = λ o d first has.
    let w = g.W.Events.face c.args.world.now in
    let next = first-next c.args.script.now.orders c.script.inside.next c.look.new.next c.take.new.self c.script.inside.rest.items c.look.new.rest.items
    (Watch c.in-Some-Watch.line c.in-Some-Watch.what) (ap (λ (s : ScriptTask). s.orders) (sym c.script.view_is)) c.look.ensures.kept
    (sym c.take.ensures.value ∙ c.in-Some-Watch.is ∙ ap (λ order. Some order) c.in-Some-Watch.field-0-is) c.take.ensures.after in
    come-reached o d first w (g.W.Events.face c.reach.new.self) c.args.script.now.orders has (c.reach.ensures.comes o) c.in-Some-Watch.line (seen_await c.in-Some-Watch.what) _ next
    (script-open (g.W.Events.face c.args.world.now) _ c.args.script.now c.requires.task c.script.view_is c.if-script.false) (c.in-None-reach.ensures.met.0 refl)
    (c.reach.ensures.kept ∙ ap (λ (b : Bool). after_wait w c.in-Some-Watch.line (seen_await c.in-Some-Watch.what) b) (ap (λ r. is_none r) c.in-None-reach.is))

pub returns-in-Err-clause-stop : goal.returns-in-Err-clause-stop
returns-in-Err-clause-stop g c =
    let next = first-next c.args.script.now.orders c.script.inside.next c.look.new.next c.take.new.self c.script.inside.rest.items c.look.new.rest.items
    (Give c.in-Some-Give.line c.in-Some-Give.text) (ap (λ (s : ScriptTask). s.orders) (sym c.script.view_is)) c.look.ensures.kept
    (sym c.take.ensures.value ∙ c.in-Some-Give.is ∙ ap (λ order. Some order) c.in-Some-Give.field-0-is) c.take.ensures.after in
    record {
      by = undone-by (g.W.Events.face c.args.world.now) (g.W.Events.face c.execute.new.self) c.args.script.now.orders
          (map seen_order (option_to_list c.take.new.self ++ c.look.new.rest.items)) c.in-Some-Give.line c.in-Some-Give.text.bytes c.as_str.result.now next c.as_str.ensures
          c.in-Err.ensures.back_in;
      comes = c.execute.ensures.comes;
    }
