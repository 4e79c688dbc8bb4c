use Rattle.world_parts.specs.Progress.{Progress}
use Rattle.blk_history.specs.declared.event.Event.TheVariants.{Done}
use Rattle.std.proofs.Common.{[], ◌∷◌, ◌≡◌, ◌<◌, refl, ap, arith}
use Rattle.world_parts.proofs.InStep.{in-step-done}
use Rattle.world_parts.proofs.Rows.{guests-append}
use Rattle.world_parts.proofs.progress.Progress.finish.Goals as goal

pub invariant_of-self : goal.invariant_of-self
invariant_of-self c =
    let has = c.requires.room in
    let viewed : c.self.inside.spare.entries ≡ c.args.self.now.spare.entries = ap (λ (p : Progress). p.spare.entries) c.self.view_is in
    let spared : 0 < c.self.inside.spare.entries = omega arith in
    in-step-done c.self.inside.history c.note_done.new.history c.self.inside.spare c.less-spare.result c.self.inside.rows.items c.mark_done.new.rows.items
    c.self.inside.script_is_done c.mark_done.new.script c.self.inside.lines.items _ c.args.actor c.note_done.ensures c.less-spare.ensures spared
    c.mark_done.ensures.script c.mark_done.ensures.guests c.mark_done.ensures.placed c.mark_done.ensures.kept c.self.invariant

pub returns : goal.returns
returns c =
    let same = c.mark_done.ensures.kept (c.note_done.new.history.events) in
    let stays = guests-append c.self.inside.history.events (Done c.args.actor ∷ []) c.self.inside.rows.items c.self.invariant.placed in
    rw (same, c.note_done.ensures, c.less-spare.ensures, stays, ← c.self.view_is) refl
