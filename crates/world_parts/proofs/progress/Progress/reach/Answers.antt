use Rattle.world_parts.specs.Progress.{Progress}
use Rattle.trace_codec.specs.Awaits.{seen_await}
use Rattle.blk_history.specs.declared.event.Event.TheVariants.{Reached}
use Rattle.std.proofs.Common.{[], ◌∷◌, ◌≡◌, ◌<◌, refl, ap, arith}
use Rattle.world_parts.proofs.InStep.{in-step-answer}
use Rattle.world_parts.proofs.Rows.{guests-append}
use Rattle.world_parts.proofs.progress.Progress.reach.Goals as goal

pub invariant_of-self : goal.invariant_of-self
invariant_of-self c =
    let has = c.requires in
    let viewed : c.self.inside.spare.entries ≡ c.args.self.now.spare.entries = ap (λ (p : Progress). p.spare.entries) c.self.view_is in
    let spared : 0 < c.self.inside.spare.entries = omega arith in
    rw (c.push_reserved.ensures.items, c.push_reserved.ensures.capacity) (in-step-answer c.self.inside.history c.note_reached.new.history c.self.inside.spare c.less-spare.result c.self.inside.rows.items
    c.self.inside.script_is_done c.self.inside.lines.items _ c.args.line _ c.note_reached.ensures c.less-spare.ensures spared refl refl c.self.invariant)

pub returns : goal.returns
returns c =
    let stays = guests-append c.self.inside.history.events (Reached c.args.line (seen_await c.args.what) ∷ []) c.self.inside.rows.items c.self.invariant.placed in
    rw (c.note_reached.ensures, c.less-spare.ensures, stays, ← c.self.view_is) refl
