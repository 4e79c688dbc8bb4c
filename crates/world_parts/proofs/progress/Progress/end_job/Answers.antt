use Rattle.std.proofs.Common.{[], ◌∷◌, ◌≡◌, refl, ap, arith}
use Rattle.blk_history.specs.declared.event.Event.{Event}
use Rattle.blk_history.specs.declared.event.Event.TheVariants.{End}
use Rattle.world_parts.specs.Progress.{Progress}
use Rattle.world_parts.proofs.InStep.{in-step-job}
use Rattle.world_parts.proofs.Rows.{guests-append}
use Rattle.world_parts.proofs.progress.Progress.end_job.Goals as goal

pub invariant_of-self : goal.invariant_of-self
invariant_of-self c =
    let some = c.requires.some in
    let room = c.requires.room in
    let few = c.self.invariant.few in
    let aside : c.self.inside.aside ≡ c.args.self.now.aside = ap (λ (p : Progress). p.aside) c.self.view_is in
    in-step-job c.self.inside.history c.note_end.new.history c.self.inside.spare _ _ _ c.self.inside.rows.items
    c.self.inside.script_is_done c.self.inside.lines.items _ (End c.args.job c.args.outcome c.args.offset) c.note_end.ensures refl refl (omega arith) refl (omega arith) (omega arith) c.self.invariant

pub returns : goal.returns
returns c =
    let e : Event = End c.args.job c.args.outcome c.args.offset in
    let stays = guests-append c.self.inside.history.events (e ∷ []) c.self.inside.rows.items c.self.invariant.placed in
    rw (c.note_end.ensures, stays, ← c.self.view_is) refl
