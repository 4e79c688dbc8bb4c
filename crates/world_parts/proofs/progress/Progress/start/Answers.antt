use Rattle.std.proofs.Common.{[], ◌∷◌, ◌≡◌, refl, ap, arith}
use Rattle.blk_base.specs.declared.memory.Room.{Room}
use Rattle.blk_history.specs.declared.event.Event.{Event}
use Rattle.blk_history.specs.declared.event.Event.TheVariants.{Start}
use Rattle.std.proofs.lemmas.List.{length-append}
use Rattle.world_parts.specs.Progress.{Progress}
use Rattle.world_parts.proofs.InStep.{in-step-job}
use Rattle.world_parts.proofs.Rows.{guests-append}
use Rattle.world_parts.proofs.progress.Progress.start.Goals as goal

pub invariant_of-self : goal.invariant_of-self
invariant_of-self c =
    let room = c.requires.room in
    let few = c.requires.few in
    let viewed : c.self.inside.spare.entries ≡ c.args.self.now.spare.entries = ap (λ (p : Progress). p.spare.entries) c.self.view_is in
    let aside : c.self.inside.aside ≡ c.args.self.now.aside = ap (λ (p : Progress). p.aside) c.self.view_is in
    let longer = length-append c.self.inside.jobs.items (c.args.name ∷ []) in
    let entries = ap (λ (r : Room). r.entries) c.less-spare.ensures in
    let bytes = ap (λ (r : Room). r.bytes) c.less-spare.ensures in
    rw (c.push_reserved.ensures.items, c.push_reserved.ensures.capacity) (in-step-job c.self.inside.history c.note_start.new.history c.self.inside.spare c.less-spare.result _ _ c.self.inside.rows.items
    c.self.inside.script_is_done c.self.inside.lines.items _ (Start c.args.job) c.note_start.ensures refl refl (omega (arith, entries)) (omega (arith, bytes)) (omega arith) (omega (arith, entries)) c.self.invariant)

pub returns : goal.returns
returns c =
    let e : Event = Start c.args.job in
    let stays = guests-append c.self.inside.history.events (e ∷ []) c.self.inside.rows.items c.self.invariant.placed in
    rw (c.note_start.ensures, c.less-spare.ensures, c.push_reserved.ensures.items, stays, ← c.self.view_is) refl
