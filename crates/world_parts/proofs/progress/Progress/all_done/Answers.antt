use Rattle.std.proofs.Common.{sym, ◌∙◌}
use Rattle.std.proofs.lemmas.List.{length-map}
use Rattle.world_parts.specs.Progress.{ended_in, guest_in}
use Rattle.world_parts.proofs.Ends.{all-done}
use Rattle.world_parts.proofs.progress.Progress.all_done.Goals as goal

pub returns-then-self : goal.returns-then-self
returns-then-self c =
    let count = length-map c.self.inside.rows.items (guest_in c.self.inside.history.events) in
    rw (← c.self.view_is, c.all_marked.ensures, c.as_slice.ensures.value) (all-done (ended_in c.self.inside.history.events) c.self.inside.rows.items _ count (sym c.if-self.true ∙ c.self.invariant.script) c.self.invariant.guests)
