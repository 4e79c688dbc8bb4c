use Rattle.std.proofs.Common.{rules, ◌≡◌, ◌∷◌, Some, ap, ◌∙◌, sym}
use Rattle.atomic_table.specs.Table.{rest}
use Rattle.blk_lock.proofs.Calls.{taken_out, HasTaken-from}
use Rattle.blk_lock.proofs.turns.Turns.take_world.Goals as goal

pub exchange-requires : goal.exchange-requires
exchange-requires g c =
    let empty = ap (λ m. m.1) c.draw-ticket.ensures.waits ∙ c.requires.rest.1 in
    let taken = c.watch.ensures.taken in
    let hand = taken.in_hand ∙ ap (λ l. (0, Some taken.world) ∷ l) empty in
    (search rules, (Some taken.world, hand ∙ ap (λ l. (0, Some taken.world) ∷ rest l) (sym hand)))

pub unreachable-requires : goal.unreachable-requires
unreachable-requires g c =
    let empty = ap (λ m. m.1) c.draw-ticket.ensures.waits ∙ c.requires.rest.1 in
    let taken = c.watch.ensures.taken in
    let hand = taken.in_hand ∙ ap (λ l. (0, Some taken.world) ∷ l) empty in
    c.in_default.not-Some taken.world (taken_out _ _ _ hand c.exchange.ensures.2)

pub returns-clause-taken : goal.returns-clause-taken
returns-clause-taken g c =
    let empty = ap (λ m. m.1) c.draw-ticket.ensures.waits ∙ c.requires.rest.1 in
    let taken = c.watch.ensures.taken in
    let hand = taken.in_hand ∙ ap (λ l. (0, Some taken.world) ∷ l) empty in
    let same : Some taken.world ≡ Some c.in-Some.world = sym (taken_out _ _ _ hand c.exchange.ensures.2) ∙ c.in-Some.is in
    (c.draw-ticket.result, HasTaken-from _ _ _ _ _ _ _ _ _ _ _ _ taken.taken c.draw-ticket.ensures.waits (ap (λ m. m.0) c.exchange.ensures.3) (cc))
