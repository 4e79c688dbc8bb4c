use Rattle.std.proofs.Common.{rules, [], ◌∷◌, None, ap, ◌∙◌, sym}
use Rattle.atomic_table.specs.Table.{rest}
use Rattle.blk_lock.specs.declared.known.Stage.TheVariants.{Rest}
use Rattle.blk_lock.proofs.Calls.{taken_out, handed, counted_as, counted_named, MayPut, counts_held, serves_held}
use Rattle.blk_lock.proofs.turns.Turns.put_world.Goals as goal

pub exchange-emptied-requires : goal.exchange-emptied-requires
exchange-emptied-requires g c = let hand = c.requires.in_hand in (search rules, (None, hand ∙ ap (λ l. (0, None) ∷ rest l) (sym hand)))

pub unreachable-requires : goal.unreachable-requires
unreachable-requires g c = c.in_default.not-None (taken_out _ _ _ c.requires.in_hand c.exchange-emptied.ensures.2)

pub store-requires : goal.store-requires
store-requires g c =
    let l = g.W.Logged in let r = c.requires in
    let may : MayPut l.history l.actor l.spare l.comes c.args.seat.now.me.0 c.args.world = record { ticket = r.out.0; out = r.out.1; grown = r.history; opened = r.opened; room = r.room; allowed = r.actors } in
    (search rules, search rules, counts_held _ _ _ _ _ _ _ _ _ _ _ _ may (handed _ _ _ r.in_hand c.exchange-emptied.ensures.3) c.entries-entries.ensures)

pub fetch_add-requires : goal.fetch_add-requires
fetch_add-requires g c =
    let l = g.W.Logged in let r = c.requires in
    let may : MayPut l.history l.actor l.spare l.comes c.args.seat.now.me.0 c.args.world = record { ticket = r.out.0; out = r.out.1; grown = r.history; opened = r.opened; room = r.room; allowed = r.actors } in
    let hand = handed _ _ _ r.in_hand c.exchange-emptied.ensures.3 in
    (search rules, search rules, serves_held _ _ _ _ _ _ _ _ _ _ _ may (counted_as l.history l.spare _ _ _ _ hand c.store.ensures.2))

pub returns-clause-put : goal.returns-clause-put
returns-clause-put g c =
    let l = g.W.Logged in
    let hand = handed _ _ _ c.requires.in_hand c.exchange-emptied.ensures.3 in
    let after = counted_as l.history l.spare _ _ _ _ hand c.store.ensures.2 in
    c.fetch_add.ensures.2 ∙ ap (λ m. (record { stage = Rest; view = record m.0.view { turn = None } }, [])) after

pub returns-clause-named : goal.returns-clause-named
returns-clause-named g c = counted_named g.W.Logged.history g.W.Logged.spare _ _ _ _ (handed _ _ _ c.requires.in_hand c.exchange-emptied.ensures.3) c.store.ensures.2
