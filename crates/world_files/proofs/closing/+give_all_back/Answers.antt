use Rattle.std.proofs.Common.{rules, ◌≡◌, ◌-◌, List, length, ap, subst, arith}
use Rattle.blk_nodes.specs.Nodes.{DeviceSeen}
use Rattle.world_parts.specs.Coherent.{AreHeld}
use Rattle.world_files.proofs.CloseLemmas.{out-of-held, held-back}
use Rattle.world_files.proofs.closing.+give_all_back.Goals as goal

pub give_back-first-requires : goal.give_back-first-requires
give_back-first-requires g t c =
    out-of-held c.args.names.now.table _ c.next.new.self c.args.store.now.opened
    (subst (λ (ds : List DeviceSeen). AreHeld c.args.names.now.table ds c.args.store.now.opened) c.in-Some.ensures c.requires.held)

pub give_all_back-later-requires : goal.give_all_back-later-requires
give_all_back-later-requires g t c κs within =
    let before = subst (λ (ds : List DeviceSeen). AreHeld c.args.names.now.table ds c.args.store.now.opened) c.in-Some.ensures c.requires.held in
    let held : AreHeld c.args.names.now.table c.next.new.self c.give_back-first.new.store.opened =
    held-back c.args.names.now.table _ c.next.new.self _ _ c.give_back-first.result c.give_back-first.ensures.back before in
    let one = ap (λ (ds : List DeviceSeen). length ds) c.in-Some.ensures in
    let fewer : c.args.count - 1 ≡ length c.next.new.self = omega (arith, one, c.requires.count, c.if-count-eq0.false) in
    search rules
