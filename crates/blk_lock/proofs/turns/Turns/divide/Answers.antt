use Rattle.std.proofs.Common.{ℕ, Option, sym, subst, rules}
use Rattle.atomic_table.specs.Table.{Splits}
use Rattle.blk_base.specs.declared.memory.Room.{Room}
use Rattle.blk_lock.specs.Order.{InOrder}
use Rattle.blk_lock.specs.Plays.{split_known, fresh_known}
use Rattle.blk_lock.proofs.Splits.{splits}
use Rattle.blk_lock.proofs.turns.Turns.divide.Goals as goal

pub split_seat-requires : goal.split_seat-requires
split_seat-requires g c =
    let l = g.W.Logged in let r = c.requires in let key = c.args.self.now.table.shared.key in let seat = c.args.seat.now in (
      search rules,
      search rules,
      subst
          (λ (z : Room × Option ℕ). Splits (InOrder l.history l.actor l.spare l.comes key.1.opening (l.spare key.0.value)) seat.id seat.me.0 (split_known z.0 z.1 seat.me.0) (fresh_known z.0 z.1 seat.me.0))
          (λ i. (sym r.picked.0 i, sym r.picked.1 i))
          (splits l.history l.actor l.spare l.comes key.1.opening (l.spare key.0.value) seat.id seat.me.0 c.args.room c.args.actor r.rest.0 r.shares r.room r.actor),
    )
