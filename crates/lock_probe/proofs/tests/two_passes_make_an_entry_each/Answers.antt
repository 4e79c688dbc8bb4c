-- The first pass gave actor 1 away, and has actor 0.
use Rattle.std.proofs.Common.{◌≡◌, List, ℕ, ap, ◌∙◌, subst, sym, true, Some, refl}
use Rattle.std.specs.Result.{IfOk}
use Rattle.blk_lock.specs.Stamps.{has_actor}
use Rattle.blk_lock.specs.Plays.{without}
use Rattle.blk_lock.specs.Views.{view}
use Rattle.lock_probe.specs.Runs.{IsFirstPass}
use Rattle.lock_probe.proofs.tests.two_passes_make_an_entry_each.Goals as goal

pub exchange-a-requires-clause-actor : goal.exchange-a-requires-clause-actor
exchange-a-requires-clause-actor g c =
    let first = subst (λ r. IfOk r (λ t. IsFirstPass 7 2 (view t.1))) c.expect-turns.ensures c.open.ensures.pass in
    let actors = ap (λ v. v.actors) c.front.ensures.pass ∙ ap (λ v. v.actors) c.split-second.ensures.kept ∙ ap (λ v. without v.actors (Some 1)) first.is in
    subst (λ (l : List ℕ). has_actor l 0 ≡ true) (sym actors) refl
