use Rattle.std.proofs.Common.{◌≡◌, ◌+◌, ℕ, List, sym, subst}
use Rattle.std.specs.Prelude.{MatchOption, length}
use Rattle.qblk_run.specs.Run.{seen_waits}
use Rattle.qblk_run.specs.Tasks.{Task, Tasks}
use Rattle.qblk_run.specs.Rounds.{GuestsRest, AllRest, AllAreDone, AreDone, IsFirstUndone, IsFirstGuest}
use Rattle.qblk_run.proofs.Firsts.{first-behind}
use Rattle.qblk_run.proofs.stuck.first_waiting.Goals as goal

pub returns : goal.returns
returns c = λ w rest.
    let inside = subst (AllRest w) (sym c.actors.view_is) rest in
    let found = c.first_guest.ensures w (subst (λ (ts : List Task). GuestsRest w (length ts) ts) (sym c.as_slice.ensures.value) inside.guests) in
    let behind = subst (λ (ts : List Task). MatchOption c.first_guest.result (AllAreDone ts) (λ r. (n : ℕ) × (r.0 ≡ n + 1) × IsFirstGuest w ts n (seen_waits r.1))) c.as_slice.ensures.value found in
    subst (λ (a : Tasks). MatchOption c.first_guest.result (AreDone a) (λ r. IsFirstUndone w a r.0 (seen_waits r.1))) c.actors.view_is
    (first-behind w _ c.first_guest.result (c.in-None.ensures w inside.script) behind)
