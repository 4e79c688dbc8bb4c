-- What holds of tasks and history stays so where a guest makes an entry.
use Rattle.std.proofs.Common.{◌≡◌, ◌≢◌, ◌⊎◌, ℕ, ◌+◌, List, [], ◌∷◌, ◌++◌, length, set, refl, sym, ◌∙◌, ap, arith, Some, inl, inr}
use Rattle.std.specs.Prelude.{slice_get}
use Rattle.std.proofs.Math.ListN.{length-set}
use Rattle.std.proofs.lemmas.List.Elements.{filter_map-append}
use Rattle.qmp_rules.specs.Chains.{is_listed}
use Rattle.blk_history.specs.declared.event.Event.{Event}
use Rattle.blk_history.specs.declared.event.Event.TheVariants.{Admit, Refuse, Piece, Retire, Reply, Reached, Start, Ready, End, Done}
use Rattle.flat_machine.specs.State.{Guest}
use Rattle.flat_machine.specs.Comes.{guest_step}
use Rattle.flat_machine.specs.Machine.{admitted, finished, past_piece}
use Rattle.world_parts.specs.Progress.{Progress, ended_in, answered_in, actor_done}
use Rattle.world_parts.proofs.InStep.{ended-push}
use Rattle.world_parts.proofs.Coherence.{length-change}
use Rattle.qblk_run.specs.Tasks.{Task, ScriptTask, IsTaskIn, IsScriptIn, CanGoOn, AreTasksIn}
use Rattle.qblk_run.specs.Turns.{IsOwnMove, IsMove}
use Rattle.qblk_run.proofs.Lists.{same_or_not, get-set, get-set-other, get-change-other, has-stays, has-own}
use Rattle.qblk_run.proofs.Sums.{entries-set, bytes-set}

-- ---- ends of actors

pub ended-done : (es : List Event) (actor : ℕ) → ended_in (es ++ Done actor ∷ []) ≡ ended_in es ++ actor ∷ []
ended-done es actor = filter_map-append actor_done es (Done actor ∷ [])

-- whether the guest itself is done
own-ended : (es : List Event) (a : List ℕ) (g : ℕ) (before after : Task) (e : Event) → IsOwnMove a g before after e
    → before.is_done ≡ is_listed (g + 1) (ended_in es) → after.is_done ≡ is_listed (g + 1) (ended_in (es ++ e ∷ []))
own-ended es a g before after (Admit n r op) own was = own.1.is_done ∙ was ∙ ap (is_listed (g + 1)) (sym (ended-push es (Admit n r op) refl))
own-ended es a g before after (Refuse n r op why) own was = own.1.is_done ∙ was ∙ ap (is_listed (g + 1)) (sym (ended-push es (Refuse n r op why) refl))
own-ended es a g before after (Piece n r k outcome got) own was = own.1.is_done ∙ was ∙ ap (is_listed (g + 1)) (sym (ended-push es (Piece n r k outcome got) refl))
own-ended es a g before after (Retire n r) own was = own.1.is_done ∙ was ∙ ap (is_listed (g + 1)) (sym (ended-push es (Retire n r) refl))
own-ended es a g before after (Done actor) own was =
    own.1.is_done ∙ sym (rw (ended-done es actor, own.0) (has-own (ended_in es) (g + 1)))
own-ended es a g before after (Reply line given command text) own was = absurd own
own-ended es a g before after (Reached line what) own was = absurd own
own-ended es a g before after (Start job) own was = absurd own
own-ended es a g before after (Ready job) own was = absurd own
own-ended es a g before after (End job outcome offset) own was = absurd own

-- and whether another actor is
other-ended : (es : List Event) (a : List ℕ) (g : ℕ) (before after : Task) (e : Event) (actor : ℕ) → IsOwnMove a g before after e → actor ≢ g + 1
    → is_listed actor (ended_in (es ++ e ∷ [])) ≡ is_listed actor (ended_in es)
other-ended es a g before after (Admit n r op) actor own apart = ap (is_listed actor) (ended-push es (Admit n r op) refl)
other-ended es a g before after (Refuse n r op why) actor own apart = ap (is_listed actor) (ended-push es (Refuse n r op why) refl)
other-ended es a g before after (Piece n r k outcome got) actor own apart = ap (is_listed actor) (ended-push es (Piece n r k outcome got) refl)
other-ended es a g before after (Retire n r) actor own apart = ap (is_listed actor) (ended-push es (Retire n r) refl)
other-ended es a g before after (Done other) actor own apart =
    rw (ended-done es other) (has-stays (ended_in es) actor other (λ same. apart (sym same ∙ own.0)))
other-ended es a g before after (Reply line given command text) actor own apart = absurd own
other-ended es a g before after (Reached line what) actor own apart = absurd own
other-ended es a g before after (Start job) actor own apart = absurd own
other-ended es a g before after (Ready job) actor own apart = absurd own
other-ended es a g before after (End job outcome offset) actor own apart = absurd own

-- ---- rows of guests

pub length-step : (guests : List Guest) (e : Event) → length (guest_step guests e) ≡ length guests
length-step guests (Admit g r op) = length-change g (admitted op) guests
length-step guests (Refuse g r op why) = length-change g finished guests
length-step guests (Piece g r k outcome got) = length-change g (past_piece outcome) guests
length-step guests (Retire g r) = length-change g finished guests
length-step guests (Reply line given command text) = refl
length-step guests (Reached line what) = refl
length-step guests (Start job) = refl
length-step guests (Ready job) = refl
length-step guests (End job outcome offset) = refl
length-step guests (Done actor) = refl

step-other : (guests : List Guest) (a : List ℕ) (g k : ℕ) (before after : Task) (e : Event) → IsOwnMove a g before after e → k ≢ g
    → slice_get (guest_step guests e) k ≡ slice_get guests k
step-other guests a g k before after (Admit n r op) own apart = get-change-other n k (admitted op) guests (λ same. apart (same ∙ own.0))
step-other guests a g k before after (Refuse n r op why) own apart = get-change-other n k finished guests (λ same. apart (same ∙ own.0))
step-other guests a g k before after (Piece n r p outcome got) own apart = get-change-other n k (past_piece outcome) guests (λ same. apart (same ∙ own.0))
step-other guests a g k before after (Retire n r) own apart = get-change-other n k finished guests (λ same. apart (same ∙ own.0))
step-other guests a g k before after (Done actor) own apart = refl
step-other guests a g k before after (Reply line given command text) own apart = absurd own
step-other guests a g k before after (Reached line what) own apart = absurd own
step-other guests a g k before after (Start job) own apart = absurd own
step-other guests a g k before after (Ready job) own apart = absurd own
step-other guests a g k before after (End job outcome offset) own apart = absurd own

-- ---- the tasks

module _ (p q : Progress) (script : ScriptTask) (tasks : List Task) (g : ℕ) (before after : Task) (e : Event)
    (there : slice_get tasks g ≡ Some before) (move : IsMove p q g before after e) where
  tasks-in : AreTasksIn p tasks → AreTasksIn q (set tasks g after)
  tasks-in all k task is = by_place (same_or_not k g)
    where
      here : k ≡ g → IsTaskIn q k task
      here same =
          let now : after ≡ task = get-set tasks g after task (rw same at is) in
          rw (same, ← now) (record {
            row = move.task;
            ended = own-ended p.log.events (answered_in p.log.events) g before after e move.own (all g before there).ended ∙ ap (λ es. is_listed (g + 1) (ended_in es)) (sym move.events);
          })

      elsewhere : k ≢ g → IsTaskIn q k task
      elsewhere apart =
          let was = all k task (sym (get-set-other tasks g k after apart) ∙ is) in
          record {
            row = rw (move.guests, step-other p.guests (answered_in p.log.events) g k before after e move.own apart) was.row;
            ended = was.ended ∙ sym (ap (λ es. is_listed (k + 1) (ended_in es)) move.events
                ∙ other-ended p.log.events (answered_in p.log.events) g before after e (k + 1) move.own (λ same. apart (omega arith)));
          }

      by_place : (k ≡ g) ⊎ (k ≢ g) → IsTaskIn q k task
      by_place (inl same) = here same
      by_place (inr apart) = elsewhere apart

  script-in : IsScriptIn p script → IsScriptIn q script
  script-in was = record {
    ended = was.ended ∙ sym (ap (λ es. is_listed 0 (ended_in es)) move.events
        ∙ other-ended p.log.events (answered_in p.log.events) g before after e 0 move.own (λ same. absurd (omega arith)));
    used = was.used;
  }

  pub move-can : CanGoOn p (record { script = script; guests = tasks }) → CanGoOn q (record { script = script; guests = set tasks g after })
  move-can can =
      let size : length (set tasks g after) ≡ length tasks = length-set tasks g after in
      let few = can.few in
      let entries = entries-set tasks g before after there in
      let bytes = bytes-set tasks g before after there in
      let had_entries = can.entries in
      let had_bytes = can.bytes in
      let more_entries = move.entries in
      let more_bytes = move.bytes in
      record {
        few = omega arith;
        count = size ∙ can.count ∙ sym (length-step p.guests e) ∙ ap length (sym move.guests);
        guests = tasks-in can.guests;
        script = script-in can.script;
        entries = omega arith;
        bytes = omega arith;
      }
