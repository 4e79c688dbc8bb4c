-- What a split leaves and gives is enough for the actors, and what they have done stands after the join.
use Rattle.std.proofs.Common.{◌≡◌, ◌≢◌, ℕ, suc, ◌+◌, ◌-◌, ◌*◌, ◌<◌, ◌≤◌, true, List, [], ◌∷◌, ◌++◌, Some, None, refl, sym, ap, ◌∙◌, subst, arith, suc-mul, eq-eqb}
use mathlib.Core.Logic.{dite}
use native.Mathlib.Decide.{ℕ_discrete}
use Rattle.blk_base.specs.declared.memory.Room.{Room}
use Rattle.blk_lock.specs.declared.known.View.{View}
use Rattle.blk_lock.specs.Stamps.{has_actor, made_by_actor, OthersAdd}
use Rattle.blk_lock.specs.Plays.{after_split, split_off, after_join}
use Rattle.blk_lock.proofs.Tests.{has_actor-left, has_actor-right, or_left}
use Rattle.blk_lock.proofs.Callers.{done_by_others, kept_without}
use Rattle.lock_probe.specs.declared.register.RegisterWrite.{RegisterWrite}
use Rattle.lock_probe.specs.declared.register.InitialValue.{InitialValue}
use Rattle.lock_probe.specs.Replay.{actor_of, script}
use Rattle.lock_probe.specs.Runs.{MayRun, HasRun, MayWrite, HasWritten}

abbrev pub V : Type 0
V = View RegisterWrite InitialValue

abbrev turns_of_one : ℕ → Room
turns_of_one rounds = record { entries = rounds; bytes = 0 }

one_fewer : (count rounds : ℕ) → 0 < count → (count - 1) * rounds + rounds ≡ count * rounds
one_fewer count rounds some = let k : suc (count - 1) ≡ count = omega arith in sym (suc-mul (count - 1) rounds) ∙ ap (λ n. n * rounds) k

-- the other actors may run on what a split leaves
pub rest_may_run : (v : V) (first count rounds : ℕ) → 0 < count → MayRun v first count rounds → MayRun (after_split (turns_of_one rounds) (Some first) v) (first + 1) (count - 1) rounds
rest_may_run v first count rounds some may =
    let shares = may.shares in let room = may.room in let fits = may.fits in record {
      free = may.free;
      shares = omega arith;
      room = (let all = one_fewer count rounds some in let many : ℕ = (count - 1) * rounds in let every : ℕ = count * rounds in let sum : many + rounds ≡ every = all in let r : every ≤ v.room.entries = room in let goal : many ≤ v.room.entries - rounds = omega arith in goal);
      fits = omega arith;
      actors = λ a low high. (let ne : a ≢ first = (λ e. absurd (omega arith)) in kept_without v.actors first a ne (may.actors a (omega arith) (omega arith)));
    }

has_itself : (a : ℕ) → has_actor (a ∷ []) a ≡ true
has_itself a = or_left _ _ (eq-eqb a a refl)

-- the first actor may write on what it gives
pub first_may_write : (v : V) (first rounds : ℕ) → v.turn ≡ None → MayWrite (split_off (turns_of_one rounds) (Some first) v) first rounds
first_may_write v first rounds free = record { free = free; room = omega arith; actor_held = has_itself first }

-- and what both have done is what all were to do
pub all_have_run : (v w u n : V) (first count rounds : ℕ) → 0 < count → MayRun v first count rounds
    → HasRun (after_split (turns_of_one rounds) (Some first) v) w (first + 1) (count - 1) rounds → HasWritten (split_off (turns_of_one rounds) (Some first) v) u first rounds
    → n ≡ after_join w u → OthersAdd actor_of w.names w.actors w.seen n.seen → OthersAdd actor_of u.names u.actors u.seen n.seen → HasRun v n first count rounds
all_have_run v w u n first count rounds some may run written is on on_other =
    let one : u.actors ≡ first ∷ [] = ap (λ (x : V). x.actors) written.same in
    let mine : has_actor u.actors first ≡ true = subst (λ (l : List ℕ). has_actor l first ≡ true) (sym one) (has_itself first) in
    let actors : n.actors ≡ w.actors ++ u.actors = ap (λ (x : V). x.actors) is in record {
      free = ap (λ (x : V). x.turn) is ∙ run.free;
      shares = (let a = ap (λ (x : V). x.shares) is in let b = run.shares in let c = ap (λ (x : V). x.shares) written.same in let d = may.shares in omega arith);
      actors = λ a held. subst (λ (l : List ℕ). has_actor l a ≡ true) (sym actors) (dite (ℕ_discrete a first)
          (λ e. has_actor-right w.actors u.actors a (subst (λ (x : ℕ). has_actor u.actors x ≡ true) (sym e) mine))
          (λ ne. has_actor-left w.actors u.actors a (run.actors a (kept_without v.actors first a ne held))));
      own = λ a low high. dite (ℕ_discrete a first)
          (λ e. subst (λ (x : ℕ). made_by_actor actor_of x n.seen ≡ made_by_actor actor_of x v.seen ++ script x rounds) (sym e) (done_by_others actor_of u.names u.actors first u.seen n.seen on_other mine ∙ written.own))
          (λ ne. done_by_others actor_of w.names w.actors a w.seen n.seen on (run.actors a (kept_without v.actors first a ne (may.actors a low high))) ∙ run.own a (omega arith) (omega arith));
    }
