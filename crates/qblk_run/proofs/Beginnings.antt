-- At the beginning the actors can go on, and script and traces are whole.
use Rattle.std.proofs.Common.{◌≡◌, ℕ, zero, suc, ◌+◌, ◌<◌, ◌^◌, false, List, [], ◌∷◌, length, map, replicate, refl, sym, ◌∙◌, subst, arith, Some}
use Rattle.std.specs.Prelude.{slice_get}
use Rattle.std.proofs.lemmas.List.{length-map, length-replicate}
use Rattle.blk_base.specs.declared.memory.Room.{Room}
use Rattle.trace_codec.specs.declared.wish.Wish.{Wish}
use Rattle.trace_codec.specs.Script.{Order}
use Rattle.blk_history.specs.Fold.{With}
use Rattle.flat_machine.specs.State.{Guest}
use Rattle.flat_machine.specs.Opening.{new_guest}
use Rattle.flat_machine.specs.Courses.{past_waits}
use Rattle.world_parts.specs.Progress.{Progress, no_progress}
use Rattle.qblk_inputs.specs.Room.{IsRoomFor, AllCanCount, entries_for_all, bytes_for_all}
use Rattle.qblk_run.specs.Beginning.{new_task, new_tasks}
use Rattle.qblk_run.specs.Tasks.{Task, CanGoOn, KeepsTo, IsTaskOf, entries_of_all, bytes_of_all}

entries-start : (traces : List (List Wish)) → entries_of_all (map new_task traces) ≡ entries_for_all traces
entries-start [] = refl
entries-start (wishes ∷ traces) = let rest = entries-start traces in omega arith

bytes-start : (traces : List (List Wish)) → bytes_of_all (map new_task traces) ≡ bytes_for_all traces
bytes-start [] = refl
bytes-start (wishes ∷ traces) = let rest = bytes-start traces in omega arith

tasks-start : (p : Progress) (traces : List (List Wish)) (guests : List Guest) (n : ℕ) → guests ≡ replicate (length traces) new_guest → AllCanCount traces
    → (g : ℕ) (task : Task) → slice_get (map new_task traces) g ≡ Some task → With (slice_get guests g) (λ row. IsTaskOf row task)
tasks-start p [] guests n is count g task there = absurd (let bad : ⊥ = cc there in bad)
tasks-start p (wishes ∷ traces) guests n is count zero task there =
    let same : new_task wishes ≡ task = some-same there in
    let requests = count.0.requests in
    rw (is, ← same) (record { flying = tt; count = omega arith; numbers = count.0.pieces; used = λ bad. let no : ⊥ = cc bad in absurd no })
  where
    some-same : {a b : Task} → Some a ≡ Some b → a ≡ b
    some-same e = cc
tasks-start p (wishes ∷ traces) guests n is count (suc g) task there =
    subst (λ (rows : List Guest). With (slice_get rows (suc g)) (λ row. IsTaskOf row task)) (sym is)
    (tasks-start p traces (replicate (length traces) new_guest) n refl count.1 g task there)

pub start-can : (script : List Order) (traces : List (List Wish)) (room : Room) → length traces + 1 < 2 ^ 32 → IsRoomFor (length script) traces room
    → CanGoOn (no_progress (length traces) room) (new_tasks script traces)
start-can script traces room few is =
    let size : length (map new_task traces) ≡ length traces = length-map traces new_task in
    let entries = entries-start traces in
    let bytes = bytes-start traces in
    let had_entries = is.entries in
    let had_bytes = is.bytes in
    record {
      few = omega arith;
      count = size ∙ sym (length-replicate (length traces) new_guest);
      guests = λ g task there. record {
        row = tasks-start (no_progress (length traces) room) traces (replicate (length traces) new_guest) 0 refl is.numbers g task there;
        ended = none-done traces g task there;
      };
      script = record { ended = refl; used = λ bad. let no : ⊥ = cc bad in absurd no };
      entries = omega arith;
      bytes = omega arith;
    }
  where
    none-done : (traces : List (List Wish)) (g : ℕ) (task : Task) → slice_get (map new_task traces) g ≡ Some task → task.is_done ≡ false
    none-done [] g task there = absurd (let bad : ⊥ = cc there in bad)
    none-done (wishes ∷ traces) zero task there = let same : new_task wishes ≡ task = some-same there in rw (← same) refl
      where
        some-same : {a b : Task} → Some a ≡ Some b → a ≡ b
        some-same e = cc
    none-done (wishes ∷ traces) (suc g) task there = none-done traces g task there

pub start-keeps : (script : List Order) (traces : List (List Wish)) → KeepsTo script traces [] (new_tasks script traces)
start-keeps script traces = record {
  order = tt;
  rests = record {
    script = refl;
    count = sym (length-map traces new_task);
    traces = rests traces;
  };
}
  where
    rests : (ts : List (List Wish)) (g : ℕ) (task : Task) → slice_get (map new_task ts) g ≡ Some task
        → With (slice_get ts g) (λ wishes. past_waits [] wishes ≡ past_waits [] task.wishes)
    rests [] g task there = absurd (let bad : ⊥ = cc there in bad)
    rests (wishes ∷ ts) zero task there = let same : new_task wishes ≡ task = some-same there in rw (← same) refl
      where
        some-same : {a b : Task} → Some a ≡ Some b → a ≡ b
        some-same e = cc
    rests (wishes ∷ ts) (suc g) task there = rests ts g task there
