-- What all tasks need, after one of them has changed.
use Rattle.std.proofs.Common.{◌≡◌, ℕ, zero, suc, ◌+◌, ◌≤◌, List, [], ◌∷◌, set, arith, Some}
use Rattle.std.specs.Prelude.{slice_get}
use Rattle.qblk_inputs.specs.Room.{bytes_for}
use Rattle.qblk_run.specs.Tasks.{Task, entries_to_come, entries_of_all, bytes_of_all, steps_of, steps_of_all}

pub entries-set : (tasks : List Task) (g : ℕ) (before after : Task) → slice_get tasks g ≡ Some before
    → entries_of_all (set tasks g after) + entries_to_come before ≡ entries_of_all tasks + entries_to_come after
entries-set [] g before after is = absurd (let bad : ⊥ = cc is in bad)
entries-set (task ∷ tasks) zero before after is = let same : task ≡ before = cc is in rw same (omega arith)
entries-set (task ∷ tasks) (suc g) before after is = let rest = entries-set tasks g before after is in omega arith

pub bytes-set : (tasks : List Task) (g : ℕ) (before after : Task) → slice_get tasks g ≡ Some before
    → bytes_of_all (set tasks g after) + bytes_for before.wishes ≡ bytes_of_all tasks + bytes_for after.wishes
bytes-set [] g before after is = absurd (let bad : ⊥ = cc is in bad)
bytes-set (task ∷ tasks) zero before after is = let same : task ≡ before = cc is in rw same (omega arith)
bytes-set (task ∷ tasks) (suc g) before after is = let rest = bytes-set tasks g before after is in omega arith

pub steps-set : (tasks : List Task) (g : ℕ) (before after : Task) → slice_get tasks g ≡ Some before
    → steps_of_all (set tasks g after) + steps_of before ≡ steps_of_all tasks + steps_of after
steps-set [] g before after is = absurd (let bad : ⊥ = cc is in bad)
steps-set (task ∷ tasks) zero before after is = let same : task ≡ before = cc is in rw same (omega arith)
steps-set (task ∷ tasks) (suc g) before after is = let rest = steps-set tasks g before after is in omega arith

-- one of them needs no more than all
pub entries-one : (tasks : List Task) (g : ℕ) (task : Task) → slice_get tasks g ≡ Some task → entries_to_come task ≤ entries_of_all tasks
entries-one [] g task is = absurd (let bad : ⊥ = cc is in bad)
entries-one (x ∷ tasks) zero task is = let same : x ≡ task = cc is in rw same (omega arith)
entries-one (x ∷ tasks) (suc g) task is = let rest = entries-one tasks g task is in omega arith

pub bytes-one : (tasks : List Task) (g : ℕ) (task : Task) → slice_get tasks g ≡ Some task → bytes_for task.wishes ≤ bytes_of_all tasks
bytes-one [] g task is = absurd (let bad : ⊥ = cc is in bad)
bytes-one (x ∷ tasks) zero task is = let same : x ≡ task = cc is in rw same (omega arith)
bytes-one (x ∷ tasks) (suc g) task is = let rest = bytes-one tasks g task is in omega arith
