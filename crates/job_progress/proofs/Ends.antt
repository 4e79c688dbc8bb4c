-- A job ends, and the others go on.
use Rattle.std.proofs.Common.{◌≡◌, ◌≢◌, ℕ, Bool, true, false, cond, List, [], ◌∷◌, ◌++◌, refl, sym, ap, ◌∙◌, subst, Some}
use Rattle.std.specs.Prelude.{◌==◌, not}
use Rattle.std.specs.List.{Contains, filter}
use Rattle.std.proofs.lemmas.Bool.{eqb-true, ne_eqb}
use Rattle.blk_history.specs.declared.entry.JobEnd.{JobEnd}
use Rattle.blk_history.specs.declared.event.Event.{Event}
use Rattle.blk_history.specs.declared.event.Event.TheVariants.{End}
use Rattle.block_jobs.specs.Work.{JobWork}
use Rattle.qmp_rules.specs.declared.change.Change.{Change}
use Rattle.qmp_rules.specs.declared.rows.JobRecord.{JobRecord}
use Rattle.qmp_rules.specs.Queries.{bytes_of_node}
use Rattle.qmp_rules.specs.Table.{job_at}
use Rattle.flat_machine.specs.Agreement.{Contents}
use Rattle.flat_machine.specs.Begun.{begun_of}
use Rattle.flat_machine.specs.Changed.{stepped, all_stepped}
use Rattle.flat_machine.specs.Jobs.{changes_at_end, ended}
use Rattle.flat_machine.specs.Machine.{after}
use Rattle.flat_machine.specs.Performing.{AllPerformed}
use Rattle.flat_machine.specs.State.{State, Begun, bytes_at_node}
use Rattle.job_tables.specs.Jobs.{JobsStand}
use Rattle.job_works.specs.Works.{without_work}
use Rattle.job_works.proofs.Changed.{gone_else, job_found}
use Rattle.job_progress.specs.Belonging.{AreWorksOf}
use Rattle.job_progress.specs.Going.{AreJobsAhead}
use Rattle.job_progress.specs.Leaving.{AllLeaveCopies}
use Rattle.job_progress.proofs.Belong.{found_there, gone_there, once_of}
use Rattle.job_progress.proofs.Changed.{all_go, begun_stays, rests_by}
use Rattle.job_progress.proofs.Entries.{goes_later}
use Rattle.job_progress.proofs.Goes.{alike_itself, goes}

all_begun : (changes : List Change) (s : State) → (all_stepped s changes).begun ≡ s.begun
all_begun [] s = refl
all_begun (c ∷ changes) s = all_begun changes (stepped s c) ∙ begun_stays s c

-- what another start found stays
begun_kept : (bs : List Begun) (number n : ℕ) → n ≢ number → begun_of (filter (λ b. not (b.job == number)) bs) n ≡ begun_of bs n
begun_kept [] number n differ = refl
begun_kept (b ∷ bs) number n differ = by_test (b.job == number) refl (begun_kept bs number n differ)
  where
    by_test : (c : Bool) → (b.job == number) ≡ c → begun_of (filter (λ x. not (x.job == number)) bs) n ≡ begun_of bs n
        → begun_of (cond (not c) (b ∷ filter (λ x. not (x.job == number)) bs) (filter (λ x. not (x.job == number)) bs)) n ≡ cond (b.job == n) (Some b) (begun_of bs n)
    by_test true e more = let other : (b.job == n) ≡ false = ne_eqb b.job n (λ same. differ (sym same ∙ eqb-true b.job number e)) in rw other more
    by_test false e more = ap (λ rest. cond (b.job == n) (Some b) rest) more

-- the state behind the changes of an end, and without what its start found
record HasEnded (s now : State) (row : JobRecord) (why : JobEnd) : Type 0 where
  table : now.table ≡ (all_stepped s (changes_at_end s row why)).table
  disks : now.disks ≡ (all_stepped s (changes_at_end s row why)).disks
  begun : now.begun ≡ filter (λ b. not (b.job == row.number)) s.begun

has_ended : (s : State) (row : JobRecord) (why : JobEnd) (offset : ℕ) → job_at s.table row.number ≡ Some row → HasEnded s (after s (End row.number why offset)) row why
has_ended s row why offset at =
    subst (λ found. HasEnded s (ended s found why) row why) (sym at) (record { table = refl; disks = refl; begun = refl })

pub ends_leave : (first s : State) (h : List Event) (row : JobRecord) (why : JobEnd) (offset : ℕ) (old new : Contents) (works : List JobWork) → JobsStand s.table
    → AreWorksOf s.table works → job_at s.table row.number ≡ Some row → AllLeaveCopies works s.table (changes_at_end s row why)
    → AllPerformed s (changes_at_end s row why) old new → AreJobsAhead first h s old.reads works
    → AreJobsAhead first (h ++ End row.number why offset ∷ []) (after s (End row.number why offset)) new.reads (without_work row.number works)
ends_leave first s h row why offset old new works j belong at leaves did go other work there copies found going =
    goes first (h ++ End row.number why offset ∷ []) mid (after s (End row.number why offset)) new.reads new.reads other other work (alike_itself other)
    (record {
      begun =
          ap (λ bs. begun_of bs other.number) end.begun
          ∙ begun_kept s.begun row.number other.number differ
          ∙ ap (λ bs. begun_of bs other.number) (sym (all_begun (changes_at_end s row why) s));
      size = ap (λ t. bytes_of_node t other.source) end.table;
      source = rw (bytes_at_node, end.table, end.disks) refl;
      target = λ target is. refl;
    })
    (goes_later first h (End row.number why offset ∷ []) mid new.reads other work
    (go_mid other work (subst (λ t. Contains t.jobs other) end.table there) copies (sym (gone_else row.number other.number differ works) ∙ found) going))
  where
    mid : State
    mid = all_stepped s (changes_at_end s row why)

    end : HasEnded s (after s (End row.number why offset)) row why
    end = has_ended s row why offset at

    go_mid : AreJobsAhead first h mid new.reads works
    go_mid = all_go works first h (changes_at_end s row why) s old new (rests_by works s.table j) leaves did go

    differ : other.number ≢ row.number
    differ same =
        let w_there = found_there (without_work row.number works) other.number work found in
        (gone_there row.number works work (once_of works belong.once) w_there).1
        (job_found (without_work row.number works) other.number work found ∙ same)
