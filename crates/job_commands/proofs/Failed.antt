-- What jobs copy behind a creation of which a call failed.
use Rattle.std.proofs.Common.{◌≡◌, ℕ, List, refl, sym, subst, Some, None}
use Rattle.std.specs.Prelude.{IsSome}
use Rattle.blk_history.specs.declared.event.Event.{Event}
use Rattle.block_jobs.specs.Work.{JobWork}
use Rattle.qmp_codec.specs.declared.command.Command.TheVariants as command
use Rattle.qmp_codec.specs.declared.nodes.BlockdevCreate.{BlockdevCreate}
use Rattle.qmp_codec.specs.declared.nodes.Created.{Created}
use Rattle.qmp_codec.specs.declared.nodes.Created.TheVariants as created
use Rattle.qmp_rules.specs.declared.refusal.Refusal.{Refusal}
use Rattle.qmp_rules.specs.declared.told.Told.{Told}
use Rattle.qmp_rules.specs.Answers.{refusal_to}
use Rattle.qmp_rules.specs.Changes.{all_changed}
use Rattle.qmp_rules.specs.Edits.{spoiled}
use Rattle.qmp_rules.specs.Refusals.{place_of}
use Rattle.qmp_rules.specs.Table.{RunTable}
use Rattle.flat_machine.specs.Agreement.{Contents}
use Rattle.flat_machine.specs.Changed.{all_stepped}
use Rattle.flat_machine.specs.Performing.{AllPerformed}
use Rattle.flat_machine.specs.State.{State}
use Rattle.flat_machine.specs.Wiring.{TableStands}
use Rattle.job_tables.specs.Jobs.{JobsStand}
use Rattle.job_tables.specs.Running.{IsFreeFile, AllLeaveDisks}
use Rattle.job_tables.proofs.Failed.{unmet, spoils_free}
use Rattle.job_progress.specs.Belonging.{AreWorksOf}
use Rattle.job_progress.specs.Going.{AreJobsAhead}
use Rattle.job_progress.specs.Leaving.{AreNoJobs, AllLeaveCopies, AllLeaveRows}
use Rattle.job_progress.proofs.Belong.{changes_belong}
use Rattle.job_progress.proofs.Changed.{rests_by, all_go}
use Rattle.job_commands.proofs.Spared.{lone_file_no_jobs}

module _ (t : RunTable) (h : TableStands t) (j : JobsStand t) where
  names_free : (name : List ℕ) → IsFreeFile t name → AreNoJobs t name
  names_free name free row there named =
      lone_file_no_jobs t h j row there (subst IsSome (sym named) refl) (free row (record { there = there; filename = named }))

  spoiled_leaves : (works : List JobWork) (options : Created (List ℕ)) → AllLeaveDisks t (spoiled t options) → AllLeaveCopies works t (spoiled t options)
  spoiled_leaves works created.Unknown disks = tt
  spoiled_leaves works (created.File c) disks = (names_free c.filename disks.0, tt)
  spoiled_leaves works (created.Qcow2 c) disks = (names_free _ disks.0, tt)

  spoiled_rows : (options : Created (List ℕ)) → AllLeaveRows (spoiled t options)
  spoiled_rows created.Unknown = tt
  spoiled_rows (created.File c) = (tt, tt)
  spoiled_rows (created.Qcow2 c) = (tt, tt)

  module _ (told : Told) (c : BlockdevCreate (List ℕ)) (cause : Refusal) (refused : refusal_to t told (command.BlockdevCreate c) ≡ Some cause)
      (none : place_of cause ≡ None) (works : List JobWork) where
    pub failure_leaves : AllLeaveCopies works t (spoiled t c.options)
    failure_leaves = spoiled_leaves works c.options (spoils_free t told h c cause none (unmet t told c cause none refused) c.options refl).1

    pub failure_belongs : AreWorksOf t works → AreWorksOf (all_changed t (spoiled t c.options)) works
    failure_belongs = changes_belong (spoiled t c.options) t works j failure_leaves (spoiled_rows c.options)

pub failure_goes : (first s : State) (h : List Event) (told : Told) (c : BlockdevCreate (List ℕ)) (cause : Refusal) (old new : Contents) (works : List JobWork)
    → TableStands s.table → JobsStand s.table → refusal_to s.table told (command.BlockdevCreate c) ≡ Some cause → place_of cause ≡ None
    → AllPerformed s (spoiled s.table c.options) old new → AreJobsAhead first h s old.reads works
    → AreJobsAhead first h (all_stepped s (spoiled s.table c.options)) new.reads works
failure_goes first s h told c cause old new works stands j refused none did go =
    all_go works first h (spoiled s.table c.options) s old new (rests_by works s.table j) (failure_leaves s.table stands j told c cause refused none works) did go
