-- Commands that start no job, and the query that leaves the table as it is.
use Rattle.std.proofs.Common.{◌≡◌, true, false, Some, None, Ok, Err, refl, sym, ◌∙◌, subst}
use Rattle.std.specs.Prelude.{Option, Result, OnOk, OnErr}
use Rattle.qmp_asks.specs.CommandAsks.{is_built}
use Rattle.qmp_codec.specs.Commands.{Cmd}
use Rattle.qmp_codec.specs.declared.command.Command.TheVariants as command
use Rattle.qmp_rules.specs.Answers.{answer, answer_by, refusal_to, told_none}
use Rattle.qmp_rules.specs.Changes.{all_changed}
use Rattle.qmp_rules.specs.Edits.{edits_of}
use Rattle.qmp_rules.specs.Table.{RunTable}
use Rattle.qmp_rules.specs.declared.refusal.Refusal.{Refusal}
use Rattle.qmp_rules.specs.declared.told.Told.{Told}
use Rattle.world_jobs.specs.Plans.{is_start}
use Rattle.world_parts.specs.Carrying.{prints_counts}
use Rattle.world_parts.proofs.Accepted.{built_accepted}
use Rattle.world_parts.proofs.JobsAnswered.{StartsNoJob}

-- ---- which begin none

starts_none : (t : RunTable) (c : Cmd) → is_start c ≡ false → is_built c ≡ true → StartsNoJob t c
starts_none t (command.Transaction c) other built = absurd cc
starts_none t (command.BlockStream c) other built = absurd cc
starts_none t (command.BlockCommit c) other built = absurd cc
starts_none t (command.BlockdevMirror c) other built = absurd cc
starts_none t (command.BlockdevBackup c) other built = absurd cc
starts_none t _ other built = record { one = tt; none = refl }

pub starts_no_job : (t : RunTable) (told : Told) (c : Cmd) (first : Option Refusal) → is_start c ≡ false → refusal_to t told c ≡ first → first ≡ None → StartsNoJob t c
starts_no_job t told c first other judged none = starts_none t c other (built_accepted t told c (judged ∙ none))

-- ---- the query that prints what is dirty

nothing_by : (t : RunTable) (c : Cmd) (first : Option Refusal) → prints_counts c ≡ true → all_changed t (answer_by t told_none c first).changes ≡ t
unfolding edits_of
nothing_by t (command.QueryNamedBlockNodes flat) None prints = refl
nothing_by t (command.QueryNamedBlockNodes flat) (Some cause) prints = refl
nothing_by t _ first prints = absurd cc

nothing_changed : (t : RunTable) (c : Cmd) → prints_counts c ≡ true → all_changed t (answer t told_none c).changes ≡ t
unfolding answer
nothing_changed t c prints = nothing_by t c (refusal_to t told_none c) prints

-- what is so of the table is so still
pub counts_keep : (P : RunTable → Type 0) (t u : RunTable) (c : Cmd) → prints_counts c ≡ true → {A E : Type 0} (r : Result A E)
    → OnOk r (u ≡ all_changed t (answer t told_none c).changes) → OnErr r (u ≡ t) → P t → P u
counts_keep P t u c prints (Ok a) table kept was = subst P (sym (table ∙ nothing_changed t c prints)) was
counts_keep P t u c prints (Err e) table kept was = subst P (sym kept) was
