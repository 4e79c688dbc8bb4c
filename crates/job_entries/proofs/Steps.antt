-- The changes of starts and ends, one after another: filters come and go, and parents move, where no file is.
use Rattle.std.proofs.Common.{◌≡◌, ℕ, List, [], ◌∷◌, ◌++◌, sym, subst, append_assoc, Some, None}
use Rattle.std.specs.Prelude.{IsSome}
use Rattle.qmp_rules.specs.declared.change.Change.{Change}
use Rattle.qmp_rules.specs.declared.change.Change.TheVariants as change
use Rattle.qmp_rules.specs.declared.rows.NodeRecord.{NodeRecord}
use Rattle.qmp_rules.specs.Chains.{filter_role}
use Rattle.qmp_rules.specs.Table.{RunTable, node_by_id}
use Rattle.flat_machine.specs.State.{State}
use Rattle.flat_machine.specs.Changed.{stepped, all_stepped}
use Rattle.flat_machine.specs.Imaging.{KeepsImages, AllKeepImages}
use Rattle.job_entries.proofs.Files.{IsNoFile, pull_keeps_images, move_keeps_images, put_keeps_images}

-- a filter that goes
pub record IsPulled (t : RunTable) (filter : ℕ) : Type 0 where
  pub row : NodeRecord
  pub found : node_by_id t filter ≡ Some row
  pub is_filter : IsSome (filter_role row.kind)
  pub none : IsNoFile t filter

-- a new filter over a node
pub record IsPut (t : RunTable) (row : NodeRecord) (node : ℕ) : Type 0 where
  pub fresh : node_by_id t row.id ≡ None
  pub unnamed : row.filename ≡ None
  pub alone : row.made_with ≡ None
  pub none : IsNoFile t node

abbrev pub IsStep : RunTable → Change → Type 0
IsStep t (change.UseFile name) = Unit {0}
IsStep t (change.Unsettle node) = Unit {0}
IsStep t (change.MakeWritable node) = Unit {0}
IsStep t (change.MakeReadOnly node) = Unit {0}
IsStep t (change.Settle node disk) = Unit {0}
IsStep t (change.Rebase node backing) = Unit {0}
IsStep t (change.StartJob row) = Unit {0}
IsStep t (change.EndJob number slot drops) = Unit {0}
IsStep t (change.UseNode slot what node) = Unit {0}
IsStep t (change.PutFilter row node) = IsPut t row node
IsStep t (change.PullFilter filter) = IsPulled t filter
IsStep t (change.Move from to but) = IsNoFile t from
IsStep t c = ⊥

abbrev pub AllSteps : State → List Change → Type 0
AllSteps s [] = Unit {0}
AllSteps s (c ∷ changes) = IsStep s.table c × AllSteps (stepped s c) changes

pub steps-append : (a b : List Change) (s : State) → AllSteps s a → AllSteps (all_stepped s a) b → AllSteps s (a ++ b)
steps-append [] b s h k = k
steps-append (c ∷ a) b s h k = (h.0, steps-append a b (stepped s c) h.1 k)

pub steps-three : (a b c : List Change) (s : State) → AllSteps s a → AllSteps (all_stepped s a) b → AllSteps (all_stepped (all_stepped s a) b) c
    → AllSteps s (a ++ b ++ c)
steps-three a b c s h k l = subst (AllSteps s) (sym (append_assoc a b c)) (steps-append a (b ++ c) s h (steps-append b c (all_stepped s a) k l))

step_keeps : (s : State) (c : Change) → IsStep s.table c → KeepsImages s c
step_keeps s (change.UseFile name) h = tt
step_keeps s (change.Unsettle node) h = tt
step_keeps s (change.MakeWritable node) h = tt
step_keeps s (change.MakeReadOnly node) h = tt
step_keeps s (change.Settle node disk) h = tt
step_keeps s (change.Rebase node backing) h = tt
step_keeps s (change.StartJob row) h = tt
step_keeps s (change.EndJob number slot drops) h = tt
step_keeps s (change.UseNode slot what node) h = tt
step_keeps s (change.PutFilter row node) h = put_keeps_images s.table row node h.fresh h.unnamed h.none
step_keeps s (change.PullFilter filter) h = pull_keeps_images s.table filter h.row h.found h.is_filter h.none
step_keeps s (change.Move from to but) h = move_keeps_images s.table from to but h
step_keeps s c h = absurd h

-- no image gets another file
pub steps_keep : (changes : List Change) (s : State) → AllSteps s changes → AllKeepImages s changes
steps_keep [] s h = tt
steps_keep (c ∷ changes) s h = (step_keeps s c h.0, steps_keep changes (stepped s c) h.1)
