-- What readiness and the end of a job leave of the table as it is: which guests have a device, and how many jobs began.
use Rattle.std.proofs.Common.{◌≡◌, true, false, List, [], ◌∷◌, refl, ◌∙◌}
use Rattle.std.specs.List.{list_all}
use Rattle.std.proofs.lemmas.Bool.{false≢true}
use Rattle.qmp_rules.specs.Changes.{all_changed, changed}
use Rattle.qmp_rules.specs.Ends.{end_edits, is_of_event, ready_edits}
use Rattle.qmp_rules.specs.Table.{RunTable}
use Rattle.qmp_rules.specs.declared.change.Change.{Change}
use Rattle.qmp_rules.specs.declared.change.Change.TheVariants as change
use Rattle.qmp_rules.specs.declared.change.JobOutcome.{JobOutcome}
use Rattle.qmp_rules.specs.declared.rows.JobRecord.{JobRecord}
use Rattle.qmp_rules.proofs.EndLemmas.{ends_are_events, event_here, events_then}

pub record LeavesGuests (t u : RunTable) : Type 0 where
  pub devices : u.devices ≡ t.devices
  pub guests : u.guests ≡ t.guests
  pub started : u.started ≡ t.started

event-leaves : (t : RunTable) (c : Change) → is_of_event c ≡ true → LeavesGuests t (changed t c)
unfolding changed
event-leaves t (change.ReadyJob number) is = record { devices = refl; guests = refl; started = refl }
event-leaves t (change.EndJob number slot drops) is = record { devices = refl; guests = refl; started = refl }
event-leaves t (change.PullFilter filter) is = record { devices = refl; guests = refl; started = refl }
event-leaves t (change.Move from to but) is = record { devices = refl; guests = refl; started = refl }
event-leaves t (change.Rebase node backing) is = record { devices = refl; guests = refl; started = refl }
event-leaves t (change.Settle node disk) is = record { devices = refl; guests = refl; started = refl }
event-leaves t (change.Unsettle id) is = record { devices = refl; guests = refl; started = refl }
event-leaves t (change.MakeReadOnly id) is = record { devices = refl; guests = refl; started = refl }
event-leaves t _ is = absurd (false≢true is)

events-leave : (changes : List Change) (t : RunTable) → list_all is_of_event changes ≡ true → LeavesGuests t (all_changed t changes)
events-leave [] t all = record { devices = refl; guests = refl; started = refl }
events-leave (c ∷ changes) t all =
    let one = event-leaves t c (event_here c changes all) in
    let rest = events-leave changes (changed t c) (events_then c changes all) in
    record { devices = rest.devices ∙ one.devices; guests = rest.guests ∙ one.guests; started = rest.started ∙ one.started }

pub ready-leaves : (t : RunTable) (row : JobRecord) → LeavesGuests t (all_changed t (ready_edits row))
ready-leaves t row = event-leaves t (change.ReadyJob row.number) refl

pub end-leaves : (t : RunTable) (row : JobRecord) (outcome : JobOutcome) → LeavesGuests t (all_changed t (end_edits t row outcome))
end-leaves t row outcome = events-leave (end_edits t row outcome) t (ends_are_events t row outcome)
