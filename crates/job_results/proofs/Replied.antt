-- The start of a job stands behind a reply, with none but starts between.
use Rattle.std.proofs.Common.{◌≡◌, ℕ, ◌<◌, List, [], ◌∷◌, ◌++◌, refl, sym, ◌∙◌, ap, subst, arith, Option, Some, None}
use Rattle.std.proofs.lemmas.List.{append_assoc, append-nil}
use Rattle.blk_history.specs.declared.entry.JobEnd.{JobEnd}
use Rattle.blk_history.specs.declared.event.Event.{Event}
use Rattle.blk_history.specs.declared.event.Event.TheVariants.{Admit, Refuse, Piece, Retire, Reply, Reached, Start, Ready, End, Done}
use Rattle.qmp_rules.specs.declared.change.Change.{Change}
use Rattle.qmp_rules.specs.declared.change.Change.TheVariants as change
use Rattle.qmp_rules.specs.declared.change.JobOutcome.{JobOutcome}
use Rattle.qmp_rules.specs.declared.rows.JobRecord.{JobRecord}
use Rattle.qmp_rules.specs.Chains.{disk_node}
use Rattle.qmp_rules.specs.Changes.{all_changed, changed}
use Rattle.qmp_rules.specs.Ends.{ready_edits}
use Rattle.qmp_rules.specs.Table.{RunTable, job_at}
use Rattle.flat_machine.specs.Changed.{all_stepped}
use Rattle.flat_machine.specs.Jobs.{changes_at_end, ended, noted_end, outcome_of, readied_by}
use Rattle.flat_machine.specs.Legal.{Fits, Legal}
use Rattle.flat_machine.specs.Machine.{after, replay}
use Rattle.flat_machine.specs.Opening.{start}
use Rattle.flat_machine.specs.State.{State, bytes_at_node, bytes_in}
use Rattle.flat_machine.specs.declared.opening.Opening.{Opening}
use Rattle.flat_machine.proofs.Resting.{stepped_table}
use Rattle.job_entries.proofs.Found.{steps_note}
use Rattle.job_entries.proofs.Noted.{started_disks, started_table}
use Rattle.job_ends.proofs.Rows.{AreOfEnd, IsOfEnd, end_head, end_parts, end_tail, tail_of_end}
use Rattle.job_results.specs.Starts.{AreStarts, EndsByReply, IsStart, StartOf}
use Rattle.job_results.proofs.Entries.{StaysSo, entry_stays}
use Rattle.job_results.proofs.Results.{each_parts}

-- ---- starts

starts_push : (es : List Event) (job : ℕ) → AreStarts es → AreStarts (es ++ Start job ∷ [])
starts_push [] job only = (tt, tt)
starts_push (e ∷ es) job only = (only.0, starts_push es job only.1)

start_table : (s : State) (e : Event) → IsStart e → (after s e).table ≡ s.table
start_table s (Start job) is = started_table s (job_at s.table job)
start_table s e is = absurd is

start_disks : (s : State) (e : Event) → IsStart e → (after s e).disks ≡ s.disks
start_disks s (Start job) is = started_disks s (job_at s.table job)
start_disks s e is = absurd is

pub starts_leave : (es : List Event) (s : State) (node : ℕ) → AreStarts es → bytes_at_node (replay s es) node ≡ bytes_at_node s node
starts_leave [] s node only = refl
starts_leave (e ∷ es) s node only =
    starts_leave es (after s e) node only.1
    ∙ ap (λ ds. bytes_in ds (disk_node (after s e).table node)) (start_disks s e only.0)
    ∙ ap (λ (t : RunTable). bytes_in s.disks (disk_node t node)) (start_table s e only.0)

-- ---- how many jobs were begun

of_end_started : (t : RunTable) (c : Change) → IsOfEnd c → (changed t c).started ≡ t.started
unfolding changed
of_end_started t (change.PullFilter filter) h = refl
of_end_started t (change.Move from to but) h = refl
of_end_started t (change.Rebase node backing) h = refl
of_end_started t (change.Settle node disk) h = refl
of_end_started t (change.Unsettle node) h = refl
of_end_started t (change.MakeReadOnly node) h = refl
of_end_started t c h = absurd h

all_of_end_started : (changes : List Change) (t : RunTable) → AreOfEnd changes → (all_changed t changes).started ≡ t.started
all_of_end_started [] t h = refl
all_of_end_started (c ∷ changes) t h = all_of_end_started changes (changed t c) h.1 ∙ of_end_started t c h.0

head_started : (t : RunTable) (row : JobRecord) (o : JobOutcome) → (changed t (end_head row o)).started ≡ t.started
unfolding changed
head_started t row o = refl

end_started : (s : State) (row : JobRecord) (why : JobEnd) → (noted_end s row why).table.started ≡ s.table.started
end_started s row why =
    ap (λ (t : RunTable). t.started) (stepped_table (changes_at_end s row why) s)
    ∙ ap (λ (changes : List Change). (all_changed s.table changes).started) (end_parts row s.table (outcome_of why))
    ∙ all_of_end_started (end_tail row s.table (outcome_of why)) (changed s.table (end_head row (outcome_of why))) (tail_of_end row s.table (outcome_of why))
    ∙ head_started s.table row (outcome_of why)

ready_started : (t : RunTable) (row : JobRecord) → (all_changed t (ready_edits row)).started ≡ t.started
unfolding changed
ready_started t row = refl

-- ---- each entry

-- while a start is to come, the history ends by a reply
abbrev Awaits : List Event → State → Type 0
Awaits h s = s.starts < s.table.started → EndsByReply h

module _ (h : List Event) (s : State) where
  -- no start is to come behind an entry at rest that begins no job
  none : (now : State) (e : Event) → s.starts ≡ s.table.started → now.starts ≡ s.starts → now.table.started ≡ s.table.started → Awaits (h ++ e ∷ []) now
  none now e rest starts started less = absurd (omega (arith, rest, starts, started, less))

  other : (e : Event) → s.starts ≡ s.table.started → StaysSo s (after s e) → Awaits (h ++ e ∷ []) (after s e)
  other e rest b = none (after s e) e rest b.starts b.started

  by_start : (job : ℕ) → s.starts < s.table.started → Awaits h s → (now : State) → Awaits (h ++ Start job ∷ []) now
  by_start job less awaits now later =
      let r = awaits less in
      record {
        earlier = r.earlier;
        line = r.line;
        given = r.given;
        command = r.command;
        text = r.text;
        starts = r.starts ++ Start job ∷ [];
        place = ap (λ (es : List Event). es ++ Start job ∷ []) r.place
            ∙ append_assoc r.earlier (Reply r.line r.given r.command r.text ∷ r.starts) (Start job ∷ []);
        only = starts_push r.starts job r.only;
      }

  by_ready : (e : Event) → s.starts ≡ s.table.started → (found : Option JobRecord) → Awaits (h ++ e ∷ []) (readied_by s found)
  by_ready e rest None = none s e rest refl refl
  by_ready e rest (Some row) =
      none (all_stepped s (ready_edits row)) e rest (steps_note (ready_edits row) s).starts
      (ap (λ (t : RunTable). t.started) (stepped_table (ready_edits row) s) ∙ ready_started s.table row)

  by_end : (e : Event) → s.starts ≡ s.table.started → (found : Option JobRecord) (why : JobEnd) → Awaits (h ++ e ∷ []) (ended s found why)
  by_end e rest None why = none s e rest refl refl
  by_end e rest (Some row) why = none (noted_end s row why) e rest (steps_note (changes_at_end s row why) s).starts (end_started s row why)

  entry_awaits : (e : Event) → Fits s e → Awaits h s → Awaits (h ++ e ∷ []) (after s e)
  entry_awaits (Admit g r op) fits awaits = other (Admit g r op) fits.0.started (entry_stays s (Admit g r op) refl)
  entry_awaits (Refuse g r op why) fits awaits = other (Refuse g r op why) fits.0.started (entry_stays s (Refuse g r op why) refl)
  entry_awaits (Piece g r k outcome got) fits awaits = other (Piece g r k outcome got) fits.0.started (entry_stays s (Piece g r k outcome got) refl)
  entry_awaits (Retire g r) fits awaits = other (Retire g r) fits.0.started (entry_stays s (Retire g r) refl)
  entry_awaits (Reply line given command text) fits awaits = λ less.
      record { earlier = h; line = line; given = given; command = command; text = text; starts = []; place = refl; only = tt }
  entry_awaits (Reached line what) fits awaits = other (Reached line what) fits.0.started (entry_stays s (Reached line what) refl)
  entry_awaits (Start job) fits awaits = by_start job fits.0.1 awaits (after s (Start job))
  entry_awaits (Ready job) fits awaits = by_ready (Ready job) fits.0.started (job_at s.table job)
  entry_awaits (End job outcome offset) fits awaits = by_end (End job outcome offset) fits.0.0 (job_at s.table job) outcome
  entry_awaits (Done actor) fits awaits = other (Done actor) fits.0.started (entry_stays s (Done actor) refl)

-- ---- histories

awaits_on : (es past : List Event) (s : State) → Awaits past s → Legal s es → Awaits (past ++ es) (replay s es)
awaits_on [] past s awaits legal = subst (λ h. Awaits h s) (sym (append-nil past)) awaits
awaits_on (e ∷ es) past s awaits legal =
    subst (λ h. Awaits h (replay (after s e) es)) (append_assoc past (e ∷ []) es)
    (awaits_on es (past ++ e ∷ []) (after s e) (entry_awaits past s e legal.0 awaits) legal.1)

pub follows : (o : Opening) (h : List Event) (number : ℕ) (row : JobRecord) (a : StartOf (start o) h number row) → Legal (start o) h → EndsByReply a.before
follows o h number row a legal =
    let parts = each_parts Fits a.before (Start number ∷ a.behind) (start o) (subst (Legal (start o)) a.place legal) in
    awaits_on a.before [] (start o) (λ less. absurd (omega (arith, less))) parts.0 parts.1.0.0.1
