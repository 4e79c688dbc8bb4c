-- All changes of an end are changes of events, and of a list of such each is one.
use Rattle.std.proofs.Common.{◌≡◌, ℕ, Bool, true, false, ◌&&◌, List, [], ◌∷◌, ◌++◌, Option, Some, None, refl, ap, ◌∙◌}
use Rattle.std.specs.Prelude.{slice_get, option_and_then}
use Rattle.std.specs.List.{list_all}
use Rattle.std.proofs.lemmas.List.Folds.{list_all-append}
use Rattle.blk_graph.specs.declared.edge.Role.TheVariants.{File}
use Rattle.qmp_codec.specs.declared.event.JobKind.{JobKind}
use Rattle.qmp_codec.specs.declared.event.JobKind.TheVariants.{Stream, Commit, Mirror, Backup}
use Rattle.qmp_rules.specs.declared.change.Change.{Change}
use Rattle.qmp_rules.specs.declared.change.NewDisk.{NewDisk}
use Rattle.qmp_rules.specs.declared.change.NewDisk.TheVariants.{OfNode, OfStart}
use Rattle.qmp_rules.specs.declared.change.JobOutcome.{JobOutcome}
use Rattle.qmp_rules.specs.declared.change.JobOutcome.TheVariants.{Completed, Pivoted, Copied, Stopped}
use Rattle.qmp_rules.specs.declared.rows.JobRecord.{JobRecord}
use Rattle.qmp_rules.specs.Ends.{done_edits, end_edits, filter_gone, given_back_to, is_of_event, moves, overlay_to, parents_to, read_only_if, settle_if, settled_by, settles_target, top_lost}
use Rattle.qmp_rules.specs.Table.{RunTable, child}

abbrev OfEvents : List Change → Type 0
OfEvents changes = list_all is_of_event changes ≡ true

both : (a b : Bool) → a ≡ true → b ≡ true → (a && b) ≡ true
both true b h k = k
both false b h k = h

joined : (xs ys : List Change) → OfEvents xs → OfEvents ys → OfEvents (xs ++ ys)
joined xs ys h k = list_all-append is_of_event xs ys ∙ both (list_all is_of_event xs) (list_all is_of_event ys) h k

gone : (filter : Option ℕ) → OfEvents (filter_gone filter)
gone None = refl
gone (Some filter) = refl

parents : (source : ℕ) (filter target : Option ℕ) → OfEvents (parents_to source filter target)
parents source None target = refl
parents source (Some filter) None = refl
parents source (Some filter) (Some target) = refl

overlay : (over base : Option ℕ) → OfEvents (overlay_to over base)
overlay None base = refl
overlay (Some over) base = refl

moved : (row : JobRecord) (kind : JobKind) (outcome : JobOutcome) → OfEvents (moves row kind outcome)
moved row Stream Completed = refl
moved row Stream Pivoted = refl
moved row Stream Copied = refl
moved row Stream Stopped = refl
moved row Commit Completed = overlay (slice_get row.read 0) row.target
moved row Commit Pivoted = parents row.source row.filter row.target
moved row Commit Copied = refl
moved row Commit Stopped = refl
moved row Mirror Completed = refl
moved row Mirror Pivoted = parents row.source row.filter row.target
moved row Mirror Copied = refl
moved row Mirror Stopped = refl
moved row Backup outcome = refl

settle : (so : Bool) (target : Option ℕ) (disk : NewDisk) → OfEvents (settle_if so target disk)
settle false target disk = refl
settle true None disk = refl
settle true (Some target) disk = refl

settled : (row : JobRecord) (kind : JobKind) → OfEvents (settled_by row kind)
settled row Backup = settle (settles_target row.bitmap) row.target (OfStart row.number)
settled row Mirror = settle true row.target (OfNode row.source)
settled row Commit = settle true row.target (OfNode row.source)
settled row Stream = refl

lost : (row : JobRecord) (kind : JobKind) (outcome : JobOutcome) → OfEvents (top_lost row kind outcome)
lost row Commit Completed = refl
lost row Commit Pivoted = refl
lost row Commit Copied = refl
lost row Commit Stopped = refl
lost row Stream outcome = refl
lost row Mirror outcome = refl
lost row Backup outcome = refl

done_at : (row : JobRecord) (outcome : JobOutcome)
    → OfEvents (moves row row.kind outcome ++ settled_by row row.kind ++ top_lost row row.kind outcome)
done_at row outcome =
    joined (moves row row.kind outcome ++ settled_by row row.kind) (top_lost row row.kind outcome)
    (joined (moves row row.kind outcome) (settled_by row row.kind) (moved row row.kind outcome) (settled row row.kind))
    (lost row row.kind outcome)

done : (row : JobRecord) (outcome : JobOutcome) → OfEvents (done_edits row outcome)
done row Stopped = refl
done row Completed = done_at row Completed
done row Pivoted = done_at row Pivoted
done row Copied = done_at row Copied

read_only : (so : Bool) (id : Option ℕ) → OfEvents (read_only_if so id)
read_only false id = refl
read_only true None = refl
read_only true (Some id) = refl

base_back : (row : JobRecord) (file : Option ℕ)
    → OfEvents (read_only_if row.made_writable.base row.target ++ read_only_if row.made_writable.file file)
base_back row file =
    joined (read_only_if row.made_writable.base row.target) (read_only_if row.made_writable.file file)
    (read_only row.made_writable.base row.target) (read_only row.made_writable.file file)

back : (t : RunTable) (row : JobRecord) (outcome : JobOutcome) → OfEvents (given_back_to t row outcome)
back t row Pivoted = refl
back t row Completed = base_back row (option_and_then (λ base. child t base File) row.target)
back t row Copied = base_back row (option_and_then (λ base. child t base File) row.target)
back t row Stopped = base_back row (option_and_then (λ base. child t base File) row.target)

pub ends_are_events : (t : RunTable) (row : JobRecord) (outcome : JobOutcome) → list_all is_of_event (end_edits t row outcome) ≡ true
unfolding end_edits
ends_are_events t row outcome =
    joined (filter_gone row.filter ++ done_edits row outcome) (given_back_to t row outcome)
    (joined (filter_gone row.filter) (done_edits row outcome) (gone row.filter) (done row outcome)) (back t row outcome)

-- ---- one after another

left : (a b : Bool) → (a && b) ≡ true → a ≡ true
left true b h = refl
left false b h = h

right : (a b : Bool) → (a && b) ≡ true → b ≡ true
right true b h = h
right false b h = cc

pub event_here : (c : Change) (changes : List Change) → list_all is_of_event (c ∷ changes) ≡ true → is_of_event c ≡ true
event_here c changes h = left (is_of_event c) (list_all is_of_event changes) h

pub events_then : (c : Change) (changes : List Change) → list_all is_of_event (c ∷ changes) ≡ true
    → list_all is_of_event changes ≡ true
events_then c changes h = right (is_of_event c) (list_all is_of_event changes) h
