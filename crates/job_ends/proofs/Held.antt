-- Of the images of jobs' nodes it is never said that they map no cluster, behind changes and events.
use Rattle.std.proofs.Common.{◌≡◌, ◌≢◌, ◌⊎◌, ℕ, ◌+◌, ◌<◌, ◌≤◌, Bool, true, false, cond, List, [], ◌∷◌, ◌++◌, map, refl, sym, ◌∙◌, ap, subst, arith, inl, inr, Option, Some, None}
use Rattle.std.specs.Prelude.{◌==◌, not, IsSome}
use Rattle.std.specs.List.{Contains, filter}
use Rattle.std.proofs.lemmas.Bool.{cases_eq, eqb-true, ne_eqb}
use Rattle.blk_base.specs.Pieces.{Extent}
use Rattle.blk_base.specs.declared.fault.Outcome.{Outcome}
use Rattle.blk_graph.specs.declared.kind.Kind.{Kind}
use Rattle.blk_graph.specs.declared.kind.Kind.TheVariants as driver
use Rattle.blk_graph.proofs.Members.{Contains-filter, Contains-nil}
use Rattle.blk_history.specs.Disk.{done_in, piece}
use Rattle.blk_history.specs.Machine.{Flight, done_by}
use Rattle.blk_history.specs.declared.entry.JobEnd.{JobEnd}
use Rattle.blk_history.specs.declared.event.Event.{Event}
use Rattle.blk_history.specs.declared.event.Event.TheVariants.{Admit, Refuse, Piece, Retire, Reply, Reached, Start, Ready, End, Done}
use Rattle.trace_codec.specs.declared.op.Op.{Op}
use Rattle.trace_codec.specs.declared.op.Op.TheVariants.{Read, Write, Zero, Flush, Discard}
use Rattle.qmp_rules.specs.declared.change.Change.{Change}
use Rattle.qmp_rules.specs.declared.change.Change.TheVariants as change
use Rattle.qmp_rules.specs.declared.change.JobOutcome.{JobOutcome}
use Rattle.qmp_rules.specs.declared.rows.NodeRecord.{NodeRecord}
use Rattle.qmp_rules.specs.declared.rows.JobRecord.{JobRecord}
use Rattle.qmp_rules.specs.Asks.{name_of_file}
use Rattle.qmp_rules.specs.Chains.{disk_node, is_listed, written_under}
use Rattle.qmp_rules.specs.Changes.{all_changed, changed}
use Rattle.qmp_rules.specs.Edits.{start_edits}
use Rattle.qmp_rules.specs.Ends.{end_edits}
use Rattle.qmp_rules.specs.Table.{RunTable, job_at, node_by_id}
use Rattle.flat_machine.specs.State.{Content, Image, Left, Mapped, MapsNone, MapsSome, State, Unknown, Unsure, content_in, drive_of, filename_of}
use Rattle.flat_machine.specs.Changed.{add_file, all_stepped, bytes_by_format, content_under, know_if, leave, name_file, name_if, note_image, overlay_file, put, stepped}
use Rattle.flat_machine.specs.Contents.{file_bytes, mapped_in}
use Rattle.flat_machine.specs.Jobs.{changes_at_end, noted_end, noted_start, outcome_of, readied, readied_by, started, unleft, unsure}
use Rattle.flat_machine.specs.Machine.{after, copies_through, flight_of, is_noted, node_written, note, noted, path, read_through, with_disk, with_part, with_piece}
use Rattle.flat_machine.specs.Opening.{start}
use Rattle.flat_machine.specs.Sights.{mapped_at}
use Rattle.flat_machine.specs.Suiting.{AllTableSuit, TableSuits}
use Rattle.flat_machine.specs.Wiring.{TableStands}
use Rattle.flat_machine.specs.declared.opening.Opening.{Opening}
use Rattle.flat_machine.proofs.Resting.{stepped_table}
use Rattle.flat_machine.proofs.TableRests.{table_keeps}
use Rattle.job_entries.specs.Found.{leaves_jobs}
use Rattle.job_entries.proofs.Ending.{end_steps}
use Rattle.job_entries.proofs.Found.{steps_note}
use Rattle.job_entries.proofs.Sources.{AllSpare, SparesSources}
use Rattle.job_entries.proofs.Starting.{start_spares, start_steps}
use Rattle.job_entries.proofs.Steps.{AllSteps, IsStep}
use Rattle.job_tables.specs.Changes.{AllLeaveJobs, LeavesJobs}
use Rattle.job_tables.specs.Jobs.{JobsStand}
use Rattle.job_tables.specs.Rows.{nodes_of_job}
use Rattle.job_tables.specs.Starts.{JobBegins}
use Rattle.job_tables.proofs.Changes.{change_leaves_jobs, there_node}
use Rattle.job_tables.proofs.RowEdges.{Contains-listed}
use Rattle.job_tables.proofs.TargetFiles.{starts_same}
use Rattle.job_ends.specs.Images.{HeldAreUnsure}
use Rattle.job_ends.proofs.Rows.{Begins, HadJob, had_readied, had_self, was_there, end_head, end_jobs, end_parts, end_tail, tail_of_end}

-- ---- entries of which less is said

abbrev entry_of : ℕ → Mapped → Image
entry_of node mapped = record { node = node; mapped = mapped }

unsure_not : (nodes : List ℕ) (node : ℕ) (mapped : Mapped) → mapped ≢ MapsNone → (unsure nodes (record { node = node; mapped = mapped })).mapped ≢ MapsNone
unsure_not nodes node MapsNone h = absurd (h refl)
unsure_not nodes node MapsSome h = by_test (is_listed node nodes)
  where
    by_test : (b : Bool) → (cond b (entry_of node MapsSome) (entry_of node MapsSome)).mapped ≢ MapsNone
    by_test true = h
    by_test false = h
unsure_not nodes node Unsure h = by_test (is_listed node nodes)
  where
    by_test : (b : Bool) → (cond b (entry_of node Unsure) (entry_of node Unsure)).mapped ≢ MapsNone
    by_test true = h
    by_test false = h

unsure_listed : (nodes : List ℕ) (node : ℕ) (mapped : Mapped) → is_listed node nodes ≡ true
    → (unsure nodes (record { node = node; mapped = mapped })).mapped ≢ MapsNone
unsure_listed nodes node MapsNone is = rw is (λ same. cc)
unsure_listed nodes node MapsSome is = rw is (λ same. cc)
unsure_listed nodes node Unsure is = rw is (λ same. cc)

same_node : (nodes : List ℕ) (image : Image) → (unsure nodes image).node ≡ image.node
same_node nodes image = by_test (is_listed image.node nodes) _
  where
    by_test : (b : Bool) (less : Mapped) → (cond b (record image { mapped = less }) image).node ≡ image.node
    by_test true less = refl
    by_test false less = refl

-- an entry said so is said so still, and one of a listed node from now on
mapped_less : (nodes : List ℕ) (images : List Image) (n : ℕ) → mapped_at images n ≢ MapsNone → mapped_at (map (unsure nodes) images) n ≢ MapsNone
mapped_less nodes [] n h = h
mapped_less nodes (image ∷ images) n h =
    subst (λ k. cond (k == n) (unsure nodes image).mapped (mapped_at (map (unsure nodes) images) n) ≢ MapsNone) (sym (same_node nodes image))
    (by_test (image.node == n) h (mapped_less nodes images n))
  where
    by_test : (b : Bool) → cond b image.mapped (mapped_at images n) ≢ MapsNone
        → (mapped_at images n ≢ MapsNone → mapped_at (map (unsure nodes) images) n ≢ MapsNone)
        → cond b (unsure nodes image).mapped (mapped_at (map (unsure nodes) images) n) ≢ MapsNone
    by_test true k more = unsure_not nodes image.node image.mapped k
    by_test false k more = more k

mapped_listed : (nodes : List ℕ) (images : List Image) (n : ℕ) → is_listed n nodes ≡ true → mapped_at (map (unsure nodes) images) n ≢ MapsNone
mapped_listed nodes [] n is = λ same. cc
mapped_listed nodes (image ∷ images) n is =
    subst (λ k. cond (k == n) (unsure nodes image).mapped (mapped_at (map (unsure nodes) images) n) ≢ MapsNone) (sym (same_node nodes image))
    (by_test (image.node == n) refl (mapped_listed nodes images n is))
  where
    by_test : (b : Bool) → (image.node == n) ≡ b → mapped_at (map (unsure nodes) images) n ≢ MapsNone
        → cond b (unsure nodes image).mapped (mapped_at (map (unsure nodes) images) n) ≢ MapsNone
    by_test true e more = unsure_listed nodes image.node image.mapped (subst (λ k. is_listed k nodes ≡ true) (sym (eqb-true image.node n e)) is)
    by_test false e more = more

mapped_longer : (images : List Image) (new : Image) (n : ℕ) → new.node ≢ n → mapped_at (images ++ new ∷ []) n ≡ mapped_at images n
mapped_longer [] new n other = rw (ne_eqb new.node n other) refl
mapped_longer (image ∷ images) new n other = ap (λ rest. cond (image.node == n) image.mapped rest) (mapped_longer images new n other)

mapped_fewer : (images : List Image) (gone n : ℕ) → gone ≢ n → mapped_at (filter (λ (i : Image). not (i.node == gone)) images) n ≡ mapped_at images n
mapped_fewer [] gone n other = refl
mapped_fewer (image ∷ images) gone n other = by_test (image.node == gone) refl (mapped_fewer images gone n other)
  where
    by_test : (b : Bool) → (image.node == gone) ≡ b → mapped_at (filter (λ (i : Image). not (i.node == gone)) images) n ≡ mapped_at images n
        → mapped_at (cond (not b) (image ∷ filter (λ (i : Image). not (i.node == gone)) images) (filter (λ (i : Image). not (i.node == gone)) images)) n
        ≡ cond (image.node == n) image.mapped (mapped_at images n)
    by_test true e more =
        let differ : (image.node == n) ≡ false = ne_eqb image.node n (λ same. other (sym (eqb-true image.node gone e) ∙ same)) in
        rw differ more
    by_test false e more = ap (λ rest. cond (image.node == n) image.mapped rest) more

-- ---- from one state to another

held_still : (s now : State) → now.starts ≡ s.starts
    → ((row : JobRecord) → Contains now.table.jobs row → row.number < s.starts → HadJob s.table.jobs row)
    → ((row : JobRecord) (node : ℕ) → Contains s.table.jobs row → Contains (nodes_of_job row) node → mapped_at s.images node ≢ MapsNone
    → mapped_at now.images node ≢ MapsNone) → HeldAreUnsure s → HeldAreUnsure now
held_still s now starts back images h row node here less has =
    let small : row.number < s.starts = subst (λ n. row.number < n) starts less in
    let w = back row here small in
    let at : Contains (nodes_of_job w.old) node =
    subst (λ ids. Contains (ids ++ w.old.read) node) w.same.held (subst (λ ids. Contains (row.held ++ ids) node) w.same.read has) in
    images w.old node w.there at (h w.old node w.there (subst (λ n. n < s.starts) w.same.number small) at)

-- the same jobs, and entries of which less may be said
held_less : (s now : State) → now.starts ≡ s.starts → now.table.jobs ≡ s.table.jobs
    → ((n : ℕ) → mapped_at s.images n ≢ MapsNone → mapped_at now.images n ≢ MapsNone) → HeldAreUnsure s → HeldAreUnsure now
held_less s now starts jobs images =
    held_still s now starts (λ row here small. had_self s.table.jobs row (subst (λ rows. Contains rows row) jobs here)) (λ row node here has. images node)

-- ---- each kind of change

-- it neither brings nor takes the entry of the node
abbrev IsOtherImage : Change → ℕ → Type 0
IsOtherImage (change.AddFormat row file backing) n = row.id ≢ n
IsOtherImage (change.RemoveNode node) n = node ≢ n
IsOtherImage c n = Unit {0}

name_images : (name : Option (List ℕ)) (s : State) → (name_if name s).images ≡ s.images
name_images None s = refl
name_images (Some name) s = refl

file_images : (row : NodeRecord) (s : State) → (add_file row s).images ≡ s.images
file_images row s = by_flag row.read_only
  where
    with_disk_of : State
    with_disk_of = put row.id (file_bytes row.size (content_in s.files (name_of_file row))) s

    by_flag : (b : Bool) → (cond b with_disk_of (name_file (name_of_file row) with_disk_of)).images ≡ s.images
    by_flag true = refl
    by_flag false = refl

know_images : (name : Option (List ℕ)) (content : Content) (s : State) → (know_if name content s).images ≡ s.images
know_images None content s = refl
know_images (Some name) content s = refl

leave_images : (left : Option Left) (s : State) → (leave left s).images ≡ s.images
leave_images None s = refl
leave_images (Some left) s = refl

noted_image : (k : Kind) (node : ℕ) (mapped : Mapped) (s : State) (n : ℕ) → node ≢ n → mapped_at (note_image k node mapped s).images n ≡ mapped_at s.images n
noted_image driver.Qcow2 node mapped s n other = mapped_longer s.images (record { node = node; mapped = mapped }) n other
noted_image driver.Protocol node mapped s n other = refl
noted_image driver.Raw node mapped s n other = refl
noted_image driver.CopyOnRead node mapped s n other = refl
noted_image driver.BeforeWrite node mapped s n other = refl
noted_image driver.Mirror node mapped s n other = refl
noted_image driver.Commit node mapped s n other = refl

change_images : (s : State) (c : Change) (n : ℕ) → IsOtherImage c n → mapped_at (stepped s c).images n ≡ mapped_at s.images n
change_images s (change.AddFile row) n other = ap (λ is. mapped_at is n) (file_images row s)
change_images s (change.AddFormat row file backing) n other =
    let one : State = put row.id (bytes_by_format s row file backing row.kind) s in
    let two : State = note_image row.kind row.id (mapped_in (content_under s file)) one in
    ap (λ is. mapped_at is n) (know_images (filename_of s.table file) Unknown two) ∙ noted_image row.kind row.id (mapped_in (content_under s file)) one n other
change_images s (change.RemoveNode node) n other = by_left _
  where
    by_left : (left : Option Left) → mapped_at (filter (λ (i : Image). not (i.node == node)) (leave left s).images) n ≡ mapped_at s.images n
    by_left left = ap (λ is. mapped_at (filter (λ (i : Image). not (i.node == node)) is) n) (leave_images left s) ∙ mapped_fewer s.images node n other
change_images s (change.MakeWritable node) n other = ap (λ is. mapped_at is n) (name_images (filename_of s.table node) s)
change_images s (change.StartJob row) n other = ap (λ is. mapped_at is n) (name_images (overlay_file s.table row row.kind) s)
change_images s c n other = refl

-- ---- changes that leave jobs

begins_none : (t : RunTable) (c : Change) (row : JobRecord) → LeavesJobs t c → Begins c row → ⊥
begins_none t (change.StartJob new) row leaves is = leaves
begins_none t c row leaves is = is

leaving_image : (t : RunTable) → JobsStand t → (c : Change) → TableSuits t c → LeavesJobs t c → (row : JobRecord) → Contains t.jobs row → (node : ℕ)
    → Contains (nodes_of_job row) node → IsOtherImage c node
leaving_image t j (change.AddFormat new file backing) suits leaves row here node has =
    λ same. let bad = subst IsSome (ap (node_by_id t) (sym same) ∙ suits.fresh) (there_node t j row node here has) in cc
leaving_image t j (change.RemoveNode gone) suits leaves row here node has = λ same. leaves.held row here (subst (Contains (nodes_of_job row)) (sym same) has)
leaving_image t j c suits leaves row here node has = tt

leaving_held : (s : State) (c : Change) → JobsStand s.table → TableSuits s.table c → LeavesJobs s.table c → HeldAreUnsure s → HeldAreUnsure (stepped s c)
leaving_held s c j suits leaves =
    held_still s (stepped s c) (starts_same s c)
    (λ row here small. elim (was_there s.table c row here) [
      | inl had ↦ had
      | inr new ↦ absurd (begins_none s.table c row leaves new)
    ])
    (λ row node here has some same. some (sym (change_images s c node (leaving_image s.table j c suits leaves row here node has)) ∙ same))

pub all_leaving_held : (changes : List Change) (s : State) → TableStands s.table → JobsStand s.table → AllTableSuit s.table changes
    → AllLeaveJobs s.table changes → HeldAreUnsure s → HeldAreUnsure (all_stepped s changes)
all_leaving_held [] s h j suits leaves held = held
all_leaving_held (c ∷ changes) s h j suits leaves held =
    all_leaving_held changes (stepped s c) (table_keeps s.table c suits.0 h) (change_leaves_jobs s.table c h j suits.0 leaves.0) suits.1 leaves.1
    (leaving_held s c j suits.0 leaves.0 held)

-- ---- changes of starts, ends and snapshots

step_image : (t : RunTable) (c : Change) (n : ℕ) → IsStep t c → IsOtherImage c n
step_image t (change.AddFormat row file backing) n is = absurd is
step_image t (change.RemoveNode node) n is = absurd is
step_image t c n is = tt

steps_images : (changes : List Change) (s : State) (n : ℕ) → AllSteps s changes → mapped_at (all_stepped s changes).images n ≡ mapped_at s.images n
steps_images [] s n steps = refl
steps_images (c ∷ changes) s n steps =
    steps_images changes (stepped s c) n steps.1 ∙ change_images s c n (step_image s.table c n steps.0)

-- a job of a number below one was there
spared_had : (from : ℕ) (changes : List Change) (t : RunTable) → AllSpare from t changes → (row : JobRecord) → Contains (all_changed t changes).jobs row
    → row.number < from → HadJob t.jobs row
spared_had from [] t spare row here small = had_self t.jobs row here
spared_had from (c ∷ changes) t spare row here small =
    let w = spared_had from changes (changed t c) spare.1 row here small in
    elim (was_there t c w.old w.there) [
      | inl had ↦ record {
        old = had.old;
        there = had.there;
        same = record {
          number = w.same.number ∙ had.same.number;
          kind = w.same.kind ∙ had.same.kind;
          source = w.same.source ∙ had.same.source;
          held = w.same.held ∙ had.same.held;
          read = w.same.read ∙ had.same.read;
          bitmap = w.same.bitmap ∙ had.same.bitmap;
          lent = w.same.lent ∙ had.same.lent;
        };
      }
      | inr new ↦ absurd (by_change c spare.0 w.old new (subst (λ n. n < from) w.same.number small))
    ]
  where
    by_change : (x : Change) → SparesSources from t x → (old : JobRecord) → Begins x old → old.number < from → ⊥
    by_change (change.StartJob new) late old is less =
        let number : old.number ≡ new.number = ap (λ (r : JobRecord). r.number) is in
        omega (arith, late, less, number)
    by_change x late old is less = is

steps_held : (changes : List Change) (s : State) → AllSteps s changes → AllSpare s.starts s.table changes → HeldAreUnsure s
    → HeldAreUnsure (all_stepped s changes)
steps_held changes s steps spare =
    held_still s (all_stepped s changes) (steps_note changes s).starts
    (λ row here small. spared_had s.starts changes s.table spare row (subst (λ (t : RunTable). Contains t.jobs row) (stepped_table changes s) here) small)
    (λ row node here has some same. some (sym (steps_images changes s node steps) ∙ same))

pub beginning_held : (s : State) (row : JobRecord) → TableStands s.table → JobsStand s.table → JobBegins s.table row → s.starts ≤ row.number
    → HeldAreUnsure s → HeldAreUnsure (all_stepped s (start_edits s.table row))
beginning_held s row h j b late = steps_held (start_edits s.table row) s (start_steps s row b h) (start_spares s row b j s.starts late)

pub snapshot_held : (s : State) (node overlay : ℕ) → HeldAreUnsure s
    → HeldAreUnsure (all_stepped s (change.Attach overlay node ∷ change.Move node overlay overlay ∷ []))
unfolding changed
snapshot_held s node overlay =
    held_less s (all_stepped s (change.Attach overlay node ∷ change.Move node overlay overlay ∷ [])) refl refl (λ n some. some)

end_had : (t : RunTable) (row : JobRecord) (o : JobOutcome) (other : JobRecord) → Contains (all_changed t (end_edits t row o)).jobs other → HadJob t.jobs other
unfolding changed
end_had t row o other here =
    let at = subst (λ (changes : List Change). Contains (all_changed t changes).jobs other) (end_parts row t o) here in
    let first = subst (λ rows. Contains rows other) (end_jobs (end_tail row t o) (changed t (end_head row o)) (tail_of_end row t o)) at in
    had_self t.jobs other (Contains-filter (λ (r : JobRecord). not (r.number == row.number)) t.jobs other first).0

pub ended_held : (s : State) (row : JobRecord) (why : JobEnd) → TableStands s.table → JobsStand s.table → Contains s.table.jobs row → HeldAreUnsure s
    → HeldAreUnsure (noted_end s row why)
ended_held s row why h j here held =
    held_still s (all_stepped s (changes_at_end s row why)) (steps_note (changes_at_end s row why) s).starts
    (λ other at small.
    end_had s.table row (outcome_of why) other (subst (λ (t : RunTable). Contains t.jobs other) (stepped_table (changes_at_end s row why) s) at))
    (λ other node at has some same. some (sym (steps_images (changes_at_end s row why) s node (end_steps s h j row here why)) ∙ same)) held

-- ---- entries

pub opening_held : (o : Opening) → HeldAreUnsure (start o)
opening_held o row node here = absurd (Contains-nil row here)

pub readied_held : (s : State) (job : ℕ) → HeldAreUnsure s → HeldAreUnsure (readied job s)
unfolding changed
readied_held s job h = by_row (job_at s.table job)
  where
    by_row : (found : Option JobRecord) → HeldAreUnsure (readied_by s found)
    by_row None = h
    by_row (Some row) =
        held_still s (readied_by s (Some row)) refl (λ other here small. had_readied s.table.jobs row.number other here) (λ other node here has some. some) h

unleft_held : (name : Option (List ℕ)) (s : State) → HeldAreUnsure s → HeldAreUnsure (unleft name s)
unleft_held None s h = h
unleft_held (Some name) s h = held_less s (unleft (Some name) s) refl refl (λ n some. some) h

pub started_held : (s : State) (row : JobRecord) → JobsStand s.table → Contains s.table.jobs row → row.number ≡ s.starts → HeldAreUnsure s
    → HeldAreUnsure (started s (Some row))
started_held s row j here turn h = unleft_held _ (noted_start s row) noted_held
  where
    by_number : (other : JobRecord) (node : ℕ) → Contains s.table.jobs other → (other.number ≡ row.number) ⊎ (other.number ≢ row.number)
        → other.number < s.starts + 1 → Contains (nodes_of_job other) node → mapped_at (map (unsure (row.held ++ row.read)) s.images) node ≢ MapsNone
    by_number other node at (inl same) less has =
        mapped_listed (row.held ++ row.read) s.images node
        (Contains-listed node (row.held ++ row.read)
        (subst (λ (r : JobRecord). Contains (nodes_of_job r) node) (j.numbers other row at here same) has))
    by_number other node at (inr differ) less has =
        mapped_less (row.held ++ row.read) s.images node
        (h other node at (let apart : other.number ≢ s.starts = λ same. differ (same ∙ sym turn) in omega (arith, apart, less)) has)

    noted_held : HeldAreUnsure (noted_start s row)
    noted_held other node at less has = by_number other node at (cases_eq other.number row.number) less has

-- ---- pieces, and other entries

read_held : (drive : ℕ) (s : State) → HeldAreUnsure s → HeldAreUnsure (read_through drive s)
read_held drive s h = by_flag (copies_through s.table drive)
  where
    less : State
    less = record s { images = map (unsure (disk_node s.table drive ∷ [])) s.images }

    by_flag : (b : Bool) → HeldAreUnsure (cond b less s)
    by_flag true = held_less s less refl refl (λ n. mapped_less (disk_node s.table drive ∷ []) s.images n) h
    by_flag false = h

note_held : (outcome : Outcome) (part : Extent) (drive : ℕ) (s : State) → HeldAreUnsure s → HeldAreUnsure (note outcome part drive s)
note_held outcome part drive s h = by_flag (is_noted outcome)
  where
    marked : State
    marked = record s { dirty = noted s.table part s.dirty (path s.table drive) }

    by_flag : (b : Bool) → HeldAreUnsure (cond b marked s)
    by_flag true = held_less s marked refl refl (λ n some. some) h
    by_flag false = h

written_held : (node : ℕ) (s : State) → HeldAreUnsure s → HeldAreUnsure (node_written node s)
unfolding written_under
written_held node s = held_less s (node_written node s) refl refl (λ n. mapped_less (node ∷ []) s.images n)

pub piece_held : (s : State) (drive : ℕ) (op : Op) (outcome : Outcome) (part : Extent) → HeldAreUnsure s → HeldAreUnsure (with_part drive op outcome part s)
piece_held s drive op outcome part h = by_op op
  where
    node : ℕ
    node = disk_node s.table drive

    done : Op → State
    done x = with_disk node (done_in x part (done_by outcome part)) s

    done_held : (x : Op) → HeldAreUnsure (done x)
    done_held x = held_less s (done x) refl refl (λ n some. some) h

    by_op : (x : Op) → HeldAreUnsure (with_part drive x outcome part s)
    by_op (Read span) = read_held drive (done (Read span)) (done_held (Read span))
    by_op (Write span payload) =
        note_held outcome part drive (node_written node (done (Write span payload))) (written_held node (done (Write span payload)) (done_held (Write span payload)))
    by_op (Zero span) = note_held outcome part drive (node_written node (done (Zero span))) (written_held node (done (Zero span)) (done_held (Zero span)))
    by_op (Discard span) = done_held (Discard span)
    by_op Flush = done_held Flush

flight_held : (drive : Option ℕ) (flight : Option Flight) (k : ℕ) (outcome : Outcome) (s : State) → HeldAreUnsure s
    → HeldAreUnsure (with_piece drive flight k outcome s)
flight_held (Some drive) (Some f) k outcome s h = piece_held s drive f.op outcome (piece f.op k) h
flight_held (Some drive) None k outcome s h = h
flight_held None flight k outcome s h = h

beside_held : (s now : State) → now.starts ≡ s.starts → now.table ≡ s.table → now.images ≡ s.images → HeldAreUnsure s → HeldAreUnsure now
beside_held s now starts table images =
    held_less s now starts (ap (λ (t : RunTable). t.jobs) table) (λ n some same. some (ap (λ is. mapped_at is n) (sym images) ∙ same))

pub other_held : (s : State) (e : Event) → leaves_jobs e ≡ true → HeldAreUnsure s → HeldAreUnsure (after s e)
other_held s (Admit g r op) leaves h = beside_held s (after s (Admit g r op)) refl refl refl h
other_held s (Refuse g r op why) leaves h = beside_held s (after s (Refuse g r op why)) refl refl refl h
other_held s (Piece g r k outcome got) leaves h =
    let done : State = with_piece (drive_of s.table g) (flight_of s g) k outcome s in
    beside_held done (after s (Piece g r k outcome got)) refl refl refl (flight_held (drive_of s.table g) (flight_of s g) k outcome s h)
other_held s (Retire g r) leaves h = beside_held s (after s (Retire g r)) refl refl refl h
other_held s (Reached line what) leaves h = h
other_held s (Done actor) leaves h = beside_held s (after s (Done actor)) refl refl refl h
other_held s (Reply line given command text) leaves h = absurd cc
other_held s (Start job) leaves h = absurd cc
other_held s (Ready job) leaves h = absurd cc
other_held s (End job outcome offset) leaves h = absurd cc
