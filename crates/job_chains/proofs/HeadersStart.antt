-- Headers that ends rewrite are named behind starts, ends and commands, and what an end rests on.
use Rattle.std.proofs.Common.{◌≡◌, ℕ, Bool, true, false, cond, List, [], ◌∷◌, ◌++◌, map, refl, sym, ◌∙◌, ap, subst, inl, inr, Option, Some, None}
use Rattle.std.specs.Prelude.{◌==◌, codes, slice_get, IsSome}
use Rattle.std.specs.List.{Contains}
use Rattle.std.specs.Option.{option_and_then}
use Rattle.std.proofs.lemmas.Bool.{eqb-true}
use Rattle.blk_base.specs.Pieces.{Extent}
use Rattle.blk_base.specs.declared.fault.Outcome.{Outcome}
use Rattle.blk_graph.specs.declared.edge.Parent.TheVariants.{Node}
use Rattle.blk_graph.specs.declared.edge.Role.TheVariants.{Backing, File}
use Rattle.blk_graph.specs.declared.kind.Kind.{Kind}
use Rattle.blk_graph.specs.declared.kind.Kind.TheVariants as driver
use Rattle.blk_graph.specs.Permissions.{has_role}
use Rattle.blk_graph.proofs.Members.{find-Some}
use Rattle.blk_history.specs.Disk.{done_in, piece}
use Rattle.blk_history.specs.Machine.{Flight, done_by}
use Rattle.blk_history.specs.declared.entry.JobEnd.{JobEnd}
use Rattle.blk_history.specs.declared.event.Event.{Event}
use Rattle.blk_history.specs.declared.event.Event.TheVariants.{Admit, Refuse, Piece, Retire, Reply, Reached, Start, Ready, End, Done}
use Rattle.trace_codec.specs.declared.op.Op.{Op}
use Rattle.trace_codec.specs.declared.op.Op.TheVariants.{Read, Write, Zero, Flush, Discard}
use Rattle.qmp_codec.specs.Commands.{Cmd}
use Rattle.qmp_codec.specs.declared.command.Command.TheVariants as command
use Rattle.qmp_codec.specs.declared.event.JobKind.{JobKind}
use Rattle.qmp_codec.specs.declared.event.JobKind.TheVariants.{Stream, Commit, Mirror, Backup}
use Rattle.qmp_codec.specs.declared.jobs.Stream.{Stream as StreamCommand}
use Rattle.qmp_codec.specs.declared.jobs.Commit.{Commit as CommitCommand}
use Rattle.qmp_codec.specs.declared.nodes.Created.{Created}
use Rattle.qmp_codec.specs.declared.nodes.Created.TheVariants as created
use Rattle.qmp_asks.specs.declared.ask.Drivers.TheVariants as drivers
use Rattle.qmp_asks.specs.Asking.{Asking}
use Rattle.qmp_asks.specs.CommandAsks.{asks_of}
use Rattle.qmp_asks.specs.JobAsks.{job_values, on_error_value, stream_names, stream_rest}
use Rattle.qmp_rules.specs.declared.change.Change.{Change}
use Rattle.qmp_rules.specs.declared.change.Change.TheVariants as change
use Rattle.qmp_rules.specs.declared.rows.NodeRecord.{NodeRecord}
use Rattle.qmp_rules.specs.declared.rows.JobRecord.{JobRecord}
use Rattle.qmp_rules.specs.declared.told.Told.{Told}
use Rattle.qmp_rules.specs.Answers.{command_edits, refusal_to, unbuilt}
use Rattle.qmp_rules.specs.Asks.{id_or, takes}
use Rattle.qmp_rules.specs.Chains.{disk_node, filter_role, is_over, written_under}
use Rattle.qmp_rules.specs.Changes.{without_job}
use Rattle.qmp_rules.specs.Edits.{backup_job, commit_job, edits_of, file_of_node, file_used, mirror_job, spoiled, start_edits, stream_job}
use Rattle.qmp_rules.specs.Ends.{drops_aside}
use Rattle.qmp_rules.specs.Table.{RunTable, child, has_name, job_at, node_by_id, node_named}
use Rattle.flat_machine.specs.State.{State, drive_of, filename_of}
use Rattle.flat_machine.specs.Changed.{all_stepped, name_if, overlay_file, own_filename, stepped, written_file}
use Rattle.flat_machine.specs.Imaging.{is_qcow2, is_qcow2_at}
use Rattle.flat_machine.specs.Jobs.{changes_at_end, ended, noted_end, noted_start, outcome_of, readied, readied_by, started, unleft, unsure}
use Rattle.flat_machine.specs.Machine.{after, copies_through, flight_of, is_noted, node_written, note, noted, path, read_through, with_disk, with_part, with_piece}
use Rattle.flat_machine.specs.Replies.{begins_job}
use Rattle.flat_machine.specs.Standing.{Stands, StandsAtRest}
use Rattle.flat_machine.specs.Suiting.{AllTableSuit}
use Rattle.flat_machine.specs.Wiring.{LeadsToFile, TableAtRest, TableStands}
use Rattle.flat_machine.proofs.Asked.{NoneHolds, found-named, none-behind, none-holds, takes-driver}
use Rattle.flat_machine.proofs.ImagesKept.{image_in_file, is_image_row, qcow2_row}
use Rattle.flat_machine.proofs.TableRests.{command_rests}
use Rattle.flat_machine.proofs.TableSuited.{named-row, writable-node}
use Rattle.flat_machine.proofs.WritingAdded.{has_name-own}
use Rattle.flat_machine.proofs.WritingKept.{role_edge}
use Rattle.job_tables.specs.Accepted.{Begins, IsMet, JobsAreDrawn}
use Rattle.job_tables.specs.Ends.{rebased_by}
use Rattle.job_tables.specs.Jobs.{JobsStand}
use Rattle.job_tables.specs.Running.{JobsRun}
use Rattle.job_tables.specs.Starts.{BeginsByKind, IsOverTop}
use Rattle.job_tables.proofs.Commands.{accepted_leave}
use Rattle.job_tables.proofs.Ended.{end_is}
use Rattle.job_tables.proofs.RunStarts.{StartParts, start_parts}
use Rattle.job_tables.proofs.Runs.{AllSpare, Spares, behind_over, end_spares}
use Rattle.job_tables.proofs.StartCommands.{accepted_met, met_backup, met_commit_begins, met_mirror, met_stream}
use Rattle.job_entries.specs.Ends.{HeaderIsNamed, RestsToEnd}
use Rattle.job_entries.specs.Found.{leaves_jobs}
use Rattle.job_entries.proofs.Ending.{end_steps}
use Rattle.job_entries.proofs.Headers.{rests_by}
use Rattle.job_entries.proofs.Starting.{start_steps}
use Rattle.job_entries.proofs.Steps.{AllSteps}
use Rattle.job_chains.specs.Headers.{HeaderBegins, HeadersAreNamed, IsNamedImage, IsWritableImage}
use Rattle.job_chains.proofs.HeadersStay.{StartsRow, beside_stays, had_header, headers_beside, headers_by, headers_change, image_kept, images_kept, leaving_headers, mapped_stays, qcow2_kept, snapshot_headers, stays, step_keeps}

-- ---- what it gives

pub header_named : (s : State) (row : JobRecord) (node : ℕ) → Stands s → HeadersAreNamed s → Contains s.table.jobs row → rebased_by row row.kind ≡ Some node
    → HeaderIsNamed s node
header_named s row node h named here is =
    let image = named row node here is in
    record {
      format = λ r found. no_name r found (qcow2_row s.table node image.image) r.filename refl;
      named = image.named;
    }
  where
    no_name : (r : NodeRecord) → node_by_id s.table node ≡ Some r → (at : (r : NodeRecord) × (node_by_id s.table node ≡ Some r) × (r.kind ≡ driver.Qcow2))
        → (name : Option (List ℕ)) → r.filename ≡ name → r.filename ≡ None
    no_name r found at None e = e
    no_name r found at (Some name) e =
        let there = (find-Some (λ (x : NodeRecord). x.id == node) s.table.nodes r found).0 in
        let protocol : r.kind ≡ driver.Protocol = h.table.drivers name r (record { there = there; filename = e }) in
        let same : at.0 ≡ r = (let both : Some at.0 ≡ Some r = sym at.1 ∙ found in cc both) in
        let bad : driver.Qcow2 ≡ driver.Protocol = sym at.2 ∙ ap (λ (x : NodeRecord). x.kind) same ∙ protocol in
        absurd cc

pub named_rests : (s : State) (row : JobRecord) → Stands s → JobsStand s.table → JobsRun s.table → HeadersAreNamed s → Contains s.table.jobs row
    → RestsToEnd s row
named_rests s row h j r named here = rests_by s row h j r here (λ node. header_named s row node h named here)

-- ---- changes by which no job begins

pub failed_headers : (s : State) (options : Created (List ℕ)) → HeadersAreNamed s → HeadersAreNamed (all_stepped s (spoiled s.table options))
failed_headers s (created.File c) h = headers_change s (change.SpoilFile c.filename) (λ row none. none) (λ row node here is image. tt) h
failed_headers s (created.Qcow2 c) h =
    headers_change s (change.SpoilFile (file_of_node s.table c.file)) (λ row none. none) (λ row node here is image. tt) h
failed_headers s created.Unknown h = h

spares_none : (jobs : List JobRecord) (c : Change) (row : JobRecord) → Spares jobs c → StartsRow c row → ⊥
spares_none jobs (change.StartJob new) row spares is = spares
spares_none jobs c row spares is = is

spared_headers : (changes : List Change) (s : State) (jobs : List JobRecord) → AllSpare jobs changes → AllSteps s changes → HeadersAreNamed s
    → HeadersAreNamed (all_stepped s changes)
spared_headers [] s jobs spares steps h = h
spared_headers (c ∷ changes) s jobs spares steps h =
    spared_headers changes (stepped s c) jobs spares.1 steps.1
    (headers_change s c (λ row. spares_none jobs c row spares.0) (λ row node here is image. step_keeps s node image c steps.0) h)

-- ---- ends, and jobs that are ready

pub end_headers : (s : State) (row : JobRecord) (why : JobEnd) → TableStands s.table → JobsStand s.table → Contains s.table.jobs row → HeadersAreNamed s
    → HeadersAreNamed (noted_end s row why)
end_headers s row why h j here named =
    headers_beside (all_stepped s (changes_at_end s row why)) (noted_end s row why) refl refl
    (λ n is. beside_stays (all_stepped s (changes_at_end s row why)) n is (noted_end s row why).table refl refl)
    (subst (λ (changes : List Change). HeadersAreNamed (all_stepped s changes)) (sym parts)
    (spared_headers behind (stepped s over) (without_job row.number s.table.jobs) (end_spares s.table h j row here (outcome_of why)) steps.1
    (headers_change s over (λ other none. none) (λ other node at is image. tt) named)))
  where
    over : Change
    over = change.EndJob row.number row.slot (drops_aside (outcome_of why) row.bitmap)

    behind : List Change
    behind = behind_over s.table h j row here (outcome_of why)

    parts : changes_at_end s row why ≡ over ∷ behind
    parts = end_is s.table row (outcome_of why)

    steps : AllSteps s (over ∷ behind)
    steps = subst (AllSteps s) parts (end_steps s h j row here why)

pub ended_headers : (s : State) (number : ℕ) (why : JobEnd) → TableStands s.table → JobsStand s.table → HeadersAreNamed s
    → HeadersAreNamed (ended s (job_at s.table number) why)
ended_headers s number why h j named = by_found (job_at s.table number) refl
  where
    by_found : (found : Option JobRecord) → job_at s.table number ≡ found → HeadersAreNamed (ended s found why)
    by_found None e = named
    by_found (Some row) e = end_headers s row why h j (find-Some (λ (job : JobRecord). job.number == number) s.table.jobs row e).0 named

pub ready_headers : (s : State) (number : ℕ) → HeadersAreNamed s → HeadersAreNamed (readied number s)
ready_headers s number h = by_found (job_at s.table number)
  where
    by_found : (found : Option JobRecord) → HeadersAreNamed (readied_by s found)
    by_found None = h
    by_found (Some row) = headers_change s (change.ReadyJob row.number) (λ other none. none) (λ other node here is image. tt) h

-- ---- entries beside jobs

same_headers : (s now : State) → now.named ≡ s.named → now.table ≡ s.table → HeadersAreNamed s → HeadersAreNamed now
same_headers s now named table =
    headers_beside s now named (ap (λ (t : RunTable). t.jobs) table)
    (λ n is. beside_stays s n is now.table (ap (λ (t : RunTable). t.nodes) table) (ap (λ (t : RunTable). t.edges) table))

unleft_headers : (name : Option (List ℕ)) (s : State) → HeadersAreNamed s → HeadersAreNamed (unleft name s)
unleft_headers None s h = h
unleft_headers (Some name) s h = same_headers s (unleft (Some name) s) refl refl h

pub started_headers : (s : State) (row : Option JobRecord) → HeadersAreNamed s → HeadersAreNamed (started s row)
started_headers s None h = h
started_headers s (Some row) h = unleft_headers _ (noted_start s row) (same_headers s (noted_start s row) refl refl h)

written_headers : (s : State) (node : ℕ) → HeadersAreNamed s → HeadersAreNamed (node_written node s)
unfolding written_under
written_headers s node =
    headers_beside s (node_written node s) refl refl
    (λ n is. mapped_stays s n is (node_written node s).table (λ r. is_over s.table node r.id) (λ r. record r { is_settled = false })
    (λ row. record { id = refl; kind = refl; filename = refl }) refl (λ m. refl))

note_headers : (s : State) (outcome : Outcome) (part : Extent) (drive : ℕ) → HeadersAreNamed s → HeadersAreNamed (note outcome part drive s)
note_headers s outcome part drive h = by_flag (is_noted outcome)
  where
    marked : State
    marked = record s { dirty = noted s.table part s.dirty (path s.table drive) }

    by_flag : (b : Bool) → HeadersAreNamed (cond b marked s)
    by_flag true = same_headers s marked refl refl h
    by_flag false = h

read_headers : (s : State) (drive : ℕ) → HeadersAreNamed s → HeadersAreNamed (read_through drive s)
read_headers s drive h = by_flag (copies_through s.table drive)
  where
    less : State
    less = record s { images = map (unsure (disk_node s.table drive ∷ [])) s.images }

    by_flag : (b : Bool) → HeadersAreNamed (cond b less s)
    by_flag true = same_headers s less refl refl h
    by_flag false = h

pub piece_headers : (s : State) (drive : ℕ) (op : Op) (outcome : Outcome) (part : Extent) → HeadersAreNamed s
    → HeadersAreNamed (with_part drive op outcome part s)
piece_headers s drive op outcome part h = by_op op
  where
    node : ℕ
    node = disk_node s.table drive

    done : Op → State
    done x = with_disk node (done_in x part (done_by outcome part)) s

    done_headers : (x : Op) → HeadersAreNamed (done x)
    done_headers x = same_headers s (done x) refl refl h

    by_op : (x : Op) → HeadersAreNamed (with_part drive x outcome part s)
    by_op (Read span) = read_headers (done (Read span)) drive (done_headers (Read span))
    by_op (Write span payload) =
        note_headers (node_written node (done (Write span payload))) outcome part drive
        (written_headers (done (Write span payload)) node (done_headers (Write span payload)))
    by_op (Zero span) = note_headers (node_written node (done (Zero span))) outcome part drive (written_headers (done (Zero span)) node (done_headers (Zero span)))
    by_op (Discard span) = done_headers (Discard span)
    by_op Flush = done_headers Flush

flight_headers : (drive : Option ℕ) (flight : Option Flight) (k : ℕ) (outcome : Outcome) (s : State) → HeadersAreNamed s
    → HeadersAreNamed (with_piece drive flight k outcome s)
flight_headers (Some drive) (Some f) k outcome s h = piece_headers s drive f.op outcome (piece f.op k) h
flight_headers (Some drive) None k outcome s h = h
flight_headers None flight k outcome s h = h

pub other_headers : (s : State) (e : Event) → leaves_jobs e ≡ true → HeadersAreNamed s → HeadersAreNamed (after s e)
other_headers s (Admit g r op) leaves h = same_headers s (after s (Admit g r op)) refl refl h
other_headers s (Refuse g r op why) leaves h = same_headers s (after s (Refuse g r op why)) refl refl h
other_headers s (Piece g r k outcome got) leaves h =
    let done : State = with_piece (drive_of s.table g) (flight_of s g) k outcome s in
    same_headers done (after s (Piece g r k outcome got)) refl refl (flight_headers (drive_of s.table g) (flight_of s g) k outcome s h)
other_headers s (Retire g r) leaves h = same_headers s (after s (Retire g r)) refl refl h
other_headers s (Reached line what) leaves h = h
other_headers s (Done actor) leaves h = same_headers s (after s (Done actor)) refl refl h
other_headers s (Reply line given command text) leaves h = absurd cc
other_headers s (Start job) leaves h = absurd cc
other_headers s (Ready job) leaves h = absurd cc
other_headers s (End job outcome offset) leaves h = absurd cc

-- ---- what begins

-- the file of a qcow2 node that may be written was named where the nodes were added
pub writable_named : (s : State) (node : ℕ) → Stands s → IsWritableImage s.table node → IsNamedImage s node
writable_named s node h w = record { image = image; named = named }
  where
    image : is_qcow2_at s.table node ≡ true
    image = ap is_image_row w.found ∙ ap is_qcow2 w.driver

    named : (name : List ℕ) → written_file s.table node ≡ Some name → has_name name s.named ≡ true
    named name file =
        let of = image_in_file s.table h.table.apart h.table.drivers node name image file in
        let at = find-Some (λ (r : NodeRecord). r.id == node) s.table.nodes w.row w.found in
        let leads : LeadsToFile s.table w.row of.under = record {
          over_there = at.0;
          under_there = of.there;
          edge = of.edge;
          there = of.edge_there;
          parent = of.parent ∙ ap Node (sym (eqb-true w.row.id node at.1));
          role = of.role;
          child = of.to;
        } in
        let under = h.table.taken w.row of.under leads (subst IsSome (sym of.filename) refl) (ap filter_role w.driver) in
        h.writing.named name of.under (record { there = of.there; filename = of.filename }) (under.writable w.writable)

-- the overlay above the top of a commit is one
backed : (kind : Kind) → has_role kind Backing ≡ true → is_qcow2 kind ≡ true
backed driver.Qcow2 h = refl
backed driver.Protocol h = absurd cc
backed driver.Raw h = absurd cc
backed driver.CopyOnRead h = absurd cc
backed driver.BeforeWrite h = absurd cc
backed driver.Mirror h = absurd cc
backed driver.Commit h = absurd cc

backed_image : (t : RunTable) → TableStands t → (overlay top : ℕ) → child t overlay Backing ≡ Some top → is_qcow2_at t overlay ≡ true
backed_image t h overlay top is =
    let e = role_edge (Node overlay) Backing t.edges top is in
    by_row (node_by_id t overlay) refl ((h.edges e.edge e.there).parent overlay e.from)
  where
    by_row : (found : Option NodeRecord) → node_by_id t overlay ≡ found → IsSome found → is_qcow2_at t overlay ≡ true
    by_row None f some = absurd cc
    by_row (Some row) f some =
        let e = role_edge (Node overlay) Backing t.edges top is in
        let at = find-Some (λ (r : NodeRecord). r.id == overlay) t.nodes row f in
        let role = h.roles e.edge row e.there at.0 (e.from ∙ ap Node (sym (eqb-true row.id overlay at.1))) in
        ap is_image_row f ∙ backed row.kind (subst (λ r. has_role row.kind r ≡ true) e.role_is role)

overlay_image : (t : RunTable) → TableStands t → (ids : List ℕ) (top node : ℕ) → IsOverTop t ids top → slice_get ids 0 ≡ Some node → is_qcow2_at t node ≡ true
overlay_image t h [] top node over is = absurd cc
overlay_image t h (overlay ∷ ids) top node over is =
    let same : overlay ≡ node = (let both : Some overlay ≡ Some node = is in cc both) in
    subst (λ n. is_qcow2_at t n ≡ true) same (backed_image t h overlay top over.0)

-- its file is what the start names
overlay_is : (t : RunTable) (row : JobRecord) (node : ℕ) (name : List ℕ) → is_qcow2_at t node ≡ true → slice_get row.read 0 ≡ Some node
    → written_file t node ≡ Some name → overlay_file t row Commit ≡ Some name
overlay_is t row node name image first file = by_read row.read first
  where
    under : option_and_then (filename_of t) (child t node File) ≡ Some name
    under =
        let r = qcow2_row t node image in
        let id : r.0.id ≡ node = eqb-true r.0.id node (find-Some (λ (x : NodeRecord). x.id == node) t.nodes r.0 r.1).1 in
        subst (λ n. option_and_then (filename_of t) (child t n File) ≡ Some name) id
        (sym (ap (own_filename t r.0) r.2) ∙ sym (ap (option_and_then (λ (x : NodeRecord). own_filename t x x.kind)) r.1) ∙ file)

    by_read : (ids : List ℕ) → slice_get ids 0 ≡ Some node → overlay_file t (record row { read = ids }) Commit ≡ Some name
    by_read [] is = absurd cc
    by_read (overlay ∷ ids) is =
        let same : overlay ≡ node = (let both : Some overlay ≡ Some node = is in cc both) in
        subst (λ n. option_and_then (filename_of t) (child t n File) ≡ Some name) (sym same) under

named_if : (found : Option (List ℕ)) (name : List ℕ) (s : State) → found ≡ Some name → has_name name (name_if found s).named ≡ true
named_if None name s is = absurd cc
named_if (Some other) name s is =
    let same : other ≡ name = (let both : Some other ≡ Some name = is in cc both) in
    subst (λ n. has_name n (name_if (Some other) s).named ≡ true) same (has_name-own other s.named)

-- ---- starts

steps-split : (a b : List Change) (s : State) → AllSteps s (a ++ b) → AllSteps s a × AllSteps (all_stepped s a) b
steps-split [] b s h = (tt, h)
steps-split (c ∷ a) b s h = let rest = steps-split a b (stepped s c) h.1 in ((h.0, rest.0), rest.1)

stepped-append : (s : State) (a b : List Change) → all_stepped s (a ++ b) ≡ all_stepped (all_stepped s a) b
stepped-append s [] b = refl
stepped-append s (c ∷ a) b = stepped-append (stepped s c) a b

module _ (s : State) (row : JobRecord) (h : Stands s) (j : JobsStand s.table) (r : JobsRun s.table) (b : Begins s.table row)
    (begins : HeaderBegins s.table row row.kind) (named : HeadersAreNamed s) where
  abbrev parts : StartParts s.table row row.target (start_edits s.table row)
  parts = start_parts s.table h.table j r row b.job b.run

  abbrev ahead : List Change
  ahead = file_used s.table row.target ++ parts.rest

  abbrev now : State
  now = all_stepped s ahead

  abbrev starts : Change
  starts = change.StartJob row

  steps : AllSteps s ahead × AllSteps now (starts ∷ parts.tail)
  steps = steps-split ahead (starts ∷ parts.tail) s (subst (AllSteps s) parts.is (start_steps s row b.job h.table))

  own : (node : ℕ) (k : JobKind) → row.kind ≡ k → HeaderBegins s.table row k → BeginsByKind s.table row k → rebased_by row k ≡ Some node
      → IsNamedImage (stepped now starts) node
  own node Stream e image shape is =
      let same : row.source ≡ node = (let both : Some row.source ≡ Some node = is in cc both) in
      image_kept now starts node tt (images_kept ahead s node steps.0 (subst (IsNamedImage s) same (writable_named s row.source h image)))
  own node Commit e image shape is =
      let at : is_qcow2_at now.table node ≡ true = qcow2_kept ahead s node steps.0 (overlay_image s.table h.table row.read row.source node shape.overlay is) in
      let still = stays now node at starts tt in
      record {
        image = still.image;
        named = λ name file.
            named_if (overlay_file now.table row row.kind) name now
            (ap (overlay_file now.table row) e ∙ overlay_is now.table row node name at is (still.file name file));
      }
  own node Mirror e image shape is = absurd cc
  own node Backup e image shape is = absurd cc

  begun_headers : HeadersAreNamed (stepped now starts)
  begun_headers =
      headers_by now (stepped now starts)
      (λ other node here is. elim (had_header now.table starts other here) [
        | inl had ↦ inl had
        | inr new ↦ inr (own node row.kind refl begins b.job.shape (subst (λ (x : JobRecord). rebased_by x x.kind ≡ Some node) new is))
      ])
      (λ other node here is. image_kept now starts node tt) (spared_headers ahead s s.table.jobs parts.old steps.0 named)

  pub start_headers : HeadersAreNamed (all_stepped s (start_edits s.table row))
  start_headers =
      subst (λ (changes : List Change). HeadersAreNamed (all_stepped s changes)) (sym parts.is)
      (subst HeadersAreNamed (sym (stepped-append s ahead (starts ∷ parts.tail)))
      (spared_headers parts.tail (stepped now starts) [] (parts.behind []) steps.1.1 begun_headers))

-- ---- commands

qcow2_kind : (kind : Kind) → takes drivers.Qcow2 kind ≡ true → kind ≡ driver.Qcow2
qcow2_kind driver.Qcow2 h = refl
qcow2_kind driver.Protocol h = absurd cc
qcow2_kind driver.Raw h = absurd cc
qcow2_kind driver.CopyOnRead h = absurd cc
qcow2_kind driver.BeforeWrite h = absurd cc
qcow2_kind driver.Mirror h = absurd cc
qcow2_kind driver.Commit h = absurd cc

-- a stream is accepted on a qcow2 node that may be written
pub stream_image : (t : RunTable) (told : Told) (c : StreamCommand (List ℕ)) → TableStands t → IsMet t told (command.BlockStream c)
    → IsWritableImage t (stream_job t c).source
unfolding asks_of
stream_image t told c h met = by_row (found-named t told c.device asks.0)
  where
    front : List Asking
    front = on_error_value (codes "on-error") c.on_error ∷ job_values c.options ++ stream_names c

    asks : NoneHolds t told (stream_rest c)
    asks = none-behind t told front (stream_rest c) (none-holds t told (asks_of (command.BlockStream c)) met.asks)

    by_row : ((row : NodeRecord) × (node_named t c.device ≡ Some row)) → IsWritableImage t (id_or 0 t (Some c.device))
    by_row named =
        let row : NodeRecord = named.0 in
        let id : id_or 0 t (Some c.device) ≡ row.id = rw named.1 refl in
        record {
          row = row;
          found = ap (node_by_id t) id ∙ h.apart row (named-row t told h c.device row named.1).0;
          driver = qcow2_kind row.kind (takes-driver t told c.device drivers.Qcow2 row named.1 asks.1.1.1.1.0);
          writable = writable-node t told h c.device row named.1 asks.1.1.1.1.1.1.1.1.0;
        }

module _ (s : State) (told : Told) (h : Stands s) (d : JobsAreDrawn s.table) (named : HeadersAreNamed s) where
  pub stream_headers : (c : StreamCommand (List ℕ)) → IsMet s.table told (command.BlockStream c)
      → HeadersAreNamed (all_stepped s (start_edits s.table (stream_job s.table c)))
  stream_headers c met =
      start_headers s (stream_job s.table c) h d.jobs.stand d.jobs.run (met_stream s.table told c h.table d.jobs.stand d.jobs.run met)
      (stream_image s.table told c h.table met) named

  pub commit_headers : (c : CommitCommand (List ℕ)) → IsMet s.table told (command.BlockCommit c)
      → HeadersAreNamed (all_stepped s (start_edits s.table (commit_job s.table c)))
  commit_headers c met =
      start_headers s (commit_job s.table c) h d.jobs.stand d.jobs.run (met_commit_begins s.table told c h.table d met) tt named

  begun : (exp : Told) (c : Cmd) → begins_job c ≡ true → unbuilt c ≡ None → IsMet s.table told c
      → HeadersAreNamed (all_stepped s (command_edits s.table exp c))
  unfolding edits_of
  begun exp (command.BlockdevBackup c) begins is met =
      start_headers s (backup_job s.table None c) h d.jobs.stand d.jobs.run (met_backup s.table told c h.table d.jobs.stand d.jobs.run met) tt named
  begun exp (command.BlockdevMirror c) begins is met =
      start_headers s (mirror_job s.table c) h d.jobs.stand d.jobs.run (met_mirror s.table told c h.table d.jobs.stand d.jobs.run d.edges met) tt named
  begun exp (command.BlockStream c) begins is met = stream_headers c met
  begun exp (command.BlockCommit c) begins is met = commit_headers c met
  begun exp _ begins is met = absurd cc

pub accepted_headers : (s : State) (told exp : Told) (c : Cmd) → StandsAtRest s → JobsAreDrawn s.table → refusal_to s.table told c ≡ None
    → HeadersAreNamed s → HeadersAreNamed (all_stepped s (command_edits s.table exp c))
accepted_headers s told exp c rests d quiet named = by_start (begins_job c) refl
  where
    table : TableAtRest s.table
    table = record { stands = rests.stands.table; inline = rests.inline }

    by_start : (b : Bool) → begins_job c ≡ b → HeadersAreNamed (all_stepped s (command_edits s.table exp c))
    by_start true begins = let met = accepted_met s.table told c quiet in begun s told rests.stands d named exp c begins met.0 met.1
    by_start false begins = elim (accepted_leave s.table told exp c begins table d.jobs.stand quiet) [
      | inl l ↦ leaving_headers (command_edits s.table exp c) s rests.stands.table d.jobs.stand l.0 l.1.0 named
      | inr of ↦
          subst (λ (changes : List Change). HeadersAreNamed (all_stepped s changes)) (sym of.is)
          (snapshot_headers s of.node of.overlay rests.stands.table
          (subst (AllTableSuit s.table) of.is (command_rests s.table told exp c begins table quiet).0) named)
    ]

pub stream_edits : (s : State) (told : Told) (c : StreamCommand (List ℕ)) → Stands s → JobsAreDrawn s.table → IsMet s.table told (command.BlockStream c)
    → HeadersAreNamed s → HeadersAreNamed (all_stepped s (edits_of s.table told (command.BlockStream c)))
unfolding edits_of
stream_edits s told c h d met named = stream_headers s told h d named c met

pub commit_edits : (s : State) (told : Told) (c : CommitCommand (List ℕ)) → Stands s → JobsAreDrawn s.table → IsMet s.table told (command.BlockCommit c)
    → HeadersAreNamed s → HeadersAreNamed (all_stepped s (edits_of s.table told (command.BlockCommit c)))
unfolding edits_of
commit_edits s told c h d met named = commit_headers s told h d named c met
