-- The world behind the changes of an accepted backup or mirror: its parts belong together, its filter reads as its source, and all else as before.
use Rattle.std.proofs.Common.{◌≡◌, ◌≢◌, ℕ, ◌<◌, ◌+◌, ◌==◌, Bool, true, false, cond, List, [], ◌∷◌, ◌++◌, map, length, refl, sym, ◌∙◌, ap, subst, Option, Some, None}
use Rattle.std.specs.Prelude.{Contains, codes, find, option_and_then, option_map, unwrap_or}
use Rattle.std.proofs.lemmas.Bool.{eqb-true}
use Rattle.std.proofs.lemmas.List.Elements.{All-cons, All-head, All-nil}
use Rattle.blk_graph.specs.Graph.{NodeRow}
use Rattle.blk_graph.specs.declared.kind.JobUse.TheVariants.{CopyTarget}
use Rattle.blk_graph.proofs.Members.{Contains-here, Contains-there, find-Some}
use Rattle.blk_history.specs.Fold.{With}
use Rattle.blk_nodes.specs.Adding.{filtering_row, with_node_row}
use Rattle.blk_nodes.specs.Contents.{Unfolds, disk_of}
use Rattle.blk_nodes.specs.Joined.{IsJoined}
use Rattle.blk_nodes.specs.Nodes.{DeviceSeen, Nodes, device_in, filter_kind}
use Rattle.blk_nodes.specs.Rewiring.{AreReadings, rewired}
use Rattle.qmp_codec.specs.declared.event.JobKind.{JobKind}
use Rattle.qmp_codec.specs.declared.event.JobKind.TheVariants.{Backup, Commit, Mirror, Stream}
use Rattle.qmp_rules.specs.Answers.{command_edits, refusal_to}
use Rattle.qmp_rules.specs.Asks.{stands_for}
use Rattle.qmp_rules.specs.Changes.{all_changed, busy_by, node_changed, unsettled}
use Rattle.qmp_rules.specs.Edits.{device_uses, file_uses, filter_edits, filter_row, free_id, of_row, start_edits, target_edits, uses_target}
use Rattle.qmp_rules.specs.Asks.{is_file}
use Rattle.qmp_rules.specs.Queries.{bytes_of_node}
use Rattle.qmp_rules.specs.Table.{RunTable, id_named, kinds_of, node_by_id}
use Rattle.qmp_rules.specs.declared.change.Change.{Change}
use Rattle.qmp_rules.specs.declared.change.Change.TheVariants.{PutFilter, StartJob, Unsettle, UseNode}
use Rattle.qmp_rules.specs.declared.rows.JobRecord.{JobRecord}
use Rattle.qmp_rules.specs.declared.rows.NodeRecord.{NodeRecord}
use Rattle.qmp_rules.specs.declared.told.Told.{Told}
use Rattle.flat_machine.specs.Changed.{all_stepped, stepped}
use Rattle.flat_machine.specs.Marks.{AreCalm, IsCalm, start_marks}
use Rattle.flat_machine.specs.Performing.{AllPerformed}
use Rattle.flat_machine.specs.State.{Guest, State, filename_of}
use Rattle.flat_machine.specs.Suiting.{AllSuit, AllTableSuit, IsAlone, IsPlainNode, Suits, SuitsPut}
use Rattle.flat_machine.specs.Wiring.{TableAtRest, TableStands}
use Rattle.flat_machine.proofs.Finds.{find-map}
use Rattle.flat_machine.proofs.Resting.{stepped_table}
use Rattle.flat_machine.proofs.TableRests.{all_keep}
use Rattle.job_commands.specs.Begun.{CopyCmd, cmd_of, copy_job}
use Rattle.job_entries.specs.Starts.{ShowsFilter}
use Rattle.job_entries.proofs.Commands.{accepted_at_rest}
use Rattle.job_entries.proofs.StartSuits.{start_suits}
use Rattle.job_entries.proofs.Starting.{filter_list, start_performed}
use Rattle.job_tables.specs.Accepted.{Begins, IsMet, JobsAreDrawn}
use Rattle.job_tables.specs.Copiers.{CopierBegins}
use Rattle.job_tables.specs.Starts.{CopyBegins, JobBegins}
use Rattle.job_tables.proofs.Ended.{all_changed-append}
use Rattle.job_tables.proofs.StartCommands.{accepted_met}
use Rattle.world_parts.specs.Coherent.{AreNodesOf, AreOut, IsCoherent, IsWholeWorld}
use Rattle.world_parts.specs.Face.{WorldSeen, contents_of, held, held_in_file, node_over}
use Rattle.world_parts.specs.Guests.{GuestsStand}
use Rattle.world_parts.specs.Jobs.{PutsFilter}
use Rattle.world_parts.specs.Tabling.{tabled}
use Rattle.world_parts.proofs.DrawnEdges.{drawn_by_nodes}
use Rattle.world_parts.proofs.GuestsKept.{guests_stand}
use Rattle.world_goings.proofs.CopyStarts.{command_starts, copier_begins, copy_begins, copy_shape, driver_of, new_copy, start_copies}
use Rattle.world_goings.proofs.StartGuests as guests
use Rattle.world_goings.proofs.StartNodes as nodes
use Rattle.world_goings.proofs.StartReads as reading
use Rattle.world_goings.proofs.StartTables.{IsLost, IsPutTable, lost_target, put_table, row_lost}

-- ---- changes one after another

suits_at : (pre post : List Change) (c : Change) (s : State) → AllSuit s (pre ++ c ∷ post) → Suits (all_stepped s pre) c
suits_at [] post c s suit = suit.0
suits_at (x ∷ pre) post c s suit = suits_at pre post c (stepped s x) suit.1

lost_suits : (t : RunTable) (target : ℕ) (found : Option NodeRecord) → AllTableSuit t (of_row device_uses found ++ Unsettle target ∷ [])
lost_suits t target None = (tt, tt)
lost_suits t target (Some row) = by_file (is_file row) row.filename
  where
    by_file : (b : Bool) (name : Option (List ℕ)) → AllTableSuit t (cond b (file_uses name) [] ++ Unsettle target ∷ [])
    by_file true (Some name) = (tt, (tt, tt))
    by_file true None = (tt, tt)
    by_file false name = (tt, tt)

-- ---- rows that stand for a file

module _ (name : List ℕ) (target : ℕ) (new : NodeRecord) (unnamed : new.filename ≡ None) where
  stands_new : stands_for name new ≡ false
  stands_new = rw unnamed refl

  stands_lost : (row : NodeRecord) → stands_for name (node_changed target unsettled row) ≡ stands_for name row
  stands_lost row = row_lost target (stands_for name) (λ r. refl) row

  find_none : (rows : List NodeRecord) → find (stands_for name) (rows ++ new ∷ []) ≡ find (stands_for name) rows
  find_none [] = rw stands_new refl
  find_none (row ∷ rows) = by_test (stands_for name row) (find_none rows)
    where
      by_test : (b : Bool) → find (stands_for name) (rows ++ new ∷ []) ≡ find (stands_for name) rows
          → cond b (Some row) (find (stands_for name) (rows ++ new ∷ [])) ≡ cond b (Some row) (find (stands_for name) rows)
      by_test true rest = refl
      by_test false rest = rest

  over_put : (rows : List NodeRecord) → option_map (λ (r : NodeRecord). r.id) (find (stands_for name) (map (node_changed target unsettled) rows ++ new ∷ []))
      ≡ option_map (λ (r : NodeRecord). r.id) (find (stands_for name) rows)
  over_put rows =
      ap (option_map (λ (r : NodeRecord). r.id)) (find_none (map (node_changed target unsettled) rows) ∙ find-map (stands_for name) (node_changed target unsettled) stands_lost rows)
      ∙ by_found (find (stands_for name) rows)
    where
      by_found : (found : Option NodeRecord) → option_map (λ (r : NodeRecord). r.id) (option_map (node_changed target unsettled) found) ≡ option_map (λ (r : NodeRecord). r.id) found
      by_found None = refl
      by_found (Some r) = ap Some (row_lost target (λ (x : NodeRecord). x.id) (λ x. refl) r)

-- ---- the start of a backup or a mirror

module _ (w : WorldSeen) (u : RunTable) (next : Nodes) (told exp : Told) (c : CopyCmd) (whole : IsWholeWorld w) (joined : IsJoined w.nodes)
    (none : refusal_to w.table told (cmd_of c) ≡ None) (table_is : u ≡ all_changed w.table (command_edits w.table exp (cmd_of c)))
    (puts : PutsFilter u (copy_job w.table c) w.nodes next) (joined_next : IsJoined next) where
  abbrev t : RunTable
  t = w.table

  abbrev job : JobRecord
  job = copy_job t c

  stands : TableStands t
  stands = whole.coherent.table.stands

  pub met : IsMet t told (cmd_of c)
  met = (accepted_met t told (cmd_of c) none).1

  pub drawn : JobsAreDrawn t
  drawn =
      let x = drawn_by_nodes t w.nodes stands.apart whole.coherent.alike joined in
      record { jobs = record { stand = whole.jobs.stand; run = whole.jobs.run }; edges = x.0; small = x.1 }

  pub begins : Begins t job
  begins = copy_begins t told stands whole.jobs.stand whole.jobs.run drawn.edges c met

  pub copy : CopyBegins t job
  copy = copy_shape t c begins.job

  held_source : Contains (job.held ++ job.read) job.source
  held_source = subst (λ (xs : List ℕ). Contains (xs ++ job.read) job.source) (sym copy.held) (Contains-here job.source (copy.target ∷ job.read))

  plain : IsPlainNode t job.source
  plain = begins.job.plain job.source held_source

  new : NodeRecord
  new = filter_row t (driver_of c) job.id plain.row

  source_id : plain.row.id ≡ job.source
  source_id = eqb-true plain.row.id job.source (find-Some (λ (r : NodeRecord). r.id == job.source) t.nodes plain.row plain.there).1

  -- ---- its changes

  abbrev pre : List Change
  pre = target_edits t (Some copy.target)

  abbrev post : List Change
  post = StartJob job ∷ UseNode job.slot CopyTarget copy.target ∷ []

  starts_are : start_edits t job ≡ pre ++ PutFilter (filter_row t (driver_of c) job.id plain.row) plain.row.id ∷ post
  starts_are =
      start_copies t c
      ∙ ap (λ (target : Option ℕ). target_edits t target ++ filter_edits t (driver_of c) job ++ StartJob job ∷ uses_target job target) copy.is_target
      ∙ filter_list t job (driver_of c) plain pre post

  edits_are : command_edits t exp (cmd_of c) ≡ pre ++ PutFilter (filter_row t (driver_of c) job.id plain.row) plain.row.id ∷ post
  edits_are = command_starts t exp c ∙ starts_are

  pub record IsStartList : Type 0 where
    pub filter : NodeRecord
    pub source : ℕ
    pub target : ℕ
    pub is : start_edits w.table (copy_job w.table c)
        ≡ (of_row device_uses (node_by_id w.table target) ++ Unsettle target ∷ [])
        ++ PutFilter filter source ∷ StartJob (copy_job w.table c) ∷ UseNode (copy_job w.table c).slot CopyTarget target ∷ []

  pub start_list : IsStartList
  start_list = record { filter = filter_row t (driver_of c) job.id plain.row; source = plain.row.id; target = copy.target; is = starts_are }

  abbrev lost : RunTable
  lost = all_changed t pre

  lost_is : IsLost t lost copy.target
  lost_is = lost_target t copy.target (node_by_id t copy.target)

  lost_stands : TableStands lost
  lost_stands = all_keep pre t (lost_suits t copy.target (node_by_id t copy.target)) stands

  put_suits : SuitsPut lost (filter_row t (driver_of c) job.id plain.row) plain.row.id
  put_suits =
      subst (λ (x : RunTable). SuitsPut x (filter_row t (driver_of c) job.id plain.row) plain.row.id) (stepped_table pre (tabled t []))
      (suits_at pre post (PutFilter (filter_row t (driver_of c) job.id plain.row) plain.row.id) (tabled t [])
      (subst (AllSuit (tabled t [])) starts_are (start_suits (tabled t []) stands whole.jobs.stand drawn.edges job begins.job (new_copy t c).lends)))

  table_parts : u ≡ all_changed lost (PutFilter (filter_row t (driver_of c) job.id plain.row) plain.row.id ∷ post)
  table_parts =
      table_is ∙ ap (all_changed t) edits_are ∙ all_changed-append t pre (PutFilter (filter_row t (driver_of c) job.id plain.row) plain.row.id ∷ post)

  put : IsPutTable t u (filter_row t (driver_of c) job.id plain.row) job.source copy.target job
  put =
      subst (λ (x : RunTable). IsPutTable t x (filter_row t (driver_of c) job.id plain.row) job.source copy.target job) (sym table_parts)
      (subst (λ (n : ℕ). IsPutTable t (all_changed lost (PutFilter (filter_row t (driver_of c) job.id plain.row) plain.row.id ∷ post)) (filter_row t (driver_of c) job.id plain.row) n copy.target job)
      source_id
      (put_table t lost copy.target lost_is (filter_row t (driver_of c) job.id plain.row) plain.row.id job put_suits lost_stands))

  rests : TableAtRest u
  rests = subst TableAtRest (sym table_is) (accepted_at_rest t told exp (cmd_of c) whole.coherent.table drawn none)

  -- ---- its filter in the nodes

  fresh : node_by_id t (free_id t) ≡ None
  fresh = copy.filter.fresh

  found_own : node_by_id u (free_id t) ≡ Some (filter_row t (driver_of c) job.id plain.row)
  found_own = nodes.found_own t u (filter_row t (driver_of c) job.id plain.row) job.source copy.target job put rests.stands.apart

  node_is : puts.node ≡ filter_row t (driver_of c) job.id plain.row
  node_is =
      let there : node_by_id u (free_id t) ≡ Some puts.node = subst (λ (filter : Option ℕ). With filter (λ id. node_by_id u id ≡ Some puts.node)) copy.filter.filter puts.there in
      let both : Some puts.node ≡ Some (filter_row t (driver_of c) job.id plain.row) = sym there ∙ found_own in
      cc both

  of_kind : (filter_row t (driver_of c) job.id plain.row).kind ≡ filter_kind puts.kind
  of_kind = ap (λ (r : NodeRecord). r.kind) (sym node_is) ∙ puts.of_kind

  nodes_are : next ≡ rewired (kinds_of u.nodes) u.edges
      (with_node_row w.nodes (free_id t) (filter_row t (driver_of c) job.id plain.row).name (filtering_row puts.kind plain.row.size plain.row.read_only))
  nodes_are =
      puts.are
      ∙ ap (λ (r : NodeRecord). rewired (kinds_of u.nodes) u.edges (with_node_row w.nodes r.id r.name (filtering_row puts.kind r.size r.read_only))) node_is

  small : free_id t < 64
  small = joined_next.sound.small (free_id t) (subst (λ (ns : Nodes). Contains (map (λ (r : NodeRow). r.id) ns.graph.nodes) (free_id t)) (sym nodes_are) (last w.nodes.graph.nodes))
    where
      last : (rows : List NodeRow) → Contains (map (λ (r : NodeRow). r.id) (rows ++ record { id = free_id t; name = (filter_row t (driver_of c) job.id plain.row).name } ∷ [])) (free_id t)
      last [] = Contains-here (free_id t) []
      last (r ∷ rows) =
          Contains-there r.id (map (λ (r : NodeRow). r.id) (rows ++ record { id = free_id t; name = (filter_row t (driver_of c) job.id plain.row).name } ∷ [])) (free_id t) (last rows)

  alike : AreNodesOf u next
  alike =
      subst (AreNodesOf u) (sym nodes_are)
      (nodes.put_alike t u (filter_row t (driver_of c) job.id plain.row) job.source copy.target job put fresh stands plain refl rests.stands.apart w.nodes joined whole.coherent.alike
      puts.kind of_kind small)

  source_other : job.source ≢ free_id t
  source_other same =
      let bad : Some plain.row ≡ None = sym plain.there ∙ ap (node_by_id t) same ∙ fresh in
      let no : ⊥ = cc bad in
      no

  -- ---- the parts

  targets_alone : CopierBegins t job
  targets_alone = copier_begins t told stands whole.jobs.stand whole.jobs.run c met

  alone : IsAlone t copy.target
  alone = (targets_alone copy.target ((new_copy t c).copied ∙ copy.is_target)).alone

  stand : GuestsStand u w.progress.guests
  stand =
      guests.guests_put t u (filter_row t (driver_of c) job.id plain.row) job.source copy.target job put fresh stands plain refl alone
      (nodes.found_other t u (filter_row t (driver_of c) job.id plain.row) job.source copy.target job put) found_own w.progress.guests
      (guests_stand t w.nodes w.opened w.progress whole.coherent)

  over_same : (name : List ℕ) → node_over u name ≡ node_over t name
  over_same name =
      ap (λ (rows : List NodeRecord). option_map (λ (r : NodeRecord). r.id) (find (stands_for name) rows)) put.rows
      ∙ over_put name copy.target (filter_row t (driver_of c) job.id plain.row) refl t.nodes

  filename_then : (n : ℕ) (name : List ℕ) → filename_of t n ≡ Some name → filename_of u n ≡ Some name
  filename_then n name is = by_row (node_by_id t n) refl is
    where
      by_row : (found : Option NodeRecord) → node_by_id t n ≡ found → option_and_then (λ (r : NodeRecord). r.filename) found ≡ Some name → filename_of u n ≡ Some name
      by_row None e bad = absurd (let no : ⊥ = cc bad in no)
      by_row (Some r) e named =
          let apart : n ≢ free_id t = λ same. (
          let bad : Some r ≡ None = sym e ∙ ap (node_by_id t) same ∙ fresh in
          let no : ⊥ = cc bad in no) in
          ap (option_and_then (λ (r : NodeRecord). r.filename))
          (nodes.found_other t u (filter_row t (driver_of c) job.id plain.row) job.source copy.target job put n apart ∙ ap (option_map (node_changed copy.target unsettled)) e)
          ∙ row_lost copy.target (λ (x : NodeRecord). x.filename) (λ x. refl) r ∙ named

  devices_same : next.devices ≡ w.nodes.devices
  devices_same = ap (λ (ns : Nodes). ns.devices) nodes_are

  out : AreOut u next w.opened
  out = subst (λ (devices : List DeviceSeen). AreOut u (record next { devices = devices }) w.opened) (sym devices_same) (record {
    each = λ device there.
        let is = whole.coherent.out.each device there in
        record {
          opening = is.opening;
          there = is.there;
          out = is.out;
          named = filename_then device.node is.opening.name is.named;
          capacity = is.capacity;
          faults = is.faults;
        };
    once = whole.coherent.out.once;
    order = whole.coherent.out.order;
    all = whole.coherent.out.all;
    names = whole.coherent.out.names;
  })

  pub start_coherent : IsCoherent u next w.opened w.progress
  start_coherent = record {
    table = rests;
    drives = stand.drives;
    disks = stand.disks;
    alike = alike;
    asks = stand.asks;
    writable = stand.writable;
    within = stand.within;
    allowed = stand.allowed;
    count = whole.coherent.count ∙ ap length (sym put.guests);
    out = out;
  }

  pub names_kept : u.guests ≡ t.guests
  names_kept = put.guests

  pub jobs_are : u.jobs ≡ w.table.jobs ++ copy_job w.table c ∷ []
  jobs_are = put.jobs

  pub started_is : u.started ≡ w.table.started + 1
  started_is = put.started

  pub bitmaps_are : u.bitmaps ≡ busy_by (copy_job w.table c).number (copy_job w.table c).bitmap (copy_job w.table c).source w.table.bitmaps
  bitmaps_are = put.bitmaps

  pub size_same : bytes_of_node u (copy_job w.table c).source ≡ bytes_of_node w.table (copy_job w.table c).source
  size_same =
      guests.size_then t u (filter_row t (driver_of c) job.id plain.row) job.source copy.target job put fresh stands plain refl alone
      (nodes.found_other t u (filter_row t (driver_of c) job.id plain.row) job.source copy.target job put) found_own job.source source_other

  -- no request is in flight on what its start marks still
  calm_source : (rows : List Guest) → IsCalm w.table rows (copy_job w.table c).source → IsCalm u rows (copy_job w.table c).source
  calm_source rows calm g row at on =
      calm g row at
      (sym
      (guests.guest_disk t u (filter_row t (driver_of c) job.id plain.row) job.source copy.target job put fresh stands plain refl alone
      (nodes.found_other t u (filter_row t (driver_of c) job.id plain.row) job.source copy.target job put) found_own g)
      ∙ on ∙ ap Some (put.disks job.source source_other))

  pub start_calm : (rows : List Guest) → AreCalm w.table rows (start_marks (copy_job w.table c) (copy_job w.table c).kind)
      → AreCalm u rows (start_marks (copy_job w.table c) (copy_job w.table c).kind)
  start_calm rows = by_kind (copy_job w.table c).kind
    where
      by_kind : (k : JobKind) → AreCalm w.table rows (start_marks (copy_job w.table c) k) → AreCalm u rows (start_marks (copy_job w.table c) k)
      by_kind Backup calm =
          All-cons (IsCalm u rows) (copy_job w.table c).source []
          (calm_source rows (All-head (IsCalm w.table rows) (copy_job w.table c).source [] calm)) (All-nil (IsCalm u rows))
      by_kind Mirror calm = All-nil (IsCalm u rows)
      by_kind Stream calm = All-nil (IsCalm u rows)
      by_kind Commit calm = All-nil (IsCalm u rows)

  -- ---- what nodes read, and files hold

  abbrev left : WorldSeen
  left = record w { table = u; nodes = next }

  module _ (unfolds : Unfolds w.nodes) where
    reads_then : (n : ℕ)
        → disk_of next n
        ≡ reading.reads t u (filter_row t (driver_of c) job.id plain.row) job.source copy.target job put fresh stands plain refl rests.stands.apart w.nodes joined whole.coherent.alike
        puts.kind of_kind small unfolds n
    reads_then =
        puts.reads
        (reading.reads t u (filter_row t (driver_of c) job.id plain.row) job.source copy.target job put fresh stands plain refl rests.stands.apart w.nodes joined whole.coherent.alike
        puts.kind of_kind small unfolds)
        (subst
        (λ (ns : Nodes). AreReadings ns (reading.reads t u (filter_row t (driver_of c) job.id plain.row) job.source copy.target job put fresh stands plain refl rests.stands.apart w.nodes
        joined whole.coherent.alike puts.kind of_kind small unfolds))
        (sym nodes_are)
        (reading.readings t u (filter_row t (driver_of c) job.id plain.row) job.source copy.target job put fresh stands plain refl rests.stands.apart w.nodes joined
        whole.coherent.alike puts.kind of_kind small unfolds))

    held_same : (name : List ℕ) → held left name ≡ held w name
    held_same name = ap (held_in_file left name) (over_same name) ∙ by_node (node_over t name)
      where
        by_node : (found : Option ℕ) → held_in_file left name found ≡ held_in_file w name found
        by_node None = refl
        by_node (Some n) = ap (λ (ds : List DeviceSeen). option_and_then (λ (d : DeviceSeen). d.content) (device_in ds n)) devices_same

    pub start_shows : ShowsFilter (copy_job w.table c) (contents_of w) (contents_of left)
    start_shows = record {
      nodes = λ node other.
          reads_then node
          ∙ reading.reads_other t u (filter_row t (driver_of c) job.id plain.row) job.source copy.target job put fresh stands plain refl rests.stands.apart w.nodes joined
          whole.coherent.alike puts.kind of_kind small unfolds node (λ same. other (copy.filter.filter ∙ ap Some (sym same)));
      files = λ name other. held_same name;
      filter = λ node is.
          let both : Some (free_id t) ≡ Some node = sym copy.filter.filter ∙ is in
          let same : free_id t ≡ node = cc both in
          ap (disk_of next) (sym same) ∙ reads_then (free_id t)
          ∙ reading.reads_own t u (filter_row t (driver_of c) job.id plain.row) job.source copy.target job put fresh stands plain refl rests.stands.apart w.nodes joined
          whole.coherent.alike puts.kind of_kind small unfolds;
    }

    -- so its changes were performed
    pub start_did : (s : State) → s.table ≡ w.table → AllPerformed s (command_edits w.table exp (cmd_of c)) (contents_of w) (contents_of left)
    start_did s same =
        let of : JobBegins s.table (copy_job w.table c) = subst (λ (x : RunTable). JobBegins x (copy_job w.table c)) (sym same) begins.job in
        subst (λ (cs : List Change). AllPerformed s cs (contents_of w) (contents_of left))
        (ap (λ (x : RunTable). start_edits x (copy_job w.table c)) same ∙ sym (command_starts w.table exp c))
        (start_performed s (copy_job w.table c) of (contents_of w) (contents_of left) start_shows)
