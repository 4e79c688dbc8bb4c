-- The changes of an accepted command can be made.
use Rattle.std.proofs.Common.{◌≡◌, ◌⊎◌, ℕ, ◌+◌, ◌<◌, ◌≤◌, Bool, true, false, cond, List, [], ◌∷◌, ◌++◌, map, length, refl, sym, ap, subst, ◌∙◌, inl, inr, arith, Option, Some, None}
use Rattle.std.specs.Prelude.{◌==◌, ◌||◌, if◌then◌else◌, not, option_and_then, IsSome, bytes_eq, nat_eq, codes}
use Rattle.std.specs.List.{find, list_any, Contains}
use Rattle.std.proofs.lemmas.Bool.{eq-eqb, not-false, or_parts, and_right}
use Rattle.std.proofs.lemmas.List.{length-append, length-map, map-append}
use Rattle.blk_graph.specs.declared.edge.Edge.{Edge}
use Rattle.blk_graph.specs.declared.kind.Kind.{Kind}
use Rattle.blk_graph.specs.declared.kind.Kind.TheVariants.{Protocol, Raw, Qcow2, CopyOnRead, BeforeWrite, Mirror, Commit}
use Rattle.blk_graph.proofs.Members.{find-Some, Contains-nil, Contains-cases}
use Rattle.qmp_codec.specs.Commands.{Cmd, SeenSources}
use Rattle.qmp_codec.specs.declared.command.Command.TheVariants as command
use Rattle.qmp_codec.specs.declared.jobs.Backup.{Backup}
use Rattle.qmp_codec.specs.declared.jobs.Mirror.{Mirror as MirrorCommand}
use Rattle.qmp_codec.specs.declared.nodes.FileRef.{FileRef}
use Rattle.qmp_codec.specs.declared.nodes.FileRef.TheVariants as file_ref
use Rattle.qmp_codec.specs.declared.nodes.InlineFile.{InlineFile}
use Rattle.qmp_codec.specs.declared.nodes.AddRaw.{AddRaw}
use Rattle.qmp_codec.specs.declared.nodes.AddQcow2.{AddQcow2}
use Rattle.qmp_codec.specs.declared.nodes.Added.{Added}
use Rattle.qmp_codec.specs.declared.nodes.Added.TheVariants as added
use Rattle.qmp_codec.specs.declared.nodes.BlockdevAdd.{BlockdevAdd}
use Rattle.qmp_codec.specs.declared.nodes.Created.{Created}
use Rattle.qmp_codec.specs.declared.nodes.Created.TheVariants as created
use Rattle.qmp_codec.specs.declared.nodes.DeviceAdd.{DeviceAdd}
use Rattle.qmp_codec.specs.declared.nodes.Snapshot.{Snapshot}
use Rattle.qmp_asks.specs.declared.ask.Ask.TheVariants as ask
use Rattle.qmp_asks.specs.declared.ask.Drivers.TheVariants as drivers
use Rattle.qmp_rules.specs.declared.change.Change.{Change}
use Rattle.qmp_rules.specs.declared.change.Change.TheVariants as change
use Rattle.qmp_rules.specs.declared.refusal.FileFault.TheVariants.{Absent}
use Rattle.qmp_rules.specs.declared.refusal.Refusal.TheVariants as refusal
use Rattle.qmp_rules.specs.declared.rows.JobRecord.{JobRecord}
use Rattle.qmp_rules.specs.declared.rows.NodeRecord.{NodeRecord}
use Rattle.qmp_rules.specs.declared.rows.DeviceRow.{DeviceRow}
use Rattle.qmp_rules.specs.declared.rows.AskedEnd.{AskedEnd}
use Rattle.qmp_rules.specs.declared.rows.AskedEnd.TheVariants as asked
use Rattle.qmp_rules.specs.declared.rows.FileState.{FileState}
use Rattle.qmp_rules.specs.declared.rows.FileState.TheVariants.{Made, Formatted, Used}
use Rattle.qmp_asks.specs.declared.look.Look.{Look}
use Rattle.qmp_asks.specs.declared.look.Look.TheVariants as look
use Rattle.qmp_rules.specs.declared.told.Stopped.{Stopped}
use Rattle.qmp_rules.specs.declared.told.Told.{Told}
use Rattle.qmp_rules.specs.Table.{RunTable, device_named, job_named, node_by_id, node_named, id_named, file_state, first_into}
use Rattle.qmp_rules.specs.Chains.{filter_role, is_settled, disk_node}
use Rattle.qmp_rules.specs.Changes.{changed}
use Rattle.qmp_rules.specs.Edits.{snapshot_edits, node_ids, free_id, next_free_id, file_row, inline_row, raw_edits, qcow2_edits, added_edits, add_edits, length_told, edits_of, file_uses, with_inline, goes_with_node, of_row, row_gone, file_under, created_change, create_edits, del_edits, device_uses, new_device, device_add_edits, device_del_edits, merges, merge_edits, start_edits, backup_job, asked_by_cancel, cancel_edits, complete_edits, mirror_job}
use Rattle.qmp_asks.specs.Values.{flag_or_false}
use Rattle.qmp_asks.specs.Naming.{is_file_name}
use Rattle.qmp_asks.specs.JobAsks.{backup_values, backup_names, backup_rest, mirror_values, mirror_names, mirror_rest}
use Rattle.qmp_asks.specs.NodeAsks.{snapshot_values, snapshot_names, snapshot_rest, add_asks, option_values, added_values, added_names, file_names, is_read_only, added_rest, raw_rest, qcow2_rest, copy_on_read_rest, is_added, backing_name}
use Rattle.qmp_rules.specs.Looks.{absent_file, add_told, is_unopened}
use Rattle.qmp_asks.specs.Asking.{Asking}
use Rattle.qmp_rules.specs.Asks.{id_or, holds, first_unmet_ask, takes, stands_for, is_lost, is_file, name_of_file, told_at}
use Rattle.qmp_asks.specs.CommandAsks.{asks_of, negotiates}
use Rattle.qmp_rules.specs.Answers.{unbuilt, out_of_turn, refusal_to, command_edits}
use Rattle.blk_history.specs.Fold.{With}
use Rattle.flat_machine.specs.State.{State, Content, Bytes, Blank, Unknown, content_in}
use Rattle.flat_machine.specs.Contents.{file_bytes}
use Rattle.flat_machine.specs.Changed.{stepped, put, name_file, add_file}
use Rattle.flat_machine.specs.Sights.{told_for, MayStop, may_be_large, is_opened}
use Rattle.flat_machine.specs.Agreement.{HasDisk}
use Rattle.flat_machine.specs.Performing.{IsWholly, IsReadable, IsBacking, CanAddFile, Can, AllCan}
use Rattle.flat_machine.specs.Wiring.{StandsFor}
use Rattle.flat_machine.specs.Standing.{Stands, IsOfState, IsOpenlyKnown, IsKnownWhole}
use Rattle.flat_machine.proofs.Finds.{bytes_eq-same}
use Rattle.flat_machine.proofs.Kept.{own_disk}
use Rattle.flat_machine.proofs.Fresh.{lowest_free-free, free-row, found-longer, found-new}
use Rattle.flat_machine.proofs.OwnNames.{names-asked}
use Rattle.flat_machine.proofs.CopyStarts.{copy_can}
use Rattle.flat_machine.proofs.Asked.{none-both, NoneHolds, none-ahead, none-holds, none-behind, good-value, named-file, found-named, takes-driver, room-left, none-stands, known-file, lone-node, known-under, settled-node}

-- ---- ids

pub free_fresh : (t : RunTable) → length t.nodes + 1 ≤ 64 → node_by_id t (free_id t) ≡ None
free_fresh t room =
    let same : length (node_ids t) ≡ length t.nodes = simp length-map in
    let few : length (node_ids t) < 64 = omega arith in
    free-row (free_id t) t.nodes (lowest_free-free (node_ids t) few)

pub next_fresh : (t : RunTable) (row : NodeRecord) → row.id ≡ free_id t → length t.nodes + 2 ≤ 64
    → find (λ r. r.id == next_free_id t) (t.nodes ++ row ∷ []) ≡ None
next_fresh t row is room =
    let same : length (node_ids t) ≡ length t.nodes = simp length-map in
    let few : length (node_ids t ++ free_id t ∷ []) < 64 = omega (arith, length-append (node_ids t) (free_id t ∷ [])) in
    let taken : map (λ (r : NodeRecord). r.id) (t.nodes ++ row ∷ []) ≡ node_ids t ++ free_id t ∷ [] =
    map-append (λ (r : NodeRecord). r.id) t.nodes (row ∷ []) ∙ ap (λ id. node_ids t ++ id ∷ []) is in
    free-row (next_free_id t) (t.nodes ++ row ∷ [])
    (subst (λ l. list_any (nat_eq (next_free_id t)) l ≡ false) (sym taken) (lowest_free-free (node_ids t ++ free_id t ∷ []) few))

-- ---- an absent file is refused

-- a file that is not there is told as absent, whatever call fails
told_absent : (s : State) (c : Cmd) (filename : List ℕ) (stopped : Option Stopped) → MayStop s c (absent_file filename) stopped
    → may_be_large s c ≡ false → is_opened c (refusal.File filename Absent) ≡ false
    → told_at look.File stopped ≡ Some (refusal.File filename Absent)
told_absent s c filename stopped (inl same) large opened = rw same refl
told_absent s c filename None (inr (inl fails)) large opened = absurd fails
told_absent s c filename (Some stopped) (inr (inl fails)) large opened = let never = fails.reached.1 in absurd cc
told_absent s c filename stopped (inr (inr too_large)) large opened = let is = too_large.0 in absurd cc

-- ---- files that are known

-- no row stands for a file for which no node does
pub none-over : (t : RunTable) (name : List ℕ) → list_any (stands_for name) t.nodes ≡ false → (row : NodeRecord) → StandsFor t name row → ⊥
none-over t name none row over = by_rows t.nodes none over.there
  where
    this : (r : NodeRecord) → r ≡ row → stands_for name r ≡ true
    this r same = rw (same, over.filename) (bytes_eq-same name)

    by_rows : (rows : List NodeRecord) → list_any (stands_for name) rows ≡ false → Contains rows row → ⊥
    by_rows [] h there = Contains-nil row there
    by_rows (r ∷ rows) h there =
        let parts = or_parts (stands_for name r) (list_any (stands_for name) rows) h in
        elim (Contains-cases r rows row there) [
          | inl here ↦ let yes = this r (sym here) in let none = parts.0 in cc
          | inr behind ↦ by_rows rows parts.1 behind
        ]

-- a file for which no node stands, and that was not used, is known wholly where there is word of it
wholly_known : (s : State) (name : List ℕ) → Stands s → list_any (stands_for name) s.table.nodes ≡ false
    → is_lost false (file_state s.table name) ≡ false → (content : Option Content) → content_in s.files name ≡ content → IsSome content
    → With content IsWholly
wholly_known s name stands none lost None is there = absurd cc
wholly_known s name stands none lost (Some content) is there =
    by_state (file_state s.table name) refl lost (stands.states name content is (λ row over under. none-over s.table name none row over))
  where
    whole : (c : Content) → IsKnownWhole c → IsWholly c
    whole (Bytes bytes) h = (bytes, refl)
    whole (Blank new len) h = absurd h
    whole Unknown h = absurd h

    by_state : (state : Option FileState) → file_state s.table name ≡ state → is_lost false state ≡ false → IsOfState state content
        → IsWholly content
    by_state None e l h = whole content h
    by_state (Some Made) e l h = whole content h
    by_state (Some Used) e l h = absurd cc
    by_state (Some Formatted) e l h =
        let open_row = stands.formatted name e in absurd (none-over s.table name none open_row.0 open_row.1)

-- ---- rows by name

-- a row that has a name is found by its id
pub row_at : (s : State) (name : List ℕ) (row : NodeRecord) → Stands s → node_named s.table name ≡ Some row → node_by_id s.table row.id ≡ Some row
row_at s name row stands found =
    stands.table.apart row (find-Some (λ r. bytes_eq r.name name) s.table.nodes row found).0

-- a driver by which a node is no filter
pub no_filter : (kind : Kind) → takes drivers.FileRawOrQcow2 kind ≡ true → filter_role kind ≡ None
no_filter Protocol h = refl
no_filter Raw h = refl
no_filter Qcow2 h = refl
no_filter CopyOnRead h = absurd cc
no_filter BeforeWrite h = absurd cc
no_filter Mirror h = absurd cc
no_filter Commit h = absurd cc

pub is_protocol : (kind : Kind) → takes drivers.File kind ≡ true → kind ≡ Protocol
is_protocol Protocol h = refl
is_protocol Raw h = absurd cc
is_protocol Qcow2 h = absurd cc
is_protocol CopyOnRead h = absurd cc
is_protocol BeforeWrite h = absurd cc
is_protocol Mirror h = absurd cc
is_protocol Commit h = absurd cc

-- a settled node that is no filter has a disk of its own
has_disk : (t : RunTable) (row : NodeRecord) → node_by_id t row.id ≡ Some row → filter_role row.kind ≡ None → is_settled t row.id ≡ true
    → HasDisk row
has_disk t row found own settled =
    let here : disk_node t row.id ≡ row.id = own_disk t row.id row found own in
    record { settled = rw (here, found) at settled; own = own }

-- an edge into a node
pub no_edge : (id : ℕ) (edges : List Edge) → first_into id edges ≡ None → (edge : Edge) → Contains edges edge → edge.child ≡ id → ⊥
no_edge id [] h edge there is = Contains-nil edge there
no_edge id (e ∷ edges) h edge there is = by_test (e.child == id) refl (no_edge id edges) h (Contains-cases e edges edge there)
  where
    by_test : (b : Bool) → (e.child == id) ≡ b
        → (first_into id edges ≡ None → (f : Edge) → Contains edges f → f.child ≡ id → ⊥)
        → cond b (Some e) (first_into id edges) ≡ None → ((edge ≡ e) ⊎ Contains edges edge) → ⊥
    by_test true t ih k there = cc
    by_test false t ih k (inl here) = let yes : (e.child == id) ≡ true = eq-eqb e.child id (ap (λ f. f.child) (sym here) ∙ is) in cc
    by_test false t ih k (inr behind) = ih k edge behind is

-- a `file` node without parents whose file was neither used nor formatted has a disk
file_disk_there : (s : State) (name : List ℕ) (row : NodeRecord) → Stands s → node_named s.table name ≡ Some row → row.kind ≡ Protocol
    → first_into row.id s.table.edges ≡ None → is_lost true (file_state s.table (name_of_file row)) ≡ false → HasDisk row
file_disk_there s name row stands found driver lone lost =
    by_settled row.is_settled refl row.filename refl
  where
    there : Contains s.table.nodes row
    there = (find-Some (λ r. bytes_eq r.name name) s.table.nodes row found).0

    own : filter_role row.kind ≡ None
    own = rw driver refl

    refuted : (filename : List ℕ) → row.filename ≡ Some filename → row.is_settled ≡ false → ⊥
    refuted filename is gone =
        let of_file : is_lost true (file_state s.table filename) ≡ false = rw is at lost in
        elim (stands.lost filename row (record { there = there; filename = is }) gone) [
          | inl used ↦ let no_use = rw used at of_file in cc
          | inr (inl formatted) ↦ let no_image = rw formatted at of_file in cc
          | inr (inr under) ↦ no_edge row.id s.table.edges lone under.edge under.there under.child
        ]

    by_settled : (settled : Bool) → row.is_settled ≡ settled → (filename : Option (List ℕ)) → row.filename ≡ filename → HasDisk row
    by_settled true e filename is = record { settled = e; own = own }
    by_settled false e (Some filename) is = absurd (refuted filename is e)
    by_settled false e None is = absurd (let named = stands.table.names row there driver in let none = rw is at named in cc)

-- ---- additions: a file that is opened is there

-- it is not opened where its name is none, a node stands for it, or it was used
pub opened : (t : RunTable) (name : List ℕ) → is_file_name name ≡ true → list_any (stands_for name) t.nodes ≡ false
    → is_lost false (file_state t name) ≡ false → is_unopened t name ≡ false
opened t name named none lost = rw (named, none, lost) refl

pub opened_parts : (t : RunTable) (name : List ℕ) → is_unopened t name ≡ false
    → (is_file_name name ≡ true) × (list_any (stands_for name) t.nodes ≡ false) × (is_lost false (file_state t name) ≡ false)
opened_parts t name is =
    let parts = or_parts (not (is_file_name name)) (list_any (stands_for name) t.nodes || is_lost false (file_state t name)) is in
    let closed = or_parts (list_any (stands_for name) t.nodes) (is_lost false (file_state t name)) parts.1 in
    (not-false (is_file_name name) parts.0, closed.0, closed.1)

pub file_told_absent : (s : State) (c : BlockdevAdd (List ℕ)) (filename : List ℕ) → c.driver ≡ added.File filename
    → is_unopened s.table filename ≡ false → content_in s.files filename ≡ None
    → (told_for s (command.BlockdevAdd c)).stopped ≡ absent_file filename
unfolding add_told
file_told_absent s c filename driver closed none = rw (driver, closed, none) refl

pub raw_told_absent : (s : State) (c : BlockdevAdd (List ℕ)) (raw : AddRaw (List ℕ)) (file : InlineFile (List ℕ)) → c.driver ≡ added.Raw raw
    → raw.file ≡ file_ref.Inline file → is_unopened s.table file.filename ≡ false → content_in s.files file.filename ≡ None
    → (told_for s (command.BlockdevAdd c)).stopped ≡ absent_file file.filename
unfolding add_told
raw_told_absent s c raw file driver inline closed none = rw (driver, inline, closed, none) refl

pub qcow2_told_absent : (s : State) (c : BlockdevAdd (List ℕ)) (image : AddQcow2 (List ℕ)) (file : InlineFile (List ℕ))
    → c.driver ≡ added.Qcow2 image → image.file ≡ file_ref.Inline file → is_unopened s.table file.filename ≡ false
    → content_in s.files file.filename ≡ None → (told_for s (command.BlockdevAdd c)).stopped ≡ absent_file file.filename
unfolding add_told
qcow2_told_absent s c image file driver inline closed none = rw (driver, inline, closed, none) refl

-- no refusal says that it is absent
pub opened_there : (s : State) (c : BlockdevAdd (List ℕ)) (told : Told) (filename : List ℕ)
    → MayStop s (command.BlockdevAdd c) (told_for s (command.BlockdevAdd c)).stopped told.stopped
    → (content_in s.files filename ≡ None → (told_for s (command.BlockdevAdd c)).stopped ≡ absent_file filename)
    → (content_in s.files filename ≡ None → may_be_large s (command.BlockdevAdd c) ≡ false)
    → told_at look.File told.stopped ≡ None → IsSome (content_in s.files filename)
opened_there s c told filename may tells large quiet = by_content (content_in s.files filename) refl
  where
    by_content : (content : Option Content) → content_in s.files filename ≡ content → IsSome content
    by_content (Some content) e = refl
    by_content None e =
        let is_absent = subst (λ stop. MayStop s (command.BlockdevAdd c) stop told.stopped) (tells e) may in
        let told_so = told_absent s (command.BlockdevAdd c) filename told.stopped is_absent (large e) refl in
        absurd cc

-- ---- what is asked of a backing node

pub backing_there : (s : State) (told : Told) (back : Option (List ℕ)) → Stands s → holds s.table told (ask.Found back) ≡ None
    → holds s.table told (ask.Drives back drivers.FileRawOrQcow2) ≡ None → holds s.table told (ask.Settled back) ≡ None
    → (node : ℕ) → option_and_then (id_named s.table) back ≡ Some node → With (node_by_id s.table node) HasDisk
backing_there s told None stands found drives settled node is = absurd cc
backing_there s told (Some name) stands found drives settled node is = by_row (found-named s.table told name found)
  where
    by_row : ((row : NodeRecord) × (node_named s.table name ≡ Some row)) → With (node_by_id s.table node) HasDisk
    by_row named =
        let row = named.0 in
        let at_id = row_at s name row stands named.1 in
        let own = no_filter row.kind (takes-driver s.table told name drivers.FileRawOrQcow2 row named.1 drives) in
        let disk = has_disk s.table row at_id own (settled-node s.table told name row named.1 settled) in
        let same : row.id ≡ node = id_is named.1 in
        rw (subst (λ n. node_by_id s.table n ≡ Some row) same at_id) disk
      where
        id_is : node_named s.table name ≡ Some named.0 → named.0.id ≡ node
        id_is e = let of_name = rw e at is in cc

pub backing_can : (s : State) (told : Told) (back : Option (List ℕ)) → Stands s → holds s.table told (ask.Found back) ≡ None
    → holds s.table told (ask.Drives back drivers.FileRawOrQcow2) ≡ None → holds s.table told (ask.Settled back) ≡ None
    → IsBacking s (option_and_then (id_named s.table) back)
backing_can s told back stands found drives settled = by_node (option_and_then (id_named s.table) back) refl
  where
    by_node : (node : Option ℕ) → option_and_then (id_named s.table) back ≡ node → IsBacking s node
    by_node None e = tt
    by_node (Some node) e = backing_there s told back stands found drives settled node e

-- it is there with one node more
pub backing_longer : (s : State) (row : NodeRecord) (t : RunTable) → t.nodes ≡ s.table.nodes ++ row ∷ [] → (now : State) → now.table ≡ t
    → (backing : Option ℕ) → IsBacking s backing → IsBacking now backing
backing_longer s row t nodes now same None h = tt
backing_longer s row t nodes now same (Some node) h = by_row (node_by_id s.table node) refl h
  where
    longer : (r : NodeRecord) → node_by_id s.table node ≡ Some r → node_by_id now.table node ≡ Some r
    longer r e = rw (same, nodes) (found-longer (λ x. x.id == node) s.table.nodes row r e)

    by_row : (found : Option NodeRecord) → node_by_id s.table node ≡ found → With found HasDisk → With (node_by_id now.table node) HasDisk
    by_row None e disk = absurd disk
    by_row (Some r) e disk = rw (longer r e) disk

-- what is lost to a raw node is more
pub less_lost : (is_raw : Bool) (state : Option FileState) → is_lost is_raw state ≡ false → is_lost false state ≡ false
less_lost is_raw None h = refl
less_lost is_raw (Some Made) h = refl
less_lost is_raw (Some Formatted) h = refl
less_lost is_raw (Some Used) h = absurd cc

pub look-quiet : (t : RunTable) (told : Told) (what : Look) → holds t told (ask.Files what) ≡ None → told_at what told.stopped ≡ None
unfolding holds
look-quiet t told what h = h

-- of a file under a `file` node without parents that was not used enough is known to read the image in it
readable_under : (s : State) (name : List ℕ) (row : NodeRecord) → Stands s → node_named s.table name ≡ Some row → row.kind ≡ Protocol
    → first_into row.id s.table.edges ≡ None → is_lost false (file_state s.table (name_of_file row)) ≡ false
    → With (option_and_then (content_in s.files) row.filename) IsReadable
readable_under s name row stands found driver lone lost = by_name row.filename refl
  where
    there : Contains s.table.nodes row
    there = (find-Some (λ r. bytes_eq r.name name) s.table.nodes row found).0

    by_state : (state : Option FileState) (content : Content) → is_lost false state ≡ false → IsOfState state content → IsReadable content
    by_state None (Bytes bytes) l h = tt
    by_state None (Blank new len) l h = tt
    by_state None Unknown l h = h
    by_state (Some Made) (Bytes bytes) l h = tt
    by_state (Some Made) (Blank new len) l h = tt
    by_state (Some Made) Unknown l h = h
    by_state (Some Formatted) (Bytes bytes) l h = tt
    by_state (Some Formatted) (Blank new len) l h = tt
    by_state (Some Formatted) Unknown l h = h
    by_state (Some Used) content l h = absurd cc

    by_content : (filename : List ℕ) → row.filename ≡ Some filename → (content : Option Content) → content_in s.files filename ≡ content
        → IsSome content → With content IsReadable
    by_content filename is None e some = absurd cc
    by_content filename is (Some content) e some =
        let over : StandsFor s.table filename row = record { there = there; filename = is } in
        let is_open : IsOpenlyKnown s.table filename = λ other stands_too under. no_edge row.id s.table.edges lone under.edge under.there
        (under.child ∙ stands.table.alone filename other row stands_too over) in
        by_state (file_state s.table filename) content (rw is at lost) (stands.states filename content e is_open)

    by_name : (filename : Option (List ℕ)) → row.filename ≡ filename → With (option_and_then (content_in s.files) filename) IsReadable
    by_name None is = absurd (let named = stands.table.names row there driver in let none = rw is at named in cc)
    by_name (Some filename) is =
        by_content filename is (content_in s.files filename) refl
        (stands.files filename row (record { there = there; filename = is }))

-- a `file` node that is added changes no file
pub added_files : (row : NodeRecord) (s : State) → (add_file row s).files ≡ s.files
added_files row s = by_flag row.read_only
  where
    with_disk : State
    with_disk = put row.id (file_bytes row.size (content_in s.files (name_of_file row))) s

    by_flag : (b : Bool) → (cond b with_disk (name_file (name_of_file row) with_disk)).files ≡ s.files
    by_flag true = refl
    by_flag false = refl

readable_whole : (content : Option Content) → With content IsWholly → With content IsReadable
readable_whole None h = absurd h
readable_whole (Some content) h = subst IsReadable (sym h.1) tt

-- ---- each driver

module _ (s : State) (told : Told) (c : BlockdevAdd (List ℕ)) (name : List ℕ) (read_only : Bool) (stands : Stands s)
    (may : MayStop s (command.BlockdevAdd c) (told_for s (command.BlockdevAdd c)).stopped told.stopped) where
  pub file_can : (filename : List ℕ) → c.driver ≡ added.File filename → is_file_name filename ≡ true
      → NoneHolds s.table told (added_rest name read_only (added.File filename))
      → (len : ℕ) (flag : Bool) (own : List ℕ) → CanAddFile s (file_row (free_id s.table) own len flag filename None)
  file_can filename driver named asks len flag own =
      let room = room-left s.table told 1 asks.1.0 in
      let closed = none-stands s.table told filename asks.1.1.0 in
      let known = known-file s.table told filename false asks.1.1.1.1.0 in
      let there = opened_there s c told filename may
      (file_told_absent s c filename driver (opened s.table filename named closed known))
      (λ e. rw driver refl) (look-quiet s.table told look.File asks.1.1.1.0) in
      record {
        fresh = free_fresh s.table room;
        driver = refl;
        known = wholly_known s filename stands closed known (content_in s.files filename) refl there;
      }

  pub inline_can : (file : InlineFile (List ℕ)) (is_raw : Bool) → is_file_name file.filename ≡ true
      → (content_in s.files file.filename ≡ None → is_unopened s.table file.filename ≡ false
      → (told_for s (command.BlockdevAdd c)).stopped ≡ absent_file file.filename)
      → (content_in s.files file.filename ≡ None → may_be_large s (command.BlockdevAdd c) ≡ false)
      → length s.table.nodes + 2 ≤ 64 → holds s.table told (ask.Closed file.filename) ≡ None
      → holds s.table told (ask.Files look.File) ≡ None → holds s.table told (ask.Known file.filename is_raw) ≡ None
      → (exp : Told) → CanAddFile s (inline_row s.table exp name file)
  inline_can file is_raw named tells large room not_closed not_stopped not_lost exp =
      let closed = none-stands s.table told file.filename not_closed in
      let known = less_lost is_raw (file_state s.table file.filename) (known-file s.table told file.filename is_raw not_lost) in
      let there = opened_there s c told file.filename may (λ e. tells e (opened s.table file.filename named closed known)) large
      (look-quiet s.table told look.File not_stopped) in
      record {
        fresh = free_fresh s.table (omega arith);
        driver = refl;
        known = wholly_known s file.filename stands closed known (content_in s.files file.filename) refl there;
      }

  -- the `file` node that was added before a format node
  pub inline_under : (now : State) (row : NodeRecord) → now.table.nodes ≡ s.table.nodes ++ row ∷ [] → row.id ≡ free_id s.table
      → length s.table.nodes + 1 ≤ 64 → node_by_id now.table (free_id s.table) ≡ Some row
  inline_under now row nodes is room =
      rw nodes (found-new (λ r. r.id == free_id s.table) s.table.nodes row (free_fresh s.table room) (eq-eqb row.id (free_id s.table) is))

  raw_inline_can : (raw : AddRaw (List ℕ)) (file : InlineFile (List ℕ)) → c.driver ≡ added.Raw raw → raw.file ≡ file_ref.Inline file
      → is_file_name file.filename ≡ true → NoneHolds s.table told (raw_rest name read_only raw (file_ref.Inline file))
      → (exp : Told) → AllCan s (raw_edits s.table exp name read_only raw (file_ref.Inline file))
  unfolding changed
  raw_inline_can raw file driver inline named asks exp =
      let room = room-left s.table told 2 asks.1.1.1.0 in
      let row : NodeRecord = inline_row s.table exp name file in
      let now : State = stepped s (change.AddFile row) in
      let added_can = inline_can file true named (λ e closed. raw_told_absent s c raw file driver inline closed e) (λ e. rw driver refl) room
      asks.1.1.1.1.0 asks.1.1.1.1.1.0 asks.1.1.1.1.1.1.0 exp in
      let under = inline_under now row refl refl (omega arith) in (
        added_can,
        (
          record {
            fresh = next_fresh s.table row refl room;
            readable = rw under (record { settled = refl; own = refl });
            backed = tt;
          },
          tt,
        ),
      )

  qcow2_inline_can : (image : AddQcow2 (List ℕ)) (file : InlineFile (List ℕ)) (back : Option (List ℕ)) → c.driver ≡ added.Qcow2 image
      → image.file ≡ file_ref.Inline file → is_file_name file.filename ≡ true
      → NoneHolds s.table told (qcow2_rest name read_only back (file_ref.Inline file)) → (exp : Told) → AllCan s (qcow2_edits s.table exp name read_only back (file_ref.Inline file))
  unfolding changed
  qcow2_inline_can image file back driver inline named asks exp =
      let room = room-left s.table told 2 asks.1.1.1.1.0 in
      let row : NodeRecord = inline_row s.table exp name file in
      let now : State = stepped s (change.AddFile row) in
      let added_can = inline_can file false named (λ e closed. qcow2_told_absent s c image file driver inline closed e)
      (λ e. rw (driver, inline, e) (and_right (not (is_unopened s.table file.filename)) false refl)) room
      asks.1.1.1.1.1.1.0 asks.1.1.1.1.1.1.1.0 asks.1.1.1.1.1.1.1.1.0 exp in
      let under = inline_under now row refl refl (omega arith) in
      let backed = backing_can s told back stands asks.0 asks.1.1.1.1.1.0 asks.1.1.1.1.1.1.1.1.1.1.1.0 in (
        added_can,
        (
          record {
            fresh = next_fresh s.table row refl room;
            readable = rw (under, added_files row s) (readable_whole (content_in s.files file.filename) added_can.known);
            backed = backing_longer s row now.table refl now refl (option_and_then (id_named s.table) back) backed;
          },
          tt,
        ),
      )

  -- over a `file` node that is there
  raw_named_can : (raw : AddRaw (List ℕ)) (file : List ℕ) → NoneHolds s.table told (raw_rest name read_only raw (file_ref.Name file))
      → (exp : Told) → AllCan s (raw_edits s.table exp name read_only raw (file_ref.Name file))
  raw_named_can raw file asks exp = by_row (found-named s.table told file asks.0)
    where
      by_row : ((row : NodeRecord) × (node_named s.table file ≡ Some row)) → AllCan s (raw_edits s.table exp name read_only raw (file_ref.Name file))
      by_row named =
          let row : NodeRecord = named.0 in
          let found : node_named s.table file ≡ Some row = named.1 in
          let is_file_row = takes-driver s.table told file drivers.File row found asks.1.1.1.0 in
          let driver = is_protocol row.kind is_file_row in
          let lost = known-under s.table told file true row found is_file_row asks.1.1.1.1.1.0 in
          let lone = lone-node s.table told file row found asks.1.1.1.1.1.1.1.0 in
          let disk = file_disk_there s file row stands found driver lone lost in (
            record {
              fresh = free_fresh s.table (room-left s.table told 1 asks.1.1.0);
              readable = rw (found, row_at s file row stands found) disk;
              backed = tt;
            },
            tt,
          )

  -- what is known of its file is enough
  qcow2_named_can : (file : List ℕ) (back : Option (List ℕ))
      → NoneHolds s.table told (qcow2_rest name read_only back (file_ref.Name file))
      → (exp : Told) → AllCan s (qcow2_edits s.table exp name read_only back (file_ref.Name file))
  qcow2_named_can file back asks exp = by_row (found-named s.table told file asks.0)
    where
      by_row : ((row : NodeRecord) × (node_named s.table file ≡ Some row)) → AllCan s (qcow2_edits s.table exp name read_only back (file_ref.Name file))
      by_row named =
          let row : NodeRecord = named.0 in
          let found : node_named s.table file ≡ Some row = named.1 in
          let is_file_row = takes-driver s.table told file drivers.File row found asks.1.1.1.1.0 in
          let driver = is_protocol row.kind is_file_row in
          let lost = known-under s.table told file false row found is_file_row asks.1.1.1.1.1.1.0 in
          let lone = lone-node s.table told file row found asks.1.1.1.1.1.1.1.1.1.1.1.1.1.0 in
          let backed = backing_can s told back stands asks.1.0 asks.1.1.1.1.1.0 asks.1.1.1.1.1.1.1.1.1.0 in (
            record {
              fresh = free_fresh s.table (room-left s.table told 1 asks.1.1.1.0);
              readable = rw (found, row_at s file row stands found) (readable_under s file row stands found driver lone lost);
              backed = backed;
            },
            tt,
          )

  copy_on_read_can : (file : List ℕ) → NoneHolds s.table told (copy_on_read_rest name file)
      → (exp : Told) → AllCan s (added_edits s.table exp name read_only (added.CopyOnRead file))
  copy_on_read_can file asks exp =
      (record { fresh = free_fresh s.table (room-left s.table told 1 asks.1.1.0); filter = refl }, tt)

  file_all : (filename : List ℕ) → c.driver ≡ added.File filename
      → NoneHolds s.table told (added_names (added.File filename)) → NoneHolds s.table told (added_rest name read_only (added.File filename))
      → (exp : Told) → AllCan s (added_edits s.table exp name read_only (added.File filename))
  file_all filename driver names asks exp =
      (file_can filename driver (named-file s.table told (codes "filename") filename names.0) asks (length_told exp) read_only name, tt)

  raw_all : (raw : AddRaw (List ℕ)) (file : FileRef (List ℕ)) → c.driver ≡ added.Raw raw → raw.file ≡ file
      → NoneHolds s.table told (file_names file) → NoneHolds s.table told (raw_rest name read_only raw file)
      → (exp : Told) → AllCan s (raw_edits s.table exp name read_only raw file)
  raw_all raw (file_ref.Name file) driver is names asks exp = raw_named_can raw file asks exp
  raw_all raw (file_ref.Inline file) driver is names asks exp =
      raw_inline_can raw file driver is (named-file s.table told (codes "filename") file.filename names.0) asks exp

  qcow2_all : (image : AddQcow2 (List ℕ)) (file : FileRef (List ℕ)) (back : Option (List ℕ)) → c.driver ≡ added.Qcow2 image → image.file ≡ file
      → NoneHolds s.table told (file_names file) → NoneHolds s.table told (qcow2_rest name read_only back file)
      → (exp : Told) → AllCan s (qcow2_edits s.table exp name read_only back file)
  qcow2_all image (file_ref.Name file) back driver is names asks exp = qcow2_named_can file back asks exp
  qcow2_all image (file_ref.Inline file) back driver is names asks exp =
      qcow2_inline_can image file back driver is (named-file s.table told (codes "filename") file.filename names.0) asks exp

  driver_can : (driver : Added (List ℕ)) → c.driver ≡ driver → is_added driver ≡ true
      → NoneHolds s.table told (added_names driver) → NoneHolds s.table told (added_rest name read_only driver)
      → (exp : Told) → AllCan s (added_edits s.table exp name read_only driver)
  driver_can (added.File filename) e known names asks exp = file_all filename e names asks exp
  driver_can (added.Raw raw) e known names asks exp = raw_all raw raw.file e refl names asks exp
  driver_can (added.Qcow2 image) e known names asks exp =
      qcow2_all image image.file (backing_name image.backing) e refl
      (none-ahead s.table told (file_names image.file) (ask.Named (codes "backing") (backing_name image.backing) ∷ []) names) asks exp
  driver_can (added.CopyOnRead file) e known names asks exp = copy_on_read_can file asks exp
  driver_can added.Unknown e known names asks exp = absurd cc

-- ---- commands

add_can : (s : State) (told exp : Told) (c : BlockdevAdd (List ℕ)) → Stands s
    → MayStop s (command.BlockdevAdd c) (told_for s (command.BlockdevAdd c)).stopped told.stopped
    → NoneHolds s.table told (add_asks c) → AllCan s (add_edits s.table exp c)
add_can s told exp c stands may asks =
    driver_can s told c c.node_name (is_read_only c.options) stands may c.driver refl
    (good-value s.table told (codes "driver") (is_added c.driver) asks.0) (names-asked s.table told c asks).1
    (none-behind s.table told front (added_rest c.node_name (is_read_only c.options) c.driver) asks) exp
  where
    front : List Asking
    front =
        ask.Good (codes "driver") (is_added c.driver) ∷ option_values c.options
        ++ added_values c.driver
        ++ ask.Named (codes "node-name") (Some c.node_name) ∷ added_names c.driver

-- changes of which nothing is asked
abbrev AreFree : List Change → Type 0
AreFree [] = Unit {0}
AreFree (c ∷ changes) = ((s : State) → Can s c) × AreFree changes

free_can : (changes : List Change) → AreFree changes → (s : State) → AllCan s changes
free_can [] h s = tt
free_can (c ∷ changes) h s = (h.0 s, free_can changes h.1 (stepped s c))

free_append : (xs ys : List Change) → AreFree xs → AreFree ys → AreFree (xs ++ ys)
free_append [] ys hx hy = hy
free_append (c ∷ xs) ys hx hy = (hx.0, free_append xs ys hx.1 hy)

free_uses : (name : Option (List ℕ)) → AreFree (file_uses name)
free_uses None = tt
free_uses (Some name) = (λ s. tt, tt)

free_created : (t : RunTable) (options : Created (List ℕ)) → AreFree (created_change t options)
free_created t (created.File c) = (λ s. tt, tt)
free_created t (created.Qcow2 c) = (λ s. tt, tt)
free_created t created.Unknown = tt

free_inline : (t : RunTable) (id : ℕ) → AreFree (with_inline t id)
free_inline t id = by_row (find (goes_with_node id) t.nodes)
  where
    by_row : (found : Option NodeRecord) → AreFree (elim found as (λ _. List Change) [ None ↦ [] | Some row ↦ change.RemoveNode row.id ∷ [] ])
    by_row None = tt
    by_row (Some row) = (λ s. tt, tt)

free_del : (t : RunTable) (found : Option NodeRecord) → AreFree (of_row (row_gone t) found)
free_del t None = tt
free_del t (Some row) = free_append (file_uses (file_under t row)) (change.RemoveNode row.id ∷ with_inline t row.id) (free_uses (file_under t row))
    (λ s. tt, free_inline t row.id)

free_device_uses : (row : NodeRecord) (b : Bool) → AreFree (if b then file_uses row.filename else [])
free_device_uses row true = free_uses row.filename
free_device_uses row false = tt

free_device : (t : RunTable) (c : DeviceAdd (List ℕ)) (found : Option NodeRecord)
    → AreFree (of_row (λ row. device_uses row ++ change.AddDevice (new_device t c row) row.id ∷ []) found)
free_device t c None = tt
free_device t c (Some row) = free_append (device_uses row) (change.AddDevice (new_device t c row) row.id ∷ [])
    (free_device_uses row (is_file row)) (λ s. tt, tt)

-- the node of a snapshot has a flat disk of its own
snapshot_can : (s : State) (told : Told) (c : Snapshot (List ℕ)) → Stands s
    → NoneHolds s.table told (snapshot_values c ++ snapshot_names c ++ snapshot_rest c) → AllCan s (snapshot_edits s.table c)
snapshot_can s told c stands asks =
    (by_node (found-named s.table told c.node asks.1.1.1.0), (tt, tt))
  where
    backed : IsBacking s (id_named s.table c.node)
    backed = backing_can s told (Some c.node) stands asks.1.1.1.0 asks.1.1.1.1.1.0 asks.1.1.1.1.1.1.1.0

    by_node : ((row : NodeRecord) × (node_named s.table c.node ≡ Some row)) → With (node_by_id s.table (id_or 0 s.table (Some c.node))) HasDisk
    by_node named = rw named.1 (rw named.1 at backed)

free_gone : (found : Option DeviceRow) → AreFree (elim found as (λ _. List Change) [ None ↦ [] | Some device ↦ change.RemoveDevice device.number ∷ [] ])
free_gone None = tt
free_gone (Some device) = (λ s. tt, tt)

free_merges : (t : RunTable) (node target : List ℕ) (sources : SeenSources) → AreFree (merges t node target sources)
free_merges t node target [] = tt
free_merges t node target (source ∷ sources) = (λ s. tt, free_merges t node target sources)

free_asked : (ask : JobRecord → AskedEnd) (found : Option JobRecord)
    → AreFree (elim found as (λ _. List Change) [ None ↦ [] | Some job ↦ change.AskJob job.number (ask job) ∷ [] ])
free_asked ask None = tt
free_asked ask (Some job) = (λ s. tt, tt)

-- the filter of a copy gets a number that no node has
backup_can : (s : State) (told : Told) (c : Backup (List ℕ)) → NoneHolds s.table told (backup_values c ++ backup_names c ++ backup_rest c)
    → AllCan s (start_edits s.table (backup_job s.table None c))
unfolding start_edits
backup_can s told c asks =
    let rest = none-behind s.table told (backup_values c ++ backup_names c) (backup_rest c) asks in
    copy_can s (backup_job s.table None c) BeforeWrite refl (free_fresh s.table (room-left s.table told 1 rest.1.1.1.1.0))

mirror_can : (s : State) (told : Told) (c : MirrorCommand (List ℕ)) → NoneHolds s.table told (mirror_values c ++ mirror_names c ++ mirror_rest c)
    → AllCan s (start_edits s.table (mirror_job s.table c))
unfolding start_edits
mirror_can s told c asks =
    let rest = none-behind s.table told (mirror_values c ++ mirror_names c) (mirror_rest c) asks in
    copy_can s (mirror_job s.table c) Mirror refl (free_fresh s.table (room-left s.table told 1 rest.1.1.1.0))

-- Where nothing refuses a command that is carried out, each of its changes can be made, whatever sizes are told of files.
pub accepted_can : (s : State) (told exp : Told) (c : Cmd) → Stands s → MayStop s c (told_for s c).stopped told.stopped
    → refusal_to s.table told c ≡ None → AllCan s (command_edits s.table exp c)
unfolding refusal_to asks_of edits_of
accepted_can s told exp c stands may h =
    let known = none-both (unbuilt c) _ h in
    let turn = none-both (out_of_turn (negotiates c) s.table.negotiated) _ known.1 in
    let asks = none-both (first_unmet_ask s.table told (asks_of c)) _ turn.1 in
    by_command c stands may known.0 (none-holds s.table told (asks_of c) asks.0)
  where
    by_command : (c : Cmd) → Stands s → MayStop s c (told_for s c).stopped told.stopped → unbuilt c ≡ None
        → NoneHolds s.table told (asks_of c) → AllCan s (command_edits s.table exp c)
    by_command (command.Capabilities enable) stands may is asks = (tt, tt)
    by_command (command.BlockdevCreate c) stands may is asks =
        free_can (create_edits s.table c) (λ now. tt, free_created s.table c.options) s
    by_command (command.JobDismiss id) stands may is asks = (tt, tt)
    by_command (command.BlockdevAdd c) stands may is asks = add_can s told exp c stands may asks
    by_command (command.BlockdevDel name) stands may is asks =
        free_can (del_edits s.table name) (free_del s.table (node_named s.table name)) s
    by_command (command.DeviceAdd c) stands may is asks =
        free_can (device_add_edits s.table c) (free_device s.table c (node_named s.table c.drive)) s
    by_command (command.BlockdevSnapshot c) stands may is asks = snapshot_can s told c stands asks
    by_command (command.DeviceDel id) stands may is asks =
        free_can (device_del_edits s.table id) (free_gone (device_named s.table id)) s
    by_command (command.BlockdevBackup c) stands may is asks = backup_can s told c asks
    by_command (command.BlockdevMirror c) stands may is asks = mirror_can s told c asks
    by_command (command.BlockJobCancel job force) stands may is asks =
        free_can (cancel_edits s.table job force) (free_asked (asked_by_cancel (flag_or_false force)) (job_named s.table job)) s
    by_command (command.BlockJobComplete job) stands may is asks =
        free_can (complete_edits s.table job) (free_asked (λ row. asked.Complete) (job_named s.table job)) s
    by_command command.QueryBlockJobs stands may is asks = tt
    by_command (command.QueryNamedBlockNodes flat) stands may is asks = tt
    by_command (command.BitmapAdd c) stands may is asks = (tt, tt)
    by_command (command.BitmapRemove c) stands may is asks = (tt, tt)
    by_command (command.BitmapClear c) stands may is asks = (tt, tt)
    by_command (command.BitmapEnable c) stands may is asks = (tt, tt)
    by_command (command.BitmapDisable c) stands may is asks = (tt, tt)
    by_command (command.BitmapMerge c) stands may is asks =
        free_can (merge_edits s.table c) (free_merges s.table c.node c.target c.bitmaps) s
    by_command _ stands may is asks = absurd cc
