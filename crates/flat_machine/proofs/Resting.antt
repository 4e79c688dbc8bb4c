-- Replies, and pieces of guests' requests, leave what holds of states between events.
use Rattle.std.proofs.Common.{◌≡◌, ◌≢◌, ℕ, suc, Bool, true, false, cond, List, [], ◌∷◌, map, refl, sym, ap, subst, ◌∙◌, inl, inr, Option, Some, None, Result, Ok, Err, option_map}
use Rattle.std.specs.Prelude.{◌==◌, ◌||◌, if◌then◌else◌, not, bytes_eq, drop, All, IsSome}
use Rattle.std.specs.List.{find, Contains}
use Rattle.std.proofs.lemmas.List.Elements.{All-weaker}
use Rattle.serde_json.specs.Data.{Data}
use Rattle.serde_json.specs.Read.{read}
use Rattle.serde_json.specs.Written.{compact_text}
use Rattle.blk_base.specs.Pieces.{Extent}
use Rattle.blk_base.specs.declared.fault.Outcome.{Outcome}
use Rattle.blk_graph.specs.declared.edge.Parent.TheVariants.{Node, Guest}
use Rattle.blk_graph.specs.declared.edge.Role.TheVariants.{Drive, Backing}
use Rattle.blk_graph.specs.declared.kind.Kind.TheVariants.{Protocol}
use Rattle.blk_graph.specs.Permissions.{has_role}
use Rattle.blk_graph.specs.Edits.{child_of}
use Rattle.trace_codec.specs.declared.op.Op.{Op}
use Rattle.trace_codec.specs.declared.op.Op.TheVariants.{Read, Write, Zero, Flush, Discard}
use Rattle.qmp_codec.specs.Commands.{Cmd}
use Rattle.qmp_codec.specs.Lines.{Stop, command_at, id_at}
use Rattle.qmp_codec.specs.Replies.{returned_data, refused_data}
use Rattle.qmp_codec.specs.declared.reply.Class.{Class}
use Rattle.qmp_codec.specs.declared.command.Command.TheVariants as command
use Rattle.qmp_codec.specs.declared.nodes.Created.{Created}
use Rattle.qmp_codec.specs.declared.nodes.Created.TheVariants as created
use Rattle.qmp_rules.specs.declared.change.Change.{Change}
use Rattle.qmp_rules.specs.declared.change.Change.TheVariants as change
use Rattle.qmp_rules.specs.declared.rows.NodeRecord.{NodeRecord}
use Rattle.qmp_rules.specs.declared.rows.DeviceRow.{DeviceRow}
use Rattle.qmp_rules.specs.declared.told.Told.{Told}
use Rattle.qmp_rules.specs.Table.{RunTable, device_by_number, file_state, child, has_name}
use Rattle.qmp_rules.specs.Chains.{filter_role, disk_node, chain, chain_from, backing, is_listed, chain_below, is_over, unsettled_over, written_under}
use Rattle.qmp_rules.specs.Changes.{all_changed}
use Rattle.qmp_rules.specs.Edits.{spoiled, file_of_node}
use Rattle.qmp_rules.specs.declared.refusal.Refusal.{Refusal}
use Rattle.qmp_rules.specs.Refusals.{refusal_text, refusal_class}
use Rattle.qmp_rules.specs.Answers.{refusal_to, command_edits, answer, answer_by, answer_for, line_answer, line_text, answer_data}
use Rattle.blk_history.specs.Disk.{done_in, is_write}
use Rattle.blk_history.specs.Machine.{done_by}
use Rattle.flat_machine.specs.State.{State, Disk, Unknown, content_in, drive_of}
use Rattle.flat_machine.specs.Changed.{stepped, all_stepped}
use Rattle.flat_machine.specs.Machine.{disk_changed, with_disk, node_written, with_part, note, noted, is_noted, path, read_through, copies_through}
use Rattle.flat_machine.specs.Jobs.{unsure}
use Rattle.flat_machine.specs.Sights.{IsTold, told_for, MayStop, expected}
use Rattle.flat_machine.specs.Replies.{begins_job, replied, edits_by, failed_edits, is_accepted, tells_failure, desc_of, is_failed_call, command_read, IsToldOf, IsAnswer}
use Rattle.flat_machine.specs.Writing.{IsGuestWritable, CanWrite}
use Rattle.flat_machine.specs.Wiring.{StandsFor, IsUnder, InlineAreUnder, TableStands, TableAtRest}
use Rattle.flat_machine.specs.Standing.{HasBytes, IsLostBy, IsOfState, IsUsedUp, MayGuestWrite, Stands, StandsAtRest}
use Rattle.flat_machine.specs.Suiting.{IsThere}
use Rattle.flat_machine.proofs.Finds.{find-map}
use Rattle.flat_machine.proofs.Kept.{own_disk}
use Rattle.flat_machine.proofs.Answered.{accepted_edits, reads_refused}
use Rattle.flat_machine.proofs.Rows.{IsLike, SameRows, rows-same, rows-mapped, same_row, changed_row, like_over}
use Rattle.flat_machine.proofs.Wired.{Grows, NoRow, NoEdge, at_with}
use Rattle.flat_machine.proofs.TablesKept.{rows_grow, rows_table}
use Rattle.flat_machine.proofs.WritingKept.{role_edge, grown_writing, left_still}
use Rattle.flat_machine.proofs.WritingAdded.{drive_there, same_devices}
use Rattle.flat_machine.proofs.FilesStand.{spoil_stands}
use Rattle.flat_machine.proofs.StandingKept.{all_stand}
use Rattle.flat_machine.proofs.ReadBack.{not_accepted}
use Rattle.flat_machine.proofs.Suited.{accepted_suits}
use Rattle.flat_machine.proofs.TableRests.{command_rests, spoiled_file_rests, written_rests}

-- ---- replies

pub stepped_table : (changes : List Change) (s : State) → (all_stepped s changes).table ≡ all_changed s.table changes
stepped_table [] s = refl
stepped_table (c ∷ changes) s = stepped_table changes (stepped s c)

table_rests : (s : State) → StandsAtRest s → TableAtRest s.table
table_rests s h = record { stands = h.stands.table; inline = h.inline }

pub accepted_rests : (s : State) (told exp : Told) (c : Cmd) → begins_job c ≡ false → StandsAtRest s → MayStop s c (told_for s c).stopped told.stopped
    → refusal_to s.table told c ≡ None → StandsAtRest (all_stepped s (command_edits s.table exp c))
accepted_rests s told exp c begins h may quiet = record {
  stands = all_stand (command_edits s.table exp c) s (accepted_suits s told exp c begins h may quiet) h.stands;
  inline = subst InlineAreUnder (sym (stepped_table (command_edits s.table exp c) s))
      (command_rests s.table told exp c begins (table_rests s h) quiet).1.inline;
}

-- that of an accepted command, by what its changes leave
pub read_rests_by : (s : State) (told : Told) (c : Cmd) (given text : List ℕ) (id : Option Data) (d : Data) → command_at given ≡ Ok c
    → IsTold s c told → read text ≡ Some (returned_data id d) → StandsAtRest (all_stepped s (command_edits s.table told c))
    → StandsAtRest (replied s given text)
read_rests_by s told c given text id d line is_told reads left =
    let edits : edits_by s text (command_at given) ≡ command_edits s.table told c =
    ap (edits_by s text) line ∙ accepted_edits s told c text id d is_told reads in
    subst (λ changes. StandsAtRest (all_stepped s changes)) (sym edits) left

pub reply_rests : (s : State) (told : Told) (c : Cmd) (given text : List ℕ) (id : Option Data) (d : Data) → command_at given ≡ Ok c
    → begins_job c ≡ false → StandsAtRest s → IsTold s c told → refusal_to s.table told c ≡ None → read text ≡ Some (returned_data id d)
    → StandsAtRest (replied s given text)
reply_rests s told c given text id d line begins h is_told quiet reads =
    read_rests_by s told c given text id d line is_told reads (accepted_rests s told told c begins h is_told.refusal quiet)

failed_rests : (s : State) (c : Cmd) → StandsAtRest s → StandsAtRest (all_stepped s (failed_edits s.table c))
failed_rests s (command.BlockdevCreate c) h = by_options c.options
  where
    spoil : (name : List ℕ) → StandsAtRest (stepped s (change.SpoilFile name))
    spoil name = record {
      stands = spoil_stands s name h.stands;
      inline = (spoiled_file_rests s.table name (table_rests s h)).inline;
    }

    by_options : (options : Created (List ℕ)) → StandsAtRest (all_stepped s (spoiled s.table options))
    by_options (created.File f) = spoil f.filename
    by_options (created.Qcow2 image) = spoil (file_of_node s.table image.file)
    by_options created.Unknown = h
failed_rests s c h = h

-- that of a refused one, whether or not a call failed
pub refused_rests : (s : State) (c : Cmd) (given text : List ℕ) (id : Option Data) (class : Class) (desc : List ℕ) → command_at given ≡ Ok c
    → StandsAtRest s → read text ≡ Some (refused_data id class desc) → StandsAtRest (replied s given text)
refused_rests s c given text id class desc line h reads =
    let says = reads_refused text id class desc reads in
    subst (λ changes. StandsAtRest (all_stepped s changes)) (sym (ap (edits_by s text) line ∙ edits says)) (by_call (is_failed_call desc))
  where
    edits : (is_accepted text ≡ false) × (desc_of text ≡ Some desc)
        → edits_by s text (Ok c) ≡ cond (is_failed_call desc) (failed_edits s.table c) []
    edits says = rw (says.0, says.1) refl

    by_call : (b : Bool) → StandsAtRest (all_stepped s (cond b (failed_edits s.table c) []))
    by_call true = failed_rests s c h
    by_call false = h

-- one to a line that is no command changes nothing
pub no_command : (s : State) (given text : List ℕ) (why : Stop) → command_at given ≡ Err why → replied s given text ≡ s
no_command s given text why line = ap (λ c. all_stepped s (edits_by s text c)) line

-- what the changes of a line's command leave that nothing refuses and that begins a job
abbrev pub RestsBehindStart : State → List ℕ → Told → Type 0
RestsBehindStart s given told = (c : Cmd) → command_at given ≡ Ok c → begins_job c ≡ true → refusal_to s.table told c ≡ None
    → StandsAtRest (all_stepped s (command_edits s.table (expected s c) c))

-- That of any line, where the text is its answer.
pub answer_rests : (s : State) (given : List ℕ) (command : Option Cmd) (text : List ℕ) → StandsAtRest s → (a : IsAnswer s given command text)
    → RestsBehindStart s given a.told → StandsAtRest (replied s given text)
unfolding line_text line_answer answer
answer_rests s given command text h a start = by_line (command_at given) refl a.is_told a.answered
  where
    -- one that isn't read as a result stands for no more than a failed call's changes
    unread : (c : Cmd) → is_accepted text ≡ false → StandsAtRest (all_stepped s (edits_by s text (Ok c)))
    unread c e = subst (λ b. StandsAtRest (all_stepped s (edits b (tells_failure text)))) (sym e) (by_failure (tells_failure text))
      where
        edits : Bool → Bool → List Change
        edits accepted failed = if accepted then command_edits s.table (expected s c) c else if failed then failed_edits s.table c else []

        by_failure : (b : Bool) → StandsAtRest (all_stepped s (edits false b))
        by_failure true = failed_rests s c h
        by_failure false = h

    by_refusal : (c : Cmd) → command_at given ≡ Ok c → IsTold s c a.told → (b : Bool) → is_accepted text ≡ b
        → (cause : Option Refusal) → refusal_to s.table a.told c ≡ cause
        → text ≡ compact_text (answer_data (id_at given) (answer_by s.table a.told c cause).reply)
        → StandsAtRest (all_stepped s (edits_by s text (Ok c)))
    by_refusal c line is_told false e cause quiet is = unread c e
    by_refusal c line is_told true e None quiet is = subst (λ b. StandsAtRest (all_stepped s (edits b))) (sym e) (by_start (begins_job c) refl)
      where
        edits : Bool → List Change
        edits b = if b then command_edits s.table (expected s c) c else if tells_failure text then failed_edits s.table c else []

        by_start : (b : Bool) → begins_job c ≡ b → StandsAtRest (all_stepped s (command_edits s.table (expected s c) c))
        by_start true begins = start c line begins quiet
        by_start false begins = accepted_rests s a.told (expected s c) c begins h is_told.refusal quiet
    by_refusal c line is_told true e (Some cause) quiet is =
        let no = not_accepted given (refusal_class cause) (refusal_text cause) in
        let yes = subst (λ t. is_accepted t ≡ true) is e in
        absurd cc

    by_line : (c : Result Cmd Stop) → command_at given ≡ c → IsToldOf s (command_read c) a.told
        → text ≡ compact_text (answer_data (id_at given) (answer_for s.table a.told given c).reply) → StandsAtRest (replied s given text)
    by_line (Err why) line is_told is = subst StandsAtRest (sym (no_command s given text why line)) h
    by_line (Ok c) line is_told is =
        subst (λ x. StandsAtRest (all_stepped s (edits_by s text x))) (sym line)
        (by_refusal c line is_told (is_accepted text) refl (refusal_to s.table a.told c) refl is)

-- ---- pieces

-- rows may lose their disks, but for those that stand for files, and nodes keep their bytes
lessened_stands : (s now : State) → SameRows s.table now.table → now.table.edges ≡ s.table.edges → now.table.guests ≡ s.table.guests
    → now.table.devices ≡ s.table.devices → now.table.files ≡ s.table.files → now.files ≡ s.files → now.left ≡ s.left → now.named ≡ s.named
    → ((node : ℕ) → HasBytes s node → HasBytes now node)
    → ((name : List ℕ) (row later : NodeRecord) → StandsFor s.table name row → IsLike row later → Contains now.table.nodes later
    → later.is_settled ≡ false → row.is_settled ≡ false) → Stands s → Stands now
lessened_stands s now rows edges guests devices states files left named bytes keeps h = record {
  table = rows_table s.table now.table rows edges guests devices h.table;
  files = λ name later over.
      let was = before name later over in
      subst (λ fs. IsSome (content_in fs name)) (sym files) (h.files name was.0 was.1.0);
  lost = λ name later over gone.
      let was = before name later over in
      as_before name was.0 later was.1.1 (h.lost name was.0 was.1.0 (keeps name was.0 later was.1.0 was.1.1 over.there gone));
  states = λ name what found is_open. subst (λ st. IsOfState st what) (sym (state_same name))
      (h.states name what (subst (λ fs. content_in fs name ≡ Some what) files found)
      (λ row over under.
      let later = after name row over in
      is_open later.0 later.1.0 (subst (λ es. IsUnder es later.0.id) (sym edges) (subst (IsUnder s.table.edges) (sym later.1.1.id) under))));
  formatted = λ name is.
      let row = h.formatted name (sym (state_same name) ∙ is) in
      let later = after name row.0 row.1 in
      (later.0, later.1.0);
  writing = grown_writing s now (IsThere s.table) NoRow NoEdge grow
      (record {
        names = λ name is. subst (λ ns. has_name name ns ≡ true) (sym named) is;
        names_new = λ name r never. absurd never;
        known = λ name over under f is known. subst (λ fs. content_in fs name ≡ Some Unknown) (sym files) known;
        known_new = λ name over under f never. absurd never;
        bytes = λ node here some. bytes node some;
        bytes_new = λ r never. absurd never;
        left = subst (All (IsUsedUp now)) (sym left)
            (All-weaker (IsUsedUp s) (IsUsedUp now) (λ l used. left_still s now (IsThere s.table) NoRow NoEdge grow l
            (state_same l.file ∙ used.used) (λ r never. absurd never) (λ e r never. absurd never) used) s.left h.writing.left);
        written = λ node name here entered of known. subst (λ fs. content_in fs name ≡ Some Unknown) (sym files) known;
        used = λ node name here entered of used. state_same name ∙ used;
        copies_new = λ r disk never. absurd never;
        emptied = λ node name here entered of none. subst (All (λ l. l.file ≢ name)) (sym left) none;
        devices = same_devices s now devices (λ g. ap (child_of (Guest g) Drive) edges);
        drives = λ g node is. drive_there s.table h.table.edges g node is;
      })
      h.table h.writing;
}
  where
    grow : Grows s.table now.table (IsThere s.table) NoRow NoEdge
    grow = rows_grow s.table now.table rows edges h.table

    state_same : (name : List ℕ) → file_state now.table name ≡ file_state s.table name
    state_same name = ap (λ fs. option_map (λ r. r.state) (find (λ r. bytes_eq r.name name) fs)) states

    before : (name : List ℕ) (later : NodeRecord) → StandsFor now.table name later
        → (row : NodeRecord) × (StandsFor s.table name row × IsLike row later)
    before name later over =
        let was = rows.back later over.there in
        (was.0, (record { there = was.1.0; filename = sym was.1.1.filename ∙ over.filename }, was.1.1))

    after : (name : List ℕ) (row : NodeRecord) → StandsFor s.table name row
        → (later : NodeRecord) × (StandsFor now.table name later × IsLike row later)
    after name row over =
        let later = rows.forth row over.there in
        (later.0, (record { there = later.1.0; filename = later.1.1.filename ∙ over.filename }, later.1.1))

    as_before : (name : List ℕ) (row later : NodeRecord) → IsLike row later → IsLostBy s.table name row → IsLostBy now.table name later
    as_before name row later like (inl used) = inl (state_same name ∙ used)
    as_before name row later like (inr (inl image)) = inr (inl (state_same name ∙ image))
    as_before name row later like (inr (inr under)) =
        inr (inr (subst (λ es. IsUnder es later.id) (sym edges) (subst (IsUnder s.table.edges) (sym like.id) under)))

-- a change beside all of it
pub beside_rests : (s now : State) → now.table ≡ s.table → now.files ≡ s.files → now.left ≡ s.left → now.named ≡ s.named
    → ((node : ℕ) → HasBytes s node → HasBytes now node) → StandsAtRest s → StandsAtRest now
beside_rests s now table files left named bytes h = record {
  stands = lessened_stands s now rows (ap (λ t. t.edges) table) (ap (λ t. t.guests) table) (ap (λ t. t.devices) table) (ap (λ t. t.files) table)
      files left named bytes
      (λ name row later over like there gone.
      subst (λ r. r.is_settled ≡ false) (same_row s.table h.stands.table.apart row later over.there
      (subst (λ ns. Contains ns later) (ap (λ t. t.nodes) table) there) like.id) gone) h.stands;
  inline = subst InlineAreUnder (sym table) h.inline;
}
  where
    rows : SameRows s.table now.table
    rows = rows-same s.table now.table (ap (λ t. t.nodes) table) h.stands.table.apart

bytes_changed : (node n : ℕ) (f : List ℕ → List ℕ) (disks : List Disk) → IsSome (find (λ d. d.node == n) disks)
    → IsSome (find (λ d. d.node == n) (map (disk_changed node f) disks))
bytes_changed node n f disks some =
    subst IsSome (sym (find-map (λ d. d.node == n) (disk_changed node f) (λ d. ap (λ k. k == n) (same d)) disks)) (still (find (λ d. d.node == n) disks) some)
  where
    same : (d : Disk) → (disk_changed node f d).node ≡ d.node
    same d = by_test (d.node == node)
      where
        by_test : (b : Bool) → (cond b (record d { bytes = f d.bytes }) d).node ≡ d.node
        by_test true = refl
        by_test false = refl

    still : (o : Option Disk) → IsSome o → IsSome (option_map (disk_changed node f) o)
    still None h = absurd cc
    still (Some d) h = refl

-- a node without a backing node is over none
chain-alone : (t : RunTable) (id : ℕ) → backing t id ≡ None → chain t id ≡ id ∷ []
unfolding chain
chain-alone t id none = from_one 63
  where
    from_one : (more : ℕ) → chain_from (suc more) t id ≡ id ∷ []
    from_one more = ap (λ b. id ∷ (elim b as (λ _. List ℕ) [ None ↦ [] | Some under ↦ chain_from more t under ])) none

file-not-over : (t : RunTable) (node : ℕ) (row : NodeRecord) → TableStands t → Contains t.nodes row → row.kind ≡ Protocol → is_over t node row.id ≡ false
file-not-over t node row h there driver =
    let here : disk_node t row.id ≡ row.id = own_disk t row.id row (h.apart row there) (ap filter_role driver) in
    ap (λ n. is_listed node (chain_below t n)) here ∙ ap (λ ids. is_listed node (drop 1 ids)) (chain-alone t row.id (no_backing (child t row.id Backing) refl))
  where
    no_backing : (found : Option ℕ) → child t row.id Backing ≡ found → option_map (disk_node t) (child t row.id Backing) ≡ None
    no_backing None e = ap (option_map (disk_node t)) e
    no_backing (Some under) e =
        let to = role_edge (Node row.id) Backing t.edges under e in
        let role = h.roles to.edge row to.there there to.from in
        let never : has_role Protocol Backing ≡ true = subst (λ r. has_role Protocol r ≡ true) to.role_is (subst (λ k. has_role k to.edge.role ≡ true) driver role) in
        absurd cc

written_stands : (s : State) (node : ℕ) → StandsAtRest s → StandsAtRest (node_written node s)
unfolding written_under
written_stands s node h = record {
  stands = lessened_stands s now rows refl refl refl refl refl refl refl (λ n some. some) keeps h.stands;
  inline = (written_rests s.table node (table_rests s h)).inline;
}
  where
    now : State
    now = node_written node s

    rows : SameRows s.table now.table
    rows = rows-mapped s.table now.table (unsettled_over s.table node) (like_over s.table node) refl h.stands.table.apart

    keeps : (name : List ℕ) (row later : NodeRecord) → StandsFor s.table name row → IsLike row later → Contains now.table.nodes later
        → later.is_settled ≡ false → row.is_settled ≡ false
    keeps name row later over like there gone =
        let is : later ≡ unsettled_over s.table node row =
        changed_row s.table (unsettled_over s.table node) (like_over s.table node) h.stands.table.apart row later over.there there like.id in
        let not_over = file-not-over s.table node row h.stands.table over.there (h.stands.table.drivers name row over) in
        let same : unsettled_over s.table node row ≡ row = ap (λ b. cond b (record row { is_settled = false }) row) not_over in
        subst (λ r. r.is_settled ≡ false) (is ∙ same) gone

note_rests : (s : State) (outcome : Outcome) (part : Extent) (drive : ℕ) → StandsAtRest s → StandsAtRest (note outcome part drive s)
note_rests s outcome part drive h = by_flag (is_noted outcome)
  where
    by_flag : (b : Bool) → StandsAtRest (cond b (record s { dirty = noted s.table part s.dirty (path s.table drive) }) s)
    by_flag true =
        beside_rests s (record s { dirty = noted s.table part s.dirty (path s.table drive) }) refl refl refl refl (λ n some. some) h
    by_flag false = h

read_rests : (s : State) (drive : ℕ) → StandsAtRest s → StandsAtRest (read_through drive s)
read_rests s drive h = by_flag (copies_through s.table drive)
  where
    by_flag : (b : Bool) → StandsAtRest (cond b (record s { images = map (unsure (disk_node s.table drive ∷ [])) s.images }) s)
    by_flag true =
        beside_rests s (record s { images = map (unsure (disk_node s.table drive ∷ [])) s.images }) refl refl refl refl (λ n some. some) h
    by_flag false = h

-- a piece of any request
pub piece_rests : (s : State) (drive : ℕ) (op : Op) (outcome : Outcome) (part : Extent) → StandsAtRest s
    → StandsAtRest (with_part drive op outcome part s)
piece_rests s drive op outcome part h = by_op op
  where
    node : ℕ
    node = disk_node s.table drive

    done : Op → State
    done op = with_disk node (done_in op part (done_by outcome part)) s

    done_rests : (op : Op) → StandsAtRest (done op)
    done_rests op =
        beside_rests s (done op) refl refl refl refl (λ n some. bytes_changed node n (done_in op part (done_by outcome part)) s.disks some) h

    by_op : (op : Op) → StandsAtRest (with_part drive op outcome part s)
    by_op (Read span) = read_rests (done (Read span)) drive (done_rests (Read span))
    by_op (Write span payload) =
        note_rests (node_written node (done (Write span payload))) outcome part drive
        (written_stands (done (Write span payload)) node (done_rests (Write span payload)))
    by_op (Zero span) =
        note_rests (node_written node (done (Zero span))) outcome part drive (written_stands (done (Zero span)) node (done_rests (Zero span)))
    by_op (Discard span) = done_rests (Discard span)
    by_op Flush = done_rests Flush

-- ---- guests

-- a guest whose device may write can write what it asks for
pub guest_can : (s : State) (g : ℕ) (device : DeviceRow) (drive : ℕ) (op : Op) → StandsAtRest s → device_by_number s.table g ≡ Some device
    → drive_of s.table g ≡ Some drive → (is_write op ≡ true → device.read_only ≡ false) → CanWrite s drive op
guest_can s g device drive op h found is writes = by_op op writes
  where
    may : MayGuestWrite s device drive
    may = at_with (MayGuestWrite s device) (drive_of s.table g) drive is (h.stands.writing.writers g device found)

    can : device.read_only ≡ false → IsGuestWritable s (disk_node s.table drive)
    can e = may (ap (λ b. not b || copies_through s.table drive) e)

    copies : (a b : Bool) → b ≡ true → (a || b) ≡ true
    copies true b e = refl
    copies false b e = e

    by_op : (op : Op) → (is_write op ≡ true → device.read_only ≡ false) → CanWrite s drive op
    by_op (Read span) w = λ e. may (copies (not device.read_only) (copies_through s.table drive) e)
    by_op (Write span payload) w = can (w refl)
    by_op (Zero span) w = can (w refl)
    by_op (Discard span) w = tt
    by_op Flush w = tt
