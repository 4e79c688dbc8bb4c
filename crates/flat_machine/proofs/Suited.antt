-- The changes of an accepted command leave what holds of all states.
use Rattle.std.proofs.Common.{◌≡◌, ◌⊎◌, ℕ, zero, suc, ◌+◌, ◌-◌, ◌<◌, ◌≤◌, Bool, true, false, cond, List, [], ◌∷◌, ◌++◌, map, length, refl, sym, ap, subst, ◌∙◌, inl, inr, arith, Option, Some, None, option_map}
use Rattle.std.specs.Prelude.{◌==◌, ◌||◌, if◌then◌else◌, not, nat_eq, nat_le, option_and_then, unwrap_or, IsSome, is_some, bytes_eq, codes}
use Rattle.std.specs.List.{find, list_any, Contains}
use Rattle.std.proofs.lemmas.Bool.{and_right, eqb-true, eq-eqb, ne_eqb, leb-false}
use Rattle.std.proofs.lemmas.List.{length-map}
use Rattle.blk_graph.specs.declared.edge.Edge.{Edge}
use Rattle.blk_graph.specs.declared.edge.Parent.TheVariants.{Node}
use Rattle.blk_graph.specs.declared.edge.Role.{Role}
use Rattle.blk_graph.specs.declared.edge.Role.TheVariants.{File, Filtered}
use Rattle.blk_graph.specs.declared.kind.Kind.{Kind}
use Rattle.blk_graph.specs.declared.kind.Kind.TheVariants.{Protocol, Raw, Qcow2, CopyOnRead, BeforeWrite, Mirror, Commit}
use Rattle.blk_graph.specs.Permissions.{has_role}
use Rattle.blk_graph.specs.Ids.{lowest_from}
use Rattle.blk_graph.proofs.Members.{find-Some, map-Contains, list_any-there}
use Rattle.blk_graph.proofs.IdLemmas.{length-taken}
use Rattle.qmp_codec.specs.Commands.{Cmd, SeenSources}
use Rattle.qmp_codec.specs.declared.command.Command.TheVariants as command
use Rattle.qmp_codec.specs.declared.nodes.FileRef.{FileRef}
use Rattle.qmp_codec.specs.declared.nodes.FileRef.TheVariants as file_ref
use Rattle.qmp_codec.specs.declared.nodes.InlineFile.{InlineFile}
use Rattle.qmp_codec.specs.declared.nodes.AddRaw.{AddRaw}
use Rattle.qmp_codec.specs.declared.nodes.AddQcow2.{AddQcow2}
use Rattle.qmp_codec.specs.declared.nodes.Added.{Added}
use Rattle.qmp_codec.specs.declared.nodes.Added.TheVariants as added
use Rattle.qmp_codec.specs.declared.nodes.BlockdevAdd.{BlockdevAdd}
use Rattle.qmp_codec.specs.declared.nodes.Created.{Created}
use Rattle.qmp_codec.specs.declared.nodes.Created.TheVariants as created
use Rattle.qmp_codec.specs.declared.nodes.DeviceAdd.{DeviceAdd}
use Rattle.qmp_asks.specs.declared.ask.Ask.TheVariants as ask
use Rattle.qmp_asks.specs.declared.ask.Drivers.TheVariants as drivers
use Rattle.qmp_rules.specs.declared.change.Change.{Change}
use Rattle.qmp_rules.specs.declared.change.Change.TheVariants as change
use Rattle.qmp_rules.specs.declared.rows.JobRecord.{JobRecord}
use Rattle.qmp_rules.specs.declared.rows.NodeRecord.{NodeRecord}
use Rattle.qmp_rules.specs.declared.rows.DeviceRow.{DeviceRow}
use Rattle.qmp_rules.specs.declared.rows.AskedEnd.{AskedEnd}
use Rattle.qmp_rules.specs.declared.rows.AskedEnd.TheVariants as asked
use Rattle.qmp_rules.specs.declared.rows.FileState.{FileState}
use Rattle.qmp_rules.specs.declared.rows.FileState.TheVariants.{Used}
use Rattle.qmp_rules.specs.declared.told.Told.{Told}
use Rattle.qmp_rules.specs.Table.{RunTable, node_by_id, node_named, device_by_number, device_named, job_named, file_state, child, kinds_of}
use Rattle.qmp_asks.specs.Values.{flag_or_false}
use Rattle.qmp_asks.specs.Naming.{is_file_name, is_name}
use Rattle.qmp_rules.specs.Chains.{filter_role, disk_node}
use Rattle.qmp_rules.specs.Changes.{changed, without_record}
use Rattle.qmp_rules.specs.Edits.{place_from, unused_from, device_number, inline_row, raw_edits, qcow2_edits, added_edits, add_edits, length_told, edits_of, file_uses, file_under, name_of_file_at, goes_with_node, with_inline, created_change, file_of_node, del_edits, new_device, device_add_edits, merges, asked_by_cancel}
use Rattle.qmp_asks.specs.NodeAsks.{create_values, create_names, create_rest, del_asks, device_add_asks, add_asks, option_values, added_values, added_names, file_names, is_read_only, added_rest, raw_rest, qcow2_rest, is_added, backing_name}
use Rattle.qmp_rules.specs.Looks.{is_unopened}
use Rattle.qmp_asks.specs.Asking.{Asking}
use Rattle.qmp_rules.specs.Asks.{id_or, holds, first_unmet_ask, takes, is_file, is_lost, name_of_file}
use Rattle.qmp_asks.specs.BitmapAsks.{source_name, source_node}
use Rattle.qmp_asks.specs.CommandAsks.{asks_of, negotiates}
use Rattle.qmp_rules.specs.Answers.{unbuilt, out_of_turn, refusal_to, command_edits}
use Rattle.blk_history.specs.Fold.{With}
use Rattle.flat_machine.specs.State.{State, Unknown, content_in}
use Rattle.flat_machine.specs.Changed.{stepped}
use Rattle.flat_machine.specs.Replies.{begins_job}
use Rattle.flat_machine.specs.Sights.{told_for, MayStop}
use Rattle.flat_machine.specs.Performing.{IsWholly}
use Rattle.flat_machine.specs.Wiring.{LeadsToFile, IsNumberBy, IsInline, InlineAreUnder, TableStands}
use Rattle.flat_machine.specs.Standing.{Stands, StandsAtRest}
use Rattle.flat_machine.specs.Suiting.{IsAlone, AllTableSuit, RemovalSuits, FormattingSuits, AllSuit}
use Rattle.flat_machine.proofs.Finds.{bytes_eq-same, same-bytes_eq, content_in-with}
use Rattle.flat_machine.proofs.Fresh.{any-Contains, lowest_from-cases, no-found}
use Rattle.flat_machine.proofs.Asked.{none-both, not-refused, NoneHolds, none-ahead, none-holds, none-behind, good-value, named-file, found-named, takes-driver, room-left, none-stands, known-file, known-under, lone-node}
use Rattle.flat_machine.proofs.Accepted.{none-over, row_at, is_protocol, file_can, inline_can, raw_told_absent, qcow2_told_absent, no_edge}
use Rattle.flat_machine.proofs.Tables.{file_state-with}
use Rattle.flat_machine.proofs.Wired.{OldEdge, NoEdge}
use Rattle.flat_machine.proofs.TablesKept.{IsOther, kept_row}
use Rattle.flat_machine.proofs.FilesStand.{use_stands}
use Rattle.flat_machine.proofs.OwnNames.{named-if, names-asked}
use Rattle.flat_machine.proofs.CopiedFiles.{copied_used}
use Rattle.flat_machine.proofs.TableSuited.{named-row, own-settled, file-own, inline-found, add-table, NamedDrive, named-drive, device-suits, free-used}
use Rattle.flat_machine.proofs.DriveWrites.{drive_may, one-disk}
use Rattle.flat_machine.proofs.SnapshotStates.{snapshot_suits}
use Rattle.flat_machine.proofs.TableRests.{inline_change, inline-file, inline-format, inline-left, made-goes_with, without_grow}

with_some : {A : Type 0} (P : A → Type 0) (o : Option A) → With o P → IsSome o
with_some P None h = absurd h
with_some P (Some a) h = refl

-- what is not lost was not used
not_used : (is_raw : Bool) (state : Option FileState) → is_lost is_raw state ≡ false → state ≡ Some Used → ⊥
not_used is_raw state kept used = let lost = subst (λ st. is_lost is_raw st ≡ false) used kept in cc

-- ---- blockdev-add

module _ (s : State) (told : Told) (c : BlockdevAdd (List ℕ)) (name : List ℕ) (read_only : Bool) (stands : Stands s)
    (may : MayStop s (command.BlockdevAdd c) (told_for s (command.BlockdevAdd c)).stopped told.stopped) where
  file_suits : (filename : List ℕ) → c.driver ≡ added.File filename
      → NoneHolds s.table told (added_names (added.File filename)) → NoneHolds s.table told (added_rest name read_only (added.File filename))
      → (exp : Told) → AllTableSuit s.table (added_edits s.table exp name read_only (added.File filename))
      → AllSuit s (added_edits s.table exp name read_only (added.File filename))
  file_suits filename driver names asks exp table =
      let can = file_can s told c name read_only stands may filename driver (named-file s.table told (codes "filename") filename names.0) asks
      (length_told exp) read_only name in
      let named = table.0.filename in
      let same : filename ≡ table.0.name = cc in (
        record {
          suits = table.0;
          settled = refl;
          there = subst (λ n. IsSome (content_in s.files n)) same (with_some IsWholly (content_in s.files filename) can.known);
          unused = λ used. not_used false (file_state s.table filename) (known-file s.table told filename false asks.1.1.1.1.0)
              (subst (λ n. file_state s.table n ≡ Some Used) (sym same) used);
        },
        tt,
      )

  raw_inline_suits : (raw : AddRaw (List ℕ)) (file : InlineFile (List ℕ)) → c.driver ≡ added.Raw raw → raw.file ≡ file_ref.Inline file
      → is_file_name file.filename ≡ true → NoneHolds s.table told (raw_rest name read_only raw (file_ref.Inline file))
      → (exp : Told) → AllTableSuit s.table (raw_edits s.table exp name read_only raw (file_ref.Inline file))
      → AllSuit s (raw_edits s.table exp name read_only raw (file_ref.Inline file))
  unfolding changed
  raw_inline_suits raw file driver inline of_file_name asks exp table =
      let room = room-left s.table told 2 asks.1.1.1.0 in
      let can = inline_can s told c name read_only stands may file true of_file_name
      (λ e closed. raw_told_absent s c raw file driver inline closed e) (λ e. rw driver refl) room
      asks.1.1.1.1.0 asks.1.1.1.1.1.0 asks.1.1.1.1.1.1.0 exp in
      let known = known-file s.table told file.filename true asks.1.1.1.1.1.1.0 in
      let named = table.0.filename in
      let same : file.filename ≡ table.0.name = cc in
      let at_file = table.1.0.found in
      let row_found = inline-found s.table told stands.table (inline_row s.table exp name file) refl (omega arith) in
      let under : table.1.0.under ≡ inline_row s.table exp name file = cc in
      let of_file : table.1.0.under.filename ≡ Some file.filename = ap (λ r. r.filename) under in
      let of_name = table.1.0.of_file in
      let same_under : file.filename ≡ table.1.0.name = cc in (
        record {
          suits = table.0;
          settled = refl;
          there = subst (λ n. IsSome (content_in s.files n)) same (with_some IsWholly (content_in s.files file.filename) can.known);
          unused = λ used. not_used true (file_state s.table file.filename) known (subst (λ n. file_state s.table n ≡ Some Used) (sym same) used);
        },
        (
          record {
            suits = table.1.0;
            unused = λ used. not_used true (file_state s.table file.filename) known (subst (λ n. file_state s.table n ≡ Some Used) (sym same_under) used);
          },
          tt,
        ),
      )

  qcow2_inline_suits : (image : AddQcow2 (List ℕ)) (file : InlineFile (List ℕ)) (back : Option (List ℕ)) → c.driver ≡ added.Qcow2 image
      → image.file ≡ file_ref.Inline file → is_file_name file.filename ≡ true
      → NoneHolds s.table told (qcow2_rest name read_only back (file_ref.Inline file))
      → (exp : Told) → AllTableSuit s.table (qcow2_edits s.table exp name read_only back (file_ref.Inline file))
      → AllSuit s (qcow2_edits s.table exp name read_only back (file_ref.Inline file))
  unfolding changed
  qcow2_inline_suits image file back driver inline of_file_name asks exp table =
      let room = room-left s.table told 2 asks.1.1.1.1.0 in
      let can = inline_can s told c name read_only stands may file false of_file_name
      (λ e closed. qcow2_told_absent s c image file driver inline closed e)
      (λ e. rw (driver, inline, e) (and_right (not (is_unopened s.table file.filename)) false refl)) room
      asks.1.1.1.1.1.1.0 asks.1.1.1.1.1.1.1.0 asks.1.1.1.1.1.1.1.1.0 exp in
      let known = known-file s.table told file.filename false asks.1.1.1.1.1.1.1.1.0 in
      let named = table.0.filename in
      let same : file.filename ≡ table.0.name = cc in
      let at_file = table.1.0.found in
      let row_found = inline-found s.table told stands.table (inline_row s.table exp name file) refl (omega arith) in
      let under : table.1.0.under ≡ inline_row s.table exp name file = cc in
      let of_file : table.1.0.under.filename ≡ Some file.filename = ap (λ r. r.filename) under in
      let of_name = table.1.0.of_file in
      let same_under : file.filename ≡ table.1.0.name = cc in (
        record {
          suits = table.0;
          settled = refl;
          there = subst (λ n. IsSome (content_in s.files n)) same (with_some IsWholly (content_in s.files file.filename) can.known);
          unused = λ used. not_used false (file_state s.table file.filename) known (subst (λ n. file_state s.table n ≡ Some Used) (sym same) used);
        },
        (
          record {
            suits = table.1.0;
            unused = λ used. not_used false (file_state s.table file.filename) known (subst (λ n. file_state s.table n ≡ Some Used) (sym same_under) used);
          },
          tt,
        ),
      )

  -- the file of a `file` node that is there was not used
  unused_under : (file : List ℕ) (is_raw : Bool) → ((row : NodeRecord) × (node_named s.table file ≡ Some row))
      → holds s.table told (ask.Drives (Some file) drivers.File) ≡ None → holds s.table told (ask.KnownUnder file is_raw) ≡ None
      → (under : NodeRecord) → node_by_id s.table (id_or 0 s.table (Some file)) ≡ Some under → (of : List ℕ) → under.filename ≡ Some of
      → file_state s.table of ≡ Some Used → ⊥
  unused_under file is_raw named drives known under found of named_so used =
      let row : NodeRecord = named.0 in
      let driver = takes-driver s.table told file drivers.File row named.1 drives in
      let kept = known-under s.table told file is_raw row named.1 driver known in
      let at_row = row_at s file row stands named.1 in
      let at_id : node_by_id s.table row.id ≡ Some under = rw named.1 at found in
      let same : row ≡ under = cc in
      let name_is : name_of_file row ≡ of = ap (λ r. unwrap_or r.filename []) same ∙ ap (λ n. unwrap_or n []) named_so in
      not_used is_raw (file_state s.table of) (subst (λ n. is_lost is_raw (file_state s.table n) ≡ false) name_is kept) used

  raw_suits : (raw : AddRaw (List ℕ)) (file : FileRef (List ℕ)) → c.driver ≡ added.Raw raw → raw.file ≡ file
      → NoneHolds s.table told (file_names file) → NoneHolds s.table told (raw_rest name read_only raw file)
      → (exp : Told) → AllTableSuit s.table (raw_edits s.table exp name read_only raw file)
      → AllSuit s (raw_edits s.table exp name read_only raw file)
  raw_suits raw (file_ref.Inline file) driver is names asks exp table =
      raw_inline_suits raw file driver is (named-file s.table told (codes "filename") file.filename names.0) asks exp table
  raw_suits raw (file_ref.Name file) driver is names asks exp table = (
    record {
      suits = table.0;
      unused = unused_under file true (found-named s.table told file asks.0) asks.1.1.1.0 asks.1.1.1.1.1.0 table.0.under table.0.found table.0.name
          table.0.of_file;
    },
    tt,
  )

  qcow2_suits : (image : AddQcow2 (List ℕ)) (file : FileRef (List ℕ)) (back : Option (List ℕ)) → c.driver ≡ added.Qcow2 image → image.file ≡ file
      → NoneHolds s.table told (file_names file) → NoneHolds s.table told (qcow2_rest name read_only back file)
      → (exp : Told) → AllTableSuit s.table (qcow2_edits s.table exp name read_only back file)
      → AllSuit s (qcow2_edits s.table exp name read_only back file)
  qcow2_suits image (file_ref.Inline file) back driver is names asks exp table =
      qcow2_inline_suits image file back driver is (named-file s.table told (codes "filename") file.filename names.0) asks exp table
  qcow2_suits image (file_ref.Name file) back driver is names asks exp table = (
    record {
      suits = table.0;
      unused = unused_under file false (found-named s.table told file asks.0) asks.1.1.1.1.0 asks.1.1.1.1.1.1.0 table.0.under table.0.found table.0.name
          table.0.of_file;
    },
    tt,
  )

  driver_suits : (driver : Added (List ℕ)) → c.driver ≡ driver → is_added driver ≡ true
      → NoneHolds s.table told (added_names driver) → NoneHolds s.table told (added_rest name read_only driver)
      → (exp : Told) → AllTableSuit s.table (added_edits s.table exp name read_only driver)
      → AllSuit s (added_edits s.table exp name read_only driver)
  driver_suits (added.File filename) e known names asks exp table = file_suits filename e names asks exp table
  driver_suits (added.Raw raw) e known names asks exp table = raw_suits raw raw.file e refl names asks exp table
  driver_suits (added.Qcow2 image) e known names asks exp table =
      qcow2_suits image image.file (backing_name image.backing) e refl
      (none-ahead s.table told (file_names image.file) (ask.Named (codes "backing") (backing_name image.backing) ∷ []) names) asks exp table
  driver_suits (added.CopyOnRead file) e known names asks exp table = (table.0, tt)
  driver_suits added.Unknown e known names asks exp table = absurd cc

add_suits : (s : State) (told exp : Told) (c : BlockdevAdd (List ℕ)) → Stands s
    → MayStop s (command.BlockdevAdd c) (told_for s (command.BlockdevAdd c)).stopped told.stopped
    → NoneHolds s.table told (add_asks c) → AllSuit s (add_edits s.table exp c)
add_suits s told exp c stands may asks =
    driver_suits s told c c.node_name (is_read_only c.options) stands may c.driver refl
    (good-value s.table told (codes "driver") (is_added c.driver) asks.0) (names-asked s.table told c asks).1
    (none-behind s.table told front (added_rest c.node_name (is_read_only c.options) c.driver) asks) exp
    (add-table s.table told stands.table c exp asks)
  where
    front : List Asking
    front =
        ask.Good (codes "driver") (is_added c.driver) ∷ option_values c.options
        ++ added_values c.driver
        ++ ask.Named (codes "node-name") (Some c.node_name) ∷ added_names c.driver

-- ---- blockdev-create

named_file : (filename : Option (List ℕ)) → IsSome filename → filename ≡ Some (unwrap_or filename [])
named_file None h = absurd cc
named_file (Some name) h = refl

create_suits : (s : State) (told : Told) (id : List ℕ) (options : Created (List ℕ)) → Stands s
    → NoneHolds s.table told (create_rest id options) → AllSuit s (change.KeepId id ∷ created_change s.table options)
unfolding changed
create_suits s told id (created.File c) stands asks = (
  tt,
  (
    λ row over. none-over s.table c.filename (none-stands s.table told c.filename asks.1.0) row
        (record { there = over.there; filename = over.filename }),
    tt,
  ),
)
create_suits s told id (created.Qcow2 c) stands asks = (tt, (by_row (found-named s.table told c.file asks.0), tt))
  where
    by_row : ((row : NodeRecord) × (node_named s.table c.file ≡ Some row))
        → FormattingSuits (stepped s (change.KeepId id)).table (id_or 0 s.table (Some c.file)) (file_of_node s.table c.file)
    by_row named =
        let row : NodeRecord = named.0 in
        let found : node_named s.table c.file ≡ Some row = named.1 in
        let driver = is_protocol row.kind (takes-driver s.table told c.file drivers.File row found asks.1.1.0) in
        let there = (find-Some (λ r. bytes_eq r.name c.file) s.table.nodes row found).0 in
        record {
          row = row;
          stands = record { there = there; filename = rw found (named_file row.filename (stands.table.names row there driver)) };
          is_node = rw found refl;
          alone = rw found (no_edge row.id s.table.edges (lone-node s.table told c.file row found asks.1.1.1.0));
        }
create_suits s told id created.Unknown stands asks = (tt, tt)

-- ---- device_add: the number

place-below : (k : ℕ) (name : List ℕ) (names : List (List ℕ)) (place : ℕ) → place_from k name names ≡ Some place → place < k + length names
place-below k name [] place is = absurd cc
place-below k name (other ∷ names) place is = by_test (bytes_eq other name) is (place-below (k + 1) name names place)
  where
    by_test : (b : Bool) → cond b (Some k) (place_from (k + 1) name names) ≡ Some place
        → (place_from (k + 1) name names ≡ Some place → place < (k + 1) + length names) → place < k + suc (length names)
    by_test true e rest = let same : k ≡ place = cc in omega arith
    by_test false e rest = let less = rest e in omega arith

place-above : (k : ℕ) (name : List ℕ) (names : List (List ℕ)) (place : ℕ) → place_from k name names ≡ Some place → k ≤ place
place-above k name [] place is = absurd cc
place-above k name (other ∷ names) place is = by_test (bytes_eq other name) is (place-above (k + 1) name names place)
  where
    by_test : (b : Bool) → cond b (Some k) (place_from (k + 1) name names) ≡ Some place
        → (place_from (k + 1) name names ≡ Some place → k + 1 ≤ place) → k ≤ place
    by_test true e rest = let same : k ≡ place = cc in omega arith
    by_test false e rest = let less = rest e in omega arith

-- at one place stands one name
place-same : (k : ℕ) (a b : List ℕ) (names : List (List ℕ)) (place : ℕ) → place_from k a names ≡ Some place → place_from k b names ≡ Some place → a ≡ b
place-same k a b [] place is_a is_b = absurd cc
place-same k a b (other ∷ names) place is_a is_b =
    by_tests (bytes_eq other a) refl (bytes_eq other b) refl is_a is_b (place-same (k + 1) a b names place)
    (place-above (k + 1) a names place) (place-above (k + 1) b names place)
  where
    by_tests : (p : Bool) → bytes_eq other a ≡ p → (q : Bool) → bytes_eq other b ≡ q
        → cond p (Some k) (place_from (k + 1) a names) ≡ Some place → cond q (Some k) (place_from (k + 1) b names) ≡ Some place
        → (place_from (k + 1) a names ≡ Some place → place_from (k + 1) b names ≡ Some place → a ≡ b)
        → (place_from (k + 1) a names ≡ Some place → k + 1 ≤ place) → (place_from (k + 1) b names ≡ Some place → k + 1 ≤ place) → a ≡ b
    by_tests true e true f is_a is_b rest above_a above_b = sym (same-bytes_eq other a e) ∙ same-bytes_eq other b f
    by_tests true e false f is_a is_b rest above_a above_b =
        let same : k ≡ place = cc in let less = above_b is_b in absurd (omega arith)
    by_tests false e true f is_a is_b rest above_a above_b =
        let same : k ≡ place = cc in let less = above_a is_a in absurd (omega arith)
    by_tests false e false f is_a is_b rest above_a above_b = rest is_a is_b

numbers : List DeviceRow → List ℕ
numbers devices = map (λ (d : DeviceRow). d.number) devices

eqb-turned : (a b : ℕ) → (a == b) ≡ nat_eq b a
eqb-turned a b = by_test (nat_eq b a) refl
  where
    by_test : (t : Bool) → nat_eq b a ≡ t → (a == b) ≡ t
    by_test true e = eq-eqb a b (sym (eqb-true b a e))
    by_test false e = ne_eqb a b (λ same. let yes : nat_eq b a ≡ true = eq-eqb b a (sym same) in cc)

any-number : (k : ℕ) (devices : List DeviceRow) → list_any (λ d. d.number == k) devices ≡ list_any (nat_eq k) (numbers devices)
unfolding numbers
any-number k [] = refl
any-number k (d ∷ devices) = ap (λ b. b || list_any (λ x. x.number == k) devices) (eqb-turned d.number k) ∙ ap (λ b. nat_eq k d.number || b) (any-number k devices)

unused-lowest : (more k : ℕ) (devices : List DeviceRow) → unused_from more k devices ≡ lowest_from more k (numbers devices)
unused-lowest zero k devices = refl
unused-lowest (suc more) k devices =
    ap (λ b. cond b (unused_from more (k + 1) devices) k) (any-number k devices)
    ∙ ap (λ n. cond (list_any (nat_eq k) (numbers devices)) n k) (unused-lowest more (k + 1) devices)

-- of so many numbers from one on, not all are those of fewer devices
unused-free : (k : ℕ) (devices : List DeviceRow) → length devices < 64
    → list_any (λ d. d.number == unused_from 64 k devices) devices ≡ false
unfolding numbers
unused-free k devices few =
    any-number (unused_from 64 k devices) devices
    ∙ subst (λ n. list_any (nat_eq n) (numbers devices) ≡ false) (sym (unused-lowest 64 k devices)) (by_cases (lowest_from-cases 64 k (numbers devices)))
  where
    by_cases : (list_any (nat_eq (lowest_from 64 k (numbers devices))) (numbers devices) ≡ false)
        ⊎ ((n : ℕ) → k ≤ n → n < k + 64 → list_any (nat_eq n) (numbers devices) ≡ true)
        → list_any (nat_eq (lowest_from 64 k (numbers devices))) (numbers devices) ≡ false
    by_cases (inl free) = free
    by_cases (inr all) =
        let many : 64 ≤ length (map (λ n. n - k) (numbers devices)) =
        length-taken 64 (map (λ n. n - k) (numbers devices))
        (λ n below.
        let there = map-Contains (λ m. m - k) (numbers devices) (k + n) (any-Contains (k + n) (numbers devices) (all (k + n) (omega arith) (omega arith))) in
        let back : (k + n) - k ≡ n = omega arith in
        subst (Contains (map (λ m. m - k) (numbers devices))) back there) in
        let shorter : length (map (λ n. n - k) (numbers devices)) ≡ length (numbers devices) = simp length-map in
        let as_many : length (numbers devices) ≡ length devices = simp length-map in
        absurd (omega arith)

-- no device has the number of a new one
pub fresh_number : (t : RunTable) (told : Told) (id : List ℕ) → TableStands t → holds t told (ask.FreshDevice id) ≡ None
    → holds t told ask.RoomForDevice ≡ None → device_by_number t (device_number t id) ≡ None
unfolding holds
fresh_number t told id h fresh room = by_place (place_from 0 id t.guests) refl
  where
    few : length t.devices < 64
    few = le-false (length t.devices) (not-refused _ _ room)
      where
        le-false : (n : ℕ) → nat_le 64 n ≡ false → n < 64
        le-false n h = omega (arith, leb-false 64 n h)

    no_device : (number : ℕ) → ((d : DeviceRow) → Contains t.devices d → d.number ≡ number → ⊥) → device_by_number t number ≡ None
    no_device number none = by_found (device_by_number t number) refl
      where
        by_found : (found : Option DeviceRow) → device_by_number t number ≡ found → found ≡ None
        by_found None e = refl
        by_found (Some d) e =
            let here = find-Some (λ x. x.number == number) t.devices d e in
            absurd (none d here.0 (eqb-true d.number number here.1))

    other_id : (d : DeviceRow) → Contains t.devices d → d.id ≡ id → ⊥
    other_id d there same =
        by_found (device_named t id) refl (not-refused _ _ fresh)
      where
        by_found : (found : Option DeviceRow) → device_named t id ≡ found → is_some found ≡ false → ⊥
        by_found None e k = no-found (λ x. bytes_eq x.id id) t.devices d e there (subst (λ n. bytes_eq n id ≡ true) (sym same) (bytes_eq-same id))
        by_found (Some x) e k = cc

    by_place : (place : Option ℕ) → place_from 0 id t.guests ≡ place
        → device_by_number t (unwrap_or place (unused_from 64 (length t.guests) t.devices)) ≡ None
    by_place (Some guest) e = no_device guest (λ d there is. of_device d there is (place_from 0 d.id t.guests) refl (h.numbers d there))
      where
        of_device : (d : DeviceRow) → Contains t.devices d → d.number ≡ guest → (place : Option ℕ) → place_from 0 d.id t.guests ≡ place
            → IsNumberBy (length t.guests) d.number place → ⊥
        of_device d there is None f above = let below = place-below 0 id t.guests guest e in omega arith
        of_device d there is (Some other) f same =
            other_id d there (place-same 0 d.id id t.guests guest (f ∙ ap Some (sym same ∙ is)) e)
    by_place None e =
        no_device (unused_from 64 (length t.guests) t.devices)
        (λ d there is. none_has d there (unused-free (length t.guests) t.devices few) is)
      where
        none_has : (d : DeviceRow) → Contains t.devices d → list_any (λ x. x.number == unused_from 64 (length t.guests) t.devices) t.devices ≡ false
            → d.number ≡ unused_from 64 (length t.guests) t.devices → ⊥
        none_has d there none is =
            let yes = list_any-there (λ x. x.number == unused_from 64 (length t.guests) t.devices) t.devices d there
            (eq-eqb d.number (unused_from 64 (length t.guests) t.devices) is) in
            cc

-- ---- device_add

device_suits : (s : State) (told : Told) (c : DeviceAdd (List ℕ)) → Stands s → NoneHolds s.table told (device_add_asks c)
    → AllSuit s (device_add_edits s.table c)
unfolding changed
device_suits s told c h asks =
    let of = named-drive s.table told h.table c.drive asks.1.1.1.1.0 asks.1.1.1.1.1.1.1.0 in
    rw of.found (by_use of (is_file of.row) refl)
  where
    fresh : device_by_number s.table (device_number s.table c.id) ≡ None
    fresh = fresh_number s.table told c.id h.table asks.1.1.1.1.1.0 asks.1.1.1.1.1.1.0

    own_settled_of : (of : NamedDrive s.table told h.table c.drive) → IsSome of.row.filename → of.row.is_settled ≡ true
    own_settled_of of some =
        own-settled s.table told h.table of.row (h.table.apart of.row of.there) (file-own s.table told h.table of.row of.there some) of.settled

    settled_of : (of : NamedDrive s.table told h.table c.drive) (disk : NodeRecord) → node_by_id s.table (disk_node s.table of.row.id) ≡ Some disk
        → disk.is_settled ≡ true
    settled_of of disk at = sym (ap (λ found. unwrap_or (option_map (λ r. r.is_settled) found) false) at) ∙ of.settled

    -- a drive that a command names is no filter of a job
    not_hidden : (of : NamedDrive s.table told h.table c.drive) → filter_role of.row.kind ≡ Some Filtered → ⊥
    not_hidden of filter =
        let hidden = h.table.hidden of.row of.there filter in
        let said : is_name c.drive ≡ true = named-if s.table told (codes "drive") (Some c.drive) asks.1.1.1.0 in
        let same : of.row.name ≡ c.drive = same-bytes_eq of.row.name c.drive (named-row s.table told h.table c.drive of.row of.found).1 in
        let bad : is_name of.row.name ≡ true = ap is_name same ∙ said in
        cc

    -- of the file of one that is no `file` node, but reads as one, nothing is known
    known_of : (of : NamedDrive s.table told h.table c.drive) → ((name : List ℕ) → of.row.filename ≡ Some name → ⊥)
        → (disk : NodeRecord) (name : List ℕ) → node_by_id s.table (disk_node s.table of.row.id) ≡ Some disk → disk.filename ≡ Some name
        → content_in s.files name ≡ Some Unknown
    known_of of none disk name at named = by_kind of.row.kind refl
      where
        own : filter_role of.row.kind ≡ None → content_in s.files name ≡ Some Unknown
        own no_filter =
            let same = one-disk s.table of.row (h.table.apart of.row of.there) no_filter disk at in
            absurd (none name (sym (ap (λ r. r.filename) same) ∙ named))

        by_kind : (kind : Kind) → of.row.kind ≡ kind → content_in s.files name ≡ Some Unknown
        by_kind Protocol is = own (ap filter_role is)
        by_kind Raw is = own (ap filter_role is)
        by_kind Qcow2 is = own (ap filter_role is)
        by_kind CopyOnRead is = (h.writing.copied name of.row disk of.there (ap filter_role is) at named).content
        by_kind BeforeWrite is = absurd (not_hidden of (ap filter_role is))
        by_kind Mirror is = absurd (not_hidden of (ap filter_role is))
        by_kind Commit is = absurd (not_hidden of (ap filter_role is))

    -- a node that is no `file` node stands for no file
    no_file : (of : NamedDrive s.table told h.table c.drive) → is_file of.row ≡ false → (name : List ℕ) → of.row.filename ≡ Some name → ⊥
    no_file of other name is =
        let driver = h.table.drivers name of.row (record { there = of.there; filename = is }) in
        let yes : is_file of.row ≡ true = ap (takes drivers.File) driver in
        cc

    -- a `file` node reads as itself, also once its file was used
    itself : (of : NamedDrive s.table told h.table c.drive) (name : List ℕ) → of.row.filename ≡ Some name → (disk : NodeRecord)
        → node_by_id (stepped s (change.UseFile name)).table (disk_node (stepped s (change.UseFile name)).table of.row.id) ≡ Some disk
        → disk ≡ of.row
    itself of name is disk at =
        one-disk (stepped s (change.UseFile name)).table of.row ((use_stands s name h).table.apart of.row of.there)
        (file-own s.table told h.table of.row of.there (subst IsSome (sym is) refl)) disk at

    by_name : (of : NamedDrive s.table told h.table c.drive) (name : Option (List ℕ)) → of.row.filename ≡ name
        → AllSuit s (file_uses name ++ change.AddDevice (new_device s.table c of.row) of.row.id ∷ [])
    by_name of None is = (
      record {
        suits = device-suits s.table told h.table c of;
        fresh = fresh;
        writes = drive_may s (new_device s.table c of.row) of.row h of.there refl (λ disk at some. settled_of of disk at)
            (known_of of (λ name named. cc));
      },
      tt,
    )
    by_name of (Some name) is =
        let suits = device-suits s.table told h.table c of in
        let now : State = stepped s (change.UseFile name) in (
          tt,
          (
            record {
              suits = record { there = suits.there; free = free-used s.table name of.row.id suits.free; number = suits.number };
              fresh = fresh;
              writes = drive_may now (new_device s.table c of.row) of.row (use_stands s name h) of.there refl
                  (λ disk at some. ap (λ r. r.is_settled) (itself of name is disk at) ∙ own_settled_of of (subst IsSome (sym is) refl))
                  (λ disk other at named.
                  let its = sym (ap (λ r. r.filename) (itself of name is disk at)) ∙ named in
                  let same : name ≡ other = cc in
                  subst (λ n. content_in now.files n ≡ Some Unknown) same (content_in-with name Unknown s.files));
            },
            tt,
          ),
        )

    by_use : (of : NamedDrive s.table told h.table c.drive) (b : Bool) → is_file of.row ≡ b
        → AllSuit s ((if b then file_uses of.row.filename else []) ++ change.AddDevice (new_device s.table c of.row) of.row.id ∷ [])
    by_use of true is = by_name of of.row.filename refl
    by_use of false is = (
      record {
        suits = device-suits s.table told h.table c of;
        fresh = fresh;
        writes = drive_may s (new_device s.table c of.row) of.row h of.there refl (λ disk at some. settled_of of disk at)
            (known_of of (no_file of is));
      },
      tt,
    )

-- ---- blockdev-del

-- the file over which a node of a kind stands
abbrev file_by : RunTable → NodeRecord → Kind → Option (List ℕ)
file_by t row kind = elim kind as (λ _. Option (List ℕ)) [
  | Protocol ↦ row.filename
  | Raw ↦ name_of_file_at t (child t row.id File)
  | Qcow2 ↦ name_of_file_at t (child t row.id File)
  | _ ↦ None
]

-- that of a format node is its `file` node's
under-file : (t : RunTable) → TableStands t → (row file : NodeRecord) → LeadsToFile t row file → filter_role row.kind ≡ None
    → file_under t row ≡ file.filename
under-file t h row file f own = by_kind row.kind refl
  where
    role : has_role row.kind File ≡ true
    role = subst (λ r. has_role row.kind r ≡ true) f.role (h.roles f.edge row f.there f.over_there f.parent)

    at_child : child t row.id File ≡ Some file.id
    at_child =
        let of = h.single f.edge f.there f.role in
        let same : of.0 ≡ row.id = (let both = sym of.1.0 ∙ f.parent in cc) in
        subst (λ n. child t n File ≡ Some f.edge.child) same of.1.1 ∙ ap Some f.child

    below : name_of_file_at t (child t row.id File) ≡ file.filename
    below = ap (name_of_file_at t) at_child ∙ ap (option_and_then (λ r. r.filename)) (h.apart file f.under_there)

    by_kind : (kind : Kind) → row.kind ≡ kind → file_under t row ≡ file.filename
    by_kind Protocol e = absurd (let never = subst (λ k. has_role k File ≡ true) e role in cc)
    by_kind Raw e = ap (file_by t row) e ∙ below
    by_kind Qcow2 e = ap (file_by t row) e ∙ below
    by_kind CopyOnRead e = absurd (let never = subst (λ k. filter_role k ≡ None) e own in cc)
    by_kind BeforeWrite e = absurd (let never = subst (λ k. filter_role k ≡ None) e own in cc)
    by_kind Mirror e = absurd (let never = subst (λ k. filter_role k ≡ None) e own in cc)
    by_kind Commit e = absurd (let never = subst (λ k. filter_role k ≡ None) e own in cc)

own-file : (t : RunTable) (row : NodeRecord) → row.kind ≡ Protocol → file_under t row ≡ row.filename
own-file t row e = ap (file_by t row) e

module _ (s : State) (row : NodeRecord) (there : Contains s.table.nodes row) (alone : IsAlone s.table row.id) (h : Stands s)
    (inline : InlineAreUnder s.table) (used : (name : List ℕ) → file_under s.table row ≡ Some name → file_state s.table name ≡ Some Used) where
  same_row : (a b : NodeRecord) → Contains s.table.nodes a → Contains s.table.nodes b → a.id ≡ b.id → a ≡ b
  same_row a b there_a there_b ids =
      let at_a = h.table.apart a there_a in
      let at_b = subst (λ n. node_by_id s.table n ≡ Some b) (sym ids) (h.table.apart b there_b) in
      cc

  removal_suits : RemovalSuits s.table row.id
  removal_suits = record {
    alone = alone;
    own = λ name r over is.
        let same = same_row r row over.there there is in
        let driver = h.table.drivers name r over in
        used name (own-file s.table row (ap (λ x. x.kind) (sym same) ∙ driver) ∙ ap (λ x. x.filename) (sym same) ∙ over.filename);
    under = λ name r e over e_there parent role child.
        let f : LeadsToFile s.table row r = record {
          over_there = there;
          under_there = over.there;
          edge = e;
          there = e_there;
          parent = parent;
          role = role;
          child = child;
        } in
        used_under name r f over.filename (filter_role row.kind) refl;
  }
    where
      used_under : (name : List ℕ) (r : NodeRecord) → LeadsToFile s.table row r → r.filename ≡ Some name → (role : Option Role) → filter_role row.kind ≡ role
          → file_state s.table name ≡ Some Used
      used_under name r f named None own = used name (under-file s.table h.table row r f own ∙ named)
      used_under name r f named (Some role) filter = (copied_used s h row r f (subst IsSome (sym filter) refl) name named).state

  -- the `file` node that goes with it
  inline_suits : (file : NodeRecord) → Contains s.table.nodes file → file.made_with ≡ Some row.id → RemovalSuits (stepped s (change.RemoveNode row.id)).table file.id
  unfolding changed
  inline_suits file file_there with = record {
    alone = inline-left s.table row there alone h.table inline file file_there with;
    own = λ name r over is.
        let kept = kept_row s.table (changed s.table (change.RemoveNode row.id)) row.id alone refl (kinds_of (without_record row.id s.table.nodes)) refl h.table
        r over.there in
        let same = same_row r file kept.0 file_there is in
        let f = inline-file s.table row there alone h.table inline file file_there with in
        let own = inline-format s.table row there alone h.table inline file file_there with in
        used name (under-file s.table h.table row file f own ∙ ap (λ x. x.filename) (sym same) ∙ over.filename);
    under = λ name r e over e_there parent role child. absurd (no_edge_of e e_there parent role);
  }
    where
      no_edge_of : (e : Edge) → Contains (stepped s (change.RemoveNode row.id)).table.edges e → e.parent ≡ Node file.id → e.role ≡ File → ⊥
      no_edge_of e e_there parent role =
          by_edge ((without_grow s.table row there alone h.table inline).edges e e_there)
        where
          by_edge : (OldEdge s.table (IsOther s.table row.id) e ⊎ NoEdge e) → ⊥
          by_edge (inr never) = never
          by_edge (inl old) = by_name file.filename refl (inline file row.id file_there with).file
            where
              by_name : (name : Option (List ℕ)) → file.filename ≡ name → IsSome name → ⊥
              by_name None is some = cc
              by_name (Some name) is some =
                  let driver = h.table.drivers name file (record { there = file_there; filename = is }) in
                  let has = h.table.roles old.edge file old.there file_there (old.same.parent ∙ parent) in
                  let of_file : has_role Protocol File ≡ true =
                  subst (λ r. has_role Protocol r ≡ true) (old.same.role ∙ role) (subst (λ k. has_role k old.edge.role ≡ true) driver has) in
                  cc

  gone_suits : (found : Option NodeRecord) → find (goes_with_node row.id) s.table.nodes ≡ found
      → AllSuit s (change.RemoveNode row.id ∷ inline_change found)
  gone_suits None e = (removal_suits, tt)
  gone_suits (Some file) e =
      let here = find-Some (goes_with_node row.id) s.table.nodes file e in
      (removal_suits, (inline_suits file here.0 (made-goes_with row.id file here.1), tt))

del_suits : (s : State) (told : Told) (name : List ℕ) → StandsAtRest s → NoneHolds s.table told (del_asks name) → AllSuit s (del_edits s.table name)
unfolding changed
del_suits s told name h asks = by_row (found-named s.table told name asks.1.0)
  where
    by_use : (row : NodeRecord) → Contains s.table.nodes row → IsAlone s.table row.id → (file : Option (List ℕ)) → file_under s.table row ≡ file
        → AllSuit s (file_uses file ++ change.RemoveNode row.id ∷ with_inline s.table row.id)
    by_use row there alone None is =
        gone_suits s row there alone h.stands h.inline (λ name of. absurd cc) (find (goes_with_node row.id) s.table.nodes) refl
    by_use row there alone (Some file) is =
        let now : State = stepped s (change.UseFile file) in (
          tt,
          gone_suits now row there alone (use_stands s file h.stands) (λ r over r_there with. moved file (h.inline r over r_there with))
              (λ other of. used file other (sym is ∙ of)) (find (goes_with_node row.id) s.table.nodes) refl,
        )
      where
        moved : (file : List ℕ) {r : NodeRecord} {over : ℕ} → IsInline s.table r over → IsInline (changed s.table (change.UseFile file)) r over
        moved file k = record { file = k.file; edge = k.edge; there = k.there; parent = k.parent; role = k.role; child = k.child; format = k.format; named = k.named }

        used : (file other : List ℕ) → Some file ≡ Some other → file_state (changed s.table (change.UseFile file)) other ≡ Some Used
        used file other same =
            let is : file ≡ other = cc in
            subst (λ n. file_state (changed s.table (change.UseFile file)) n ≡ Some Used) is (file_state-with file Used s.table.files)

    by_row : ((row : NodeRecord) × (node_named s.table name ≡ Some row)) → AllSuit s (del_edits s.table name)
    by_row named =
        let row : NodeRecord = named.0 in
        let there = (named-row s.table told h.stands.table name row named.1).0 in
        rw named.1 (by_use row there (no_edge row.id s.table.edges (lone-node s.table told name row named.1 asks.1.1.1.0)) (file_under s.table row) refl)

device_gone_suits : (s : State) (found : Option DeviceRow)
    → AllSuit s (elim found as (λ _. List Change) [ None ↦ [] | Some device ↦ change.RemoveDevice device.number ∷ [] ])
device_gone_suits s None = tt
device_gone_suits s (Some device) = (tt, tt)

merges-suit : (t : RunTable) (node target : List ℕ) (sources : SeenSources) (s : State) → AllSuit s (merges t node target sources)
merges-suit t node target [] s = tt
merges-suit t node target (source ∷ sources) s =
    let one : Change = change.MergeBitmap (id_or 0 t (Some node)) target (id_or 0 t (Some (source_node node source))) (source_name source) in
    (tt, merges-suit t node target sources (stepped s one))

-- ---- jobs

asked_suits : (s : State) (ask : JobRecord → AskedEnd) (found : Option JobRecord)
    → AllSuit s (elim found as (λ _. List Change) [ None ↦ [] | Some job ↦ change.AskJob job.number (ask job) ∷ [] ])
asked_suits s ask None = tt
asked_suits s ask (Some job) = (tt, tt)

-- ---- every command

-- Where nothing refuses a command that is carried out and begins no job, its changes leave what holds of all states.
pub accepted_suits : (s : State) (told exp : Told) (c : Cmd) → begins_job c ≡ false → StandsAtRest s → MayStop s c (told_for s c).stopped told.stopped
    → refusal_to s.table told c ≡ None → AllSuit s (command_edits s.table exp c)
unfolding refusal_to asks_of edits_of
accepted_suits s told exp c begins rests may h =
    let known = none-both (unbuilt c) _ h in
    let turn = none-both (out_of_turn (negotiates c) s.table.negotiated) _ known.1 in
    let asks = none-both (first_unmet_ask s.table told (asks_of c)) _ turn.1 in
    by_command c begins may known.0 (none-holds s.table told (asks_of c) asks.0)
  where
    by_command : (c : Cmd) → begins_job c ≡ false → MayStop s c (told_for s c).stopped told.stopped → unbuilt c ≡ None
        → NoneHolds s.table told (asks_of c) → AllSuit s (command_edits s.table exp c)
    by_command (command.Capabilities enable) begins may is asks = (tt, tt)
    by_command (command.BlockdevCreate c) begins may is asks =
        create_suits s told c.job_id c.options rests.stands
        (none-behind s.table told
        (create_values c.options ++ ask.Named (codes "job-id") (Some c.job_id) ∷ create_names c.options) (create_rest c.job_id c.options) asks)
    by_command (command.JobDismiss id) begins may is asks = (tt, tt)
    by_command (command.BlockdevAdd c) begins may is asks = add_suits s told exp c rests.stands may asks
    by_command (command.BlockdevDel name) begins may is asks = del_suits s told name rests asks
    by_command (command.DeviceAdd c) begins may is asks = device_suits s told c rests.stands asks
    by_command (command.BlockdevSnapshot c) begins may is asks = snapshot_suits s told c rests.stands asks
    by_command (command.DeviceDel id) begins may is asks = device_gone_suits s (device_named s.table id)
    by_command (command.BlockJobCancel job force) begins may is asks = asked_suits s (asked_by_cancel (flag_or_false force)) (job_named s.table job)
    by_command (command.BlockJobComplete job) begins may is asks = asked_suits s (λ row. asked.Complete) (job_named s.table job)
    by_command command.QueryBlockJobs begins may is asks = tt
    by_command (command.QueryNamedBlockNodes flat) begins may is asks = tt
    by_command (command.BitmapAdd c) begins may is asks = (tt, tt)
    by_command (command.BitmapRemove c) begins may is asks = (tt, tt)
    by_command (command.BitmapClear c) begins may is asks = (tt, tt)
    by_command (command.BitmapEnable c) begins may is asks = (tt, tt)
    by_command (command.BitmapDisable c) begins may is asks = (tt, tt)
    by_command (command.BitmapMerge c) begins may is asks = merges-suit s.table c.node c.target c.bitmaps s
    by_command _ begins may is asks = absurd cc
