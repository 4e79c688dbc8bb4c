-- The changes of answers suit states, and no image is in a file that they make anew or spoil.
use Rattle.std.proofs.Common.{◌≡◌, ℕ, Bool, true, false, List, [], ◌∷◌, ◌++◌, refl, sym, ap, subst, ◌∙◌, inl, inr, Option, Some, None, Ok, Err}
use Rattle.std.specs.Prelude.{◌&&◌, if◌then◌else◌, find, bytes_eq, codes, unwrap_or, IsSome}
use Rattle.std.specs.List.{list_all}
use Rattle.blk_graph.proofs.Members.{find-Some}
use Rattle.qmp_codec.specs.Commands.{Cmd, SeenSources}
use Rattle.qmp_codec.specs.declared.command.Command.TheVariants as command
use Rattle.qmp_codec.specs.declared.nodes.AddRaw.{AddRaw}
use Rattle.qmp_codec.specs.declared.nodes.Added.{Added}
use Rattle.qmp_codec.specs.declared.nodes.Added.TheVariants as added
use Rattle.qmp_codec.specs.declared.nodes.BlockdevCreate.{BlockdevCreate}
use Rattle.qmp_codec.specs.declared.nodes.Created.{Created}
use Rattle.qmp_codec.specs.declared.nodes.Created.TheVariants as created
use Rattle.qmp_codec.specs.declared.nodes.CreateFile.{CreateFile}
use Rattle.qmp_codec.specs.declared.nodes.CreateQcow2.{CreateQcow2}
use Rattle.qmp_codec.specs.declared.nodes.DeviceAdd.{DeviceAdd}
use Rattle.qmp_codec.specs.declared.nodes.FileRef.{FileRef}
use Rattle.qmp_codec.specs.declared.nodes.FileRef.TheVariants as file_ref
use Rattle.qmp_codec.specs.declared.nodes.Snapshot.{Snapshot}
use Rattle.qmp_asks.specs.declared.ask.Ask.TheVariants as ask
use Rattle.qmp_asks.specs.declared.ask.Drivers.TheVariants as drivers
use Rattle.qmp_rules.specs.declared.change.Change.{Change}
use Rattle.qmp_rules.specs.declared.change.Change.TheVariants as change
use Rattle.qmp_rules.specs.declared.refusal.Refusal.{Refusal}
use Rattle.qmp_rules.specs.declared.refusal.Refusal.TheVariants as refusal
use Rattle.qmp_rules.specs.declared.rows.DeviceRow.{DeviceRow}
use Rattle.qmp_rules.specs.declared.rows.NodeRecord.{NodeRecord}
use Rattle.qmp_asks.specs.declared.look.Look.TheVariants as look
use Rattle.qmp_rules.specs.declared.told.Told.{Told}
use Rattle.qmp_rules.specs.Table.{RunTable, device_named, job_named, node_named}
use Rattle.qmp_rules.specs.declared.rows.AskedEnd.{AskedEnd}
use Rattle.qmp_rules.specs.declared.rows.AskedEnd.TheVariants as asked_ends
use Rattle.qmp_rules.specs.declared.rows.JobRecord.{JobRecord}
use Rattle.flat_machine.specs.Replies.{begins_job}
use Rattle.qmp_asks.specs.Values.{flag_or_false}
use Rattle.qmp_rules.specs.Answers.{Answer, answer, answer_by, refusal_to, command_edits, left_by, returned, out_of_turn, refusal_behind}
use Rattle.qmp_asks.specs.Asking.{Asking, place}
use Rattle.qmp_rules.specs.Asks.{holds, first_unmet_ask, is_file}
use Rattle.qmp_asks.specs.CommandAsks.{asks_of, is_built}
use Rattle.qmp_rules.specs.Edits.{asked_by_cancel, edits_of, created_change, spoiled, file_of_node, raw_edits, qcow2_edits, added_edits, file_uses, file_under, with_inline, goes_with_node, row_gone, of_row, device_uses, new_device, merges, snapshot_edits}
use Rattle.qmp_rules.specs.Changes.{changed}
use Rattle.qmp_asks.specs.NodeAsks.{is_read_only, backing_name, snapshot_values, snapshot_names, snapshot_rest}
use Rattle.qmp_rules.specs.Places.{IsOfTable}
use Rattle.qmp_rules.specs.Refusals.{or_else, place_of}
use Rattle.qmp_asks.specs.Values.{is_size, is_image_size, absent_or, is_image_format, is_just, is_version}
use Rattle.qmp_rules.proofs.PlaceLemmas.{has_place}
use Rattle.flat_machine.specs.State.{State}
use Rattle.flat_machine.specs.Changed.{stepped}
use Rattle.flat_machine.specs.Sights.{IsTold}
use Rattle.flat_machine.specs.Wiring.{TableStands}
use Rattle.flat_machine.specs.Standing.{IsOpenlyKnown, Stands, StandsAtRest}
use Rattle.flat_machine.specs.Suiting.{AllSuit}
use Rattle.flat_machine.specs.Imaging.{KeepsImages, AllKeepImages}
use Rattle.flat_machine.proofs.Accepted.{none-over, is_protocol, no_edge}
use Rattle.flat_machine.proofs.Asked.{NoneHolds, found-named, takes-driver, lone-node, none-stands}
use Rattle.flat_machine.proofs.ImagesChanged.{closed_open, formatted_open}
use Rattle.flat_machine.proofs.Snapshots.{snapshot_nodes, edits_are}
use Rattle.flat_machine.proofs.SnapshotStates.{moved_files}
use Rattle.flat_machine.proofs.Suited.{accepted_suits}
use Rattle.world_parts.specs.Carrying.{is_io_refusal}
use Rattle.world_parts.proofs.Accepted.{either-of, asked}

-- ---- what is asked before a call

abbrev AreOfTable : List Asking → Type 0
AreOfTable [] = Unit {0}
AreOfTable (a ∷ asks) = IsOfTable a × AreOfTable asks

-- what the table refuses for names no failed call
place-quiet : (cause : Refusal) (p : ℕ) → place_of cause ≡ Some p → is_io_refusal cause ≡ false
place-quiet (refusal.Io source count) p placed = absurd cc
place-quiet (refusal.NoSpace dev) p placed = absurd cc
place-quiet _ p placed = refl

untimely-quiet : (b : Bool) (cause : Refusal) → out_of_turn false b ≡ Some cause → is_io_refusal cause ≡ false
untimely-quiet true cause is = absurd (let bad : ⊥ = cc is in bad)
untimely-quiet false cause is = let same : refusal.Negotiation false ≡ cause = cc is in rw (← same) refl

quiet-one : (t : RunTable) (told : Told) (a : Asking) (cause : Refusal) → IsOfTable a → holds t told a ≡ Some cause → is_io_refusal cause ≡ false
quiet-one t told (ask.Files what) cause is here = absurd is
quiet-one t told a cause is here = place-quiet cause (place a) (has_place t told a tt cause here)

-- where a call failed, the asks before it were met
met-before : (t : RunTable) (told : Told) (xs ys : List Asking) (cause : Refusal) → AreOfTable xs → is_io_refusal cause ≡ true
    → first_unmet_ask t told (xs ++ ys) ≡ Some cause → NoneHolds t told xs
met-before t told [] ys cause of failed is = tt
met-before t told (a ∷ xs) ys cause of failed is =
    by_hold (holds t told a) refl is (λ rest. met-before t told xs ys cause of.1 failed rest)
  where
    by_hold : (found : Option Refusal) → holds t told a ≡ found → or_else found (first_unmet_ask t told (xs ++ ys)) ≡ Some cause
        → (first_unmet_ask t told (xs ++ ys) ≡ Some cause → NoneHolds t told xs) → NoneHolds t told (a ∷ xs)
    by_hold None e rest later = (e, later rest)
    by_hold (Some other) e rest later =
        let same : other ≡ cause = cc rest in
        let quiet = quiet-one t told a other of.0 e in
        absurd (let bad : ⊥ = cc (sym failed ∙ ap is_io_refusal (sym same) ∙ quiet) in bad)

failed-asks : (t : RunTable) (told : Told) (c : BlockdevCreate (List ℕ)) (cause : Refusal) → is_io_refusal cause ≡ true
    → refusal_to t told (command.BlockdevCreate c) ≡ Some cause → first_unmet_ask t told (asks_of (command.BlockdevCreate c)) ≡ Some cause
unfolding refusal_to
failed-asks t told c cause failed is = elim (either-of (out_of_turn false t.negotiated) _ cause is) [
  | inl turn ↦
      let quiet = untimely-quiet t.negotiated cause turn in
      absurd (let bad : ⊥ = cc (sym failed ∙ quiet) in bad)
  | inr rest ↦ elim (either-of (first_unmet_ask t told (asks_of (command.BlockdevCreate c))) (refusal_behind t told (command.BlockdevCreate c)) cause rest) [
    | inl asked ↦ asked
    | inr behind ↦ absurd (let bad : ⊥ = cc behind in bad)
  ]
]

-- ---- a file that is spoiled is open

spoiled_file : (t : RunTable) (told : Told) (id : List ℕ) (c : CreateFile (List ℕ)) (cause : Refusal) → is_io_refusal cause ≡ true
    → refusal_to t told (command.BlockdevCreate (record { job_id = id; options = created.File c })) ≡ Some cause → IsOpenlyKnown t c.filename
unfolding asks_of
spoiled_file t told id c cause failed is =
    let asks : NoneHolds t told front = met-before t told front (ask.Files look.File ∷ []) cause (tt, (tt, (tt, (tt, (tt, tt))))) failed
    (failed-asks t told (record { job_id = id; options = created.File c }) cause failed is) in
    closed_open t c.filename (λ row over. none-over t c.filename (none-stands t told c.filename asks.1.1.1.1.0) row over)
  where
    front : List Asking
    front =
        ask.Good (codes "size") (is_size c.size)
        ∷ ask.Named (codes "job-id") (Some id)
        ∷ ask.FileNamed (codes "filename") (Some c.filename)
        ∷ ask.FreshJob id
        ∷ ask.Closed c.filename
        ∷ []

named-file : (filename : Option (List ℕ)) → IsSome filename → filename ≡ Some (unwrap_or filename [])
named-file None h = absurd (let bad : ⊥ = cc h in bad)
named-file (Some name) h = refl

spoiled_image : (t : RunTable) (told : Told) (id : List ℕ) (c : CreateQcow2 (List ℕ)) (cause : Refusal) → TableStands t → is_io_refusal cause ≡ true
    → refusal_to t told (command.BlockdevCreate (record { job_id = id; options = created.Qcow2 c })) ≡ Some cause → IsOpenlyKnown t (file_of_node t c.file)
unfolding asks_of
spoiled_image t told id c cause stands failed is =
    let asks : NoneHolds t told front = met-before t told front (ask.Files look.Format ∷ []) cause
    (tt, (tt, (tt, (tt, (tt, (tt, (tt, (tt, (tt, (tt, (tt, (tt, tt)))))))))))) failed
    (failed-asks t told (record { job_id = id; options = created.Qcow2 c }) cause failed is) in
    let rest = asks.1.1.1.1.1.1.1.1 in
    let named = found-named t told c.file rest.0 in
    let driver = is_protocol named.0.kind (takes-driver t told c.file drivers.File named.0 named.1 rest.1.1.0) in
    let there = (find-Some (λ (r : NodeRecord). bytes_eq r.name c.file) t.nodes named.0 named.1).0 in
    formatted_open t named.0.id (file_of_node t c.file) stands (record {
      row = named.0;
      stands = record { there = there; filename = rw named.1 (named-file named.0.filename (stands.names named.0 there driver)) };
      is_node = refl;
      alone = no_edge named.0.id t.edges (lone-node t told c.file named.0 named.1 rest.1.1.1.0);
    })
  where
    front : List Asking
    front =
        ask.Good (codes "size") (is_image_size c.size)
        ∷ ask.Good (codes "backing-fmt") (absent_or is_image_format c.backing_fmt)
        ∷ ask.Good (codes "cluster-size") (is_just 65536 c.cluster_size)
        ∷ ask.Good (codes "refcount-bits") (is_just 16 c.refcount_bits)
        ∷ ask.Good (codes "version") (absent_or is_version c.version)
        ∷ ask.Named (codes "job-id") (Some id)
        ∷ ask.Named (codes "file") (Some c.file)
        ∷ ask.FileNamed (codes "backing-file") c.backing_file
        ∷ ask.Found (Some c.file)
        ∷ ask.FreshJob id
        ∷ ask.Drives (Some c.file) drivers.File
        ∷ ask.Lone c.file
        ∷ []

-- ---- the kinds of changes that leave images where they are

abbrev leaves_images : Change → Bool
leaves_images (change.SpoilFile name) = false
leaves_images (change.PutFilter row node) = false
leaves_images (change.Move from to but) = false
leaves_images (change.PullFilter filter) = false
leaves_images c = true

one-kept : (s : State) (c : Change) → leaves_images c ≡ true → KeepsImages s c
one-kept s (change.SpoilFile name) is = absurd (let bad : ⊥ = cc is in bad)
one-kept s (change.PutFilter row node) is = absurd (let bad : ⊥ = cc is in bad)
one-kept s (change.Move from to but) is = absurd (let bad : ⊥ = cc is in bad)
one-kept s (change.PullFilter filter) is = absurd (let bad : ⊥ = cc is in bad)
one-kept s _ is = tt

both-parts : (a b : Bool) → (a && b) ≡ true → (a ≡ true) × (b ≡ true)
both-parts true b is = (refl, is)
both-parts false b is = absurd (let bad : ⊥ = cc is in bad)

all-kept : (changes : List Change) (s : State) → list_all leaves_images changes ≡ true → AllKeepImages s changes
all-kept [] s is = tt
all-kept (c ∷ changes) s is =
    let parts = both-parts (leaves_images c) (list_all leaves_images changes) is in
    (one-kept s c parts.0, all-kept changes (stepped s c) parts.1)

appended : (xs ys : List Change) → list_all leaves_images xs ≡ true → list_all leaves_images ys ≡ true → list_all leaves_images (xs ++ ys) ≡ true
appended [] ys first later = later
appended (x ∷ xs) ys first later =
    let parts = both-parts (leaves_images x) (list_all leaves_images xs) first in
    let rest = appended xs ys parts.1 later in
    both-true (leaves_images x) (list_all leaves_images (xs ++ ys)) parts.0 rest
  where
    both-true : (a b : Bool) → a ≡ true → b ≡ true → (a && b) ≡ true
    both-true true b is rest = rest
    both-true false b is rest = absurd (let bad : ⊥ = cc is in bad)

-- a command that moves the parents of a node
abbrev moves : Cmd → Bool
moves (command.BlockdevSnapshot c) = true
moves c = false

module _ (t : RunTable) (told : Told) where
  raw-leaves : (name : List ℕ) (read_only : Bool) (raw : AddRaw (List ℕ)) (file : FileRef (List ℕ)) → list_all leaves_images (raw_edits t told name read_only raw file) ≡ true
  raw-leaves name read_only raw (file_ref.Name file) = refl
  raw-leaves name read_only raw (file_ref.Inline file) = refl

  qcow2-leaves : (name : List ℕ) (read_only : Bool) (back : Option (List ℕ)) (file : FileRef (List ℕ)) → list_all leaves_images (qcow2_edits t told name read_only back file) ≡ true
  qcow2-leaves name read_only back (file_ref.Name file) = refl
  qcow2-leaves name read_only back (file_ref.Inline file) = refl

  added-leaves : (name : List ℕ) (read_only : Bool) (driver : Added (List ℕ)) → list_all leaves_images (added_edits t told name read_only driver) ≡ true
  added-leaves name read_only (added.File filename) = refl
  added-leaves name read_only (added.Raw raw) = raw-leaves name read_only raw raw.file
  added-leaves name read_only (added.Qcow2 image) = qcow2-leaves name read_only (backing_name image.backing) image.file
  added-leaves name read_only (added.CopyOnRead file) = refl
  added-leaves name read_only added.Unknown = refl

  created-leaves : (options : Created (List ℕ)) → list_all leaves_images (created_change t options) ≡ true
  created-leaves (created.File c) = refl
  created-leaves (created.Qcow2 c) = refl
  created-leaves created.Unknown = refl

  uses-leaves : (name : Option (List ℕ)) → list_all leaves_images (file_uses name) ≡ true
  uses-leaves None = refl
  uses-leaves (Some name) = refl

  inline-leaves : (node : ℕ) → list_all leaves_images (with_inline t node) ≡ true
  inline-leaves node = elim (find (goes_with_node node) t.nodes) as (λ found. list_all leaves_images (elim found as (λ _. List Change) [ None ↦ [] | Some row ↦ change.RemoveNode row.id ∷ [] ]) ≡ true) [
    | None ↦ refl
    | Some row ↦ refl
  ]

  gone-leaves : (found : Option NodeRecord) → list_all leaves_images (of_row (row_gone t) found) ≡ true
  gone-leaves None = refl
  gone-leaves (Some row) = appended (file_uses (file_under t row)) (change.RemoveNode row.id ∷ with_inline t row.id) (uses-leaves (file_under t row)) (inline-leaves row.id)

  device-leaves : (c : DeviceAdd (List ℕ)) (found : Option NodeRecord)
      → list_all leaves_images (of_row (λ row. device_uses row ++ change.AddDevice (new_device t c row) row.id ∷ []) found) ≡ true
  device-leaves c None = refl
  device-leaves c (Some row) = appended (device_uses row) (change.AddDevice (new_device t c row) row.id ∷ []) (used (is_file row)) refl
    where
      used : (b : Bool) → list_all leaves_images (if b then file_uses row.filename else []) ≡ true
      used true = uses-leaves row.filename
      used false = refl

  removed-leaves : (found : Option DeviceRow) → list_all leaves_images (elim found as (λ _. List Change) [ None ↦ [] | Some device ↦ change.RemoveDevice device.number ∷ [] ]) ≡ true
  removed-leaves None = refl
  removed-leaves (Some device) = refl

  merges-leave : (node target : List ℕ) (sources : SeenSources) → list_all leaves_images (merges t node target sources) ≡ true
  merges-leave node target [] = refl
  merges-leave node target (s ∷ sources) = merges-leave node target sources

  asked-leaves : (ask : JobRecord → AskedEnd) (found : Option JobRecord)
      → list_all leaves_images (elim found as (λ _. List Change) [ None ↦ [] | Some job ↦ change.AskJob job.number (ask job) ∷ [] ]) ≡ true
  asked-leaves ask None = refl
  asked-leaves ask (Some job) = refl

  edits-leave : (c : Cmd) → is_built c ≡ true → begins_job c ≡ false → moves c ≡ false → list_all leaves_images (command_edits t told c) ≡ true
  unfolding edits_of
  edits-leave (command.Capabilities enable) built begins still = refl
  edits-leave (command.BlockdevCreate c) built begins still = created-leaves c.options
  edits-leave (command.JobDismiss id) built begins still = refl
  edits-leave (command.BlockdevAdd c) built begins still = added-leaves c.node_name (is_read_only c.options) c.driver
  edits-leave (command.BlockdevDel name) built begins still = gone-leaves (node_named t name)
  edits-leave (command.DeviceAdd c) built begins still = device-leaves c (node_named t c.drive)
  edits-leave (command.DeviceDel id) built begins still = removed-leaves (device_named t id)
  edits-leave (command.BitmapAdd c) built begins still = refl
  edits-leave (command.BitmapRemove c) built begins still = refl
  edits-leave (command.BitmapClear c) built begins still = refl
  edits-leave (command.BitmapEnable c) built begins still = refl
  edits-leave (command.BitmapDisable c) built begins still = refl
  edits-leave (command.BitmapMerge c) built begins still = merges-leave c.node c.target c.bitmaps
  edits-leave (command.BlockJobCancel id force) built begins still = asked-leaves (asked_by_cancel (flag_or_false force)) (job_named t id)
  edits-leave (command.BlockJobComplete id) built begins still = asked-leaves (λ job. asked_ends.Complete) (job_named t id)
  edits-leave command.QueryBlockJobs built begins still = refl
  edits-leave (command.QueryNamedBlockNodes flat) built begins still = refl
  edits-leave _ built begins still = absurd cc

-- parents of a node move to its overlay, which is no `file` node
snapshot-keeps : (s : State) (told : Told) (c : Snapshot (List ℕ)) → Stands s
    → NoneHolds s.table told (snapshot_values c ++ snapshot_names c ++ snapshot_rest c) → AllKeepImages s (snapshot_edits s.table c)
unfolding changed
snapshot-keeps s told c h asks =
    let of = snapshot_nodes s.table told c h.table asks in
    subst (AllKeepImages s) (sym (edits_are s.table c of))
    (tt, ((λ n name image is. moved_files s of.node of.overlay of.over of.bare h n name is), tt))

edits-keep : (s : State) (told : Told) (c : Cmd) → Stands s → refusal_to s.table told c ≡ None → is_built c ≡ true → begins_job c ≡ false
    → AllKeepImages s (command_edits s.table told c)
unfolding asks_of edits_of
edits-keep s told (command.BlockdevSnapshot c) h none built begins = snapshot-keeps s told c h (asked s.table told (command.BlockdevSnapshot c) none)
edits-keep s told c h none built begins = all-kept (command_edits s.table told c) s (edits-leave s.table told c built begins refl)

-- ---- answers

left-suit : (s : State) (c : Cmd) (cause : Refusal) → AllSuit s (left_by s.table c cause)
left-suit s (command.BlockdevCreate c) (refusal.Io source count) = spoiled-suit c.options
  where
    spoiled-suit : (options : Created (List ℕ)) → AllSuit s (spoiled s.table options)
    spoiled-suit (created.File o) = (tt, tt)
    spoiled-suit (created.Qcow2 o) = (tt, tt)
    spoiled-suit created.Unknown = tt
left-suit s (command.BlockdevCreate c) (refusal.NoSpace dev) = spoiled-suit c.options
  where
    spoiled-suit : (options : Created (List ℕ)) → AllSuit s (spoiled s.table options)
    spoiled-suit (created.File o) = (tt, tt)
    spoiled-suit (created.Qcow2 o) = (tt, tt)
    spoiled-suit created.Unknown = tt
left-suit s (command.BlockdevCreate c) _ = tt
left-suit s _ cause = tt

pub answer_suits : (s : State) (c : Cmd) (told seen : Told) → (refusal_to s.table seen c ≡ None → begins_job c ≡ false) → StandsAtRest s → IsTold s c seen → answer s.table seen c ≡ answer s.table told c
    → AllSuit s (answer s.table told c).changes
unfolding answer
answer_suits s c told seen begins rests is_told same = at (refusal_to s.table seen c) refl (refusal_to s.table told c) same
  where
    at : (first : Option Refusal) → refusal_to s.table seen c ≡ first → (other : Option Refusal)
        → answer_by s.table seen c first ≡ answer_by s.table told c other → AllSuit s (answer_by s.table told c other).changes
    at None none None same = accepted_suits s seen told c (begins none) rests is_told.refusal none
    at (Some cause) some None same = absurd (let reply : Err cause ≡ Ok (returned s.table told c) = ap (λ (a : Answer). a.reply) same in cc reply)
    at first is (Some cause) same = left-suit s c cause

left-keeps : (s : State) (told : Told) (c : Cmd) (cause : Refusal) → TableStands s.table → refusal_to s.table told c ≡ Some cause
    → AllKeepImages s (left_by s.table c cause)
left-keeps s told (command.BlockdevCreate c) (refusal.Io source count) stands is = by_options c.job_id c.options is
  where
    by_options : (id : List ℕ) (options : Created (List ℕ))
        → refusal_to s.table told (command.BlockdevCreate (record { job_id = id; options = options })) ≡ Some (refusal.Io source count)
        → AllKeepImages s (spoiled s.table options)
    by_options id (created.File o) is = (spoiled_file s.table told id o (refusal.Io source count) refl is, tt)
    by_options id (created.Qcow2 o) is = (spoiled_image s.table told id o (refusal.Io source count) stands refl is, tt)
    by_options id created.Unknown is = tt
left-keeps s told (command.BlockdevCreate c) (refusal.NoSpace dev) stands is = by_options c.job_id c.options is
  where
    by_options : (id : List ℕ) (options : Created (List ℕ))
        → refusal_to s.table told (command.BlockdevCreate (record { job_id = id; options = options })) ≡ Some (refusal.NoSpace dev)
        → AllKeepImages s (spoiled s.table options)
    by_options id (created.File o) is = (spoiled_file s.table told id o (refusal.NoSpace dev) refl is, tt)
    by_options id (created.Qcow2 o) is = (spoiled_image s.table told id o (refusal.NoSpace dev) stands refl is, tt)
    by_options id created.Unknown is = tt
left-keeps s told (command.BlockdevCreate c) _ stands is = tt
left-keeps s told _ cause stands is = tt

pub answer_keeps_images : (s : State) (told : Told) (c : Cmd) → Stands s → (refusal_to s.table told c ≡ None → is_built c ≡ true)
    → (refusal_to s.table told c ≡ None → begins_job c ≡ false) → AllKeepImages s (answer s.table told c).changes
unfolding answer
answer_keeps_images s told c h built begins = at (refusal_to s.table told c) refl
  where
    at : (first : Option Refusal) → refusal_to s.table told c ≡ first → AllKeepImages s (answer_by s.table told c first).changes
    at None is = edits-keep s told c h is (built is) (begins is)
    at (Some cause) is = left-keeps s told c cause h.table is
