-- Disks stay whole behind accepted commands and failed creations.
use Rattle.std.proofs.Common.{◌≡◌, ℕ, Bool, true, false, cond, List, [], ◌∷◌, ◌++◌, refl, sym, ap, ◌∙◌, subst, Option, Some, None}
use Rattle.std.specs.Prelude.{◌==◌}
use Rattle.std.specs.Option.{option_map}
use Rattle.std.specs.List.{find}
use Rattle.std.proofs.lemmas.Bool.{eq-eqb}
use Rattle.qmp_codec.specs.Commands.{Cmd, SeenSources}
use Rattle.qmp_codec.specs.declared.command.Command.TheVariants as command
use Rattle.qmp_codec.specs.declared.nodes.FileRef.{FileRef}
use Rattle.qmp_codec.specs.declared.nodes.FileRef.TheVariants as file_ref
use Rattle.qmp_codec.specs.declared.nodes.AddRaw.{AddRaw}
use Rattle.qmp_codec.specs.declared.nodes.Added.{Added}
use Rattle.qmp_codec.specs.declared.nodes.Added.TheVariants as added
use Rattle.qmp_codec.specs.declared.nodes.Created.{Created}
use Rattle.qmp_codec.specs.declared.nodes.Created.TheVariants as created
use Rattle.qmp_codec.specs.declared.nodes.DeviceAdd.{DeviceAdd}
use Rattle.qmp_codec.specs.declared.nodes.Snapshot.{Snapshot}
use Rattle.qmp_asks.specs.CommandAsks.{asks_of}
use Rattle.qmp_asks.specs.NodeAsks.{snapshot_values, snapshot_names, snapshot_rest, is_read_only, backing_name}
use Rattle.qmp_rules.specs.declared.change.Change.{Change}
use Rattle.qmp_rules.specs.declared.change.Change.TheVariants as change
use Rattle.qmp_rules.specs.declared.rows.AskedEnd.{AskedEnd}
use Rattle.qmp_rules.specs.declared.rows.NodeRecord.{NodeRecord}
use Rattle.qmp_rules.specs.declared.rows.DeviceRow.{DeviceRow}
use Rattle.qmp_rules.specs.declared.rows.JobRecord.{JobRecord}
use Rattle.qmp_rules.specs.declared.told.Told.{Told}
use Rattle.qmp_rules.specs.Asks.{is_file}
use Rattle.qmp_rules.specs.Changes.{changed, all_changed, node_changed, unsettled, with_unsettled}
use Rattle.qmp_rules.specs.Edits.{file_uses, file_under, goes_with_node, with_inline, row_gone, del_edits, created_change, raw_edits, qcow2_edits, added_edits, of_row, device_uses, new_device, device_add_edits, device_del_edits, snapshot_edits, merges, ask_edits, edits_of, spoiled}
use Rattle.qmp_rules.specs.Table.{RunTable, node_by_id, node_named, device_named, job_named}
use Rattle.flat_machine.specs.Agreement.{Contents, ReadAsDisks}
use Rattle.flat_machine.specs.Changed.{all_stepped}
use Rattle.flat_machine.specs.Performing.{AllCan}
use Rattle.flat_machine.specs.State.{State}
use Rattle.flat_machine.specs.Wiring.{TableStands, TableAtRest}
use Rattle.flat_machine.proofs.Asked.{NoneHolds, none-holds}
use Rattle.flat_machine.proofs.Fresh.{found-new}
use Rattle.flat_machine.proofs.Resting.{stepped_table}
use Rattle.flat_machine.proofs.Snapshots.{AreSnapshot, snapshot_nodes, edits_are}
use Rattle.job_tables.specs.Accepted.{IsMet}
use Rattle.job_tables.specs.Jobs.{JobsStand}
use Rattle.job_tables.proofs.NodeKinds.{found_mapped}
use Rattle.job_commands.specs.Begun.{IsOneCommand, job_begun}
use Rattle.job_commands.specs.Whole.{HaveRowSizes, DisksAreWhole}
use Rattle.job_commands.proofs.Copied.{AreOfStart, IsOfStart, begins_of_start}
use Rattle.job_commands.proofs.Copies.{begun_among}
use Rattle.job_commands.proofs.Sizes.{keeps_where, keeps_unsettled}
use Rattle.job_commands.proofs.Whole.{IsExcepted, AreExcepted, AllFitDisks, changes_keep_whole, all_can_fit, IsSettledThen, settled_whole}

-- ---- changes by which no node reads anew

abbrev KeepsReadings : Change → Type 0
KeepsReadings (change.AddFormat row file backing) = ⊥
KeepsReadings (change.Attach overlay under) = ⊥
KeepsReadings (change.Settle node disk) = ⊥
KeepsReadings c = Unit {0}

abbrev AllKeepReadings : List Change → Type 0
AllKeepReadings [] = Unit {0}
AllKeepReadings (c ∷ changes) = KeepsReadings c × AllKeepReadings changes

idle-append : (a b : List Change) → AllKeepReadings a → AllKeepReadings b → AllKeepReadings (a ++ b)
idle-append [] b h k = k
idle-append (c ∷ a) b h k = (h.0, idle-append a b h.1 k)

idle_out : (Out : ℕ → Type 0) (changes : List Change) → AllKeepReadings changes → AreExcepted Out changes
idle_out Out [] i = tt
idle_out Out (c ∷ changes) i = (one c i.0, idle_out Out changes i.1)
  where
    one : (x : Change) → KeepsReadings x → IsExcepted Out x
    one (change.AddFormat row file backing) k = absurd k
    one (change.Attach overlay under) k = absurd k
    one (change.Settle node disk) k = absurd k
    one x k = tt

uses_idle : (name : Option (List ℕ)) → AllKeepReadings (file_uses name)
uses_idle None = tt
uses_idle (Some name) = (tt, tt)

created_idle : (t : RunTable) (id : List ℕ) (options : Created (List ℕ)) → AllKeepReadings (change.KeepId id ∷ created_change t options)
created_idle t id (created.File c) = (tt, (tt, tt))
created_idle t id (created.Qcow2 c) = (tt, (tt, tt))
created_idle t id created.Unknown = (tt, tt)

del_idle : (t : RunTable) (name : List ℕ) → AllKeepReadings (del_edits t name)
del_idle t name = by_row (node_named t name)
  where
    with_idle : (found : Option NodeRecord) → AllKeepReadings (elim found as (λ _. List Change) [ None ↦ [] | Some file ↦ change.RemoveNode file.id ∷ [] ])
    with_idle None = tt
    with_idle (Some file) = (tt, tt)

    by_row : (found : Option NodeRecord) → AllKeepReadings (of_row (row_gone t) found)
    by_row None = tt
    by_row (Some row) =
        idle-append (file_uses (file_under t row)) (change.RemoveNode row.id ∷ with_inline t row.id) (uses_idle (file_under t row))
        (tt, with_idle (find (goes_with_node row.id) t.nodes))

device_idle : (t : RunTable) (c : DeviceAdd (List ℕ)) → AllKeepReadings (device_add_edits t c)
device_idle t c = by_row (node_named t c.drive)
  where
    by_file : (row : NodeRecord) (b : Bool) → AllKeepReadings (cond b (file_uses row.filename) [])
    by_file row true = uses_idle row.filename
    by_file row false = tt

    by_row : (found : Option NodeRecord) → AllKeepReadings (of_row (λ row. device_uses row ++ change.AddDevice (new_device t c row) row.id ∷ []) found)
    by_row None = tt
    by_row (Some row) = idle-append (device_uses row) (change.AddDevice (new_device t c row) row.id ∷ []) (by_file row (is_file row)) (tt, tt)

device_gone_idle : (t : RunTable) (id : List ℕ) → AllKeepReadings (device_del_edits t id)
device_gone_idle t id = by_row (device_named t id)
  where
    by_row : (found : Option DeviceRow) → AllKeepReadings (elim found as (λ _. List Change) [ None ↦ [] | Some device ↦ change.RemoveDevice device.number ∷ [] ])
    by_row None = tt
    by_row (Some device) = (tt, tt)

merges_idle : (t : RunTable) (node target : List ℕ) (sources : SeenSources) → AllKeepReadings (merges t node target sources)
merges_idle t node target [] = tt
merges_idle t node target (s ∷ sources) = (tt, merges_idle t node target sources)

ask_idle : (t : RunTable) (id : List ℕ) (asked : JobRecord → AskedEnd) → AllKeepReadings (ask_edits t id asked)
ask_idle t id asked = by_job (job_named t id)
  where
    by_job : (found : Option JobRecord) → AllKeepReadings (elim found as (λ _. List Change) [ None ↦ [] | Some job ↦ change.AskJob job.number (asked job) ∷ [] ])
    by_job None = tt
    by_job (Some job) = (tt, tt)

start_idle : (changes : List Change) → AreOfStart changes → AllKeepReadings changes
start_idle [] k = tt
start_idle (c ∷ changes) k = (one c k.0, start_idle changes k.1)
  where
    one : (x : Change) → IsOfStart x → KeepsReadings x
    one (change.AddFormat row file backing) q = absurd q
    one (change.Attach overlay under) q = absurd q
    one (change.Settle node disk) q = absurd q
    one x q = tt

-- ---- a format node that is added last

format_out : (t : RunTable) (row : NodeRecord) (file : ℕ) (backing : Option ℕ) → node_by_id t row.id ≡ None → row.is_settled ≡ true
    → IsSettledThen (changed t (change.AddFormat row file backing)) row.id
unfolding changed
format_out t row file backing fresh settled later found =
    let both : Some row ≡ Some later = sym last ∙ found in
    let one : row ≡ later = cc both in
    ap (λ (r : NodeRecord). r.is_settled) (sym one) ∙ settled
  where
    between : RunTable
    between = record t { nodes = with_unsettled file t.nodes }

    none : node_by_id between row.id ≡ None
    none =
        found_mapped t between (node_changed file unsettled) (λ r. (keeps_where (λ (n : NodeRecord). n.id == file) unsettled keeps_unsettled r).id) refl row.id
        ∙ ap (option_map (node_changed file unsettled)) fresh

    last : find (λ (r : NodeRecord). r.id == row.id) (with_unsettled file t.nodes ++ row ∷ []) ≡ Some row
    last = found-new (λ (r : NodeRecord). r.id == row.id) (with_unsettled file t.nodes) row none (eq-eqb row.id row.id refl)

abbrev OutAtEnd : RunTable → List Change → Type 0
OutAtEnd t changes = AreExcepted (IsSettledThen (all_changed t changes)) changes

raw_out : (s : State) (exp : Told) (name : List ℕ) (read_only : Bool) (raw : AddRaw (List ℕ)) (file : FileRef (List ℕ))
    → AllCan s (raw_edits s.table exp name read_only raw file) → OutAtEnd s.table (raw_edits s.table exp name read_only raw file)
raw_out s exp name read_only raw (file_ref.Name file) can = (format_out s.table _ _ None can.0.fresh refl, tt)
raw_out s exp name read_only raw (file_ref.Inline file) can = (tt, (format_out (changed s.table (change.AddFile _)) _ _ None can.1.0.fresh refl, tt))

qcow2_out : (s : State) (exp : Told) (name : List ℕ) (read_only : Bool) (back : Option (List ℕ)) (file : FileRef (List ℕ))
    → AllCan s (qcow2_edits s.table exp name read_only back file) → OutAtEnd s.table (qcow2_edits s.table exp name read_only back file)
qcow2_out s exp name read_only back (file_ref.Name file) can = (format_out s.table _ _ _ can.0.fresh refl, tt)
qcow2_out s exp name read_only back (file_ref.Inline file) can = (tt, (format_out (changed s.table (change.AddFile _)) _ _ _ can.1.0.fresh refl, tt))

added_out : (s : State) (exp : Told) (name : List ℕ) (read_only : Bool) (driver : Added (List ℕ)) → AllCan s (added_edits s.table exp name read_only driver)
    → OutAtEnd s.table (added_edits s.table exp name read_only driver)
added_out s exp name read_only (added.File filename) can = (tt, tt)
added_out s exp name read_only (added.Raw raw) can = raw_out s exp name read_only raw raw.file can
added_out s exp name read_only (added.Qcow2 image) can = qcow2_out s exp name read_only (backing_name image.backing) image.file can
added_out s exp name read_only (added.CopyOnRead file) can = (tt, tt)
added_out s exp name read_only added.Unknown can = tt

-- ---- an overlay, which has a flat disk before

snapshot_out : (t : RunTable) (told : Told) (c : Snapshot (List ℕ)) → TableStands t → NoneHolds t told (snapshot_values c ++ snapshot_names c ++ snapshot_rest c)
    → OutAtEnd t (snapshot_edits t c)
unfolding changed
snapshot_out t told c h asks = subst (OutAtEnd t) (sym (edits_are t c of)) (out, (tt, tt))
  where
    of : AreSnapshot t c
    of = snapshot_nodes t told c h asks

    out : IsSettledThen (all_changed t (change.Attach of.overlay.id of.node.id ∷ change.Move of.node.id of.overlay.id of.overlay.id ∷ [])) of.overlay.id
    out row found =
        let both : Some of.overlay ≡ Some row = sym (h.apart of.overlay of.over.overlay_there) ∙ found in
        let one : of.overlay ≡ row = cc both in
        ap (λ (r : NodeRecord). r.is_settled) (sym one) ∙ of.settled

-- ---- every command

command_out : (s : State) (told exp : Told) (c : Cmd) → TableStands s.table → IsOneCommand c → job_begun s.table c ≡ None → NoneHolds s.table told (asks_of c)
    → AllCan s (edits_of s.table exp c) → OutAtEnd s.table (edits_of s.table exp c)
unfolding asks_of edits_of
command_out s told exp (command.Capabilities enable) h one none asks can = (tt, tt)
command_out s told exp (command.BlockdevCreate c) h one none asks can = idle_out _ (change.KeepId c.job_id ∷ created_change s.table c.options) (created_idle s.table c.job_id c.options)
command_out s told exp (command.JobDismiss id) h one none asks can = (tt, tt)
command_out s told exp (command.BlockdevAdd c) h one none asks can = added_out s exp c.node_name (is_read_only c.options) c.driver can
command_out s told exp (command.BlockdevDel name) h one none asks can = idle_out _ (del_edits s.table name) (del_idle s.table name)
command_out s told exp (command.DeviceAdd c) h one none asks can = idle_out _ (device_add_edits s.table c) (device_idle s.table c)
command_out s told exp (command.DeviceDel id) h one none asks can = idle_out _ (device_del_edits s.table id) (device_gone_idle s.table id)
command_out s told exp (command.BlockdevSnapshot c) h one none asks can = snapshot_out s.table told c h asks
command_out s told exp (command.Transaction c) h one none asks can = absurd one
command_out s told exp (command.BlockStream c) h one none asks can = absurd cc
command_out s told exp (command.BlockCommit c) h one none asks can = absurd cc
command_out s told exp (command.BlockdevMirror c) h one none asks can = absurd cc
command_out s told exp (command.BlockdevBackup c) h one none asks can = absurd cc
command_out s told exp (command.BlockJobCancel id force) h one none asks can = idle_out _ (ask_edits s.table id _) (ask_idle s.table id _)
command_out s told exp (command.BlockJobComplete id) h one none asks can = idle_out _ (ask_edits s.table id _) (ask_idle s.table id _)
command_out s told exp command.QueryBlockJobs h one none asks can = tt
command_out s told exp (command.QueryNamedBlockNodes flat) h one none asks can = tt
command_out s told exp (command.BitmapAdd c) h one none asks can = (tt, tt)
command_out s told exp (command.BitmapRemove c) h one none asks can = (tt, tt)
command_out s told exp (command.BitmapClear c) h one none asks can = (tt, tt)
command_out s told exp (command.BitmapEnable c) h one none asks can = (tt, tt)
command_out s told exp (command.BitmapDisable c) h one none asks can = (tt, tt)
command_out s told exp (command.BitmapMerge c) h one none asks can = idle_out _ (merges s.table c.node c.target c.bitmaps) (merges_idle s.table c.node c.target c.bitmaps)

pub command_whole : (s : State) (told exp : Told) (c : Cmd) (new : Contents) → TableAtRest s.table → JobsStand s.table → IsOneCommand c → IsMet s.table told c
    → AllCan s (edits_of s.table exp c) → ReadAsDisks (all_stepped s (edits_of s.table exp c)) new
    → HaveRowSizes (all_stepped s (edits_of s.table exp c)).table new.reads → DisksAreWhole s → DisksAreWhole (all_stepped s (edits_of s.table exp c))
command_whole s told exp c new h j one met can disks reads whole =
    settled_whole (all_stepped s (edits_of s.table exp c)) new
    (changes_keep_whole (IsSettledThen (all_stepped s (edits_of s.table exp c)).table) (edits_of s.table exp c) s
    (all_can_fit (IsSettledThen (all_stepped s (edits_of s.table exp c)).table) (edits_of s.table exp c) s can
    (subst (λ (t : RunTable). AreExcepted (IsSettledThen t) (edits_of s.table exp c)) (sym (stepped_table (edits_of s.table exp c) s)) (by_job (job_begun s.table c) refl)))
    (λ node row found own kept. whole node row found own)) disks reads
  where
    asks : NoneHolds s.table told (asks_of c)
    asks = none-holds s.table told (asks_of c) met.asks

    by_job : (found : Option JobRecord) → job_begun s.table c ≡ found → OutAtEnd s.table (edits_of s.table exp c)
    by_job None none = command_out s told exp c h.stands one none asks can
    by_job (Some row) is =
        idle_out _ (edits_of s.table exp c)
        (start_idle (edits_of s.table exp c) (begins_of_start s.table row (edits_of s.table exp c) (begun_among s.table told exp c row j is asks)))

pub failure_whole : (s : State) (options : Created (List ℕ)) → DisksAreWhole s → DisksAreWhole (all_stepped s (spoiled s.table options))
failure_whole s options whole node row found own =
    changes_keep_whole (λ n. ⊥) (spoiled s.table options) s (fits options) (λ n r f o kept. whole n r f o) node row found own (λ never. never)
  where
    fits : (o : Created (List ℕ)) → AllFitDisks (λ n. ⊥) s (spoiled s.table o)
    fits created.Unknown = tt
    fits (created.File c) = (tt, tt)
    fits (created.Qcow2 c) = (tt, tt)
