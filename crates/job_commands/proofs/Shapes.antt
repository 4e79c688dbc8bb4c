-- What the changes of an accepted command are: they spare jobs, ask one to end, add or remove a bitmap, or begin a job.
use Rattle.std.proofs.Common.{◌≡◌, ◌≢◌, ◌⊎◌, ℕ, Bool, true, false, cond, List, [], ◌∷◌, ◌++◌, map, refl, sym, ap, ◌∙◌, subst, inl, inr, Option, Some, None}
use Rattle.std.specs.Prelude.{is_some, is_none, option_map, codes, if◌then◌else◌, IsSome, option_and_then}
use Rattle.std.specs.List.{find, filter, Contains}
use Rattle.std.proofs.lemmas.Bool.{false≢true}
use lib.Count.{ones}
use Rattle.blk_bitmaps.specs.Rows.{is_granule_size}
use Rattle.blk_graph.specs.declared.edge.Role.TheVariants.{Filtered}
use Rattle.blk_graph.specs.declared.kind.JobUse.{JobUse}
use Rattle.blk_graph.specs.declared.kind.JobUse.TheVariants.{CommitTop, CommitBetween, CommitBase, StreamTop, StreamBelow}
use Rattle.blk_graph.specs.declared.kind.Kind.{Kind}
use Rattle.blk_graph.specs.declared.kind.Kind.TheVariants as driver
use Rattle.blk_graph.proofs.Members.{find-Some}
use Rattle.qmp_codec.specs.Commands.{Cmd, SeenSources}
use Rattle.qmp_codec.specs.declared.command.Command.TheVariants as command
use Rattle.qmp_codec.specs.declared.event.JobKind.{JobKind}
use Rattle.qmp_codec.specs.declared.event.JobKind.TheVariants.{Stream, Commit, Mirror, Backup}
use Rattle.qmp_codec.specs.declared.bitmaps.BitmapAdd.{BitmapAdd}
use Rattle.qmp_codec.specs.declared.bitmaps.BitmapName.{BitmapName}
use Rattle.qmp_codec.specs.declared.fields.Amount.{Amount}
use Rattle.qmp_codec.specs.declared.fields.Amount.TheVariants.{Number, Negative}
use Rattle.qmp_codec.specs.declared.nodes.FileRef.{FileRef}
use Rattle.qmp_codec.specs.declared.nodes.FileRef.TheVariants as file_ref
use Rattle.qmp_codec.specs.declared.nodes.AddRaw.{AddRaw}
use Rattle.qmp_codec.specs.declared.nodes.Added.{Added}
use Rattle.qmp_codec.specs.declared.nodes.Added.TheVariants as added
use Rattle.qmp_codec.specs.declared.nodes.BlockdevAdd.{BlockdevAdd}
use Rattle.qmp_codec.specs.declared.nodes.Created.{Created}
use Rattle.qmp_codec.specs.declared.nodes.Created.TheVariants as created
use Rattle.qmp_codec.specs.declared.nodes.DeviceAdd.{DeviceAdd}
use Rattle.qmp_codec.specs.declared.nodes.Snapshot.{Snapshot}
use Rattle.qmp_asks.specs.declared.ask.Ask.TheVariants as ask
use Rattle.qmp_asks.specs.BitmapAsks.{bitmap_add_values, bitmap_add_names, bitmap_add_rest, bitmap_names, bitmap_rest}
use Rattle.qmp_asks.specs.CommandAsks.{asks_of}
use Rattle.qmp_asks.specs.NodeAsks.{create_values, create_names, create_rest, add_asks, del_asks, snapshot_values, snapshot_names, snapshot_rest, is_read_only, backing_name}
use Rattle.qmp_asks.specs.Naming.{is_name}
use Rattle.qmp_asks.specs.Values.{amount_or, flag_or_false, is_granularity}
use Rattle.qmp_rules.specs.declared.change.Change.{Change}
use Rattle.qmp_rules.specs.declared.change.Change.TheVariants as change
use Rattle.qmp_rules.specs.declared.rows.AskedEnd.{AskedEnd}
use Rattle.qmp_rules.specs.declared.rows.AskedEnd.TheVariants as asked
use Rattle.qmp_rules.specs.declared.refusal.Refusal.TheVariants as refusal
use Rattle.qmp_rules.specs.declared.rows.BitmapRow.{BitmapRow}
use Rattle.qmp_rules.specs.declared.rows.NodeRecord.{NodeRecord}
use Rattle.qmp_rules.specs.declared.rows.DeviceRow.{DeviceRow}
use Rattle.qmp_rules.specs.declared.rows.JobRecord.{JobRecord}
use Rattle.qmp_rules.specs.declared.told.Told.{Told}
use Rattle.qmp_rules.specs.Asks.{holds, id_or, busy, is_base, is_file}
use Rattle.qmp_rules.specs.Chains.{filter_role}
use Rattle.qmp_rules.specs.Changes.{changed}
use Rattle.qmp_rules.specs.Edits.{free_id, file_uses, file_under, goes_with_node, with_inline, del_edits, created_change, raw_edits, qcow2_edits, added_edits, add_edits, of_row, device_uses, new_device, device_add_edits, device_del_edits, snapshot_edits, bitmap_row, bitmap_add_edits, bitmap_remove_edits, merges, filter_row, filter_edits, file_used, writable_if, base_edits, uses_as, under_top, reads_one_of, commit_unsettles, commit_uses, target_edits, uses_target, asked_by_cancel, leaves_copy, ask_edits, edits_by_kind, start_edits, edits_of}
use Rattle.qmp_rules.specs.Table.{RunTable, node_by_id, node_named, id_named, device_named, job_named, job_id, bitmap_at, bitmap_named}
use Rattle.flat_machine.specs.Suiting.{IsAlone, TableSuits, AllTableSuit}
use Rattle.flat_machine.specs.Wiring.{TableStands, TableAtRest}
use Rattle.flat_machine.proofs.Accepted.{no_edge}
use Rattle.flat_machine.proofs.Asked.{not-refused, NoneHolds, none-behind, good-value, found-named, lone-node}
use Rattle.flat_machine.proofs.Finds.{same-bytes_eq}
use Rattle.flat_machine.proofs.OwnNames.{named-if}
use Rattle.flat_machine.proofs.Snapshots.{snapshot_nodes, edits_are}
use Rattle.flat_machine.proofs.TableRests.{table_keeps, made-goes_with, inline-file, inline-format}
use Rattle.flat_machine.proofs.TableSuited.{named-row, NamedFile, named-file, add-table}
use Rattle.job_tables.specs.Changes.{IsNoJobs, LeavesJobs}
use Rattle.job_tables.specs.Jobs.{JobsStand}
use Rattle.job_tables.proofs.Changes.{change_leaves_jobs}
use Rattle.job_tables.proofs.Nobodys.{holder_free, unheld_node, named_no_filter, under_no_job, bare_no_job}
use Rattle.job_commands.specs.Begun.{IsOneCommand, job_begun}
use Rattle.job_commands.proofs.Spared.{absent_no_jobs, lone_file_no_jobs, no_jobs_at, SparesJobs, AllSpareJobs, spare_jobs-append, AllPrepare, prepare-append, all_prepare_spare, AreUses}

-- ---- additions: each id is that of no node yet

abbrev BringsNode : Change → Type 0
BringsNode (change.AddFile row) = Unit {0}
BringsNode (change.AddFormat row file backing) = Unit {0}
BringsNode (change.AddFilter row child) = Unit {0}
BringsNode c = ⊥

abbrev AllBringNodes : List Change → Type 0
AllBringNodes [] = Unit {0}
AllBringNodes (c ∷ changes) = BringsNode c × AllBringNodes changes

add_leaves : (t : RunTable) (c : Change) → BringsNode c → LeavesJobs t c
add_leaves t (change.AddFile row) a = tt
add_leaves t (change.AddFormat row file backing) a = tt
add_leaves t (change.AddFilter row child) a = tt
add_leaves t c a = absurd a

add_same : (t : RunTable) (c : Change) → BringsNode c → (changed t c).jobs ≡ t.jobs
unfolding changed
add_same t (change.AddFile row) a = refl
add_same t (change.AddFormat row file backing) a = refl
add_same t (change.AddFilter row child) a = refl
add_same t c a = absurd a

add_spares : (first t : RunTable) (c : Change) → t.jobs ≡ first.jobs → JobsStand t → BringsNode c → TableSuits t c → SparesJobs first c
add_spares first t (change.AddFile row) same j a suits = no_jobs_at t first (sym same) row.id (absent_no_jobs t j row.id suits.fresh)
add_spares first t (change.AddFormat row file backing) same j a suits = no_jobs_at t first (sym same) row.id (absent_no_jobs t j row.id suits.fresh)
add_spares first t (change.AddFilter row child) same j a suits = no_jobs_at t first (sym same) row.id (absent_no_jobs t j row.id suits.fresh)
add_spares first t c same j a suits = absurd a

all_add_spare : (first : RunTable) (changes : List Change) (t : RunTable) → t.jobs ≡ first.jobs → TableStands t → JobsStand t → AllBringNodes changes → AllTableSuit t changes
    → AllSpareJobs first changes
all_add_spare first [] t same h j adds suits = tt
all_add_spare first (c ∷ changes) t same h j adds suits = (
  add_spares first t c same j adds.0 suits.0,
  all_add_spare first changes (changed t c) (add_same t c adds.0 ∙ same) (table_keeps t c suits.0 h) (change_leaves_jobs t c h j suits.0 (add_leaves t c adds.0)) adds.1 suits.1,
)

raw_adds : (t : RunTable) (exp : Told) (name : List ℕ) (read_only : Bool) (raw : AddRaw (List ℕ)) (file : FileRef (List ℕ)) → AllBringNodes (raw_edits t exp name read_only raw file)
raw_adds t exp name read_only raw (file_ref.Name file) = (tt, tt)
raw_adds t exp name read_only raw (file_ref.Inline file) = (tt, (tt, tt))

qcow2_adds : (t : RunTable) (exp : Told) (name : List ℕ) (read_only : Bool) (back : Option (List ℕ)) (file : FileRef (List ℕ))
    → AllBringNodes (qcow2_edits t exp name read_only back file)
qcow2_adds t exp name read_only back (file_ref.Name file) = (tt, tt)
qcow2_adds t exp name read_only back (file_ref.Inline file) = (tt, (tt, tt))

added_adds : (t : RunTable) (exp : Told) (name : List ℕ) (read_only : Bool) (driver : Added (List ℕ)) → AllBringNodes (added_edits t exp name read_only driver)
added_adds t exp name read_only (added.File filename) = (tt, tt)
added_adds t exp name read_only (added.Raw raw) = raw_adds t exp name read_only raw raw.file
added_adds t exp name read_only (added.Qcow2 image) = qcow2_adds t exp name read_only (backing_name image.backing) image.file
added_adds t exp name read_only (added.CopyOnRead file) = (tt, tt)
added_adds t exp name read_only added.Unknown = tt

module _ (t : RunTable) (told : Told) (h : TableStands t) (j : JobsStand t) where
  add_command : (exp : Told) (c : BlockdevAdd (List ℕ)) → NoneHolds t told (add_asks c) → AllSpareJobs t (add_edits t exp c)
  add_command exp c asks =
      all_add_spare t (add_edits t exp c) t refl h j (added_adds t exp c.node_name (is_read_only c.options) c.driver) (add-table t told h c exp asks)

  -- ---- creations

  create_command : (id : List ℕ) (options : Created (List ℕ)) → NoneHolds t told (create_rest id options) → AllSpareJobs t (change.KeepId id ∷ created_change t options)
  create_command id (created.File c) asks = (tt, (tt, tt))
  create_command id (created.Qcow2 c) asks =
      let of : NamedFile t told h c.file = named-file t told h c.file asks.0 asks.1.1.0 asks.1.1.1.0 in
      (tt, (subst (IsNoJobs t) (sym of.id_is) (lone_file_no_jobs t h j of.row of.there (subst IsSome (sym of.filename) refl) of.alone), tt))
  create_command id created.Unknown asks = (tt, tt)

  -- ---- snapshots

  snapshot_command : (c : Snapshot (List ℕ)) → NoneHolds t told (snapshot_values c ++ snapshot_names c ++ snapshot_rest c) → AllSpareJobs t (snapshot_edits t c)
  snapshot_command c asks =
      let of = snapshot_nodes t told c h asks in
      subst (AllSpareJobs t) (sym (edits_are t c of))
      (bare_no_job t h j of.overlay of.over.overlay_there (ap filter_role of.over.driver) of.over.lone of.bare, (tt, tt))

-- ---- deletions

module _ (t : RunTable) (h : TableAtRest t) (j : JobsStand t) (row : NodeRecord) (there : Contains t.nodes row) (alone : IsAlone t row.id) (free : IsNoJobs t row.id) where
  inline_free : (file : NodeRecord) → Contains t.nodes file → file.made_with ≡ Some row.id → IsNoJobs t file.id
  inline_free file file_there with =
      under_no_job t h.stands j row file (inline-file t row there alone h.stands h.inline file file_there with)
      (h.inline file row.id file_there with).file (inline-format t row there alone h.stands h.inline file file_there with)

  gone_spares : (found : Option NodeRecord) → find (goes_with_node row.id) t.nodes ≡ found
      → AllSpareJobs t (change.RemoveNode row.id ∷ elim found as (λ _. List Change) [ None ↦ [] | Some file ↦ change.RemoveNode file.id ∷ [] ])
  gone_spares None e = (free, tt)
  gone_spares (Some file) e =
      let at = find-Some (goes_with_node row.id) t.nodes file e in
      (free, (inline_free file at.0 (made-goes_with row.id file at.1), tt))

  row_spares : (name : Option (List ℕ)) → AllSpareJobs t (file_uses name ++ change.RemoveNode row.id ∷ with_inline t row.id)
  row_spares None = gone_spares (find (goes_with_node row.id) t.nodes) refl
  row_spares (Some name) = (tt, gone_spares (find (goes_with_node row.id) t.nodes) refl)

del_command : (t : RunTable) (told : Told) (name : List ℕ) → TableAtRest t → JobsStand t → NoneHolds t told (del_asks name) → AllSpareJobs t (del_edits t name)
del_command t told name h j asks = by_row (found-named t told name asks.1.0)
  where
    by_row : ((row : NodeRecord) × (node_named t name ≡ Some row)) → AllSpareJobs t (del_edits t name)
    by_row named =
        let row : NodeRecord = named.0 in
        let there = named-row t told h.stands name row named.1 in
        let said = named-if t told (codes "node-name") (Some name) asks.0 in
        let free : IsNoJobs t row.id = record {
          held = holder_free t row.id (unheld_node t told name row named.1 asks.1.1.0);
          filter = named_no_filter t h.stands j row there.0 (rw (same-bytes_eq row.name name there.1) said);
        } in
        rw named.1 (row_spares t h j row there.0 (no_edge row.id t.edges (lone-node t told name row named.1 asks.1.1.1.0)) free (file_under t row))

-- ---- devices and bitmaps

uses_prepare : (t : RunTable) (name : Option (List ℕ)) → AllPrepare t (file_uses name)
uses_prepare t None = tt
uses_prepare t (Some name) = (tt, tt)

if_prepare : (t : RunTable) (row : NodeRecord) (b : Bool) → AllPrepare t (cond b (file_uses row.filename) [])
if_prepare t row true = uses_prepare t row.filename
if_prepare t row false = tt

device_command : (t : RunTable) (c : DeviceAdd (List ℕ)) → AllSpareJobs t (device_add_edits t c)
device_command t c = by_row (node_named t c.drive)
  where
    by_row : (found : Option NodeRecord) → AllSpareJobs t (of_row (λ row. device_uses row ++ change.AddDevice (new_device t c row) row.id ∷ []) found)
    by_row None = tt
    by_row (Some row) = spare_jobs-append t (device_uses row) (change.AddDevice (new_device t c row) row.id ∷ []) (all_prepare_spare t (device_uses row) (if_prepare t row (is_file row))) (tt, tt)

device_gone_command : (t : RunTable) (id : List ℕ) → AllSpareJobs t (device_del_edits t id)
device_gone_command t id = by_row (device_named t id)
  where
    by_row : (found : Option DeviceRow) → AllSpareJobs t (elim found as (λ _. List Change) [ None ↦ [] | Some device ↦ change.RemoveDevice device.number ∷ [] ])
    by_row None = tt
    by_row (Some device) = (tt, tt)

merge_command : (t : RunTable) (node target : List ℕ) (sources : SeenSources) → AllSpareJobs t (merges t node target sources)
merge_command t node target [] = tt
merge_command t node target (s ∷ sources) = (tt, merge_command t node target sources)

-- ---- asked ends

pub record AsksJob (changes : List Change) : Type 0 where
  pub number : ℕ
  pub new : AskedEnd
  pub is : changes ≡ change.AskJob number new ∷ []
  pub ends : new ≢ asked.Nothing

-- ---- one bitmap

-- the node of a new one is there and no job's filter, and its granules are of a size that they may have
pub record FitsNode (t : RunTable) (row : BitmapRow) : Type 0 where
  pub node : NodeRecord
  pub there : node_by_id t row.node ≡ Some node
  pub shown : filter_role node.kind ≢ Some Filtered
  pub bytes : is_granule_size row.granularity ≡ true

-- it comes, and its node has none of that name; or it goes, and no job uses it
abbrev pub ChangesBitmap : RunTable → Change → Type 0
ChangesBitmap t (change.AddBitmap row) = (row.busy ≡ None) × (bitmap_at t row.node row.name ≡ None) × FitsNode t row
ChangesBitmap t (change.RemoveBitmap node name) = (row : BitmapRow) → bitmap_at t node name ≡ Some row → row.busy ≡ None
ChangesBitmap t c = ⊥

pub record OneBitmap (t : RunTable) (changes : List Change) : Type 0 where
  pub one : Change
  pub is : changes ≡ one ∷ []
  pub leaves : ChangesBitmap t one

-- ---- what a command's changes may be

abbrev pub MayChange : RunTable → List Change → Type 0
MayChange t changes = AllSpareJobs t changes ⊎ (AsksJob changes ⊎ OneBitmap t changes)

ask_command : (t : RunTable) (id : List ℕ) (end : JobRecord → AskedEnd) → ((job : JobRecord) → end job ≢ asked.Nothing) → MayChange t (ask_edits t id end)
ask_command t id end ends = by_job (job_named t id)
  where
    by_job : (found : Option JobRecord) → MayChange t (elim found as (λ _. List Change) [ None ↦ [] | Some job ↦ change.AskJob job.number (end job) ∷ [] ])
    by_job None = inl tt
    by_job (Some job) = inr (inl (record { number = job.number; new = end job; is = refl; ends = ends job }))

cancel_ends : (force : Bool) (job : JobRecord) → asked_by_cancel force job ≢ asked.Nothing
cancel_ends force job = by_test (leaves_copy force job.is_ready job.kind)
  where
    by_test : (b : Bool) → cond b asked.Leave asked.Stop ≢ asked.Nothing
    by_test true same = absurd cc
    by_test false same = absurd cc

module _ (t : RunTable) (told : Told) where
  named_id : (node : List ℕ) → holds t told (ask.Found (Some node)) ≡ None → id_named t node ≡ Some (id_or 0 t (Some node))
  named_id node found = let of = found-named t told node found in rw of.1 refl

  at_named : (node name : List ℕ) → holds t told (ask.Found (Some node)) ≡ None → bitmap_named t node name ≡ bitmap_at t (id_or 0 t (Some node)) name
  at_named node name found = ap (option_and_then (λ id. bitmap_at t id name)) (named_id node found)

  -- no bitmap of that name is there
  fresh_bitmap : (node name : List ℕ) → holds t told (ask.Found (Some node)) ≡ None → holds t told (ask.FreshBitmap node name) ≡ None
      → bitmap_at t (id_or 0 t (Some node)) name ≡ None
  unfolding holds
  fresh_bitmap node name found fresh = sym (at_named node name found) ∙ by_row (bitmap_named t node name) (not-refused _ _ fresh)
    where
      by_row : (row : Option BitmapRow) → is_some row ≡ false → row ≡ None
      by_row None e = refl
      by_row (Some row) e = absurd cc

  -- and of one that is, no job uses it
  pub free_bitmap : (node name : List ℕ) → holds t told (ask.Found (Some node)) ≡ None → holds t told (ask.BitmapFree node (Some name)) ≡ None
      → (row : BitmapRow) → bitmap_at t (id_or 0 t (Some node)) name ≡ Some row → row.busy ≡ None
  unfolding holds
  free_bitmap node name found free row at = by_busy row.busy refl (rw (at_named node name found ∙ at) at free)
    where
      by_busy : (b : Option ℕ) → row.busy ≡ b → busy t row ≡ None → row.busy ≡ None
      by_busy None e quiet = e
      by_busy (Some job) e quiet = absurd (let bad = ap (option_map (λ j. refusal.BitmapBusy row.name (job_id t j))) (sym e) ∙ quiet in cc)

  -- it is there
  pub found_bitmap : (node name : List ℕ) → holds t told (ask.Found (Some node)) ≡ None → holds t told (ask.BitmapFound node (Some name)) ≡ None
      → IsSome (bitmap_at t (id_or 0 t (Some node)) name)
  unfolding holds
  found_bitmap node name found there = subst IsSome (at_named node name found) (by_row (bitmap_named t node name) (not-refused _ _ there))
    where
      by_row : (row : Option BitmapRow) → is_none row ≡ false → IsSome row
      by_row None e = absurd cc
      by_row (Some row) e = refl

  granule_bytes : (granularity : Option Amount) → is_granularity granularity ≡ true → is_granule_size (amount_or 65536 granularity) ≡ true
  unfolding ones
  granule_bytes None is = refl
  granule_bytes (Some (Number n)) is = is
  granule_bytes (Some Negative) is = absurd (false≢true is)

  fits_node : TableStands t → (c : BitmapAdd (List ℕ)) → is_granularity c.granularity ≡ true → is_name c.node ≡ true → holds t told (ask.Found (Some c.node)) ≡ None
      → FitsNode t (bitmap_row (id_or 0 t (Some c.node)) c)
  fits_node h c good said found =
      let of = found-named t told c.node found in
      let row : NodeRecord = of.0 in
      let there = named-row t told h c.node row of.1 in
      record {
        node = row;
        there = rw of.1 (h.apart row there.0);
        shown = λ is. false≢true (sym (h.hidden row there.0 is) ∙ rw (same-bytes_eq row.name c.node there.1) said);
        bytes = granule_bytes c.granularity good;
      }

  add_bitmap_command : TableStands t → (c : BitmapAdd (List ℕ)) → NoneHolds t told (bitmap_add_values c ++ bitmap_add_names c ++ bitmap_add_rest c)
      → OneBitmap t (bitmap_add_edits t c)
  add_bitmap_command h c asks =
      let rest = none-behind t told (bitmap_add_values c ++ bitmap_add_names c) (bitmap_add_rest c) asks in
      record {
        one = change.AddBitmap (bitmap_row (id_or 0 t (Some c.node)) c);
        is = refl;
        leaves = (
          refl,
          fresh_bitmap c.node c.name rest.0 rest.1.0,
          fits_node h c (good-value t told (codes "granularity") (is_granularity c.granularity) asks.0)
              (named-if t told (codes "node") (Some c.node) asks.1.1.0) rest.0,
        );
      }

  remove_bitmap_command : (c : BitmapName (List ℕ)) → NoneHolds t told (bitmap_names c ++ bitmap_rest c) → OneBitmap t (bitmap_remove_edits t c)
  remove_bitmap_command c asks =
      let rest = none-behind t told (bitmap_names c) (bitmap_rest c) asks in
      record { one = change.RemoveBitmap (id_or 0 t (Some c.node)) c.name; is = refl; leaves = free_bitmap c.node c.name rest.0 rest.1.1.0 }

-- ---- every command that begins no job

pub command_spares : (t : RunTable) (told exp : Told) (c : Cmd) → TableAtRest t → JobsStand t → IsOneCommand c → job_begun t c ≡ None → NoneHolds t told (asks_of c)
    → MayChange t (edits_of t exp c)
unfolding asks_of edits_of
command_spares t told exp (command.Capabilities enable) h j one none asks = inl (tt, tt)
command_spares t told exp (command.BlockdevCreate c) h j one none asks =
    inl (create_command t told h.stands j c.job_id c.options
    (none-behind t told (create_values c.options ++ ask.Named (codes "job-id") (Some c.job_id) ∷ create_names c.options) (create_rest c.job_id c.options) asks))
command_spares t told exp (command.JobDismiss id) h j one none asks = inl (tt, tt)
command_spares t told exp (command.BlockdevAdd c) h j one none asks = inl (add_command t told h.stands j exp c asks)
command_spares t told exp (command.BlockdevDel name) h j one none asks = inl (del_command t told name h j asks)
command_spares t told exp (command.DeviceAdd c) h j one none asks = inl (device_command t c)
command_spares t told exp (command.DeviceDel id) h j one none asks = inl (device_gone_command t id)
command_spares t told exp (command.BlockdevSnapshot c) h j one none asks = inl (snapshot_command t told h.stands j c asks)
command_spares t told exp (command.Transaction c) h j one none asks = absurd one
command_spares t told exp (command.BlockStream c) h j one none asks = absurd cc
command_spares t told exp (command.BlockCommit c) h j one none asks = absurd cc
command_spares t told exp (command.BlockdevMirror c) h j one none asks = absurd cc
command_spares t told exp (command.BlockdevBackup c) h j one none asks = absurd cc
command_spares t told exp (command.BlockJobCancel id force) h j one none asks = ask_command t id _ (cancel_ends (flag_or_false force))
command_spares t told exp (command.BlockJobComplete id) h j one none asks = ask_command t id _ (λ job same. absurd cc)
command_spares t told exp command.QueryBlockJobs h j one none asks = inl tt
command_spares t told exp (command.QueryNamedBlockNodes flat) h j one none asks = inl tt
command_spares t told exp (command.BitmapAdd c) h j one none asks = inr (inr (add_bitmap_command t told h.stands c asks))
command_spares t told exp (command.BitmapRemove c) h j one none asks = inr (inr (remove_bitmap_command t told c asks))
command_spares t told exp (command.BitmapClear c) h j one none asks = inl (tt, tt)
command_spares t told exp (command.BitmapEnable c) h j one none asks = inl (tt, tt)
command_spares t told exp (command.BitmapDisable c) h j one none asks = inl (tt, tt)
command_spares t told exp (command.BitmapMerge c) h j one none asks = inl (merge_command t c.node c.target c.bitmaps)

-- ---- a job that begins

-- its row comes between changes that prepare the start, and uses of nodes by it
pub record BeginsAmong (t : RunTable) (row : JobRecord) (changes : List Change) : Type 0 where
  pub before : List Change
  pub behind : List Change
  pub is : changes ≡ before ++ change.StartJob row ∷ behind
  pub prepare : AllPrepare t before
  pub uses : AreUses behind

-- the filter of a job that has one is that of no job yet
abbrev pub MayFilter : RunTable → JobKind → Type 0
MayFilter t Stream = Unit {0}
MayFilter t kind = IsNoJobs t (free_id t)

module _ (t : RunTable) where
  used_prepare : (node : Option ℕ) → AllPrepare t (file_used t node)
  used_prepare node = by_row (option_and_then (node_by_id t) node)
    where
      by_row : (found : Option NodeRecord) → AllPrepare t (of_row device_uses found)
      by_row None = tt
      by_row (Some row) = if_prepare t row (is_file row)

  unsettles_prepare : (rows : List NodeRecord) → AllPrepare t (map (λ node. change.Unsettle node.id) rows)
  unsettles_prepare [] = tt
  unsettles_prepare (node ∷ rows) = (tt, unsettles_prepare rows)

  writable_prepare : (b : Bool) (node : Option ℕ) → AllPrepare t (writable_if b node)
  writable_prepare true (Some id) = (tt, tt)
  writable_prepare true None = tt
  writable_prepare false id = tt

  target_prepare : (target : Option ℕ) → AllPrepare t (target_edits t target)
  target_prepare None = tt
  target_prepare (Some target) = prepare-append t (file_used t (Some target)) (change.Unsettle target ∷ []) (used_prepare (Some target)) (tt, tt)

  filter_prepare : (kind : Kind) (row : JobRecord) → IsNoJobs t (free_id t) → AllPrepare t (filter_edits t kind row)
  filter_prepare kind row free = by_row (node_by_id t row.source)
    where
      by_row : (found : Option NodeRecord) → AllPrepare t (of_row (λ node. change.PutFilter (filter_row t kind row.id node) node.id ∷ []) found)
      by_row None = tt
      by_row (Some node) = (free, tt)

uses_of : (slot : ℕ) (what : JobUse) (nodes : List ℕ) → AreUses (uses_as slot what nodes)
uses_of slot what [] = tt
uses_of slot what (node ∷ nodes) = (tt, uses_of slot what nodes)

uses_of_target : (row : JobRecord) (target : Option ℕ) → AreUses (uses_target row target)
uses_of_target row None = tt
uses_of_target row (Some target) = (tt, tt)

uses_of_commit : (row : JobRecord) (nodes : List ℕ)
    → AreUses (map (λ id. change.UseNode row.slot (if is_base row.target id then CommitBase else CommitBetween) id) nodes)
uses_of_commit row [] = tt
uses_of_commit row (node ∷ nodes) = (tt, uses_of_commit row nodes)

copy_among : (t : RunTable) (kind : Kind) (row : JobRecord) → IsNoJobs t (free_id t)
    → BeginsAmong t row (target_edits t row.target ++ filter_edits t kind row ++ change.StartJob row ∷ uses_target row row.target)
copy_among t kind row free = record {
  before = target_edits t row.target ++ filter_edits t kind row;
  behind = uses_target row row.target;
  is = refl;
  prepare = prepare-append t (target_edits t row.target) (filter_edits t kind row) (target_prepare t row.target) (filter_prepare t kind row free);
  uses = uses_of_target row row.target;
}

commit_among : (t : RunTable) (row : JobRecord) → IsNoJobs t (free_id t) → BeginsAmong t row (edits_by_kind t row Commit)
commit_among t row free = record {
  before = file_used t row.target ++ commit_unsettles t row ++ base_edits t row ++ filter_edits t driver.Commit row;
  behind = change.UseNode row.slot CommitTop row.source ∷ commit_uses row;
  is = refl;
  prepare =
      prepare-append t (file_used t row.target ++ commit_unsettles t row ++ base_edits t row) (filter_edits t driver.Commit row)
      (prepare-append t (file_used t row.target ++ commit_unsettles t row) (base_edits t row)
      (prepare-append t (file_used t row.target) (commit_unsettles t row) (used_prepare t row.target)
      (unsettles_prepare t (filter (reads_one_of t row.source (under_top row)) t.nodes)))
      (prepare-append t (writable_if row.made_writable.file _) (writable_if row.made_writable.base row.target)
      (writable_prepare t row.made_writable.file _) (writable_prepare t row.made_writable.base row.target)))
      (filter_prepare t driver.Commit row free);
  uses = (tt, uses_of_commit row (under_top row));
}

pub start_among : (t : RunTable) (row : JobRecord) → MayFilter t row.kind → BeginsAmong t row (start_edits t row)
unfolding start_edits
start_among t row may = by_kind row.kind may
  where
    by_kind : (k : JobKind) → MayFilter t k → BeginsAmong t row (edits_by_kind t row k)
    by_kind Stream m = record {
      before = file_used t row.target;
      behind = change.UseNode row.slot StreamTop row.source ∷ uses_as row.slot StreamBelow row.read;
      is = refl;
      prepare = used_prepare t row.target;
      uses = (tt, uses_of row.slot StreamBelow row.read);
    }
    by_kind Commit m = commit_among t row m
    by_kind Mirror m = copy_among t driver.Mirror row m
    by_kind Backup m = copy_among t driver.BeforeWrite row m
