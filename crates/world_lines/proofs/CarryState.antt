-- What the changes of the commands that are carried out leave of a state: guests, starts and ends of jobs, bitmaps.
use Rattle.std.proofs.Common.{◌≡◌, ℕ, Bool, true, false, List, [], ◌∷◌, ◌++◌, refl, ◌∙◌, Option, Some, None}
use Rattle.std.specs.Prelude.{◌&&◌, if◌then◌else◌, find}
use Rattle.std.specs.List.{list_all}
use Rattle.blk_graph.specs.declared.kind.Kind.{Kind}
use Rattle.blk_graph.specs.declared.kind.Kind.TheVariants as kind
use Rattle.qmp_codec.specs.Commands.{Cmd, SeenSources}
use Rattle.qmp_codec.specs.declared.command.Command.TheVariants as command
use Rattle.qmp_codec.specs.declared.nodes.FileRef.{FileRef}
use Rattle.qmp_codec.specs.declared.nodes.FileRef.TheVariants as file_ref
use Rattle.qmp_codec.specs.declared.nodes.AddRaw.{AddRaw}
use Rattle.qmp_codec.specs.declared.nodes.Added.{Added}
use Rattle.qmp_codec.specs.declared.nodes.Added.TheVariants as added
use Rattle.qmp_codec.specs.declared.nodes.Created.{Created}
use Rattle.qmp_codec.specs.declared.nodes.Created.TheVariants as created
use Rattle.qmp_codec.specs.declared.nodes.DeviceAdd.{DeviceAdd}
use Rattle.qmp_rules.specs.declared.change.Change.{Change}
use Rattle.qmp_rules.specs.declared.change.Change.TheVariants as change
use Rattle.qmp_rules.specs.declared.refusal.Refusal.{Refusal}
use Rattle.qmp_rules.specs.declared.refusal.Refusal.TheVariants as refusal
use Rattle.qmp_rules.specs.declared.rows.NodeRecord.{NodeRecord}
use Rattle.qmp_rules.specs.declared.rows.DeviceRow.{DeviceRow}
use Rattle.qmp_rules.specs.declared.told.Told.{Told}
use Rattle.qmp_rules.specs.Table.{RunTable, device_named, job_named, node_named}
use Rattle.qmp_rules.specs.declared.rows.AskedEnd.{AskedEnd}
use Rattle.qmp_rules.specs.declared.rows.AskedEnd.TheVariants as asked_ends
use Rattle.qmp_rules.specs.declared.rows.JobRecord.{JobRecord}
use Rattle.qmp_asks.specs.Values.{flag_or_false}
use Rattle.qmp_rules.specs.Changes.{changed, all_changed}
use Rattle.qmp_asks.specs.CommandAsks.{is_built}
use Rattle.qmp_rules.specs.Edits.{asked_by_cancel, edits_of, created_change, spoiled, raw_edits, qcow2_edits, added_edits, file_uses, file_under, with_inline, goes_with_node, row_gone, of_row, device_uses, new_device, merges}
use Rattle.qmp_rules.specs.Asks.{is_file, name_of_file}
use Rattle.qmp_asks.specs.NodeAsks.{is_read_only, backing_name}
use Rattle.qmp_rules.specs.Answers.{command_edits, left_by}
use Rattle.flat_machine.specs.State.{State, Content, Left, filename_of, content_in}
use Rattle.flat_machine.specs.Changed.{beside, stepped, all_stepped, put, name_file, know_if, add_file, note_image, add_format, leave, remove_node}
use Rattle.flat_machine.specs.Contents.{file_bytes}
use Rattle.world_parts.proofs.JobsAnswered.{StartsNoJob}

-- ---- the kinds of changes that the commands carried out so far make

abbrev pub is_plain_change : Change → Bool
is_plain_change change.Negotiate = true
is_plain_change (change.KeepId id) = true
is_plain_change (change.DropId id) = true
is_plain_change (change.MakeFile name size) = true
is_plain_change (change.FormatFile node name size backing_file backing_fmt) = true
is_plain_change (change.SpoilFile name) = true
is_plain_change (change.UseFile name) = true
is_plain_change (change.AddFile row) = true
is_plain_change (change.AddFormat row file backing) = true
is_plain_change (change.AddFilter row child) = true
is_plain_change (change.RemoveNode node) = true
is_plain_change (change.AddDevice device node) = true
is_plain_change (change.AddBitmap row) = true
is_plain_change (change.RemoveBitmap node name) = true
is_plain_change (change.TurnBitmap node name on) = true
is_plain_change (change.ClearBitmap node name) = true
is_plain_change (change.MergeBitmap node name source_node source) = true
is_plain_change (change.RemoveDevice number) = true
is_plain_change (change.AskJob number asked) = true
is_plain_change (change.Attach overlay node) = true
is_plain_change (change.Move from to but) = true
is_plain_change c = false

both : (p : Change → Bool) (xs ys : List Change) → list_all p xs ≡ true → list_all p ys ≡ true → list_all p (xs ++ ys) ≡ true
both p [] ys first later = later
both p (x ∷ xs) ys first later = at (p x) first (λ h. both p xs ys h later)
  where
    at : (b : Bool) → (b && list_all p xs) ≡ true → (list_all p xs ≡ true → list_all p (xs ++ ys) ≡ true) → (b && list_all p (xs ++ ys)) ≡ true
    at true h rest = rest h
    at false h rest = h

module _ (t : RunTable) (told : Told) where
  raw-plain : (name : List ℕ) (read_only : Bool) (raw : AddRaw (List ℕ)) (file : FileRef (List ℕ)) → list_all is_plain_change (raw_edits t told name read_only raw file) ≡ true
  raw-plain name read_only raw (file_ref.Name file) = refl
  raw-plain name read_only raw (file_ref.Inline file) = refl

  qcow2-plain : (name : List ℕ) (read_only : Bool) (back : Option (List ℕ)) (file : FileRef (List ℕ)) → list_all is_plain_change (qcow2_edits t told name read_only back file) ≡ true
  qcow2-plain name read_only back (file_ref.Name file) = refl
  qcow2-plain name read_only back (file_ref.Inline file) = refl

  added-plain : (name : List ℕ) (read_only : Bool) (driver : Added (List ℕ)) → list_all is_plain_change (added_edits t told name read_only driver) ≡ true
  added-plain name read_only (added.File filename) = refl
  added-plain name read_only (added.Raw raw) = raw-plain name read_only raw raw.file
  added-plain name read_only (added.Qcow2 image) = qcow2-plain name read_only (backing_name image.backing) image.file
  added-plain name read_only (added.CopyOnRead file) = refl
  added-plain name read_only added.Unknown = refl

  created-plain : (options : Created (List ℕ)) → list_all is_plain_change (created_change t options) ≡ true
  created-plain (created.File c) = refl
  created-plain (created.Qcow2 c) = refl
  created-plain created.Unknown = refl

  uses-plain : (name : Option (List ℕ)) → list_all is_plain_change (file_uses name) ≡ true
  uses-plain None = refl
  uses-plain (Some name) = refl

  inline-plain : (node : ℕ) → list_all is_plain_change (with_inline t node) ≡ true
  inline-plain node = elim (find (goes_with_node node) t.nodes) as (λ found. list_all is_plain_change (elim found as (λ _. List Change) [ None ↦ [] | Some row ↦ change.RemoveNode row.id ∷ [] ]) ≡ true) [
    | None ↦ refl
    | Some row ↦ refl
  ]

  gone-plain : (found : Option NodeRecord) → list_all is_plain_change (of_row (row_gone t) found) ≡ true
  gone-plain None = refl
  gone-plain (Some row) = both is_plain_change (file_uses (file_under t row)) (change.RemoveNode row.id ∷ with_inline t row.id) (uses-plain (file_under t row)) (inline-plain row.id)

  device-plain : (c : DeviceAdd (List ℕ)) (found : Option NodeRecord)
      → list_all is_plain_change (of_row (λ row. device_uses row ++ change.AddDevice (new_device t c row) row.id ∷ []) found) ≡ true
  device-plain c None = refl
  device-plain c (Some row) = both is_plain_change (device_uses row) (change.AddDevice (new_device t c row) row.id ∷ []) (used (is_file row)) refl
    where
      used : (b : Bool) → list_all is_plain_change (if b then file_uses row.filename else []) ≡ true
      used true = uses-plain row.filename
      used false = refl

  merges-plain : (node target : List ℕ) (sources : SeenSources) → list_all is_plain_change (merges t node target sources) ≡ true
  merges-plain node target [] = refl
  merges-plain node target (source ∷ sources) = merges-plain node target sources

  removed-plain : (found : Option DeviceRow) → list_all is_plain_change (elim found as (λ _. List Change) [ None ↦ [] | Some device ↦ change.RemoveDevice device.number ∷ [] ]) ≡ true
  removed-plain None = refl
  removed-plain (Some device) = refl

  asked-plain : (ask : JobRecord → AskedEnd) (found : Option JobRecord)
      → list_all is_plain_change (elim found as (λ _. List Change) [ None ↦ [] | Some job ↦ change.AskJob job.number (ask job) ∷ [] ]) ≡ true
  asked-plain ask None = refl
  asked-plain ask (Some job) = refl

  pub edits_plain : (c : Cmd) → is_built c ≡ true → StartsNoJob t c → list_all is_plain_change (command_edits t told c) ≡ true
  unfolding edits_of
  edits_plain (command.Capabilities enable) built starts = refl
  edits_plain (command.BlockdevCreate c) built starts = created-plain c.options
  edits_plain (command.JobDismiss id) built starts = refl
  edits_plain (command.BlockdevAdd c) built starts = added-plain c.node_name (is_read_only c.options) c.driver
  edits_plain (command.BlockdevDel name) built starts = gone-plain (node_named t name)
  edits_plain (command.DeviceAdd c) built starts = device-plain c (node_named t c.drive)
  edits_plain (command.DeviceDel id) built starts = removed-plain (device_named t id)
  edits_plain (command.BlockdevSnapshot c) built starts = refl
  edits_plain (command.BlockJobCancel id force) built starts = asked-plain (asked_by_cancel (flag_or_false force)) (job_named t id)
  edits_plain (command.BlockJobComplete id) built starts = asked-plain (λ job. asked_ends.Complete) (job_named t id)
  edits_plain command.QueryBlockJobs built starts = refl
  edits_plain (command.QueryNamedBlockNodes flat) built starts = refl
  edits_plain (command.BitmapAdd c) built starts = refl
  edits_plain (command.BitmapRemove c) built starts = refl
  edits_plain (command.BitmapClear c) built starts = refl
  edits_plain (command.BitmapEnable c) built starts = refl
  edits_plain (command.BitmapDisable c) built starts = refl
  edits_plain (command.BitmapMerge c) built starts = merges-plain c.node c.target c.bitmaps
  edits_plain _ built starts = absurd cc

  pub spoiled_plain : (options : Created (List ℕ)) → list_all is_plain_change (spoiled t options) ≡ true
  spoiled_plain (created.File c) = refl
  spoiled_plain (created.Qcow2 c) = refl
  spoiled_plain created.Unknown = refl

  left-create : (options : _) (cause : Refusal) → list_all is_plain_change (left_by t (command.BlockdevCreate options) cause) ≡ true
  left-create c (refusal.Io source count) = spoiled_plain c.options
  left-create c (refusal.NoSpace dev) = spoiled_plain c.options
  left-create c _ = refl

  pub left_plain : (c : Cmd) (cause : Refusal) → list_all is_plain_change (left_by t c cause) ≡ true
  left_plain (command.BlockdevCreate c) cause = left-create c cause
  left_plain _ cause = refl

-- ---- what they leave

pub record KeepsGuests (s v : State) : Type 0 where
  pub room : v.room ≡ s.room
  pub guests : v.guests ≡ s.guests
  pub starts : v.starts ≡ s.starts
  pub ending : v.ending ≡ s.ending
  pub ended : v.ended ≡ s.ended

pub record KeepsTable (t u : RunTable) : Type 0 where
  pub guests : u.guests ≡ t.guests
  pub started : u.started ≡ t.started

same : (s : State) → KeepsGuests s s
same s = record { room = refl; guests = refl; starts = refl; ending = refl; ended = refl }

keeps-then : (s u v : State) → KeepsGuests s u → KeepsGuests u v → KeepsGuests s v
keeps-then s u v a b = record {
  room = b.room ∙ a.room;
  guests = b.guests ∙ a.guests;
  starts = b.starts ∙ a.starts;
  ending = b.ending ∙ a.ending;
  ended = b.ended ∙ a.ended;
}

named-if : (only : Bool) (name : List ℕ) (s : State) → KeepsGuests s (if only then s else name_file name s)
named-if true name s = same s
named-if false name s = record { room = refl; guests = refl; starts = refl; ending = refl; ended = refl }

file-keeps : (row : NodeRecord) (s : State) → KeepsGuests s (add_file row s)
file-keeps row s =
    let put_so : State = put row.id (file_bytes row.size (content_in s.files (name_of_file row))) s in
    keeps-then s put_so _ (record { room = refl; guests = refl; starts = refl; ending = refl; ended = refl }) (named-if row.read_only (name_of_file row) put_so)

image-keeps : (driver : Kind) (node : ℕ) (mapped : _) (s : State) → KeepsGuests s (note_image driver node mapped s)
image-keeps kind.Qcow2 node mapped s = record { room = refl; guests = refl; starts = refl; ending = refl; ended = refl }
image-keeps _ node mapped s = same s

know-keeps : (name : Option (List ℕ)) (content : Content) (s : State) → KeepsGuests s (know_if name content s)
know-keeps None content s = same s
know-keeps (Some name) content s = record { room = refl; guests = refl; starts = refl; ending = refl; ended = refl }

format-keeps : (row : NodeRecord) (file : ℕ) (backing : Option ℕ) (s : State) → KeepsGuests s (add_format row file backing s)
format-keeps row file backing s =
    let put_so : State = put row.id _ s in
    keeps-then s (note_image row.kind row.id _ put_so) _
    (keeps-then s put_so _ (record { room = refl; guests = refl; starts = refl; ending = refl; ended = refl }) (image-keeps row.kind row.id _ put_so))
    (know-keeps (filename_of s.table file) _ _)

leave-keeps : (left : Option Left) (s : State) → KeepsGuests s (leave left s)
leave-keeps None s = same s
leave-keeps (Some left) s = record { room = refl; guests = refl; starts = refl; ending = refl; ended = refl }

remove-keeps : (node : ℕ) (s : State) → KeepsGuests s (remove_node node s)
remove-keeps node s =
    let first = leave-keeps _ s in
    record { room = first.room; guests = first.guests; starts = first.starts; ending = first.ending; ended = first.ended }

beside-keeps : (s : State) (c : Change) → is_plain_change c ≡ true → KeepsGuests s (beside s c)
beside-keeps s (change.AddFile row) plain = file-keeps row s
beside-keeps s (change.AddFormat row file backing) plain = format-keeps row file backing s
beside-keeps s (change.RemoveNode node) plain = remove-keeps node s
beside-keeps s change.Negotiate plain = same s
beside-keeps s (change.KeepId id) plain = same s
beside-keeps s (change.DropId id) plain = same s
beside-keeps s (change.UseFile name) plain = record { room = refl; guests = refl; starts = refl; ending = refl; ended = refl }
beside-keeps s (change.MakeFile name size) plain = record { room = refl; guests = refl; starts = refl; ending = refl; ended = refl }
beside-keeps s (change.SpoilFile name) plain = record { room = refl; guests = refl; starts = refl; ending = refl; ended = refl }
beside-keeps s (change.FormatFile node name size backing_file backing_fmt) plain = record { room = refl; guests = refl; starts = refl; ending = refl; ended = refl }
beside-keeps s (change.AddFilter row child) plain = same s
beside-keeps s (change.AddDevice device node) plain = same s
beside-keeps s (change.AddBitmap row) plain = record { room = refl; guests = refl; starts = refl; ending = refl; ended = refl }
beside-keeps s (change.RemoveBitmap node name) plain = record { room = refl; guests = refl; starts = refl; ending = refl; ended = refl }
beside-keeps s (change.TurnBitmap node name on) plain = same s
beside-keeps s (change.ClearBitmap node name) plain = record { room = refl; guests = refl; starts = refl; ending = refl; ended = refl }
beside-keeps s (change.MergeBitmap node name source_node source) plain = record { room = refl; guests = refl; starts = refl; ending = refl; ended = refl }
beside-keeps s (change.RemoveDevice number) plain = same s
beside-keeps s (change.AskJob number asked) plain = same s
beside-keeps s (change.Attach overlay node) plain = record { room = refl; guests = refl; starts = refl; ending = refl; ended = refl }
beside-keeps s (change.Move from to but) plain = same s
beside-keeps s _ plain = absurd cc

table-keeps : (t : RunTable) (c : Change) → is_plain_change c ≡ true → KeepsTable t (changed t c)
unfolding changed
table-keeps t change.Negotiate plain = record { guests = refl; started = refl }
table-keeps t (change.KeepId id) plain = record { guests = refl; started = refl }
table-keeps t (change.DropId id) plain = record { guests = refl; started = refl }
table-keeps t (change.MakeFile name size) plain = record { guests = refl; started = refl }
table-keeps t (change.FormatFile node name size backing_file backing_fmt) plain = record { guests = refl; started = refl }
table-keeps t (change.SpoilFile name) plain = record { guests = refl; started = refl }
table-keeps t (change.UseFile name) plain = record { guests = refl; started = refl }
table-keeps t (change.AddFile row) plain = record { guests = refl; started = refl }
table-keeps t (change.AddFormat row file backing) plain = record { guests = refl; started = refl }
table-keeps t (change.AddFilter row child) plain = record { guests = refl; started = refl }
table-keeps t (change.RemoveNode node) plain = record { guests = refl; started = refl }
table-keeps t (change.AddDevice device node) plain = record { guests = refl; started = refl }
table-keeps t (change.AddBitmap row) plain = record { guests = refl; started = refl }
table-keeps t (change.RemoveBitmap node name) plain = record { guests = refl; started = refl }
table-keeps t (change.TurnBitmap node name on) plain = record { guests = refl; started = refl }
table-keeps t (change.ClearBitmap node name) plain = record { guests = refl; started = refl }
table-keeps t (change.MergeBitmap node name source_node source) plain = record { guests = refl; started = refl }
table-keeps t (change.RemoveDevice number) plain = record { guests = refl; started = refl }
table-keeps t (change.AskJob number asked) plain = record { guests = refl; started = refl }
table-keeps t (change.Attach overlay node) plain = record { guests = refl; started = refl }
table-keeps t (change.Move from to but) plain = record { guests = refl; started = refl }
table-keeps t _ plain = absurd cc

-- ---- one change after another

parts : (c : Change) (changes : List Change) → list_all is_plain_change (c ∷ changes) ≡ true → (is_plain_change c ≡ true) × (list_all is_plain_change changes ≡ true)
parts c changes h = at (is_plain_change c) refl h
  where
    at : (b : Bool) → is_plain_change c ≡ b → (b && list_all is_plain_change changes) ≡ true → (is_plain_change c ≡ true) × (list_all is_plain_change changes ≡ true)
    at true known rest = (known, rest)
    at false known rest = absurd cc

pub all_tables : (changes : List Change) (s : State) → (all_stepped s changes).table ≡ all_changed s.table changes
all_tables [] s = refl
all_tables (c ∷ changes) s = all_tables changes (stepped s c)

pub all_keep : (changes : List Change) (s : State) → list_all is_plain_change changes ≡ true → KeepsGuests s (all_stepped s changes)
all_keep [] s plain = same s
all_keep (c ∷ changes) s plain =
    let p = parts c changes plain in
    let one = beside-keeps s c p.0 in
    keeps-then s (stepped s c) _
    (record { room = one.room; guests = one.guests; starts = one.starts; ending = one.ending; ended = one.ended })
    (all_keep changes (stepped s c) p.1)

pub all_tables_keep : (changes : List Change) (t : RunTable) → list_all is_plain_change changes ≡ true → KeepsTable t (all_changed t changes)
all_tables_keep [] t plain = record { guests = refl; started = refl }
all_tables_keep (c ∷ changes) t plain =
    let p = parts c changes plain in
    let one = table-keeps t c p.0 in
    let rest = all_tables_keep changes (changed t c) p.1 in
    record {
      guests = rest.guests ∙ one.guests;
      started = rest.started ∙ one.started;
    }
