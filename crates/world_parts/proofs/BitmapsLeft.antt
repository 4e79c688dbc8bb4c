-- Commands that leave the bitmaps as they are, and what their changes make of bitmaps then.
use Rattle.std.proofs.Common.{◌≡◌, ℕ, Bool, true, false, List, [], ◌∷◌, ◌++◌, map, refl, sym, ap, subst, ◌∙◌, Option, Some, None}
use Rattle.std.specs.Prelude.{◌&&◌, if◌then◌else◌}
use Rattle.std.specs.List.{list_all}
use Rattle.blk_bitmaps.specs.declared.row.Bitmap.{Bitmap}
use Rattle.qmp_codec.specs.Commands.{Cmd}
use Rattle.qmp_codec.specs.declared.command.Command.TheVariants as command
use Rattle.qmp_codec.specs.declared.nodes.AddRaw.{AddRaw}
use Rattle.qmp_codec.specs.declared.nodes.Added.{Added}
use Rattle.qmp_codec.specs.declared.nodes.Added.TheVariants as added
use Rattle.qmp_codec.specs.declared.nodes.BlockdevCreate.{BlockdevCreate}
use Rattle.qmp_codec.specs.declared.nodes.Created.{Created}
use Rattle.qmp_codec.specs.declared.nodes.Created.TheVariants as created
use Rattle.qmp_codec.specs.declared.nodes.DeviceAdd.{DeviceAdd}
use Rattle.qmp_codec.specs.declared.nodes.FileRef.{FileRef}
use Rattle.qmp_codec.specs.declared.nodes.FileRef.TheVariants as file_ref
use Rattle.qmp_rules.specs.declared.change.Change.{Change}
use Rattle.qmp_rules.specs.declared.change.Change.TheVariants as change
use Rattle.qmp_rules.specs.declared.refusal.Refusal.{Refusal}
use Rattle.qmp_rules.specs.declared.refusal.Refusal.TheVariants as refusal
use Rattle.qmp_rules.specs.declared.rows.AskedEnd.{AskedEnd}
use Rattle.qmp_rules.specs.declared.rows.AskedEnd.TheVariants as asked
use Rattle.qmp_rules.specs.declared.rows.DeviceRow.{DeviceRow}
use Rattle.qmp_rules.specs.declared.rows.JobRecord.{JobRecord}
use Rattle.qmp_rules.specs.declared.rows.NodeRecord.{NodeRecord}
use Rattle.qmp_rules.specs.declared.told.Told.{Told}
use Rattle.qmp_asks.specs.Values.{flag_or_false}
use Rattle.qmp_rules.specs.Table.{RunTable, job_named, node_named, device_named}
use Rattle.qmp_rules.specs.Asks.{is_file}
use Rattle.qmp_rules.specs.Changes.{all_changed}
use Rattle.qmp_asks.specs.CommandAsks.{is_built}
use Rattle.qmp_rules.specs.Edits.{asked_by_cancel, edits_of, created_change, spoiled, raw_edits, qcow2_edits, added_edits, file_uses, of_row, device_uses, new_device}
use Rattle.qmp_asks.specs.NodeAsks.{is_read_only, backing_name}
use Rattle.qmp_rules.specs.Answers.{answer, answer_by, command_edits, left_by, refusal_to}
use Rattle.flat_machine.specs.Bitmaps.{AreBitmapsOf, FollowChanges, dirty_in}
use Rattle.flat_machine.specs.Recording.{dirty_after}
use Rattle.flat_machine.proofs.BitmapRows.{leaves_bitmaps, follow-all}
use Rattle.world_parts.specs.Face.{WorldSeen, dirty_of}
use Rattle.world_parts.specs.Leaving.{LeavesBitmaps}
use Rattle.world_parts.proofs.Accepted.{built_accepted}

-- commands that change no bitmap
abbrev pub keeps_bitmaps : Cmd → Bool
keeps_bitmaps (command.BlockdevDel name) = false
keeps_bitmaps (command.BlockdevBackup c) = false
keeps_bitmaps (command.BlockdevMirror c) = false
keeps_bitmaps (command.BitmapAdd c) = false
keeps_bitmaps (command.BitmapRemove c) = false
keeps_bitmaps (command.BitmapClear c) = false
keeps_bitmaps (command.BitmapEnable c) = false
keeps_bitmaps (command.BitmapDisable c) = false
keeps_bitmaps (command.BitmapMerge c) = false
keeps_bitmaps c = true

pub kept-bitmaps : (t : RunTable) (c : Cmd) (first : Option Refusal) (old now : List Bitmap) → keeps_bitmaps c ≡ true → now ≡ old → LeavesBitmaps t c first old now
kept-bitmaps t c (Some cause) old now keeps same = same
kept-bitmaps t (command.BlockdevDel name) None old now keeps same = absurd cc
kept-bitmaps t (command.BlockdevBackup c) None old now keeps same = absurd cc
kept-bitmaps t (command.BlockdevMirror c) None old now keeps same = absurd cc
kept-bitmaps t (command.BitmapAdd c) None old now keeps same = absurd cc
kept-bitmaps t (command.BitmapRemove c) None old now keeps same = absurd cc
kept-bitmaps t (command.BitmapClear c) None old now keeps same = absurd cc
kept-bitmaps t (command.BitmapEnable c) None old now keeps same = absurd cc
kept-bitmaps t (command.BitmapDisable c) None old now keeps same = absurd cc
kept-bitmaps t (command.BitmapMerge c) None old now keeps same = absurd cc
kept-bitmaps t _ None old now keeps same = record { new = None; is_new = tt; are = same }

both : (xs ys : List Change) → list_all leaves_bitmaps xs ≡ true → list_all leaves_bitmaps ys ≡ true → list_all leaves_bitmaps (xs ++ ys) ≡ true
both [] ys first later = later
both (x ∷ xs) ys first later = at (leaves_bitmaps x) first (λ h. both xs ys h later)
  where
    at : (b : Bool) → (b && list_all leaves_bitmaps xs) ≡ true → (list_all leaves_bitmaps xs ≡ true → list_all leaves_bitmaps (xs ++ ys) ≡ true)
        → (b && list_all leaves_bitmaps (xs ++ ys)) ≡ true
    at true h rest = rest h
    at false h rest = h

module _ (t : RunTable) (told : Told) where
  raw-leaves : (name : List ℕ) (read_only : Bool) (raw : AddRaw (List ℕ)) (file : FileRef (List ℕ)) → list_all leaves_bitmaps (raw_edits t told name read_only raw file) ≡ true
  raw-leaves name read_only raw (file_ref.Name file) = refl
  raw-leaves name read_only raw (file_ref.Inline file) = refl

  qcow2-leaves : (name : List ℕ) (read_only : Bool) (back : Option (List ℕ)) (file : FileRef (List ℕ)) → list_all leaves_bitmaps (qcow2_edits t told name read_only back file) ≡ true
  qcow2-leaves name read_only back (file_ref.Name file) = refl
  qcow2-leaves name read_only back (file_ref.Inline file) = refl

  added-leaves : (name : List ℕ) (read_only : Bool) (driver : Added (List ℕ)) → list_all leaves_bitmaps (added_edits t told name read_only driver) ≡ true
  added-leaves name read_only (added.File filename) = refl
  added-leaves name read_only (added.Raw raw) = raw-leaves name read_only raw raw.file
  added-leaves name read_only (added.Qcow2 image) = qcow2-leaves name read_only (backing_name image.backing) image.file
  added-leaves name read_only (added.CopyOnRead file) = refl
  added-leaves name read_only added.Unknown = refl

  created-leaves : (options : Created (List ℕ)) → list_all leaves_bitmaps (created_change t options) ≡ true
  created-leaves (created.File c) = refl
  created-leaves (created.Qcow2 c) = refl
  created-leaves created.Unknown = refl

  spoiled-leaves : (options : Created (List ℕ)) → list_all leaves_bitmaps (spoiled t options) ≡ true
  spoiled-leaves (created.File c) = refl
  spoiled-leaves (created.Qcow2 c) = refl
  spoiled-leaves created.Unknown = refl

  uses-leaves : (name : Option (List ℕ)) → list_all leaves_bitmaps (file_uses name) ≡ true
  uses-leaves None = refl
  uses-leaves (Some name) = refl

  device-leaves : (c : DeviceAdd (List ℕ)) (found : Option NodeRecord)
      → list_all leaves_bitmaps (of_row (λ row. device_uses row ++ change.AddDevice (new_device t c row) row.id ∷ []) found) ≡ true
  device-leaves c None = refl
  device-leaves c (Some row) = both (device_uses row) (change.AddDevice (new_device t c row) row.id ∷ []) (used (is_file row)) refl
    where
      used : (b : Bool) → list_all leaves_bitmaps (if b then file_uses row.filename else []) ≡ true
      used true = uses-leaves row.filename
      used false = refl

  removed-leaves : (found : Option DeviceRow) → list_all leaves_bitmaps (elim found as (λ _. List Change) [ None ↦ [] | Some device ↦ change.RemoveDevice device.number ∷ [] ]) ≡ true
  removed-leaves None = refl
  removed-leaves (Some device) = refl

  asked-leaves : (found : Option JobRecord) (ask : JobRecord → AskedEnd)
      → list_all leaves_bitmaps (elim found as (λ _. List Change) [ None ↦ [] | Some job ↦ change.AskJob job.number (ask job) ∷ [] ]) ≡ true
  asked-leaves None ask = refl
  asked-leaves (Some job) ask = refl

  edits-leave : (c : Cmd) → keeps_bitmaps c ≡ true → is_built c ≡ true → list_all leaves_bitmaps (command_edits t told c) ≡ true
  unfolding edits_of
  edits-leave (command.Capabilities enable) keeps built = refl
  edits-leave (command.BlockdevCreate c) keeps built = created-leaves c.options
  edits-leave (command.JobDismiss id) keeps built = refl
  edits-leave (command.BlockdevAdd c) keeps built = added-leaves c.node_name (is_read_only c.options) c.driver
  edits-leave (command.DeviceAdd c) keeps built = device-leaves c (node_named t c.drive)
  edits-leave (command.DeviceDel id) keeps built = removed-leaves (device_named t id)
  edits-leave (command.BlockdevSnapshot c) keeps built = refl
  edits-leave (command.BlockJobCancel id force) keeps built = asked-leaves (job_named t id) (asked_by_cancel (flag_or_false force))
  edits-leave (command.BlockJobComplete id) keeps built = asked-leaves (job_named t id) (λ job. asked.Complete)
  edits-leave command.QueryBlockJobs keeps built = refl
  edits-leave (command.QueryNamedBlockNodes flat) keeps built = refl
  edits-leave _ keeps built = absurd cc

  create-left : (c : BlockdevCreate (List ℕ)) (cause : Refusal) → list_all leaves_bitmaps (left_by t (command.BlockdevCreate c) cause) ≡ true
  create-left c (refusal.Io source count) = spoiled-leaves c.options
  create-left c (refusal.NoSpace dev) = spoiled-leaves c.options
  create-left c _ = refl

  left-leaves : (c : Cmd) (cause : Refusal) → list_all leaves_bitmaps (left_by t c cause) ≡ true
  left-leaves (command.BlockdevCreate c) cause = create-left c cause
  left-leaves _ cause = refl

  by-leaves : (c : Cmd) (found : Option Refusal) → keeps_bitmaps c ≡ true → refusal_to t told c ≡ found → list_all leaves_bitmaps (answer_by t told c found).changes ≡ true
  by-leaves c None keeps is = edits-leave c keeps (built_accepted t told c is)
  by-leaves c (Some cause) keeps is = left-leaves c cause

  pub left-follow : (c : Cmd) (rows : List Bitmap) → keeps_bitmaps c ≡ true → AreBitmapsOf t.bitmaps rows → FollowChanges t rows rows (answer t told c).changes
  unfolding answer
  left-follow c rows keeps was = follow-all (answer t told c).changes t rows (by-leaves c (refusal_to t told c) keeps refl) was

-- the rows of the table that they leave
pub left-listed : (t : RunTable) (told : Told) (c : Cmd) (rows : List Bitmap) (u : RunTable) → keeps_bitmaps c ≡ true → u ≡ all_changed t (answer t told c).changes
    → AreBitmapsOf t.bitmaps rows → AreBitmapsOf u.bitmaps rows
left-listed t told c rows u keeps is was =
    subst (λ (now : RunTable). AreBitmapsOf now.bitmaps rows) (sym is) (left-follow t told c rows keeps was).listed

-- what is dirty in a world after them
pub left-dirty : (w v : WorldSeen) (told : Told) (c : Cmd) → keeps_bitmaps c ≡ true → v.bitmaps ≡ w.bitmaps → AreBitmapsOf w.table.bitmaps w.bitmaps
    → dirty_of v ≡ dirty_after w.table (dirty_of w) (answer w.table told c).changes
left-dirty w v told c keeps same was = ap (map dirty_in) same ∙ (left-follow w.table told c w.bitmaps keeps was).dirty
