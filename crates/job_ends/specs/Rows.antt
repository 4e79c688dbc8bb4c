-- What the rows of backups and mirrors say from their starts on.
use Rattle.std.specs.Prelude.{◌≡◌, true, false, List, [], ◌∷◌, Contains, None}
use Rattle.qmp_codec.specs.declared.event.JobKind.TheVariants.{Mirror}
use Rattle.qmp_rules.specs.declared.change.Change.{Change}
use Rattle.qmp_rules.specs.declared.change.Change.TheVariants as change
use Rattle.qmp_rules.specs.declared.rows.JobRecord.{JobRecord}
use Rattle.job_progress.specs.Going.{copies_blocks}

-- it made no node writable, and a mirror copies by no bitmap
pub record IsCopyRow (row : JobRecord) : Type 0 where
  pub base : row.made_writable.base ≡ false
  pub file : row.made_writable.file ≡ false
  pub whole : row.kind ≡ Mirror → row.bitmap ≡ None

-- so it is with each backup and mirror
abbrev pub AreCopyRows : List JobRecord → Type 0
AreCopyRows jobs =
    (row : JobRecord) → Contains jobs row → copies_blocks row.kind ≡ true → IsCopyRow row

-- a job that a change begins has such a row
abbrev pub BeginsCopyRow : Change → Type 0
BeginsCopyRow (change.StartJob row) = copies_blocks row.kind ≡ true → IsCopyRow row
BeginsCopyRow c = Unit {0}

abbrev pub AllBeginCopyRows : List Change → Type 0
AllBeginCopyRows [] = Unit {0}
AllBeginCopyRows (c ∷ changes) = BeginsCopyRow c × AllBeginCopyRows changes
