-- The reply to an accepted backup or mirror, behind which its job begins: what it leaves of the world.
use Rattle.std.proofs.Common.{◌≡◌, ℕ, ◌+◌, List, [], refl, ◌∙◌, ap, subst, arith, Option, Some, None, Ok}
use Rattle.blk_base.specs.declared.fault.FaultFrom.{FaultFrom}
use Rattle.blk_base.specs.declared.fault.FaultFrom.TheVariants.{Dev, Sink, Store}
use Rattle.blk_base.specs.declared.fault.FaultAt.{FaultAt}
use Rattle.blk_bitmaps.specs.declared.row.Bitmap.{Bitmap}
use Rattle.qmp_codec.specs.Lines.{command_at}
use Rattle.qmp_rules.specs.Answers.{answer, answer_by, answer_for, command_edits, left_by, line_answer, refusal_to}
use Rattle.qmp_rules.specs.Changes.{all_changed}
use Rattle.qmp_rules.specs.Table.{RunTable}
use Rattle.qmp_rules.specs.declared.refusal.Refusal.{Refusal}
use Rattle.qmp_rules.specs.declared.told.Told.{Told}
use Rattle.flat_machine.specs.EventLicence.{IsCalledBy, IsCommandsFault, Sources}
use Rattle.flat_machine.specs.Licence.{Counts, named_in}
use Rattle.flat_machine.specs.Recording.{dirty_after}
use Rattle.flat_machine.specs.Replies.{command_read}
use Rattle.job_commands.specs.Begun.{CopyCmd, OfBackup, OfMirror, cmd_of, copy_job}
use Rattle.world_parts.specs.Carrying.{IsReplied, reply_entry}
use Rattle.world_parts.specs.Counting.{seen_sources}
use Rattle.world_parts.specs.Face.{WorldSeen, counts_now, dirty_of}
use Rattle.world_parts.specs.Jobs.{PutsFilter}
use Rattle.world_parts.specs.Leaving.{Leaves, LeavesBitmaps, LeavesBitmapsIn, LeavesIn, clean_told}
use Rattle.world_parts.specs.Looking.{Site}
use Rattle.world_parts.specs.Saying.{Given}
use Rattle.world_parts.specs.Staging.{site_of}
use Rattle.world_parts.specs.Stores.{StoreInRun}

-- the command calls nothing
calls_none : (t : RunTable) (sources : Sources) (before : Counts) (from : FaultFrom) (c : CopyCmd) → IsCalledBy t sources before from (Some (cmd_of c)) → ⊥
calls_none t sources before (Dev dev) (OfBackup c) bad = bad
calls_none t sources before Store (OfBackup c) bad = bad
calls_none t sources before Sink (OfBackup c) bad = bad
calls_none t sources before (Dev dev) (OfMirror c) bad = bad
calls_none t sources before Store (OfMirror c) bad = bad
calls_none t sources before Sink (OfMirror c) bad = bad

-- refused it changes nothing
pub refused_none : (t : RunTable) (c : CopyCmd) (cause : Refusal) → left_by t (cmd_of c) cause ≡ []
refused_none t (OfBackup c) cause = refl
refused_none t (OfMirror c) cause = refl

-- accepted it puts its filter over its source, and leaves store and bitmaps
has_put : (t : RunTable) (told : Told) (c : CopyCmd) (first : Option Refusal) (u : RunTable) (old new : Site) → first ≡ None → Leaves t told (cmd_of c) first u old new
    → (new.store ≡ old.store) × PutsFilter u (copy_job t c) old.nodes new.nodes
has_put t told (OfBackup c) None u old new is leaves = leaves
has_put t told (OfMirror c) None u old new is leaves = leaves
has_put t told c (Some cause) u old new bad leaves = absurd (let no : ⊥ = cc bad in no)

leaves_bitmaps : (t : RunTable) (c : CopyCmd) (first : Option Refusal) (old new : List Bitmap) → LeavesBitmaps t (cmd_of c) first old new → new ≡ old
leaves_bitmaps t (OfBackup c) None old new leaves = leaves.are
leaves_bitmaps t (OfMirror c) None old new leaves = leaves.are
leaves_bitmaps t c (Some cause) old new leaves = leaves

module _ (w x : WorldSeen) (line : Given) (c : CopyCmd) (good : command_at line.text ≡ Ok (cmd_of c)) (replied : IsReplied w x line)
    (began : x.table.started ≡ w.table.started + 1) where
  abbrev t : RunTable
  t = w.table

  abbrev told : Told
  told = replied.told

  line_changes : (first : Option Refusal) → refusal_to t told (cmd_of c) ≡ first
      → (line_answer t told line.text).changes ≡ (answer_by t told (cmd_of c) first).changes
  unfolding line_answer answer
  line_changes first is =
      ap (λ read. (answer_for t told line.text read).changes) good ∙ ap (λ (f : Option Refusal). (answer_by t told (cmd_of c) f).changes) is

  -- it was accepted, since a job begins
  pub accepted : refusal_to t told (cmd_of c) ≡ None
  accepted = by_first (refusal_to t told (cmd_of c)) refl
    where
      by_first : (first : Option Refusal) → refusal_to t told (cmd_of c) ≡ first → first ≡ None
      by_first None is = refl
      by_first (Some cause) is =
          let same : x.table.started ≡ t.started = ap (λ (u : RunTable). u.started) (replied.table ∙ ap (all_changed t) (line_changes (Some cause) is ∙ refused_none t c cause)) in
          absurd (omega (arith, same, began))

  pub changes_are : (line_answer t told line.text).changes ≡ command_edits t told (cmd_of c)
  changes_are = line_changes None accepted

  pub table_is : x.table ≡ all_changed t (command_edits t told (cmd_of c))
  table_is = replied.table ∙ ap (all_changed t) changes_are

  pub dirty_is : dirty_of x ≡ dirty_after t (dirty_of w) (command_edits t told (cmd_of c))
  dirty_is = replied.dirty ∙ ap (dirty_after t (dirty_of w)) changes_are

  done : (x.opened ≡ w.opened) × (x.files ≡ w.files) × PutsFilter x.table (copy_job t c) w.nodes x.nodes
  done =
      let put = has_put t (clean_told told) c (refusal_to t told (cmd_of c)) x.table (site_of w) (site_of x) accepted
      (subst (λ read. LeavesIn t told read x.table (site_of w) (site_of x)) good replied.site) in
      (ap (λ (s : StoreInRun). s.opened) put.0, ap (λ (s : StoreInRun). s.files) put.0, put.1)

  pub puts : PutsFilter x.table (copy_job t c) w.nodes x.nodes
  puts = done.2

  pub opened_same : x.opened ≡ w.opened
  opened_same = done.0

  pub files_same : x.files ≡ w.files
  files_same = done.1

  pub bitmaps_same : x.bitmaps ≡ w.bitmaps
  bitmaps_same =
      leaves_bitmaps t c (refusal_to t told (cmd_of c)) w.bitmaps x.bitmaps
      (subst (λ read. LeavesBitmapsIn t told read w.bitmaps x.bitmaps) good replied.bitmaps)

  -- it names no fault
  pub quiet : named_in (reply_entry w told line) ≡ None
  quiet = by_named (named_in (reply_entry w told line)) refl
    where
      by_named : (named : Option FaultAt) → named_in (reply_entry w told line) ≡ named → named ≡ None
      by_named None is = refl
      by_named (Some fault) is =
          let fault_of : IsCommandsFault t (seen_sources w) (counts_now w) (Some fault) (command_read (command_at line.text)) =
          subst (λ (named : Option FaultAt). IsCommandsFault t (seen_sources w) (counts_now w) named (command_read (command_at line.text))) is replied.licensed.0 in
          absurd
          (calls_none t (seen_sources w) (counts_now w) fault.from c
          (subst (λ read. IsCommandsFault t (seen_sources w) (counts_now w) (Some fault) (command_read read)) good fault_of))
