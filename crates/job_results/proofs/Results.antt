-- What the ends of jobs leave of disks, in histories.
use Rattle.std.proofs.Common.{◌≡◌, ◌≢◌, ℕ, true, false, List, [], ◌∷◌, ◌++◌, refl, sym, ◌∙◌, ap, subst, Option, Some, None}
use Rattle.std.specs.Prelude.{if◌then◌else◌}
use Rattle.std.specs.List.{Contains}
use Rattle.blk_history.specs.Fold.{Each, With}
use Rattle.blk_history.specs.declared.entry.JobEnd.{JobEnd}
use Rattle.blk_history.specs.declared.entry.JobEnd.TheVariants.{Completed, Pivoted, Copied, Failed, Cancelled}
use Rattle.blk_history.specs.declared.event.Event.{Event}
use Rattle.blk_history.specs.declared.event.Event.TheVariants.{End}
use Rattle.blk_history.proofs.Folds.{with-at, with-some}
use Rattle.qmp_codec.specs.declared.event.JobKind.{JobKind}
use Rattle.qmp_codec.specs.declared.event.JobKind.TheVariants.{Backup, Mirror}
use Rattle.qmp_rules.specs.Chains.{filter_role}
use Rattle.qmp_rules.specs.Ends.{is_done, settles_target}
use Rattle.qmp_rules.specs.Table.{job_at, node_by_id}
use Rattle.qmp_rules.specs.declared.rows.JobRecord.{JobRecord}
use Rattle.qmp_rules.specs.declared.rows.NodeRecord.{NodeRecord}
use Rattle.flat_machine.specs.Begun.{backed_up, begun_of, copy_bytes}
use Rattle.flat_machine.specs.Jobs.{begin, can_be_ready, copied_to, ended, granules_of, is_success, noted_end, outcome_of, writes_target}
use Rattle.flat_machine.specs.Legal.{CanEnd, Fits, Legal}
use Rattle.flat_machine.specs.Machine.{after, replay}
use Rattle.flat_machine.specs.Opening.{start}
use Rattle.flat_machine.specs.State.{State, bytes_at_node, flat_disk_of}
use Rattle.flat_machine.specs.declared.opening.Opening.{Opening}
use Rattle.job_tables.specs.Jobs.{JobsStand}
use Rattle.job_tables.specs.Running.{JobsRun}
use Rattle.job_results.specs.Disks.{SettlesNone, ShowsCopy, ShowsDisk, ShowsStart, copy_of}
use Rattle.job_results.specs.Starts.{EndsNext, StartOf}
use Rattle.job_results.proofs.Ends.{backup_none, backup_shown, mirror_shown, none_flat, shown_flat, stopped_none, target_stays}
use Rattle.job_results.proofs.Starts.{end_known, one_place}
use Rattle.job_results.proofs.Rows.{found_number, found_there}

-- what holds of each entry holds of each of both parts
pub each_parts : (P : State → Event → Type 0) (a b : List Event) (s : State) → Each after P s (a ++ b) → Each after P s a × Each after P (replay s a) b
each_parts P [] b s all = (tt, all)
each_parts P (e ∷ a) b s all = let rest = each_parts P a b (after s e) all.1 in ((all.0, rest.0), rest.1)

pub began : (o : Opening) (h : List Event) (number : ℕ) (row : JobRecord) (why : JobEnd) (offset : ℕ) → EndsNext o h number row why offset
    → StartOf (start o) h number row
began o h number row why offset ends = (end_known o h number row why offset ends).origin

pub each_end : (o : Opening) (before behind : List Event) (number : ℕ) (why : JobEnd) (offset : ℕ) → Legal (start o) (before ++ End number why offset ∷ behind)
    → With (job_at (replay (start o) before).table number) (λ row. EndsNext o before number row why offset)
each_end o before behind number why offset legal =
    let parts = each_parts Fits before (End number why offset ∷ behind) (start o) legal in
    by_row (job_at (replay (start o) before).table number) refl (parts.0, parts.1.0)
  where
    by_row : (found : Option JobRecord) → job_at (replay (start o) before).table number ≡ found
        → Legal (start o) before × Fits (replay (start o) before) (End number why offset) → With found (λ row. EndsNext o before number row why offset)
    by_row None at both =
        absurd (subst (λ row. With row (CanEnd (replay (start o) before) why offset)) at both.1.1)
    by_row (Some row) at both = record { legal = both.0; found = at; fits = both.1 }

pub once : (first : State) (h : List Event) (number : ℕ) (row : JobRecord) (a b : StartOf first h number row) → Legal first h → a.before ≡ b.before
once first h number row a b legal =
    one_place a.before a.behind b.before b.behind first number (subst (Legal first) a.place legal) (sym a.place ∙ b.place)

-- ---- an end, by the job's row

pub ended_at : (s : State) (number : ℕ) (row : JobRecord) (why : JobEnd) → job_at s.table number ≡ Some row → noted_end s row why ≡ ended s (job_at s.table number) why
ended_at s number row why at = ap (λ found. ended s found why) (sym at)

-- ---- backups

pub by_bitmap : (o : Opening) (h : List Event) (number : ℕ) (row : JobRecord) (offset target : ℕ) → EndsNext o h number row Completed offset
    → row.kind ≡ Backup → row.target ≡ Some target → settles_target row.bitmap ≡ true
    → ShowsCopy (start o) h number row (after (replay (start o) h) (End number Completed offset)) target
by_bitmap o h number row offset target ends kind is settles =
    let k = end_known o h number row Completed offset ends in
    let s : State = replay (start o) h in
    let found : begun_of s.begun row.number ≡ Some (begin (replay (start o) k.origin.before) k.origin.was) =
    subst (λ n. begun_of s.begun n ≡ Some (begin (replay (start o) k.origin.before) k.origin.was)) (sym (found_number s.table.jobs number row ends.found)) k.noted in
    record {
      origin = k.origin;
      disk = subst (λ (x : State). ShowsDisk x target (copy_of (replay (start o) k.origin.before) k.origin.was)) (ended_at s number row Completed ends.found)
          (subst (λ b. ShowsDisk (noted_end s row Completed) target (copy_bytes b)) found (backup_shown s row target kind is settles));
    }

pub whole : (o : Opening) (h : List Event) (number : ℕ) (row : JobRecord) (offset target : ℕ) → EndsNext o h number row Completed offset
    → row.kind ≡ Backup → row.target ≡ Some target → row.bitmap ≡ None
    → ShowsStart (start o) h number row (after (replay (start o) h) (End number Completed offset)) target
whole o h number row offset target ends kind is none =
    let c = by_bitmap o h number row offset target ends kind is (ap settles_target none) in
    let s : State = replay (start o) c.origin.before in
    let all : copy_of s c.origin.was ≡ bytes_at_node s row.source =
    ap (λ used. backed_up (begin s c.origin.was) (granules_of s c.origin.was used)) (sym c.origin.same.bitmap ∙ none)
    ∙ ap (bytes_at_node s) (sym c.origin.same.source) in
    record {
      origin = c.origin;
      disk = subst (ShowsDisk (after (replay (start o) h) (End number Completed offset)) target) all c.disk;
    }

pub onto_none : (s : State) (number : ℕ) (row : JobRecord) (offset : ℕ) → job_at s.table number ≡ Some row → row.kind ≡ Backup
    → settles_target row.bitmap ≡ false → SettlesNone s (after s (End number Completed offset))
onto_none s number row offset at kind settles =
    subst (SettlesNone s) (ended_at s number row Completed at) (backup_none s row kind settles)

-- ---- other ends

pub failed : (s : State) (number : ℕ) (why : JobEnd) (offset : ℕ) → is_success why ≡ false → SettlesNone s (after s (End number why offset))
failed s number why offset fails = by_row (job_at s.table number)
  where
    by_row : (found : Option JobRecord) → SettlesNone s (ended s found why)
    by_row None = record { disks = refl; unsettled = λ node unsettled. unsettled }
    by_row (Some row) = stopped_none s row why fails

pub backups : (s : State) (number : ℕ) (row : JobRecord) (why : JobEnd) (offset : ℕ) → Fits s (End number why offset) → job_at s.table number ≡ Some row
    → row.kind ≡ Backup → why ≢ Completed → SettlesNone s (after s (End number why offset))
backups s number row why offset fits at kind other = by_end why other (with-at (CanEnd s why offset) (job_at s.table number) row at fits.1)
  where
    never : can_be_ready row row.kind ≡ false
    never = ap (can_be_ready row) kind

    by_end : (x : JobEnd) → x ≢ Completed → CanEnd s x offset row → SettlesNone s (after s (End number x offset))
    by_end Completed differs can = absurd (differs refl)
    by_end Pivoted differs can = (let ready = can.cause.0 in let no = never in absurd cc)
    by_end Copied differs can = (let bad : Backup ≡ Mirror = sym kind ∙ can.cause.0 in absurd cc)
    by_end (Failed fault) differs can = failed s number (Failed fault) offset refl
    by_end (Cancelled cause) differs can = failed s number (Cancelled cause) offset refl

-- ---- mirrors

success_done : (why : JobEnd) → is_success why ≡ true → is_done (outcome_of why) ≡ true
success_done Completed is = refl
success_done Pivoted is = refl
success_done Copied is = refl
success_done (Failed fault) is = is
success_done (Cancelled cause) is = is

pub mirrors : (s : State) (number : ℕ) (row : JobRecord) (why : JobEnd) (offset target : ℕ) → JobsStand s.table → job_at s.table number ≡ Some row
    → row.kind ≡ Mirror → row.target ≡ Some target → is_success why ≡ true
    → ShowsDisk (after s (End number why offset)) target (bytes_at_node s row.source)
mirrors s number row why offset target j at kind is success =
    subst (λ (x : State). ShowsDisk x target (bytes_at_node s row.source)) (ended_at s number row why at)
    (mirror_shown s row why target j (found_there s.table.jobs number row at) kind is (success_done why success))

-- ---- targets

-- where jobs stand and run, the target of a copy that ends without success has no flat disk
pub target_none : (s : State) (row : JobRecord) (why : JobEnd) (target : ℕ) → JobsStand s.table → JobsRun s.table → Contains s.table.jobs row
    → copied_to row row.kind ≡ Some target → is_success why ≡ false → flat_disk_of (noted_end s row why) target ≡ None
target_none s row why target j r here copies fails =
    let still = with-some (λ (node : NodeRecord). filter_role node.kind ≡ None) (node_by_id (noted_end s row why).table target) (target_stays s row why target j here copies) in
    none_flat (noted_end s row why) target still.0 still.1.0 still.1.1
    ((stopped_none s row why fails).unsettled target (r.targets row target here (is_written row.kind copies)).unsettled)
  where
    is_written : (k : JobKind) → copied_to row k ≡ Some target → (if writes_target k then row.target else None) ≡ Some target
    is_written Backup is = is
    is_written Mirror is = is
    is_written k is = absurd cc

pub target_flat : (s : State) (node : ℕ) (bytes : List ℕ) (row : NodeRecord) → ShowsDisk s node bytes → node_by_id s.table node ≡ Some row
    → filter_role row.kind ≡ None → flat_disk_of s node ≡ Some bytes
target_flat s node bytes row shows found own = shown_flat s node row found own bytes shows
