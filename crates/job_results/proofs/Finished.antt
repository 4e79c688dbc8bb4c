-- In a legal history where jobs stand at their ends, finished backups and mirrors show what they are to.
use Rattle.std.proofs.Common.{◌≡◌, ℕ, true, false, List, [], ◌∷◌, ◌++◌, sym, ◌∙◌, ap, subst, Some, None}
use Rattle.blk_history.specs.Fold.{Each, With}
use Rattle.blk_history.specs.declared.entry.JobEnd.TheVariants.{Completed}
use Rattle.blk_history.specs.declared.event.Event.{Event}
use Rattle.blk_history.specs.declared.event.Event.TheVariants.{End}
use Rattle.blk_history.proofs.Folds.{with-some}
use Rattle.qmp_codec.specs.declared.event.JobKind.TheVariants.{Backup, Mirror}
use Rattle.qmp_rules.specs.Chains.{filter_role}
use Rattle.qmp_rules.specs.Ends.{settles_target}
use Rattle.qmp_rules.specs.Table.{node_by_id}
use Rattle.qmp_rules.specs.declared.rows.NodeRecord.{NodeRecord}
use Rattle.flat_machine.specs.Jobs.{copied_to, is_success}
use Rattle.flat_machine.specs.Legal.{Fits, Legal}
use Rattle.flat_machine.specs.Machine.{after, replay}
use Rattle.flat_machine.specs.Opening.{start}
use Rattle.flat_machine.specs.State.{State, bytes_at_node, flat_disk_of}
use Rattle.flat_machine.specs.declared.opening.Opening.{Opening}
use Rattle.job_tables.specs.Jobs.{JobsStand}
use Rattle.job_results.specs.Disks.{SettlesNone, ShowsCopy, ShowsDisk, ShowsStart}
use Rattle.job_results.specs.Finished.{AreNoEnds, CopiesAreShown, EndIn, EndsFirst, HasCopyOfStart, HasDiskOfStart, IsNoEnd, StandAtEnds, StandsAtEnd, before_end, behind_end}
use Rattle.job_results.specs.Starts.{EndsNext}
use Rattle.job_results.proofs.Ends.{target_stays}
use Rattle.job_results.proofs.Results.{by_bitmap, each_parts, ended_at, failed, mirrors, onto_none, target_flat, whole}
use Rattle.job_results.proofs.Rows.{found_there}

module _ (o : Opening) (h : List Event) (legal : Legal (start o) h) (stand : StandAtEnds o h) (e : EndIn o h) where
  legal_at : Legal (start o) e.before × Legal (before_end o h e) (End e.number e.why e.offset ∷ e.behind)
  legal_at = each_parts Fits e.before (End e.number e.why e.offset ∷ e.behind) (start o) (subst (Legal (start o)) e.place legal)

  next : EndsNext o e.before e.number e.row e.why e.offset
  next = record { legal = legal_at.0; found = e.found; fits = legal_at.1.0 }

  jobs : JobsStand (before_end o h e).table
  jobs = (each_parts StandsAtEnd e.before (End e.number e.why e.offset ∷ e.behind) (start o) (subst (Each after StandsAtEnd (start o)) e.place stand)).1.0

  -- where it shows a disk, that is its flat disk
  flat : (target : ℕ) (bytes : List ℕ) → copied_to e.row e.row.kind ≡ Some target → ShowsDisk (behind_end o h e) target bytes
      → flat_disk_of (behind_end o h e) target ≡ Some bytes
  flat target bytes copies shows =
      let s : State = before_end o h e in
      let here = found_there s.table.jobs e.number e.row e.found in
      let there : With (node_by_id (behind_end o h e).table target) (λ (node : NodeRecord). filter_role node.kind ≡ None) =
      subst (λ (x : State). With (node_by_id x.table target) (λ (node : NodeRecord). filter_role node.kind ≡ None)) (ended_at s e.number e.row e.why e.found)
      (target_stays s e.row e.why target jobs here copies) in
      let node = with-some (λ (node : NodeRecord). filter_role node.kind ≡ None) (node_by_id (behind_end o h e).table target) there in
      target_flat (behind_end o h e) target bytes node.0 shows node.1.0 node.1.1

  backup_copy : (target : ℕ) → e.why ≡ Completed → e.row.kind ≡ Backup → e.row.target ≡ Some target → settles_target e.row.bitmap ≡ true
      → HasCopyOfStart o h e target
  backup_copy target is kind to settles =
      let c : ShowsCopy (start o) e.before e.number e.row (behind_end o h e) target =
      subst (λ why. ShowsCopy (start o) e.before e.number e.row (after (before_end o h e) (End e.number why e.offset)) target) (sym is)
      (by_bitmap o e.before e.number e.row e.offset target (subst (λ why. EndsNext o e.before e.number e.row why e.offset) is next) kind to settles) in
      record { origin = c.origin; disk = flat target _ (ap (copied_to e.row) kind ∙ to) c.disk }

  backup_start : (target : ℕ) → e.why ≡ Completed → e.row.kind ≡ Backup → e.row.target ≡ Some target → e.row.bitmap ≡ None → HasDiskOfStart o h e target
  backup_start target is kind to none =
      let c : ShowsStart (start o) e.before e.number e.row (behind_end o h e) target =
      subst (λ why. ShowsStart (start o) e.before e.number e.row (after (before_end o h e) (End e.number why e.offset)) target) (sym is)
      (whole o e.before e.number e.row e.offset target (subst (λ why. EndsNext o e.before e.number e.row why e.offset) is next) kind to none) in
      record { origin = c.origin; disk = flat target _ (ap (copied_to e.row) kind ∙ to) c.disk }

  backup_onto_none : e.why ≡ Completed → e.row.kind ≡ Backup → settles_target e.row.bitmap ≡ false → SettlesNone (before_end o h e) (behind_end o h e)
  backup_onto_none is kind settles =
      subst (λ why. SettlesNone (before_end o h e) (after (before_end o h e) (End e.number why e.offset))) (sym is)
      (onto_none (before_end o h e) e.number e.row e.offset e.found kind settles)

  mirror_end : (target : ℕ) → is_success e.why ≡ true → e.row.kind ≡ Mirror → e.row.target ≡ Some target
      → flat_disk_of (behind_end o h e) target ≡ Some (bytes_at_node (before_end o h e) e.row.source)
  mirror_end target success kind to =
      flat target (bytes_at_node (before_end o h e) e.row.source) (ap (copied_to e.row) kind ∙ to)
      (mirrors (before_end o h e) e.number e.row e.why e.offset target jobs e.found kind to success)

pub copies_shown : (o : Opening) (h : List Event) → Legal (start o) h → StandAtEnds o h → CopiesAreShown o h
copies_shown o h legal stand = record {
  backups = λ e target. backup_start o h legal stand e target;
  by_bitmap = λ e target. backup_copy o h legal stand e target;
  onto_none = λ e is kind settles. backup_onto_none o h legal stand e is kind settles;
  mirrors = λ e target. mirror_end o h legal stand e target;
  others = λ e fails. failed (before_end o h e) e.number e.why e.offset fails;
}

-- ---- jobs that stand at ends

pub stand_beginning : (o : Opening) → StandAtEnds o []
stand_beginning o = tt

each_append : (P : State → Event → Type 0) (a b : List Event) (s : State) → Each after P s a → Each after P (replay s a) b → Each after P s (a ++ b)
each_append P [] b s first rest = rest
each_append P (e ∷ a) b s first rest = (first.0, each_append P a b (after s e) first.1 rest)

no_end_stands : (s : State) (e : Event) → IsNoEnd e → StandsAtEnd s e
no_end_stands s (End number why offset) none = absurd none
no_end_stands s e none = tt

no_ends_stand : (es : List Event) (s : State) → AreNoEnds es → Each after StandsAtEnd s es
no_ends_stand [] s none = tt
no_ends_stand (e ∷ es) s none = (no_end_stands s e none.0, no_ends_stand es (after s e) none.1)

stands_at : (s : State) (e : Event) → JobsStand s.table → StandsAtEnd s e
stands_at s (End number why offset) stand = stand
stands_at s e stand = tt

first_stands : (es : List Event) (s : State) → JobsStand s.table → EndsFirst es → Each after StandsAtEnd s es
first_stands [] s stand first = tt
first_stands (e ∷ es) s stand first = (stands_at s e stand, no_ends_stand es (after s e) first)

pub stand_on : (o : Opening) (h es : List Event) → StandAtEnds o h → JobsStand (replay (start o) h).table → EndsFirst es → StandAtEnds o (h ++ es)
stand_on o h es all stand first = each_append StandsAtEnd h es (start o) all (first_stands es (replay (start o) h) stand first)
