-- Disks stay whole behind the end of a job.
use Rattle.std.proofs.Common.{◌≡◌, ℕ, suc, ◌+◌, Bool, true, false, List, [], ◌∷◌, ◌++◌, length, refl, sym, ap, ◌∙◌, subst, arith, Option, Some, None}
use Rattle.std.specs.Prelude.{option_and_then}
use Rattle.std.specs.List.{Contains}
use Rattle.blk_graph.specs.declared.edge.Role.TheVariants.{File}
use Rattle.qmp_codec.specs.declared.event.JobKind.{JobKind}
use Rattle.qmp_codec.specs.declared.event.JobKind.TheVariants.{Stream, Commit, Mirror, Backup}
use Rattle.qmp_rules.specs.declared.change.Change.{Change}
use Rattle.qmp_rules.specs.declared.change.Change.TheVariants as change
use Rattle.qmp_rules.specs.declared.change.JobOutcome.{JobOutcome}
use Rattle.qmp_rules.specs.declared.change.JobOutcome.TheVariants.{Completed, Pivoted, Copied, Stopped}
use Rattle.qmp_rules.specs.declared.change.NewDisk.{NewDisk}
use Rattle.qmp_rules.specs.declared.change.NewDisk.TheVariants.{OfNode, OfStart}
use Rattle.qmp_rules.specs.declared.rows.JobRecord.{JobRecord}
use Rattle.qmp_rules.specs.declared.rows.NodeRecord.{NodeRecord}
use Rattle.qmp_rules.specs.Chains.{filter_role}
use Rattle.qmp_rules.specs.Ends.{drops_aside, filter_gone, settles_target, settle_if, settled_by, top_lost, read_only_if, given_back_to, end_edits}
use Rattle.qmp_rules.specs.Queries.{bytes_of_node}
use Rattle.qmp_rules.specs.Table.{RunTable, node_by_id, child}
use Rattle.blk_history.specs.declared.entry.JobEnd.{JobEnd}
use Rattle.flat_machine.specs.Begun.{begun_of, copy_bytes, backed_up, mixed}
use Rattle.flat_machine.specs.Changed.{new_bytes, stepped, all_stepped}
use Rattle.flat_machine.specs.Jobs.{target_written, outcome_of, noted_end}
use Rattle.flat_machine.specs.State.{State, Dirty, bytes_in, bytes_at_node}
use Rattle.flat_machine.specs.Suiting.{HaveOneSize, IsPlainNode}
use Rattle.flat_machine.proofs.Kept.{own_disk}
use Rattle.flat_machine.proofs.Resting.{stepped_table}
use Rattle.job_entries.specs.Found.{HasBegun}
use Rattle.job_entries.proofs.Found.{steps_note}
use Rattle.job_tables.specs.Ends.{EndSuits}
use Rattle.job_tables.specs.Jobs.{JobsStand}
use Rattle.job_tables.specs.Rows.{nodes_of_job}
use Rattle.job_tables.proofs.Changes.{plain_no_filter}
use Rattle.job_tables.proofs.Ended.{moves_by, rest_by, end_is}
use Rattle.job_tables.proofs.RowEdges.{in_left, holds_source}
use Rattle.job_tables.proofs.Runs.{written_by, target_held}
use Rattle.job_commands.specs.Whole.{DisksAreWhole}
use Rattle.job_commands.proofs.Moving.{IsMoving, AreMoving, moves_moving}
use Rattle.job_commands.proofs.Sizes.{HasLater, LeavesNode, AllLeaveNode, changes_stay, leave_node-append, size_there}
use Rattle.job_commands.proofs.Whole.{WholeBut, FitsDisks, AllFitDisks, changes_keep_whole}

abbrev Never : ℕ → Type 0
Never node = ⊥

fits-append : (a b : List Change) (s : State) → AllFitDisks Never s a → AllFitDisks Never (all_stepped s a) b → AllFitDisks Never s (a ++ b)
fits-append [] b s h k = k
fits-append (c ∷ a) b s h k = (h.0, fits-append a b (stepped s c) h.1 k)

moving_fit : (changes : List Change) (s : State) → AreMoving changes → AllFitDisks Never s changes
moving_fit [] s m = tt
moving_fit (c ∷ changes) s m = (one c m.0, moving_fit changes (stepped s c) m.1)
  where
    one : (x : Change) → IsMoving x → FitsDisks Never s x
    one (change.Move from to but) k = tt
    one (change.Rebase node backing) k = tt
    one x k = absurd k

moving_leave : (node : ℕ) (changes : List Change) → AreMoving changes → AllLeaveNode node changes
moving_leave node [] m = tt
moving_leave node (c ∷ changes) m = (one c m.0, moving_leave node changes m.1)
  where
    one : (x : Change) → IsMoving x → LeavesNode node x
    one (change.Move from to but) k = tt
    one (change.Rebase id backing) k = tt
    one x k = absurd k

-- nodes lose their disks, or may be written no more
abbrev IsLoss : Change → Type 0
IsLoss (change.Unsettle node) = Unit {0}
IsLoss (change.MakeReadOnly node) = Unit {0}
IsLoss c = ⊥

abbrev AreLosses : List Change → Type 0
AreLosses [] = Unit {0}
AreLosses (c ∷ changes) = IsLoss c × AreLosses changes

losses_fit : (changes : List Change) (s : State) → AreLosses changes → AllFitDisks Never s changes
losses_fit [] s m = tt
losses_fit (c ∷ changes) s m = (one c m.0, losses_fit changes (stepped s c) m.1)
  where
    one : (x : Change) → IsLoss x → FitsDisks Never s x
    one (change.Unsettle node) k = tt
    one (change.MakeReadOnly node) k = tt
    one x k = absurd k

length-mixed : (test : ℕ → Bool) (at : ℕ) (ones others : List ℕ) → length ones ≡ length others → length (mixed test at ones others) ≡ length ones
length-mixed test at [] others same = refl
length-mixed test at (a ∷ ones) [] same = absurd (omega (arith, same))
length-mixed test at (a ∷ ones) (b ∷ others) same = ap suc (length-mixed test (at + 1) ones others (omega (arith, same)))

module _ (s : State) (row : JobRecord) (why : JobEnd) (j : JobsStand s.table) (here : Contains s.table.jobs row) (suits : EndSuits s row) (begun : HasBegun s row)
    (whole : DisksAreWhole s) where
  abbrev o : JobOutcome
  o = outcome_of why

  abbrev head : List Change
  head = change.EndJob row.number row.slot (drops_aside o row.bitmap) ∷ filter_gone row.filter ++ moves_by row row.kind o

  abbrev mid : State
  mid = all_stepped s head

  pulled_fit : (filter : Option ℕ) (now : State) → AllFitDisks Never now (filter_gone filter)
  pulled_fit None now = tt
  pulled_fit (Some filter) now = (tt, tt)

  head_fits : AllFitDisks Never s head
  head_fits = (
    tt,
    fits-append (filter_gone row.filter) (moves_by row row.kind o) (stepped s (change.EndJob row.number row.slot (drops_aside o row.bitmap)))
        (pulled_fit row.filter (stepped s (change.EndJob row.number row.slot (drops_aside o row.bitmap))))
        (moving_fit (moves_by row row.kind o) (all_stepped (stepped s (change.EndJob row.number row.slot (drops_aside o row.bitmap))) (filter_gone row.filter)) (moves_moving row row.kind o)),
  )

  mid_whole : WholeBut Never mid
  mid_whole = changes_keep_whole Never head s head_fits (λ node r found own kept. whole node r found own)

  -- a node of the job isn't its filter
  stays_mid : (node : ℕ) → Contains (nodes_of_job row) node → (r : NodeRecord) → node_by_id s.table node ≡ Some r → HasLater mid.table node r
  stays_mid node has r found =
      subst (λ (t : RunTable). HasLater t node r) (sym (stepped_table head s))
      (changes_stay node head s.table
      (tt, leave_node-append node (filter_gone row.filter) (moves_by row row.kind o) (pulled_leave row.filter refl) (moving_leave node (moves_by row row.kind o) (moves_moving row row.kind o)))
      r found)
    where
      pulled_leave : (filter : Option ℕ) → row.filter ≡ filter → AllLeaveNode node (filter_gone filter)
      pulled_leave None is = tt
      pulled_leave (Some filter) is =
          (λ same. plain_no_filter s.table j node ((j.each row here).plain node has) row here (is ∙ ap Some (sym same)), tt)

  source_has : Contains (nodes_of_job row) row.source
  source_has = in_left row.held row.read row.source (holds_source s.table row (j.each row here))

  -- what the source reads as is as long as its row says
  source_long : (a : NodeRecord) → node_by_id s.table row.source ≡ Some a → length (bytes_at_node mid row.source) ≡ a.size
  source_long a found =
      let l = stays_mid row.source source_has a found in
      let p : IsPlainNode s.table row.source = (j.each row here).plain row.source source_has in
      let both : Some p.row ≡ Some a = sym p.there ∙ found in
      let one : p.row ≡ a = cc both in
      let own : filter_role l.later.kind ≡ None = ap filter_role l.kind ∙ ap (λ (r : NodeRecord). filter_role r.kind) (sym one) ∙ p.own in
      ap (λ node. length (bytes_in mid.disks node)) (own_disk mid.table row.source l.later l.found own)
      ∙ mid_whole row.source l.later l.found own (λ never. never) ∙ l.size

  -- and so is what a backup's start found
  begun_long : (target : ℕ) → target_written row ≡ Some target → length (copy_bytes (begun_of mid.begun row.number)) ≡ bytes_of_node s.table row.source
  begun_long target is =
      ap (λ bs. length (copy_bytes (begun_of bs row.number))) (steps_note head s).begun
      ∙ ap (λ found. length (copy_bytes found)) begun.found ∙ by_granules begun.begun.granules
    where
      by_granules : (granules : Option Dirty) → length (backed_up begun.begun granules) ≡ bytes_of_node s.table row.source
      by_granules None = begun.source
      by_granules (Some d) = length-mixed _ 0 begun.begun.source begun.begun.target (begun.source ∙ sym (begun.target target is)) ∙ begun.source

  settle_fits : (target : ℕ) (disk : NewDisk) → target_written row ≡ Some target
      → ((a : NodeRecord) → node_by_id s.table row.source ≡ Some a → length (new_bytes mid disk) ≡ a.size)
      → (r : NodeRecord) → node_by_id mid.table target ≡ Some r → length (new_bytes mid disk) ≡ r.size
  settle_fits target disk is long r found =
      let sizes : HaveOneSize s.table row.source target = (suits.target target is).sizes in
      let has = in_left row.held row.read target (target_held s.table row (j.each row here) target is) in
      let l = stays_mid target has sizes.other sizes.other_found in
      let both : Some l.later ≡ Some r = sym l.found ∙ found in
      let one : l.later ≡ r = cc both in
      long sizes.row sizes.found ∙ sizes.same ∙ sym l.size ∙ ap (λ (x : NodeRecord). x.size) one

  if_fits : (b : Bool) (to : Option ℕ) (disk : NewDisk) → target_written row ≡ to
      → ((target : ℕ) → to ≡ Some target → (a : NodeRecord) → node_by_id s.table row.source ≡ Some a → length (new_bytes mid disk) ≡ a.size)
      → AllFitDisks Never mid (settle_if b to disk)
  if_fits true (Some target) disk is long = (settle_fits target disk is (long target refl), tt)
  if_fits true None disk is long = tt
  if_fits false to disk is long = tt

  settled_fits : (k : JobKind) → row.kind ≡ k → AllFitDisks Never mid (settled_by row k)
  settled_fits Stream k = tt
  settled_fits Commit k = if_fits true row.target (OfNode row.source) (written_by row Commit k) (λ target is. source_long)
  settled_fits Mirror k = if_fits true row.target (OfNode row.source) (written_by row Mirror k) (λ target is. source_long)
  settled_fits Backup k = if_fits (settles_target row.bitmap) row.target (OfStart row.number) (written_by row Backup k)
      (λ target is a found. begun_long target (written_by row Backup k ∙ is) ∙ size_there s.table row.source a found)

  top_losses : (k : JobKind) (p : JobOutcome) → AreLosses (top_lost row k p)
  top_losses Commit Pivoted = (tt, tt)
  top_losses Commit Completed = tt
  top_losses Commit Copied = tt
  top_losses Commit Stopped = tt
  top_losses Stream p = tt
  top_losses Mirror p = tt
  top_losses Backup p = tt

  rest_fits : (p : JobOutcome) → AllFitDisks Never mid (rest_by row row.kind p)
  rest_fits Stopped = tt
  rest_fits Completed = fits-append (settled_by row row.kind) (top_lost row row.kind Completed) mid (settled_fits row.kind refl) (losses_fit _ (all_stepped mid (settled_by row row.kind)) (top_losses row.kind Completed))
  rest_fits Pivoted = fits-append (settled_by row row.kind) (top_lost row row.kind Pivoted) mid (settled_fits row.kind refl) (losses_fit _ (all_stepped mid (settled_by row row.kind)) (top_losses row.kind Pivoted))
  rest_fits Copied = fits-append (settled_by row row.kind) (top_lost row row.kind Copied) mid (settled_fits row.kind refl) (losses_fit _ (all_stepped mid (settled_by row row.kind)) (top_losses row.kind Copied))

  given_losses : AreLosses (given_back_to s.table row o)
  given_losses = by_outcome o
    where
      one : (b : Bool) (id : Option ℕ) → AreLosses (read_only_if b id)
      one true (Some node) = (tt, tt)
      one true None = tt
      one false id = tt

      two : (a b : List Change) → AreLosses a → AreLosses b → AreLosses (a ++ b)
      two [] b h k = k
      two (c ∷ a) b h k = (h.0, two a b h.1 k)

      back : AreLosses (read_only_if row.made_writable.base row.target ++ read_only_if row.made_writable.file (option_and_then (λ base. child s.table base File) row.target))
      back =
          two (read_only_if row.made_writable.base row.target) (read_only_if row.made_writable.file (option_and_then (λ base. child s.table base File) row.target))
          (one row.made_writable.base row.target) (one row.made_writable.file (option_and_then (λ base. child s.table base File) row.target))

      by_outcome : (p : JobOutcome) → AreLosses (given_back_to s.table row p)
      by_outcome Pivoted = tt
      by_outcome Completed = back
      by_outcome Copied = back
      by_outcome Stopped = back

  end_fits : AllFitDisks Never s (end_edits s.table row o)
  end_fits =
      subst (AllFitDisks Never s) (sym (end_is s.table row o))
      (fits-append head (rest_by row row.kind o ++ given_back_to s.table row o) s head_fits
      (fits-append (rest_by row row.kind o) (given_back_to s.table row o) mid (rest_fits o)
      (losses_fit (given_back_to s.table row o) (all_stepped mid (rest_by row row.kind o)) given_losses)))

  pub ended_whole : DisksAreWhole (noted_end s row why)
  ended_whole node later found own =
      changes_keep_whole Never (end_edits s.table row o) s end_fits (λ n r f ow kept. whole n r f ow) node later found own (λ never. never)
