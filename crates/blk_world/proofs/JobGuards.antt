-- What is left of a block is copied for the backup of its disk before a guest's piece is written there.
use Rattle.std.proofs.Common.{◌≡◌, ℕ, ◌/◌, ◌<◌, ◌≤◌, true, List, refl, sym, ◌∙◌, ap, subst, arith, Option, Some, None}
use Rattle.std.specs.Prelude.{Contains, IfSome, IsSome}
use Rattle.std.proofs.lemmas.Bool.{eqb-true, eq-eqb, false≢true}
use Rattle.blk_base.specs.Pieces.{Extent, end_of}
use Rattle.blk_graph.proofs.Members.{find-Some}
use Rattle.blk_graph.proofs.RuleLemmas.{find-None}
use Rattle.blk_history.specs.Disk.{is_write}
use Rattle.blk_history.specs.Fold.{With}
use Rattle.blk_history.specs.Machine.{Flight}
use Rattle.blk_nodes.specs.Joined.{IsJoined}
use Rattle.blk_nodes.specs.Nodes.{AreTold, Nodes}
use Rattle.block_jobs.specs.Work.{JobWork}
use Rattle.flat_machine.specs.State.{drive_of}
use Rattle.flat_machine.specs.declared.opening.Opening.{Opening}
use Rattle.flat_machine.proofs.Wired.{with_at}
use Rattle.job_progress.specs.Piecing.{IsGuarded}
use Rattle.job_works.specs.Steps.{Guarded}
use Rattle.job_works.specs.Works.{work_of}
use Rattle.qmp_codec.specs.declared.event.JobKind.{JobKind}
use Rattle.qmp_codec.specs.declared.event.JobKind.TheVariants.{Stream, Commit, Mirror, Backup}
use Rattle.qmp_rules.specs.Chains.{disk_node}
use Rattle.qmp_rules.specs.Queries.{bytes_of_node}
use Rattle.qmp_rules.specs.Table.{RunTable}
use Rattle.qmp_rules.specs.declared.rows.JobRecord.{JobRecord}
use Rattle.trace_codec.specs.declared.op.Op.{Op}
use Rattle.trace_codec.specs.declared.op.Op.TheVariants.{Read, Write, Zero, Flush, Discard}
use Rattle.world_copies.proofs.JobSteps.{can_guard, step_of}
use Rattle.world_copies.proofs.Steps.{guards_block}
use Rattle.world_copies.proofs.Wholes.{guards_whole}
use Rattle.world_goings.specs.Copied.{FailedAreDone, HasSmallFault, LeavesFiles}
use Rattle.world_goings.proofs.Guarding.{guards_comes, guards_free}
use Rattle.world_jobs.specs.Guarding.{CanGuard, GuardsFor, IsGuardedBy, backs_up, backup_of, is_backup_of}
use Rattle.world_parts.specs.Coherent.{IsWholeWorld}
use Rattle.world_parts.specs.Comes.{Comes}
use Rattle.world_parts.specs.Face.{WorldSeen}
use Rattle.world_parts.specs.Jobs.{GuardsBlock}
use Rattle.world_parts.specs.Piecing.{part_of}
use Rattle.world_parts.specs.Progress.{HasNext, flight_at}
use Rattle.world_parts.proofs.CountLemmas.{there}
use Rattle.world_pieces.specs.Pieces.{IsGuardedPiece, written_in}
use Rattle.world_pieces.proofs.PieceGuards.{done_for_backup}
use Rattle.world_pieces.proofs.PieceReady.{part_within}
use Rattle.blk_world.specs.Pieces.{GuardsBy, GuardsNext, GuardsPart, GuardsWritten}
use Rattle.blk_world.proofs.PieceBlocks.{IsSomeOfBlock, written_is, written_some, written_there}

-- ---- the backup of a node

by_kind : (node : ℕ) (row : JobRecord) (kind : JobKind) → backs_up node row kind ≡ true → (kind ≡ Backup) × (row.source ≡ node)
by_kind node row Backup is = (refl, eqb-true row.source node is)
by_kind node row Stream is = absurd (false≢true is)
by_kind node row Commit is = absurd (false≢true is)
by_kind node row Mirror is = absurd (false≢true is)

pub record IsBackupThere (t : RunTable) (node : ℕ) (row : JobRecord) : Type 0 where
  pub here : Contains t.jobs row
  pub kind : row.kind ≡ Backup
  pub source : row.source ≡ node

pub backup_there : (t : RunTable) (node : ℕ) (row : JobRecord) → backup_of t node ≡ Some row → IsBackupThere t node row
backup_there t node row is =
    let at = find-Some (is_backup_of node) t.jobs row is in
    let by = by_kind node row row.kind at.1 in
    record { here = at.0; kind = by.0; source = by.1 }

-- where there is none, no job is one
backup_none : (t : RunTable) (node : ℕ) → backup_of t node ≡ None → (row : JobRecord) → Contains t.jobs row → row.kind ≡ Backup → row.source ≡ node → ⊥
backup_none t node none row here kind source =
    let is : is_backup_of node row ≡ true = ap (backs_up node row) kind ∙ eq-eqb row.source node source in
    let not = find-None (is_backup_of node) t.jobs none row here in
    false≢true (sym not ∙ is)

-- ---- what a guard leaves of the progress

by_backup : (found : Option JobRecord) (w v : WorldSeen) (drive : ℕ) (op : Op) (part : Extent) → GuardsBy found w v drive op part → v.progress ≡ w.progress
by_backup None w v drive op part same = ap (λ (x : WorldSeen). x.progress) same
by_backup (Some row) w v drive op part did = ap (λ (x : WorldSeen). x.progress) did.1.copies.kept

by_part : (w v : WorldSeen) (drive : ℕ) (op : Op) (part : Extent) → GuardsPart w v drive op part → v.progress ≡ w.progress
by_part w v drive (Write span payload) part did = by_backup (backup_of w.table (disk_node w.table drive)) w v drive (Write span payload) part did
by_part w v drive (Zero span) part did = by_backup (backup_of w.table (disk_node w.table drive)) w v drive (Zero span) part did
by_part w v drive (Read span) part same = ap (λ (x : WorldSeen). x.progress) same
by_part w v drive Flush part same = ap (λ (x : WorldSeen). x.progress) same
by_part w v drive (Discard span) part same = ap (λ (x : WorldSeen). x.progress) same

pub guard_progress : (w v : WorldSeen) (g : ℕ) → GuardsNext w v g → v.progress ≡ w.progress
guard_progress w v g did =
    let flight = there (flight_at w.progress.guests g) (λ f. With (drive_of w.table g) (λ drive. GuardsPart w v drive f.op (part_of f))) did in
    let drive = there (drive_of w.table g) (λ drive. GuardsPart w v drive flight.at.op (part_of flight.at)) flight.holds in
    by_part w v drive.at flight.at.op (part_of flight.at) drive.holds

-- ---- before a request's next piece

-- what is written of it
guards_written : (w v : WorldSeen) (drive : ℕ) (op : Op) (part written : Extent) → written_in op part ≡ Some written
    → GuardsBy (backup_of w.table (disk_node w.table drive)) w v drive op part → GuardsPart w v drive op part
guards_written w v drive (Write span payload) part written is did = did
guards_written w v drive (Zero span) part written is did = did
guards_written w v drive (Read span) part written is did = absurd (let bad : ⊥ = cc is in bad)
guards_written w v drive Flush part written is did = absurd (let bad : ⊥ = cc is in bad)
guards_written w v drive (Discard span) part written is did = absurd (let bad : ⊥ = cc is in bad)

guards_nothing : (w v : WorldSeen) (drive : ℕ) (op : Op) (part : Extent) → written_in op part ≡ None → v ≡ w → GuardsPart w v drive op part
guards_nothing w v drive (Write span payload) part none same = absurd (let bad : ⊥ = cc none in bad)
guards_nothing w v drive (Zero span) part none same = absurd (let bad : ⊥ = cc none in bad)
guards_nothing w v drive (Read span) part none same = same
guards_nothing w v drive Flush part none same = same
guards_nothing w v drive (Discard span) part none same = same

-- and then the backup owes nothing of it
pub record IsGuardedThen (w v : WorldSeen) (f : Flight) (drive : ℕ) : Type 0 where
  pub guards : GuardsPart w v drive f.op (part_of f)
  pub whole : IsWholeWorld v
  pub free : is_write f.op ≡ true → IsGuarded w.table v.works (disk_node w.table drive) (part_of f)
  pub comes : (o : Opening) → Comes o w → Comes o v

module _ (w : WorldSeen) (g : ℕ) (f : Flight) (drive : ℕ) (on : drive_of w.table g ≡ Some drive) (flies : flight_at w.progress.guests g ≡ Some f) (next : HasNext f)
    (whole : IsWholeWorld w) (joined : IsJoined w.nodes) where
  abbrev node : ℕ
  node = disk_node w.table drive

  within : end_of (part_of f) ≤ bytes_of_node w.table node
  within = part_within w.table w.nodes w.progress joined w.opened whole.coherent g f drive on flies next

  -- ---- what is written of the piece

  module _ (part : Extent) (written : written_in f.op (part_of f) ≡ Some part) where
    same_part : part_of f ≡ part
    same_part = (written_is f.op (part_of f) part written).0

    writes : is_write f.op ≡ true
    writes = (written_is f.op (part_of f) part written).1

    some_of : IsSomeOfBlock part
    some_of = subst IsSomeOfBlock same_part (written_some f.op f.next next.next writes)

    inside : end_of part ≤ bytes_of_node w.table node
    inside = subst (λ (x : Extent). end_of x ≤ bytes_of_node w.table node) same_part within

    pub may_guard : CanGuard w.table w.nodes w.works node (part.start / 65536)
    may_guard row is =
        let b = backup_there w.table node row is in
        let some = some_of.some in
        let fits = inside in
        let first : part.start < bytes_of_node w.table node = omega (arith, some, fits) in
        can_guard w whole joined row b.here part.start (part.start / 65536) refl
        (subst (λ (n : ℕ). part.start < bytes_of_node w.table n) (sym b.source) first)

    -- ---- what is left of its block is copied

    module _ (failed : FailedAreDone w.works) (nodes : Nodes) (works : List JobWork) (joined_then : IsJoined nodes) (told : AreTold w.nodes.devices → AreTold nodes.devices)
        (small : (row : JobRecord) (work : JobWork) → backup_of w.table node ≡ Some row → work_of works row.number ≡ Some work → HasSmallFault work) where
      abbrev v : WorldSeen
      v = record w { nodes = nodes; works = works }

      did_for : (row : JobRecord) → backup_of w.table node ≡ Some row → (by : GuardsFor row w.nodes nodes (part.start / 65536) w.works works)
          → GuardsBlock w v drive f.op row by.target (part.start / 65536) × LeavesFiles w.nodes nodes by.target
      did_for row is by =
          let b = backup_there w.table node row is in
          guards_block w v drive f.op row by.target (part.start / 65536) whole
          (step_of w whole joined row b.here nodes works (Guarded w.nodes nodes row.source by.target (part.start / 65536)) joined_then told by.guards failed
          (λ work at. small row work is at))
          (done_for_backup w g f drive on flies joined whole.coherent whole.jobs writes row b.here b.kind (sym b.source)) by.target_is by.writes

      by_found : (found : Option JobRecord) → backup_of w.table node ≡ found → IsGuardedBy found w.nodes nodes (part.start / 65536) w.works works
          → IsGuardedThen w v f drive
      by_found None none by =
          let same : v ≡ w
          = ap (λ (n : Nodes). let x : WorldSeen = record w { nodes = n; works = works } in x) by.0 ∙ ap (λ (ws : List JobWork). let x : WorldSeen = record w { works = ws } in x) by.1 in
          record {
            guards =
                guards_written w v drive f.op (part_of f) part written
                (subst (λ (o : Option JobRecord). GuardsBy o w v drive f.op (part_of f)) (sym none) same);
            whole = subst IsWholeWorld (sym same) whole;
            free = λ writes row work here kind source at unmet. absurd (backup_none w.table node none row here kind source);
            comes = λ o comes. subst (Comes o) (sym same) comes;
          }
      by_found (Some row) is by =
          let b = backup_there w.table node row is in
          let did = did_for row is by in
          record {
            guards =
                guards_written w v drive f.op (part_of f) part written
                (subst (λ (o : Option JobRecord). GuardsBy o w v drive f.op (part_of f)) (sym is)
                (by.target, subst (λ (x : Extent). GuardsBlock w v drive f.op row by.target (x.start / 65536)) (sym same_part) did.0));
            whole = guards_whole w v drive f.op row by.target (part.start / 65536) whole did.1 did.0;
            free = λ writes.
                subst (λ (x : Extent). IsGuarded w.table works node x) (sym same_part)
                (subst (λ (n : ℕ). IsGuarded w.table works n part) b.source
                (guards_free w v drive f.op row by.target (part.start / 65536) whole did.0 part some_of.block
                (subst (λ (n : ℕ). end_of part ≤ bytes_of_node w.table n) (sym b.source) inside)));
            comes = λ o comes. guards_comes w v drive f.op row by.target (part.start / 65536) whole did.0 o joined did.1 comes;
          }

      pub guarded_then : IsGuardedBy (backup_of w.table node) w.nodes nodes (part.start / 65536) w.works works → IsGuardedThen w v f drive
      guarded_then by = by_found (backup_of w.table node) refl by

  -- ---- nothing is written

  pub nothing_then : written_in f.op (part_of f) ≡ None → IsGuardedThen w w f drive
  nothing_then none = record {
    guards = guards_nothing w w drive f.op (part_of f) none refl;
    whole = whole;
    free = λ writes. absurd (let bad = sym none ∙ written_there f.op f.next (part_of f) next.next writes in let no : ⊥ = cc bad in no);
    comes = λ o comes. comes;
  }

  -- ---- behind either

  pub may_guard_written : (written : Option Extent) → written ≡ written_in f.op (part_of f) → (part : Extent) → written ≡ Some part
      → CanGuard w.table w.nodes w.works node (part.start / 65536)
  may_guard_written written is part some = may_guard part (sym is ∙ some)

  pub then_by : FailedAreDone w.works → (nodes : Nodes) (works : List JobWork) → IsJoined nodes → (AreTold w.nodes.devices → AreTold nodes.devices)
      → (written : Option Extent) → written ≡ written_in f.op (part_of f) → GuardsWritten written w.table node w.nodes nodes w.works works
      → (IsSome written → (row : JobRecord) (work : JobWork) → backup_of w.table node ≡ Some row → work_of works row.number ≡ Some work → HasSmallFault work)
      → IsGuardedThen w (record w { nodes = nodes; works = works }) f drive
  then_by failed nodes works joined_then told None is by small =
      subst (λ (x : WorldSeen). IsGuardedThen w x f drive)
      (sym
      (ap (λ (n : Nodes). let x : WorldSeen = record w { nodes = n; works = works } in x) by.0 ∙ ap (λ (ws : List JobWork). let x : WorldSeen = record w { works = ws } in x) by.1))
      (nothing_then (sym is))
  then_by failed nodes works joined_then told (Some part) is by small =
      guarded_then part (sym is) failed nodes works joined_then told (small refl) by

  pub guards_next : (v : WorldSeen) → IsGuardedThen w v f drive → GuardsNext w v g
  guards_next v did =
      with_at (λ h. With (drive_of w.table g) (λ n. GuardsPart w v n h.op (part_of h))) (flight_at w.progress.guests g) f flies
      (with_at (λ n. GuardsPart w v n f.op (part_of f)) (drive_of w.table g) drive on did.guards)

  pub guarded_piece : (nodes : Nodes) (works : List JobWork) → IsGuardedThen w (record w { nodes = nodes; works = works }) f drive
      → IsGuardedPiece (record w { nodes = nodes; works = works }) g
  guarded_piece nodes works did =
      subst (λ (o : Option Flight). IfSome o (λ h. IfSome (drive_of w.table g) (λ n. is_write h.op ≡ true → IsGuarded w.table works (disk_node w.table n) (part_of h)))) (sym flies)
      (subst (λ (o : Option ℕ). IfSome o (λ n. is_write f.op ≡ true → IsGuarded w.table works (disk_node w.table n) (part_of f))) (sym on) did.free)
