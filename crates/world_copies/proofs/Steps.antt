-- A step of a job's copying, as what the job does to the world: a block is read, written, or copied before a guest's write.
use Rattle.std.proofs.Common.{◌≡◌, ◌⊎◌, ℕ, ◌≤◌, Bool, true, false, List, ◌++◌, length, refl, sym, ◌∙◌, ap, subst, inl, inr, Option, Some, None}
use Rattle.std.specs.Prelude.{Contains, Err, IfSome, Ok, Result, option_and_then, unwrap_or}
use Rattle.blk_base.specs.Pieces.{Extent}
use Rattle.blk_base.specs.declared.fault.DevNo.{DevNo}
use Rattle.blk_base.specs.declared.fault.Fault.{Fault}
use Rattle.blk_base.specs.declared.fault.Outcome.{Outcome}
use Rattle.blk_base.specs.declared.fault.Outcome.TheVariants.{Good, Torn, Io, NoSpace}
use Rattle.blk_copy.specs.declared.transfers.Transfer.{Transfer}
use Rattle.block_jobs.specs.Work.{JobWork, after_settle, after_take, sectors_left}
use Rattle.blk_nodes.specs.Contents.{disk_of}
use Rattle.blk_nodes.specs.Nodes.{Nodes, node_size}
use Rattle.blk_nodes.specs.Reading.{HaveRisen, IsReadBelow}
use Rattle.blk_nodes.proofs.HeldDevices.{HaveRisen-refl}
use Rattle.flat_machine.specs.EventLicence.{Deed, IsDoneFor, PieceOn, Settle, Take}
use Rattle.job_copies.specs.Guarding.{CopiesLeft, Guards, after_guard}
use Rattle.job_copies.specs.Settling.{Settles, after_write, settled_sectors}
use Rattle.job_copies.specs.Taking.{Takes}
use Rattle.job_tables.proofs.RowEdges.{holds_source, in_left}
use Rattle.job_works.specs.Steps.{Guarded, Settled, Taken}
use Rattle.job_works.specs.Works.{work_of}
use Rattle.job_works.proofs.Changed.{changed_at, job_found}
use Rattle.node_copies.specs.Putting.{CopiesBehind, PutsRuns, answer_of}
use Rattle.node_copies.specs.Sectors.{block_of, runs_of}
use Rattle.qmp_codec.specs.declared.event.JobKind.{JobKind}
use Rattle.qmp_codec.specs.declared.event.JobKind.TheVariants.{Stream, Commit, Mirror, Backup}
use Rattle.qmp_rules.specs.declared.rows.JobRecord.{JobRecord}
use Rattle.trace_codec.specs.declared.op.Op.{Op}
use Rattle.world_parts.specs.Coherent.{IsWholeWorld}
use Rattle.world_parts.specs.Counting.{AreSameDevices, seen_sources}
use Rattle.world_parts.specs.Face.{WorldSeen}
use Rattle.world_parts.specs.Jobs.{CopiesFor, CopyPasses, GuardsBlock, MeetsFault, MeetsNone, SettlesBlock, TakesBlock, WritesTarget}
use Rattle.world_parts.specs.Keeping.{rise_of}
use Rattle.world_parts.specs.Looking.{HasCalled}
use Rattle.world_parts.proofs.CountLemmas.{same-risen}
use Rattle.world_parts.proofs.CountsKept.{faults_at}
use Rattle.world_goings.specs.Copied.{LeavesFiles}
use Rattle.world_goings.proofs.Ahead.{job_there}
use Rattle.world_goings.proofs.JobNodes.{target_held}
use Rattle.world_goings.proofs.RunsPut.{files_put, files_same}
use Rattle.world_goings.proofs.Takes.{content_risen}
use Rattle.world_copies.specs.Copying.{IsStepOf}
use Rattle.world_goings.proofs.Failed.{unmet_flight, unmet_next, unmet_sectors}
use Rattle.world_copies.proofs.JobFaults.{hides_all, meets_by, none_met, runs_by}
use Rattle.world_copies.proofs.Stopped.{Stops, read_stops, runs_stop}

-- nothing was called
pub called_none : (old new : Nodes) → new ≡ old → HasCalled old new
called_none old new same = record {
  kept = subst (λ (n : Nodes). n ≡ record old { devices = n.devices }) (sym same) refl;
  risen = subst (λ (n : Nodes). HaveRisen old.devices n.devices) (sym same) (HaveRisen-refl old.devices);
  disks = λ other. ap (λ (n : Nodes). disk_of n other) same;
}

module _ (w v : WorldSeen) (row : JobRecord) (Does : JobWork → JobWork → Type 0) (step : IsStepOf w v row Does) (whole : IsWholeWorld w) where
  abbrev was : JobWork
  was = step.changes.was

  abbrev now : JobWork
  now = step.changes.now

  here : Contains w.table.jobs row
  here = job_there w.table row step.there

  own_source : Contains (row.held ++ row.read) row.source
  own_source = in_left row.held row.read row.source (holds_source w.table row (whole.jobs.stand.each row here))

  own_target : (target : ℕ) → row.target ≡ Some target → Contains (row.held ++ row.read) target
  own_target target is =
      in_left row.held row.read target (target_held w.table w.works w.progress.aside whole.jobs whole.coherent.table.stands row target here is)

  number_now : now.job ≡ row.number
  number_now = step.changes.same ∙ job_found w.works row.number was step.changes.there

  found_was : work_of w.works now.job ≡ Some was
  found_was = ap (work_of w.works) number_now ∙ step.changes.there

  found_now : work_of v.works row.number ≡ Some now
  found_now =
      ap (work_of v.works) (sym number_now) ∙ ap (λ works. work_of works now.job) step.changes.kept
      ∙ changed_at now.job (λ work. now) (λ work own. refl) w.works was found_was

  met_was : (seen_sources w).met_by row.number ≡ was.met
  met_was = ap (λ found. option_and_then (λ (work : JobWork). work.met) found) step.changes.there

  met_now : (seen_sources v).met_by row.number ≡ now.met
  met_now = ap (λ found. option_and_then (λ (work : JobWork). work.met) found) found_now

  -- nothing was done
  nothing_met : v.nodes ≡ w.nodes → now.met ≡ was.met → MeetsNone w v row.number
  nothing_met same met = record {
    same = met_now ∙ met ∙ sym met_was;
    hides = hides_all w v step.kept step.joined whole.coherent (λ n. ap (λ (m : Nodes). faults_at m.devices n) same);
  }

  pub copies_by : (deed : Deed) (passes : ℕ → Type 0) → AreSameDevices w.nodes.devices v.nodes.devices → MeetsNone w v row.number ⊎ MeetsFault w v deed passes row
      → CopiesFor w v deed passes row
  copies_by deed passes same meets = record {
    there = step.there;
    kept = step.kept;
    runs = runs_by w v step.kept step.joined whole.coherent same;
    told = step.told;
    joined = step.joined_then;
    meets = meets;
  }

  -- ---- what the job met, by the answer of its calls

  abbrev MetBy : Result (Unit {0}) Fault → Type 0
  MetBy (Ok done) = now.met ≡ was.met
  MetBy (Err fault) = now.met ≡ Some (unwrap_or was.met fault)

  good_is : (o : Outcome) (done : Unit {0}) → answer_of o ≡ Ok done → o ≡ Good
  good_is Good done is = refl
  good_is (Torn n dev count) done is = absurd (let bad : ⊥ = cc is in bad)
  good_is (Io dev count) done is = absurd (let bad : ⊥ = cc is in bad)
  good_is (NoSpace dev) done is = absurd (let bad : ⊥ = cc is in bad)

  module _ (deed : Deed) (passes : ℕ → Type 0) (done_for : IsDoneFor w.table deed row) (unmet : was.met ≡ None) (node : ℕ) (outcome : Outcome)
      (own : Contains (row.held ++ row.read) node) (stops : Stops w.nodes v.nodes node outcome) (full : (dev : DevNo) → outcome ≡ NoSpace dev → passes dev.0) where
    met_answer : (r : Result (Unit {0}) Fault) → answer_of outcome ≡ r → MetBy r → MeetsNone w v row.number ⊎ MeetsFault w v deed passes row
    met_answer (Ok done) is met =
        inl (none_met w v step.kept step.joined whole.coherent node outcome stops row.number (good_is outcome done is) (met_now ∙ met ∙ sym met_was))
    met_answer (Err fault) is met =
        let own_fault : now.met ≡ Some fault = met ∙ ap (λ m. Some (unwrap_or m fault)) unmet in
        inr (meets_by w v step.kept step.joined whole.coherent node outcome stops deed passes row done_for own (met_was ∙ unmet) fault (met_now ∙ own_fault)
        (subst (λ m. IfSome (rise_of m) (λ rise. rise.count ≤ 18446744073709551615)) own_fault step.small) full outcome refl is)

  -- ---- a block is read

  module _ (position : ℕ) (buffer : List ℕ) where
    take_called : (answer : Result (Option Transfer) Fault) → Takes row.kind w.nodes v.nodes was now row.source position buffer answer
        → ((other : ℕ) → disk_of v.nodes other ≡ disk_of w.nodes other) → HasCalled w.nodes v.nodes
    take_called (Ok None) did disks = called_none w.nodes v.nodes did.1
    take_called (Ok (Some t)) did disks = called_none w.nodes v.nodes did.same
    take_called (Err fault) did disks = record { kept = did.reads.kept; risen = did.reads.risen; disks = disks }

    met_taken : (t : Transfer) (kind : JobKind) → (after_take kind t was).met ≡ was.met
    met_taken t Mirror = refl
    met_taken t Stream = refl
    met_taken t Commit = refl
    met_taken t Backup = refl

    take_meets : (answer : Result (Option Transfer) Fault) → Takes row.kind w.nodes v.nodes was now row.source position buffer answer
        → MeetsNone w v row.number ⊎ MeetsFault w v (Take row.slot) (λ dev. ⊥) row
    take_meets (Ok None) did = inl (nothing_met did.1 (ap (λ (x : JobWork). x.met) did.2))
    take_meets (Ok (Some t)) did = inl (nothing_met did.same (ap (λ (x : JobWork). x.met) did.work ∙ met_taken t row.kind))
    take_meets (Err fault) did =
        met_answer (Take row.slot) (λ dev. ⊥) refl (unmet_next was step.done did.block did.next) row.source did.read own_source
        (read_stops w.nodes v.nodes row.source did.read step.joined.once did.reads.risen did.reads.went)
        (λ dev is. subst (IsReadBelow w.nodes v.nodes row.source) is did.reads.went) (Err fault) did.is (ap (λ (x : JobWork). x.met) did.work)

  -- ---- runs are put to the target

  module _ (target : ℕ) (target_is : row.target ≡ Some target) (writes : WritesTarget w.nodes v.nodes target) (deed : Deed) (done_for : IsDoneFor w.table deed row)
      (unmet : was.met ≡ None) (block : Extent) (sectors : ℕ) (bytes : List ℕ) (wrote : Outcome)
      (puts : PutsRuns (runs_of block sectors) block w.nodes v.nodes target bytes wrote) where
    full : (dev : DevNo) → wrote ≡ NoSpace dev → CopyPasses w.nodes target dev.0
    full dev is = record {
      between = w.nodes;
      now = v.nodes;
      called = called_none w.nodes w.nodes refl;
      block = block;
      sectors = sectors;
      bytes = bytes;
      puts = subst (PutsRuns (runs_of block sectors) block w.nodes v.nodes target bytes) is puts;
    }

    put_meets : (r : Result (Unit {0}) Fault) → answer_of wrote ≡ r → MetBy r → MeetsNone w v row.number ⊎ MeetsFault w v deed (CopyPasses w.nodes target) row
    put_meets =
        met_answer deed (CopyPasses w.nodes target) done_for unmet target wrote (own_target target target_is)
        (runs_stop block target bytes (runs_of block sectors) w.nodes v.nodes wrote step.joined.once writes.may puts) full

    put_files : LeavesFiles w.nodes v.nodes target
    put_files = files_put (runs_of block sectors) block target bytes w.nodes v.nodes wrote step.joined.once puts

  -- ---- a block that was read is written

  module _ (target : ℕ) (target_is : row.target ≡ Some target) (writes : WritesTarget w.nodes v.nodes target) (t : Transfer) (bytes : List ℕ) where
    met_settled : (kind : JobKind) → (after_settle kind t.cluster was).met ≡ was.met
    met_settled Mirror = refl
    met_settled Stream = refl
    met_settled Commit = refl
    met_settled Backup = refl

    met_written : (kind : JobKind) (r : Result (Unit {0}) Fault) → now ≡ after_write r kind t.cluster was → MetBy r
    met_written kind (Ok done) is = ap (λ (x : JobWork). x.met) is ∙ met_settled kind
    met_written kind (Err fault) is = ap (λ (x : JobWork). x.met) is

    settle_meets : (answer : Bool) → Settles row.kind w.nodes v.nodes was now target t bytes answer
        → MeetsNone w v row.number ⊎ MeetsFault w v (Settle row.number) (CopyPasses w.nodes target) row
    settle_meets false did = inl (nothing_met did.1 (ap (λ (x : JobWork). x.met) did.2))
    settle_meets true did =
        put_meets target target_is writes (Settle row.number) refl (unmet_flight was step.done t did.flies)
        (block_of (node_size w.nodes target) t.cluster) (settled_sectors row.kind was t.cluster) bytes did.wrote did.puts
        (answer_of did.wrote) refl (met_written row.kind (answer_of did.wrote) did.work)

    pub settle_files : (answer : Bool) → Settles row.kind w.nodes v.nodes was now target t bytes answer → LeavesFiles w.nodes v.nodes target
    settle_files false did = files_same w.nodes v.nodes target did.1
    settle_files true did = files_put _ _ target bytes w.nodes v.nodes did.wrote step.joined.once did.puts

  -- ---- a block is copied before a guest's write

  module _ (drive : ℕ) (op : Op) (done_for : IsDoneFor w.table (PieceOn drive op) row) (target block : ℕ) (target_is : row.target ≡ Some target)
      (writes : WritesTarget w.nodes v.nodes target) where
    met_guarded : (r : Result (Unit {0}) Fault) → now ≡ after_guard r block was → MetBy r
    met_guarded (Ok done) is = ap (λ (x : JobWork). x.met) is
    met_guarded (Err fault) is = ap (λ (x : JobWork). x.met) is

    module _ (copied : CopiesLeft w.nodes v.nodes was now row.source target block) where
      abbrev span : Extent
      span = block_of (node_size w.nodes target) block

      unmet : was.met ≡ None
      unmet = unmet_sectors was step.done block copied.some

      abbrev Met : Type 0
      Met = MeetsNone w v row.number ⊎ MeetsFault w v (PieceOn drive op) (CopyPasses w.nodes target) row

      -- the read failed
      read_meets : (o : Outcome) → copied.copies.read ≡ o → ((dev : DevNo) → o ≡ NoSpace dev → ⊥) → v.nodes ≡ copied.copies.between → copied.result ≡ answer_of o → Met
      read_meets o is none same told =
          met_answer (PieceOn drive op) (CopyPasses w.nodes target) done_for unmet row.source o own_source
          (subst (λ (n : Nodes). Stops w.nodes n row.source o) (sym same)
          (read_stops w.nodes copied.copies.between row.source o step.joined.once copied.copies.risen
          (subst (IsReadBelow w.nodes copied.copies.between row.source) is copied.copies.went)))
          (λ dev full. absurd (none dev full)) copied.result (sym told) (met_guarded copied.result copied.work)

      read_files : v.nodes ≡ copied.copies.between → LeavesFiles w.nodes v.nodes target
      read_files same = subst (λ (n : Nodes). LeavesFiles w.nodes n target) (sym same) (record {
        devices = same-risen w.nodes.devices copied.copies.between.devices copied.copies.risen;
        others = λ node apart. content_risen w.nodes.devices copied.copies.between.devices copied.copies.risen node;
      })

      puts_from : (bytes : List ℕ) (wrote : Outcome) → copied.copies.read ≡ Good
          → PutsRuns (runs_of span (sectors_left was block)) span copied.copies.between v.nodes target bytes wrote
          → PutsRuns (runs_of span (sectors_left was block)) span w.nodes v.nodes target bytes wrote
      puts_from bytes wrote is =
          subst (λ (n : Nodes). PutsRuns (runs_of span (sectors_left was block)) span n v.nodes target bytes wrote)
          (subst (IsReadBelow w.nodes copied.copies.between row.source) is copied.copies.went)

      left_meets : (o : Outcome) → copied.copies.read ≡ o
          → CopiesBehind o copied.copies.between v.nodes target span (sectors_left was block) copied.copies.bytes copied.result → Met
      left_meets Good is behind =
          put_meets target target_is writes (PieceOn drive op) done_for unmet span (sectors_left was block) copied.copies.bytes behind.0
          (puts_from copied.copies.bytes behind.0 is behind.1) copied.result (sym behind.2) (met_guarded copied.result copied.work)
      left_meets (Torn n dev count) is behind = read_meets (Torn n dev count) is (λ d bad. cc bad) behind.0 behind.1
      left_meets (Io dev count) is behind = read_meets (Io dev count) is (λ d bad. cc bad) behind.0 behind.1
      left_meets (NoSpace dev) is behind = absurd (subst (IsReadBelow w.nodes copied.copies.between row.source) is copied.copies.went)

      left_files : (o : Outcome) → copied.copies.read ≡ o
          → CopiesBehind o copied.copies.between v.nodes target span (sectors_left was block) copied.copies.bytes copied.result → LeavesFiles w.nodes v.nodes target
      left_files Good is behind =
          files_put _ _ target copied.copies.bytes w.nodes v.nodes behind.0 step.joined.once (puts_from copied.copies.bytes behind.0 is behind.1)
      left_files (Torn n dev count) is behind = read_files behind.0
      left_files (Io dev count) is behind = read_files behind.0
      left_files (NoSpace dev) is behind = read_files behind.0

    guard_meets : Guards w.nodes v.nodes was now row.source target block → MeetsNone w v row.number ⊎ MeetsFault w v (PieceOn drive op) (CopyPasses w.nodes target) row
    guard_meets (inl none) = inl (nothing_met none.1 (ap (λ (x : JobWork). x.met) none.2))
    guard_meets (inr copied) = left_meets copied copied.copies.read refl copied.copies.behind

    pub guard_files : Guards w.nodes v.nodes was now row.source target block → LeavesFiles w.nodes v.nodes target
    guard_files (inl none) = files_same w.nodes v.nodes target none.1
    guard_files (inr copied) = left_files copied copied.copies.read refl copied.copies.behind

-- ---- as what the job does

pub takes_block : (w v : WorldSeen) (row : JobRecord) (buffer : List ℕ) (answer : Result (Option Transfer) Fault) → IsWholeWorld w
    → IsStepOf w v row (Taken row.kind w.nodes v.nodes row.source (length w.progress.log.events) buffer answer)
    → ((other : ℕ) → disk_of v.nodes other ≡ disk_of w.nodes other) → TakesBlock w v row buffer answer
takes_block w v row buffer answer whole step disks =
    let Does = Taken row.kind w.nodes v.nodes row.source (length w.progress.log.events) buffer answer in
    let did = step.changes.done.takes in
    let called = take_called w v row Does step whole (length w.progress.log.events) buffer answer did disks in
    record {
      copies =
          copies_by w v row Does step whole (Take row.slot) (λ dev. ⊥) (same-risen w.nodes.devices v.nodes.devices called.risen)
          (take_meets w v row Does step whole (length w.progress.log.events) buffer answer did);
      disks = disks;
      called = called;
      takes = step.changes;
    }

pub settles_block : (w v : WorldSeen) (row : JobRecord) (target : ℕ) (t : Transfer) (bytes : List ℕ) (answer : Bool) → IsWholeWorld w
    → IsStepOf w v row (Settled row.kind w.nodes v.nodes target t bytes answer) → row.target ≡ Some target → WritesTarget w.nodes v.nodes target
    → SettlesBlock w v row target t bytes answer × LeavesFiles w.nodes v.nodes target
settles_block w v row target t bytes answer whole step target_is writes =
    let Does = Settled row.kind w.nodes v.nodes target t bytes answer in
    let did = step.changes.done.settles in
    let files = settle_files w v row Does step whole target target_is writes t bytes answer did in (
      record {
        copies =
            copies_by w v row Does step whole (Settle row.number) (CopyPasses w.nodes target) files.devices
            (settle_meets w v row Does step whole target target_is writes t bytes answer did);
        writes = writes;
        target_is = target_is;
        settles = step.changes;
      },
      files,
    )

pub guards_block : (w v : WorldSeen) (drive : ℕ) (op : Op) (row : JobRecord) (target block : ℕ) → IsWholeWorld w
    → IsStepOf w v row (Guarded w.nodes v.nodes row.source target block) → IsDoneFor w.table (PieceOn drive op) row → row.target ≡ Some target
    → WritesTarget w.nodes v.nodes target → GuardsBlock w v drive op row target block × LeavesFiles w.nodes v.nodes target
guards_block w v drive op row target block whole step done_for target_is writes =
    let Does = Guarded w.nodes v.nodes row.source target block in
    let did = step.changes.done.guards in
    let files = guard_files w v row Does step whole drive op done_for target block target_is writes did in (
      record {
        kind = done_for.0;
        copies =
            copies_by w v row Does step whole (PieceOn drive op) (CopyPasses w.nodes target) files.devices
            (guard_meets w v row Does step whole drive op done_for target block target_is writes did);
        writes = writes;
        target_is = target_is;
        guards = step.changes;
      },
      files,
    )
