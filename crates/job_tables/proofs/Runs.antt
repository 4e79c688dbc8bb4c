-- Jobs run on behind changes that leave their disks, and behind the ends of others.
use Rattle.std.proofs.Common.{◌≡◌, ◌≢◌, ℕ, ◌<◌, List, [], ◌∷◌, ◌++◌, map, refl, sym, ◌∙◌, ap, subst, Bool, true, false, cond, Option, Some, None}
use Rattle.std.specs.Prelude.{◌==◌, not, IsSome, slice_get}
use Rattle.std.specs.Option.{option_and_then}
use Rattle.std.specs.List.{Contains}
use Rattle.std.proofs.lemmas.Bool.{false≢true, eqb-true, eq-eqb}
use Rattle.blk_graph.specs.declared.edge.Role.TheVariants.{File}
use Rattle.blk_graph.specs.declared.edge.Parent.TheVariants.{Node}
use Rattle.blk_graph.specs.declared.kind.Kind.{Kind}
use Rattle.blk_graph.specs.declared.kind.Kind.TheVariants as driver
use Rattle.blk_graph.proofs.Members.{Contains-nil, Contains-here, Contains-there, Contains-filter, Contains-map, find-Some}
use Rattle.qmp_codec.specs.declared.event.JobKind.{JobKind}
use Rattle.qmp_codec.specs.declared.event.JobKind.TheVariants.{Stream, Commit, Mirror, Backup}
use Rattle.qmp_rules.specs.declared.change.Change.{Change}
use Rattle.qmp_rules.specs.declared.change.Change.TheVariants as change
use Rattle.qmp_rules.specs.declared.change.NewDisk.{NewDisk}
use Rattle.qmp_rules.specs.declared.change.NewDisk.TheVariants.{OfNode, OfStart}
use Rattle.qmp_rules.specs.declared.change.JobOutcome.{JobOutcome}
use Rattle.qmp_rules.specs.declared.change.JobOutcome.TheVariants.{Completed, Pivoted, Copied, Stopped}
use Rattle.qmp_rules.specs.declared.rows.NodeRecord.{NodeRecord}
use Rattle.qmp_rules.specs.declared.rows.JobRecord.{JobRecord}
use Rattle.qmp_rules.specs.declared.rows.AskedEnd.{AskedEnd}
use Rattle.qmp_rules.specs.Chains.{filter_role}
use Rattle.qmp_rules.specs.Changes.{changed, all_changed, asked_for, ready_for, followed, without_job}
use Rattle.qmp_rules.specs.Ends.{drops_aside, filter_gone as pulled, overlay_to, parents_to, moves, settle_if, settles_target, settled_by, top_lost, read_only_if, given_back_to, end_edits}
use Rattle.qmp_rules.specs.Table.{RunTable, node_by_id, child, opening_table}
use Rattle.flat_machine.specs.Jobs.{writes_target, target_written, copied_to}
use Rattle.flat_machine.specs.Suiting.{IsPlainNode, IsAlone, TableSuits, AllTableSuit}
use Rattle.flat_machine.specs.Wiring.{LeadsToFile, TableStands}
use Rattle.flat_machine.proofs.TableRests.{table_keeps}
use Rattle.flat_machine.proofs.WritingKept.{role_edge}
use Rattle.job_tables.specs.Rows.{nodes_of_job}
use Rattle.job_tables.specs.Jobs.{CopyStands, StandsByKind, JobStands, JobsStand}
use Rattle.job_tables.specs.Changes.{LeavesJobs, AllLeaveJobs}
use Rattle.job_tables.specs.Running.{IsSettledAt, IsUnsettledAt, IsWritableAt, HasUsedFile, JobsRun, IsNoSource, LeavesDisks, AllLeaveDisks}
use Rattle.job_tables.proofs.RowEdges.{in_left, in_right, copy_holds, holds_source}
use Rattle.job_tables.proofs.Changes.{entered, there_node, change_leaves_jobs}
use Rattle.job_tables.proofs.Ended.{moves_by, rest_by, end_is}
use Rattle.job_tables.proofs.RunRows.{KeepsSettled, KeepsWritten, settled_kept, unsettled_kept, writable_kept, used_kept, written_kept}

-- ---- what a job writes is one of its nodes

pub written_by : (row : JobRecord) (k : JobKind) → row.kind ≡ k → target_written row ≡ cond (writes_target k) row.target None
written_by row k e = ap (λ k'. cond (writes_target k') row.target None) e

module _ (t : RunTable) (row : JobRecord) (s : JobStands t row) where
  copy_target : (kind : Kind) (c : CopyStands t row kind) (target : ℕ) → row.target ≡ Some target → Contains row.held target
  copy_target kind c target is =
      let both : Some c.target ≡ Some target = sym c.is_target ∙ is in
      let same : c.target ≡ target = cc both in
      subst (Contains row.held) same (copy_holds t row kind c)

  -- the base or target, by the kind of the job
  pub target_of : (target : ℕ) → row.target ≡ Some target → Contains (nodes_of_job row) target
  target_of target is = by_kind row.kind s.shape
    where
      by_kind : (k : JobKind) → StandsByKind t row k → Contains (nodes_of_job row) target
      by_kind Stream shape =
          let r = shape.reads target is in
          in_right row.held row.read target
          (subst (λ ids. Contains ids target) (sym r.read) (in_right r.between (target ∷ []) target (Contains-here target [])))
      by_kind Commit shape =
          let both : Some shape.base ≡ Some target = sym shape.is_base ∙ is in
          let same : shape.base ≡ target = cc both in
          in_left row.held row.read target
          (subst (Contains row.held) same
          (subst (λ ids. Contains ids shape.base) (sym shape.held)
          (Contains-there row.source (shape.between ++ shape.base ∷ []) shape.base (in_right shape.between (shape.base ∷ []) shape.base (Contains-here shape.base [])))))
      by_kind Mirror c = in_left row.held row.read target (copy_target driver.Mirror c target is)
      by_kind Backup c = in_left row.held row.read target (copy_target driver.BeforeWrite c target is)

  pub target_held : (target : ℕ) → target_written row ≡ Some target → Contains row.held target
  target_held target is = by_kind row.kind refl s.shape
    where
      by_kind : (k : JobKind) → row.kind ≡ k → StandsByKind t row k → Contains row.held target
      by_kind Stream e shape = absurd (let bad : None ≡ Some target = sym (written_by row Stream e) ∙ is in cc bad)
      by_kind Commit e shape =
          let both : Some shape.base ≡ Some target = sym shape.is_base ∙ sym (written_by row Commit e) ∙ is in
          let same : shape.base ≡ target = cc both in
          subst (Contains row.held) same
          (subst (λ ids. Contains ids shape.base) (sym shape.held)
          (Contains-there row.source (shape.between ++ shape.base ∷ []) shape.base (in_right shape.between (shape.base ∷ []) shape.base (Contains-here shape.base []))))
      by_kind Mirror e c = copy_target driver.Mirror c target (sym (written_by row Mirror e) ∙ is)
      by_kind Backup e c = copy_target driver.BeforeWrite c target (sym (written_by row Backup e) ∙ is)

  pub source_has : Contains (nodes_of_job row) row.source
  source_has = in_left row.held row.read row.source (holds_source t row s)

-- ---- changes that spare what some jobs read and write

abbrev pub IsNoTarget : List JobRecord → ℕ → Type 0
IsNoTarget jobs node = (row : JobRecord) → Contains jobs row → target_written row ≢ Some node

abbrev pub Spares : List JobRecord → Change → Type 0
Spares jobs (change.UseFile name) = Unit {0}
Spares jobs (change.Unsettle node) = IsNoSource jobs node
Spares jobs (change.MakeWritable node) = Unit {0}
Spares jobs (change.PutFilter new node) = IsNoSource jobs new.id × IsNoTarget jobs new.id
Spares jobs (change.UseNode slot what node) = Unit {0}
Spares jobs (change.PullFilter filter) = Unit {0}
Spares jobs (change.Rebase node backing) = Unit {0}
Spares jobs (change.Settle node disk) = IsNoTarget jobs node
Spares jobs (change.MakeReadOnly node) = IsNoTarget jobs node
Spares jobs (change.Attach overlay node) = Unit {0}
Spares jobs (change.Move from to but) = Unit {0}
Spares jobs c = ⊥

abbrev pub AllSpare : List JobRecord → List Change → Type 0
AllSpare jobs [] = Unit {0}
AllSpare jobs (c ∷ changes) = Spares jobs c × AllSpare jobs changes

pub spare-append : (jobs : List JobRecord) (a b : List Change) → AllSpare jobs a → AllSpare jobs b → AllSpare jobs (a ++ b)
spare-append jobs [] b h k = k
spare-append jobs (c ∷ a) b h k = (h.0, spare-append jobs a b h.1 k)

pub spare-behind : (jobs : List JobRecord) (a b : List Change) → AllSpare jobs (a ++ b) → AllSpare jobs b
spare-behind jobs [] b h = h
spare-behind jobs (c ∷ a) b h = spare-behind jobs a b h.1

spared_source : (t : RunTable) (jobs : List JobRecord) (c : Change) → Spares jobs c → (row : JobRecord) → Contains jobs row → KeepsSettled t c row.source
spared_source t jobs (change.Unsettle node) s row here = λ same. s row here (sym same)
spared_source t jobs (change.PutFilter new node) s row here = λ same. s.0 row here (sym same)
spared_source t jobs (change.UseFile name) s row here = tt
spared_source t jobs (change.MakeWritable node) s row here = tt
spared_source t jobs (change.UseNode slot what node) s row here = tt
spared_source t jobs (change.PullFilter filter) s row here = tt
spared_source t jobs (change.Rebase node backing) s row here = tt
spared_source t jobs (change.Settle node disk) s row here = tt
spared_source t jobs (change.MakeReadOnly node) s row here = tt
spared_source t jobs (change.Attach overlay node) s row here = tt
spared_source t jobs (change.Move from to but) s row here = tt
spared_source t jobs c s row here = absurd s

pub spared_target : (t : RunTable) (jobs : List JobRecord) (c : Change) → Spares jobs c → (row : JobRecord) (target : ℕ) → Contains jobs row
    → target_written row ≡ Some target → KeepsWritten t c target
spared_target t jobs (change.Settle node disk) s row target here is = λ same. s row here (is ∙ ap Some (sym same))
spared_target t jobs (change.MakeReadOnly node) s row target here is = λ same. s row here (is ∙ ap Some (sym same))
spared_target t jobs (change.PutFilter new node) s row target here is = λ same. s.1 row here (is ∙ ap Some (sym same))
spared_target t jobs (change.UseFile name) s row target here is = tt
spared_target t jobs (change.Unsettle node) s row target here is = tt
spared_target t jobs (change.MakeWritable node) s row target here is = tt
spared_target t jobs (change.UseNode slot what node) s row target here is = tt
spared_target t jobs (change.PullFilter filter) s row target here is = tt
spared_target t jobs (change.Rebase node backing) s row target here is = tt
spared_target t jobs (change.Attach overlay node) s row target here is = tt
spared_target t jobs (change.Move from to but) s row target here is = tt
spared_target t jobs c s row target here is = absurd s

module _ (jobs : List JobRecord) (row : JobRecord) (here : Contains jobs row) where
  pub all_settled : (changes : List Change) (t : RunTable) → AllSpare jobs changes → IsSettledAt t row.source → IsSettledAt (all_changed t changes) row.source
  all_settled [] t s h = h
  all_settled (c ∷ changes) t s h =
      all_settled changes (changed t c) s.1 (settled_kept t c row.source (spared_source t jobs c s.0 row here) h)

  module _ (target : ℕ) (is : target_written row ≡ Some target) where
    pub all_unsettled : (changes : List Change) (t : RunTable) → AllSpare jobs changes → IsUnsettledAt t target → IsUnsettledAt (all_changed t changes) target
    all_unsettled [] t s h = h
    all_unsettled (c ∷ changes) t s h =
        all_unsettled changes (changed t c) s.1 (unsettled_kept t c target (spared_target t jobs c s.0 row target here is) h)

    pub all_writable : (changes : List Change) (t : RunTable) → AllSpare jobs changes → IsWritableAt t target → IsWritableAt (all_changed t changes) target
    all_writable [] t s h = h
    all_writable (c ∷ changes) t s h =
        all_writable changes (changed t c) s.1 (writable_kept t c target (spared_target t jobs c s.0 row target here is) h)

    pub all_used : (changes : List Change) (t : RunTable) → AllSpare jobs changes → HasUsedFile t target → HasUsedFile (all_changed t changes) target
    all_used [] t s h = h
    all_used (c ∷ changes) t s h =
        all_used changes (changed t c) s.1 (used_kept t c target (spared_target t jobs c s.0 row target here is) h)

pub spared_jobs : (t : RunTable) (jobs : List JobRecord) (c : Change) → Spares jobs c → (changed t c).jobs ≡ t.jobs
unfolding changed
spared_jobs t jobs (change.UseFile name) s = refl
spared_jobs t jobs (change.Unsettle node) s = refl
spared_jobs t jobs (change.MakeWritable node) s = refl
spared_jobs t jobs (change.PutFilter new node) s = refl
spared_jobs t jobs (change.UseNode slot what node) s = refl
spared_jobs t jobs (change.PullFilter filter) s = refl
spared_jobs t jobs (change.Rebase node backing) s = refl
spared_jobs t jobs (change.Settle node disk) s = refl
spared_jobs t jobs (change.MakeReadOnly node) s = refl
spared_jobs t jobs (change.Attach overlay node) s = refl
spared_jobs t jobs (change.Move from to but) s = refl
spared_jobs t jobs c s = absurd s

spared_started : (t : RunTable) (jobs : List JobRecord) (c : Change) → Spares jobs c → (changed t c).started ≡ t.started
unfolding changed
spared_started t jobs (change.UseFile name) s = refl
spared_started t jobs (change.Unsettle node) s = refl
spared_started t jobs (change.MakeWritable node) s = refl
spared_started t jobs (change.PutFilter new node) s = refl
spared_started t jobs (change.UseNode slot what node) s = refl
spared_started t jobs (change.PullFilter filter) s = refl
spared_started t jobs (change.Rebase node backing) s = refl
spared_started t jobs (change.Settle node disk) s = refl
spared_started t jobs (change.MakeReadOnly node) s = refl
spared_started t jobs (change.Attach overlay node) s = refl
spared_started t jobs (change.Move from to but) s = refl
spared_started t jobs c s = absurd s

pub record RunsOn (t now : RunTable) : Type 0 where
  pub run : JobsRun now
  pub jobs : now.jobs ≡ t.jobs
  pub started : now.started ≡ t.started

spared_run : (t : RunTable) (c : Change) → Spares t.jobs c → JobsRun t → RunsOn t (changed t c)
spared_run t c s r = record {
  run = record {
    numbers = λ row there. subst (λ n. row.number < n) (sym (spared_started t t.jobs c s)) (r.numbers row (was row there));
    sources = λ row there. settled_kept t c row.source (spared_source t t.jobs c s row (was row there)) (r.sources row (was row there));
    targets = λ row target there is.
        written_kept t c target (spared_target t t.jobs c s row target (was row there) is) (r.targets row target (was row there) is);
  };
  jobs = spared_jobs t t.jobs c s;
  started = spared_started t t.jobs c s;
}
  where
    was : (row : JobRecord) → Contains (changed t c).jobs row → Contains t.jobs row
    was row there = subst (λ rows. Contains rows row) (spared_jobs t t.jobs c s) there

pub all_spared : (changes : List Change) (t : RunTable) → AllSpare t.jobs changes → JobsRun t → RunsOn t (all_changed t changes)
all_spared [] t s r = record { run = r; jobs = refl; started = refl }
all_spared (c ∷ changes) t s r =
    let one = spared_run t c s.0 r in
    let rest = all_spared changes (changed t c) (subst (λ jobs. AllSpare jobs changes) (sym one.jobs) s.1) one.run in
    record { run = rest.run; jobs = rest.jobs ∙ one.jobs; started = rest.started ∙ one.started }

-- ---- a job ends

module _ (t : RunTable) (h : TableStands t) (j : JobsStand t) (row : JobRecord) (here : Contains t.jobs row) where
  abbrev pub left : List JobRecord
  left = without_job row.number t.jobs

  record IsOther (b : JobRecord) : Type 0 where
    there : Contains t.jobs b
    slot : b.slot ≢ row.slot

  other : (b : JobRecord) → Contains left b → IsOther b
  other b at =
      let r = Contains-filter (λ (x : JobRecord). not (x.number == row.number)) t.jobs b at in
      record {
        there = r.0;
        slot = λ same.
            let one : b ≡ row = j.slots b row r.0 here same in
            let number : (b.number == row.number) ≡ true = eq-eqb b.number row.number (ap (λ (x : JobRecord). x.number) one) in
            false≢true (sym (ap not number) ∙ r.1);
      }

  no_source : (node : ℕ) → Contains (nodes_of_job row) node → IsNoSource left node
  no_source node has b at is =
      let o = other b at in
      o.slot (j.apart b row node o.there here (subst (Contains b.held) is (holds_source t b (j.each b o.there))) has)

  no_target : (node : ℕ) → Contains (nodes_of_job row) node → IsNoTarget left node
  no_target node has b at is =
      let o = other b at in
      o.slot (j.apart b row node o.there here (target_held t b (j.each b o.there) node is) has)

  -- nor is the file of a base
  no_file : (base file : ℕ) → Contains (nodes_of_job row) base → child t base File ≡ Some file → IsNoTarget left file
  no_file base file has is b at target =
      let o = other b at in
      let stands = j.each b o.there in
      let plain = stands.plain file (in_left b.held b.read file (target_held t b stands file target)) in
      let below = (j.each row here).plain base has in
      let x = role_edge (Node base) File t.edges file is in
      let base_at = find-Some (λ (r : NodeRecord). r.id == base) t.nodes below.row below.there in
      let file_at = find-Some (λ (r : NodeRecord). r.id == file) t.nodes plain.row plain.there in
      let f : LeadsToFile t below.row plain.row = record {
        over_there = base_at.0;
        under_there = file_at.0;
        edge = x.edge;
        there = x.there;
        parent = x.from ∙ ap Node (sym (eqb-true below.row.id base base_at.1));
        role = x.role_is;
        child = x.to ∙ sym (eqb-true plain.row.id file file_at.1);
      } in
      by_name plain below.row f below.own plain.row.filename refl
    where
      by_name : (p : IsPlainNode t file) (over : NodeRecord) → LeadsToFile t over p.row → filter_role over.kind ≡ None → (name : Option (List ℕ))
          → p.row.filename ≡ name → ⊥
      by_name p over f own (Some name) named = p.free p.row over p.there (subst IsSome (sym named) refl) f own
      by_name p over f own None named = let bad = subst IsSome own (h.filtered over p.row f named) in cc

  spare_pulled : (filter : Option ℕ) → AllSpare left (pulled filter)
  spare_pulled None = tt
  spare_pulled (Some filter) = (tt, tt)

  spare_overlay : (overlay base : Option ℕ) → AllSpare left (overlay_to overlay base)
  spare_overlay None base = tt
  spare_overlay (Some overlay) base = (tt, tt)

  spare_parents : (source : ℕ) (filter target : Option ℕ) → AllSpare left (parents_to source filter target)
  spare_parents source (Some filter) (Some target) = (tt, tt)
  spare_parents source (Some filter) None = tt
  spare_parents source None target = tt

  spare_moves : (k : JobKind) (o : JobOutcome) → AllSpare left (moves row k o)
  spare_moves Stream Completed = (tt, tt)
  spare_moves Commit Completed = spare_overlay (slice_get row.read 0) row.target
  spare_moves Commit Pivoted = spare_parents row.source row.filter row.target
  spare_moves Mirror Pivoted = spare_parents row.source row.filter row.target
  spare_moves k o = tt

  spare_settle : (b : Bool) (target : Option ℕ) (disk : NewDisk) → row.target ≡ target → AllSpare left (settle_if b target disk)
  spare_settle true (Some target) disk is = (no_target target (target_of t row (j.each row here) target is), tt)
  spare_settle true None disk is = tt
  spare_settle false target disk is = tt

  spare_settled : (k : JobKind) → AllSpare left (settled_by row k)
  spare_settled Stream = tt
  spare_settled Commit = spare_settle true row.target (OfNode row.source) refl
  spare_settled Mirror = spare_settle true row.target (OfNode row.source) refl
  spare_settled Backup = spare_settle (settles_target row.bitmap) row.target (OfStart row.number) refl

  spare_top : (k : JobKind) (o : JobOutcome) → AllSpare left (top_lost row k o)
  spare_top Commit Pivoted = (no_source row.source (source_has t row (j.each row here)), tt)
  spare_top k o = tt

  spare_rest : (k : JobKind) (o : JobOutcome) → AllSpare left (rest_by row k o)
  spare_rest k Stopped = tt
  spare_rest k Completed = spare-append left (settled_by row k) (top_lost row k Completed) (spare_settled k) (spare_top k Completed)
  spare_rest k Pivoted = spare-append left (settled_by row k) (top_lost row k Pivoted) (spare_settled k) (spare_top k Pivoted)
  spare_rest k Copied = spare-append left (settled_by row k) (top_lost row k Copied) (spare_settled k) (spare_top k Copied)

  spare_if : (b : Bool) (node : Option ℕ) → ((n : ℕ) → node ≡ Some n → IsNoTarget left n) → AllSpare left (read_only_if b node)
  spare_if true (Some node) none = (none node refl, tt)
  spare_if true None none = tt
  spare_if false node none = tt

  abbrev file_of : Option ℕ
  file_of = option_and_then (λ base. child t base File) row.target

  spare_back : AllSpare left (read_only_if row.made_writable.base row.target ++ read_only_if row.made_writable.file file_of)
  spare_back =
      spare-append left (read_only_if row.made_writable.base row.target) (read_only_if row.made_writable.file file_of)
      (spare_if row.made_writable.base row.target (λ n is. no_target n (target_of t row (j.each row here) n is)))
      (spare_if row.made_writable.file file_of (by_base row.target refl))
    where
      by_base : (target : Option ℕ) → row.target ≡ target → (n : ℕ) → option_and_then (λ base. child t base File) target ≡ Some n → IsNoTarget left n
      by_base None e n is = absurd (let bad : None ≡ Some n = is in cc bad)
      by_base (Some base) e n is = no_file base n (target_of t row (j.each row here) base e) is

  spare_given : (o : JobOutcome) → AllSpare left (given_back_to t row o)
  spare_given Pivoted = tt
  spare_given Completed = spare_back
  spare_given Copied = spare_back
  spare_given Stopped = spare_back

  spare_moved : (k : JobKind) (o : JobOutcome) → AllSpare left (moves_by row k o)
  spare_moved k Stopped = tt
  spare_moved k Completed = spare_moves k Completed
  spare_moved k Pivoted = spare_moves k Pivoted
  spare_moved k Copied = spare_moves k Copied

  over_run : (drops : Bool) → JobsRun t → JobsRun (changed t (change.EndJob row.number row.slot drops))
  unfolding changed
  over_run drops r = record {
    numbers = λ b at. r.numbers b (other b at).there;
    sources = λ b at. r.sources b (other b at).there;
    targets = λ b target at is.
        let w = r.targets b target (other b at).there is in
        record { writable = w.writable; unsettled = w.unsettled; used = w.used };
  }

  pub over_jobs : (drops : Bool) → (changed t (change.EndJob row.number row.slot drops)).jobs ≡ left
  unfolding changed
  over_jobs drops = refl

  abbrev pub behind_over : JobOutcome → List Change
  behind_over o = (pulled row.filter ++ moves_by row row.kind o) ++ (rest_by row row.kind o ++ given_back_to t row o)

  pub end_spares : (o : JobOutcome) → AllSpare left (behind_over o)
  end_spares o =
      spare-append left (pulled row.filter ++ moves_by row row.kind o) (rest_by row row.kind o ++ given_back_to t row o)
      (spare-append left (pulled row.filter) (moves_by row row.kind o) (spare_pulled row.filter) (spare_moved row.kind o))
      (spare-append left (rest_by row row.kind o) (given_back_to t row o) (spare_rest row.kind o) (spare_given o))

  pub ends_keep_run : (o : JobOutcome) → JobsRun t → JobsRun (all_changed t (end_edits t row o))
  ends_keep_run o r =
      let drops : Bool = drops_aside o row.bitmap in
      subst (λ changes. JobsRun (all_changed t changes)) (sym (end_is t row o))
      (all_spared (behind_over o) (changed t (change.EndJob row.number row.slot drops))
      (subst (λ jobs. AllSpare jobs (behind_over o)) (sym (over_jobs drops)) (end_spares o)) (over_run drops r)).run

-- ---- changes that leave jobs and disks

pub record WasJob (t : RunTable) (row : JobRecord) : Type 0 where
  pub old : JobRecord
  pub there : Contains t.jobs old
  pub number : row.number ≡ old.number
  pub slot : row.slot ≡ old.slot
  pub kind : row.kind ≡ old.kind
  pub source : row.source ≡ old.source
  pub written : target_written row ≡ target_written old
  pub copied : copied_to row row.kind ≡ copied_to old old.kind

same_job : (t : RunTable) (row : JobRecord) → Contains t.jobs row → WasJob t row
same_job t row there = record { old = row; there = there; number = refl; slot = refl; kind = refl; source = refl; written = refl; copied = refl }

asked_job : (t : RunTable) (number : ℕ) (new : AskedEnd) (row : JobRecord) → Contains (map (asked_for number new) t.jobs) row → WasJob t row
asked_job t number new row at =
    let r = Contains-map (asked_for number new) t.jobs row at in
    by_test r.0 r.1 (r.0.number == number) r.2
  where
    by_test : (old : JobRecord) → Contains t.jobs old → (b : Bool) → row ≡ cond b (record old { asked = followed old.asked new }) old → WasJob t row
    by_test old there true is = record {
      old = old;
      there = there;
      number = ap (λ (x : JobRecord). x.number) is;
      slot = ap (λ (x : JobRecord). x.slot) is;
      kind = ap (λ (x : JobRecord). x.kind) is;
      source = ap (λ (x : JobRecord). x.source) is;
      written = ap target_written is;
      copied = ap (λ (x : JobRecord). copied_to x x.kind) is;
    }
    by_test old there false is = subst (WasJob t) (sym is) (same_job t old there)

ready_job : (t : RunTable) (number : ℕ) (row : JobRecord) → Contains (map (ready_for number) t.jobs) row → WasJob t row
ready_job t number row at =
    let r = Contains-map (ready_for number) t.jobs row at in
    by_test r.0 r.1 (r.0.number == number) r.2
  where
    by_test : (old : JobRecord) → Contains t.jobs old → (b : Bool) → row ≡ cond b (record old { is_ready = true }) old → WasJob t row
    by_test old there true is = record {
      old = old;
      there = there;
      number = ap (λ (x : JobRecord). x.number) is;
      slot = ap (λ (x : JobRecord). x.slot) is;
      kind = ap (λ (x : JobRecord). x.kind) is;
      source = ap (λ (x : JobRecord). x.source) is;
      written = ap target_written is;
      copied = ap (λ (x : JobRecord). copied_to x x.kind) is;
    }
    by_test old there false is = subst (WasJob t) (sym is) (same_job t old there)

pub was_job : (t : RunTable) (c : Change) → LeavesJobs t c → (row : JobRecord) → Contains (changed t c).jobs row → WasJob t row
unfolding changed
was_job t change.Negotiate leaves row at = same_job t row at
was_job t (change.KeepId id) leaves row at = same_job t row at
was_job t (change.DropId id) leaves row at = same_job t row at
was_job t (change.MakeFile name size) leaves row at = same_job t row at
was_job t (change.FormatFile node name size backing_file backing_fmt) leaves row at = same_job t row at
was_job t (change.SpoilFile name) leaves row at = same_job t row at
was_job t (change.UseFile name) leaves row at = same_job t row at
was_job t (change.AddFile new) leaves row at = same_job t row at
was_job t (change.AddFormat new file backing) leaves row at = same_job t row at
was_job t (change.AddFilter new child) leaves row at = same_job t row at
was_job t (change.RemoveNode node) leaves row at = same_job t row at
was_job t (change.Unsettle node) leaves row at = same_job t row at
was_job t (change.AskJob number new) leaves row at = asked_job t number new row at
was_job t (change.ReadyJob number) leaves row at = ready_job t number row at
was_job t (change.AddDevice device node) leaves row at = same_job t row at
was_job t (change.RemoveDevice number) leaves row at = same_job t row at
was_job t (change.AddBitmap new) leaves row at = same_job t row at
was_job t (change.RemoveBitmap node name) leaves row at = same_job t row at
was_job t (change.TurnBitmap node name on) leaves row at = same_job t row at
was_job t (change.ClearBitmap node name) leaves row at = same_job t row at
was_job t (change.MergeBitmap node name source_node source) leaves row at = same_job t row at
was_job t c leaves row at = absurd leaves

was_started : (t : RunTable) (c : Change) → LeavesJobs t c → (changed t c).started ≡ t.started
unfolding changed
was_started t change.Negotiate leaves = refl
was_started t (change.KeepId id) leaves = refl
was_started t (change.DropId id) leaves = refl
was_started t (change.MakeFile name size) leaves = refl
was_started t (change.FormatFile node name size backing_file backing_fmt) leaves = refl
was_started t (change.SpoilFile name) leaves = refl
was_started t (change.UseFile name) leaves = refl
was_started t (change.AddFile new) leaves = refl
was_started t (change.AddFormat new file backing) leaves = refl
was_started t (change.AddFilter new child) leaves = refl
was_started t (change.RemoveNode node) leaves = refl
was_started t (change.Unsettle node) leaves = refl
was_started t (change.AskJob number new) leaves = refl
was_started t (change.ReadyJob number) leaves = refl
was_started t (change.AddDevice device node) leaves = refl
was_started t (change.RemoveDevice number) leaves = refl
was_started t (change.AddBitmap new) leaves = refl
was_started t (change.RemoveBitmap node name) leaves = refl
was_started t (change.TurnBitmap node name on) leaves = refl
was_started t (change.ClearBitmap node name) leaves = refl
was_started t (change.MergeBitmap node name source_node source) leaves = refl
was_started t c leaves = absurd leaves

-- a `file` node of a job's has a parent
pub file_used_by : (t : RunTable) → TableStands t → JobsStand t → (job : JobRecord) → Contains t.jobs job → (node : NodeRecord)
    → Contains t.nodes node → Contains (nodes_of_job job) node.id → (name : List ℕ) → node.filename ≡ Some name → IsAlone t node.id → ⊥
file_used_by t h j job here node there has name named alone =
    let x = entered t h job (j.each job here) node.id has node (h.apart node there) (subst IsSome (sym named) refl) in
    alone x.0 x.1 x.2

fresh_node : (t : RunTable) → JobsStand t → (job : JobRecord) → Contains t.jobs job → (node : ℕ) → Contains (nodes_of_job job) node → (id : ℕ)
    → node_by_id t id ≡ None → id ≢ node
fresh_node t j job here node has id fresh same =
    let bad = subst IsSome (ap (node_by_id t) (sym same) ∙ fresh) (there_node t j job node here has) in cc

module _ (t : RunTable) (h : TableStands t) (j : JobsStand t) (job : JobRecord) (here : Contains t.jobs job) where
  leaves_source : (c : Change) → TableSuits t c → LeavesJobs t c → LeavesDisks t c → KeepsSettled t c job.source
  leaves_source (change.FormatFile node name size backing_file backing_fmt) suits leaves disks = λ same.
      let at : disks.row.id ≡ job.source = disks.is_node ∙ same in
      file_used_by t h j job here disks.row disks.stands.there
      (subst (Contains (nodes_of_job job)) (sym at) (source_has t job (j.each job here))) name disks.stands.filename
      (subst (IsAlone t) (sym disks.is_node) disks.alone)
  leaves_source (change.SpoilFile name) suits leaves disks = λ node there at named.
      file_used_by t h j job here node there (subst (Contains (nodes_of_job job)) (sym at) (source_has t job (j.each job here))) name named
      (disks node (record { there = there; filename = named }))
  leaves_source (change.AddFile new) suits leaves disks = fresh_node t j job here job.source (source_has t job (j.each job here)) new.id suits.fresh
  leaves_source (change.AddFormat new file backing) suits leaves disks = (
    fresh_node t j job here job.source (source_has t job (j.each job here)) new.id suits.fresh,
    λ same.
        let at = find-Some (λ (r : NodeRecord). r.id == file) t.nodes suits.under suits.found in
        let id : suits.under.id ≡ file = eqb-true suits.under.id file at.1 in
        file_used_by t h j job here suits.under at.0
        (subst (Contains (nodes_of_job job)) (sym (id ∙ same)) (source_has t job (j.each job here))) suits.name suits.of_file
        (subst (IsAlone t) (sym id) suits.alone),
  )
  leaves_source (change.AddFilter new child) suits leaves disks = fresh_node t j job here job.source (source_has t job (j.each job here)) new.id suits.fresh
  leaves_source (change.Unsettle node) suits leaves disks = λ same. disks job here (sym same)
  leaves_source change.Negotiate suits leaves disks = tt
  leaves_source (change.KeepId id) suits leaves disks = tt
  leaves_source (change.DropId id) suits leaves disks = tt
  leaves_source (change.MakeFile name size) suits leaves disks = tt
  leaves_source (change.UseFile name) suits leaves disks = tt
  leaves_source (change.RemoveNode node) suits leaves disks = tt
  leaves_source (change.AskJob number new) suits leaves disks = tt
  leaves_source (change.ReadyJob number) suits leaves disks = tt
  leaves_source (change.AddDevice device node) suits leaves disks = tt
  leaves_source (change.RemoveDevice number) suits leaves disks = tt
  leaves_source (change.AddBitmap new) suits leaves disks = tt
  leaves_source (change.RemoveBitmap node name) suits leaves disks = tt
  leaves_source (change.TurnBitmap node name on) suits leaves disks = tt
  leaves_source (change.ClearBitmap node name) suits leaves disks = tt
  leaves_source (change.MergeBitmap node name source_node source) suits leaves disks = tt
  leaves_source c suits leaves disks = absurd leaves

  module _ (target : ℕ) (is : target_written job ≡ Some target) where
    target_has : Contains (nodes_of_job job) target
    target_has = in_left job.held job.read target (target_held t job (j.each job here) target is)

    pub leaves_target : (c : Change) → TableSuits t c → LeavesJobs t c → LeavesDisks t c → KeepsWritten t c target
    leaves_target (change.MakeFile name size) suits leaves disks = λ node there at named. disks node (record { there = there; filename = named })
    leaves_target (change.FormatFile node name size backing_file backing_fmt) suits leaves disks = λ row there at named.
        let same : row.id ≡ node = h.alone name row disks.row (record { there = there; filename = named }) disks.stands ∙ disks.is_node in
        file_used_by t h j job here row there (subst (Contains (nodes_of_job job)) (sym at) target_has) name named (subst (IsAlone t) (sym same) disks.alone)
    leaves_target (change.AddFile new) suits leaves disks = fresh_node t j job here target target_has new.id suits.fresh
    leaves_target (change.AddFormat new file backing) suits leaves disks = fresh_node t j job here target target_has new.id suits.fresh
    leaves_target (change.AddFilter new child) suits leaves disks = fresh_node t j job here target target_has new.id suits.fresh
    leaves_target (change.SpoilFile name) suits leaves disks = tt
    leaves_target (change.Unsettle node) suits leaves disks = tt
    leaves_target change.Negotiate suits leaves disks = tt
    leaves_target (change.KeepId id) suits leaves disks = tt
    leaves_target (change.DropId id) suits leaves disks = tt
    leaves_target (change.UseFile name) suits leaves disks = tt
    leaves_target (change.RemoveNode node) suits leaves disks = tt
    leaves_target (change.AskJob number new) suits leaves disks = tt
    leaves_target (change.ReadyJob number) suits leaves disks = tt
    leaves_target (change.AddDevice device node) suits leaves disks = tt
    leaves_target (change.RemoveDevice number) suits leaves disks = tt
    leaves_target (change.AddBitmap new) suits leaves disks = tt
    leaves_target (change.RemoveBitmap node name) suits leaves disks = tt
    leaves_target (change.TurnBitmap node name on) suits leaves disks = tt
    leaves_target (change.ClearBitmap node name) suits leaves disks = tt
    leaves_target (change.MergeBitmap node name source_node source) suits leaves disks = tt
    leaves_target c suits leaves disks = absurd leaves

pub change_leaves_run : (t : RunTable) (c : Change) → TableStands t → JobsStand t → TableSuits t c → LeavesJobs t c → LeavesDisks t c → JobsRun t
    → JobsRun (changed t c)
change_leaves_run t c h j suits leaves disks r = record {
  numbers = λ row at.
      let w = was_job t c leaves row at in
      subst (λ n. n < (changed t c).started) (sym w.number) (subst (λ n. w.old.number < n) (sym (was_started t c leaves)) (r.numbers w.old w.there));
  sources = λ row at.
      let w = was_job t c leaves row at in
      subst (IsSettledAt (changed t c)) (sym w.source)
      (settled_kept t c w.old.source (leaves_source t h j w.old w.there c suits leaves disks) (r.sources w.old w.there));
  targets = λ row target at is.
      let w = was_job t c leaves row at in
      let old_is : target_written w.old ≡ Some target = sym w.written ∙ is in
      written_kept t c target (leaves_target t h j w.old w.there target old_is c suits leaves disks) (r.targets w.old target w.there old_is);
}

pub changes_leave_run : (changes : List Change) (t : RunTable) → TableStands t → JobsStand t → AllTableSuit t changes → AllLeaveJobs t changes
    → AllLeaveDisks t changes → JobsRun t → JobsRun (all_changed t changes)
changes_leave_run [] t h j suits leaves disks r = r
changes_leave_run (c ∷ changes) t h j suits leaves disks r =
    changes_leave_run changes (changed t c) (table_keeps t c suits.0 h) (change_leaves_jobs t c h j suits.0 leaves.0) suits.1 leaves.1 disks.1
    (change_leaves_run t c h j suits.0 leaves.0 disks.0 r)

pub ready_run : (t : RunTable) (number : ℕ) → JobsRun t → JobsRun (changed t (change.ReadyJob number))
ready_run t number r = record {
  numbers = λ row at.
      let w = was_job t (change.ReadyJob number) tt row at in
      subst (λ n. n < (changed t (change.ReadyJob number)).started) (sym w.number)
      (subst (λ n. w.old.number < n) (sym (was_started t (change.ReadyJob number) tt)) (r.numbers w.old w.there));
  sources = λ row at.
      let w = was_job t (change.ReadyJob number) tt row at in
      subst (IsSettledAt (changed t (change.ReadyJob number))) (sym w.source)
      (settled_kept t (change.ReadyJob number) w.old.source tt (r.sources w.old w.there));
  targets = λ row target at is.
      let w = was_job t (change.ReadyJob number) tt row at in
      written_kept t (change.ReadyJob number) target tt (r.targets w.old target w.there (sym w.written ∙ is));
}

-- a run begins without jobs
pub opening_run : (guests : List (List ℕ)) → JobsRun (opening_table guests)
opening_run guests = record {
  numbers = λ row there. absurd (Contains-nil row there);
  sources = λ row there. absurd (Contains-nil row there);
  targets = λ row target there. absurd (Contains-nil row there);
}

-- behind a snapshot
pub snapshots_leave_run : (t : RunTable) (node overlay : ℕ) → JobsRun t
    → JobsRun (all_changed t (change.Attach overlay node ∷ change.Move node overlay overlay ∷ []))
snapshots_leave_run t node overlay r = (all_spared (change.Attach overlay node ∷ change.Move node overlay overlay ∷ []) t (tt, (tt, tt)) r).run
