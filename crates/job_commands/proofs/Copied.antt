-- A backup, a mirror or a commit that an accepted command begins can be copied.
use Rattle.std.proofs.Common.{◌≡◌, ℕ, Bool, true, false, List, [], ◌∷◌, ◌++◌, length, refl, sym, ap, ◌∙◌, subst, Option, Some, None}
use Rattle.std.specs.Prelude.{◌==◌, ◌&&◌, codes, bytes_eq, option_and_then}
use Rattle.std.specs.List.{Contains}
use Rattle.std.specs.Option.{option_map}
use Rattle.std.proofs.lemmas.Bool.{false≢true, eqb-true, not-false}
use Rattle.blk_bitmaps.specs.Rows.{granule_count}
use Rattle.blk_graph.proofs.Members.{Contains-here, Contains-there, find-Some}
use Rattle.qmp_codec.specs.declared.command.Command.TheVariants as command
use Rattle.qmp_codec.specs.declared.jobs.Backup.{Backup as BackupCommand}
use Rattle.qmp_codec.specs.declared.jobs.Commit.{Commit as CommitCommand}
use Rattle.qmp_codec.specs.declared.jobs.Mirror.{Mirror as MirrorCommand}
use Rattle.qmp_asks.specs.declared.ask.Ask.TheVariants as ask
use Rattle.qmp_asks.specs.declared.ask.Drivers.TheVariants as drivers
use Rattle.qmp_asks.specs.declared.ask.JobNodes.TheVariants.{Copy}
use Rattle.qmp_asks.specs.CommandAsks.{asks_of}
use Rattle.qmp_asks.specs.JobAsks.{on_error_value, job_values, commit_nodes, commit_names, commit_rest, is_other, mirror_values, mirror_names, mirror_rest, backup_values, backup_names, backup_rest}
use Rattle.qmp_rules.specs.declared.change.Change.{Change}
use Rattle.qmp_rules.specs.declared.change.Change.TheVariants as change
use Rattle.qmp_rules.specs.declared.rows.NodeRecord.{NodeRecord}
use Rattle.qmp_rules.specs.declared.rows.JobRecord.{JobRecord}
use Rattle.qmp_rules.specs.declared.rows.UsedBitmap.{UsedBitmap}
use Rattle.qmp_rules.specs.declared.told.Told.{Told}
use Rattle.qmp_rules.specs.Asks.{holds, id_or, sizes_differ}
use Rattle.qmp_rules.specs.Chains.{filter_role, is_settled}
use Rattle.qmp_rules.specs.Edits.{free_id, commit_job, mirror_job, backup_job, used_bitmap, edits_of}
use Rattle.qmp_rules.specs.Ends.{settles_target}
use Rattle.qmp_rules.specs.Queries.{bytes_of_node}
use Rattle.qmp_rules.specs.Table.{RunTable, node_by_id, id_named}
use Rattle.flat_machine.specs.Agreement.{Contents, ReadAsDisks}
use Rattle.flat_machine.specs.Changed.{name_if, overlay_file, stepped, all_stepped}
use Rattle.flat_machine.specs.Jobs.{granules_of, target_written}
use Rattle.flat_machine.specs.Marking.{is_dirty_of, dirty_at}
use Rattle.flat_machine.specs.State.{State, Dirty, bytes_in, bytes_at_node, filename_of}
use Rattle.flat_machine.specs.Suiting.{IsPlainNode}
use Rattle.flat_machine.specs.Wiring.{TableStands}
use Rattle.flat_machine.proofs.Accepted.{free_fresh, no_filter}
use Rattle.flat_machine.proofs.Asked.{not-refused, NoneHolds, none-holds, none-behind, good-value, found-named, takes-driver, room-left}
use Rattle.flat_machine.proofs.Kept.{own_disk}
use Rattle.flat_machine.proofs.Resting.{stepped_table}
use Rattle.flat_machine.proofs.TableSuited.{named-row, own-settled}
use Rattle.job_entries.specs.Found.{FindsWhole}
use Rattle.job_entries.specs.Starts.{ShowsFilter}
use Rattle.job_tables.specs.Accepted.{IsMet}
use Rattle.job_tables.specs.Jobs.{JobsStand, EdgesAreDrawn}
use Rattle.job_tables.specs.Rows.{nodes_of_job}
use Rattle.job_tables.specs.Running.{JobsRun}
use Rattle.job_tables.specs.Starts.{CommitBegins}
use Rattle.job_tables.proofs.CopyBegins.{CopyAsked, backup_asked, mirror_asked}
use Rattle.job_tables.proofs.RowEdges.{in_left, in_right}
use Rattle.job_tables.proofs.StartCommands.{met_commit}
use Rattle.job_progress.specs.Beginning.{AreGranulesOf, CanBeCopied}
use Rattle.job_progress.specs.Piecing.{follows}
use Rattle.job_commands.specs.Copies.{DisksStand}
use Rattle.job_commands.specs.Granules.{GranulesStand}
use Rattle.job_commands.specs.Whole.{HaveRowSizes, DisksAreWhole}
use Rattle.job_commands.proofs.Copies.{begun_among}
use Rattle.job_commands.proofs.GranuleSizes.{granule_fits}
use Rattle.job_commands.proofs.Shapes.{BeginsAmong}
use Rattle.job_commands.proofs.Sizes.{HasLater, AllLeaveNode, changes_stay, size_there}
use Rattle.job_commands.proofs.Spared.{Prepares, AllPrepare, IsUse, AreUses}

-- ---- the changes of a start leave disks, and what is dirty

abbrev pub IsOfStart : Change → Type 0
IsOfStart (change.UseFile name) = Unit {0}
IsOfStart (change.Unsettle node) = Unit {0}
IsOfStart (change.MakeWritable node) = Unit {0}
IsOfStart (change.PutFilter row node) = Unit {0}
IsOfStart (change.StartJob row) = Unit {0}
IsOfStart (change.UseNode slot what node) = Unit {0}
IsOfStart c = ⊥

abbrev pub AreOfStart : List Change → Type 0
AreOfStart [] = Unit {0}
AreOfStart (c ∷ changes) = IsOfStart c × AreOfStart changes

prepare_of : (t : RunTable) (before behind : List Change) → AllPrepare t before → AreOfStart behind → AreOfStart (before ++ behind)
prepare_of t [] behind p k = k
prepare_of t (c ∷ before) behind p k = (one c p.0, prepare_of t before behind p.1 k)
  where
    one : (x : Change) → Prepares t x → IsOfStart x
    one (change.UseFile name) q = tt
    one (change.Unsettle node) q = tt
    one (change.MakeWritable node) q = tt
    one (change.PutFilter row node) q = tt
    one x q = absurd q

uses_of_start : (changes : List Change) → AreUses changes → AreOfStart changes
uses_of_start [] u = tt
uses_of_start (c ∷ changes) u = (one c u.0, uses_of_start changes u.1)
  where
    one : (x : Change) → IsUse x → IsOfStart x
    one (change.UseNode slot what node) q = tt
    one x q = absurd q

pub begins_of_start : (t : RunTable) (row : JobRecord) (changes : List Change) → BeginsAmong t row changes → AreOfStart changes
begins_of_start t row changes b =
    subst AreOfStart (sym b.is) (prepare_of t b.before (change.StartJob row ∷ b.behind) b.prepare (tt, uses_of_start b.behind b.uses))

record SameBytes (s now : State) : Type 0 where
  disks : now.disks ≡ s.disks
  dirty : now.dirty ≡ s.dirty

named_same : (name : Option (List ℕ)) (s : State) → SameBytes s (name_if name s)
named_same None s = record { disks = refl; dirty = refl }
named_same (Some name) s = record { disks = refl; dirty = refl }

one_same : (s : State) (c : Change) → IsOfStart c → SameBytes s (stepped s c)
one_same s (change.UseFile name) k = record { disks = refl; dirty = refl }
one_same s (change.Unsettle node) k = record { disks = refl; dirty = refl }
one_same s (change.MakeWritable node) k = let n = named_same (filename_of s.table node) s in record { disks = n.disks; dirty = n.dirty }
one_same s (change.PutFilter row node) k = record { disks = refl; dirty = refl }
one_same s (change.StartJob row) k = let n = named_same (overlay_file s.table row row.kind) s in record { disks = n.disks; dirty = n.dirty }
one_same s (change.UseNode slot what node) k = record { disks = refl; dirty = refl }
one_same s c k = absurd k

all_same : (changes : List Change) (s : State) → AreOfStart changes → SameBytes s (all_stepped s changes)
all_same [] s k = record { disks = refl; dirty = refl }
all_same (c ∷ changes) s k =
    let one = one_same s c k.0 in
    let rest = all_same changes (stepped s c) k.1 in
    record { disks = rest.disks ∙ one.disks; dirty = rest.dirty ∙ one.dirty }

start_leaves : (node : ℕ) (changes : List Change) → AreOfStart changes → AllLeaveNode node changes
start_leaves node [] k = tt
start_leaves node (change.UseFile name ∷ changes) k = (tt, start_leaves node changes k.1)
start_leaves node (change.Unsettle id ∷ changes) k = (tt, start_leaves node changes k.1)
start_leaves node (change.MakeWritable id ∷ changes) k = (tt, start_leaves node changes k.1)
start_leaves node (change.PutFilter row over ∷ changes) k = (tt, start_leaves node changes k.1)
start_leaves node (change.StartJob row ∷ changes) k = (tt, start_leaves node changes k.1)
start_leaves node (change.UseNode slot what id ∷ changes) k = (tt, start_leaves node changes k.1)
start_leaves node (c ∷ changes) k = absurd k.0

-- ---- the nodes of a copy

pub record CopyNodes (t : RunTable) (from into : ℕ) : Type 0 where
  pub source : NodeRecord
  pub source_at : node_by_id t from ≡ Some source
  pub source_own : filter_role source.kind ≡ None
  pub to : NodeRecord
  pub to_at : node_by_id t into ≡ Some to
  pub to_own : filter_role to.kind ≡ None
  pub sizes : to.size ≡ source.size

-- of a backup or a mirror, by their names
pub record NamedNodes (t : RunTable) (device target : List ℕ) : Type 0 where
  pub into : ℕ
  pub named : id_named t target ≡ Some into
  pub nodes : CopyNodes t (id_or 0 t (Some device)) into

pub copy_nodes : (t : RunTable) (told : Told) → TableStands t → (device target : List ℕ) → CopyAsked t told device target
    → holds t told (ask.EqualSizes (Copy device target)) ≡ None → NamedNodes t device target
unfolding holds
copy_nodes t told h device target a equal =
    let x = found-named t told device a.device_found in
    let y = found-named t told target a.target_found in
    let x_there = (named-row t told h device x.0 x.1).0 in
    let y_there = (named-row t told h target y.0 y.1).0 in
    record {
      into = y.0.id;
      named = rw y.1 refl;
      nodes = record {
        source = x.0;
        source_at = rw x.1 (h.apart x.0 x_there);
        source_own = no_filter x.0.kind (takes-driver t told device drivers.FileRawOrQcow2 x.0 x.1 a.device_drives);
        to = y.0;
        to_at = h.apart y.0 y_there;
        to_own = no_filter y.0.kind (takes-driver t told target drivers.FileRawOrQcow2 y.0 y.1 a.target_drives);
        sizes = sym (eqb-true x.0.size y.0.size (not-false (x.0.size == y.0.size) (not-refused _ _ (rw (x.1, y.1) at equal))));
      };
    }

-- of a commit the top and the base
commit_sizes : (t : RunTable) (told : Told) (c : CommitCommand (List ℕ)) → IsMet t told (command.BlockCommit c) → holds t told (ask.EqualSizes (commit_nodes c)) ≡ None
unfolding asks_of
commit_sizes t told c met =
    let before = on_error_value (codes "on-error") c.on_error ∷ job_values c.options ++ commit_names c in
    let asks : NoneHolds t told (before ++ commit_rest c) = none-holds t told (asks_of (command.BlockCommit c)) met.asks in
    (none-behind t told before (commit_rest c) asks).1.1.1.1.1.1.1.1.1.1.1.1.1.0

commit_nodes_are : (t : RunTable) (told : Told) (c : CommitCommand (List ℕ)) (base : ℕ) → CommitBegins t (commit_job t c)
    → ((node : ℕ) → Contains (nodes_of_job (commit_job t c)) node → IsPlainNode t node) → (commit_job t c).target ≡ Some base
    → holds t told (ask.EqualSizes (commit_nodes c)) ≡ None → CopyNodes t (commit_job t c).source base
unfolding holds
commit_nodes_are t told c base b plain at equal = record {
  source = x.row;
  source_at = x.there;
  source_own = x.own;
  to = y.row;
  to_at = y.there;
  to_own = y.own;
  sizes = eqb-true y.row.size x.row.size (not-false (y.row.size == x.row.size) (not-refused _ _ equal_rows));
}
  where
    row : JobRecord
    row = commit_job t c

    base_is : b.base ≡ base
    base_is = let both : Some b.base ≡ Some base = sym b.is_base ∙ at in cc both

    held : (node : ℕ) → Contains (row.source ∷ b.between ++ b.base ∷ []) node → Contains (nodes_of_job row) node
    held node there = in_left row.held row.read node (subst (λ ids. Contains ids node) (sym b.held) there)

    x : IsPlainNode t row.source
    x = plain row.source (held row.source (Contains-here row.source (b.between ++ b.base ∷ [])))

    y : IsPlainNode t base
    y =
        subst (IsPlainNode t) base_is
        (plain b.base (held b.base (Contains-there row.source (b.between ++ b.base ∷ []) b.base (in_right b.between (b.base ∷ []) b.base (Contains-here b.base [])))))

    equal_rows : sizes_differ y.row x.row ≡ None
    equal_rows = rw (ap (option_and_then (node_by_id t)) at, y.there, x.there) at equal

-- ---- behind the reply

dirty_node : (node : ℕ) (name : List ℕ) (d : Dirty) → is_dirty_of node name d ≡ true → d.node ≡ node
dirty_node node name d is = by_test (d.node == node) refl is
  where
    by_test : (b : Bool) → (d.node == node) ≡ b → (b && bytes_eq d.name name) ≡ true → d.node ≡ node
    by_test true e k = eqb-true d.node node e
    by_test false e k = absurd (false≢true k)

module _ (s : State) (changes : List Change) (of : AreOfStart changes) where
  abbrev now : State
  now = all_stepped s changes

  same : SameBytes s now
  same = all_same changes s of

  later : (node : ℕ) (row : NodeRecord) → node_by_id s.table node ≡ Some row → HasLater now.table node row
  later node row found = subst (λ (t : RunTable). HasLater t node row) (sym (stepped_table changes s)) (changes_stay node changes s.table (start_leaves node changes of) row found)

  size_now : (node : ℕ) (row : NodeRecord) → node_by_id s.table node ≡ Some row → bytes_of_node now.table node ≡ row.size
  size_now node row found = let l = later node row found in size_there now.table node l.later l.found ∙ l.size

  bytes_now : (node : ℕ) (row : NodeRecord) → node_by_id s.table node ≡ Some row → filter_role row.kind ≡ None → bytes_at_node now node ≡ bytes_in s.disks node
  bytes_now node row found own =
      let l = later node row found in
      ap (bytes_in now.disks) (own_disk now.table node l.later l.found (ap filter_role l.kind ∙ own)) ∙ ap (λ ds. bytes_in ds node) same.disks

  module _ (row : JobRecord) (into : ℕ) (n : CopyNodes s.table row.source into) (target_is : row.target ≡ Some into) (whole : DisksAreWhole s) where
    source_size : bytes_of_node now.table row.source ≡ n.source.size
    source_size = size_now row.source n.source n.source_at

    source_whole : length (bytes_at_node now row.source) ≡ bytes_of_node now.table row.source
    source_whole = ap length (bytes_now row.source n.source n.source_at n.source_own) ∙ whole row.source n.source n.source_at n.source_own ∙ sym source_size

    target_whole : length (bytes_at_node now into) ≡ bytes_of_node now.table row.source
    target_whole = ap length (bytes_now into n.to n.to_at n.to_own) ∙ whole into n.to n.to_at n.to_own ∙ n.sizes ∙ sym source_size

    pub copy_finds : target_written row ≡ row.target → FindsWhole now row
    copy_finds written = record {
      source = source_whole;
      target = λ node is.
          let both : Some into ≡ Some node = sym target_is ∙ sym written ∙ is in
          let one : into ≡ node = cc both in
          subst (λ id. length (bytes_at_node now id) ≡ bytes_of_node now.table row.source) one target_whole;
    }

    module _ (filter : row.filter ≡ Some (free_id s.table)) (fresh : node_by_id s.table (free_id s.table) ≡ None) (bare : follows row.kind ≡ true → row.bitmap ≡ None)
        (settles : (used : UsedBitmap) → row.bitmap ≡ Some used → used.onto_settled ≡ true → n.to.is_settled ≡ true)
        (granules : GranulesStand s.table s.dirty) (old new : Contents) (disks : ReadAsDisks s old) (reads : HaveRowSizes s.table old.reads)
        (shows : ShowsFilter row old new) where
      target_reads : new.reads into ≡ old.reads into
      target_reads = shows.nodes into (λ (is : row.filter ≡ Some into).
          let both : Some (free_id s.table) ≡ Some into = sym filter ∙ is in
          let one : free_id s.table ≡ into = cc both in
          let bad : None ≡ Some n.to = sym fresh ∙ ap (node_by_id s.table) one ∙ n.to_at in
          cc bad)

      by_settled : (used : UsedBitmap) → row.bitmap ≡ Some used → used.onto_settled ≡ true → new.reads into ≡ bytes_at_node now into
      by_settled used is onto =
          target_reads ∙ disks into n.to n.to_at (record { settled = settles used is onto; own = n.to_own }) ∙ sym (bytes_now into n.to n.to_at n.to_own)

      by_granules : (used : UsedBitmap) (d : Dirty) → dirty_at now.dirty row.source used.name ≡ Some d → AreGranulesOf (bytes_of_node now.table row.source) d
      by_granules used d found =
          let was : dirty_at s.dirty row.source used.name ≡ Some d = ap (λ ds. dirty_at ds row.source used.name) (sym same.dirty) ∙ found in
          let at = find-Some (is_dirty_of row.source used.name) s.dirty d was in
          let g = granules d at.0 in
          let node : d.node ≡ row.source = dirty_node row.source used.name d at.1 in
          let both : Some g.row ≡ Some n.source = sym g.there ∙ ap (node_by_id s.table) node ∙ n.source_at in
          let one : g.row ≡ n.source = cc both in
          let fits = granule_fits d.granularity g.bytes in
          record {
            some = fits.some;
            fit = fits.fit;
            whole = g.count ∙ ap (λ (r : NodeRecord). granule_count r.size d.granularity) one ∙ ap (λ size. granule_count size d.granularity) (sym source_size);
          }

      pub copy_can : CanBeCopied now new.reads row into
      copy_can = record {
        is_target = target_is;
        source = source_whole;
        whole = ap length target_reads ∙ reads into n.to n.to_at n.to_own ∙ n.sizes ∙ sym source_size;
        found = target_whole;
        settled = settled_by row.bitmap refl;
        bare = bare;
        granules = granules_by row.bitmap;
      }
        where
          settled_by : (by : Option UsedBitmap) → row.bitmap ≡ by → (d : Dirty) → granules_of now row by ≡ Some d → settles_target by ≡ true
              → new.reads into ≡ bytes_at_node now into
          settled_by None is d found onto = absurd (let bad : None ≡ Some d = found in cc bad)
          settled_by (Some used) is d found onto = by_settled used is onto

          granules_by : (by : Option UsedBitmap) → (d : Dirty) → granules_of now row by ≡ Some d → AreGranulesOf (bytes_of_node now.table row.source) d
          granules_by None d found = absurd (let bad : None ≡ Some d = found in cc bad)
          granules_by (Some used) d found = by_granules used d found

-- ---- the commands

pub backup_can : (s : State) (told exp : Told) (c : BackupCommand (List ℕ)) (target : ℕ) (old new : Contents) → TableStands s.table → JobsStand s.table
    → IsMet s.table told (command.BlockdevBackup c) → (backup_job s.table None c).target ≡ Some target → DisksStand s old
    → ShowsFilter (backup_job s.table None c) old new
    → CanBeCopied (all_stepped s (edits_of s.table exp (command.BlockdevBackup c))) new.reads (backup_job s.table None c) target
unfolding asks_of
backup_can s told exp c target old new h j met at d shows =
    let t : RunTable = s.table in
    let asks : NoneHolds t told (backup_values c ++ backup_names c ++ backup_rest c) = none-holds t told (asks_of (command.BlockdevBackup c)) met.asks in
    let rest = none-behind t told (backup_values c ++ backup_names c) (backup_rest c) asks in
    let a = backup_asked t told c (good-value t told (codes "target") (is_other c.target c.device) asks.0) rest in
    let n = copy_nodes t told h c.device c.target a rest.1.1.1.1.1.1.1.1.1.1.1.1.0 in
    let to : n.into ≡ target = (let both : Some n.into ≡ Some target = sym n.named ∙ at in cc both) in
    let b = begun_among t told exp (command.BlockdevBackup c) (backup_job t None c) j refl asks in
    subst (CanBeCopied (all_stepped s (edits_of t exp (command.BlockdevBackup c))) new.reads (backup_job t None c)) to
    (copy_can s (edits_of t exp (command.BlockdevBackup c)) (begins_of_start t (backup_job t None c) (edits_of t exp (command.BlockdevBackup c)) b)
    (backup_job t None c) n.into n.nodes n.named d.whole refl (free_fresh t (room-left t told 1 a.nodes)) (λ never. absurd (false≢true never))
    (λ used is onto. settled n used c.bitmap is onto)
    d.granules old new d.agree d.reads shows)
  where
    row_id : (t : RunTable) (node : ℕ) (row : NodeRecord) → node_by_id t node ≡ Some row → row.id ≡ node
    row_id t node row found = eqb-true row.id node (find-Some (λ (r : NodeRecord). r.id == node) t.nodes row found).1

    settled : (n : NamedNodes s.table c.device c.target) (used : UsedBitmap) (by : Option (List ℕ)) → option_map (used_bitmap s.table c) by ≡ Some used → used.onto_settled ≡ true
        → n.nodes.to.is_settled ≡ true
    settled n used None is onto = absurd cc
    settled n used (Some name) is onto =
        let one : used_bitmap s.table c name ≡ used = (let both : Some (used_bitmap s.table c name) ≡ Some used = is in cc both) in
        let id : id_or 0 s.table (Some c.target) ≡ n.into = rw n.named refl in
        let own : n.nodes.to.id ≡ n.into = row_id s.table n.into n.nodes.to n.nodes.to_at in
        own-settled s.table told h n.nodes.to (subst (λ node. node_by_id s.table node ≡ Some n.nodes.to) (sym own) n.nodes.to_at) n.nodes.to_own
        (subst (λ node. is_settled s.table node ≡ true) (id ∙ sym own) (ap (λ (u : UsedBitmap). u.onto_settled) one ∙ onto))

pub mirror_can : (s : State) (told exp : Told) (c : MirrorCommand (List ℕ)) (target : ℕ) (old new : Contents) → TableStands s.table → JobsStand s.table
    → IsMet s.table told (command.BlockdevMirror c) → (mirror_job s.table c).target ≡ Some target → DisksStand s old
    → ShowsFilter (mirror_job s.table c) old new
    → CanBeCopied (all_stepped s (edits_of s.table exp (command.BlockdevMirror c))) new.reads (mirror_job s.table c) target
unfolding asks_of
mirror_can s told exp c target old new h j met at d shows =
    let t : RunTable = s.table in
    let asks : NoneHolds t told (mirror_values c ++ mirror_names c ++ mirror_rest c) = none-holds t told (asks_of (command.BlockdevMirror c)) met.asks in
    let rest = none-behind t told (mirror_values c ++ mirror_names c) (mirror_rest c) asks in
    let a = mirror_asked t told c (good-value t told (codes "target") (is_other c.target c.device) asks.0) rest in
    let n = copy_nodes t told h c.device c.target a rest.1.1.1.1.1.1.1.1.1.1.0 in
    let to : n.into ≡ target = (let both : Some n.into ≡ Some target = sym n.named ∙ at in cc both) in
    let b = begun_among t told exp (command.BlockdevMirror c) (mirror_job t c) j refl asks in
    subst (CanBeCopied (all_stepped s (edits_of t exp (command.BlockdevMirror c))) new.reads (mirror_job t c)) to
    (copy_can s (edits_of t exp (command.BlockdevMirror c)) (begins_of_start t (mirror_job t c) (edits_of t exp (command.BlockdevMirror c)) b)
    (mirror_job t c) n.into n.nodes n.named d.whole refl (free_fresh t (room-left t told 1 a.nodes)) (λ is. refl)
    (λ used is onto. absurd (let bad : None ≡ Some used = is in cc bad))
    d.granules old new d.agree d.reads shows)

pub commit_can : (s : State) (told exp : Told) (c : CommitCommand (List ℕ)) (base : ℕ) (old new : Contents) → TableStands s.table → JobsStand s.table
    → JobsRun s.table → EdgesAreDrawn s.table → IsMet s.table told (command.BlockCommit c) → (commit_job s.table c).target ≡ Some base → DisksStand s old
    → ShowsFilter (commit_job s.table c) old new
    → CanBeCopied (all_stepped s (edits_of s.table exp (command.BlockCommit c))) new.reads (commit_job s.table c) base
unfolding asks_of
commit_can s told exp c base old new h j r drawn met at d shows =
    let t : RunTable = s.table in
    let row : JobRecord = commit_job t c in
    let edits : List Change = edits_of t exp (command.BlockCommit c) in
    let begins = met_commit t told c h j r drawn met in
    let asks = none-holds t told (asks_of (command.BlockCommit c)) met.asks in
    copy_can s edits (begins_of_start t row edits (begun_among t told exp (command.BlockCommit c) row j refl asks)) row base
    (commit_nodes_are t told c base begins.shape begins.plain at (commit_sizes t told c met)) at d.whole begins.shape.filter.filter begins.shape.filter.fresh
    (λ is. refl) (λ used is onto. absurd (let bad : None ≡ Some used = is in cc bad)) d.granules old new d.agree d.reads shows

-- ---- so their starts find whole disks

pub backup_finds : (s : State) (told exp : Told) (c : BackupCommand (List ℕ)) → TableStands s.table → JobsStand s.table
    → IsMet s.table told (command.BlockdevBackup c) → DisksAreWhole s
    → FindsWhole (all_stepped s (edits_of s.table exp (command.BlockdevBackup c))) (backup_job s.table None c)
unfolding asks_of
backup_finds s told exp c h j met whole =
    let t : RunTable = s.table in
    let asks : NoneHolds t told (backup_values c ++ backup_names c ++ backup_rest c) = none-holds t told (asks_of (command.BlockdevBackup c)) met.asks in
    let rest = none-behind t told (backup_values c ++ backup_names c) (backup_rest c) asks in
    let a = backup_asked t told c (good-value t told (codes "target") (is_other c.target c.device) asks.0) rest in
    let n = copy_nodes t told h c.device c.target a rest.1.1.1.1.1.1.1.1.1.1.1.1.0 in
    let b = begun_among t told exp (command.BlockdevBackup c) (backup_job t None c) j refl asks in
    copy_finds s (edits_of t exp (command.BlockdevBackup c)) (begins_of_start t (backup_job t None c) (edits_of t exp (command.BlockdevBackup c)) b)
    (backup_job t None c) n.into n.nodes n.named whole refl

pub mirror_finds : (s : State) (told exp : Told) (c : MirrorCommand (List ℕ)) → TableStands s.table → JobsStand s.table
    → IsMet s.table told (command.BlockdevMirror c) → DisksAreWhole s
    → FindsWhole (all_stepped s (edits_of s.table exp (command.BlockdevMirror c))) (mirror_job s.table c)
unfolding asks_of
mirror_finds s told exp c h j met whole =
    let t : RunTable = s.table in
    let asks : NoneHolds t told (mirror_values c ++ mirror_names c ++ mirror_rest c) = none-holds t told (asks_of (command.BlockdevMirror c)) met.asks in
    let rest = none-behind t told (mirror_values c ++ mirror_names c) (mirror_rest c) asks in
    let a = mirror_asked t told c (good-value t told (codes "target") (is_other c.target c.device) asks.0) rest in
    let n = copy_nodes t told h c.device c.target a rest.1.1.1.1.1.1.1.1.1.1.0 in
    let b = begun_among t told exp (command.BlockdevMirror c) (mirror_job t c) j refl asks in
    copy_finds s (edits_of t exp (command.BlockdevMirror c)) (begins_of_start t (mirror_job t c) (edits_of t exp (command.BlockdevMirror c)) b)
    (mirror_job t c) n.into n.nodes n.named whole refl

pub commit_finds : (s : State) (told exp : Told) (c : CommitCommand (List ℕ)) → TableStands s.table → JobsStand s.table → JobsRun s.table → EdgesAreDrawn s.table
    → IsMet s.table told (command.BlockCommit c) → DisksAreWhole s
    → FindsWhole (all_stepped s (edits_of s.table exp (command.BlockCommit c))) (commit_job s.table c)
unfolding asks_of
commit_finds s told exp c h j r drawn met whole =
    let t : RunTable = s.table in
    let row : JobRecord = commit_job t c in
    let edits : List Change = edits_of t exp (command.BlockCommit c) in
    let begins = met_commit t told c h j r drawn met in
    let asks = none-holds t told (asks_of (command.BlockCommit c)) met.asks in
    copy_finds s edits (begins_of_start t row edits (begun_among t told exp (command.BlockCommit c) row j refl asks)) row begins.shape.base
    (commit_nodes_are t told c begins.shape.base begins.shape begins.plain begins.shape.is_base (commit_sizes t told c met)) begins.shape.is_base whole refl
