-- A deletion that was carried out, or refused: what it leaves of the world.
use Rattle.std.proofs.Common.{◌≡◌, ℕ, ◌==◌, true, not, List, [], ◌∷◌, ◌++◌, length, map, Option, Some, None, refl, sym, ◌∙◌, ap, subst}
use Rattle.std.specs.Prelude.{is_some, Contains, filter, find, option_map, unwrap_or}
use Rattle.std.specs.List.{list_all}
use Rattle.flat_machine.specs.Marks.{IsCalm}
use Rattle.std.proofs.lemmas.List.Elements.{All-nil}
use Rattle.blk_base.specs.declared.file.File.{File as StoreFile}
use Rattle.blk_base.specs.declared.file.Opened.{Opened}
use Rattle.blk_bitmaps.specs.declared.row.Bitmap.{Bitmap}
use Rattle.block_jobs.specs.Work.{JobWork}
use Rattle.blk_graph.proofs.Members.{Contains-filter}
use Rattle.qmp_codec.specs.Commands.{Cmd}
use Rattle.qmp_codec.specs.declared.command.Command.TheVariants as command
use Rattle.qmp_rules.specs.Answers.{Answer, answer, refusal_to, told_none}
use Rattle.qmp_rules.specs.Changes.{changed, all_changed}
use Rattle.qmp_rules.specs.Edits.{edits_of, goes_with_node, file_under, file_uses, with_inline, row_gone, of_row}
use Rattle.qmp_rules.specs.Table.{RunTable, id_named}
use Rattle.qmp_rules.specs.declared.change.Change.{Change}
use Rattle.qmp_rules.specs.declared.change.Change.TheVariants.{UseFile, RemoveNode}
use Rattle.qmp_rules.specs.declared.rows.NodeRecord.{NodeRecord}
use Rattle.flat_machine.specs.Bitmaps.{AreBitmapsOf, FollowChanges}
use Rattle.flat_machine.specs.Changed.{stepped}
use Rattle.flat_machine.specs.Performing.{Removes, AllPerformed}
use Rattle.flat_machine.specs.State.{State}
use Rattle.flat_machine.specs.Wiring.{StandsFor, TableAtRest}
use Rattle.flat_machine.proofs.BitmapRows.{follow-gone, follow-left, follow-none, leaves_bitmaps}
use Rattle.blk_nodes.specs.Dropping.{nodes_without}
use Rattle.blk_nodes.specs.Contents.{Unfolds}
use Rattle.blk_nodes.specs.Joined.{IsJoined}
use Rattle.blk_nodes.specs.Nodes.{DeviceSeen, device_in}
use Rattle.world_parts.specs.Coherent.{AreDrainsKept, AreJobsKept, IsWholeWorld}
use Rattle.world_parts.specs.Counting.{RunsOn}
use Rattle.world_parts.specs.Carrying.{opened_names}
use Rattle.world_parts.specs.Deleting.{name_under, with_back, Ground, ground_of, left, all_left, going, HasLeft, HaveLeft, made_with, with_node_below, IsDeleted}
use Rattle.world_files.specs.Deletions.{CanLeave, after_deletion, Belong, bitmaps_left}
use Rattle.world_parts.specs.Face.{WorldSeen, contents_of}
use Rattle.world_parts.specs.Handling.{bitmaps_but, bitmaps_named}
use Rattle.world_parts.specs.Progress.{Progress}
use Rattle.world_files.proofs.Belonging.{belong_of}
use Rattle.world_parts.proofs.CarryPlain.{quiet-self}
use Rattle.world_files.proofs.CloseCounts.{same-back}
use Rattle.world_parts.proofs.CountLemmas.{runs-devices, runs-then, same-devices}
use Rattle.world_parts.proofs.CountsKept.{KeepsFaultCounts, hides-kept, keeps-then}
use Rattle.world_files.proofs.CreatedAsked.{del_asked}
use Rattle.world_files.proofs.DeletedParts.{nodes_left, filename_stays}
use Rattle.world_files.proofs.DeletedRuns.{counts_left, runs_left, tell_left}
use Rattle.world_files.proofs.DeletedSteps.{Parts, parts_left, entered_left, device_out, first_can, file_can, file_differs, free_by}
use Rattle.world_files.proofs.DeletedWhole.{WorldTells, step_removes}
use Rattle.world_parts.proofs.EasedTables.{eased_use}
use Rattle.world_parts.proofs.GuestEdges.{asks_left}
use Rattle.world_parts.proofs.JobsAnswered.{drains_kept, jobs_kept}
use Rattle.world_files.proofs.KeptDrives.{drives_kept, disks_kept, within_kept, writable_kept}
use Rattle.world_parts.proofs.Placed.{placed, answer-is, CarriedUntold, carried_by, rests_by, allowed_same, table_with_use, state_used, shape_used, shape_by, table_used, changed_used, performed_used}
use Rattle.world_files.proofs.Together.{BelongsTogether, goes_of, goes_shape, coherent_of}

-- ---- one node goes

module _ (w : WorldSeen) (node : ℕ) (goes : BelongsTogether w) (can : CanLeave w.table (ground_of w) node) (has : HasLeft (ground_of w) node) where
  abbrev v : WorldSeen
  v = after_deletion node w

  -- the store and the nodes of the world that is left are what is left of them
  pub same_ground : left w.table node (ground_of w) ≡ ground_of v
  same_ground = by_device (device_in w.nodes.devices node) refl
    where
      by_device : (found : Option DeviceSeen) → device_in w.nodes.devices node ≡ found → left w.table node (ground_of w) ≡ ground_of v
      by_device None is = rw is refl
      by_device (Some d) is = rw is refl

  stood : (name : List ℕ) (row : NodeRecord) → StandsFor v.table name row → StandsFor w.table name row
  stood name row is = record {
    there = (Contains-filter (λ (r : NodeRecord). not (r.id == node)) w.table.nodes row
        (subst (λ (rows : List NodeRecord). Contains rows row) (nodes_left w.table node) is.there)).0;
    filename = is.filename;
  }

  guests_left : (changed w.table (RemoveNode node)).guests ≡ w.table.guests
  unfolding changed
  guests_left = refl

  pub goes_left : BelongsTogether v
  goes_left =
      let keeps = entered_left w.table (ground_of w) node goes.parts can has in
      record {
        parts = subst (Parts v.table) same_ground (parts_left w.table (ground_of w) node goes.parts can has);
        unfolds = has.unfolds;
        tell = tell_left w node goes.parts goes.tell has;
        counted = goes.counted;
        drives = drives_kept w.table v.table keeps goes.drives;
        disks = disks_kept w.table v.table keeps goes.disks;
        asks = asks_left w.table node goes.asks;
        writable = writable_kept w.table v.table keeps goes.writable;
        within = within_kept w.table v.table keeps w.progress.guests goes.within;
        allowed = allowed_same w.table v.table w.progress.guests keeps.devices goes.allowed;
        count = goes.count ∙ ap length (sym guests_left);
        alone = λ name a b over over'. goes.alone name a b (stood name a over) (stood name b over');
        drivers = λ name row over. goes.drivers name row (stood name row over);
      }

  -- and where the store tells its files, it goes as the flat machine says
  pub removes_left : (s : State) → is_some w.files ≡ true → s.table ≡ w.table → Removes s node (contents_of w) (contents_of v)
  removes_left s told same = by_files w.files refl
    where
      by_files : (files : Option (List StoreFile)) → w.files ≡ files → Removes s node (contents_of w) (contents_of v)
      by_files None is = absurd (let bad : is_some {T = List StoreFile} None ≡ true = subst (λ (f : Option (List StoreFile)). is_some f ≡ true) is told in let e : ⊥ = cc bad in e)
      by_files (Some files) is =
          let tells : WorldTells w = record {
            parts = goes.parts;
            unfolds = goes.unfolds;
            alone = goes.alone;
            drivers = goes.drivers;
            all = goes.tell told;
            files = files;
            told = is;
          } in
          step_removes w node tells can has s (ap (λ (t : RunTable). t.nodes) same) (ap (λ (t : RunTable). t.edges) same)

-- where another table has the same rows the node can go too
can_with : (t u : RunTable) (x : Ground) (node : ℕ) → Parts u x → CanLeave t x node → CanLeave u x node
can_with t u x node parts can = record { there = can.there; lone = can.lone; out = λ d is. device_out u x parts node d is }

-- ---- the node and the file node that was made with it

abbrev pub removals : List ℕ → List Change
removals nodes = map (λ node. RemoveNode node) nodes

-- these nodes have gone, and this is what is left of the ground
record AreGone (w v : WorldSeen) (nodes : List ℕ) (x : Ground) : Type 0 where
  goes : BelongsTogether v
  runs : RunsOn w v
  counts : KeepsFaultCounts w v
  ground_is : x ≡ ground_of v
  performed : (s : State) → is_some w.files ≡ true → s.table ≡ w.table → AllPerformed s (removals nodes) (contents_of w) (contents_of v)

-- one, whose file has its name by a table of the same rows
one_gone : (w : WorldSeen) (t : RunTable) (node : ℕ) → BelongsTogether w → CanLeave t (ground_of w) node → HasLeft (ground_of w) node → name_under t node ≡ name_under w.table node
    → AreGone w (after_deletion node w) (node ∷ []) (left t node (ground_of w))
one_gone w t node goes can has named =
    let can' = can_with t w.table (ground_of w) node goes.parts can in
    record {
      goes = goes_left w node goes can' has;
      runs = runs_left w node goes.parts goes.tell has;
      counts = counts_left w node goes.parts goes.tell has;
      ground_is =
          ap (λ (name : List ℕ). let x : Ground = record { store = with_back name (device_in w.nodes.devices node) (ground_of w).store; nodes = nodes_without node w.nodes } in x) named
          ∙ same_ground w node goes can' has;
      performed = λ s told same. (contents_of (after_deletion node w), removes_left w node goes can' has s told same, quiet-self (contents_of (after_deletion node w)));
    }

two_gone : (w : WorldSeen) (t : RunTable) (node file : ℕ) → BelongsTogether w → CanLeave t (ground_of w) node → HasLeft (ground_of w) node → name_under t node ≡ name_under w.table node
    → CanLeave t (left t node (ground_of w)) file → HasLeft (left t node (ground_of w)) file → name_under t file ≡ name_under (changed w.table (RemoveNode node)) file
    → AreGone w (after_deletion file (after_deletion node w)) (node ∷ file ∷ []) (left t file (left t node (ground_of w)))
two_gone w t node file goes can has named can_file has_file named_file =
    let first = one_gone w t node goes can has named in
    let then : WorldSeen = after_deletion node w in
    let second = one_gone then t file first.goes (subst (λ (x : Ground). CanLeave t x file) first.ground_is can_file)
    (subst (λ (x : Ground). HasLeft x file) first.ground_is has_file) named_file in
    record {
      goes = second.goes;
      runs = runs-then w then (after_deletion file then) first.runs second.runs;
      counts = keeps-then w then (after_deletion file then) first.counts second.counts;
      ground_is = ap (left t file) first.ground_is ∙ second.ground_is;
      performed = λ s told same. (
        contents_of then,
        removes_left w node goes (can_with t w.table (ground_of w) node goes.parts can) has s told same,
        second.performed (stepped s (RemoveNode node)) (first.runs.told ∙ told) (ap (λ (u : RunTable). changed u (RemoveNode node)) same),
      );
    }

-- ---- names of openings

left_names : (t : RunTable) (node : ℕ) (x : Ground) → opened_names (left t node x).store.opened ≡ opened_names x.store.opened
left_names t node x = by_device (device_in x.nodes.devices node)
  where
    by_device : (found : Option DeviceSeen) → opened_names (with_back (name_under t node) found x.store).opened ≡ opened_names x.store.opened
    by_device None = refl
    by_device (Some d) = same-back (λ (o : Opened). o.name) (λ o count call. refl) (name_under t node) d.faults d.failed_call x.store.opened

all_left_names : (t : RunTable) (nodes : List ℕ) (x : Ground) → opened_names (all_left t nodes x).store.opened ≡ opened_names x.store.opened
all_left_names t [] x = refl
all_left_names t (node ∷ nodes) x = all_left_names t nodes (left t node x) ∙ left_names t node x

-- ---- a deletion

module _ (w : WorldSeen) (whole : IsWholeWorld w) (joined : IsJoined w.nodes) (unfolds : Unfolds w.nodes)
    (name : List ℕ) (none : refusal_to w.table told_none (command.BlockdevDel name) ≡ None) (x : Ground) (deleted : IsDeleted w.table name (ground_of w) x) where
  abbrev c : Cmd
  c = command.BlockdevDel name

  abbrev row : NodeRecord
  row = deleted.row

  abbrev node : ℕ
  node = deleted.row.id

  goes : BelongsTogether w
  goes = goes_of w whole joined unfolds

  belong : Belong w.table (ground_of w)
  belong = belong_of w.table (ground_of w) w.progress whole.coherent

  can : CanLeave w.table (ground_of w) node
  can =
      first_can w.table (ground_of w) joined belong node
      (free_by w.table (ground_of w) belong name (del_asked w.table told_none name none) node (ap (option_map (λ (r : NodeRecord). r.id)) deleted.found))

  -- ---- the file is used first

  abbrev then : Option (List ℕ) → WorldSeen
  then file = record w { table = table_with_use w.table file }

  goes_then : (file : Option (List ℕ)) → BelongsTogether (then file)
  goes_then None = goes
  goes_then (Some file) = goes_shape w (changed w.table (UseFile file)) (shape_used w.table file) (eased_use w.table file) goes

  named : (file : Option (List ℕ)) (other : ℕ) → name_under w.table other ≡ name_under (table_with_use w.table file) other
  named file other = rw (shape_by w.table file).nodes refl

  runs_then : (file : Option (List ℕ)) → RunsOn w (then file)
  runs_then file = runs-devices w (then file) refl refl refl refl refl refl (same-devices w.nodes.devices)

  -- ---- the nodes go

  -- what is known in the end
  record IsEnd (v : WorldSeen) (nodes : List ℕ) : Type 0 where
    goes : BelongsTogether v
    runs : RunsOn w v
    counts : KeepsFaultCounts w v
    ground_is : x ≡ ground_of v
    performed : (s : State) → is_some w.files ≡ true → s.table ≡ w.table
        → AllPerformed s (file_uses (file_under w.table row) ++ removals nodes) (contents_of w) (contents_of v)

  ended : (v : WorldSeen) (nodes : List ℕ) → AreGone (then (file_under w.table row)) v nodes x → IsEnd v nodes
  ended v nodes gone = record {
    goes = gone.goes;
    runs = runs-then w (then (file_under w.table row)) v (runs_then (file_under w.table row)) gone.runs;
    counts = keeps-then w (then (file_under w.table row)) v (record { now = refl; many = refl }) gone.counts;
    ground_is = gone.ground_is;
    performed = λ s told same. performed_used w s (file_under w.table row) (removals nodes) (contents_of v)
        (gone.performed (state_used s (file_under w.table row)) told (table_used s w.table (file_under w.table row) same));
  }

  abbrev last : Option ℕ → WorldSeen
  last None = after_deletion node (then (file_under w.table row))
  last (Some file) = after_deletion file (after_deletion node (then (file_under w.table row)))

  end_by : (made : Option ℕ) → made_with w.table node ≡ made → IsEnd (last made) (with_node_below node made)
  end_by None is =
      let each = subst (λ (m : Option ℕ). HaveLeft w.table (ground_of w) (with_node_below node m)) is deleted.each in
      let all = deleted.left_are ∙ ap (λ (m : Option ℕ). all_left w.table (with_node_below node m) (ground_of w)) is in
      let gone = one_gone (then (file_under w.table row)) w.table node (goes_then (file_under w.table row)) can each.0 (named (file_under w.table row) node) in
      ended (last None) (node ∷ []) (record { goes = gone.goes; runs = gone.runs; counts = gone.counts; ground_is = all ∙ gone.ground_is; performed = gone.performed })
  end_by (Some file) is =
      let each = subst (λ (m : Option ℕ). HaveLeft w.table (ground_of w) (with_node_below node m)) is deleted.each in
      let all = deleted.left_are ∙ ap (λ (m : Option ℕ). all_left w.table (with_node_below node m) (ground_of w)) is in
      let differs = file_differs w.table (ground_of w) joined belong node can each.0 file is in
      let gone = two_gone (then (file_under w.table row)) w.table node file (goes_then (file_under w.table row)) can each.0 (named (file_under w.table row) node)
      (file_can w.table (ground_of w) joined belong node can each.0 file is) each.1.0
      (named (file_under w.table row) file ∙ sym (ap (λ (f : Option (List ℕ)). unwrap_or f []) (filename_stays (table_with_use w.table (file_under w.table row)) node file differs))) in
      ended (last (Some file)) (node ∷ file ∷ []) (record { goes = gone.goes; runs = gone.runs; counts = gone.counts; ground_is = all ∙ gone.ground_is; performed = gone.performed })

  -- ---- the table

  inline_is : removals (with_node_below node (made_with w.table node)) ≡ RemoveNode node ∷ with_inline w.table node
  inline_is = by_row (find (goes_with_node node) w.table.nodes)
    where
      by_row : (found : Option NodeRecord) → removals (with_node_below node (option_map (λ (r : NodeRecord). r.id) found))
          ≡ RemoveNode node ∷ (elim found as (λ _. List Change) [ None ↦ [] | Some r ↦ RemoveNode r.id ∷ [] ])
      by_row None = refl
      by_row (Some r) = refl

  edits : (answer w.table told_none c).changes ≡ file_uses (file_under w.table row) ++ removals (with_node_below node (made_with w.table node))
  unfolding edits_of
  edits =
      ap (λ (a : Answer). a.changes) (answer-is w.table told_none c None none)
      ∙ ap (of_row (row_gone w.table)) deleted.found
      ∙ ap (λ (more : List Change). file_uses (file_under w.table row) ++ more) (sym inline_is)

  last_table : (made : Option ℕ) → (last made).table ≡ all_changed (table_with_use w.table (file_under w.table row)) (removals (with_node_below node made))
  last_table None = refl
  last_table (Some file) = refl

  last_placed : (made : Option ℕ) → last made ≡ placed w (ground_of (last made)) (last made).table
  last_placed None = refl
  last_placed (Some file) = refl

  last_progress : (made : Option ℕ) → (last made).progress ≡ w.progress
  last_progress None = refl
  last_progress (Some file) = refl

  last_drains : (made : Option ℕ) → (last made).drains ≡ w.drains
  last_drains None = refl
  last_drains (Some file) = refl

  last_works : (made : Option ℕ) → (last made).works ≡ w.works
  last_works None = refl
  last_works (Some file) = refl

  abbrev final : WorldSeen
  final = last (made_with w.table node)

  end : IsEnd final (with_node_below node (made_with w.table node))
  end = end_by (made_with w.table node) refl

  final_table : final.table ≡ all_changed w.table (answer w.table told_none c).changes
  final_table =
      last_table (made_with w.table node)
      ∙ sym (changed_used w.table (file_under w.table row) (removals (with_node_below node (made_with w.table node))))
      ∙ ap (all_changed w.table) (sym edits)

  rest : TableAtRest final.table
  rest = rests_by w final.table c refl none final_table whole.coherent.table

  -- the openings keep their names
  final_names : opened_names final.opened ≡ opened_names w.opened
  final_names =
      ap (λ (y : Ground). opened_names y.store.opened) (sym end.ground_is ∙ deleted.left_are)
      ∙ all_left_names w.table (going w.table row.id) (ground_of w)

  -- ---- the bitmaps

  abbrev bitmaps : List Bitmap
  bitmaps = bitmaps_but (with_node_below node (made_with w.table node)) w.bitmaps

  gone_follow : (nodes : List ℕ) (t : RunTable) (rows : List Bitmap) → AreBitmapsOf t.bitmaps rows → FollowChanges t rows (bitmaps_but nodes rows) (removals nodes)
  gone_follow [] t rows was = follow-none t rows was
  gone_follow (n ∷ nodes) t rows was =
      follow-gone t rows was n (bitmaps_but nodes (filter (λ row. not (row.node == n)) rows)) (removals nodes)
      (λ left. gone_follow nodes (changed t (RemoveNode n)) (filter (λ row. not (row.node == n)) rows) left)

  used_leaves : (file : Option (List ℕ)) → list_all leaves_bitmaps (file_uses file) ≡ true
  used_leaves None = refl
  used_leaves (Some file) = refl

  follow : FollowChanges w.table w.bitmaps bitmaps (answer w.table told_none c).changes
  follow =
      subst (λ (changes : List Change). FollowChanges w.table w.bitmaps bitmaps changes) (sym edits)
      (follow-left (file_uses (file_under w.table row)) w.table w.bitmaps bitmaps (removals (with_node_below node (made_with w.table node))) (used_leaves (file_under w.table row)) whole.bitmaps
      (λ kept. gone_follow (with_node_below node (made_with w.table node)) (all_changed w.table (file_uses (file_under w.table row))) w.bitmaps kept))

  -- the world with these
  abbrev final_with : WorldSeen
  final_with = record final { bitmaps = bitmaps }

  runs_with : RunsOn w final → RunsOn w final_with
  runs_with is = record {
    told = is.told;
    room = is.room;
    first = is.first;
    earlier = is.earlier;
    store = is.store;
    openings = is.openings;
    devices = is.devices;
  }

  counts_with : KeepsFaultCounts w final → KeepsFaultCounts w final_with
  counts_with is = record { now = is.now; many = is.many }

  final_carried : CarriedUntold w final_with c None
  final_carried =
      carried_by w final_with c refl refl none final_table (last_progress (made_with w.table node)) (last_drains (made_with w.table node)) (last_works (made_with w.table node)) (All-nil (IsCalm w.table w.progress.guests)) final_names (runs_with end.runs)
      (hides-kept w final_with (counts_with end.counts)) (subst (IsDeleted w.table name (ground_of w)) end.ground_is deleted) (λ was. coherent_of final end.goes rest)
      (λ o s told shows. subst (λ (changes : List Change). AllPerformed s changes (contents_of w) (contents_of final)) (sym edits)
      (end.performed s told shows.table.table_is))

  pub deleted_carried : (u : RunTable) → u ≡ all_changed w.table (answer w.table told_none c).changes → (b : List Bitmap) → b ≡ bitmaps_left None w.table c w.bitmaps
      → CarriedUntold w (record (placed w x u) { bitmaps = b }) c None × IsWholeWorld (record (placed w x u) { bitmaps = b })
      × FollowChanges w.table w.bitmaps b (answer w.table told_none c).changes
  deleted_carried u is b left =
      let placed_is : final ≡ placed w x u =
      last_placed (made_with w.table node)
      ∙ ap (λ (y : Ground). placed w y final.table) (sym end.ground_is)
      ∙ ap (placed w x) (final_table ∙ sym is) in
      let same_id : id_named w.table name ≡ Some node = ap (option_map (λ (r : NodeRecord). r.id)) deleted.found in
      let same_rows : b ≡ bitmaps = left ∙ ap (λ (found : Option ℕ). bitmaps_named w.table found w.bitmaps) same_id in
      let same : final_with ≡ record (placed w x u) { bitmaps = b } =
      ap (λ (v : WorldSeen). let f : WorldSeen = record v { bitmaps = bitmaps } in f) placed_is
      ∙ ap (λ (rows : List Bitmap). let f : WorldSeen = record (placed w x u) { bitmaps = rows } in f) (sym same_rows) in
      let listed : AreBitmapsOf final.table.bitmaps bitmaps = subst (λ (t : RunTable). AreBitmapsOf t.bitmaps bitmaps) (sym final_table) follow.listed in
      let jobs : AreJobsKept final.table final.works final.progress.aside =
      subst (AreJobsKept final.table final.works) (sym (ap (λ (p : Progress). p.aside) (last_progress (made_with w.table node))))
      (subst (λ (works : List JobWork). AreJobsKept final.table works w.progress.aside) (sym (last_works (made_with w.table node)))
      (jobs_kept w whole joined c told_none final.table (λ accepted. record { one = tt; none = refl }) final_table)) in
      let drains : AreDrainsKept final.table final.drains =
      subst (AreDrainsKept final.table) (sym (last_drains (made_with w.table node)))
      (drains_kept w whole joined c told_none final.table (λ accepted. record { one = tt; none = refl }) final_table) in
      let whole_then : IsWholeWorld final_with =
      record { coherent = coherent_of final end.goes rest; tell = end.goes.tell; counted = end.goes.counted; bitmaps = listed; jobs = jobs; drains = drains } in (
        subst (λ (v : WorldSeen). CarriedUntold w v c None) same final_carried,
        subst IsWholeWorld same whole_then,
        subst (λ (rows : List Bitmap). FollowChanges w.table w.bitmaps rows (answer w.table told_none c).changes) (sym same_rows) follow,
      )
