-- What a creation leaves of a world: rows that at most have lost their disks, and devices that are the same.
use Rattle.std.proofs.Common.{◌≡◌, ◌≢◌, ◌⊎◌, ℕ, ◌≤◌, ◌==◌, Bool, true, false, cond, List, [], ◌∷◌, map, inl, inr, refl, sym, ◌∙◌, ap, subst, arith, Option, Some, None}
use Rattle.std.specs.Prelude.{IsSome, is_some, Contains, bytes_eq, find, option_map, unwrap_or}
use Rattle.std.specs.List.{list_any}
use Rattle.std.proofs.lemmas.Bool.{eq-eqb, false≢true, ne_eqb}
use Rattle.blk_graph.specs.declared.edge.Edge.{Edge}
use Rattle.blk_graph.proofs.Members.{Contains-here, Contains-there, find-Some, list_any-there}
use Rattle.qmp_codec.specs.declared.nodes.CreateQcow2.{CreateQcow2}
use Rattle.qmp_rules.specs.Asks.{stands_for}
use Rattle.qmp_rules.specs.Changes.{changed, all_changed, lost_with, node_changed, stands_over, unsettled}
use Rattle.qmp_rules.specs.Table.{RunTable, first_into}
use Rattle.qmp_rules.specs.declared.change.Change.TheVariants.{FormatFile, KeepId, MakeFile, SpoilFile}
use Rattle.qmp_rules.specs.declared.rows.NodeRecord.{NodeRecord}
use Rattle.flat_machine.specs.Wiring.{TableAtRest, TableStands}
use Rattle.flat_machine.proofs.Finds.{same-bytes_eq, bytes_eq-same}
use Rattle.flat_machine.specs.Bitmaps.{AreBitmapsOf}
use Rattle.world_parts.specs.Coherent.{AreDrainsKept, AreJobsKept, DevicesTell, IsCoherent, IsWholeWorld}
use Rattle.world_parts.specs.Counting.{RunsOn}
use Rattle.world_parts.specs.Face.{WorldSeen, node_over}
use Rattle.world_parts.proofs.CarryPlain.{HasTableShape}
use Rattle.world_parts.proofs.CountLemmas.{runs-devices}
use Rattle.world_parts.proofs.DeletedLists.{find_none, find_there}
use Rattle.world_parts.proofs.EasedTables.{IsTableEased, kept_rows}
use Rattle.world_files.proofs.Together.{entered_eased, entered_shape}
use Rattle.world_files.proofs.KeptDrives.{IsLedTo, KeepsEntered, disks_kept}
use Rattle.world_parts.proofs.NodesAfter.{AreNodesAfter}
use Rattle.world_parts.proofs.TablesAfter.{coherent_moved}

-- ---- tables

-- rows may have lost their disks, but none that an edge leads to
pub record IsEasedTo (t u : RunTable) : Type 0 where
  pub eased : IsTableEased t u
  pub keeps : KeepsEntered t u

pub eased_shape : (t u : RunTable) → HasTableShape t u → IsEasedTo t u
eased_shape t u shape = record {
  eased = kept_rows t u shape.nodes shape.edges shape.devices shape.guests shape.jobs;
  keeps = entered_shape t u shape;
}

-- the file of a `file` node to which no edge leads
pub record IsLoneFile (t : RunTable) (row : NodeRecord) (name : List ℕ) : Type 0 where
  pub there : Contains t.nodes row
  pub filename : row.filename ≡ Some name
  pub lone : first_into row.id t.edges ≡ None

not-entered : (t : RunTable) (row : NodeRecord) (name : List ℕ) → IsLoneFile t row name → (node : ℕ) → IsLedTo t node → node ≢ row.id
not-entered t row name lone node here same =
    let found = find_there (λ (e : Edge). e.child == row.id) t.edges here.edge here.there (eq-eqb here.edge.child row.id (here.leads ∙ same)) in
    false≢true (subst (λ (e : Option Edge). IsSome e) lone.lone found)

over-stands : (name : List ℕ) (row : NodeRecord) → stands_over name row.filename ≡ stands_for name row
over-stands name row = by_name row.filename
  where
    by_name : (f : Option (List ℕ)) → stands_over name f ≡ unwrap_or (option_map (λ (g : List ℕ). bytes_eq g name) f) false
    by_name None = refl
    by_name (Some g) = refl

pub stands-name : (name : List ℕ) (row : NodeRecord) → stands_for name row ≡ true → row.filename ≡ Some name
stands-name name row is = by_name row.filename refl is
  where
    by_name : (f : Option (List ℕ)) → row.filename ≡ f → unwrap_or (option_map (λ (g : List ℕ). bytes_eq g name) f) false ≡ true → row.filename ≡ Some name
    by_name None e bad = absurd (false≢true bad)
    by_name (Some g) e passes = e ∙ ap (λ (n : List ℕ). Some n) (same-bytes_eq g name passes)

-- a row that stands for the file is that of its node
only-one : (t : RunTable) → TableStands t → (row : NodeRecord) (name : List ℕ) → IsLoneFile t row name → (other : NodeRecord) → Contains t.nodes other
    → stands_for name other ≡ true → other.id ≡ row.id
only-one t stands row name lone other there is =
    stands.alone name other row (record { there = there; filename = stands-name name other is }) (record { there = lone.there; filename = lone.filename })

module _ (t : RunTable) (stands : TableStands t) (row : NodeRecord) (name : List ℕ) (lone : IsLoneFile t row name) where
  by_test : (b : Bool) (r : NodeRecord) → (cond b (unsettled r) r ≡ r) ⊎ (cond b (unsettled r) r ≡ unsettled r)
  by_test true r = inr refl
  by_test false r = inl refl

  pub node_over_it : node_over t name ≡ Some row.id
  node_over_it = by_row (find (stands_for name) t.nodes) refl (find_there (stands_for name) t.nodes row lone.there passes)
    where
      passes : stands_for name row ≡ true
      passes = rw lone.filename (bytes_eq-same name)

      by_row : (found : Option NodeRecord) → find (stands_for name) t.nodes ≡ found → IsSome found → option_map (λ (r : NodeRecord). r.id) found ≡ Some row.id
      by_row None e some = absurd (false≢true some)
      by_row (Some r) e some =
          let r' = find-Some (stands_for name) t.nodes r e in
          ap (λ (n : ℕ). Some n) (only-one t stands row name lone r r'.0 r'.1)

  -- an image is created in it
  pub eased_image : (id : List ℕ) (size : ℕ) (c : CreateQcow2 (List ℕ))
      → IsEasedTo t (all_changed t (KeepId id ∷ FormatFile row.id name size c.backing_file c.backing_fmt ∷ []))
  unfolding changed
  eased_image id size c =
      let u : RunTable = all_changed t (KeepId id ∷ FormatFile row.id name size c.backing_file c.backing_fmt ∷ []) in
      let eased : IsTableEased t u = record {
        f = node_changed row.id unsettled;
        only = λ r. by_test (r.id == row.id) r;
        rows = refl;
        edges = refl;
        devices = refl;
        guests = refl;
        jobs = refl;
      } in
      record {
        eased = eased;
        keeps = entered_eased t u eased (λ r there here. rw (ne_eqb r.id row.id (not-entered t row name lone r.id here)) refl);
      }

  -- it is spoiled
  pub eased_spoiled : IsEasedTo t (all_changed t (SpoilFile name ∷ []))
  unfolding changed
  eased_spoiled =
      let u : RunTable = all_changed t (SpoilFile name ∷ []) in
      let eased : IsTableEased t u = record {
        f = lost_with name;
        only = λ r. by_test (stands_over name r.filename) r;
        rows = refl;
        edges = refl;
        devices = refl;
        guests = refl;
        jobs = refl;
      } in
      record { eased = eased; keeps = entered_eased t u eased (λ r there here. kept r (stands_over name r.filename) refl there here) }
    where
      kept : (r : NodeRecord) (b : Bool) → stands_over name r.filename ≡ b → Contains t.nodes r → IsLedTo t r.id → lost_with name r ≡ r
      kept r true is there here = absurd (not-entered t row name lone r.id here (only-one t stands row name lone r there (sym (over-stands name r) ∙ is)))
      kept r false is there here = rw is refl

-- where no node stands for the file, no row changes
module _ (t : RunTable) (name : List ℕ) (closed : list_any (stands_for name) t.nodes ≡ false) where
  not-there : (row : NodeRecord) → Contains t.nodes row → stands_for name row ≡ false
  not-there row there = by_test' (stands_for name row) refl
    where
      by_test' : (b : Bool) → stands_for name row ≡ b → b ≡ false
      by_test' true is = absurd (false≢true (sym closed ∙ list_any-there (stands_for name) t.nodes row there is))
      by_test' false is = refl

  pub over_none : node_over t name ≡ None
  over_none = ap (option_map (λ (r : NodeRecord). r.id)) (find_none (stands_for name) t.nodes not-there)

  all-kept : (rows : List NodeRecord) → ((row : NodeRecord) → Contains rows row → stands_for name row ≡ false) → map (lost_with name) rows ≡ rows
  all-kept [] none = refl
  all-kept (row ∷ rows) none =
      ap (λ (r : NodeRecord). r ∷ map (lost_with name) rows) (rw (over-stands name row ∙ none row (Contains-here row rows)) refl)
      ∙ ap (λ (rs : List NodeRecord). row ∷ rs) (all-kept rows (λ r there. none r (Contains-there row rows r there)))

  pub shape_spoiled : HasTableShape t (all_changed t (SpoilFile name ∷ []))
  unfolding changed
  shape_spoiled = record { nodes = all-kept t.nodes not-there; edges = refl; devices = refl; guests = refl; jobs = refl }

pub shape_made : (t : RunTable) (id name : List ℕ) (size : ℕ) → HasTableShape t (all_changed t (KeepId id ∷ MakeFile name size ∷ []))
unfolding changed
shape_made t id name size = record { nodes = refl; edges = refl; devices = refl; guests = refl; jobs = refl }

-- ---- worlds

pub record Moves (w v : WorldSeen) : Type 0 where
  pub table : IsEasedTo w.table v.table
  pub nodes : AreNodesAfter w.nodes v.nodes
  pub progress : v.progress ≡ w.progress
  pub opened : v.opened ≡ w.opened
  pub earlier : v.earlier ≡ w.earlier
  pub first : v.first_faults ≡ w.first_faults
  pub room : v.room ≡ w.room
  pub told : is_some v.files ≡ is_some w.files
  pub store : w.faults ≤ v.faults
  pub tell : DevicesTell v.files v.nodes.devices

pub moved_runs : (w v : WorldSeen) → Moves w v → RunsOn w v
moved_runs w v moves =
    let calm : WorldSeen = record v { faults = w.faults } in
    let runs : RunsOn w calm = runs-devices w calm moves.told moves.room moves.first moves.earlier refl moves.opened moves.nodes.devices in
    record {
      told = moves.told;
      room = moves.room;
      first = moves.first;
      earlier = moves.earlier;
      store = moves.store;
      openings = runs.openings;
      devices = runs.devices;
    }

pub moved_coherent : (w v : WorldSeen) → Moves w v → TableAtRest v.table → IsCoherent w.table w.nodes w.opened w.progress
    → IsCoherent v.table v.nodes v.opened v.progress
moved_coherent w v moves rest was =
    rw (moves.opened, moves.progress)
    (coherent_moved w.table v.table moves.table.eased w.nodes v.nodes w.opened w.progress moves.nodes rest
    (disks_kept w.table v.table moves.table.keeps was.disks) was)

pub moved_whole : (w v : WorldSeen) → Moves w v → TableAtRest v.table → AreBitmapsOf v.table.bitmaps v.bitmaps → AreJobsKept v.table v.works v.progress.aside
    → AreDrainsKept v.table v.drains → IsWholeWorld w → IsWholeWorld v
moved_whole w v moves rest bitmaps jobs drains whole = record {
  coherent = moved_coherent w v moves rest whole.coherent;
  tell = moves.tell;
  counted = omega (arith, whole.counted, moves.first, moves.store);
  bitmaps = bitmaps;
  jobs = jobs;
  drains = drains;
}
