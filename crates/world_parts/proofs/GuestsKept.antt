-- What is so of guests and their devices by the table, and that each kind of change which leaves the nodes keeps it.
use Rattle.std.proofs.Common.{◌≡◌, ◌≢◌, ℕ, ◌≤◌, ◌==◌, Bool, true, false, cond, not, List, [], ◌∷◌, ◌++◌, inl, inr, refl, sym, ◌∙◌, ap, subst, Option, Some, None}
use Rattle.std.specs.Prelude.{IsSome, Contains, find, option_map, unwrap_or, ◌&&◌}
use Rattle.std.proofs.lemmas.Bool.{cases_eq, eq-eqb, eqb-true, false≢true, ne_eqb}
use Rattle.std.proofs.lemmas.Option.{same_Some}
use Rattle.blk_base.specs.Pieces.{end_of}
use Rattle.blk_base.specs.declared.file.Opened.{Opened}
use Rattle.blk_graph.specs.declared.edge.Edge.{Edge}
use Rattle.blk_graph.specs.declared.edge.Parent.{Parent}
use Rattle.blk_graph.specs.declared.edge.Parent.TheVariants.{Node, Guest as GuestOf}
use Rattle.blk_graph.specs.declared.edge.Role.TheVariants.{Backing, Drive, Between}
use Rattle.blk_graph.specs.Edges.{DifferInPlace, same_parent}
use Rattle.blk_graph.specs.Edits.{child_of, is_edge, replaced, stays, with_child, with_edge, with_replaced, without_parent}
use Rattle.blk_graph.specs.Graph.{Graph, IsFit}
use Rattle.blk_graph.specs.Permissions.{IsDrive, node_edge}
use Rattle.blk_graph.specs.Refreshed.{IsOf, refreshed}
use Rattle.blk_graph.proofs.ChildLemmas.{child-edge, child-kept}
use Rattle.blk_graph.proofs.EditLemmas.{Contains-with_edge, Contains-with_edge_new}
use Rattle.blk_graph.proofs.Members.{Contains-filter, Contains-map}
use Rattle.blk_graph.proofs.RefreshLemmas.{child_of-refreshed}
use Rattle.blk_history.specs.Disk.{span_of}
use Rattle.blk_history.specs.Fold.{With}
use Rattle.blk_history.specs.Machine.{Flight}
use Rattle.qmp_rules.specs.Chains.{filter_role, filtered, disk_node}
use Rattle.qmp_rules.specs.Changes.{changed, device_edge, without_device}
use Rattle.qmp_rules.specs.Queries.{bytes_of_node}
use Rattle.qmp_rules.specs.Table.{RunTable, child, device_by_number, kinds_of, node_by_id}
use Rattle.qmp_rules.specs.declared.change.Change.TheVariants as change
use Rattle.qmp_rules.specs.declared.rows.DeviceRow.{DeviceRow}
use Rattle.qmp_rules.specs.declared.rows.NodeRecord.{NodeRecord}
use Rattle.flat_machine.specs.Agreement.{HasDisk}
use Rattle.blk_nodes.specs.Nodes.{Nodes}
use Rattle.flat_machine.specs.Legal.{IsForbidden}
use Rattle.flat_machine.specs.State.{Guest, disk_of_guest, drive_of}
use Rattle.flat_machine.specs.Suiting.{IsThere, SuitsDevice}
use Rattle.flat_machine.specs.Wiring.{TableStands}
use Rattle.flat_machine.proofs.Covered.{staying, attached, moving, moved}
use Rattle.flat_machine.proofs.DevicesGone.{device_left, drive_left, gone_grow}
use Rattle.flat_machine.proofs.Finds.{find-filter}
use Rattle.flat_machine.proofs.Kept.{own_disk as disk_itself}
use Rattle.flat_machine.proofs.Redirected.{LiesOver, Redirects, disk_led}
use Rattle.flat_machine.proofs.Rows.{disk_node-same}
use Rattle.flat_machine.proofs.TablesKept.{IsDriveEdge, device_grow}
use Rattle.flat_machine.proofs.Wired.{NoRow, NoEdge, same_disk, with_at}
use Rattle.world_parts.specs.Coherent.{AreOnDisks, AreOnWritable, AreWithin, AskToWrite, HaveDrives, IsCoherent}
use Rattle.world_parts.specs.Guests.{GuestsStand}
use Rattle.world_parts.specs.Progress.{Progress, flight_at}
use Rattle.world_parts.proofs.DeletedLists.{find_there, pairs}
use Rattle.world_parts.proofs.GuestEdges.{guest_edge, guest_stays}

-- so it is in a world
pub guests_stand : (t : RunTable) (nodes : Nodes) (opened : List Opened) (p : Progress) → IsCoherent t nodes opened p → GuestsStand t p.guests
guests_stand t nodes opened p was = record {
  drives = was.drives;
  disks = was.disks;
  asks = was.asks;
  writable = was.writable;
  within = was.within;
  allowed = was.allowed;
}

-- ---- what doesn't change it

-- a request in flight lies within a disk as before
within_by : (t now : RunTable) (end : ℕ) (was disk : Option ℕ) → disk ≡ was → ((n : ℕ) → bytes_of_node now n ≡ bytes_of_node t n)
    → With was (λ n. end ≤ bytes_of_node t n) → With disk (λ n. end ≤ bytes_of_node now n)
within_by t now end was disk same sizes fits = subst (λ (found : Option ℕ). With found (λ n. end ≤ bytes_of_node now n)) (sym same) (by_disk was fits)
  where
    by_disk : (found : Option ℕ) → With found (λ n. end ≤ bytes_of_node t n) → With found (λ n. end ≤ bytes_of_node now n)
    by_disk None bad = bad
    by_disk (Some n) fits = subst (λ (most : ℕ). end ≤ most) (sym (sizes n)) fits

-- rows of nodes that are the same have the same sizes
module _ (t now : RunTable) (nodes : now.nodes ≡ t.nodes) where
  pub same_at : (n : ℕ) → node_by_id now n ≡ node_by_id t n
  same_at n = ap (find (λ (r : NodeRecord). r.id == n)) nodes

  pub same_size : (n : ℕ) → bytes_of_node now n ≡ bytes_of_node t n
  same_size n = ap (λ (found : Option NodeRecord). unwrap_or (option_map (λ (r : NodeRecord). r.size) found) 0) (same_at n)

  filtered_same : now.edges ≡ t.edges → (n : ℕ) → filtered now n ≡ filtered t n
  filtered_same edges n = rw (nodes, edges) refl

-- nodes, edges and devices stay
pub guests_same : (t now : RunTable) (guests : List Guest) → now.nodes ≡ t.nodes → now.edges ≡ t.edges → now.devices ≡ t.devices → GuestsStand t guests
    → GuestsStand now guests
guests_same t now guests nodes edges devices was = record {
  drives = λ g there. subst IsSome (sym (drive g)) (was.drives g (subst IsSome (device g) there));
  disks = λ g n on.
      subst (λ (row : Option NodeRecord). With row HasDisk) (sym (ap (node_by_id now) (disk n) ∙ same_at t now nodes (disk_node t n)))
      (was.disks g n (sym (drive g) ∙ on));
  asks = λ g d e there writes at from. was.asks g d e (sym (device g) ∙ there) writes (subst (λ (es : List Edge). Contains es e) edges at) from;
  writable = λ g n d there writes on.
      subst (λ (row : Option NodeRecord). With row (λ r. r.read_only ≡ false)) (sym (same_at t now nodes n))
      (was.writable g n d (sym (device g) ∙ there) writes (sym (drive g) ∙ on));
  within = λ g f flies.
      within_by t now (end_of (span_of f.op)) (disk_of_guest t g) (disk_of_guest now g) (guest_disk g) (same_size t now nodes) (was.within g f flies);
  allowed = λ g f flies. subst (λ (d : Option DeviceRow). With d (λ x. IsForbidden f.op x.read_only → ⊥)) (sym (device g)) (was.allowed g f flies);
}
  where
    device : (g : ℕ) → device_by_number now g ≡ device_by_number t g
    device g = ap (find (λ (d : DeviceRow). d.number == g)) devices

    drive : (g : ℕ) → drive_of now g ≡ drive_of t g
    drive g = ap (child_of (GuestOf g) Drive) edges

    disk : (n : ℕ) → disk_node now n ≡ disk_node t n
    disk n = disk_node-same t now (λ m. Unit {0}) (λ m here. filtered_same t now nodes edges m) (λ m c here at. tt) n tt

    guest_disk : (g : ℕ) → disk_of_guest now g ≡ disk_of_guest t g
    guest_disk g = ap (option_map (disk_node now)) (drive g) ∙ by_drive (drive_of t g)
      where
        by_drive : (found : Option ℕ) → option_map (disk_node now) found ≡ option_map (disk_node t) found
        by_drive None = refl
        by_drive (Some n) = ap Some (disk n)

-- ---- a device more

find-past : {A : Type 0} (p : A → Bool) (xs : List A) (y : A) → p y ≡ false → find p (xs ++ y ∷ []) ≡ find p xs
find-past p [] y fails = rw fails refl
find-past p (x ∷ xs) y fails = by_test (p x) (find-past p xs y fails)
  where
    by_test : (b : Bool) → find p (xs ++ y ∷ []) ≡ find p xs → cond b (Some x) (find p (xs ++ y ∷ [])) ≡ cond b (Some x) (find p xs)
    by_test true rest = refl
    by_test false rest = rest

find-new : {A : Type 0} (p : A → Bool) (xs : List A) (y : A) → find p xs ≡ None → p y ≡ true → find p (xs ++ y ∷ []) ≡ Some y
find-new p [] y none passes = rw passes refl
find-new p (x ∷ xs) y none passes = by_test (p x) none (find-new p xs y)
  where
    by_test : (b : Bool) → cond b (Some x) (find p xs) ≡ None → (find p xs ≡ None → p y ≡ true → find p (xs ++ y ∷ []) ≡ Some y)
        → cond b (Some x) (find p (xs ++ y ∷ [])) ≡ Some y
    by_test true bad rest = absurd cc
    by_test false none rest = rest none passes

pub record IsWithDevice (t u : RunTable) (device : DeviceRow) (node : ℕ) : Type 0 where
  pub rows : u.nodes ≡ t.nodes
  pub edges : u.edges ≡ refreshed (kinds_of t.nodes) (with_edge (device_edge device node) t.edges)
  pub devices : u.devices ≡ t.devices ++ device ∷ []

-- It has a number of its own. Its node has a flat disk, and isn't read-only where the device may write.
pub record IsDeviceOnDisk (t : RunTable) (device : DeviceRow) (node : ℕ) : Type 0 where
  pub suits : SuitsDevice t device node
  pub fresh : device_by_number t device.number ≡ None
  pub row : NodeRecord
  pub found : node_by_id t node ≡ Some row
  pub disk : With (node_by_id t (disk_node t node)) HasDisk
  pub writable : device.read_only ≡ false → row.read_only ≡ false

module _ (t u : RunTable) (device : DeviceRow) (node : ℕ) (is : IsWithDevice t u device node) (on_disk : IsDeviceOnDisk t device node) (h : TableStands t)
    (graph : Graph) (fit : IsFit graph u.edges) where
  abbrev drive : Edge
  drive = device_edge device node

  other_device : (g : ℕ) → g ≢ device.number → device_by_number u g ≡ device_by_number t g
  other_device g apart =
      ap (find (λ (d : DeviceRow). d.number == g)) is.devices
      ∙ find-past (λ (d : DeviceRow). d.number == g) t.devices device (ne_eqb device.number g (λ same. apart (sym same)))

  own_device : device_by_number u device.number ≡ Some device
  own_device =
      ap (find (λ (d : DeviceRow). d.number == device.number)) is.devices
      ∙ find-new (λ (d : DeviceRow). d.number == device.number) t.devices device on_disk.fresh (eq-eqb device.number device.number refl)

  its_device : (d : DeviceRow) → device_by_number u device.number ≡ Some d → d ≡ device
  its_device d there = same_Some d device (sym there ∙ own_device)

  other_drive : (g : ℕ) → g ≢ device.number → drive_of u g ≡ drive_of t g
  other_drive g apart =
      ap (child_of (GuestOf g) Drive) is.edges
      ∙ child_of-refreshed (kinds_of t.nodes) (GuestOf g) Drive (with_edge drive t.edges)
      ∙ child-kept (GuestOf g) Drive drive t.edges (λ same. apart (let e : device.number ≡ g = cc same in sym e))

  -- a disk is the same node
  disk_is : (other : ℕ) → IsThere t other → disk_node u other ≡ disk_node t other
  disk_is other there =
      same_disk t u (IsThere t) NoRow (IsDriveEdge t u device node on_disk.suits is.rows (kinds_of t.nodes) is.edges h)
      (device_grow t u device node on_disk.suits is.rows (kinds_of t.nodes) is.edges h) other there

  drive_there : (g other : ℕ) → drive_of t g ≡ Some other → IsThere t other
  drive_there g other on = let e = child-edge (GuestOf g) Drive t.edges other on in subst (IsThere t) e.to ((h.edges e.edge e.there).child)

  -- ---- its edge

  drive_in : Contains u.edges drive
  drive_in =
      subst (λ (edges : List Edge). Contains edges drive) (sym is.edges)
      (guest_stays (kinds_of t.nodes) (with_edge drive t.edges) drive device.number (Contains-with_edge_new drive t.edges) refl)

  drives_so : (e : Edge) → Contains u.edges e → e.parent ≡ GuestOf device.number → e.role ≡ Drive
  drives_so e there from =
      let fits = fit.each e there in
      let drives : IsDrive e = subst (λ (p : Parent). IsOf graph.kinds e p) from fits.table in
      ap (λ (x : Edge). x.role) drives.is

  -- it is the only edge of its guest
  sole : (e : Edge) → Contains u.edges e → e.parent ≡ GuestOf device.number → e ≡ drive
  sole e there from = elim (pairs DifferInPlace u.edges e drive fit.places there drive_in) [
    | inl same ↦ same
    | inr ways ↦ elim ways [
      | inl differ ↦ absurd (let bad : Drive ≡ Between = sym (drives_so e there from) ∙ (differ from (drives_so e there from)).0 in let no : ⊥ = cc bad in no)
      | inr differ ↦ absurd (let bad : Drive ≡ Between = (differ (sym from) (sym (drives_so e there from))).0 in let no : ⊥ = cc bad in no)
    ]
  ]

  own_drive : drive_of u device.number ≡ Some node
  own_drive = by_child (drive_of u device.number) refl
    where
      passes : is_edge (GuestOf device.number) Drive drive ≡ true
      passes = rw (eq-eqb device.number device.number refl) refl

      by_child : (found : Option ℕ) → drive_of u device.number ≡ found → found ≡ Some node
      by_child None missed =
          absurd (no-edge (find (is_edge (GuestOf device.number) Drive) u.edges) (find_there (is_edge (GuestOf device.number) Drive) u.edges drive drive_in passes) missed)
        where
          no-edge : (found : Option Edge) → IsSome found → option_map (λ (e : Edge). e.child) found ≡ None → ⊥
          no-edge None some bad = false≢true some
          no-edge (Some e) some bad = let no : ⊥ = cc bad in no
      by_child (Some other) hit =
          let e = child-edge (GuestOf device.number) Drive u.edges other hit in
          ap (λ (n : ℕ). Some n) (sym e.to ∙ ap (λ (x : Edge). x.child) (sole e.edge e.there e.from))

  its_drive : (other : ℕ) → drive_of u device.number ≡ Some other → other ≡ node
  its_drive other on = same_Some other node (sym on ∙ own_drive)

  -- ---- what is so then

  module _ (guests : List Guest) (was : GuestsStand t guests) where
    added_drives : HaveDrives u
    added_drives g there = elim (cases_eq g device.number) [
      | inl same ↦ subst (λ (n : ℕ). IsSome (drive_of u n)) (sym same) (subst IsSome (sym own_drive) refl)
      | inr apart ↦ subst IsSome (sym (other_drive g apart)) (was.drives g (subst IsSome (other_device g apart) there))
    ]

    added_disks : AreOnDisks u
    added_disks g other on = elim (cases_eq g device.number) [
      | inl same ↦
          let its : other ≡ node = its_drive other (subst (λ (n : ℕ). drive_of u n ≡ Some other) same on) in
          subst (λ (n : ℕ). With (node_by_id u (disk_node u n)) HasDisk) (sym its)
          (subst (λ (row : Option NodeRecord). With row HasDisk)
          (sym (ap (node_by_id u) (disk_is node on_disk.suits.there) ∙ same_at t u is.rows (disk_node t node))) on_disk.disk)
      | inr apart ↦
          let before : drive_of t g ≡ Some other = sym (other_drive g apart) ∙ on in
          subst (λ (row : Option NodeRecord). With row HasDisk)
          (sym (ap (node_by_id u) (disk_is other (drive_there g other before)) ∙ same_at t u is.rows (disk_node t other))) (was.disks g other before)
    ]

    added_writable : AreOnWritable u
    added_writable g other d there writes on = elim (cases_eq g device.number) [
      | inl same ↦
          let its : other ≡ node = its_drive other (subst (λ (n : ℕ). drive_of u n ≡ Some other) same on) in
          let one : d ≡ device = its_device d (subst (λ (n : ℕ). device_by_number u n ≡ Some d) same there) in
          with_at (λ (r : NodeRecord). r.read_only ≡ false) (node_by_id u other) on_disk.row
          (ap (node_by_id u) its ∙ same_at t u is.rows node ∙ on_disk.found)
          (on_disk.writable (ap (λ (x : DeviceRow). x.read_only) (sym one) ∙ writes))
      | inr apart ↦
          subst (λ (row : Option NodeRecord). With row (λ r. r.read_only ≡ false)) (sym (same_at t u is.rows other))
          (was.writable g other d (sym (other_device g apart) ∙ there) writes (sym (other_drive g apart) ∙ on))
    ]

    added_asks : AskToWrite u
    added_asks g d e there writes at from = elim (cases_eq g device.number) [
      | inl same ↦
          let its : e ≡ drive = sole e at (from ∙ ap GuestOf same) in
          let one : d ≡ device = its_device d (subst (λ (n : ℕ). device_by_number u n ≡ Some d) same there) in
          ap (λ (x : Edge). x.perm.write) its ∙ ap (λ (x : DeviceRow). not x.read_only) (sym one) ∙ ap not writes
      | inr apart ↦
          let old = guest_edge (kinds_of t.nodes) (with_edge drive t.edges) e g (subst (λ (edges : List Edge). Contains edges e) is.edges at) from in
          elim (Contains-with_edge drive t.edges e old) [
            | inl new ↦ absurd (apart (let its : GuestOf g ≡ GuestOf device.number = sym from ∙ ap (λ (x : Edge). x.parent) new in let n : g ≡ device.number = cc its in n))
            | inr before ↦ was.asks g d e (sym (other_device g apart) ∙ there) writes before from
          ]
    ]

    -- the guest had no request in flight
    another : (g : ℕ) (f : Flight) → flight_at guests g ≡ Some f → g ≢ device.number
    another g f flies same =
        let none : device_by_number t g ≡ None = ap (device_by_number t) same ∙ on_disk.fresh in
        subst (λ (d : Option DeviceRow). With d (λ x. IsForbidden f.op x.read_only → ⊥)) none (was.allowed g f flies)

    added_within : AreWithin u guests
    added_within g f flies = by_drive (drive_of t g) refl (another g f flies) (was.within g f flies)
      where
        by_drive : (found : Option ℕ) → drive_of t g ≡ found → g ≢ device.number
            → With (option_map (disk_node t) found) (λ other. end_of (span_of f.op) ≤ bytes_of_node t other)
            → With (disk_of_guest u g) (λ other. end_of (span_of f.op) ≤ bytes_of_node u other)
        by_drive None on apart bad = absurd bad
        by_drive (Some other) on apart fits =
            within_by t u (end_of (span_of f.op)) (Some (disk_node t other)) (disk_of_guest u g)
            (ap (option_map (disk_node u)) (other_drive g apart ∙ on) ∙ ap (λ (n : ℕ). Some n) (disk_is other (drive_there g other on))) (same_size t u is.rows) fits

    pub guests_added : GuestsStand u guests
    guests_added = record {
      drives = added_drives;
      disks = added_disks;
      asks = added_asks;
      writable = added_writable;
      within = added_within;
      allowed = λ g f flies.
          subst (λ (d : Option DeviceRow). With d (λ x. IsForbidden f.op x.read_only → ⊥)) (sym (other_device g (another g f flies))) (was.allowed g f flies);
    }

-- ---- a device less

passes_not : (b : Bool) → not b ≡ true → b ≡ false
passes_not true e = absurd cc
passes_not false e = refl

-- the guest has no request in flight
abbrev pub IsIdle : List Guest → ℕ → Type 0
IsIdle guests g = (f : Flight) → flight_at guests g ≡ Some f → ⊥

module _ (t u : RunTable) (number : ℕ) (nodes : u.nodes ≡ t.nodes) (edges : u.edges ≡ refreshed (kinds_of t.nodes) (without_parent (GuestOf number) t.edges))
    (devices : u.devices ≡ without_device number t.devices) (h : TableStands t) where
  left_other : (g : ℕ) → g ≢ number → device_by_number u g ≡ device_by_number t g
  left_other g apart =
      ap (find (λ (d : DeviceRow). d.number == g)) devices
      ∙ find-filter (λ (d : DeviceRow). d.number == g) (λ (d : DeviceRow). not (d.number == number)) keeps t.devices
    where
      keeps : (d : DeviceRow) → (d.number == g) ≡ true → not (d.number == number) ≡ true
      keeps d at = ap not (ne_eqb d.number number (λ same. apart (sym (eqb-true d.number g at) ∙ same)))

  left_device : (g : ℕ) (d : DeviceRow) → device_by_number u g ≡ Some d → (device_by_number t g ≡ Some d) × (g ≢ number)
  left_device g d there = device_left number g t.devices d (sym (ap (find (λ (x : DeviceRow). x.number == g)) devices) ∙ there)

  left_drive : (g : ℕ) → g ≢ number → drive_of u g ≡ drive_of t g
  left_drive g apart = drive_left t u number nodes (kinds_of t.nodes) edges h g apart

  -- an edge of a guest was there, and is another guest's
  old_edge : (e : Edge) (g : ℕ) → Contains u.edges e → e.parent ≡ GuestOf g → Contains t.edges e × (g ≢ number)
  old_edge e g there from =
      let edge = guest_edge (kinds_of t.nodes) (without_parent (GuestOf number) t.edges) e g (subst (λ (es : List Edge). Contains es e) edges there) from in
      let old = Contains-filter (λ (x : Edge). not (same_parent x.parent (GuestOf number))) t.edges e edge in (
        old.0,
        λ same. (
            let same_one : same_parent e.parent (GuestOf number) ≡ true = rw from (eq-eqb g number same) in
            let differ = passes_not (same_parent e.parent (GuestOf number)) old.1 in
            false≢true (sym differ ∙ same_one)),
      )

  drive_apart : (g other : ℕ) → drive_of u g ≡ Some other → g ≢ number
  drive_apart g other on = let e = child-edge (GuestOf g) Drive u.edges other on in (old_edge e.edge g e.there e.from).1

  left_disk : (other : ℕ) → IsThere t other → disk_node u other ≡ disk_node t other
  left_disk other there = same_disk t u (IsThere t) NoRow NoEdge (gone_grow t u number nodes (kinds_of t.nodes) edges h) other there

  left_there : (g other : ℕ) → drive_of t g ≡ Some other → IsThere t other
  left_there g other on = let e = child-edge (GuestOf g) Drive t.edges other on in subst (IsThere t) e.to ((h.edges e.edge e.there).child)

  module _ (guests : List Guest) (idle : IsIdle guests number) (was : GuestsStand t guests) where
    flies_apart : (g : ℕ) (f : Flight) → flight_at guests g ≡ Some f → g ≢ number
    flies_apart g f flies same = idle f (subst (λ (n : ℕ). flight_at guests n ≡ Some f) same flies)

    left_drives : HaveDrives u
    left_drives g there = by_device (device_by_number u g) refl there
      where
        by_device : (found : Option DeviceRow) → device_by_number u g ≡ found → IsSome found → IsSome (drive_of u g)
        by_device None e some = absurd (false≢true some)
        by_device (Some d) e some =
            let left = left_device g d e in
            subst IsSome (sym (left_drive g left.1)) (was.drives g (subst IsSome (sym left.0) refl))

    left_disks : AreOnDisks u
    left_disks g other on =
        let before : drive_of t g ≡ Some other = sym (left_drive g (drive_apart g other on)) ∙ on in
        subst (λ (row : Option NodeRecord). With row HasDisk)
        (sym (ap (node_by_id u) (left_disk other (left_there g other before)) ∙ same_at t u nodes (disk_node t other))) (was.disks g other before)

    left_writable : AreOnWritable u
    left_writable g other d there writes on =
        let left = left_device g d there in
        subst (λ (row : Option NodeRecord). With row (λ r. r.read_only ≡ false)) (sym (same_at t u nodes other))
        (was.writable g other d left.0 writes (sym (left_drive g left.1) ∙ on))

    left_within : AreWithin u guests
    left_within g f flies = by_drive (drive_of t g) refl (flies_apart g f flies) (was.within g f flies)
      where
        by_drive : (found : Option ℕ) → drive_of t g ≡ found → g ≢ number
            → With (option_map (disk_node t) found) (λ other. end_of (span_of f.op) ≤ bytes_of_node t other)
            → With (disk_of_guest u g) (λ other. end_of (span_of f.op) ≤ bytes_of_node u other)
        by_drive None on apart bad = absurd bad
        by_drive (Some other) on apart fits =
            within_by t u (end_of (span_of f.op)) (Some (disk_node t other)) (disk_of_guest u g)
            (ap (option_map (disk_node u)) (left_drive g apart ∙ on) ∙ ap (λ (n : ℕ). Some n) (left_disk other (left_there g other on))) (same_size t u nodes) fits

    pub guests_left : GuestsStand u guests
    guests_left = record {
      drives = left_drives;
      disks = left_disks;
      asks = λ g d e there writes at from. was.asks g d e (left_device g d there).0 writes (old_edge e g at from).0 from;
      writable = left_writable;
      within = left_within;
      allowed = λ g f flies.
          subst (λ (d : Option DeviceRow). With d (λ x. IsForbidden f.op x.read_only → ⊥)) (sym (left_other g (flies_apart g f flies))) (was.allowed g f flies);
    }

-- ---- edges into a node that stay, or lead to an overlay of it

module _ (t : RunTable) (edges : List Edge) (node overlay : NodeRecord) (to : ℕ → ℕ) (over : LiesOver t node overlay) (r : Redirects t edges node.id overlay.id to)
    (settled : overlay.is_settled ≡ true) (h : TableStands t) where
  abbrev led : RunTable
  led = record t { edges = edges }

  node_found : node_by_id t node.id ≡ Some node
  node_found = h.apart node over.node_there

  overlay_found : node_by_id t overlay.id ≡ Some overlay
  overlay_found = h.apart overlay over.overlay_there

  overlay_own : filter_role overlay.kind ≡ None
  overlay_own = ap filter_role over.driver

  -- a fact of rows that the overlay has is so where an edge leads then
  row_to : (P : NodeRecord → Type 0) → P overlay → (n : ℕ) → With (node_by_id t n) P → With (node_by_id t (to n)) P
  row_to P own n has = elim (cases_eq n node.id) [
    | inr other ↦ subst (λ (m : ℕ). With (node_by_id t m) P) (sym (r.others n other)) has
    | inl is ↦ elim r.at_node [
      | inl on ↦ subst (λ (m : ℕ). With (node_by_id t m) P) (is ∙ sym on ∙ ap to (sym is)) has
      | inr over_it ↦ with_at P (node_by_id t (to n)) overlay (ap (node_by_id t) (ap to is ∙ over_it) ∙ overlay_found) own
    ]
  ]

  size_at : (id : ℕ) (row : NodeRecord) → node_by_id t id ≡ Some row → bytes_of_node t id ≡ row.size
  size_at id row found = ap (λ (x : Option NodeRecord). unwrap_or (option_map (λ (y : NodeRecord). y.size) x) 0) found

  size_to : (n : ℕ) → bytes_of_node t (to n) ≡ bytes_of_node t n
  size_to n = elim (cases_eq n node.id) [
    | inr other ↦ ap (bytes_of_node t) (r.others n other)
    | inl is ↦ elim r.at_node [
      | inl on ↦ ap (bytes_of_node t) (ap to is ∙ on ∙ sym is)
      | inr over_it ↦
          ap (bytes_of_node t) (ap to is ∙ over_it) ∙ size_at overlay.id overlay overlay_found ∙ over.size ∙ sym (size_at node.id node node_found)
          ∙ ap (bytes_of_node t) (sym is)
    ]
  ]

  -- where an edge leads then, the disk is where it was, or the overlay
  disk_to : (n : ℕ) → disk_node led (to n) ≡ to (disk_node t n)
  disk_to n = elim (cases_eq n node.id) [
    | inr other ↦ ap (disk_node led) (r.others n other) ∙ disk_led t edges node overlay to over r h n other
    | inl is ↦
        ap (λ (m : ℕ). disk_node led (to m)) is ∙ at_it ∙ ap to (sym (disk_itself t node.id node node_found over.disk.own))
        ∙ ap (λ (m : ℕ). to (disk_node t m)) (sym is)
  ]
    where
      at_it : disk_node led (to node.id) ≡ to node.id
      at_it = elim r.at_node [
        | inl on ↦ ap (disk_node led) on ∙ disk_itself led node.id node node_found over.disk.own ∙ sym on
        | inr over_it ↦ ap (disk_node led) over_it ∙ disk_itself led overlay.id overlay overlay_found overlay_own ∙ sym over_it
      ]

  led-from : (found : Option ℕ) (n : ℕ) → option_map to found ≡ Some n → (m : ℕ) × (found ≡ Some m) × (to m ≡ n)
  led-from None n is = absurd (let bad : ⊥ = cc is in bad)
  led-from (Some m) n is = (m, refl, cc is)

  guest_to : (g : ℕ) → disk_of_guest led g ≡ option_map to (disk_of_guest t g)
  guest_to g = ap (option_map (disk_node led)) (r.drives g) ∙ by_drive (drive_of t g)
    where
      by_drive : (found : Option ℕ) → option_map (disk_node led) (option_map to found) ≡ option_map to (option_map (disk_node t) found)
      by_drive None = refl
      by_drive (Some n) = ap (λ (m : ℕ). Some m) (disk_to n)

  guests_led : (guests : List Guest) → (AskToWrite t → AskToWrite led) → GuestsStand t guests → GuestsStand led guests
  guests_led guests asks was = record {
    drives = λ g there. subst IsSome (sym (r.drives g)) (some (drive_of t g) (was.drives g there));
    disks = λ g n on.
        let from = led-from (drive_of t g) n (sym (r.drives g) ∙ on) in
        subst (λ (m : ℕ). With (node_by_id t m) HasDisk) (sym (disk_to from.0) ∙ ap (disk_node led) from.2)
        (row_to HasDisk (record { settled = settled; own = overlay_own }) (disk_node t from.0) (was.disks g from.0 from.1));
    asks = asks was.asks;
    writable = λ g n device there writes on.
        let from = led-from (drive_of t g) n (sym (r.drives g) ∙ on) in
        subst (λ (m : ℕ). With (node_by_id t m) (λ row. row.read_only ≡ false)) from.2
        (row_to (λ row. row.read_only ≡ false) over.writable from.0 (was.writable g from.0 device there writes from.1));
    within = λ g f flies.
        subst (λ (found : Option ℕ). With found (λ n. end_of (span_of f.op) ≤ bytes_of_node t n)) (sym (guest_to g))
        (by_disk f (disk_of_guest t g) (was.within g f flies));
    allowed = was.allowed;
  }
    where
      some : (found : Option ℕ) → IsSome found → IsSome (option_map to found)
      some None bad = bad
      some (Some n) there = refl

      by_disk : (f : Flight) (found : Option ℕ) → With found (λ n. end_of (span_of f.op) ≤ bytes_of_node t n)
          → With (option_map to found) (λ n. end_of (span_of f.op) ≤ bytes_of_node t n)
      by_disk f None bad = bad
      by_disk f (Some n) fits = subst (λ (most : ℕ). end_of (span_of f.op) ≤ most) (sym (size_to n)) fits

-- a node gets the backing edge of an overlay of it
module _ (t : RunTable) (node overlay : NodeRecord) (over : LiesOver t node overlay) (bare : child t overlay.id Backing ≡ None) (settled : overlay.is_settled ≡ true)
    (h : TableStands t) where
  attach_asks : AskToWrite t → AskToWrite (changed t (change.Attach overlay.id node.id))
  unfolding changed
  attach_asks was g device e there writes at from =
      let drawn = guest_edge (kinds_of t.nodes) (with_edge (node_edge overlay.id Backing node.id) t.edges) e g at from in
      elim (Contains-with_edge (node_edge overlay.id Backing node.id) t.edges e drawn) [
        | inl is ↦
            let bad : Node overlay.id ≡ GuestOf g = sym (ap (λ (x : Edge). x.parent) is) ∙ from in
            absurd (let no : ⊥ = cc bad in no)
        | inr old ↦ was g device e there writes old from
      ]

  pub guests_attached : (guests : List Guest) → GuestsStand t guests → GuestsStand (changed t (change.Attach overlay.id node.id)) guests
  unfolding changed
  guests_attached guests was =
      guests_led t (refreshed (kinds_of t.nodes) (with_edge (node_edge overlay.id Backing node.id) t.edges)) node overlay staying over
      (attached t node overlay (kinds_of t.nodes) bare) settled h guests attach_asks was

replaced-perm : (from to : ℕ) (but : Option Parent) (e : Edge) → (replaced from to but e).perm.write ≡ e.perm.write
replaced-perm from to but e = by_test (e.child == from && not (stays but e.parent))
  where
    by_test : (b : Bool) → (cond b (with_child to e) e).perm.write ≡ e.perm.write
    by_test true = refl
    by_test false = refl

replaced-from : (from to : ℕ) (but : Option Parent) (e : Edge) → (replaced from to but e).parent ≡ e.parent
replaced-from from to but e = by_test (e.child == from && not (stays but e.parent))
  where
    by_test : (b : Bool) → (cond b (with_child to e) e).parent ≡ e.parent
    by_test true = refl
    by_test false = refl

-- guests' edges that move ask what they asked
pub move_asks : (t : RunTable) (from to but : ℕ) → AskToWrite t → AskToWrite (changed t (change.Move from to but))
unfolding changed
move_asks t from to but was g device e there writes at parent =
    let drawn = guest_edge (kinds_of t.nodes) (with_replaced from to (Some (Node but)) t.edges) e g at parent in
    let old = Contains-map (replaced from to (Some (Node but))) t.edges e drawn in
    let own : old.0.parent ≡ GuestOf g = sym (replaced-from from to (Some (Node but)) old.0) ∙ sym (ap (λ (x : Edge). x.parent) old.2) ∙ parent in
    ap (λ (x : Edge). x.perm.write) old.2 ∙ replaced-perm from to (Some (Node but)) old.0 ∙ was g device old.0 there writes old.1 own

-- the parents of a node go over to an overlay of it
pub guests_moved : (t : RunTable) (node overlay : NodeRecord) → LiesOver t node overlay → overlay.is_settled ≡ true → TableStands t
    → (guests : List Guest) → GuestsStand t guests → GuestsStand (changed t (change.Move node.id overlay.id overlay.id)) guests
unfolding changed
guests_moved t node overlay over settled h guests was =
    guests_led t (refreshed (kinds_of t.nodes) (with_replaced node.id overlay.id (Some (Node overlay.id)) t.edges)) node overlay (moving node.id overlay.id) over
    (moved t node overlay (kinds_of t.nodes) over h) settled h guests (move_asks t node.id overlay.id overlay.id) was
