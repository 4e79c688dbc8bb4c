-- What is so of guests behind the end of a backup or mirror: their drives leave its filter for its source, or for its target where it
-- pivots, and their disks stay otherwise.
use Rattle.std.proofs.Common.{◌≡◌, ◌≢◌, ℕ, ◌≤◌, ◌==◌, false, List, Option, Some, None, refl, sym, ◌∙◌, ap, subst, inl, inr}
use Rattle.std.specs.Prelude.{IsSome, find, option_map, unwrap_or}
use Rattle.std.proofs.lemmas.Bool.{cases_eq}
use Rattle.blk_base.specs.Pieces.{end_of}
use Rattle.blk_graph.specs.declared.edge.Parent.TheVariants.{Guest as GuestOf}
use Rattle.blk_graph.specs.declared.edge.Role.TheVariants.{Drive, Filtered}
use Rattle.blk_graph.proofs.ChildLemmas.{child-edge}
use Rattle.blk_history.specs.Disk.{span_of}
use Rattle.blk_history.specs.Fold.{With}
use Rattle.qmp_rules.specs.Chains.{disk_node, filter_role}
use Rattle.qmp_rules.specs.Queries.{bytes_of_node}
use Rattle.qmp_rules.specs.Table.{RunTable, device_by_number, node_by_id}
use Rattle.qmp_rules.specs.declared.rows.DeviceRow.{DeviceRow}
use Rattle.qmp_rules.specs.declared.rows.NodeRecord.{NodeRecord}
use Rattle.flat_machine.specs.Agreement.{HasDisk}
use Rattle.flat_machine.specs.Legal.{IsForbidden}
use Rattle.flat_machine.specs.State.{Guest, disk_of_guest, drive_of}
use Rattle.flat_machine.specs.Suiting.{IsThere}
use Rattle.flat_machine.specs.Wiring.{IsDiskOf, TableStands, writes_through}
use Rattle.world_parts.specs.Coherent.{AreOnDisks, AreOnWritable, AreWithin, AskToWrite, HaveDrives}
use Rattle.world_parts.specs.Guests.{GuestsStand}
use Rattle.world_parts.proofs.InStep.{with-at}
use Rattle.world_goings.proofs.EndDisks.{DisksAreLed}
use Rattle.world_goings.proofs.EndTables.{IsEndedTable, IsOverNode, led, led_filter, led_other, led_source, plain_apart, row_of}

-- a node may be written
abbrev pub IsOpen : RunTable → ℕ → Type 0
IsOpen t n = With (node_by_id t n) (λ r. r.read_only ≡ false)

-- What used the source finds a disk of its size where it is led, which may be written where the source may.
pub record LeadsOnto (t u : RunTable) (filter source to : ℕ) : Type 0 where
  pub apart : to ≢ filter
  pub size : bytes_of_node t to ≡ bytes_of_node t source
  pub disk : With (node_by_id u to) HasDisk
  pub writable : IsOpen t source → IsOpen t to

module _ (t u : RunTable) (filter source to : ℕ) (p : IsEndedTable t u filter source to) (h : TableStands t) (f : IsOverNode t filter source)
    (reads : disk_node t filter ≡ source) (disks_led : DisksAreLed t u filter source to) (onto : LeadsOnto t u filter source to) where
  source_other : source ≢ filter
  source_other = plain_apart t filter source f source f.plain

  -- ---- drives

  record WasOn (g other : ℕ) : Type 0 where
    drive : ℕ
    on : drive_of t g ≡ Some drive
    is : other ≡ led filter source to drive

  drive_then : (g : ℕ) → drive_of u g ≡ option_map (led filter source to) (drive_of t g)
  drive_then g = p.drives g Drive (λ same. let no : ⊥ = cc same in no)

  was_on : (g other : ℕ) → drive_of u g ≡ Some other → WasOn g other
  was_on g other on = by_drive (drive_of t g) refl (sym (drive_then g) ∙ on)
    where
      by_drive : (found : Option ℕ) → drive_of t g ≡ found → option_map (led filter source to) found ≡ Some other → WasOn g other
      by_drive None e bad = absurd (let no : ⊥ = cc bad in no)
      by_drive (Some d) e is = record { drive = d; on = e; is = let same : led filter source to d ≡ other = cc is in sym same }

  drive_there : (g d : ℕ) → drive_of t g ≡ Some d → IsThere t d
  drive_there g d on = let e = child-edge (GuestOf g) Drive t.edges d on in subst (IsThere t) e.to ((h.edges e.edge e.there).child)

  -- ---- rows

  device_then : (g : ℕ) → device_by_number u g ≡ device_by_number t g
  device_then g = ap (find (λ (d : DeviceRow). d.number == g)) p.devices

  size_then : (n : ℕ) → n ≢ filter → bytes_of_node u n ≡ bytes_of_node t n
  size_then n apart =
      ap (λ (found : Option NodeRecord). unwrap_or (option_map (λ (r : NodeRecord). r.size) found) 0) (p.found n apart) ∙ by_row (node_by_id t n)
    where
      by_row : (found : Option NodeRecord) → unwrap_or (option_map (λ (r : NodeRecord). r.size) (option_map p.f found)) 0 ≡ unwrap_or (option_map (λ (r : NodeRecord). r.size) found) 0
      by_row None = refl
      by_row (Some r) = row_of p.f p.only (λ (x : NodeRecord). x.size) (λ x. refl) r

  -- a node with a disk isn't the filter
  disk_other : (m : ℕ) → With (node_by_id t m) HasDisk → m ≢ filter
  disk_other m has same =
      let disk = with-at (node_by_id t filter) f.node HasDisk f.there (subst (λ n. With (node_by_id t n) HasDisk) same has) in
      let bad : None ≡ Some Filtered = sym disk.own ∙ f.role in
      let no : ⊥ = cc bad in no

  disk_still : (m : ℕ) → With (node_by_id t m) HasDisk → With (node_by_id u m) HasDisk
  disk_still m has = subst (λ (x : Option NodeRecord). With x HasDisk) (sym (p.found m (disk_other m has))) (by_row (node_by_id t m) has)
    where
      by_row : (found : Option NodeRecord) → With found HasDisk → With (option_map p.f found) HasDisk
      by_row None bad = bad
      by_row (Some r) disk = record {
        settled = elim (p.only r) [ inl same ↦ ap (λ (x : NodeRecord). x.is_settled) same ∙ disk.settled | inr is ↦ ap (λ (x : NodeRecord). x.is_settled) is ];
        own = row_of p.f p.only (λ (x : NodeRecord). filter_role x.kind) (λ x. refl) r ∙ disk.own;
      }

  open_still : (n : ℕ) → n ≢ filter → IsOpen t n → IsOpen u n
  open_still n apart is = subst (λ (x : Option NodeRecord). With x (λ r. r.read_only ≡ false)) (sym (p.found n apart)) (by_row (node_by_id t n) is)
    where
      by_row : (found : Option NodeRecord) → With found (λ r. r.read_only ≡ false) → With (option_map p.f found) (λ r. r.read_only ≡ false)
      by_row None bad = bad
      by_row (Some r) shut = row_of p.f p.only (λ (x : NodeRecord). x.read_only) (λ x. refl) r ∙ shut

  -- where the filter may be written its source may
  source_open : IsOpen t filter → IsOpen t source
  source_open is =
      let writes : f.node.read_only ≡ false = with-at (node_by_id t filter) f.node (λ r. r.read_only ≡ false) f.there is in
      let of : IsDiskOf t f.node f.plain.row =
      with-at (node_by_id t (disk_node t filter)) f.plain.row (IsDiskOf t f.node) (ap (node_by_id t) reads ∙ f.plain.there) (h.reads filter f.node f.there) in
      subst (λ (x : Option NodeRecord). With x (λ r. r.read_only ≡ false)) (sym f.plain.there)
      (of.writable (ap (λ b. writes_through t b f.node.id) writes))

  -- ---- where an edge leads then

  led_open : (n : ℕ) → IsOpen t n → IsOpen u (led filter source to n)
  led_open n is = elim (cases_eq n filter) [
    | inl same ↦
        subst (IsOpen u) (sym (ap (led filter source to) same ∙ led_filter filter source to))
        (open_still to onto.apart (onto.writable (source_open (subst (IsOpen t) same is))))
    | inr apart ↦ elim (cases_eq n source) [
      | inl same ↦
          subst (IsOpen u) (sym (ap (led filter source to) same ∙ led_source filter source to source_other))
          (open_still to onto.apart (onto.writable (subst (IsOpen t) same is)))
      | inr other ↦ subst (IsOpen u) (sym (led_other filter source to n apart other)) (open_still n apart is)
    ]
  ]

  led_disk : (m : ℕ) → With (node_by_id t m) HasDisk → With (node_by_id u (led filter source to m)) HasDisk
  led_disk m has = elim (cases_eq m source) [
    | inl is ↦
        subst (λ n. With (node_by_id u n) HasDisk) (sym (ap (led filter source to) is ∙ led_source filter source to source_other)) onto.disk
    | inr other ↦ subst (λ n. With (node_by_id u n) HasDisk) (sym (led_other filter source to m (disk_other m has) other)) (disk_still m has)
  ]

  led_size : (m : ℕ) → m ≢ filter → bytes_of_node u (led filter source to m) ≡ bytes_of_node t m
  led_size m apart = elim (cases_eq m source) [
    | inl is ↦
        ap (bytes_of_node u) (ap (led filter source to) is ∙ led_source filter source to source_other) ∙ size_then to onto.apart ∙ onto.size
        ∙ ap (bytes_of_node t) (sym is)
    | inr other ↦ ap (bytes_of_node u) (led_other filter source to m apart other) ∙ size_then m apart
  ]

  module _ (guests : List Guest) (was : GuestsStand t guests) where
    drives : HaveDrives u
    drives g there = subst IsSome (sym (drive_then g)) (by_drive (drive_of t g) (was.drives g (subst IsSome (device_then g) there)))
      where
        by_drive : (found : Option ℕ) → IsSome found → IsSome (option_map (led filter source to) found)
        by_drive None bad = absurd (let no : ⊥ = cc bad in no)
        by_drive (Some d) some = refl

    disks : AreOnDisks u
    disks g other on =
        let w = was_on g other on in
        subst (λ m. With (node_by_id u m) HasDisk) (sym (ap (disk_node u) w.is ∙ disks_led w.drive (drive_there g w.drive w.on)))
        (led_disk (disk_node t w.drive) (was.disks g w.drive w.on))

    asks : AskToWrite u
    asks g device edge there writes at_edge from =
        let w = p.edges edge g at_edge from in
        sym w.writes ∙ was.asks g device w.edge (sym (device_then g) ∙ there) writes w.there w.from

    writable : AreOnWritable u
    writable g other device there writes on =
        let w = was_on g other on in
        subst (IsOpen u) (sym w.is) (led_open w.drive (was.writable g w.drive device (sym (device_then g) ∙ there) writes w.on))

    within : AreWithin u guests
    within g f flies = by_drive (drive_of t g) refl (was.within g f flies)
      where
        by_drive : (found : Option ℕ) → drive_of t g ≡ found → With (option_map (disk_node t) found) (λ n. end_of (span_of f.op) ≤ bytes_of_node t n)
            → With (disk_of_guest u g) (λ n. end_of (span_of f.op) ≤ bytes_of_node u n)
        by_drive None e bad = absurd bad
        by_drive (Some d) e fits =
            subst (λ (x : Option ℕ). With x (λ n. end_of (span_of f.op) ≤ bytes_of_node u n))
            (sym (ap (option_map (disk_node u)) (drive_then g ∙ ap (option_map (led filter source to)) e) ∙ ap (λ (n : ℕ). Some n) (disks_led d (drive_there g d e))))
            (subst (λ m. end_of (span_of f.op) ≤ m) (sym (led_size (disk_node t d) (disk_other (disk_node t d) (was.disks g d e)))) fits)

    pub guests_led : GuestsStand u guests
    guests_led = record {
      drives = drives;
      disks = disks;
      asks = asks;
      writable = writable;
      within = within;
      allowed = λ g f flies.
          subst (λ (d : Option DeviceRow). With d (λ x. IsForbidden f.op x.read_only → ⊥)) (sym (device_then g)) (was.allowed g f flies);
    }
