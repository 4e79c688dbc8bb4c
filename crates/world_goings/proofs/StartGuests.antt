-- What is so of guests behind the start of a backup or a mirror: drives on its source are on its filter then, and disks stay.
use Rattle.std.proofs.Common.{◌≡◌, ◌≢◌, ℕ, zero, suc, ◌≤◌, ◌==◌, false, List, Option, Some, None, refl, sym, ◌∙◌, ap, subst, inl, inr, ◌⊎◌}
use Rattle.std.specs.Prelude.{IsSome, find, option_and_then, option_map, unwrap_or}
use Rattle.std.proofs.lemmas.Bool.{cases_eq, eq-eqb, eqb-true, ne_eqb}
use Rattle.blk_base.specs.Pieces.{end_of}
use Rattle.blk_graph.specs.declared.edge.Parent.TheVariants.{Guest as GuestOf, Node}
use Rattle.blk_graph.specs.declared.edge.Role.{Role}
use Rattle.blk_graph.specs.declared.edge.Role.TheVariants.{Drive}
use Rattle.blk_graph.specs.Edits.{child_moved}
use Rattle.blk_graph.proofs.ChildLemmas.{child-edge}
use Rattle.blk_graph.proofs.Members.{find-Some}
use Rattle.blk_history.specs.Disk.{span_of}
use Rattle.blk_history.specs.Fold.{With}
use Rattle.qmp_rules.specs.Chains.{disk_from, disk_node, filter_role, filtered}
use Rattle.qmp_rules.specs.Changes.{node_changed, unsettled}
use Rattle.qmp_rules.specs.Queries.{bytes_of_node}
use Rattle.qmp_rules.specs.Table.{RunTable, child, device_by_number, node_by_id}
use Rattle.qmp_rules.specs.declared.rows.DeviceRow.{DeviceRow}
use Rattle.qmp_rules.specs.declared.rows.JobRecord.{JobRecord}
use Rattle.qmp_rules.specs.declared.rows.NodeRecord.{NodeRecord}
use Rattle.flat_machine.specs.Agreement.{HasDisk}
use Rattle.flat_machine.specs.Legal.{IsForbidden}
use Rattle.flat_machine.specs.State.{Guest, disk_of_guest, drive_of}
use Rattle.flat_machine.specs.Suiting.{IsAlone, IsPlainNode}
use Rattle.flat_machine.specs.Wiring.{TableStands}
use Rattle.flat_machine.proofs.Kept.{own_disk}
use Rattle.flat_machine.proofs.Rows.{from-child, kept_unsettled}
use Rattle.flat_machine.proofs.WritingKept.{role_edge}
use Rattle.world_parts.specs.Coherent.{AreOnDisks, AreOnWritable, AreWithin, AskToWrite, HaveDrives}
use Rattle.world_parts.specs.Guests.{GuestsStand}
use Rattle.world_parts.proofs.InStep.{with-at}
use Rattle.world_goings.proofs.StartTables.{IsPutTable, row_lost}

-- ---- what a node reads as is itself, or under a filter

record IsUnder (t : RunTable) (m : ℕ) : Type 0 where
  over : ℕ
  leads : filtered t over ≡ Some m

reached : (t : RunTable) (more n m : ℕ) → disk_from more t n ≡ m → (n ≡ m) ⊎ IsUnder t m
reached t zero n m is = inl is
reached t (suc more) n m is = by_child (filtered t n) refl (reached t more)
  where
    by_child : (below : Option ℕ) → filtered t n ≡ below → ((c d : ℕ) → disk_from more t c ≡ d → (c ≡ d) ⊎ IsUnder t d) → (n ≡ m) ⊎ IsUnder t m
    by_child None e rest = inl (sym (from-child more t n None e) ∙ is)
    by_child (Some c) e rest = elim (rest c m (sym (from-child more t n (Some c) e) ∙ is)) [
      | inl same ↦ inr (record { over = n; leads = e ∙ ap Some same })
      | inr under ↦ inr under
    ]

-- so a node without parents is what no other one reads as
other_disk : (t : RunTable) (target : ℕ) → IsAlone t target → (d : ℕ) → d ≢ target → disk_node t d ≢ target
unfolding disk_node
other_disk t target alone d other is = elim (reached t 64 d target is) [
  | inl same ↦ other same
  | inr under ↦ by_role under.over (option_and_then (λ (r : NodeRecord). filter_role r.kind) (node_by_id t under.over)) under.leads
]
  where
    by_role : (n : ℕ) (found : Option Role) → option_and_then (child t n) found ≡ Some target → ⊥
    by_role n None bad = let no : ⊥ = cc bad in no
    by_role n (Some role) leads = let e = role_edge (Node n) role t.edges target leads in alone e.edge e.there e.to

module _ (t u : RunTable) (new : NodeRecord) (source target : ℕ) (job : JobRecord) (p : IsPutTable t u new source target job) (fresh : node_by_id t new.id ≡ None)
    (h : TableStands t) (plain : IsPlainNode t source) (shut : new.read_only ≡ plain.row.read_only) (alone : IsAlone t target)
    (found_other : (n : ℕ) → n ≢ new.id → node_by_id u n ≡ option_map (node_changed target unsettled) (node_by_id t n)) (found_own : node_by_id u new.id ≡ Some new) where
  abbrev lost : NodeRecord → NodeRecord
  lost = node_changed target unsettled

  not_new : (n : ℕ) → IsSome (node_by_id t n) → n ≢ new.id
  not_new n there same =
      let bad = subst IsSome (ap (node_by_id t) same ∙ fresh) there in
      let no : ⊥ = cc bad in
      no

  source_other : source ≢ new.id
  source_other = not_new source (subst IsSome (sym plain.there) refl)

  -- ---- drives

  record WasOn (g other : ℕ) : Type 0 where
    drive : ℕ
    on : drive_of t g ≡ Some drive
    is : other ≡ child_moved source new.id drive

  drive_then : (g : ℕ) → drive_of u g ≡ option_map (child_moved source new.id) (drive_of t g)
  drive_then g = p.drives g Drive (λ same. let no : ⊥ = cc same in no)

  was_on : (g other : ℕ) → drive_of u g ≡ Some other → WasOn g other
  was_on g other on = by_drive (drive_of t g) refl (sym (drive_then g) ∙ on)
    where
      by_drive : (found : Option ℕ) → drive_of t g ≡ found → option_map (child_moved source new.id) found ≡ Some other → WasOn g other
      by_drive None e bad = absurd (let no : ⊥ = cc bad in no)
      by_drive (Some d) e is = record { drive = d; on = e; is = let same : child_moved source new.id d ≡ other = cc is in sym same }

  drive_edge_of : (g d : ℕ) → drive_of t g ≡ Some d → IsSome (node_by_id t d) × (d ≢ target)
  drive_edge_of g d on =
      let e = child-edge (GuestOf g) Drive t.edges d on in (
        subst (λ (n : ℕ). IsSome (node_by_id t n)) e.to ((h.edges e.edge e.there).child),
        λ same. alone e.edge e.there (e.to ∙ same),
      )

  disk_moved : (d : ℕ) → IsSome (node_by_id t d) → disk_node u (child_moved source new.id d) ≡ disk_node t d
  disk_moved d there = elim (cases_eq d source) [
    | inl is ↦
        ap (disk_node u) (rw (eq-eqb d source is) refl) ∙ p.filter ∙ sym (own_disk t source plain.row plain.there plain.own) ∙ ap (disk_node t) (sym is)
    | inr other ↦ ap (disk_node u) (rw (ne_eqb d source other) refl) ∙ p.disks d (not_new d there)
  ]

  pub guest_disk : (g : ℕ) → disk_of_guest u g ≡ disk_of_guest t g
  guest_disk g = ap (option_map (disk_node u)) (drive_then g) ∙ by_drive (drive_of t g) refl
    where
      by_drive : (found : Option ℕ) → drive_of t g ≡ found → option_map (disk_node u) (option_map (child_moved source new.id) found) ≡ option_map (disk_node t) found
      by_drive None e = refl
      by_drive (Some d) e = ap (λ (n : ℕ). Some n) (disk_moved d (drive_edge_of g d e).0)

  -- ---- rows

  device_then : (g : ℕ) → device_by_number u g ≡ device_by_number t g
  device_then g = ap (find (λ (d : DeviceRow). d.number == g)) p.devices

  pub size_then : (n : ℕ) → n ≢ new.id → bytes_of_node u n ≡ bytes_of_node t n
  size_then n apart =
      ap (λ (found : Option NodeRecord). unwrap_or (option_map (λ (r : NodeRecord). r.size) found) 0) (found_other n apart) ∙ by_row (node_by_id t n)
    where
      by_row : (found : Option NodeRecord) → unwrap_or (option_map (λ (r : NodeRecord). r.size) (option_map lost found)) 0 ≡ unwrap_or (option_map (λ (r : NodeRecord). r.size) found) 0
      by_row None = refl
      by_row (Some r) = row_lost target (λ (x : NodeRecord). x.size) (λ x. refl) r

  disk_still : (m : ℕ) → m ≢ target → With (node_by_id t m) HasDisk → (m ≢ new.id) × With (node_by_id u m) HasDisk
  disk_still m other has = by_row (node_by_id t m) refl has
    where
      by_row : (found : Option NodeRecord) → node_by_id t m ≡ found → With found HasDisk → (m ≢ new.id) × With (node_by_id u m) HasDisk
      by_row None e bad = absurd bad
      by_row (Some r) e disk =
          let apart : m ≢ new.id = not_new m (subst IsSome (sym e) refl) in
          let id : r.id ≡ m = eqb-true r.id m (find-Some (λ (x : NodeRecord). x.id == m) t.nodes r e).1 in
          let kept : lost r ≡ r = kept_unsettled target r (λ same. other (sym id ∙ same)) in (
            apart,
            subst (λ (x : Option NodeRecord). With x HasDisk) (sym (found_other m apart ∙ ap (option_map lost) e))
                (record { settled = ap (λ (x : NodeRecord). x.is_settled) kept ∙ disk.settled; own = ap (λ (x : NodeRecord). filter_role x.kind) kept ∙ disk.own }),
          )

  writable_still : (n : ℕ) → n ≢ new.id → With (node_by_id t n) (λ r. r.read_only ≡ false) → With (node_by_id u n) (λ r. r.read_only ≡ false)
  writable_still n apart is =
      subst (λ (x : Option NodeRecord). With x (λ r. r.read_only ≡ false)) (sym (found_other n apart)) (by_row (node_by_id t n) is)
    where
      by_row : (found : Option NodeRecord) → With found (λ r. r.read_only ≡ false) → With (option_map lost found) (λ r. r.read_only ≡ false)
      by_row None bad = bad
      by_row (Some r) writes = row_lost target (λ (x : NodeRecord). x.read_only) (λ x. refl) r ∙ writes

  -- where the source may be written its filter may
  filter_writable : With (node_by_id t source) (λ r. r.read_only ≡ false) → With (node_by_id u new.id) (λ r. r.read_only ≡ false)
  filter_writable is =
      subst (λ (x : Option NodeRecord). With x (λ r. r.read_only ≡ false)) (sym found_own)
      (shut ∙ with-at (node_by_id t source) plain.row (λ r. r.read_only ≡ false) plain.there is)

  module _ (guests : List Guest) (was : GuestsStand t guests) where
    drives : HaveDrives u
    drives g there = subst IsSome (sym (drive_then g)) (by_drive (drive_of t g) (was.drives g (subst IsSome (device_then g) there)))
      where
        by_drive : (found : Option ℕ) → IsSome found → IsSome (option_map (child_moved source new.id) found)
        by_drive None bad = absurd (let no : ⊥ = cc bad in no)
        by_drive (Some d) some = refl

    not_target : (g d : ℕ) → drive_of t g ≡ Some d → disk_node t d ≢ target
    not_target g d on = other_disk t target alone d (drive_edge_of g d on).1

    disks : AreOnDisks u
    disks g other on =
        let w = was_on g other on in
        subst (λ m. With (node_by_id u m) HasDisk) (sym (ap (disk_node u) w.is ∙ disk_moved w.drive (drive_edge_of g w.drive w.on).0))
        (disk_still (disk_node t w.drive) (not_target g w.drive w.on) (was.disks g w.drive w.on)).1

    asks : AskToWrite u
    asks g device edge there writes at_edge from =
        let w = p.edges edge g at_edge from in
        sym w.writes ∙ was.asks g device w.edge (sym (device_then g) ∙ there) writes w.there w.from

    writable : AreOnWritable u
    writable g other device there writes on =
        let w = was_on g other on in
        let before = was.writable g w.drive device (sym (device_then g) ∙ there) writes w.on in
        subst (λ m. With (node_by_id u m) (λ r. r.read_only ≡ false)) (sym w.is)
        (elim (cases_eq w.drive source) [
          | inl is ↦
              subst (λ m. With (node_by_id u m) (λ r. r.read_only ≡ false)) (sym (let moves : child_moved source new.id w.drive ≡ new.id = rw (eq-eqb w.drive source is) refl in moves))
              (filter_writable (subst (λ m. With (node_by_id t m) (λ r. r.read_only ≡ false)) is before))
          | inr apart ↦
              subst (λ m. With (node_by_id u m) (λ r. r.read_only ≡ false)) (sym (let stays : child_moved source new.id w.drive ≡ w.drive = rw (ne_eqb w.drive source apart) refl in stays))
              (writable_still w.drive (not_new w.drive (drive_edge_of g w.drive w.on).0) before)
        ])

    within : AreWithin u guests
    within g f flies = by_drive (drive_of t g) refl (was.within g f flies)
      where
        by_drive : (found : Option ℕ) → drive_of t g ≡ found → With (option_map (disk_node t) found) (λ n. end_of (span_of f.op) ≤ bytes_of_node t n)
            → With (disk_of_guest u g) (λ n. end_of (span_of f.op) ≤ bytes_of_node u n)
        by_drive None e bad = absurd bad
        by_drive (Some d) e fits =
            let there = (drive_edge_of g d e).0 in
            let apart = (disk_still (disk_node t d) (not_target g d e) (was.disks g d e)).0 in
            subst (λ (x : Option ℕ). With x (λ n. end_of (span_of f.op) ≤ bytes_of_node u n))
            (sym (ap (option_map (disk_node u)) (drive_then g ∙ ap (option_map (child_moved source new.id)) e) ∙ ap (λ (n : ℕ). Some n) (disk_moved d there)))
            (subst (λ m. end_of (span_of f.op) ≤ m) (sym (size_then (disk_node t d) apart)) fits)

    pub guests_put : GuestsStand u guests
    guests_put = record {
      drives = drives;
      disks = disks;
      asks = asks;
      writable = writable;
      within = within;
      allowed = λ g f flies.
          subst (λ (d : Option DeviceRow). With d (λ x. IsForbidden f.op x.read_only → ⊥)) (sym (device_then g)) (was.allowed g f flies);
    }
