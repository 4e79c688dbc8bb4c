-- One node of an addition, as the flat machine sees it.
use Rattle.std.proofs.Common.{◌≡◌, ◌⊎◌, ℕ, Bool, true, false, cond, List, [], ◌∷◌, inl, inr, refl, sym, ◌∙◌, ap, Option, Some, None}
use Rattle.std.specs.Prelude.{Contains, bytes_eq, find, option_map, unwrap_or}
use Rattle.blk_graph.specs.Graph.{HasNode}
use Rattle.blk_graph.specs.declared.kind.Kind.{Kind}
use Rattle.blk_graph.specs.declared.kind.Kind.TheVariants.{Raw, Qcow2}
use Rattle.blk_graph.proofs.Members.{Contains-cases, Contains-nil, find-Some}
use Rattle.q2_format.specs.Contents.{image_disk, raw_disk}
use Rattle.blk_nodes.specs.Contents.{disk_under, bytes_of, disk_of}
use Rattle.blk_nodes.specs.Joined.{IsJoined}
use Rattle.blk_nodes.specs.Nodes.{Nodes, row_at}
use Rattle.blk_nodes.specs.declared.row.Driver.TheVariants as driver
use Rattle.blk_nodes.specs.declared.row.Row.{Row}
use Rattle.qmp_rules.specs.Asks.{stands_for}
use Rattle.qmp_rules.specs.Changes.{changed}
use Rattle.qmp_rules.specs.Looks.{is_unopened}
use Rattle.qmp_rules.specs.Table.{RunTable, node_by_id}
use Rattle.qmp_rules.specs.declared.change.Change.TheVariants.{AddFile, AddFilter, AddFormat}
use Rattle.qmp_rules.specs.declared.rows.NodeRecord.{NodeRecord}
use Rattle.flat_machine.specs.Agreement.{Contents}
use Rattle.flat_machine.specs.Performing.{IsQuiet, Performed, backing_reads, format_as, held_bytes}
use Rattle.flat_machine.specs.State.{State, filename_of}
use Rattle.flat_machine.specs.Wiring.{StandAlone}
use Rattle.flat_machine.proofs.Finds.{bytes_eq-same, same-bytes_eq}
use Rattle.flat_machine.proofs.Fresh.{found-new}
use Rattle.world_parts.specs.Adding.{Taken}
use Rattle.world_parts.specs.Face.{WorldSeen, contents_of, node_over, told_bytes}
use Rattle.world_parts.specs.Joining.{IsFileAdded, HasOver}
use Rattle.world_additions.proofs.AddClosed.{closed-rows}
use Rattle.world_additions.proofs.AddPerformed.{performed-file, performed-filter, performed-image, performed-part}
use Rattle.world_additions.proofs.AddQuiet.{over-added, over-filtered}

no-row : (nodes : Nodes) (id : ℕ) → IsJoined nodes → (HasNode nodes.graph id → ⊥) → row_at nodes id ≡ None
no-row nodes id joined absent = by_found (row_at nodes id) refl
  where
    by_found : (found : Option Row) → row_at nodes id ≡ found → found ≡ None
    by_found None e = refl
    by_found (Some row) e = absurd (absent (joined.only id (rw e refl)))

module _ (w v : WorldSeen) (joined : IsJoined w.nodes) (row : NodeRecord) (files : v.files ≡ w.files) (s : State) where
  -- over a file for which no node stands
  pub did-file : (filename : List ℕ) (device : Taken) → v.table ≡ changed w.table (AddFile row) → IsFileAdded row.name row.read_only device w.nodes v.nodes row.id
      → row.size ≡ device.size → row.filename ≡ Some filename → node_by_id w.table row.id ≡ None → is_unopened w.table filename ≡ false
      → device.content ≡ told_bytes w.files filename → Performed s (AddFile row) (contents_of w) (contents_of v)
  unfolding changed
  did-file filename device table has size named fresh closed content =
      performed-file w v joined row (record { driver = driver.File; size = device.size; is_read_only = row.read_only }) filename device
      (ap (λ (t : RunTable). t.nodes) table) named fresh (no-row w.nodes row.id joined has.lowest.free) (closed-rows w.table filename closed)
      (ap (λ (n : Nodes). n.rows) has.is) (ap (λ (n : Nodes). n.devices) has.is) files content s size has.disks has.disk

  module _ (own : Row) (child : ℕ) (bytes : List ℕ) (none : row.filename ≡ None) where
    -- over a part of a `file` node
    pub did-part : v.table ≡ changed w.table (AddFormat row child None) → HasOver row.name own child None bytes w.nodes v.nodes row.id → row.kind ≡ Raw
        → bytes ≡ raw_disk row.offset row.size (disk_of w.nodes child) → Performed s (AddFormat row child None) (contents_of w) (contents_of v)
    unfolding changed
    did-part table has kind is =
        performed-part w v joined row own (over-added w.table v.table row child none (ap (λ (t : RunTable). t.nodes) table))
        (ap (λ (n : Nodes). n.rows) has.is) (ap (λ (n : Nodes). n.devices) has.is) files has.disks s child kind (has.disk ∙ is)

    -- over an image
    pub did-image : (backing : Option ℕ) (filename : List ℕ) → v.table ≡ changed w.table (AddFormat row child backing)
        → HasOver row.name own child backing bytes w.nodes v.nodes row.id → row.kind ≡ Qcow2 → s.table ≡ w.table
        → filename_of w.table child ≡ Some filename → node_over w.table filename ≡ Some child
        → bytes ≡ image_disk (bytes_of w.nodes child) (disk_under (disk_of w.nodes) backing) → Performed s (AddFormat row child backing) (contents_of w) (contents_of v)
    unfolding changed
    did-image backing filename table has kind same named alone is =
        performed-image w v joined row own (over-added w.table v.table row child none (ap (λ (t : RunTable). t.nodes) table))
        (ap (λ (n : Nodes). n.rows) has.is) (ap (λ (n : Nodes). n.devices) has.is) files has.disks s child backing filename kind same named alone (has.disk ∙ is)

    -- that copies what it reads
    pub did-filter : v.table ≡ changed w.table (AddFilter row child) → HasOver row.name own child None bytes w.nodes v.nodes row.id
        → bytes ≡ disk_of w.nodes child → Performed s (AddFilter row child) (contents_of w) (contents_of v)
    unfolding changed
    did-filter table has is =
        performed-filter w v joined row own (over-filtered w.table v.table row none (ap (λ (t : RunTable). t.nodes) table))
        (ap (λ (n : Nodes). n.rows) has.is) (ap (λ (n : Nodes). n.devices) has.is) files has.disks s child (has.disk ∙ is)

-- ---- which `file` node it is

-- the node that was just added stands for its file
pub over-new : (t : RunTable) (row : NodeRecord) (filename : List ℕ) → row.filename ≡ Some filename → is_unopened t filename ≡ false
    → node_over (changed t (AddFile row)) filename ≡ Some row.id
unfolding changed
over-new t row filename named closed =
    let stands : stands_for filename row ≡ true = rw (named, bytes_eq-same filename) refl in
    ap (option_map (λ (r : NodeRecord). r.id)) (found-new (stands_for filename) t.nodes row (closed-rows t filename closed) stands)

-- one node stands for a file
pub over-one : (t : RunTable) (row : NodeRecord) (filename : List ℕ) → StandAlone t → Contains t.nodes row → row.filename ≡ Some filename
    → node_over t filename ≡ Some row.id
over-one t row filename alone there named = by_found (find (stands_for filename) t.nodes) refl
  where
    stands : stands_for filename row ≡ true
    stands = rw (named, bytes_eq-same filename) refl

    none-found : (rows : List NodeRecord) → Contains rows row → find (stands_for filename) rows ≡ None → ⊥
    none-found rows there none = found-none rows row there stands none
      where
        found-none : (rows : List NodeRecord) (r : NodeRecord) → Contains rows r → stands_for filename r ≡ true → find (stands_for filename) rows ≡ None → ⊥
        found-none [] r there is none = Contains-nil r there
        found-none (x ∷ rows) r there is none = by_head (stands_for filename x) refl none (Contains-cases x rows r there) (found-none rows r)
          where
            by_head : (b : Bool) → stands_for filename x ≡ b → cond b (Some x) (find (stands_for filename) rows) ≡ None → ((r ≡ x) ⊎ Contains rows r)
                → (Contains rows r → stands_for filename r ≡ true → find (stands_for filename) rows ≡ None → ⊥) → ⊥
            by_head true e none at rest = cc none
            by_head false e none (inl here) rest =
                let yes_x : stands_for filename x ≡ true = ap (stands_for filename) (sym here) ∙ is in
                let bad : true ≡ false = sym yes_x ∙ e in
                cc bad
            by_head false e none (inr behind) rest = rest behind is none

    named-by : (found : NodeRecord) → stands_for filename found ≡ true → found.filename ≡ Some filename
    named-by found is = by_name found.filename refl is
      where
        by_name : (name : Option (List ℕ)) → found.filename ≡ name → unwrap_or (option_map (λ (n : List ℕ). bytes_eq n filename) name) false ≡ true → found.filename ≡ Some filename
        by_name None e h = absurd (cc h)
        by_name (Some n) e h = e ∙ ap (λ (m : List ℕ). Some m) (same-bytes_eq n filename h)

    by_found : (found : Option NodeRecord) → find (stands_for filename) t.nodes ≡ found → option_map (λ (r : NodeRecord). r.id) found ≡ Some row.id
    by_found None e = absurd (none-found t.nodes there e)
    by_found (Some found) e =
        let at = find-Some (stands_for filename) t.nodes found e in
        ap Some (alone filename found row (record { there = at.0; filename = named-by found at.1 }) (record { there = there; filename = named }))

-- ---- what is added reads the same behind looks

format-same : (s : State) (a b : Contents) (row : NodeRecord) (file : ℕ) (backing : Option ℕ) → IsQuiet a b → (k : Kind)
    → format_as s b row file backing k ≡ format_as s a row file backing k
format-same s a b row file backing quiet Raw = ap (raw_disk row.offset row.size) (quiet.nodes file (λ bad. bad))
format-same s a b row file backing quiet Qcow2 =
    ap (λ (h : Option (List ℕ)). image_disk (unwrap_or h []) (backing_reads b backing)) (quiet.files (unwrap_or (filename_of s.table file) []) (λ bad. bad))
    ∙ ap (image_disk (held_bytes a (unwrap_or (filename_of s.table file) []))) (by_backing backing)
  where
    by_backing : (found : Option ℕ) → backing_reads b found ≡ backing_reads a found
    by_backing None = refl
    by_backing (Some node) = quiet.nodes node (λ bad. bad)
format-same s a b row file backing quiet _ = refl

pub did-sooner : (s : State) (a b d : Contents) (row : NodeRecord) (file : ℕ) (backing : Option ℕ) → IsQuiet a b
    → Performed s (AddFormat row file backing) b d → Performed s (AddFormat row file backing) a d
did-sooner s a b d row file backing quiet did = record {
  nodes = λ node other. did.nodes node other ∙ quiet.nodes node (λ bad. bad);
  files = λ name other. did.files name other ∙ quiet.files name (λ bad. bad);
  reads_as = did.reads_as ∙ format-same s a b row file backing quiet row.kind;
}
