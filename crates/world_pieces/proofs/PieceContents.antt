-- What nodes read as and what files hold after a piece.
use Rattle.std.proofs.Common.{◌≡◌, ◌≢◌, ◌⊎◌, ℕ, true, false, Bool, List, [], ◌∷◌, replicate, Option, Some, None, refl, sym, ◌∙◌, ap, subst, inl, inr, ◌==◌, cond}
use Rattle.std.specs.Prelude.{find, option_map, option_and_then}
use Rattle.std.proofs.lemmas.Bool.{cases_eq}
use Rattle.blk_base.specs.Pieces.{Extent}
use Rattle.blk_base.specs.declared.fault.Outcome.{Outcome}
use Rattle.trace_codec.specs.declared.op.Op.{Op}
use Rattle.trace_codec.specs.declared.op.Op.TheVariants.{Read, Write, Zero, Flush, Discard}
use Rattle.blk_graph.specs.Edits.{child_of}
use Rattle.blk_graph.specs.declared.edge.Parent.TheVariants.{Node}
use Rattle.blk_graph.specs.declared.edge.Role.TheVariants.{File}
use Rattle.blk_history.specs.Disk.{payload_in}
use Rattle.qmp_rules.specs.Asks.{stands_for}
use Rattle.qmp_rules.specs.Table.{RunTable, node_by_id, child}
use Rattle.qmp_rules.specs.declared.rows.NodeRecord.{NodeRecord}
use Rattle.flat_machine.specs.Changed.{own_filename}
use Rattle.flat_machine.specs.Machine.{copies_through}
use Rattle.flat_machine.specs.State.{filename_of}
use Rattle.flat_machine.specs.Writing.{written_file}
use Rattle.flat_machine.proofs.Finds.{find-map}
use Rattle.blk_nodes.specs.Flushing.{base_of, IsFlushAt}
use Rattle.blk_nodes.specs.Nodes.{Nodes, DeviceSeen, row_at, device_in, file_of, driver_kind}
use Rattle.blk_nodes.specs.Reading.{HaveRisen}
use Rattle.blk_nodes.specs.Writing.{WritesFile, WritesImage, WritesBy, ZerosBy, own_file}
use Rattle.blk_nodes.specs.declared.row.Driver.{Driver}
use Rattle.blk_nodes.specs.declared.row.Driver.TheVariants as drivers
use Rattle.blk_nodes.specs.declared.row.Row.{Row}
use Rattle.world_parts.specs.Coherent.{AreNodesOf, IsRowOf}
use Rattle.world_parts.specs.Face.{WorldSeen, held, held_in_file, node_over, told_bytes}
use Rattle.world_parts.proofs.EasedTables.{IsTableEased}
use Rattle.world_pieces.proofs.PieceCopied.{ReadWent, Went, writes_file, into_image}
use Rattle.world_parts.proofs.TablesAfter.{row_same}
use Rattle.world_parts.proofs.NodesAfter.{device_content_in, only_content}

-- ---- bytes of devices

pub risen_content : (old new : List DeviceSeen) → HaveRisen old new → (n : ℕ) → device_content_in new n ≡ device_content_in old n
risen_content [] [] risen n = refl
risen_content (a ∷ old) (b ∷ new) risen n =
    let node : b.node ≡ a.node = ap (λ (d : DeviceSeen). d.node) risen.0.same in
    let content : b.content ≡ a.content = ap (λ (d : DeviceSeen). d.content) risen.0.same in
    ap (λ (m : ℕ). option_and_then (λ (d : DeviceSeen). d.content) (cond (m == n) (Some b) (device_in new n))) node
    ∙ by_test (a.node == n) content (risen_content old new risen.1 n)
  where
    by_test : (t : Bool) → b.content ≡ a.content → device_content_in new n ≡ device_content_in old n
        → option_and_then (λ (d : DeviceSeen). d.content) (cond t (Some b) (device_in new n)) ≡ option_and_then (λ (d : DeviceSeen). d.content) (cond t (Some a) (device_in old n))
    by_test true same rest = same
    by_test false same rest = rest
risen_content [] (b ∷ new) risen n = absurd risen
risen_content (a ∷ old) [] risen n = absurd risen

-- a node is not over the file that a piece writes
abbrev pub IsElse : Bool → Nodes → ℕ → ℕ → Type 0
IsElse writes nodes node n = writes ≡ true → (row : Row) (file : ℕ) → row_at nodes node ≡ Some row → own_file nodes node row.driver ≡ Some file → n ≢ file

module _ (old new : Nodes) (node n : ℕ) where
  abbrev NotItsFile : Type 0
  NotItsFile = (row : Row) (file : ℕ) → row_at old node ≡ Some row → own_file old node row.driver ≡ Some file → n ≢ file

  file_content : (place : ℕ) (bytes : List ℕ) (outcome : Outcome) → WritesFile old new node place bytes outcome → NotItsFile → device_content_in new.devices n ≡ device_content_in old.devices n
  file_content place bytes outcome wrote apart =
      only_content wrote.file old.devices new.devices wrote.at.only n (apart wrote.row wrote.file wrote.there wrote.own)

  image_content : (fits : ℕ → Type 0) (own : Option ℕ) (rest : Option Extent) (m : ℕ) (outcome : Outcome) (row : Row) (d : Driver) → row_at old node ≡ Some row → row.driver ≡ d
      → (wrote : WritesImage fits own rest old new node m outcome) → own_file old node d ≡ Some wrote.file → NotItsFile → device_content_in new.devices n ≡ device_content_in old.devices n
  image_content fits own rest m outcome row d there driver wrote is apart = elim wrote.devices [
    | inl only ↦ only_content wrote.file old.devices new.devices only n (apart row wrote.file there (ap (own_file old node) driver ∙ is))
    | inr risen ↦ risen_content old.devices new.devices risen n
  ]

  write_content : (part : Extent) (bytes : List ℕ) (outcome : Outcome) (row : Row) → row_at old node ≡ Some row → (d : Driver) → row.driver ≡ d → WritesBy d old new node part bytes outcome
      → NotItsFile → device_content_in new.devices n ≡ device_content_in old.devices n
  write_content part bytes outcome row there drivers.File driver wrote apart = file_content part.start bytes outcome wrote apart
  write_content part bytes outcome row there (drivers.Raw p) driver wrote apart = file_content part.start bytes outcome wrote apart
  write_content part bytes outcome row there (drivers.Qcow2 image) driver wrote apart = image_content _ _ _ _ outcome row (drivers.Qcow2 image) there driver wrote wrote.edge apart
  write_content part bytes outcome row there drivers.CopyOnRead driver wrote apart = file_content part.start bytes outcome wrote apart
  write_content part bytes outcome row there (drivers.Filter kind) driver wrote apart = file_content part.start bytes outcome wrote apart

  zero_content : (part : Extent) (outcome : Outcome) (row : Row) → row_at old node ≡ Some row → (d : Driver) → row.driver ≡ d → ZerosBy d old new node part outcome
      → NotItsFile → device_content_in new.devices n ≡ device_content_in old.devices n
  zero_content part outcome row there drivers.File driver wrote apart = file_content part.start (replicate part.len 0) outcome wrote apart
  zero_content part outcome row there (drivers.Raw p) driver wrote apart = file_content part.start (replicate part.len 0) outcome wrote apart
  zero_content part outcome row there (drivers.Qcow2 image) driver wrote apart = image_content _ _ _ _ outcome row (drivers.Qcow2 image) there driver wrote wrote.edge apart
  zero_content part outcome row there drivers.CopyOnRead driver wrote apart = file_content part.start (replicate part.len 0) outcome wrote apart
  zero_content part outcome row there (drivers.Filter kind) driver wrote apart = file_content part.start (replicate part.len 0) outcome wrote apart

  flush_content : (file : ℕ) (outcome : Outcome) → IsFlushAt file old.devices new.devices outcome → device_content_in new.devices n ≡ device_content_in old.devices n
  flush_content file outcome (inr none) = ap (λ (ds : List DeviceSeen). device_content_in ds n) none.1
  flush_content file outcome (inl flushed) = by_node (cases_eq n file)
    where
      by_node : (n ≡ file) ⊎ (n ≢ file) → device_content_in new.devices n ≡ device_content_in old.devices n
      by_node (inl same) =
          ap (device_content_in new.devices) same ∙ ap (option_and_then (λ (d : DeviceSeen). d.content)) flushed.left
          ∙ ap (λ (d : DeviceSeen). d.content) flushed.flush.is
          ∙ sym (ap (device_content_in old.devices) same ∙ ap (option_and_then (λ (d : DeviceSeen). d.content)) flushed.held)
      by_node (inr apart) = only_content file old.devices new.devices flushed.only n apart

  module _ (t : RunTable) (drive : ℕ) (part : Extent) (outcome : Outcome) (buffer : List ℕ) where
    read_content : ReadWent t old new drive node part outcome buffer → IsElse (copies_through t drive) old node n → device_content_in new.devices n ≡ device_content_in old.devices n
    read_content (inl only) apart = risen_content old.devices new.devices only.devices n
    read_content (inr (inl full)) apart = ap (λ (ns : Nodes). device_content_in ns.devices n) full.room.same
    read_content (inr (inr into)) apart =
        let wrote = into_image t old new drive node part outcome buffer into in
        image_content _ _ _ _ outcome into.copied.row (drivers.Qcow2 into.copied.image) into.copied.there into.copied.driver wrote wrote.edge (apart into.copied.copies)

    pub content_after : (op : Op) → Went t op old new drive node part outcome buffer → IsElse (writes_file t drive op) old node n → device_content_in new.devices n ≡ device_content_in old.devices n
    content_after (Read span) went apart = read_content went apart
    content_after (Write span payload) went apart =
        write_content part (payload_in (Write span payload) part) outcome went.0.row went.0.there went.0.row.driver refl went.0.wrote (apart refl)
    content_after (Zero span) went apart = zero_content part outcome went.0.row went.0.there went.0.row.driver refl went.0.wrote (apart refl)
    content_after Flush went apart = flush_content (base_of old node) outcome went.flushed
    content_after (Discard span) went apart = absurd went

-- ---- the file that is written, by name

module _ (t : RunTable) (nodes : Nodes) (are : AreNodesOf t nodes) (node : ℕ) (row : NodeRecord) (at : node_by_id t node ≡ Some row) (id_is : row.id ≡ node)
    (own : Row) (own_at : row_at nodes node ≡ Some own) (alike : IsRowOf row own) where
  pub written_is : (file : ℕ) → own_file nodes node own.driver ≡ Some file → written_file t node ≡ filename_of t file
  written_is file is =
      ap (option_and_then (λ (r : NodeRecord). own_filename t r r.kind)) at ∙ ap (own_filename t row) alike.kind ∙ by_driver own.driver is
    where
      child_is : file_of nodes node ≡ Some file → child t row.id File ≡ Some file
      child_is edge = ap (λ (n : ℕ). child t n File) id_is ∙ ap (child_of (Node node) File) (sym are.edges) ∙ edge

      by_driver : (d : Driver) → own_file nodes node d ≡ Some file → own_filename t row (driver_kind d) ≡ filename_of t file
      by_driver drivers.File same =
          let equal : node ≡ file = cc same in
          sym (ap (option_and_then (λ (r : NodeRecord). r.filename)) (subst (λ (n : ℕ). node_by_id t n ≡ Some row) equal at))
      by_driver (drivers.Raw part) edge = ap (option_and_then (filename_of t)) (child_is edge)
      by_driver (drivers.Qcow2 image) edge = ap (option_and_then (filename_of t)) (child_is edge)
      by_driver drivers.CopyOnRead bad = absurd (let e : ⊥ = cc bad in e)
      by_driver (drivers.Filter kind) bad = absurd (let e : ⊥ = cc bad in e)

  -- a node over another file
  pub else_by : (writes : Bool) (n : ℕ) (name : List ℕ) → filename_of t n ≡ Some name → (written_file t node ≡ Some name → ⊥) → IsElse writes nodes node n
  else_by writes n name named other changes found file there is = λ same.
      let rows : found ≡ own = cc (sym there ∙ own_at) in
      let its : own_file nodes node own.driver ≡ Some file = ap (λ (r : Row). own_file nodes node r.driver) (sym rows) ∙ is in
      other (written_is file its ∙ ap (filename_of t) (sym same) ∙ named)

-- ---- the node over a file

pub over_same : (t now : RunTable) → IsTableEased t now → (name : List ℕ) → node_over now name ≡ node_over t name
over_same t now e name =
    ap (λ (rows : List NodeRecord). option_map (λ (r : NodeRecord). r.id) (find (stands_for name) rows)) e.rows
    ∙ ap (option_map (λ (r : NodeRecord). r.id)) (find-map (stands_for name) e.f (row_same t now e (stands_for name) (λ row. refl)) t.nodes)
    ∙ by_found (find (stands_for name) t.nodes)
  where
    by_found : (found : Option NodeRecord) → option_map (λ (r : NodeRecord). r.id) (option_map e.f found) ≡ option_map (λ (r : NodeRecord). r.id) found
    by_found None = refl
    by_found (Some row) = ap Some (row_same t now e (λ r. r.id) (λ r. refl) row)

-- what a file holds, where its device does
pub held_after : (w v : WorldSeen) (name : List ℕ) → v.files ≡ w.files → node_over v.table name ≡ node_over w.table name
    → ((n : ℕ) → node_over w.table name ≡ Some n → device_content_in v.nodes.devices n ≡ device_content_in w.nodes.devices n) → held v name ≡ held w name
held_after w v name files over same = ap (held_in_file v name) over ∙ by_node (node_over w.table name) refl
  where
    by_node : (found : Option ℕ) → node_over w.table name ≡ found → held_in_file v name found ≡ held_in_file w name found
    by_node None is = ap (λ (all : _). told_bytes all name) files
    by_node (Some n) is = same n is
