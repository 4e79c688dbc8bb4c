-- The entry of a piece fits, and names a device that its guest's node reaches.
use Rattle.std.proofs.Common.{◌≡◌, ◌⊎◌, ℕ, zero, suc, ◌<◌, ◌==◌, ◌||◌, Bool, true, false, cond, List, [], ◌∷◌, length, Option, Some, None, refl, sym, ◌∙◌, ap, subst, inl, inr, arith, eq-eqb}
use Rattle.std.specs.Prelude.{Contains, slice_get, option_map, option_and_then, unwrap_or, ◌&&◌}
use Rattle.std.specs.List.{list_any}
use Rattle.blk_base.specs.declared.fault.DevNo.{DevNo}
use Rattle.blk_base.specs.declared.fault.Outcome.{Outcome}
use Rattle.blk_graph.specs.Edges.{same_parent}
use Rattle.blk_graph.specs.Paths.{IsPath, Reaches}
use Rattle.blk_graph.specs.declared.edge.Edge.{Edge}
use Rattle.blk_graph.specs.declared.edge.Parent.{Parent}
use Rattle.blk_graph.specs.declared.edge.Parent.TheVariants.{Node}
use Rattle.blk_graph.proofs.InverseLemmas.{same_parent-refl}
use Rattle.blk_graph.proofs.Members.{Contains-nil, Contains-cases}
use Rattle.blk_graph.proofs.PathLemmas.{Reaches-edge}
use Rattle.blk_history.specs.Fold.{With}
use Rattle.blk_history.specs.Legal.{IsNextPiece}
use Rattle.blk_history.specs.Machine.{Flight}
use Rattle.qmp_rules.specs.Chains.{disk_node, is_settled, leads, reaches}
use Rattle.qmp_rules.specs.Table.{RunTable, node_by_id}
use Rattle.qmp_rules.specs.declared.rows.NodeRecord.{NodeRecord}
use Rattle.flat_machine.specs.Agreement.{HasDisk}
use Rattle.flat_machine.specs.EventLicence.{ReachesDevice}
use Rattle.flat_machine.specs.Legal.{Fits, guest_disk}
use Rattle.flat_machine.specs.State.{State, Guest, flat_disk_of as flat_disk, disk_of_guest, drive_of, bytes_in}
use Rattle.flat_machine.specs.Wiring.{TableStands}
use Rattle.flat_machine.specs.declared.opening.Opening.{Opening}
use Rattle.flat_machine.proofs.Kept.{own_disk}
use Rattle.blk_nodes.specs.Contents.{disk_of}
use Rattle.blk_nodes.specs.Joined.{IsJoined}
use Rattle.blk_nodes.specs.Nodes.{Nodes, DeviceSeen, AreTold, device_in}
use Rattle.blk_nodes.specs.Reading.{LeadsTo}
use Rattle.blk_nodes.proofs.Leading.{leads_on}
use Rattle.world_parts.specs.Coherent.{AreNodesOf}
use Rattle.world_parts.specs.Comes.{ShowsState}
use Rattle.world_parts.specs.Counting.{seen_sources}
use Rattle.world_parts.specs.Face.{WorldSeen}
use Rattle.blk_pieces.specs.Pieces.{Transfers}
use Rattle.blk_pieces.proofs.Told.{tells}
use Rattle.world_parts.specs.Piecing.{part_of, shown_in_flight}
use Rattle.world_pieces.specs.Pieces.{piece_entry}
use Rattle.world_parts.specs.Progress.{HasNext, flight_at, requests_done}
use Rattle.world_pieces.proofs.PieceNodes.{StoppedOn}
use Rattle.world_pieces.proofs.PiecePaths.{short, or-right}
use Rattle.world_pieces.proofs.PieceWriters.{filter_edge, down_disk}
use Rattle.world_parts.proofs.Quiet.{in-flight}

-- ---- the guest's flat disk

pub flat_is : (s : State) (t : RunTable) (g drive : ℕ) (row : NodeRecord) → s.table ≡ t → drive_of t g ≡ Some drive → node_by_id t (disk_node t drive) ≡ Some row → HasDisk row
    → guest_disk s g ≡ Some (bytes_in s.disks (disk_node t drive))
flat_is s t g drive row table on at has =
    ap (λ (d : Option ℕ). option_and_then (flat_disk s) d) (ap (λ (u : RunTable). disk_of_guest u g) table ∙ ap (option_map (disk_node t)) on)
    ∙ ap (λ (u : RunTable). if_settled (is_settled u node) (bytes_in s.disks (disk_node u node))) table
    ∙ ap (λ (b : Bool). if_settled b (bytes_in s.disks (disk_node t node))) settled
    ∙ ap (λ (n : ℕ). Some (bytes_in s.disks n)) itself
  where
    node : ℕ
    node = disk_node t drive

    if_settled : Bool → List ℕ → Option (List ℕ)
    if_settled b bytes = cond b (Some bytes) None

    itself : disk_node t node ≡ node
    itself = own_disk t node row at has.own

    settled : is_settled t node ≡ true
    settled =
        ap (λ (n : ℕ). unwrap_or (option_map (λ (r : NodeRecord). r.is_settled) (node_by_id t n)) false) itself
        ∙ ap (λ (found : Option NodeRecord). unwrap_or (option_map (λ (r : NodeRecord). r.is_settled) found) false) at ∙ has.settled

-- ---- it fits

with_flight : (guests : List Guest) (g : ℕ) (f : Flight) (P : Flight → Type 0) → flight_at guests g ≡ Some f → P f → With (flight_at guests g) P
with_flight guests g f P is holds = subst (λ (x : Option Flight). With x P) (sym is) holds

pub piece_fits : (o : Opening) (s : State) (w v : WorldSeen) (g drive : ℕ) (f : Flight) (outcome : Outcome) (buffer : List ℕ) (row : NodeRecord) → ShowsState o s w → AreTold w.nodes.devices
    → drive_of w.table g ≡ Some drive → node_by_id w.table (disk_node w.table drive) ≡ Some row → HasDisk row → flight_at w.progress.guests g ≡ Some f → HasNext f
    → disk_of w.nodes (disk_node w.table drive) ≡ disk_of w.nodes drive
    → Transfers f.op w.nodes v.nodes drive (disk_node w.table drive) (part_of f) outcome buffer → Fits s (piece_entry w g f outcome buffer)
piece_fits o s w v g drive f outcome buffer row shows told on at has flies next same did =
    let node : ℕ = disk_node w.table drive in
    let flat = flat_is s w.table g drive row shows.table.table_is on at has in
    let reads : disk_of w.nodes node ≡ bytes_in s.disks node =
    shows.contents.disks node row (ap (λ (t : RunTable). node_by_id t node) shows.table.table_is ∙ at) has in
    let disk : guest_disk s g ≡ Some (disk_of w.nodes drive) = flat ∙ ap Some (sym reads ∙ same) in
    let is : IsNextPiece f f.next outcome (guest_disk s g) (shown_in_flight f outcome buffer) = record {
      running = next.running;
      next = refl;
      within = next.next;
      told = tells w.nodes v.nodes drive node (part_of f) buffer told f.op outcome (guest_disk s g) disk did;
    } in
    let stands = in-flight w.progress.guests g (λ x. IsNextPiece x f.next outcome (guest_disk s g) (shown_in_flight f outcome buffer))
    (with_flight w.progress.guests g f (λ x. IsNextPiece x f.next outcome (guest_disk s g) (shown_in_flight f outcome buffer)) flies is) in (
      shows.table.rest,
      subst (λ (guests : List Guest). With (slice_get guests g)
          (λ x. (requests_done w.progress.guests g ≡ x.done) × With x.flight (λ y. IsNextPiece y f.next outcome (guest_disk s g) (shown_in_flight f outcome buffer)))) (sym shows.guests.guests_are) stands,
    )

-- ---- the device that it names

any_here : (test : Edge → Bool) (edges : List Edge) (e : Edge) → Contains edges e → test e ≡ true → list_any test edges ≡ true
any_here test [] e there is = absurd (Contains-nil e there)
any_here test (x ∷ edges) e there is = by_head (Contains-cases x edges e there) (λ later. any_here test edges e later is)
  where
    by_head : (e ≡ x) ⊎ Contains edges e → (Contains edges e → list_any test edges ≡ true) → (test x || list_any test edges) ≡ true
    by_head (inl here) rest = let yes : test x ≡ true = ap test (sym here) ∙ is in rw yes refl
    by_head (inr later) rest = or-right (test x) (list_any test edges) (rest later)

leads_true : (edges : List Edge) (p : List Edge) (e : Edge) (n a b : ℕ) → IsPath edges a (e ∷ p) b → length p < n → leads n edges a b ≡ true
leads_true edges p e zero a b path less = absurd (omega (arith, less))
leads_true edges [] e (suc m) a b path less =
    any_here (λ edge. same_parent edge.parent (Node a) && ((edge.child == b) || leads m edges edge.child b)) edges e path.0
    (let parent : same_parent e.parent (Node a) ≡ true = ap (λ (p : Parent). same_parent p (Node a)) path.1 ∙ same_parent-refl (Node a) in
    let child : (e.child == b) ≡ true = eq-eqb e.child b path.2 in
    rw (parent, child) refl)
leads_true edges (f ∷ p) e (suc m) a b path less =
    any_here (λ edge. same_parent edge.parent (Node a) && ((edge.child == b) || leads m edges edge.child b)) edges e path.0
    (let parent : same_parent e.parent (Node a) ≡ true = ap (λ (p : Parent). same_parent p (Node a)) path.1 ∙ same_parent-refl (Node a) in
    let rest = leads_true edges p f m e.child b path.2 (omega (arith, less)) in
    let either : ((e.child == b) || leads m edges e.child b) ≡ true = or-right (e.child == b) (leads m edges e.child b) rest in
    rw (parent, either) refl)

module _ (t : RunTable) (nodes : Nodes) (joined : IsJoined nodes) (are : AreNodesOf t nodes) (stands : TableStands t) where
  reaches_by : (a b : ℕ) → LeadsTo t.edges a b → (a ≡ b) ⊎ (reaches t a b ≡ true)
  unfolding reaches
  reaches_by a b (inl same) = inl same
  reaches_by a b (inr path) =
      let less = short t nodes joined are stands a b (path.first ∷ path.rest) path.path in
      inr (leads_true t.edges path.rest path.first 64 a b path.path (omega (arith, less)))

  pub to_disk : (drive : ℕ) → LeadsTo t.edges drive (disk_node t drive)
  to_disk drive =
      down_disk t nodes joined are stands (λ n. LeadsTo t.edges drive n)
      (λ a c is so_far.
      let e = filter_edge t nodes joined are stands a c is in
      leads_on t.edges drive a c so_far (inr (subst (Reaches t.edges a) e.to (Reaches-edge t.edges a e.edge e.there e.from)))) drive (inl refl)

  pub stop_reached : (w : WorldSeen) (new : Nodes) (drive : ℕ) (outcome : Outcome) (dev : DevNo) → w.nodes ≡ nodes → (stop : StoppedOn nodes new drive outcome dev)
      → dev ≡ stop.before.number → ReachesDevice t (seen_sources w) drive dev.0
  stop_reached w new drive outcome dev same stop named = record {
    file = stop.file;
    leads = reaches_by drive stop.file (subst (λ (es : List Edge). LeadsTo es drive stop.file) are.edges stop.leads);
    device =
        ap (λ (ns : Nodes). option_map (λ (d : DeviceSeen). d.number.0) (device_in ns.devices stop.file)) same
        ∙ ap (option_map (λ (d : DeviceSeen). d.number.0)) stop.held ∙ ap (λ (d : DevNo). Some d.0) (sym named);
  }
