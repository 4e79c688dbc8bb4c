-- A snapshot that nothing refuses: what its changes make of the table, of guests by it, and of the disks that go with it.
use Rattle.std.proofs.Common.{◌≡◌, ℕ, false, List, [], ◌∷◌, ◌++◌, refl, sym, ◌∙◌, ap, subst, Some, None}
use Rattle.std.specs.Prelude.{option_map}
use Rattle.std.proofs.lemmas.Bool.{eq-eqb}
use Rattle.blk_graph.specs.declared.edge.Edge.{Edge}
use Rattle.blk_graph.specs.declared.edge.Parent.TheVariants.{Node}
use Rattle.blk_graph.specs.declared.edge.Role.TheVariants.{File as FileRole, Backing}
use Rattle.blk_graph.specs.Edits.{child_of, with_edge, with_over}
use Rattle.blk_graph.specs.Permissions.{node_edge}
use Rattle.blk_graph.specs.Refreshed.{refreshed}
use Rattle.blk_graph.proofs.ChildLemmas.{child-edge, child-kept}
use Rattle.blk_graph.proofs.DraftLemmas.{child_put, children_put, children_replaced}
use Rattle.blk_graph.proofs.RefreshLemmas.{child_of-refreshed}
use Rattle.qmp_asks.specs.CommandAsks.{asks_of}
use Rattle.qmp_asks.specs.NodeAsks.{snapshot_values, snapshot_names, snapshot_rest}
use Rattle.qmp_codec.specs.declared.command.Command.TheVariants as command
use Rattle.qmp_codec.specs.declared.nodes.Snapshot.{Snapshot}
use Rattle.qmp_rules.specs.Answers.{command_edits, refusal_to}
use Rattle.qmp_rules.specs.Asks.{holds}
use Rattle.qmp_rules.specs.Changes.{all_changed, changed}
use Rattle.qmp_rules.specs.Edits.{edits_of}
use Rattle.qmp_rules.specs.Table.{RunTable, has_name, id_named, kinds_of}
use Rattle.qmp_rules.specs.declared.change.Change.TheVariants.{Attach, Move}
use Rattle.qmp_rules.specs.declared.rows.NodeRecord.{NodeRecord}
use Rattle.qmp_rules.specs.declared.told.Told.{Told}
use Rattle.flat_machine.specs.State.{Guest}
use Rattle.flat_machine.specs.Wiring.{TableStands}
use Rattle.flat_machine.proofs.Asked.{NoneHolds, not-refused}
use Rattle.flat_machine.proofs.Snapshots.{AreSnapshot, snapshot_nodes, attached_edges, attached_table, attached_stands, over_attached, covered_table, covered_changes, edits_are}
use Rattle.flat_machine.proofs.TablesKept.{child-role}
use Rattle.blk_nodes.specs.Covering.{IsClear, IsCover}
use Rattle.blk_nodes.specs.Joined.{IsJoined}
use Rattle.blk_nodes.specs.Nodes.{Nodes}
use Rattle.blk_nodes.proofs.Covered.{moved_edges}
use Rattle.blk_nodes.proofs.CoveredDisks.{shows_below}
use Rattle.world_parts.specs.Coherent.{AreNodesOf}
use Rattle.world_parts.specs.Guests.{GuestsStand}
use Rattle.world_parts.proofs.Accepted.{asked}
use Rattle.world_parts.proofs.DisksKept.{AreLedOver, ShowsBelow, GoWith, IsBacked, go_backed, go_led, put_at, then_other, then_own}
use Rattle.world_parts.proofs.GuestsKept.{guests_attached, guests_moved}
use Rattle.world_changes.proofs.SnapshotNodes.{cover_of}

module _ (t : RunTable) (h : TableStands t) (c : Snapshot (List ℕ)) (told : Told)
    (none : refusal_to t told (command.BlockdevSnapshot c) ≡ None) where
  asks : NoneHolds t told (snapshot_values c ++ snapshot_names c ++ snapshot_rest c)
  unfolding asks_of
  asks = asked t told (command.BlockdevSnapshot c) none

  pub of : AreSnapshot t c
  of = snapshot_nodes t told c h asks

  abbrev pub node : ℕ
  node = of.node.id

  abbrev pub overlay : ℕ
  overlay = of.overlay.id

  abbrev between : RunTable
  between = attached_table t of.node of.overlay of.over of.bare h

  abbrev pub table_then : RunTable
  table_then = covered_table t of.node of.overlay of.over of.bare h

  pub edits : command_edits t told (command.BlockdevSnapshot c) ≡ Attach overlay node ∷ Move node overlay overlay ∷ []
  unfolding edits_of
  edits = edits_are t c of

  pub table_is : all_changed t (command_edits t told (command.BlockdevSnapshot c)) ≡ table_then
  table_is = ap (all_changed t) edits ∙ covered_changes t of.node of.overlay of.over of.bare h

  pub overlay_is : id_named t c.overlay ≡ Some overlay
  overlay_is = ap (option_map (λ (r : NodeRecord). r.id)) of.overlay_is

  -- it wasn't told to map a cluster
  pub unmapped : has_name c.overlay told.mapped ≡ false
  unfolding holds
  unmapped = not-refused _ _ asks.1.1.1.1.1.1.1.1.1.1.1.1.1.0

  -- ---- guests

  pub guests_then : (guests : List Guest) → GuestsStand t guests → GuestsStand table_then guests
  unfolding changed
  guests_then guests was =
      guests_moved between of.node of.overlay (over_attached t of.node of.overlay of.over of.bare h) of.settled
      (attached_stands t of.node of.overlay of.over of.bare h) guests
      (guests_attached t of.node of.overlay of.over of.bare of.settled h guests was)

  -- ---- disks

  abbrev own : Edge
  own = node_edge overlay Backing node

  module _ (nodes : Nodes) (alike : AreNodesOf t nodes) (joined : IsJoined nodes) (clear : IsClear nodes overlay) where
    cover : IsCover nodes node overlay
    cover = cover_of t of.node of.overlay of.over of.bare of.over.lone of.over.size h nodes alike joined

    image_size : cover.image.header.size ≡ cover.row.size
    image_size = rw cover.driver at (joined.sized overlay cover.row cover.there)

    shows : ShowsBelow nodes t.edges overlay cover.row.size
    shows =
        subst (λ (es : List Edge). ShowsBelow nodes es overlay cover.row.size) alike.edges
        (λ bytes long.
        shows_below nodes (refreshed nodes.graph.kinds (with_over node overlay nodes.graph.edges)) node overlay joined cover
        (moved_edges node overlay nodes.graph.kinds nodes.graph.edges) clear bytes (long ∙ sym image_size))

    backed : IsBacked nodes joined t between overlay node
    backed =
        let same = cover.same in
        record {
          apart = λ same_id. of.over.other (sym same_id);
          row = cover.row;
          image = cover.image;
          there = cover.there;
          driver = cover.driver;
          below = same.row;
          below_there = same.there;
          size = same.is ∙ image_size;
          shows = shows;
          alone = λ n role at. let e = child-edge (Node n) role t.edges overlay at in of.over.lone e.edge e.there e.to;
          others = λ n role apart.
              child_of-refreshed (kinds_of t.nodes) (Node n) role (with_edge own t.edges)
              ∙ child-kept (Node n) role own t.edges (λ at. apart (let is : overlay ≡ n = cc at in sym is));
          file =
              child_of-refreshed (kinds_of t.nodes) (Node overlay) FileRole (with_edge own t.edges)
              ∙ children_put own t.edges (Node overlay) FileRole (rw (eq-eqb overlay overlay refl) refl);
          backing =
              child_of-refreshed (kinds_of t.nodes) (Node overlay) Backing (with_edge own t.edges)
              ∙ child_put own t.edges (λ is. cc is);
        }

    led_over : AreLedOver nodes joined between table_then node overlay overlay
    led_over = record {
      children = λ n role.
          child_of-refreshed (kinds_of t.nodes) (Node n) role _
          ∙ children_replaced node overlay (Some (Node overlay)) (attached_edges t of.node of.overlay of.over of.bare h) (Node n) role;
      filters = λ n row there at.
          cover.files n row there
          (ap (child_of (Node n) FileRole) alike.edges ∙ sym (child-role (Node n) FileRole own t.edges refl)
          ∙ sym (child_of-refreshed (kinds_of t.nodes) (Node n) FileRole (with_edge own t.edges)) ∙ at);
    }

    -- the overlay reads as the node did
    pub disks_then : (reads : ℕ → List ℕ) → GoWith t nodes reads → GoWith table_then nodes (put_at nodes joined overlay (reads node) reads)
    disks_then reads go =
        go_led nodes joined between table_then node overlay overlay led_over (put_at nodes joined overlay (reads node) reads)
        (then_own nodes joined t between overlay node backed reads go
        ∙ sym (then_other nodes joined t between overlay node backed reads go node (λ same. of.over.other (sym same))))
        (go_backed nodes joined t between overlay node backed reads go)
