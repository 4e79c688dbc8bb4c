-- A snapshot that nothing refuses: its changes can be made, and keep what holds of tables and states.
use Rattle.std.proofs.Common.{◌≡◌, ℕ, true, false, List, [], ◌∷◌, ◌++◌, refl, sym, ap, subst, ◌∙◌, inl, inr, Option, Some, None}
use Rattle.std.specs.Prelude.{◌==◌, ◌&&◌, not, bytes_eq, is_some, IsSome}
use Rattle.std.specs.List.{Contains}
use Rattle.std.proofs.lemmas.Bool.{eqb-true, eq-eqb, not-false}
use Rattle.blk_graph.specs.declared.edge.Edge.{Edge}
use Rattle.blk_graph.specs.declared.edge.Parent.TheVariants.{Node}
use Rattle.blk_graph.specs.declared.edge.Role.TheVariants.{Backing}
use Rattle.blk_graph.specs.declared.kind.Kind.{Kind}
use Rattle.blk_graph.specs.declared.kind.Kind.TheVariants.{Protocol, Raw, Qcow2, CopyOnRead, BeforeWrite, Mirror, Commit}
use Rattle.blk_graph.specs.Edits.{with_edge, with_replaced}
use Rattle.blk_graph.specs.Edges.{same_parent}
use Rattle.blk_graph.specs.Paths.{Reaches}
use Rattle.blk_graph.specs.Permissions.{has_role, node_edge}
use Rattle.blk_graph.specs.Refreshed.{refreshed}
use Rattle.blk_graph.proofs.ChildLemmas.{reached-entered}
use Rattle.blk_graph.proofs.Members.{Contains-filter}
use Rattle.blk_graph.proofs.PathLemmas.{Reaches-covered, Reaches-edge}
use Rattle.qmp_codec.specs.declared.nodes.Snapshot.{Snapshot}
use Rattle.qmp_asks.specs.declared.ask.Ask.TheVariants as ask
use Rattle.qmp_asks.specs.declared.ask.Drivers.TheVariants as drivers
use Rattle.qmp_rules.specs.declared.change.Change.{Change}
use Rattle.qmp_rules.specs.declared.change.Change.TheVariants as change
use Rattle.qmp_rules.specs.declared.rows.NodeRecord.{NodeRecord}
use Rattle.qmp_rules.specs.declared.told.Told.{Told}
use Rattle.qmp_rules.specs.Table.{RunTable, node_by_id, node_named, child, kinds_of}
use Rattle.qmp_rules.specs.Asks.{holds, takes}
use Rattle.qmp_asks.specs.NodeAsks.{snapshot_values, snapshot_names, snapshot_rest}
use Rattle.qmp_rules.specs.Edits.{snapshot_edits}
use Rattle.qmp_rules.specs.Changes.{changed, all_changed}
use Rattle.qmp_rules.specs.Answers.{told_none}
use Rattle.qmp_rules.specs.Chains.{filter_role}
use Rattle.flat_machine.specs.Wiring.{InlineAreUnder, TableStands, TableAtRest}
use Rattle.flat_machine.specs.Suiting.{AllTableSuit, SuitsAttach, SuitsMove, without_way}
use Rattle.flat_machine.proofs.Finds.{bytes_eq-same, same-bytes_eq}
use Rattle.flat_machine.proofs.Asked.{not-refused, NoneHolds, good-value, found-named, takes-driver, lone-node, settled-node}
use Rattle.flat_machine.proofs.Accepted.{no_filter, no_edge}
use Rattle.flat_machine.proofs.Rows.{same_row}
use Rattle.flat_machine.proofs.TableSuited.{named-row, own-settled, settled-free, writable-node}
use Rattle.flat_machine.proofs.Backed as backed
use Rattle.flat_machine.proofs.MovedTables.{moved_table}
use Rattle.flat_machine.proofs.Redirected.{LiesOver, led_inline, overlay_named}
use Rattle.flat_machine.proofs.TablesKept.{not_copying}
use Rattle.flat_machine.proofs.Covered.{staying, attached, moving, moved, overlay_apart}

-- ---- its nodes

-- the node and the overlay: that is fit to be put over it, and has no backing node
pub record AreSnapshot (t : RunTable) (c : Snapshot (List ℕ)) : Type 0 where
  pub node : NodeRecord
  pub overlay : NodeRecord
  pub node_is : node_named t c.node ≡ Some node
  pub overlay_is : node_named t c.overlay ≡ Some overlay
  pub over : LiesOver t node overlay
  pub bare : child t overlay.id Backing ≡ None
  pub settled : overlay.is_settled ≡ true

is_image : (kind : Kind) → takes drivers.Qcow2 kind ≡ true → kind ≡ Qcow2
is_image Qcow2 h = refl
is_image Protocol h = absurd cc
is_image Raw h = absurd cc
is_image CopyOnRead h = absurd cc
is_image BeforeWrite h = absurd cc
is_image Mirror h = absurd cc
is_image Commit h = absurd cc

module _ (t : RunTable) (told : Told) where
  bare-node : (name : List ℕ) (row : NodeRecord) → node_named t name ≡ Some row → holds t told (ask.NoBacking name) ≡ None
      → child t row.id Backing ≡ None
  unfolding holds
  bare-node name row found h = by_child (child t row.id Backing) refl (not-refused _ _ (rw found at h))
    where
      by_child : (below : Option ℕ) → child t row.id Backing ≡ below → is_some below ≡ false → below ≡ None
      by_child None e k = refl
      by_child (Some c) e k = absurd cc

  equal-nodes : (first second : List ℕ) (a b : NodeRecord) → node_named t first ≡ Some a → node_named t second ≡ Some b
      → holds t told (ask.SameSize first second) ≡ None → a.size ≡ b.size
  unfolding holds
  equal-nodes first second a b found_a found_b h =
      eqb-true a.size b.size (not-false (a.size == b.size) (not-refused _ _ (rw (found_a, found_b) at h)))

pub snapshot_nodes : (t : RunTable) (told : Told) (c : Snapshot (List ℕ)) → TableStands t
    → NoneHolds t told (snapshot_values c ++ snapshot_names c ++ snapshot_rest c) → AreSnapshot t c
snapshot_nodes t told c h asks =
    by_rows (found-named t told c.node asks.1.1.1.0) (found-named t told c.overlay asks.1.1.1.1.0)
  where
    by_rows : ((row : NodeRecord) × (node_named t c.node ≡ Some row)) → ((row : NodeRecord) × (node_named t c.overlay ≡ Some row))
        → AreSnapshot t c
    by_rows a b =
        let node : NodeRecord = a.0 in
        let overlay : NodeRecord = b.0 in
        let node_here = named-row t told h c.node node a.1 in
        let overlay_here = named-row t told h c.overlay overlay b.1 in
        let node_own = no_filter node.kind (takes-driver t told c.node drivers.FileRawOrQcow2 node a.1 asks.1.1.1.1.1.0) in
        let image = is_image overlay.kind (takes-driver t told c.overlay drivers.Qcow2 overlay b.1 asks.1.1.1.1.1.1.0) in
        let tail = asks.1.1.1.1.1.1.1 in
        record {
          node = node;
          overlay = overlay;
          node_is = a.1;
          overlay_is = b.1;
          over = record {
            node_there = node_here.0;
            overlay_there = overlay_here.0;
            disk = record {
              settled = own-settled t told h node (h.apart node node_here.0) node_own (settled-node t told c.node node a.1 tail.0);
              own = node_own;
            };
            driver = image;
            writable = writable-node t told h c.overlay overlay b.1 tail.1.1.1.0;
            other = λ same. two_names node overlay a.1 b.1 (same_row t h.apart node overlay node_here.0 overlay_here.0 same);
            size = sym (equal-nodes t told c.node c.overlay node overlay a.1 b.1 tail.1.1.1.1.0);
            lone = no_edge overlay.id t.edges (lone-node t told c.overlay overlay b.1 tail.1.1.1.1.1.1.1.0);
          };
          bare = bare-node t told c.overlay overlay b.1 tail.1.1.1.1.1.0;
          settled = own-settled t told h overlay (h.apart overlay overlay_here.0) (is_own overlay.kind image)
              (settled-node t told c.overlay overlay b.1 tail.1.0);
        }
      where
        is_own : (kind : Kind) → kind ≡ Qcow2 → filter_role kind ≡ None
        is_own kind is = ap filter_role is

        two_names : (node overlay : NodeRecord) → node_named t c.node ≡ Some node → node_named t c.overlay ≡ Some overlay
            → overlay ≡ node → ⊥
        two_names node overlay found_node found_overlay same =
            let here = named-row t told h c.node node found_node in
            let there = named-row t told h c.overlay overlay found_overlay in
            let one : c.overlay ≡ c.node = sym (same-bytes_eq overlay.name c.overlay there.1) ∙ ap (λ r. r.name) same
            ∙ same-bytes_eq node.name c.node here.1 in
            let differ : not (bytes_eq c.overlay c.node) ≡ true = good-value t told _ _ asks.0 in
            let equal : bytes_eq c.overlay c.node ≡ true = subst (λ n. bytes_eq c.overlay n ≡ true) one (bytes_eq-same c.overlay) in
            cc

-- ---- tables after its changes

module _ (t : RunTable) (node overlay : NodeRecord) (over : LiesOver t node overlay) (bare : child t overlay.id Backing ≡ None) (h : TableStands t) where
  abbrev pub attached_edges : List Edge
  attached_edges = refreshed (kinds_of t.nodes) (with_edge (node_edge overlay.id Backing node.id) t.edges)

  abbrev pub attached_table : RunTable
  attached_table = record t { edges = attached_edges }

  abbrev pub covered_edges : List Edge
  covered_edges = refreshed (kinds_of t.nodes) (with_replaced node.id overlay.id (Some (Node overlay.id)) attached_edges)

  abbrev pub covered_table : RunTable
  covered_table = record t { edges = covered_edges }

  node_found : node_by_id t node.id ≡ Some node
  node_found = h.apart node over.node_there

  overlay_found : node_by_id t overlay.id ≡ Some overlay
  overlay_found = h.apart overlay over.overlay_there

  own_overlay : filter_role overlay.kind ≡ None
  own_overlay = ap filter_role over.driver

  pub attach_suits : SuitsAttach t overlay.id node.id
  attach_suits = record {
    sizes = record { row = overlay; other = node; found = overlay_found; other_found = node_found; same = over.size };
    role = subst (λ k. has_role k Backing ≡ true) (sym over.driver) refl;
    free = settled-free t told_none h node over.node_there over.disk.settled;
    plain = not_copying node.kind over.disk.own;
    apart = λ back. elim back [
      | inl same ↦ over.other (sym same)
      | inr way ↦ reached-entered t.edges node.id overlay.id way.first way.rest way.path (λ e there is. over.lone e there is)
    ];
  }

  pub attached_stands : TableStands attached_table
  unfolding changed
  attached_stands = backed.attached_table t overlay.id node.id attach_suits h

  pub over_attached : LiesOver attached_table node overlay
  over_attached = record {
    node_there = over.node_there;
    overlay_there = over.overlay_there;
    disk = over.disk;
    driver = over.driver;
    writable = over.writable;
    other = over.other;
    size = over.size;
    lone = λ e there is. elim ((attached t node overlay (kinds_of t.nodes) bare).old e there) [
      | inl l ↦ over.lone l.edge l.there (elim l.leads [
        | inl same ↦ sym same ∙ is
        | inr same ↦ sym same ∙ is
      ])
      | inr own ↦ over.other (sym is ∙ sym own.child)
    ];
  }

  -- beside its edge to the node the overlay leads where it did
  led_before : (a : ℕ) (e : Edge) → Contains (without_way overlay.id node.id attached_edges) e → e.parent ≡ Node a → Reaches t.edges a e.child
  led_before a e there from =
      let kept = Contains-filter (λ x. not (same_parent x.parent (Node overlay.id) && x.child == node.id)) attached_edges e there in
      elim ((attached t node overlay (kinds_of t.nodes) bare).old e kept.0) [
        | inl l ↦
            let to : l.edge.child ≡ e.child = elim l.leads [ inl same ↦ sym same | inr same ↦ sym same ] in
            subst (Reaches t.edges a) to (Reaches-edge t.edges a l.edge l.there (l.parent ∙ from))
        | inr own ↦
            let way : (same_parent e.parent (Node overlay.id) && e.child == node.id) ≡ true
            = rw (sym own.parent, sym own.child, eq-eqb overlay.id overlay.id refl, eq-eqb node.id node.id refl) refl in
            let not_way = kept.1 in
            let bad = ap not way in
            absurd cc
      ]

  pub move_suits : SuitsMove attached_table node.id overlay.id overlay.id
  move_suits = record {
    sizes = record { row = node; other = overlay; found = node_found; other_found = overlay_found; same = sym over.size };
    plain = record {
      row = node;
      there = node_found;
      own = over.disk.own;
      free = settled-free attached_table told_none attached_stands node over.node_there over.disk.settled;
    };
    onto = record {
      row = overlay;
      there = overlay_found;
      own = own_overlay;
      free = λ under above at some f format.
          let found = overlay_found in
          let same : under ≡ overlay = cc in
          let none = ap (λ r. r.filename) same ∙ overlay_named t attached_edges node overlay staying over (attached t node overlay (kinds_of t.nodes) bare) h in
          let bad = subst IsSome none some in
          cc;
    };
    writable = over.writable;
    apart = λ back. elim back [
      | inl same ↦ over.other same
      | inr way ↦ (overlay_apart t node overlay over bare h).away
          (Reaches-covered (without_way overlay.id node.id attached_edges) t.edges led_before overlay.id node.id way.first way.rest way.path)
    ];
    stays = λ row at.
        let found = overlay_found in
        let same : row ≡ overlay = cc in
        ap (λ r. filter_role r.kind) same ∙ own_overlay;
  }

  pub covered_stands : TableStands covered_table
  unfolding changed
  covered_stands = moved_table attached_table node.id overlay.id overlay.id move_suits attached_stands

  pub covered_inline : InlineAreUnder t → InlineAreUnder covered_table
  covered_inline inline = led_inline attached_table covered_edges node overlay (moving node.id overlay.id) over_attached
      (moved attached_table node overlay (kinds_of t.nodes) over_attached attached_stands) attached_stands
      (led_inline t attached_edges node overlay staying over (attached t node overlay (kinds_of t.nodes) bare) h inline)

  pub covered_changes : (all_changed t (change.Attach overlay.id node.id ∷ change.Move node.id overlay.id overlay.id ∷ [])) ≡ covered_table
  unfolding changed
  covered_changes = refl

  pub covered_suit : AllTableSuit t (change.Attach overlay.id node.id ∷ change.Move node.id overlay.id overlay.id ∷ [])
  unfolding changed
  covered_suit = (attach_suits, (move_suits, tt))

-- ---- the command

pub edits_are : (t : RunTable) (c : Snapshot (List ℕ)) (of : AreSnapshot t c)
    → snapshot_edits t c ≡ change.Attach of.overlay.id of.node.id ∷ change.Move of.node.id of.overlay.id of.overlay.id ∷ []
edits_are t c of = rw (of.node_is, of.overlay_is) refl

pub snapshot_rests : (t : RunTable) (told : Told) (c : Snapshot (List ℕ)) → NoneHolds t told (snapshot_values c ++ snapshot_names c ++ snapshot_rest c)
    → TableAtRest t → AllTableSuit t (snapshot_edits t c) × TableAtRest (all_changed t (snapshot_edits t c))
snapshot_rests t told c asks h =
    let of = snapshot_nodes t told c h.stands asks in
    subst (λ (changes : List Change). AllTableSuit t changes × TableAtRest (all_changed t changes)) (sym (edits_are t c of)) (
      covered_suit t of.node of.overlay of.over of.bare h.stands,
      subst TableAtRest (sym (covered_changes t of.node of.overlay of.over of.bare h.stands)) (record {
        stands = covered_stands t of.node of.overlay of.over of.bare h.stands;
        inline = covered_inline t of.node of.overlay of.over of.bare h.stands h.inline;
      }),
    )
