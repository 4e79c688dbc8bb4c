-- An addition that nothing refuses can be carried out, by what was looked at.
use Rattle.std.proofs.Common.{◌≡◌, ◌≢◌, ℕ, ◌+◌, ◌<◌, ◌≤◌, Bool, true, false, List, [], ◌∷◌, ◌++◌, length, map, refl, sym, ◌∙◌, ap, subst, arith, Option, Some, None}
use Rattle.std.specs.Prelude.{◌||◌, Contains, IfSome, codes, nat_lt, not, slice_index_or, option_and_then}
use Rattle.std.proofs.lemmas.Bool.{eq-eqb, ltb-false, or_parts}
use Rattle.std.proofs.lemmas.List.{get_or-set_other, map-append}
use Rattle.blk_graph.specs.declared.edge.Edge.{Edge}
use Rattle.blk_graph.specs.declared.kind.Kind.TheVariants as kinds
use Rattle.blk_graph.specs.Edits.{with_edge}
use Rattle.blk_graph.specs.Graph.{HasNode, NodeRow, ids, with_node}
use Rattle.blk_graph.specs.Refreshed.{refreshed}
use Rattle.blk_graph.specs.Rule.{first_conflict}
use Rattle.q2_image.specs.Image.{Known}
use Rattle.blk_nodes.specs.Adding.{IsAllowed, file_edge, kind_with}
use Rattle.blk_nodes.specs.Joined.{IsJoined}
use Rattle.blk_nodes.specs.Nodes.{DeviceSeen, Nodes, device_in, is_device_of, size_by}
use Rattle.blk_nodes.specs.Overlays.{IsOpened, IsOpenedOn, backing_node, backing_size, backing_stop, edges_for}
use Rattle.blk_nodes.specs.declared.backing.Backing.{Backing}
use Rattle.blk_nodes.specs.declared.backing.Backing.TheVariants.{Unsaid, Null, Node}
use Rattle.blk_nodes.specs.declared.row.Row.{Row}
use Rattle.qmp_codec.specs.declared.command.Command.TheVariants as command
use Rattle.qmp_codec.specs.declared.nodes.AddQcow2.{AddQcow2}
use Rattle.qmp_codec.specs.declared.nodes.AddRaw.{AddRaw}
use Rattle.qmp_codec.specs.declared.nodes.Added.TheVariants as added
use Rattle.qmp_codec.specs.declared.nodes.FileRef.TheVariants as file_ref
use Rattle.qmp_codec.specs.declared.nodes.InlineFile.{InlineFile}
use Rattle.qmp_rules.specs.Answers.{refusal_to, told_none}
use Rattle.qmp_rules.specs.Changes.{changed, with_format_edges, with_unsettled}
use Rattle.qmp_rules.specs.Edits.{edits_of, free_id, image_row, next_free_id, raw_record}
use Rattle.qmp_rules.specs.Looks.{unfit_image, raw_stop, stop_at, too_long}
use Rattle.qmp_asks.specs.Naming.{inline_name}
use Rattle.qmp_asks.specs.NodeAsks.{add_asks, backing_name, is_read_only}
use Rattle.qmp_rules.specs.Refusals.{refused}
use Rattle.qmp_rules.specs.Table.{RunTable, id_named, kinds_of, node_named}
use Rattle.qmp_asks.specs.Values.{begins_within, ends_within, most_length, part_fits}
use Rattle.qmp_asks.specs.declared.ask.Drivers.TheVariants as drivers
use Rattle.qmp_rules.specs.declared.refusal.FileFault.TheVariants.{TooLong}
use Rattle.qmp_rules.specs.declared.refusal.Refusal.TheVariants as refusal
use Rattle.qmp_rules.specs.declared.rows.NodeRecord.{NodeRecord}
use Rattle.qmp_asks.specs.declared.look.Look.TheVariants as look
use Rattle.qmp_rules.specs.declared.told.Told.{Told}
use Rattle.flat_machine.specs.Wiring.{HaveDistinctIds}
use Rattle.flat_machine.proofs.Accepted.{is_protocol}
use Rattle.flat_machine.proofs.Asked.{room-left, takes-driver}
use Rattle.flat_machine.proofs.Fresh.{found-new}
use Rattle.flat_machine.proofs.Tables.{pushed-old}
use Rattle.world_parts.specs.Adding.{Adding, Taken, of_node, opened_sight}
use Rattle.world_parts.specs.Coherent.{AreNodesOf}
use Rattle.world_additions.specs.Additions.{CanPutImage, CanPutPart}
use Rattle.world_parts.specs.Joining.{HasInline, qcow2_asked, backing_for, part_in}
use Rattle.world_additions.proofs.AddAlike.{id_of}
use Rattle.world_additions.proofs.AddAsked.{TellsShort, fresh-node, keeps-rule, not-stopped, part-within, rest-asked}
use Rattle.world_additions.proofs.AddImages.{image-fits, image-quiet}
use Rattle.world_additions.proofs.AddInline.{alike-then, edges-same, file-then, ids-then, kinds-then, next-then, node-is, place-then, room-then, size-then, t1, unsized}
use Rattle.world_additions.proofs.AddPlaces.{allowed-of, file-of, place-of, unsettled-ids, unsettled-kinds}
use Rattle.world_additions.proofs.AddReady.{backing-same, backing-there, by-name, same-edges}
use Rattle.world_additions.proofs.AddTold.{has_look}

-- ---- a part of a file that was opened lies in it

module _ (t : RunTable) (told : Told) (c : Adding) (none : refusal_to t told (command.BlockdevAdd c) ≡ None) (raw : AddRaw (List ℕ))
    (file : InlineFile (List ℕ)) (e : c.driver ≡ added.Raw raw) (f : raw.file ≡ file_ref.Inline file) where
  looks : (has_look look.Begin (add_asks c) ≡ true) × (has_look look.End (add_asks c) ≡ true) × (has_look look.File (add_asks c) ≡ true)
  looks = (rw (e, f) refl, rw (e, f) refl, rw (e, f) refl)

  within-by : (name : List ℕ) (begins ends : Bool) (long : Bool)
      → told.stopped ≡ stop_at look.Begin (refused (not begins) (refusal.BadValue (codes "offset")))
      (stop_at look.End (refused (not ends) (refusal.BadValue (codes "size"))) (stop_at look.File (too_long name long) None))
      → (begins ≡ true) × (ends ≡ true) × (long ≡ false)
  within-by name false ends long stops = absurd (not-stopped t told c none look.Begin (refusal.BadValue (codes "offset")) stops looks.0)
  within-by name true false long stops = absurd (not-stopped t told c none look.End (refusal.BadValue (codes "size")) stops looks.1)
  within-by name true true true stops = absurd (not-stopped t told c none look.File (refusal.File name TooLong) stops looks.2)
  within-by name true true false stops = (refl, refl, refl)

  pub part-inside : (name : List ℕ) (n : ℕ) → told.stopped ≡ raw_stop name raw n
      → (begins_within raw.offset n ≡ true) × (ends_within raw.offset raw.size n ≡ true) × ((nat_lt most_length n || not (part_fits raw.offset raw.size n)) ≡ false)
  part-inside name n stops = within-by name (begins_within raw.offset n) (ends_within raw.offset raw.size n) _ stops

  pub part-short : (name : List ℕ) (n : ℕ) → told.stopped ≡ raw_stop name raw n → n ≤ most_length
  part-short name n stops =
      let parts = or_parts (nat_lt most_length n) (not (part_fits raw.offset raw.size n)) (part-inside name n stops).2 in
      ltb-false most_length n parts.0

-- ---- a node that isn't there has no device

pub no-device : (nodes : Nodes) (id : ℕ) → IsJoined nodes → (HasNode nodes.graph id → ⊥) → device_in nodes.devices id ≡ None
no-device nodes id joined absent = by_found (device_in nodes.devices id) refl
  where
    by_found : (found : Option DeviceSeen) → device_in nodes.devices id ≡ found → found ≡ None
    by_found None e = refl
    by_found (Some d) e =
        let file = joined.devices id (rw e refl) in
        absurd (absent (joined.only id (rw file.there refl)))

-- ---- the node over a `file` node that is there

module _ (t : RunTable) (nodes : Nodes) (alike : AreNodesOf t nodes) (joined : IsJoined nodes) (apart : HaveDistinctIds t) (told : Told) (c : Adding)
    (none : refusal_to t told (command.BlockdevAdd c) ≡ None) where
  pub can-image : (qcow2 : AddQcow2 (List ℕ)) (file : List ℕ) → c.driver ≡ added.Qcow2 qcow2 → qcow2.file ≡ file_ref.Name file
      → (row : NodeRecord) → node_named t file ≡ Some row → (image : Known) → IsOpened nodes.devices row.id image
      → told.stopped ≡ unfit_image t c.node_name qcow2 (opened_sight image.header) → CanPutImage nodes (qcow2_asked t c qcow2 row.id) image
  unfolding changed edits_of
  can-image qcow2 file e f row found image opened stops =
      let rest = rw (e, f) at (rest-asked t told c none) in
      let there = by-name t nodes alike joined apart told c none file row found in
      let takes_file = takes-driver t told file drivers.File row found rest.1.1.1.1.0 in
      let room : length t.nodes + 1 ≤ 64 = room-left t told 1 rest.1.1.1.0 in
      let few : length t.nodes < 64 = omega (arith, room) in
      let backing : backing_node (backing_for t qcow2.backing) ≡ option_and_then (id_named t) (backing_name qcow2.backing) = backing-same t qcow2.backing in
      let joins = rw (e, f, found) at (keeps-rule t told c none (rw e refl)) in
      record {
        file = file-of t nodes row.id row alike there (is_protocol row.kind takes_file);
        backed = subst (λ (b : Option ℕ). IfSome b (HasNode nodes.graph)) (sym backing)
            (backing-there t nodes told alike joined apart (backing_name qcow2.backing) rest.1.0);
        opened = opened;
        fits = image-fits t told c none qcow2 e nodes alike apart image (image-quiet t told c none qcow2 e image.header stops) rest.1.0;
        place = place-of t nodes c.node_name 1 alike (fresh-node t told c.node_name rest.1.1.0) (omega arith) room;
        allowed = allowed-of t nodes alike joined few (with_unsettled row.id t.nodes) (unsettled-ids row.id t.nodes) (unsettled-kinds row.id t.nodes)
            (image_row (free_id t) told_none c.node_name (is_read_only c.options)) refl (edges_for (qcow2_asked t c qcow2 row.id))
            (subst
            (λ (es : List Edge).
            first_conflict (map id_of (with_unsettled row.id t.nodes ++ image_row (free_id t) told_none c.node_name (is_read_only c.options) ∷ [])) (refreshed (kinds_of (with_unsettled row.id t.nodes ++ image_row (free_id t) told_none c.node_name (is_read_only c.options) ∷ [])) es) ≡ None)
            (sym (same-edges (qcow2_asked t c qcow2 row.id) (option_and_then (id_named t) (backing_name qcow2.backing)) backing (free_id t) t.edges)) joins);
      }

  -- ---- and that over one that is made with it

  -- a part of its file
  module _ (raw : AddRaw (List ℕ)) (file : InlineFile (List ℕ)) (e : c.driver ≡ added.Raw raw) (f : raw.file ≡ file_ref.Inline file) (device : Taken)
      (length-is : TellsShort told device.size) (stops : told.stopped ≡ raw_stop file.filename raw device.size) (between : Nodes) (node : ℕ)
      (has : HasInline c file device nodes between node) where
    part-room : length t.nodes + 2 ≤ 64
    part-room = let rest = rw (e, f) at (rest-asked t told c none) in room-left t told 2 rest.1.1.1.0

    part-allowed : IsAllowed between (kind_with kinds.Raw (is_read_only c.options)) (λ id. with_edge (file_edge id (free_id t)))
    unfolding changed edits_of
    part-allowed =
        let joins = rw (e, f) at (keeps-rule t told c none (rw e refl)) in
        let rows : List NodeRecord = t.nodes ++ unsized t nodes alike joined told c file device between node has part-room length-is ∷ [] in
        let more = room-then t nodes alike joined told c file device between node has part-room length-is in
        allowed-of (t1 t nodes alike joined told c file device between node has part-room length-is) between
        (alike-then t nodes alike joined told c file device between node has part-room length-is) has.joined (omega (arith, more))
        (with_unsettled (free_id t) rows)
        (unsettled-ids (free_id t) rows ∙ ids-then t nodes alike joined told c file device between node has part-room length-is)
        (unsettled-kinds (free_id t) rows ∙ kinds-then t nodes alike joined told c file device between node has part-room length-is)
        (raw_record (next_free_id t) c.node_name 0 (is_read_only c.options) raw)
        (next-then t nodes alike joined told c file device between node has part-room length-is)
        (λ id. with_edge (file_edge id (free_id t)))
        (subst
        (λ (es : List Edge).
        first_conflict (map id_of (with_unsettled (free_id t) rows ++ raw_record (next_free_id t) c.node_name 0 (is_read_only c.options) raw ∷ []))
        (refreshed (kinds_of (with_unsettled (free_id t) rows ++ raw_record (next_free_id t) c.node_name 0 (is_read_only c.options) raw ∷ []))
        (with_edge (file_edge (next_free_id t) (free_id t)) es)) ≡ None)
        (edges-same t nodes alike joined told c file device between node has part-room length-is) joins)

    pub can-part-inline : CanPutPart between c.node_name (is_read_only c.options) node (part_in raw device.size)
    can-part-inline =
        let rest = rw (e, f) at (rest-asked t told c none) in
        let inside = part-inside t told c none raw file e f file.filename device.size stops in
        let within = part-within raw.offset raw.size device.size inside.0 inside.1 in
        record {
          is_file = file-then t nodes alike joined told c file device between node has part-room length-is;
          within = rw (size-then t nodes alike joined told c file device between node has part-room length-is) within;
          fits = omega (arith, within, length-is.short);
          place = place-then t nodes alike joined told c file device between node has part-room length-is (fresh-node t told c.node_name rest.0) rest.1.1.0;
          allowed = subst (λ (n : ℕ). IsAllowed between (kind_with kinds.Raw (is_read_only c.options)) (λ id. with_edge (file_edge id n)))
              (node-is t nodes alike joined told c file device between node has part-room length-is) part-allowed;
        }

  -- the image in it
  module _ (qcow2 : AddQcow2 (List ℕ)) (file : InlineFile (List ℕ)) (e : c.driver ≡ added.Qcow2 qcow2) (f : qcow2.file ≡ file_ref.Inline file)
      (device : Taken) (image : Known) (length-is : TellsShort told device.size) (on : IsOpenedOn (of_node 0 device) image)
      (stops : told.stopped ≡ unfit_image t c.node_name qcow2 (opened_sight image.header)) (between : Nodes) (node : ℕ)
      (has : HasInline c file device nodes between node) where
    image-room : length t.nodes + 2 ≤ 64
    image-room = let rest = rw (e, f) at (rest-asked t told c none) in room-left t told 2 rest.1.1.1.1.0

    backing : backing_node (backing_for t qcow2.backing) ≡ option_and_then (id_named t) (backing_name qcow2.backing)
    backing = backing-same t qcow2.backing

    image-allowed : IsAllowed between (kind_with kinds.Qcow2 (is_read_only c.options)) (edges_for (qcow2_asked t c qcow2 (free_id t)))
    unfolding changed edits_of
    image-allowed =
        let joins = rw (e, f) at (keeps-rule t told c none (rw e refl)) in
        let rows : List NodeRecord = t.nodes ++ unsized t nodes alike joined told c file device between node has image-room length-is ∷ [] in
        let more = room-then t nodes alike joined told c file device between node has image-room length-is in
        let then : RunTable = t1 t nodes alike joined told c file device between node has image-room length-is in
        let new : NodeRecord = image_row (next_free_id t) told_none c.node_name (is_read_only c.options) in
        allowed-of then between
        (alike-then t nodes alike joined told c file device between node has image-room length-is) has.joined (omega (arith, more))
        (with_unsettled (free_id t) rows)
        (unsettled-ids (free_id t) rows ∙ ids-then t nodes alike joined told c file device between node has image-room length-is)
        (unsettled-kinds (free_id t) rows ∙ kinds-then t nodes alike joined told c file device between node has image-room length-is)
        new
        (next-then t nodes alike joined told c file device between node has image-room length-is)
        (edges_for (qcow2_asked t c qcow2 (free_id t)))
        (subst
        (λ (es : List Edge).
        first_conflict (map id_of (with_unsettled (free_id t) rows ++ new ∷ [])) (refreshed (kinds_of (with_unsettled (free_id t) rows ++ new ∷ [])) es) ≡ None)
        (sym (same-edges (qcow2_asked t c qcow2 (free_id t)) (option_and_then (id_named t) (backing_name qcow2.backing)) backing (next_free_id t) then.edges))
        (subst
        (λ (es : List Edge).
        first_conflict (map id_of (with_unsettled (free_id t) rows ++ new ∷ []))
        (refreshed (kinds_of (with_unsettled (free_id t) rows ++ new ∷ []))
        (with_format_edges (next_free_id t) (free_id t) (option_and_then (id_named t) (backing_name qcow2.backing)) es)) ≡ None)
        (edges-same t nodes alike joined told c file device between node has image-room length-is) joins))

    held : device_in between.devices node ≡ Some (of_node node device)
    held =
        let fresh : device_in nodes.devices node ≡ None = no-device nodes node joined has.lowest.free in
        ap (λ (n : Nodes). device_in n.devices node) has.is
        ∙ found-new (is_device_of node) nodes.devices (of_node node device) fresh (eq-eqb node node refl)

    graph-then : between.graph ≡ with_node nodes.graph node (inline_name c.node_name file.node_name) (kind_with kinds.Protocol (is_read_only file.options))
    graph-then = ap (λ (n : Nodes). n.graph) has.is

    backed-then : (found : Option ℕ) → IfSome found (HasNode nodes.graph) → IfSome found (HasNode between.graph)
    backed-then None there = tt
    backed-then (Some other) there =
        let more : ids between.graph ≡ ids nodes.graph ++ node ∷ [] =
        ap ids graph-then ∙ map-append (λ (r : NodeRow). r.id) nodes.graph.nodes (record { id = node; name = inline_name c.node_name file.node_name } ∷ []) in
        subst (λ (l : List ℕ). Contains l other) (sym more) (pushed-old (ids nodes.graph) node other there)

    -- the sizes of nodes that were there
    sizes-then : (other : Backing) → IfSome (backing_node other) (HasNode nodes.graph) → backing_size between other ≡ backing_size nodes other
    sizes-then Unsaid there = refl
    sizes-then Null there = refl
    sizes-then (Node other) there =
        let apart_node : other ≢ node = λ same. has.lowest.free (subst (HasNode nodes.graph) same there) in
        ap (λ (l : List (Option Row)). size_by (slice_index_or l other None)) (ap (λ (n : Nodes). n.rows) has.is)
        ∙ ap size_by (get_or-set_other nodes.rows node other _ None apart_node)

    pub can-image-inline : CanPutImage between (qcow2_asked t c qcow2 node) image
    can-image-inline =
        let rest = rw (e, f) at (rest-asked t told c none) in
        let there : IfSome (backing_node (backing_for t qcow2.backing)) (HasNode nodes.graph) =
        subst (λ (b : Option ℕ). IfSome b (HasNode nodes.graph)) (sym backing)
        (backing-there t nodes told alike joined apart (backing_name qcow2.backing) rest.0) in
        record {
          file = file-then t nodes alike joined told c file device between node has image-room length-is;
          backed = backed-then (backing_node (backing_for t qcow2.backing)) there;
          opened = record {
            device = of_node node device;
            held = held;
            on = record { opened = on.opened; known = on.known; reach = on.reach; long = on.long; fits = on.fits };
          };
          fits =
              ap (backing_stop image (backing_for t qcow2.backing)) (sizes-then (backing_for t qcow2.backing) there)
              ∙ image-fits t told c none qcow2 e nodes alike apart image (image-quiet t told c none qcow2 e image.header stops) rest.0;
          place = place-then t nodes alike joined told c file device between node has image-room length-is (fresh-node t told c.node_name rest.1.0) rest.1.1.1.0;
          allowed = subst (λ (n : ℕ). IsAllowed between (kind_with kinds.Qcow2 (is_read_only c.options)) (edges_for (qcow2_asked t c qcow2 n)))
              (node-is t nodes alike joined told c file device between node has image-room length-is) image-allowed;
        }
