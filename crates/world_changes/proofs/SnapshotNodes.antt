-- A snapshot that nothing refuses: its overlay may be put over the node.
use Rattle.std.proofs.Common.{◌≡◌, ℕ, true, List, refl, sym, ap, subst, ◌∙◌, Option, Some, None}
use Rattle.std.specs.Prelude.{◌==◌, IsSome}
use Rattle.std.specs.List.{Contains}
use Rattle.std.proofs.lemmas.Bool.{eqb-true}
use Rattle.blk_graph.specs.declared.edge.Parent.TheVariants.{Node}
use Rattle.blk_graph.specs.declared.edge.Role.{Role}
use Rattle.blk_graph.specs.declared.edge.Role.TheVariants.{File, Backing}
use Rattle.blk_graph.specs.declared.kind.Kind.{Kind}
use Rattle.blk_graph.specs.declared.kind.Kind.TheVariants.{Qcow2}
use Rattle.blk_graph.specs.Edits.{child_of}
use Rattle.blk_graph.specs.Permissions.{has_role}
use Rattle.blk_graph.proofs.Members.{find-Some}
use Rattle.qmp_rules.specs.declared.rows.NodeRecord.{NodeRecord}
use Rattle.qmp_rules.specs.Chains.{filter_role}
use Rattle.qmp_rules.specs.Table.{RunTable, node_by_id, child}
use Rattle.q2_image.specs.Image.{Known}
use Rattle.flat_machine.specs.Wiring.{LeadsToFile, TableStands}
use Rattle.flat_machine.specs.Suiting.{IsAlone}
use Rattle.flat_machine.proofs.WritingKept.{role_edge}
use Rattle.flat_machine.proofs.Redirected.{LiesOver}
use Rattle.blk_nodes.specs.Covering.{IsCover}
use Rattle.blk_nodes.specs.Joined.{HasSize, IsJoined}
use Rattle.blk_nodes.specs.Nodes.{Nodes, row_at, file_of, driver_kind}
use Rattle.blk_nodes.specs.declared.row.Driver.{Driver}
use Rattle.blk_nodes.specs.declared.row.Driver.TheVariants as drivers
use Rattle.blk_nodes.specs.declared.row.Row.{Row}
use Rattle.world_parts.specs.Coherent.{AreAlike, AreNodesOf, IsRowOf}
use Rattle.world_parts.proofs.JobFilters.{no_image, filtered_role}

-- ---- a table with an overlay that has no parent and no backing node

module _ (t : RunTable) (node overlay : NodeRecord) (over : LiesOver t node overlay) (bare : child t overlay.id Backing ≡ None)
    (lone : IsAlone t overlay.id) (size : overlay.size ≡ node.size) (h : TableStands t) where
  node_found : node_by_id t node.id ≡ Some node
  node_found = h.apart node over.node_there

  overlay_found : node_by_id t overlay.id ≡ Some overlay
  overlay_found = h.apart overlay over.overlay_there

  -- ---- in the nodes

  module _ (nodes : Nodes) (alike : AreNodesOf t nodes) (joined : IsJoined nodes) where
    row_of : (r : NodeRecord) → node_by_id t r.id ≡ Some r → (own : Row) × (row_at nodes r.id ≡ Some own) × IsRowOf r own
    row_of r found =
        by_own (row_at nodes r.id) refl
        (subst (λ (x : Option NodeRecord). AreAlike x (row_at nodes r.id)) found (alike.rows r.id))
      where
        by_own : (own : Option Row) → row_at nodes r.id ≡ own → AreAlike (Some r) own → (own : Row) × (row_at nodes r.id ≡ Some own) × IsRowOf r own
        by_own None is bad = absurd bad
        by_own (Some own) is same = (own, is, same)

    image_of : (driver : Driver) → driver_kind driver ≡ Qcow2 → (image : Known) × (driver ≡ drivers.Qcow2 image)
    image_of drivers.File is = absurd (let bad : ⊥ = cc is in bad)
    image_of (drivers.Raw part) is = absurd (let bad : ⊥ = cc is in bad)
    image_of (drivers.Qcow2 image) is = (image, refl)
    image_of drivers.CopyOnRead is = absurd (let bad : ⊥ = cc is in bad)
    image_of (drivers.Filter kind) is = absurd (no_image kind is)

    abbrev own : (r : Row) × (row_at nodes overlay.id ≡ Some r) × IsRowOf overlay r
    own = row_of overlay overlay_found

    abbrev below : (r : Row) × (row_at nodes node.id ≡ Some r) × IsRowOf node r
    below = row_of node node_found

    image : (image : Known) × (own.0.driver ≡ drivers.Qcow2 image)
    image = image_of own.0.driver (sym own.2.kind ∙ over.driver)

    image_size : image.0.header.size ≡ own.0.size
    image_size = rw image.1 at (joined.sized overlay.id own.0 own.1)

    same_disk : HasSize nodes node.id image.0.header.size
    same_disk = record { row = below.0; there = below.1; is = sym below.2.size ∙ sym size ∙ own.2.size ∙ sym image_size }

    -- only filters have the node as file
    copies : (parent : ℕ) (row : Row) → row_at nodes parent ≡ Some row → file_of nodes parent ≡ Some node.id → row.driver ≡ drivers.CopyOnRead
    copies parent row there file = by_row (node_by_id t parent) refl (alike.rows parent)
      where
        child_is : child t parent File ≡ Some node.id
        child_is = ap (child_of (Node parent) File) (sym alike.edges) ∙ file

        -- a job's filter has no file
        by_driver : (r : NodeRecord) (driver : Driver) → r.kind ≡ driver_kind driver → has_role r.kind File ≡ true → IsSome (filter_role r.kind)
            → driver ≡ drivers.CopyOnRead
        by_driver r drivers.CopyOnRead is may filter = refl
        by_driver r (drivers.Filter kind) is may filter =
            let filters = filtered_role kind File (subst (λ (k : Kind). has_role k File ≡ true) is may) in
            absurd (let bad : ⊥ = cc filters in bad)
        by_driver r drivers.File is may filter = let none = subst (λ (k : Kind). IsSome (filter_role k)) is filter in absurd (let bad : ⊥ = cc none in bad)
        by_driver r (drivers.Raw part) is may filter = let none = subst (λ (k : Kind). IsSome (filter_role k)) is filter in absurd (let bad : ⊥ = cc none in bad)
        by_driver r (drivers.Qcow2 x) is may filter = let none = subst (λ (k : Kind). IsSome (filter_role k)) is filter in absurd (let bad : ⊥ = cc none in bad)

        role_of : (r : NodeRecord) → Contains t.nodes r → r.id ≡ parent → has_role r.kind File ≡ true
        role_of r r_there id =
            let to = role_edge (Node parent) File t.edges node.id child_is in
            subst (λ (role : Role). has_role r.kind role ≡ true) to.role_is (h.roles to.edge r to.there r_there (to.from ∙ ap Node (sym id)))

        filtered : (r : NodeRecord) → Contains t.nodes r → r.id ≡ parent → IsSome (filter_role r.kind)
        filtered r r_there id = by_name node.filename refl
          where
            edge : LeadsToFile t r node
            edge =
                let to = role_edge (Node parent) File t.edges node.id child_is in
                record {
                  over_there = r_there;
                  under_there = over.node_there;
                  edge = to.edge;
                  there = to.there;
                  parent = to.from ∙ ap Node (sym id);
                  role = to.role_is;
                  child = to.to;
                }

            by_name : (name : Option (List ℕ)) → node.filename ≡ name → IsSome (filter_role r.kind)
            by_name None is = h.filtered r node edge is
            by_name (Some name) is = by_role (filter_role r.kind) refl
              where
                by_role : (role : Option Role) → filter_role r.kind ≡ role → IsSome (filter_role r.kind)
                by_role (Some role) filter = subst IsSome (sym filter) refl
                by_role None own =
                    let gone = (h.taken r node edge (subst IsSome (sym is) refl) own).gone in
                    absurd (let bad : ⊥ = cc (sym gone ∙ over.disk.settled) in bad)

        by_row : (found : Option NodeRecord) → node_by_id t parent ≡ found → AreAlike found (row_at nodes parent) → row.driver ≡ drivers.CopyOnRead
        by_row None is same = absurd (let none = subst (AreAlike None) there same in none)
        by_row (Some r) is same =
            let here = find-Some (λ (x : NodeRecord). x.id == parent) t.nodes r is in
            let of : IsRowOf r row = subst (AreAlike (Some r)) there same in
            let id : r.id ≡ parent = eqb-true r.id parent here.1 in
            by_driver r row.driver of.kind (role_of r here.0 id) (filtered r here.0 id)

    pub cover_of : IsCover nodes node.id overlay.id
    cover_of = record {
      row = own.0;
      image = image.0;
      there = own.1;
      driver = image.1;
      other = over.other;
      same = same_disk;
      files = copies;
    }
