-- What nodes read as where an overlay that maps nothing is put over one of them.
use Rattle.std.proofs.Common.{◌≡◌, ◌≢◌, ℕ, zero, suc, ◌/◌, ◌<◌, cond, List, [], length, Option, Some, None, Result, Ok, Err, refl, sym, ◌∙◌, ap, subst, inl, inr, arith}
use Rattle.std.specs.Prelude.{◌==◌, OnOk}
use Rattle.std.specs.Option.{option_map}
use Rattle.std.proofs.lemmas.Bool.{eq-eqb, ne_eqb, cases_eq}
use Rattle.std.proofs.lemmas.List.{ext_get_or, length-replicate}
use Rattle.blk_graph.specs.Edits.{child_of, with_over, child_moved}
use Rattle.blk_graph.specs.Graph.{Graph}
use Rattle.blk_graph.specs.Judged.{with_edges}
use Rattle.blk_graph.specs.Refreshed.{refreshed}
use Rattle.blk_graph.specs.declared.edge.Edge.{Edge}
use Rattle.blk_graph.specs.declared.edge.Parent.TheVariants.{Node}
use Rattle.blk_graph.specs.declared.edge.Role.{Role}
use Rattle.blk_graph.specs.declared.edge.Role.TheVariants.{File as FileRole, Backing as BackingRole, Filtered}
use Rattle.blk_graph.specs.declared.stop.GraphStop.{GraphStop}
use Rattle.blk_graph.proofs.ChildLemmas.{HasEdge, child-edge}
use Rattle.q2_format.specs.Contents.{raw_disk, image_disk}
use Rattle.q2_format.specs.Header.{header_of}
use Rattle.q2_format.specs.declared.header.Header.{Header}
use Rattle.q2_format.specs.declared.entries.L2Entry.TheVariants.{Unallocated}
use Rattle.q2_format.proofs.ByPlace.{length-bytes_at}
use Rattle.q2_image.specs.Image.{Known, IsImageOf, clusters_in, entry_in}
use Rattle.q2_image.proofs.Guests.{guest_unallocated, length-image_disk}
use Rattle.q2_image.proofs.Mapped.{entry_of_file}
use Rattle.blk_nodes.specs.Contents.{bytes_of, file_node_disk, disk_under, disk_through, disk_by, disk_down, disk_of}
use Rattle.blk_nodes.specs.Covering.{IsClear, IsCover, ReadCovered}
use Rattle.blk_nodes.specs.Joined.{IsOverlay, HasBelow, IsJoined}
use Rattle.blk_nodes.specs.Nodes.{Nodes, AreTold, row_at, size_by, node_size, file_of, backing_of, filtered_of}
use Rattle.blk_nodes.specs.declared.row.Driver.{Driver}
use Rattle.blk_nodes.specs.declared.row.Driver.TheVariants.{File, Raw, Qcow2, CopyOnRead, Filter}
use Rattle.blk_nodes.specs.declared.row.Row.{Row}
use Rattle.blk_nodes.proofs.Chains.{has_entry, get_or-image_disk}
use Rattle.blk_nodes.proofs.Covered.{AreMoved, over, moved-other, moved-node, format_file, moved_edges}
use Rattle.blk_nodes.proofs.HeldDevices.{told_held}
use Rattle.blk_nodes.proofs.Joints.{held_by}
use Rattle.blk_nodes.proofs.Unfolding.{StartsAt, unfolds, no_path}

-- ---- one node after another

step_in : (nodes : Nodes) (turns node : ℕ) (row : Row) → row_at nodes node ≡ Some row
    → disk_down (suc turns) nodes node ≡ disk_by nodes (disk_down turns nodes) node row.driver
step_in nodes turns node row there =
    ap (λ (found : Option Row). elim found as (λ _. List ℕ) [ None ↦ [] | Some r ↦ disk_by nodes (disk_down turns nodes) node r.driver ]) there

none_in : (nodes : Nodes) (turns node : ℕ) → row_at nodes node ≡ None → disk_down (suc turns) nodes node ≡ []
none_in nodes turns node none =
    ap (λ (found : Option Row). elim found as (λ _. List ℕ) [ None ↦ [] | Some r ↦ disk_by nodes (disk_down turns nodes) node r.driver ]) none

-- ---- the length of a disk

module _ (nodes : Nodes) (joined : IsJoined nodes) (told : AreTold nodes.devices) where
  length_by : (turns : ℕ)
      → ((child : ℕ) (row : Row) → row_at nodes child ≡ Some row → (StartsAt nodes.graph.edges turns child → ⊥) → length (disk_down turns nodes child) ≡ row.size)
      → (n : ℕ) (row : Row) (driver : Driver) → row_at nodes n ≡ Some row → row.driver ≡ driver → HasBelow nodes n row.size driver
      → (StartsAt nodes.graph.edges (suc turns) n → ⊥)
      → length (disk_by nodes (disk_down turns nodes) n driver) ≡ row.size
  length_by turns rest n row File there driver is none =
      length-bytes_at (bytes_of nodes n) 0 (node_size nodes n) ∙ rw there refl
  length_by turns rest n row (Raw part) there driver is none =
      let sized = rw driver at (joined.sized n row there) in
      length-bytes_at (disk_under (file_node_disk nodes) (file_of nodes n)) part.offset part.size ∙ sized.0
  length_by turns rest n row (Qcow2 image) there driver is none =
      let sized = rw driver at (joined.sized n row there) in
      let held = told_held is.file nodes.devices told (held_by nodes is.file joined is.is_file) in
      let known : IsImageOf (bytes_of nodes is.file) image = is.known held.0 (bytes_of nodes is.file) held.1 held.2 in
      length-image_disk (disk_under (bytes_of nodes) (file_of nodes n)) (disk_under (disk_down turns nodes) (backing_of nodes n))
      ∙ ap (λ (file : Option ℕ). (header_of (disk_under (bytes_of nodes) file)).size) is.edge ∙ ap (λ (h : Header). h.size) known.header ∙ sized
  length_by turns rest n row CopyOnRead there driver is none =
      let same = is.same in
      let edge = child-edge (Node n) FileRole nodes.graph.edges is.child is.edge in
      ap (λ (c : Option ℕ). length (disk_under (disk_down turns nodes) c)) is.edge
      ∙ rest is.child same.row same.there (λ starts. none (edge.edge, edge.there, edge.from, rw edge.to starts)) ∙ same.is
  length_by turns rest n row (Filter kind) there driver is none = through (filtered_of nodes n) refl
    where
      through : (found : Option ℕ) → filtered_of nodes n ≡ found → length (disk_through (node_size nodes n) (disk_down turns nodes) found) ≡ row.size
      through None e = length-replicate (node_size nodes n) 0 ∙ ap size_by there
      through (Some child) e =
          let same = is child e in
          let edge = child-edge (Node n) Filtered nodes.graph.edges child e in
          rest child same.row same.there (λ starts. none (edge.edge, edge.there, edge.from, rw edge.to starts)) ∙ same.is

  length_in : (turns n : ℕ) (row : Row) → row_at nodes n ≡ Some row → (StartsAt nodes.graph.edges turns n → ⊥)
      → length (disk_down turns nodes n) ≡ row.size
  length_in zero n row there none = absurd (none tt)
  length_in (suc turns) n row there none =
      ap length (step_in nodes turns n row there)
      ∙ length_by turns (λ child r found few. length_in turns child r found few) n row row.driver there refl (joined.below n row there) none

  pub length_disk : (n : ℕ) (row : Row) → row_at nodes n ≡ Some row → length (disk_of nodes n) ≡ row.size
  unfolding disk_of
  length_disk n row there = length_in 64 n row there (no_path nodes joined 64 (omega arith) n)

-- ---- an overlay that maps nothing

module _ (nodes : Nodes) (edges : List Edge) (node overlay : ℕ) (joined : IsJoined nodes) (cover : IsCover nodes node overlay)
    (moved : AreMoved nodes.graph.edges edges node overlay) (clear : IsClear nodes overlay) where
  abbrev then' : Nodes
  then' = over nodes edges node overlay joined cover moved

  abbrev source : ℕ → ℕ
  source n = cond (n == overlay) node n

  source-other : (n : ℕ) → n ≢ overlay → source n ≡ n
  source-other n apart = rw (ne_eqb n overlay apart) refl

  source-own : source overlay ≡ node
  source-own = rw (eq-eqb overlay overlay refl) refl

  unused : (n : ℕ) → HasEdge nodes.graph.edges (Node n) overlay → ⊥
  unused n edge = clear.unused edge.edge edge.there edge.to

  overlay_is : IsOverlay nodes overlay cover.image
  overlay_is = rw cover.driver at (joined.below overlay cover.row cover.there)

  in_clusters : (i : ℕ) → i < cover.image.header.size → i / 65536 < clusters_in cover.image
  in_clusters i inside = let bits = overlay_is.opened.cluster_bits in rw bits (omega (arith, inside))

  -- it reads as what is below it
  pub shows_below : (b : List ℕ) → length b ≡ cover.image.header.size → image_disk (disk_under (bytes_of nodes) (file_of nodes overlay)) b ≡ b
  shows_below b len =
      let is = overlay_is in
      let fresh = clear.fresh in
      let rows : fresh.row ≡ cover.row = cc (sym fresh.there ∙ cover.there) in
      let images : fresh.image ≡ cover.image = cc (sym fresh.driver ∙ ap (λ (r : Row). r.driver) rows ∙ cover.driver) in
      let held = told_held is.file nodes.devices clear.told (held_by nodes is.file joined is.is_file) in
      let known : IsImageOf (bytes_of nodes is.file) cover.image = is.known held.0 (bytes_of nodes is.file) held.1 held.2 in
      let bits : (header_of (bytes_of nodes is.file)).cluster_bits ≡ 16 = ap (λ (h : Header). h.cluster_bits) known.header ∙ is.opened.cluster_bits in
      let size : (header_of (bytes_of nodes is.file)).size ≡ cover.image.header.size = ap (λ (h : Header). h.size) known.header in
      let whole = length-image_disk (bytes_of nodes is.file) b in
      ap (λ (file : Option ℕ). image_disk (disk_under (bytes_of nodes) file) b) is.edge
      ∙ ext_get_or 0 (image_disk (bytes_of nodes is.file) b) b (whole ∙ size ∙ sym len)
      (λ i within.
      let inside : i < cover.image.header.size = omega (arith, within, whole, size) in
      get_or-image_disk (bytes_of nodes is.file) b i (omega (arith, inside, size))
      ∙ guest_unallocated (bytes_of nodes is.file) b i bits
      (entry_of_file (bytes_of nodes is.file) cover.image (i / 65536) known (has_entry cover.image (i / 65536) is.opened (omega (arith, inside)))
      ∙ none_mapped fresh.image images i fresh.empty inside))
    where
      none_mapped : (image : Known) → image ≡ cover.image → (i : ℕ)
          → ((cluster : ℕ) → cluster < clusters_in image → entry_in image cluster ≡ Unallocated) → i < cover.image.header.size
          → entry_in cover.image (i / 65536) ≡ Unallocated
      none_mapped image same i empty inside =
          subst (λ (x : Known). entry_in x (i / 65536) ≡ Unallocated) same
          (empty (i / 65536) (subst (λ (x : Known). i / 65536 < clusters_in x) (sym same) (in_clusters i inside)))

  abbrev Rest : ℕ → Type 0
  Rest turns = (c : ℕ) → (StartsAt edges turns c → ⊥) → disk_down turns then' c ≡ disk_of nodes (source c)

  -- where an edge leads, the same is read as before
  same_source : (n c : ℕ) → HasEdge nodes.graph.edges (Node n) c → source (child_moved node overlay c) ≡ c
  same_source n c edge = elim (cases_eq c node) [
    | inl same ↦
        ap (λ (x : ℕ). source (child_moved node overlay x)) same
        ∙ ap source (moved-node nodes edges node overlay joined cover moved) ∙ source-own ∙ sym same
    | inr other ↦
        ap source (moved-other nodes edges node overlay joined cover moved c other)
        ∙ source-other c (λ is. unused n (record { edge = edge.edge; there = edge.there; from = edge.from; to = edge.to ∙ is }))
  ]

  below_covered : (turns n : ℕ) (role : Role) → n ≢ overlay → Rest turns → (StartsAt edges (suc turns) n → ⊥)
      → disk_under (disk_down turns then') (child_of (Node n) role edges) ≡ disk_under (disk_of nodes) (child_of (Node n) role nodes.graph.edges)
  below_covered turns n role apart rest none = by_child (child_of (Node n) role nodes.graph.edges) refl
    where
      by_child : (found : Option ℕ) → child_of (Node n) role nodes.graph.edges ≡ found
          → disk_under (disk_down turns then') (child_of (Node n) role edges) ≡ disk_under (disk_of nodes) found
      by_child None is = ap (disk_under (disk_down turns then')) (moved.others n role apart ∙ ap (option_map (child_moved node overlay)) is)
      by_child (Some c) is =
          let new : child_of (Node n) role edges ≡ Some (child_moved node overlay c)
          = moved.others n role apart ∙ ap (option_map (child_moved node overlay)) is in
          let to = child-edge (Node n) role edges (child_moved node overlay c) new in
          ap (disk_under (disk_down turns then')) new
          ∙ rest (child_moved node overlay c) (λ starts. none (to.edge, to.there, to.from, rw to.to starts))
          ∙ ap (disk_of nodes) (same_source n c (child-edge (Node n) role nodes.graph.edges c is))

  other_covered : (turns n : ℕ) (row : Row) (driver : Driver) → row_at nodes n ≡ Some row → row.driver ≡ driver → HasBelow nodes n row.size driver
      → n ≢ overlay → Rest turns → (StartsAt edges (suc turns) n → ⊥)
      → disk_by then' (disk_down turns then') n driver ≡ disk_by nodes (disk_of nodes) n driver
  other_covered turns n row File there driver is apart rest none = refl
  other_covered turns n row (Raw part) there driver is apart rest none =
      let same = format_file nodes edges node overlay joined cover moved n row is.file there (λ copies. let bad = sym driver ∙ copies in absurd (cc bad)) is.edge in
      ap (λ (file : Option ℕ). raw_disk part.offset part.size (disk_under (file_node_disk nodes) file)) (same ∙ sym is.edge)
  other_covered turns n row (Qcow2 image) there driver is apart rest none =
      let same = format_file nodes edges node overlay joined cover moved n row is.file there (λ copies. let bad = sym driver ∙ copies in absurd (cc bad)) is.edge in
      ap (λ (file : Option ℕ). image_disk (disk_under (bytes_of nodes) file) (disk_under (disk_down turns then') (backing_of then' n))) (same ∙ sym is.edge)
      ∙ ap (image_disk (disk_under (bytes_of nodes) (file_of nodes n))) (below_covered turns n BackingRole apart rest none)
  other_covered turns n row CopyOnRead there driver is apart rest none = below_covered turns n FileRole apart rest none
  other_covered turns n row (Filter kind) there driver is apart rest none = through (filtered_of nodes n) refl
    where
      size : ℕ
      size = node_size nodes n

      through : (found : Option ℕ) → filtered_of nodes n ≡ found
          → disk_through size (disk_down turns then') (filtered_of then' n) ≡ disk_through size (disk_of nodes) (filtered_of nodes n)
      through None e =
          ap (disk_through size (disk_down turns then')) (moved.others n Filtered apart ∙ ap (option_map (child_moved node overlay)) e)
          ∙ ap (disk_through size (disk_of nodes)) (sym e)
      through (Some c) e =
          let new : filtered_of then' n ≡ Some (child_moved node overlay c)
          = moved.others n Filtered apart ∙ ap (option_map (child_moved node overlay)) e in
          ap (disk_through size (disk_down turns then')) new
          ∙ ap (disk_under (disk_down turns then')) (sym new) ∙ below_covered turns n Filtered apart rest none
          ∙ ap (disk_under (disk_of nodes)) e ∙ ap (disk_through size (disk_of nodes)) (sym e)

  own_covered : (turns : ℕ) → Rest turns → (StartsAt edges (suc turns) overlay → ⊥)
      → disk_by then' (disk_down turns then') overlay cover.row.driver ≡ disk_of nodes node
  own_covered turns rest none =
      let same = cover.same in
      let to = child-edge (Node overlay) BackingRole edges node moved.backing in
      let below_is : disk_under (disk_down turns then') (backing_of then' overlay) ≡ disk_of nodes node
      = ap (disk_under (disk_down turns then')) moved.backing
      ∙ rest node (λ starts. none (to.edge, to.there, to.from, rw to.to starts))
      ∙ ap (disk_of nodes) (source-other node (λ is. cover.other (sym is))) in
      ap (disk_by then' (disk_down turns then') overlay) cover.driver
      ∙ ap (λ (file : Option ℕ). image_disk (disk_under (bytes_of nodes) file) (disk_under (disk_down turns then') (backing_of then' overlay))) moved.file
      ∙ ap (image_disk (disk_under (bytes_of nodes) (file_of nodes overlay))) below_is
      ∙ shows_below (disk_of nodes node) (length_disk nodes joined clear.told node same.row same.there ∙ same.is)

  no_disk : (n : ℕ) → row_at nodes n ≡ None → disk_of nodes n ≡ []
  unfolding disk_of
  no_disk n none = none_in nodes 63 n none

  covered_in : (turns n : ℕ) → (StartsAt edges turns n → ⊥) → disk_down turns then' n ≡ disk_of nodes (source n)
  covered_in zero n none = absurd (none tt)
  covered_in (suc turns) n none = elim (cases_eq n overlay) [
    | inl same ↦
        ap (disk_down (suc turns) then') same ∙ step_in then' turns overlay cover.row cover.there
        ∙ own_covered turns (covered_in turns) (λ starts. none (subst (StartsAt edges (suc turns)) (sym same) starts))
        ∙ ap (disk_of nodes) (sym source-own ∙ ap source (sym same))
    | inr apart ↦ by_row (row_at nodes n) refl (covered_in turns) apart ∙ ap (disk_of nodes) (sym (source-other n apart))
  ]
    where
      by_row : (found : Option Row) → row_at nodes n ≡ found → Rest turns → n ≢ overlay → disk_down (suc turns) then' n ≡ disk_of nodes n
      by_row None is rest apart = none_in then' turns n is ∙ sym (no_disk n is)
      by_row (Some row) is rest apart =
          step_in then' turns n row is ∙ other_covered turns n row row.driver is refl (joined.below n row is) apart rest none
          ∙ sym (unfolds nodes joined n row is)

  pub reads_covered : IsJoined then' → ReadCovered nodes then' node overlay
  unfolding disk_of
  reads_covered after n = covered_in 64 n (no_path then' after 64 (omega arith) n)

-- whatever the graph answered
pub when_covered : (nodes : Nodes) (graph : Graph) (node overlay : ℕ) (result : Result (Unit {0}) GraphStop) → IsJoined nodes → IsCover nodes node overlay
    → OnOk result (graph ≡ with_edges nodes.graph (with_over node overlay nodes.graph.edges)) → IsJoined (record nodes { graph = graph })
    → OnOk result (IsClear nodes overlay → ReadCovered nodes (record nodes { graph = graph }) node overlay)
when_covered nodes graph node overlay (Ok done) joined cover ok after = λ clear.
    let now : Graph = with_edges nodes.graph (with_over node overlay nodes.graph.edges) in
    subst (λ (g : Graph). ReadCovered nodes (record nodes { graph = g }) node overlay) (sym ok)
    (reads_covered nodes (refreshed nodes.graph.kinds (with_over node overlay nodes.graph.edges)) node overlay joined cover
    (moved_edges node overlay nodes.graph.kinds nodes.graph.edges) clear (subst (λ (g : Graph). IsJoined (record nodes { graph = g })) ok after))
when_covered nodes graph node overlay (Err stop) joined cover ok after = ok
