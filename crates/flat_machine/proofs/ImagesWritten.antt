-- A piece of a guest's request keeps what is said of images: of the one that it may write less is said.
use Rattle.std.proofs.Common.{◌≡◌, ◌≢◌, ◌⊎◌, ℕ, Bool, true, false, cond, List, [], ◌∷◌, map, refl, sym, ap, subst, ◌∙◌, inl, inr, Option, Some, None, option_map}
use Rattle.std.specs.Prelude.{◌==◌, IsSome, is_some}
use Rattle.std.specs.List.{Contains}
use Rattle.std.proofs.lemmas.Bool.{eqb-true, eq-eqb, ne_eqb, cases_eq}
use Rattle.blk_base.specs.Pieces.{Extent}
use Rattle.blk_base.specs.declared.fault.Outcome.{Outcome}
use Rattle.blk_graph.specs.declared.edge.Parent.TheVariants.{Node}
use Rattle.blk_graph.specs.declared.edge.Role.TheVariants.{File}
use Rattle.blk_graph.proofs.Members.{find-Some}
use Rattle.trace_codec.specs.declared.op.Op.{Op}
use Rattle.trace_codec.specs.declared.op.Op.TheVariants.{Read, Write, Zero, Flush, Discard}
use Rattle.qmp_rules.specs.declared.rows.NodeRecord.{NodeRecord}
use Rattle.qmp_rules.specs.Table.{RunTable, node_by_id, child}
use Rattle.qmp_rules.specs.Chains.{filter_role, is_listed, disk_node, is_over, unsettled_over, written_under}
use Rattle.blk_history.specs.Fold.{With}
use Rattle.blk_history.specs.Disk.{done_in}
use Rattle.blk_history.specs.Machine.{done_by}
use Rattle.flat_machine.specs.State.{State, Image, Mapped, MapsNone, MapsSome, Unsure, drive_of}
use Rattle.flat_machine.specs.Jobs.{unsure}
use Rattle.flat_machine.specs.Machine.{with_disk, node_written, with_part, note, noted, is_noted, read_through, copies_through, path}
use Rattle.flat_machine.specs.Sights.{AgreesWith, mapped_at}
use Rattle.flat_machine.specs.Agreement.{Contents}
use Rattle.flat_machine.specs.Performing.{HeldSame, Nothing}
use Rattle.flat_machine.specs.Writing.{PieceDone, written_file}
use Rattle.flat_machine.specs.Wiring.{LeadsToFile, IsUnderOne, TableStands}
use Rattle.flat_machine.specs.Imaging.{maps_some, image_at, is_qcow2_at, ShowsImage, ShowsImages, KeepsMapping}
use Rattle.flat_machine.proofs.Finds.{find-map}
use Rattle.flat_machine.proofs.WritingKept.{role_edge, IsEntered, drive-enters, disk-enters, IsNoFilter, WritesFileUnder, writes_file}
use Rattle.flat_machine.proofs.ImagesKept.{mapped_of, mapped_at-found, nothing_said, image_still, AreOverFiles, IsSameRow, same_over_files, mapped_over_files, image_in_file, images_still}

-- ---- an entry of which less is said

same_node : (nodes : List ℕ) (image : Image) → (unsure nodes image).node ≡ image.node
same_node nodes image = by_test (is_listed image.node nodes) _
  where
    by_test : (b : Bool) (less : Mapped) → (cond b (record image { mapped = less }) image).node ≡ image.node
    by_test true less = refl
    by_test false less = refl

unsure_found : (node : ℕ) (images : List Image) (n : ℕ)
    → image_at (map (unsure (node ∷ [])) images) n ≡ option_map (unsure (node ∷ [])) (image_at images n)
unsure_found node images n =
    find-map (λ (i : Image). i.node == n) (unsure (node ∷ [])) (λ i. ap (λ (k : ℕ). k == n) (same_node (node ∷ []) i)) images

-- another entry stays
unsure_other : (node : ℕ) (images : List Image) (n : ℕ) → n ≢ node → image_at (map (unsure (node ∷ [])) images) n ≡ image_at images n
unsure_other node images n differ = unsure_found node images n ∙ by_found (image_at images n) refl
  where
    by_found : (found : Option Image) → image_at images n ≡ found → option_map (unsure (node ∷ [])) found ≡ found
    by_found None e = refl
    by_found (Some image) e =
        let own : image.node ≡ n = eqb-true image.node n (find-Some (λ (i : Image). i.node == n) images image e).1 in
        let other : (node == image.node) ≡ false = ne_eqb node image.node (λ same. differ (sym own ∙ sym same)) in
        rw other refl

-- where it was said that a cluster is mapped, that is so still
less_said : (node : ℕ) (mapped : Mapped) (told : Bool) → (mapped ≡ MapsSome → told ≡ true)
    → AgreesWith (unsure (node ∷ []) (record { node = node; mapped = mapped })).mapped told
less_said node MapsNone told some = let own : (node == node) ≡ true = eq-eqb node node refl in rw own tt
less_said node MapsSome told some = let own : (node == node) ≡ true = eq-eqb node node refl in rw own (some refl)
less_said node Unsure told some = let own : (node == node) ≡ true = eq-eqb node node refl in rw own tt

-- ---- the image that may be written, and others

module _ (s now : State) (node : ℕ) (old new : Contents) (images : now.images ≡ map (unsure (node ∷ [])) s.images)
    (over : AreOverFiles s.table now.table) (stands : TableStands s.table) (entered : IsEntered s.table node)
    (held : HeldSame (λ name. written_file s.table node ≡ Some name) old new) (keeps : KeepsMapping s.table node old new)
    (h : ShowsImages s old) where
  -- no other image is in its file
  apart : (n : ℕ) (name : List ℕ) → n ≢ node → is_qcow2_at s.table n ≡ true → written_file s.table n ≡ Some name
      → written_file s.table node ≡ Some name → ⊥
  apart n name differ image is its = by_from (writes_file s.table node name its).from
    where
      mine : (x : NodeRecord) × (node_by_id s.table n ≡ Some x) × (x.id ≡ n) × Contains s.table.nodes x
      mine =
          let i = image_in_file s.table stands.apart stands.drivers n name image is in
          let there = find-Some (λ (r : NodeRecord). r.id == n) s.table.nodes i.over i.found in
          (i.over, i.found, eqb-true i.over.id n there.1, there.0)

      mine_own : filter_role mine.0.kind ≡ None
      mine_own =
          let i = image_in_file s.table stands.apart stands.drivers n name image is in
          ap filter_role i.qcow2

      under : (y : NodeRecord) × LeadsToFile s.table mine.0 y × (y.filename ≡ Some name)
      under =
          let i = image_in_file s.table stands.apart stands.drivers n name image is in (
            i.under,
            record {
              over_there = mine.3;
              under_there = i.there;
              edge = i.edge;
              there = i.edge_there;
              parent = i.parent ∙ ap Node (sym mine.2);
              role = i.role;
              child = i.to;
            },
            i.filename,
          )

      of : WritesFileUnder s.table node name
      of = writes_file s.table node name its

      ids : of.row.id ≡ under.0.id
      ids = stands.alone name of.row under.0 of.stands (record { there = under.1.under_there; filename = under.2 })

      taken : IsUnderOne s.table mine.0 under.0
      taken = stands.taken mine.0 under.0 under.1 (subst IsSome (sym under.2) refl) mine_own

      by_from : ((of.row.id ≡ node) ⊎ ((child s.table node File ≡ Some of.row.id) × IsNoFilter s.table node)) → ⊥
      by_from (inl own) =
          let sole = taken.sole entered.edge entered.there (entered.child ∙ sym own ∙ ids) in
          let filter = entered.from mine.0 mine.3 sole.0 in
          let none = subst IsSome mine_own filter in
          cc
      by_from (inr below) =
          let e = role_edge (Node node) File s.table.edges of.row.id below.0 in
          let sole = taken.sole e.edge e.there (e.to ∙ ids) in
          let same : node ≡ mine.0.id = (let both = sym e.from ∙ sole.0 in cc) in
          differ (sym mine.2 ∙ sym same)

  entry_is : image_at now.images node ≡ option_map (unsure (node ∷ [])) (image_at s.images node)
  entry_is = ap (λ (is : List Image). image_at is node) images ∙ unsure_found node s.images node

  still_some : (found : Option Image) → is_some (option_map (unsure (node ∷ [])) found) ≡ is_some found
  still_some None = refl
  still_some (Some image) = refl

  own_mapped : (name file : List ℕ) → written_file s.table node ≡ Some name → new.held name ≡ Some file
      → (found : Option Image) → image_at s.images node ≡ found
      → AgreesWith (mapped_of (option_map (unsure (node ∷ [])) found)) (maps_some file)
  own_mapped name file is told None e = tt
  own_mapped name file is told (Some image) e =
      let own : image.node ≡ node = eqb-true image.node node (find-Some (λ (i : Image). i.node == node) s.images image e).1 in
      subst (λ n. AgreesWith (unsure (node ∷ []) (record { node = n; mapped = image.mapped })).mapped (maps_some file)) (sym own)
      (less_said node image.mapped (maps_some file) (λ some. by_held some (old.held name) refl (keeps of_image name file is told)))
    where
      of_image : is_qcow2_at s.table node ≡ true
      of_image = sym (h node).noted ∙ ap is_some e

      by_held : image.mapped ≡ MapsSome → (before : Option (List ℕ)) → old.held name ≡ before
          → With before (λ b. maps_some b ≡ true → maps_some file ≡ true) → maps_some file ≡ true
      by_held some None was still = absurd still
      by_held some (Some before) was still =
          let said : AgreesWith (mapped_at s.images node) (maps_some before) = (h node).mapped name before is was in
          let at : mapped_at s.images node ≡ MapsSome = mapped_at-found s.images node ∙ ap mapped_of e ∙ some in
          still (subst (λ m. AgreesWith m (maps_some before)) at said)

  own_shown : ShowsImage now new node
  own_shown = record {
    noted = ap is_some entry_is ∙ still_some (image_at s.images node) ∙ (h node).noted ∙ sym (over.kind node);
    mapped = λ name file is told. by_kind name file is told (is_qcow2_at s.table node) refl;
  }
    where
      by_kind : (name file : List ℕ) → written_file now.table node ≡ Some name → new.held name ≡ Some file
          → (b : Bool) → is_qcow2_at s.table node ≡ b → AgreesWith (mapped_at now.images node) (maps_some file)
      by_kind name file is told false other =
          nothing_said now.images node (maps_some file) (ap is_some entry_is ∙ still_some (image_at s.images node) ∙ (h node).noted ∙ other)
      by_kind name file is told true image =
          subst (λ m. AgreesWith m (maps_some file)) (sym (mapped_at-found now.images node ∙ ap mapped_of entry_is))
          (own_mapped name file (over.file node name image is) told (image_at s.images node) refl)

  pub images_less : ShowsImages now new
  images_less n = by_node (cases_eq n node)
    where
      by_node : ((n ≡ node) ⊎ (n ≢ node)) → ShowsImage now new n
      by_node (inl same) = subst (ShowsImage now new) (sym same) own_shown
      by_node (inr differ) =
          image_still s now old new n
          (record {
            entry = ap (λ (is : List Image). image_at is n) images ∙ unsure_other node s.images n differ;
            kind = over.kind n;
            file = over.file n;
            held = λ image name is. held name (λ its. apart n name differ image is its);
          })
          (h n)

-- ---- a piece

same_over : (t : RunTable) (node : ℕ) (row : NodeRecord) → IsSameRow (unsettled_over t node) row
same_over t node row = record { id = by_id (is_over t node row.id); kind = by_kind (is_over t node row.id); filename = by_name (is_over t node row.id) }
  where
    by_id : (b : Bool) → (cond b (record row { is_settled = false }) row).id ≡ row.id
    by_id true = refl
    by_id false = refl

    by_kind : (b : Bool) → (cond b (record row { is_settled = false }) row).kind ≡ row.kind
    by_kind true = refl
    by_kind false = refl

    by_name : (b : Bool) → (cond b (record row { is_settled = false }) row).filename ≡ row.filename
    by_name true = refl
    by_name false = refl

written_over : (t : RunTable) (node : ℕ) → AreOverFiles t (written_under node t)
unfolding written_under
written_over t node = mapped_over_files t (written_under node t) (unsettled_over t node) (same_over t node) refl (λ n. refl)

noted_shows : (s : State) (outcome : Outcome) (part : Extent) (drive : ℕ) (c : Contents) → ShowsImages s c → ShowsImages (note outcome part drive s) c
noted_shows s outcome part drive c h = by_test (is_noted outcome)
  where
    marked : State
    marked = record s { dirty = noted s.table part s.dirty (path s.table drive) }

    by_test : (b : Bool) → ShowsImages (cond b marked s) c
    by_test true n = record { noted = (h n).noted; mapped = (h n).mapped }
    by_test false n = h n

module _ (s : State) (g drive : ℕ) (stands : TableStands s.table) (on : drive_of s.table g ≡ Some drive) where
  entered : IsEntered s.table (disk_node s.table drive)
  entered = disk-enters s.table stands.apart drive (drive-enters s.table g drive on)

  itself : AreOverFiles s.table s.table
  itself = same_over_files s.table s.table refl (λ n. refl)

  quiet_shows : (now : State) (old new : Contents) → now.images ≡ s.images → now.table ≡ s.table → HeldSame Nothing old new
      → ShowsImages s old → ShowsImages now new
  quiet_shows now old new images table held h =
      images_still s now old new images (subst (AreOverFiles s.table) (sym table) itself) (λ n name image is. held name (λ never. never)) h

  read_shows : (now : State) (old new : Contents) → now.images ≡ s.images → now.table ≡ s.table
      → HeldSame (λ name. written_file s.table (disk_node s.table drive) ≡ Some name) old new
      → KeepsMapping s.table (disk_node s.table drive) old new
      → (copies_through s.table drive ≡ false → HeldSame Nothing old new)
      → ShowsImages s old → ShowsImages (read_through drive now) new
  read_shows now old new images table held keeps quiet h = by_test (copies_through now.table drive) refl
    where
      less : State
      less = record now { images = map (unsure (disk_node now.table drive ∷ [])) now.images }

      by_test : (b : Bool) → copies_through now.table drive ≡ b → ShowsImages (cond b less now) new
      by_test false e =
          quiet_shows now old new images table (quiet (ap (λ (t : RunTable). copies_through t drive) (sym table) ∙ e)) h
      by_test true e =
          images_less s less (disk_node s.table drive) old new
          (ap (λ (t : RunTable). map (unsure (disk_node t drive ∷ [])) now.images) table ∙ ap (map (unsure (disk_node s.table drive ∷ []))) images)
          (subst (AreOverFiles s.table) (sym table) itself) stands entered held keeps h

  pub piece_images_keep : (op : Op) (outcome : Outcome) (part : Extent) (old new : Contents) → PieceDone s drive op outcome part old new
      → KeepsMapping s.table (disk_node s.table drive) old new → ShowsImages s old → ShowsImages (with_part drive op outcome part s) new
  piece_images_keep (Read span) outcome part old new did keeps h = elim did [
    | inl quiet ↦
        read_shows (with_disk (disk_node s.table drive) (done_in (Read span) part (done_by outcome part)) s) old new refl refl
        (λ name other. quiet.files name (λ never. never)) keeps (λ e. quiet.files) h
    | inr copied ↦
        read_shows (with_disk (disk_node s.table drive) (done_in (Read span) part (done_by outcome part)) s) old new refl refl
        copied.1.files keeps (λ e. let does = copied.0 in absurd cc) h
  ]
  piece_images_keep (Write span payload) outcome part old new did keeps h =
      noted_shows (node_written (disk_node s.table drive) (with_disk (disk_node s.table drive) (done_in (Write span payload) part (done_by outcome part)) s))
      outcome part drive new
      (images_less s
      (node_written (disk_node s.table drive) (with_disk (disk_node s.table drive) (done_in (Write span payload) part (done_by outcome part)) s))
      (disk_node s.table drive) old new refl (written_over s.table (disk_node s.table drive)) stands entered did.files keeps h)
  piece_images_keep (Zero span) outcome part old new did keeps h =
      noted_shows (node_written (disk_node s.table drive) (with_disk (disk_node s.table drive) (done_in (Zero span) part (done_by outcome part)) s))
      outcome part drive new
      (images_less s
      (node_written (disk_node s.table drive) (with_disk (disk_node s.table drive) (done_in (Zero span) part (done_by outcome part)) s))
      (disk_node s.table drive) old new refl (written_over s.table (disk_node s.table drive)) stands entered did.files keeps h)
  piece_images_keep Flush outcome part old new did keeps h =
      quiet_shows (with_part drive Flush outcome part s) old new refl refl did.files h
  piece_images_keep (Discard span) outcome part old new did keeps h =
      quiet_shows (with_part drive (Discard span) outcome part s) old new refl refl did.files h
