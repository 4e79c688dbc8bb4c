-- What is written of a job's target leaves what is said of nodes, files and images.
use Rattle.std.proofs.Common.{◌≡◌, ◌≢◌, ◌⊎◌, ℕ, ◌<◌, Bool, true, false, List, refl, sym, ◌∙◌, ap, subst, inl, inr, Option, Some, None}
use Rattle.std.specs.Prelude.{◌==◌, All, IsSome, slice_index_or}
use Rattle.std.specs.List.{Contains}
use Rattle.std.proofs.lemmas.Bool.{cases_eq, eqb-true, false≢true}
use Rattle.std.proofs.lemmas.List.Elements.{All-weaker}
use Rattle.blk_graph.specs.declared.edge.Parent.TheVariants.{Node}
use Rattle.blk_graph.specs.declared.edge.Role.TheVariants.{File}
use Rattle.blk_graph.proofs.Members.{find-Some}
use Rattle.blk_history.specs.Fold.{With}
use Rattle.qmp_rules.specs.declared.rows.NodeRecord.{NodeRecord}
use Rattle.qmp_rules.specs.declared.rows.JobRecord.{JobRecord}
use Rattle.qmp_rules.specs.Chains.{filter_role}
use Rattle.qmp_rules.specs.Table.{RunTable, child, node_by_id}
use Rattle.flat_machine.specs.State.{Content, Left, Mapped, MapsNone, MapsSome, State, Unknown, Unsure, content_in}
use Rattle.flat_machine.specs.Agreement.{Agrees, Contents, HasDisk, IsAsKnown}
use Rattle.flat_machine.specs.Changed.{written_file}
use Rattle.flat_machine.specs.Final.{IsDiskIn}
use Rattle.flat_machine.specs.Imaging.{KeepsMapping, ShowsImage, ShowsImages, is_qcow2_at, maps_some}
use Rattle.flat_machine.specs.Jobs.{target_written}
use Rattle.flat_machine.specs.Legal.{AllStarted}
use Rattle.flat_machine.specs.Performing.{CanRewrite, HeldSame}
use Rattle.flat_machine.specs.Sights.{AgreesWith, mapped_at}
use Rattle.flat_machine.specs.Standing.{IsUsedUp, Stands}
use Rattle.flat_machine.specs.Suiting.{IsPlainNode, NoneLeftIn}
use Rattle.flat_machine.specs.Wiring.{LeadsToFile, TableStands}
use Rattle.flat_machine.proofs.Finds.{cases_name}
use Rattle.flat_machine.proofs.ImagesKept.{IsImageIn, image_in_file, image_still, nothing_said}
use Rattle.flat_machine.proofs.WritingKept.{IsNoFilter, WritesFileUnder, role_edge, writes_file}
use Rattle.job_tables.specs.Running.{IsWrittenAt, JobsRun}
use Rattle.job_tables.specs.TargetFiles.{IsCopier, TargetFilesStand}
use Rattle.job_ends.specs.Targets.{WritesAside, WritesBase}
use Rattle.job_ends.proofs.Ends.{all_of}

-- ---- a plain node that is written, and has no disk

module _ (s : State) (h : Stands s) (node : ℕ) (p : IsPlainNode s.table node) (w : IsWrittenAt s.table node) where
  here : Contains s.table.nodes p.row
  here = (find-Some (λ (r : NodeRecord). r.id == node) s.table.nodes p.row p.there).0

  id_is : p.row.id ≡ node
  id_is = eqb-true p.row.id node (find-Some (λ (r : NodeRecord). r.id == node) s.table.nodes p.row p.there).1

  leads : (file : NodeRecord) → Contains s.table.nodes file → child s.table node File ≡ Some file.id → LeadsToFile s.table p.row file
  leads file there is =
      let to = role_edge (Node node) File s.table.edges file.id is in
      record {
        over_there = here;
        under_there = there;
        edge = to.edge;
        there = to.there;
        parent = to.from ∙ ap Node (sym id_is);
        role = to.role_is;
        child = to.to;
      }

  no_disk : (file : ℕ) (r : NodeRecord) → child s.table node File ≡ Some file → node_by_id s.table file ≡ Some r → HasDisk r → ⊥
  no_disk file r is found has =
      let at = find-Some (λ (x : NodeRecord). x.id == file) s.table.nodes r found in
      by_name (leads r at.0 (is ∙ ap Some (sym (eqb-true r.id file at.1)))) r.filename refl
    where
      by_name : LeadsToFile s.table p.row r → (name : Option (List ℕ)) → r.filename ≡ name → ⊥
      by_name f None k = let filter = h.table.filtered p.row r f k in let bad = subst IsSome p.own filter in cc
      by_name f (Some name) k =
          false≢true (sym (h.table.taken p.row r f (subst IsSome (sym k) refl) p.own).gone ∙ has.settled)

  -- where nothing is known of a `file` node's own file, and no disk is left in it
  module _ (own_known : (name : List ℕ) (r : NodeRecord) → Contains s.table.nodes r → r.id ≡ node → r.filename ≡ Some name → content_in s.files name ≡ Some Unknown)
      (own_left : (name : List ℕ) (r : NodeRecord) → Contains s.table.nodes r → r.id ≡ node → r.filename ≡ Some name → All (λ (l : Left). l.file ≢ name) s.left) where
    below_left : (name : List ℕ) (r : NodeRecord) → LeadsToFile s.table p.row r → r.filename ≡ Some name → All (λ (l : Left). l.file ≢ name) s.left
    below_left name r to named =
        All-weaker (IsUsedUp s) (λ (l : Left). l.file ≢ name)
        (λ l used same.
        used.is_open r (record { there = to.under_there; filename = named ∙ ap Some (sym same) })
        (record { edge = to.edge; there = to.there; over = to.role; child = to.child })) s.left h.writing.left

    written_free : CanRewrite s node
    written_free = record {
      under = no_disk;
      known = λ name is.
          let of = writes_file s.table node name is in
          elim of.from [
            | inl own ↦ own_known name of.row of.stands.there own of.stands.filename
            | inr below ↦ h.writing.unknown name p.row of.row (leads of.row of.stands.there below.0) of.stands.filename
          ];
      left = λ name is.
          let of = writes_file s.table node name is in
          elim of.from [
            | inl own ↦ own_left name of.row of.stands.there own of.stands.filename
            | inr below ↦ below_left name of.row (leads of.row of.stands.there below.0) of.stands.filename
          ];
      named = λ name is.
          let of = writes_file s.table node name is in
          h.writing.named name of.row of.stands (elim of.from [
            | inl own ↦ w.writable of.row of.stands.there own
            | inr below ↦
                (h.table.taken p.row of.row (leads of.row of.stands.there below.0) (subst IsSome (sym of.stands.filename) refl) p.own).writable
                (w.writable p.row here id_is)
          ]);
    }

    pub base_agrees : (opening : List ℕ → Option (List ℕ)) (old new : Contents) → WritesBase s node old new → Agrees opening s old
        → Agrees opening s new
    base_agrees opening old new did agrees = record {
      disks = λ n r found disk. did.nodes n r found disk ∙ agrees.disks n r found disk;
      known = by_content;
      absent = λ name none.
          did.files name (λ is. let bad : None ≡ Some Unknown = sym none ∙ written_free.known name is in cc bad) ∙ agrees.absent name none;
      left = λ k d within.
          let l : Left = slice_index_or s.left k d in
          subst (λ bytes. With bytes (IsDiskIn l.kind l.offset l.bytes))
          (sym (did.files l.file (λ is. written_free.left l.file is k d within refl))) (agrees.left k d within);
      unchanged = λ name other.
          did.files name (λ is. false≢true (sym other ∙ written_free.named name is)) ∙ agrees.unchanged name other;
    }
      where
        by_file : (name : List ℕ) (content : Content) → content_in s.files name ≡ Some content
            → (file : Option (List ℕ)) → written_file s.table node ≡ file → IsAsKnown content (new.held name)
        by_file name content found None e =
            subst (IsAsKnown content) (sym (did.files name (λ is. let bad : None ≡ Some name = sym e ∙ is in cc bad))) (agrees.known name content found)
        by_file name content found (Some other) e = elim (cases_name other name) [
          | inl same ↦
              let both : Some Unknown ≡ Some content = sym (written_free.known name (e ∙ ap Some same)) ∙ found in
              let unknown : Unknown ≡ content = cc both in
              subst (λ c. IsAsKnown c (new.held name)) unknown tt
          | inr differ ↦
              subst (IsAsKnown content)
              (sym (did.files name (λ is. let both : Some other ≡ Some name = sym e ∙ is in let same : other ≡ name = cc both in differ same)))
              (agrees.known name content found)
        ]

        by_content : (name : List ℕ) (content : Content) → content_in s.files name ≡ Some content → IsAsKnown content (new.held name)
        by_content name content found = by_file name content found (written_file s.table node) refl

    pub aside_agrees : (opening : List ℕ → Option (List ℕ)) (old new : Contents) → WritesAside s.table node old new → Agrees opening s old
        → Agrees opening s new
    aside_agrees opening old new did =
        base_agrees opening old new (record {
          nodes = λ n r found disk.
              let at = find-Some (λ (x : NodeRecord). x.id == n) s.table.nodes r found in
              did.nodes n (λ but. elim but [
                | inl same ↦ false≢true (sym (w.unsettled r at.0 (eqb-true r.id n at.1 ∙ same)) ∙ disk.settled)
                | inr file ↦ no_disk n r file found disk
              ]);
          files = did.files;
          mapping = did.mapping;
        })

-- ---- images

module _ (s : State) (stands : TableStands s.table) (node : ℕ) (p : IsPlainNode s.table node) (unsure : mapped_at s.images node ≢ MapsNone)
    (old new : Contents) (files : HeldSame (λ name. written_file s.table node ≡ Some name) old new) (mapping : KeepsMapping s.table node old new)
    (h : ShowsImages s old) where
  -- no other image is in its file
  apart : (n : ℕ) (name : List ℕ) → n ≢ node → is_qcow2_at s.table n ≡ true → written_file s.table n ≡ Some name → written_file s.table node ≡ Some name → ⊥
  apart n name differ image is its = by_from of.from
    where
      i : IsImageIn s.table n name
      i = image_in_file s.table stands.apart stands.drivers n name image is

      mine : Contains s.table.nodes i.over × (i.over.id ≡ n)
      mine =
          let at = find-Some (λ (r : NodeRecord). r.id == n) s.table.nodes i.over i.found in
          (at.0, eqb-true i.over.id n at.1)

      own : filter_role i.over.kind ≡ None
      own = ap filter_role i.qcow2

      under : LeadsToFile s.table i.over i.under
      under = record {
        over_there = mine.0;
        under_there = i.there;
        edge = i.edge;
        there = i.edge_there;
        parent = i.parent ∙ ap Node (sym mine.1);
        role = i.role;
        child = i.to;
      }

      of : WritesFileUnder s.table node name
      of = writes_file s.table node name its

      ids : of.row.id ≡ i.under.id
      ids = stands.alone name of.row i.under of.stands (record { there = i.there; filename = i.filename })

      by_from : ((of.row.id ≡ node) ⊎ ((child s.table node File ≡ Some of.row.id) × IsNoFilter s.table node)) → ⊥
      by_from (inl itself) =
          p.free i.under i.over (subst (λ k. node_by_id s.table k ≡ Some i.under) (sym ids ∙ itself) (stands.apart i.under i.there))
          (subst IsSome (sym i.filename) refl) under own
      by_from (inr below) =
          let e = role_edge (Node node) File s.table.edges of.row.id below.0 in
          let sole = (stands.taken i.over i.under under (subst IsSome (sym i.filename) refl) own).sole e.edge e.there (e.to ∙ ids) in
          let parents : Node node ≡ Node i.over.id = sym e.from ∙ sole.0 in
          let same : node ≡ i.over.id = cc parents in
          differ (sym mine.1 ∙ sym same)

  own_mapped : is_qcow2_at s.table node ≡ true → (name file : List ℕ) → written_file s.table node ≡ Some name → new.held name ≡ Some file
      → AgreesWith (mapped_at s.images node) (maps_some file)
  own_mapped image name file is told = by_mapped (mapped_at s.images node) refl
    where
      by_held : mapped_at s.images node ≡ MapsSome → (before : Option (List ℕ)) → old.held name ≡ before
          → With before (λ b. maps_some b ≡ true → maps_some file ≡ true) → maps_some file ≡ true
      by_held e None was still = absurd still
      by_held e (Some before) was still = still (subst (λ m. AgreesWith m (maps_some before)) e ((h node).mapped name before is was))

      by_mapped : (m : Mapped) → mapped_at s.images node ≡ m → AgreesWith m (maps_some file)
      by_mapped MapsNone e = absurd (unsure e)
      by_mapped MapsSome e = by_held e (old.held name) refl (mapping image name file is told)
      by_mapped Unsure e = tt

  pub file_shows : ShowsImages s new
  file_shows n = elim (cases_eq n node) [
    | inl same ↦ subst (ShowsImage s new) (sym same) (record { noted = (h node).noted; mapped = own_shown (is_qcow2_at s.table node) refl })
    | inr differ ↦
        image_still s s old new n
        (record {
          entry = refl;
          kind = refl;
          file = λ name image is. is;
          held = λ image name is. files name (λ its. apart n name differ image is its);
        })
        (h n)
  ]
    where
      own_shown : (b : Bool) → is_qcow2_at s.table node ≡ b → (name file : List ℕ) → written_file s.table node ≡ Some name → new.held name ≡ Some file
          → AgreesWith (mapped_at s.images node) (maps_some file)
      own_shown false other name file is told = nothing_said s.images node (maps_some file) ((h node).noted ∙ other)
      own_shown true image name file is told = own_mapped image name file is told

pub aside_shows : (s : State) → TableStands s.table → (node : ℕ) → IsPlainNode s.table node → mapped_at s.images node ≢ MapsNone → (old new : Contents)
    → WritesAside s.table node old new → ShowsImages s old → ShowsImages s new
aside_shows s stands node p unsure old new did = file_shows s stands node p unsure old new did.files did.mapping

-- ---- nothing is written, or more than once

mapping_none : (t : RunTable) (target : ℕ) (c : Contents) → KeepsMapping t target c c
mapping_none t target c image name after is held =
    subst (λ o. With o (λ before. maps_some before ≡ true → maps_some after ≡ true)) (sym held) (λ some. some)

mapping_turn : (t : RunTable) (target : ℕ) (old between new : Contents) → KeepsMapping t target old between → KeepsMapping t target between new
    → KeepsMapping t target old new
mapping_turn t target old between new first second image name after is held =
    by_held image name after is (between.held name) refl (second image name after is held)
  where
    still : (before : Option (List ℕ)) (mid after : List ℕ) → (maps_some mid ≡ true → maps_some after ≡ true)
        → With before (λ b. maps_some b ≡ true → maps_some mid ≡ true) → With before (λ b. maps_some b ≡ true → maps_some after ≡ true)
    still None mid after next was = was
    still (Some b) mid after next was = λ some. next (was some)

    by_held : is_qcow2_at t target ≡ true → (name after : List ℕ) → written_file t target ≡ Some name → (mid : Option (List ℕ)) → between.held name ≡ mid
        → With mid (λ b. maps_some b ≡ true → maps_some after ≡ true) → With (old.held name) (λ b. maps_some b ≡ true → maps_some after ≡ true)
    by_held image name after is None e next = absurd next
    by_held image name after is (Some mid) e next = still (old.held name) mid after next (first image name mid is e)

pub aside_none : (t : RunTable) (target : ℕ) (c : Contents) → WritesAside t target c c
aside_none t target c = record { nodes = λ node other. refl; files = λ name other. refl; mapping = mapping_none t target c }

pub aside_turn : (t : RunTable) (target : ℕ) (old between new : Contents) → WritesAside t target old between → WritesAside t target between new
    → WritesAside t target old new
aside_turn t target old between new first second = record {
  nodes = λ node other. second.nodes node other ∙ first.nodes node other;
  files = λ name other. second.files name other ∙ first.files name other;
  mapping = mapping_turn t target old between new first.mapping second.mapping;
}

pub base_none : (s : State) (base : ℕ) (c : Contents) → WritesBase s base c c
base_none s base c = record { nodes = λ node row found disk. refl; files = λ name other. refl; mapping = mapping_none s.table base c }

pub base_turn : (s : State) (base : ℕ) (old between new : Contents) → WritesBase s base old between → WritesBase s base between new → WritesBase s base old new
base_turn s base old between new first second = record {
  nodes = λ node row found disk. second.nodes node row found disk ∙ first.nodes node row found disk;
  files = λ name other. second.files name other ∙ first.files name other;
  mapping = mapping_turn s.table base old between new first.mapping second.mapping;
}

-- ---- the target of a backup or mirror

module _ (s : State) (row : JobRecord) (target : ℕ) (h : Stands s) (run : JobsRun s.table) (files : TargetFilesStand s) (started : AllStarted s)
    (here : Contains s.table.jobs row) (copies : IsCopier row.kind) (written : target_written row ≡ Some target) (p : IsPlainNode s.table target) where
  pub target_agrees : (opening : List ℕ → Option (List ℕ)) (old new : Contents) → WritesAside s.table target old new → Agrees opening s old
      → Agrees opening s new
  target_agrees =
      aside_agrees s h target p (run.targets row target here written)
      (λ name r there id named.
      files.unknown row name here (record { node = r; there = there; target = written ∙ ap Some (sym id); filename = named }))
      (λ name r there id named.
      all_of (λ (l : Left). l.file ≢ name) s.left
      (λ l at.
      files.none_left row name l here (subst (λ n. row.number < n) (sym started) (run.numbers row here)) copies
      (record { node = r; there = there; target = written ∙ ap Some (sym id); filename = named }) at))

-- ---- the base of a commit

module _ (s : State) (row : JobRecord) (base : ℕ) (h : Stands s) (run : JobsRun s.table) (files : TargetFilesStand s) (here : Contains s.table.jobs row)
    (written : target_written row ≡ Some base) (p : IsPlainNode s.table base) (left : NoneLeftIn s base) where
  pub commit_agrees : (opening : List ℕ → Option (List ℕ)) (old new : Contents) → WritesBase s base old new → Agrees opening s old → Agrees opening s new
  commit_agrees =
      base_agrees s h base p (run.targets row base here written)
      (λ name r there id named.
      files.unknown row name here (record { node = r; there = there; target = written ∙ ap Some (sym id); filename = named }))
      (λ name r there id named. left name r (record { there = there; filename = named }) id)
