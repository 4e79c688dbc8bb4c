-- What nodes read as behind the start of a backup or a mirror: its filter as its source, and all others as before.
use Rattle.std.proofs.Common.{◌≡◌, ◌≢◌, ℕ, ◌<◌, ◌==◌, cond, List, Option, Some, None, refl, sym, ◌∙◌, ap, subst, inl, inr}
use Rattle.std.specs.Prelude.{IsSome, option_map}
use Rattle.std.proofs.lemmas.Bool.{cases_eq, eq-eqb, ne_eqb}
use Rattle.q2_format.specs.Contents.{file_disk, image_disk, raw_disk}
use Rattle.blk_graph.specs.Edits.{child_moved, child_of}
use Rattle.blk_graph.specs.Refreshed.{kind_at}
use Rattle.blk_graph.specs.declared.edge.Parent.TheVariants.{Node}
use Rattle.blk_graph.specs.declared.edge.Role.{Role}
use Rattle.blk_graph.specs.declared.edge.Role.TheVariants.{Backing, Between, File as FileRole, Filtered}
use Rattle.blk_nodes.specs.Adding.{filtering_row}
use Rattle.blk_nodes.specs.Contents.{Unfolds, bytes_of, disk_by, disk_of, disk_through, disk_under, file_node_disk}
use Rattle.blk_nodes.specs.Joined.{HasBelow, IsFile, IsJoined}
use Rattle.blk_nodes.specs.Nodes.{Nodes, backing_of, driver_kind, file_of, filter_kind, filtered_of, node_size, row_at, size_by}
use Rattle.blk_nodes.specs.Rewiring.{AreReadings}
use Rattle.blk_nodes.specs.declared.row.Driver.{Driver}
use Rattle.blk_nodes.specs.declared.row.Driver.TheVariants.{CopyOnRead, File, Filter, Qcow2, Raw}
use Rattle.blk_nodes.specs.declared.row.FilterKind.{FilterKind}
use Rattle.blk_nodes.specs.declared.row.Row.{Row}
use Rattle.qmp_rules.specs.Chains.{filter_role}
use Rattle.qmp_rules.specs.Table.{RunTable, kinds_of, node_by_id}
use Rattle.qmp_rules.specs.declared.rows.JobRecord.{JobRecord}
use Rattle.qmp_rules.specs.declared.rows.NodeRecord.{NodeRecord}
use Rattle.flat_machine.specs.Suiting.{IsPlainNode}
use Rattle.flat_machine.specs.Wiring.{HaveDistinctIds, TableStands}
use Rattle.flat_machine.proofs.WritingKept.{role_edge}
use Rattle.world_parts.specs.Coherent.{AreAlike, AreNodesOf}
use Rattle.world_goings.proofs.EndReads.{disk_absent}
use Rattle.world_goings.proofs.StartNodes as behind
use Rattle.world_goings.proofs.StartNodes.{by_writes, none_over}
use Rattle.world_goings.proofs.StartTables.{IsPutTable}

module _ (t u : RunTable) (new : NodeRecord) (source target : ℕ) (job : JobRecord) (p : IsPutTable t u new source target job) (fresh : node_by_id t new.id ≡ None)
    (h : TableStands t) (plain : IsPlainNode t source) (bare : new.offset ≡ 0) (apart : HaveDistinctIds u) (nodes : Nodes) (joined : IsJoined nodes)
    (alike : AreNodesOf t nodes) (kind : FilterKind) (of_kind : new.kind ≡ filter_kind kind) (small : new.id < 64) (unfolds : Unfolds nodes) where
  abbrev now : Nodes
  now = behind.now t u new source target job p fresh h plain bare apart nodes joined alike kind of_kind small

  abbrev pub reads : ℕ → List ℕ
  reads n = cond (n == new.id) (disk_of nodes source) (disk_of nodes n)

  pub reads_other : (n : ℕ) → n ≢ new.id → reads n ≡ disk_of nodes n
  reads_other n other = rw (ne_eqb n new.id other) refl

  pub reads_own : reads new.id ≡ disk_of nodes source
  reads_own = rw (eq-eqb new.id new.id refl) refl

  source_other : source ≢ new.id
  source_other same =
      let bad : Some plain.row ≡ None = sym plain.there ∙ ap (node_by_id t) same ∙ fresh in
      let no : ⊥ = cc bad in
      no

  unlisted : row_at nodes new.id ≡ None
  unlisted = behind.unlisted t u new source target job p fresh h plain bare apart nodes joined alike kind of_kind small

  -- ---- children, rows and sizes

  child_then : (n : ℕ) (of : Role) → n ≢ new.id → of ≢ Between → child_of (Node n) of now.graph.edges ≡ option_map (child_moved source new.id) (child_of (Node n) of nodes.graph.edges)
  child_then n of other single = p.nodes n of other single ∙ ap (option_map (child_moved source new.id)) (ap (child_of (Node n) of) (sym alike.edges))

  child_there : (n : ℕ) (of : Role) (c : ℕ) → child_of (Node n) of nodes.graph.edges ≡ Some c → c ≢ new.id
  child_there n of c is same =
      let e = role_edge (Node n) of t.edges c (ap (child_of (Node n) of) (sym alike.edges) ∙ is) in
      let there = subst (λ (m : ℕ). IsSome (node_by_id t m)) (e.to ∙ same) (h.edges e.edge e.there).child in
      let bad = subst IsSome fresh there in
      let no : ⊥ = cc bad in
      no

  row_other : (n : ℕ) → n ≢ new.id → row_at now n ≡ option_map (by_writes (kind_at (kinds_of u.nodes) n)) (row_at nodes n)
  row_other = behind.row_other t u new source target job p fresh h plain bare apart nodes joined alike kind of_kind small

  size_same : (n : ℕ) → n ≢ new.id → node_size now n ≡ node_size nodes n
  size_same n other = ap size_by (row_other n other) ∙ by_row (row_at nodes n)
    where
      by_row : (found : Option Row) → size_by (option_map (by_writes (kind_at (kinds_of u.nodes) n)) found) ≡ size_by found
      by_row None = refl
      by_row (Some row) = refl

  file_apart : (file : ℕ) → IsFile nodes file → file ≢ new.id
  file_apart file is same =
      let bad : Some is.row ≡ None = sym is.there ∙ ap (row_at nodes) same ∙ unlisted in
      let no : ⊥ = cc bad in
      no

  -- what is under a format node isn't the source
  file_other : (n file : ℕ) (own : Row) → row_at nodes n ≡ Some own → filter_role (driver_kind own.driver) ≡ None → file_of nodes n ≡ Some file → file ≢ source
  file_other n file own at bare_kind edge same = by_row (node_by_id t n) refl (subst (AreAlike (node_by_id t n)) at (alike.rows n))
    where
      by_row : (found : Option NodeRecord) → node_by_id t n ≡ found → AreAlike found (Some own) → ⊥
      by_row None e bad = bad
      by_row (Some over) e is =
          none_over t h source plain n over e (ap filter_role is.kind ∙ bare_kind)
          (ap (child_of (Node n) FileRole) (sym alike.edges) ∙ edge ∙ ap Some same)

  file_stays : (n file : ℕ) (own : Row) → n ≢ new.id → row_at nodes n ≡ Some own → filter_role (driver_kind own.driver) ≡ None → file_of nodes n ≡ Some file
      → file_of now n ≡ Some file
  file_stays n file own other at bare_kind edge =
      child_then n FileRole other (λ same. let no : ⊥ = cc same in no) ∙ ap (option_map (child_moved source new.id)) edge
      ∙ ap Some (rw (ne_eqb file source (file_other n file own at bare_kind edge)) refl)

  file_disk_same : (file : ℕ) → file ≢ new.id → file_node_disk now file ≡ file_node_disk nodes file
  file_disk_same file other = ap (λ size. file_disk size (bytes_of nodes file)) (size_same file other)

  -- ---- what is below

  moved_reads : (c : ℕ) → c ≢ new.id → reads (child_moved source new.id c) ≡ disk_of nodes c
  moved_reads c there = elim (cases_eq c source) [
    | inl is ↦ ap reads (rw (eq-eqb c source is) refl) ∙ reads_own ∙ ap (disk_of nodes) (sym is)
    | inr other ↦ ap reads (rw (ne_eqb c source other) refl) ∙ reads_other c there
  ]

  under_then : (n : ℕ) (of : Role) → n ≢ new.id → of ≢ Between → disk_under reads (child_of (Node n) of now.graph.edges) ≡ disk_under (disk_of nodes) (child_of (Node n) of nodes.graph.edges)
  under_then n of other single = ap (disk_under reads) (child_then n of other single) ∙ by_child (child_of (Node n) of nodes.graph.edges) refl
    where
      by_child : (found : Option ℕ) → child_of (Node n) of nodes.graph.edges ≡ found → disk_under reads (option_map (child_moved source new.id) found) ≡ disk_under (disk_of nodes) found
      by_child None e = refl
      by_child (Some c) e = moved_reads c (child_there n of c e)

  through_then : (n : ℕ) → n ≢ new.id → disk_through (node_size now n) reads (filtered_of now n) ≡ disk_through (node_size nodes n) (disk_of nodes) (filtered_of nodes n)
  through_then n other =
      ap (λ size. disk_through size reads (filtered_of now n)) (size_same n other)
      ∙ ap (disk_through (node_size nodes n) reads) (child_then n Filtered other (λ same. let no : ⊥ = cc same in no)) ∙ by_child (filtered_of nodes n) refl
    where
      by_child : (found : Option ℕ) → filtered_of nodes n ≡ found
          → disk_through (node_size nodes n) reads (option_map (child_moved source new.id) found) ≡ disk_through (node_size nodes n) (disk_of nodes) found
      by_child None e = refl
      by_child (Some c) e = moved_reads c (child_there n Filtered c e)

  -- ---- each node

  by_driver : (n : ℕ) (own : Row) → n ≢ new.id → row_at nodes n ≡ Some own → (d : Driver) → own.driver ≡ d → disk_by nodes (disk_of nodes) n d ≡ disk_by now reads n d
  by_driver n own other there File is = sym (file_disk_same n other)
  by_driver n own other there (Raw part) is =
      let below = subst (HasBelow nodes n own.size) is (joined.below n own there) in
      ap (λ x. raw_disk part.offset part.size (disk_under (file_node_disk nodes) x)) below.edge
      ∙ ap (raw_disk part.offset part.size) (sym (file_disk_same below.file (file_apart below.file below.is_file)))
      ∙ sym (ap (λ x. raw_disk part.offset part.size (disk_under (file_node_disk now) x))
      (file_stays n below.file own other there (ap (λ (x : Driver). filter_role (driver_kind x)) is) below.edge))
  by_driver n own other there (Qcow2 image) is =
      let below = subst (HasBelow nodes n own.size) is (joined.below n own there) in
      ap (λ x. image_disk (disk_under (bytes_of nodes) x) (disk_under (disk_of nodes) (backing_of nodes n))) below.edge
      ∙ sym (ap (λ x. image_disk (disk_under (bytes_of now) x) (disk_under (disk_of nodes) (backing_of nodes n)))
      (file_stays n below.file own other there (ap (λ (x : Driver). filter_role (driver_kind x)) is) below.edge))
      ∙ ap (image_disk (disk_under (bytes_of now) (file_of now n))) (sym (under_then n Backing other (λ same. let no : ⊥ = cc same in no)))
  by_driver n own other there CopyOnRead is = sym (under_then n FileRole other (λ same. let no : ⊥ = cc same in no))
  by_driver n own other there (Filter of) is = sym (through_then n other)

  own_row : row_at now new.id ≡ Some (by_writes (kind_at (kinds_of u.nodes) new.id) (filtering_row kind new.size new.read_only))
  own_row = behind.row_own t u new source target job p fresh h plain bare apart nodes joined alike kind of_kind small

  own_reads : (own : Row) → row_at now new.id ≡ Some own → reads new.id ≡ disk_by now reads new.id own.driver
  own_reads own there =
      let both : Some own ≡ Some (by_writes (kind_at (kinds_of u.nodes) new.id) (filtering_row kind new.size new.read_only)) = sym there ∙ own_row in
      let one : own ≡ by_writes (kind_at (kinds_of u.nodes) new.id) (filtering_row kind new.size new.read_only) = cc both in
      reads_own ∙ sym (reads_other source source_other)
      ∙ sym (ap (disk_through (node_size now new.id) reads) p.own)
      ∙ ap (disk_by now reads new.id) (ap (λ (r : Row). r.driver) (sym one))

  pub readings : AreReadings now reads
  readings = record {
    each = λ n own there. elim (cases_eq n new.id) [
      | inl same ↦
          subst (λ (m : ℕ). reads m ≡ disk_by now reads m own.driver) (sym same) (own_reads own (subst (λ (m : ℕ). row_at now m ≡ Some own) same there))
      | inr other ↦ reads_other n other ∙ by_row n own other there (row_at nodes n) refl
    ];
    none = λ n none. elim (cases_eq n new.id) [
      | inl same ↦ absurd (let bad : Some _ ≡ None = sym own_row ∙ ap (row_at now) (sym same) ∙ none in let no : ⊥ = cc bad in no)
      | inr other ↦ reads_other n other ∙ disk_absent nodes n (none_before n (row_at nodes n) (sym (row_other n other) ∙ none))
    ];
  }
    where
      by_row : (n : ℕ) (own : Row) → n ≢ new.id → row_at now n ≡ Some own → (found : Option Row) → row_at nodes n ≡ found → disk_of nodes n ≡ disk_by now reads n own.driver
      by_row n own other there None e =
          absurd
          (let bad : Some own ≡ None = sym there ∙ row_other n other ∙ ap (option_map (by_writes (kind_at (kinds_of u.nodes) n))) e in
          let no : ⊥ = cc bad in no)
      by_row n own other there (Some old) e =
          let both : Some own ≡ Some (by_writes (kind_at (kinds_of u.nodes) n) old) =
          sym there ∙ row_other n other ∙ ap (option_map (by_writes (kind_at (kinds_of u.nodes) n))) e in
          let one : own ≡ by_writes (kind_at (kinds_of u.nodes) n) old = cc both in
          unfolds n old e ∙ by_driver n old other e old.driver refl ∙ ap (disk_by now reads n) (ap (λ (r : Row). r.driver) (sym one))

      none_before : (n : ℕ) (found : Option Row) → option_map (by_writes (kind_at (kinds_of u.nodes) n)) found ≡ None → found ≡ None
      none_before n None is = refl
      none_before n (Some own) bad = absurd (let no : ⊥ = cc bad in no)
