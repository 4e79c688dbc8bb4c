-- What nodes read as behind the end of a backup or mirror: its filter is gone, and what was over it reads its source, or its target, which
-- reads the same.
use Rattle.std.proofs.Common.{◌≡◌, ◌≢◌, ℕ, zero, suc, ◌==◌, cond, List, [], Option, Some, None, refl, sym, ◌∙◌, ap, subst, inl, inr}
use Rattle.std.specs.Prelude.{option_map}
use Rattle.std.proofs.lemmas.Bool.{cases_eq, eq-eqb, ne_eqb}
use Rattle.q2_format.specs.Contents.{file_disk, image_disk, raw_disk}
use Rattle.blk_graph.specs.Edits.{child_of}
use Rattle.blk_graph.specs.declared.edge.Parent.TheVariants.{Node}
use Rattle.blk_graph.specs.declared.edge.Role.{Role}
use Rattle.blk_graph.specs.declared.edge.Role.TheVariants.{Backing, Between, File as FileRole, Filtered}
use Rattle.blk_nodes.specs.Contents.{Unfolds, bytes_by, bytes_of, disk_by, disk_down, disk_of, disk_through, disk_under, file_node_disk}
use Rattle.blk_nodes.specs.Joined.{HasBelow, IsFile, IsJoined}
use Rattle.blk_nodes.specs.Nodes.{DeviceSeen, Nodes, backing_of, device_in, driver_kind, file_of, filtered_of, node_size, row_at, size_by}
use Rattle.blk_nodes.specs.Rewiring.{AreReadings}
use Rattle.blk_nodes.specs.declared.row.Driver.{Driver}
use Rattle.blk_nodes.specs.declared.row.Driver.TheVariants.{CopyOnRead, File, Filter, Qcow2, Raw}
use Rattle.blk_nodes.specs.declared.row.Row.{Row}
use Rattle.qmp_rules.specs.Chains.{filter_role}
use Rattle.qmp_rules.specs.Table.{RunTable, node_by_id}
use Rattle.qmp_rules.specs.declared.rows.NodeRecord.{NodeRecord}
use Rattle.job_entries.proofs.Files.{IsNoFile}
use Rattle.world_parts.specs.Coherent.{AreAlike, AreNodesOf, IsRowOf}
use Rattle.world_goings.proofs.EndTables.{IsEndedTable, IsOverNode, led, led_filter, led_other, led_source, plain_apart, row_of}

absent : (turns : ℕ) (nodes : Nodes) (n : ℕ) → row_at nodes n ≡ None → disk_down turns nodes n ≡ []
absent zero nodes n none = refl
absent (suc turns) nodes n none = rw (none, disk_down) refl

pub disk_absent : (nodes : Nodes) (n : ℕ) → row_at nodes n ≡ None → disk_of nodes n ≡ []
unfolding disk_of
disk_absent nodes n none = absent 64 nodes n none

-- a row of the table and one of the nodes
record BothRows (t : RunTable) (nodes : Nodes) (n : ℕ) (own : Row) : Type 0 where
  listed : NodeRecord
  found : node_by_id t n ≡ Some listed
  is : IsRowOf listed own

both_rows : (t : RunTable) (nodes : Nodes) → AreNodesOf t nodes → (n : ℕ) (own : Row) → row_at nodes n ≡ Some own → BothRows t nodes n own
both_rows t nodes alike n own at = by_row (node_by_id t n) refl (subst (AreAlike (node_by_id t n)) at (alike.rows n))
  where
    by_row : (found : Option NodeRecord) → node_by_id t n ≡ found → AreAlike found (Some own) → BothRows t nodes n own
    by_row None e bad = absurd bad
    by_row (Some listed) e is = record { listed = listed; found = e; is = is }

module _ (t u : RunTable) (filter source to : ℕ) (p : IsEndedTable t u filter source to) (f : IsOverNode t filter source) (no_file : IsNoFile t source)
    (to_other : to ≢ filter) (nodes now : Nodes) (reads_same : disk_of nodes to ≡ disk_of nodes source)
    (joined : IsJoined nodes) (unfolds : Unfolds nodes) (alike : AreNodesOf t nodes) (alike_now : AreNodesOf u now)
    (devices : now.devices ≡ nodes.devices)
    (drivers : (n : ℕ) → n ≢ filter → option_map (λ (r : Row). r.driver) (row_at now n) ≡ option_map (λ (r : Row). r.driver) (row_at nodes n)) where
  abbrev pub reads : ℕ → List ℕ
  reads n = cond (n == filter) [] (disk_of nodes n)

  pub reads_other : (n : ℕ) → n ≢ filter → reads n ≡ disk_of nodes n
  reads_other n apart = rw (ne_eqb n filter apart) refl

  -- ---- children and sizes

  child_then : (n : ℕ) (of : Role) → n ≢ filter → of ≢ Between → child_of (Node n) of now.graph.edges ≡ option_map (led filter source to) (child_of (Node n) of nodes.graph.edges)
  child_then n of apart single =
      ap (child_of (Node n) of) alike_now.edges ∙ p.nodes n of apart single
      ∙ ap (option_map (led filter source to)) (ap (child_of (Node n) of) (sym alike.edges))

  size_same : (n : ℕ) → n ≢ filter → node_size now n ≡ node_size nodes n
  size_same n apart = by_rows (row_at now n) (row_at nodes n) refl refl (drivers n apart)
    where
      by_rows : (a b : Option Row) → row_at now n ≡ a → row_at nodes n ≡ b → option_map (λ (r : Row). r.driver) (row_at now n) ≡ option_map (λ (r : Row). r.driver) (row_at nodes n)
          → node_size now n ≡ node_size nodes n
      by_rows None None e g same = ap size_by e ∙ sym (ap size_by g)
      by_rows None (Some b) e g same =
          absurd (let bad : None ≡ Some b.driver = sym (ap (option_map (λ (r : Row). r.driver)) e) ∙ same ∙ ap (option_map (λ (r : Row). r.driver)) g in let no : ⊥ = cc bad in no)
      by_rows (Some a) None e g same =
          absurd (let bad : Some a.driver ≡ None = sym (ap (option_map (λ (r : Row). r.driver)) e) ∙ same ∙ ap (option_map (λ (r : Row). r.driver)) g in let no : ⊥ = cc bad in no)
      by_rows (Some a) (Some b) e g same =
          let x = both_rows u now alike_now n a e in
          let y = both_rows t nodes alike n b g in
          let found : Some x.listed ≡ Some (p.f y.listed) = sym x.found ∙ p.found n apart ∙ ap (option_map p.f) y.found in
          let one : x.listed ≡ p.f y.listed = cc found in
          ap size_by e ∙ sym x.is.size ∙ ap (λ (r : NodeRecord). r.size) one ∙ row_of p.f p.only (λ (r : NodeRecord). r.size) (λ r. refl) y.listed ∙ y.is.size ∙ sym (ap size_by g)

  -- a `file` node isn't the filter
  file_apart : (file : ℕ) → IsFile nodes file → file ≢ filter
  file_apart file is same =
      let y = both_rows t nodes alike file is.row is.there in
      let found : Some y.listed ≡ Some f.node = sym y.found ∙ ap (node_by_id t) same ∙ f.there in
      let one : y.listed ≡ f.node = cc found in
      let kind : f.node.kind ≡ driver_kind File = ap (λ (r : NodeRecord). r.kind) (sym one) ∙ y.is.kind ∙ ap driver_kind is.driver in
      let bad : Some Filtered ≡ None = sym f.role ∙ ap filter_role kind in
      let no : ⊥ = cc bad in no

  -- nor the source, where it is that of a format node
  file_stays : (n file : ℕ) (own : Row) → row_at nodes n ≡ Some own → filter_role (driver_kind own.driver) ≡ None → n ≢ filter → file_of nodes n ≡ Some file
      → IsFile nodes file → file_of now n ≡ Some file
  file_stays n file own there format apart edge is =
      child_then n FileRole apart (λ same. let no : ⊥ = cc same in no) ∙ ap (option_map (led filter source to)) edge
      ∙ ap Some (led_other filter source to file (file_apart file is) not_source)
    where
      not_source : file ≢ source
      not_source equal =
          let y = both_rows t nodes alike n own there in
          no_file n (record { row = y.listed; found = y.found; own = ap filter_role y.is.kind ∙ format })
          (ap (child_of (Node n) FileRole) (sym alike.edges) ∙ edge ∙ ap Some equal)

  bytes_same : (file : ℕ) → bytes_of now file ≡ bytes_of nodes file
  bytes_same file = ap (λ (ds : List DeviceSeen). bytes_by (device_in ds file)) devices

  file_disk_same : (file : ℕ) → file ≢ filter → file_node_disk now file ≡ file_node_disk nodes file
  file_disk_same file apart = ap (λ size. file_disk size (bytes_of now file)) (size_same file apart) ∙ ap (file_disk (node_size nodes file)) (bytes_same file)

  -- ---- what is below

  filter_reads : disk_of nodes filter ≡ disk_of nodes source
  filter_reads = by_row (row_at nodes filter) refl
    where
      over_now : filtered_of nodes filter ≡ Some source
      over_now = ap (child_of (Node filter) Filtered) alike.edges ∙ f.over

      by_driver : (own : Row) → row_at nodes filter ≡ Some own → (d : Driver) → own.driver ≡ d → f.node.kind ≡ driver_kind own.driver → disk_of nodes filter ≡ disk_of nodes source
      by_driver own there (Filter kind) is kinds =
          unfolds filter own there ∙ ap (disk_by nodes (disk_of nodes) filter) is ∙ ap (disk_through (node_size nodes filter) (disk_of nodes)) over_now
      by_driver own there File is kinds = absurd (let bad : Some Filtered ≡ None = sym f.role ∙ ap filter_role (kinds ∙ ap driver_kind is) in let no : ⊥ = cc bad in no)
      by_driver own there (Raw part) is kinds = absurd (let bad : Some Filtered ≡ None = sym f.role ∙ ap filter_role (kinds ∙ ap driver_kind is) in let no : ⊥ = cc bad in no)
      by_driver own there (Qcow2 image) is kinds = absurd (let bad : Some Filtered ≡ None = sym f.role ∙ ap filter_role (kinds ∙ ap driver_kind is) in let no : ⊥ = cc bad in no)
      by_driver own there CopyOnRead is kinds = absurd (let bad : Some Filtered ≡ Some FileRole = sym f.role ∙ ap filter_role (kinds ∙ ap driver_kind is) in let no : ⊥ = cc bad in no)

      by_row : (found : Option Row) → row_at nodes filter ≡ found → disk_of nodes filter ≡ disk_of nodes source
      by_row None there =
          absurd (let bad = subst (λ (x : Option NodeRecord). AreAlike x None) f.there (subst (AreAlike (node_by_id t filter)) there (alike.rows filter)) in bad)
      by_row (Some own) there =
          let y = both_rows t nodes alike filter own there in
          let found : Some y.listed ≡ Some f.node = sym y.found ∙ f.there in
          let one : y.listed ≡ f.node = cc found in
          by_driver own there own.driver refl (ap (λ (r : NodeRecord). r.kind) (sym one) ∙ y.is.kind)

  led_reads : (c : ℕ) → reads (led filter source to c) ≡ disk_of nodes c
  led_reads c = elim (cases_eq c filter) [
    | inl is ↦
        ap reads (ap (led filter source to) is ∙ led_filter filter source to) ∙ reads_other to to_other ∙ reads_same ∙ sym (ap (disk_of nodes) is ∙ filter_reads)
    | inr apart ↦ elim (cases_eq c source) [
      | inl is ↦
          ap reads (ap (led filter source to) is ∙ led_source filter source to (plain_apart t filter source f source f.plain)) ∙ reads_other to to_other ∙ reads_same ∙ sym (ap (disk_of nodes) is)
      | inr other ↦ ap reads (led_other filter source to c apart other) ∙ reads_other c apart
    ]
  ]

  under_then : (n : ℕ) (of : Role) → n ≢ filter → of ≢ Between → disk_under reads (child_of (Node n) of now.graph.edges) ≡ disk_under (disk_of nodes) (child_of (Node n) of nodes.graph.edges)
  under_then n of apart single = ap (disk_under reads) (child_then n of apart single) ∙ by_child (child_of (Node n) of nodes.graph.edges)
    where
      by_child : (found : Option ℕ) → disk_under reads (option_map (led filter source to) found) ≡ disk_under (disk_of nodes) found
      by_child None = refl
      by_child (Some c) = led_reads c

  through_then : (n : ℕ) → n ≢ filter → disk_through (node_size now n) reads (filtered_of now n) ≡ disk_through (node_size nodes n) (disk_of nodes) (filtered_of nodes n)
  through_then n apart =
      ap (λ size. disk_through size reads (filtered_of now n)) (size_same n apart)
      ∙ ap (disk_through (node_size nodes n) reads) (child_then n Filtered apart (λ same. let no : ⊥ = cc same in no)) ∙ by_child (filtered_of nodes n)
    where
      by_child : (found : Option ℕ) → disk_through (node_size nodes n) reads (option_map (led filter source to) found) ≡ disk_through (node_size nodes n) (disk_of nodes) found
      by_child None = refl
      by_child (Some c) = led_reads c

  -- ---- each node

  by_driver : (n : ℕ) (own : Row) → n ≢ filter → row_at nodes n ≡ Some own → (d : Driver) → own.driver ≡ d → disk_by nodes (disk_of nodes) n d ≡ disk_by now reads n d
  by_driver n own apart there File is = sym (file_disk_same n apart)
  by_driver n own apart there (Raw part) is =
      let below = subst (HasBelow nodes n own.size) is (joined.below n own there) in
      ap (λ x. raw_disk part.offset part.size (disk_under (file_node_disk nodes) x)) below.edge
      ∙ ap (raw_disk part.offset part.size) (sym (file_disk_same below.file (file_apart below.file below.is_file)))
      ∙ sym (ap (λ x. raw_disk part.offset part.size (disk_under (file_node_disk now) x)) (file_stays n below.file own there (ap (λ d. filter_role (driver_kind d)) is) apart below.edge below.is_file))
  by_driver n own apart there (Qcow2 image) is =
      let below = subst (HasBelow nodes n own.size) is (joined.below n own there) in
      ap (λ x. image_disk (disk_under (bytes_of nodes) x) (disk_under (disk_of nodes) (backing_of nodes n))) below.edge
      ∙ ap (λ x. image_disk x (disk_under (disk_of nodes) (backing_of nodes n))) (sym (bytes_same below.file))
      ∙ sym (ap (λ x. image_disk (disk_under (bytes_of now) x) (disk_under (disk_of nodes) (backing_of nodes n))) (file_stays n below.file own there (ap (λ d. filter_role (driver_kind d)) is) apart below.edge below.is_file))
      ∙ ap (image_disk (disk_under (bytes_of now) (file_of now n))) (sym (under_then n Backing apart (λ same. let no : ⊥ = cc same in no)))
  by_driver n own apart there CopyOnRead is = sym (under_then n FileRole apart (λ same. let no : ⊥ = cc same in no))
  by_driver n own apart there (Filter kind) is = sym (through_then n apart)

  gone_now : row_at now filter ≡ None
  gone_now = by_row (row_at now filter) (subst (λ (x : Option NodeRecord). AreAlike x (row_at now filter)) p.gone (alike_now.rows filter))
    where
      by_row : (found : Option Row) → AreAlike None found → found ≡ None
      by_row None is = refl
      by_row (Some own) bad = absurd bad

  pub readings : AreReadings now reads
  readings = record {
    each = λ n own there. elim (cases_eq n filter) [
      | inl same ↦ absurd (let bad : None ≡ Some own = sym gone_now ∙ ap (row_at now) (sym same) ∙ there in let no : ⊥ = cc bad in no)
      | inr apart ↦ reads_other n apart ∙ by_row n own apart there (row_at nodes n) refl (drivers n apart)
    ];
    none = λ n none. elim (cases_eq n filter) [
      | inl same ↦ rw (eq-eqb n filter same) refl
      | inr apart ↦ reads_other n apart ∙ disk_absent nodes n (none_before n (row_at nodes n) (sym (drivers n apart) ∙ ap (option_map (λ (r : Row). r.driver)) none))
    ];
  }
    where
      by_row : (n : ℕ) (own : Row) → n ≢ filter → row_at now n ≡ Some own → (found : Option Row) → row_at nodes n ≡ found
          → option_map (λ (r : Row). r.driver) (row_at now n) ≡ option_map (λ (r : Row). r.driver) (row_at nodes n) → disk_of nodes n ≡ disk_by now reads n own.driver
      by_row n own apart there None e same =
          absurd (let bad : Some own.driver ≡ None = sym (ap (option_map (λ (r : Row). r.driver)) there) ∙ same ∙ ap (option_map (λ (r : Row). r.driver)) e in let no : ⊥ = cc bad in no)
      by_row n own apart there (Some old) e same =
          let both : Some own.driver ≡ Some old.driver = sym (ap (option_map (λ (r : Row). r.driver)) there) ∙ same ∙ ap (option_map (λ (r : Row). r.driver)) e in
          let one : own.driver ≡ old.driver = cc both in
          unfolds n old e ∙ by_driver n old apart e old.driver refl ∙ ap (disk_by now reads n) (sym one)

      none_before : (n : ℕ) (found : Option Row) → option_map (λ (r : Row). r.driver) found ≡ None → found ≡ None
      none_before n None is = refl
      none_before n (Some own) bad = absurd (let no : ⊥ = cc bad in no)
