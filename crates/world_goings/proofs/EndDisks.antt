-- What nodes read as by the table behind the end of a backup or mirror: where an edge led to the filter or the source, the disk is that
-- of the node to which it leads then.
use Rattle.std.proofs.Common.{◌≡◌, ◌≢◌, ℕ, Option, Some, None, refl, sym, ◌∙◌, ap, subst, inl, inr}
use Rattle.std.specs.Prelude.{IsSome, option_and_then, option_map}
use Rattle.std.proofs.lemmas.Bool.{cases_eq}
use Rattle.blk_graph.specs.Edits.{child_moved, child_of}
use Rattle.blk_graph.specs.declared.edge.Parent.TheVariants.{Node}
use Rattle.blk_graph.specs.declared.edge.Role.{Role}
use Rattle.qmp_rules.specs.Chains.{disk_node, filter_role, filtered}
use Rattle.qmp_rules.specs.Changes.{changed}
use Rattle.qmp_rules.specs.Table.{RunTable, child, node_by_id}
use Rattle.qmp_rules.specs.declared.change.Change.TheVariants.{Move}
use Rattle.qmp_rules.specs.declared.rows.NodeRecord.{NodeRecord}
use Rattle.flat_machine.specs.Suiting.{IsThere, SuitsMove, SuitsPull}
use Rattle.flat_machine.specs.Wiring.{TableStands}
use Rattle.flat_machine.proofs.Backed.{filter_other}
use Rattle.flat_machine.proofs.FilterPull as pull
use Rattle.flat_machine.proofs.Kept.{own_disk}
use Rattle.flat_machine.proofs.MovedTables.{disk_moves}
use Rattle.flat_machine.proofs.Rows.{disk_node-same, from-child}
use Rattle.world_goings.proofs.EndTables.{IsEndedTable, IsOverNode, IsSettledTable, led, led_filter, led_other, led_source, led_then, moved_over, moved_past, plain_apart, row_of, settled_found}

-- the disk of a node is where its edges lead then
abbrev pub DisksAreLed : RunTable → RunTable → ℕ → ℕ → ℕ → Type 0
DisksAreLed t u filter source to = (d : ℕ) → IsThere t d → disk_node u (led filter source to d) ≡ led filter source to (disk_node t d)

-- ---- the filter goes

module _ (t u : RunTable) (filter source : ℕ) (p : IsEndedTable t u filter source source) (h : TableStands t) (f : IsOverNode t filter source) where
  abbrev suits : SuitsPull t filter
  suits = record { row = f.node; there = f.there; role = f.role; below = source; over = f.over; under = f.plain }

  source_other : source ≢ filter
  source_other = plain_apart t filter source f source f.plain

  filtered_then : (n : ℕ) → n ≢ filter → filtered u n ≡ option_map (led filter source source) (filtered t n)
  filtered_then n apart =
      ap (λ (found : Option NodeRecord). option_and_then (child u n) (option_and_then (λ (r : NodeRecord). filter_role r.kind) found)) (p.found n apart)
      ∙ by_row (node_by_id t n)
    where
      by_role : (r : NodeRecord) (found : Option Role) → filter_role r.kind ≡ found
          → option_and_then (child u n) found ≡ option_map (led filter source source) (option_and_then (child t n) found)
      by_role r None is = refl
      by_role r (Some of) is = p.nodes n of apart (filter_other r.kind of is).1

      by_row : (found : Option NodeRecord) → option_and_then (child u n) (option_and_then (λ (r : NodeRecord). filter_role r.kind) (option_map p.f found))
          ≡ option_map (led filter source source) (option_and_then (child t n) (option_and_then (λ (r : NodeRecord). filter_role r.kind) found))
      by_row None = refl
      by_row (Some r) =
          ap (option_and_then (child u n)) (row_of p.f p.only (λ (x : NodeRecord). filter_role x.kind) (λ x. refl) r) ∙ by_role r (filter_role r.kind) refl

  -- filters' edges lead where they do once nothing leads to the filter
  loose_then : (n : ℕ) → option_map (led filter source source) (filtered t n) ≡ filtered (pull.loose t filter suits h) n
  loose_then n = by_child (filtered t n) ∙ sym (pull.filtered_pulls t filter suits h n)
    where
      by_child : (found : Option ℕ) → option_map (led filter source source) found ≡ option_map (child_moved filter source) found
      by_child None = refl
      by_child (Some c) = ap Some (led_is c)
        where
          led_is : (x : ℕ) → led filter source source x ≡ child_moved filter source x
          led_is x = elim (cases_eq x filter) [
            | inl is ↦ ap (led filter source source) is ∙ led_filter filter source source ∙ sym (moved_over filter source) ∙ ap (child_moved filter source) (sym is)
            | inr apart ↦ elim (cases_eq x source) [
              | inl same ↦
                  ap (led filter source source) same ∙ led_source filter source source source_other ∙ sym (moved_past filter source source source_other)
                  ∙ ap (child_moved filter source) (sym same)
              | inr other ↦ led_other filter source source x apart other ∙ sym (moved_past filter source x apart)
            ]
          ]

  led_apart : (c : ℕ) → led filter source source c ≢ filter
  led_apart c = elim (cases_eq c filter) [
    | inl is ↦ λ same. source_other (sym (ap (led filter source source) is ∙ led_filter filter source source) ∙ same)
    | inr apart ↦ elim (cases_eq c source) [
      | inl is ↦ λ same. source_other (sym (ap (led filter source source) is ∙ led_source filter source source source_other) ∙ same)
      | inr other ↦ λ same. apart (sym (led_other filter source source c apart other) ∙ same)
    ]
  ]

  disk_then : (n : ℕ) → IsThere t n → n ≢ filter → disk_node u n ≡ disk_node t n
  disk_then n there apart =
      disk_node-same (pull.loose t filter suits h) u (λ m. m ≢ filter)
      (λ m other. filtered_then m other ∙ loose_then m)
      (λ m c other leads. by_below m c (filtered t m) (loose_then m ∙ leads)) n apart
      ∙ pull.pulled_disk t filter suits h n (pull.reads_apart t filter suits h n there)
    where
      by_below : (m c : ℕ) (found : Option ℕ) → option_map (led filter source source) found ≡ Some c → c ≢ filter
      by_below m c None bad = absurd (let no : ⊥ = cc bad in no)
      by_below m c (Some d) is = let same : led filter source source d ≡ c = cc is in λ bad. led_apart d (same ∙ bad)

  pub filter_reads : disk_node t filter ≡ source
  unfolding disk_node
  filter_reads =
      from-child 63 t filter (Some source) (pull.over_below t filter suits h)
      ∙ from-child 62 t source None (pull.below_alone t filter suits h)

  -- a disk isn't the filter, and so leads where it did
  disk_stays : (d : ℕ) → IsThere t d → led filter source source (disk_node t d) ≡ disk_node t d
  disk_stays d there = elim (cases_eq (disk_node t d) source) [
    | inl is ↦ ap (led filter source source) is ∙ led_source filter source source source_other ∙ sym is
    | inr other ↦ led_other filter source source (disk_node t d) (pull.reads_apart t filter suits h d there) other
  ]

  source_itself : disk_node t source ≡ source
  source_itself = own_disk t source f.plain.row f.plain.there f.plain.own

  source_disk : disk_node u source ≡ source
  source_disk = disk_then source (subst IsSome (sym f.plain.there) refl) source_other ∙ source_itself

  pub disks_pulled : DisksAreLed t u filter source source
  disks_pulled d there = elim (cases_eq d filter) [
    | inl is ↦
        ap (disk_node u) (ap (led filter source source) is ∙ led_filter filter source source) ∙ source_disk
        ∙ sym (ap (led filter source source) (ap (disk_node t) is ∙ filter_reads) ∙ led_source filter source source source_other)
    | inr apart ↦ elim (cases_eq d source) [
      | inl is ↦
          ap (disk_node u) (ap (led filter source source) is ∙ led_source filter source source source_other) ∙ source_disk
          ∙ sym (ap (led filter source source) (ap (disk_node t) is ∙ source_itself) ∙ led_source filter source source source_other)
      | inr other ↦ ap (disk_node u) (led_other filter source source d apart other) ∙ disk_then d there apart ∙ sym (disk_stays d there)
    ]
  ]

-- ---- what used the source uses another node

pub disks_moved : (t a : RunTable) (filter source to : ℕ) → (suits : SuitsMove a source to filter) → TableStands a → DisksAreLed t a filter source source
    → DisksAreLed t (changed a (Move source to filter)) filter source to
unfolding changed
disks_moved t a filter source to suits h was d there =
    ap (disk_node (changed a (Move source to filter))) (led_then filter source to d) ∙ by_node (led filter source source d) (was d there)
    ∙ sym (led_then filter source to (disk_node t d))
  where
    by_node : (n : ℕ) → disk_node a n ≡ led filter source source (disk_node t d)
        → disk_node (changed a (Move source to filter)) (child_moved source to n) ≡ child_moved source to (led filter source source (disk_node t d))
    by_node n is = elim (cases_eq n source) [
      | inl same ↦
          ap (disk_node (changed a (Move source to filter))) (ap (child_moved source to) same ∙ moved_over source to)
          ∙ own_disk (changed a (Move source to filter)) to suits.onto.row suits.onto.there suits.onto.own
          ∙ sym (ap (child_moved source to) (sym is ∙ ap (disk_node a) same ∙ own_disk a source suits.plain.row suits.plain.there suits.plain.own) ∙ moved_over source to)
      | inr other ↦
          ap (disk_node (changed a (Move source to filter))) (moved_past source to n other) ∙ disk_moves a source to filter suits h n other ∙ ap (child_moved source to) is
    ]

-- ---- a target is settled, or none

pub disks_settled : (t a u : RunTable) (filter source to : ℕ) → IsSettledTable a u → DisksAreLed t a filter source to → DisksAreLed t u filter source to
disks_settled t a u filter source to s was d there =
    disk_node-same a u (λ m. Unit {0}) (λ m here. filtered_same m) (λ m c here at. tt) (led filter source to d) tt ∙ was d there
  where
    filtered_same : (n : ℕ) → filtered u n ≡ filtered a n
    filtered_same n =
        ap (λ (found : Option NodeRecord). option_and_then (child u n) (option_and_then (λ (r : NodeRecord). filter_role r.kind) found)) (settled_found a u s n)
        ∙ by_row (node_by_id a n)
      where
        by_row : (found : Option NodeRecord) → option_and_then (child u n) (option_and_then (λ (r : NodeRecord). filter_role r.kind) (option_map s.f found))
            ≡ option_and_then (child a n) (option_and_then (λ (r : NodeRecord). filter_role r.kind) found)
        by_row None = refl
        by_row (Some r) =
            ap (option_and_then (child u n)) (row_of s.f s.only (λ (x : NodeRecord). filter_role x.kind) (λ x. refl) r) ∙ by_role (filter_role r.kind)
          where
            by_role : (found : Option Role) → option_and_then (child u n) found ≡ option_and_then (child a n) found
            by_role None = refl
            by_role (Some of) = ap (child_of (Node n) of) s.edges
