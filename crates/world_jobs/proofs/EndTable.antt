-- The table behind the end of a backup or mirror, whose edges the nodes may take while they have the filter still.
use Rattle.std.proofs.Common.{◌≡◌, ℕ, ◌==◌, Bool, true, false, cond, List, [], ◌∷◌, ◌++◌, map, Some, refl, sym, ◌∙◌, ap}
use Rattle.std.specs.Prelude.{Contains}
use Rattle.std.proofs.lemmas.Bool.{false≢true}
use Rattle.blk_graph.specs.Graph.{NodeRow}
use Rattle.blk_graph.specs.declared.kind.Kind.{Kind}
use Rattle.blk_graph.specs.declared.kind.Kind.TheVariants as kinds
use Rattle.blk_nodes.specs.Nodes.{filter_kind}
use Rattle.blk_nodes.specs.declared.row.FilterKind.{FilterKind}
use Rattle.block_jobs.specs.Work.{JobWork}
use Rattle.qmp_codec.specs.declared.event.JobKind.{JobKind}
use Rattle.qmp_codec.specs.declared.event.JobKind.TheVariants.{Backup, Commit, Mirror, Stream}
use Rattle.qmp_rules.specs.Changes.{all_changed, changed, node_changed, settled, without_record}
use Rattle.qmp_rules.specs.Ends.{drops_aside, end_edits, settle_if}
use Rattle.qmp_rules.specs.Table.{RunTable}
use Rattle.qmp_rules.specs.declared.change.Change.TheVariants.{EndJob, PullFilter}
use Rattle.qmp_rules.specs.declared.change.JobOutcome.{JobOutcome}
use Rattle.qmp_rules.specs.declared.change.NewDisk.{NewDisk}
use Rattle.qmp_rules.specs.declared.rows.JobRecord.{JobRecord}
use Rattle.qmp_rules.specs.declared.rows.NodeRecord.{NodeRecord}
use Rattle.flat_machine.specs.Wiring.{TableStands}
use Rattle.job_progress.specs.Going.{copies_blocks}
use Rattle.job_tables.specs.Jobs.{CopyStands, EdgesAreDrawn, StandsByKind}
use Rattle.job_tables.proofs.Ended.{ends_keep}
use Rattle.world_parts.specs.Coherent.{AreJobsKept, node_row}
use Rattle.world_goings.proofs.EndEdits.{edits_are, left_as, over_to, pivots, settles_at_end}
use Rattle.world_goings.proofs.EndGuests.{LeadsOnto}
use Rattle.world_goings.proofs.EndStands as table
use Rattle.world_goings.proofs.EndTables.{IsEndedTable, IsOverNode}
use Rattle.world_jobs.specs.Filtering.{filter_of}

-- the node is a filter of a job over another
pub record IsFilterOver (t : RunTable) (filter source : ℕ) (kind : FilterKind) : Type 0 where
  pub is : IsOverNode t filter source
  pub of_kind : is.node.kind ≡ filter_kind kind

-- It goes, what used it or its source uses another node of that size, or the source, and the table stands with edges that are drawn.
pub record LosesNode (t u : RunTable) (filter source : ℕ) : Type 0 where
  pub to : ℕ
  pub ended : IsEndedTable t u filter source to
  pub onto : LeadsOnto t u filter source to
  pub stands : TableStands u
  pub drawn : EdgesAreDrawn u
  pub listed : map node_row u.nodes ≡ map node_row (without_record filter t.nodes)

-- ---- rows

settled_row : (n : ℕ) (row : NodeRecord) → node_row (node_changed n settled row) ≡ node_row row
settled_row n row = by_test (row.id == n)
  where
    by_test : (b : Bool) → node_row (cond b (settled row) row) ≡ node_row row
    by_test true = refl
    by_test false = refl

settled_rows : (n : ℕ) (rows : List NodeRecord) → map node_row (map (node_changed n settled) rows) ≡ map node_row rows
settled_rows n [] = refl
settled_rows n (row ∷ rows) = ap (λ (r : NodeRow). r ∷ map node_row (map (node_changed n settled) rows)) (settled_row n row) ∙ ap (λ (rs : List NodeRow). node_row row ∷ rs) (settled_rows n rows)

listed_then : (t : RunTable) (number slot : ℕ) (drops : Bool) (filter : ℕ) (pivot : Bool) (source target : ℕ) (so : Bool) (disk : NewDisk)
    → map node_row (all_changed t (EndJob number slot drops ∷ PullFilter filter ∷ over_to pivot source target filter ++ settle_if so (Some target) disk)).nodes
    ≡ map node_row (without_record filter t.nodes)
unfolding changed
listed_then t number slot drops filter true source target true disk = settled_rows target (without_record filter t.nodes)
listed_then t number slot drops filter false source target true disk = settled_rows target (without_record filter t.nodes)
listed_then t number slot drops filter true source target false disk = refl
listed_then t number slot drops filter false source target false disk = refl

-- ---- all of it

module _ (t : RunTable) (works : List JobWork) (aside : ℕ) (jobs : AreJobsKept t works aside) (stands : TableStands t) (drawn : EdgesAreDrawn t)
    (row : JobRecord) (here : Contains t.jobs row) where
  abbrev pub filter : ℕ
  filter = table.filter t works aside jobs stands drawn row here

  abbrev target : ℕ
  target = table.target t works aside jobs stands drawn row here

  pub filter_is : row.filter ≡ Some filter
  filter_is = table.is_filter t works aside jobs stands drawn row here

  over : IsOverNode t filter row.source
  over = table.over_source t works aside jobs stands drawn row here

  copies : copies_blocks row.kind ≡ true
  copies = (jobs.lone row here).kind

  pub filter_over : IsFilterOver t filter row.source (filter_of row.kind)
  filter_over = record { is = over; of_kind = by_kind row.kind copies (jobs.stand.each row here).shape }
    where
      same : (kind : Kind) → CopyStands t row kind → over.node.kind ≡ kind
      same kind c =
          let both : Some filter ≡ Some c.filter.filter = sym filter_is ∙ c.filter.is_filter in
          let one : filter ≡ c.filter.filter = cc both in
          let found : Some over.node ≡ Some c.filter.node = sym over.there ∙ rw one c.filter.there in
          let node : over.node ≡ c.filter.node = cc found in
          ap (λ (r : NodeRecord). r.kind) node ∙ c.filter.kind_is

      by_kind : (k : JobKind) → copies_blocks k ≡ true → StandsByKind t row k → over.node.kind ≡ filter_kind (filter_of k)
      by_kind Backup both shape = same kinds.BeforeWrite shape
      by_kind Mirror both shape = same kinds.Mirror shape
      by_kind Stream both shape = absurd (false≢true both)
      by_kind Commit both shape = absurd (false≢true both)

  pub loses_node : (outcome : JobOutcome) → LosesNode t (all_changed t (end_edits t row outcome)) filter row.source
  loses_node outcome =
      let led = table.led_on t works aside jobs stands drawn row here outcome in
      record {
        to = led.to;
        ended = led.ended;
        onto = led.onto;
        stands = led.stands;
        drawn = (ends_keep t row outcome stands jobs.stand drawn here).0;
        listed =
            ap (λ changes. map node_row (all_changed t changes).nodes)
            (edits_are t row filter target copies filter_is (table.is_target t works aside jobs stands drawn row here) (jobs.rows row here copies) outcome)
            ∙ listed_then t row.number row.slot (drops_aside outcome row.bitmap) filter (pivots outcome row.kind) row.source target (settles_at_end outcome row)
            (left_as row row.kind);
      }
