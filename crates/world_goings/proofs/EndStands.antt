-- The table behind the end of a backup or mirror stands, and leads on what used the filter, or the source.
use Rattle.std.proofs.Common.{◌≡◌, ◌≢◌, ◌⊎◌, ℕ, Bool, true, false, List, [], ◌∷◌, ◌++◌, Option, Some, None, refl, sym, ◌∙◌, ap, subst, inl, inr}
use Rattle.std.specs.Prelude.{◌==◌, ◌&&◌, Contains, not, option_map, unwrap_or}
use Rattle.std.proofs.lemmas.Bool.{eqb-true}
use Rattle.blk_graph.specs.Edges.{same_parent}
use Rattle.blk_graph.specs.Paths.{Reaches}
use Rattle.blk_graph.specs.declared.edge.Edge.{Edge}
use Rattle.blk_graph.specs.declared.edge.Parent.TheVariants.{Node}
use Rattle.blk_graph.specs.declared.edge.Role.TheVariants.{Filtered}
use Rattle.blk_graph.specs.declared.kind.Kind.TheVariants as kinds
use Rattle.blk_graph.proofs.Members.{Contains-filter, find-Some}
use Rattle.blk_graph.proofs.PathLemmas.{Reaches-covered, Reaches-edge}
use Rattle.blk_history.specs.Fold.{With}
use Rattle.block_jobs.specs.Work.{JobWork}
use Rattle.qmp_codec.specs.declared.event.JobKind.TheVariants.{Mirror}
use Rattle.qmp_rules.specs.Changes.{all_changed, changed}
use Rattle.qmp_rules.specs.Chains.{disk_node, filter_role}
use Rattle.qmp_rules.specs.Ends.{drops_aside, end_edits, settle_if}
use Rattle.qmp_rules.specs.Queries.{bytes_of_node}
use Rattle.qmp_rules.specs.Table.{RunTable, node_by_id}
use Rattle.qmp_rules.specs.declared.change.Change.TheVariants.{EndJob, Move, PullFilter}
use Rattle.qmp_rules.specs.declared.change.JobOutcome.{JobOutcome}
use Rattle.qmp_rules.specs.declared.change.NewDisk.{NewDisk}
use Rattle.qmp_rules.specs.declared.rows.JobRecord.{JobRecord}
use Rattle.qmp_rules.specs.declared.rows.NodeRecord.{NodeRecord}
use Rattle.flat_machine.specs.Agreement.{HasDisk}
use Rattle.flat_machine.specs.Suiting.{AllTableSuit, HaveOneSize, IsPlainNode, SuitsMove, SuitsPull, without_way}
use Rattle.flat_machine.specs.Wiring.{TableStands}
use Rattle.flat_machine.proofs.FilterPull.{pull_table}
use Rattle.flat_machine.proofs.MovedTables.{moved_table as move_stands}
use Rattle.flat_machine.proofs.TableRests.{all_keep}
use Rattle.flat_machine.proofs.Wired.{with_at}
use Rattle.job_ends.specs.Rows.{IsCopyRow}
use Rattle.job_ends.proofs.Ends.{written_is}
use Rattle.job_progress.specs.Going.{copies_blocks}
use Rattle.job_tables.specs.Jobs.{CopyStands, EdgesAreDrawn, StandsByKind}
use Rattle.job_tables.proofs.EndKeeps.{Keeps, keeps_then, move_plain, over_child, over_keeps, over_was, pull_keeps, pulled_leads_on}
use Rattle.job_tables.proofs.Shapes.{mirror_target}
use Rattle.world_parts.specs.Coherent.{AreJobsKept}
use Rattle.world_goings.proofs.EndDisks.{DisksAreLed, disks_moved, disks_pulled, disks_settled, filter_reads as reads_source}
use Rattle.world_goings.proofs.EndEdits.{edits_are, left_as, over_to, pivot_done, pivot_mirror, pivots, settles_at_end}
use Rattle.world_goings.proofs.EndGuests.{LeadsOnto}
use Rattle.world_goings.proofs.EndTables.{IsEndedTable, IsOverNode, IsSettledTable, moved_table, plain_apart, pulled_table, settled_disk, settled_table, settled_then}
use Rattle.world_goings.proofs.JobNodes.{HasCopy, copy_stands, goes, source_disk, source_plain, target_plain}

-- What used the source is where it was, or on the target.
pub record IsLedOn (t u : RunTable) (filter source target : ℕ) (pivot : Bool) : Type 0 where
  pub to : ℕ
  pub ended : IsEndedTable t u filter source to
  pub disks : DisksAreLed t u filter source to
  pub onto : LeadsOnto t u filter source to
  pub stands : TableStands u
  pub place : (to ≡ source) ⊎ ((to ≡ target) × (pivot ≡ true))

module _ (t : RunTable) (works : List JobWork) (aside : ℕ) (jobs : AreJobsKept t works aside) (stands : TableStands t) (drawn : EdgesAreDrawn t)
    (row : JobRecord) (here : Contains t.jobs row) where
  abbrev h : HasCopy t works aside jobs stands row
  h = copy_stands t works aside jobs stands row here

  pub filter : ℕ
  filter = (copy_stands t works aside jobs stands row here).copy.filter.filter

  pub target : ℕ
  target = (copy_stands t works aside jobs stands row here).copy.target

  pub is_filter : row.filter ≡ Some filter
  unfolding filter
  is_filter = h.copy.filter.is_filter

  pub is_target : row.target ≡ Some target
  unfolding target
  is_target = h.copy.is_target

  source : IsPlainNode t row.source
  source = source_plain t works aside jobs stands row here

  pub over_source : IsOverNode t filter row.source
  unfolding filter
  over_source = record {
    node = h.copy.filter.node;
    there = h.copy.filter.there;
    role = ap filter_role h.copy.filter.kind_is ∙ h.role;
    over = h.copy.filter.over;
    plain = source;
  }

  target_other : target ≢ row.source
  unfolding target
  target_other = h.copy.other

  onto_plain : IsPlainNode t target
  onto_plain = target_plain t works aside jobs stands row target here is_target

  apart : row.source ≢ filter
  apart = plain_apart t filter row.source over_source row.source source

  -- ---- the job and its filter go

  module _ (drops : Bool) where
    abbrev over_table : RunTable
    over_table = changed t (EndJob row.number row.slot drops)

    abbrev pulled : RunTable
    pulled = changed over_table (PullFilter filter)

    over_stands : TableStands over_table
    over_stands = all_keep (EndJob row.number row.slot drops ∷ []) t (tt, tt) stands

    keeps_over : Keeps t over_table
    keeps_over = over_keeps t row.number row.slot drops

    pull_suits : SuitsPull over_table filter
    unfolding changed
    pull_suits = record {
      row = over_source.node;
      there = over_source.there;
      role = over_source.role;
      below = row.source;
      over = over_child t row.number row.slot drops filter Filtered ∙ over_source.over;
      under = keeps_over.plain row.source source;
    }

    pulled_stands : TableStands pulled
    pulled_stands = pull_table over_table filter pull_suits over_stands

    keeps : Keeps t pulled
    keeps = keeps_then t over_table pulled keeps_over (pull_keeps over_table filter pull_suits over_stands)

    ended : IsEndedTable t pulled filter row.source row.source
    ended = pulled_table t row.number row.slot drops filter row.source over_source.over

    disks : DisksAreLed t pulled filter row.source row.source
    disks = disks_pulled t pulled filter row.source ended stands over_source

    -- where an edge leads then, it led before
    leads_over : (a : ℕ) (e : Edge) → Contains over_table.edges e → e.parent ≡ Node a → Reaches t.edges a e.child
    unfolding changed
    leads_over a e there from =
        let was = over_was t row.number row.slot drops e there in
        subst (Reaches t.edges a) was.4 (Reaches-edge t.edges a was.0 was.1 (was.2 ∙ from))

    leads : (a : ℕ) (e : Edge) → Contains pulled.edges e → e.parent ≡ Node a → Reaches t.edges a e.child
    unfolding changed
    leads a e there from =
        let way = pulled_leads_on over_table filter pull_suits over_stands a e there from in
        Reaches-covered over_table.edges t.edges leads_over a e.child way.first way.rest way.path

    -- ---- parents move

    sizes : HaveOneSize t row.source target
    sizes = (goes t works aside jobs stands row target here is_target).sizes

    target_open : (r : NodeRecord) → node_by_id t target ≡ Some r → r.read_only ≡ false
    target_open r found =
        let at = find-Some (λ (x : NodeRecord). x.id == target) t.nodes r found in
        (jobs.run.targets row target here (written_is row (jobs.lone row here).kind ∙ is_target)).writable r at.0 (eqb-true r.id target at.1)

    no_filter : (r : NodeRecord) → node_by_id pulled filter ≡ Some r → ⊥
    no_filter r found = let bad : None ≡ Some r = sym ended.gone ∙ found in let no : ⊥ = cc bad in no

    module _ (mirror : row.kind ≡ Mirror) where
      no_way : Reaches t.edges target row.source → ⊥
      no_way =
          let c : CopyStands t row kinds.Mirror = subst (StandsByKind t row) mirror (jobs.stand.each row here).shape in
          let both : Some c.target ≡ Some target = sym c.is_target ∙ is_target in
          let same : c.target ≡ target = cc both in
          subst (λ n. Reaches t.edges n row.source → ⊥) same (mirror_target t stands jobs.stand drawn row here mirror c).apart

      move_suits : SuitsMove pulled row.source target filter
      move_suits = record {
        sizes = record {
          row = sizes.row;
          other = sizes.other;
          found = keeps.found row.source source ∙ sizes.found;
          other_found = keeps.found target onto_plain ∙ sizes.other_found;
          same = sizes.same;
        };
        plain = keeps.plain row.source source;
        onto = keeps.plain target onto_plain;
        writable = target_open (keeps.plain target onto_plain).row (sym (keeps.found target onto_plain) ∙ (keeps.plain target onto_plain).there);
        apart = λ back. elim back [
          | inl same ↦ target_other same
          | inr way ↦ no_way (Reaches-covered (without_way filter row.source pulled.edges) t.edges
              (λ a e there from. leads a e (Contains-filter (λ (x : Edge). not (same_parent x.parent (Node filter) && x.child == row.source)) pulled.edges e there).0 from)
              target row.source way.first way.rest way.path)
        ];
        stays = λ r found. absurd (no_filter r found);
      }

      abbrev moved : RunTable
      moved = changed pulled (Move row.source target filter)

      moved_stands : TableStands moved
      moved_stands = move_stands pulled row.source target filter move_suits pulled_stands

      moved_onto : IsPlainNode moved target
      moved_onto = move_plain pulled row.source target filter move_suits pulled_stands target (keeps.plain target onto_plain)

    -- ---- the target is settled

    settle_suits : (a : RunTable) → IsPlainNode a target → (so : Bool) (disk : NewDisk) → AllTableSuit a (settle_if so (Some target) disk)
    settle_suits a p true disk = (p, tt)
    settle_suits a p false disk = tt

    -- a node with a disk keeps it
    disk_kept : (u : RunTable) (to : ℕ) → IsEndedTable t u filter row.source to → With (node_by_id u row.source) HasDisk
    unfolding source
    disk_kept u to p =
        with_at HasDisk (node_by_id u row.source) (p.f source.row) (p.found row.source apart ∙ ap (option_map p.f) source.there)
        (by_row (source_disk t works aside jobs stands row here))
      where
        by_row : HasDisk source.row → HasDisk (p.f source.row)
        by_row disk = elim (p.only source.row) [
          | inl same ↦ subst HasDisk (sym same) disk
          | inr is ↦ subst HasDisk (sym is) (record { settled = refl; own = disk.own })
        ]

    size_at : (n : ℕ) (r : NodeRecord) → node_by_id t n ≡ Some r → bytes_of_node t n ≡ r.size
    size_at n r found = ap (λ (x : Option NodeRecord). unwrap_or (option_map (λ (y : NodeRecord). y.size) x) 0) found

    module _ (so : Bool) (disk : NewDisk) where
      abbrev stayed : RunTable
      stayed = all_changed pulled (settle_if so (Some target) disk)

      stay_settles : IsSettledTable pulled stayed
      stay_settles = settled_table pulled so (Some target) disk

      stay_ended : IsEndedTable t stayed filter row.source row.source
      stay_ended = settled_then t pulled stayed filter row.source row.source ended stay_settles

      stay_led : IsLedOn t stayed filter row.source target false
      stay_led = record {
        to = row.source;
        ended = stay_ended;
        disks = disks_settled t pulled stayed filter row.source row.source stay_settles disks;
        onto = record { apart = apart; size = refl; disk = disk_kept stayed row.source stay_ended; writable = λ is. is };
        stands = all_keep (settle_if so (Some target) disk) pulled (settle_suits pulled (keeps.plain target onto_plain) so disk) pulled_stands;
        place = inl refl;
      }

    module _ (mirror : row.kind ≡ Mirror) (disk : NewDisk) where
      abbrev pivoted : RunTable
      pivoted = all_changed (moved mirror) (settle_if true (Some target) disk)

      pivot_settles : IsSettledTable (moved mirror) pivoted
      pivot_settles = settled_table (moved mirror) true (Some target) disk

      pivot_led : IsLedOn t pivoted filter row.source target true
      pivot_led = record {
        to = target;
        ended = settled_then t (moved mirror) pivoted filter row.source target (moved_table t pulled filter row.source target ended) pivot_settles;
        disks = disks_settled t (moved mirror) pivoted filter row.source target pivot_settles
            (disks_moved t pulled filter row.source target (move_suits mirror) pulled_stands disks);
        onto = record {
          apart = plain_apart t filter row.source over_source target onto_plain;
          size = size_at target sizes.other sizes.other_found ∙ sym sizes.same ∙ sym (size_at row.source sizes.row sizes.found);
          disk = settled_disk (moved mirror) target disk (moved_onto mirror);
          writable = λ is. with_at (λ (r : NodeRecord). r.read_only ≡ false) (node_by_id t target) onto_plain.row onto_plain.there (target_open onto_plain.row onto_plain.there);
        };
        stands = all_keep (settle_if true (Some target) disk) (moved mirror) (settle_suits (moved mirror) (moved_onto mirror) true disk) (moved_stands mirror);
        place = inr (refl, refl);
      }

  -- ---- all of it

  pub filter_reads : disk_node t filter ≡ row.source
  filter_reads = reads_source t (pulled false) filter row.source (ended false) stands over_source

  pub led_on : (outcome : JobOutcome) → IsLedOn t (all_changed t (end_edits t row outcome)) filter row.source target (pivots outcome row.kind)
  led_on outcome =
      subst (λ changes. IsLedOn t (all_changed t changes) filter row.source target (pivots outcome row.kind))
      (sym (edits_are t row filter target copies is_filter is_target copy outcome)) (by_pivot (pivots outcome row.kind) refl)
    where
      copies : copies_blocks row.kind ≡ true
      copies = (jobs.lone row here).kind

      copy : IsCopyRow row
      copy = jobs.rows row here copies

      disk : NewDisk
      disk = left_as row row.kind

      so_pivoted : pivots outcome row.kind ≡ true → settles_at_end outcome row ≡ true
      so_pivoted is = rw (pivot_done outcome row.kind is, copy.whole (pivot_mirror outcome row.kind is)) refl

      by_pivot : (pivot : Bool) → pivots outcome row.kind ≡ pivot
          → IsLedOn t (all_changed t (EndJob row.number row.slot (drops_aside outcome row.bitmap) ∷ PullFilter filter ∷ over_to pivot row.source target filter
          ++ settle_if (settles_at_end outcome row) (Some target) disk)) filter row.source target pivot
      by_pivot false is = stay_led (drops_aside outcome row.bitmap) (settles_at_end outcome row) disk
      by_pivot true is =
          subst (λ so. IsLedOn t (all_changed (pulled (drops_aside outcome row.bitmap)) (Move row.source target filter ∷ settle_if so (Some target) disk))
          filter row.source target true) (sym (so_pivoted is)) (pivot_led (drops_aside outcome row.bitmap) (pivot_mirror outcome row.kind is) disk)
