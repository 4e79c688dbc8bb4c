-- The source of a job reads as its flat disk, and once a mirror owes nothing its target reads so too.
use Rattle.std.proofs.Common.{◌≡◌, List, sym, ◌∙◌, ap}
use Rattle.std.specs.Prelude.{Contains}
use Rattle.blk_history.specs.declared.event.Event.{Event}
use Rattle.block_jobs.specs.Work.{JobWork}
use Rattle.blk_nodes.specs.Contents.{disk_of}
use Rattle.qmp_codec.specs.declared.event.JobKind.TheVariants.{Mirror}
use Rattle.qmp_rules.specs.Chains.{disk_node}
use Rattle.qmp_rules.specs.Ends.{settles_target}
use Rattle.qmp_rules.specs.Table.{RunTable, node_by_id}
use Rattle.qmp_rules.specs.declared.rows.JobRecord.{JobRecord}
use Rattle.flat_machine.specs.Machine.{replay}
use Rattle.flat_machine.specs.Opening.{start}
use Rattle.flat_machine.specs.State.{State, bytes_at_node, bytes_in}
use Rattle.flat_machine.specs.declared.opening.Opening.{Opening}
use Rattle.job_progress.specs.Going.{IsJobAhead, goal_by}
use Rattle.job_progress.proofs.Copies.{copies_made}
use Rattle.world_parts.specs.Coherent.{IsWholeWorld}
use Rattle.world_parts.specs.Comes.{ShowsState}
use Rattle.world_parts.specs.Face.{WorldSeen}
use Rattle.world_parts.specs.Jobs.{HasCopiedAll, ReadsAsSource}
use Rattle.world_goings.proofs.JobNodes.{source_disk, source_itself, source_plain}

module _ (o : Opening) (w : WorldSeen) (whole : IsWholeWorld w) (row : JobRecord) (here : Contains w.table.jobs row) where
  abbrev h : List Event
  h = w.progress.log.events

  abbrev s : State
  s = replay (start o) h

  pub source_reads : ShowsState o s w → disk_of w.nodes row.source ≡ bytes_at_node s row.source
  source_reads shows =
      let p = source_plain w.table w.works w.progress.aside whole.jobs whole.coherent.table.stands row here in
      shows.contents.disks row.source p.row (ap (λ (u : RunTable). node_by_id u row.source) shows.table.table_is ∙ p.there)
      (source_disk w.table w.works w.progress.aside whole.jobs whole.coherent.table.stands row here)
      ∙ ap (bytes_in s.disks)
      (sym (ap (λ (u : RunTable). disk_node u row.source) shows.table.table_is ∙ source_itself w.table w.works w.progress.aside whole.jobs whole.coherent.table.stands row here))

  pub target_alike : (work : JobWork) → row.kind ≡ Mirror → ShowsState o s w → IsJobAhead (start o) h s (disk_of w.nodes) row work → HasCopiedAll work
      → ReadsAsSource w row
  target_alike work mirror shows ahead all target is =
      copies_made (start o) s h (disk_of w.nodes) row work target is all.rows all.left
      (ap settles_target ((whole.jobs.rows row here (whole.jobs.lone row here).kind).whole mirror)) ahead
      ∙ ap (goal_by s row) mirror ∙ sym (source_reads shows)
