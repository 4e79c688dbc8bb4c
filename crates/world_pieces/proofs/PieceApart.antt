-- A guest's request passes by what jobs read and write.
use Rattle.std.proofs.Common.{◌≡◌, ◌⊎◌, ℕ, true, false, Some, subst, inl, inr}
use Rattle.std.specs.Prelude.{Contains}
use Rattle.blk_graph.specs.declared.edge.Parent.TheVariants.{Guest as GuestOf}
use Rattle.blk_graph.specs.declared.edge.Role.TheVariants.{Drive}
use Rattle.blk_history.specs.Disk.{is_write}
use Rattle.blk_history.specs.Machine.{Flight}
use Rattle.blk_nodes.specs.Joined.{IsJoined}
use Rattle.qmp_rules.specs.Chains.{disk_node, is_over}
use Rattle.qmp_rules.specs.declared.rows.JobRecord.{JobRecord}
use Rattle.flat_machine.specs.State.{drive_of}
use Rattle.flat_machine.specs.Suiting.{IsThere}
use Rattle.flat_machine.specs.Writing.{ReadsWritten}
use Rattle.flat_machine.proofs.WritingKept.{RoleEdge, role_edge}
use Rattle.job_tables.specs.Jobs.{EdgesAreDrawn}
use Rattle.job_tables.proofs.GuestWrites.{no_target_reads, source_not_over, target_under}
use Rattle.world_parts.specs.Coherent.{AreJobsKept, IsCoherent}
use Rattle.world_parts.specs.Face.{WorldSeen}
use Rattle.world_parts.specs.Progress.{flight_at}
use Rattle.world_parts.proofs.DrawnEdges.{drawn_by_nodes}
use Rattle.world_pieces.proofs.PieceJobs.{IsApartFromJobs}
use Rattle.world_pieces.proofs.PieceReady as ready

module _ (w : WorldSeen) (g : ℕ) (f : Flight) (drive : ℕ) (on : drive_of w.table g ≡ Some drive) (flies : flight_at w.progress.guests g ≡ Some f) (joined : IsJoined w.nodes)
    (was : IsCoherent w.table w.nodes w.opened w.progress) (kept : AreJobsKept w.table w.works w.progress.aside) where
  drawn : EdgesAreDrawn w.table
  drawn = (drawn_by_nodes w.table w.nodes was.table.stands.apart was.alike joined).0

  by : RoleEdge w.table.edges (GuestOf g) Drive drive
  by = role_edge (GuestOf g) Drive w.table.edges drive on

  asks : is_write f.op ≡ true → by.edge.perm.write ≡ true
  asks writes =
      let device = ready.writer w.table w.nodes w.progress joined w.opened was g f drive on flies writes in
      was.asks g device.0 by.edge device.1 device.2 by.there by.from

  there : IsThere w.table drive
  there = subst (IsThere w.table) by.to (was.table.stands.edges by.edge by.there).child

  under : (row : JobRecord) (target : ℕ) → Contains w.table.jobs row → row.target ≡ Some target → ReadsWritten w.table (disk_node w.table drive) target → is_write f.op ≡ true → ⊥
  under row target here is how writes =
      let reads = subst (λ n. (disk_node w.table target ≡ disk_node w.table n) ⊎ (is_over w.table (disk_node w.table n) target ≡ true) → ⊥) by.to
      (no_target_reads w.table was.table.stands kept.stand drawn by.edge g by.there by.from by.role_is (asks writes) row target here is) in
      elim how [
        | inl same ↦ reads (inl same)
        | inr other ↦ elim other [
          | inl below ↦ target_under w.table was.table.stands kept.stand drive there row target here is below
          | inr over ↦ reads (inr over)
        ]
      ]

  pub apart_from_jobs : IsApartFromJobs w.table (disk_node w.table drive) f.op
  apart_from_jobs = record {
    under = target_under w.table was.table.stands kept.stand drive there;
    reads = λ writes row target here is how. under row target here is how writes;
    sources = λ writes row here.
        subst (λ n. is_over w.table (disk_node w.table n) row.source ≡ false) by.to
        (source_not_over w.table was.table.stands kept.stand drawn by.edge g by.there by.from by.role_is (asks writes) row here);
  }
