use Rattle.std.proofs.Common.{inl, inr}
use Rattle.job_tables.proofs.GuestWrites.{no_target_reads, target_under, source_not_over}
use Rattle.job_progress.proofs.laws.no_target_is_written.Goals as goal

pub returns-clause-reads : goal.returns-clause-reads
returns-clause-reads c = λ t writer guest h j d there from drive asks row target here is how. elim how [
  | inl reads ↦ no_target_reads t h j d writer guest there from drive asks row target here is (inl reads)
  | inr other ↦ elim other [
    | inl under ↦ target_under t h j writer.child (h.edges writer there).child row target here is under
    | inr over ↦ no_target_reads t h j d writer guest there from drive asks row target here is (inr over)
  ]
]

pub returns-clause-under : goal.returns-clause-under
returns-clause-under c = λ t node h j there row target here is under. target_under t h j node there row target here is under

pub returns-clause-sources : goal.returns-clause-sources
returns-clause-sources c = λ t writer guest row h j d there from drive asks here. source_not_over t h j d writer guest there from drive asks row here
