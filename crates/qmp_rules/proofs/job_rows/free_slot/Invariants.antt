use Rattle.std.proofs.Common.{◌≡◌, ◌-◌}
use Rattle.blk_graph.specs.Ids.{lowest_from, lowest_free}
use Rattle.qmp_rules.proofs.StartLemmas.{slots_of}
use Rattle.qmp_rules.proofs.job_rows.free_slot.Given as goal

abbrev pub invariant-loop-slot : goal.invariant-loop-slot
invariant-loop-slot l = lowest_from (64 - l.slot) l.slot (slots_of l.jobs) ≡ lowest_free (slots_of l.jobs)
