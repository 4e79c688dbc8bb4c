use Rattle.std.proofs.Common.{◌≡◌, ◌<◌, true, false, sym, ◌∙◌, arith}
use Rattle.std.specs.Prelude.{◌==◌}
use Rattle.std.specs.List.{list_any}
use Rattle.qmp_rules.proofs.StartLemmas.{slot_start, slot_free, slot_taken}
use Rattle.qmp_rules.proofs.job_rows.free_slot.Goals as goal

pub loop-slot-init : goal.loop-slot-init
loop-slot-init c = slot_start c.args.jobs.now

pub returns-then-not-has_slot : goal.returns-then-not-has_slot
returns-then-not-has_slot c =
    let free : list_any (λ job. job.slot == c.loop-slot.slot) c.args.jobs.now ≡ false = first_of (cc, grind arith) in
    sym (slot_free c.loop-slot.slot c.args.jobs.now free) ∙ c.loop-slot.invariant

pub loop-slot-preserved : goal.loop-slot-preserved
loop-slot-preserved c =
    let less : c.loop-slot.slot < 64 = omega arith in
    let taken : list_any (λ job. job.slot == c.loop-slot.slot) c.args.jobs.now ≡ true = first_of (cc, grind arith) in
    sym (slot_taken c.loop-slot.slot c.args.jobs.now less taken) ∙ c.loop-slot.invariant
