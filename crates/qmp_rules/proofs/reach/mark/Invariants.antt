use Rattle.std.proofs.Common.{◌≡◌, ◌<◌, ℕ, drop, length}
use Rattle.std.specs.List.{list_any}
use Rattle.qmp_rules.specs.Chains.{leads}
use Rattle.qmp_rules.specs.Reach.{IsMarked, leads_by}
use Rattle.qmp_rules.proofs.reach.mark.Given as goal

abbrev pub invariant-loop-i : goal.invariant-loop-i
invariant-loop-i l = record {
  marks : (steps : ℕ) → IsMarked (λ id. leads steps l.edges id l.to) l.before
      → IsMarked (λ id. list_any (leads_by steps l.edges id l.to) (drop l.i l.edges)) l.after;
  room : length l.after ≡ 64;
}
