-- A fault that jobs keep beside others: one more, one less, and one that stands elsewhere.
use Rattle.std.proofs.Common.{List, sym, ◌∙◌}
use Rattle.std.proofs.lemmas.List.Elements.{All-weaker}
use Rattle.blk_base.specs.declared.fault.FaultAt.{FaultAt}
use Rattle.flat_machine.specs.Licence.{Counts, Differ, IsBetweenCounts}
use Rattle.world_parts.specs.Counting.{IsFaultReached, RunsOn}
use Rattle.world_parts.specs.Face.{WorldSeen, counts_now, first_counts}
use Rattle.world_parts.specs.Keeping.{AreRises}
use Rattle.world_parts.proofs.CountLemmas.{differs}
use Rattle.world_parts.proofs.Rises.{rises-on}
use Rattle.world_goings.proofs.Inserted.{IsWith, with_all, with_pairs, without_all, without_pairs}

turned : (a b : FaultAt) → Differ a b → Differ b a
turned a b differ from count = count ∙ differ (sym from) (sym count)

-- one that is reached in the event
pub rises_with : (w v : WorldSeen) (fault : FaultAt) (faults now : List FaultAt) → RunsOn w v → IsFaultReached w v fault → IsWith fault faults now
    → AreRises (first_counts w) (counts_now w) faults → AreRises (first_counts v) (counts_now v) now
rises_with w v fault faults now runs reached is are =
    let on = rises-on w v runs faults are in
    record {
      rises = with_all (IsBetweenCounts (first_counts v) (counts_now v)) fault faults now is reached.rise on.rises;
      once =
          with_pairs Differ turned fault faults now is
          (All-weaker (IsBetweenCounts (first_counts w) (counts_now w)) (Differ fault)
          (λ earlier was. turned earlier fault (differs w v runs earlier fault was reached)) faults are.rises) are.once;
    }

-- one is kept no more
pub rises_without : (opening now : Counts) (fault : FaultAt) (faults all : List FaultAt) → IsWith fault faults all → AreRises opening now all → AreRises opening now faults
rises_without opening now fault faults all is are = record {
  rises = (without_all (IsBetweenCounts opening now) fault faults all is are.rises).1;
  once = (without_pairs Differ turned fault faults all is are.once).1;
}

-- or is put elsewhere
pub rises_moved : (opening now : Counts) (fault : FaultAt) (faults all other : List FaultAt) → IsWith fault faults all → IsWith fault faults other
    → AreRises opening now all → AreRises opening now other
rises_moved opening now fault faults all other is to are =
    let each = without_all (IsBetweenCounts opening now) fault faults all is are.rises in
    let pairs = without_pairs Differ turned fault faults all is are.once in
    record {
      rises = with_all (IsBetweenCounts opening now) fault faults other to each.0 each.1;
      once = with_pairs Differ turned fault faults other to pairs.0 pairs.1;
    }
