-- Whose device stopped what was read or put for a job; until then no count rose.
use Rattle.std.proofs.Common.{◌≡◌, ℕ, List, [], ◌∷◌, refl, sym, ◌∙◌, ap, subst, inl, inr, Some}
use Rattle.std.specs.Prelude.{AllPairs}
use Rattle.blk_base.specs.Pieces.{Extent}
use Rattle.blk_base.specs.declared.fault.DevNo.{DevNo}
use Rattle.blk_base.specs.declared.fault.Outcome.{Outcome}
use Rattle.blk_base.specs.declared.fault.Outcome.TheVariants.{Good}
use Rattle.blk_nodes.specs.Joined.{DifferInNode}
use Rattle.blk_nodes.specs.Nodes.{Nodes}
use Rattle.blk_nodes.specs.Reading.{HaveRisen, IsReadBelow}
use Rattle.blk_nodes.specs.Writing.{MayWriteThrough}
use Rattle.flat_machine.specs.EventLicence.{faulty_device}
use Rattle.node_copies.specs.Putting.{PutsRun, PutsRuns}
use Rattle.node_copies.specs.Sectors.{run_bytes, run_span}
use Rattle.node_copies.proofs.Puts.{may_still}
use Rattle.world_parts.specs.Counting.{AreSameDevices}
use Rattle.world_parts.proofs.CountLemmas.{same-devices, same-risen}
use Rattle.world_parts.proofs.CountsKept.{AreSame, faults_at}
use Rattle.world_pieces.proofs.PieceCounts.{AreCounted, read-counted, write-counted, zero-counted}
use Rattle.world_pieces.proofs.PieceNodes.{StoppedOn, read_stop, written_stop, zeroed_stop}
use Rattle.world_goings.proofs.RunsPut.{files_put, once_then, same_then}

-- Between the nodes there were some of which each count is as at first; the last call left the new ones.
pub record Stops (old new : Nodes) (node : ℕ) (outcome : Outcome) : Type 0 where
  pub mid : Nodes
  pub graph : mid.graph ≡ old.graph
  pub same : AreSame old.devices mid.devices
  pub devices : AreSameDevices old.devices mid.devices
  pub last : AreSameDevices mid.devices new.devices
  pub counted : AreCounted outcome mid.devices new.devices
  pub stop : (dev : DevNo) → faulty_device outcome ≡ Some dev → StoppedOn mid new node outcome dev

-- ---- a read

pub read_stops : (old new : Nodes) (node : ℕ) (outcome : Outcome) → AllPairs DifferInNode old.devices → HaveRisen old.devices new.devices → IsReadBelow old new node outcome
    → Stops old new node outcome
read_stops old new node outcome once risen went = record {
  mid = old;
  graph = refl;
  same = λ n. refl;
  devices = same-devices old.devices;
  last = same-risen old.devices new.devices risen;
  counted = read-counted old new once node outcome went;
  stop = λ dev named. read_stop old new node outcome dev named went;
}

-- ---- runs that are put

nothing_put : (old new : Nodes) (target : ℕ) (outcome : Outcome) → new ≡ old → outcome ≡ Good → Stops old new target outcome
nothing_put old new target outcome same good =
    subst (Stops old new target) (sym good) (record {
      mid = old;
      graph = refl;
      same = λ n. refl;
      devices = same-devices old.devices;
      last = subst (λ (n : Nodes). AreSameDevices old.devices n.devices) (sym same) (same-devices old.devices);
      counted = λ n. ap (λ (m : Nodes). faults_at m.devices n) same;
      stop = λ dev named. absurd (let bad : ⊥ = cc named in bad);
    })

module _ (block : Extent) (target : ℕ) (bytes : List ℕ) where
  module _ (old new : Nodes) (run : _) (outcome : Outcome) (once : AllPairs DifferInNode old.devices)
      (put : PutsRun block old new target (run_span block run) (run_bytes block bytes run) outcome) where
    run_counted : AreCounted outcome old.devices new.devices
    run_counted = elim put.made [
      | inl zeros ↦ zero-counted old new once target (run_span block run) outcome zeros.1.row.driver zeros.1.wrote
      | inr wrote ↦ write-counted old new once target (run_span block run) (run_bytes block bytes run) outcome wrote.1.row.driver wrote.1.wrote
    ]

    run_stop : MayWriteThrough old target → (dev : DevNo) → faulty_device outcome ≡ Some dev → StoppedOn old new target outcome dev
    run_stop may dev named = elim put.made [
      | inl zeros ↦ zeroed_stop old new target (run_span block run) outcome dev zeros.1.row named zeros.1.there may zeros.1.row.driver refl zeros.1.wrote
      | inr wrote ↦ written_stop old new target (run_span block run) (run_bytes block bytes run) outcome dev wrote.1.row named wrote.1.there may wrote.1.row.driver refl wrote.1.wrote
    ]

    run_last : PutsRuns (run ∷ []) block old new target bytes outcome → AreSameDevices old.devices new.devices
    run_last puts = (files_put (run ∷ []) block target bytes old new outcome once puts).devices

  pub runs_stop : (runs : List _) (old new : Nodes) (outcome : Outcome) → AllPairs DifferInNode old.devices → MayWriteThrough old target
      → PutsRuns runs block old new target bytes outcome → Stops old new target outcome
  runs_stop [] old new outcome once may is = nothing_put old new target outcome is.0 is.1
  runs_stop (run ∷ runs) old new outcome once may (mid, first, put, rest) = elim rest [
    | inl on ↦
        let good_put = subst (PutsRun block old mid target (run_span block run) (run_bytes block bytes run)) on.0 put in
        let devices = run_last old mid run Good once good_put (mid, Good, good_put, inl (refl, (refl, refl))) in
        let on_from = runs_stop runs mid new outcome (once_then old.devices mid.devices devices once) (may_still old mid target put.kept may) on.1 in
        let counted : AreSame old.devices mid.devices = run_counted old mid run Good once good_put in
        record {
          mid = on_from.mid;
          graph = on_from.graph ∙ put.kept.graph;
          same = λ n. on_from.same n ∙ counted n;
          devices = same_then old.devices mid.devices on_from.mid.devices devices on_from.devices;
          last = on_from.last;
          counted = on_from.counted;
          stop = on_from.stop;
        }
    | inr stop ↦
        subst (λ (n : Nodes). Stops old n target outcome) (sym stop.1)
        (subst (Stops old mid target) (sym stop.2) (record {
          mid = old;
          graph = refl;
          same = λ n. refl;
          devices = same-devices old.devices;
          last = run_last old mid run first once put (mid, first, put, inr (stop.0, refl, refl));
          counted = run_counted old mid run first once put;
          stop = run_stop old mid run first once put may;
        }))
  ]
