-- What a job met in a step of its copying: no fault, or the one that stopped it.
use Rattle.std.proofs.Common.{◌≡◌, ℕ, ◌≤◌, List, ◌++◌, length, drop, refl, sym, ◌∙◌, ap, subst, Some, None}
use Rattle.std.specs.Prelude.{AllPairs, Contains, Err, IfSome, is_some}
use Rattle.std.proofs.lemmas.Bool.{eqb-true}
use Rattle.blk_base.specs.declared.fault.DevNo.{DevNo}
use Rattle.blk_base.specs.declared.fault.Fault.{Fault}
use Rattle.blk_base.specs.declared.fault.Fault.TheVariants as faults
use Rattle.blk_base.specs.declared.fault.FaultFrom.TheVariants.{Dev}
use Rattle.blk_base.specs.declared.fault.Outcome.{Outcome}
use Rattle.blk_base.specs.declared.fault.Outcome.TheVariants.{Good, Torn, Io, NoSpace}
use Rattle.blk_graph.specs.Graph.{Graph}
use Rattle.blk_graph.proofs.Members.{find-Some}
use Rattle.blk_nodes.specs.Joined.{DifferInNode, IsJoined}
use Rattle.blk_nodes.specs.Nodes.{device_in, is_device_of}
use Rattle.blk_nodes.specs.Reading.{LeadsTo, StoppedAt, StoppedBy}
use Rattle.flat_machine.specs.EventLicence.{Deed, IsDoneFor, ReachesDevice, faulty_device}
use Rattle.flat_machine.specs.Licence.{Counts, IsBetweenCounts, fault_at}
use Rattle.node_copies.specs.Putting.{answer_of}
use Rattle.qmp_rules.specs.declared.rows.JobRecord.{JobRecord}
use Rattle.world_parts.specs.Coherent.{AreOut, IsCoherent}
use Rattle.world_parts.specs.Counting.{AreSameDevices, HidesNoFault, IsFaultReached, RunsOn, counts_with, counts_within, seen_sources}
use Rattle.world_parts.specs.Face.{WorldSeen, counts_now, first_counts}
use Rattle.world_parts.specs.Jobs.{MeetsFault, MeetsNone}
use Rattle.world_parts.specs.Keeping.{rise_of}
use Rattle.world_parts.proofs.CountLemmas.{found-before, out-same, reached-held, runs-devices}
use Rattle.world_parts.proofs.CountsKept.{AreSame, counts-same, hides-none, hides-stopped}
use Rattle.world_parts.proofs.NodesAfter.{noded, same_in}
use Rattle.world_pieces.proofs.PieceComes.{stop_names}
use Rattle.world_pieces.proofs.PieceCounts.{AreCounted}
use Rattle.world_pieces.proofs.PieceFits.{stop_reached}
use Rattle.world_pieces.proofs.PieceNodes.{StoppedOn}
use Rattle.world_goings.proofs.RunsPut.{once_then}
use Rattle.world_copies.proofs.Stopped.{Stops}

module _ (w v : WorldSeen) (kept : v ≡ record w { nodes = v.nodes; works = v.works }) (joined : IsJoined w.nodes)
    (coherent : IsCoherent w.table w.nodes w.opened w.progress) where
  opened : v.opened ≡ w.opened
  opened = ap (λ (x : WorldSeen). x.opened) kept

  faults_kept : v.faults ≡ w.faults
  faults_kept = ap (λ (x : WorldSeen). x.faults) kept

  pub runs_by : AreSameDevices w.nodes.devices v.nodes.devices → RunsOn w v
  runs_by same =
      runs-devices w v (ap (λ (x : WorldSeen). is_some x.files) kept) (ap (λ (x : WorldSeen). x.room) kept) (ap (λ (x : WorldSeen). x.first_faults) kept)
      (ap (λ (x : WorldSeen). x.earlier) kept) faults_kept opened same

  -- no count rose
  pub hides_all : AreSame w.nodes.devices v.nodes.devices → HidesNoFault w v None
  hides_all same = hides-none w v opened faults_kept (counts-same w.nodes.devices v.nodes.devices w.opened same)

  module _ (node : ℕ) (outcome : Outcome) (stops : Stops w.nodes v.nodes node outcome) where
    abbrev m : WorldSeen
    m = record w { nodes = stops.mid }

    within : counts_within m v ≡ counts_within w v
    within =
        ap (λ (counts : List ℕ). let c : Counts = record { store = w.faults; devices = counts ++ drop (length w.opened) (first_counts v).devices } in c)
        (counts-same w.nodes.devices stops.mid.devices w.opened stops.same)

    runs_last : RunsOn m v
    runs_last =
        runs-devices m v (ap (λ (x : WorldSeen). is_some x.files) kept) (ap (λ (x : WorldSeen). x.room) kept) (ap (λ (x : WorldSeen). x.first_faults) kept)
        (ap (λ (x : WorldSeen). x.earlier) kept) faults_kept opened stops.last

    once : AllPairs DifferInNode stops.mid.devices
    once = once_then w.nodes.devices stops.mid.devices stops.devices joined.once

    out : AreOut w.table stops.mid w.opened
    out = out-same w.table w.nodes stops.mid w.opened stops.devices coherent.out

    out_then : AreOut w.table v.nodes w.opened
    out_then = out-same w.table stops.mid v.nodes w.opened stops.last out

    -- ---- the device that stopped it

    reached : (dev : DevNo) → faulty_device outcome ≡ Some dev → ReachesDevice w.table (seen_sources w) node dev.0
    reached dev named =
        let stop = stops.stop dev named in
        let at = find-Some (is_device_of stop.file) stops.mid.devices stop.before stop.held in
        let was = found-before w.nodes.devices stops.mid.devices stop.before stops.devices at.0 in
        let own : was.0.node ≡ stop.file = sym was.2.node ∙ eqb-true stop.before.node stop.file at.1 in
        let held : device_in w.nodes.devices stop.file ≡ Some was.0 =
        subst (λ n. device_in w.nodes.devices n ≡ Some was.0) own (noded w.nodes.devices was.0 joined.once was.1) in
        let number : dev ≡ was.0.number = stop_names stop.before stop.after outcome dev stop.stop ∙ was.2.number in
        let first : StoppedOn w.nodes w.nodes node (NoSpace dev) dev = record {
          file = stop.file;
          leads = subst (λ (g : Graph). LeadsTo g.edges node stop.file) stops.graph stop.leads;
          before = was.0;
          after = was.0;
          held = held;
          left = held;
          stop = number;
        } in
        stop_reached w.table w.nodes joined coherent.alike coherent.table.stands w w.nodes node (NoSpace dev) dev refl first number

    -- ---- its count

    module _ (dev : DevNo) (count file : ℕ) (at : StoppedAt file stops.mid.devices v.nodes.devices dev count) where
      number : at.after.number ≡ at.before.number
      number = (same_in stops.mid.devices v.nodes.devices file at.before at.after stops.last at.held at.left).number

      hides_one : HidesNoFault w v (Some (fault_at (Dev dev) count))
      hides_one =
          subst (λ (c : Counts). counts_now v ≡ counts_with c (Some (fault_at (Dev dev) count))) within
          (hides-stopped m v opened faults_kept once out_then file dev count at number)

      rose : count ≤ 18446744073709551615 → IsBetweenCounts (counts_within w v) (counts_now v) (fault_at (Dev dev) count)
      rose fits =
          let held = (find-Some (is_device_of file) stops.mid.devices at.before at.held).0 in
          let held_now = (find-Some (is_device_of file) v.nodes.devices at.after at.left).0 in
          let own : StoppedBy at.before at.after at.before.number count = subst (λ (d : DevNo). StoppedBy at.before at.after d count) at.stopped.named at.stopped in
          let is = subst (λ (d : DevNo). IsFaultReached m v (fault_at (Dev d) count)) (sym at.stopped.named)
          (reached-held m v at.before at.after count runs_last opened out out_then held held_now number own fits) in
          subst (λ (c : Counts). IsBetweenCounts c (counts_now v) (fault_at (Dev dev) count)) within is.new

    -- ---- what the job met

    module _ (deed : Deed) (passes : ℕ → Type 0) (row : JobRecord) (done_for : IsDoneFor w.table deed row) (own : Contains (row.held ++ row.read) node)
        (first : (seen_sources w).met_by row.number ≡ None) (fault : Fault) (met : (seen_sources v).met_by row.number ≡ Some fault)
        (small : IfSome (rise_of (Some fault)) (λ rise. rise.count ≤ 18446744073709551615)) (full : (dev : DevNo) → outcome ≡ NoSpace dev → passes dev.0) where
      met_count : (dev : DevNo) (count file : ℕ) → faulty_device outcome ≡ Some dev → StoppedAt file stops.mid.devices v.nodes.devices dev count → fault ≡ faults.Io dev count
          → MeetsFault w v deed passes row
      met_count dev count file named at is =
          let fits : count ≤ 18446744073709551615 = subst (λ (f : Fault). IfSome (rise_of (Some f)) (λ rise. rise.count ≤ 18446744073709551615)) is small in
          record {
            fault = faults.Io dev count;
            met = met ∙ ap Some is;
            may = record {
              first = first;
              done_for = done_for;
              node = node;
              own = own;
              device = reached dev named;
              cause = rose dev count file at fits;
            };
            fits = fits;
            hides = hides_one dev count file at;
          }

      met_full : (dev : DevNo) → outcome ≡ NoSpace dev → AreSame stops.mid.devices v.nodes.devices → fault ≡ faults.NoSpace dev → MeetsFault w v deed passes row
      met_full dev named same is = record {
        fault = faults.NoSpace dev;
        met = met ∙ ap Some is;
        may = record {
          first = first;
          done_for = done_for;
          node = node;
          own = own;
          device = reached dev (ap faulty_device named);
          cause = full dev named;
        };
        fits = tt;
        hides = hides_all (λ n. same n ∙ stops.same n);
      }

      pub meets_by : (o : Outcome) → outcome ≡ o → answer_of o ≡ Err fault → MeetsFault w v deed passes row
      meets_by Good is told = absurd (let bad : ⊥ = cc told in bad)
      meets_by (Torn done dev count) is told =
          let at = subst (λ (x : Outcome). AreCounted x stops.mid.devices v.nodes.devices) is stops.counted in
          let same : fault ≡ faults.Io dev count = cc told in
          met_count dev count at.0 (ap faulty_device is) at.1 same
      meets_by (Io dev count) is told =
          let at = subst (λ (x : Outcome). AreCounted x stops.mid.devices v.nodes.devices) is stops.counted in
          let same : fault ≡ faults.Io dev count = cc told in
          met_count dev count at.0 (ap faulty_device is) at.1 same
      meets_by (NoSpace dev) is told =
          let counted = subst (λ (x : Outcome). AreCounted x stops.mid.devices v.nodes.devices) is stops.counted in
          let same : fault ≡ faults.NoSpace dev = cc told in
          met_full dev is counted same

    -- or none
    pub none_met : (job : ℕ) → outcome ≡ Good → (seen_sources v).met_by job ≡ (seen_sources w).met_by job → MeetsNone w v job
    none_met job good same =
        let counted = subst (λ (x : Outcome). AreCounted x stops.mid.devices v.nodes.devices) good stops.counted in
        record { same = same; hides = hides_all (λ n. counted n ∙ stops.same n) }
