-- A creation raises no count but that of the call that failed.
use Rattle.std.proofs.Common.{◌≡◌, ℕ, List, refl, sym, ap, subst, None, Ok, Err}
use Rattle.std.specs.Prelude.{Result}
use Rattle.blk_base.specs.declared.fault.FaultFrom.TheVariants.{Dev}
use Rattle.q2_format.specs.Created.{Creation, created_length}
use Rattle.qmp_rules.specs.Table.{RunTable}
use Rattle.qmp_rules.specs.declared.judge.PrepareStop.TheVariants.{Refused}
use Rattle.qmp_rules.specs.declared.refusal.Refusal.{Refusal}
use Rattle.qmp_rules.specs.declared.refusal.Refusal.TheVariants as refusal
use Rattle.blk_nodes.specs.Formatting.{HasFormatCause, IsFormatAt}
use Rattle.blk_nodes.specs.Joined.{IsJoined}
use Rattle.blk_nodes.specs.Nodes.{DeviceSeen, Nodes}
use Rattle.blk_nodes.specs.declared.stop.FormatStop.{FormatStop}
use Rattle.blk_nodes.specs.declared.stop.FormatStop.TheVariants as stop
use Rattle.world_parts.specs.Carrying.{fault_named}
use Rattle.world_parts.specs.Coherent.{IsWholeWorld}
use Rattle.world_parts.specs.Counting.{AreSameDevices, HidesNoFault}
use Rattle.world_parts.specs.Creating.{HasMakingFailed, HasFormatted, unformatted}
use Rattle.world_parts.specs.Deleting.{Ground, ground_of}
use Rattle.world_parts.specs.Face.{WorldSeen, counts_from}
use Rattle.world_parts.specs.Steps.{StoreSeen}
use Rattle.world_parts.proofs.CountLemmas.{out-same, same-only}
use Rattle.world_parts.proofs.CountsKept.{counts-same, hides-none, hides-stopped, hides-store, only-same}
use Rattle.world_parts.proofs.Placed.{placed}

module _ (w : WorldSeen) (whole : IsWholeWorld w) (joined : IsJoined w.nodes) (x : Ground) (u : RunTable) where
  abbrev v : WorldSeen
  v = placed w x u

  -- the store failed to make a file
  pub hides_failed : (name : List ℕ) (size : ℕ) (cause : Refusal) → x.nodes ≡ w.nodes → HasMakingFailed name size (ground_of w).store x.store cause
      → HidesNoFault w v (fault_named cause)
  hides_failed name size cause nodes failed =
      subst (λ (c : Refusal). HidesNoFault w v (fault_named c)) (sym failed.names)
      (hides-store w v (ap (λ (s : StoreSeen). s.opened) failed.kept) x.store.faults refl
      (ap (λ (n : Nodes). counts_from n.devices 0 w.opened) nodes))

  module _ (node : ℕ) (image : Creation) (outcome : Result (Unit {0}) FormatStop) (formatted : HasFormatted node (ground_of w) x image outcome) where
    abbrev at : IsFormatAt node w.nodes.devices x.nodes.devices image outcome
    at = formatted.format

    opened : x.store.opened ≡ w.opened
    opened = ap (λ (s : StoreSeen). s.opened) formatted.store

    faults : x.store.faults ≡ w.faults
    faults = ap (λ (s : StoreSeen). s.faults) formatted.store

    -- no call of the device failed
    hides_calm : at.after.faults ≡ at.before.faults → HidesNoFault w v None
    hides_calm same =
        hides-none w v opened faults
        (counts-same w.nodes.devices x.nodes.devices w.opened
        (only-same node w.nodes.devices x.nodes.devices at.before at.after joined.once at.only at.held at.left at.formatted.number same))

    devices : AreSameDevices w.nodes.devices x.nodes.devices
    devices =
        same-only node w.nodes.devices x.nodes.devices at.before at.after joined.once at.only at.held at.left
        (record { node = at.formatted.node; number = at.formatted.number; capacity = at.formatted.capacity; faults = at.formatted.faults })

    -- an image was created
    pub hides_formatted : HasFormatCause at.before at.after (created_length image) (Ok tt) → HidesNoFault w v None
    hides_formatted cause = hides_calm cause.1

    -- or a call of the device failed
    pub hides_unformatted : (cause : Refusal) (why : FormatStop) → HasFormatCause at.before at.after (created_length image) (Err why)
        → unformatted why ≡ Refused cause → HidesNoFault w v (fault_named cause)
    hides_unformatted cause (stop.Io dev count) caused is =
        let one : refusal.Io (Dev dev) count ≡ cause = cc is in
        subst (λ (c : Refusal). HidesNoFault w v (fault_named c)) one
        (hides-stopped w v opened faults joined.once (out-same w.table w.nodes x.nodes w.opened devices whole.coherent.out) node dev count
        (record { before = at.before; after = at.after; held = at.held; left = at.left; stopped = caused.1; only = at.only })
        at.formatted.number)
    hides_unformatted cause (stop.NoSpace dev) caused is =
        let one : refusal.NoSpace dev ≡ cause = cc is in
        subst (λ (c : Refusal). HidesNoFault w v (fault_named c)) one (hides_calm (ap (λ (d : DeviceSeen). d.faults) caused.2))
    hides_unformatted cause stop.NoMemory caused is = absurd (let bad : ⊥ = cc is in bad)
