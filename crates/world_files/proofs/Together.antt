-- What belongs together while nodes go, and a table of which rows and guests stay.
use Rattle.std.proofs.Common.{◌≡◌, ℕ, ◌==◌, List, Option, Some, None, refl, sym, ◌∙◌, ap, subst, ◌≤◌, length}
use Rattle.std.specs.Prelude.{Contains, find, option_map}
use Rattle.std.proofs.lemmas.Bool.{eqb-true}
use Rattle.blk_graph.specs.declared.edge.Parent.TheVariants.{Node, Guest as GuestOf}
use Rattle.blk_graph.specs.declared.edge.Role.TheVariants.{Drive}
use Rattle.blk_graph.specs.Edits.{child_of}
use Rattle.blk_graph.proofs.Members.{find-Some}
use Rattle.qmp_rules.specs.Table.{RunTable, node_by_id}
use Rattle.qmp_rules.specs.declared.rows.NodeRecord.{NodeRecord}
use Rattle.world_files.proofs.KeptDrives.{IsLedTo, KeepsEntered, drives_kept, disks_kept, within_kept, writable_kept}
use Rattle.world_parts.proofs.EasedTables.{IsTableEased, eased_at, nodes_of_eased, out_eased}
use Rattle.qmp_rules.specs.declared.rows.DeviceRow.{DeviceRow}
use Rattle.flat_machine.specs.Wiring.{AreFileNodes, StandAlone, StandsFor, TableAtRest}
use Rattle.blk_nodes.specs.Contents.{Unfolds}
use Rattle.blk_nodes.specs.Joined.{IsJoined}
use Rattle.world_parts.specs.Coherent.{HaveDrives, AreOnDisks, AskToWrite, AreOnWritable, AreWithin, AreAllowed, DevicesTell, IsCoherent, IsWholeWorld}
use Rattle.world_parts.specs.Deleting.{ground_of}
use Rattle.world_parts.specs.Face.{WorldSeen}
use Rattle.world_parts.proofs.CarryPlain.{HasTableShape}
use Rattle.world_files.proofs.DeletedSteps.{Parts}
use Rattle.world_parts.proofs.GuestEdges.{asks_eased}
use Rattle.world_parts.proofs.Placed.{allowed_same}

module _ (t now : RunTable) (e : IsTableEased t now) where
  -- guests' disks are as they were where the rows that edges lead to are
  pub entered_eased : ((row : NodeRecord) → Contains t.nodes row → IsLedTo t row.id → e.f row ≡ row) → KeepsEntered t now
  entered_eased fixed = record {
    devices = λ g. ap (find (λ device. device.number == g)) e.devices;
    drives = λ g. ap (child_of (GuestOf g) Drive) e.edges;
    rows = λ node here. eased_at t now e node ∙ by_row node here (node_by_id t node) refl;
    children = λ node role here. ap (child_of (Node node) role) e.edges;
  }
    where
      by_row : (node : ℕ) → IsLedTo t node → (row : Option NodeRecord) → node_by_id t node ≡ row → option_map e.f row ≡ row
      by_row node here None at = refl
      by_row node here (Some row) at =
          let found = find-Some (λ (r : NodeRecord). r.id == node) t.nodes row at in
          let is : row.id ≡ node = eqb-true row.id node found.1 in
          ap (λ (r : NodeRecord). Some r) (fixed row found.0 (subst (IsLedTo t) (sym is) here))

-- ---- between events and within them

-- what belongs together while nodes go, too
pub record BelongsTogether (w : WorldSeen) : Type 0 where
  pub parts : Parts w.table (ground_of w)
  pub unfolds : Unfolds w.nodes
  pub tell : DevicesTell w.files w.nodes.devices
  pub counted : w.first_faults ≤ w.faults
  pub drives : HaveDrives w.table
  pub disks : AreOnDisks w.table
  pub asks : AskToWrite w.table
  pub writable : AreOnWritable w.table
  pub within : AreWithin w.table w.progress.guests
  pub allowed : AreAllowed w.table w.progress.guests
  pub count : length w.progress.guests ≡ length w.table.guests
  pub alone : StandAlone w.table
  pub drivers : AreFileNodes w.table

pub goes_of : (w : WorldSeen) → IsWholeWorld w → IsJoined w.nodes → Unfolds w.nodes → BelongsTogether w
goes_of w whole joined unfolds =
    let is = whole.coherent in
    record {
      parts = record { joined = joined; alike = is.alike; apart = is.table.stands.apart; out = is.out };
      unfolds = unfolds;
      tell = whole.tell;
      counted = whole.counted;
      drives = is.drives;
      disks = is.disks;
      asks = is.asks;
      writable = is.writable;
      within = is.within;
      allowed = is.allowed;
      count = is.count;
      alone = is.table.stands.alone;
      drivers = is.table.stands.drivers;
    }

pub coherent_of : (w : WorldSeen) → BelongsTogether w → TableAtRest w.table → IsCoherent w.table w.nodes w.opened w.progress
coherent_of w goes rest = record {
  table = rest;
  drives = goes.drives;
  disks = goes.disks;
  alike = goes.parts.alike;
  asks = goes.asks;
  writable = goes.writable;
  within = goes.within;
  allowed = goes.allowed;
  count = goes.count;
  out = goes.parts.out;
}

-- ---- a file is used

module _ (t now : RunTable) (shape : HasTableShape t now) where
  pub entered_shape : KeepsEntered t now
  entered_shape = record {
    devices = λ g. ap (find (λ (device : DeviceRow). device.number == g)) shape.devices;
    drives = λ g. ap (child_of (GuestOf g) Drive) shape.edges;
    rows = λ node here. ap (find (λ (row : NodeRecord). row.id == node)) shape.nodes;
    children = λ node role here. ap (child_of (Node node) role) shape.edges;
  }

pub goes_shape : (w : WorldSeen) (now : RunTable) → HasTableShape w.table now → IsTableEased w.table now → BelongsTogether w → BelongsTogether (record w { table = now })
goes_shape w now shape e goes =
    let keeps = entered_shape w.table now shape in
    record {
      parts = record {
        joined = goes.parts.joined;
        alike = nodes_of_eased w.table now e w.nodes goes.parts.alike;
        apart = subst AreApartIn (sym shape.nodes) goes.parts.apart;
        out = out_eased w.table now e w.nodes w.opened goes.parts.out;
      };
      unfolds = goes.unfolds;
      tell = goes.tell;
      counted = goes.counted;
      drives = drives_kept w.table now keeps goes.drives;
      disks = disks_kept w.table now keeps goes.disks;
      asks = asks_eased w.table now e goes.asks;
      writable = writable_kept w.table now keeps goes.writable;
      within = within_kept w.table now keeps w.progress.guests goes.within;
      allowed = allowed_same w.table now w.progress.guests keeps.devices goes.allowed;
      count = goes.count ∙ ap length (sym shape.guests);
      alone = λ name a b over over'. goes.alone name a b (stood name a over) (stood name b over');
      drivers = λ name row over. goes.drivers name row (stood name row over);
    }
  where
    AreApartIn : List NodeRecord → Type 0
    AreApartIn rows = (row : NodeRecord) → Contains rows row → find (λ (r : NodeRecord). r.id == row.id) rows ≡ Some row

    stood : (name : List ℕ) (row : NodeRecord) → StandsFor now name row → StandsFor w.table name row
    stood name row is = record { there = subst (λ (rows : List NodeRecord). Contains rows row) shape.nodes is.there; filename = is.filename }
