-- A table of which nodes, edges, devices and guests stay: the parts of a world belong to it as they did.
use Rattle.std.proofs.Common.{◌≡◌, ℕ, List, map, length, refl, sym, ◌∙◌, ap, subst, Option}
use Rattle.blk_base.specs.declared.file.Opened.{Opened}
use Rattle.blk_nodes.specs.Nodes.{Nodes, row_at}
use Rattle.qmp_rules.specs.declared.rows.NodeRecord.{NodeRecord}
use Rattle.qmp_rules.specs.Table.{RunTable, node_by_id}
use Rattle.flat_machine.specs.State.{filename_of}
use Rattle.flat_machine.specs.Wiring.{TableAtRest}
use Rattle.world_parts.specs.Coherent.{IsCoherent, AreAlike, node_row}
use Rattle.world_parts.specs.Guests.{GuestsStand}
use Rattle.world_parts.specs.Progress.{Progress}
use Rattle.world_parts.proofs.GuestsKept.{guests_same, guests_stand}

pub record KeepsWiring (t u : RunTable) : Type 0 where
  pub nodes : u.nodes ≡ t.nodes
  pub edges : u.edges ≡ t.edges
  pub devices : u.devices ≡ t.devices
  pub guests : u.guests ≡ t.guests

module _ (t u : RunTable) (shape : KeepsWiring t u) where
  same-node : (id : ℕ) → node_by_id u id ≡ node_by_id t id
  same-node id = rw shape.nodes refl

  same-filename : (node : ℕ) → filename_of u node ≡ filename_of t node
  same-filename node = rw shape.nodes refl

  pub coherent-shape : (nodes : Nodes) (opened : List Opened) (p : Progress) → (TableAtRest t → TableAtRest u) → IsCoherent t nodes opened p → IsCoherent u nodes opened p
  coherent-shape nodes opened p rests was = record {
    table = rests was.table;
    drives = stand.drives;
    disks = stand.disks;
    alike = record {
      listed = was.alike.listed ∙ ap (map node_row) (sym shape.nodes);
      edges = was.alike.edges ∙ sym shape.edges;
      rows = λ id. subst (λ (row : Option NodeRecord). AreAlike row (row_at nodes id)) (sym (same-node id)) (was.alike.rows id);
    };
    asks = stand.asks;
    writable = stand.writable;
    within = stand.within;
    allowed = stand.allowed;
    count = was.count ∙ ap length (sym shape.guests);
    out = record {
      each = λ device held.
          let is = was.out.each device held in
          record { opening = is.opening; there = is.there; out = is.out; named = same-filename device.node ∙ is.named; capacity = is.capacity; faults = is.faults };
      once = was.out.once;
      order = was.out.order;
      all = was.out.all;
      names = was.out.names;
    };
  }
    where
      stand : GuestsStand u p.guests
      stand = guests_same t u p.guests shape.nodes shape.edges shape.devices (guests_stand t nodes opened p was)
