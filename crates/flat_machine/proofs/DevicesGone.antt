-- A device that goes leaves what holds of tables, and what the writing of other guests rests on.
use Rattle.std.proofs.Common.{◌≡◌, ◌≢◌, ℕ, Bool, true, false, List, refl, sym, ap, subst, ◌∙◌, inl, Some}
use Rattle.std.specs.Prelude.{◌==◌, not}
use Rattle.std.specs.List.{find, Contains}
use Rattle.std.proofs.lemmas.Bool.{eqb-true, eqb-false, ne_eqb}
use Rattle.std.proofs.lemmas.List.Elements.{All-weaker}
use Rattle.blk_graph.specs.declared.edge.Edge.{Edge}
use Rattle.blk_graph.specs.declared.edge.Parent.TheVariants.{Node, Guest}
use Rattle.blk_graph.specs.declared.edge.Role.TheVariants.{Drive}
use Rattle.blk_graph.specs.declared.kind.NodeKind.{NodeKind}
use Rattle.blk_graph.specs.Edges.{same_parent}
use Rattle.blk_graph.specs.Edits.{child_of, without_parent}
use Rattle.blk_graph.specs.Refreshed.{refreshed}
use Rattle.blk_graph.proofs.Members.{find-Some, Contains-filter}
use Rattle.blk_graph.proofs.ChildLemmas.{child-without}
use Rattle.blk_graph.proofs.DraftLemmas.{acyclic_fewer}
use Rattle.blk_graph.proofs.RefreshLemmas.{child_of-refreshed}
use Rattle.qmp_rules.specs.declared.change.Change.TheVariants as change
use Rattle.qmp_rules.specs.declared.rows.DeviceRow.{DeviceRow}
use Rattle.qmp_rules.specs.Table.{RunTable, kinds_of}
use Rattle.qmp_rules.specs.Changes.{changed, without_device}
use Rattle.flat_machine.specs.State.{State, drive_of}
use Rattle.flat_machine.specs.Changed.{stepped}
use Rattle.flat_machine.specs.Wiring.{AreNumbered, HasDeviceNumber, TableStands}
use Rattle.flat_machine.specs.Standing.{IsUsedUp, WritingStands, Stands}
use Rattle.flat_machine.specs.Suiting.{IsThere}
use Rattle.flat_machine.proofs.Finds.{find-filter}
use Rattle.flat_machine.proofs.Tables.{filter-keeps, refreshed-old, refreshed-new}
use Rattle.flat_machine.proofs.Rows.{rows-same, stays-at}
use Rattle.flat_machine.proofs.Wired.{Grows, NoRow, NoEdge, no_rows, no_edges, grown_stands}
use Rattle.flat_machine.proofs.TablesKept.{derived_acyclic, goes_there, old_edge, rows_grow}
use Rattle.flat_machine.proofs.WritingKept.{grown_writing, left_still}
use Rattle.flat_machine.proofs.WritingAdded.{drive_there}

passes : (b : Bool) → not b ≡ true → b ≡ false
passes true e = absurd cc
passes false e = refl

-- ---- devices

-- a device that is left was there, with another number
pub device_left : (number other : ℕ) (devices : List DeviceRow) (device : DeviceRow)
    → find (λ d. d.number == other) (without_device number devices) ≡ Some device
    → (find (λ d. d.number == other) devices ≡ Some device) × (other ≢ number)
device_left number other devices device found =
    let here = find-Some (λ d. d.number == other) (without_device number devices) device found in
    let was = Contains-filter (λ d. not (d.number == number)) devices device here.0 in
    let is : device.number ≡ other = eqb-true device.number other here.1 in
    let differ : other ≢ number = λ same. eqb-false device.number number (passes (device.number == number) was.1) (is ∙ same) in
    (sym (find-filter (λ d. d.number == other) (λ d. not (d.number == number)) (keeps differ) devices) ∙ found, differ)
  where
    keeps : (other ≢ number) → (d : DeviceRow) → (d.number == other) ≡ true → not (d.number == number) ≡ true
    keeps differ d is = ap not (ne_eqb d.number number (λ same. differ (sym (eqb-true d.number other is) ∙ same)))

-- ---- tables

module _ (t now : RunTable) (number : ℕ) (nodes : now.nodes ≡ t.nodes) (kinds : List NodeKind)
    (derived : now.edges ≡ refreshed kinds (without_parent (Guest number) t.edges)) (h : TableStands t) where
  abbrev before : List Edge
  before = without_parent (Guest number) t.edges

  pub gone_grow : Grows t now (IsThere t) NoRow NoEdge
  gone_grow = record {
    rows = (rows_grow t same_rows (rows-same t same_rows nodes h.apart) refl h).rows;
    stays = stays-at t now (rows-same t now nodes h.apart);
    apart = (rows-same t now nodes h.apart).apart;
    others = λ row never here. never;
    one = λ a b never other. absurd never;
    edges = λ e there.
        let from = refreshed-old kinds before e (subst (λ es. Contains es e) derived there) in
        let old = Contains-filter (λ x. not (same_parent x.parent (Guest number))) t.edges from.edge from.there in
        inl (old_edge t h.edges from.edge e old.0 from.same);
    keeps = λ e other there is here.
        let apart : same_parent e.parent (Guest number) ≡ false = rw is refl in
        let kept = filter-keeps (λ x. not (same_parent x.parent (Guest number))) t.edges e (ap not apart) there in
        let to = refreshed-new kinds before e kept in
        record { edge = to.edge; there = subst (λ es. Contains es to.edge) (sym derived) to.there; same = to.same };
    children = λ other role here.
        ap (child_of (Node other) role) derived ∙ child_of-refreshed kinds (Node other) role before
        ∙ child-without (Guest number) (Node other) role t.edges (λ same. cc);
    goes = λ other below role here is. goes_there t h.edges other below role is;
  }
    where
      same_rows : RunTable
      same_rows = record now { edges = t.edges }

  pub gone_table : now.guests ≡ t.guests → now.devices ≡ without_device number t.devices → TableStands now
  gone_table guests devices =
      grown_stands t now (IsThere t) NoRow NoEdge gone_grow (no_rows t now) (no_edges t now) h numbers
      (derived_acyclic now kinds before derived (acyclic_fewer (λ x. not (same_parent x.parent (Guest number))) t.edges h.acyclic))
    where
      numbers : AreNumbered now
      numbers device there =
          let old = Contains-filter (λ d. not (d.number == number)) t.devices device (subst (λ ds. Contains ds device) devices there) in
          subst (λ gs. HasDeviceNumber gs device) (sym guests) (h.numbers device old.0)

  -- other guests keep their drives
  pub drive_left : (other : ℕ) → other ≢ number → drive_of now other ≡ drive_of t other
  drive_left other differ =
      ap (child_of (Guest other) Drive) derived ∙ child_of-refreshed kinds (Guest other) Drive before
      ∙ child-without (Guest number) (Guest other) Drive t.edges (λ same. differ (let is : number ≡ other = cc in sym is))

-- ---- states

pub gone_writing : (s : State) (number : ℕ) → Stands s → WritingStands (stepped s (change.RemoveDevice number))
unfolding changed
gone_writing s number h =
    grown_writing s now (IsThere s.table) NoRow NoEdge grow
    (record {
      names = λ name named. named;
      names_new = λ name r never. absurd never;
      known = λ name over under f is known. known;
      known_new = λ name over under f never. absurd never;
      bytes = λ other here some. some;
      bytes_new = λ r never. absurd never;
      left = All-weaker (IsUsedUp s) (IsUsedUp now) (λ l used. left_still s now (IsThere s.table) NoRow NoEdge grow l used.used
          (λ r never. absurd never) (λ e r never. absurd never) used) s.left h.writing.left;
      written = λ other name here entered of known. known;
      used = λ other name here entered of used. used;
      copies_new = λ r disk never. absurd never;
      emptied = λ other name here entered of none. none;
      devices = λ other device found.
          let was = device_left number other s.table.devices device found in
          inl (was.0, drive_left s.table now.table number refl (kinds_of s.table.nodes) refl h.table other was.1);
      drives = λ g drive is. drive_there s.table h.table.edges g drive is;
    })
    h.table h.writing
  where
    now : State
    now = stepped s (change.RemoveDevice number)

    grow : Grows s.table now.table (IsThere s.table) NoRow NoEdge
    grow = gone_grow s.table now.table number refl (kinds_of s.table.nodes) refl h.table
