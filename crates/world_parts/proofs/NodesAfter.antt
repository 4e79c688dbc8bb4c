-- Devices and nodes behind calls: whose content and telling stay, and that the table speaks of the nodes as before.
use Rattle.std.proofs.Common.{◌≡◌, ◌≢◌, ◌⊎◌, ℕ, true, false, Bool, List, [], ◌∷◌, Option, Some, None, sym, ◌∙◌, ap, subst, inl, inr, ◌==◌, cond, eq-eqb}
use Rattle.std.specs.Prelude.{option_and_then, Contains, is_some, AllPairs}
use Rattle.std.proofs.lemmas.Bool.{cases_eq, ne_eqb}
use Rattle.qmp_rules.specs.Table.{RunTable, node_by_id}
use Rattle.qmp_rules.specs.declared.rows.NodeRecord.{NodeRecord}
use Rattle.blk_nodes.specs.Nodes.{Nodes, DeviceSeen, row_at, device_in, driver_kind}
use Rattle.blk_nodes.specs.Reading.{OnlyAt}
use Rattle.blk_nodes.specs.declared.row.Driver.{Driver}
use Rattle.blk_nodes.specs.declared.row.Driver.TheVariants as drivers
use Rattle.blk_nodes.specs.declared.row.Row.{Row}
use Rattle.world_parts.specs.Coherent.{AreNodesOf, IsRowOf, AreAlike, offset_by_driver}
use Rattle.world_parts.specs.Face.{held}
use Rattle.blk_graph.proofs.Members.{Contains-nil, Contains-cases}
use Rattle.world_parts.specs.Counting.{AreSameDevices, IsSameDevice}
use Rattle.blk_graph.specs.Graph.{Graph}
use Rattle.blk_nodes.specs.Writing.{IsDriverAfter, AreRowsAfter}
use Rattle.blk_pieces.proofs.Rows.{RowsAfter, rows_kept}
use Rattle.blk_graph.proofs.RoleLemmas.{tail_pairs, head_pairs}
use Rattle.blk_nodes.specs.Joined.{DifferInNode}

-- ---- bytes of devices

abbrev pub device_content_in : List DeviceSeen → ℕ → Option (List ℕ)
device_content_in devices node = option_and_then (λ device. device.content) (device_in devices node)

pub only_content : (file : ℕ) (old new : List DeviceSeen) → OnlyAt file old new → (n : ℕ) → n ≢ file → device_content_in new n ≡ device_content_in old n
only_content file old new only n apart = ap (option_and_then (λ (d : DeviceSeen). d.content)) (only.others n apart)

-- ---- the device of a node afterwards

pub same_in : (old new : List DeviceSeen) (n : ℕ) (a b : DeviceSeen) → AreSameDevices old new → device_in old n ≡ Some a → device_in new n ≡ Some b → IsSameDevice a b
same_in [] new n a b same held left = absurd (let bad : ⊥ = cc held in bad)
same_in (x ∷ old) [] n a b same held left = absurd same
same_in (x ∷ old) (y ∷ new) n a b same held left =
    by_test (x.node == n) held (subst (λ (m : ℕ). cond (m == n) (Some y) (device_in new n) ≡ Some b) same.0.node left) (same_in old new n a b same.1)
  where
    by_test : (t : Bool) → cond t (Some x) (device_in old n) ≡ Some a → cond t (Some y) (device_in new n) ≡ Some b
        → (device_in old n ≡ Some a → device_in new n ≡ Some b → IsSameDevice a b) → IsSameDevice a b
    by_test true held left rest =
        let first : x ≡ a = cc held in
        let second : y ≡ b = cc left in
        subst (λ (d : DeviceSeen). IsSameDevice d b) first (subst (IsSameDevice x) second same.0)
    by_test false held left rest = rest held left

-- ---- nodes after it

pub record AreNodesAfter (old new : Nodes) : Type 0 where
  pub graph : new.graph ≡ old.graph
  pub rows : (n : ℕ) → AreRowsAfter (row_at old n) (row_at new n)
  pub devices : AreSameDevices old.devices new.devices

pub of_rows : (old new : Nodes) → RowsAfter old new → AreSameDevices old.devices new.devices → AreNodesAfter old new
of_rows old new rows devices = record { graph = rows.graph; rows = rows.rows; devices = devices }

pub after_devices : (old new : Nodes) → new ≡ record old { devices = new.devices } → AreSameDevices old.devices new.devices → AreNodesAfter old new
after_devices old new kept devices = of_rows old new (rows_kept old new kept) devices

-- ---- the table speaks of them as before

driver_after : (d e : Driver) → IsDriverAfter d e → (driver_kind e ≡ driver_kind d) × (offset_by_driver e ≡ offset_by_driver d)
driver_after drivers.File e is = (ap driver_kind is, ap offset_by_driver is)
driver_after (drivers.Raw part) e is = (ap driver_kind is, ap offset_by_driver is)
driver_after (drivers.Qcow2 image) e is = (ap driver_kind is.1, ap offset_by_driver is.1)
driver_after drivers.CopyOnRead e is = (ap driver_kind is, ap offset_by_driver is)
driver_after (drivers.Filter kind) e is = (ap driver_kind is, ap offset_by_driver is)

alike_row : (record' : Option NodeRecord) (old new : Option Row) → AreRowsAfter old new → AreAlike record' old → AreAlike record' new
alike_row record' None new is alike = subst (AreAlike record') (sym is) alike
alike_row None (Some old) new is alike = absurd alike
alike_row (Some row) (Some old) new is alike =
    let driver = driver_after old.driver is.0.driver is.2.driver in
    let now : IsRowOf row is.0 = record {
      kind = alike.kind ∙ sym driver.0;
      size = alike.size ∙ sym is.2.size;
      access = alike.access ∙ sym is.2.is_read_only;
      place = alike.place ∙ sym driver.1;
      small = alike.small;
    } in
    subst (AreAlike (Some row)) (sym is.1) now

pub alike_after : (t : RunTable) (old new : Nodes) → AreNodesAfter old new → AreNodesOf t old → AreNodesOf t new
alike_after t old new after are = record {
  listed = ap (λ (g : Graph). g.nodes) after.graph ∙ are.listed;
  edges = ap (λ (g : Graph). g.edges) after.graph ∙ are.edges;
  rows = λ id. alike_row (node_by_id t id) (row_at old id) (row_at new id) (after.rows id) (are.rows id);
}

-- a device stands at its node
pub noded : (devices : List DeviceSeen) (x : DeviceSeen) → AllPairs DifferInNode devices → Contains devices x → device_in devices x.node ≡ Some x
noded [] x once there = absurd (Contains-nil x there)
noded (d ∷ devices) x once there = elim (Contains-cases d devices x there) [
  | inl here ↦ let at : (d.node == x.node) ≡ true = eq-eqb d.node x.node (ap (λ (y : DeviceSeen). y.node) (sym here)) in rw at (ap Some (sym here))
  | inr later ↦
      let past : (d.node == x.node) ≡ false = ne_eqb d.node x.node (head_pairs DifferInNode d devices once x later) in
      rw past (noded devices x (tail_pairs DifferInNode d devices once) later)
]

-- whether a node's device tells its bytes
abbrev pub is_told : List DeviceSeen → ℕ → Bool
is_told devices n = is_some (device_content_in devices n)

pub only_told : (file : ℕ) (old new : List DeviceSeen) (before after : DeviceSeen) → OnlyAt file old new → device_in old file ≡ Some before → device_in new file ≡ Some after
    → is_some after.content ≡ is_some before.content → (n : ℕ) → is_told new n ≡ is_told old n
only_told file old new before after only held left same n = by_node (cases_eq n file)
  where
    by_node : (n ≡ file) ⊎ (n ≢ file) → is_told new n ≡ is_told old n
    by_node (inl equal) =
        ap (is_told new) equal ∙ ap (λ (d : Option DeviceSeen). is_some (option_and_then (λ (x : DeviceSeen). x.content) d)) left ∙ same
        ∙ sym (ap (is_told old) equal ∙ ap (λ (d : Option DeviceSeen). is_some (option_and_then (λ (x : DeviceSeen). x.content) d)) held)
    by_node (inr apart) = ap is_some (only_content file old new only n apart)
