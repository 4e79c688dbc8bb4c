-- Tables in which rows may have lost their flat disks, and nothing else that nodes, devices and guests are asked of has changed.
use Rattle.std.proofs.Common.{◌≡◌, ◌⊎◌, ℕ, ◌==◌, List, [], ◌∷◌, map, Option, Some, None, refl, sym, ◌∙◌, ap, subst, inl, inr}
use Rattle.std.specs.Prelude.{find, option_map, option_and_then}
use Rattle.blk_base.specs.declared.file.Opened.{Opened}
use Rattle.blk_graph.specs.Graph.{NodeRow}
use Rattle.qmp_rules.specs.Changes.{changed, unsettled}
use Rattle.qmp_rules.specs.Table.{RunTable, node_by_id}
use Rattle.qmp_rules.specs.declared.change.Change.TheVariants.{UseFile}
use Rattle.qmp_rules.specs.declared.rows.NodeRecord.{NodeRecord}
use Rattle.flat_machine.specs.State.{filename_of}
use Rattle.flat_machine.proofs.Finds.{find-map}
use Rattle.blk_nodes.specs.Nodes.{Nodes, row_at}
use Rattle.blk_nodes.specs.declared.row.Row.{Row}
use Rattle.world_parts.specs.Coherent.{AreAlike, AreNodesOf, IsRowOf, IsOfFileLength, AreOut, node_row}

-- a row is as it was, or has lost its flat disk
abbrev pub OnlyUnsettles : (NodeRecord → NodeRecord) → Type 0
OnlyUnsettles f = (row : NodeRecord) → (f row ≡ row) ⊎ (f row ≡ unsettled row)

pub record IsTableEased (t now : RunTable) : Type 0 where
  pub f : NodeRecord → NodeRecord
  pub only : OnlyUnsettles f
  pub rows : now.nodes ≡ map f t.nodes
  pub edges : now.edges ≡ t.edges
  pub devices : now.devices ≡ t.devices
  pub guests : now.guests ≡ t.guests
  pub jobs : now.jobs ≡ t.jobs

module _ (t now : RunTable) (e : IsTableEased t now) where
  -- what doesn't speak of flat disks is the same of both rows
  same_of : {A : Type 0} (g : NodeRecord → A) → ((row : NodeRecord) → g (unsettled row) ≡ g row) → (row : NodeRecord) → g (e.f row) ≡ g row
  same_of g blind row = elim (e.only row) [ inl same ↦ ap g same | inr lost ↦ ap g lost ∙ blind row ]

  id_same : (row : NodeRecord) → (e.f row).id ≡ row.id
  id_same = same_of (λ row. row.id) (λ row. refl)

  pub eased_at : (id : ℕ) → node_by_id now id ≡ option_map e.f (node_by_id t id)
  eased_at id =
      ap (find (λ (row : NodeRecord). row.id == id)) e.rows
      ∙ find-map (λ (row : NodeRecord). row.id == id) e.f (λ row. ap (λ (n : ℕ). n == id) (id_same row)) t.nodes

  pub filename_eased : (id : ℕ) → filename_of now id ≡ filename_of t id
  filename_eased id =
      ap (λ (row : Option NodeRecord). option_and_then (λ (r : NodeRecord). r.filename) row) (eased_at id)
      ∙ by_row (node_by_id t id)
    where
      by_row : (row : Option NodeRecord) → option_and_then (λ (r : NodeRecord). r.filename) (option_map e.f row) ≡ option_and_then (λ (r : NodeRecord). r.filename) row
      by_row None = refl
      by_row (Some row) = same_of (λ r. r.filename) (λ r. refl) row

  row_of : (row : NodeRecord) (own : Row) → IsRowOf row own → IsRowOf (e.f row) own
  row_of row own is = record {
    kind = same_of (λ r. r.kind) (λ r. refl) row ∙ is.kind;
    size = same_of (λ r. r.size) (λ r. refl) row ∙ is.size;
    access = same_of (λ r. r.read_only) (λ r. refl) row ∙ is.access;
    place = same_of (λ r. r.offset) (λ r. refl) row ∙ is.place;
    small = elim (e.only row) [
      | inl same ↦ subst (λ (r : NodeRecord). IsOfFileLength r.kind r.size) (sym same) is.small
      | inr lost ↦ subst (λ (r : NodeRecord). IsOfFileLength r.kind r.size) (sym lost) is.small
    ];
  }

  alike_eased : (row : Option NodeRecord) (own : Option Row) → AreAlike row own → AreAlike (option_map e.f row) own
  alike_eased None None is = tt
  alike_eased (Some row) (Some own) is = row_of row own is
  alike_eased None (Some own) is = absurd is
  alike_eased (Some row) None is = absurd is

  listed_eased : (rows : List NodeRecord) → map node_row (map e.f rows) ≡ map node_row rows
  listed_eased [] = refl
  listed_eased (row ∷ rows) =
      ap (λ (r : NodeRow). r ∷ map node_row (map e.f rows)) (same_of node_row (λ r. refl) row) ∙ ap (λ (rs : List NodeRow). node_row row ∷ rs) (listed_eased rows)

  pub nodes_of_eased : (nodes : Nodes) → AreNodesOf t nodes → AreNodesOf now nodes
  nodes_of_eased nodes is = record {
    listed = is.listed ∙ sym (listed_eased t.nodes) ∙ ap (map node_row) (sym e.rows);
    edges = is.edges ∙ sym e.edges;
    rows = λ id. subst (λ (row : Option NodeRecord). AreAlike row (row_at nodes id)) (sym (eased_at id)) (alike_eased (node_by_id t id) (row_at nodes id) (is.rows id));
  }

  pub out_eased : (nodes : Nodes) (opened : List Opened) → AreOut t nodes opened → AreOut now nodes opened
  out_eased nodes opened out = record {
    each = λ device there.
        let is = out.each device there in
        record {
          opening = is.opening;
          there = is.there;
          out = is.out;
          named = filename_eased device.node ∙ is.named;
          capacity = is.capacity;
          faults = is.faults;
        };
    once = out.once;
    order = out.order;
    all = out.all;
    names = out.names;
  }

-- ---- the changes that do no more

map-same : (rows : List NodeRecord) → rows ≡ map (λ row. row) rows
map-same [] = refl
map-same (row ∷ rows) = ap (λ (rs : List NodeRecord). row ∷ rs) (map-same rows)

module _ (t : RunTable) where
  pub kept_rows : (now : RunTable) → now.nodes ≡ t.nodes → now.edges ≡ t.edges → now.devices ≡ t.devices → now.guests ≡ t.guests → now.jobs ≡ t.jobs → IsTableEased t now
  kept_rows now nodes edges devices guests jobs = record {
    f = λ row. row;
    only = λ row. inl refl;
    rows = nodes ∙ map-same t.nodes;
    edges = edges;
    devices = devices;
    guests = guests;
    jobs = jobs;
  }

  pub eased_use : (name : List ℕ) → IsTableEased t (changed t (UseFile name))
  unfolding changed
  eased_use name = kept_rows (changed t (UseFile name)) refl refl refl refl refl
