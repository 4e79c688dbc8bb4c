-- What holds of the table's files behind the end of a backup or mirror: the same nodes are over them, and devices are out as they were.
use Rattle.std.proofs.Common.{◌≡◌, ◌≢◌, ℕ, List, Option, Some, None, refl, sym, ◌∙◌, ap, subst, inl, inr}
use Rattle.std.specs.Prelude.{◌==◌, option_and_then, option_map}
use Rattle.std.proofs.lemmas.Bool.{cases_eq}
use Rattle.blk_base.specs.declared.file.Opened.{Opened}
use Rattle.blk_graph.specs.declared.edge.Role.TheVariants.{Filtered}
use Rattle.blk_graph.proofs.Members.{find-Some}
use Rattle.blk_nodes.specs.Nodes.{DeviceSeen, Nodes}
use Rattle.qmp_rules.specs.Chains.{filter_role}
use Rattle.qmp_rules.specs.Table.{RunTable, node_by_id}
use Rattle.qmp_rules.specs.declared.rows.NodeRecord.{NodeRecord}
use Rattle.flat_machine.specs.State.{filename_of}
use Rattle.flat_machine.specs.Wiring.{TableStands}
use Rattle.world_parts.specs.Coherent.{AreOut}
use Rattle.world_parts.specs.Face.{node_over}
use Rattle.world_parts.proofs.OverFiles.{over as over_file, over-row}
use Rattle.world_goings.proofs.EndTables.{IsEndedTable, IsOverNode, row_of}

module _ (t u : RunTable) (filter source to : ℕ) (p : IsEndedTable t u filter source to) (h : TableStands t) (stands : TableStands u)
    (f : IsOverNode t filter source) where
  named_same : (n : ℕ) → n ≢ filter → filename_of u n ≡ filename_of t n
  named_same n apart = ap (option_and_then (λ (r : NodeRecord). r.filename)) (p.found n apart) ∙ by_row (node_by_id t n)
    where
      by_row : (x : Option NodeRecord) → option_and_then (λ (r : NodeRecord). r.filename) (option_map p.f x) ≡ option_and_then (λ (r : NodeRecord). r.filename) x
      by_row None = refl
      by_row (Some r) = row_of p.f p.only (λ (x : NodeRecord). x.filename) (λ x. refl) r

  -- a filter has no file
  filename_then : (n : ℕ) (name : List ℕ) → filename_of t n ≡ Some name → filename_of u n ≡ Some name
  filename_then n name is = named_same n apart ∙ is
    where
      apart : n ≢ filter
      apart same =
          let own : f.node.filename ≡ Some name = sym (ap (option_and_then (λ (r : NodeRecord). r.filename)) (ap (node_by_id t) same ∙ f.there)) ∙ is in
          let kind = h.drivers name f.node (record { there = (find-Some (λ (r : NodeRecord). r.id == filter) t.nodes f.node f.there).0; filename = own }) in
          let bad : None ≡ Some Filtered = sym (ap filter_role kind) ∙ f.role in
          let no : ⊥ = cc bad in no

  filename_before : (n : ℕ) (name : List ℕ) → filename_of u n ≡ Some name → filename_of t n ≡ Some name
  filename_before n name is = elim (cases_eq n filter) [
    | inl same ↦
        absurd
        (let bad : None ≡ Some name = sym (ap (option_and_then (λ (r : NodeRecord). r.filename)) (ap (node_by_id u) same ∙ p.gone)) ∙ is in
        let no : ⊥ = cc bad in no)
    | inr apart ↦ sym (named_same n apart) ∙ is
  ]

  -- the same nodes are over files
  pub end_over : (name : List ℕ) → node_over u name ≡ node_over t name
  end_over name = by_found (node_over t name) (node_over u name) refl refl
    where
      by_found : (a b : Option ℕ) → node_over t name ≡ a → node_over u name ≡ b → node_over u name ≡ node_over t name
      by_found (Some n) b was is = over_file u stands.alone name n (filename_then n name (over-row t name n h.apart was)) ∙ sym was
      by_found None (Some n) was is =
          absurd
          (let bad : None ≡ Some n = sym was ∙ over_file t h.alone name n (filename_before n name (over-row u name n stands.apart is)) in
          let no : ⊥ = cc bad in no)
      by_found None None was is = is ∙ sym was

  pub end_out : (nodes next : Nodes) (opened : List Opened) → next.devices ≡ nodes.devices → AreOut t nodes opened → AreOut u next opened
  end_out nodes next opened same out = subst (λ (devices : List DeviceSeen). AreOut u (record next { devices = devices }) opened) (sym same) (record {
    each = λ device there.
        let is = out.each device there in
        record {
          opening = is.opening;
          there = is.there;
          out = is.out;
          named = filename_then device.node is.opening.name is.named;
          capacity = is.capacity;
          faults = is.faults;
        };
    once = out.once;
    order = out.order;
    all = out.all;
    names = out.names;
  })
