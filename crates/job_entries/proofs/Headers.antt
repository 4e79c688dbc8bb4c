-- What an end rests on holds where jobs run, and the header that gets another name is in a file that was named.
use Rattle.std.proofs.Common.{◌≡◌, ◌≢◌, ℕ, List, [], ◌∷◌, refl, sym, ◌∙◌, ap, subst, inl, inr, Option, Some, None}
use Rattle.std.specs.Prelude.{◌==◌, slice_get, IsSome}
use Rattle.std.specs.List.{Contains}
use Rattle.std.proofs.lemmas.Bool.{eqb-true}
use Rattle.std.proofs.lemmas.List.Elements.{All-weaker}
use Rattle.blk_graph.specs.declared.edge.Parent.TheVariants.{Node}
use Rattle.blk_graph.specs.declared.edge.Role.TheVariants.{File}
use Rattle.blk_graph.proofs.Members.{Contains-here, find-Some}
use Rattle.qmp_codec.specs.declared.event.JobKind.{JobKind}
use Rattle.qmp_codec.specs.declared.event.JobKind.TheVariants.{Stream, Commit, Mirror, Backup}
use Rattle.qmp_rules.specs.declared.rows.NodeRecord.{NodeRecord}
use Rattle.qmp_rules.specs.declared.rows.JobRecord.{JobRecord}
use Rattle.qmp_rules.specs.Chains.{filter_role}
use Rattle.qmp_rules.specs.Table.{node_by_id, child}
use Rattle.flat_machine.specs.State.{State, Left}
use Rattle.flat_machine.specs.Agreement.{HasDisk}
use Rattle.flat_machine.specs.Changed.{written_file}
use Rattle.flat_machine.specs.Performing.{CanRewrite}
use Rattle.flat_machine.specs.Standing.{IsUsedUp, Stands}
use Rattle.flat_machine.specs.Suiting.{IsPlainNode}
use Rattle.flat_machine.specs.Wiring.{LeadsToFile}
use Rattle.flat_machine.proofs.Wired.{with_at}
use Rattle.flat_machine.proofs.WritingKept.{role_edge, WritesFileUnder, writes_file}
use Rattle.job_tables.specs.Ends.{rebased_by}
use Rattle.job_tables.specs.Jobs.{JobsStand}
use Rattle.job_tables.specs.Rows.{nodes_of_job}
use Rattle.job_tables.specs.Running.{JobsRun}
use Rattle.job_tables.proofs.RowEdges.{in_left, in_right, holds_source}
use Rattle.job_entries.specs.Ends.{RestsToEnd, HeaderIsNamed}

-- of the file of a format node nothing is known, and no disk is left in it
header_can : (s : State) (d : NodeRecord) → Stands s → Contains s.table.nodes d → filter_role d.kind ≡ None → d.filename ≡ None → HeaderIsNamed s d.id
    → CanRewrite s d.id
header_can s d h here own none header = record {
  under = no_disk;
  known = λ name is. let w = under name is in h.writing.unknown name d w.0 w.1 w.2;
  left = λ name is.
      let w = under name is in
      All-weaker (IsUsedUp s) (λ (l : Left). l.file ≢ name)
      (λ l used same_file.
      used.is_open w.0 (record { there = w.1.under_there; filename = w.2 ∙ ap Some (sym same_file) })
      (record { edge = w.1.edge; there = w.1.there; over = w.1.role; child = w.1.child })) s.left h.writing.left;
  named = header.named;
}
  where
    leads : (file : NodeRecord) → Contains s.table.nodes file → child s.table d.id File ≡ Some file.id → LeadsToFile s.table d file
    leads file there is =
        let to = role_edge (Node d.id) File s.table.edges file.id is in
        record { over_there = here; under_there = there; edge = to.edge; there = to.there; parent = to.from; role = to.role_is; child = to.to }

    under : (name : List ℕ) → written_file s.table d.id ≡ Some name → (file : NodeRecord) × LeadsToFile s.table d file × (file.filename ≡ Some name)
    under name is = by_from (writes_file s.table d.id name is)
      where
        by_from : WritesFileUnder s.table d.id name → (file : NodeRecord) × LeadsToFile s.table d file × (file.filename ≡ Some name)
        by_from w = elim w.from [
          | inl same ↦
              let rows : Some d ≡ Some w.row = sym (h.table.apart d here) ∙ ap (node_by_id s.table) (sym same) ∙ h.table.apart w.row w.stands.there in
              let is_row : d ≡ w.row = cc rows in
              let bad : None ≡ Some name = sym none ∙ ap (λ (r : NodeRecord). r.filename) is_row ∙ w.stands.filename in
              absurd cc
          | inr below ↦ (w.row, leads w.row w.stands.there below.0, w.stands.filename)
        ]

    no_disk : (file : ℕ) (r : NodeRecord) → child s.table d.id File ≡ Some file → node_by_id s.table file ≡ Some r → HasDisk r → ⊥
    no_disk file r is found has =
        let at = find-Some (λ (x : NodeRecord). x.id == file) s.table.nodes r found in
        by_name (leads r at.0 (is ∙ ap Some (sym (eqb-true r.id file at.1)))) r.filename refl
      where
        by_name : LeadsToFile s.table d r → (name : Option (List ℕ)) → r.filename ≡ name → ⊥
        by_name f None k = let filter = h.table.filtered d r f k in let bad = subst IsSome own filter in cc
        by_name f (Some name) k =
            let gone = (h.table.taken d r f (subst IsSome (sym k) refl) own).gone in
            let kept = has.settled in
            cc

pub rests_by : (s : State) (row : JobRecord) → Stands s → JobsStand s.table → JobsRun s.table → Contains s.table.jobs row
    → ((node : ℕ) → rebased_by row row.kind ≡ Some node → HeaderIsNamed s node) → RestsToEnd s row
rests_by s row h j run here headers = record {
  source = λ copies.
      let p = plain row.source source_at in
      let at = find-Some (λ (r : NodeRecord). r.id == row.source) s.table.nodes p.row p.there in
      with_at HasDisk (node_by_id s.table row.source) p.row p.there
      (record { settled = run.sources row here p.row at.0 (eqb-true p.row.id row.source at.1); own = p.own });
  header = λ node is. by_node node (plain node (rebased_at row.kind node is)) (headers node is);
}
  where
    plain : (node : ℕ) → Contains (nodes_of_job row) node → IsPlainNode s.table node
    plain = (j.each row here).plain

    source_at : Contains (nodes_of_job row) row.source
    source_at = in_left row.held row.read row.source (holds_source s.table row (j.each row here))

    first : (ids : List ℕ) (id : ℕ) → slice_get ids 0 ≡ Some id → Contains ids id
    first [] id is = absurd cc
    first (x ∷ ids) id is =
        let same : x ≡ id = (let both : Some x ≡ Some id = is in cc both) in
        subst (Contains (x ∷ ids)) same (Contains-here x ids)

    rebased_at : (k : JobKind) (node : ℕ) → rebased_by row k ≡ Some node → Contains (nodes_of_job row) node
    rebased_at Stream node is =
        let same : row.source ≡ node = (let both : Some row.source ≡ Some node = is in cc both) in
        subst (Contains (nodes_of_job row)) same source_at
    rebased_at Commit node is = in_right row.held row.read node (first row.read node is)
    rebased_at Mirror node is = absurd cc
    rebased_at Backup node is = absurd cc

    by_node : (node : ℕ) → IsPlainNode s.table node → HeaderIsNamed s node → CanRewrite s node
    by_node node p header =
        let at = find-Some (λ (r : NodeRecord). r.id == node) s.table.nodes p.row p.there in
        let id : p.row.id ≡ node = eqb-true p.row.id node at.1 in
        subst (CanRewrite s) id (header_can s p.row h at.0 p.own (header.format p.row p.there) (subst (HeaderIsNamed s) (sym id) header))
