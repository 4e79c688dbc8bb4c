-- The target and source of a running backup or mirror: nothing else leads to the target, and no other job's target is it or under it.
use Rattle.std.proofs.Common.{◌≡◌, ◌≢◌, ℕ, true, List, Option, Some, None, refl, sym, ◌∙◌, ap, subst}
use Rattle.std.specs.Prelude.{Contains, IsSome, ◌==◌}
use Rattle.std.proofs.lemmas.Bool.{eqb-true, false≢true}
use Rattle.blk_graph.specs.declared.edge.Parent.TheVariants.{Node}
use Rattle.blk_graph.specs.declared.edge.Role.TheVariants.{File, Filtered}
use Rattle.blk_graph.specs.declared.kind.Kind.{Kind}
use Rattle.blk_graph.specs.declared.kind.Kind.TheVariants as kinds
use Rattle.blk_graph.proofs.Members.{find-Some}
use Rattle.block_jobs.specs.Work.{JobWork}
use Rattle.blk_nodes.specs.Nodes.{Nodes}
use Rattle.blk_nodes.specs.Writing.{IsApartFrom}
use Rattle.qmp_codec.specs.declared.event.JobKind.{JobKind}
use Rattle.qmp_codec.specs.declared.event.JobKind.TheVariants.{Backup, Commit, Mirror, Stream}
use Rattle.qmp_rules.specs.Chains.{disk_node, filter_role}
use Rattle.qmp_rules.specs.Table.{RunTable, child}
use Rattle.qmp_rules.specs.declared.rows.JobRecord.{JobRecord}
use Rattle.qmp_rules.specs.declared.rows.NodeRecord.{NodeRecord}
use Rattle.flat_machine.specs.Agreement.{HasDisk}
use Rattle.flat_machine.specs.Changed.{written_file}
use Rattle.flat_machine.specs.Suiting.{IsPlainNode}
use Rattle.flat_machine.specs.Wiring.{LeadsToFile, TableStands}
use Rattle.flat_machine.proofs.Kept.{own_disk}
use Rattle.flat_machine.proofs.WritingKept.{role_edge}
use Rattle.job_ends.proofs.Ends.{copied_is}
use Rattle.job_progress.specs.Going.{copies_blocks}
use Rattle.job_tables.specs.Copiers.{CopyGoes}
use Rattle.job_tables.specs.Jobs.{CopyStands, StandsByKind}
use Rattle.job_tables.proofs.RowEdges.{copy_holds, holds_source, in_left}
use Rattle.world_parts.specs.Coherent.{AreJobsKept, AreNodesOf}
use Rattle.world_parts.specs.Face.{node_over}
use Rattle.world_goings.specs.Copied.{IsElsewhere}
use Rattle.world_goings.proofs.TargetApart.{elsewhere, target_apart}

module _ (t : RunTable) (works : List JobWork) (aside : ℕ) (jobs : AreJobsKept t works aside) (stands : TableStands t) where
  -- each job is a backup or mirror, with a filter of its kind
  pub record HasCopy (row : JobRecord) : Type 0 where
    pub kind : Kind
    pub role : filter_role kind ≡ Some Filtered
    pub copy : CopyStands t row kind

  pub copy_stands : (row : JobRecord) → Contains t.jobs row → HasCopy row
  copy_stands row here = by_kind row.kind (jobs.lone row here).kind (jobs.stand.each row here).shape
    where
      by_kind : (k : JobKind) → copies_blocks k ≡ true → StandsByKind t row k → HasCopy row
      by_kind Backup copies stands = record { kind = kinds.BeforeWrite; role = refl; copy = stands }
      by_kind Mirror copies stands = record { kind = kinds.Mirror; role = refl; copy = stands }
      by_kind Stream copies stands = absurd (false≢true copies)
      by_kind Commit copies stands = absurd (false≢true copies)

  pub target_held : (row : JobRecord) (target : ℕ) → Contains t.jobs row → row.target ≡ Some target → Contains row.held target
  target_held row target here is =
      let h = copy_stands row here in
      let both : Some h.copy.target ≡ Some target = sym h.copy.is_target ∙ is in
      let same : h.copy.target ≡ target = cc both in
      subst (Contains row.held) same (copy_holds t row h.kind h.copy)

  pub target_plain : (row : JobRecord) (target : ℕ) → Contains t.jobs row → row.target ≡ Some target → IsPlainNode t target
  target_plain row target here is = (jobs.stand.each row here).plain target (in_left row.held row.read target (target_held row target here is))

  pub source_plain : (row : JobRecord) → Contains t.jobs row → IsPlainNode t row.source
  source_plain row here = (jobs.stand.each row here).plain row.source (in_left row.held row.read row.source (holds_source t row (jobs.stand.each row here)))

  -- its source has a flat disk, and is no filter
  pub source_disk : (row : JobRecord) (here : Contains t.jobs row) → HasDisk (source_plain row here).row
  source_disk row here =
      let p = source_plain row here in
      let at = find-Some (λ (r : NodeRecord). r.id == row.source) t.nodes p.row p.there in
      record { settled = jobs.run.sources row here p.row at.0 (eqb-true p.row.id row.source at.1); own = p.own }

  pub source_itself : (row : JobRecord) → Contains t.jobs row → disk_node t row.source ≡ row.source
  source_itself row here = let p = source_plain row here in own_disk t row.source p.row p.there p.own

  module _ (row : JobRecord) (target : ℕ) (here : Contains t.jobs row) (is : row.target ≡ Some target) where
    pub goes : CopyGoes t row target
    goes = jobs.copies row target here (copied_is row (jobs.lone row here).kind ∙ is)

    -- no plain node is the file under the target
    not_below : (n : ℕ) → IsPlainNode t n → child t target File ≡ Some n → ⊥
    not_below n p under =
        let q = target_plain row target here is in
        let over = find-Some (λ (r : NodeRecord). r.id == target) t.nodes q.row q.there in
        let below = find-Some (λ (r : NodeRecord). r.id == n) t.nodes p.row p.there in
        let edge = role_edge (Node target) File t.edges n under in
        let leads : LeadsToFile t q.row p.row = record {
          over_there = over.0;
          under_there = below.0;
          edge = edge.edge;
          there = edge.there;
          parent = edge.from ∙ ap Node (sym (eqb-true q.row.id target over.1));
          role = edge.role_is;
          child = edge.to ∙ sym (eqb-true p.row.id n below.1);
        } in
        by_name q.row q.own leads p.row.filename refl
      where
        by_name : (over : NodeRecord) → filter_role over.kind ≡ None → LeadsToFile t over p.row → (name : Option (List ℕ)) → p.row.filename ≡ name → ⊥
        by_name over own leads None named = let filter = stands.filtered over p.row leads named in let bad = subst IsSome own filter in let no : ⊥ = cc bad in no
        by_name over own leads (Some name) named = p.free p.row over p.there (subst IsSome (sym named) refl) leads own

    module _ (nodes : Nodes) (are : AreNodesOf t nodes) where
      -- what is neither the target nor under it is apart from it
      pub apart_from : (n : ℕ) → n ≢ target → (child t target File ≡ Some n → ⊥) → IsApartFrom nodes n target
      apart_from = target_apart t nodes are stands row.slot target (target_plain row target here is) goes.alone

      pub file_elsewhere : (name : List ℕ) (n : ℕ) → node_over t name ≡ Some n → (written_file t target ≡ Some name → ⊥) → IsElsewhere nodes target n
      file_elsewhere = elsewhere t nodes are stands row.slot target (target_plain row target here is) goes.alone

      pub source_apart : IsApartFrom nodes row.source target
      source_apart =
          let c = (copy_stands row here).copy in
          let both : Some c.target ≡ Some target = sym c.is_target ∙ is in
          let own : c.target ≡ target = cc both in
          apart_from row.source (λ same. c.other (own ∙ sym same)) (not_below row.source (source_plain row here))

      pub others_apart : (other : JobRecord) (node : ℕ) → Contains t.jobs other → other.number ≢ row.number → other.target ≡ Some node → IsApartFrom nodes node target
      others_apart other node there differ its =
          apart_from node
          (λ same.
          let held = in_left other.held other.read target (target_held other target there (its ∙ ap Some same)) in
          let slots = jobs.stand.apart row other target here there (target_held row target here is) held in
          let one = jobs.stand.slots row other here there slots in
          differ (ap (λ (r : JobRecord). r.number) (sym one)))
          (not_below node (target_plain other node there its))
