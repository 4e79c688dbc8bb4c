-- The end of a stream or commit has what it needs while jobs run.
use Rattle.std.proofs.Common.{◌≡◌, ℕ, refl, sym, ◌∙◌, ap, subst, Some, None}
use Rattle.std.specs.Prelude.{◌==◌}
use Rattle.std.specs.List.{Contains}
use Rattle.std.proofs.lemmas.Bool.{eqb-true}
use Rattle.blk_graph.proofs.Members.{find-Some}
use Rattle.qmp_codec.specs.declared.event.JobKind.{JobKind}
use Rattle.qmp_codec.specs.declared.event.JobKind.TheVariants.{Stream, Commit, Mirror, Backup}
use Rattle.qmp_rules.specs.declared.rows.NodeRecord.{NodeRecord}
use Rattle.qmp_rules.specs.declared.rows.JobRecord.{JobRecord}
use Rattle.flat_machine.specs.State.{State}
use Rattle.flat_machine.specs.Jobs.{target_written}
use Rattle.flat_machine.specs.Standing.{Stands}
use Rattle.flat_machine.specs.Suiting.{HaveOneSize, NoneLeftIn}
use Rattle.job_tables.specs.Ends.{EndSuits, TargetSuits, rebased_by}
use Rattle.job_tables.specs.Jobs.{JobsStand, StandsByKind}
use Rattle.job_tables.specs.Running.{JobsRun}
use Rattle.job_tables.specs.TargetFiles.{IsCopier, TargetFilesStand}
use Rattle.job_tables.proofs.Runs.{written_by}
use Rattle.job_chains.specs.Lent.{BackedAreUnleft, BasesAreLent}
use Rattle.job_chains.proofs.LentLeftEvents.{linked_unleft}
use Rattle.job_chains.proofs.LentLeftKept.{settled_unleft}

module _ (s : State) (row : JobRecord) (h : Stands s) (j : JobsStand s.table) (run : JobsRun s.table) (files : TargetFilesStand s) (lent : BasesAreLent s.table)
    (g : BackedAreUnleft s) (here : Contains s.table.jobs row) (chain : IsCopier row.kind → ⊥) where
  -- a base has a node over it
  base_unleft : (target : ℕ) → target_written row ≡ Some target → NoneLeftIn s target
  base_unleft target is = by_kind row.kind refl (j.each row here).shape
    where
      by_kind : (k : JobKind) → row.kind ≡ k → StandsByKind s.table row k → NoneLeftIn s target
      by_kind Stream k x = absurd (let bad : None ≡ Some target = sym (written_by row Stream k) ∙ is in cc bad)
      by_kind Commit k x =
          let both : Some x.base ≡ Some target = sym x.is_base ∙ sym (written_by row Commit k) ∙ is in
          let same : x.base ≡ target = cc both in
          subst (NoneLeftIn s) same (linked_unleft s g row.source x.between x.base x.linked)
      by_kind Mirror k x = absurd (chain (subst IsCopier (sym k) tt))
      by_kind Backup k x = absurd (chain (subst IsCopier (sym k) tt))

  module _ (sizes : (target : ℕ) → target_written row ≡ Some target → HaveOneSize s.table row.source target)
      (rebased : (node base : ℕ) → rebased_by row row.kind ≡ Some node → row.target ≡ Some base → HaveOneSize s.table node base) where
    base_suits : (target : ℕ) → target_written row ≡ Some target → TargetSuits s row target
    base_suits target is =
        let w = run.targets row target here is in
        record {
          sizes = sizes target is;
          writable = λ node found.
              let at = find-Some (λ (r : NodeRecord). r.id == target) s.table.nodes node found in
              w.writable node at.0 (eqb-true node.id target at.1);
          used = λ name node of id. record {
            state = w.used node of.there id name of.filename;
            content = files.unknown row name here (record { node = node; there = of.there; target = is ∙ ap Some (sym id); filename = of.filename });
          };
          left = base_unleft target is;
        }

    pub chain_suits : EndSuits s row
    chain_suits = record {
      source = settled_unleft s h row.source (run.sources row here);
      target = base_suits;
      rebased = rebased;
      lent = lent row here;
    }
