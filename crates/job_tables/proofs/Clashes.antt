-- What a job would hold is held by no other one, and what it would read no other one holds for itself.
use Rattle.std.proofs.Common.{◌≡◌, ℕ, List, [], ◌∷◌, refl, sym, subst, inl, inr, Bool, true, false, cond, None}
use Rattle.std.specs.List.{Contains}
use Rattle.blk_graph.proofs.Members.{Contains-nil, Contains-cases}
use Rattle.qmp_rules.specs.declared.rows.JobRecord.{JobRecord}
use Rattle.qmp_rules.specs.Asks.{held_by, clash, first_clash}
use Rattle.qmp_rules.specs.Chains.{is_listed, holds_so, holder, keeper}
use Rattle.qmp_rules.specs.Table.{RunTable}
use Rattle.flat_machine.proofs.Asked.{none-both}
use Rattle.flat_machine.proofs.Fresh.{no-found}
use Rattle.job_tables.specs.Rows.{nodes_of_job}
use Rattle.job_tables.proofs.RowEdges.{Contains-listed, in_left}
use Rattle.job_tables.proofs.Nobodys.{holder_free, not_held}

module _ (t : RunTable) (held read : List ℕ) where
  clash_at : (ids : List ℕ) → first_clash t held read ids ≡ None → (id : ℕ) → Contains ids id → clash t held read id ≡ None
  clash_at [] none id there = absurd (Contains-nil id there)
  clash_at (x ∷ ids) none id there =
      let both = none-both (clash t held read x) (first_clash t held read ids) none in
      elim (Contains-cases x ids id there) [
        | inl same ↦ subst (λ n. clash t held read n ≡ None) (sym same) both.0
        | inr more ↦ clash_at ids both.1 id more
      ]

  -- where it is to be held, nobody has it
  by_holder : (id : ℕ) → clash t held read id ≡ None → is_listed id held ≡ true → holder t id ≡ None
  by_holder id none listed =
      not_held t id (holder t id)
      (subst (λ b. cond b (held_by t id (holder t id)) (cond (is_listed id read) (held_by t id (keeper t id)) None) ≡ None) listed none)

  module _ (ids : List ℕ) (none : first_clash t held read ids ≡ None) where
    pub held_free : (id : ℕ) → Contains ids id → Contains held id → (job : JobRecord) → Contains t.jobs job → Contains (nodes_of_job job) id → ⊥
    held_free id looked in_held = holder_free t id (by_holder id (clash_at ids none id looked) (Contains-listed id held in_held))

    pub read_free : (id : ℕ) → Contains ids id → Contains read id → (job : JobRecord) → Contains t.jobs job → Contains job.held id → ⊥
    read_free id looked in_read job here has = by_test (is_listed id held) refl (clash_at ids none id looked)
      where
        by_test : (b : Bool) → is_listed id held ≡ b → clash t held read id ≡ None → ⊥
        by_test true e quiet = holder_free t id (by_holder id quiet e) job here (in_left job.held job.read id has)
        by_test false e quiet =
            let kept : keeper t id ≡ None =
            not_held t id (keeper t id)
            (subst (λ b. cond b (held_by t id (keeper t id)) None ≡ None) (Contains-listed id read in_read)
            (subst (λ b. cond b (held_by t id (holder t id)) (cond (is_listed id read) (held_by t id (keeper t id)) None) ≡ None) e quiet)) in
            no-found (holds_so id) t.jobs job kept here (Contains-listed id job.held has)
