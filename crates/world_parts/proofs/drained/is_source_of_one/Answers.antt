use Rattle.std.proofs.Common.{ℕ, [], ◌∷◌, sym, ◌∙◌, rules}
use Rattle.std.specs.List.{list_any}
use Rattle.std.proofs.lemmas.Iterator.{YieldsList-from_slice}
use Rattle.std.proofs.lemmas.Iterator.Search.{any_from_yields_List}
use Rattle.qmp_rules.specs.Table.{RunTable}
use Rattle.flat_machine.specs.Marks.{is_on, job_disks}
use Rattle.world_parts.proofs.DrainedDisks.{source_by_source}
use Rattle.world_parts.proofs.drained.is_source_of_one.Goals as goal

pub returns : goal.returns
returns c =
    let t : RunTable = c.args.names.now.table in
    any_from_yields_List (λ (job : ℕ). list_any (is_on t c.args.node) (job_disks t (job ∷ []))) _ _ c.any.result c.any.ensures.ran
    (YieldsList-from_slice c.args.jobs.now cc) (λ x b q k. search rules)
    ∙ sym (source_by_source t c.args.node c.args.jobs.now)
