use Rattle.std.proofs.Common.{rules}
use Rattle.std.specs.Prelude.{◌==◌, not}
use Rattle.std.proofs.lemmas.Fn.{filter_same}
use Rattle.qmp_rules.proofs.edit.drop_job.Goals as goal

pub returns-clause-items : goal.returns-clause-items
returns-clause-items c =
    filter_same _ (λ job. not (job.number == c.args.number)) _ (λ x b f' t. search rules) c.args.rows.now.items
    c.retain.new.self.items c.retain.ensures.filtered
