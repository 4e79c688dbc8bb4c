use Rattle.std.proofs.Common.{rules}
use Rattle.std.specs.Prelude.{bytes_eq, not}
use Rattle.std.proofs.lemmas.Fn.{filter_same}
use Rattle.qmp_rules.proofs.edit.drop_name.Goals as goal

pub returns-clause-items : goal.returns-clause-items
returns-clause-items c =
    filter_same _ (λ other. not (bytes_eq other c.args.name.now)) _ (λ x b f' t. search rules) c.args.names.now.items
    c.retain.new.self.items c.retain.ensures.filtered
