use Rattle.q2_tables.proofs.link.clear.Goals as goal

pub returns-clause-list : goal.returns-clause-list
returns-clause-list c = c.fill.ensures.after (λ y same. same)
