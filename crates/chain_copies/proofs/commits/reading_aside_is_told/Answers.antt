use Rattle.std.proofs.Common.{Bool, false, ap, ◌∙◌, cond}
use Rattle.std.proofs.lemmas.Bool.{ne_eqb}
use Rattle.std.specs.Prelude.{◌||◌}
use Rattle.chain_copies.specs.Commits.{is_written, reads_aside, reads_one_of}
use Rattle.chain_copies.proofs.CommitsAlong.{along_free}
use Rattle.chain_copies.proofs.CommitsAside.{among_free, apart_free, aside_by, aside_top}
use Rattle.chain_copies.proofs.commits.reading_aside_is_told.Goals as goal

pub returns-clause-top : goal.returns-clause-top
returns-clause-top c = aside_top

pub returns-clause-children : goal.returns-clause-children
returns-clause-children c = λ nodes base top node joined other.
    aside_by nodes base top joined node
    ∙ ap (λ (b : Bool). cond b false (is_written nodes base node || reads_one_of (reads_aside nodes base top) nodes node)) (ne_eqb node top other)

pub returns-clause-among : goal.returns-clause-among
returns-clause-among c = λ nodes base top node among each is. among_free nodes base top among each node is

pub returns-clause-apart : goal.returns-clause-apart
returns-clause-apart c = λ nodes base top node joined may off. apart_free nodes base top joined may node off

pub returns-clause-chain : goal.returns-clause-chain
returns-clause-chain c = λ nodes base top node joined free. along_free nodes base top joined node free
