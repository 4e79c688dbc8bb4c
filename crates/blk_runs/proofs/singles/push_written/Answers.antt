use Rattle.std.proofs.Common.{◌≡◌, ◌++◌, List, ℕ, take, subst, sym}
use Rattle.std.specs.Str.{IsAscii}
use Rattle.std.proofs.lemmas.List.{take_rest}
use Rattle.blk_runs.specs.Runs.{runs_text}
use Rattle.blk_runs.proofs.SingleRuns.{singles-written, singles-ascii, front-fits}
use Rattle.blk_runs.proofs.singles.push_written.Goals as goal

pub returns-clause-written : goal.returns-clause-written
returns-clause-written c =
    let P : List ℕ → Type 0 = λ rest. c.push_ascii_text.new.out.bytes ++ runs_text rest ≡ c.args.out.now.bytes ++ runs_text c.args.bytes.now in
    subst P (sym (take_rest c.args.bytes.now c.args.count))
    (singles-written c.args.count c.args.bytes.now _ _ _ c.requires.singles.single c.requires.singles.written c.push_ascii_text.ensures.bytes)

pub push_ascii_text-requires-clause-ascii : goal.push_ascii_text-requires-clause-ascii
push_ascii_text-requires-clause-ascii c =
    subst IsAscii (sym c.requires.singles.written) (singles-ascii (take c.args.count c.args.bytes.now) (front-fits c.args.count c.args.bytes.now c.type_inv.bytes))
