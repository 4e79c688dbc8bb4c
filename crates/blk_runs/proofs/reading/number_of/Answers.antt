use Rattle.std.proofs.Common.{sym, arith}
use Rattle.std.proofs.lemmas.Fmt.{parse-decimal}
use Rattle.blk_runs.proofs.reading.number_of.Goals as goal

pub returns-in-Ok : goal.returns-in-Ok
returns-in-Ok c = λ n small written. let read = parse-decimal 32 n _ _ small (omega arith) (sym written) c.parse.ensures.value.0 in cc read

pub returns-in-Err : goal.returns-in-Err
returns-in-Err c = λ n small written. absurd (cc (parse-decimal 32 n _ _ small (omega arith) (sym written) c.parse.ensures.value.0))
