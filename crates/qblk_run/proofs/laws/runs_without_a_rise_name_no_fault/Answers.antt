use Rattle.qblk_run.proofs.Unharmed.{no-fault}
use Rattle.qblk_run.proofs.laws.runs_without_a_rise_name_no_fault.Goals as goal

pub returns : goal.returns
returns c = no-fault
