use Rattle.flat_machine.proofs.Openings.{start_rests}
use Rattle.flat_machine.proofs.StandingKept.{all_stand}
use Rattle.flat_machine.proofs.TableRests.{all_keep, command_rests, spoiled_rests, written_rests}
use Rattle.flat_machine.proofs.laws.tables_stand.Goals as goal

pub returns-clause-beginning : goal.returns-clause-beginning
returns-clause-beginning c = start_rests

pub returns-clause-changes : goal.returns-clause-changes
returns-clause-changes c = all_stand

pub returns-clause-tables : goal.returns-clause-tables
returns-clause-tables c = all_keep

pub returns-clause-commands : goal.returns-clause-commands
returns-clause-commands c = λ t told command begins rests quiet. (command_rests t told told command begins rests quiet).1

pub returns-clause-failures : goal.returns-clause-failures
returns-clause-failures c = spoiled_rests

pub returns-clause-writes : goal.returns-clause-writes
returns-clause-writes c = written_rests
