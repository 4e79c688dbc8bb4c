use Rattle.node_copies.specs.Sectors.{sector_count}
use Rattle.node_copies.proofs.Runs.{runs_asked}
use Rattle.node_copies.proofs.laws.runs_are_those_asked.Goals as goal

pub returns : goal.returns
returns c = λ block sectors sector. runs_asked (sector_count block) sectors sector
