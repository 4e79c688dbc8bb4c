use Rattle.chain_copies.proofs.StreamOver.{over_linked}
use Rattle.chain_copies.proofs.streams.links_lead_to_bases.Goals as goal

pub returns : goal.returns
returns c = over_linked
