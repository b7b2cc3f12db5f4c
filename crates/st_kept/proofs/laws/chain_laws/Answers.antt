use Rattle.st_kept.proofs.Chains.{chain_laws}
use Rattle.st_kept.proofs.laws.chain_laws.Goals as goal

pub returns : goal.returns
returns c = chain_laws
