use Rattle.st_rounds.proofs.Comings.{chains_come}
use Rattle.st_rounds.proofs.laws.chains_come.Goals as goal

-- src/laws.rt:15:1
pub returns : goal.returns
returns c = chains_come
