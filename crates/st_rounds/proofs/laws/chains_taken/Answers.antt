use Rattle.st_rounds.proofs.Taking.{chains_taken}
use Rattle.st_rounds.proofs.laws.chains_taken.Goals as goal

-- src/laws.rt:10:1
pub returns : goal.returns
returns c = chains_taken
