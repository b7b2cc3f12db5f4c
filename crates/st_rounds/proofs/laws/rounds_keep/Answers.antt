use Rattle.st_rounds.proofs.Rounds.{rounds_keep}
use Rattle.st_rounds.proofs.laws.rounds_keep.Goals as goal

-- src/laws.rt:5:1
pub returns : goal.returns
returns c = rounds_keep
