use Rattle.st_standing.proofs.Same.{same}
use Rattle.st_standing.proofs.laws.standing_same.Goals as goal

-- src/laws.rt:5:1
pub returns : goal.returns
returns c = same
