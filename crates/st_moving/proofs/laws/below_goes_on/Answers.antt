use Rattle.st_moving.proofs.Below.{below_goes_on}
use Rattle.st_moving.proofs.laws.below_goes_on.Goals as goal

-- src/laws.rt:10:1
pub returns : goal.returns
returns c = below_goes_on
