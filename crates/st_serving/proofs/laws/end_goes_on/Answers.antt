use Rattle.st_serving.proofs.Ends.{end_goes_on}
use Rattle.st_serving.proofs.laws.end_goes_on.Goals as goal

-- src/laws.rt:15:1
pub returns : goal.returns
returns c = end_goes_on
