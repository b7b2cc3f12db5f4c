use Rattle.st_serving.proofs.Begins.{forked_goes}
use Rattle.st_serving.proofs.laws.forked_goes.Goals as goal

-- src/laws.rt:10:1
pub returns : goal.returns
returns c = forked_goes
