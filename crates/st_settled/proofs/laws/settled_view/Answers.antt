use Rattle.st_settled.proofs.Settled.{settled}
use Rattle.st_settled.proofs.laws.settled_view.Goals as goal

-- src/laws.rt:5:1
pub returns : goal.returns
returns c = settled
