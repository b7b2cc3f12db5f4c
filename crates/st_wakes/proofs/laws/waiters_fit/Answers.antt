use Rattle.st_wakes.proofs.Phases.{waiters_fit}
use Rattle.st_wakes.proofs.laws.waiters_fit.Goals as goal

-- src/laws.rt:5:1
pub returns : goal.returns
returns c = waiters_fit
