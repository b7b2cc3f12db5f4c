use Rattle.st_cargo.proofs.Carrying.{chains_carried}
use Rattle.st_cargo.proofs.laws.chains_carried.Goals as goal

-- src/laws.rt:5:1
pub returns : goal.returns
returns c = chains_carried
