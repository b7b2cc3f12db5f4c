use Rattle.st_model.proofs.Bounding.{agrees}
use Rattle.st_model.proofs.laws.bounded_agrees.Goals as goal

pub returns : goal.returns
returns c = agrees
