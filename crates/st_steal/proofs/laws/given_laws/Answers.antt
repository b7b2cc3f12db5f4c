use Rattle.st_steal.proofs.Given.{given_laws}
use Rattle.st_steal.proofs.laws.given_laws.Goals as goal

pub returns : goal.returns
returns c = given_laws
