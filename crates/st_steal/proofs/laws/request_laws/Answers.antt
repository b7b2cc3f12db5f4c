use Rattle.st_steal.proofs.RequestWords.{request_laws}
use Rattle.st_steal.proofs.laws.request_laws.Goals as goal

pub returns : goal.returns
returns c = request_laws
