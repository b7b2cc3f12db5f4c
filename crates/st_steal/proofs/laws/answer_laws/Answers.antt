use Rattle.st_steal.proofs.Answering.{answer_laws}
use Rattle.st_steal.proofs.laws.answer_laws.Goals as goal

pub returns : goal.returns
returns c = answer_laws
