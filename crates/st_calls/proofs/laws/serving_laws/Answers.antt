use Rattle.st_calls.proofs.Entries.{serving_laws}
use Rattle.st_calls.proofs.laws.serving_laws.Goals as goal

pub returns : goal.returns
returns c = serving_laws
