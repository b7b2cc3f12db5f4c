use Rattle.st_calls.proofs.Entries.{making_laws}
use Rattle.st_calls.proofs.laws.making_laws.Goals as goal

pub returns : goal.returns
returns c = making_laws
