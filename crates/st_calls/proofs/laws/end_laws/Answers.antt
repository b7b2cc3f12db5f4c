use Rattle.st_calls.proofs.Entries.{end_laws}
use Rattle.st_calls.proofs.laws.end_laws.Goals as goal

pub returns : goal.returns
returns c = end_laws
