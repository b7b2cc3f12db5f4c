use Rattle.st_calls.proofs.Entries.{entry_laws}
use Rattle.st_calls.proofs.laws.entry_laws.Goals as goal

pub returns : goal.returns
returns c = entry_laws
