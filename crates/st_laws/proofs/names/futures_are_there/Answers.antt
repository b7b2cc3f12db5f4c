use Rattle.st_laws.proofs.NamesHold as nameshold
use Rattle.st_laws.proofs.names.futures_are_there.Goals as goal

pub returns : goal.returns
returns c = nameshold.futures_are_there
