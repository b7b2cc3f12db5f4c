use Rattle.st_laws.proofs.HeapNames as heapnames
use Rattle.st_laws.proofs.names.names_are_there.Goals as goal

pub returns : goal.returns
returns c = heapnames.names_are_there
