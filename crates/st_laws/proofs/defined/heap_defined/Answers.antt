use Rattle.st_laws.proofs.HeapFlow as heapflow
use Rattle.st_laws.proofs.defined.heap_defined.Goals as goal

pub returns : goal.returns
returns c = heapflow.heap_defined
