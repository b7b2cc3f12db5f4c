use Rattle.st_laws.proofs.Printing as printing
use Rattle.st_laws.proofs.steps.bytes_are_in_order.Goals as goal

pub returns : goal.returns
returns c = printing.bytes_are_in_order
