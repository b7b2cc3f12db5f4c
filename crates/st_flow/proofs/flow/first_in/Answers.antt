use Rattle.std.proofs.Common.{refl}
use Rattle.st_flow.proofs.flow.first_in.Goals as goal

pub returns-then-not-are_read-clause-none : goal.returns-then-not-are_read-clause-none
returns-then-not-are_read-clause-none c = λ i b lt less bad. c.if-not-are_read.ensures refl i b lt less bad.1
