use Rattle.st_check.specs.Shape.{shape_of}
use Rattle.st_check.proofs.ShapeFacts.{view-bits, shape_of-has}
use Rattle.st_check.proofs.shape.shape_of.Goals as goal

pub returns-clause-bits : goal.returns-clause-bits
returns-clause-bits c = view-bits c.args.function.now.slots c.in_ok-shape.shape (shape_of c.args.function.now) c.in_ok-shape.ensures.value (shape_of-has c.args.function.now)
