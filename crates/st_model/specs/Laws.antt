-- Laws of the machines, each the contract of a public function.
use Rattle.st_model.specs.declared.program.Program.{Program}
use Rattle.st_model.specs.Memory.{Data}
use Rattle.st_model.specs.Ordinary.{IsDefined, ordinary_run}
use Rattle.st_model.specs.Bounded.{Bounds, bounded_run, AgreesWith}
use Rattle.st_model.specs.Accepted.{IsAccepted}

-- an accepted program's ordinary-call run never reads anything undefined
abbrev pub AlwaysDefined : Type 0
AlwaysDefined = (p : Program) (d : Data) → IsAccepted p → IsDefined p d

-- a bounded run that passes no limit is the ordinary run, and one that ends at its steps is not over then
abbrev pub BoundedAgrees : Type 0
BoundedAgrees = (p : Program) (d : Data) (b : Bounds) → AgreesWith (ordinary_run p d b.steps) (bounded_run p d b)
