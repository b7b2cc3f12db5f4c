-- What the phases of waiters in hand have to show of a worker that fits its board's view: WaiterLaws. Read WaitersFit.
use Rattle.std.specs.Prelude.{ℕ, List, Option}
use Rattle.st_base.specs.declared.chain.Chain.{Chain}
use Rattle.st_base.specs.declared.image.Image.{Image}
use Rattle.st_base.specs.declared.limits.Limits.{Limits}
use Rattle.st_model.specs.declared.program.Program.{Program}
use Rattle.st_model.specs.Memory.{Data}
use Rattle.st_phases.specs.declared.phase.Phase.TheVariants as phases
use Rattle.st_phases.specs.declared.phase.Rest.{Rest}
use Rattle.st_phases.specs.declared.phase.Settling.{Settling}
use Rattle.st_fits.specs.Laws.{PhaseLaw}

pub record WaiterLaws (p : Program) (d : Data) (limits : Limits) (image : Image) (input : List ℕ) : Type 0 where
  pub following : (rest : Rest) → PhaseLaw p d limits image input (phases.Following rest)
  pub raising : (waiter : ℕ) (rest : Rest) → PhaseLaw p d limits image input (phases.Raising waiter rest)
  pub peeking : (waiter : ℕ) (rest : Rest) → PhaseLaw p d limits image input (phases.Peeking waiter rest)
  pub returning : (chain : Chain) (rest : Rest) → PhaseLaw p d limits image input (phases.Returning chain rest)
  pub owning : (settling : Settling) → PhaseLaw p d limits image input (phases.Owning settling)
  pub weighing : (settling : Settling) → PhaseLaw p d limits image input (phases.Weighing settling)
  pub readying : (settling : Settling) → PhaseLaw p d limits image input (phases.Readying settling)
  pub linking : (settling : Settling) → PhaseLaw p d limits image input (phases.Linking settling)
  pub parking : (settling : Settling) → PhaseLaw p d limits image input (phases.Parking settling)
  pub lowering : (rest : Option Rest) → PhaseLaw p d limits image input (phases.Lowering rest)

abbrev pub WaitersFit : Type 0
WaitersFit = (p : Program) (d : Data) (limits : Limits) (image : Image) (input : List ℕ) → WaiterLaws p d limits image input
