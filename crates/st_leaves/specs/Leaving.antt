-- What the phases of a thread that leaves its worker have to show of a worker that fits its board's view: LeavingLaws. Read LeaversFit.
use Rattle.std.specs.Prelude.{ℕ, List}
use Rattle.st_base.specs.declared.chain.Chain.{Chain}
use Rattle.st_base.specs.declared.image.Image.{Image}
use Rattle.st_base.specs.declared.limits.Limits.{Limits}
use Rattle.st_model.specs.declared.program.Program.{Program}
use Rattle.st_model.specs.Accepted.{IsAccepted}
use Rattle.st_model.specs.Memory.{Data}
use Rattle.st_phases.specs.declared.phase.Leaving.{Leaving}
use Rattle.st_phases.specs.declared.phase.Phase.TheVariants as phases
use Rattle.st_fits.specs.Laws.{MayLaw, PhaseLaw}

pub record LeavingLaws (p : Program) (d : Data) (limits : Limits) (image : Image) (input : List ℕ) : Type 0 where
  pub parting : (leaving : Leaving) → PhaseLaw p d limits image input (phases.Parting leaving)
  pub may_suspend : (leaving : Leaving) → MayLaw p d limits image input (phases.Suspending leaving)
  pub marking : (chain : Chain) (leaving : Leaving) → PhaseLaw p d limits image input (phases.Marking chain leaving)
  pub standing : (chain : Chain) (leaving : Leaving) → PhaseLaw p d limits image input (phases.Standing chain leaving)
  pub slotting : (chain : Chain) (leaving : Leaving) → PhaseLaw p d limits image input (phases.Slotting chain leaving)

abbrev pub LeaversFit : Type 0
LeaversFit = (p : Program) (d : Data) (limits : Limits) (image : Image) (input : List ℕ) → IsAccepted p → LeavingLaws p d limits image input
