-- The laws of the phases of a worker without a thread. Read RoundLaws (it reads and stores words of the board in turn), TakingLaws (it takes a chain to run) and ComingLaws (the chain comes to run).
use Rattle.std.specs.Prelude.{ℕ, List}
use Rattle.st_base.specs.declared.chain.Chain.{Chain}
use Rattle.st_base.specs.declared.image.Image.{Image}
use Rattle.st_base.specs.declared.limits.Limits.{Limits}
use Rattle.st_model.specs.declared.program.Program.{Program}
use Rattle.st_model.specs.Memory.{Data}
use Rattle.st_phases.specs.declared.phase.Behind.TheVariants as behinds
use Rattle.st_phases.specs.declared.phase.Phase.TheVariants as phases
use Rattle.st_fits.specs.Laws.{PhaseLaw}

pub record RoundLaws (p : Program) (d : Data) (limits : Limits) (image : Image) (input : List ℕ) : Type 0 where
  pub settled : PhaseLaw p d limits image input phases.Settled
  pub stop : PhaseLaw p d limits image input phases.Stop
  pub active : PhaseLaw p d limits image input phases.Active
  pub request : PhaseLaw p d limits image input phases.Request
  pub mail : PhaseLaw p d limits image input phases.Mail
  pub seventh : PhaseLaw p d limits image input phases.Seventh
  pub placing : PhaseLaw p d limits image input phases.Placing
  -- the own mail word becomes nothing
  pub refused : PhaseLaw p d limits image input (phases.Emptying behinds.Seventh)
  pub withdrawn : PhaseLaw p d limits image input (phases.Emptying behinds.Round)

-- its own ready one, the root, or one that was given
pub record TakingLaws (p : Program) (d : Data) (limits : Limits) (image : Image) (input : List ℕ) : Type 0 where
  pub own : PhaseLaw p d limits image input phases.Own
  pub first : PhaseLaw p d limits image input phases.First
  pub opening : PhaseLaw p d limits image input phases.Opening

pub record ComingLaws (p : Program) (d : Data) (limits : Limits) (image : Image) (input : List ℕ) : Type 0 where
  pub coming : (chain : Chain) → PhaseLaw p d limits image input (phases.Coming chain)
  pub seeing : (chain : Chain) → PhaseLaw p d limits image input (phases.Seeing chain)
  pub getting : (chain : Chain) → PhaseLaw p d limits image input (phases.Getting chain)
  pub given : (chain : Chain) → PhaseLaw p d limits image input (phases.Emptying (behinds.Chain chain))

-- ---- of all programs

abbrev pub RoundsKeep : Type 0
RoundsKeep = (p : Program) (d : Data) (limits : Limits) (image : Image) (input : List ℕ) → RoundLaws p d limits image input

abbrev pub ChainsTaken : Type 0
ChainsTaken = (p : Program) (d : Data) (limits : Limits) (image : Image) (input : List ℕ) → TakingLaws p d limits image input

abbrev pub ChainsCome : Type 0
ChainsCome = (p : Program) (d : Data) (limits : Limits) (image : Image) (input : List ℕ) → ComingLaws p d limits image input
