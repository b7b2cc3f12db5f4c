-- The laws of the phases of a worker that polls and answers. Read AnswerLaws: the own request word and the stop word are read, frames are taken back, and a request is answered.
use Rattle.std.specs.Prelude.{ℕ, Bool, List, Option}
use Rattle.st_base.specs.declared.chain.Chain.{Chain}
use Rattle.st_base.specs.declared.image.Image.{Image}
use Rattle.st_base.specs.declared.limits.Limits.{Limits}
use Rattle.st_model.specs.declared.program.Program.{Program}
use Rattle.st_model.specs.Memory.{Data}
use Rattle.st_phases.specs.declared.phase.Phase.TheVariants as phases
use Rattle.st_fits.specs.Laws.{MayLaw, PhaseLaw}

pub record AnswerLaws (p : Program) (d : Data) (limits : Limits) (image : Image) (input : List ℕ) : Type 0 where
  pub polling : PhaseLaw p d limits image input phases.Polling
  pub heeding : (asker : Option ℕ) → PhaseLaw p d limits image input (phases.Heeding asker)
  pub shrinking : (asker : Option ℕ) → PhaseLaw p d limits image input (phases.Shrinking asker)
  pub answering : (asker : ℕ) → PhaseLaw p d limits image input (phases.Answering asker)
  -- by a ready chain
  pub picking : (asker : ℕ) (cell : ℕ) → PhaseLaw p d limits image input (phases.Picking asker cell)
  pub waving : (asker : ℕ) (chain : Chain) → PhaseLaw p d limits image input (phases.Waving asker chain)
  pub mailing : (asker : ℕ) (chain : Chain) → PhaseLaw p d limits image input (phases.Mailing asker chain)
  -- or by the bottom thread
  pub sharing : (asker : ℕ) → PhaseLaw p d limits image input (phases.Sharing asker)
  -- each step of taking that out may be asked
  pub giving : (asker : ℕ) → MayLaw p d limits image input (phases.Giving asker)
  -- and the answer is told
  pub telling : (asker : ℕ) (given : Bool) → PhaseLaw p d limits image input (phases.Telling asker given)
  pub clearing : PhaseLaw p d limits image input phases.Clearing

abbrev pub AnswersKeep : Type 0
AnswersKeep = (p : Program) (d : Data) (limits : Limits) (image : Image) (input : List ℕ) → AnswerLaws p d limits image input
