-- What an accepted program, its data and the limits mean to a board: meaning. A chain walks as st_chain has it, items are those of the heap-frame machine, and a limit is met by the
-- worker's numbers.
use Rattle.std.specs.Prelude.{◌≡◌, ℕ, List, [], ◌∷◌, Some, slice_get}
use Rattle.st_base.specs.declared.limits.Limits.{Limits}
use Rattle.st_base.specs.declared.thread.Activation.{Activation}
use Rattle.st_words.specs.Careful.{Meaning}
use Rattle.st_model.specs.declared.code.Layout.TheVariants.{Postprocessed}
use Rattle.st_model.specs.declared.program.Program.{Program}
use Rattle.st_model.specs.declared.program.ProgramFunction.{ProgramFunction}
use Rattle.st_model.specs.Memory.{Data}
use Rattle.st_made.specs.Items.{EndsWith, IsAtFork, IsAtCounter}
use Rattle.st_step.specs.Frames.{address_in}
use Rattle.st_chain.specs.Chains.{Walks}
use Rattle.st_limits.specs.Stopping.{Met}

-- the pc is that of the next item of a thread with these activations
abbrev pub IsAt : Program → List Activation → ℕ → Type 0
IsAt p [] pc = ⊥
IsAt p (newest ∷ older) pc = (function : ProgramFunction) × (slice_get p.functions newest.function ≡ Some function) × (pc ≡ address_in Postprocessed p newest.function function newest.next)

abbrev pub meaning : Program → Data → Limits → Meaning
meaning p d limits = record {
  walks = λ cargo chain. Walks p d chain cargo;
  at = λ t pc. IsAt p t.thread.activations pc;
  ends = EndsWith p d;
  forks = IsAtFork p d;
  counts = IsAtCounter p d;
  meets = Met p d limits;
}
