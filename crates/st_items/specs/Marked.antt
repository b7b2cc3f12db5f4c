-- An augmented epilogue that marks its frame, split at the mark: on a real board the words of the frame are taken from the worker there. Read MarksAt (the way
-- up to the mark, and the jump back behind it, which reads no word), Marked (what the epilogue leads to is behind that jump) and NeedsNoWords.
use Rattle.std.specs.Prelude.{◌≡◌, ◌⊎◌, ℕ, ◌+◌, ◌<◌, ◌≤◌, Bool, None}
use Rattle.st_model.specs.declared.code.Layout.{Layout}
use Rattle.st_model.specs.declared.code.Layout.TheVariants.{Postprocessed}
use Rattle.st_model.specs.declared.program.Program.{Program}
use Rattle.st_model.specs.Memory.{Data}
use Rattle.st_step.specs.declared.state.State.{State as MachineState}
use Rattle.st_step.specs.Moves.{at_place}
use Rattle.st_step.specs.Runs.{Situation, IsAtMark, return_word, stored}
use Rattle.st_items.specs.Code.{code_at}
use Rattle.st_items.specs.Ways.{IsBehind, OnWay, Leads}
use Rattle.st_items.specs.Body.{Ends}

-- a frame with this base is marked, and not freed
abbrev pub IsAway : Ends → ℕ → Type 0
IsAway ends b = (b ≤ ends.sp) ⊎ (ends.gp < b)

-- so many instructions, all of them inside of items, lead from one machine to another, whatever the words are and whichever of them are held
abbrev pub NeedsNoWords : Layout → Program → Data → ℕ → MachineState → MachineState → Type 0
NeedsNoWords layout p d n m m' = (held : ℕ → Bool) (word : ℕ → ℕ) → OnWay layout p d held n (record { state = m; word = word }) (record { state = m'; word = word })

-- s is at the mark of the frame with base b; it and the jump back are words of the same epilogue, and no word is changed before
pub record MarksAt (p : Program) (d : Data) (held : ℕ → Bool) (b : ℕ) (t s : Situation) : Type 0 where
  pub leads : Leads Postprocessed p d held t s
  pub words : s.word ≡ t.word
  pub whole : s.state.half ≡ None
  pub mark : IsAtMark d (code_at Postprocessed p) b s
  pub inside : IsBehind Postprocessed p s.state.pc
  pub behind : IsBehind Postprocessed p (s.state.pc + 4)

-- behind the jump back
abbrev pub behind_mark : ℕ → Situation → Situation
behind_mark b s = record { state = at_place (s.word (return_word b)) s.state; word = stored (return_word b) 0 s.word }

-- the epilogue marks the frame with base b, and u is behind its jump back
pub record Marked (p : Program) (d : Data) (held : ℕ → Bool) (b : ℕ) (t u : Situation) : Type 0 where
  pub s : Situation
  pub marks : MarksAt p d held b t s
  pub comes : u ≡ behind_mark b s
