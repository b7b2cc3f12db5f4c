-- A walk over the frames of threads, from a newer one to the older, by pure copies. Read Remaining (what is left of a thread at a place), IsAt (how far a
-- walk is) and steps_of (how many steps it takes to the end of the thread).
use Rattle.std.specs.Prelude.{◌≡◌, ℕ, ◌+◌, ◌≤◌, Bool, List, [], ◌∷◌, length, Option, Some, None, slice_get}
use Rattle.st_base.specs.declared.chain.Frame.{Frame}
use Rattle.st_base.specs.declared.reg.Reg.TheVariants as registers
use Rattle.st_base.specs.declared.thread.Activation.{Activation}
use Rattle.st_base.specs.declared.thread.ActivationKind.{ActivationKind}
use Rattle.st_base.specs.declared.thread.Held.{Held}
use Rattle.st_model.specs.declared.program.Program.{Program}
use Rattle.st_model.specs.declared.program.ProgramFunction.{ProgramFunction}
use Rattle.st_model.specs.Effect.{File}
use Rattle.st_model.specs.Layout.{saved_of}
use Rattle.st_model.specs.Memory.{Data}
use Rattle.st_step.specs.declared.state.State.{State}
use Rattle.st_step.specs.Frames.{Naming, value_in}
use Rattle.st_step.specs.Moves.{register}
use Rattle.st_items.specs.Body.{Context, Ends, IsOn}
use Rattle.st_chain.specs.declared.walk.Stage.{Stage}
use Rattle.st_chain.specs.declared.walk.Stage.TheVariants as stages
use Rattle.st_chain.specs.Walk.{word_in, is_held, named_by, FromNewest}
use Rattle.st_chain.specs.Copying.{over, CopyRuns}

-- what is left of a thread at a place: it stands at its newest activation, or, where none is left, what lies below it stands behind
abbrev pub Remaining : Program → Naming → (ℕ → Bool) → Context → ℕ → ℕ → ℕ → (ℕ → ℕ) → (ℕ → ℕ) → List Activation → List Frame → Type 0
Remaining p names holds end ahead pc fp word value [] [] = (kind : ActivationKind) × ((kept : File) × end kind kept word value fp pc)
Remaining p names holds end ahead pc fp word value [] (f ∷ fs) = ⊥
Remaining p names holds end ahead pc fp word value (a ∷ older) fs = FromNewest p names holds end ahead pc fp word value (a ∷ older) fs

-- a machine over the words that are held has these activations left
pub record Stands (p : Program) (names : List (Held × ℕ)) (held : List (Option ℕ)) (end : Context) (ahead : ℕ) (m : State) (acts : List Activation) (fs : List Frame) : Type 0 where
  pub ends : Ends
  pub machine : IsOn ends (over held m)
  pub whole : m.half ≡ None
  pub remaining : Remaining p (named_by names) (is_held held) end ahead m.pc (register m registers.S0) (word_in held) (value_in m) acts fs

-- ---- steps

-- one step begins the copy of an activation's function, and each of its instructions is one
abbrev pub copy_steps : Option ProgramFunction → ℕ
copy_steps None = 1
copy_steps (Some function) = 5 + length (saved_of function)

-- and one tells what lies below the thread
abbrev pub steps_of : Program → List Activation → ℕ
steps_of p [] = 1
steps_of p (a ∷ older) = copy_steps (slice_get p.functions a.function) + steps_of p older

-- ---- how far a walk is

-- at a place of which these activations are left, or amid the copy that leads to it; so many steps are left in the thread
abbrev pub IsAt : Program → Data → List (Held × ℕ) → List (Option ℕ) → Context → Stage → State → List Activation → List Frame → ℕ → Type 0
IsAt p d names held end stages.Frame m acts fs n = (ahead : ℕ) × (ahead ≤ 1) × Stands p names held end ahead m acts fs × (n ≡ steps_of p acts)
IsAt p d names held end (stages.Copy left) m acts fs n =
    (f : ℕ) × ((function : ProgramFunction) × ((last : State) × CopyRuns p d held f function left m last × Stands p names held end 0 last acts fs × (1 ≤ left) × (n ≡ left + steps_of p acts)))
