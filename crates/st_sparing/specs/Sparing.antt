-- No item stores a 0 where a frame has its return word: a worker may do so by a mark alone. Read Spares (the next instruction stores no 0 at these places),
-- AllSpare (nor do those behind it) and AreReturnWords (which places these are). ItemsSpare is the law: of whatever way an item goes, by so many instructions
-- behind its first that are inside of items, all instructions spare these places.
use Rattle.std.specs.Prelude.{◌≡◌, ℕ, zero, suc, Bool, true, false, List, ◌∷◌, Some}
use Rattle.std.specs.List.{Contains}
use Rattle.st_base.specs.declared.chain.Frame.{Frame}
use Rattle.st_base.specs.declared.thread.Held.{Held}
use Rattle.st_rv.specs.declared.ins.Ins.{Ins}
use Rattle.st_model.specs.declared.code.Layout.{Layout}
use Rattle.st_model.specs.declared.code.Layout.TheVariants.{Postprocessed}
use Rattle.st_model.specs.declared.program.Program.{Program}
use Rattle.st_model.specs.Memory.{Data}
use Rattle.st_words.specs.declared.view.Known.{Known}
use Rattle.st_words.specs.Steps.{return_place}
use Rattle.st_step.specs.declared.state.State.{State}
use Rattle.st_step.specs.Moves.{Writes, move_of}
use Rattle.st_step.specs.Runs.{Situation}
use Rattle.st_items.specs.Body.{Ends}
use Rattle.st_items.specs.Code.{code_at}
use Rattle.st_items.specs.Ways.{Makes, LeadsBy}
use Rattle.st_chain.specs.Seen.{joined}
use Rattle.st_running.specs.Running.{CanRun}

-- a number that the instruction stores isn't 0 at these places
abbrev pub Spares : Layout → Program → Data → (ℕ → Bool) → Situation → Type 0
Spares layout p d kept s = (ins : Ins) (q n : ℕ) (m : State) → code_at layout p s.state.pc ≡ Some ins → move_of d s.state ins ≡ Writes q n m → n ≡ 0 → kept q ≡ false

-- so is each of the first so many instructions
abbrev pub AllSpare : Layout → Program → Data → (ℕ → Bool) → (ℕ → Bool) → ℕ → Situation → Type 0
AllSpare layout p d held kept zero s = Prim.Unit
AllSpare layout p d held kept (suc n) s = Spares layout p d kept s × ((u : Situation) → Makes layout p d held s u → AllSpare layout p d held kept n u)

-- each of these places that is held has the return word of one of these frames
abbrev pub AreReturnWords : (ℕ → Bool) → (ℕ → Bool) → List Frame → Type 0
AreReturnWords holds kept frames = (q : ℕ) → kept q ≡ true → holds q ≡ true → (f : Frame) × Contains frames f × (return_place f ≡ q)

-- the next item of the top thread spares the return words of the frames of all threads
abbrev pub ItemsSpare : Type 0
ItemsSpare =
    (p : Program) (d : Data) (names : List (Held × ℕ)) (holds : ℕ → Bool) (ends : Ends) (t : Situation) (k : Known) (fs : List Frame) (ks : List Known) (rest : List (List Frame)) (kept : ℕ → Bool) → CanRun p d names holds ends t k fs ks rest → AreReturnWords holds kept (joined (fs ∷ rest))
    → (n : ℕ) (w : Situation) → LeadsBy Postprocessed p d holds n t w → AllSpare Postprocessed p d holds kept (suc n) t
