-- Threads below one another, as one worker has them. Read AtEnd (nothing lies below a thread) and Lower (the threads below one): both are what
-- stands behind a thread's first activation.
use Rattle.std.specs.Prelude.{◌≡◌, ℕ, ◌+◌, ◌-◌, ◌==◌, Bool, List, [], ◌∷◌, length, if◌then◌else◌}
use Rattle.st_base.specs.declared.chain.Frame.{Frame}
use Rattle.st_base.specs.declared.reg.Reg.{Reg}
use Rattle.st_base.specs.Reg.{reg_number}
use Rattle.st_base.specs.declared.thread.Activation.{Activation}
use Rattle.st_base.specs.declared.thread.ActivationKind.TheVariants.{Forked}
use Rattle.st_model.specs.declared.code.Layout.TheVariants.{Postprocessed}
use Rattle.st_model.specs.declared.program.Item.{Item}
use Rattle.st_model.specs.declared.program.ItemKind.TheVariants.{Fork}
use Rattle.st_model.specs.declared.program.Program.{Program}
use Rattle.st_model.specs.declared.program.ProgramFunction.{ProgramFunction}
use Rattle.st_model.specs.Effect.{File, IsFirst}
use Rattle.st_words.specs.declared.view.Known.{Known}
use Rattle.st_step.specs.Frames.{Naming, HasFile, HoldsKept, address_in}
use Rattle.st_items.specs.Body.{Context}
use Rattle.st_items.specs.Code.{HasItem}
use Rattle.st_chain.specs.Walk.{FromNewest}

-- nothing lies below: the thread's first activation comes back to the entry st_end
abbrev pub AtEnd : Context
AtEnd kind kept word value fp ret = IsFirst kind × (ret ≡ 0x30)

abbrev pub put_value : ℕ → ℕ → (ℕ → ℕ) → ℕ → ℕ
put_value r n value x = if r == x then n else value x

-- the activation has forked into this register, and the third jump of the fork stands at `ret`
pub record IsBehindFork (p : Program) (ret : ℕ) (handle : Reg) (a : Activation) : Type 0 where
  pub function : ProgramFunction
  pub item : Item
  pub has : HasItem p a.function function (a.next - 1) item
  pub g : ℕ
  pub forks : item.kind ≡ Fork g handle
  pub third : ret + 4 ≡ address_in Postprocessed p a.function function a.next

-- its newest activation has
abbrev pub HasForked : Program → ℕ → Reg → List Activation → Type 0
HasForked p ret handle [] = ⊥
HasForked p ret handle (a ∷ older) = IsBehindFork p ret handle a

-- a thread that has forked has no registers but those that a call keeps and the fork's, and these have the values
pub record HoldsOver (names : Naming) (registers : File) (value : ℕ → ℕ) : Type 0 where
  pub file : HasFile names registers value
  pub long : length registers ≡ 32
  pub holds : HoldsKept registers

-- The threads below one whose cell this is, the newest first, each with its frames: the one above comes back to the third jump of the fork that made
-- it, and each is read behind that fork, with the cell of the one above in the fork's register.
abbrev pub Lower : Program → Naming → (ℕ → Bool) → ℕ → List Known → List (List Frame) → Context
Lower p names holds cell [] [] kind kept word value fp ret = AtEnd kind kept word value fp ret
Lower p names holds cell (t ∷ ts) (fs ∷ rest) kind kept word value fp ret =
    (handle : Reg) × (kind ≡ Forked) × HasForked p ret handle t.thread.activations × HoldsOver names t.thread.registers (put_value (reg_number handle) cell value)
    × FromNewest p names holds (Lower p names holds t.note.cell ts rest) 0 (ret + 4) fp word (put_value (reg_number handle) cell value) t.thread.activations fs
Lower p names holds cell [] (fs ∷ rest) kind kept word value fp ret = ⊥
Lower p names holds cell (t ∷ ts) [] kind kept word value fp ret = ⊥
