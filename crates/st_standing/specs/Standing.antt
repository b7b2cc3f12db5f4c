-- The threads of a worker on its machine, the top one first, each with its frames. Read StandsOn (the top thread is at an item of its newest activation), IsForked (it has just
-- been forked), AtCall (at an
-- entry of the runtime, which that item has called) and AtLast (at the entry that ends it); HasRoom says where the frames lie to the worker's stack.
use Rattle.std.specs.Prelude.{◌≡◌, ◌⊎◌, ℕ, ◌+◌, ◌%◌, ◌^◌, ◌<◌, ◌≤◌, Bool, true, List, [], ◌∷◌, None, Some, replicate, slice_get}
use Rattle.st_base.specs.declared.chain.Frame.{Frame}
use Rattle.st_base.specs.declared.reg.Reg.{Reg}
use Rattle.st_base.specs.declared.reg.Reg.TheVariants as registers
use Rattle.st_base.specs.Reg.{reg_number}
use Rattle.st_base.specs.declared.thread.Activation.{Activation}
use Rattle.st_base.specs.declared.thread.ActivationKind.TheVariants.{Forked}
use Rattle.st_base.specs.declared.thread.Held.{Held}
use Rattle.st_model.specs.declared.code.Layout.TheVariants.{Postprocessed}
use Rattle.st_model.specs.declared.program.Item.{Item}
use Rattle.st_model.specs.declared.program.Program.{Program}
use Rattle.st_model.specs.declared.program.ProgramFunction.{ProgramFunction}
use Rattle.st_model.specs.Layout.{fork_out}
use Rattle.st_words.specs.declared.view.Known.{Known}
use Rattle.st_words.specs.Steps.{place_of}
use Rattle.st_step.specs.Frames.{address_in, value_in, HasFile, IsFrameless}
use Rattle.st_step.specs.Moves.{register}
use Rattle.st_step.specs.Runs.{Situation}
use Rattle.st_items.specs.Body.{Context, Ends, IsOn}
use Rattle.st_items.specs.Called.{Enters, AtEntry}
use Rattle.st_items.specs.Code.{HasItem}
use Rattle.st_items.specs.Ways.{IsBehind, JumpsTo}
use Rattle.st_chain.specs.Walk.{named_by, LiesAt, Below, FromNewest}
use Rattle.st_chain.specs.Threads.{Lower, HasForked, HoldsOver, put_value}
use Rattle.st_chain.specs.Seen.{AreApart}

-- what lies below a thread of this cell, over the names that its worker has
abbrev pub under : Program → List (Held × ℕ) → (ℕ → Bool) → ℕ → List Known → List (List Frame) → Context
under p names holds cell ks rest = Lower p (named_by names) holds cell ks rest

-- ---- at an item

-- An activation before its prologue: it has no frame and nothing in its slots; ra, s0 and the saved registers are still its caller's.
pub record IsBefore (p : Program) (older : Context) (t : Situation) (a : Activation) (function : ProgramFunction) : Type 0 where
  pub here : slice_get p.functions a.function ≡ Some function
  pub first : a.next ≡ 0
  pub bytes : a.bytes ≡ replicate function.frame_bytes None
  pub handles : a.handles ≡ replicate function.slots None
  pub at : t.state.pc ≡ address_in Postprocessed p a.function function a.next
  pub below : older a.kind a.kept t.word (value_in t.state) (register t.state registers.S0) (register t.state registers.Ra)

-- the newest of these activations is before its prologue, and the frames are those of the others
abbrev pub Before : Program → List (Held × ℕ) → (ℕ → Bool) → Context → Situation → List Activation → List Frame → Type 0
Before p names holds end t [] fs = ⊥
Before p names holds end t (a ∷ older) fs = (function : ProgramFunction) × IsBefore p (Below p (named_by names) holds end older fs) t a function

-- it is behind its prologue, so many words behind its next item's first
abbrev pub Behind : Program → List (Held × ℕ) → (ℕ → Bool) → Context → ℕ → Situation → List Activation → List Frame → Type 0
Behind p names holds end ahead t acts fs = FromNewest p (named_by names) holds end ahead t.state.pc (register t.state registers.S0) t.word (value_in t.state) acts fs

-- the machine is at the first word of an item of the thread k, which has the frames fs; the threads ks lie below it, with theirs
pub record StandsOn (p : Program) (names : List (Held × ℕ)) (holds : ℕ → Bool) (ends : Ends) (t : Situation) (k : Known) (fs : List Frame) (ks : List Known) (rest : List (List Frame)) : Type 0 where
  pub machine : IsOn ends t
  pub whole : t.state.half ≡ None
  pub file : HasFile (named_by names) k.thread.registers (value_in t.state)
  pub frameless : IsFrameless k.thread.registers
  pub stands : Before p names holds (under p names holds k.note.cell ks rest) t k.thread.activations fs ⊎ Behind p names holds (under p names holds k.note.cell ks rest) 0 t k.thread.activations fs

-- the thread has just been forked: the machine is at the second jump of the fork, which leads to the thread's first item
pub record IsForked (p : Program) (names : List (Held × ℕ)) (holds : ℕ → Bool) (ends : Ends) (t : Situation) (k : Known) (ks : List Known) (rest : List (List Frame)) : Type 0 where
  pub machine : IsOn ends t
  pub whole : t.state.half ≡ None
  pub file : HasFile (named_by names) k.thread.registers (value_in t.state)
  pub frameless : IsFrameless k.thread.registers
  pub first : Activation
  pub acts : k.thread.activations ≡ first ∷ []
  pub function : ProgramFunction
  pub here : slice_get p.functions first.function ≡ Some function
  pub start : first.next ≡ 0
  pub bytes : first.bytes ≡ replicate function.frame_bytes None
  pub handles : first.handles ≡ replicate function.slots None
  pub kind : first.kind ≡ Forked
  pub behind : IsBehind Postprocessed p t.state.pc
  pub jumps : JumpsTo Postprocessed p t.state.pc registers.Ra (address_in Postprocessed p first.function function first.next)
  pub below : under p names holds k.note.cell ks rest Forked first.kept t.word (value_in t.state) (register t.state registers.S0) (t.state.pc + 4)

-- ---- where frames lie

-- Below sp the worker holds all words of its stack, and none of these frames lies there. gp is at least sp.
pub record HasRoom (holds : ℕ → Bool) (ends : Ends) (frames : List Frame) : Type 0 where
  pub low : 0x8000_0000 ≤ ends.lo
  pub high : ends.hi < 0x8000_0000 + 2 ^ 32
  pub above : ends.lo ≤ ends.sp
  pub within : ends.sp ≤ ends.hi
  pub even : ends.sp % 16 ≡ 0
  pub own : (q : ℕ) → place_of ends.lo ≤ q → q < place_of ends.sp → holds q ≡ true
  pub clear : AreApart (record { low = ends.lo; base = ends.sp }) frames

-- ---- at an entry

-- an item of the thread, behind its newest activation's prologue, has called the entry with its first word
pub record AtCall (p : Program) (names : List (Held × ℕ)) (holds : ℕ → Bool) (ends : Ends) (u : Situation) (k : Known) (fs : List Frame) (ks : List Known) (rest : List (List Frame)) (entry : ℕ) : Type 0 where
  pub top : Activation
  pub older : List Activation
  pub acts : k.thread.activations ≡ top ∷ older
  pub f : Frame
  pub gs : List Frame
  pub frames : fs ≡ f ∷ gs
  pub function : ProgramFunction
  pub item : Item
  pub has : HasItem p top.function function top.next item
  pub begun : 0 < top.next
  pub enters : Enters item.kind entry
  pub lies : LiesAt holds function (register u.state registers.S0) f
  pub call : AtEntry Postprocessed p (named_by names) (Below p (named_by names) holds (under p names holds k.note.cell ks rest) older gs) ends f.low u top k.thread.registers function entry

-- The last activation of a thread of this cell has left, and what lies below it is at the entry that ends it: nothing, or a thread behind its fork, whose
-- register is to have the cell.
abbrev pub IsLast : Program → List (Held × ℕ) → (ℕ → Bool) → Situation → ℕ → List Known → List (List Frame) → Type 0
IsLast p names holds u cell [] [] = u.state.pc ≡ 0x30
IsLast p names holds u cell [] (fs ∷ rest) = ⊥
IsLast p names holds u cell (k ∷ ks) [] = ⊥
IsLast p names holds u cell (k ∷ ks) (fs ∷ rest) =
    (u.state.pc ≡ fork_out) × ((ret : ℕ) × (handle : Reg) × (register u.state registers.Ra ≡ ret + 4) × HasForked p ret handle k.thread.activations × HoldsOver (named_by names) k.thread.registers (put_value (reg_number handle) cell (value_in u.state))
    × FromNewest p (named_by names) holds (under p names holds k.note.cell ks rest) 0 (ret + 4) (register u.state registers.S0) u.word (put_value (reg_number handle) cell (value_in u.state)) k.thread.activations fs)

-- the thread has ended with the value
pub record AtLast (p : Program) (names : List (Held × ℕ)) (holds : ℕ → Bool) (ends : Ends) (u : Situation) (cell value : ℕ) (ks : List Known) (rest : List (List Frame)) : Type 0 where
  pub machine : IsOn ends u
  pub whole : u.state.half ≡ None
  pub value_is : register u.state registers.A0 ≡ value
  pub last : IsLast p names holds u cell ks rest
