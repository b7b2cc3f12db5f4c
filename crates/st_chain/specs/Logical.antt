-- The threads on one worker, as notes from the bottom thread to the top one. Contracts see them as Threads; IsPopped says what a pop takes out and leaves,
-- restarted where a machine goes on with a chain, and IsRestarted what that is register by register.
use Rattle.std.specs.Prelude.{◌≡◌, ◌≢◌, ◌⊎◌, ℕ, ◌+◌, ◌<◌, ◌≤◌, List, [], ◌∷◌, ◌++◌, length, Option, Some, None, slice_index}
use Rattle.st_base.specs.declared.chain.Chain.{Chain}
use Rattle.st_base.specs.declared.chain.Note.{Note}
use Rattle.st_base.specs.declared.reg.Reg.{Reg}
use Rattle.st_base.specs.declared.reg.Reg.TheVariants as registers
use Rattle.st_model.specs.Layout.{saveable}
use Rattle.st_step.specs.declared.state.State.{State}
use Rattle.st_step.specs.Frames.{value_in}
use Rattle.st_step.specs.Moves.{register, written, at_place}
use Rattle.st_chain.specs.declared.walk.Walk.{Walk}
use Rattle.st_chain.specs.Chains.{saved_value}
use Rattle.st_chain.specs.Seen.{SameKept}

-- the notes, the bottom thread's first, how many there is room for, and the walk of a taking that has begun
pub record Threads : Type 0 where
  pub notes : List Note
  pub room : ℕ
  pub «open» : Option Walk

-- the top thread is taken out, or there is none
abbrev pub IsPopped : List Note → Option Note → List Note → Type 0
IsPopped old (Some top) new = old ≡ new ++ top ∷ []
IsPopped old None new = (old ≡ []) × (new ≡ [])

-- as they are kept: there is room for one at least, and the memory is there
pub record HasRoom (notes : List Note) (room capacity : ℕ) : Type 0 where
  pub some : 1 ≤ room
  pub most : length notes ≤ room
  pub reserved : room ≤ capacity

-- ---- a chain goes on

-- these registers have the values from the k-th on
abbrev pub with_values : ℕ → List Reg → List ℕ → State → State
with_values k [] values m = m
with_values k (r ∷ rs) values m = with_values (k + 1) rs values (written m r (slice_index values k))

-- at the chain's place, with its frame pointer in s0 and its registers in s1 to s11
abbrev pub restarted : Chain → State → State
restarted c m = at_place c.pc (with_values 0 saveable c.saved (written m registers.S0 c.fp))

-- that is: s0 and the registers that a call keeps are the chain's, and the others are as they were
pub record IsRestarted (c : Chain) (m m' : State) : Type 0 where
  pub pc : m'.pc ≡ c.pc
  pub fp : register m' registers.S0 ≡ c.fp
  pub saved : SameKept (saved_value c.saved) (value_in m')
  pub others : (x : ℕ) → x ≢ 8 → x ≢ 9 → (x < 18) ⊎ (28 ≤ x) → value_in m' x ≡ value_in m x
  pub count : length m'.registers ≡ length m.registers
  pub lo : m'.lo ≡ m.lo
  pub hi : m'.hi ≡ m.hi
  pub whole : m'.half ≡ None
