-- Activations in memory, for any layout and any stacks: registers and words stand for what an activation holds, a name standing as the number of
-- its cell by a naming. Read IsHeldAs, HasFile and HasSlots (an activation's slots from its frame's low end on), with_saved_values (the registers
-- of a caller) and IsCaller (an activation that has called).
use Rattle.std.specs.Prelude.{◌≡◌, ℕ, ◌+◌, ◌-◌, ◌*◌, ◌/◌, ◌%◌, ◌^◌, ◌<◌, ◌≤◌, ◌==◌, ◌||◌, Bool, true, List, [], ◌∷◌, length, Some, None, slice_get, slice_index, slice_index_or, if◌then◌else◌}
use Rattle.st_base.specs.declared.reg.Reg.{Reg}
use Rattle.st_base.specs.Reg.{reg_number}
use Rattle.st_base.specs.declared.thread.Held.{Held}
use Rattle.st_base.specs.declared.thread.Held.TheVariants.{Number, Future, Counter}
use Rattle.st_base.specs.declared.thread.Activation.{Activation}
use Rattle.st_base.specs.declared.thread.ActivationKind.{ActivationKind}
use Rattle.st_base.specs.declared.thread.ActivationKind.TheVariants.{Called, Forked, Root}
use Rattle.st_model.specs.declared.code.Layout.{Layout}
use Rattle.st_model.specs.declared.program.Item.{Item}
use Rattle.st_model.specs.declared.program.ItemKind.{ItemKind}
use Rattle.st_model.specs.declared.program.ItemKind.TheVariants.{Fork}
use Rattle.st_model.specs.declared.program.Program.{Program}
use Rattle.st_model.specs.declared.program.ProgramFunction.{ProgramFunction}
use Rattle.st_model.specs.Accepted.{slots_end}
use Rattle.st_model.specs.Effect.{File}
use Rattle.st_model.specs.Flow.{between}
use Rattle.st_model.specs.Layout.{function_address, item_place}
use Rattle.st_words.specs.Steps.{place_of}
use Rattle.st_step.specs.declared.state.State.{State}
use Rattle.st_step.specs.Runs.{saved_word}

-- ---- registers

-- which number is that of the cell of a name
abbrev pub Naming : Type 1
Naming = Held → ℕ → Type 0

-- a number stands for itself, a name as the number of its cell
abbrev pub IsHeldAs : Naming → Held → ℕ → Type 0
IsHeldAs names (Number k) n = n ≡ k
IsHeldAs names (Future path) n = names (Future path) n
IsHeldAs names (Counter maker k) n = names (Counter maker k) n

-- what the machine's registers hold, by their numbers
abbrev pub value_in : State → ℕ → ℕ
value_in m x = slice_index m.registers x

-- each register that holds something has that for its value
abbrev pub HasFile : Naming → File → (ℕ → ℕ) → Type 0
HasFile names file value = (x : ℕ) (held : Held) → slice_index_or file x None ≡ Some held → IsHeldAs names held (value x)

-- ra, sp and s0 hold nothing
pub record IsFrameless (file : File) : Type 0 where
  pub long : length file ≡ 32
  pub ra : slice_index_or file 1 None ≡ None
  pub sp : slice_index_or file 2 None ≡ None
  pub fp : slice_index_or file 8 None ≡ None

-- zero and s1 to s11, which a call keeps
abbrev pub is_kept : ℕ → Bool
is_kept x = x == 0 || x == 9 || between 18 28 x

-- no other register holds anything
abbrev pub HoldsKept : File → Type 0
HoldsKept file = (x : ℕ) (held : Held) → slice_index_or file x None ≡ Some held → is_kept x ≡ true

-- ---- slots

-- the byte at an address
abbrev pub byte_at : (ℕ → ℕ) → ℕ → ℕ
byte_at word address = word (place_of address) / 2 ^ (8 * (address % 8)) % 256

-- what the activation has in its slots is in memory, from the frame's low end on
pub record HasSlots (names : Naming) (function : ProgramFunction) (a : Activation) (word : ℕ → ℕ) (low : ℕ) : Type 0 where
  pub bytes_long : length a.bytes ≡ function.frame_bytes
  pub handles_long : length a.handles ≡ function.slots
  pub bytes : (k v : ℕ) → 8 * function.slots ≤ k → k < slots_end function → slice_index_or a.bytes k None ≡ Some v → byte_at word (low + k) ≡ v
  pub handles : (k : ℕ) (held : Held) → k < function.slots → slice_index_or a.handles k None ≡ Some held → IsHeldAs names held (word (place_of low + k))

-- ---- callers

-- the caller's registers: the saved ones are in the frame whose base is b, from the k-th on
abbrev pub with_saved_values : (ℕ → ℕ) → ℕ → ℕ → List Reg → (ℕ → ℕ) → ℕ → ℕ
with_saved_values word b k [] value x = value x
with_saved_values word b k (r ∷ rs) value x = if reg_number r == x then word (saved_word b k) else with_saved_values word b (k + 1) rs value x

abbrev pub IsFork : ItemKind → Type 0
IsFork (Fork f handle) = Prim.Unit
IsFork _ = ⊥

-- the address of an item's first word in a layout
abbrev pub address_in : Layout → Program → ℕ → ProgramFunction → ℕ → ℕ
address_in layout p f function i = function_address layout p f + 4 * item_place layout function i

-- where a call comes back to in its caller: to the next item, of a fork to its third jump
abbrev pub ComesBack : Layout → Program → ActivationKind → Activation → ProgramFunction → ℕ → Type 0
ComesBack layout p Called a function ret = ret ≡ address_in layout p a.function function a.next
ComesBack layout p Forked a function ret = (ret + 4 ≡ address_in layout p a.function function a.next) × ((item : Item) × (slice_get function.items (a.next - 1) ≡ Some item) × IsFork item.kind)
ComesBack layout p Root a function ret = ⊥

-- an activation that has made a call of this kind, which comes back to `ret` and keeps the registers `kept` for it; its frame lies from `low` up to
-- its base fp
pub record IsCaller (layout : Layout) (p : Program) (names : Naming) (word : ℕ → ℕ) (value : ℕ → ℕ) (low fp ret : ℕ) (kind : ActivationKind) (kept : File) (a : Activation) (function : ProgramFunction) : Type 0 where
  pub here : slice_get p.functions a.function ≡ Some function
  pub begun : 0 < a.next
  pub base : fp ≡ low + function.frame_bytes
  pub back : ComesBack layout p kind a function ret
  pub file : HasFile names kept value
  pub long : length kept ≡ 32
  pub holds : HoldsKept kept
  pub slots : HasSlots names function a word low
