-- Ways of the machine through the words of an item, in either layout. Read IsInside (where no item begins), OnWay (so many instructions inside
-- of items), Leads (an item's first instruction and the rest of it: that is what the laws on items give), JumpsTo (a jump stands at an
-- address) and linked (where a jump leads that leaves the address behind it in ra).
use Rattle.std.specs.Prelude.{◌≡◌, ◌≢◌, ◌⊎◌, ℕ, zero, suc, ◌+◌, ◌*◌, ◌<◌, ◌≤◌, ℤ, Bool, Some, None}
use Rattle.st_base.specs.declared.reg.Reg.{Reg}
use Rattle.st_base.specs.declared.reg.Reg.TheVariants as registers
use Rattle.st_rv.specs.declared.ins.Ins.{Ins}
use Rattle.st_rv.specs.declared.ins.Op.TheVariants as ops
use Rattle.st_model.specs.declared.program.Item.{Item}
use Rattle.st_model.specs.declared.program.Program.{Program}
use Rattle.st_model.specs.declared.program.ProgramFunction.{ProgramFunction}
use Rattle.st_model.specs.declared.code.Layout.{Layout}
use Rattle.st_model.specs.Layout.{item_size, upper_ins}
use Rattle.st_model.specs.Memory.{Data}
use Rattle.st_step.specs.declared.state.State.{State as MachineState}
use Rattle.st_step.specs.Moves.{move_of, written, at_place, from_pc}
use Rattle.st_step.specs.Runs.{Situation, moved}
use Rattle.st_step.specs.Frames.{address_in}
use Rattle.st_items.specs.Code.{code_at, HasItem}

-- at a word of an item behind its first
pub record IsBehind (layout : Layout) (p : Program) (pc : ℕ) : Type 0 where
  pub f : ℕ
  pub function : ProgramFunction
  pub i : ℕ
  pub item : Item
  pub has : HasItem p f function i item
  pub k : ℕ
  pub some : 0 < k
  pub few : k < item_size layout function item.kind
  pub at : pc ≡ address_in layout p f function i + 4 * k

-- or in the middle of a short store
abbrev pub IsInside : Layout → Program → MachineState → Type 0
IsInside layout p m = (m.half ≢ None) ⊎ IsBehind layout p m.pc

-- the instruction at the pc goes to another situation
pub record Makes (layout : Layout) (p : Program) (d : Data) (held : ℕ → Bool) (s u : Situation) : Type 0 where
  pub ins : Ins
  pub there : code_at layout p s.state.pc ≡ Some ins
  pub goes : moved held s (move_of d s.state ins) ≡ Some u

-- so many instructions, all of them inside of items, lead to a situation
abbrev pub OnWay : Layout → Program → Data → (ℕ → Bool) → ℕ → Situation → Situation → Type 0
OnWay layout p d held zero s t = s ≡ t
OnWay layout p d held (suc n) s t = IsInside layout p s.state × ((u : Situation) × Makes layout p d held s u × OnWay layout p d held n u t)

-- an instruction, and so many more inside of items
abbrev pub LeadsBy : Layout → Program → Data → (ℕ → Bool) → ℕ → Situation → Situation → Type 0
LeadsBy layout p d held n s t = (u : Situation) × Makes layout p d held s u × OnWay layout p d held n u t

-- an item's first instruction and the rest of it, which is at most 20 more
abbrev pub Leads : Layout → Program → Data → (ℕ → Bool) → Situation → Situation → Type 0
Leads layout p d held s t = (u : Situation) × Makes layout p d held s u × ((n : ℕ) × (n ≤ 20) × OnWay layout p d held n u t)

-- at an address stands a jump to another, which leaves the next address in a register
pub record JumpsTo (layout : Layout) (p : Program) (pc : ℕ) (rd : Reg) (target : ℕ) : Type 0 where
  pub distance : ℤ
  pub there : code_at layout p pc ≡ Some (upper_ins ops.Jal rd distance)
  pub goes : from_pc pc distance ≡ target

-- at a target, with the address behind in ra
abbrev pub linked : Situation → ℕ → Situation
linked t target = record { state = at_place target (written t.state registers.Ra (t.state.pc + 4)); word = t.word }
