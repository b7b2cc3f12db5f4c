-- What is defined along the items of a function. A place is a number: a register by its number, and the byte b of the frame, counted
-- from its low end, as 32 + b. A set of places is a test. Read flow (what is defined after an item), Leads and defined_after (single
-- paths of items) and UndefinedRead (a path to a read of something that no item on it has defined).
use Rattle.std.specs.Prelude.{◌≡◌, ◌⊎◌, ℕ, ◌+◌, Bool, true, false, ◌==◌, ◌||◌, ◌&&◌, not, nat_lt, nat_le, List, [], ◌∷◌, Option, Some, None, slice_get}
use Rattle.st_base.specs.Reg.{reg_number}
use Rattle.st_rv.specs.declared.ins.Ins.{Ins}
use Rattle.st_rv.specs.declared.ins.OpKind.{OpKind}
use Rattle.st_rv.specs.declared.ins.OpKind.TheVariants.{Register, Immediate, Upper, Load, Store, Branch as Branch', Jump as Jump', Break}
use Rattle.st_rv.specs.Op.{kind_of}
use Rattle.st_model.specs.declared.program.Item.{Item}
use Rattle.st_model.specs.declared.program.ItemKind.{ItemKind}
use Rattle.st_model.specs.declared.program.ItemKind.TheVariants.{Prologue, Epilogue, Plain, Li, Branch, Jump, Call, Entry, Fork}
use Rattle.st_model.specs.declared.program.RuntimeCall.{RuntimeCall}
use Rattle.st_model.specs.declared.program.RuntimeCall.TheVariants.{Touch, Counter, Done, Join, Poll, Putc}
use Rattle.st_model.specs.declared.program.Program.{Program}
use Rattle.st_model.specs.declared.program.ProgramFunction.{ProgramFunction}
use Rattle.st_rv.specs.Results.{access_size}
use Rattle.st_model.specs.Memory.{slot_place}
use Rattle.st_model.specs.Effect.{is_frame, runtime_call}

-- a set of places
abbrev pub Defined : Type 0
Defined = ℕ → Bool

abbrev pub between : ℕ → ℕ → ℕ → Bool
between low high x = nat_le low x && nat_lt x high

-- a call takes definition from ra, a0 to a7 and t0 to t5
abbrev pub taken_by_call : ℕ → Bool
taken_by_call x = x == 1 || between 5 8 x || between 10 18 x || between 28 31 x

abbrev pub takes : ItemKind → ℕ → Bool
takes Prologue x = false
takes Epilogue x = false
takes (Plain i) x = false
takes (Li rd value) x = false
takes (Branch op rs1 rs2 to) x = false
takes (Jump to) x = false
takes (Call f) x = taken_by_call x
takes (Entry at) x = taken_by_call x
takes (Fork f handle) x = taken_by_call x

-- the k bytes of a slot access
abbrev pub slot_bytes : ℕ → ℕ → Ins → ℕ → Bool
slot_bytes frame k i x = between (32 + slot_place frame i.imm) (32 + slot_place frame i.imm + k) x

abbrev pub gives_as : OpKind → ℕ → Ins → ℕ → Bool
gives_as Register frame i x = x == reg_number i.rd
gives_as Immediate frame i x = x == reg_number i.rd
gives_as Upper frame i x = x == reg_number i.rd
gives_as Load frame i x = x == reg_number i.rd
gives_as Store frame i x = slot_bytes frame (access_size i.op) i x
gives_as Branch' frame i x = false
gives_as Jump' frame i x = false
gives_as Break frame i x = false

abbrev pub plain_gives : ℕ → Ins → ℕ → Bool
plain_gives frame i x = gives_as (kind_of i.op) frame i x

abbrev pub entry_gives : RuntimeCall → ℕ → Bool
entry_gives Touch x = x == 10
entry_gives Counter x = x == 16
entry_gives Done x = false
entry_gives Join x = false
entry_gives Poll x = false
entry_gives Putc x = false

abbrev pub call_gives : Option RuntimeCall → ℕ → Bool
call_gives None x = false
call_gives (Some call) x = entry_gives call x

-- what an item defines, in a frame of so many bytes
abbrev pub gives : ℕ → ItemKind → ℕ → Bool
gives frame Prologue x = false
gives frame Epilogue x = false
gives frame (Plain i) x = plain_gives frame i x
gives frame (Li rd value) x = x == reg_number rd
gives frame (Branch op rs1 rs2 to) x = false
gives frame (Jump to) x = false
gives frame (Call f) x = x == 10
gives frame (Entry at) x = call_gives (runtime_call at) x
gives frame (Fork f handle) x = x == reg_number handle

-- integers in a0 to a(K-1), handles in a6 and a7
abbrev pub is_argument : ℕ → ℕ → ℕ → Bool
is_argument ints handles x = between 10 (10 + ints) x || between 16 (16 + handles) x

abbrev pub argument_of : Option ProgramFunction → ℕ → Bool
argument_of None x = false
argument_of (Some function) x = is_argument function.ints function.handles x

-- a load reads its slot bytes, or its base
abbrev pub load_reads : Bool → ℕ → Ins → ℕ → Bool
load_reads true frame i x = slot_bytes frame (access_size i.op) i x
load_reads false frame i x = x == reg_number i.rs1

abbrev pub reads_as : OpKind → ℕ → Ins → ℕ → Bool
reads_as Register frame i x = x == reg_number i.rs1 || x == reg_number i.rs2
reads_as Immediate frame i x = x == reg_number i.rs1
reads_as Upper frame i x = false
reads_as Load frame i x = load_reads (is_frame i.rs1) frame i x
reads_as Store frame i x = x == reg_number i.rs2
reads_as Branch' frame i x = false
reads_as Jump' frame i x = false
reads_as Break frame i x = false

abbrev pub plain_reads : ℕ → Ins → ℕ → Bool
plain_reads frame i x = reads_as (kind_of i.op) frame i x

abbrev pub entry_reads : RuntimeCall → ℕ → Bool
entry_reads Touch x = x == 16
entry_reads Counter x = false
entry_reads Done x = x == 16
entry_reads Join x = x == 16 || x == 10
entry_reads Poll x = false
entry_reads Putc x = x == 10

abbrev pub call_reads : Option RuntimeCall → ℕ → Bool
call_reads None x = false
call_reads (Some call) x = entry_reads call x

-- what an item reads
abbrev pub reads : Program → ℕ → ItemKind → ℕ → Bool
reads p frame Prologue x = false
reads p frame Epilogue x = x == 10
reads p frame (Plain i) x = plain_reads frame i x
reads p frame (Li rd value) x = false
reads p frame (Branch op rs1 rs2 to) x = x == reg_number rs1 || x == reg_number rs2
reads p frame (Jump to) x = false
reads p frame (Call f) x = argument_of (slice_get p.functions f) x
reads p frame (Entry at) x = call_reads (runtime_call at) x
reads p frame (Fork f handle) x = argument_of (slice_get p.functions f) x

-- what is defined after an item
abbrev pub flow : ℕ → ItemKind → Defined → Defined
flow frame kind d x = gives frame kind x || (d x && not (takes kind x))

-- what is defined at entry
abbrev pub defined_at_entry : ProgramFunction → Defined
defined_at_entry function x = x == 0 || is_argument function.ints function.handles x

-- ebreak has no next item
abbrev pub IsNextOfPlain : OpKind → ℕ → ℕ → Type 0
IsNextOfPlain Break i j = ⊥
IsNextOfPlain _ i j = j ≡ i + 1

-- the item at j is a successor of the one at i
abbrev pub IsNext : ItemKind → ℕ → ℕ → Type 0
IsNext Prologue i j = j ≡ i + 1
IsNext Epilogue i j = ⊥
IsNext (Plain x) i j = IsNextOfPlain (kind_of x.op) i j
IsNext (Li rd value) i j = j ≡ i + 1
IsNext (Branch op rs1 rs2 to) i j = (j ≡ i + 1) ⊎ (j ≡ to)
IsNext (Jump to) i j = j ≡ to
IsNext (Call f) i j = j ≡ i + 1
IsNext (Entry at) i j = j ≡ i + 1
IsNext (Fork f handle) i j = j ≡ i + 1

-- a path of items from the prologue to the one at i, the last before it first
abbrev pub Leads : ProgramFunction → List ℕ → ℕ → Type 0
Leads function [] i = i ≡ 0
Leads function (j ∷ back) i = Leads function back j × ((item : Item) × (slice_get function.items j ≡ Some item) × IsNext item.kind j i)

abbrev pub flow_of : ℕ → Option Item → Defined → Defined
flow_of frame None d = d
flow_of frame (Some item) d = flow frame item.kind d

-- what is defined after a path
abbrev pub defined_after : ProgramFunction → List ℕ → Defined
defined_after function [] = defined_at_entry function
defined_after function (j ∷ back) = flow_of function.frame_bytes (slice_get function.items j) (defined_after function back)

-- a path to a read of something that is not defined there
pub record UndefinedRead (p : Program) (function : ProgramFunction) : Type 0 where
  pub back : List ℕ
  pub at : ℕ
  pub item : Item
  pub place : ℕ
  pub leads : Leads function back at
  pub here : slice_get function.items at ≡ Some item
  pub reads : reads p function.frame_bytes item.kind place ≡ true
  pub undefined : defined_after function back place ≡ false
