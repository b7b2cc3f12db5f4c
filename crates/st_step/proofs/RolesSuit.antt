-- Which role suits an instruction (Suits), by its operation or its kind, and by the registers and the immediate that it has.
use Rattle.std.proofs.Common.{◌≡◌, ℕ, ◌+◌, ◌%◌, ◌^◌, Bool, true, false, ◌&&◌, ◌==◌, int_lt, pos, refl, sym, ap, ◌∙◌, arith, nat_le, nat_lt, if◌then◌else◌}
use Rattle.std.proofs.lemmas.Bool.{leb-true}
use Rattle.st_base.specs.declared.reg.Reg.TheVariants as registers
use Rattle.st_base.specs.Reg.{reg_number}
use Rattle.st_rv.specs.declared.ins.Op.{Op}
use Rattle.st_rv.specs.declared.ins.Op.TheVariants as ops
use Rattle.st_rv.specs.declared.ins.OpKind.{OpKind}
use Rattle.st_rv.specs.declared.ins.OpKind.TheVariants as kinds
use Rattle.st_rv.specs.Op.{kind_of, op_number}
use Rattle.st_rv.specs.declared.ins.Ins.{Ins}
use Rattle.st_rv.specs.Results.{word_of, alu, kind_computes, access_size, extended}
use Rattle.st_model.specs.Memory.{Data}
use Rattle.st_words.specs.Steps.{place_of}
use Rattle.st_step.specs.declared.state.State.{State}
use Rattle.st_step.specs.declared.machine.StepEnd.TheVariants.{StackFull}
use Rattle.st_step.specs.declared.decoded.Role.TheVariants as roles
use Rattle.st_step.specs.Moves.{Move, Goes, Reads, Writes, Marks, Stops, Outside, move_of, move_as, register, results, goes_on, bytes_of, in_one_word, address_of, frame_of, makes_frame, is_stack, is_mark, stack_load, data_load, stack_store, short_store, jump_move}
use Rattle.st_step.specs.Roles.{Suits, role_move, register_by, immediate_by, branch_by, word_at, word_load}

-- the move of an instruction is that of its kind
of_kind : (d : Data) (m : State) (i : Ins) (k : OpKind) → kind_of i.op ≡ k → move_of d m i ≡ move_as k d m i
unfolding move_of
of_kind d m i k e = ap (λ (x : OpKind). move_as x d m i) e

of_op : (d : Data) (m : State) (i : Ins) (op : Op) (k : OpKind) → i.op ≡ op → kind_of op ≡ k → move_of d m i ≡ move_as k d m i
of_op d m i op k e f = of_kind d m i k (ap (λ (o : Op). kind_of o) e ∙ f)

-- ---- results

-- an operation on two registers
register_is : (d : Data) (m : State) (i : Ins) (op : Op) → kind_of op ≡ kinds.Register → i.op ≡ op → register_by op m i ≡ move_of d m i
register_is d m i op kind e = sym (of_op d m i op kinds.Register e kind ∙ ap (λ (o : Op). register_by o m i) e)

pub sum_suits : (i : Ins) → i.op ≡ ops.Add → Suits roles.Sum i
unfolding role_move
sum_suits i e = record { moves = λ d m. register_is d m i ops.Add refl e; computed = refl }

pub difference_suits : (i : Ins) → i.op ≡ ops.Sub → Suits roles.Difference i
unfolding role_move
difference_suits i e = record { moves = λ d m. register_is d m i ops.Sub refl e; computed = refl }

pub product_suits : (i : Ins) → i.op ≡ ops.Mul → Suits roles.Product i
unfolding role_move
product_suits i e = record { moves = λ d m. register_is d m i ops.Mul refl e; computed = refl }

pub and_suits : (i : Ins) → i.op ≡ ops.And → Suits roles.And i
unfolding role_move
and_suits i e = record { moves = λ d m. register_is d m i ops.And refl e; computed = refl }

pub or_suits : (i : Ins) → i.op ≡ ops.Or → Suits roles.Or i
unfolding role_move
or_suits i e = record { moves = λ d m. register_is d m i ops.Or refl e; computed = refl }

pub xor_suits : (i : Ins) → i.op ≡ ops.Xor → Suits roles.Xor i
unfolding role_move
xor_suits i e = record { moves = λ d m. register_is d m i ops.Xor refl e; computed = refl }

pub register_suits : (i : Ins) → kind_of i.op ≡ kinds.Register → Suits roles.Register i
unfolding role_move
register_suits i e = record { moves = λ d m. sym (of_kind d m i kinds.Register e); computed = ap (λ (k : OpKind). kind_computes k) e }

pub immediate_suits : (i : Ins) → kind_of i.op ≡ kinds.Immediate → Suits roles.Immediate i
unfolding role_move
immediate_suits i e = record { moves = λ d m. sym (of_kind d m i kinds.Immediate e); computed = ap (λ (k : OpKind). kind_computes k) e }

pub sum_immediate_suits : (i : Ins) → i.op ≡ ops.Addi → makes_frame i ≡ false → Suits roles.SumImmediate i
unfolding role_move
sum_immediate_suits i e isnt = record {
  moves = λ d m. sym (of_op d m i ops.Addi kinds.Immediate e refl
      ∙ ap (λ (b : Bool). if b && nat_lt (register m registers.Sp) (m.lo + frame_of i) then Stops (StackFull (frame_of i)) else Goes (results m i.rd (alu i.op (register m i.rs1) (word_of i.imm)))) isnt
      ∙ ap (λ (op : Op). Goes (results m i.rd (alu op (register m i.rs1) (word_of i.imm)))) e);
  computed = refl;
}

pub frame_suits : (i : Ins) → i.op ≡ ops.Addi → makes_frame i ≡ true → Suits roles.Frame i
unfolding role_move
frame_suits i e makes = record {
  moves = λ d m. sym (of_op d m i ops.Addi kinds.Immediate e refl
      ∙ ap (λ (b : Bool). if b && nat_lt (register m registers.Sp) (m.lo + frame_of i) then Stops (StackFull (frame_of i)) else Goes (results m i.rd (alu i.op (register m i.rs1) (word_of i.imm)))) makes
      ∙ ap (λ (op : Op). if nat_lt (register m registers.Sp) (m.lo + frame_of i) then Stops (StackFull (frame_of i)) else Goes (results m i.rd (alu op (register m i.rs1) (word_of i.imm)))) e);
  computed = refl;
}

-- an operation on a register and an immediate that isn't `addi`
immediate_is : (d : Data) (m : State) (i : Ins) (op : Op) → kind_of op ≡ kinds.Immediate → (op_number op == op_number ops.Addi) ≡ false → i.op ≡ op → immediate_by op m i ≡ move_of d m i
immediate_is d m i op kind other e =
    sym (of_op d m i op kinds.Immediate e kind
    ∙ ap (λ (b : Bool). if (b && (reg_number i.rd == reg_number registers.Sp) && (reg_number i.rs1 == reg_number registers.Sp) && int_lt i.imm (pos 0)) && nat_lt (register m registers.Sp) (m.lo + frame_of i) then Stops (StackFull (frame_of i)) else Goes (results m i.rd (alu i.op (register m i.rs1) (word_of i.imm)))) (ap (λ (o : Op). op_number o == op_number ops.Addi) e ∙ other)
    ∙ ap (λ (o : Op). immediate_by o m i) e)

pub and_immediate_suits : (i : Ins) → i.op ≡ ops.Andi → Suits roles.AndImmediate i
unfolding role_move
and_immediate_suits i e = record { moves = λ d m. immediate_is d m i ops.Andi refl refl e; computed = refl }

pub xor_immediate_suits : (i : Ins) → i.op ≡ ops.Xori → Suits roles.XorImmediate i
unfolding role_move
xor_immediate_suits i e = record { moves = λ d m. immediate_is d m i ops.Xori refl refl e; computed = refl }

pub left_shift_suits : (i : Ins) → i.op ≡ ops.Slli → Suits roles.LeftShift i
unfolding role_move
left_shift_suits i e = record { moves = λ d m. immediate_is d m i ops.Slli refl refl e; computed = refl }

pub right_shift_suits : (i : Ins) → i.op ≡ ops.Srli → Suits roles.RightShift i
unfolding role_move
right_shift_suits i e = record { moves = λ d m. immediate_is d m i ops.Srli refl refl e; computed = refl }

pub less_immediate_suits : (i : Ins) → i.op ≡ ops.Sltiu → Suits roles.LessImmediate i
unfolding role_move
less_immediate_suits i e = record { moves = λ d m. immediate_is d m i ops.Sltiu refl refl e; computed = refl }

pub upper_suits : (i : Ins) → kind_of i.op ≡ kinds.Upper → Suits roles.Upper i
unfolding role_move
upper_suits i e = record { moves = λ d m. sym (of_kind d m i kinds.Upper e); computed = ap (λ (k : OpKind). kind_computes k) e }

-- ---- loads

abbrev load_when : Data → State → Ins → Bool → Move
load_when d m i b = if b then stack_load m i (address_of m i) else data_load d m i (address_of m i)

pub data_load_suits : (i : Ins) → kind_of i.op ≡ kinds.Load → is_stack i.rs1 ≡ false → Suits roles.DataLoad i
unfolding role_move
data_load_suits i e away = record { moves = λ d m. sym (of_kind d m i kinds.Load e ∙ ap (load_when d m i) away); computed = refl }

pub stack_load_suits : (i : Ins) → kind_of i.op ≡ kinds.Load → is_stack i.rs1 ≡ true → Suits roles.StackLoad i
unfolding role_move
stack_load_suits i e there = record { moves = λ d m. sym (of_kind d m i kinds.Load e ∙ ap (load_when d m i) there); computed = refl }

-- in one word of eight bytes an access of eight begins at the first
begins_in : (b : Bool) (at : ℕ) → (b && nat_le (at + 8) 8) ≡ true → at ≡ 0
begins_in true at e = let most = leb-true (at + 8) 8 e in omega (arith, most)
begins_in false at e = absurd (let never : ⊥ = cc in never)

word_begins : (address : ℕ) → in_one_word address 8 ≡ true → address % 8 ≡ 0
word_begins address e = begins_in (nat_le 0x8000_0000 address && nat_lt address (0x8000_0000 + 2 ^ 32)) (address % 8) e

abbrev load_by : State → Ins → ℕ → Op → Move
load_by m i address op = if in_one_word address (access_size op) then Reads (place_of address) (λ n. results m i.rd (extended op (bytes_of n (address % 8) (access_size op)))) else Outside

word_loads : (m : State) (i : Ins) (address : ℕ) (b : Bool) → (b ≡ true → address % 8 ≡ 0)
    → (if b then Reads (place_of address) (λ n. results m i.rd (bytes_of n (address % 8) 8)) else Outside) ≡ (if b then word_load m i (place_of address) else Outside)
word_loads m i address true begins = ap (λ (k : ℕ). Reads (place_of address) (λ n. results m i.rd (bytes_of n k 8))) (begins refl)
word_loads m i address false begins = refl

load_of_word : (m : State) (i : Ins) (address : ℕ) → load_by m i address ops.Ld ≡ word_at address (word_load m i)
unfolding access_size extended
load_of_word m i address = word_loads m i address (in_one_word address 8) (word_begins address)

pub word_load_suits : (i : Ins) → i.op ≡ ops.Ld → is_stack i.rs1 ≡ true → Suits roles.WordLoad i
unfolding role_move
word_load_suits i e there = record { moves = λ d m. sym (of_op d m i ops.Ld kinds.Load e refl ∙ ap (load_when d m i) there ∙ ap (load_by m i (address_of m i)) e ∙ load_of_word m i (address_of m i)); computed = refl }

pub data_word_suits : (i : Ins) → i.op ≡ ops.Ld → is_stack i.rs1 ≡ false → Suits roles.DataLoad i
data_word_suits i e away = data_load_suits i (ap (λ (op : Op). kind_of op) e) away

-- ---- stores

pub store_suits : (i : Ins) → kind_of i.op ≡ kinds.Store → Suits roles.Store i
unfolding role_move
store_suits i e = record { moves = λ d m. sym (of_kind d m i kinds.Store e); computed = refl }

pub outer_store_suits : (i : Ins) → i.op ≡ ops.Sd → Suits roles.Store i
outer_store_suits i e = store_suits i (ap (λ (op : Op). kind_of op) e)

abbrev store_when : State → Ins → Bool → Move
store_when m i b = if b then stack_store m i (address_of m i) else Outside

-- a store of a size, which is the mark or isn't
abbrev store_by : State → Ins → Bool → ℕ → Move
store_by m i mark size = if in_one_word (address_of m i) size then (if size == 8 then (if mark then Marks (place_of (address_of m i)) (goes_on m) else Writes (place_of (address_of m i)) (register m i.rs2) (goes_on m)) else short_store m i (address_of m i) m.half) else Outside

word_size : (op : Op) → op ≡ ops.Sd → access_size op ≡ 8
unfolding access_size
word_size op e = ap (λ (o : Op). access_size o) e

stores : (d : Data) (m : State) (i : Ins) (mark : Bool) → i.op ≡ ops.Sd → is_stack i.rs1 ≡ true → is_mark i ≡ mark → move_of d m i ≡ store_by m i mark 8
stores d m i mark e there is =
    of_op d m i ops.Sd kinds.Store e refl ∙ ap (store_when m i) there ∙ ap (λ (b : Bool). store_by m i b (access_size i.op)) is ∙ ap (store_by m i mark) (word_size i.op e)

pub word_store_suits : (i : Ins) → i.op ≡ ops.Sd → is_stack i.rs1 ≡ true → is_mark i ≡ false → Suits roles.WordStore i
unfolding role_move
word_store_suits i e there isnt = record { moves = λ d m. sym (stores d m i false e there isnt); computed = refl }

pub mark_suits : (i : Ins) → i.op ≡ ops.Sd → is_stack i.rs1 ≡ true → is_mark i ≡ true → Suits roles.Mark i
unfolding role_move
mark_suits i e there is = record { moves = λ d m. sym (stores d m i true e there is); computed = refl }

-- ---- jumps

branch_is : (d : Data) (m : State) (i : Ins) (op : Op) → kind_of op ≡ kinds.Branch → i.op ≡ op → branch_by op m i ≡ move_of d m i
branch_is d m i op kind e = sym (of_op d m i op kinds.Branch e kind ∙ ap (λ (o : Op). branch_by o m i) e)

pub equal_suits : (i : Ins) → i.op ≡ ops.Beq → Suits roles.Equal i
unfolding role_move
equal_suits i e = record { moves = λ d m. branch_is d m i ops.Beq refl e; computed = refl }

pub unequal_suits : (i : Ins) → i.op ≡ ops.Bne → Suits roles.Unequal i
unfolding role_move
unequal_suits i e = record { moves = λ d m. branch_is d m i ops.Bne refl e; computed = refl }

pub less_suits : (i : Ins) → i.op ≡ ops.Blt → Suits roles.Less i
unfolding role_move
less_suits i e = record { moves = λ d m. branch_is d m i ops.Blt refl e; computed = refl }

pub not_less_suits : (i : Ins) → i.op ≡ ops.Bge → Suits roles.NotLess i
unfolding role_move
not_less_suits i e = record { moves = λ d m. branch_is d m i ops.Bge refl e; computed = refl }

pub less_unsigned_suits : (i : Ins) → i.op ≡ ops.Bltu → Suits roles.LessUnsigned i
unfolding role_move
less_unsigned_suits i e = record { moves = λ d m. branch_is d m i ops.Bltu refl e; computed = refl }

pub not_less_unsigned_suits : (i : Ins) → i.op ≡ ops.Bgeu → Suits roles.NotLessUnsigned i
unfolding role_move
not_less_unsigned_suits i e = record { moves = λ d m. branch_is d m i ops.Bgeu refl e; computed = refl }

pub branch_suits : (i : Ins) → kind_of i.op ≡ kinds.Branch → Suits roles.Branch i
unfolding role_move
branch_suits i e = record { moves = λ d m. sym (of_kind d m i kinds.Branch e); computed = refl }

pub jump_suits : (i : Ins) → kind_of i.op ≡ kinds.Jump → (op_number i.op == op_number ops.Jalr) ≡ false → Suits roles.Jump i
unfolding role_move
jump_suits i e isnt = record { moves = λ d m. sym (of_kind d m i kinds.Jump e ∙ ap (λ (b : Bool). jump_move b m i) isnt); computed = refl }

pub indirect_jump_suits : (i : Ins) → kind_of i.op ≡ kinds.Jump → (op_number i.op == op_number ops.Jalr) ≡ true → Suits roles.IndirectJump i
unfolding role_move
indirect_jump_suits i e is = record { moves = λ d m. sym (of_kind d m i kinds.Jump e ∙ ap (λ (b : Bool). jump_move b m i) is); computed = refl }

pub break_suits : (i : Ins) → kind_of i.op ≡ kinds.Break → Suits roles.Break i
unfolding role_move
break_suits i e = record { moves = λ d m. sym (of_kind d m i kinds.Break e); computed = refl }
