-- What an instruction is to the machine where it was looked at before it runs: each role has its own move (role_move), which is that of
-- every instruction of the role (Suits).
use Rattle.std.specs.Prelude.{◌≡◌, ℕ, ◌+◌, Bool, true, false, nat_lt, if◌then◌else◌}
use Rattle.st_base.specs.declared.reg.Reg.TheVariants as registers
use Rattle.st_base.specs.declared.thread.TrapKind.TheVariants as traps
use Rattle.st_rv.specs.declared.ins.Op.{Op}
use Rattle.st_rv.specs.declared.ins.Op.TheVariants as ops
use Rattle.st_rv.specs.declared.ins.Ins.{Ins}
use Rattle.st_rv.specs.Results.{word_of, alu, computes, is_taken}
use Rattle.st_model.specs.Memory.{Data}
use Rattle.st_words.specs.Steps.{place_of}
use Rattle.st_step.specs.declared.state.State.{State}
use Rattle.st_step.specs.declared.machine.StepEnd.TheVariants.{Trap, StackFull}
use Rattle.st_step.specs.declared.decoded.Role.{Role}
use Rattle.st_step.specs.declared.decoded.Role.TheVariants as roles
use Rattle.st_step.specs.Moves.{Move, Goes, Reads, Writes, Marks, Stops, Outside, move_of, register, results, goes_on, at_place, from_pc, next_pc, bytes_of, in_one_word, address_of, frame_of, register_move, immediate_move, upper_move, stack_load, data_load, store_move, branch_move, jump_move}

-- the result of an operation on two registers, and on a register and an immediate
abbrev pub register_by : Op → State → Ins → Move
register_by op m i = Goes (results m i.rd (alu op (register m i.rs1) (register m i.rs2)))

abbrev pub immediate_by : Op → State → Ins → Move
immediate_by op m i = Goes (results m i.rd (alu op (register m i.rs1) (word_of i.imm)))

-- a sum with an immediate
abbrev pub sum_move : State → Ins → Move
sum_move m i = immediate_by ops.Addi m i

-- a frame is made where the stack has room for it
abbrev pub frame_move : State → Ins → Move
frame_move m i = if nat_lt (register m registers.Sp) (m.lo + frame_of i) then Stops (StackFull (frame_of i)) else sum_move m i

-- a whole word of the stack at an address, where one stands there
abbrev pub word_at : ℕ → (ℕ → Move) → Move
word_at address go = if in_one_word address 8 then go (place_of address) else Outside

abbrev pub word_load : State → Ins → ℕ → Move
word_load m i place = Reads place (λ n. results m i.rd (bytes_of n 0 8))

abbrev pub branched : State → Ins → Bool → Move
branched m i taken = Goes (at_place (if taken then from_pc m.pc i.imm else next_pc m.pc) m)

abbrev pub branch_by : Op → State → Ins → Move
branch_by op m i = branched m i (is_taken op (register m i.rs1) (register m i.rs2))

unfoldable pub role_move : Role → Data → State → Ins → Move
role_move roles.Sum d m i = register_by ops.Add m i
role_move roles.Difference d m i = register_by ops.Sub m i
role_move roles.Product d m i = register_by ops.Mul m i
role_move roles.And d m i = register_by ops.And m i
role_move roles.Or d m i = register_by ops.Or m i
role_move roles.Xor d m i = register_by ops.Xor m i
role_move roles.SumImmediate d m i = sum_move m i
role_move roles.AndImmediate d m i = immediate_by ops.Andi m i
role_move roles.XorImmediate d m i = immediate_by ops.Xori m i
role_move roles.LeftShift d m i = immediate_by ops.Slli m i
role_move roles.RightShift d m i = immediate_by ops.Srli m i
role_move roles.LessImmediate d m i = immediate_by ops.Sltiu m i
role_move roles.Frame d m i = frame_move m i
role_move roles.Register d m i = register_move m i
role_move roles.Immediate d m i = immediate_move m i
role_move roles.Upper d m i = upper_move m i
role_move roles.WordLoad d m i = word_at (address_of m i) (word_load m i)
role_move roles.StackLoad d m i = stack_load m i (address_of m i)
role_move roles.DataLoad d m i = data_load d m i (address_of m i)
role_move roles.WordStore d m i = word_at (address_of m i) (λ place. Writes place (register m i.rs2) (goes_on m))
role_move roles.Mark d m i = word_at (address_of m i) (λ place. Marks place (goes_on m))
role_move roles.Store d m i = store_move m i
role_move roles.Equal d m i = branch_by ops.Beq m i
role_move roles.Unequal d m i = branch_by ops.Bne m i
role_move roles.Less d m i = branch_by ops.Blt m i
role_move roles.NotLess d m i = branch_by ops.Bge m i
role_move roles.LessUnsigned d m i = branch_by ops.Bltu m i
role_move roles.NotLessUnsigned d m i = branch_by ops.Bgeu m i
role_move roles.Branch d m i = branch_move m i
role_move roles.Jump d m i = jump_move false m i
role_move roles.IndirectJump d m i = jump_move true m i
role_move roles.Break d m i = Stops (Trap traps.Abort)

-- an instruction of these roles computes its result
abbrev pub has_result : Role → Ins → Bool
has_result roles.Register i = computes i.op
has_result roles.Immediate i = computes i.op
has_result roles.Upper i = computes i.op
has_result _ i = true

-- the move of the instruction is that of this role
pub record Suits (role : Role) (i : Ins) : Type 0 where
  pub moves : (d : Data) (m : State) → role_move role d m i ≡ move_of d m i
  pub computed : has_result role i ≡ true
