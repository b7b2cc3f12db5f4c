use Rattle.st_step.proofs.RolesSuit.{sum_suits, difference_suits, product_suits, and_suits, or_suits, xor_suits, and_immediate_suits, xor_immediate_suits, left_shift_suits, right_shift_suits, less_immediate_suits, equal_suits, unequal_suits, less_suits, not_less_suits, less_unsigned_suits, not_less_unsigned_suits}
use Rattle.st_step.proofs.decoded.role_of.Goals as goal

pub returns-in-Add : goal.returns-in-Add
returns-in-Add c = sum_suits c.args.i c.in-Add.is

pub returns-in-Sub : goal.returns-in-Sub
returns-in-Sub c = difference_suits c.args.i c.in-Sub.is

pub returns-in-Mul : goal.returns-in-Mul
returns-in-Mul c = product_suits c.args.i c.in-Mul.is

pub returns-in-And : goal.returns-in-And
returns-in-And c = and_suits c.args.i c.in-And.is

pub returns-in-Or : goal.returns-in-Or
returns-in-Or c = or_suits c.args.i c.in-Or.is

pub returns-in-Xor : goal.returns-in-Xor
returns-in-Xor c = xor_suits c.args.i c.in-Xor.is

pub returns-in-Andi : goal.returns-in-Andi
returns-in-Andi c = and_immediate_suits c.args.i c.in-Andi.is

pub returns-in-Xori : goal.returns-in-Xori
returns-in-Xori c = xor_immediate_suits c.args.i c.in-Xori.is

pub returns-in-Slli : goal.returns-in-Slli
returns-in-Slli c = left_shift_suits c.args.i c.in-Slli.is

pub returns-in-Srli : goal.returns-in-Srli
returns-in-Srli c = right_shift_suits c.args.i c.in-Srli.is

pub returns-in-Sltiu : goal.returns-in-Sltiu
returns-in-Sltiu c = less_immediate_suits c.args.i c.in-Sltiu.is

pub returns-in-Beq : goal.returns-in-Beq
returns-in-Beq c = equal_suits c.args.i c.in-Beq.is

pub returns-in-Bne : goal.returns-in-Bne
returns-in-Bne c = unequal_suits c.args.i c.in-Bne.is

pub returns-in-Blt : goal.returns-in-Blt
returns-in-Blt c = less_suits c.args.i c.in-Blt.is

pub returns-in-Bge : goal.returns-in-Bge
returns-in-Bge c = not_less_suits c.args.i c.in-Bge.is

pub returns-in-Bltu : goal.returns-in-Bltu
returns-in-Bltu c = less_unsigned_suits c.args.i c.in-Bltu.is

pub returns-in-Bgeu : goal.returns-in-Bgeu
returns-in-Bgeu c = not_less_unsigned_suits c.args.i c.in-Bgeu.is
