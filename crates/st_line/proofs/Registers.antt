-- The names of registers are read back (register_name-read).
use Rattle.std.proofs.Common.{◌≡◌, Some, refl}
use Rattle.st_base.specs.declared.reg.Reg.{Reg}
use Rattle.st_base.specs.declared.reg.Reg.TheVariants as registers
use Rattle.st_line.specs.Operands.{register_named}
use Rattle.st_line.specs.Registers.{register_name}

pub register_name-read : (r : Reg) → register_named (register_name r) ≡ Some r
register_name-read registers.Zero = refl
register_name-read registers.Ra = refl
register_name-read registers.Sp = refl
register_name-read registers.Gp = refl
register_name-read registers.Tp = refl
register_name-read registers.T0 = refl
register_name-read registers.T1 = refl
register_name-read registers.T2 = refl
register_name-read registers.S0 = refl
register_name-read registers.S1 = refl
register_name-read registers.A0 = refl
register_name-read registers.A1 = refl
register_name-read registers.A2 = refl
register_name-read registers.A3 = refl
register_name-read registers.A4 = refl
register_name-read registers.A5 = refl
register_name-read registers.A6 = refl
register_name-read registers.A7 = refl
register_name-read registers.S2 = refl
register_name-read registers.S3 = refl
register_name-read registers.S4 = refl
register_name-read registers.S5 = refl
register_name-read registers.S6 = refl
register_name-read registers.S7 = refl
register_name-read registers.S8 = refl
register_name-read registers.S9 = refl
register_name-read registers.S10 = refl
register_name-read registers.S11 = refl
register_name-read registers.T3 = refl
register_name-read registers.T4 = refl
register_name-read registers.T5 = refl
register_name-read registers.T6 = refl
