-- The name of a register in the table of registers is its name by the calling convention (register_text_same).
use Rattle.std.proofs.Common.{◌≡◌, refl}
use Rattle.st_base.specs.declared.reg.Reg.{Reg}
use Rattle.st_base.specs.declared.reg.Reg.TheVariants as registers
use Rattle.st_line.specs.Registers.{register_name}
use Rattle.st_print.specs.Canonical.{register_text}

pub register_text_same : (r : Reg) → register_name r ≡ register_text r
register_text_same registers.Zero = refl
register_text_same registers.Ra = refl
register_text_same registers.Sp = refl
register_text_same registers.Gp = refl
register_text_same registers.Tp = refl
register_text_same registers.T0 = refl
register_text_same registers.T1 = refl
register_text_same registers.T2 = refl
register_text_same registers.S0 = refl
register_text_same registers.S1 = refl
register_text_same registers.A0 = refl
register_text_same registers.A1 = refl
register_text_same registers.A2 = refl
register_text_same registers.A3 = refl
register_text_same registers.A4 = refl
register_text_same registers.A5 = refl
register_text_same registers.A6 = refl
register_text_same registers.A7 = refl
register_text_same registers.S2 = refl
register_text_same registers.S3 = refl
register_text_same registers.S4 = refl
register_text_same registers.S5 = refl
register_text_same registers.S6 = refl
register_text_same registers.S7 = refl
register_text_same registers.S8 = refl
register_text_same registers.S9 = refl
register_text_same registers.S10 = refl
register_text_same registers.S11 = refl
register_text_same registers.T3 = refl
register_text_same registers.T4 = refl
register_text_same registers.T5 = refl
register_text_same registers.T6 = refl
