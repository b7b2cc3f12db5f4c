-- The numbers of the registers, x0 to x31.
use Rattle.std.specs.Prelude.{ℕ}
use Rattle.st_base.specs.declared.reg.Reg.{Reg}
use Rattle.st_base.specs.declared.reg.Reg.TheVariants.{Zero, Ra, Sp, Gp, Tp, T0, T1, T2, S0, S1, A0, A1, A2, A3, A4, A5, A6, A7, S2, S3, S4, S5, S6, S7, S8, S9, S10, S11, T3, T4, T5, T6}

-- the number of a register
abbrev pub reg_number : Reg → ℕ
reg_number Zero = 0
reg_number Ra = 1
reg_number Sp = 2
reg_number Gp = 3
reg_number Tp = 4
reg_number T0 = 5
reg_number T1 = 6
reg_number T2 = 7
reg_number S0 = 8
reg_number S1 = 9
reg_number A0 = 10
reg_number A1 = 11
reg_number A2 = 12
reg_number A3 = 13
reg_number A4 = 14
reg_number A5 = 15
reg_number A6 = 16
reg_number A7 = 17
reg_number S2 = 18
reg_number S3 = 19
reg_number S4 = 20
reg_number S5 = 21
reg_number S6 = 22
reg_number S7 = 23
reg_number S8 = 24
reg_number S9 = 25
reg_number S10 = 26
reg_number S11 = 27
reg_number T3 = 28
reg_number T4 = 29
reg_number T5 = 30
reg_number T6 = 31
