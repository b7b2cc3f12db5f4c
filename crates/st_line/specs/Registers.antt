-- How registers are written: register_name by the calling convention, register_number by the number, and register_rows for all names that
-- a text may use. From the RISC-V calling convention, "Integer Register Convention".
use Rattle.std.specs.Prelude.{ℕ, List, [], ◌∷◌, ◌++◌, map, codes}
use Rattle.st_base.specs.declared.reg.Reg.{Reg}
use Rattle.st_base.specs.declared.reg.Reg.TheVariants as registers

-- the calling convention's name of a register
abbrev pub register_name : Reg → List ℕ
register_name registers.Zero = codes "zero"
register_name registers.Ra = codes "ra"
register_name registers.Sp = codes "sp"
register_name registers.Gp = codes "gp"
register_name registers.Tp = codes "tp"
register_name registers.T0 = codes "t0"
register_name registers.T1 = codes "t1"
register_name registers.T2 = codes "t2"
register_name registers.S0 = codes "s0"
register_name registers.S1 = codes "s1"
register_name registers.A0 = codes "a0"
register_name registers.A1 = codes "a1"
register_name registers.A2 = codes "a2"
register_name registers.A3 = codes "a3"
register_name registers.A4 = codes "a4"
register_name registers.A5 = codes "a5"
register_name registers.A6 = codes "a6"
register_name registers.A7 = codes "a7"
register_name registers.S2 = codes "s2"
register_name registers.S3 = codes "s3"
register_name registers.S4 = codes "s4"
register_name registers.S5 = codes "s5"
register_name registers.S6 = codes "s6"
register_name registers.S7 = codes "s7"
register_name registers.S8 = codes "s8"
register_name registers.S9 = codes "s9"
register_name registers.S10 = codes "s10"
register_name registers.S11 = codes "s11"
register_name registers.T3 = codes "t3"
register_name registers.T4 = codes "t4"
register_name registers.T5 = codes "t5"
register_name registers.T6 = codes "t6"

-- the number of a register, written behind an x
abbrev pub register_number : Reg → List ℕ
register_number registers.Zero = codes "x0"
register_number registers.Ra = codes "x1"
register_number registers.Sp = codes "x2"
register_number registers.Gp = codes "x3"
register_number registers.Tp = codes "x4"
register_number registers.T0 = codes "x5"
register_number registers.T1 = codes "x6"
register_number registers.T2 = codes "x7"
register_number registers.S0 = codes "x8"
register_number registers.S1 = codes "x9"
register_number registers.A0 = codes "x10"
register_number registers.A1 = codes "x11"
register_number registers.A2 = codes "x12"
register_number registers.A3 = codes "x13"
register_number registers.A4 = codes "x14"
register_number registers.A5 = codes "x15"
register_number registers.A6 = codes "x16"
register_number registers.A7 = codes "x17"
register_number registers.S2 = codes "x18"
register_number registers.S3 = codes "x19"
register_number registers.S4 = codes "x20"
register_number registers.S5 = codes "x21"
register_number registers.S6 = codes "x22"
register_number registers.S7 = codes "x23"
register_number registers.S8 = codes "x24"
register_number registers.S9 = codes "x25"
register_number registers.S10 = codes "x26"
register_number registers.S11 = codes "x27"
register_number registers.T3 = codes "x28"
register_number registers.T4 = codes "x29"
register_number registers.T5 = codes "x30"
register_number registers.T6 = codes "x31"

-- x0 to x31
abbrev pub all_registers : List Reg
all_registers = registers.Zero ∷ registers.Ra ∷ registers.Sp ∷ registers.Gp ∷ registers.Tp ∷ registers.T0 ∷ registers.T1 ∷ registers.T2 ∷ registers.S0 ∷ registers.S1 ∷ registers.A0 ∷ registers.A1 ∷ registers.A2 ∷ registers.A3 ∷ registers.A4 ∷ registers.A5 ∷ registers.A6 ∷ registers.A7 ∷ registers.S2 ∷ registers.S3 ∷ registers.S4 ∷ registers.S5 ∷ registers.S6 ∷ registers.S7 ∷ registers.S8 ∷ registers.S9 ∷ registers.S10 ∷ registers.S11 ∷ registers.T3 ∷ registers.T4 ∷ registers.T5 ∷ registers.T6 ∷ []

-- the registers by the names of the calling convention, with fp for s0, and by their numbers
abbrev pub register_rows : List (Reg × List ℕ)
register_rows = map (λ r. (r, register_name r)) all_registers ++ (registers.S0, codes "fp") ∷ map (λ r. (r, register_number r)) all_registers
