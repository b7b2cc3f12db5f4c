-- The forks of an image by the addresses of their third jumps: handle_behind (the register of the handle of the fork whose third jump has an address,
-- where the forks rise).
use Rattle.std.specs.Prelude.{ℕ, ◌-◌, ◌≤◌, ◌==◌, nat_lt, List, [], ◌∷◌, Option, Some, None, if◌then◌else◌}
use Rattle.st_base.specs.declared.image.ForkRow.{ForkRow}
use Rattle.st_base.specs.declared.reg.Reg.{Reg}

-- the first fork whose first jump is at an address or behind it
abbrev pub fork_from : List ForkRow → ℕ → Option ForkRow
fork_from [] first = None
fork_from (row ∷ rows) first = if nat_lt row.at first then fork_from rows first else Some row

-- if its first jump has the address
abbrev pub handle_if : Option ForkRow → ℕ → Option Reg
handle_if None first = None
handle_if (Some row) first = if row.at == first then Some row.handle else None

-- its third jump is two words behind its first
abbrev pub handle_behind : List ForkRow → ℕ → Option Reg
handle_behind rows pc = if nat_lt pc 8 then None else handle_if (fork_from rows (pc - 8)) (pc - 8)

-- the addresses of their first jumps rise, from an address on
abbrev pub AreRising : ℕ → List ForkRow → Type 0
AreRising from [] = Prim.Unit
AreRising from (row ∷ rows) = (from ≤ row.at) × AreRising row.at rows
