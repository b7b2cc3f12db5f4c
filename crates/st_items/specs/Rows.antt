-- The rows of an image by addresses: row_behind (the row of the function whose code has an address, where the rows ascend).
use Rattle.std.specs.Prelude.{ℕ, ◌≤◌, nat_lt, List, [], ◌∷◌, Option, Some, None, if◌then◌else◌}
use Rattle.st_base.specs.declared.image.FrameRow.{FrameRow}

-- the first row whose code ends behind an address
abbrev pub row_behind : List FrameRow → ℕ → Option FrameRow
row_behind [] pc = None
row_behind (row ∷ rows) pc = if nat_lt pc row.code_to then Some row else row_behind rows pc

-- the ends of their code ascend, from an address on
abbrev pub AreAscending : ℕ → List FrameRow → Type 0
AreAscending from [] = Prim.Unit
AreAscending from (row ∷ rows) = (from ≤ row.code_to) × AreAscending row.code_to rows
