-- What a run keeps of an image, by words: its instructions, decoded once (instructions_of), whether an item begins with each (begins_of), and at each
-- fork's first jump the register of its handle (handles_of).
use Rattle.std.specs.Prelude.{ℕ, ◌<◌, ◌≤◌, Bool, List, [], ◌∷◌, slice_set, map}
use Rattle.st_base.specs.declared.reg.Reg.{Reg}
use Rattle.st_base.specs.declared.image.ForkRow.{ForkRow}
use Rattle.st_base.specs.declared.image.Image.{Image}
use Rattle.st_rv.specs.declared.ins.Ins.{Ins}
use Rattle.st_model.specs.declared.code.Layout.{Layout}
use Rattle.st_model.specs.declared.program.Program.{Program}
use Rattle.st_model.specs.Layout.{IsCodeOf}
use Rattle.st_step.specs.declared.decoded.Decoded.{Decoded}
use Rattle.st_items.specs.Code.{word_index}

-- the instructions of a table
abbrev pub instructions_of : List Decoded → List Ins
instructions_of table = map (λ s. s.ins) table

-- and of each whether an item begins with it
abbrev pub begins_of : List Decoded → List Bool
begins_of table = map (λ s. s.begins) table

-- a table by words, with the register of each fork's handle at its first jump
abbrev pub handles_of : List ForkRow → List Reg → List Reg
handles_of [] table = table
handles_of (row ∷ rows) table = handles_of rows (slice_set table (word_index row.at) row.handle)

-- each of these forks has its first jump among so many words
abbrev pub AreInCode : ℕ → List ForkRow → Type 0
AreInCode count [] = Prim.Unit
AreInCode count (row ∷ rows) = ((0x10000 ≤ row.at) × (word_index row.at < count)) × AreInCode count rows

-- the image is the code of an accepted program in some layout
abbrev pub HasCodeOf : Image → Type 0
HasCodeOf image = (layout : Layout) × ((p : Program) × IsCodeOf layout p image)
