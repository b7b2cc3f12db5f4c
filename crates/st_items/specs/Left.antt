-- Where an epilogue leads, in either layout: its frame is freed, or marked by an augmented one, and what was older than its activation stands on
-- the machine. Read IsAtEpilogue and Left; how the frame is left is told by HowLeft.
use Rattle.std.specs.Prelude.{◌≡◌, ◌⊎◌, ℕ, ◌<◌, ◌≤◌, Bool, None}
use Rattle.st_base.specs.declared.reg.Reg.TheVariants as registers
use Rattle.st_base.specs.declared.thread.Activation.{Activation}
use Rattle.st_model.specs.declared.code.Layout.{Layout}
use Rattle.st_model.specs.declared.code.Layout.TheVariants.{Postprocessed, Unchanged}
use Rattle.st_model.specs.declared.program.Item.{Item}
use Rattle.st_model.specs.declared.program.ItemKind.TheVariants.{Epilogue}
use Rattle.st_model.specs.declared.program.Program.{Program}
use Rattle.st_model.specs.declared.program.ProgramFunction.{ProgramFunction}
use Rattle.st_model.specs.Effect.{File}
use Rattle.st_step.specs.Frames.{Naming, value_in}
use Rattle.st_step.specs.Moves.{register}
use Rattle.st_step.specs.Runs.{Situation, IsReturn, return_word, stored}
use Rattle.st_items.specs.Body.{Ends, IsOn, Context, IsAtLine}

-- an epilogue as written frees the frame that lies at sp
abbrev pub LiesLow : Layout → Ends → ℕ → Type 0
LiesLow Unchanged ends bottom = ends.sp ≡ bottom
LiesLow Postprocessed ends bottom = Prim.Unit

-- at an epilogue, with a return address in the frame
pub record IsAtEpilogue (layout : Layout) (p : Program) (held : ℕ → Bool) (names : Naming) (older : Context) (ends : Ends) (bottom : ℕ) (t : Situation) (top : Activation) (file : File) (function : ProgramFunction) (item : Item) : Type 0 where
  pub line : IsAtLine layout p held names older ends bottom t top file function item
  pub kind : item.kind ≡ Epilogue
  pub back : IsReturn (t.word (return_word (register t.state registers.S0)))
  pub low : LiesLow layout ends bottom

-- no word is changed, and sp is the base of the frame
abbrev pub IsFreed : ℕ → Situation → Situation → Type 0
IsFreed b t u = (u.word ≡ t.word) × (register u.state registers.Sp ≡ b)

-- the return word is 0, and sp stays
abbrev pub IsMarked : Ends → ℕ → Situation → Situation → Type 0
IsMarked ends b t u = (u.word ≡ stored (return_word b) 0 t.word) × (register u.state registers.Sp ≡ ends.sp)

-- an augmented epilogue frees its frame exactly where the base is above sp and at most gp
abbrev pub HowLeft : Layout → Ends → ℕ → Situation → Situation → Type 0
HowLeft Unchanged ends b t u = IsFreed b t u
HowLeft Postprocessed ends b t u = ((ends.sp < b) × (b ≤ ends.gp) × IsFreed b t u) ⊎ (((b ≤ ends.sp) ⊎ (ends.gp < b)) × IsMarked ends b t u)

-- the activation has left, and its frame had the base b
pub record Left (layout : Layout) (older : Context) (ends : Ends) (b : ℕ) (t : Situation) (top : Activation) (u : Situation) : Type 0 where
  pub how : HowLeft layout ends b t u
  pub machine : IsOn (record ends { sp = register u.state registers.Sp }) u
  pub pc : u.state.pc ≡ t.word (return_word b)
  pub stands : older top.kind top.kept u.word (value_in u.state) (register u.state registers.S0) u.state.pc
  pub a0 : register u.state registers.A0 ≡ register t.state registers.A0
  pub whole : u.state.half ≡ None
