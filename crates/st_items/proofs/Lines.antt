-- The items of one line that lead to an item of the same activation, or trap: plain instructions, `li`, branches and jumps do on the machine what
-- their effect says (line_goes).
use Rattle.std.proofs.Common.{Bool, ◌≡◌, ℕ, refl}
use Rattle.st_rv.specs.declared.ins.OpKind.{OpKind}
use Rattle.st_rv.specs.declared.ins.OpKind.TheVariants as kinds
use Rattle.st_rv.specs.declared.ins.Ins.{Ins}
use Rattle.st_rv.specs.Op.{kind_of}
use Rattle.st_rv.specs.Rows.{FitsTable}
use Rattle.st_model.specs.declared.program.Item.{Item}
use Rattle.st_model.specs.declared.program.ItemKind.{ItemKind}
use Rattle.st_model.specs.declared.program.ItemKind.TheVariants.{Prologue, Epilogue, Plain, Li, Branch, Jump, Call, Entry, Fork}
use Rattle.st_model.specs.declared.program.Program.{Program}
use Rattle.st_model.specs.declared.program.ProgramFunction.{ProgramFunction}
use Rattle.st_model.specs.Accepted.{Fits, PlainFitsAs}
use Rattle.st_model.specs.Effect.{File, plain_as, item_effect}
use Rattle.st_model.specs.Memory.{Data}
use Rattle.st_step.specs.Runs.{Situation}
use Rattle.st_step.proofs.Fetching.{fits_word}
use Rattle.st_items.proofs.AtLine.{line_fits}
use Rattle.st_items.proofs.Computes.{register_goes, immediate_goes, upper_goes, break_goes}
use Rattle.st_items.proofs.Slots.{store_goes}
use Rattle.st_items.proofs.DataLoads.{load_goes}
use Rattle.st_items.proofs.Jumping.{li_goes, branch_goes, jump_goes}
use Rattle.st_items.specs.Body.{Ends, Context, IsLine, IsAtLine, EffectStands}
use Rattle.st_model.specs.declared.code.Layout.{Layout}
use Rattle.st_step.specs.Frames.{Naming}
use Rattle.st_base.specs.declared.thread.Activation.{Activation}

module _ (layout : Layout) (p : Program) (d : Data) (held : ℕ → Bool) (names : Naming) (older : Context) (ends : Ends) (bottom : ℕ) (t : Situation) (top : Activation) (file : File) (function : ProgramFunction) (item : Item) (line : IsAtLine layout p held names older ends bottom t top file function item) where
  plain_goes : (i : Ins) → item.kind ≡ Plain i → FitsTable i → (k : OpKind) → kind_of i.op ≡ k → PlainFitsAs k function i → EffectStands layout p d held names older ends bottom t function (plain_as k d i top file)
  plain_goes i is table kinds.Register kind fits = register_goes layout p d held names older ends bottom t top file function item line i is kind fits
  plain_goes i is table kinds.Immediate kind fits = immediate_goes layout p d held names older ends bottom t top file function item line i is kind fits (fits_word i table)
  plain_goes i is table kinds.Upper kind fits = upper_goes layout p d held names older ends bottom t top file function item line i is kind fits (fits_word i table)
  plain_goes i is table kinds.Load kind fits = load_goes layout p d held names older ends bottom t top file function item line i is kind fits
  plain_goes i is table kinds.Store kind fits = store_goes layout p d held names older ends bottom t top file function item line i is kind fits
  plain_goes i is table kinds.Branch kind fits = absurd fits
  plain_goes i is table kinds.Jump kind fits = absurd fits
  plain_goes i is table kinds.Break kind fits = break_goes layout p d held names older ends bottom t top file function item line i is kind

  item_goes : (kind : ItemKind) → item.kind ≡ kind → IsLine kind → Fits p function kind → EffectStands layout p d held names older ends bottom t function (item_effect p d kind top file)
  item_goes (Plain i) is one fits = plain_goes i is fits.0 (kind_of i.op) refl fits.1
  item_goes (Li rd value) is one fits = li_goes layout p d held names older ends bottom t top file function item line rd value is fits
  item_goes (Branch op rs1 rs2 to) is one fits = branch_goes layout p d held names older ends bottom t top file function item line op rs1 rs2 to is fits.0
  item_goes (Jump to) is one fits = jump_goes layout p d held names older ends bottom t top file function item line to is
  item_goes Prologue is one fits = absurd one
  item_goes Epilogue is one fits = absurd one
  item_goes (Call f) is one fits = absurd one
  item_goes (Entry at) is one fits = absurd one
  item_goes (Fork f handle) is one fits = absurd one

-- an item of one line: the situation behind it stands for the activation as the item leaves it, or both trap
pub line_goes : (layout : Layout) (p : Program) (d : Data) (held : ℕ → Bool) (names : Naming) (older : Context) (ends : Ends) (bottom : ℕ) (t : Situation) (top : Activation) (file : File) (function : ProgramFunction) (item : Item) → IsAtLine layout p held names older ends bottom t top file function item → IsLine item.kind
    → EffectStands layout p d held names older ends bottom t function (item_effect p d item.kind top file)
line_goes layout p d held names older ends bottom t top file function item line one =
    item_goes layout p d held names older ends bottom t top file function item line item.kind refl one (line_fits layout p d held names older ends bottom t top file function item line)
