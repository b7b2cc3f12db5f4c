-- Each fork of an image has its first jump among the image's words, in either layout: forks_in_code. That is a proposition: in_code_prop.
use Rattle.std.proofs.Common.{◌≡◌, ℕ, ◌+◌, ◌*◌, ◌≤◌, List, [], ◌∷◌, ◌++◌, length, sym, ◌∙◌, subst₂, arith}
use Rattle.std.proofs.Math.Bridge.{le_prop}
use Rattle.st_base.specs.declared.image.ForkRow.{ForkRow}
use Rattle.st_base.specs.declared.image.Image.{Image}
use Rattle.st_model.specs.declared.code.Layout.{Layout}
use Rattle.st_model.specs.declared.program.Item.{Item}
use Rattle.st_model.specs.declared.program.ItemKind.{ItemKind}
use Rattle.st_model.specs.declared.program.ItemKind.TheVariants as items
use Rattle.st_model.specs.declared.program.Program.{Program}
use Rattle.st_model.specs.declared.program.ProgramFunction.{ProgramFunction}
use Rattle.st_model.specs.Layout.{IsCodeOf, item_size, items_size, function_size, functions_size, fork_row, item_forks, forks_from, forks_of, code_start}
use Rattle.st_items.specs.Tables.{AreInCode}
use Rattle.st_items.proofs.Words.{code-length}
use Rattle.st_items.proofs.Addresses.{word_index_at}
use Rattle.st_items.proofs.Tables.{words_length}

pub in_code_prop : (count : ℕ) (rows : List ForkRow) → IsProp (AreInCode count rows)
in_code_prop count [] = hlevel
in_code_prop count (row ∷ rows) = hlevel (in_code_prop count rows, le_prop)

both_in_code : (count : ℕ) (xs ys : List ForkRow) → AreInCode count xs → AreInCode count ys → AreInCode count (xs ++ ys)
both_in_code count [] ys first second = second
both_in_code count (x ∷ xs) ys first second = (first.0, both_in_code count xs ys first.1 second)

module _ (layout : Layout) where
  -- of the items and functions whose first word is the word n
  fork_in_code : (count n address : ℕ) (function : ProgramFunction) (kind : ItemKind) → address ≡ 0x10000 + 4 * n → n + item_size layout function kind ≤ count → AreInCode count (fork_row address kind)
  fork_in_code count n address function (items.Fork f handle) at within =
      let word = word_index_at address n at in
      ((omega arith, omega (arith, word)), tt)
  fork_in_code count n address function items.Prologue at within = tt
  fork_in_code count n address function items.Epilogue at within = tt
  fork_in_code count n address function (items.Plain i) at within = tt
  fork_in_code count n address function (items.Li rd value) at within = tt
  fork_in_code count n address function (items.Branch op rs1 rs2 to) at within = tt
  fork_in_code count n address function (items.Jump to) at within = tt
  fork_in_code count n address function (items.Call f) at within = tt
  fork_in_code count n address function (items.Entry entry) at within = tt

  items_in_code : (count n address : ℕ) (function : ProgramFunction) (xs : List Item) → address ≡ 0x10000 + 4 * n → n + items_size layout function xs ≤ count → AreInCode count (item_forks layout function address xs)
  items_in_code count n address function [] at within = tt
  items_in_code count n address function (x ∷ xs) at within =
      let size = item_size layout function x.kind in
      both_in_code count (fork_row address x.kind) (item_forks layout function (address + 4 * size) xs) (fork_in_code count n address function x.kind at (omega arith))
      (items_in_code count (n + size) (address + 4 * size) function xs (omega (arith, at)) (omega (arith, within)))

  functions_in_code : (count n address : ℕ) (fs : List ProgramFunction) → address ≡ 0x10000 + 4 * n → n + functions_size layout fs ≤ count → AreInCode count (forks_from layout address fs)
  functions_in_code count n address [] at within = tt
  functions_in_code count n address (f ∷ fs) at within =
      let size = function_size layout f in
      both_in_code count (item_forks layout f address f.items) (forks_from layout (address + 4 * size) fs) (items_in_code count n address f f.items at (omega arith))
      (functions_in_code count (n + size) (address + 4 * size) fs (omega (arith, at)) (omega (arith, within)))

  program_in_code : (p : Program) → AreInCode (functions_size layout p.functions) (forks_of layout p)
  unfolding forks_of
  program_in_code p = functions_in_code (functions_size layout p.functions) 0 code_start p.functions (omega arith) (omega arith)

  pub forks_in_code : (p : Program) (image : Image) → IsCodeOf layout p image → AreInCode (length image.words) image.forks
  forks_in_code p image pi = subst₂ AreInCode (sym (words_length layout p image pi ∙ code-length layout p)) (sym pi.is_image.forks) (program_in_code p)
