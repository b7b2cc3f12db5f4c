-- The words are as many as the sizes say: those of an item (length-item_ins), of items (length-items_words) and of a function
-- (length-function_words). So what stands at the addresses of rows and forks is what is meant.
use Rattle.std.proofs.Common.{◌≡◌, ℕ, ◌+◌, Bool, true, false, List, [], ◌∷◌, length, refl, arith, length-append}
use Rattle.std.specs.Prelude.{ℤ, pos}
use Rattle.st_base.specs.declared.line.Line.{Line}
use Rattle.st_base.specs.declared.reg.Reg.{Reg}
use Rattle.st_base.specs.declared.reg.Reg.TheVariants as registers
use Rattle.st_model.specs.declared.code.Layout.{Layout}
use Rattle.st_model.specs.declared.code.Layout.TheVariants.{Postprocessed, Unchanged}
use Rattle.st_model.specs.declared.code.PostedIns.{PostedIns}
use Rattle.st_model.specs.declared.program.Item.{Item}
use Rattle.st_model.specs.declared.program.ItemKind.{ItemKind}
use Rattle.st_model.specs.declared.program.ItemKind.TheVariants as items
use Rattle.st_model.specs.declared.program.ProgramFunction.{ProgramFunction}
use Rattle.st_model.specs.Layout.{stores, loads, saved_of, copy_by, item_size, items_size, function_size, item_ins, words_at, items_words, function_line, function_words}
use Rattle.st_model.proofs.CodeSize.{length-loads}

length-stores : (base : Reg) (top : ℤ) (k : ℕ) (saved : List Reg) → length (stores base top k saved) ≡ length saved
length-stores base top k [] = refl
length-stores base top k (r ∷ rs) = let e : length (stores base top (k + 1) rs) ≡ length rs = length-stores base top (k + 1) rs in omega (arith, e)

pub length-item_ins : (layout : Layout) (function : ProgramFunction) (at : ℕ) (kind : ItemKind) → length (item_ins layout function at kind) ≡ item_size layout function kind
length-item_ins layout function at items.Prologue =
    let e : length (stores registers.Sp (pos function.frame_bytes) 0 (saved_of function)) ≡ length (saved_of function) = length-stores registers.Sp (pos function.frame_bytes) 0 (saved_of function) in
    simp length-append (omega (arith, e))
length-item_ins Postprocessed function at items.Epilogue =
    let e : length (loads registers.Tp (pos 0) 0 (saved_of function)) ≡ length (saved_of function) = length-loads registers.Tp (pos 0) 0 (saved_of function) in
    simp length-append (omega (arith, e))
length-item_ins Unchanged function at items.Epilogue =
    let e : length (loads registers.Sp (pos function.frame_bytes) 0 (saved_of function)) ≡ length (saved_of function) = length-loads registers.Sp (pos function.frame_bytes) 0 (saved_of function) in
    simp length-append (omega (arith, e))
length-item_ins layout function at (items.Plain i) = refl
length-item_ins layout function at (items.Li rd value) = refl
length-item_ins layout function at (items.Branch op rs1 rs2 to) = refl
length-item_ins layout function at (items.Jump to) = refl
length-item_ins layout function at (items.Call f) = refl
length-item_ins layout function at (items.Entry address) = refl
length-item_ins layout function at (items.Fork f handle) = refl

pub length-words_at : (line : Line) (begins : Bool) (is : List PostedIns) → length (words_at line begins is) ≡ length is
length-words_at line begins [] = refl
length-words_at line begins (i ∷ is) = let e : length (words_at line false is) ≡ length is = length-words_at line false is in omega (arith, e)

pub length-items_words : (layout : Layout) (function : ProgramFunction) (at : ℕ) (xs : List Item) → length (items_words layout function at xs) ≡ items_size layout function xs
length-items_words layout function at [] = refl
length-items_words layout function at (x ∷ xs) =
    let first = length-words_at x.line true (item_ins layout function at x.kind) in
    let size = length-item_ins layout function at x.kind in
    let rest = length-items_words layout function (at + item_size layout function x.kind) xs in
    simp length-append (omega (arith, first, size, rest))

pub length-function_words : (layout : Layout) (function : ProgramFunction) → length (function_words layout function) ≡ function_size layout function
unfolding function_words
length-function_words layout function =
    let items = length-items_words layout function 0 function.items in
    let copy = length-words_at (function_line function) false (copy_by layout function) in
    simp length-append (omega (arith, items, copy))
