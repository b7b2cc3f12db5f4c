-- Sizes of items and functions: what is laid out of them has as many words as the definitions count (item-length, items-length,
-- function-length), and what stands before another is no longer than the whole (take-items, take-size). From one item of a function to
-- another there are at least as many words in the postprocessed layout as in any (items-grow).
use Rattle.std.proofs.Common.{◌≡◌, ◌∙◌, ℕ, zero, suc, ◌+◌, ◌≤◌, ℤ, pos, Bool, true, false, List, [], ◌∷◌, ◌++◌, length, take, refl, ap, arith}
use Rattle.st_base.specs.declared.line.Line.{Line}
use Rattle.st_base.specs.declared.reg.Reg.{Reg}
use Rattle.st_model.specs.declared.program.Item.{Item}
use Rattle.st_model.specs.declared.program.ItemKind.{ItemKind}
use Rattle.st_model.specs.declared.program.ItemKind.TheVariants as items
use Rattle.st_model.specs.declared.program.ProgramFunction.{ProgramFunction}
use Rattle.st_model.specs.declared.code.Layout.{Layout}
use Rattle.st_model.specs.declared.code.Layout.TheVariants.{Postprocessed, Unchanged}
use Rattle.st_model.specs.declared.code.PostedIns.{PostedIns}
use Rattle.std.proofs.lemmas.List.{length-append}
use Rattle.st_base.specs.declared.reg.Reg.TheVariants as registers
use Rattle.st_model.specs.Layout.{ld, addi, return, below, saved_of, stores, loads, restoring_ins, freeing_ins, item_ins, item_size, items_size, words_at, items_words, function_words, function_size, functions_size, copy_by, function_line}

-- ---- saved registers

pub loads-length : (base : Reg) (top : ℤ) (k : ℕ) (saved : List Reg) → length (loads base top k saved) ≡ length saved
loads-length base top k [] = refl
loads-length base top k (r ∷ rs) = ap suc (loads-length base top (k + 1) rs)

pub stores-length : (base : Reg) (top : ℤ) (k : ℕ) (saved : List Reg) → length (stores base top k saved) ≡ length saved
stores-length base top k [] = refl
stores-length base top k (r ∷ rs) = ap suc (stores-length base top (k + 1) rs)

behind : {A : Type 0} → (xs ys : List A) (m n : ℕ) → length xs ≡ m → length ys ≡ n → length (xs ++ ys) ≡ m + n
behind xs ys m n e f = let all = length-append xs ys in omega (arith, all)

pub restoring-length : (saved : List Reg) → length (restoring_ins saved) ≡ 3 + length saved
restoring-length saved = let e = behind (loads registers.Tp (pos 0) 0 saved) (ld registers.S0 (below 16) registers.Tp ∷ []) _ 1 (loads-length registers.Tp (pos 0) 0 saved) refl in omega (arith, e)

-- ---- items

pub item-length : (layout : Layout) (function : ProgramFunction) (at : ℕ) (kind : ItemKind) → length (item_ins layout function at kind) ≡ item_size layout function kind
item-length layout function at items.Prologue =
    let e = behind (stores registers.Sp (pos function.frame_bytes) 0 (saved_of function)) (addi registers.S0 registers.Sp (pos function.frame_bytes) ∷ []) _ 1 (stores-length registers.Sp (pos function.frame_bytes) 0 (saved_of function)) refl in
    omega (arith, e)
item-length Unchanged function at items.Epilogue =
    let e = behind (loads registers.Sp (pos function.frame_bytes) 0 (saved_of function)) (addi registers.Sp registers.Sp (pos function.frame_bytes) ∷ return ∷ []) _ 2 (loads-length registers.Sp (pos function.frame_bytes) 0 (saved_of function)) refl in
    omega (arith, e)
item-length Postprocessed function at items.Epilogue =
    let e = behind (restoring_ins (saved_of function)) (freeing_ins (at + length (saved_of function) + 7)) _ 6 (restoring-length (saved_of function)) refl in
    omega (arith, e)
item-length layout function at (items.Plain i) = refl
item-length layout function at (items.Li rd value) = refl
item-length layout function at (items.Branch op rs1 rs2 to) = refl
item-length layout function at (items.Jump to) = refl
item-length layout function at (items.Call f) = refl
item-length layout function at (items.Entry address) = refl
item-length layout function at (items.Fork f handle) = refl

pub words-length : (line : Line) (begins : Bool) (is : List PostedIns) → length (words_at line begins is) ≡ length is
words-length line begins [] = refl
words-length line begins (i ∷ is) = ap suc (words-length line false is)

pub items-length : (layout : Layout) (function : ProgramFunction) (at : ℕ) (xs : List Item) → length (items_words layout function at xs) ≡ items_size layout function xs
items-length layout function at [] = refl
items-length layout function at (x ∷ xs) =
    behind (words_at x.line true (item_ins layout function at x.kind)) (items_words layout function (at + item_size layout function x.kind) xs) _ _
    (words-length x.line true (item_ins layout function at x.kind) ∙ item-length layout function at x.kind)
    (items-length layout function (at + item_size layout function x.kind) xs)

pub function-length : (layout : Layout) (function : ProgramFunction) → length (function_words layout function) ≡ function_size layout function
unfolding function_words
function-length layout function =
    behind (items_words layout function 0 function.items) (words_at (function_line function) false (copy_by layout function)) _ _ (items-length layout function 0 function.items)
    (words-length (function_line function) false (copy_by layout function))

-- ---- items before another

pub take-items : (layout : Layout) (function : ProgramFunction) (i : ℕ) (xs : List Item) → items_size layout function (take i xs) ≤ items_size layout function xs
take-items layout function zero xs = omega arith
take-items layout function (suc i) [] = omega arith
take-items layout function (suc i) (x ∷ xs) = let e = take-items layout function i xs in omega (arith, e)

-- ---- functions

pub take-size : (layout : Layout) (f : ℕ) (fs : List ProgramFunction) → functions_size layout (take f fs) ≤ functions_size layout fs
take-size layout zero fs = omega arith
take-size layout (suc f) [] = omega arith
take-size layout (suc f) (g ∷ fs) = let e = take-size layout f fs in omega (arith, e)

-- ---- two layouts

grows-item : (function : ProgramFunction) (kind : ItemKind) → item_size Unchanged function kind ≤ item_size Postprocessed function kind
grows-item function items.Epilogue = omega arith
grows-item function items.Prologue = omega arith
grows-item function (items.Plain i) = omega arith
grows-item function (items.Li rd value) = omega arith
grows-item function (items.Branch op rs1 rs2 to) = omega arith
grows-item function (items.Jump to) = omega arith
grows-item function (items.Call f) = omega arith
grows-item function (items.Entry address) = omega arith
grows-item function (items.Fork f handle) = omega arith

-- from one place of a list of items to a later one
pub record Grows (layout : Layout) (function : ProgramFunction) (xs : List Item) (i j : ℕ) : Type 0 where
  pub later : items_size layout function (take i xs) ≤ items_size layout function (take j xs)
  pub grown : items_size layout function (take j xs) + items_size Postprocessed function (take i xs) ≤ items_size Postprocessed function (take j xs) + items_size layout function (take i xs)

grows-by : (layout : Layout) (function : ProgramFunction) (kind : ItemKind) → item_size layout function kind ≤ item_size Postprocessed function kind
grows-by Postprocessed function kind = omega arith
grows-by Unchanged function kind = grows-item function kind

pub items-grow : (layout : Layout) (function : ProgramFunction) (xs : List Item) (i j : ℕ) → i ≤ j → Grows layout function xs i j
items-grow layout function [] zero zero le = record { later = omega arith; grown = omega arith }
items-grow layout function [] zero (suc j) le = record { later = omega arith; grown = omega arith }
items-grow layout function [] (suc i) zero le = absurd (omega arith)
items-grow layout function [] (suc i) (suc j) le = record { later = omega arith; grown = omega arith }
items-grow layout function (x ∷ xs) zero zero le = record { later = omega arith; grown = omega arith }
items-grow layout function (x ∷ xs) zero (suc j) le =
    let rest = items-grow layout function xs zero j (omega arith) in
    let one = grows-by layout function x.kind in
    record { later = omega arith; grown = omega (arith, rest.grown, one) }
items-grow layout function (x ∷ xs) (suc i) zero le = absurd (omega arith)
items-grow layout function (x ∷ xs) (suc i) (suc j) le =
    let rest = items-grow layout function xs i j (omega arith) in
    record { later = omega (arith, rest.later); grown = omega (arith, rest.grown) }
