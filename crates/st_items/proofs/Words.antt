-- The words of code by their places, in either layout: items, functions and the program have as many as the definitions count (item-length,
-- function-length, code-length); an item's word stands among all words at its place (program-word), and its instruction among those of
-- the program (program-ins). First come lists: get_front and get_behind (an element of a joined list), set_there and set_other (an element
-- behind a write).
use Rattle.std.proofs.Common.{◌≡◌, ◌≢◌, ◌∙◌, ℕ, zero, suc, ◌+◌, ◌*◌, ◌<◌, pos, Bool, true, false, List, [], ◌∷◌, ◌++◌, Some, length, take, set, slice_get, refl, ap, sym, subst, arith, length-append}
use Rattle.std.proofs.Math.Dec.{eqb-suc-zero}
use Rattle.std.specs.Prelude.{ℤ, ◌==◌}
use Rattle.st_base.specs.declared.line.Line.{Line}
use Rattle.st_base.specs.declared.reg.Reg.{Reg}
use Rattle.st_base.specs.declared.reg.Reg.TheVariants as registers
use Rattle.st_model.specs.declared.code.Layout.{Layout}
use Rattle.st_model.specs.declared.code.PostedIns.{PostedIns}
use Rattle.st_model.specs.declared.code.PostedWord.{PostedWord}
use Rattle.st_model.specs.declared.program.Item.{Item}
use Rattle.st_model.specs.declared.program.ItemKind.{ItemKind}
use Rattle.st_model.specs.declared.program.ItemKind.TheVariants as items
use Rattle.st_model.specs.declared.program.Program.{Program}
use Rattle.st_model.specs.declared.program.ProgramFunction.{ProgramFunction}
use Rattle.st_model.specs.Layout.{addi, ld, below, return, saved_of, stores, loads, restoring_ins, freeing_ins, epilogue_by, epilogue_size, copy_by, function_line, item_ins, item_size, items_size, item_place, words_at, items_words, function_words, function_size, functions_size, words_of_all, program_words, code_start, resolved, resolved_words, resolved_from, code_of}
use Rattle.st_model.specs.declared.code.Layout.TheVariants.{Postprocessed, Unchanged}
use Rattle.st_model.proofs.CodeSize.{length-loads}

-- ---- lists

pub get_front : {X : Type 0} (xs ys : List X) (k : ℕ) (x : X) → slice_get xs k ≡ Some x → slice_get (xs ++ ys) k ≡ Some x
get_front [] ys k x e = cc
get_front (y ∷ xs) ys zero x e = e
get_front (y ∷ xs) ys (suc k) x e = get_front xs ys k x e

pub get_behind : {X : Type 0} (xs ys : List X) (n k : ℕ) → n ≡ length xs + k → slice_get (xs ++ ys) n ≡ slice_get ys k
get_behind [] ys n k e = let same : n ≡ k = omega arith in ap (slice_get ys) same
get_behind (y ∷ xs) ys zero k e = absurd (omega arith)
get_behind (y ∷ xs) ys (suc n) k e = get_behind xs ys n k (omega arith)

pub set_there : {X : Type 0} (xs : List X) (k : ℕ) (x : X) → k < length xs → slice_get (set xs k x) k ≡ Some x
set_there [] k x inside = absurd (omega arith)
set_there (y ∷ xs) zero x inside = refl
set_there (y ∷ xs) (suc k) x inside = set_there xs k x (omega arith)

pub set_other : {X : Type 0} (xs : List X) (j k : ℕ) (x : X) → k ≢ j → slice_get (set xs j x) k ≡ slice_get xs k
set_other [] j k x apart = refl
set_other (y ∷ xs) zero zero x apart = absurd (apart refl)
set_other (y ∷ xs) zero (suc k) x apart = refl
set_other (y ∷ xs) (suc j) zero x apart = refl
set_other (y ∷ xs) (suc j) (suc k) x apart = set_other xs j k x (λ e. apart (ap suc e))

-- ---- how many

stores-length : (base : Reg) (top : ℤ) (k : ℕ) (saved : List Reg) → length (stores base top k saved) ≡ length saved
stores-length base top k [] = refl
stores-length base top k (r ∷ rs) = ap suc (stores-length base top (k + 1) rs)

joined-length : {X : Type 0} (xs ys : List X) (m n : ℕ) → length xs ≡ m → length ys ≡ n → length (xs ++ ys) ≡ m + n
joined-length xs ys m n e f = let all = length-append xs ys in omega (arith, e, f, all)

restoring-length : (saved : List Reg) → length (restoring_ins saved) ≡ 3 + length saved
restoring-length saved =
    let e = joined-length (loads registers.Tp (pos 0) 0 saved) (ld registers.S0 (below 16) registers.Tp ∷ []) _ 1 (length-loads registers.Tp (pos 0) 0 saved) refl in
    omega (arith, e)

epilogue-length : (l : Layout) (at : ℕ) (function : ProgramFunction) → length (epilogue_by l at function) ≡ epilogue_size l function
epilogue-length Postprocessed at function =
    let e = joined-length (restoring_ins (saved_of function)) (freeing_ins (at + length (saved_of function) + 7)) _ 6 (restoring-length (saved_of function)) refl in
    omega (arith, e)
epilogue-length Unchanged at function =
    let e = joined-length (loads registers.Sp (pos function.frame_bytes) 0 (saved_of function)) (addi registers.Sp registers.Sp (pos function.frame_bytes) ∷ return ∷ []) _ 2 (length-loads registers.Sp (pos function.frame_bytes) 0 (saved_of function)) refl in
    omega (arith, e)

module _ (layout : Layout) where
  pub item-length : (function : ProgramFunction) (at : ℕ) (kind : ItemKind) → length (item_ins layout function at kind) ≡ item_size layout function kind
  item-length function at items.Prologue =
      let e = joined-length (stores registers.Sp (pos function.frame_bytes) 0 (saved_of function)) (addi registers.S0 registers.Sp (pos function.frame_bytes) ∷ []) _ 1 (stores-length registers.Sp (pos function.frame_bytes) 0 (saved_of function)) refl in
      omega (arith, e)
  item-length function at items.Epilogue = epilogue-length layout at function
  item-length function at (items.Plain i) = refl
  item-length function at (items.Li rd value) = refl
  item-length function at (items.Branch op rs1 rs2 to) = refl
  item-length function at (items.Jump to) = refl
  item-length function at (items.Call f) = refl
  item-length function at (items.Entry address) = refl
  item-length function at (items.Fork f handle) = refl

  words-length : (line : Line) (begins : Bool) (is : List PostedIns) → length (words_at line begins is) ≡ length is
  words-length line begins [] = refl
  words-length line begins (i ∷ is) = ap suc (words-length line false is)

  item-words : (line : Line) (function : ProgramFunction) (at : ℕ) (kind : ItemKind) → length (words_at line true (item_ins layout function at kind)) ≡ item_size layout function kind
  item-words line function at kind = words-length line true (item_ins layout function at kind) ∙ item-length function at kind

  items-length : (function : ProgramFunction) (at : ℕ) (xs : List Item) → length (items_words layout function at xs) ≡ items_size layout function xs
  items-length function at [] = refl
  items-length function at (x ∷ xs) =
      joined-length (words_at x.line true (item_ins layout function at x.kind)) (items_words layout function (at + item_size layout function x.kind) xs) _ _
      (item-words x.line function at x.kind)
      (items-length function (at + item_size layout function x.kind) xs)

  pub function-length : (function : ProgramFunction) → length (function_words layout function) ≡ function_size layout function
  unfolding function_words
  function-length function = joined-length (items_words layout function 0 function.items) (words_at (function_line function) false (copy_by layout function)) _ _ (items-length function 0 function.items) (words-length (function_line function) false (copy_by layout function))

  -- ---- the words of an item

  word-behind : (line : Line) (is : List PostedIns) (k : ℕ) (x : PostedIns) → slice_get is k ≡ Some x → slice_get (words_at line false is) k ≡ Some (record { line = line; begins = false; ins = x })
  word-behind line [] k x e = cc
  word-behind line (i ∷ is) zero x e = let same : i ≡ x = cc in ap (λ y. Some (record { line = line; begins = false; ins = y })) same
  word-behind line (i ∷ is) (suc k) x e = word-behind line is k x e

  word-at : (line : Line) (is : List PostedIns) (k : ℕ) (x : PostedIns) → slice_get is k ≡ Some x → slice_get (words_at line true is) k ≡ Some (record { line = line; begins = k == 0; ins = x })
  word-at line [] k x e = cc
  word-at line (i ∷ is) zero x e = let same : i ≡ x = cc in ap (λ y. Some (record { line = line; begins = true; ins = y })) same
  word-at line (i ∷ is) (suc k) x e = word-behind line is k x e ∙ sym (ap (λ b. Some (record { line = line; begins = b; ins = x })) (eqb-suc-zero k))

  -- the k-th word of the i-th item
  items-word : (function : ProgramFunction) (at : ℕ) (xs : List Item) (i : ℕ) (item : Item) (n k : ℕ) (x : PostedIns) → slice_get xs i ≡ Some item → n ≡ items_size layout function (take i xs) + k → slice_get (item_ins layout function (at + items_size layout function (take i xs)) item.kind) k ≡ Some x → slice_get (items_words layout function at xs) n ≡ Some (record { line = item.line; begins = k == 0; ins = x })
  items-word function at [] i item n k x placed is e = cc
  items-word function at (y ∷ ys) zero item n k x placed is e =
      let same : item ≡ y = cc in
      let start : at + 0 ≡ at = omega arith in
      let number : k ≡ n = omega arith in
      let there : slice_get (item_ins layout function at item.kind) k ≡ Some x = subst (λ m. slice_get (item_ins layout function m item.kind) k ≡ Some x) start e in
      let word = get_front (words_at item.line true (item_ins layout function at item.kind)) (items_words layout function (at + item_size layout function y.kind) ys) k (record { line = item.line; begins = k == 0; ins = x }) (word-at item.line (item_ins layout function at item.kind) k x there) in
      subst (λ m. slice_get (items_words layout function at (y ∷ ys)) m ≡ Some (record { line = item.line; begins = k == 0; ins = x })) number
      (subst (λ (z : Item). slice_get (words_at z.line true (item_ins layout function at z.kind) ++ items_words layout function (at + item_size layout function y.kind) ys) k ≡ Some (record { line = item.line; begins = k == 0; ins = x })) same word)
  items-word function at (y ∷ ys) (suc i) item n k x placed is e =
      let size = item_size layout function y.kind in
      let before = items_size layout function (take i ys) in
      let start : at + (size + before) ≡ at + size + before = omega arith in
      let long : length (words_at y.line true (item_ins layout function at y.kind)) ≡ size = item-words y.line function at y.kind in
      get_behind (words_at y.line true (item_ins layout function at y.kind)) (items_words layout function (at + size) ys) n (before + k) (omega (arith, is, long))
      ∙ items-word function (at + size) ys i item (before + k) k x placed refl (subst (λ m. slice_get (item_ins layout function m item.kind) k ≡ Some x) start e)

  -- among the words of its function
  function-word : (function : ProgramFunction) (i : ℕ) (item : Item) (k : ℕ) (x : PostedIns) → slice_get function.items i ≡ Some item → slice_get (item_ins layout function (item_place layout function i) item.kind) k ≡ Some x → slice_get (function_words layout function) (item_place layout function i + k) ≡ Some (record { line = item.line; begins = k == 0; ins = x })
  unfolding function_words
  function-word function i item k x placed e =
      let start : item_place layout function i ≡ 0 + item_place layout function i = omega arith in
      let there = subst (λ m. slice_get (item_ins layout function m item.kind) k ≡ Some x) start e in
      get_front (items_words layout function 0 function.items) (words_at (function_line function) false (copy_by layout function)) (item_place layout function i + k) (record { line = item.line; begins = k == 0; ins = x })
      (items-word function 0 function.items i item (item_place layout function i + k) k x placed refl there)

  -- ---- the words of a program

  words-there : (fs : List ProgramFunction) (f : ℕ) (function : ProgramFunction) (n k : ℕ) (w : PostedWord) → slice_get fs f ≡ Some function → n ≡ functions_size layout (take f fs) + k → slice_get (function_words layout function) k ≡ Some w → slice_get (words_of_all layout fs) n ≡ Some w
  words-there [] f function n k w named is e = cc
  words-there (g ∷ gs) zero function n k w named is e =
      let same : function ≡ g = cc in
      let number : k ≡ n = omega arith in
      get_front (function_words layout g) (words_of_all layout gs) n w (subst (λ m. slice_get (function_words layout g) m ≡ Some w) number (subst (λ (h : ProgramFunction). slice_get (function_words layout h) k ≡ Some w) same e))
  words-there (g ∷ gs) (suc f) function n k w named is e =
      let before = functions_size layout (take f gs) in
      let long = function-length g in
      get_behind (function_words layout g) (words_of_all layout gs) n (before + k) (omega (arith, is, long)) ∙ words-there gs f function (before + k) k w named refl e

  -- the k-th word of an item, among all words of the program
  pub program-word : (p : Program) (f : ℕ) (function : ProgramFunction) (i : ℕ) (item : Item) (k : ℕ) (x : PostedIns) → slice_get p.functions f ≡ Some function → slice_get function.items i ≡ Some item → slice_get (item_ins layout function (item_place layout function i) item.kind) k ≡ Some x → slice_get (program_words layout p) (functions_size layout (take f p.functions) + (item_place layout function i + k)) ≡ Some (record { line = item.line; begins = k == 0; ins = x })
  unfolding program_words
  program-word p f function i item k x named placed e = words-there p.functions f function _ (item_place layout function i + k) _ named refl (function-word function i item k x placed e)

  -- ---- the instructions of a program

  resolved-there : (p : Program) (address at : ℕ) (ws : List PostedWord) (k : ℕ) (w : PostedWord) → slice_get ws k ≡ Some w → slice_get (resolved_words layout p address at ws) k ≡ Some (resolved layout p (address + 4 * k) (at + k) w.ins)
  resolved-there p address at [] k w e = cc
  resolved-there p address at (v ∷ ws) zero w e =
      let same : v ≡ w = cc in
      let here : address ≡ address + 4 * 0 = omega arith in
      let first : at ≡ at + 0 = omega arith in
      λ i. Some (resolved layout p (here i) (first i) (same i).ins)
  resolved-there p address at (v ∷ ws) (suc k) w e =
      let here : address + 4 + 4 * k ≡ address + 4 * suc k = omega arith in
      let next : at + 1 + k ≡ at + suc k = omega arith in
      resolved-there p (address + 4) (at + 1) ws k w e ∙ (λ i. Some (resolved layout p (here i) (next i) w.ins))

  resolved-length : (p : Program) (address at : ℕ) (ws : List PostedWord) → length (resolved_words layout p address at ws) ≡ length ws
  resolved-length p address at [] = refl
  resolved-length p address at (w ∷ ws) = ap suc (resolved-length p (address + 4) (at + 1) ws)

  -- of as many instructions as the function has words
  function-resolved : (p : Program) (address : ℕ) (function : ProgramFunction) → length (resolved_words layout p address 0 (function_words layout function)) ≡ function_size layout function
  function-resolved p address function = resolved-length p address 0 (function_words layout function) ∙ function-length function

  all-there : (p : Program) (address : ℕ) (fs : List ProgramFunction) (f : ℕ) (function : ProgramFunction) (n k : ℕ) (w : PostedWord) → slice_get fs f ≡ Some function → n ≡ functions_size layout (take f fs) + k → slice_get (function_words layout function) k ≡ Some w → slice_get (resolved_from layout p address fs) n ≡ Some (resolved layout p (address + 4 * n) k w.ins)
  all-there p address [] f function n k w named is e = cc
  all-there p address (g ∷ gs) zero function n k w named is e =
      let same : function ≡ g = cc in
      let number : k ≡ n = omega arith in
      let start : 0 + k ≡ k = omega arith in
      let here = subst (λ (h : ProgramFunction). slice_get (function_words layout h) k ≡ Some w) same e in
      let first = get_front (resolved_words layout p address 0 (function_words layout g)) (resolved_from layout p (address + 4 * function_size layout g) gs) k _ (resolved-there p address 0 (function_words layout g) k w here) in
      subst (λ m. slice_get (resolved_from layout p address (g ∷ gs)) m ≡ Some (resolved layout p (address + 4 * m) k w.ins)) number
      (first ∙ ap (λ m. Some (resolved layout p (address + 4 * k) m w.ins)) start)
  all-there p address (g ∷ gs) (suc f) function n k w named is e =
      let size = function_size layout g in
      let before = functions_size layout (take f gs) in
      let long = function-resolved p address g in
      let place : address + 4 * size + 4 * (before + k) ≡ address + 4 * n = omega (arith, is) in
      get_behind (resolved_words layout p address 0 (function_words layout g)) (resolved_from layout p (address + 4 * size) gs) n (before + k) (omega (arith, is, long))
      ∙ all-there p (address + 4 * size) gs f function (before + k) k w named refl e
      ∙ ap (λ m. Some (resolved layout p m k w.ins)) place

  -- the instruction of the k-th word of an item, among those of the program
  pub program-ins : (p : Program) (f : ℕ) (function : ProgramFunction) (i : ℕ) (item : Item) (k : ℕ) (x : PostedIns) → slice_get p.functions f ≡ Some function → slice_get function.items i ≡ Some item → slice_get (item_ins layout function (item_place layout function i) item.kind) k ≡ Some x → slice_get (code_of layout p) (functions_size layout (take f p.functions) + (item_place layout function i + k)) ≡ Some (resolved layout p (code_start + 4 * (functions_size layout (take f p.functions) + (item_place layout function i + k))) (item_place layout function i + k) x)
  unfolding code_of
  program-ins p f function i item k x named placed e =
      all-there p code_start p.functions f function _ (item_place layout function i + k) (record { line = item.line; begins = k == 0; ins = x }) named refl (function-word function i item k x placed e)

  all-length : (p : Program) (address : ℕ) (fs : List ProgramFunction) → length (resolved_from layout p address fs) ≡ functions_size layout fs
  all-length p address [] = refl
  all-length p address (g ∷ gs) =
      joined-length (resolved_words layout p address 0 (function_words layout g)) (resolved_from layout p (address + 4 * function_size layout g) gs) _ _ (function-resolved p address g) (all-length p (address + 4 * function_size layout g) gs)

  all-words-length : (fs : List ProgramFunction) → length (words_of_all layout fs) ≡ functions_size layout fs
  all-words-length [] = refl
  all-words-length (f ∷ fs) =
      let more = all-words-length fs in
      let first = function-length f in
      length-append (function_words layout f) (words_of_all layout fs) ∙ (omega (arith, more, first))

  pub program-length : (p : Program) → length (program_words layout p) ≡ functions_size layout p.functions
  unfolding program_words
  program-length p = all-words-length p.functions

  pub code-length : (p : Program) → length (code_of layout p) ≡ functions_size layout p.functions
  unfolding code_of
  code-length p = all-length p code_start p.functions

  -- ---- the pure copy behind a function's items

  pub copy-ins : (p : Program) (f : ℕ) (function : ProgramFunction) (k : ℕ) (x : PostedIns) → slice_get p.functions f ≡ Some function → slice_get (copy_by layout function) k ≡ Some x → slice_get (code_of layout p) (functions_size layout (take f p.functions) + (items_size layout function function.items + k)) ≡ Some (resolved layout p (code_start + 4 * (functions_size layout (take f p.functions) + (items_size layout function function.items + k))) (items_size layout function function.items + k) x)
  unfolding code_of function_words
  copy-ins p f function k x named e =
      let w : PostedWord = record { line = function_line function; begins = false; ins = x } in
      let long = items-length function 0 function.items in
      let there : slice_get (function_words layout function) (items_size layout function function.items + k) ≡ Some w =
      get_behind (items_words layout function 0 function.items) (words_at (function_line function) false (copy_by layout function)) (items_size layout function function.items + k) k (omega (arith, long)) ∙ word-behind (function_line function) (copy_by layout function) k x e in
      all-there p code_start p.functions f function _ (items_size layout function function.items + k) w named refl there
