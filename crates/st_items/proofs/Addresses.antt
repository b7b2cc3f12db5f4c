-- The code at its addresses, in either layout: the instruction of each word of an item (item_code), and of items that name no function and no
-- entry all of them as the laws of runs want it (local_code). An item's words lie in memory's low part (address_bounds), at multiples of
-- 4 (address_multiple), the next item's behind them (next_address), a function's first at its address (first_address), and none at an
-- entry (not_entry). Behind its items a function has its pure copy (copy_code, copy_bounds). What is accepted and has its size has no
-- more code than the words that are spoken of here (sized).
use Rattle.std.proofs.Common.{◌≡◌, ◌∙◌, ℕ, zero, suc, ◌+◌, ◌*◌, ◌%◌, ◌≤◌, ◌<◌, pos, Bool, true, false, List, [], ◌∷◌, ◌++◌, Some, None, length, take, cond, slice_get, refl, ap, sym, subst, arith}
use Rattle.std.specs.Prelude.{ℤ, int_lt, not, ◌&&◌, ◌==◌, nat_lt, nat_le}
use Rattle.std.proofs.lemmas.Bool.{le-ltb, lt-leb}
use Rattle.st_base.specs.declared.reg.Reg.{Reg}
use Rattle.st_base.specs.declared.reg.Reg.TheVariants as registers
use Rattle.st_rv.specs.declared.ins.Op.TheVariants as ops
use Rattle.st_model.specs.declared.code.Layout.{Layout}
use Rattle.st_model.specs.declared.code.PostedIns.{PostedIns}
use Rattle.st_model.specs.declared.code.PostedIns.TheVariants as posted
use Rattle.st_model.specs.declared.program.Item.{Item}
use Rattle.st_model.specs.declared.program.ItemKind.{ItemKind}
use Rattle.st_model.specs.declared.program.ItemKind.TheVariants as items
use Rattle.st_model.specs.declared.program.Program.{Program}
use Rattle.st_model.specs.declared.program.ProgramFunction.{ProgramFunction}
use Rattle.st_model.specs.Layout.{addi, ld, below, return, restoring_ins, freeing_ins, epilogue_by, copy_by, immediate_ins, upper_ins, saved_of, stores, loads, is_short, low_part, high_part, with_low_part, li_ins, item_ins, item_size, items_size, item_place, function_address, function_size, functions_size, code_start, code_of, resolved, HasSize}
use Rattle.st_step.specs.Moves.{is_entry}
use Rattle.st_step.specs.Runs.{local_ins, HasCode}
use Rattle.st_items.specs.Code.{word_index, code_at, HasItem, IsSized}
use Rattle.st_step.specs.Frames.{address_in}
use Rattle.st_model.specs.Accepted.{IsAccepted}
use Rattle.st_model.proofs.CodeSize.{code_within}
use Rattle.st_items.proofs.Words.{program-ins, copy-ins}
use Rattle.st_model.specs.declared.code.Layout.TheVariants.{Postprocessed, Unchanged}

abbrev pub IsLocal : ItemKind → Type 0
IsLocal items.Prologue = Prim.Unit
IsLocal items.Epilogue = Prim.Unit
IsLocal (items.Plain i) = Prim.Unit
IsLocal (items.Li rd value) = Prim.Unit
IsLocal (items.Branch op rs1 rs2 to) = Prim.Unit
IsLocal _ = ⊥

abbrev IsLocalIns : PostedIns → Type 0
IsLocalIns (posted.Plain i) = Prim.Unit
IsLocalIns (posted.Branch op rs1 rs2 to) = Prim.Unit
IsLocalIns _ = ⊥

abbrev AllLocal : List PostedIns → Type 0
AllLocal [] = Prim.Unit
AllLocal (i ∷ is) = IsLocalIns i × AllLocal is

append-local : (is js : List PostedIns) → AllLocal is → AllLocal js → AllLocal (is ++ js)
append-local [] js a b = b
append-local (i ∷ is) js a b = (a.0, append-local is js a.1 b)

loads-local : (base : Reg) (top : ℤ) (k : ℕ) (saved : List Reg) → AllLocal (loads base top k saved)
loads-local base top k [] = tt
loads-local base top k (r ∷ rs) = (tt, loads-local base top (k + 1) rs)

epilogue-local : (l : Layout) (at : ℕ) (function : ProgramFunction) → AllLocal (epilogue_by l at function)
epilogue-local Postprocessed at function =
    append-local (restoring_ins (saved_of function)) (freeing_ins (at + length (saved_of function) + 7))
    (tt, (tt, append-local (loads registers.Tp (pos 0) 0 (saved_of function)) (ld registers.S0 (below 16) registers.Tp ∷ []) (loads-local registers.Tp (pos 0) 0 (saved_of function)) (tt, tt)))
    (tt, (tt, (tt, (tt, (tt, (tt, tt))))))
epilogue-local Unchanged at function =
    (tt, (tt, append-local (loads registers.Sp (pos function.frame_bytes) 0 (saved_of function)) (addi registers.Sp registers.Sp (pos function.frame_bytes) ∷ return ∷ []) (loads-local registers.Sp (pos function.frame_bytes) 0 (saved_of function)) (tt, (tt, tt))))

-- ---- addresses of words

pub word_index_at : (address n : ℕ) → address ≡ 0x10000 + 4 * n → word_index address ≡ n
word_index_at address n at = omega arith

last-false : (a b : Bool) → a && b && false ≡ false
last-false true true = refl
last-false true false = refl
last-false false b = refl

-- no word of code is at an entry
pub behind_entries : (pc : ℕ) → 0x90 < pc → is_entry pc ≡ false
behind_entries pc beyond =
    ap (λ b. (pc % 16 == 0) && nat_le 0x10 pc && b) (lt-leb pc 0x90 beyond) ∙ last-false (pc % 16 == 0) (nat_le 0x10 pc)

module _ (layout : Layout) where
  -- what is accepted and has its size has no more code than that
  pub sized : (p : Program) → IsAccepted p → HasSize p → IsSized layout p
  sized p accepted size = record { size = size; few = code_within layout p accepted size }

  -- ---- what stands before

  -- the items before another, and the words of the item
  pub item-within : (function : ProgramFunction) (xs : List Item) (i : ℕ) (item : Item) → slice_get xs i ≡ Some item → items_size layout function (take i xs) + item_size layout function item.kind ≤ items_size layout function xs
  item-within function [] i item placed = cc
  item-within function (x ∷ xs) zero item placed =
      let same : x ≡ item = cc in
      let size = ap (λ (y : Item). item_size layout function y.kind) same in
      omega (arith, size)
  item-within function (x ∷ xs) (suc i) item placed = omega (arith, item-within function xs i item placed)

  items-within : (function : ProgramFunction) (xs : List Item) (i : ℕ) → items_size layout function (take i xs) ≤ items_size layout function xs
  items-within function xs zero = omega arith
  items-within function [] (suc i) = omega arith
  items-within function (x ∷ xs) (suc i) = omega (arith, items-within function xs i)

  item-next : (function : ProgramFunction) (xs : List Item) (i : ℕ) (item : Item) → slice_get xs i ≡ Some item → items_size layout function (take (suc i) xs) ≡ items_size layout function (take i xs) + item_size layout function item.kind
  item-next function [] i item placed = cc
  item-next function (x ∷ xs) zero item placed =
      let same : x ≡ item = cc in
      let size = ap (λ (y : Item). item_size layout function y.kind) same in
      omega (arith, size)
  item-next function (x ∷ xs) (suc i) item placed = omega (arith, item-next function xs i item placed)

  pub function-within : (fs : List ProgramFunction) (f : ℕ) (function : ProgramFunction) → slice_get fs f ≡ Some function → functions_size layout (take f fs) + function_size layout function ≤ functions_size layout fs
  function-within [] f function named = cc
  function-within (g ∷ gs) zero function named =
      let same : g ≡ function = cc in
      let size = ap (λ (h : ProgramFunction). function_size layout h) same in
      omega (arith, size)
  function-within (g ∷ gs) (suc f) function named = omega (arith, function-within gs f function named)

  functions-within : (fs : List ProgramFunction) (f : ℕ) → functions_size layout (take f fs) ≤ functions_size layout fs
  functions-within fs zero = omega arith
  functions-within [] (suc f) = omega arith
  functions-within (g ∷ gs) (suc f) = omega (arith, functions-within gs f)

  -- ---- addresses

  -- of an item's words
  pub address_bounds : (p : Program) (f : ℕ) (function : ProgramFunction) (i : ℕ) (item : Item) → IsSized layout p → HasItem p f function i item → (0x10000 ≤ address_in layout p f function i) × (address_in layout p f function i + 4 * item_size layout function item.kind ≤ 0x10000 + 4 * 196608)
  address_bounds p f function i item size has =
      let few = size.few in
      let outer = function-within p.functions f function has.named in
      let inner = item-within function function.items i item has.placed in
      (omega arith, omega (arith, few, outer, inner))

  -- of any place of a function, also its end
  pub place_bounds : (p : Program) (f : ℕ) (function : ProgramFunction) (i : ℕ) → IsSized layout p → slice_get p.functions f ≡ Some function → (0x10000 ≤ address_in layout p f function i) × (address_in layout p f function i ≤ 0x10000 + 4 * 196608)
  place_bounds p f function i size named =
      let few = size.few in
      let outer = function-within p.functions f function named in
      let inner = items-within function function.items i in
      (omega arith, omega (arith, few, outer, inner))

  pub function_bounds : (p : Program) (f : ℕ) → IsSized layout p → (0x10000 ≤ function_address layout p f) × (function_address layout p f ≤ 0x10000 + 4 * 196608)
  function_bounds p f size =
      let few = size.few in
      let outer = functions-within p.functions f in
      (omega arith, omega (arith, few, outer))

  pub address_multiple : (p : Program) (f : ℕ) (function : ProgramFunction) (i : ℕ) → address_in layout p f function i % 4 ≡ 0
  address_multiple p f function i = omega arith

  pub next_address : (p : Program) (f : ℕ) (function : ProgramFunction) (i : ℕ) (item : Item) → HasItem p f function i item → address_in layout p f function (i + 1) ≡ address_in layout p f function i + 4 * item_size layout function item.kind
  next_address p f function i item has =
      let next : items_size layout function (take (suc i) function.items) ≡ items_size layout function (take i function.items) + item_size layout function item.kind = item-next function function.items i item has.placed in
      let one : i + 1 ≡ suc i = omega arith in
      ap (λ n. address_in layout p f function n) one ∙ omega (arith, next)

  pub first_address : (p : Program) (f : ℕ) (function : ProgramFunction) → address_in layout p f function 0 ≡ function_address layout p f
  first_address p f function = omega arith

  pub not_entry : (p : Program) (f : ℕ) (function : ProgramFunction) (i k : ℕ) → is_entry (address_in layout p f function i + 4 * k) ≡ false
  not_entry p f function i k = behind_entries (address_in layout p f function i + 4 * k) (omega arith)

  -- ---- instructions

  pub code_at_word : (p : Program) (address n : ℕ) → address ≡ 0x10000 + 4 * n → code_at layout p address ≡ slice_get (code_of layout p) n
  code_at_word p address n at =
      let low : nat_lt address code_start ≡ false = le-ltb address code_start (omega (arith, at)) in
      ap (λ (b : Bool). cond b None (slice_get (code_of layout p) (word_index address))) low ∙ ap (slice_get (code_of layout p)) (word_index_at address n at)

  -- the place among all words of an item's k-th word
  pub word_place : (p : Program) (f : ℕ) (function : ProgramFunction) (i k : ℕ) → address_in layout p f function i + 4 * k ≡ 0x10000 + 4 * (functions_size layout (take f p.functions) + (item_place layout function i + k))
  word_place p f function i k = omega arith

  pub item_code : (p : Program) (f : ℕ) (function : ProgramFunction) (i : ℕ) (item : Item) (k : ℕ) (x : PostedIns) → HasItem p f function i item → slice_get (item_ins layout function (item_place layout function i) item.kind) k ≡ Some x → code_at layout p (address_in layout p f function i + 4 * k) ≡ Some (resolved layout p (address_in layout p f function i + 4 * k) (item_place layout function i + k) x)
  item_code p f function i item k x has e =
      code_at_word p (address_in layout p f function i + 4 * k) _ (word_place p f function i k)
      ∙ program-ins layout p f function i item k x has.named has.placed e
      ∙ ap (λ a. Some (resolved layout p a (item_place layout function i + k) x)) (sym (word_place p f function i k))

  -- ---- items that name no function and no entry

  either-local : (b : Bool) (is js : List PostedIns) → AllLocal is → AllLocal js → AllLocal (cond b is js)
  either-local true is js h k = h
  either-local false is js h k = k

  stores-local : (base : Reg) (top : ℤ) (k : ℕ) (saved : List Reg) → AllLocal (stores base top k saved)
  stores-local base top k [] = tt
  stores-local base top k (r ∷ rs) = (tt, stores-local base top (k + 1) rs)

  li-local : (rd : Reg) (value : ℤ) → AllLocal (li_ins rd value)
  li-local rd value =
      either-local (is_short value) (addi rd registers.Zero value ∷ []) (posted.Plain (upper_ins ops.Lui rd (pos (high_part value))) ∷ with_low_part rd (low_part value)) (tt, tt)
      (tt, either-local (not (int_lt (low_part value) (pos 0)) && not (int_lt (pos 0) (low_part value))) [] (posted.Plain (immediate_ins ops.Addiw rd rd (low_part value)) ∷ []) tt (tt, tt))

  item-local : (function : ProgramFunction) (at : ℕ) (kind : ItemKind) → IsLocal kind → AllLocal (item_ins layout function at kind)
  item-local function at items.Prologue is =
      (tt, (tt, (tt, append-local (stores registers.Sp (pos function.frame_bytes) 0 (saved_of function)) (addi registers.S0 registers.Sp (pos function.frame_bytes) ∷ []) (stores-local registers.Sp (pos function.frame_bytes) 0 (saved_of function)) (tt, tt))))
  item-local function at items.Epilogue is = epilogue-local layout at function
  item-local function at (items.Plain i) is = (tt, tt)
  item-local function at (items.Li rd value) is = li-local rd value
  item-local function at (items.Branch op rs1 rs2 to) is = (tt, tt)
  item-local function at (items.Jump to) is = absurd is
  item-local function at (items.Call f) is = absurd is
  item-local function at (items.Entry address) is = absurd is
  item-local function at (items.Fork f handle) is = absurd is

  ins-local : (p : Program) (address at : ℕ) (x : PostedIns) → IsLocalIns x → local_ins at x ≡ Some (resolved layout p address at x)
  ins-local p address at (posted.Plain i) is = refl
  ins-local p address at (posted.Branch op rs1 rs2 to) is = refl
  ins-local p address at (posted.Jump to) is = absurd is
  ins-local p address at (posted.Call f) is = absurd is
  ins-local p address at (posted.Entry entry) is = absurd is

  -- local instructions, each of which stands at its address
  code-from : (p : Program) (pc at : ℕ) (is : List PostedIns) → AllLocal is → ((k : ℕ) (x : PostedIns) → slice_get is k ≡ Some x → code_at layout p (pc + 4 * k) ≡ Some (resolved layout p (pc + 4 * k) (at + k) x)) → HasCode (code_at layout p) pc at is
  code-from p pc at [] all there = tt
  code-from p pc at (i ∷ is) all there =
      let here : pc + 4 * 0 ≡ pc = omega arith in
      let first : at + 0 ≡ at = omega arith in
      let code = there 0 i refl in (
        (resolved layout p pc at i, ins-local p pc at i all.0, subst (λ a. code_at layout p a ≡ Some (resolved layout p a at i)) here (subst (λ m. code_at layout p (pc + 4 * 0) ≡ Some (resolved layout p (pc + 4 * 0) m i)) first code)),
        code-from p (pc + 4) (at + 1) is all.1 (λ k x e.
            let place : pc + 4 * suc k ≡ pc + 4 + 4 * k = omega arith in
            let next : at + suc k ≡ at + 1 + k = omega arith in
            subst (λ a. code_at layout p a ≡ Some (resolved layout p a (at + 1 + k) x)) place (subst (λ m. code_at layout p (pc + 4 * suc k) ≡ Some (resolved layout p (pc + 4 * suc k) m x)) next (there (suc k) x e))),
      )

  pub local_code : (p : Program) (f : ℕ) (function : ProgramFunction) (i : ℕ) (item : Item) → HasItem p f function i item → IsLocal item.kind → HasCode (code_at layout p) (address_in layout p f function i) (item_place layout function i) (item_ins layout function (item_place layout function i) item.kind)
  local_code p f function i item has is =
      code-from p (address_in layout p f function i) (item_place layout function i) (item_ins layout function (item_place layout function i) item.kind)
      (item-local function (item_place layout function i) item.kind is) (λ k x e. item_code p f function i item k x has e)

  -- the pure copy, where a function has one
  copy-local : (l : Layout) (function : ProgramFunction) → AllLocal (copy_by l function)
  copy-local Postprocessed function =
      append-local (restoring_ins (saved_of function)) (return ∷ [])
      (tt, (tt, append-local (loads registers.Tp (pos 0) 0 (saved_of function)) (ld registers.S0 (below 16) registers.Tp ∷ []) (loads-local registers.Tp (pos 0) 0 (saved_of function)) (tt, tt)))
      (tt, tt)
  copy-local Unchanged function = tt

  pub copy_code : (p : Program) (f : ℕ) (function : ProgramFunction) → slice_get p.functions f ≡ Some function → HasCode (code_at layout p) (function_address layout p f + 4 * items_size layout function function.items) (items_size layout function function.items) (copy_by layout function)
  copy_code p f function named =
      let from = function_address layout p f + 4 * items_size layout function function.items in
      code-from p from (items_size layout function function.items) (copy_by layout function) (copy-local layout function) (λ k x e.
      let place : from + 4 * k ≡ 0x10000 + 4 * (functions_size layout (take f p.functions) + (items_size layout function function.items + k)) = omega arith in
      code_at_word p (from + 4 * k) _ place ∙ copy-ins layout p f function k x named e ∙ ap (λ a. Some (resolved layout p a (items_size layout function function.items + k) x)) (sym place))

  pub copy_bounds : (p : Program) (f : ℕ) (function : ProgramFunction) → IsSized layout p → slice_get p.functions f ≡ Some function → function_address layout p f + 4 * items_size layout function function.items + 4 * length (copy_by layout function) ≤ 0x10000 + 4 * 196608
  copy_bounds p f function size named =
      let few = size.few in
      let outer = function-within p.functions f function named in
      omega (arith, few, outer)
