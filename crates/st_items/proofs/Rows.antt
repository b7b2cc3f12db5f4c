-- The rows of a program ascend (rows_ascend), and the row of a function is found by the addresses of its code (row_found, row_of_item). A
-- search by halves among rows that ascend finds the first whose code ends behind an address (parted, found_at, got).
use Rattle.std.proofs.Common.{◌≡◌, ℕ, zero, suc, ◌+◌, ◌*◌, ◌<◌, ◌≤◌, Bool, true, false, List, [], ◌∷◌, length, take, Option, Some, None, slice_get, get_or, Bor, leb, nat_lt, refl, ap, sym, ◌∙◌, arith, if◌then◌else◌}
use Rattle.std.specs.List.Sorted.{IsPartitionedBy, IsPartitionPoint}
use Rattle.std.specs.Option.{is_some, IfSome, option_copied}
use Rattle.std.proofs.lemmas.Bool.{leb-true, le-leb, leb-false, lt-ltb, le-ltb, ltb-true, ltb-false}
use Rattle.std.proofs.lemmas.Option.{slice_get-get_or}
use Rattle.st_base.specs.declared.image.FrameRow.{FrameRow}
use Rattle.st_model.specs.declared.code.Layout.{Layout}
use Rattle.st_model.specs.declared.program.Item.{Item}
use Rattle.st_model.specs.declared.program.Program.{Program}
use Rattle.st_model.specs.declared.program.ProgramFunction.{ProgramFunction}
use Rattle.st_model.specs.Layout.{row_at, rows_from, rows_of, function_address, function_size, functions_size, code_start, item_size}
use Rattle.st_step.specs.Frames.{address_in}
use Rattle.st_items.specs.Code.{HasItem}
use Rattle.st_items.proofs.Addresses.{item-within}
use Rattle.st_items.specs.Rows.{row_behind, AreAscending}

-- ---- rows that ascend

ends_above : (from : ℕ) (rows : List FrameRow) (j : ℕ) (d : FrameRow) → AreAscending from rows → j < length rows → from ≤ (get_or rows j d).code_to
ends_above from [] j d ascending inside = absurd (omega arith)
ends_above from (row ∷ rows) zero d ascending inside = ascending.0
ends_above from (row ∷ rows) (suc j) d ascending inside = let first = ascending.0 in let later = ends_above row.code_to rows j d ascending.1 (omega arith) in omega arith

ends_rise : (from : ℕ) (rows : List FrameRow) (i j : ℕ) (d : FrameRow) → AreAscending from rows → i ≤ j → j < length rows → (get_or rows i d).code_to ≤ (get_or rows j d).code_to
ends_rise from [] i j d ascending order inside = absurd (omega arith)
ends_rise from (row ∷ rows) zero zero d ascending order inside = omega arith
ends_rise from (row ∷ rows) zero (suc j) d ascending order inside = ends_above row.code_to rows j d ascending.1 (omega arith)
ends_rise from (row ∷ rows) (suc i) zero d ascending order inside = absurd (omega arith)
ends_rise from (row ∷ rows) (suc i) (suc j) d ascending order inside = ends_rise row.code_to rows i j d ascending.1 (omega arith) (omega arith)

pub parted : (from : ℕ) (rows : List FrameRow) (pc : ℕ) → AreAscending from rows → IsPartitionedBy (λ (row : FrameRow). leb row.code_to pc) rows
parted from rows pc ascending i j d order inside ends =
    let rise = ends_rise from rows i j d ascending order inside in
    let under = leb-true (get_or rows j d).code_to pc ends in
    le-leb (get_or rows i d).code_to pc (omega arith)

pub found_at : (rows : List FrameRow) (pc n : ℕ) → n ≤ length rows → IsPartitionPoint (λ (row : FrameRow). leb row.code_to pc ≡ true) (λ (row : FrameRow). leb row.code_to pc ≡ false) rows n → slice_get rows n ≡ row_behind rows pc
found_at [] pc zero within point = refl
found_at [] pc (suc n) within point = absurd (omega arith)
found_at (row ∷ rows) pc zero within (front, back) =
    let ends = back 0 row (omega arith) (omega arith) in
    let under : pc < row.code_to = leb-false row.code_to pc ends in
    sym (ap (λ (b : Bool). if b then Some row else row_behind rows pc) (lt-ltb pc row.code_to under))
found_at (row ∷ rows) pc (suc n) within (front, back) =
    let ends = front 0 row (omega arith) (omega arith) in
    let past : row.code_to ≤ pc = leb-true row.code_to pc ends in
    found_at rows pc n (omega arith) ((λ k d least most. front (suc k) d (omega arith) (omega arith)), (λ k d least most. back (suc k) d (omega arith) (omega arith)))
    ∙ sym (ap (λ (b : Bool). if b then Some row else row_behind rows pc) (le-ltb pc row.code_to past))

from_zero : (from : ℕ) (rows : List FrameRow) → AreAscending from rows → AreAscending 0 rows
from_zero from [] ascending = tt
from_zero from (row ∷ rows) ascending = (omega arith, ascending.1)

-- ---- what a look-up gives

past : (rows : List FrameRow) (i : ℕ) → length rows ≤ i → slice_get rows i ≡ None
past [] zero most = refl
past [] (suc i) most = refl
past (row ∷ rows) zero most = absurd (omega arith)
past (row ∷ rows) (suc i) most = past rows i (omega arith)

-- the row that is lent there, copied
pub got : (rows : List FrameRow) (i : ℕ) (r : Option (Bor FrameRow)) → is_some r ≡ nat_lt i (length rows) → IfSome r (λ x. x.now ≡ get_or rows i x.now) → option_copied r ≡ slice_get rows i
got rows i None some value = sym (past rows i (ltb-false i (length rows) (sym some)))
got rows i (Some x) some value = ap Some value ∙ sym (slice_get-get_or rows i x.now (ltb-true i (length rows) (sym some)))

-- ---- the rows of a program

module _ (layout : Layout) where
  from_ascend : (from : ℕ) (fs : List ProgramFunction) → AreAscending from (rows_from layout from fs)
  from_ascend from [] = tt
  from_ascend from (f ∷ fs) = (omega arith, from_ascend (from + 4 * function_size layout f) fs)

  pub rows_ascend : (p : Program) → AreAscending 0 (rows_of layout p)
  unfolding rows_of
  rows_ascend p = from_zero code_start (rows_from layout code_start p.functions) (from_ascend code_start p.functions)

  found_from : (from : ℕ) (fs : List ProgramFunction) (f : ℕ) (function : ProgramFunction) (pc : ℕ) → slice_get fs f ≡ Some function → from + 4 * functions_size layout (take f fs) ≤ pc → pc < from + 4 * functions_size layout (take f fs) + 4 * function_size layout function
      → row_behind (rows_from layout from fs) pc ≡ Some (row_at layout (from + 4 * functions_size layout (take f fs)) function)
  found_from from [] f function pc named least most = cc
  found_from from (g ∷ gs) zero function pc named least most =
      let same : function ≡ g = cc in
      let start : from + 4 * 0 ≡ from = omega arith in
      let size = ap (function_size layout) same in
      let under : pc < from + 4 * function_size layout g = omega arith in
      ap (λ (b : Bool). if b then Some (row_at layout from g) else row_behind (rows_from layout (from + 4 * function_size layout g) gs) pc) (lt-ltb pc (from + 4 * function_size layout g) under)
      ∙ (λ i. Some (row_at layout (sym start i) (sym same i)))
  found_from from (g ∷ gs) (suc f) function pc named least most =
      let size = function_size layout g in
      let before = functions_size layout (take f gs) in
      let start : from + 4 * size + 4 * before ≡ from + 4 * (size + before) = omega arith in
      let past : from + 4 * size ≤ pc = omega arith in
      ap (λ (b : Bool). if b then Some (row_at layout from g) else row_behind (rows_from layout (from + 4 * size) gs) pc) (le-ltb pc (from + 4 * size) past)
      ∙ found_from (from + 4 * size) gs f function pc named (omega arith) (omega arith)
      ∙ ap (λ (n : ℕ). Some (row_at layout n function)) start

  -- by any address of its code
  pub row_found : (p : Program) (f : ℕ) (function : ProgramFunction) (pc : ℕ) → slice_get p.functions f ≡ Some function → function_address layout p f ≤ pc → pc < function_address layout p f + 4 * function_size layout function → row_behind (rows_of layout p) pc ≡ Some (row_at layout (function_address layout p f) function)
  unfolding rows_of
  row_found p f function pc named least most = found_from code_start p.functions f function pc named least most

  -- by any word of an item
  pub row_of_item : (p : Program) (f : ℕ) (function : ProgramFunction) (i : ℕ) (item : Item) (k : ℕ) → HasItem p f function i item → k < item_size layout function item.kind → row_behind (rows_of layout p) (address_in layout p f function i + 4 * k) ≡ Some (row_at layout (function_address layout p f) function)
  row_of_item p f function i item k has inside =
      let within = item-within layout function function.items i item has.placed in
      row_found p f function (address_in layout p f function i + 4 * k) has.named (omega arith) (omega (arith, within, inside))
