-- Where words of items stand to one another: no word behind an item's first is the first word of an item, nor behind the last item (never_behind), so
-- a machine there is inside of no item (out_of_items), nor is one at an entry (at_entry).
use Rattle.std.proofs.Common.{◌≡◌, ℕ, zero, suc, ◌+◌, ◌<◌, ◌≤◌, List, [], ◌∷◌, take, Some, None, inl, inr, slice_get, refl, ap, subst, arith}
use Rattle.st_model.specs.declared.code.Layout.{Layout}
use Rattle.st_model.specs.declared.program.Item.{Item}
use Rattle.st_model.specs.declared.program.Program.{Program}
use Rattle.st_model.specs.declared.program.ProgramFunction.{ProgramFunction}
use Rattle.st_model.specs.Layout.{item_size, items_size, item_place, function_size, functions_size}
use Rattle.st_step.specs.Frames.{address_in}
use Rattle.st_items.specs.Ways.{IsBehind, IsInside}
use Rattle.st_step.specs.declared.state.State.{State}

module _ (layout : Layout) where
  -- the items before a place are no more than all
  items_before : (function : ProgramFunction) (xs : List Item) (i : ℕ) → items_size layout function (take i xs) ≤ items_size layout function xs
  items_before function xs zero = omega arith
  items_before function [] (suc i) = omega arith
  items_before function (x ∷ xs) (suc i) = omega (arith, items_before function xs i)

  item_before : (function : ProgramFunction) (xs : List Item) (i k : ℕ) (item : Item) → slice_get xs i ≡ Some item → k < item_size layout function item.kind → items_size layout function (take i xs) + k < items_size layout function xs
  item_before function [] i k item placed few = cc
  item_before function (x ∷ xs) zero k item placed few =
      let same : x ≡ item = cc in
      let size = ap (λ (y : Item). item_size layout function y.kind) same in
      omega (arith, size)
  item_before function (x ∷ xs) (suc i) k item placed few = omega (arith, item_before function xs i k item placed few)

  -- an item's first word is none of a word behind another's first
  items_apart : (function : ProgramFunction) (xs : List Item) (i j k : ℕ) (item : Item) → slice_get xs j ≡ Some item → 0 < k → k < item_size layout function item.kind → items_size layout function (take i xs) ≡ items_size layout function (take j xs) + k → ⊥
  items_apart function [] i j k item placed some few same = cc
  items_apart function (x ∷ xs) zero zero k item placed some few same = omega arith
  items_apart function (x ∷ xs) zero (suc j) k item placed some few same = omega arith
  items_apart function (x ∷ xs) (suc i) zero k item placed some few same =
      let is : x ≡ item = cc in
      let size = ap (λ (y : Item). item_size layout function y.kind) is in
      omega (arith, size)
  items_apart function (x ∷ xs) (suc i) (suc j) k item placed some few same = items_apart function xs i j k item placed some few (omega (arith, same))

  -- words of two functions at the same place are of one
  same_function : (fs : List ProgramFunction) (f g a b : ℕ) (function other : ProgramFunction) → slice_get fs f ≡ Some function → slice_get fs g ≡ Some other → a ≤ function_size layout function → 0 < b → b < function_size layout other
      → functions_size layout (take f fs) + a ≡ functions_size layout (take g fs) + b → f ≡ g
  same_function [] f g a b function other named there within some few same = cc
  same_function (x ∷ xs) zero zero a b function other named there within some few same = refl
  same_function (x ∷ xs) zero (suc g) a b function other named there within some few same =
      let is : x ≡ function = cc in
      let size = ap (function_size layout) is in
      absurd (omega (arith, size))
  same_function (x ∷ xs) (suc f) zero a b function other named there within some few same =
      let is : x ≡ other = cc in
      let size = ap (function_size layout) is in
      absurd (omega (arith, size))
  same_function (x ∷ xs) (suc f) (suc g) a b function other named there within some few same = ap suc (same_function xs f g a b function other named there within some few (omega (arith, same)))

  pub never_behind : (p : Program) (f : ℕ) (function : ProgramFunction) (i pc : ℕ) → slice_get p.functions f ≡ Some function → pc ≡ address_in layout p f function i → IsBehind layout p pc → ⊥
  never_behind p f function i pc named at behind =
      let there = behind.at in
      let some = behind.some in
      let first = items_before function function.items i in
      let second = item_before behind.function behind.function.items behind.i behind.k behind.item behind.has.placed behind.few in
      let place : functions_size layout (take f p.functions) + item_place layout function i ≡ functions_size layout (take behind.f p.functions) + (item_place layout behind.function behind.i + behind.k) = omega arith in
      let one = same_function p.functions f behind.f (item_place layout function i) (item_place layout behind.function behind.i + behind.k) function behind.function named behind.has.named (omega (arith, first)) (omega arith) (omega (arith, second)) place in
      let known = ap (slice_get p.functions) one in
      let here = behind.has.named in
      let is : behind.function ≡ function = cc in
      let sizes = ap (λ (n : ℕ). functions_size layout (take n p.functions)) one in
      let places = ap (λ (x : ProgramFunction). item_place layout x behind.i) is in
      items_apart function function.items i behind.i behind.k behind.item (subst (λ (x : ProgramFunction). slice_get x.items behind.i ≡ Some behind.item) is behind.has.placed) some
      (subst (λ (x : ProgramFunction). behind.k < item_size layout x behind.item.kind) is behind.few) (omega (arith, place, sizes, places))

  -- the machine is there, and in the middle of no store
  pub out_of_items : (p : Program) (f : ℕ) (function : ProgramFunction) (i : ℕ) (m : State) → slice_get p.functions f ≡ Some function → m.half ≡ None → m.pc ≡ address_in layout p f function i → IsInside layout p m → ⊥
  out_of_items p f function i m named whole at (inl half) = half whole
  out_of_items p f function i m named whole at (inr behind) = never_behind p f function i m.pc named at behind

  pub at_entry : (p : Program) (m : State) → m.half ≡ None → m.pc < 0x10000 → IsInside layout p m → ⊥
  at_entry p m whole low (inl half) = half whole
  at_entry p m whole low (inr behind) = let there = behind.at in omega arith
