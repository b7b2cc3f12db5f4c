-- What is told of the first undefined read: the lines of its path (lines-more, read-inside), and what it is for the function and the program
-- (read-told, told-first).
use Rattle.std.proofs.Common.{◌≡◌, ◌∙◌, ◌⊎◌, inl, inr, ℕ, zero, suc, ◌+◌, ◌-◌, ◌<◌, ◌≤◌, List, [], ◌∷◌, ◌++◌, refl, ap, sym, subst, append_assoc, append-nil, map, drop, slice_get, get_or, length, reverse, Option, Some, arith}
use Rattle.std.specs.Prelude.{All, AllPairs}
use Rattle.std.proofs.Math.Logic.{∥∥₁_elim}
use Rattle.std.proofs.lemmas.List.{map-append, reverse-reverse, append-nil, length-reverse, get_or-reverse}
use Rattle.std.proofs.lemmas.Bool.{cases_order}
use Rattle.std.proofs.lemmas.Grind.{get_or_default_zero}
use Rattle.std.proofs.lemmas.Option.{slice_get_within, slice_get_read}
use Rattle.st_base.specs.declared.line.Line.{Line}
use Rattle.st_base.specs.declared.form.FormKind.TheVariants.{UndefinedRead as UndefinedRead'}
use Rattle.st_asm.specs.Unit.{IsEarlier}
use Rattle.st_asm.proofs.LineOrder.{earlier-not_same, earlier-not_later}
use Rattle.st_model.specs.declared.program.Item.{Item}
use Rattle.st_model.specs.declared.program.Program.{Program}
use Rattle.st_model.specs.declared.program.ProgramFunction.{ProgramFunction}
use Rattle.st_model.specs.Flow.{Leads, UndefinedRead}
use Rattle.st_flow.specs.Undefined.{ReadsPlace, LeavesUndefined, PassesOnce}
use Rattle.st_check.specs.declared.fault.FormFault.{FormFault}
use Rattle.st_check.specs.Acceptance.{line_of, lines_at, IsFirstRead, IsReadFault, HasOrder}
use Rattle.st_check.specs.Reads.{IsToldOf, IsFirstTold, ReadsDefinedBelow, ReadsDefined}
use Rattle.st_check.proofs.Drops.{drop-read, drop-past}
use Rattle.st_check.proofs.ItemOrder.{item_lines, items-earlier, order-inside, order-earlier}

pub lines-more : (function : ProgramFunction) (path : List ℕ) (lines lines' : List Line) (i at : ℕ) (line : Line) → i < length path → at ≡ get_or path i 0 → Some line ≡ line_of (slice_get function.items at) → lines' ≡ lines ++ line ∷ [] → map Some lines ++ lines_at function (drop i path) ≡ lines_at function path → map Some lines' ++ lines_at function (drop (i + 1) path) ≡ lines_at function path
lines-more function path lines lines' i at line inside here there grown known =
    let rest = lines_at function (drop (i + 1) path) in
    ap (λ ls. map Some ls ++ rest) grown
    ∙ ap (λ ls. ls ++ rest) (map-append Some lines (line ∷ []))
    ∙ append_assoc (map Some lines) (Some line ∷ []) rest
    ∙ ap (λ o. map Some lines ++ (o ∷ rest)) there
    ∙ ap (λ is. map Some lines ++ lines_at function is) (sym (drop-read path i at inside (here ∙ sym (get_or_default_zero path i at inside))))
    ∙ known

pub lines-end : (function : ProgramFunction) (path : List ℕ) (lines : List (Option Line)) (i : ℕ) → length path ≤ i → lines ++ lines_at function (drop i path) ≡ lines_at function path → lines ≡ lines_at function path
lines-end function path lines i end known =
    sym (append-nil lines) ∙ ap (λ is. lines ++ lines_at function is) (sym (drop-past path i end)) ∙ known

-- ---- the path lies in the function

abbrev pub AreInside : ProgramFunction → List ℕ → Type 0
AreInside function is = All (λ i. i < length function.items) is

inside-here : (function : ProgramFunction) (i : ℕ) (is : List ℕ) → i < length function.items → AreInside function is → AreInside function (i ∷ is)
inside-here function i is here all zero d inside = here
inside-here function i is here all (suc k) d inside = all k d (omega arith)

back-inside : (function : ProgramFunction) (back : List ℕ) (at : ℕ) → Leads function back at → AreInside function back
back-inside function [] at leads = λ k d inside. absurd (omega arith)
back-inside function (j ∷ back) at leads =
    inside-here function j back (slice_get_within function.items j leads.1.0 leads.1.1) (back-inside function back j leads.0)

inside-turned : (function : ProgramFunction) (is : List ℕ) → AreInside function is → AreInside function (reverse is)
inside-turned function is all = λ k d inside.
    let long : length (reverse is) ≡ length is = length-reverse is in
    let below : k < length is = omega (arith, long, inside) in
    subst (λ i. i < length function.items) (sym (get_or-reverse is k d below)) (all (length is - 1 - k) d (omega (arith, below)))

pub path-inside : (p : Program) (function : ProgramFunction) (at place : ℕ) (path : List ℕ) → ReadsPlace p function at place → LeavesUndefined function place at path → AreInside function path
path-inside p function at place path reads leaves =
    let all = inside-here function at leaves.0 (slice_get_within function.items at reads.0 reads.1) (back-inside function leaves.0 at leaves.2) in
    let turned : path ≡ reverse (at ∷ leaves.0) = sym (reverse-reverse path) ∙ ap reverse leaves.1 in
    subst (AreInside function) (sym turned) (inside-turned function (at ∷ leaves.0) all)

-- ---- what is told

pub read-told : (p : Program) (function : ProgramFunction) (at place : ℕ) (path : List ℕ) (line : Line) (lines : List Line) → ReadsPlace p function at place → LeavesUndefined function place at path → PassesOnce function place path → ((read : UndefinedRead p function) → at ≤ read.at) → Some line ≡ line_of (slice_get function.items at) → map Some lines ≡ lines_at function path → IsToldOf p function (record { line = line; kind = UndefinedRead'; path = lines })
read-told p function at place path line lines reads leaves shape first here told =
    let turned : path ≡ reverse (at ∷ leaves.0) = sym (reverse-reverse path) ∙ ap reverse leaves.1 in
    let there : Some line ≡ Some reads.0.line = here ∙ ap line_of reads.1 in
    record {
      bad = record { back = leaves.0; at = at; item = reads.0; place = place; leads = leaves.2; here = reads.1; reads = reads.2; undefined = leaves.3 };
      first = first;
      kind = refl;
      line = (let same : line ≡ reads.0.line = cc in same);
      path = told ∙ ap (lines_at function) turned;
      once = subst (PassesOnce function place) turned shape;
    }

-- an item with an undefined read, before the first one of its function
not_earlier-in : (p : Program) (function : ProgramFunction) (bad : UndefinedRead p function) → ((read : UndefinedRead p function) → bad.at ≤ read.at) → AllPairs IsEarlier (item_lines function.items) → (read : UndefinedRead p function) → IsEarlier read.item.line bad.item.line → ⊥
not_earlier-in p function bad first order read earlier =
    let low : bad.at ≤ read.at = first read in
    elim (cases_order read.at bad.at) [
      | inl same ↦
          let here : slice_get function.items bad.at ≡ Some read.item = subst (λ n. slice_get function.items n ≡ Some read.item) same read.here in
          let there : slice_get function.items bad.at ≡ Some bad.item = bad.here in
          let equal : read.item ≡ bad.item = cc in
          earlier-not_same bad.item.line (subst (λ (item : Item). IsEarlier item.line bad.item.line) equal earlier)
      | inr (inl before) ↦ omega (arith, low, before)
      | inr (inr behind) ↦
          earlier-not_later read.item.line bad.item.line earlier (items-earlier function.items bad.at read.at bad.item read.item order bad.here read.here behind)
    ]

-- no undefined read stands on an earlier line than the first one by the order of functions and items
first-by_line : (p : Program) (fault : FormFault) → IsFirstTold p fault → HasOrder p → IsFirstRead p fault.line
first-by_line p fault is order g function here read earlier =
    let told = is.told in
    let before : IsEarlier read.item.line told.bad.item.line = subst (IsEarlier read.item.line) told.line earlier in
    elim (cases_order g is.f) [
      | inl same ↦
          let at : slice_get p.functions is.f ≡ Some function = subst (λ n. slice_get p.functions n ≡ Some function) same here in
          let there : slice_get p.functions is.f ≡ Some is.function = is.there in
          let equal : function ≡ is.function = cc in
          let P : ProgramFunction → Type 0 = λ it. (other : UndefinedRead p it) → IsEarlier other.item.line told.bad.item.line → ⊥ in
          subst P (sym equal) (not_earlier-in p is.function told.bad told.first (order-inside p.functions is.f is.function order is.there)) read before
      | inr (inl less) ↦ is.below g function less here read
      | inr (inr more) ↦
          earlier-not_later read.item.line told.bad.item.line before
          (order-earlier p.functions is.f g told.bad.at read.at is.function function told.bad.item read.item order is.there told.bad.here here read.here more)
    ]

-- what is told first by the order of functions and items is first by file and line
pub told-first : (p : Program) (fault : FormFault) → ∥ HasOrder p ∥₁ → IsFirstTold p fault → IsReadFault p fault
told-first p fault order is =
    let prop : IsProp ⊥ = hlevel in record {
      f = is.f;
      function = is.function;
      there = is.there;
      bad = is.told.bad;
      first = λ g function here bad earlier. ∥∥₁_elim order prop (λ o. first-by_line p fault is o g function here bad earlier);
      kind = is.told.kind;
      line = is.told.line;
      path = is.told.path;
      once = is.told.once;
    }

below-by : (p : Program) (f g : ℕ) (function other : ProgramFunction) → slice_get p.functions f ≡ Some function → (UndefinedRead p function → ⊥) → ReadsDefinedBelow p f → slice_get p.functions g ≡ Some other → UndefinedRead p other → (g < f) ⊎ (g ≡ f) → ⊥
below-by p f g function other there none below here read (inl before) = below g other before here read
below-by p f g function other there none below here read (inr same) =
    let moved : slice_get p.functions f ≡ Some other = subst (λ n. slice_get p.functions n ≡ Some other) same here in
    let equal : other ≡ function = cc in
    none (subst (UndefinedRead p) equal read)

below-or-at : (f g : ℕ) → g < f + 1 → (g ≡ f) ⊎ ((g < f) ⊎ (f < g)) → (g < f) ⊎ (g ≡ f)
below-or-at f g before (inl same) = inr same
below-or-at f g before (inr (inl less)) = inl less
below-or-at f g before (inr (inr more)) = absurd (omega (arith, before, more))

pub below-more : (p : Program) (f : ℕ) (function : ProgramFunction) → slice_get p.functions f ≡ Some function → (UndefinedRead p function → ⊥) → ReadsDefinedBelow p f → ReadsDefinedBelow p (f + 1)
below-more p f function there none below g other before here read =
    below-by p f g function other there none below here read (below-or-at f g before (cases_order g f))

pub below-end : (p : Program) (gs : List ProgramFunction) (end : ℕ) → gs ≡ p.functions → length gs ≤ end → ReadsDefinedBelow p end → ReadsDefined p
below-end p gs end same past below f function here read =
    let inside : f < length gs = slice_get_within gs f function (ap (λ ls. slice_get ls f) same ∙ here) in
    below f function (omega (arith, past, inside)) here read

pub function-at : (fs gs : List ProgramFunction) (i : ℕ) (function : ProgramFunction) → gs ≡ fs → i < length gs → function ≡ get_or gs i function → slice_get fs i ≡ Some function
function-at fs gs i function same inside here =
    ap (λ ls. slice_get ls i) (sym same) ∙ slice_get_read gs (length gs) i function refl inside here
