-- A unit without a fault of form has a program of formed functions, and a right main (unit-formed); with no undefined read it is accepted
-- (formed-accepted).
use Rattle.std.proofs.Common.{◌≡◌, ◌∙◌, ℕ, zero, suc, ◌+◌, ◌≤◌, Bool, true, false, not, ◌==◌, List, [], ◌∷◌, refl, ap, sym, subst, cond, slice_get, map, Option, Some, None, arith, nat_le}
use Rattle.std.specs.Prelude.{option_map}
use Rattle.std.specs.Str.{bytes_eq}
use Rattle.std.proofs.lemmas.Bool.{eqb-true, leb-true}
use Rattle.std.proofs.lemmas.Option.{slice_get-map}
use Rattle.st_base.specs.declared.form.FormKind.TheVariants as forms
use Rattle.st_asm.specs.declared.unit.Function.{Function}
use Rattle.st_asm.specs.Unit.{IsUnit}
use Rattle.st_check.proofs.Sound.{IsSoundFunction, unit-sound}
use Rattle.st_model.specs.declared.program.ProgramFunction.{ProgramFunction}
use Rattle.st_model.specs.Flow.{UndefinedRead}
use Rattle.st_model.specs.Accepted.{IsFormed, IsAccepted}
use Rattle.st_check.specs.Shape.{Shape, faulty, formed, shape_of}
use Rattle.st_check.specs.Faults.{main_name, fault_when, is_main_right, main_faults, function_faults, functions_faults, unit_faults}
use Rattle.st_check.specs.Programs.{place_from, number_or, function_by, program_function, program_of}
use Rattle.st_check.proofs.Frames.{and-both}
use Rattle.st_check.proofs.LineRight.{append-none, when-right}
use Rattle.st_check.proofs.FormedFunctions.{function-formed}
use Rattle.st_check.proofs.Successors.{function-stays}

-- main, and the forms of all functions
pub record IsFormedUnit (functions : List Function) : Type 0 where
  pub main : ProgramFunction
  pub has_main : slice_get (program_of functions).functions (program_of functions).main ≡ Some main
  pub main_ints : main.ints ≤ 1
  pub main_handles : main.handles ≡ 0
  pub functions_formed : (f : ℕ) (function : ProgramFunction) → slice_get (program_of functions).functions f ≡ Some function → IsFormed (program_of functions) function

abbrev pub AreSound : List Function → Type 0
AreSound functions = (f : ℕ) (function : Function) → slice_get functions f ≡ Some function → IsSoundFunction functions function

faults-each : (all : List Function) (k : ℕ) (gs : List Function) → functions_faults all k gs ≡ [] → (i : ℕ) (function : Function) → slice_get gs i ≡ Some function → function_faults all (k + i) function ≡ []
faults-each all k [] none i function here = cc
faults-each all k (g ∷ gs) none zero function here =
    let same : g ≡ function = cc in
    let e : k + 0 ≡ k = omega arith in
    subst (λ (it : Function). function_faults all (k + 0) it ≡ []) same (subst (λ n. function_faults all n g ≡ []) (sym e) (append-none (function_faults all k g) _ none).0)
faults-each all k (g ∷ gs) none (suc i) function here =
    let e : k + 1 + i ≡ k + suc i = omega arith in
    subst (λ n. function_faults all n function ≡ []) e (faults-each all (k + 1) gs (append-none (function_faults all k g) _ none).1 i function here)

pub record HasMain (k : ℕ) (functions : List Function) : Type 0 where
  pub i : ℕ
  pub function : Function
  pub place : place_from k main_name functions ≡ Some (k + i)
  pub there : slice_get functions i ≡ Some function
  pub right : is_main_right function ≡ true

main-here : (k : ℕ) (g : Function) (gs : List Function) → bytes_eq g.name main_name ≡ true → is_main_right g ≡ true → HasMain k (g ∷ gs)
main-here k g gs named right =
    let e : k ≡ k + 0 = omega arith in
    record { i = 0; function = g; place = ap (λ b. cond b (Some k) (place_from (k + 1) main_name gs)) named ∙ ap Some e; there = refl; right = right }

main-behind : (k : ℕ) (g : Function) (gs : List Function) → bytes_eq g.name main_name ≡ false → HasMain (k + 1) gs → HasMain k (g ∷ gs)
main-behind k g gs named rest =
    let e : k + 1 + rest.i ≡ k + suc rest.i = omega arith in
    record { i = suc rest.i; function = rest.function; place = ap (λ b. cond b (Some k) (place_from (k + 1) main_name gs)) named ∙ rest.place ∙ ap Some e; there = rest.there; right = rest.right }

main-by : (b : Bool) (k : ℕ) (g : Function) (gs : List Function) → bytes_eq g.name main_name ≡ b → cond b (fault_when (not (is_main_right g)) g.line forms.NoMain) (main_faults gs) ≡ [] → (main_faults gs ≡ [] → HasMain (k + 1) gs) → HasMain k (g ∷ gs)
main-by true k g gs named none rest = main-here k g gs named (when-right (is_main_right g) g.line forms.NoMain none)
main-by false k g gs named none rest = main-behind k g gs named (rest none)

main-there : (k : ℕ) (gs : List Function) → main_faults gs ≡ [] → HasMain k gs
main-there k [] none = cc
main-there k (g ∷ gs) none = main-by (bytes_eq g.name main_name) k g gs refl none (main-there (k + 1) gs)

ints-same : (functions : List Function) (function : Function) (s : Shape) → (function_by functions function s).ints ≡ function.ints
ints-same functions function (faulty fault) = refl
ints-same functions function (formed shape) = refl

handles-same : (functions : List Function) (function : Function) (s : Shape) → (function_by functions function s).handles ≡ function.handles
handles-same functions function (faulty fault) = refl
handles-same functions function (formed shape) = refl

program-at : (functions : List Function) (i : ℕ) (function : Function) → slice_get functions i ≡ Some function → slice_get (program_of functions).functions i ≡ Some (program_function functions function)
unfolding program_of
program-at functions i function there = slice_get-map (program_function functions) functions i ∙ ap (option_map (program_function functions)) there

main-at : (functions : List Function) (m : HasMain 0 functions) → slice_get (program_of functions).functions (program_of functions).main ≡ Some (program_function functions m.function)
unfolding program_of
main-at functions m =
    let e : 0 + m.i ≡ m.i = omega arith in
    let place : (program_of functions).main ≡ m.i = ap number_or m.place ∙ e in
    ap (slice_get (map (program_function functions) functions)) place ∙ program-at functions m.i m.function m.there

at-formed : (functions : List Function) → AreSound functions → functions_faults functions 0 functions ≡ [] → (f : ℕ) (o : Option Function) (found : ProgramFunction) → slice_get functions f ≡ o → option_map (program_function functions) o ≡ Some found → IsFormed (program_of functions) found
at-formed functions is none f None found here same = cc
at-formed functions is none f (Some function) found here same =
    let e : 0 + f ≡ f = omega arith in
    let free : function_faults functions f function ≡ [] = subst (λ n. function_faults functions n function ≡ []) e (faults-each functions 0 functions none f function here) in
    let each = is f function here in
    let equal : program_function functions function ≡ found = cc in
    subst (IsFormed (program_of functions)) equal (function-formed functions f function each free (function-stays functions f function here each free))

all-formed : (functions : List Function) → AreSound functions → functions_faults functions 0 functions ≡ [] → (f : ℕ) (found : ProgramFunction) → slice_get (program_of functions).functions f ≡ Some found → IsFormed (program_of functions) found
unfolding program_of
all-formed functions is none f found here =
    at-formed functions is none f (slice_get functions f) found refl (sym (slice_get-map (program_function functions) functions f) ∙ here)

pub unit-formed : (functions : List Function) → AreSound functions → unit_faults functions ≡ [] → IsFormedUnit functions
unfolding unit_faults
unit-formed functions is none =
    let parts = append-none (main_faults functions) (functions_faults functions 0 functions) none in
    let m = main-there 0 functions parts.0 in
    let right = and-both (nat_le m.function.ints 1) (m.function.handles == 0) m.right in
    let few : m.function.ints ≤ 1 = leb-true _ _ right.0 in
    record {
      main = program_function functions m.function;
      has_main = main-at functions m;
      main_ints = subst (λ n. n ≤ 1) (sym (ints-same functions m.function (shape_of m.function))) few;
      main_handles = handles-same functions m.function (shape_of m.function) ∙ eqb-true _ _ right.1;
      functions_formed = all-formed functions is parts.1;
    }

pub formed-accepted : (functions : List Function) → IsFormedUnit functions → ((f : ℕ) (function : ProgramFunction) → slice_get (program_of functions).functions f ≡ Some function → UndefinedRead (program_of functions) function → ⊥) → IsAccepted (program_of functions)
formed-accepted functions is defined = record {
  main = is.main;
  has_main = is.has_main;
  main_ints = is.main_ints;
  main_handles = is.main_handles;
  functions = λ f function here. record { formed = is.functions_formed f function here; defined = defined f function here };
}

-- what merely has what every unit has is enough
pub merely-formed : (functions : List Function) (rodata : List ℕ) → ∥ IsUnit functions rodata ∥₁ → unit_faults functions ≡ [] → IsFormedUnit functions
merely-formed functions rodata is none = unit-formed functions (λ f function there. unit-sound functions rodata f function is there) none
