-- A line without a fault is an item that fits the program (line-fits).
use Rattle.std.proofs.Common.{◌≡◌, ◌∙◌, inl, inr, ℕ, ◌+◌, true, ◌||◌, List, refl, ap, subst, slice_get, map, Option, Some, None, arith, is_some}
use Rattle.std.specs.Prelude.{option_map, codes}
use Rattle.std.specs.Str.{bytes_eq}
use Rattle.std.proofs.lemmas.Bool.{or_cases}
use Rattle.std.proofs.lemmas.Option.{slice_get-map}
use Rattle.std.proofs.lemmas.Slice.Eq.{bytes_eq-Decides}
use Rattle.st_asm.specs.declared.unit.Function.{Function}
use Rattle.st_asm.specs.Labels.{is_named}
use Rattle.st_model.specs.declared.program.RuntimeCall.{RuntimeCall}
use Rattle.st_model.specs.Effect.{runtime_call}
use Rattle.st_model.specs.Accepted.{HasFunction, Fits}
use Rattle.st_check.specs.Faults.{names_of, is_runtime_call}
use Rattle.st_check.specs.Programs.{function_place, entry_address, call_kind, program_function, program_of}
use Rattle.st_model.specs.declared.program.ProgramFunction.{ProgramFunction}
use Rattle.st_check.proofs.NamePlaces.{place_from_is_named}
use Rattle.st_check.proofs.LineRight.{IsThere, place_from-there}

-- the name of a runtime call is an entry of one
abbrev pub IsEntry : List ℕ → Type 0
IsEntry name = (call : RuntimeCall) × (runtime_call (entry_address name) ≡ Some call)

entry-named : (text name : List ℕ) → bytes_eq text name ≡ true → IsEntry text → IsEntry name
entry-named text name e entry = subst IsEntry ((bytes_eq-Decides text name).0 e) entry

pub runtime_call-entry : (name : List ℕ) → is_runtime_call name ≡ true → IsEntry name
runtime_call-entry name e =
    elim (or_cases _ _ e) [
      | inl a ↦ entry-named (codes "st_touch") name a (_, refl)
      | inr b ↦
          elim (or_cases _ _ b) [
            | inl a ↦ entry-named (codes "st_counter") name a (_, refl)
            | inr c ↦
                elim (or_cases _ _ c) [
                  | inl a ↦ entry-named (codes "st_done") name a (_, refl)
                  | inr d ↦
                      elim (or_cases _ _ d) [
                        | inl a ↦ entry-named (codes "st_join") name a (_, refl)
                        | inr f ↦
                            elim (or_cases _ _ f) [
                              | inl a ↦ entry-named (codes "st_poll") name a (_, refl)
                              | inr g ↦
                                  elim (or_cases _ _ g) [ inl a ↦ entry-named (codes "st_putc") name a (_, refl) | inr none ↦ cc ]
                            ]
                      ]
                ]
          ]
    ]

pub has-function : (functions : List Function) (f : ℕ) → IsThere 0 f functions → HasFunction (program_of functions) f
unfolding program_of
has-function functions f t =
    let place : f ≡ 0 + t.i = t.place in
    let same : f ≡ t.i = omega (arith, place) in (
      program_function functions t.function,
      ap (slice_get (map (program_function functions) functions)) same ∙ slice_get-map (program_function functions) functions t.i ∙ ap (option_map (program_function functions)) t.there,
    )

-- a call of a function or of the runtime
call-fits : (functions : List Function) (function : ProgramFunction) (name : List ℕ) (o : Option ℕ) → function_place functions name ≡ o → (is_some o || is_runtime_call name) ≡ true → Fits (program_of functions) function (call_kind functions name o)
call-fits functions function name None e right = runtime_call-entry name right
call-fits functions function name (Some f) e right = has-function functions f (place_from-there 0 f name functions e)

pub call-kind-fits : (functions : List Function) (function : ProgramFunction) (name : List ℕ) → (is_named name (names_of functions) || is_runtime_call name) ≡ true → Fits (program_of functions) function (call_kind functions name (function_place functions name))
call-kind-fits functions function name right =
    call-fits functions function name (function_place functions name) refl (ap (λ b. b || is_runtime_call name) (place_from_is_named 0 name functions) ∙ right)
