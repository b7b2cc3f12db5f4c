-- The first activation of main leads on: start_flows, which serves each machine. Before it the file holds 0 in zero and the length of the
-- input in a0, of which main takes its arguments.
use Rattle.std.proofs.Common.{◌≡◌, ℕ, ◌+◌, ◌<◌, ◌≤◌, true, ◌==◌, length, Option, Some, None, refl, sym, ◌∙◌, subst, arith, inl, inr}
use Rattle.std.specs.Prelude.{slice_get, replicate, slice_set, slice_index_or, ◌||◌}
use Rattle.std.proofs.lemmas.List.{length-replicate, length-set}
use Rattle.std.proofs.lemmas.Bool.{or_cases, or_left, eqb-true, eq-eqb}
use Rattle.st_base.specs.declared.reg.Reg.TheVariants.{A0}
use Rattle.st_base.specs.declared.registers.Pick.TheVariants.{Arguments}
use Rattle.st_base.specs.declared.thread.Held.{Held}
use Rattle.st_base.specs.declared.thread.Held.TheVariants.{Number}
use Rattle.st_base.specs.declared.thread.ActivationKind.TheVariants.{Root}
use Rattle.st_base.specs.Registers.{write_register, picked, zeroed}
use Rattle.st_model.specs.declared.program.Program.{Program}
use Rattle.st_model.specs.declared.program.ProgramFunction.{ProgramFunction}
use Rattle.st_model.specs.Effect.{entered}
use Rattle.st_model.specs.Flow.{Defined, between, is_argument}
use Rattle.st_model.specs.Accepted.{IsAccepted}
use Rattle.st_model.proofs.Places.{between_holds}
use Rattle.st_model.proofs.Flowing.{Known, HasFile, Classed, file_write}
use Rattle.st_model.proofs.EffectFlow.{Flows}
use Rattle.st_model.proofs.CallFlow.{entered_flows}

zeroed_each : (known : Known) (x : ℕ) → x < 32 → x == 0 ≡ true → Classed known x (slice_index_or zeroed x None)
unfolding zeroed
zeroed_each known x lt is =
    subst (λ y. Classed known y (slice_index_or (slice_set (replicate 32 None) 0 (Some (Number 0))) y None)) (sym (eqb-true x 0 is)) (inl (refl, tt))

zeroed_long : length zeroed ≡ 32
unfolding zeroed
zeroed_long =
    let none : Option Held = None in
    length-set (replicate 32 none) 0 (Some (Number 0)) ∙ length-replicate 32 none

zeroed_has : (known : Known) → HasFile known (λ x. x == 0) zeroed
zeroed_has known = record { long = zeroed_long; first = refl; each = zeroed_each known }

-- what main has at its entry
abbrev at_main : Defined
at_main x = x == 10 || x == 0

main_has : (known : Known) (n : ℕ) → HasFile known at_main (write_register zeroed A0 (Number n))
main_has known n =
    file_write known (λ x. x == 0) at_main zeroed A0 (Number n) (zeroed_has known) (inl (refl, tt)) refl
    (λ x lt is. elim (or_cases (x == 10) (x == 0) is) [ inl a ↦ inl (eqb-true x 10 a) | inr b ↦ inr b ])

main_arguments : (ints handles x : ℕ) → ints ≤ 1 → handles ≡ 0 → is_argument ints handles x ≡ true → at_main x ≡ true
main_arguments ints handles x few none is =
    elim (or_cases (between 10 (10 + ints) x) (between 16 (16 + handles) x) is) [
      | inl a ↦ let b = between_holds 10 (10 + ints) x a in or_left _ _ (eq-eqb x 10 (omega arith))
      | inr a ↦ let b = between_holds 16 (16 + handles) x a in absurd (omega arith)
    ]

pub start_flows : (known : Known) (p : Program) (input : ℕ) (main : ProgramFunction) → IsAccepted p → slice_get p.functions p.main ≡ Some main → main.ints ≤ 1 → main.handles ≡ 0 → Flows known p (entered p.main main zeroed Root) (picked (Arguments main.ints 0) (write_register zeroed A0 (Number input)))
start_flows known p input main accepted here few none =
    subst (λ h. Flows known p (entered p.main main zeroed Root) (picked (Arguments main.ints h) (write_register zeroed A0 (Number input)))) none
    (entered_flows known p p.main main at_main zeroed (write_register zeroed A0 (Number input)) Root here (accepted.functions p.main main here) (main_has known input) (λ x. main_arguments main.ints main.handles x few none))
