-- What all workers do by themselves keeps the rule: rule_settles.
use Rattle.std.proofs.Common.{◌≡◌, ◌≢◌, ℕ, zero, suc, ◌≤◌, ◌<◌, nat_lt, Bool, true, false, if◌then◌else◌, [], ◌++◌, refl, sym, ◌∙◌, ap, subst, arith, ltb-true, ltb-false}
use mathlib.Core.Logic.{dite}
use native.Mathlib.Decide.{ℕ_discrete}
use Rattle.st_base.specs.declared.limits.Limits.{Limits}
use Rattle.st_words.specs.declared.view.View.{View}
use Rattle.st_words.specs.Careful.{Meaning}
use Rattle.st_model.specs.declared.program.Program.{Program}
use Rattle.st_model.specs.Memory.{Data}
use Rattle.st_model.specs.Heap.{Heap}
use Rattle.st_made.specs.Moves.{Made}
use Rattle.st_made.proofs.MadeRuns.{append_runs}
use Rattle.st_world.specs.Functions.{put}
use Rattle.st_world.specs.World.{World}
use Rattle.st_world.proofs.Functions.{put_here, put_other, function_same}
use Rattle.st_rule.specs.Rule.{Rule}
use Rattle.st_rule.specs.Laws.{RunOn, RuleMoves, RuleSettles}

-- the first so many workers are settled
abbrev first_settled : (ℕ → View) → ℕ → (ℕ → View) → ℕ → View
first_settled own zero view = view
first_settled own (suc n) view = put (first_settled own n view) n (own n)

not_yet : (own view : ℕ → View) (n w : ℕ) → n ≤ w → first_settled own n view w ≡ view w
not_yet own view zero w l = refl
not_yet own view (suc n) w l = put_other (first_settled own n view) n (own n) w (λ e. omega (arith, l, e)) ∙ not_yet own view n w (omega (arith, l))

its_own : (own view : ℕ → View) (n w : ℕ) → w < n → first_settled own n view w ≡ own w
its_own own view zero w l = let no : ⊥ = omega (arith, l) in absurd no
its_own own view (suc n) w l = dite (ℕ_discrete w n)
    (λ (e : w ≡ n). ap (first_settled own (suc n) view) e ∙ (put_here (first_settled own n view) n (own n) ∙ ap own (sym e)))
    (λ (d : w ≢ n). put_other (first_settled own n view) n (own n) w d ∙ its_own own view n w (omega (arith, l, d)))

by_worker : (b : Bool) (w n : ℕ) (a c v : View) → nat_lt w n ≡ b → (w < n → v ≡ a) → (n ≤ w → v ≡ c) → v ≡ (if b then a else c)
by_worker true w n a c v e small large = small (ltb-true w n e)
by_worker false w n a c v e small large = large (ltb-false w n e)

all_settled : (own view : ℕ → View) (n : ℕ) → first_settled own n view ≡ (λ w. if nat_lt w n then own w else view w)
all_settled own view n = function_same (first_settled own n view) (λ w. if nat_lt w n then own w else view w)
    (λ w. by_worker (nat_lt w n) w n (own w) (view w) (first_settled own n view w) refl (its_own own view n w) (not_yet own view n w))

module _ (m : Meaning) (program : Program) (source : Data) (limits : Limits) (moves : RuleMoves m program source limits) where
  abbrev On : Heap → Heap → World → (ℕ → View) → Type 0
  On h0 h x view = RunOn m program source limits h0 h (record x { view = view })

  some_settled : (h0 h : Heap) (x : World) (own : ℕ → View) → Rule m program source limits h0 h x → ((w : ℕ) → w < x.workers → Made program source (x.view w) (own w)) → (n : ℕ) → n ≤ x.workers → On h0 h x (first_settled own n x.view)
  some_settled h0 h x own r made zero l = record { heap = h; steps = []; run = refl; rule = r }
  some_settled h0 h x own r made (suc n) l =
      let before = some_settled h0 h x own r made n (omega (arith, l)) in
      let now : first_settled own n x.view n ≡ x.view n = not_yet own x.view n n (omega arith) in
      let on = moves h0 before.heap (record x { view = first_settled own n x.view }) n (own n) before.rule l (subst (λ (v : View). Made program source v (own n)) (sym now) (made n l)) in
      record { heap = on.heap; steps = before.steps ++ on.steps; run = append_runs program source h before.heap on.heap before.steps on.steps before.run on.run; rule = on.rule }

  pub rule_settles : RuleSettles m program source limits
  rule_settles h0 h x own r made = subst (λ (f : ℕ → View). On h0 h x f) (all_settled own x.view x.workers) (some_settled h0 h x own r made x.workers (omega arith))
