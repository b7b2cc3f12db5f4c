use Rattle.std.proofs.Common.{arith, sym, ◌∙◌, ◌≡◌, Some}
use Rattle.std.proofs.Math.Logic.{∥∥₁_elim}
use Rattle.std.proofs.lemmas.Result.{IfOk-weaker}
use Rattle.st_model.specs.Memory.{data_of}
use Rattle.st_model.proofs.Steps.{run_is_from, none_is_from, run_went}
use Rattle.st_model.proofs.RunFlow.{always_defined}
use Rattle.st_model.proofs.ordinary.ordinary.Goals as goal

none_prop : (x y : ⊥) → x ≡ y
none_prop x y = absurd x

pub unreachable-requires : goal.unreachable-requires
unreachable-requires c =
    let d = data_of c.args.rodata.now c.args.input.now in
    ∥∥₁_elim c.requires.accepted none_prop (λ accepted.
    always_defined c.args.program.now d accepted c.args.steps
    (none_is_from _ d c.args.steps (sym c.in_ok-start.ensures.state ∙ c.in-None.is)))

pub run-requires-clause-defined : goal.run-requires-clause-defined
run-requires-clause-defined c =
    let d = data_of c.args.rodata.now c.args.input.now in
    λ e. ∥∥₁_elim c.requires.accepted none_prop (λ accepted.
    always_defined c.args.program.now d accepted c.args.steps
    (run_is_from _ d c.args.steps c.in-Some.state (sym c.in_ok-start.ensures.state ∙ c.in-Some.is) ∙ e))

pub returns-clause-ends : goal.returns-clause-ends
returns-clause-ends c =
    let d = data_of c.args.rodata.now c.args.input.now in
    let from = run_is_from _ d c.args.steps c.in-Some.state (sym c.in_ok-start.ensures.state ∙ c.in-Some.is) in
    IfOk-weaker c.run.result _ _ (λ end e ne. (ne, (c.args.steps, from ∙ sym e))) c.run.ensures

pub returns-clause-going : goal.returns-clause-going
returns-clause-going c =
    let p = c.args.program.now in
    let d = data_of c.args.rodata.now c.args.input.now in
    let started = sym c.in_ok-start.ensures.state ∙ c.in-Some.is in
    IfOk-weaker c.run.result _ _
    (λ end e. (
      (λ is n le. run_is_from p d n _ started ∙ run_went p d n c.args.steps c.in-Some.state le (sym e ∙ (λ i. Some (is i)))),
      (λ all.
          let last = all c.args.steps (omega arith) in
          let from = run_is_from p d c.args.steps c.in-Some.state started in
          cc),
    ))
    c.run.ensures
