use Rattle.std.proofs.Common.{◌≡◌, ◌∙◌, ◌≤◌, List, length, ap, sym, subst}
use Rattle.st_asm.specs.declared.unit.Function.{Function}
use Rattle.st_model.specs.declared.code.Layout.{Layout}
use Rattle.st_model.specs.declared.program.Program.{Program}
use Rattle.st_model.specs.declared.program.ProgramFunction.{ProgramFunction}
use Rattle.st_model.specs.Accepted.{IsAccepted}
use Rattle.st_model.specs.Layout.{HasSize, functions_size}
use Rattle.st_post.specs.Size.{most_words}
use Rattle.st_model.proofs.CodeSize.{code_fits}
use Rattle.st_post.proofs.ProgramLengths.{same_length}
use Rattle.st_post.proofs.layout.lay_out.Goals as goal

fits : (layout : Layout) (functions : List ProgramFunction) (p : Program) → functions ≡ p.functions → ∥ IsAccepted p ∥₁ → ∥ HasSize p ∥₁ → functions_size layout functions ≤ most_words
fits layout functions p are accepted size = subst (λ fs. functions_size layout fs ≤ most_words) (sym are) (code_fits layout p accepted size)

pub functions_of-requires-clause-size : goal.functions_of-requires-clause-size
functions_of-requires-clause-size c =
    fits c.args.layout c.as_slice-functions.result.now c.args.checked.now.program (c.as_slice-functions.ensures ∙ ap (λ (p : Program). p.functions) c.program.ensures.program) c.args.checked.now.is_accepted c.args.checked.now.has_size

pub functions_of-requires-clause-same : goal.functions_of-requires-clause-same
functions_of-requires-clause-same c =
    ap (λ (fs : List Function). length fs) (c.functions.ensures ∙ (λ j. (c.unit.ensures j).functions))
    ∙ sym (same_length c.args.checked.now.unit.now.functions c.args.checked.now.program c.args.checked.now.is_program)
    ∙ ap (λ (fs : List ProgramFunction). length fs) (sym (c.as_slice-functions.ensures ∙ ap (λ (p : Program). p.functions) c.program.ensures.program))

pub rows_of-requires : goal.rows_of-requires
rows_of-requires c =
    fits c.args.layout c.as_slice-functions.result.now c.args.checked.now.program (c.as_slice-functions.ensures ∙ ap (λ (p : Program). p.functions) c.program.ensures.program) c.args.checked.now.is_accepted c.args.checked.now.has_size

pub forks_of-requires : goal.forks_of-requires
forks_of-requires c =
    fits c.args.layout c.as_slice-functions.result.now c.args.checked.now.program (c.as_slice-functions.ensures ∙ ap (λ (p : Program). p.functions) c.program.ensures.program) c.args.checked.now.is_accepted c.args.checked.now.has_size
