use Rattle.std.proofs.Common.{◌∙◌, List, length, ap}
use Rattle.st_base.specs.declared.reg.Reg.{Reg}
use Rattle.st_model.specs.Layout.{saved_among}
use Rattle.st_post.proofs.saved.saved_count.Goals as goal

pub returns-clause-value : goal.returns-clause-value
returns-clause-value c =
    c.count_among.ensures.value ∙ ap (λ (rs : List Reg). length (saved_among c.args.function.now.saved 0 rs)) c.as_slice.ensures
