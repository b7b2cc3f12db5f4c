use Rattle.std.proofs.Common.{◌∙◌, ◌++◌, ◌+◌, ap, drop, arith}
use Rattle.std.specs.Prelude.{neg_ℤ}
use Rattle.st_check.specs.Shape.{restores}
use Rattle.st_check.specs.Views.{tests_of}
use Rattle.st_check.proofs.Epilogues.{restores-more}
use Rattle.st_check.proofs.epilogue.epilogue_form.Goals as goal

pub loop-k-preserved : goal.loop-k-preserved
loop-k-preserved c =
    ap (λ t. tests_of (neg_ℤ c.args.first.now.imm) t ++ restores (neg_ℤ c.args.first.now.imm) (c.loop-k.k + 1) (drop (c.loop-k.k + 1) c.args.saved.now)) c.in_ok-push-3.ensures.items
    ∙ restores-more (neg_ℤ c.args.first.now.imm) c.loop-k.k c.args.saved.now c.loop-k.form.items _ (omega arith)
    ∙ c.loop-k.invariant
