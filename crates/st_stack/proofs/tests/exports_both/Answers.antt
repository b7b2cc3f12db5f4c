use Rattle.std.proofs.Common.{◌≡◌, ◌∙◌, sym, subst, ap, arith}
use Rattle.st_base.specs.declared.chain.Frame.{Frame}
use Rattle.st_stack.specs.Exported.{MayExport}
use Rattle.st_stack.proofs.Trying.{still_only, none_there, may_again, may_below}
use Rattle.st_stack.proofs.tests.exports_both.Goals as goal

pub export-is_again-requires-clause-apart : goal.export-is_again-requires-clause-apart
export-is_again-requires-clause-apart c =
    let only = still_only c.args.stack.now.exported _ c.upper.result c.export-is_first.result (none_there _ _ c.requires.none) c.export-is_first.ensures.added in
    subst (MayExport c.export-is_first.new.self.exported) (c.upper.ensures ∙ sym c.upper-2.ensures) (may_again _ c.upper.result only)

pub export-is_second-requires-clause-apart : goal.export-is_second-requires-clause-apart
export-is_second-requires-clause-apart c =
    let only = still_only c.args.stack.now.exported _ c.upper.result c.export-is_first.result (none_there _ _ c.requires.none) c.export-is_first.ensures.added in
    let same : c.upper.result ≡ c.upper-2.result = c.upper.ensures ∙ sym c.upper-2.ensures in
    let again = still_only c.export-is_first.new.self.exported _ c.upper-2.result c.export-is_again.result (λ h m. only h m ∙ same) c.export-is_again.ensures.added in
    let base : c.lower.result.base ≡ 2147549120 = ap (λ (f : Frame). f.base) c.lower.ensures in
    let low : c.upper-2.result.low ≡ 2147549120 = ap (λ (f : Frame). f.low) c.upper-2.ensures in
    may_below _ c.lower.result c.upper-2.result again (omega (arith, base, low))
