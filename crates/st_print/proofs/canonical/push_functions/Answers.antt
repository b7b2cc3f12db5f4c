use Rattle.std.proofs.Common.{ap, ◌++◌, ◌∙◌, ◌+◌, drop, sym, arith}
use Rattle.st_print.specs.Canonical.{function_lines, functions_lines}
use Rattle.st_print.proofs.Lines.{lines-step, functions_lines-drop}
use Rattle.st_print.proofs.canonical.push_functions.Goals as goal

pub loop-f-preserved : goal.loop-f-preserved
loop-f-preserved c spots are =
    let f = c.loop-f.f in
    let fs = c.args.functions.now in
    let more = functions_lines-drop spots c.loop-f.f c.args.functions.now c.index-functions-f.result (omega arith) ∙ ap (λ g. function_lines spots f g ++ functions_lines spots (f + 1) (drop (f + 1) fs)) (sym c.index-functions-f.is) in
    lines-step _ _ _ (function_lines spots f c.index-functions-f.result) (functions_lines spots (f + 1) (drop (f + 1) fs)) (functions_lines spots f (drop f fs)) (c.loop-f.invariant spots are) (c.in_ok-push_function.ensures spots are) more
