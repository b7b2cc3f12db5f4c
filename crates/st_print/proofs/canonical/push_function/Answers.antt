use Rattle.std.proofs.Common.{[], ◌∷◌, codes, ap}
use Rattle.std.proofs.lemmas.Result.{on_ok_weaker}
use Rattle.st_print.specs.Canonical.{label_line, with_operands, number, comma, item_lines, lines_text}
use Rattle.st_print.proofs.Lines.{lines-then}
use Rattle.st_print.proofs.canonical.push_function.Goals as goal

pub returns : goal.returns
returns c spots are =
    on_ok_weaker c.push_items.result
    (λ e. lines-then _ _ _ _
    (label_line c.args.function.now.name ∷ with_operands (codes ".st_args") (number c.args.function.now.ints ∷ comma ∷ number c.args.function.now.handles ∷ []) ∷ with_operands (codes ".st_handles") (number c.args.function.now.slots ∷ []) ∷ [])
    (item_lines spots c.args.number 0 c.args.function.now.items)
    c.in_ok-push_head.ensures e (ap (λ items. lines_text (item_lines spots c.args.number 0 items)) c.as_slice.ensures))
    (c.push_items.ensures spots are)
