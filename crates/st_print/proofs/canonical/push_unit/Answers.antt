use Rattle.std.proofs.Common.{ap, sym, ◌∙◌, ◌||◌}
use Rattle.std.proofs.lemmas.Result.{on_ok_weaker}
use Rattle.st_print.specs.Canonical.{functions_lines, data_lines, lines_text, is_some_byte, have_address, names_data}
use Rattle.st_print.proofs.Lines.{lines-then}
use Rattle.st_print.proofs.canonical.push_unit.Goals as goal

pub returns-then-needs_data : goal.returns-then-needs_data
returns-then-needs_data c spots are =
    let functions = c.args.functions.now in
    let rodata = c.args.rodata.now in
    let needed = sym c.if-needs_data.true ∙ c.needs_data.ensures ∙ ap (λ b. (is_some_byte rodata || have_address functions) || b) are.in_data in
    on_ok_weaker c.push_data.result
    (λ e. lines-then _ _ _ _ (functions_lines spots 0 functions) (data_lines ((is_some_byte rodata || have_address functions) || names_data spots) spots rodata) (c.in_ok-push_functions.ensures spots are) e (ap (λ b. lines_text (data_lines b spots rodata)) needed))
    (c.push_data.ensures spots are)
