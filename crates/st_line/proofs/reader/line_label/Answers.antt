use Rattle.std.proofs.Common.{◌≡◌, ◌∙◌, sym, rules, false}
use Rattle.st_line.proofs.Labels.{no_line_label}
use Rattle.st_line.proofs.reader.line_label.Goals as goal

pub returns-then-not-contains : goal.returns-then-not-contains
returns-then-not-contains c =
    let none : c.contains.result ≡ false = search rules in
    sym (no_line_label c.args.text.now (sym c.contains.ensures.value ∙ none))
