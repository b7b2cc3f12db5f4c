use Rattle.std.proofs.Common.{◌≡◌, ◌∙◌, sym, ap, Some, ℕ, List, Bor}
use Rattle.std.specs.Prelude.{option_map}
use Rattle.st_line.specs.Statement.{line_label}
use Rattle.st_asm.proofs.LabelMaps.{tells_lines-more}
use Rattle.st_asm.proofs.labels.define.Goals as goal

pub returns-in_ok-put-in-Some : goal.returns-in_ok-put-in-Some
returns-in_ok-put-in-Some c = λ ds tells.
    let label : Some c.in-Some.name.now ≡ line_label c.args.located.now.text.now = ap (option_map (λ (n : Bor (List ℕ)). n.now)) (sym c.in-Some.is) ∙ c.in_ok-name.ensures in
    tells_lines-more c.args.labels.now c.put.new.labels c.args.located.now.line c.scope_of.result c.in-Some.name.now _ ds label c.scope_of.ensures c.in_ok-put-in-Some.ensures tells
