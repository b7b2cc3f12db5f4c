use Rattle.std.proofs.Common.{◌≡◌, ◌∙◌, ap, sym, subst, refl, Some, pos, length, arith}
use Rattle.std.proofs.lemmas.List.{length-map}
use Rattle.st_line.specs.Operands.{memory_of, memory_at}
use Rattle.st_line.specs.Views.{lexes, lex_of, ReadsPlace}
use Rattle.st_line.proofs.OperandLaws.{memory_of_three, memory_of_four, memory_of_other}
use Rattle.st_line.proofs.operand.memory_in.Goals as goal

pub returns-in-len3 : goal.returns-in-len3
returns-in-len3 c =
    let three : length c.args.operand.now ≡ 3 = omega arith in
    let same : memory_of (lexes c.args.operand.now) ≡ memory_at (Some (pos 0)) c.bracketed.result = memory_of_three c.args.operand.now _ three ∙ ap (memory_at (Some (pos 0))) (sym c.bracketed.ensures) in
    subst (ReadsPlace c.place_at.result) (sym same) (c.place_at.ensures (Some (pos 0)) (pos 0, refl, refl))

pub returns-in-len4 : goal.returns-in-len4
returns-in-len4 c =
    let four : length c.args.operand.now ≡ 4 = omega arith in
    let same = memory_of_four c.args.operand.now _ four c.if-left.true in
    subst (ReadsPlace c.place_at-in-len4.result) (sym (same ∙ ap (memory_at _) (sym c.bracketed-in-len4.ensures))) (c.place_at-in-len4.ensures _ c.integer.ensures)

pub returns-in_default : goal.returns-in_default
returns-in_default c = memory_of_other (lexes c.args.operand.now) (omega (arith, length-map c.args.operand.now lex_of)) (omega (arith, length-map c.args.operand.now lex_of))

pub returns-in_default-3 : goal.returns-in_default-3
returns-in_default-3 c = memory_of_other (lexes c.args.operand.now) (omega (arith, length-map c.args.operand.now lex_of)) (omega (arith, length-map c.args.operand.now lex_of))
