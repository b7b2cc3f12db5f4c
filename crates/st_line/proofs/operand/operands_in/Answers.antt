use Rattle.std.proofs.Common.{◌≡◌, ◌∙◌, ◌≤◌, ◌<◌, ◌++◌, ap, sym, length, arith, option_map}
use Rattle.std.proofs.lemmas.List.{length-map}
use Rattle.st_line.specs.Operands.{parts_of}
use Rattle.st_line.specs.Views.{lexes, lex_of, operand_list, parts_left}
use Rattle.st_line.proofs.OperandLaws.{too_many}
use Rattle.st_line.proofs.operand.operands_in.Goals as goal

pub returns-then-is_full-clause-too_many : goal.returns-then-is_full-clause-too_many
returns-then-is_full-clause-too_many c =
    let found = operand_list c.loop-left.found.items in
    let same : found ++ parts_of (lexes c.in-Some.rest.now) ≡ parts_of (lexes c.args.lexemes.now) =
    ap (λ left. found ++ parts_left (option_map (λ ls. lexes ls.now) left)) (sym c.in-Some.is) ∙ c.loop-left.invariant in
    let full : 3 ≤ length c.loop-left.found.items = grind arith in
    let three : 3 ≤ length found = omega (arith, length-map c.loop-left.found.items (λ o. lexes o.lexemes.now)) in
    let nonempty : 0 < length c.args.lexemes.now = grind arith in
    let some_lexes : 0 < length (lexes c.args.lexemes.now) = omega (arith, length-map c.args.lexemes.now lex_of) in
    too_many found (lexes c.in-Some.rest.now) (lexes c.args.lexemes.now) same three some_lexes
