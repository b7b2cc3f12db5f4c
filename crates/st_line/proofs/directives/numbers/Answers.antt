use Rattle.std.proofs.Common.{◌≡◌, ◌<◌, sym, subst, length, arith}
use Rattle.std.proofs.lemmas.List.{length-map}
use Rattle.st_line.specs.Views.{lexes, lex_of, Gives}
use Rattle.st_line.proofs.Numbers.{numbers_are, no_numbers}
use Rattle.st_line.proofs.directives.numbers.Goals as goal

pub returns-then-is_empty : goal.returns-then-is_empty
returns-then-is_empty c =
    let none : length c.args.lexemes.now ≡ 0 = grind arith in
    no_numbers c.args.size (lexes c.args.lexemes.now) (omega (arith, length-map c.args.lexemes.now lex_of))

pub returns : goal.returns
returns c =
    let nonempty : 0 < length c.args.lexemes.now = grind arith in
    subst (Gives c.numbers_in.result) (sym (numbers_are c.args.size (lexes c.args.lexemes.now) (omega (arith, length-map c.args.lexemes.now lex_of)))) c.numbers_in.ensures
