use Rattle.std.proofs.Common.{sym, subst}
use Rattle.st_line.specs.Tokens.{AreTokens}
use Rattle.st_line.proofs.TokenLaws.{are_tokens}
use Rattle.st_line.proofs.lexer.tokens.Goals as goal

pub returns-clause-meaning : goal.returns-clause-meaning
returns-clause-meaning c = subst (AreTokens c.args.text.now) (sym c.in_ok-found.ensures.exact) (are_tokens c.args.text.now)
