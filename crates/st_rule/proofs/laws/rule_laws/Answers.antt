use Rattle.st_rule.proofs.Filled as proven
use Rattle.st_rule.proofs.laws.rule_laws.Goals as goal

pub returns : goal.returns
returns g c = proven.rule_laws g.P.Program.means
