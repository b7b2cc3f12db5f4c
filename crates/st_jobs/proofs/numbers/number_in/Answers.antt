use Rattle.std.proofs.Common.{◌≡◌, true, rules, arith}
use Rattle.st_jobs.specs.Values.{is_numeral}
use Rattle.st_jobs.proofs.ValueLemmas.{number_in-refused}
use Rattle.st_jobs.proofs.numbers.number_in.Goals as goal

pub returns-in_default-clause-value : goal.returns-in_default-clause-value
returns-in_default-clause-value c =
    let digits : is_numeral c.args.text.now ≡ true = search rules in
    number_in-refused c.args.range c.args.text.now c.parse.result c.in_default.field-0 digits (omega arith) c.parse.ensures.value.0 c.in_default.is
