use Rattle.std.proofs.Common.{◌∙◌, ap, map}
use Rattle.st_jobs.specs.Values.{number_of}
use Rattle.st_jobs.proofs.FoundValues.{found_values-some, found_values-none}
use Rattle.st_jobs.proofs.numbers.number.Goals as goal

pub returns-in-Some-clause-value : goal.returns-in-Some-clause-value
returns-in-Some-clause-value c = c.number_of.ensures.value
    ∙ ap (number_of c.args.range c.args.default) (found_values-some c.args.matches.now c.args.name.now (map (λ s. s.now) c.in-Some.values.now) c.in-Some.ensures)

pub returns-in-None-clause-value : goal.returns-in-None-clause-value
returns-in-None-clause-value c =
    ap (number_of c.args.range c.args.default) (found_values-none c.args.matches.now c.args.name.now c.in-None.ensures)
