use Rattle.st_phases.proofs.automaton.Automaton.arrive.Goals as goal

pub returns-clause-values : goal.returns-clause-values
returns-clause-values c values = c.run_on.ensures.values (c.put_value.ensures.values (c.start.ensures.values (c.restart.ensures.values values)))
