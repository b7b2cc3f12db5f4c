use Rattle.st_model.specs.Ordinary.{start}
use Rattle.st_run.proofs.Opened.{root_thread}
use Rattle.st_run.proofs.plain.open_board.Given as goal

abbrev pub ghosts-open : goal.ghosts-open
ghosts-open g a = record { thread = root_thread (start g.P.Plan.program g.P.Plan.source) }
