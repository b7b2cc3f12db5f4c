use Rattle.st_words.specs.Plain.{first_views, first_cargoes}
use Rattle.st_words.proofs.plain.PlainBoard.open.Given as goal

abbrev pub ghosts-first_kept : goal.ghosts-first_kept
ghosts-first_kept g a = record { views = first_views a._limits.now a._workers; cargoes = first_cargoes a._limits.now a._workers g.R.Root.thread }
