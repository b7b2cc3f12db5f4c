use Rattle.st_words.specs.Steps.{CellLoad, Number}
use Rattle.st_words.specs.Plain.{views_after, cargoes_after, view_at}
use Rattle.st_words.proofs.plain.PlainBoardBoard.cell_load.Given as goal

abbrev pub ghosts-kept_by : goal.ghosts-kept_by
ghosts-kept_by g a = record {
  views = views_after g.N.NamesView.after a._kept.now.views a._step.now.0 (CellLoad a._step.now.1 a._step.now.2) (Number a._step.now.3);
  cargoes = cargoes_after (view_at a._kept.now.views a._step.now.0) a._kept.now.cargoes (CellLoad a._step.now.1 a._step.now.2);
}
