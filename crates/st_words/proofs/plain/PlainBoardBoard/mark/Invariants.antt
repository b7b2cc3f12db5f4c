use Rattle.st_words.specs.Steps.{Mark, Done}
use Rattle.st_words.specs.Plain.{views_after, cargoes_after, view_at}
use Rattle.st_words.proofs.plain.PlainBoardBoard.mark.Given as goal

abbrev pub ghosts-kept_by : goal.ghosts-kept_by
ghosts-kept_by g a = record {
  views = views_after g.N.NamesView.after a._kept.now.views a._step.now.0 (Mark a._step.now.1) (Done);
  cargoes = cargoes_after (view_at a._kept.now.views a._step.now.0) a._kept.now.cargoes (Mark a._step.now.1);
}
