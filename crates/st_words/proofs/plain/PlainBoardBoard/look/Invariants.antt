use Rattle.st_words.specs.Steps.{Look, Looked}
use Rattle.st_words.specs.Plain.{views_after, cargoes_after, view_at, stack_cargo}
use Rattle.st_words.proofs.plain.PlainBoardBoard.look.Given as goal

abbrev pub ghosts-kept_by : goal.ghosts-kept_by
ghosts-kept_by g a = record {
  views = views_after g.N.NamesView.after a._kept.now.views a._step.now.0 (Look a._step.now.1) (Looked a._step.now.2 (stack_cargo a._words.now));
  cargoes = cargoes_after (view_at a._kept.now.views a._step.now.0) a._kept.now.cargoes (Look a._step.now.1);
}
