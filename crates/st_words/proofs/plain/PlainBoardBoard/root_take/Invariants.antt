use Rattle.st_words.specs.Steps.{RootTake, Number}
use Rattle.st_words.specs.Plain.{views_after, cargoes_after, view_at}
use Rattle.std.specs.Int.{from_bool}
use Rattle.st_words.proofs.plain.PlainBoardBoard.root_take.Given as goal

abbrev pub ghosts-kept_by : goal.ghosts-kept_by
ghosts-kept_by g a = record {
  views = views_after g.N.NamesView.after a._kept.now.views a._step.now.0 (RootTake) (Number (from_bool a._step.now.1));
  cargoes = cargoes_after (view_at a._kept.now.views a._step.now.0) a._kept.now.cargoes (RootTake);
}
