use Rattle.st_words.specs.Steps.{RequestChange, Number, found_by}
use Rattle.st_words.specs.Plain.{views_after, cargoes_after, view_at}
use Rattle.st_words.proofs.plain.PlainBoardBoard.request_change.Given as goal

abbrev pub ghosts-kept_by : goal.ghosts-kept_by
ghosts-kept_by g a = record {
  views = views_after g.N.NamesView.after a._kept.now.views a._step.now.0 (RequestChange a._step.now.1 a._step.now.2 a._step.now.3) (Number (found_by a._step.now.2 a._step.now.4));
  cargoes = cargoes_after (view_at a._kept.now.views a._step.now.0) a._kept.now.cargoes (RequestChange a._step.now.1 a._step.now.2 a._step.now.3);
}
