use Rattle.st_words.specs.Steps.{MailLoad, Number}
use Rattle.st_words.specs.Plain.{views_after, cargoes_after, view_at}
use Rattle.st_words.proofs.plain.PlainBoardBoard.mail_load.Given as goal

abbrev pub ghosts-kept_by : goal.ghosts-kept_by
ghosts-kept_by g a = record {
  views = views_after g.N.NamesView.after a._kept.now.views a._step.now.0 (MailLoad) (Number a._step.now.1);
  cargoes = cargoes_after (view_at a._kept.now.views a._step.now.0) a._kept.now.cargoes (MailLoad);
}
