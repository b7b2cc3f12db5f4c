use Rattle.st_words.specs.Steps.{SlotTake, Took}
use Rattle.st_words.specs.Plain.{views_after, cargoes_after, view_at, cargo_in}
use Rattle.st_words.proofs.plain.PlainBoardBoard.slot_take.Given as goal

abbrev pub ghosts-kept_by : goal.ghosts-kept_by
ghosts-kept_by g a = record {
  views = views_after g.N.NamesView.after a._kept.now.views a._step.now.0 (SlotTake a._step.now.1) (Took a._step.now.2 (cargo_in a._kept.now.cargoes a._step.now.1));
  cargoes = cargoes_after (view_at a._kept.now.views a._step.now.0) a._kept.now.cargoes (SlotTake a._step.now.1);
}
