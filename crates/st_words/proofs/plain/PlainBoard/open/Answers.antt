use Rattle.st_words.proofs.Opening.{opened_sized}
use Rattle.st_words.proofs.plain.PlainBoard.open.Goals as goal

pub invariant_of-result : goal.invariant_of-result
invariant_of-result g c = record { sized = opened_sized c.args.limits.now c.args.workers g.R.Root.thread _ _ _ c.in_ok-words.ensures c.first_kept-kept.ensures.cargoes c.first_kept-kept.ensures.views }
