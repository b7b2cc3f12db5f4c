-- What a worker does between steps keeps the lists: move_laws.
use Rattle.std.proofs.Common.{refl}
use Rattle.st_lists.specs.Laws.{MoveLaws}
use Rattle.st_lists.proofs.Wholes.{quiet_view}

pub move_laws : MoveLaws
move_laws = record {
  progresses = λ x l w progress. quiet_view x l w _ (refl, refl, refl, refl);
  suspends = λ x l w t rest wait. quiet_view x l w _ (refl, refl, refl, refl);
  gives = λ x l w t above. quiet_view x l w _ (refl, refl, refl, refl);
  restarts = λ x l w carried. quiet_view x l w _ (refl, refl, refl, refl);
  begins = λ x l w child parent rest. quiet_view x l w _ (refl, refl, refl, refl);
  exports = λ x l w f. quiet_view x l w _ (refl, refl, refl, refl);
}
