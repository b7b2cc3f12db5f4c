-- What a mark leaves of a view: mark_laws.
use Rattle.std.proofs.Common.{Option, refl, ap, ◌∙◌}
use Rattle.st_base.specs.declared.chain.Frame.{Frame}
use Rattle.st_words.specs.Steps.{return_place, kept}
use Rattle.st_words.specs.Views.{view_after, marked_held}
use Rattle.st_words.specs.Laws.{MarkLaws}
use Rattle.st_words.proofs.Lists.{kept_set_here, kept_set_other}
use Rattle.st_words.proofs.Sizes.{held_bound}
use Rattle.st_words.proofs.Returning.{apart_each, found_leased, found_none, without_inside, without_outside, returning_gone, returning_stay, returning_were}

pub mark_laws : MarkLaws
unfolding view_after
mark_laws = record {
  apart = apart_each;
  gives_up = λ u f q one l i. ap (λ (o : Option Frame). kept (marked_held (return_place f) o u.held) q) (found_leased u f one l) ∙ without_inside f u.held q i;
  others = λ u f q one l i. ap (λ (o : Option Frame). kept (marked_held (return_place f) o u.held) q) (found_leased u f one l) ∙ without_outside f u.held q i;
  gone = λ u f m. returning_gone (return_place f) u.away f m refl;
  stay = λ u p f n m. returning_stay p u.away f n m;
  were = λ u p f m. returning_were p u.away f m;
  exported = λ u p. refl;
  zero_there = λ u p h none. ap (λ (o : Option Frame). kept (marked_held p o u.held) p) (found_none u p none) ∙ kept_set_here u.held p 0 (held_bound u p h);
  zero_others = λ u p q none d. ap (λ (o : Option Frame). kept (marked_held p o u.held) q) (found_none u p none) ∙ kept_set_other u.held p q 0 d;
}
