-- What follows for the answers of loads, and for what the worker takes a cell for: told_laws.
use Rattle.std.proofs.Common.{◌≡◌, ◌≢◌, ◌⊎◌, inl, inr, ⊎_elim, ℕ, true, false, Some, sym, ap, ◌∙◌}
use Rattle.std.specs.List.{Contains}
use Rattle.st_words.specs.declared.view.View.{View}
use Rattle.st_words.specs.Encodings.{is_counter}
use Rattle.st_words.specs.Steps.{IsFuture, IsCounter, HasThread}
use Rattle.st_words.specs.Views.{counts_cell, owner_seen}
use Rattle.st_world.specs.World.{World}
use Rattle.st_knows.specs.Knowing.{Knows}
use Rattle.st_knows.specs.Laws.{ToldLaws}
use Rattle.st_knows.proofs.Seeing.{owner_case}

module _ (x : World) (w c : ℕ) (K : Knows x) where
  abbrev u : View
  u = x.view w

  of_future : (HasThread u c → is_counter (x.owner c) ≡ false) → IsFuture u c → is_counter (x.owner c) ≡ false
  of_future thread (inl h) = ap is_counter ((K.views w).owners c h.0 h.1).0 ∙ h.2
  of_future thread (inr h) = thread h

  of_counter : IsCounter u c → is_counter (x.owner c) ≡ true
  of_counter h = ap is_counter ((K.views w).owners c h.0 h.1).0 ∙ h.2

  -- by the Owner word that was seen last
  taken_for : (HasThread u c → is_counter (x.owner c) ≡ false) → IsFuture u c ⊎ IsCounter u c → counts_cell (owner_seen c u.owners) ≡ is_counter (x.owner c)
  taken_for thread has = ⊎_elim
      (λ r. ap counts_cell r.0 ∙ ⊎_elim (λ (f : IsFuture u c). sym (of_future thread f)) (λ (h : IsCounter u c). absurd (r.1 h.0 h.1)) has)
      (λ r. ap counts_cell r.1 ∙ ap is_counter (sym ((K.views w).owners c r.0 r.2).0))
      (owner_case c u.owners)

  seen_named : (n : ℕ) → Contains u.owners (c, n) → x.owner c ≢ 0
  seen_named n m z = let h = (K.views w).owners c n m in h.1 (sym h.0 ∙ z)

  is_named : (HasThread u c → x.owner c ≢ 0) → IsFuture u c ⊎ IsCounter u c → x.owner c ≢ 0
  is_named thread (inl (inl h)) = seen_named h.0 h.1
  is_named thread (inl (inr h)) = thread h
  is_named thread (inr h) = seen_named h.0 h.1

pub told_laws : ToldLaws
told_laws = record {
  kind = λ x w c K thread has. (of_future x w c K thread, of_counter x w c K, taken_for x w c K thread has);
  named = λ x w c K thread has. is_named x w c K thread has;
  owners = λ x w c n K f m at. f ∙ ((K.views w).owners c m at).0;
  full = λ x w c K at. ((K.views w).full c at).1;
  counts = λ x w c k K at. ((K.views w).counts c k at).1;
  values = λ x w c n K f m at. f ∙ ((K.views w).values c m at).2;
  stop_load = λ x w n K f m e. f ∙ ((K.views w).stops m e).0;
  stop_set = λ x w code n K f m e. f ∙ ((K.views w).stops m e).0;
  unseen = λ x w c K z. (λ n at. seen_named x w c K n at z, λ name at. ((K.views w).names name c at).0 z);
  one_owner = λ x w K c m n a b. sym ((K.views w).owners c m a).0 ∙ ((K.views w).owners c n b).0;
  kinds = λ x w name c n K a b. ((K.views w).names name c a).1 ∙ ap (λ (k : ℕ). Some (is_counter k)) ((K.views w).owners c n b).0;
}
