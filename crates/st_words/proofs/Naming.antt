-- A view that is named is allowed: named_is_within, and named_asks, by which a caller meets what a step asks, with stays_free where it has done nothing before, and
-- plain_asks where its threads do nothing by the step either. A store is read back: store_laws.
use Rattle.std.proofs.Common.{refl}
use Rattle.st_words.specs.declared.view.View.{View}
use Rattle.st_words.specs.Steps.{Step, Answer, Can, Asks}
use Rattle.st_words.specs.Views.{Progress, Does, IsFree, view_after}
use Rattle.st_words.specs.Laws.{named, progress_of, NamedIsWithin, SizeLaws, StoreLaws}
use Rattle.st_words.proofs.Lists.{kept_set_here, kept_set_other}
use Rattle.st_words.proofs.Sizes.{same_after, held_bound}

pub named_is_within : NamedIsWithin
named_is_within x u s a = (x, refl)

-- nothing was done before the step
pub stays_free : (v : View) → IsFree v v
stays_free v = (record { progress = progress_of v; child = v.child; chains = v.chains; exported = v.exported }, refl)

-- a caller brings its view forward, and names what its threads have come to
pub named_asks : (says : Step → Answer → Type 0) (v u : View) (progress : Step → Answer → Progress) (s : Step) → IsFree v u → Can u s → Asks says IsFree Does (λ w t a. named (progress t a) u t a) v s
named_asks says v u progress s free can = (u, free, can, λ a said. named_is_within (progress s a) u s a)

-- a worker whose threads do nothing before the step and by it
pub plain_asks : (says : Step → Answer → Type 0) (v : View) (s : Step) → Can v s → Asks says IsFree Does (λ w t a. named (progress_of w) w t a) v s
plain_asks says v s can = named_asks says v v (λ t a. progress_of v) s (stays_free v) can

pub size_laws : SizeLaws
size_laws = record {
  number = λ u s a. (same_after u s a).0;
  workers = λ u s a. (same_after u s a).1;
  cells = λ u s a. (same_after u s a).2;
  each = λ u s a. (same_after u s a).3;
  held = λ u s a. (same_after u s a).4;
}

pub store_laws : StoreLaws
unfolding view_after
store_laws = record {
  reads = λ u p n h. kept_set_here u.held p n (held_bound u p h);
  others = λ u p q n d. kept_set_other u.held p q n d;
}
