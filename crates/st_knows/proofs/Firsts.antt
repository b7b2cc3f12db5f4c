-- On a board that is opened nothing was seen: first_knows.
use Rattle.std.proofs.Common.{◌≡◌, ◌≢◌, ℕ, suc, ◌/◌, ◌<◌, ◌≤◌, List, [], length, replicate, None, refl, sym, ap, ◌∙◌, subst, arith, slice_set, slice_index_or, get_or-set_same, get_or-set_other}
use Rattle.std.specs.List.{Contains}
use Rattle.std.proofs.lemmas.List.{length-replicate, get_or-replicate, get_or_past}
use Rattle.std.proofs.Math.Decide.{dec_le}
use mathlib.Core.Logic.{dite}
use native.Mathlib.Decide.{ℕ_discrete}
use Rattle.st_base.specs.declared.limits.Limits.{Limits}
use Rattle.st_base.specs.declared.thread.Thread.{Thread}
use Rattle.st_base.specs.declared.thread.Held.{Held}
use Rattle.st_words.specs.declared.view.Slot.{Slot}
use Rattle.st_words.specs.declared.view.Slot.TheVariants.{Cell, Mail}
use Rattle.st_words.specs.declared.view.Cargo.{Cargo}
use Rattle.st_words.specs.declared.view.View.{View}
use Rattle.st_words.specs.Views.{no_cargo}
use Rattle.st_words.specs.Plain.{view_at, no_view, first_view, first_views, first_words, first_cargoes, root_cargo}
use Rattle.st_words.proofs.Lists.{contains_none}
use Rattle.st_words.proofs.Opening.{first_view_at, first_views_count}
use Rattle.st_world.specs.World.{World, cargo_of}
use Rattle.st_world.specs.OfPlain.{reading_cargo, world_of}
use Rattle.st_knows.specs.Knowing.{KnowsKinds, KnowsWords}
use Rattle.st_knows.specs.Laws.{First}

-- a view that has seen nothing
unseen : (owner state value : ℕ → ℕ) (stop : ℕ) (v : View) → v.owners ≡ [] → v.full ≡ [] → v.filled ≡ [] → v.values ≡ [] → v.counts ≡ [] → v.names ≡ [] → v.stop ≡ None → KnowsWords owner state value stop v
unseen owner state value stop v a b c d e f g = record {
  owners = λ i n m. absurd (contains_none (i, n) (subst (λ (l : List (ℕ × ℕ)). Contains l (i, n)) a m));
  full = λ i m. absurd (contains_none i (subst (λ (l : List ℕ). Contains l i) b m));
  filled = λ i m. absurd (contains_none i (subst (λ (l : List ℕ). Contains l i) c m));
  values = λ i n m. absurd (contains_none (i, n) (subst (λ (l : List (ℕ × ℕ)). Contains l (i, n)) d m));
  counts = λ i n m. absurd (contains_none (i, n) (subst (λ (l : List (ℕ × ℕ)). Contains l (i, n)) e m));
  names = λ name i m. absurd (contains_none (name, i) (subst (λ (l : List (Held × ℕ)). Contains l (name, i)) f m));
  stops = λ code is. let no : ⊥ = cc in absurd no;
}

-- what holds of each element of a list, and of what stands for those that aren't there
each_in : {X : Type 0} (P : X → Type 0) (n i : ℕ) (x : X) → P x → P (slice_index_or (replicate n x) i x)
each_in {X} P n i x p = subst P (sym (dite (dec_le (suc i) n)
    (λ (l : suc i ≤ n). get_or-replicate n i x x l)
    (λ (o : suc i ≤ n → ⊥). let count : length (replicate n x) ≡ n = length-replicate n x in get_or_past (replicate n x) i x (omega arith)))) p

each_led : {X : Type 0} (P : X → Type 0) (n i : ℕ) (x y : X) → 0 < n → P y → P x → P (slice_index_or (slice_set (replicate n x) 0 y) i x)
each_led {X} P n i x y l first others = dite (ℕ_discrete i 0)
    (λ (e : i ≡ 0). let count : length (replicate n x) ≡ n = length-replicate n x in subst P (sym (ap (λ (k : ℕ). slice_index_or (slice_set (replicate n x) 0 y) k x) e ∙ get_or-set_same (replicate n x) 0 y x (omega (arith, count, l)))) first)
    (λ (d : i ≢ 0). subst P (sym (get_or-set_other (replicate n x) 0 i y x d)) (each_in P n i x others))

module _ (limits : Limits) (n : ℕ) (thread : Thread) where
  each_view : (P : View → Type 0) (w : ℕ) → P (first_view limits n w) → P no_view → P (view_at (first_views limits n) w)
  each_view P w there none = dite (dec_le (suc w) n)
      (λ (l : suc w ≤ n). subst P (sym (first_view_at limits n w l)) there)
      (λ (o : suc w ≤ n → ⊥). let count : length (first_views limits n) ≡ n = first_views_count limits n (first_views limits n) refl in subst P (sym (get_or_past (first_views limits n) w no_view (omega arith))) none)

  no_names : (owner : ℕ → ℕ) → KnowsKinds owner []
  no_names owner name c m = absurd (contains_none (name, c) m)

  home_names : (owner : ℕ → ℕ) (c : ℕ) → KnowsKinds owner (reading_cargo (first_cargoes limits n thread).cells c).names
  unfolding first_cargoes
  home_names owner c = let some = limits.cells_least in each_led (λ (k : Cargo). KnowsKinds owner k.names) limits.cells c no_cargo (root_cargo thread) (omega (arith, some)) (no_names owner) (no_names owner)

  post_names : (owner : ℕ → ℕ) (a : ℕ) → KnowsKinds owner (reading_cargo (first_cargoes limits n thread).mail a).names
  unfolding first_cargoes
  post_names owner a = each_in (λ (k : Cargo). KnowsKinds owner k.names) n a no_cargo (no_names owner)

  cargo_names : (owner : ℕ → ℕ) (each : ℕ) (z : Slot) → KnowsKinds owner (cargo_of (world_of each (first_words limits n) (first_cargoes limits n thread) (first_views limits n)) z).names
  cargo_names owner each (Cell c) = home_names owner c
  cargo_names owner each (Mail a) = post_names owner a

pub first_knows : First
first_knows limits n thread =
    let x : World = world_of (limits.stack / 8) (first_words limits n) (first_cargoes limits n thread) (first_views limits n) in
    let nothing = unseen x.owner x.state x.value x.stop in
    record {
      views = λ w. each_view limits n thread (KnowsWords x.owner x.state x.value x.stop) w (nothing (first_view limits n w) refl refl refl refl refl refl refl) (nothing no_view refl refl refl refl refl refl refl);
      slots = cargo_names limits n thread x.owner (limits.stack / 8);
    }
