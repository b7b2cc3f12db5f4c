-- A board that is opened has drawn the root's number, and named its cell: first_draws.
use Rattle.std.proofs.Common.{◌≡◌, ◌≢◌, inl, ℕ, suc, ◌<◌, ◌≤◌, List, [], length, replicate, refl, sym, ap, ◌∙◌, subst, arith, slice_set, slice_index_or, length-set, get_or-set_same, get_or-set_other}
use Rattle.std.specs.List.{Contains}
use Rattle.std.proofs.lemmas.List.{length-replicate, get_or_past}
use Rattle.std.proofs.Math.Decide.{dec_le}
use mathlib.Core.Logic.{dite}
use native.Mathlib.Decide.{ℕ_discrete}
use Rattle.st_base.specs.declared.limits.Limits.{Limits}
use Rattle.st_words.specs.declared.view.View.{View}
use Rattle.st_words.specs.Plain.{view_at, no_view, first_views, first_words}
use Rattle.st_words.proofs.Lists.{contains_none}
use Rattle.st_words.proofs.Opening.{first_view_at, first_views_count}
use Rattle.st_world.specs.OfPlain.{reading}
use Rattle.st_world.proofs.Opened.{alike}
use Rattle.st_draws.specs.Drawing.{Drawing}
use Rattle.st_draws.specs.Laws.{First}

led : (n x y : ℕ) → 0 < n → slice_index_or (slice_set (replicate n x) 0 y) 0 x ≡ y
led n x y l = let count : length (replicate n x) ≡ n = length-replicate n x in get_or-set_same (replicate n x) 0 y x (omega (arith, count, l))

module _ (limits : Limits) (n : ℕ) (few : n ≤ 31) where
  abbrev owner : ℕ → ℕ
  owner = reading (first_words limits n).owners

  abbrev state : ℕ → ℕ
  state = reading (first_words limits n).states

  abbrev view : ℕ → View
  view = view_at (first_views limits n)

  cells_are : length (first_words limits n).owners ≡ limits.cells
  unfolding first_words
  cells_are = length-set (replicate limits.cells 0) 0 1 ∙ length-replicate limits.cells 0

  root_named : owner 0 ≡ 1
  unfolding first_words
  root_named = let some = limits.cells_least in led limits.cells 0 1 (omega (arith, some))

  others_not : (c : ℕ) → c ≢ 0 → owner c ≡ 0
  unfolding first_words
  others_not c d = get_or-set_other (replicate limits.cells 0) 0 c 1 0 d ∙ alike limits.cells c 0

  no_state : (c : ℕ) → state c ≡ 0
  unfolding first_words
  no_state c = alike limits.cells c 0

  one_drawn : (first_words limits n).drawn ≡ 1
  unfolding first_words
  one_drawn = refl

  none_drawn : (w : ℕ) → (view w).drawn ≡ []
  none_drawn w = dite (dec_le (suc w) n)
      (λ (l : suc w ≤ n). ap (λ (v : View). v.drawn) (first_view_at limits n w l))
      (λ (o : suc w ≤ n → ⊥). let count : length (first_views limits n) ≡ n = first_views_count limits n (first_views limits n) refl in ap (λ (v : View). v.drawn) (get_or_past (first_views limits n) w no_view (omega arith)))

  none_in : (w c : ℕ) → Contains (view w).drawn c → ⊥
  none_in w c m = contains_none c (subst (λ (ds : List ℕ). Contains ds c) (none_drawn w) m)

  first_group : Drawing n limits.cells 1 owner state view
  first_group = record {
    drawer = λ c. 0;
    few_workers = few;
    few_cells = limits.cells_most;
    sized = λ w l. ap (λ (v : View). v.cells) (first_view_at limits n w l);
    views = λ w. record { below = λ c m. absurd (none_in w c m); unnamed = λ c m. absurd (none_in w c m); drew = λ c m. absurd (none_in w c m); one = inl (none_drawn w) };
    named = λ c s. dite (ℕ_discrete c 0) (λ (e : c ≡ 0). omega (arith, e)) (λ (d : c ≢ 0). absurd (s (others_not c d)));
    each = λ c l. inl (λ z. let e : c ≡ 0 = omega (arith, l) in let one = sym (ap owner e ∙ root_named) ∙ z in let no : ⊥ = omega (arith, one) in no);
    unnamed = λ c z. no_state c;
    bound = let some = limits.cells_least in omega (arith, some);
  }

  first_world : Drawing (length (first_views limits n)) (length (first_words limits n).owners) (first_words limits n).drawn owner state view
  first_world =
      subst (λ (k : ℕ). Drawing k (length (first_words limits n).owners) (first_words limits n).drawn owner state view) (sym (first_views_count limits n (first_views limits n) refl))
      (subst (λ (k : ℕ). Drawing n k (first_words limits n).drawn owner state view) (sym cells_are)
      (subst (λ (k : ℕ). Drawing n limits.cells k owner state view) (sym one_drawn) first_group))

pub first_draws : First
first_draws limits n thread few = first_world limits n few
