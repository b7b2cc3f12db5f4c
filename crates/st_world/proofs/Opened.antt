-- A board that is opened, as a world: lists that are one word and then zeros (led_first, led_other) or the same throughout (alike), a part of the views (view_part), and what lies in
-- slots (home_first, home_other, cargo_first, cargo_other, post_none, post_cargo_none).
use Rattle.std.proofs.Common.{◌≡◌, ◌≢◌, ℕ, suc, ◌<◌, ◌≤◌, length, replicate, Some, None, refl, ap, ◌∙◌, arith, slice_set, slice_index_or, get_or-set_same, get_or-set_other}
use Rattle.std.proofs.lemmas.List.{length-replicate, get_or-replicate, get_or_past}
use Rattle.std.proofs.Math.Decide.{dec_le}
use mathlib.Core.Logic.{dite}
use Rattle.st_base.specs.declared.limits.Limits.{Limits}
use Rattle.st_base.specs.declared.thread.Thread.{Thread}
use Rattle.st_words.specs.declared.view.View.{View}
use Rattle.st_words.specs.Views.{no_cargo}
use Rattle.st_words.specs.Plain.{view_at, no_view, first_view, first_views, first_words, first_cargoes, root_cargo, root_chain}
use Rattle.st_words.proofs.Opening.{first_view_at, first_views_count}
use Rattle.st_world.specs.OfPlain.{reading_slot, reading_cargo}

pub alike : {X : Type 0} (n i : ℕ) (x : X) → slice_index_or (replicate n x) i x ≡ x
alike {X} n i x = dite (dec_le (suc i) n)
    (λ (l : suc i ≤ n). get_or-replicate n i x x l)
    (λ (o : suc i ≤ n → ⊥). let count : length (replicate n x) ≡ n = length-replicate n x in get_or_past (replicate n x) i x (omega arith))

pub led_first : {X : Type 0} (n : ℕ) (x y : X) → 0 < n → slice_index_or (slice_set (replicate n x) 0 y) 0 x ≡ y
led_first {X} n x y l = let count : length (replicate n x) ≡ n = length-replicate n x in get_or-set_same (replicate n x) 0 y x (omega (arith, count, l))

pub led_other : {X : Type 0} (n i : ℕ) (x y : X) → i ≢ 0 → slice_index_or (slice_set (replicate n x) 0 y) i x ≡ x
led_other {X} n i x y d = get_or-set_other (replicate n x) 0 i y x d ∙ alike n i x

module _ (limits : Limits) (n : ℕ) where
  pub some_cells : 0 < limits.cells
  some_cells = let l = limits.cells_least in omega (arith, l)

  -- a part that is the same in the first views and in a view that isn't there
  pub view_part : {X : Type 0} (get : View → X) (x : X) → ((w : ℕ) → get (first_view limits n w) ≡ x) → get no_view ≡ x → (w : ℕ) → get (view_at (first_views limits n) w) ≡ x
  view_part {X} get x there none w = dite (dec_le (suc w) n)
      (λ (l : suc w ≤ n). ap get (first_view_at limits n w l) ∙ there w)
      (λ (o : suc w ≤ n → ⊥). let count : length (first_views limits n) ≡ n = first_views_count limits n (first_views limits n) refl in ap get (get_or_past (first_views limits n) w no_view (omega arith)) ∙ none)

  pub home_first : reading_slot (first_words limits n).cell_slots 0 ≡ Some root_chain
  unfolding first_words
  home_first = led_first limits.cells None (Some root_chain) some_cells

  pub home_other : (c : ℕ) → c ≢ 0 → reading_slot (first_words limits n).cell_slots c ≡ None
  unfolding first_words
  home_other c d = led_other limits.cells c None (Some root_chain) d

  pub post_none : (v : ℕ) → reading_slot (first_words limits n).mail_slots v ≡ None
  unfolding first_words
  post_none v = alike n v None

  module _ (thread : Thread) where
    pub cargo_first : reading_cargo (first_cargoes limits n thread).cells 0 ≡ root_cargo thread
    unfolding first_cargoes
    cargo_first = led_first limits.cells no_cargo (root_cargo thread) some_cells

    pub cargo_other : (c : ℕ) → c ≢ 0 → reading_cargo (first_cargoes limits n thread).cells c ≡ no_cargo
    unfolding first_cargoes
    cargo_other c d = led_other limits.cells c no_cargo (root_cargo thread) d

    pub post_cargo_none : (v : ℕ) → reading_cargo (first_cargoes limits n thread).mail v ≡ no_cargo
    unfolding first_cargoes
    post_cargo_none v = alike n v no_cargo
