-- A board that is opened has no list, no number in a hand and none that is ready, and its root may be found: first_lists.
use Rattle.std.proofs.Common.{◌≡◌, ◌≢◌, ⊎_elim, ℕ, ◌<◌, false, List, [], length, replicate, Some, None, refl, sym, ap, ◌∙◌, subst, arith, length-set}
use Rattle.std.proofs.lemmas.List.{length-replicate}
use mathlib.Core.Logic.{dite}
use native.Mathlib.Decide.{ℕ_discrete}
use Rattle.st_base.specs.declared.chain.Waiting.{Waiting}
use Rattle.st_base.specs.declared.chain.Waiting.TheVariants as waits
use Rattle.st_base.specs.declared.limits.Limits.{Limits}
use Rattle.st_words.specs.declared.view.Waiter.{Waiter}
use Rattle.st_words.specs.declared.view.View.{View}
use Rattle.st_words.specs.Plain.{view_at, first_views, first_words}
use Rattle.st_words.proofs.Lists.{contains_none}
use Rattle.st_words.proofs.Opening.{first_view_at, first_views_count}
use Rattle.st_world.specs.Functions.{put}
use Rattle.st_world.specs.OfPlain.{reading}
use Rattle.st_world.proofs.Functions.{put_here, put_other, put_case}
use Rattle.st_world.proofs.Opened.{alike, view_part}
use Rattle.st_spots.specs.Listing.{Spot, Nowhere, Listed, Held, Behind, Readied, Rooted, HandHolds, ReadyHolds, Listing, Rooting, head_by, hands, readies, finders, counters}
use Rattle.st_lists.specs.Laws.{First}
use Rattle.st_spots.proofs.Apart.{nowhere_listed, nowhere_held, nowhere_behind, nowhere_readied, rooted_listed, rooted_held, rooted_behind, rooted_readied}
use Rattle.st_spots.proofs.Lists.{head_zero}

-- the root's chain may be found, and no other number is anywhere
first_spot : ℕ → Spot
first_spot = put (λ d. Nowhere) 0 (Rooted None)

-- what such numbers wait for isn't read
first_wait : ℕ → Waiting
first_wait d = waits.Start

-- a number is at no other spot
first_none : (s : Spot) → Nowhere ≢ s → Rooted None ≢ s → (d : ℕ) → first_spot d ≢ s
unfolding first_spot
first_none s a b d e = ⊎_elim (λ (h : (d ≡ 0) × (Rooted None ≡ s)). b h.1) (λ (h : (d ≢ 0) × (Nowhere ≡ s)). a h.1) (put_case (λ (d : ℕ). Nowhere) 0 (Rooted None) d s e)

root_first : first_spot 0 ≡ Rooted None
unfolding first_spot
root_first = put_here (λ (d : ℕ). Nowhere) 0 (Rooted None)

other_first : (c : ℕ) → c ≢ 0 → first_spot c ≡ Nowhere
unfolding first_spot
other_first c d = put_other (λ (d : ℕ). Nowhere) 0 (Rooted None) c d

module _ (limits : Limits) (n : ℕ) where
  state_word : (c : ℕ) → reading (first_words limits n).states c ≡ 0
  unfolding first_words
  state_word c = alike limits.cells c 0

  cells_are : length (first_words limits n).owners ≡ limits.cells
  unfolding first_words
  cells_are = length-set (replicate limits.cells 0) 0 1 ∙ length-replicate limits.cells 0

  root_word : (first_words limits n).root ≡ 1
  unfolding first_words
  root_word = refl

  no_hand : (workers : ℕ) (next : ℕ → ℕ) (w : ℕ) → HandHolds workers first_spot first_wait next w []
  no_hand workers next w = record { once = tt; entries = λ x m. absurd (contains_none x m); has = λ d e. absurd (first_none (Held w) nowhere_held rooted_held d e) }

  no_ready : (workers : ℕ) (next : ℕ → ℕ) (w : ℕ) → ReadyHolds workers first_spot first_wait next w []
  no_ready workers next w = record { of = λ d m. absurd (contains_none d m); has = λ d e. absurd (first_none (Readied w) nowhere_readied rooted_readied d e) }

  first_listing : (workers : ℕ) (owner next : ℕ → ℕ) → Listing workers first_spot first_wait next (counters owner) (reading (first_words limits n).states) (hands (view_at (first_views limits n))) (readies (view_at (first_views limits n)))
  first_listing workers owner next = record {
    lists = λ c. ([], ap (head_by (counters owner c)) (state_word c) ∙ head_zero (counters owner c), λ d k e. first_none (Listed c k) nowhere_listed rooted_listed d e);
    waiting = λ d c k e. absurd (first_none (Listed c k) nowhere_listed rooted_listed d e);
    hands = λ w. subst (λ (h : List Waiter). HandHolds workers first_spot first_wait next w h) (sym (view_part limits n (λ v. v.hand) [] (λ w. refl) refl w)) (no_hand workers next w);
    behind = λ d w c k e. absurd (first_none (Behind w c k) nowhere_behind rooted_behind d e);
    readies = λ w. subst (λ (r : List ℕ). ReadyHolds workers first_spot first_wait next w r) (sym (view_part limits n (λ v. v.ready) [] (λ w. refl) refl w)) (no_ready workers next w);
  }

  first_rooting : Rooting first_spot (first_words limits n).root (finders (view_at (first_views limits n)))
  first_rooting = record {
    untaken = λ e. root_first;
    taken = λ e. root_word;
    finder = λ w e. let f = view_part limits n (λ v. v.root) false (λ w. refl) refl w in let no : ⊥ = cc in absurd no;
    finds = λ w e. let t : Rooted None ≡ Rooted (Some w) = sym root_first ∙ e in let no : ⊥ = cc in absurd no;
  }

  first_below : (d : ℕ) → first_spot d ≢ Nowhere → d < length (first_words limits n).owners
  first_below d m = dite (ℕ_discrete d 0)
      (λ (e : d ≡ 0). let some = limits.cells_least in let count = cells_are in omega (arith, e, some, count))
      (λ (o : d ≢ 0). absurd (m (other_first d o)))

  first_sized : (w : ℕ) → w < length (first_views limits n) → (view_at (first_views limits n) w).cells ≡ length (first_words limits n).owners
  first_sized w l =
      let count : length (first_views limits n) ≡ n = first_views_count limits n (first_views limits n) refl in
      ap (λ (v : View). v.cells) (first_view_at limits n w (omega (arith, l, count))) ∙ sym cells_are

pub first_lists : First
first_lists limits n thread = (
  record {
    spot = first_spot;
    wait = first_wait;
    few = (let most = limits.cells_most in let count = cells_are limits n in omega (arith, most, count));
    below = first_below limits n;
    sized = first_sized limits n;
    listing = first_listing limits n _ _ _;
    rooting = first_rooting limits n;
  },
  (root_first, other_first),
)
