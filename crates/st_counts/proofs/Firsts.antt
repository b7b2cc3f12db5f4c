-- A board that is opened counts the root's chain as active, and nothing else: first_counts.
use Rattle.std.proofs.Common.{◌≡◌, ◌≢◌, ℕ, zero, suc, ◌+◌, ◌<◌, ◌≤◌, true, length, replicate, Option, Some, None, refl, sym, ap, ◌∙◌, subst, arith, length-set}
use Rattle.std.proofs.lemmas.List.{length-replicate, get_or_past}
use Rattle.std.proofs.Math.Decide.{dec_le}
use mathlib.Core.Logic.{dite}
use native.Mathlib.Decide.{ℕ_discrete}
use Rattle.st_base.specs.declared.chain.Chain.{Chain}
use Rattle.st_base.specs.declared.limits.Limits.{Limits}
use Rattle.st_base.specs.declared.thread.Thread.{Thread}
use Rattle.st_words.specs.declared.view.Cargo.{Cargo}
use Rattle.st_words.specs.declared.view.View.{View}
use Rattle.st_words.specs.Views.{no_cargo}
use Rattle.st_words.specs.Plain.{view_at, no_view, first_view, first_views, first_words, first_cargoes, root_cargo, root_chain}
use Rattle.st_words.specs.Shares.{Covered}
use Rattle.st_words.proofs.Opening.{first_view_at, first_views_count}
use Rattle.st_world.specs.Functions.{total}
use Rattle.st_world.specs.OfPlain.{reading_slot, reading_cargo}
use Rattle.st_world.proofs.Functions.{total_put}
use Rattle.st_world.proofs.Opened.{alike, led_first, led_other}
use Rattle.st_counts.specs.Counting.{units, shares, filling, Counting}
use Rattle.st_counts.specs.Laws.{First}

-- ---- lists and sums

total_zero : (f : ℕ → ℕ) (n : ℕ) → ((i : ℕ) → f i ≡ 0) → total f n ≡ 0
total_zero f zero e = refl
total_zero f (suc n) e = let a = total_zero f n e in let b = e n in omega (arith, a, b)

-- one at the first place
total_one : (f : ℕ → ℕ) (n : ℕ) → 0 < n → f 0 ≡ 1 → ((i : ℕ) → i ≢ 0 → f i ≡ 0) → total f n ≡ 1
total_one f n l one others =
    let a : total f n + 0 ≡ total (λ (i : ℕ). 0) n + f 0 = total_put (λ (i : ℕ). 0) f n 0 l (λ i d. sym (others i d)) in
    let b : total (λ (i : ℕ). 0) n ≡ 0 = total_zero (λ (i : ℕ). 0) n (λ i. refl) in
    omega (arith, a, b, one)

-- ---- the parts

module _ (limits : Limits) (n : ℕ) (thread : Thread) (few : n ≤ 31) where
  some_cells : 0 < limits.cells
  some_cells = let l = limits.cells_least in omega (arith, l)

  abbrev home : ℕ → Option Chain
  home = reading_slot (first_words limits n).cell_slots

  abbrev home_cargo : ℕ → Cargo
  home_cargo = reading_cargo (first_cargoes limits n thread).cells

  abbrev post : ℕ → Option Chain
  post = reading_slot (first_words limits n).mail_slots

  abbrev post_cargo : ℕ → Cargo
  post_cargo = reading_cargo (first_cargoes limits n thread).mail

  root_there : home 0 ≡ Some root_chain
  unfolding first_words
  root_there = led_first limits.cells None (Some root_chain) some_cells

  root_unit : (home_cargo 0).unit ≡ 1
  unfolding first_cargoes
  root_unit = ap (λ (k : Cargo). k.unit) (led_first limits.cells no_cargo (root_cargo thread) some_cells)

  other_unit : (c : ℕ) → c ≢ 0 → (home_cargo c).unit ≡ 0
  unfolding first_cargoes
  other_unit c d = ap (λ (k : Cargo). k.unit) (led_other limits.cells c no_cargo (root_cargo thread) d)

  no_post : (a : ℕ) → post a ≡ None
  unfolding first_words
  no_post a = alike n a None

  post_unit : (a : ℕ) → (post_cargo a).unit ≡ 0
  unfolding first_cargoes
  post_unit a = ap (λ (k : Cargo). k.unit) (alike n a no_cargo)

  view_all : (P : View → Type 0) (w : ℕ) → (w < n → P (first_view limits n w)) → P no_view → P (view_at (first_views limits n) w)
  view_all P w a b = dite (dec_le (suc w) n)
      (λ (l : suc w ≤ n). subst P (sym (first_view_at limits n w l)) (a l))
      (λ (o : suc w ≤ n → ⊥). let count : length (first_views limits n) ≡ n = first_views_count limits n (first_views limits n) refl in subst P (sym (get_or_past (first_views limits n) w no_view (omega arith))) b)

  no_share : (w : ℕ) → (view_at (first_views limits n) w).share ≡ 0
  no_share w = view_all (λ (v : View). v.share ≡ 0) w (λ l. refl) refl

  first_sum : 1 ≡ shares (view_at (first_views limits n)) n + (units home_cargo limits.cells + units post_cargo n)
  first_sum =
      let a : shares (view_at (first_views limits n)) n ≡ 0 = total_zero (λ w. (view_at (first_views limits n) w).share) n no_share in
      let b : units home_cargo limits.cells ≡ 1 = total_one (λ c. (home_cargo c).unit) limits.cells some_cells root_unit other_unit in
      let c : units post_cargo n ≡ 0 = total_zero (λ a. (post_cargo a).unit) n post_unit in
      omega (arith, a, b, c)

  first_home : (c : ℕ) → (home_cargo c).unit ≤ filling (home c)
  first_home c = dite (ℕ_discrete c 0)
      (λ (e : c ≡ 0).
      let a : (home_cargo c).unit ≡ (home_cargo 0).unit = ap (λ (c : ℕ). (home_cargo c).unit) e in
      let b = root_unit in
      let f : filling (home c) ≡ 1 = ap (λ (c : ℕ). filling (home c)) e ∙ ap filling root_there in
      omega (arith, a, b, f))
      (λ (d : c ≢ 0). let z = other_unit c d in omega (arith, z))

  first_group : Counting n limits.cells 1 home home_cargo post post_cargo (view_at (first_views limits n))
  first_group = record {
    few_workers = few;
    few_cells = limits.cells_most;
    numbered = λ w l. subst (λ (v : View). (v.workers ≡ n) × (v.cells ≡ limits.cells)) (sym (first_view_at limits n w l)) (refl, refl);
    sum = first_sum;
    covered = λ w. view_all Covered w (λ l. record { covers = omega arith; holds = λ d. absurd (d refl) }) (record { covers = omega arith; holds = λ d. absurd (d refl) });
    small = λ w. let z = no_share w in omega (arith, z);
    homes = first_home;
    posts = λ a. post_unit a ∙ sym (ap filling (no_post a));
    inactive = λ w i. absurd (view_all (λ (v : View). v.inactive ≡ true → ⊥) w (λ l i. let no : ⊥ = cc in no) (λ i. let no : ⊥ = cc in no) i);
  }

  cells_are : length (first_words limits n).owners ≡ limits.cells
  unfolding first_words
  cells_are = length-set (replicate limits.cells 0) 0 1 ∙ length-replicate limits.cells 0

  one_active : (first_words limits n).active ≡ 1
  unfolding first_words
  one_active = refl

  first_world : Counting (length (first_views limits n)) (length (first_words limits n).owners) (first_words limits n).active home home_cargo post post_cargo (view_at (first_views limits n))
  first_world =
      subst (λ (k : ℕ). Counting k (length (first_words limits n).owners) (first_words limits n).active home home_cargo post post_cargo (view_at (first_views limits n))) (sym (first_views_count limits n (first_views limits n) refl))
      (subst (λ (k : ℕ). Counting n k (first_words limits n).active home home_cargo post post_cargo (view_at (first_views limits n))) (sym cells_are)
      (subst (λ (k : ℕ). Counting n limits.cells k home home_cargo post post_cargo (view_at (first_views limits n))) (sym one_active) first_group))

pub first_counts : First
first_counts limits n thread few = first_world limits n thread few
