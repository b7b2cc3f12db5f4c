-- A board that is opened has the leases: first_leases. All words are 0, each worker holds those of its own stack, and no frame is leased.
use Rattle.std.proofs.Common.{◌≡◌, ◌≢◌, ◌⊎◌, inl, inr, ⊎_elim, ℕ, zero, suc, ◌+◌, ◌*◌, ◌/◌, ◌<◌, ◌≤◌, Bool, true, false, cond, ◌&&◌, nat_le, nat_lt, List, length, replicate, Option, Some, None, refl, sym, ap, ◌∙◌, subst, arith, slice_set, slice_index_or, get_or-set_same, get_or-set_other}
use Rattle.std.specs.List.{Contains}
use Rattle.std.proofs.lemmas.List.{length-replicate, get_or_past}
use Rattle.std.proofs.lemmas.List.FromFn.{length-map-range_with_len, get_or-map-range_with_len}
use Rattle.std.proofs.lemmas.Bool.{le-leb, lt-ltb, ltb-true}
use Rattle.std.proofs.lemmas.Bool.Decides.{leb_tells}
use Rattle.std.proofs.Math.Decide.{dec_le}
use Rattle.std.proofs.Math.Nat.{div-eq_of_lt-le, div-mul-le_self, lt-div-mul-add, mul-le-mul_right}
use mathlib.Core.Logic.{dite}
use native.Mathlib.Decide.{ℕ_discrete}
use Rattle.st_base.specs.declared.chain.Frame.{Frame}
use Rattle.st_base.specs.declared.limits.Limits.{Limits}
use Rattle.st_base.specs.declared.thread.Thread.{Thread}
use Rattle.st_words.specs.declared.view.Slot.{Slot}
use Rattle.st_words.specs.declared.view.Slot.TheVariants.{Cell, Mail}
use Rattle.st_words.specs.declared.view.Cargo.{Cargo}
use Rattle.st_words.specs.declared.view.View.{View}
use Rattle.st_words.specs.Steps.{home_of, kept}
use Rattle.st_words.specs.Views.{no_cargo}
use Rattle.st_words.specs.Plain.{view_at, no_view, first_held, first_view, first_views, first_words, first_cargoes, root_cargo}
use Rattle.st_words.proofs.Lists.{kept_within, both_true, contains_none}
use Rattle.st_words.proofs.Opening.{first_view_at, first_views_count}
use Rattle.st_world.specs.World.{slot_of, cargo_of}
use Rattle.st_world.specs.OfPlain.{world_of, reading, reading_cargo}
use Rattle.st_world.proofs.Opened.{alike}
use Rattle.st_world.specs.Holders.{InView}
use Rattle.st_holders.specs.Leasing.{Keeping, IsBare, IsSized, ViewHolds, SlotHolds, Leases}
use Rattle.st_leases.specs.Laws.{First}
use Rattle.st_holders.proofs.Shifts.{some_none, one, view_slot, kept_nothing}

-- ---- lists

-- all alike but the first
led : {X : Type 0} (P : X → Type 0) (n i : ℕ) (x y : X) → P x → P y → P (slice_index_or (slice_set (replicate n x) 0 y) i x)
led {X} P n i x y a b = dite (ℕ_discrete i 0)
    (λ (e : i ≡ 0). subst (λ (k : ℕ). P (slice_index_or (slice_set (replicate n x) 0 y) k x)) (sym e) (first n))
    (λ (d : i ≢ 0). subst P (sym (get_or-set_other (replicate n x) 0 i y x d ∙ alike n i x)) a)
  where
    first : (n : ℕ) → P (slice_index_or (slice_set (replicate n x) 0 y) 0 x)
    first zero = a
    first (suc n) = let count : length (replicate (suc n) x) ≡ suc n = length-replicate (suc n) x in subst P (sym (get_or-set_same (replicate (suc n) x) 0 y x (omega arith))) b

-- ---- the stack of a worker

some_each : (n e p : ℕ) → p < n * e → 0 < e
some_each n zero p l = let no : ⊥ = omega (arith, l) in absurd no
some_each n (suc e) p l = omega arith

home_below : (n e p : ℕ) → p < n * e → home_of e p < n
home_below n e p l = dite (dec_le n (p / e))
    (λ (m : n ≤ p / e). let a : n * e ≤ p / e * e = mul-le-mul_right e m in let b : p / e * e ≤ p = div-mul-le_self p e in let no : ⊥ = omega (arith, a, b, l) in absurd no)
    (λ (o : n ≤ p / e → ⊥). omega arith)

home_from : (e p : ℕ) → home_of e p * e ≤ p
home_from e p = div-mul-le_self p e

home_to : (e p : ℕ) → 0 < e → p < (home_of e p + 1) * e
home_to e p l = let a : p < p / e * e + e = lt-div-mul-add l in let b : (p / e + 1) * e ≡ p / e * e + e = omega arith in omega (arith, a, b)

home_is : (e p w : ℕ) → w * e ≤ p → p < (w + 1) * e → home_of e p ≡ w
home_is e p w a b = div-eq_of_lt-le e a b

at_most : (a b : ℕ) → nat_le a b ≡ true → a ≤ b
at_most a b t = ⊎_elim (λ x. x.1) (λ x. let f = x.0 in let no : ⊥ = cc in absurd no) (leb_tells a b)

abbrev on_stack : ℕ → ℕ → ℕ → Bool
on_stack e w p = nat_le (w * e) p && nat_lt p ((w + 1) * e)

on_home : (e w p : ℕ) → on_stack e w p ≡ true → home_of e p ≡ w
on_home e w p t = let h = both_true (nat_le (w * e) p) (nat_lt p ((w + 1) * e)) t in home_is e p w (at_most (w * e) p h.0) (ltb-true p ((w + 1) * e) h.1)

home_on : (n e w p : ℕ) → p < n * e → home_of e p ≡ w → on_stack e w p ≡ true
home_on n e w p l h = subst (λ (w : ℕ). on_stack e w p ≡ true) h
    (ap (λ (b : Bool). b && nat_lt p ((home_of e p + 1) * e)) (le-leb (home_of e p * e) p (home_from e p)) ∙ lt-ltb p ((home_of e p + 1) * e) (home_to e p (some_each n e p l)))

first_kept : (n e w p : ℕ) → p < n * e → kept (first_held n e w) p ≡ cond (on_stack e w p) (Some 0) None
first_kept n e w p l = get_or-map-range_with_len (λ (q : ℕ). cond (on_stack e w q) (Some 0) None) 0 (n * e) p p None l (omega arith)

cond_some : (b : Bool) (m : ℕ) → cond b (Some 0) None ≡ Some m → (b ≡ true) × (0 ≡ m)
cond_some true m e = (refl, one e)
cond_some false m e = let no : ⊥ = cc in absurd no

first_length : (n e w : ℕ) → length (first_held n e w) ≡ n * e
first_length n e w = length-map-range_with_len (λ (q : ℕ). cond (on_stack e w q) (Some 0) None) 0 (n * e)

-- ---- the parts

module _ (limits : Limits) (n : ℕ) (thread : Thread) where
  abbrev e : ℕ
  e = limits.stack / 8

  abbrev word : ℕ → ℕ
  word = reading (first_words limits n).stack

  word_zero : (p : ℕ) → word p ≡ 0
  unfolding first_words
  word_zero p = alike (n * e) p 0

  abbrev at_first : Keeping
  at_first = record { holder = λ p. InView (home_of e p); frame = λ p. None }

  view_of : (w : ℕ) → ((w < n) × (view_at (first_views limits n) w ≡ first_view limits n w)) ⊎ ((n ≤ w) × (view_at (first_views limits n) w ≡ no_view))
  view_of w = dite (dec_le (suc w) n)
      (λ (l : suc w ≤ n). inl (l, first_view_at limits n w l))
      (λ (o : suc w ≤ n → ⊥). let count : length (first_views limits n) ≡ n = first_views_count limits n (first_views limits n) refl in inr (omega arith, get_or_past (first_views limits n) w no_view (omega arith)))

  first_holds : (w : ℕ) → w < n → ViewHolds (n * e) e word at_first w (first_view limits n w)
  first_holds w l = record {
    held = λ p m q. let within : p < n * e = subst (λ (k : ℕ). p < k) (first_length n e w) (kept_within (first_view limits n w).held p m q) in
        let h = cond_some (on_stack e w p) m (sym (first_kept n e w p within) ∙ q) in (within, ap InView (on_home e w p h.0), word_zero p ∙ h.1);
    all = λ p within q. let h : home_of e p ≡ w = view_one (home_of e p) w q in (0, first_kept n e w p within ∙ ap (λ (b : Bool). cond b (Some 0) None) (home_on n e w p within h));
    exported = λ f m. absurd (contains_none f m);
    exports = λ f p within q at. absurd (some_none f (sym q));
    away = λ f m. absurd (contains_none f m);
    aways = λ f p within q at far. absurd (some_none f (sym q));
  }
    where
      view_one : (v w : ℕ) → InView v ≡ InView w → v ≡ w
      view_one v w q = cc

  none_holds : (w : ℕ) → n ≤ w → ViewHolds (n * e) e word at_first w no_view
  none_holds w l = record {
    held = λ p m q. absurd (some_none m (sym q ∙ kept_nothing p));
    all = λ p within q. let h : home_of e p ≡ w = view_one (home_of e p) w q in let b = home_below n e p within in let no : ⊥ = omega (arith, h, b, l) in absurd no;
    exported = λ f m. absurd (contains_none f m);
    exports = λ f p within q at. absurd (some_none f (sym q));
    away = λ f m. absurd (contains_none f m);
    aways = λ f p within q at far. absurd (some_none f (sym q));
  }
    where
      view_one : (v w : ℕ) → InView v ≡ InView w → v ≡ w
      view_one v w q = cc

  bare_home : (c : ℕ) → IsBare (reading_cargo (first_cargoes limits n thread).cells c)
  unfolding first_cargoes
  bare_home c = led IsBare limits.cells c no_cargo (root_cargo thread) (refl, refl) (refl, refl)

  bare_post : (a : ℕ) → IsBare (reading_cargo (first_cargoes limits n thread).mail a)
  unfolding first_cargoes
  bare_post a = subst IsBare (sym (alike n a no_cargo)) (refl, refl)

  bare_slot : (z : Slot) → IsBare (cargo_of (world_of e (first_words limits n) (first_cargoes limits n thread) (first_views limits n)) z)
  bare_slot (Cell c) = bare_home c
  bare_slot (Mail a) = bare_post a

  bare_holds : (z : Slot) (cargo : Cargo) → IsBare cargo → SlotHolds (n * e) e word at_first z cargo
  bare_holds z cargo b = record {
    has = λ p m q. absurd (some_none m (sym q ∙ (ap (λ (x : List (Option ℕ)). kept x p) b.0 ∙ kept_nothing p)));
    all = λ p within q. absurd (view_slot (home_of e p) z q);
    frames = λ f m. absurd (contains_none f (subst (λ (fs : List Frame). Contains fs f) b.1 m));
    leased = λ f p within q at. absurd (some_none f (sym q));
  }

  first_group : Leases n e word (slot_of (world_of e (first_words limits n) (first_cargoes limits n thread) (first_views limits n))) (cargo_of (world_of e (first_words limits n) (first_cargoes limits n thread) (first_views limits n))) (view_at (first_views limits n))
  first_group = record {
    keeping = at_first;
    small = λ p. let z = word_zero p in omega (arith, z);
    words = λ p l. refl;
    views = λ w. ⊎_elim
        (λ (h : (w < n) × (view_at (first_views limits n) w ≡ first_view limits n w)). subst (λ (v : View). ViewHolds (n * e) e word at_first w v) (sym h.1) (first_holds w h.0))
        (λ (h : (n ≤ w) × (view_at (first_views limits n) w ≡ no_view)). subst (λ (v : View). ViewHolds (n * e) e word at_first w v) (sym h.1) (none_holds w h.0)) (view_of w);
    slots = λ z. bare_holds z _ (bare_slot z);
    bare = λ z q. bare_slot z;
    sized = λ w l. subst (λ (v : View). IsSized (n * e) e w v) (sym (first_view_at limits n w l)) (record { number = refl; stack = refl; held = (first_length n e w) });
  }

pub first_leases : First
first_leases limits n thread = subst (λ (k : ℕ). Leases k (limits.stack / 8) (reading (first_words limits n).stack) (slot_of (world_of (limits.stack / 8) (first_words limits n) (first_cargoes limits n thread) (first_views limits n))) (cargo_of (world_of (limits.stack / 8) (first_words limits n) (first_cargoes limits n thread) (first_views limits n))) (view_at (first_views limits n)))
    (sym (first_views_count limits n (first_views limits n) refl)) (first_group limits n thread)
