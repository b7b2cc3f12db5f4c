-- Lists of held words and of frames. Reach for kept_set_here and kept_set_other (a place is set), all_some, all_none and all_stays (each
-- word is made anew), inside_true and inside_false (the test of a frame), contains_here, contains_later and contains_case, filter_in, filter_out and map_in.
use Rattle.std.proofs.Common.{◌≡◌, ◌≢◌, ◌⊎◌, inl, inr, ⊎_elim, ℕ, zero, suc, ◌+◌, ◌<◌, ◌≤◌, Bool, true, false, cond, not, ◌&&◌, ◌==◌, List, [], ◌∷◌, length, Option, Some, None, refl, sym, ap, ◌∙◌, subst, arith, map, slice_set, slice_index_or, get_or-set_same, get_or-set_other, eq-eqb, ne_eqb, nat_le, nat_lt}
use Rattle.std.specs.List.{Contains, filter}
use Rattle.std.proofs.lemmas.Bool.Decides.{leb_tells}
use Rattle.std.proofs.lemmas.Bool.{le-leb, lt-ltb}
use mathlib.Core.Logic.{dite}
use native.Mathlib.Decide.{ℕ_discrete}
use Rattle.std.proofs.Math.Decide.{dec_le}
use Rattle.st_base.specs.declared.chain.Frame.{Frame}
use Rattle.st_words.specs.Steps.{Inside, place_of, kept}
use Rattle.st_words.specs.Views.{remade, is_inside}

-- ---- held words

pub kept_within : (held : List (Option ℕ)) (p n : ℕ) → kept held p ≡ Some n → p < length held
kept_within [] p n e = let no : ⊥ = cc in absurd no
kept_within (h ∷ hs) zero n e = omega arith
kept_within (h ∷ hs) (suc p) n e = let l = kept_within hs p n e in omega arith

pub kept_set_here : (held : List (Option ℕ)) (p n : ℕ) → p < length held → kept (slice_set held p (Some n)) p ≡ Some n
kept_set_here held p n l = get_or-set_same held p (Some n) None l

pub kept_set_other : (held : List (Option ℕ)) (p q n : ℕ) → q ≢ p → kept (slice_set held p (Some n)) q ≡ kept held q
kept_set_other held p q n d = get_or-set_other held p q (Some n) None d

pub remade_some : (make : ℕ → Option ℕ → Option ℕ) (p : ℕ) (held : List (Option ℕ)) (q : ℕ) → q < length held → kept (remade make p held) q ≡ make (p + q) (kept held q)
remade_some make p [] q l = let no : ⊥ = omega (arith, l) in absurd no
remade_some make p (h ∷ hs) zero l = let e : p ≡ p + 0 = omega arith in ap (λ k. make k h) e
remade_some make p (h ∷ hs) (suc q) l =
    let within : suc q < suc (length hs) = l in
    let e : p + 1 + q ≡ p + suc q = omega arith in
    remade_some make (p + 1) hs q (omega (arith, within)) ∙ ap (λ k. make k (kept hs q)) e

pub remade_none : (make : ℕ → Option ℕ → Option ℕ) (p : ℕ) (held : List (Option ℕ)) (q : ℕ) → make (p + q) (kept held q) ≡ None → kept (remade make p held) q ≡ None
remade_none make p [] q m = refl
remade_none make p (h ∷ hs) zero m = let e : p ≡ p + 0 = omega arith in ap (λ k. make k h) e ∙ m
remade_none make p (h ∷ hs) (suc q) m =
    let e : p + 1 + q ≡ p + suc q = omega arith in
    remade_none make (p + 1) hs q (ap (λ k. make k (kept hs q)) e ∙ m)

pub remade_stays : (make : ℕ → Option ℕ → Option ℕ) (p : ℕ) (held : List (Option ℕ)) (q : ℕ) → make (p + q) (kept held q) ≡ kept held q → kept (remade make p held) q ≡ kept held q
remade_stays make p [] q m = refl
remade_stays make p (h ∷ hs) zero m = let e : p ≡ p + 0 = omega arith in ap (λ k. make k h) e ∙ m
remade_stays make p (h ∷ hs) (suc q) m =
    let e : p + 1 + q ≡ p + suc q = omega arith in
    remade_stays make (p + 1) hs q (ap (λ k. make k (kept hs q)) e ∙ m)

-- the same of all words, from the first place on

pub all_some : (make : ℕ → Option ℕ → Option ℕ) (held : List (Option ℕ)) (q : ℕ) → q < length held → kept (remade make 0 held) q ≡ make q (kept held q)
all_some make held q l = let e : 0 + q ≡ q = omega arith in remade_some make 0 held q l ∙ ap (λ k. make k (kept held q)) e

pub all_none : (make : ℕ → Option ℕ → Option ℕ) (held : List (Option ℕ)) (q : ℕ) → make q (kept held q) ≡ None → kept (remade make 0 held) q ≡ None
all_none make held q m = let e : 0 + q ≡ q = omega arith in remade_none make 0 held q (ap (λ k. make k (kept held q)) e ∙ m)

pub all_stays : (make : ℕ → Option ℕ → Option ℕ) (held : List (Option ℕ)) (q : ℕ) → make q (kept held q) ≡ kept held q → kept (remade make 0 held) q ≡ kept held q
all_stays make held q m = let e : 0 + q ≡ q = omega arith in remade_stays make 0 held q (ap (λ k. make k (kept held q)) e ∙ m)

-- ---- places of a frame

pub inside_case : (f : Frame) (p : ℕ) → Inside f p ⊎ (Inside f p → ⊥)
inside_case f p = dite (dec_le (place_of f.low) p)
    (λ a. dite (dec_le (suc p) (place_of f.base)) (λ b. inl (a, omega arith)) (λ (n : suc p ≤ place_of f.base → ⊥). inr (λ z. n (let l = z.1 in omega arith))))
    (λ (n : place_of f.low ≤ p → ⊥). inr (λ z. n z.0))

pub inside_true : (f : Frame) (p : ℕ) → Inside f p → is_inside f p ≡ true
inside_true f p i = ap (λ (b : Bool). b && nat_lt p (place_of f.base)) (le-leb (place_of f.low) p i.0) ∙ lt-ltb p (place_of f.base) i.1

pub both_true : (a b : Bool) → (a && b) ≡ true → (a ≡ true) × (b ≡ true)
both_true true true e = (refl, refl)
both_true true false e = let no : ⊥ = cc in absurd no
both_true false b e = let no : ⊥ = cc in absurd no

at_most : (a b : ℕ) → nat_le a b ≡ true → a ≤ b
at_most a b e = ⊎_elim (λ x. x.1) (λ x. let f = x.0 in let no : ⊥ = cc in absurd no) (leb_tells a b)

less : (a b : ℕ) → nat_lt a b ≡ true → a < b
less a b e = let l = at_most (suc a) b e in omega arith

pub true_inside : (f : Frame) (p : ℕ) → is_inside f p ≡ true → Inside f p
true_inside f p e = let z = both_true (nat_le (place_of f.low) p) (nat_lt p (place_of f.base)) e in (at_most (place_of f.low) p z.0, less p (place_of f.base) z.1)

pub is_false : (b : Bool) → (b ≡ true → ⊥) → b ≡ false
is_false true n = absurd (n refl)
is_false false n = refl

pub inside_false : (f : Frame) (p : ℕ) → (Inside f p → ⊥) → is_inside f p ≡ false
inside_false f p n = is_false (is_inside f p) (λ e. n (true_inside f p e))

-- ---- tests of numbers

pub same_true : (a b : ℕ) → (a == b) ≡ true → a ≡ b
same_true a b e = dite (ℕ_discrete a b) (λ x. x) (λ (n : a ≢ b). let f = ne_eqb a b n in let no : ⊥ = cc in absurd no)

pub other_true : (a b : ℕ) → a ≢ b → not (a == b) ≡ true
other_true a b n = ap not (ne_eqb a b n)

pub other_false : (a b : ℕ) → not (a == b) ≡ true → a ≢ b
other_false a b e same = let f = ap not (eq-eqb a b same) in let no : ⊥ = cc in no

-- ---- elements

pub contains_here : {X : Type 0} (x : X) (xs : List X) → Contains (x ∷ xs) x
contains_here x xs = (0, omega arith, refl)

pub contains_later : {X : Type 0} (x y : X) (xs : List X) → Contains xs x → Contains (y ∷ xs) x
contains_later x y xs m = let l = m.1 in let within : suc m.0 < suc (length xs) = omega arith in (suc m.0, within, m.2)

pub contains_none : {X : Type 0} (x : X) → Contains [] x → ⊥
contains_none x m = let l = m.1 in omega arith

contains_case_at : {X : Type 0} (x y : X) (xs : List X) (k : ℕ) → k < length (y ∷ xs) → slice_index_or (y ∷ xs) k x ≡ x → (y ≡ x) ⊎ Contains xs x
contains_case_at x y xs zero l e = inl e
contains_case_at x y xs (suc k) l e = let within : suc k < suc (length xs) = l in inr (k, omega (arith, within), e)

pub contains_case : {X : Type 0} (x y : X) (xs : List X) → Contains (y ∷ xs) x → (y ≡ x) ⊎ Contains xs x
contains_case x y xs m = contains_case_at x y xs m.0 m.1 m.2

cond_later : {X : Type 0} (b : Bool) (x y : X) (fs : List X) → Contains fs x → Contains (cond b (y ∷ fs) fs) x
cond_later true x y fs m = contains_later x y fs m
cond_later false x y fs m = m

cond_case : {X : Type 0} (b : Bool) (x y : X) (fs : List X) → Contains (cond b (y ∷ fs) fs) x → ((b ≡ true) × (y ≡ x)) ⊎ Contains fs x
cond_case true x y fs m = ⊎_elim (λ e. inl (refl, e)) (λ n. inr n) (contains_case x y fs m)
cond_case false x y fs m = inr m

pub filter_in : {X : Type 0} (test : X → Bool) (xs : List X) (x : X) → Contains xs x → test x ≡ true → Contains (filter test xs) x
filter_in test [] x m t = absurd (contains_none x m)
filter_in {X} test (y ∷ ys) x m t = ⊎_elim
    (λ (e : y ≡ x). subst (λ (b : Bool). Contains (cond b (y ∷ filter test ys) (filter test ys)) x) (sym (ap test e ∙ t)) (subst (λ (z : X). Contains (z ∷ filter test ys) x) (sym e) (contains_here x (filter test ys))))
    (λ n. cond_later (test y) x y (filter test ys) (filter_in test ys x n t)) (contains_case x y ys m)

pub filter_out : {X : Type 0} (test : X → Bool) (xs : List X) (x : X) → Contains (filter test xs) x → Contains xs x × (test x ≡ true)
filter_out test [] x m = absurd (contains_none x m)
filter_out {X} test (y ∷ ys) x m = ⊎_elim
    (λ z. (subst (λ (v : X). Contains (v ∷ ys) x) (sym z.1) (contains_here x ys), ap test (sym z.1) ∙ z.0))
    (λ n. let more = filter_out test ys x n in (contains_later x y ys more.0, more.1)) (cond_case (test y) x y (filter test ys) m)

pub map_in : {X Y : Type 0} (f : X → Y) (xs : List X) (x : X) → Contains xs x → Contains (map f xs) (f x)
map_in f [] x m = absurd (contains_none x m)
map_in {X} {Y} f (y ∷ ys) x m = ⊎_elim
    (λ (e : y ≡ x). subst (λ (z : Y). Contains (z ∷ map f ys) (f x)) (sym (ap f e)) (contains_here (f x) (map f ys)))
    (λ (n : Contains ys x). contains_later (f x) (f y) (map f ys) (map_in f ys x n)) (contains_case x y ys m)
