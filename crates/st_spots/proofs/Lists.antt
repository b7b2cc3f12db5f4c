-- Lists that the Next words spell. spells_same, list_same: nothing of the list changes; list_cons: a number is put before it.
use Rattle.std.proofs.Common.{◌≡◌, ◌≢◌, ◌⊎◌, inl, inr, ℕ, suc, ◌≤◌, ◌<◌, Bool, true, false, cond, List, [], ◌∷◌, length, Option, Some, None, refl, sym, ap, ◌∙◌, subst, arith, eq-eqb, ne_eqb, ◌==◌}
use mathlib.Core.Logic.{dite}
use native.Mathlib.Decide.{ℕ_discrete}
use Rattle.st_world.specs.Functions.{put}
use Rattle.st_spots.specs.Listing.{Spot, Held, Behind, Among, Spells, IsList, head_by}
use Rattle.st_world.proofs.Functions.{put_here, put_other}

pub spells_same : (next next' : ℕ → ℕ) (spot spot' at at' : ℕ → Spot) (word : ℕ) (ds : List ℕ) (bound : ℕ) → length ds ≤ bound → ((d k : ℕ) → k < bound → spot d ≡ at k → (spot' d ≡ at' k) × (next' d ≡ next d)) → Spells next spot at word ds → Spells next' spot' at' word ds
spells_same next next' spot spot' at at' word [] bound l f h = h
spells_same next next' spot spot' at at' word (d ∷ ds) bound l f h =
    let less : suc (length ds) ≤ bound = l in
    let t = f d (length ds) less h.1 in
    let fewer : length ds ≤ bound = omega (arith, less) in
    (h.0, t.0, subst (λ (n : ℕ). Spells next' spot' at' n ds) (sym t.1) (spells_same next next' spot spot' at at' (next d) ds bound fewer f h.2))

pub list_same : (next next' : ℕ → ℕ) (spot spot' at : ℕ → Spot) (word : ℕ) → ((d k : ℕ) → spot d ≡ at k → (spot' d ≡ at k) × (next' d ≡ next d)) → ((d k : ℕ) → spot' d ≡ at k → spot d ≡ at k) → IsList next spot at word → IsList next' spot' at word
list_same next next' spot spot' at word f back l =
    let all : length l.0 ≤ length l.0 = omega arith in
    (l.0, spells_same next next' spot spot' at at word l.0 (length l.0) all (λ d k less e. f d k e) l.1, λ d k e. l.2 d k (back d k e))

-- a number that is at none of these spots is put before the list
pub list_cons : (next : ℕ → ℕ) (spot at : ℕ → Spot) (word x : ℕ) (l : IsList next spot at word) → ((k : ℕ) → spot x ≢ at k) → next x ≡ word → IsList next (put spot x (at (length l.0))) at (suc x)
list_cons next spot at word x l out linked =
    let spot' : ℕ → Spot = put spot x (at (length l.0)) in
    let all : length l.0 ≤ length l.0 = omega arith in
    let same : (d k : ℕ) → spot d ≡ at k → spot' d ≡ at k = λ d k e. put_other spot x (at (length l.0)) d (λ (s : d ≡ x). out k (ap spot (sym s) ∙ e)) ∙ e in
    let more : Spells next spot' at word l.0 = spells_same next next spot spot' at at word l.0 (length l.0) all (λ d k less e. (same d k e, refl)) l.1 in (
      x ∷ l.0,
      (refl, put_here spot x (at (length l.0)), subst (λ (n : ℕ). Spells next spot' at n l.0) (sym linked) more),
      λ d k e. dite (ℕ_discrete d x) (λ (s : d ≡ x). inl (sym s)) (λ (n : d ≢ x). inr (l.2 d k (sym (put_other spot x (at (length l.0)) d n) ∙ e))),
    )

-- ---- a list is handed out

-- the head is an entry of the hand from then on, and the others are behind it
abbrev pub out_of : ℕ → ℕ → ℕ → Spot → Option ℕ → Spot
out_of n w x s None = s
out_of n w x s (Some k) = cond (k == n) (Held w) (Behind w x k)

abbrev pub handed : (Spot → Option ℕ) → ℕ → ℕ → ℕ → Spot → Spot
handed rank n w x s = out_of n w x s (rank s)

module _ (at : ℕ → Spot) (rank : Spot → Option ℕ) (here : (k : ℕ) → rank (at k) ≡ Some k) (only : (s : Spot) (k : ℕ) → rank s ≡ Some k → s ≡ at k) (n w x : ℕ) where
  abbrev pub Was : Spot → Type 0
  Was s = ((s ≡ at n) × (handed rank n w x s ≡ Held w)) ⊎ (((k : ℕ) × (s ≡ at k) × (k ≢ n) × (handed rank n w x s ≡ Behind w x k)) ⊎ (((k : ℕ) → s ≢ at k) × (handed rank n w x s ≡ s)))

  was_some : (s : Spot) (k : ℕ) → rank s ≡ Some k → Was s
  was_some s k e = dite (ℕ_discrete k n)
      (λ (m : k ≡ n). inl (only s k e ∙ ap at m, ap (out_of n w x s) e ∙ ap (λ (b : Bool). cond b (Held w) (Behind w x k)) (eq-eqb k n m)))
      (λ (m : k ≢ n). inr (inl (k, only s k e, m, ap (out_of n w x s) e ∙ ap (λ (b : Bool). cond b (Held w) (Behind w x k)) (ne_eqb k n m))))

  was_by : (s : Spot) (o : Option ℕ) → rank s ≡ o → Was s
  was_by s (Some k) e = was_some s k e
  was_by s None e = inr (inr (λ k m. let r = here k in let t : rank s ≡ rank (at k) = ap rank m in let no : ⊥ = cc in no, ap (out_of n w x s) e))

  pub was : (s : Spot) → Was s
  was s = was_by s (rank s) refl

  pub at_one : (k j : ℕ) → at k ≡ at j → k ≡ j
  at_one k j e = let a = here k in let b = here j in let t : rank (at k) ≡ rank (at j) = ap rank e in cc

  pub at_tail : (s : Spot) (k : ℕ) → s ≡ at k → k ≢ n → handed rank n w x s ≡ Behind w x k
  at_tail s k e d = ap (handed rank n w x) e ∙ (ap (out_of n w x (at k)) (here k) ∙ ap (λ (b : Bool). cond b (Held w) (Behind w x k)) (ne_eqb k n d))

  pub at_head : (s : Spot) → s ≡ at n → handed rank n w x s ≡ Held w
  at_head s e = ap (handed rank n w x) e ∙ (ap (out_of n w x (at n)) (here n) ∙ ap (λ (b : Bool). cond b (Held w) (Behind w x n)) (eq-eqb n n refl))

-- the list behind its head
pub rest_of : (next : ℕ → ℕ) (spot at : ℕ → Spot) (x : ℕ) → IsList next spot at (suc x) → (es : List ℕ) × Spells next spot at (suc x) (x ∷ es) × ((d k : ℕ) → spot d ≡ at k → Among d (x ∷ es))
rest_of next spot at x ([], h, m) = let no : ⊥ = omega (arith, h) in absurd no
rest_of next spot at x (y ∷ es, h, m) =
    let e : y ≡ x = let s = h.0 in omega (arith, s) in
    (es, subst (λ (z : ℕ). Spells next spot at (suc x) (z ∷ es)) e h, subst (λ (z : ℕ). (d k : ℕ) → spot d ≡ at k → Among d (z ∷ es)) e m)

-- a State word 0 has no head
pub head_zero : (b : Bool) → head_by b 0 ≡ 0
head_zero true = refl
head_zero false = refl
