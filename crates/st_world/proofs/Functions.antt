-- put at one place, and sums. Reach for put_here and put_other (what is read back), put_case (where a value comes from), put_all (what holds at each
-- place), put_part and put_same (a part of each element), put_id (nothing changes), function_same (functions that are equal at each place are
-- equal), and total_changes (a sum with one number changed).
use Rattle.std.proofs.Common.{◌≡◌, ◌≢◌, ◌⊎◌, inl, inr, ⊎_elim, ℕ, zero, suc, ◌+◌, ◌<◌, ◌≤◌, Bool, cond, refl, sym, ◌∙◌, ap, subst, arith, eq-eqb, ne_eqb}
use mathlib.Core.Logic.{dite}
use native.Mathlib.Decide.{ℕ_discrete}
use Rattle.st_world.specs.Functions.{put, total}

pub put_here : {X : Type 0} (f : ℕ → X) (i : ℕ) (x : X) → put f i x i ≡ x
put_here {X} f i x = ap (λ (b : Bool). cond b x (f i)) (eq-eqb i i refl)

pub put_other : {X : Type 0} (f : ℕ → X) (i : ℕ) (x : X) (j : ℕ) → j ≢ i → put f i x j ≡ f j
put_other {X} f i x j n = ap (λ (b : Bool). cond b x (f j)) (ne_eqb j i n)

pub put_case : {X : Type 0} (f : ℕ → X) (i : ℕ) (x : X) (j : ℕ) (y : X) → put f i x j ≡ y → ((j ≡ i) × (x ≡ y)) ⊎ ((j ≢ i) × (f j ≡ y))
put_case {X} f i x j y e = dite (ℕ_discrete j i)
    (λ (s : j ≡ i). inl (s, sym (put_here f i x) ∙ (ap (put f i x) (sym s) ∙ e)))
    (λ (n : j ≢ i). inr (n, sym (put_other f i x j n) ∙ e))

pub put_keeps : {X : Type 0} (f : ℕ → X) (i : ℕ) (x : X) (j : ℕ) (y : X) → f j ≡ y → f i ≢ y → put f i x j ≡ y
put_keeps {X} f i x j y e d = put_other f i x j (λ s. d (ap f (sym s) ∙ e)) ∙ e

pub put_was : {X : Type 0} (f : ℕ → X) (i : ℕ) (x : X) (j : ℕ) (y : X) → put f i x j ≡ y → x ≢ y → f j ≡ y
put_was {X} f i x j y e d = ⊎_elim (λ h. absurd (d h.1)) (λ h. h.1) (put_case f i x j y e)

-- what holds at each place where one is changed
pub put_all : {X : Type 0} (P : ℕ → X → Type 0) (f : ℕ → X) (i : ℕ) (x : X) (j : ℕ) → (j ≡ i → P j x) → (j ≢ i → P j (f j)) → P j (put f i x j)
put_all {X} P f i x j a b = dite (ℕ_discrete j i)
    (λ (s : j ≡ i). subst (λ (y : X). P j y) (sym (ap (put f i x) s ∙ put_here f i x)) (a s))
    (λ (n : j ≢ i). subst (λ (y : X). P j y) (sym (put_other f i x j n)) (b n))

-- a part of each element
pub put_part : {X Y : Type 0} (part : X → Y) (f : ℕ → X) (i : ℕ) (x : X) (j : ℕ) → put (λ k. part (f k)) i (part x) j ≡ part (put f i x j)
put_part {X} {Y} part f i x j = dite (ℕ_discrete j i)
    (λ (s : j ≡ i). (ap (put (λ k. part (f k)) i (part x)) s ∙ put_here (λ k. part (f k)) i (part x)) ∙ sym (ap part (ap (put f i x) s ∙ put_here f i x)))
    (λ (n : j ≢ i). put_other (λ k. part (f k)) i (part x) j n ∙ sym (ap part (put_other f i x j n)))

-- a part that the change leaves
pub put_same : {X Y : Type 0} (part : X → Y) (f : ℕ → X) (i : ℕ) (x : X) → part x ≡ part (f i) → (j : ℕ) → part (f j) ≡ part (put f i x j)
put_same {X} {Y} part f i x e j = dite (ℕ_discrete j i)
    (λ (s : j ≡ i). (ap (λ (k : ℕ). part (f k)) s ∙ sym e) ∙ sym (ap part (ap (put f i x) s ∙ put_here f i x)))
    (λ (n : j ≢ i). sym (ap part (put_other f i x j n)))

-- ---- sums

pub total_same : (f g : ℕ → ℕ) (n : ℕ) → ((i : ℕ) → i < n → f i ≡ g i) → total f n ≡ total g n
total_same f g zero e = refl
total_same f g (suc n) e =
    let a = total_same f g n (λ i l. e i (omega (arith, l))) in
    let b = e n (omega arith) in
    omega (arith, a, b)

-- one is changed
pub total_put : (f g : ℕ → ℕ) (n i : ℕ) → i < n → ((j : ℕ) → j ≢ i → f j ≡ g j) → total g n + f i ≡ total f n + g i
total_put f g zero i l e = let no : ⊥ = omega (arith, l) in absurd no
total_put f g (suc n) i l e = dite (ℕ_discrete i n)
    (λ (s : i ≡ n).
    let a : total f n ≡ total g n = total_same f g n (λ j m. e j (λ (z : j ≡ i). omega (arith, m, z, s))) in
    let b : f i ≡ f n = ap f s in
    let c : g i ≡ g n = ap g s in
    omega (arith, a, b, c))
    (λ (d : i ≢ n).
    let a : total g n + f i ≡ total f n + g i = total_put f g n i (omega (arith, l, d)) e in
    let b : f n ≡ g n = e n (λ z. d (sym z)) in
    omega (arith, a, b))

pub total_changes : (f : ℕ → ℕ) (i x n : ℕ) → i < n → total (put f i x) n + f i ≡ total f n + x
total_changes f i x n l = total_put f (put f i x) n i l (λ j d. sym (put_other f i x j d)) ∙ ap (λ (k : ℕ). total f n + k) (put_here f i x)

pub total_beyond : (f : ℕ → ℕ) (i x n : ℕ) → n ≤ i → total (put f i x) n ≡ total f n
total_beyond f i x n l = total_same (put f i x) f n (λ j m. put_other f i x j (λ (z : j ≡ i). omega (arith, l, m, z)))

pub total_part : (f : ℕ → ℕ) (i n : ℕ) → i < n → f i ≤ total f n
total_part f i zero l = let no : ⊥ = omega (arith, l) in absurd no
total_part f i (suc n) l = dite (ℕ_discrete i n)
    (λ (s : i ≡ n). let a : f i ≡ f n = ap f s in omega (arith, a))
    (λ (d : i ≢ n). let a : f i ≤ total f n = total_part f i n (omega (arith, l, d)) in omega (arith, a))

pub total_none : (f : ℕ → ℕ) (i n : ℕ) → total f n ≡ 0 → i < n → f i ≡ 0
total_none f i n e l = let a = total_part f i n l in omega (arith, a, e)

-- ---- functions

pub function_same : {A B : Type 0} (f g : A → B) → ((a : A) → f a ≡ g a) → f ≡ g
function_same f g h = λ i. λ a. h a i

pub put_id : {X : Type 0} (f : ℕ → X) (i : ℕ) → put f i (f i) ≡ f
put_id {X} f i = function_same (put f i (f i)) f (λ j. dite (ℕ_discrete j i) (λ (e : j ≡ i). (ap (put f i (f i)) e ∙ put_here f i (f i)) ∙ ap f (sym e)) (λ (n : j ≢ i). put_other f i (f i) j n))
