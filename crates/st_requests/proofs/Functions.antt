-- put at one place: put_here and put_other, put_keeps and put_was (a value at another place), put_all (what holds at each place). A part of the views of which
-- one is changed: part_eq and part_same.
use Rattle.std.proofs.Common.{◌≡◌, ◌≢◌, ℕ, Bool, cond, refl, sym, ◌∙◌, ap, subst, eq-eqb, ne_eqb}
use mathlib.Core.Logic.{dite}
use native.Mathlib.Decide.{ℕ_discrete}
use Rattle.st_words.specs.declared.view.View.{View}
use Rattle.st_world.specs.Functions.{put}

pub put_here : {X : Type 0} (f : ℕ → X) (i : ℕ) (x : X) → put f i x i ≡ x
put_here {X} f i x = ap (λ (b : Bool). cond b x (f i)) (eq-eqb i i refl)

pub put_other : {X : Type 0} (f : ℕ → X) (i : ℕ) (x : X) (j : ℕ) → j ≢ i → put f i x j ≡ f j
put_other {X} f i x j n = ap (λ (b : Bool). cond b x (f j)) (ne_eqb j i n)

pub put_keeps : {X : Type 0} (f : ℕ → X) (i : ℕ) (x : X) (j : ℕ) (y : X) → f j ≡ y → f i ≢ y → put f i x j ≡ y
put_keeps {X} f i x j y e d = put_other f i x j (λ s. d (ap f (sym s) ∙ e)) ∙ e

pub put_all : {X : Type 0} (P : ℕ → X → Type 0) (f : ℕ → X) (i : ℕ) (x : X) (j : ℕ) → (j ≡ i → P j x) → (j ≢ i → P j (f j)) → P j (put f i x j)
put_all {X} P f i x j a b = dite (ℕ_discrete j i)
    (λ (s : j ≡ i). subst (λ (y : X). P j y) (sym (ap (put f i x) s ∙ put_here f i x)) (a s))
    (λ (n : j ≢ i). subst (λ (y : X). P j y) (sym (put_other f i x j n)) (b n))

pub fun_eq : {A B : Type 0} (f g : A → B) → ((a : A) → f a ≡ g a) → f ≡ g
fun_eq f g h = λ i. λ a. h a i

-- a part of the views is put
pub part_eq : {Y : Type 0} (part : View → Y) (views : ℕ → View) (w : ℕ) (v : View) → put (λ k. part (views k)) w (part v) ≡ (λ k. part (put views w v k))
part_eq {Y} part views w v = fun_eq (put (λ k. part (views k)) w (part v)) (λ k. part (put views w v k)) (λ k. dite (ℕ_discrete k w)
    (λ (s : k ≡ w). (ap (put (λ k. part (views k)) w (part v)) s ∙ put_here (λ k. part (views k)) w (part v)) ∙ sym (ap part (ap (put views w v) s ∙ put_here views w v)))
    (λ (n : k ≢ w). put_other (λ k. part (views k)) w (part v) k n ∙ sym (ap part (put_other views w v k n))))

-- a part of the views stays
pub part_same : {Y : Type 0} (part : View → Y) (views : ℕ → View) (w : ℕ) (v : View) → part v ≡ part (views w) → ◌≡◌ {A = ℕ → Y} (λ k. part (views k)) (λ k. part (put views w v k))
part_same {Y} part views w v e = fun_eq (λ k. part (views k)) (λ k. part (put views w v k)) (λ k. dite (ℕ_discrete k w)
    (λ (s : k ≡ w). (ap (λ (k : ℕ). part (views k)) s ∙ sym e) ∙ sym (ap part (ap (put views w v) s ∙ put_here views w v)))
    (λ (n : k ≢ w). sym (ap part (put_other views w v k n))))
