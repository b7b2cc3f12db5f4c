-- Sums of shares and of units: shares_put, shares_same and units_put (one is changed), shares_most and units_most (how great they are). Lists of a view:
-- some_more (a list that isn't empty), chain_out (a chain goes out of the turn), same_standing and same_trap (a word of it is stored).
use Rattle.std.proofs.Common.{◌≡◌, ◌≢◌, ⊎_elim, ℕ, zero, suc, ◌+◌, ◌*◌, ◌^◌, ◌≤◌, ◌<◌, Bool, true, false, cond, not, List, [], ◌∷◌, length, Option, Some, None, refl, sym, ap, ◌∙◌, arith, ◌==◌, eq-eqb}
use Rattle.std.specs.List.{Contains}
use Rattle.st_base.specs.declared.chain.Chain.{Chain}
use Rattle.st_words.specs.declared.view.Known.{Known}
use Rattle.st_words.specs.declared.view.Carried.{Carried}
use Rattle.st_words.specs.declared.view.Cargo.{Cargo}
use Rattle.st_words.specs.declared.view.View.{View}
use Rattle.st_words.specs.Steps.{some_thread}
use Rattle.st_words.specs.Views.{without_chain, with_standing, with_trap}
use Rattle.st_words.proofs.Lists.{contains_none, contains_case}
use Rattle.st_world.specs.Functions.{put}
use Rattle.st_world.proofs.Functions.{put_here, put_other, put_same, total_put, total_same}
use Rattle.st_counts.specs.Counting.{units, shares, filling}

-- ---- one is changed

pub shares_put : (view : ℕ → View) (n w : ℕ) (v : View) → w < n → shares (put view w v) n + (view w).share ≡ shares view n + v.share
shares_put view n w v l =
    let e : shares (put view w v) n + (view w).share ≡ shares view n + (put view w v w).share = total_put (λ k. (view k).share) (λ k. (put view w v k).share) n w l (λ j d. ap (λ (y : View). y.share) (sym (put_other view w v j d))) in
    e ∙ ap (λ (y : View). shares view n + y.share) (put_here view w v)

pub shares_same : (view : ℕ → View) (n w : ℕ) (v : View) → v.share ≡ (view w).share → shares (put view w v) n ≡ shares view n
shares_same view n w v e = total_same (λ k. (put view w v k).share) (λ k. (view k).share) n (λ i l. sym (put_same (λ (y : View). y.share) view w v e i))

pub units_put : (cargo : ℕ → Cargo) (n c : ℕ) (k : Cargo) → c < n → units (put cargo c k) n + (cargo c).unit ≡ units cargo n + k.unit
units_put cargo n c k l =
    let e : units (put cargo c k) n + (cargo c).unit ≡ units cargo n + (put cargo c k c).unit = total_put (λ d. (cargo d).unit) (λ d. (put cargo c k d).unit) n c l (λ j d. ap (λ (y : Cargo). y.unit) (sym (put_other cargo c k j d))) in
    e ∙ ap (λ (y : Cargo). units cargo n + y.unit) (put_here cargo c k)

-- ---- how great they are

pub shares_most : (view : ℕ → View) (n : ℕ) → ((w : ℕ) → (view w).share < 2 ^ 32) → shares view n ≤ n * 4294967296
shares_most view zero small = omega arith
shares_most view (suc n) small =
    let a = shares_most view n small in
    let b = small n in
    omega (arith, a, b)

pub units_most : (cargo : ℕ → Cargo) (n : ℕ) → ((c : ℕ) → (cargo c).unit ≤ 1) → units cargo n ≤ n
units_most cargo zero light = omega arith
units_most cargo (suc n) light =
    let a = units_most cargo n light in
    let b = light n in
    omega (arith, a, b)

-- ---- slots

pub filling_most : (o : Option Chain) → filling o ≤ 1
filling_most None = omega arith
filling_most (Some chain) = omega arith

pub filling_some : (o : Option Chain) → o ≢ None → filling o ≡ 1
filling_some None d = absurd (d refl)
filling_some (Some chain) d = refl

pub filling_none : (o : Option Chain) → filling o ≡ 0 → o ≡ None
filling_none None e = refl
filling_none (Some chain) e = let no : ⊥ = omega (arith, e) in absurd no

-- ---- lists

pub some_more : {X : Type 0} (x : X) (xs : List X) → x ∷ xs ≢ []
some_more x xs e = let no : ⊥ = cc in no

pub none_or : {X : Type 0} (xs : List X) → (xs ≢ [] → ⊥) → xs ≡ []
none_or [] n = refl
none_or (x ∷ xs) n = absurd (n (some_more x xs))

pub some_thread_there : (ts : List Known) → ts ≢ [] → some_thread ts ≡ 1
some_thread_there [] n = absurd (n refl)
some_thread_there (t ∷ ts) n = refl

pub some_thread_none : (ts : List Known) → some_thread ts ≡ 0 → ts ≡ []
some_thread_none [] e = refl
some_thread_none (t ∷ ts) e = let no : ⊥ = omega (arith, e) in absurd no

pub length_none : {X : Type 0} (xs : List X) → length xs ≡ 0 → xs ≡ []
length_none [] e = refl
length_none (x ∷ xs) e = let no : ⊥ = omega (arith, e) in absurd no

shorter : (b : Bool) (x : Carried) (ys zs : List Carried) → length ys ≤ length zs → length (cond b (x ∷ ys) ys) ≤ suc (length zs)
shorter true x ys zs l = omega (arith, l)
shorter false x ys zs l = omega (arith, l)

at_most : (c : ℕ) (xs : List Carried) → length (without_chain c xs) ≤ length xs
at_most c [] = omega arith
at_most c (x ∷ xs) = shorter (not (x.known.note.cell == c)) x (without_chain c xs) xs (at_most c xs)

fewer : (b : Bool) (x : Carried) (ys zs : List Carried) → suc (length ys) ≤ length zs → suc (length (cond b (x ∷ ys) ys)) ≤ suc (length zs)
fewer true x ys zs l = omega (arith, l)
fewer false x ys zs l = omega (arith, l)

-- a chain goes out of the turn
pub chain_out : (c : ℕ) (xs : List Carried) (x : Carried) → Contains xs x → x.known.note.cell ≡ c → suc (length (without_chain c xs)) ≤ length xs
chain_out c [] x at e = absurd (contains_none x at)
chain_out c (y ∷ ys) x at e = ⊎_elim
    (λ (s : y ≡ x).
    let k : length (without_chain c (y ∷ ys)) ≡ length (without_chain c ys) = ap (λ (b : Bool). length (cond (not b) (y ∷ without_chain c ys) (without_chain c ys))) (eq-eqb y.known.note.cell c (ap (λ z. z.known.note.cell) s ∙ e)) in
    let l = at_most c ys in
    omega (arith, k, l))
    (λ more. fewer (not (y.known.note.cell == c)) y (without_chain c ys) ys (chain_out c ys x more e)) (contains_case x y ys at)

pub same_standing : (c n : ℕ) (xs : List Carried) → length (with_standing c n xs) ≡ length xs
same_standing c n [] = refl
same_standing c n (x ∷ xs) = ap suc (same_standing c n xs)

pub same_trap : (c n : ℕ) (xs : List Carried) → length (with_trap c n xs) ≡ length xs
same_trap c n [] = refl
same_trap c n (x ∷ xs) = ap suc (same_trap c n xs)
