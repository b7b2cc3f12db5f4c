-- One worker changes: recounted. active_most says that the count is far from where it would wrap.
use Rattle.std.proofs.Common.{◌≡◌, ◌≢◌, ℕ, ◌+◌, ◌-◌, ◌%◌, ◌^◌, ◌≤◌, ◌<◌, true, Option, sym, ap, ◌∙◌, subst, arith, mod-eq_of_lt}
use Rattle.std.proofs.Math.Nat.{add-mod_right}
use Rattle.st_base.specs.declared.chain.Chain.{Chain}
use Rattle.st_words.specs.declared.view.Cargo.{Cargo}
use Rattle.st_words.specs.declared.view.View.{View}
use Rattle.st_words.specs.Plain.{one_more, one_less}
use Rattle.st_words.specs.Shares.{Covered}
use Rattle.st_world.specs.Functions.{put}
use Rattle.st_world.proofs.Functions.{put_all, total_part}
use Rattle.st_counts.specs.Counting.{units, shares, filling, IsNumbered, Counting}
use Rattle.st_counts.proofs.Sums.{shares_same, shares_most, units_most, filling_most}

abbrev pub SameNumbers : View → View → Type 0
SameNumbers u v = (v.workers ≡ u.workers) × (v.cells ≡ u.cells)

pub one_more_is : (n : ℕ) → n + 1 < 2 ^ 64 → one_more n ≡ n + 1
one_more_is n l = mod-eq_of_lt l

pub one_less_is : (n : ℕ) → 1 ≤ n → n < 2 ^ 64 → one_less n + 1 ≡ n
one_less_is n one l =
    let e : n + (2 ^ 64 - 1) ≡ n - 1 + 2 ^ 64 = omega (arith, one) in
    let m : n - 1 < 2 ^ 64 = omega (arith, l) in
    let k : one_less n ≡ n - 1 = ap (λ (k : ℕ). k % 2 ^ 64) e ∙ (add-mod_right (n - 1) (2 ^ 64) ∙ mod-eq_of_lt m) in
    omega (arith, one, k)

module _ (workers cells active : ℕ) (home : ℕ → Option Chain) (home_cargo : ℕ → Cargo) (post : ℕ → Option Chain) (post_cargo : ℕ → Cargo) (view : ℕ → View) (C : Counting workers cells active home home_cargo post post_cargo view) where
  light_home : (c : ℕ) → (home_cargo c).unit ≤ 1
  light_home c = let a = C.homes c in let b = filling_most (home c) in omega (arith, a, b)

  light_post : (v : ℕ) → (post_cargo v).unit ≤ 1
  light_post v = let a = C.posts v in let b = filling_most (post v) in omega (arith, a, b)

  pub active_most : active ≤ 137438953472
  active_most =
      let sum = C.sum in
      let a = shares_most view workers C.small in
      let b = units_most home_cargo cells light_home in
      let c = units_most post_cargo workers light_post in
      let n = C.few_workers in
      let m = C.few_cells in
      omega (arith, sum, a, b, c, n, m)

  pub share_within : (w : ℕ) → w < workers → (view w).share ≤ active
  share_within w l = let sum = C.sum in let a : (view w).share ≤ shares view workers = total_part (λ k. (view k).share) w workers l in omega (arith, sum, a)

  module _ (w : ℕ) (v : View) where
    numbered : SameNumbers (view w) v → (u : ℕ) → u < workers → IsNumbered workers cells (put view w v u)
    numbered s u l = put_all (λ (k : ℕ) (y : View). k < workers → IsNumbered workers cells y) view w v u
        (λ (e : u ≡ w) l. let h = C.numbered w (subst (λ (k : ℕ). k < workers) e l) in (s.0 ∙ h.0, s.1 ∙ h.1))
        (λ (n : u ≢ w) l. C.numbered u l) l

    -- it has the view v then
    pub recounted : (active' : ℕ) (home' : ℕ → Option Chain) (home_cargo' : ℕ → Cargo) (post' : ℕ → Option Chain) (post_cargo' : ℕ → Cargo) → SameNumbers (view w) v →
        active' ≡ shares (put view w v) workers + (units home_cargo' cells + units post_cargo' workers) → Covered v → v.share < 2 ^ 32 → ((c : ℕ) → (home_cargo' c).unit ≤ filling (home' c)) → ((a : ℕ) → (post_cargo' a).unit ≡ filling (post' a)) →
        (v.inactive ≡ true → active' ≡ 0) → (active ≡ 0 → active' ≡ 0) → Counting workers cells active' home' home_cargo' post' post_cargo' (put view w v)
    recounted active' home' home_cargo' post' post_cargo' s sum covered small homes posts own others = record {
      few_workers = C.few_workers;
      few_cells = C.few_cells;
      numbered = numbered s;
      sum = sum;
      covered = λ u. put_all (λ (k : ℕ) (y : View). Covered y) view w v u (λ (e : u ≡ w). covered) (λ (n : u ≢ w). C.covered u);
      small = λ u. put_all (λ (k : ℕ) (y : View). y.share < 2 ^ 32) view w v u (λ (e : u ≡ w). small) (λ (n : u ≢ w). C.small u);
      homes = homes;
      posts = posts;
      inactive = λ u. put_all (λ (k : ℕ) (y : View). y.inactive ≡ true → active' ≡ 0) view w v u (λ (e : u ≡ w). own) (λ (n : u ≢ w) i. others (C.inactive u i));
    }

    -- its share stays
    pub stays : SameNumbers (view w) v → v.share ≡ (view w).share → Covered v → (v.inactive ≡ true → active ≡ 0) → Counting workers cells active home home_cargo post post_cargo (put view w v)
    stays s e covered own = recounted active home home_cargo post post_cargo s
        (C.sum ∙ ap (λ (n : ℕ). n + (units home_cargo cells + units post_cargo workers)) (sym (shares_same view workers w v e)))
        covered (subst (λ (n : ℕ). n < 2 ^ 32) (sym e) (C.small w)) C.homes C.posts own (λ z. z)
