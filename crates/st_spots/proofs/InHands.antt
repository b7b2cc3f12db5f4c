-- What hands and ready numbers keep: an entry is one by its cell; a hand in which nobody leads from a cell; a number that isn't there.
use Rattle.std.proofs.Common.{◌≡◌, ◌⊎◌, inl, inr, ⊎_elim, ℕ, Bool, true, false, cond, not, ◌&&◌, ◌||◌, List, [], ◌∷◌, refl, sym, ap, ◌∙◌, arith, ◌==◌, eq-eqb, ne_eqb, Some, None}
use Rattle.std.specs.List.{Contains}
use Rattle.st_base.specs.declared.chain.Waiting.{Waiting}
use Rattle.st_base.specs.declared.chain.Waiting.TheVariants as waits
use Rattle.st_words.specs.declared.view.Waiter.{Waiter}
use Rattle.st_words.specs.Views.{with_next, followed, common_wait, in_hand, without_number, waiter_of}
use Rattle.st_words.proofs.Lists.{contains_here, contains_later, contains_case, contains_none, both_true, same_true}
use Rattle.st_spots.specs.Listing.{HandHas, Once}
use Rattle.st_spots.proofs.Nexts.{Leads}

-- one entry for each number
pub once_same : (h : List Waiter) (x y : Waiter) → Once h → Contains h x → Contains h y → x.cell ≡ y.cell → x ≡ y
once_same [] x y o m k e = absurd (contains_none x m)
once_same (z ∷ zs) x y o m k e = ⊎_elim
    (λ (a : z ≡ x). ⊎_elim (λ (b : z ≡ y). sym a ∙ b) (λ q. absurd (o.0 (y, q, sym e ∙ ap (λ (t : Waiter). t.cell) (sym a)))) (contains_case y z zs k))
    (λ p. ⊎_elim (λ (b : z ≡ y). absurd (o.0 (x, p, e ∙ ap (λ (t : Waiter). t.cell) (sym b)))) (λ q. once_same zs x y o.1 p q e) (contains_case y z zs k)) (contains_case x z zs m)

-- whether an entry leads from a cell
pub leader_case : (c : ℕ) (hand : List Waiter) → ((x : Waiter) × Leads hand c x) ⊎ ((n : ℕ) → with_next c n hand ≡ hand)
leader_case c [] = inr (λ n. refl)
leader_case c (x ∷ xs) = by ((x.cell == c) && x.leads) refl (leader_case c xs)
  where
    by : (b : Bool) → ((x.cell == c) && x.leads) ≡ b → ((y : Waiter) × Leads xs c y) ⊎ ((n : ℕ) → with_next c n xs ≡ xs) → ((y : Waiter) × Leads (x ∷ xs) c y) ⊎ ((n : ℕ) → with_next c n (x ∷ xs) ≡ x ∷ xs)
    by true e r = let t = both_true (x.cell == c) x.leads e in inl (x, (contains_here x xs, same_true x.cell c t.0, t.1))
    by false e (inl r) = inl (r.0, (contains_later r.0 x xs r.1.0, r.1.1, r.1.2))
    by false e (inr r) = inr (λ n. ap (λ (b : Bool). cond b (record x { leads = false } ∷ followed (common_wait x.wait) n xs) (x ∷ with_next c n xs)) e ∙ ap (λ (ys : List Waiter). x ∷ ys) (r n))

-- whether a number is in the hand
pub hand_case : (c : ℕ) (h : List Waiter) → (HandHas h c × (in_hand c h ≡ true)) ⊎ ((HandHas h c → ⊥) × (in_hand c h ≡ false))
hand_case c [] = inr (λ g. contains_none g.0 g.1, refl)
hand_case c (x ∷ xs) = by (x.cell == c) refl (hand_case c xs)
  where
    or_true : (b : Bool) → (b || true) ≡ true
    or_true true = refl
    or_true false = refl

    by : (b : Bool) → (x.cell == c) ≡ b → (HandHas xs c × (in_hand c xs ≡ true)) ⊎ ((HandHas xs c → ⊥) × (in_hand c xs ≡ false)) → (HandHas (x ∷ xs) c × (in_hand c (x ∷ xs) ≡ true)) ⊎ ((HandHas (x ∷ xs) c → ⊥) × (in_hand c (x ∷ xs) ≡ false))
    by true e r = inl ((x, contains_here x xs, same_true x.cell c e), ap (λ (b : Bool). b || in_hand c xs) e)
    by false e (inl r) = inl ((r.0.0, contains_later r.0.0 x xs r.0.1, r.0.2), ap (λ (b : Bool). (x.cell == c) || b) r.1 ∙ or_true (x.cell == c))
    by false e (inr r) = inr (
      λ g. ⊎_elim (λ (s : x ≡ g.0). let t = eq-eqb x.cell c (ap (λ (y : Waiter). y.cell) s ∙ g.2) in let no : ⊥ = cc in no) (λ q. r.0 (g.0, q, g.2)) (contains_case g.0 x xs g.1),
      ap (λ (b : Bool). b || in_hand c xs) e ∙ r.1,
    )

-- a number that isn't ready goes out
pub no_number : (c : ℕ) (ds : List ℕ) → (Contains ds c → ⊥) → without_number c ds ≡ ds
no_number c [] f = refl
no_number c (d ∷ ds) f =
    let a : (d == c) ≡ false = ne_eqb d c (λ e. f (0, omega arith, e)) in
    let b : without_number c ds ≡ ds = no_number c ds (λ m. f (contains_later c d ds m)) in
    ap (λ (t : Bool). cond (not t) (d ∷ without_number c ds) (without_number c ds)) a ∙ ap (λ (xs : List ℕ). d ∷ xs) b

-- ---- a chain that is put

abbrev pub entry_of : ℕ → Waiting → Waiter
entry_of c k = record { cell = c; wait = Some k; next = None; leads = false }

-- a number that is in the hand stays as it is
pub waiter_there : (c : ℕ) (k : Waiting) (h : List Waiter) → in_hand c h ≡ true → waiter_of c k h ≡ h
waiter_there c waits.Start h e = refl
waiter_there c waits.Ready h e = refl
waiter_there c waits.Trapped h e = refl
waiter_there c (waits.Touch f) h e = ap (λ (b : Bool). cond b h (entry_of c (waits.Touch f) ∷ h)) e
waiter_there c (waits.Join f n) h e = ap (λ (b : Bool). cond b h (entry_of c (waits.Join f n) ∷ h)) e
