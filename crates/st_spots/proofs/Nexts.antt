-- What with_next makes of a hand: the entry that leads a list leads no more, and the next number is an entry that leads.
use Rattle.std.proofs.Common.{◌≡◌, ◌≢◌, ◌⊎◌, inl, inr, ⊎_elim, ℕ, zero, suc, Bool, true, false, cond, ◌&&◌, List, [], ◌∷◌, Option, None, refl, sym, ap, ◌∙◌, subst, eq-eqb, ◌==◌}
use Rattle.std.specs.List.{Contains}
use Rattle.st_base.specs.declared.chain.Waiting.{Waiting}
use Rattle.st_words.specs.declared.view.Waiter.{Waiter}
use Rattle.st_words.specs.Views.{followed, with_next, common_wait}
use Rattle.st_words.proofs.Lists.{contains_here, contains_later, contains_case, contains_none, both_true, same_true}
use Rattle.st_spots.specs.Listing.{HandHas, Once}

abbrev pub led : Option Waiting → ℕ → Waiter
led wait e = record { cell = e; wait = wait; next = None; leads = true }

abbrev pub leaves : Waiter → Waiter
leaves x = record x { leads = false }

-- the entry that leads
abbrev pub Leads : List Waiter → ℕ → Waiter → Type 0
Leads hand c x = Contains hand x × (x.cell ≡ c) × (x.leads ≡ true)

abbrev pub NextWas : ℕ → ℕ → List Waiter → Waiter → Type 0
NextWas c n hand y = (Contains hand y × (y.cell ≢ c)) ⊎ (((x : Waiter) × Leads hand c x × (y ≡ leaves x)) ⊎ ((x : Waiter) × Leads hand c x × ((e : ℕ) × (n ≡ suc e) × (y ≡ led (common_wait x.wait) e))))

both_are : (a b : Bool) → a ≡ true → b ≡ true → (a && b) ≡ true
both_are true b e f = f
both_are false b e f = let no : ⊥ = cc in absurd no

-- what follows an entry that leads
follow_was : (c n : ℕ) (z : Waiter) (zs : List Waiter) (y : Waiter) → z.cell ≡ c → z.leads ≡ true → (HandHas zs z.cell → ⊥) → Contains (followed (common_wait z.wait) n zs) y → NextWas c n (z ∷ zs) y
follow_was c zero z zs y e l o m = inl (contains_later y z zs m, λ q. o (y, m, q ∙ sym e))
follow_was c (suc k) z zs y e l o m = ⊎_elim
    (λ (s : led (common_wait z.wait) k ≡ y). inr (inr (z, (contains_here z zs, e, l), (k, refl, sym s))))
    (λ (t : Contains zs y). inl (contains_later y z zs t, λ q. o (y, t, q ∙ sym e))) (contains_case y (led (common_wait z.wait) k) zs m)

later_was : (c n : ℕ) (z : Waiter) (zs : List Waiter) (y : Waiter) → NextWas c n zs y → NextWas c n (z ∷ zs) y
later_was c n z zs y (inl r) = inl (contains_later y z zs r.0, r.1)
later_was c n z zs y (inr (inl r)) = let l = r.1 in inr (inl (r.0, (contains_later r.0 z zs l.0, l.1, l.2), r.2))
later_was c n z zs y (inr (inr r)) = let l = r.1 in inr (inr (r.0, (contains_later r.0 z zs l.0, l.1, l.2), r.2))

next_was_at : (b : Bool) (c n : ℕ) (z : Waiter) (zs : List Waiter) (x y : Waiter) → ((z.cell == c) && z.leads) ≡ b → Leads (z ∷ zs) c x → (HandHas zs z.cell → ⊥) → (Contains (with_next c n zs) y → Contains zs x → NextWas c n zs y) → Contains (cond b (leaves z ∷ followed (common_wait z.wait) n zs) (z ∷ with_next c n zs)) y → NextWas c n (z ∷ zs) y
next_was_at true c n z zs x y t l o more m =
    let r = both_true (z.cell == c) z.leads t in
    let e : z.cell ≡ c = same_true z.cell c r.0 in
    ⊎_elim
    (λ (s : leaves z ≡ y). inr (inl (z, (contains_here z zs, e, r.1), sym s)))
    (λ q. follow_was c n z zs y e r.1 o q) (contains_case y (leaves z) (followed (common_wait z.wait) n zs) m)
next_was_at false c n z zs x y t l o more m =
    let behind : Contains zs x = ⊎_elim
    (λ (s : z ≡ x). let k = both_are (z.cell == c) z.leads (eq-eqb z.cell c (ap (λ (w : Waiter). w.cell) s ∙ l.1)) (ap (λ (w : Waiter). w.leads) s ∙ l.2) in let no : ⊥ = cc in absurd no)
    (λ q. q) (contains_case x z zs l.0) in
    ⊎_elim
    (λ (s : z ≡ y). inl (subst (λ (w : Waiter). Contains (z ∷ zs) w) s (contains_here z zs), λ q. o (x, behind, l.1 ∙ sym (ap (λ (w : Waiter). w.cell) s ∙ q))))
    (λ q. later_was c n z zs y (more q behind)) (contains_case y z (with_next c n zs) m)

pub next_was : (c n : ℕ) (hand : List Waiter) (x y : Waiter) → Leads hand c x → Once hand → Contains (with_next c n hand) y → NextWas c n hand y
next_was c n [] x y l o m = absurd (contains_none x l.0)
next_was c n (z ∷ zs) x y l o m = next_was_at ((z.cell == c) && z.leads) c n z zs x y refl l o.0 (λ q behind. next_was c n zs x y (behind, l.1, l.2) o.1 q) m

-- no number leaves the hand
follow_has : (wait : Option Waiting) (n d : ℕ) (zs : List Waiter) → HandHas zs d → HandHas (followed wait n zs) d
follow_has wait zero d zs h = h
follow_has wait (suc e) d zs h = (h.0, contains_later h.0 (led wait e) zs h.1, h.2)

later_has : (z : Waiter) (d : ℕ) (zs : List Waiter) → HandHas zs d → HandHas (z ∷ zs) d
later_has z d zs h = (h.0, contains_later h.0 z zs h.1, h.2)

next_has_at : (b : Bool) (c n d : ℕ) (z : Waiter) (zs : List Waiter) → HandHas (z ∷ zs) d → (HandHas zs d → HandHas (with_next c n zs) d) → HandHas (cond b (leaves z ∷ followed (common_wait z.wait) n zs) (z ∷ with_next c n zs)) d
next_has_at true c n d z zs h more = ⊎_elim
    (λ (s : z ≡ h.0). (leaves z, contains_here (leaves z) (followed (common_wait z.wait) n zs), ap (λ (w : Waiter). w.cell) s ∙ h.2))
    (λ q. later_has (leaves z) d (followed (common_wait z.wait) n zs) (follow_has (common_wait z.wait) n d zs (h.0, q, h.2))) (contains_case h.0 z zs h.1)
next_has_at false c n d z zs h more = ⊎_elim
    (λ (s : z ≡ h.0). (z, contains_here z (with_next c n zs), ap (λ (w : Waiter). w.cell) s ∙ h.2))
    (λ q. later_has z d (with_next c n zs) (more (h.0, q, h.2))) (contains_case h.0 z zs h.1)

pub next_has : (c n d : ℕ) (hand : List Waiter) → HandHas hand d → HandHas (with_next c n hand) d
next_has c n d [] h = h
next_has c n d (z ∷ zs) h = next_has_at ((z.cell == c) && z.leads) c n d z zs h (λ q. next_has c n d zs q)

-- the next number is in the hand
follow_new : (wait : Option Waiting) (e : ℕ) (zs : List Waiter) → HandHas (followed wait (suc e) zs) e
follow_new wait e zs = (led wait e, contains_here (led wait e) zs, refl)

next_new_at : (b : Bool) (c e : ℕ) (z : Waiter) (zs : List Waiter) (x : Waiter) → ((z.cell == c) && z.leads) ≡ b → Leads (z ∷ zs) c x → (Contains zs x → HandHas (with_next c (suc e) zs) e) → HandHas (cond b (leaves z ∷ followed (common_wait z.wait) (suc e) zs) (z ∷ with_next c (suc e) zs)) e
next_new_at true c e z zs x t l more = later_has (leaves z) e (followed (common_wait z.wait) (suc e) zs) (follow_new (common_wait z.wait) e zs)
next_new_at false c e z zs x t l more = ⊎_elim
    (λ (s : z ≡ x). let k = both_are (z.cell == c) z.leads (eq-eqb z.cell c (ap (λ (w : Waiter). w.cell) s ∙ l.1)) (ap (λ (w : Waiter). w.leads) s ∙ l.2) in let no : ⊥ = cc in absurd no)
    (λ q. later_has z e (with_next c (suc e) zs) (more q)) (contains_case x z zs l.0)

pub next_new : (c e : ℕ) (hand : List Waiter) (x : Waiter) → Leads hand c x → HandHas (with_next c (suc e) hand) e
next_new c e [] x l = absurd (contains_none x l.0)
next_new c e (z ∷ zs) x l = next_new_at ((z.cell == c) && z.leads) c e z zs x refl l (λ q. next_new c e zs x (q, l.1, l.2))

-- each number stands there once, where the next one wasn't there
abbrev pub IsNew : ℕ → List Waiter → Type 0
IsNew n hand = (e : ℕ) → n ≡ suc e → HandHas hand e → ⊥

has_case : (z : Waiter) (d : ℕ) (zs : List Waiter) → HandHas (z ∷ zs) d → (z.cell ≡ d) ⊎ HandHas zs d
has_case z d zs h = ⊎_elim (λ (s : z ≡ h.0). inl (ap (λ (w : Waiter). w.cell) s ∙ h.2)) (λ q. inr (h.0, q, h.2)) (contains_case h.0 z zs h.1)

follow_once : (wait : Option Waiting) (n : ℕ) (zs : List Waiter) → IsNew n zs → Once zs → Once (followed wait n zs)
follow_once wait zero zs f o = o
follow_once wait (suc e) zs f o = (λ h. f e refl h, o)

follow_case : (wait : Option Waiting) (n d : ℕ) (zs : List Waiter) → HandHas (followed wait n zs) d → HandHas zs d ⊎ (n ≡ suc d)
follow_case wait zero d zs h = inl h
follow_case wait (suc e) d zs h = ⊎_elim (λ (s : e ≡ d). inr (ap suc s)) (λ q. inl q) (has_case (led wait e) d zs h)

-- who is in the hand was there, or is the next one
next_case_at : (b : Bool) (c n d : ℕ) (z : Waiter) (zs : List Waiter) → HandHas (cond b (leaves z ∷ followed (common_wait z.wait) n zs) (z ∷ with_next c n zs)) d → (HandHas (with_next c n zs) d → HandHas zs d ⊎ (n ≡ suc d)) → HandHas (z ∷ zs) d ⊎ (n ≡ suc d)
next_case_at true c n d z zs h more = ⊎_elim (λ (s : z.cell ≡ d). inl (z, contains_here z zs, s)) (λ q. ⊎_elim (λ r. inl (later_has z d zs r)) (λ r. inr r) (follow_case (common_wait z.wait) n d zs q)) (has_case (leaves z) d (followed (common_wait z.wait) n zs) h)
next_case_at false c n d z zs h more = ⊎_elim (λ (s : z.cell ≡ d). inl (z, contains_here z zs, s)) (λ q. ⊎_elim (λ r. inl (later_has z d zs r)) (λ r. inr r) (more q)) (has_case z d (with_next c n zs) h)

pub next_case : (c n d : ℕ) (hand : List Waiter) → HandHas (with_next c n hand) d → HandHas hand d ⊎ (n ≡ suc d)
next_case c n d [] h = inl h
next_case c n d (z ∷ zs) h = next_case_at ((z.cell == c) && z.leads) c n d z zs h (λ q. next_case c n d zs q)

next_once_at : (b : Bool) (c n : ℕ) (z : Waiter) (zs : List Waiter) → IsNew n (z ∷ zs) → (HandHas zs z.cell → ⊥) → Once zs → Once (with_next c n zs) → Once (cond b (leaves z ∷ followed (common_wait z.wait) n zs) (z ∷ with_next c n zs))
next_once_at true c n z zs f o os more = (λ h. ⊎_elim (λ q. o q) (λ (q : n ≡ suc z.cell). f z.cell q (z, contains_here z zs, refl)) (follow_case (common_wait z.wait) n z.cell zs h), follow_once (common_wait z.wait) n zs (λ e q h. f e q (later_has z e zs h)) os)
next_once_at false c n z zs f o os more = (λ h. ⊎_elim (λ q. o q) (λ (q : n ≡ suc z.cell). f z.cell q (z, contains_here z zs, refl)) (next_case c n z.cell zs h), more)

pub next_once : (c n : ℕ) (hand : List Waiter) → IsNew n hand → Once hand → Once (with_next c n hand)
next_once c n [] f o = o
next_once c n (z ∷ zs) f o = next_once_at ((z.cell == c) && z.leads) c n z zs f o.0 o.1 (next_once c n zs (λ e q h. f e q (later_has z e zs h)) o.1)
