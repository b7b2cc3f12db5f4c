-- Waiters' numbers in the hand after a step: hand_laws.
use Rattle.std.proofs.Common.{◌&&◌, ◌≡◌, ◌≢◌, ⊎_elim, ℕ, suc, ◌+◌, ◌-◌, ◌^◌, ◌<◌, Bool, true, false, cond, not, ◌==◌, List, [], ◌∷◌, Option, Some, None, refl, sym, ap, ◌∙◌, subst, arith, eq-eqb, ne_eqb}
use Rattle.std.specs.List.{Contains}
use mathlib.Core.Logic.{dite}
use native.Mathlib.Decide.{ℕ_discrete}
use Rattle.st_base.specs.declared.chain.Waiting.{Waiting}
use Rattle.st_base.specs.declared.chain.Waiting.TheVariants as waits
use Rattle.st_words.specs.declared.view.Waiter.{Waiter}
use Rattle.st_words.specs.declared.view.View.{View}
use Rattle.st_words.specs.Encodings.{full_word, count_in, head_in, counter_word, is_counter, ready}
use Rattle.st_words.specs.Steps.{HasInHand}
use Rattle.st_words.specs.Views.{view_after, owner_seen, counts_cell, in_hand, made_ready, without_waiter, with_standing, cell_changed, changed_by, changed_future, changed_counter, followed, with_next, common_wait}
use Rattle.st_words.specs.Laws.{HandLaws, SeesOneOwner, TakesForCounter, TakesForFuture}
use Rattle.st_words.proofs.Lists.{contains_here, contains_later, contains_none, contains_case, filter_out, other_false, same_true, both_true}
use Rattle.st_words.proofs.Puts.{has_in_hand}

-- ---- what a cell is taken for

seen_here : (c : ℕ) (y : ℕ × ℕ) (ys : List (ℕ × ℕ)) → y.0 ≡ c → owner_seen c (y ∷ ys) ≡ Some y.1
seen_here c y ys e = ap (λ (b : Bool). cond b (Some y.1) (owner_seen c ys)) (eq-eqb y.0 c e)

seen_later : (c : ℕ) (y : ℕ × ℕ) (ys : List (ℕ × ℕ)) → y.0 ≢ c → owner_seen c (y ∷ ys) ≡ owner_seen c ys
seen_later c y ys n = ap (λ (b : Bool). cond b (Some y.1) (owner_seen c ys)) (ne_eqb y.0 c n)

at_cell : (c : ℕ) (y : ℕ × ℕ) → y.0 ≡ c → y ≡ (c, y.1)
at_cell c y e = λ i. (e i, y.1)

seen : (c owner : ℕ) (owners : List (ℕ × ℕ)) → Contains owners (c, owner) → (m : ℕ) × (owner_seen c owners ≡ Some m) × Contains owners (c, m)
seen c owner [] m = absurd (contains_none (c, owner) m)
seen c owner (y ∷ ys) m = dite (ℕ_discrete y.0 c)
    (λ (e : y.0 ≡ c). (y.1, seen_here c y ys e, subst (λ (z : ℕ × ℕ). Contains (y ∷ ys) z) (at_cell c y e) (contains_here y ys)))
    (λ (n : y.0 ≢ c). ⊎_elim (λ (s : y ≡ (c, owner)). absurd (n (ap (λ z. z.0) s)))
    (λ (more : Contains ys (c, owner)). let r = seen c owner ys more in (r.0, seen_later c y ys n ∙ r.1, contains_later (c, r.0) y ys r.2)) (contains_case (c, owner) y ys m))

taken_for : (u : View) (c owner : ℕ) → SeesOneOwner u → Contains u.owners (c, owner) → counts_cell (owner_seen c u.owners) ≡ is_counter owner
taken_for u c owner one m = let r = seen c owner u.owners m in ap counts_cell r.1 ∙ ap is_counter (one c r.0 owner r.2 m)

-- ---- numbers go out of the hand

not_without : (c : ℕ) (hand : List Waiter) (x : Waiter) → Contains (without_waiter c hand) x → x.cell ≡ c → ⊥
not_without c hand x m e = other_false x.cell c (filter_out (λ y. not (y.cell == c)) hand x m).1 e

in_the_hand : (u : View) (c : ℕ) → HasInHand u c → in_hand c u.hand ≡ true
in_the_hand u c h = has_in_hand c u.hand h.0 h.1 h.2

readies : (u : View) (c : ℕ) → HasInHand u c → Contains (made_ready (in_hand c u.hand) c (record u { chains = with_standing c ready u.chains })).ready c
readies u c h = subst (λ (b : Bool). Contains (made_ready b c (record u { chains = with_standing c ready u.chains })).ready c) (sym (in_the_hand u c h)) (contains_here c u.ready)

leaves : (u : View) (c : ℕ) → HasInHand u c → HasInHand (made_ready (in_hand c u.hand) c (record u { chains = with_standing c ready u.chains })) c → ⊥
leaves u c h k =
    let x = subst (λ (b : Bool). HasInHand (made_ready b c (record u { chains = with_standing c ready u.chains })) c) (in_the_hand u c h) k in
    not_without c u.hand x.0 x.1 x.2

-- what a change that finds what it compared with does, by what the cell is taken for
pub future_hand : (u : View) (c old new : ℕ) (b : Bool) → TakesForFuture u c → (new == full_word) ≡ b → (cell_changed (old == old) c old new old u).hand ≡ (changed_future c old new b u).hand
future_hand u c old new b f e = ap (λ (t : Bool). (cell_changed t c old new old u).hand) (eq-eqb old old refl) ∙ ap (λ (t : Bool). (changed_by t c old new u).hand) f ∙ ap (λ (t : Bool). (changed_future c old new t u).hand) e

pub counter_hand : (u : View) (c old new : ℕ) (b : Bool) → TakesForCounter u c → (head_in new == 0) ≡ b → (cell_changed (old == old) c old new old u).hand ≡ (changed_counter c old new b u).hand
counter_hand u c old new b f e = ap (λ (t : Bool). (cell_changed t c old new old u).hand) (eq-eqb old old refl) ∙ ap (λ (t : Bool). (changed_by t c old new u).hand) f ∙ ap (λ (t : Bool). (changed_counter c old new t u).hand) e

abbrev HandHas : List Waiter → ℕ → Type 0
HandHas hand c = (x : Waiter) × Contains hand x × (x.cell ≡ c)

out_of : (c waiter : ℕ) (hand : List Waiter) → c ≡ waiter → HandHas (without_waiter c hand) waiter → ⊥
out_of c waiter hand e h = not_without c hand h.0 h.1 (h.2 ∙ sym e)

parks : (u : View) (c old waiter : ℕ) → TakesForFuture u c → waiter + 1 ≢ full_word → HandHas (cell_changed (old == old) c old (waiter + 1) old u).hand waiter → ⊥
parks u c old waiter f n h =
    let e : waiter + 1 - 1 ≡ waiter = omega arith in
    out_of (waiter + 1 - 1) waiter u.hand e (subst (λ (hand : List Waiter). HandHas hand waiter) (future_hand u c old (waiter + 1) false f (ne_eqb (waiter + 1) full_word n)) h)

head_of : (count head : ℕ) → head < 2 ^ 17 → head_in (counter_word count head) ≡ head
head_of count head l = omega arith

joins : (u : View) (c old count waiter : ℕ) → TakesForCounter u c → waiter + 1 < 2 ^ 17 → HandHas (cell_changed (old == old) c old (counter_word count (waiter + 1)) old u).hand waiter → ⊥
joins u c old count waiter f l h =
    let head : head_in (counter_word count (waiter + 1)) ≡ waiter + 1 = head_of count (waiter + 1) l in
    let some : head_in (counter_word count (waiter + 1)) ≢ 0 = λ z. omega (arith, head, z) in
    let e : head_in (counter_word count (waiter + 1)) - 1 ≡ waiter = ap (λ k. k - 1) head ∙ omega arith in
    out_of (head_in (counter_word count (waiter + 1)) - 1) waiter u.hand e (subst (λ (hand : List Waiter). HandHas hand waiter) (counter_hand u c old (counter_word count (waiter + 1)) false f (ne_eqb (head_in (counter_word count (waiter + 1))) 0 some)) h)

-- ---- a list is handed out

abbrev Leads : Option Waiting → ℕ → List Waiter → Type 0
Leads wait waiter hand = (x : Waiter) × Contains hand x × (x.cell ≡ waiter) × (x.wait ≡ wait) × (x.leads ≡ true)

leads_at : (wait : Option Waiting) (waiter : ℕ) (hand : List Waiter) → Leads wait waiter (followed wait (suc waiter) hand)
leads_at wait waiter hand = (record { cell = waiter; wait = wait; next = None; leads = true }, contains_here _ hand, refl, refl, refl)

leads : (wait : Option Waiting) (head waiter : ℕ) (hand : List Waiter) → head ≡ waiter + 1 → Leads wait waiter (followed wait head hand)
leads wait head waiter hand e =
    let s : head ≡ suc waiter = omega arith in
    subst (λ (k : ℕ). Leads wait waiter (followed wait k hand)) (sym s) (leads_at wait waiter hand)

fills : (u : View) (c old waiter : ℕ) → TakesForFuture u c → old ≡ waiter + 1 → Leads (Some (waits.Touch c)) waiter (cell_changed (old == old) c old full_word old u).hand
fills u c old waiter f e = subst (λ (hand : List Waiter). Leads (Some (waits.Touch c)) waiter hand) (sym (future_hand u c old full_word true f (eq-eqb full_word full_word refl))) (leads (Some (waits.Touch c)) old waiter u.hand e)

counts : (u : View) (c old new waiter : ℕ) → TakesForCounter u c → head_in old ≡ waiter + 1 → head_in new ≡ 0 → Leads None waiter (cell_changed (old == old) c old new old u).hand
counts u c old new waiter f e z = subst (λ (hand : List Waiter). Leads None waiter hand) (sym (counter_hand u c old new true f (eq-eqb (head_in new) 0 z))) (leads None (head_in old) waiter u.hand e)

-- ---- the list is walked

abbrev Follows : ℕ → ℕ → List Waiter → List Waiter → Type 0
Follows c waiter hand after = (y : Waiter) × (z : Waiter) × Contains hand y × (y.cell ≡ c) × Contains after z × (z.cell ≡ waiter) × (z.wait ≡ common_wait y.wait) × (z.leads ≡ true)

both_are : (a b : Bool) → a ≡ true → b ≡ true → (a && b) ≡ true
both_are true b e f = f
both_are false b e f = let no : ⊥ = cc in absurd no

follows_at : (b : Bool) (c waiter : ℕ) (y : Waiter) (ys : List Waiter) → ((y.cell == c) && y.leads) ≡ b → (b ≡ false → Follows c waiter ys (with_next c (suc waiter) ys)) → Follows c waiter (y ∷ ys) (cond b (record y { leads = false } ∷ followed (common_wait y.wait) (suc waiter) ys) (y ∷ with_next c (suc waiter) ys))
follows_at true c waiter y ys e more =
    let z : Waiter = record { cell = waiter; wait = common_wait y.wait; next = None; leads = true } in
    (y, z, contains_here y ys, same_true y.cell c (both_true (y.cell == c) y.leads e).0, contains_later z (record y { leads = false }) (z ∷ ys) (contains_here z ys), refl, refl, refl)
follows_at false c waiter y ys e more = let r = more refl in (r.0, r.1, contains_later r.0 y ys r.2, r.3, contains_later r.1 y (with_next c (suc waiter) ys) r.4, r.5, r.6, r.7)

follows : (c waiter : ℕ) (hand : List Waiter) (x : Waiter) → Contains hand x → x.cell ≡ c → x.leads ≡ true → Follows c waiter hand (with_next c (suc waiter) hand)
follows c waiter [] x m e l = absurd (contains_none x m)
follows c waiter (y ∷ ys) x m e l = follows_at ((y.cell == c) && y.leads) c waiter y ys refl (λ n. ⊎_elim
    (λ (s : y ≡ x). let t = both_are (y.cell == c) y.leads (eq-eqb y.cell c (ap (λ w. w.cell) s ∙ e)) (ap (λ w. w.leads) s ∙ l) in let no : ⊥ = cc in absurd no)
    (λ (k : Contains ys x). follows c waiter ys x k e l) (contains_case x y ys m))

follows_next : (u : View) (c waiter n : ℕ) (x : Waiter) → n ≡ waiter + 1 → Contains u.hand x → x.cell ≡ c → x.leads ≡ true → Follows c waiter u.hand (with_next c n u.hand)
follows_next u c waiter n x s m e l =
    let t : n ≡ suc waiter = omega arith in
    subst (λ (k : ℕ). Follows c waiter u.hand (with_next c k u.hand)) (sym t) (follows c waiter u.hand x m e l)

pub hand_laws : HandLaws
unfolding view_after
hand_laws = record {
  counter = λ u c owner one m e. taken_for u c owner one m ∙ e;
  future = λ u c owner one m e. taken_for u c owner one m ∙ e;
  readies = λ u c h. readies u c h;
  leaves = λ u c h k. leaves u c h k;
  parks = λ u c old waiter f n h. parks u c old waiter f n h;
  joins = λ u c old waiter f l h. joins u c old (count_in old) waiter f l h;
  fills = λ u c waiter f. fills u c (waiter + 1) waiter f refl;
  counts = λ u c old new waiter f e z. let r = counts u c old new waiter f e z in (r.0, r.1, r.2, r.4);
  follows = λ u c waiter x m e l. follows_next u c waiter (waiter + 1) x refl m e l;
}
