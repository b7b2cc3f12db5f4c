-- A thread ends: its value is stored, its cell becomes full, and the waiters are handed out. A counter grows. Each waiter that was handed out is seen,
-- becomes ready or is parked again. Each step is safe, by what the steps before it left and what their answers promise.
use Rattle.std.proofs.Common.{◌≡◌, ◌≢◌, ◌⊎◌, inl, inr, ⊎_elim, ℕ, zero, suc, ◌+◌, ◌*◌, ◌-◌, ◌/◌, ◌%◌, ◌^◌, ◌≤◌, ◌<◌, Bool, true, false, cond, not, ◌&&◌, ◌||◌, ◌==◌, List, [], ◌∷◌, ◌++◌, map, length, Option, Some, None, refl, sym, ap, ◌∙◌, subst, arith, eq-eqb, ne_eqb}
use Rattle.std.specs.List.{Contains, filter}
use Rattle.st_base.specs.declared.chain.Chain.{Chain}
use Rattle.st_base.specs.declared.chain.Frame.{Frame}
use Rattle.st_base.specs.declared.chain.Waiting.{Waiting}
use Rattle.st_base.specs.declared.chain.Waiting.TheVariants as waits
use Rattle.st_words.specs.declared.view.CellWord.TheVariants as words
use Rattle.st_words.specs.declared.view.Slot.TheVariants as slots
use Rattle.st_words.specs.declared.view.Known.{Known}
use Rattle.st_words.specs.declared.view.Carried.{Carried}
use Rattle.st_words.specs.declared.view.Cargo.{Cargo}
use Rattle.st_words.specs.declared.view.Waiter.{Waiter}
use Rattle.st_words.specs.declared.view.View.{View}
use Rattle.st_words.specs.Encodings.{waits_word, ready, full_word, count_in, count_after, head_in, counter_word}
use Rattle.st_words.specs.Steps.{CellLoad, CellStore, CellChange, OutStore, SlotTake, SlotPut, Done, Number, Took, HasThread, HasChain, HasInHand, IsWaiting, IsCounter, taken_share, some_thread}
use Rattle.st_words.specs.Views.{view_after, without_waiter, followed, common_wait, with_next, seen_waiting, changed_future, cell_changed, counts_cell, owner_seen, changed_by, without_chain, waiter_of, in_hand}
use Rattle.st_words.specs.Laws.{taking, putting, TakesForFuture, TakesForCounter}
use Rattle.st_words.specs.Promises.{Promises}
use Rattle.st_words.specs.Careful.{Meaning, TopIs, IsOver, CanSpare, ShowsPlace, standing_of}
use Rattle.st_words.proofs.Lists.{contains_here}
use Rattle.st_words.proofs.Hands.{counter_hand, future_hand}
use Rattle.st_words.proofs.Puts.{has_in_hand}
use Rattle.st_words.specs.Safely.{Safe, EndingLaws}
use Rattle.st_words.proofs.Safe.{store, change, out, readied}

module _ (m : Meaning) (u : View) where
  top_has : (t : Known) (rest : List Known) → u.threads ≡ t ∷ rest → HasThread u t.note.cell
  top_has t rest is = (t, subst (λ (ts : List Known). Contains ts t) (sym is) (contains_here t rest), refl)

  -- 1. the value with which the top thread ends
  pub value_safe : (t : Known) (rest : List Known) (n : ℕ) → t.note.cell < u.cells → u.threads ≡ t ∷ rest → m.ends t n → (Contains u.full t.note.cell → ⊥) → Safe m u (CellStore t.note.cell words.Value n)
  value_safe t rest n below is ends open_yet = store m u t.note.cell words.Value n below (top_has t rest is, open_yet)
      (subst (λ (ts : List Known). TopIs ts (λ k. (k.note.cell ≡ t.note.cell) × m.ends k n)) (sym is) (refl, ends))

  -- 2. its cell becomes full
  pub fill_safe : (t : Known) (rest : List Known) (seen n : ℕ) → t.note.cell < u.cells → u.threads ≡ t ∷ rest → m.ends t n → Contains u.valued (t.note.cell, n) → seen ≢ full_word → Safe m u (CellChange t.note.cell seen full_word)
  fill_safe t rest seen n below is ends stored other =
      change m u t.note.cell seen full_word below (inr (inl (inr (top_has t rest is), other, refl)))
      (inl (inr (top_has t rest is), inr (refl, subst (λ (ts : List Known). TopIs ts (λ k. (k.note.cell ≡ t.note.cell) × ((value : ℕ) × m.ends k value × Contains u.valued (t.note.cell, value)))) (sym is) (refl, (n, ends, stored)))))

  -- 3. its Standing word
  pub ended_safe : (c : ℕ) → c < u.cells → Contains u.filled c → Safe m u (CellStore c words.Standing 5)
  ended_safe c below filled = store m u c words.Standing 5 below (omega arith, inr (inr (inr (inr filled)))) (inr (inr (inr (refl, filled))))

  -- a counter grows
  pub done_safe : (c seen : ℕ) → c < u.cells → IsCounter u c → Safe m u (CellChange c seen (counter_word (count_after (count_in seen)) 0))
  done_safe c seen below counter = change m u c seen (counter_word (count_after (count_in seen)) 0) below (inr (inr (inl (counter, refl)))) (inr (counter, inr (counter, refl)))

  -- a byte of the root is printed
  pub out_safe : (i forks byte : ℕ) → i < 1048576 → HasThread u 0 → byte < 256 → Safe m u (OutStore i (forks * 2 ^ 9 + 256 + byte))
  out_safe i forks byte below root few = out m u i (forks * 2 ^ 9 + 256 + byte) (below, root, (forks, byte, few, refl))

-- ---- what the view after has

pub value_stored : (u : View) (c n : ℕ) → Contains (view_after u (CellStore c words.Value n) Done).valued (c, n)
unfolding view_after
value_stored u c n = contains_here (c, n) _

filled_now : (u : View) (c seen : ℕ) → TakesForFuture u c → (view_after u (CellChange c seen full_word) (Number seen)) ≡ changed_future c seen full_word true u
unfolding view_after
filled_now u c seen takes = ap (λ (t : Bool). cell_changed t c seen full_word seen u) (eq-eqb seen seen refl) ∙ ap (λ (t : Bool). changed_by t c seen full_word u) takes ∙ ap (λ (t : Bool). changed_future c seen full_word t u) (eq-eqb full_word full_word refl)

-- all waiters of the future wait for it; their wait is over, as the view has seen
pub fill_hand : (u : View) (c seen : ℕ) → TakesForFuture u c → let v = view_after u (CellChange c seen full_word) (Number seen) in Contains v.filled c × IsOver v (waits.Touch c) × (v.hand ≡ followed (Some (waits.Touch c)) seen u.hand) × (v.share ≡ u.share)
fill_hand u c seen takes =
    let e = filled_now u c seen takes in
    (subst (λ (v : View). Contains v.filled c) (sym e) (contains_here c u.filled), subst (λ (v : View). Contains v.full c) (sym e) (contains_here c u.full), ap (λ (v : View). v.hand) e, ap (λ (v : View). v.share) e)

-- ---- a waiter that leads: its Next word is read

next_of : (c n : ℕ) (b : Bool) (x : Waiter) → ((x.cell == c) && x.leads) ≡ b → b ≡ true → with_next c n (x ∷ []) ≡ record x { leads = false } ∷ followed (common_wait x.wait) n []
next_of c n b x e t = ap (λ (k : Bool). cond k (record x { leads = false } ∷ followed (common_wait x.wait) n []) (x ∷ [])) (e ∙ t)

both : (a b : Bool) → a ≡ true → b ≡ true → (a && b) ≡ true
both true b e f = f
both false b e f = let no : ⊥ = cc in absurd no

-- it leads no more, and the next one does
pub next_hand : (u : View) (c n : ℕ) (x : Waiter) → u.hand ≡ x ∷ [] → x.cell ≡ c → x.leads ≡ true → (view_after u (CellLoad c words.Next) (Number n)).hand ≡ record x { leads = false } ∷ followed (common_wait x.wait) n []
unfolding view_after
next_hand u c n x hand at leads = ap (with_next c n) hand ∙ next_of c n true x (both (x.cell == c) x.leads (eq-eqb x.cell c at) leads) refl

pub next_few : (u : View) (c n : ℕ) (x : Waiter) → Promises u (CellLoad c words.Next) (Number n) → Contains u.hand x → x.cell ≡ c → x.leads ≡ true → n ≤ u.cells
next_few u c n x told at cell leads = told x at cell leads

-- ---- a waiter's chain is taken by hand: what it waits for is seen, and the share stays

pub hand_taken : (u : View) (c : ℕ) (chain : Chain) (cargo : Cargo) (x : Waiter) (xs : List Waiter) → Promises u (SlotTake (slots.Cell c)) (Took (Some chain) cargo) → u.hand ≡ x ∷ xs → x.cell ≡ c → let v = taking u (slots.Cell c) chain cargo in
    Contains v.chains cargo.carried × IsWaiting cargo.carried.wait × (cargo.carried.standing ≡ Some waits_word) × (v.share ≡ u.share) × (v.threads ≡ u.threads) × (v.hand ≡ record x { wait = Some cargo.carried.wait } ∷ seen_waiting c cargo.carried.wait xs)
unfolding view_after
hand_taken u c chain cargo x xs told hand at =
    let h : HasInHand u c = (x, subst (λ (ys : List Waiter). Contains ys x) (sym hand) (contains_here x xs), at) in
    let t = told.by_hand h in
    let none : cargo.unit ≡ 0 = t.0 in
    let add : u.share + 0 ≡ u.share = omega arith in (
      contains_here cargo.carried u.chains,
      t.2,
      t.1,
      ap (λ k. u.share + k) none ∙ add,
      refl,
      ap (seen_waiting c cargo.carried.wait) hand ∙ ap (λ (b : Bool). cond b (record x { wait = Some cargo.carried.wait }) x ∷ seen_waiting c cargo.carried.wait xs) (eq-eqb x.cell c at),
    )

waiter_stays : (c : ℕ) (wait : Waiting) (hand : List Waiter) → in_hand c hand ≡ true → waiter_of c wait hand ≡ hand
waiter_stays c (waits.Touch cell) hand e = ap (λ (b : Bool). cond b hand (record { cell = c; wait = Some (waits.Touch cell); next = None; leads = false } ∷ hand)) e
waiter_stays c (waits.Join cell least) hand e = ap (λ (b : Bool). cond b hand (record { cell = c; wait = Some (waits.Join cell least); next = None; leads = false } ∷ hand)) e
waiter_stays c waits.Start hand e = refl
waiter_stays c waits.Ready hand e = refl
waiter_stays c waits.Trapped hand e = refl

-- it is put back: the hand stays
pub back_hand : (u : View) (c : ℕ) (chain : Chain) (cargo : Cargo) → HasInHand u c → (putting u (slots.Cell c) chain cargo).hand ≡ u.hand
unfolding view_after
back_hand u c chain cargo h = waiter_stays c chain.wait u.hand (has_in_hand c u.hand h.0 h.1 h.2)

-- ---- a waiter becomes ready: the last of the hand

without_first : (c : ℕ) (x : Waiter) (xs : List Waiter) → x.cell ≡ c → without_waiter c (x ∷ xs) ≡ without_waiter c xs
without_first c x xs e = ap (λ (b : Bool). cond (not b) (x ∷ without_waiter c xs) (without_waiter c xs)) (eq-eqb x.cell c e)

pub ready_hand : (u : View) (c : ℕ) (x : Waiter) (xs : List Waiter) → u.hand ≡ x ∷ xs → x.cell ≡ c → let v = view_after u (CellStore c words.Standing 3) Done in (v.hand ≡ without_waiter c xs) × Contains v.ready c × (v.share ≡ u.share - 1) × (v.threads ≡ u.threads)
ready_hand u c x xs hand at =
    let h : HasInHand u c = (x, subst (λ (ys : List Waiter). Contains ys x) (sym hand) (contains_here x xs), at) in
    let e = readied u c h in
    (ap (λ (v : View). v.hand) e ∙ ap (without_waiter c) hand ∙ without_first c x xs at, subst (λ (v : View). Contains v.ready c) (sym e) (contains_here c u.ready), ap (λ (v : View). v.share) e, ap (λ (v : View). v.threads) e)

pub ending_laws : (m : Meaning) → EndingLaws m
ending_laws m = record {
  value_safe = value_safe m;
  fill_safe = fill_safe m;
  ended_safe = ended_safe m;
  done_safe = done_safe m;
  out_safe = out_safe m;
  value_stored = value_stored;
  fill_hand = fill_hand;
  next_hand = next_hand;
  next_few = next_few;
  hand_taken = hand_taken;
  back_hand = back_hand;
  ready_hand = ready_hand;
}
