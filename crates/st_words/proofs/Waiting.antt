-- A thread waits or stops: it is suspended, its Trap and Standing words are stored, it is put into its cell's slot, linked and parked; where its wait is
-- over meanwhile it becomes ready, or is taken back. Each step is safe, by what the steps before it left.
use Rattle.std.proofs.Common.{◌≡◌, ◌≢◌, ◌⊎◌, inl, inr, ⊎_elim, ℕ, zero, suc, ◌+◌, ◌*◌, ◌-◌, ◌/◌, ◌%◌, ◌^◌, ◌≤◌, ◌<◌, Bool, true, false, cond, not, ◌&&◌, ◌||◌, ◌==◌, List, [], ◌∷◌, ◌++◌, map, length, Option, Some, None, refl, sym, ap, ◌∙◌, subst, arith, eq-eqb, ne_eqb}
use Rattle.std.specs.List.{Contains, filter}
use Rattle.st_base.specs.declared.chain.Chain.{Chain}
use Rattle.st_base.specs.declared.chain.Frame.{Frame}
use Rattle.st_base.specs.declared.chain.Waiting.{Waiting}
use Rattle.st_base.specs.declared.chain.Waiting.TheVariants as waits
use Rattle.st_words.specs.declared.view.CellWord.TheVariants as words
use Rattle.st_words.specs.declared.view.Slot.TheVariants as slots
use Rattle.st_words.specs.declared.view.Known.{Known}
use Rattle.st_words.specs.declared.view.Carried.{Carried}
use Rattle.st_words.specs.declared.view.Cargo.{Cargo}
use Rattle.st_words.specs.declared.view.Waiter.{Waiter}
use Rattle.st_words.specs.declared.view.View.{View}
use Rattle.st_words.specs.Encodings.{running, waits_word, ready, full_word, count_in, head_in, counter_word, trap_word}
use Rattle.st_words.specs.Steps.{CellLoad, CellStore, CellChange, ActiveAdd, SlotTake, SlotPut, Done, Number, Took, HasChain, HasInHand, IsWaiting, IsFuture, IsCounter, taken_share}
use Rattle.st_words.specs.Views.{view_after, without_waiter, with_state_by, state_when, kind_seen, cell_changed, waiter_of, in_hand, with_standing, without_chain}
use Rattle.st_words.specs.Laws.{HasFrames, cargo_of, putting, taking, TakesForFuture, TakesForCounter}
use Rattle.st_words.specs.Promises.{Promises, IsGoingOn}
use Rattle.st_words.specs.Careful.{Meaning, InHand, InTurn, IsAtHome, IsOver, CanSpare, ShowsPlace, standing_of}
use Rattle.st_words.specs.Moves.{suspended, suspending, MaySuspend}
use Rattle.st_words.proofs.Lists.{contains_here}
use Rattle.st_words.proofs.Carrying.{cargo_laws}
use Rattle.st_words.proofs.Puts.{put_laws, hand_has}
use Rattle.st_words.proofs.Hands.{future_hand, counter_hand}
use Rattle.st_words.specs.Safely.{Safe, waiter_in, SeesMore, WaitingLaws}
use Rattle.st_words.proofs.Safe.{store, change, add, take, put}

module _ (m : Meaning) (u : View) where
  -- 1. the Trap word of a chain that was suspended
  pub trap_safe : (x : Carried) (n : ℕ) → Contains u.chains x → x.known.note.cell < u.cells → x.standing ≡ None → Safe m u (CellStore x.known.note.cell words.Trap n)
  trap_safe x n at below none = store m u x.known.note.cell words.Trap n below (inr (x, at, refl)) (x, at, refl, none)

  -- 2. its Standing word
  pub standing_safe : (x : Carried) (n : ℕ) → n ≤ 5 → Contains u.chains x → x.known.note.cell < u.cells → x.standing ≡ None → standing_of x.wait ≡ Some n → ShowsPlace m x x.wait → Safe m u (CellStore x.known.note.cell words.Standing n)
  standing_safe x n few at below none of shows = store m u x.known.note.cell words.Standing n below (few, inr (inl (x, at, refl))) (inr (inl (x, at, refl, (none, of, shows))))

  -- 3. it is put into its cell's slot, with its frames
  pub put_safe : (x : Carried) (chain : Chain) (fs : List Frame) (n : ℕ) → HasFrames u chain x fs → chain.cell < u.cells → m.walks (cargo_of u x fs 0) chain → standing_of x.wait ≡ Some n → x.standing ≡ Some n → ShowsPlace m x x.wait → Safe m u (SlotPut (slots.Cell chain.cell) chain (cargo_of u x fs 0))
  put_safe x chain fs n has below walks of stands shows =
      let cell : x.known.note.cell ≡ chain.cell = ap (λ k. k.cell) has.note ∙ has.cell in
      put m u (slots.Cell chain.cell) chain (cargo_of u x fs 0) (below, (refl, (x, has.carried, cell)), omega arith, omega arith)
      (record { carries = cargo_laws.may_carry u chain x fs 0 has; unit = refl; walks = walks; shows = (n, of, stands, shows) })

  -- 4. it is linked to the head that was seen
  pub link_safe : (c n : ℕ) → c < u.cells → n ≤ u.cells → IsAtHome u c → InHand u c (λ x. x.leads ≡ false) → Safe m u (CellStore c words.Next n)
  link_safe c n below few home has = store m u c words.Next n below ((has.0, has.1, has.2), few) (home, has)

  -- 5. it is parked at a future or a counter
  pub park_safe : (cell seen waiter : ℕ) → cell < u.cells → IsFuture u cell → seen ≢ full_word → IsAtHome u waiter → InHand u waiter (λ x. (x.next ≡ Some seen) × (x.wait ≡ Some (waits.Touch cell))) → Safe m u (CellChange cell seen (waiter + 1))
  park_safe cell seen waiter below future other home has =
      change m u cell seen (waiter + 1) below (inl (future, other, (waiter, (has.0, has.1, has.2, has.3.0), refl))) (inl (future, inl (waiter, refl, home, has)))

  pub join_safe : (cell seen waiter least : ℕ) → cell < u.cells → IsCounter u cell → count_in seen < least → IsAtHome u waiter → InHand u waiter (λ x. (x.next ≡ Some (head_in seen)) × (x.wait ≡ Some (waits.Join cell least))) → Safe m u (CellChange cell seen (counter_word (count_in seen) (waiter + 1)))
  join_safe cell seen waiter least below counter less home has =
      change m u cell seen (counter_word (count_in seen) (waiter + 1)) below
      (inr (inr (inr (counter, (waiter, least, (has.0, has.1, has.2, has.3.1), (has.0, has.1, has.2, has.3.0), less, refl)))))
      (inr (counter, inl (waiter, least, refl, less, home, has)))

  -- 6. a waiter whose wait is over becomes ready
  pub ready_safe : (c : ℕ) (wait : Waiting) → c < u.cells → InHand u c (λ x. (x.leads ≡ false) × (x.wait ≡ Some wait)) → IsOver u wait → IsAtHome u c → taken_share u < u.share → CanSpare u (without_waiter c u.hand) → Safe m u (CellStore c words.Standing 3)
  ready_safe c wait below has over home covers spare =
      store m u c words.Standing 3 below (omega arith, inr (inr (inl (has.0, has.1, has.2)))) (inr (inr (inl (refl, (has.0, has.1, has.2, (has.3.0, (wait, has.3.1, over))), home, covers, spare))))

  -- a waiter's chain is taken by hand
  pub by_hand_safe : (c : ℕ) → c < u.cells → HasInHand u c → IsAtHome u c → taken_share u < u.share → u.share + 1 < 2 ^ 32 → Safe m u (SlotTake (slots.Cell c))
  by_hand_safe c below has home covers few = take m u (slots.Cell c) (below, inr (inl (has, home)), few) (λ h. covers)

  -- a chain that was ready goes on
  pub run_safe : (x : Carried) → Contains u.chains x → x.known.note.cell < u.cells → IsGoingOn x → Safe m u (CellStore x.known.note.cell words.Standing 1)
  run_safe x at below goes = store m u x.known.note.cell words.Standing 1 below (omega arith, inr (inl (x, at, refl))) (inl (refl, inr (x, at, refl, goes)))

  -- units
  pub up_safe : 1 ≤ u.share → u.share + 1 < 2 ^ 32 → Safe m u (ActiveAdd true)
  up_safe some few = add m u true (some, few) tt

  pub down_safe : taken_share u < u.share → CanSpare u u.hand → Safe m u (ActiveAdd false)
  down_safe covers spare = add m u false covers spare

-- ---- what the view after has

joins_alone : (c : ℕ) (wait : Waiting) → IsWaiting wait → waiter_of c wait [] ≡ waiter_in c wait ∷ []
joins_alone c (waits.Touch cell) w = refl
joins_alone c (waits.Join cell least) w = refl
joins_alone c waits.Start w = absurd w
joins_alone c waits.Ready w = absurd w
joins_alone c waits.Trapped w = absurd w

-- 3. a chain that waits is put, where the hand was empty
pub put_hand : (u : View) (c : ℕ) (chain : Chain) (cargo : Cargo) → IsWaiting chain.wait → u.hand ≡ [] → (putting u (slots.Cell c) chain cargo).hand ≡ waiter_in c chain.wait ∷ []
unfolding view_after
put_hand u c chain cargo w empty = ap (waiter_of c chain.wait) empty ∙ joins_alone c chain.wait w

-- it is at home then, the share is as it was, and a unit of it is free
pub put_home : (u : View) (chain : Chain) (cargo : Cargo) → IsAtHome (putting u (slots.Cell chain.cell) chain cargo) chain.cell
put_home u chain cargo has = put_laws.chain u (slots.Cell chain.cell) chain cargo has

pub put_share : (u : View) (c : ℕ) (chain : Chain) (cargo : Cargo) → cargo.unit ≡ 0 → (putting u (slots.Cell c) chain cargo).share ≡ u.share
unfolding view_after
put_share u c chain cargo none = let e : u.share - 0 ≡ u.share = omega arith in ap (λ k. u.share - k) none ∙ e

without_one : (c : ℕ) (x : Waiter) → x.cell ≡ c → without_waiter c (x ∷ []) ≡ []
without_one c x e = ap (λ (b : Bool). cond (not b) (x ∷ []) []) (eq-eqb x.cell c e)

-- 5. a park that succeeds: the hand is empty again
pub parked_hand : (u : View) (cell seen waiter : ℕ) (x : Waiter) → TakesForFuture u cell → waiter + 1 ≢ full_word → u.hand ≡ x ∷ [] → x.cell ≡ waiter → (view_after u (CellChange cell seen (waiter + 1)) (Number seen)).hand ≡ []
unfolding view_after
parked_hand u cell seen waiter x takes other hand at =
    let less : waiter + 1 - 1 ≡ waiter = omega arith in
    future_hand u cell seen (waiter + 1) false takes (ne_eqb (waiter + 1) full_word other) ∙ ap (without_waiter (waiter + 1 - 1)) hand ∙ without_one (waiter + 1 - 1) x (at ∙ sym less)

pub joined_hand : (u : View) (cell seen waiter : ℕ) (x : Waiter) → TakesForCounter u cell → waiter + 1 < 2 ^ 17 → u.hand ≡ x ∷ [] → x.cell ≡ waiter → (view_after u (CellChange cell seen (counter_word (count_in seen) (waiter + 1))) (Number seen)).hand ≡ []
unfolding view_after
joined_hand u cell seen waiter x takes few hand at =
    let head : head_in (counter_word (count_in seen) (waiter + 1)) ≡ waiter + 1 = omega arith in
    let some : head_in (counter_word (count_in seen) (waiter + 1)) ≢ 0 = λ z. omega (arith, head, z) in
    let e : head_in (counter_word (count_in seen) (waiter + 1)) - 1 ≡ waiter = ap (λ k. k - 1) head ∙ omega arith in
    counter_hand u cell seen (counter_word (count_in seen) (waiter + 1)) false takes (ne_eqb (head_in (counter_word (count_in seen) (waiter + 1))) 0 some) ∙ ap (without_waiter (head_in (counter_word (count_in seen) (waiter + 1)) - 1)) hand ∙ without_one (head_in (counter_word (count_in seen) (waiter + 1)) - 1) x (at ∙ sym e)

-- 5. a park that finds another word: nothing but what was seen changes
pub again_is : (u : View) (cell seen new n : ℕ) → n ≢ seen → view_after u (CellChange cell seen new) (Number n) ≡ with_state_by (kind_seen cell u) cell n u
unfolding view_after
again_is u cell seen new n other = ap (λ (b : Bool). cell_changed b cell seen new n u) (ne_eqb n seen other)

when_more : (counter full : Bool) (cell n : ℕ) (u : View) → SeesMore u (state_when cell n counter full u)
when_more true full cell n u = (refl, refl, refl, refl, refl)
when_more false true cell n u = (refl, refl, refl, refl, refl)
when_more false false cell n u = (refl, refl, refl, refl, refl)

pub state_more : (kind : Option Bool) (cell n : ℕ) (u : View) → SeesMore u (with_state_by kind cell n u)
state_more None cell n u = (refl, refl, refl, refl, refl)
state_more (Some counter) cell n u = when_more counter (n == full_word) cell n u

pub again_more : (u : View) (cell seen new n : ℕ) → n ≢ seen → SeesMore u (view_after u (CellChange cell seen new) (Number n))
again_more u cell seen new n other = subst (SeesMore u) (sym (again_is u cell seen new n other)) (state_more (kind_seen cell u) cell n u)

-- the wait is seen to be over, by a load or a park that found another word
pub seen_full : (u : View) (cell n : ℕ) → kind_seen cell u ≡ Some false → n ≡ full_word → IsOver (with_state_by (kind_seen cell u) cell n u) (waits.Touch cell)
seen_full u cell n kind full =
    subst (λ (k : Option Bool). Contains (with_state_by k cell n u).full cell) (sym kind) (subst (λ (b : Bool). Contains (state_when cell n false b u).full cell) (sym (eq-eqb n full_word full)) (contains_here cell u.full))

pub seen_count : (u : View) (cell n least : ℕ) → kind_seen cell u ≡ Some true → least ≤ count_in n → IsOver (with_state_by (kind_seen cell u) cell n u) (waits.Join cell least)
seen_count u cell n least kind enough =
    subst (λ (k : Option Bool). (count : ℕ) × Contains (with_state_by k cell n u).counts (cell, count) × (least ≤ count)) (sym kind) (count_in n, contains_here (cell, count_in n) u.counts, enough)

pub waiting_laws : (m : Meaning) → WaitingLaws m
waiting_laws m = record {
  trap_safe = trap_safe m;
  standing_safe = standing_safe m;
  put_safe = put_safe m;
  link_safe = link_safe m;
  park_safe = park_safe m;
  join_safe = join_safe m;
  ready_safe = ready_safe m;
  by_hand_safe = by_hand_safe m;
  run_safe = run_safe m;
  up_safe = up_safe m;
  down_safe = down_safe m;
  put_hand = put_hand;
  put_home = put_home;
  put_share = put_share;
  parked_hand = parked_hand;
  joined_hand = joined_hand;
  again_more = again_more;
  seen_full = seen_full;
  seen_count = seen_count;
}
