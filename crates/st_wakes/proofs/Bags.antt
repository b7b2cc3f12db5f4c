-- What is in the hand of a worker with waiters after each of its steps: next_bag (a Next word was read), added_bag and lowered_bag (a unit), taken_bag and put_bag (a waiter's chain), readied_bag and
-- linked_bag (a waiter is settled), parked_bag. They speak of views alone.
use Rattle.std.proofs.Common.{Bool, List, None, Option, Some, [], ap, arith, cond, eq-eqb, false, inl, inr, ne_eqb, not, refl, subst, suc, sym, true, zero, ℕ, ⊎_elim, ◌&&◌, ◌++◌, ◌+◌, ◌-◌, ◌<◌, ◌==◌, ◌∙◌, ◌∷◌, ◌≡◌, ◌≢◌, ◌≤◌}
use Rattle.std.specs.List.{Contains}
use Rattle.st_base.specs.declared.chain.Chain.{Chain}
use Rattle.st_base.specs.declared.chain.Waiting.{Waiting}
use Rattle.st_base.specs.declared.thread.Held.{Held}
use Rattle.st_fits.specs.Bags.{Bag, HasBag, RestIs, before_rest, common, common_by, leader, units, with_chain}
use Rattle.st_fits.specs.Before.{after, change_after, counter_after, future_after, state_after}
use Rattle.st_model.specs.Memory.{Data}
use Rattle.st_model.specs.declared.program.Program.{Program}
use Rattle.st_phases.specs.declared.phase.Rest.{Rest}
use Rattle.st_words.proofs.Ending.{back_hand, hand_taken, next_hand}
use Rattle.st_words.proofs.Lists.{contains_case, contains_here, contains_later, contains_none}
use Rattle.st_words.proofs.Safe.{readied}
use Rattle.st_words.proofs.Waiting.{put_share}
use Rattle.st_words.specs.Encodings.{full_word, head_in, ready}
use Rattle.st_words.specs.Laws.{TakesForCounter, TakesForFuture}
use Rattle.st_words.specs.Promises.{Promises}
use Rattle.st_words.specs.Steps.{ActiveAdd, CellChange, CellLoad, CellStore, Done, HasInHand, Number, SlotPut, SlotTake, Took}
use Rattle.st_words.specs.Tidy.{AreOnce, TidyNumbers}
use Rattle.st_words.specs.Views.{cell_changed, changed_by, changed_counter, changed_future, common_wait, followed, kind_seen, linked, seen_waiting, view_after, with_standing, with_state_by, without_chain, without_number, without_waiter}
use Rattle.st_words.specs.declared.view.Cargo.{Cargo}
use Rattle.st_words.specs.declared.view.Carried.{Carried}
use Rattle.st_words.specs.declared.view.View.{View}
use Rattle.st_words.specs.declared.view.Waiter.{Waiter}
use Rattle.st_words.specs.declared.view.CellWord.TheVariants as words
use Rattle.st_words.specs.declared.view.Slot.TheVariants as slots

-- ---- hands

abbrev pub leads_at : ℕ → Option Waiting → Waiter
leads_at c wait = record { cell = c; wait = wait; next = None; leads = true }

abbrev pub read_at : ℕ → Option Waiting → Option ℕ → Waiter
read_at c wait next = record { cell = c; wait = wait; next = next; leads = false }

-- none of these has the number
abbrev pub AreFar : ℕ → List Waiter → Type 0
AreFar c hand = (y : Waiter) → Contains hand y → y.cell ≢ c

pub leader_is : (wait : Option Waiting) (n : ℕ) → n ≢ 0 → followed wait n [] ≡ leads_at (n - 1) wait ∷ []
leader_is wait zero some = absurd (some refl)
leader_is wait (suc k) some = let e : k ≡ suc k - 1 = omega arith in ap (λ (c : ℕ). leads_at c wait ∷ []) e

pub common_common : (counter : Bool) (cell : ℕ) → common_wait (common_by counter cell) ≡ common_by counter cell
common_common true cell = refl
common_common false cell = refl

pub without_far : (c : ℕ) (hand : List Waiter) → AreFar c hand → without_waiter c hand ≡ hand
without_far c [] far = refl
without_far c (x ∷ xs) far = ap (λ (b : Bool). cond (not b) (x ∷ without_waiter c xs) (without_waiter c xs)) (ne_eqb x.cell c (far x (contains_here x xs))) ∙ ap (λ (ys : List Waiter). x ∷ ys) (without_far c xs (λ y in'. far y (contains_later y x xs in')))

pub without_first : (c : ℕ) (x : Waiter) (xs : List Waiter) → x.cell ≡ c → AreFar c xs → without_waiter c (x ∷ xs) ≡ xs
without_first c x xs e far = ap (λ (b : Bool). cond (not b) (x ∷ without_waiter c xs) (without_waiter c xs)) (eq-eqb x.cell c e) ∙ without_far c xs far

pub linked_far : (c n : ℕ) (hand : List Waiter) → AreFar c hand → linked c n hand ≡ hand
linked_far c n [] far = refl
linked_far c n (x ∷ xs) far = ap (λ (b : Bool). cond b (record x { next = Some n }) x ∷ linked c n xs) (ne_eqb x.cell c (far x (contains_here x xs))) ∙ ap (λ (ys : List Waiter). x ∷ ys) (linked_far c n xs (λ y in'. far y (contains_later y x xs in')))

pub linked_first : (c n : ℕ) (x : Waiter) (xs : List Waiter) → x.cell ≡ c → AreFar c xs → linked c n (x ∷ xs) ≡ record x { next = Some n } ∷ xs
linked_first c n x xs e far = ap (λ (b : Bool). cond b (record x { next = Some n }) x ∷ linked c n xs) (eq-eqb x.cell c e) ∙ ap (λ (ys : List Waiter). record x { next = Some n } ∷ ys) (linked_far c n xs far)

pub seen_far : (c : ℕ) (wait : Waiting) (hand : List Waiter) → AreFar c hand → seen_waiting c wait hand ≡ hand
seen_far c wait [] far = refl
seen_far c wait (x ∷ xs) far = ap (λ (b : Bool). cond b (record x { wait = Some wait }) x ∷ seen_waiting c wait xs) (ne_eqb x.cell c (far x (contains_here x xs))) ∙ ap (λ (ys : List Waiter). x ∷ ys) (seen_far c wait xs (λ y in'. far y (contains_later y x xs in')))

-- ---- the first one

module _ (u : View) (x : Waiter) (xs : List Waiter) (is : u.hand ≡ x ∷ xs) where
  pub first_there : Contains u.hand x
  first_there = subst (λ (ys : List Waiter). Contains ys x) (sym is) (contains_here x xs)

  pub first_in : HasInHand u x.cell
  first_in = (x, first_there, refl)

  pub first_below : TidyNumbers u → x.cell < u.cells
  first_below tidy = tidy.below x.cell (inr (inr (inl first_in)))

  pub first_far : TidyNumbers u → AreFar x.cell xs
  first_far tidy = (subst AreOnce is tidy.hand).0

contains_early : {X : Type 0} (x : X) (xs ys : List X) → Contains xs x → Contains (xs ++ ys) x
contains_early x [] ys is = absurd (contains_none x is)
contains_early x (y ∷ xs) ys is = ⊎_elim (λ e. subst (λ z. Contains (y ∷ (xs ++ ys)) z) e (contains_here y (xs ++ ys))) (λ more. contains_later x y (xs ++ ys) (contains_early x xs ys more)) (contains_case x y xs is)

-- ---- lists of waiters

pub rest_is : (rest : Rest) (n : ℕ) (u v : View) → v.cells ≡ u.cells → ((c : ℕ) → Contains u.full c → Contains v.full c) → n ≤ u.cells → RestIs rest u → RestIs (record rest { next = n }) v
rest_is rest n u v cells more few h = record {
  here = subst (λ (k : ℕ). rest.cell < k) (sym cells) h.here;
  next = subst (λ (k : ℕ). n ≤ k) (sym cells) few;
  full = λ e. let f = h.full e in (more rest.cell f.0, f.1);
}

-- what a worker keeps beside its hand is the same
pub record SameOwn (u v : View) : Type 0 where
  pub asked : v.asked ≡ u.asked
  pub ready : v.ready ≡ u.ready
  pub full : (q : ℕ) → Contains u.full q → Contains v.full q

module _ (p : Program) (d : Data) (u : View) where
  -- ---- a Next word is read

  pub next_bag : (rest : Rest) (n : ℕ) → rest.next ≢ 0 → HasBag (record (units 1) { hand = leader rest }) u → HasBag (record (units 1) { hand = before_rest (rest.next - 1) (common rest) None (record rest { next = n }) }) (after p d u (CellLoad (rest.next - 1) words.Next) (Number n))
  unfolding after view_after
  next_bag rest n some h = record {
    chains = h.chains;
    hand =
        next_hand u (rest.next - 1) n (leads_at (rest.next - 1) (common rest)) (h.hand ∙ leader_is (common rest) rest.next some) refl refl
        ∙ ap (λ (w : Option Waiting). read_at (rest.next - 1) (common rest) None ∷ followed w n []) (common_common rest.counter rest.cell);
    share = h.share;
    drawn = h.drawn;
    child = h.child;
    answering = h.answering;
    given = h.given;
    root = h.root;
  }

  pub next_own : (c n : ℕ) → SameOwn u (after p d u (CellLoad c words.Next) (Number n))
  unfolding after view_after
  next_own c n = record { asked = refl; ready = refl; full = λ q is. is }

  -- ---- units

  pub added_bag : (b : Bag) (n : ℕ) → HasBag b u → HasBag (record b { share = b.share + 1 }) (after p d u (ActiveAdd true) (Number n))
  unfolding after view_after
  added_bag b n h = record { chains = h.chains; hand = h.hand; share = ap (λ k. k + 1) h.share; drawn = h.drawn; child = h.child; answering = h.answering; given = h.given; root = h.root }

  pub lowered_bag : (b : Bag) (n : ℕ) → HasBag b u → HasBag (record b { share = b.share - 1 }) (after p d u (ActiveAdd false) (Number n))
  unfolding after view_after
  lowered_bag b n h = record { chains = h.chains; hand = h.hand; share = ap (λ k. k - 1) h.share; drawn = h.drawn; child = h.child; answering = h.answering; given = h.given; root = h.root }

  pub unit_own : (up : Bool) (n : ℕ) → SameOwn u (after p d u (ActiveAdd up) (Number n))
  unfolding after view_after
  unit_own up n = record { asked = refl; ready = refl; full = λ q is. is }

  -- ---- a waiter's chain is taken for a look, and put back

  pub taken_bag : (waiter : ℕ) (rest : Rest) (chain : Chain) (cargo : Cargo) → TidyNumbers u → Promises u (SlotTake (slots.Cell waiter)) (Took (Some chain) cargo) → HasBag (record (units 2) { hand = before_rest waiter None None rest }) u →
      HasBag (record (with_chain cargo.carried (units 2)) { hand = before_rest chain.cell (Some chain.wait) None rest }) (after p d u (SlotTake (slots.Cell waiter)) (Took (Some chain) cargo))
  unfolding after view_after
  taken_bag waiter rest chain cargo tidy told h =
      let t = hand_taken u waiter chain cargo (read_at waiter None None) (leader rest) told h.hand refl in
      let far = first_far u (read_at waiter None None) (leader rest) h.hand tidy in
      record {
        chains = ap (λ (xs : List Carried). cargo.carried ∷ xs) h.chains;
        hand =
            t.5 ∙ ap (λ (ys : List Waiter). read_at waiter (Some cargo.carried.wait) None ∷ ys) (seen_far waiter cargo.carried.wait (leader rest) far) ∙ ap (λ (c : ℕ). read_at c (Some cargo.carried.wait) None ∷ leader rest) (sym told.cell)
            ∙ ap (λ (w : Waiting). read_at chain.cell (Some w) None ∷ leader rest) told.of.1;
        share = t.3 ∙ h.share;
        drawn = h.drawn;
        child = h.child;
        answering = h.answering;
        given = h.given;
        root = ap (λ (b : Bool). b && not (waiter == 0)) h.root;
      }

  pub record TakenOwn (v : View) (waiter : ℕ) (cargo : Cargo) : Type 0 where
    pub asked : v.asked ≡ u.asked
    pub ready : v.ready ≡ without_number waiter u.ready
    pub exported : v.exported ≡ u.exported
    pub full : (q : ℕ) → Contains u.full q → Contains v.full q
    pub names : (name : Held) (c : ℕ) → Contains cargo.names (name, c) → Contains v.names (name, c)

  pub taken_own : (waiter : ℕ) (chain : Chain) (cargo : Cargo) → TakenOwn (after p d u (SlotTake (slots.Cell waiter)) (Took (Some chain) cargo)) waiter cargo
  unfolding after view_after
  taken_own waiter chain cargo = record { asked = refl; ready = refl; exported = refl; full = λ q is. is; names = λ name c is. contains_early (name, c) cargo.names u.names is }

  pub put_bag : (rest : Rest) (chain : Chain) (x : Carried) (cargo : Cargo) → x.known.note.cell ≡ chain.cell → cargo.unit ≡ 0 → HasBag (record (with_chain x (units 2)) { hand = before_rest chain.cell (Some chain.wait) None rest }) u →
      HasBag (record (units 2) { hand = before_rest chain.cell (Some chain.wait) None rest }) (after p d u (SlotPut (slots.Cell chain.cell) chain cargo) Done)
  unfolding after view_after
  put_bag rest chain x cargo same none h = record {
    chains = ap (without_chain chain.cell) h.chains ∙ ap (λ (b : Bool). cond (not b) (x ∷ []) []) (eq-eqb x.known.note.cell chain.cell same);
    hand = back_hand u chain.cell chain cargo (first_in u (read_at chain.cell (Some chain.wait) None) (leader rest) h.hand) ∙ h.hand;
    share = put_share u chain.cell chain cargo none ∙ h.share;
    drawn = h.drawn;
    child = h.child;
    answering = h.answering;
    given = h.given;
    root = h.root;
  }

  pub record PutOwn (v : View) : Type 0 where
    pub asked : v.asked ≡ u.asked
    pub ready : v.ready ≡ u.ready
    pub exported : v.exported ≡ u.exported
    pub names : v.names ≡ u.names
    pub full : (q : ℕ) → Contains u.full q → Contains v.full q

  pub put_own : (c : ℕ) (chain : Chain) (cargo : Cargo) → PutOwn (after p d u (SlotPut (slots.Cell c) chain cargo) Done)
  unfolding after view_after
  put_own c chain cargo = record { asked = refl; ready = refl; exported = refl; names = refl; full = λ q is. is }

  -- ---- a waiter becomes ready, or is linked

  ready_view : (c : ℕ) → HasInHand u c → after p d u (CellStore c words.Standing ready) Done ≡ record u { chains = with_standing c ready u.chains; hand = without_waiter c u.hand; ready = c ∷ u.ready; share = u.share - 1 }
  unfolding after
  ready_view c is = ap (λ (w : View). record w { threads = u.threads }) (readied u c is)

  pub readied_bag : (b : Bag) (x : Waiter) (xs : List Waiter) → TidyNumbers u → b.chains ≡ [] → b.hand ≡ x ∷ xs → HasBag b u → HasBag (record b { hand = xs; share = b.share - 1 }) (after p d u (CellStore x.cell words.Standing ready) Done)
  readied_bag b x xs tidy none is h =
      let hand = h.hand ∙ is in
      subst (λ (w : View). HasBag (record b { hand = xs; share = b.share - 1 }) w) (sym (ready_view x.cell (first_in u x xs hand))) (record {
        chains = ap (with_standing x.cell ready) (h.chains ∙ none) ∙ sym none;
        hand = ap (without_waiter x.cell) hand ∙ without_first x.cell x xs refl (first_far u x xs hand tidy);
        share = ap (λ k. k - 1) h.share;
        drawn = h.drawn;
        child = h.child;
        answering = h.answering;
        given = h.given;
        root = h.root;
      })

  pub readied_ready : (c : ℕ) → HasInHand u c → (after p d u (CellStore c words.Standing ready) Done).ready ≡ c ∷ u.ready
  readied_ready c is = ap (λ (w : View). w.ready) (ready_view c is)

  pub readied_full : (c q : ℕ) → HasInHand u c → Contains u.full q → Contains (after p d u (CellStore c words.Standing ready) Done).full q
  readied_full c q is full = subst (λ (w : View). Contains w.full q) (sym (ready_view c is)) full

  pub readied_asked : (c : ℕ) → HasInHand u c → (after p d u (CellStore c words.Standing ready) Done).asked ≡ u.asked
  readied_asked c is = ap (λ (w : View). w.asked) (ready_view c is)

  pub linked_bag : (b : Bag) (n : ℕ) (x : Waiter) (xs : List Waiter) → TidyNumbers u → b.hand ≡ x ∷ xs → HasBag b u → HasBag (record b { hand = record x { next = Some n } ∷ xs }) (after p d u (CellStore x.cell words.Next n) Done)
  unfolding after view_after
  linked_bag b n x xs tidy is h =
      let hand = h.hand ∙ is in
      record {
        chains = h.chains;
        hand = ap (linked x.cell n) hand ∙ linked_first x.cell n x xs refl (first_far u x xs hand tidy);
        share = h.share;
        drawn = h.drawn;
        child = h.child;
        answering = h.answering;
        given = h.given;
        root = h.root;
      }

  pub linked_own : (c n : ℕ) → SameOwn u (after p d u (CellStore c words.Next n) Done)
  unfolding after view_after
  linked_own c n = record { asked = refl; ready = refl; full = λ q is. is }

  pub linked_knows : (c n : ℕ) → ((after p d u (CellStore c words.Next n) Done).names ≡ u.names) × ((after p d u (CellStore c words.Next n) Done).owners ≡ u.owners)
  unfolding after view_after
  linked_knows c n = (refl, refl)

  -- ---- a waiter is parked

  -- by whether the word that was seen was found, for what the cell is taken, and whether its list is handed out
  change_view : (c old new n : ℕ) (b : Bool) → (n == old) ≡ b → after p d u (CellChange c old new) (Number n) ≡ record (cell_changed b c old new n u) { threads = change_after p d b c new u }
  unfolding after view_after
  change_view c old new n b e = ap (λ (t : Bool). record (cell_changed t c old new n u) { threads = change_after p d t c new u }) e

  -- another word is found
  pub again_view : (c old new n : ℕ) → n ≢ old → after p d u (CellChange c old new) (Number n) ≡ record (with_state_by (kind_seen c u) c n u) { threads = u.threads }
  again_view c old new n other = change_view c old new n false (ne_eqb n old other)

  pub parked_view : (c old new n : ℕ) → n ≡ old → TakesForFuture u c → new ≢ full_word → after p d u (CellChange c old new) (Number n) ≡ record u { hand = without_waiter (new - 1) u.hand }
  parked_view c old new n same takes other =
      change_view c old new n true (eq-eqb n old same)
      ∙ ap (λ (t : Bool). record (changed_by t c old new u) { threads = state_after p d t new u.threads }) takes
      ∙ ap (λ (t : Bool). record (changed_future c old new t u) { threads = future_after p d t u.threads }) (ne_eqb new full_word other)

  pub joined_view : (c old new n : ℕ) → n ≡ old → TakesForCounter u c → head_in new ≢ 0 → after p d u (CellChange c old new) (Number n) ≡ record u { hand = without_waiter (head_in new - 1) u.hand }
  joined_view c old new n same takes other =
      change_view c old new n true (eq-eqb n old same)
      ∙ ap (λ (t : Bool). record (changed_by t c old new u) { threads = state_after p d t new u.threads }) takes
      ∙ ap (λ (t : Bool). record (changed_counter c old new t u) { threads = counter_after p d t u.threads }) (ne_eqb (head_in new) 0 other)

  pub parked_bag : (v : View) (b : Bag) (x : Waiter) (xs : List Waiter) (k : ℕ) → TidyNumbers u → k ≡ x.cell → v ≡ record u { hand = without_waiter k u.hand } → b.hand ≡ x ∷ xs → HasBag b u → HasBag (record b { hand = xs }) v
  parked_bag v b x xs k tidy at view is h =
      let hand = h.hand ∙ is in
      subst (λ (w : View). HasBag (record b { hand = xs }) w) (sym view) (record {
        chains = h.chains;
        hand = ap (without_waiter k) hand ∙ ap (λ (c : ℕ). without_waiter c (x ∷ xs)) at ∙ without_first x.cell x xs refl (first_far u x xs hand tidy);
        share = h.share;
        drawn = h.drawn;
        child = h.child;
        answering = h.answering;
        given = h.given;
        root = h.root;
      })
