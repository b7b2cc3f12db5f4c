-- Whole operations, step by step, with the view that is named behind each: a touch that finds the future empty waits (touch_waits), or becomes ready
-- where the future is full meanwhile (touch_readies).
use Rattle.std.proofs.Common.{◌≡◌, ◌≢◌, ◌⊎◌, inl, inr, ⊎_elim, ℕ, zero, suc, ◌+◌, ◌*◌, ◌-◌, ◌/◌, ◌%◌, ◌^◌, ◌≤◌, ◌<◌, Bool, true, false, cond, not, ◌&&◌, ◌||◌, ◌==◌, List, [], ◌∷◌, ◌++◌, map, length, Option, Some, None, refl, sym, ap, ◌∙◌, subst, arith, eq-eqb, ne_eqb}
use Rattle.std.specs.List.{Contains}
use Rattle.st_base.specs.declared.chain.Chain.{Chain}
use Rattle.st_base.specs.declared.chain.Frame.{Frame}
use Rattle.st_base.specs.declared.chain.Waiting.{Waiting}
use Rattle.st_base.specs.declared.chain.Waiting.TheVariants as waits
use Rattle.st_words.specs.declared.view.CellWord.TheVariants as words
use Rattle.st_words.specs.declared.view.Slot.TheVariants as slots
use Rattle.st_words.specs.declared.view.Known.{Known}
use Rattle.st_words.specs.declared.view.Carried.{Carried}
use Rattle.st_words.specs.declared.view.Cargo.{Cargo}
use Rattle.st_words.specs.declared.view.Waiter.{Waiter}
use Rattle.st_words.specs.declared.view.View.{View}
use Rattle.st_words.specs.Encodings.{full_word, is_counter, trap_word}
use Rattle.st_words.specs.Steps.{CellStore, CellChange, SlotPut, ActiveAdd, Done, Number, HasChain, IsWaiting, taken_share, some_thread}
use Rattle.st_words.specs.Views.{view_after, kind_seen, linked, with_trap, with_standing, without_waiter, without_chain}
use Rattle.st_words.specs.Laws.{HasFrames, cargo_of, putting, TakesForFuture}
use Rattle.st_words.specs.Careful.{Meaning, IsOver, CanSpare, InHand}
use Rattle.st_words.specs.Moves.{suspended, suspending}
use Rattle.st_words.proofs.Lists.{contains_here, contains_none}
use Rattle.st_words.specs.Operations.{wait_suspended, wait_trap, wait_standing, wait_chain, wait_put, wait_linked, wait_parked, wait_again, Waits, Walked, WaitSteps}
use Rattle.st_words.specs.Safely.{Safe, waiter_in}
use Rattle.st_words.proofs.Safe.{trap_stored, standing_stored, link_stored, readied}
use Rattle.st_words.proofs.Waiting.{trap_safe, standing_safe, put_safe, link_safe, park_safe, ready_safe, put_hand, put_home, down_safe, parked_hand, again_is, again_more, seen_full}

module _ (u : View) (t : Known) (rest : List Known) (cell pc seen : ℕ) (chain : Chain) (fs : List Frame) where
  abbrev thread : ℕ
  thread = t.note.cell

  -- the views, one behind each step: suspended, Trap, Standing, put, linked
  abbrev v0 : View
  v0 = wait_suspended u t rest cell pc seen chain fs

  abbrev v1 : View
  v1 = wait_trap u t rest cell pc seen chain fs

  abbrev v2 : View
  v2 = wait_standing u t rest cell pc seen chain fs

  abbrev x2 : Carried
  x2 = wait_chain u t rest cell pc seen chain fs

  abbrev v3 : View
  v3 = wait_put u t rest cell pc seen chain fs

  abbrev v4 : View
  v4 = wait_linked u t rest cell pc seen chain fs

  module _ (m : Meaning) (owner : ℕ) where
    at_cell : Walked u t rest cell pc seen chain fs m → chain.cell ≡ t.note.cell
    at_cell w = sym (ap (λ n. n.cell) w.has.note ∙ w.has.cell)

    x1_in : Contains v1.chains (record (suspended t (waits.Touch cell)) { trap = Some (trap_word pc 0) })
    x1_in = trap_stored v0 thread (trap_word pc 0) (suspended t (waits.Touch cell)) (contains_here (suspended t (waits.Touch cell)) u.chains) refl

    trap_first : Waits u t rest cell pc seen chain fs m owner → Safe m v0 (CellStore thread words.Trap (trap_word pc 0))
    trap_first b = trap_safe m v0 (suspended t (waits.Touch cell)) (trap_word pc 0) (contains_here (suspended t (waits.Touch cell)) u.chains) b.below refl

    standing_then : Waits u t rest cell pc seen chain fs m owner → Safe m v1 (CellStore thread words.Standing 2)
    unfolding view_after
    standing_then b = standing_safe m v1 (record (suspended t (waits.Touch cell)) { trap = Some (trap_word pc 0) }) 2 (omega arith) x1_in b.below refl refl (pc, b.at, refl)

    put_then : Waits u t rest cell pc seen chain fs m owner → Walked u t rest cell pc seen chain fs m → Safe m v2 (SlotPut (slots.Cell chain.cell) chain (cargo_of v2 x2 fs 0))
    unfolding view_after
    put_then b w = put_safe m v2 x2 chain fs 2 w.has (subst (λ (c : ℕ). c < u.cells) (sym (at_cell w)) b.below) w.walks refl refl (pc, b.at, refl)

    hand3 : Waits u t rest cell pc seen chain fs m owner → Walked u t rest cell pc seen chain fs m → v3.hand ≡ waiter_in chain.cell chain.wait ∷ []
    unfolding view_after
    hand3 b w = put_hand v2 chain.cell chain (cargo_of v2 x2 fs 0) (subst IsWaiting w.has.wait tt) b.empty

    link_then : Waits u t rest cell pc seen chain fs m owner → Walked u t rest cell pc seen chain fs m → Safe m v3 (CellStore chain.cell words.Next seen)
    unfolding view_after
    link_then b w = link_safe m v3 chain.cell seen (subst (λ (c : ℕ). c < u.cells) (sym (at_cell w)) b.below) b.few (put_home v2 chain (cargo_of v2 x2 fs 0))
        (waiter_in chain.cell chain.wait, subst (λ (xs : List Waiter). Contains xs (waiter_in chain.cell chain.wait)) (sym (hand3 b w)) (contains_here (waiter_in chain.cell chain.wait) []), refl, refl)

    abbrev linked_waiter : Waiter
    linked_waiter = record { cell = chain.cell; wait = Some chain.wait; next = Some seen; leads = false }

    hand4 : Waits u t rest cell pc seen chain fs m owner → Walked u t rest cell pc seen chain fs m → Contains v4.hand linked_waiter
    hand4 b w = link_stored v3 chain.cell seen (waiter_in chain.cell chain.wait) (subst (λ (xs : List Waiter). Contains xs (waiter_in chain.cell chain.wait)) (sym (hand3 b w)) (contains_here (waiter_in chain.cell chain.wait) [])) refl

    home4 : HasChain v4 chain.cell → ⊥
    unfolding view_after
    home4 = put_home v2 chain (cargo_of v2 x2 fs 0)

    park_then : Waits u t rest cell pc seen chain fs m owner → Walked u t rest cell pc seen chain fs m → Safe m v4 (CellChange cell seen (chain.cell + 1))
    unfolding view_after
    park_then b w = park_safe m v4 cell seen chain.cell b.cell_below (inl (owner, b.owned, b.future)) b.other home4
        (linked_waiter, hand4 b w, refl, (refl, ap (λ k. Some k) (sym w.has.wait)))

    link_one : (n : ℕ) (x : Waiter) (c : ℕ) → x.cell ≡ c → linked c n (x ∷ []) ≡ record x { next = Some n } ∷ []
    link_one n x c e = ap (λ (b : Bool). cond b (record x { next = Some n }) x ∷ []) (eq-eqb x.cell c e)

    hand_is : Waits u t rest cell pc seen chain fs m owner → Walked u t rest cell pc seen chain fs m → v4.hand ≡ linked_waiter ∷ []
    unfolding view_after
    hand_is b w = ap (linked chain.cell seen) (hand3 b w) ∙ link_one seen (waiter_in chain.cell chain.wait) chain.cell refl

    with_one : (x y : Carried) (c n : ℕ) → x.known.note.cell ≡ c → y ≡ record x { standing = Some n } → with_standing c n (x ∷ []) ≡ y ∷ []
    with_one x y c n e s = ap (λ (b : Bool). cond b (record x { standing = Some n }) x ∷ []) (eq-eqb x.known.note.cell c e) ∙ ap (λ (z : Carried). z ∷ []) (sym s)

    without_chain_one : (x : Carried) (c : ℕ) → x.known.note.cell ≡ c → without_chain c (x ∷ []) ≡ []
    without_chain_one x c e = ap (λ (b : Bool). cond (not b) (x ∷ []) []) (eq-eqb x.known.note.cell c e)

    -- the turn is empty again
    chains_two : Waits u t rest cell pc seen chain fs m owner → v2.chains ≡ x2 ∷ []
    unfolding view_after
    chains_two b =
        ap (λ (xs : List Carried). with_standing thread 2 (with_trap thread (trap_word pc 0) (suspended t (waits.Touch cell) ∷ xs))) b.no_chains
        ∙ ap (λ (k : Bool). with_standing thread 2 (cond k (record (suspended t (waits.Touch cell)) { trap = Some (trap_word pc 0) }) (suspended t (waits.Touch cell)) ∷ [])) (eq-eqb thread thread refl)
        ∙ with_one (record (suspended t (waits.Touch cell)) { trap = Some (trap_word pc 0) }) x2 thread 2 refl refl

    chains_four : Waits u t rest cell pc seen chain fs m owner → Walked u t rest cell pc seen chain fs m → v4.chains ≡ []
    unfolding view_after
    chains_four b w = ap (without_chain chain.cell) (chains_two b) ∙ without_chain_one x2 chain.cell (sym (at_cell w))

    share_four : v4.share ≡ u.share
    unfolding view_after
    share_four = let e : u.share - 0 ≡ u.share = omega arith in e

    free_unit : Waits u t rest cell pc seen chain fs m owner → Walked u t rest cell pc seen chain fs m → taken_share v4 < v4.share
    unfolding view_after
    free_unit b w =
        let e : taken_share v4 ≡ some_thread rest + 0 = ap (λ (xs : List Carried). some_thread rest + length xs) (chains_four b w) in
        let l = b.covers in
        let s : v4.share ≡ u.share = share_four in
        omega (arith, e, l, s)

    -- it is parked: the hand and the turn are empty, and the unit ahead is taken back
    abbrev parked : View
    parked = wait_parked u t rest cell pc seen chain fs

    small : Waits u t rest cell pc seen chain fs m owner → Walked u t rest cell pc seen chain fs m → chain.cell + 1 ≢ full_word
    small b w e = let l = b.below in let k = b.no_more in let c = at_cell w in let no : ⊥ = omega (arith, l, k, c, e) in no

    parked_empty : Waits u t rest cell pc seen chain fs m owner → Walked u t rest cell pc seen chain fs m → parked.hand ≡ []
    unfolding view_after
    parked_empty b w = parked_hand v4 cell seen chain.cell linked_waiter b.takes (small b w) (hand_is b w) refl

    -- it is found full meanwhile: the waiter becomes ready with the unit ahead
    abbrev found : View
    found = wait_again u t rest cell pc seen chain fs

    kind_four : Waits u t rest cell pc seen chain fs m owner → kind_seen cell v4 ≡ Some false
    unfolding view_after
    kind_four b = b.kind

    below_four : Waits u t rest cell pc seen chain fs m owner → Walked u t rest cell pc seen chain fs m → chain.cell < v4.cells
    unfolding view_after
    below_four b w = subst (λ (c : ℕ). c < u.cells) (sym (at_cell w)) b.below

    threads_four : v4.threads ≡ rest
    unfolding view_after
    threads_four = refl

    ready_then : Waits u t rest cell pc seen chain fs m owner → Walked u t rest cell pc seen chain fs m → Safe m found (CellStore chain.cell words.Standing 3)
    ready_then b w =
        let differs : full_word ≢ seen = λ e. b.other (sym e) in
        let more = again_more v4 cell seen (chain.cell + 1) full_word differs in
        let hand : found.hand ≡ linked_waiter ∷ [] = more.0 ∙ hand_is b w in
        let chains : found.chains ≡ [] = more.1 ∙ chains_four b w in
        let taken : taken_share found ≡ some_thread rest + 0 = ap (λ (ts : List Known). some_thread ts + length found.chains) (more.3 ∙ threads_four) ∙ ap (λ (xs : List Carried). some_thread rest + length xs) chains in
        let share : found.share ≡ u.share = more.2 ∙ share_four in
        let l = b.covers in
        ready_safe m found chain.cell (waits.Touch cell) (subst (λ (k : ℕ). chain.cell < k) (sym more.4) (below_four b w))
        (linked_waiter, subst (λ (xs : List Waiter). Contains xs linked_waiter) (sym hand) (contains_here linked_waiter []), refl, (refl, ap (λ k. Some k) (sym w.has.wait)))
        (subst (λ (v : View). Contains v.full cell) (sym (again_is v4 cell seen (chain.cell + 1) full_word differs)) (seen_full v4 cell full_word (kind_four b) refl))
        (λ h. contains_none h.0 (subst (λ (xs : List Carried). Contains xs h.0) chains h.1))
        (omega (arith, taken, share, l))
        (inr (ap (without_waiter chain.cell) hand ∙ ap (λ (k : Bool). cond (not k) (linked_waiter ∷ []) []) (eq-eqb chain.cell chain.cell refl)))

    -- the unit ahead is taken back behind a park
    down_then : Waits u t rest cell pc seen chain fs m owner → Walked u t rest cell pc seen chain fs m → taken_share parked < parked.share → Safe m parked (ActiveAdd false)
    down_then b w covers = down_safe m parked covers (inr (parked_empty b w))

    pub wait_steps : Waits u t rest cell pc seen chain fs m owner → Walked u t rest cell pc seen chain fs m → WaitSteps u t rest cell pc seen chain fs m
    wait_steps b w = record {
      traps = trap_first b;
      stands = standing_then b;
      puts = put_then b w;
      links = link_then b w;
      parks = park_then b w;
      empty = parked_empty b w;
      lowers = down_then b w;
      readies = ready_then b w;
    }
