-- A waiter is parked at its cell by the State word that was seen: parked_by (the view after, where that word was found), parks_again (where another was), and park_asks (no item goes with it).
use Rattle.std.proofs.Common.{Bool, None, Option, Some, ap, arith, eq-eqb, false, ne_eqb, refl, subst, sym, true, ℕ, ◌+◌, ◌-◌, ◌<◌, ◌==◌, ◌∙◌, ◌≡◌, ◌≢◌}
use Rattle.std.proofs.lemmas.Bool.{eqb-true}
use Rattle.st_base.specs.declared.chain.Waiting.{Waiting}
use Rattle.st_base.specs.declared.limits.Limits.{Limits}
use Rattle.st_base.specs.declared.thread.Held.TheVariants.{Future}
use Rattle.st_fits.specs.Bags.{IsNamed, IsOfKind}
use Rattle.st_fits.specs.Before.{after}
use Rattle.st_fits.specs.Laws.{MayAsk}
use Rattle.st_kept.proofs.Stepping.{numbers}
use Rattle.st_made.specs.Events.{Event, NoItem, change_event, counter_event, future_event, state_event}
use Rattle.st_model.specs.Memory.{Data}
use Rattle.st_model.specs.declared.program.Program.{Program}
use Rattle.st_phases.specs.Waking.{cell_of, is_over, parked_word}
use Rattle.st_run.specs.Meanings.{meaning}
use Rattle.st_wakes.proofs.Bags.{again_view, joined_view, parked_view}
use Rattle.st_wakes.proofs.Seeing.{SeesOnly, again_sees, over_by, over_seen, state_sees}
use Rattle.st_words.proofs.Hands.{hand_laws}
use Rattle.st_words.proofs.Starting.{named_kind}
use Rattle.st_words.specs.Careful.{IsOver}
use Rattle.st_words.specs.Encodings.{count_in, counter_word, full_word, head_in, is_counter}
use Rattle.st_words.specs.Laws.{TakesForCounter, TakesForFuture}
use Rattle.st_words.specs.Promises.{Promises}
use Rattle.st_words.specs.Safely.{Safe}
use Rattle.st_words.specs.Steps.{Answer, CellChange, Done, IsCounter, Looked, Number, Took}
use Rattle.st_words.specs.Tidy.{TidyNames}
use Rattle.st_words.specs.Views.{counts_cell, kind_by, kind_named, kind_seen, owner_seen, with_state_by, without_waiter}
use Rattle.st_words.specs.declared.view.View.{View}
use Rattle.st_base.specs.declared.chain.Waiting.TheVariants as waits

not_counted : (seen : Option ℕ) (named : Option Bool) → kind_by seen named ≡ Some false → counts_cell seen ≡ false
not_counted None named e = refl
not_counted (Some owner) named e = let other : is_counter owner ≡ false = cc in other

module _ (p : Program) (d : Data) (u : View) (tidy : TidyNames u) where
  for_future : (cell : ℕ) → IsNamed (waits.Touch cell) u → TakesForFuture u cell
  for_future cell named = not_counted (owner_seen cell u.owners) (kind_named cell u.names) (named_kind u (Future named.0) cell tidy named.1)

  for_counter : (cell : ℕ) → IsCounter u cell → TakesForCounter u cell
  for_counter cell is = hand_laws.counter u cell is.0 tidy.owners is.1 is.2

  head_is : (seen waiter : ℕ) → waiter < 65536 → head_in (counter_word (count_in seen) (waiter + 1)) ≡ waiter + 1
  head_is seen waiter few = omega arith

  -- it goes out of the hand
  pub record IsParked (waiter : ℕ) (v : View) : Type 0 where
    pub gone : ℕ
    pub is : gone ≡ waiter
    pub view : v ≡ record u { hand = without_waiter gone u.hand }

  pub parked_by : (wait : Waiting) (seen waiter n : ℕ) → IsNamed wait u → IsOfKind wait u → waiter < 65536 → n ≡ seen → IsParked waiter (after p d u (CellChange (cell_of wait) seen (parked_word wait waiter seen)) (Number n))
  parked_by (waits.Touch cell) seen waiter n named kind few same = record {
    gone = waiter + 1 - 1;
    is = omega arith;
    view = parked_view p d u cell seen (waiter + 1) n same (for_future cell named) (λ e. omega (arith, few, e));
  }
  parked_by (waits.Join cell least) seen waiter n named kind few same =
      let head = head_is seen waiter few in
      record {
        gone = head_in (counter_word (count_in seen) (waiter + 1)) - 1;
        is = ap (λ k. k - 1) head ∙ omega arith;
        view = joined_view p d u cell seen (counter_word (count_in seen) (waiter + 1)) n same (for_counter cell kind.1) (λ e. omega (arith, head, e));
      }
  parked_by waits.Ready seen waiter n named kind few same = absurd named
  parked_by waits.Start seen waiter n named kind few same = absurd named
  parked_by waits.Trapped seen waiter n named kind few same = absurd named

  -- another word is seen
  pub parks_again : (c old new n : ℕ) → n ≢ old → SeesOnly u (after p d u (CellChange c old new) (Number n))
  parks_again c old new n other = subst (λ (v : View). SeesOnly u v) (sym (again_view p d u c old new n other)) (again_sees u (with_state_by (kind_seen c u) c n u) (state_sees (kind_seen c u) c n u))

  pub over_again : (wait : Waiting) (old new n : ℕ) → n ≢ old → IsNamed wait u → is_over wait n ≡ true → IsOver (after p d u (CellChange (cell_of wait) old new) (Number n)) wait
  over_again wait old new n other named over =
      let e = again_view p d u (cell_of wait) old new n other in
      over_by wait (after p d u (CellChange (cell_of wait) old new) (Number n)) (with_state_by (kind_seen (cell_of wait) u) (cell_of wait) n u) (ap (λ (v : View). v.full) e) (ap (λ (v : View). v.counts) e) (over_seen wait u n tidy named over)

  -- the threads stay, whichever word is found
  pub park_threads : (wait : Waiting) (seen waiter n : ℕ) → IsNamed wait u → IsOfKind wait u → waiter < 65536 → (after p d u (CellChange (cell_of wait) seen (parked_word wait waiter seen)) (Number n)).threads ≡ u.threads
  park_threads wait seen waiter n named kind few = by_word (n == seen) refl
    where
      by_word : (b : Bool) → (n == seen) ≡ b → (after p d u (CellChange (cell_of wait) seen (parked_word wait waiter seen)) (Number n)).threads ≡ u.threads
      by_word true e = ap (λ (v : View). v.threads) (parked_by wait seen waiter n named kind few (eqb-true n seen e)).view
      by_word false e = (parks_again (cell_of wait) seen (parked_word wait waiter seen) n (λ same. let yes = eq-eqb n seen same in let no : ⊥ = cc in no)).threads

  no_event : (wait : Waiting) (seen waiter : ℕ) (v : View) → IsNamed wait u → IsOfKind wait u → waiter < 65536 → NoItem u v → (b : Bool) → change_event p d b (cell_of wait) (parked_word wait waiter seen) u v
  no_event wait seen waiter v named kind few none false = none
  no_event (waits.Touch cell) seen waiter v named kind few none true =
      subst (λ (t : Bool). state_event p d t cell (waiter + 1) u v) (sym (for_future cell named)) (subst (λ (t : Bool). future_event p d t cell u v) (sym (ne_eqb (waiter + 1) full_word (λ e. omega (arith, few, e)))) none)
  no_event (waits.Join cell least) seen waiter v named kind few none true =
      let head = head_is seen waiter few in
      subst (λ (t : Bool). state_event p d t cell (counter_word (count_in seen) (waiter + 1)) u v) (sym (for_counter cell kind.1))
      (subst (λ (t : Bool). counter_event p d t cell u v) (sym (ne_eqb (head_in (counter_word (count_in seen) (waiter + 1))) 0 (λ e. omega (arith, head, e)))) none)
  no_event waits.Ready seen waiter v named kind few none true = absurd named
  no_event waits.Start seen waiter v named kind few none true = absurd named
  no_event waits.Trapped seen waiter v named kind few none true = absurd named

  pub park_asks : (limits : Limits) (wait : Waiting) (seen waiter : ℕ) → IsNamed wait u → IsOfKind wait u → waiter < 65536 → Safe (meaning p d limits) u (CellChange (cell_of wait) seen (parked_word wait waiter seen)) → MayAsk p d limits u (CellChange (cell_of wait) seen (parked_word wait waiter seen))
  park_asks limits wait seen waiter named kind few safe = record { safe = safe; event = λ a said. by_answer a said }
    where
      by_answer : (a : Answer) → Promises u (CellChange (cell_of wait) seen (parked_word wait waiter seen)) a → Event p d u (CellChange (cell_of wait) seen (parked_word wait waiter seen)) a (after p d u (CellChange (cell_of wait) seen (parked_word wait waiter seen)) a)
      by_answer Done said = absurd said
      by_answer (Number n) said =
          let same = numbers p d u (CellChange (cell_of wait) seen (parked_word wait waiter seen)) (Number n) in
          no_event wait seen waiter (after p d u (CellChange (cell_of wait) seen (parked_word wait waiter seen)) (Number n)) named kind few (record { threads = park_threads wait seen waiter n named kind few; items = same.items; bytes = same.frame_bytes }) (n == seen)
      by_answer (Looked n cargo) said = absurd said
      by_answer (Took chain cargo) said = absurd said
