-- Changes of a State word: a waiter is parked, a counter counts, or a future becomes full, whose thread goes out then: exchanged.
use Rattle.std.proofs.Common.{◌≡◌, ◌≢◌, inl, inr, ⊎_elim, ℕ, ◌+◌, ◌-◌, ◌^◌, ◌≤◌, ◌<◌, Bool, true, false, cond, not, ◌&&◌, nat_lt, List, ◌∷◌, refl, sym, ap, ◌∙◌, subst, arith, ◌==◌, eq-eqb, ne_eqb}
use Rattle.std.specs.List.{Contains}
use mathlib.Core.Logic.{dite}
use native.Mathlib.Decide.{ℕ_discrete}
use Rattle.st_base.specs.declared.chain.Waiting.{Waiting}
use Rattle.st_base.specs.declared.chain.Waiting.TheVariants as waits
use Rattle.st_words.specs.declared.view.Known.{Known}
use Rattle.st_words.specs.declared.view.Waiter.{Waiter}
use Rattle.st_words.specs.declared.view.View.{View}
use Rattle.st_words.specs.Encodings.{count_in, head_in, counter_word, count_after, full_word}
use Rattle.st_words.specs.Steps.{CellChange, IsFuture, MayChange}
use Rattle.st_words.specs.Careful.{Meaning, Changes, InHand}
use Rattle.st_words.specs.Views.{Progress, with_progress, changed_future, changed_counter, changed_by, cell_changed, counts_cell, owner_seen}
use Rattle.st_words.proofs.Lists.{contains_here, contains_later, contains_case, same_true}
use Rattle.st_world.specs.Functions.{put}
use Rattle.st_world.specs.World.{World, put_if, seen}
use Rattle.st_world.proofs.Functions.{put_here, put_other}
use Rattle.st_spots.specs.Listing.{Spot, Nowhere, Held, Lists, counters}
use Rattle.st_lists.specs.Laws.{KnowsKind}
use Rattle.st_lists.specs.Going.{Passes}
use Rattle.st_seats.specs.Placing.{Place, Gone, Named, OnStack, InTurn, Places, AreOnce, cells_of}
use Rattle.st_places.specs.Steps.{TopEnds, GoesOut}
use Rattle.st_seats.proofs.Seats.{Of, Placed, Holds, at_place, stack_there}
use Rattle.st_seats.proofs.Changed.{SameParts, StaysOver, NumbersStay, One, thread_same, one_kept, one_mail, apart, cell_stays, same_kept, calm}
use Rattle.st_places.proofs.ChangedViews.{same_state, same_counter}
use Rattle.st_places.proofs.ChangedCalm.{passes}

-- ---- counts

count_more : (n : ℕ) (b : Bool) → n ≤ cond b (n + 1) n
count_more n true = omega arith
count_more n false = omega arith

-- the word keeps its count, and the other part fits
count_of : (k h : ℕ) → h < 2 ^ 17 → count_in (counter_word k h) ≡ k
count_of k h l = omega (arith, l)

module _ (x : World) (l : Lists x) (P : Places x l) (w : ℕ) (pr : Progress) where
  abbrev u : View
  u = x.view w

  -- a number in the hand is of a cell
  hand_below : (c : ℕ) (Q : Waiter → Type 0) → InHand u c Q → c < x.cells
  hand_below c Q h =
      let e : l.spot c ≡ Held w = subst (λ (d : ℕ). l.spot d ≡ Held w) h.2 ((l.listing.hands w).entries h.0 h.1).held in
      l.below c (λ z. let no : ⊥ = cc in no)

  -- a future that may be changed isn't full
  not_full : (c old new : ℕ) → IsFuture u c → KnowsKind (x.owner c) u c → MayChange u c old new → old ≢ full_word
  not_full c old new f k (inl p) = p.1
  not_full c old new f k (inr (inl p)) = p.1
  not_full c old new f k (inr (inr (inl p))) = let a = k.0 f in let b = k.1 p.0 in let no : ⊥ = cc in absurd no
  not_full c old new f k (inr (inr (inr p))) = let a = k.0 f in let b = k.1 p.0 in let no : ⊥ = cc in absurd no

  module _ (c new : ℕ) where
    abbrev stated : World
    stated = record x { state = put x.state c new }

    still_over : (counters x.owner c ≡ false → x.state c ≢ full_word) → (counters x.owner c ≡ true → count_in (x.state c) ≤ count_in new) → StaysOver x stated
    still_over a b (waits.Touch e) h = dite (ℕ_discrete e c)
        (λ (s : e ≡ c). absurd (a (ap (counters x.owner) (sym s) ∙ h.0) (ap x.state (sym s) ∙ h.1)))
        (λ (n : e ≢ c). (h.0, put_other x.state c new e n ∙ h.1))
    still_over a b (waits.Join e least) h = dite (ℕ_discrete e c)
        (λ (s : e ≡ c).
        let now : put x.state c new e ≡ new = ap (put x.state c new) s ∙ put_here x.state c new in
        let more = b (ap (counters x.owner) (sym s) ∙ h.0) in
        let was : least ≤ count_in (x.state c) = subst (λ (k : ℕ). least ≤ count_in (x.state k)) s h.1 in
        let far : least ≤ count_in new = omega (arith, more, was) in
        (h.0, subst (λ (k : ℕ). least ≤ count_in k) (sym now) far))
        (λ (n : e ≢ c). (h.0, subst (λ (k : ℕ). least ≤ count_in k) (sym (put_other x.state c new e n)) h.1))
    still_over a b k h = h

    -- each thread stays where it is
    stated_stays : (v : View) (spot' : ℕ → Spot) (wait' : ℕ → Waiting) → StaysOver x stated → (counters x.owner c ≡ false → new ≢ full_word) → SameParts u v → cells_of v.threads ≡ cells_of u.threads → NumbersStay P.place l.spot l.wait spot' wait' → Placed (seen w v stated) spot' wait'
    stated_stays v spot' wait' over open_still same threads g = same_kept x l.spot l.wait P w x.owner (put x.state c new) v spot' wait' over (λ d t. record {
      below = t.below;
      named = t.named;
      future = t.future;
      unfilled = dite (ℕ_discrete d c)
          (λ (s : d ≡ c) z. open_still (ap (counters x.owner) (sym s) ∙ t.future) (sym (ap (put x.state c new) s ∙ put_here x.state c new) ∙ z))
          (λ (n : d ≢ c) z. t.unfilled (sym (put_other x.state c new d n) ∙ z));
    }) same threads g

    -- a future is full: the top thread has ended
    module _ (spot' : ℕ → Spot) (wait' : ℕ → Waiting) (old : ℕ) where
      abbrev gone : ℕ → Place
      gone = put P.place c Gone

      abbrev filled_view : View
      filled_view = with_progress pr (changed_future c old new true u)

      fill_kept : StaysOver x stated → counters x.owner c ≡ false → new ≡ full_word → TopEnds u c filled_view → NumbersStay P.place l.spot l.wait spot' wait' → Placed (seen w filled_view stated) spot' wait'
      fill_kept over kind full top g =
          let was : P.place c ≡ OnStack w = stack_there x l.spot l.wait P w c (top.0, subst (λ (ts : List Known). Contains ts top.0) (sym top.1) (contains_here top.0 pr.threads), top.2) in
          let h = at_place x l.spot l.wait P c (OnStack w) was in
          let V = P.views w in
          let once : AreOnce (cells_of (top.0 ∷ pr.threads)) = subst (λ (ts : List Known). AreOnce (cells_of ts)) top.1 V.threads_once in
          let none : spot' c ≡ Nowhere = ⊎_elim (λ (e : spot' c ≡ l.spot c). e ∙ h.1) (λ q. let e = q.0 in let no : ⊥ = cc in absurd no) (g.0 c) in
          let O : One x l.spot l.wait P w stated filled_view spot' wait' gone c = record {
            others = λ d n. cell_stays x l.spot l.wait P w x.owner (put x.state c new) filled_view spot' wait' gone d (put_other P.place c Gone d n) g (λ t. thread_same x l.spot l.wait P w stated filled_view spot' wait' gone d refl refl (put_other x.state c new d n) t) (λ m. m)
                (λ m. ⊎_elim (λ (s : top.0.note.cell ≡ d). absurd (n (sym s ∙ top.2))) (λ q. q) (contains_case d top.0.note.cell (cells_of pr.threads) (subst (λ (ts : List Known). Contains (cells_of ts) d) top.1 m))) (λ e. e);
            mine = λ k o. sym (subst (Of k) was o);
            here = subst (Holds (seen w filled_view stated) spot' wait' gone c) (sym (put_here P.place c Gone)) (h.0, none);
            turn = λ z m. inl (m, apart P.place c z.known.note.cell (OnStack w) (InTurn w) was (V.turn z m).there (λ q. let no : ⊥ = cc in no));
            stack = λ d m. inl (subst (λ (ts : List Known). Contains (cells_of ts) d) (sym top.1) (contains_later d top.0.note.cell (cells_of pr.threads) m), λ z. once.0 (subst (Contains (cells_of pr.threads)) (z ∙ sym top.2) m));
            child = λ z e. inl (e, apart P.place c z.cell (OnStack w) (Named w) was (V.child z e).there (λ q. let no : ⊥ = cc in no));
            chains_once = V.chains_once;
            threads_once = once.1;
            filled = λ d m. ⊎_elim (λ (s : c ≡ d). inr (ap (counters x.owner) (sym s) ∙ kind, ap (put x.state c new) (sym s) ∙ (put_here x.state c new ∙ full))) (λ q. inl q) (contains_case d c u.filled m);
          } in
          one_kept x l.spot l.wait P w stated filled_view spot' wait' gone refl over c O (λ k. one_mail x l.spot l.wait P w stated filled_view spot' wait' gone refl over c O (λ j z. let no : ⊥ = cc in no) k refl refl)

  -- ---- a compare and exchange

  module _ (spot' : ℕ → Spot) (wait' : ℕ → Waiting) (g : Passes l.spot l.wait spot' wait' w u) where
    abbrev Out : Bool → ℕ → Type 0
    Out b c = GoesOut b u c (with_progress pr u)

    abbrev After : View → ℕ → ℕ → Type 0
    After v c new = Placed (seen w (with_progress pr v) (stated c new)) spot' wait'

    abbrev By : Bool → ℕ → ℕ → Type 0
    By b c new = Out ((true && not b) && (new == full_word)) c → After (changed_by b c (x.state c) new u) c new

    counted : (c new : ℕ) → counters x.owner c ≡ true → count_in (x.state c) ≤ count_in new → By true c new
    counted c new kind more threads = stated_stays c new (with_progress pr (changed_counter c (x.state c) new (head_in new == 0) u)) spot' wait'
        (still_over c new (λ z. let no : ⊥ = cc in absurd no) (λ z. more)) (λ z. let no : ⊥ = cc in absurd no) (same_counter c (x.state c) new (head_in new == 0) u) threads (passes x l P w spot' wait' g)

    parked : (c new : ℕ) → counters x.owner c ≡ false → x.state c ≢ full_word → new ≢ full_word → By false c new
    parked c new kind a b = subst (λ (f : Bool). Out f c → After (changed_future c (x.state c) new f u) c new) (sym (ne_eqb new full_word b)) (λ threads.
        stated_stays c new (with_progress pr (changed_future c (x.state c) new false u)) spot' wait' (still_over c new (λ z. a) (λ z. let no : ⊥ = cc in absurd no)) (λ z. b) (refl, refl, refl) threads (passes x l P w spot' wait' g))

    filled_now : (c new : ℕ) → counters x.owner c ≡ false → x.state c ≢ full_word → new ≡ full_word → By false c new
    filled_now c new kind a b = subst (λ (f : Bool). Out f c → After (changed_future c (x.state c) new f u) c new) (sym (eq-eqb new full_word b)) (λ top.
        fill_kept c new spot' wait' (x.state c) (still_over c new (λ z. a) (λ z. let no : ⊥ = cc in absurd no)) kind b top (passes x l P w spot' wait' g))

    changed_now : (m : Meaning) (c new : ℕ) → MayChange u c (x.state c) new → KnowsKind (x.owner c) u c → Changes m u (CellChange c (x.state c) new) → By (counts_cell (owner_seen c u.owners)) c new
    changed_now m c new may k (inl (f, inl p)) =
        let few = l.few in
        let below = hand_below p.0 _ p.3 in
        let is = p.1 in
        subst (λ (b : Bool). By b c new) (sym (k.2 ∙ k.0 f)) (parked c new (k.0 f) (not_full c (x.state c) new f k may) (λ z. let no : ⊥ = omega (arith, few, below, is, z) in no))
    changed_now m c new may k (inl (f, inr p)) = subst (λ (b : Bool). By b c new) (sym (k.2 ∙ k.0 f)) (filled_now c new (k.0 f) (not_full c (x.state c) new f k may) p.0)
    changed_now m c new may k (inr (f, inl p)) =
        let few = l.few in
        let below = hand_below p.0 _ p.5 in
        let fits : p.0 + 1 < 2 ^ 17 = omega (arith, few, below) in
        let e : count_in new ≡ count_in (x.state c) = ap count_in p.2 ∙ count_of (count_in (x.state c)) (p.0 + 1) fits in
        subst (λ (b : Bool). By b c new) (sym (k.2 ∙ k.1 f)) (counted c new (k.1 f) (omega (arith, e)))
    changed_now m c new may k (inr (f, inr p)) =
        let n : ℕ = count_in (x.state c) in
        let e : count_in new ≡ count_after n = ap count_in p.1 ∙ count_of (count_after n) 0 (omega arith) in
        subst (λ (b : Bool). By b c new) (sym (k.2 ∙ k.1 f)) (counted c new (k.1 f) (subst (λ (j : ℕ). n ≤ j) (sym e) (count_more n (nat_lt n (2 ^ 47 - 1)))))

    -- whatever it finds
    pub exchanged : (m : Meaning) (c old new n : ℕ) → n ≡ x.state c → MayChange u c old new → KnowsKind (x.owner c) u c → Changes m u (CellChange c old new) → Out (((n == old) && not (counts_cell (owner_seen c u.owners))) && (new == full_word)) c →
        Placed (seen w (with_progress pr (cell_changed (n == old) c old new n u)) (record x { state = put_if (n == old) x.state c new })) spot' wait'
    exchanged m c old new n f may k t out = by (n == old) refl out
      where
        by : (b : Bool) → (n == old) ≡ b → Out ((b && not (counts_cell (owner_seen c u.owners))) && (new == full_word)) c → Placed (seen w (with_progress pr (cell_changed b c old new n u)) (record x { state = put_if b x.state c new })) spot' wait'
        by false e threads = calm x l.spot l.wait P w (with_progress pr (cell_changed false c old new n u)) spot' wait' (same_state c n u) threads (passes x l P w spot' wait' g)
        by true e out =
            let is : x.state c ≡ old = sym f ∙ same_true n old e in
            subst (λ (o : ℕ). MayChange u c o new → Changes m u (CellChange c o new) → After (changed_by (counts_cell (owner_seen c u.owners)) c o new u) c new) is (λ may t. changed_now m c new may k t out) may t
