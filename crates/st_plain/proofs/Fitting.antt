-- Names against their cells. Read fit_there (what a name's cell holds), Onward (what a name stood for stands still), names_drawn and cell_changed
-- (one more name, or one changed cell), and for each kind of turn what it keeps.
use Rattle.std.proofs.Common.{◌≡◌, ◌≢◌, ℕ, zero, suc, ◌+◌, ◌-◌, ◌<◌, ◌≤◌, List, [], ◌∷◌, ◌++◌, length, Bool, true, false, cond, Option, Some, slice_get, slice_set, refl, sym, ap, ◌∙◌, subst, inl, inr, arith, length-append}
use Rattle.std.proofs.lemmas.Option.{same_Some}
use Rattle.st_base.specs.declared.reg.Reg.{Reg}
use Rattle.st_base.specs.declared.thread.Activation.{Activation}
use Rattle.st_base.specs.declared.thread.Held.{Held}
use Rattle.st_base.specs.declared.thread.Held.TheVariants.{Number, Future, Counter}
use Rattle.st_model.specs.declared.ordinary.Rest.{Rest}
use Rattle.st_model.specs.declared.ordinary.Tally.{Tally}
use Rattle.st_model.specs.declared.ordinary.Tallied.{Tallied}
use Rattle.st_model.specs.Ends.{IsOrdered}
use Rattle.st_model.specs.Ordinary.{value_of, counted, is_counter, count_of, counted_up}
use Rattle.st_plain.specs.declared.cells.Cell.{Cell}
use Rattle.st_plain.specs.declared.cells.Cell.TheVariants.{Future as FutureCell, Counter as CounterCell}
use Rattle.st_plain.specs.Threads.{Came, HasMade, CounterCame, NameCame, CellFits, AllFit, AllCounted, AreLastForks, NamesStand}
use Rattle.st_plain.proofs.Rests.{forked_rest, ended_rest, counter_rest, added_rest}
use Rattle.st_items.proofs.Words.{get_front}
use Rattle.st_plain.proofs.Growing.{get_cases}
use Rattle.st_plain.proofs.Came.{came_next, came_child, came_parent}
use Rattle.st_plain.proofs.Values.{value_kept, NotAmong, count_made, count_other}

-- ---- what a name's cell holds

module _ (rest : Rest) where
  pub fit_there : (names : List Held) (cells : List Cell) (n : ℕ) (name : Held) → AllFit rest names cells → slice_get names n ≡ Some name → (cell : Cell) × (slice_get cells n ≡ Some cell) × CellFits rest name cell
  fit_there [] [] n name fits e = let no : ⊥ = cc in absurd no
  fit_there [] (c ∷ cells) n name fits e = absurd fits
  fit_there (x ∷ names) [] n name fits e = absurd fits
  fit_there (x ∷ names) (c ∷ cells) zero name fits e = (c, refl, subst (λ y. CellFits rest y c) (same_Some x name e) fits.0)
  fit_there (x ∷ names) (c ∷ cells) (suc n) name fits e = fit_there names cells n name fits.1 e

  pub future_fits : (path : List ℕ) (cell : Cell) → CellFits rest (Future path) cell → (value : Option ℕ) × (cell ≡ FutureCell value) × (value ≡ value_of rest.ended path)
  future_fits path (FutureCell value) fits = (value, refl, fits)
  future_fits path (CounterCell count) fits = absurd fits

  pub counter_fits : (maker : List ℕ) (number : ℕ) (cell : Cell) → CellFits rest (Counter maker number) cell → (count : ℕ) × (cell ≡ CounterCell count) × (count ≡ count_of rest.counts maker number)
  counter_fits maker number (FutureCell value) fits = absurd fits
  counter_fits maker number (CounterCell count) fits = (count, refl, fits)

  pub all_long : (names : List Held) (cells : List Cell) → AllFit rest names cells → length names ≡ length cells
  all_long [] [] fits = refl
  all_long [] (c ∷ cells) fits = absurd fits
  all_long (x ∷ names) [] fits = absurd fits
  all_long (x ∷ names) (c ∷ cells) fits = ap suc (all_long names cells fits.1)

  all_more : (names : List Held) (cells : List Cell) (name : Held) (cell : Cell) → AllFit rest names cells → CellFits rest name cell → AllFit rest (names ++ name ∷ []) (cells ++ cell ∷ [])
  all_more [] [] name cell fits new = (new, tt)
  all_more [] (c ∷ cells) name cell fits new = absurd fits
  all_more (x ∷ names) [] name cell fits new = absurd fits
  all_more (x ∷ names) (c ∷ cells) name cell fits new = (fits.0, all_more names cells name cell fits.1 new)

-- ---- from one rest to another

-- what a name stood for before stands there still
abbrev pub Onward : Rest → Rest → Type 0
Onward rest next = (name : Held) → NameCame rest name → NameCame next name

-- at each of these places the name fits its cell still
abbrev pub FitsOnward : List Held → Rest → Rest → (ℕ → Type 0) → Type 0
FitsOnward names rest next IsPlace = (n : ℕ) (name : Held) (cell : Cell) → IsPlace n → slice_get names n ≡ Some name → CellFits rest name cell → CellFits next name cell

module _ (rest next : Rest) where
  pub all_onward : (names : List Held) (cells : List Cell) → FitsOnward names rest next (λ n. Unit {0}) → AllFit rest names cells → AllFit next names cells
  all_onward [] [] onward fits = tt
  all_onward [] (c ∷ cells) onward fits = fits
  all_onward (x ∷ names) [] onward fits = fits
  all_onward (x ∷ names) (c ∷ cells) onward fits = (onward 0 x c tt refl fits.0, all_onward names cells (λ n. onward (suc n)) fits.1)

  all_changed : (names : List Held) (cells : List Cell) (k : ℕ) (name : Held) (cell : Cell) → slice_get names k ≡ Some name → CellFits next name cell → FitsOnward names rest next (λ n. n ≢ k)
      → AllFit rest names cells → AllFit next names (slice_set cells k cell)
  all_changed [] cells k name cell at new onward fits = let no : ⊥ = cc in absurd no
  all_changed (x ∷ names) [] k name cell at new onward fits = absurd fits
  all_changed (x ∷ names) (c ∷ cells) zero name cell at new onward fits =
      (subst (λ y. CellFits next y cell) (sym (same_Some x name at)) new, all_onward names cells (λ n y d other. onward (suc n) y d (λ (e : suc n ≡ zero). omega arith)) fits.1)
  all_changed (x ∷ names) (c ∷ cells) (suc k) name cell at new onward fits = (
    onward 0 x c (λ (e : zero ≡ suc k). omega arith) refl fits.0,
    all_changed names cells k name cell at new (λ n y d other. onward (suc n) y d (λ (e : suc n ≡ suc k). other (omega arith))) fits.1,
  )

  pub counted_onward : (cs : List Tallied) → Onward rest next → AllCounted rest cs → AllCounted next cs
  counted_onward [] onward h = tt
  counted_onward (c ∷ cs) onward h = (onward (Counter c.maker c.number) h.0, counted_onward cs onward h.1)

  -- a name is drawn
  pub names_drawn : (names : List Held) (cells : List Cell) (name : Held) (cell : Cell) → NamesStand names cells rest → Onward rest next → (NameCame rest name → ⊥) → NameCame next name → IsOrdered next
      → AreLastForks next.thread.path next.parents → AllCounted next next.counts → FitsOnward names rest next (λ n. Unit {0}) → CellFits next name cell → NamesStand (names ++ name ∷ []) (cells ++ cell ∷ []) next
  names_drawn names cells name cell ns onward fresh came ordered last_forks counted fits_on fits =
      record {
        root = get_front names (name ∷ []) 0 (Future []) ns.root;
        came =
            λ n x e.
            elim (get_cases names name x n e) [ inl old ↦ onward x (ns.came n x old) | inr new ↦ subst (λ y. NameCame next y) (sym new.1) came ];
        distinct =
            λ m n x at_m at_n.
            elim (get_cases names name x m at_m) [
              | inl old_m ↦
                  elim (get_cases names name x n at_n) [
                    | inl old_n ↦ ns.distinct m n x old_m old_n
                    | inr new_n ↦ absurd (fresh (subst (λ y. NameCame rest y) new_n.1 (ns.came m x old_m)))
                  ]
              | inr new_m ↦
                  elim (get_cases names name x n at_n) [
                    | inl old_n ↦ absurd (fresh (subst (λ y. NameCame rest y) new_m.1 (ns.came n x old_n)))
                    | inr new_n ↦ new_m.0 ∙ sym new_n.0
                  ]
            ];
        ordered = ordered;
        last_forks = last_forks;
        counted = counted;
        fits = all_more next names cells name cell (all_onward names cells fits_on ns.fits) fits;
      }

  -- the cell of a name is changed
  pub cell_changed : (names : List Held) (cells : List Cell) (k : ℕ) (name : Held) (cell : Cell) → NamesStand names cells rest → Onward rest next → slice_get names k ≡ Some name → IsOrdered next
      → AreLastForks next.thread.path next.parents → AllCounted next next.counts → FitsOnward names rest next (λ n. n ≢ k) → CellFits next name cell → NamesStand names (slice_set cells k cell) next
  cell_changed names cells k name cell ns onward at ordered last_forks counted fits_on fits =
      record {
        root = ns.root;
        came = λ n x e. onward x (ns.came n x e);
        distinct = ns.distinct;
        ordered = ordered;
        last_forks = last_forks;
        counted = counted;
        fits = all_changed names cells k name cell at fits fits_on ns.fits;
      }

-- ---- what each turn keeps

pub fits_same : (rest next : Rest) → next.ended ≡ rest.ended → next.counts ≡ rest.counts → (name : Held) (cell : Cell) → CellFits rest name cell → CellFits next name cell
fits_same rest next ended counts (Number k) cell fits = absurd fits
fits_same rest next ended counts (Future path) (FutureCell value) fits = fits ∙ ap (λ es. value_of es path) (sym ended)
fits_same rest next ended counts (Future path) (CounterCell count) fits = absurd fits
fits_same rest next ended counts (Counter maker number) (FutureCell value) fits = absurd fits
fits_same rest next ended counts (Counter maker number) (CounterCell count) fits = fits ∙ ap (λ cs. count_of cs maker number) (sym counts)

pub onward_same : (rest : Rest) (older : List Activation) (out : List ℕ) → Onward rest (record rest { older = older; out = out })
onward_same rest older out (Number k) h = absurd h
onward_same rest older out (Future path) h = h
onward_same rest older out (Counter maker number) h = h

pub onward_fork : (rest : Rest) (older : List Activation) (handle : Reg) → Onward rest (forked_rest rest older handle)
onward_fork rest older handle (Number k) h = absurd h
onward_fork rest older handle (Future path) h = came_child path rest.thread.path rest.thread.forks h
onward_fork rest older handle (Counter maker number) h =
    (came_child maker rest.thread.path rest.thread.forks h.0, ((λ same. absurd (came_next rest.thread.path rest.thread.forks (subst (λ m. Came m rest.thread.path rest.thread.forks) same h.0))), h.1))

came_back : (rest : Rest) (parent : Tally) (parents : List Tally) (path : List ℕ) → AreLastForks rest.thread.path (parent ∷ parents) → Came path rest.thread.path rest.thread.forks → Came path parent.path parent.forks
came_back rest parent parents path last_forks came =
    let some_fork : 0 < parent.forks = last_forks.0 in
    came_parent path parent.path (parent.forks - 1) rest.thread.forks parent.forks (omega arith) (subst (λ q. Came path q rest.thread.forks) last_forks.1 came)

pub onward_end : (rest : Rest) (older : List Activation) (parent : Tally) (parents : List Tally) (value : ℕ) → rest.parents ≡ parent ∷ parents → AreLastForks rest.thread.path (parent ∷ parents)
    → Onward rest (ended_rest rest older parent parents value)
onward_end rest older parent parents value is last_forks (Number k) h = absurd h
onward_end rest older parent parents value is last_forks (Future path) h = came_back rest parent parents path last_forks h
onward_end rest older parent parents value is last_forks (Counter maker number) h = (came_back rest parent parents maker last_forks h.0, subst (λ ts. HasMade maker number ts) is h.1.1)

pub fits_end : (rest : Rest) (older : List Activation) (parent : Tally) (parents : List Tally) (value : ℕ) (name : Held) (cell : Cell) → name ≢ Future rest.thread.path → CellFits rest name cell
    → CellFits (ended_rest rest older parent parents value) name cell
fits_end rest older parent parents value (Number k) cell other fits = absurd fits
fits_end rest older parent parents value (Future path) (FutureCell v) other fits =
    fits ∙ sym (value_kept rest.ended (record { path = rest.thread.path; value = value }) path (λ (same : rest.thread.path ≡ path). other (ap (λ (q : List ℕ). Future q) (sym same))))
fits_end rest older parent parents value (Future path) (CounterCell count) other fits = absurd fits
fits_end rest older parent parents value (Counter maker number) (FutureCell v) other fits = absurd fits
fits_end rest older parent parents value (Counter maker number) (CounterCell count) other fits = fits

pub onward_counter : (rest : Rest) (older : List Activation) → Onward rest (counter_rest rest older)
onward_counter rest older (Number k) h = absurd h
onward_counter rest older (Future path) h = h
onward_counter rest older (Counter maker number) h = (h.0, ((λ same. let less : number < rest.thread.counters = h.1.0 same in omega arith), h.1.1))

pub fits_counter : (rest : Rest) (older : List Activation) (name : Held) (cell : Cell) → CellFits rest name cell → CellFits (counter_rest rest older) name cell
fits_counter rest older (Number k) cell fits = absurd fits
fits_counter rest older (Future path) (FutureCell v) fits = fits
fits_counter rest older (Future path) (CounterCell count) fits = absurd fits
fits_counter rest older (Counter maker number) (FutureCell v) fits = absurd fits
fits_counter rest older (Counter maker number) (CounterCell count) fits = fits ∙ sym (count_made rest.counts rest.thread.path maker rest.thread.counters number)

-- a thread's path is longer than those of the threads below, which so have made no counter of its own
pub made_above : (maker : List ℕ) (number : ℕ) (path : List ℕ) (parents : List Tally) → AreLastForks path parents → length path ≤ length maker → HasMade maker number parents
made_above maker number path [] last_forks long = tt
made_above maker number path (t ∷ ts) last_forks long =
    let shorter : length path ≡ length t.path + 1 = ap length last_forks.1 ∙ length-append t.path ((t.forks - 1) ∷ []) in
    ((λ same. let equal : length maker ≡ length t.path = ap length same in absurd (omega arith)), made_above maker number t.path ts last_forks.2 (omega arith))

pub not_made : (rest : Rest) (cs : List Tallied) → AllCounted rest cs → NotAmong cs rest.thread.path rest.thread.counters
not_made rest [] h = tt
not_made rest (c ∷ cs) h = ((λ same number. let less : c.number < rest.thread.counters = h.0.1.0 same in omega arith), not_made rest cs h.1)

pub counted_more : (rest : Rest) (cs : List Tallied) (c : Tallied) → AllCounted rest cs → CounterCame c.maker c.number rest → AllCounted rest (cs ++ c ∷ [])
counted_more rest [] c h came = (came, tt)
counted_more rest (x ∷ cs) c h came = (h.0, counted_more rest cs c h.1 came)

pub onward_add : (rest : Rest) (older : List Activation) (maker : List ℕ) (number : ℕ) → Onward rest (added_rest rest older maker number)
onward_add rest older maker number (Number k) h = absurd h
onward_add rest older maker number (Future path) h = h
onward_add rest older maker number (Counter maker' k) h = h

pub fits_add : (rest : Rest) (older : List Activation) (maker : List ℕ) (number : ℕ) (name : Held) (cell : Cell) → name ≢ Counter maker number → CellFits rest name cell → CellFits (added_rest rest older maker number) name cell
fits_add rest older maker number (Number k) cell other fits = absurd fits
fits_add rest older maker number (Future path) (FutureCell v) other fits = fits
fits_add rest older maker number (Future path) (CounterCell count) other fits = absurd fits
fits_add rest older maker number (Counter maker' k) (FutureCell v) other fits = absurd fits
fits_add rest older maker number (Counter maker' k) (CounterCell count) other fits =
    fits ∙ sym (count_other rest.counts maker maker' number k (λ (same : maker ≡ maker') (equal : number ≡ k). other (let e : Counter maker' k ≡ Counter maker number = cc in e)))

either_counted : (b : Bool) (rest : Rest) (xs ys : List Tallied) → AllCounted rest xs → AllCounted rest ys → AllCounted rest (cond b xs ys)
either_counted true rest xs ys h i = h
either_counted false rest xs ys h i = i

pub counted_up_onward : (rest : Rest) (cs : List Tallied) (maker : List ℕ) (number : ℕ) → AllCounted rest cs → CounterCame maker number rest → AllCounted rest (counted_up cs maker number)
counted_up_onward rest [] maker number h came = (came, tt)
counted_up_onward rest (c ∷ cs) maker number h came =
    either_counted (is_counter c maker number) rest (record { maker = maker; number = number; count = counted c.count } ∷ cs) (c ∷ counted_up cs maker number) (came, h.1)
    (h.0, counted_up_onward rest cs maker number h.1 came)
