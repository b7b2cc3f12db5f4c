-- Names and cells through a run: what NamesStand says after a turn, from what it said before. Read first_names (the start), after_fork,
-- after_end, after_counter, after_add and same_older (one for each kind of turn), and value_there and count_there (what a name's cell holds).
-- The notes are in Notes, names that grow in Growing.
use Rattle.std.proofs.Common.{◌≡◌, ℕ, zero, suc, ◌+◌, ◌-◌, List, [], ◌∷◌, ◌++◌, length, Option, Some, None, slice_get, slice_set, refl, sym, ap, ◌∙◌, subst, arith}
use Rattle.std.proofs.lemmas.Option.{same_Some}
use Rattle.st_base.specs.declared.reg.Reg.{Reg}
use Rattle.st_base.specs.declared.thread.Activation.{Activation}
use Rattle.st_base.specs.declared.thread.Held.{Held}
use Rattle.st_base.specs.declared.thread.Held.TheVariants.{Future, Counter}
use Rattle.st_model.specs.declared.ordinary.Ended.{Ended}
use Rattle.st_model.specs.declared.ordinary.Rest.{Rest}
use Rattle.st_model.specs.declared.ordinary.Tally.{Tally}
use Rattle.st_model.specs.Ends.{IsOrdered}
use Rattle.st_model.specs.Ordinary.{value_of, counted, count_of}
use Rattle.st_plain.specs.declared.cells.Cell.{Cell}
use Rattle.st_plain.specs.declared.cells.Cell.TheVariants.{Future as FutureCell, Counter as CounterCell}
use Rattle.st_plain.specs.Threads.{CounterCame, NameCame, AreLastForks, NamesStand}
pub use Rattle.st_plain.proofs.Rests.{forked_rest, ended_rest, counter_rest, added_rest, first_rest, forked_gives, ended_gives, counter_gives, added_gives, started_gives}
use Rattle.st_plain.proofs.Fitting.{fit_there, future_fits, counter_fits, all_long, Onward, all_onward, counted_onward, names_drawn, cell_changed, fits_same, onward_same, onward_fork, onward_end, fits_end, onward_counter, fits_counter, made_above, not_made, counted_more, onward_add, fits_add, counted_up_onward}
pub use Rattle.st_plain.proofs.Notes.{first_notes, notes_after_fork, notes_after_end, notes_after_counter, notes_same, path_of_notes}
use Rattle.st_plain.proofs.Came.{came_own, came_next, none_next}
use Rattle.st_plain.proofs.Values.{value_none, value_new, count_none, count_made, count_up}

-- ---- what a name's cell holds

pub fits_length : (names : List Held) (cells : List Cell) (rest : Rest) → NamesStand names cells rest → length names ≡ length cells
fits_length names cells rest ns = all_long rest names cells ns.fits

pub value_there : (names : List Held) (cells : List Cell) (rest : Rest) (n : ℕ) (path : List ℕ) → NamesStand names cells rest → slice_get names n ≡ Some (Future path)
    → (v : Option ℕ) × (slice_get cells n ≡ Some (FutureCell v)) × (v ≡ value_of rest.ended path)
value_there names cells rest n path ns e =
    let there = fit_there rest names cells n (Future path) ns.fits e in
    let fits = future_fits rest path there.0 there.2 in
    (fits.0, there.1 ∙ ap (λ (c : Cell). Some c) fits.1, fits.2)

pub count_there : (names : List Held) (cells : List Cell) (rest : Rest) (n : ℕ) (maker : List ℕ) (number : ℕ) → NamesStand names cells rest → slice_get names n ≡ Some (Counter maker number)
    → (count : ℕ) × (slice_get cells n ≡ Some (CounterCell count)) × (count ≡ count_of rest.counts maker number)
count_there names cells rest n maker number ns e =
    let there = fit_there rest names cells n (Counter maker number) ns.fits e in
    let fits = counter_fits rest maker number there.0 there.2 in
    (fits.0, there.1 ∙ ap (λ (c : Cell). Some c) fits.1, fits.2)

-- ---- the rest that each turn leaves

older_stand : (names : List Held) (cells : List Cell) (rest : Rest) (older : List Activation) (out : List ℕ) → NamesStand names cells rest → NamesStand names cells (record rest { older = older; out = out })
older_stand names cells rest older out ns =
    let next : Rest = record rest { older = older; out = out } in
    record {
      root = ns.root;
      came = λ n x e. onward_same rest older out x (ns.came n x e);
      distinct = ns.distinct;
      ordered = record { linked = ns.ordered.linked; before = ns.ordered.before; distinct = ns.ordered.distinct };
      last_forks = ns.last_forks;
      counted = counted_onward rest next rest.counts (onward_same rest older out) ns.counted;
      fits = all_onward rest next names cells (λ n x c any e. fits_same rest next refl refl x c) ns.fits;
    }

forked_stand : (names : List Held) (cells : List Cell) (rest : Rest) (older : List Activation) (handle : Reg) → NamesStand names cells rest → IsOrdered (forked_rest rest older handle)
    → NamesStand (names ++ Future (rest.thread.path ++ rest.thread.forks ∷ []) ∷ []) (cells ++ FutureCell None ∷ []) (forked_rest rest older handle)
forked_stand names cells rest older handle ns ordered =
    let next : Rest = forked_rest rest older handle in
    let child : List ℕ = rest.thread.path ++ rest.thread.forks ∷ [] in
    names_drawn rest next names cells (Future child) (FutureCell None) ns (onward_fork rest older handle) (came_next rest.thread.path rest.thread.forks) (came_own child 0) ordered
    (omega arith, ap (λ k. rest.thread.path ++ k ∷ []) (let e : rest.thread.forks ≡ rest.thread.forks + 1 - 1 = omega arith in e), ns.last_forks)
    (counted_onward rest next rest.counts (onward_fork rest older handle) ns.counted)
    (λ n x c any e. fits_same rest next refl refl x c)
    (sym (value_none rest.ended child (none_next rest.ended rest.thread.path rest.thread.forks ns.ordered.before)))

ended_stand : (names : List Held) (cells : List Cell) (rest : Rest) (older : List Activation) (parent : Tally) (parents : List Tally) (value k : ℕ) → NamesStand names cells rest → rest.parents ≡ parent ∷ parents
    → slice_get names k ≡ Some (Future rest.thread.path) → IsOrdered (ended_rest rest older parent parents value)
    → NamesStand names (slice_set cells k (FutureCell (Some value))) (ended_rest rest older parent parents value)
ended_stand names cells rest older parent parents value k ns is at ordered =
    let next : Rest = ended_rest rest older parent parents value in
    let last : Ended = record { path = rest.thread.path; value = value } in
    let last_forks : AreLastForks rest.thread.path (parent ∷ parents) = subst (λ ts. AreLastForks rest.thread.path ts) is ns.last_forks in
    let onward : Onward rest next = onward_end rest older parent parents value is last_forks in
    cell_changed rest next names cells k (Future rest.thread.path) (FutureCell (Some value)) ns onward at ordered last_forks.2
    (counted_onward rest next rest.counts onward ns.counted)
    (λ n x c other e. fits_end rest older parent parents value x c (λ same. other (ns.distinct n k (Future rest.thread.path) (e ∙ ap (λ (y : Held). Some y) same) at)))
    (sym (value_new rest.ended last ordered.distinct))

counter_stands : (names : List Held) (cells : List Cell) (rest : Rest) (older : List Activation) → NamesStand names cells rest
    → NamesStand (names ++ Counter rest.thread.path rest.thread.counters ∷ []) (cells ++ CounterCell 0 ∷ []) (counter_rest rest older)
counter_stands names cells rest older ns =
    let next : Rest = counter_rest rest older in
    let maker : List ℕ = rest.thread.path in
    let number : ℕ = rest.thread.counters in
    let new : CounterCame maker number next = (came_own maker rest.thread.forks, ((λ same. omega arith), made_above maker number maker rest.parents ns.last_forks (omega arith))) in
    names_drawn rest next names cells (Counter maker number) (CounterCell 0) ns (onward_counter rest older) (λ came. let less = came.1.0 refl in omega arith) new
    (record { linked = ns.ordered.linked; before = ns.ordered.before; distinct = ns.ordered.distinct }) ns.last_forks
    (counted_more next rest.counts (record { maker = maker; number = number; count = 0 }) (counted_onward rest next rest.counts (onward_counter rest older) ns.counted) new)
    (λ n x c any e. fits_counter rest older x c)
    (sym (count_made rest.counts maker maker number number ∙ count_none rest.counts maker number (not_made rest rest.counts ns.counted)))

added_stands : (names : List Held) (cells : List Cell) (rest : Rest) (older : List Activation) (maker : List ℕ) (number k count : ℕ) → NamesStand names cells rest → slice_get names k ≡ Some (Counter maker number)
    → slice_get cells k ≡ Some (CounterCell count) → NamesStand names (slice_set cells k (CounterCell (counted count))) (added_rest rest older maker number)
added_stands names cells rest older maker number k count ns at cell =
    let next : Rest = added_rest rest older maker number in
    let there = count_there names cells rest k maker number ns at in
    let is : count ≡ there.0 = let e = there.1 in cc in
    cell_changed rest next names cells k (Counter maker number) (CounterCell (counted count)) ns (onward_add rest older maker number) at
    (record { linked = ns.ordered.linked; before = ns.ordered.before; distinct = ns.ordered.distinct }) ns.last_forks
    (counted_up_onward next rest.counts maker number (counted_onward rest next rest.counts (onward_add rest older maker number) ns.counted) (onward_add rest older maker number (Counter maker number) (ns.came k _ at)))
    (λ n x c other e. fits_add rest older maker number x c (λ same. other (ns.distinct n k (Counter maker number) (e ∙ ap (λ (y : Held). Some y) same) at)))
    (ap counted (is ∙ there.2) ∙ sym (count_up rest.counts maker number))

-- ---- the turns

-- the older activations and the printed bytes have no part in it
pub same_older : (names : List Held) (cells : List Cell) (rest next : Rest) (older : List Activation) (out : List ℕ) → NamesStand names cells rest → next ≡ record rest { older = older; out = out } → NamesStand names cells next
same_older names cells rest next older out ns is = subst (λ r. NamesStand names cells r) (sym is) (older_stand names cells rest older out ns)

-- a fork; that the next state is ordered is what step_ordered says of st_model's step, here and at an end
pub after_fork : (names : List Held) (cells : List Cell) (rest next : Rest) (handle : Reg) → NamesStand names cells rest → next ≡ forked_rest rest next.older handle → IsOrdered next
    → NamesStand (names ++ Future (rest.thread.path ++ rest.thread.forks ∷ []) ∷ []) (cells ++ FutureCell None ∷ []) next
after_fork names cells rest next handle ns is ordered =
    subst (λ r. NamesStand (names ++ Future (rest.thread.path ++ rest.thread.forks ∷ []) ∷ []) (cells ++ FutureCell None ∷ []) r) (sym is)
    (forked_stand names cells rest next.older handle ns (subst IsOrdered is ordered))

-- a thread's end, in whose cell k its value then is
pub after_end : (names : List Held) (cells : List Cell) (rest next : Rest) (parent : Tally) (parents : List Tally) (value k : ℕ) → NamesStand names cells rest → rest.parents ≡ parent ∷ parents
    → next ≡ ended_rest rest next.older parent parents value → IsOrdered next → slice_get names k ≡ Some (Future rest.thread.path) → NamesStand names (slice_set cells k (FutureCell (Some value))) next
after_end names cells rest next parent parents value k ns under is ordered at =
    subst (λ r. NamesStand names (slice_set cells k (FutureCell (Some value))) r) (sym is)
    (ended_stand names cells rest next.older parent parents value k ns under at (subst IsOrdered is ordered))

-- a new counter
pub after_counter : (names : List Held) (cells : List Cell) (rest next : Rest) → NamesStand names cells rest → next ≡ counter_rest rest next.older
    → NamesStand (names ++ Counter rest.thread.path rest.thread.counters ∷ []) (cells ++ CounterCell 0 ∷ []) next
after_counter names cells rest next ns is =
    subst (λ r. NamesStand (names ++ Counter rest.thread.path rest.thread.counters ∷ []) (cells ++ CounterCell 0 ∷ []) r) (sym is) (counter_stands names cells rest next.older ns)

-- an addition to the counter of the cell k
pub after_add : (names : List Held) (cells : List Cell) (rest next : Rest) (maker : List ℕ) (number k count : ℕ) → NamesStand names cells rest → next ≡ added_rest rest next.older maker number
    → slice_get names k ≡ Some (Counter maker number) → slice_get cells k ≡ Some (CounterCell count) → NamesStand names (slice_set cells k (CounterCell (counted count))) next
after_add names cells rest next maker number k count ns is at cell =
    subst (λ r. NamesStand names (slice_set cells k (CounterCell (counted count))) r) (sym is) (added_stands names cells rest next.older maker number k count ns at cell)

-- ---- the start

-- the first name's place
first_place : (n : ℕ) (name : Held) → slice_get (Future [] ∷ []) n ≡ Some name → n ≡ 0
first_place zero name e = refl
first_place (suc n) name e = let no : ⊥ = cc in absurd no

first_came : (n : ℕ) (name : Held) → slice_get (Future [] ∷ []) n ≡ Some name → NameCame first_rest name
first_came zero name e = subst (λ x. NameCame first_rest x) (same_Some (Future []) name e) tt
first_came (suc n) name e = let no : ⊥ = cc in absurd no

pub first_names : NamesStand (Future [] ∷ []) (FutureCell None ∷ []) first_rest
first_names =
    record {
      root = refl;
      came = λ n name e. first_came n name e;
      distinct = λ m n name at_m at_n. first_place m name at_m ∙ sym (first_place n name at_n);
      ordered = record { linked = tt; before = tt; distinct = tt };
      last_forks = refl;
      counted = tt;
      fits = (refl, tt);
    }
