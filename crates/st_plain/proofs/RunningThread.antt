-- The notes of a run where its thread makes a child or a counter (notes_forked, notes_counted), with room for the numbers (may_make); its cell
-- (has_cell); and whether it is the root (root_is).
use Rattle.std.proofs.Common.{◌≡◌, ℕ, zero, suc, ◌+◌, ◌-◌, ◌^◌, ◌<◌, ◌==◌, false, List, [], ◌∷◌, ◌++◌, length, Some, slice_get, refl, ap, sym, ◌∙◌, subst, arith}
use Rattle.std.proofs.lemmas.Bool.{ne_eqb}
use Rattle.st_base.specs.declared.reg.Reg.{Reg}
use Rattle.st_base.specs.declared.thread.Held.{Held}
use Rattle.st_base.specs.declared.thread.Held.TheVariants.{Future, Counter}
use Rattle.st_model.specs.declared.ordinary.Rest.{Rest}
use Rattle.st_model.specs.declared.ordinary.Tally.{Tally}
use Rattle.st_model.specs.Ordinary.{is_root}
use Rattle.st_plain.specs.declared.cells.Cell.{Cell}
use Rattle.st_plain.specs.declared.cells.Note.{Note}
use Rattle.st_plain.specs.Threads.{AreLastForks, NamesStand, NotesStand, forked_notes, counted_notes, MayMake, HasCell}
use Rattle.st_plain.proofs.Naming.{fits_length, forked_rest, counter_rest, notes_after_fork, notes_after_counter}

pub within_list : {X : Type 0} (xs : List X) (n : ℕ) (x : X) → slice_get xs n ≡ Some x → n < length xs
within_list [] n x there = absurd (let never : ⊥ = cc in never)
within_list (y ∷ xs) zero x there = omega arith
within_list (y ∷ xs) (suc n) x there = let less = within_list xs n x there in omega (arith, less)

pub notes_forked : (names : List Held) (cells : List Cell) (notes : List Note) (rest next : Rest) (handle : Reg) → NamesStand names cells rest → NotesStand names notes (rest.thread ∷ rest.parents) → next ≡ forked_rest rest next.older handle
    → NotesStand (names ++ Future (rest.thread.path ++ rest.thread.forks ∷ []) ∷ []) (forked_notes (length cells) handle notes) (next.thread ∷ next.parents)
notes_forked names cells [] rest next handle stand notes_stand is = absurd notes_stand
notes_forked names cells (note ∷ notes) rest next handle stand notes_stand is =
    subst (λ (n : ℕ). NotesStand (names ++ Future (rest.thread.path ++ rest.thread.forks ∷ []) ∷ []) (forked_notes n handle (note ∷ notes)) (next.thread ∷ next.parents)) (fits_length names cells rest stand)
    (notes_after_fork names note notes rest next handle notes_stand is)

pub notes_counted : (names : List Held) (notes : List Note) (rest next : Rest) → NotesStand names notes (rest.thread ∷ rest.parents) → next ≡ counter_rest rest next.older
    → NotesStand (names ++ Counter rest.thread.path rest.thread.counters ∷ []) (counted_notes notes) (next.thread ∷ next.parents)
notes_counted names [] rest next notes_stand is = absurd notes_stand
notes_counted names (note ∷ notes) rest next notes_stand is = notes_after_counter names note notes rest next notes_stand is

pub may_make : (names : List Held) (notes : List Note) (t : Tally) (ts : List Tally) → NotesStand names notes (t ∷ ts) → length names + 1 < 2 ^ 32 → MayMake notes
may_make names [] t ts stand few = absurd stand
may_make names (note ∷ notes) t ts stand few =
    let own = stand.0 in
    let forks = own.few_forks in
    let counters = own.few_counters in
    (omega (arith, forks), omega (arith, counters))

pub has_cell : (names : List Held) (notes : List Note) (t : Tally) (ts : List Tally) → NotesStand names notes (t ∷ ts) → HasCell (length names) notes
has_cell names [] t ts stand = absurd stand
has_cell names (note ∷ notes) t ts stand = within_list names note.cell (Future t.path) stand.0.cell

longer : (path : List ℕ) (n : ℕ) → is_root (path ++ n ∷ []) ≡ false
longer [] n = refl
longer (k ∷ path) n = refl

-- the root alone has no thread below it
pub root_is : (names : List Held) (notes : List Note) (t : Tally) (parents : List Tally) → AreLastForks t.path parents → NotesStand names notes (t ∷ parents) → is_root t.path ≡ (length notes == 1)
root_is names [] t parents last_forks stand = absurd stand
root_is names (note ∷ []) t [] last_forks stand = ap is_root last_forks
root_is names (note ∷ []) t (parent ∷ parents) last_forks stand = absurd stand.1
root_is names (note ∷ other ∷ notes) t [] last_forks stand = absurd stand.1
root_is names (note ∷ other ∷ notes) t (parent ∷ parents) last_forks stand =
    ap is_root last_forks.1 ∙ longer parent.path (parent.forks - 1) ∙ sym (ne_eqb (length (note ∷ other ∷ notes)) 1 (λ e. absurd (omega (arith, e))))
