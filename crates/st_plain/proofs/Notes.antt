-- Notes through a run: what NotesStand says after a turn. Read first_notes (the start), notes_after_fork, notes_after_end, notes_after_counter
-- and notes_same (each other turn), and path_of_notes (the running thread's path).
use Rattle.std.proofs.Common.{◌≡◌, ℕ, ◌+◌, ◌-◌, ◌≤◌, List, [], ◌∷◌, ◌++◌, length, refl, sym, ap, ◌∙◌, subst, subst₂, arith, length-append}
use Rattle.st_base.specs.declared.reg.Reg.{Reg}
use Rattle.st_base.specs.declared.reg.Reg.TheVariants.{Zero}
use Rattle.st_base.specs.declared.thread.Activation.{Activation}
use Rattle.st_base.specs.declared.thread.Held.{Held}
use Rattle.st_base.specs.declared.thread.Held.TheVariants.{Future, Counter}
use Rattle.st_model.specs.declared.ordinary.Rest.{Rest}
use Rattle.st_model.specs.declared.ordinary.Tally.{Tally}
use Rattle.st_plain.specs.declared.cells.Cell.{Cell}
use Rattle.st_plain.specs.declared.cells.Note.{Note}
use Rattle.st_plain.specs.Threads.{AreLastForks, NamesStand, NoteStands, NotesStand, path_above, path_by}
use Rattle.st_plain.proofs.Rests.{forked_rest, ended_rest, counter_rest, first_rest}
use Rattle.st_items.proofs.Words.{get_front}
use Rattle.st_plain.proofs.Growing.{get_new}

pub notes_grow : (names more : List Held) (notes : List Note) (tallies : List Tally) → NotesStand names notes tallies → NotesStand (names ++ more) notes tallies
notes_grow names more [] [] h = tt
notes_grow names more [] (t ∷ ts) h = absurd h
notes_grow names more (note ∷ notes) [] h = absurd h
notes_grow names more (note ∷ notes) (t ∷ ts) h =
    let old : NoteStands names note t = h.0 in
    let longer : length (names ++ more) ≡ length names + length more = length-append names more in (
      record {
        cell = get_front names more note.cell (Future t.path) old.cell;
        forks = old.forks;
        counters = old.counters;
        handle = old.handle;
        few_forks = let few : note.forks ≤ length names = old.few_forks in omega arith;
        few_counters = let few : note.counters ≤ length names = old.few_counters in omega arith;
      },
      notes_grow names more notes ts h.1,
    )

pub first_notes : NotesStand (Future [] ∷ []) (record { cell = 0; forks = 0; counters = 0; handle = Zero } ∷ []) (first_rest.thread ∷ first_rest.parents)
first_notes = (record { cell = refl; forks = refl; counters = refl; handle = refl; few_forks = omega arith; few_counters = omega arith }, tt)

forked_notes : (names : List Held) (note : Note) (notes : List Note) (rest : Rest) (older : List Activation) (handle : Reg) → NotesStand names (note ∷ notes) (rest.thread ∷ rest.parents)
    → NotesStand (names ++ Future (rest.thread.path ++ rest.thread.forks ∷ []) ∷ [])
    (record { cell = length names; forks = 0; counters = 0; handle = handle } ∷ record note { forks = note.forks + 1 } ∷ notes)
    ((forked_rest rest older handle).thread ∷ (forked_rest rest older handle).parents)
forked_notes names note notes rest older handle h =
    let name : Held = Future (rest.thread.path ++ rest.thread.forks ∷ []) in
    let old : NoteStands names note rest.thread = h.0 in
    let longer : length (names ++ name ∷ []) ≡ length names + 1 = length-append names (name ∷ []) in (
      record { cell = get_new names name; forks = refl; counters = refl; handle = refl; few_forks = omega arith; few_counters = omega arith },
      (
        record {
          cell = get_front names (name ∷ []) note.cell (Future rest.thread.path) old.cell;
          forks = ap (λ k. k + 1) old.forks;
          counters = old.counters;
          handle = old.handle;
          few_forks = let few : note.forks ≤ length names = old.few_forks in omega arith;
          few_counters = let few : note.counters ≤ length names = old.few_counters in omega arith;
        },
        notes_grow names (name ∷ []) notes rest.parents h.1,
      ),
    )

counter_notes : (names : List Held) (note : Note) (notes : List Note) (rest : Rest) (older : List Activation) → NotesStand names (note ∷ notes) (rest.thread ∷ rest.parents)
    → NotesStand (names ++ Counter rest.thread.path rest.thread.counters ∷ []) (record note { counters = note.counters + 1 } ∷ notes) ((counter_rest rest older).thread ∷ (counter_rest rest older).parents)
counter_notes names note notes rest older h =
    let name : Held = Counter rest.thread.path rest.thread.counters in
    let old : NoteStands names note rest.thread = h.0 in
    let longer : length (names ++ name ∷ []) ≡ length names + 1 = length-append names (name ∷ []) in (
      record {
        cell = get_front names (name ∷ []) note.cell (Future rest.thread.path) old.cell;
        forks = old.forks;
        counters = ap (λ k. k + 1) old.counters;
        handle = old.handle;
        few_forks = let few : note.forks ≤ length names = old.few_forks in omega arith;
        few_counters = let few : note.counters ≤ length names = old.few_counters in omega arith;
      },
      notes_grow names (name ∷ []) notes rest.parents h.1,
    )

-- the notes are of the threads alone
pub notes_same : (names : List Held) (notes : List Note) (rest next : Rest) → next.thread ≡ rest.thread → next.parents ≡ rest.parents → NotesStand names notes (rest.thread ∷ rest.parents)
    → NotesStand names notes (next.thread ∷ next.parents)
notes_same names notes rest next thread parents h = subst₂ (λ t ts. NotesStand names notes (t ∷ ts)) (sym thread) (sym parents) h

pub notes_after_fork : (names : List Held) (note : Note) (notes : List Note) (rest next : Rest) (handle : Reg) → NotesStand names (note ∷ notes) (rest.thread ∷ rest.parents) → next ≡ forked_rest rest next.older handle
    → NotesStand (names ++ Future (rest.thread.path ++ rest.thread.forks ∷ []) ∷ [])
    (record { cell = length names; forks = 0; counters = 0; handle = handle } ∷ record note { forks = note.forks + 1 } ∷ notes)
    (next.thread ∷ next.parents)
notes_after_fork names note notes rest next handle h is =
    notes_same (names ++ Future (rest.thread.path ++ rest.thread.forks ∷ []) ∷ [])
    (record { cell = length names; forks = 0; counters = 0; handle = handle } ∷ record note { forks = note.forks + 1 } ∷ notes) (forked_rest rest next.older handle) next (ap (λ (r : Rest). r.thread) is) (ap (λ (r : Rest). r.parents) is)
    (forked_notes names note notes rest next.older handle h)

pub notes_after_end : (names : List Held) (note : Note) (notes : List Note) (rest next : Rest) (parent : Tally) (parents : List Tally) (value : ℕ) → NotesStand names (note ∷ notes) (rest.thread ∷ rest.parents)
    → rest.parents ≡ parent ∷ parents → next ≡ ended_rest rest next.older parent parents value → NotesStand names notes (next.thread ∷ next.parents)
notes_after_end names note notes rest next parent parents value h under is =
    notes_same names notes (ended_rest rest next.older parent parents value) next (ap (λ (r : Rest). r.thread) is) (ap (λ (r : Rest). r.parents) is) (subst (λ ts. NotesStand names notes ts) under h.1)

pub notes_after_counter : (names : List Held) (note : Note) (notes : List Note) (rest next : Rest) → NotesStand names (note ∷ notes) (rest.thread ∷ rest.parents) → next ≡ counter_rest rest next.older
    → NotesStand (names ++ Counter rest.thread.path rest.thread.counters ∷ []) (record note { counters = note.counters + 1 } ∷ notes) (next.thread ∷ next.parents)
notes_after_counter names note notes rest next h is =
    notes_same (names ++ Counter rest.thread.path rest.thread.counters ∷ []) (record note { counters = note.counters + 1 } ∷ notes) (counter_rest rest next.older) next (ap (λ (r : Rest). r.thread) is) (ap (λ (r : Rest). r.parents) is)
    (counter_notes names note notes rest next.older h)

-- ---- the path of the running thread

path_of_parents : (names : List Held) (notes : List Note) (path : List ℕ) (parents : List Tally) → AreLastForks path parents → NotesStand names notes parents → path ≡ path_above notes
path_of_parents names [] path [] last_forks h = last_forks
path_of_parents names [] path (t ∷ ts) last_forks h = absurd h
path_of_parents names (note ∷ notes) path [] last_forks h = absurd h
path_of_parents names (note ∷ notes) path (t ∷ ts) last_forks h =
    let parent : t.path ≡ path_above notes = path_of_parents names notes t.path ts last_forks.2 h.1 in
    last_forks.1 ∙ ap (λ p. p ++ (t.forks - 1) ∷ []) parent ∙ ap (λ k. path_above notes ++ (k - 1) ∷ []) (sym h.0.forks)

pub path_of_notes : (names : List Held) (cells : List Cell) (notes : List Note) (rest : Rest) → NamesStand names cells rest → NotesStand names notes (rest.thread ∷ rest.parents) → rest.thread.path ≡ path_by notes
path_of_notes names cells [] rest ns h = absurd h
path_of_notes names cells (note ∷ notes) rest ns h = path_of_parents names notes rest.thread.path rest.parents ns.last_forks h.1
