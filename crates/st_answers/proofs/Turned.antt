-- A worker in its next phase over the view after its step. Read turned, fits_turned (it fits that view, where its bag and threads do), runs_fits (its thread goes on) and words_held.
use Rattle.std.proofs.Common.{◌≡◌, ◌≢◌, ⊎_elim, ℕ, ◌^◌, ◌<◌, ◌≤◌, false, List, [], ◌∷◌, ◌++◌, Option, Some, None, refl, sym, ap, ◌∙◌, subst, arith}
use Rattle.std.specs.List.{Contains}
use Rattle.st_base.specs.declared.chain.Frame.{Frame}
use Rattle.st_base.specs.declared.chain.Note.{Note}
use Rattle.st_base.specs.declared.image.Image.{Image}
use Rattle.st_base.specs.declared.limits.Limits.{Limits}
use Rattle.st_base.specs.declared.reg.Reg.TheVariants as registers
use Rattle.st_words.specs.declared.view.Known.{Known}
use Rattle.st_words.specs.declared.view.View.{View}
use Rattle.st_words.specs.Steps.{kept, some_thread}
use Rattle.st_model.specs.declared.program.Program.{Program}
use Rattle.st_model.specs.Memory.{Data}
use Rattle.st_seats.specs.Placing.{AreOnce}
use Rattle.st_step.specs.Moves.{written}
use Rattle.st_step.specs.Runs.{AreWords}
use Rattle.st_step.proofs.Writes.{length-written, lo-written, hi-written, zero-written, values-written}
use Rattle.st_chain.specs.Taking.{notes_of}
use Rattle.st_chain.specs.Walk.{number_or, word_in}
use Rattle.st_framed.proofs.Stacks.{limit_within}
use Rattle.st_run.specs.Behind.{IsBehind}
use Rattle.st_phases.specs.declared.automaton.Automaton.{Automaton}
use Rattle.st_phases.specs.declared.phase.Phase.{Phase}
use Rattle.st_phases.specs.declared.phase.Phase.TheVariants as phases
use Rattle.st_phases.specs.Automaton.{with_phase, with_ready}
use Rattle.st_phases.specs.Polling.{RunsOn}
use Rattle.st_fits.specs.Bags.{HasBag, units}
use Rattle.st_fits.specs.Fits.{ByPhase, FitsIn, Holds, is_taking, most_items, taken_of}
use Rattle.st_fits.specs.Threads.{HasNone, Polls, Rests, ends_of}
use Rattle.st_kept.specs.Keeping.{SameNumbers}
use Rattle.st_kept.proofs.Keeping.{same_for, same_holds}
use Rattle.st_kept.proofs.Going.{goes_running}

-- in another phase, with other ready numbers, and the stop word read so many turns ago
abbrev pub turned : Phase → List ℕ → ℕ → Automaton → Automaton
turned phase numbers since x = record (with_phase phase (with_ready numbers x)) { since = since }

-- the ready numbers are those of the view
pub record IsReadyIn (numbers : List ℕ) (v : View) : Type 0 where
  pub once : AreOnce numbers
  pub ready : (c : ℕ) → Contains numbers c → Contains v.ready c
  pub all_ready : (c : ℕ) → Contains v.ready c → Contains numbers c

pub ready_same : (numbers : List ℕ) (u v : View) → v.ready ≡ u.ready → IsReadyIn numbers u → IsReadyIn numbers v
ready_same numbers u v same is = record {
  once = is.once;
  ready = λ c at. subst (λ (rs : List ℕ). Contains rs c) (sym same) (is.ready c at);
  all_ready = λ c at. is.all_ready c (subst (λ (rs : List ℕ). Contains rs c) same at);
}

-- it begins as many items as it may
abbrev pub MakesMost : Phase → Type 0
MakesMost phase = (n : ℕ) → most_items phase n ≡ n

-- and takes no thread out
abbrev pub IsCalm : Phase → Type 0
IsCalm phase = (is_taking phase ≡ false) × MakesMost phase

pub words_held : (held : List (Option ℕ)) → ((q n : ℕ) → kept held q ≡ Some n → n < 2 ^ 64) → AreWords (word_in held)
words_held held few q = by_word (kept held q) (few q)
  where
    by_word : (h : Option ℕ) → ((n : ℕ) → h ≡ Some n → n < 2 ^ 64) → number_or h < 2 ^ 64
    by_word None small = omega arith
    by_word (Some n) small = small n refl

-- ---- threads

-- a worker without a thread has none, and one with a thread polls
pub none_rests : (p : Program) (d : Data) (x : Automaton) (u : View) (others : List Frame) → u.threads ≡ [] → Rests p d x u others → HasNone x u others
none_rests p d x u others none h = ⊎_elim (λ k. k) (λ polls. absurd (some_none polls.top polls.below (sym polls.is ∙ none))) h
  where
    some_none : (t : Known) (ts : List Known) → t ∷ ts ≡ [] → ⊥
    some_none t ts e = let no : ⊥ = cc in no

pub polls_rests : (p : Program) (d : Data) (x : Automaton) (u : View) (others : List Frame) → u.threads ≢ [] → Rests p d x u others → Polls p d x u others
polls_rests p d x u others some h = ⊎_elim (λ none. absurd (some none.is)) (λ polls. polls) h

pub no_notes : (ts : List Known) → notes_of ts ≡ [] → ts ≡ []
no_notes [] e = refl
no_notes (t ∷ ts) e = absurd (some_note (notes_of ts) t.note e)
  where
    some_note : (ns : List Note) (n : Note) → ns ++ n ∷ [] ≡ [] → ⊥
    some_note [] n e' = let no : ⊥ = cc in no
    some_note (m ∷ ms) n e' = let no : ⊥ = cc in no

pub some_notes : (ts : List Known) (n : Note) (ns : List Note) → notes_of ts ≡ n ∷ ns → ts ≢ []
some_notes ts n ns e none = let same : [] ≡ n ∷ ns = ap notes_of (sym none) ∙ e in let no : ⊥ = cc in no

pub thread_one : (ts : List Known) → ts ≢ [] → some_thread ts ≡ 1
thread_one [] some = absurd (some refl)
thread_one (t ∷ ts) some = refl

pub thread_few : (ts : List Known) → some_thread ts ≤ 1
thread_few [] = omega arith
thread_few (t ∷ ts) = omega arith

-- ---- it fits

module _ (p : Program) (d : Data) (limits : Limits) (image : Image) (input : List ℕ) where
  -- what a step leaves of the view
  pub record Leaves (u v : View) : Type 0 where
    pub same : SameNumbers u v
    pub exported : v.exported ≡ u.exported
    pub threads : v.threads ≡ u.threads
    pub asked : v.asked ≡ u.asked

  pub fits_turned : (x : Automaton) (phase : Phase) (numbers : List ℕ) (since : ℕ) (u v : View) → FitsIn p d limits image input x u → IsCalm x.phase → MakesMost phase → Leaves u v → IsReadyIn (taken_of phase ++ numbers) v → ByPhase p d limits phase (turned phase numbers since x) v
      → FitsIn p d limits image input (turned phase numbers since x) v
  fits_turned x phase numbers since u v fits was calm leaves ready by = record {
    is_for = same_for p d limits image input x (turned phase numbers since x) fits.is_for (record { number = refl; code = refl; length_is = refl; steps = refl; cells = refl; room = refl; ready_room = refl; lo = refl; hi = refl; low = refl; high = refl });
    holds = same_holds limits x (turned phase numbers since x) u v fits.holds leaves.same leaves.exported
        (record { number = refl; workers = refl; cells = refl; items = refl; frame_bytes = refl; exported = refl; last = refl; machine = refl; most = λ n. calm n ∙ sym (was.1 n); opened = refl; taking = λ none. was.0 })
        (record { notes = fits.holds.notes ∙ ap notes_of (sym leaves.threads); ready_once = ready.once; ready = ready.ready; all_ready = ready.all_ready; asked = leaves.asked ∙ fits.holds.asked }) refl;
    by = by;
  }

  -- no number is out of the ready ones
  pub ready_of : (x : Automaton) (u : View) → Holds limits x u → taken_of x.phase ≡ [] → IsReadyIn x.ready.numbers u
  ready_of x u holds none =
      let e : taken_of x.phase ++ x.ready.numbers ≡ x.ready.numbers = ap (λ (ns : List ℕ). ns ++ x.ready.numbers) none in
      record {
        once = subst AreOnce e holds.ready_once;
        ready = λ c is. holds.ready c (subst (λ (ns : List ℕ). Contains ns c) (sym e) is);
        all_ready = λ c is. subst (λ (ns : List ℕ). Contains ns c) e (holds.all_ready c is);
      }

  -- in other words
  pub fits_as : (y z : Automaton) (v w : View) → y ≡ z → v ≡ w → FitsIn p d limits image input z w → FitsIn p d limits image input y v
  fits_as y z v w here there fits = subst (λ k. FitsIn p d limits image input k v) (sym here) (subst (λ k. FitsIn p d limits image input z k) (sym there) fits)

  -- ---- its thread goes on

  ran_fits : (x : Automaton) (limit : ℕ) (v : View) → x.phase ≡ phases.Polling → limit < 2 ^ 64 → FitsIn p d limits image input x v → (bag : HasBag (units 1) v) → ByPhase p d limits phases.Running (record x { machine = written x.machine registers.Gp limit; phase = phases.Running }) v
      → FitsIn p d limits image input (record x { machine = written x.machine registers.Gp limit; phase = phases.Running }) v
  ran_fits x limit v is less fits bag by =
      let y : Automaton = record x { machine = written x.machine registers.Gp limit; phase = phases.Running } in
      let h = fits.holds in
      let none : taken_of x.phase ≡ [] = ap taken_of is in
      let r = ready_of x v h none in
      record {
        is_for = same_for p d limits image input x y fits.is_for
            (record { number = refl; code = refl; length_is = refl; steps = refl; cells = refl; room = refl; ready_room = refl; lo = refl; hi = refl; low = lo-written x.machine registers.Gp limit; high = hi-written x.machine registers.Gp limit });
        holds = record {
          number = h.number;
          below = h.below;
          workers = h.workers;
          few_workers = h.few_workers;
          cells = h.cells;
          few_cells = h.few_cells;
          each = h.each;
          words = h.words;
          notes = h.notes;
          items = h.items;
          frame_bytes = h.frame_bytes;
          few_items = subst (λ (φ : Phase). x.items ≤ most_items φ limits.steps) is h.few_items;
          few_bytes = h.few_bytes;
          ready_once = r.once;
          ready = r.ready;
          all_ready = r.all_ready;
          asked = h.asked;
          asked_other = h.asked_other;
          exported = h.exported;
          all_exported = h.all_exported;
          last = h.last;
          not_open = λ none. h.not_open (ap is_taking is);
          registers = record { count = length-written x.machine registers.Gp limit ∙ h.registers.count; origin = zero-written x.machine registers.Gp limit ∙ h.registers.origin };
          values = values-written x.machine registers.Gp limit h.values less;
        };
        by = by;
      }

  pub runs_fits : (x y : Automaton) (v : View) → x.phase ≡ phases.Polling → IsBehind p d v → FitsIn p d limits image input x v → Polls p d x v [] → HasBag (units 1) v → RunsOn x y → FitsIn p d limits image input y v
  runs_fits x y v is behind fits polls bag runs =
      let stack = polls.lies.framed.stack in
      let within = limit_within x.stack (ends_of x.machine) runs.limit stack runs.is_limit in
      let high = stack.high in
      let goes = goes_running p d x y v fits.is_for.code.accepted fits.is_for.size behind polls runs in
      fits_as y (record x { machine = written x.machine registers.Gp runs.limit; phase = phases.Running }) v v runs.same refl
      (ran_fits x runs.limit v is (omega (arith, within, high)) fits bag (subst (λ (z : Automaton). ByPhase p d limits phases.Running z v) runs.same (goes, bag)))
