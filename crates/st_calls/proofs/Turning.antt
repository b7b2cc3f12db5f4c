-- A worker at a call goes to another phase, with another machine and other notes: goes_to. Read for_to, holds_to and fits_to (it fits the view after the step), fits_phase (its machine, notes and threads
-- stay), and item_forward (where the top thread's item is made by the worker itself, behind the step).
use Rattle.st_ahead.specs.Ahead.{is_private, or_else, seen_change}
use Rattle.st_ahead.specs.Naming.{on, exported, finished, finished_by}
use Rattle.st_base.specs.declared.chain.Frame.{Frame}
use Rattle.st_base.specs.declared.chain.Note.{Note}
use Rattle.st_base.specs.declared.image.Image.{Image}
use Rattle.st_base.specs.declared.limits.Limits.{Limits}
use Rattle.st_chain.specs.Taking.{notes_of}
use Rattle.st_fits.specs.Before.{before, come, taken_out, with_items, is_held_up, with_child}
use Rattle.st_fits.specs.Fits.{ByPhase, FitsIn, Holds, IsFor, most_items, taken_of, Fits, is_taking}
use Rattle.st_kept.proofs.Keeping.{same_for}
use Rattle.st_kept.specs.Keeping.{Untouched}
use Rattle.st_made.specs.Items.{next_move, went}
use Rattle.st_made.specs.Moves.{Made}
use Rattle.st_model.specs.Heap.{Change}
use Rattle.st_model.specs.Limits.{frame_made}
use Rattle.st_model.specs.Memory.{Data}
use Rattle.st_model.specs.declared.program.Program.{Program}
use Rattle.st_phases.specs.Automaton.{with_phase}
use Rattle.st_phases.specs.declared.automaton.Automaton.{Automaton}
use Rattle.st_phases.specs.declared.phase.Phase.TheVariants as phases
use Rattle.st_phases.specs.declared.phase.Phase.{Phase}
use Rattle.st_seats.specs.Placing.{AreOnce}
use Rattle.st_settled.proofs.Forward.{exported_none, pushed_none}
use Rattle.st_step.specs.Runs.{AreValues, HasRegisters}
use Rattle.st_step.specs.declared.state.State.{State}
use Rattle.st_words.specs.declared.view.Known.{Known}
use Rattle.st_words.specs.declared.view.View.{View}
use Rattle.std.proofs.Common.{◌≡◌, ◌≢◌, ℕ, ◌+◌, Bool, true, false, List, [], ◌∷◌, Option, Some, None, refl, sym, ap, ◌∙◌, subst, arith, ◌*◌, ◌-◌, ◌<◌, ◌≤◌, ◌++◌, length}
use Rattle.std.specs.List.{Contains}
use Rattle.std.specs.Prelude.{if◌then◌else◌}

abbrev pub goes_to : State → List Note → Phase → Automaton → Automaton
goes_to m notes φ x = record x { machine = m; threads = record x.threads { notes = notes }; phase = φ }

-- another machine of the same stack
pub record IsLike (m n : State) : Type 0 where
  pub lo : n.lo ≡ m.lo
  pub hi : n.hi ≡ m.hi
  pub registers : HasRegisters n
  pub values : AreValues n

pub same_machine : (m : State) → HasRegisters m → AreValues m → IsLike m m
same_machine m has values = record { lo = refl; hi = refl; registers = has; values = values }

-- a phase in which no number was taken out of the ready ones, and which doesn't stop
pub record IsCalm (φ : Phase) : Type 0 where
  pub none : taken_of φ ≡ []
  pub most : (n : ℕ) → most_items φ n ≡ n
  pub taking : is_taking φ ≡ false

-- beside the words and frames the step has left the ready numbers and the request
pub record StepLeaves (u v : View) : Type 0 where
  pub untouched : Untouched u v
  pub words : length v.held ≡ length u.held
  pub ready : v.ready ≡ u.ready
  pub asked : v.asked ≡ u.asked

pub leaves_self : (u : View) → StepLeaves u u
leaves_self u = record { untouched = record { number = refl; workers = refl; cells = refl; each = refl; held = refl; exported = refl; away = refl; items = refl; frame_bytes = refl; names = λ name c in'. in' }; words = refl; ready = refl; asked = refl }

module _ (p : Program) (d : Data) (limits : Limits) (image : Image) (input : List ℕ) (x : Automaton) (m : State) (notes : List Note) (φ : Phase) where
  abbrev y : Automaton
  y = goes_to m notes φ x

  pub for_to : m.lo ≡ x.machine.lo → m.hi ≡ x.machine.hi → IsFor p d limits image input x → IsFor p d limits image input y
  for_to lo hi is = same_for p d limits image input x y is (record { number = refl; code = refl; length_is = refl; steps = refl; cells = refl; room = refl; ready_room = refl; lo = refl; hi = refl; low = lo; high = hi })

  pub holds_to : (u v : View) → IsLike x.machine m → IsCalm x.phase → IsCalm φ → notes ≡ notes_of v.threads → StepLeaves u v → Holds limits x u → Holds limits y v
  holds_to u v like one two notes_are leaves holds =
      let same : taken_of φ ++ x.ready.numbers ≡ taken_of x.phase ++ x.ready.numbers = ap (λ (ns : List ℕ). ns ++ x.ready.numbers) (two.none ∙ sym one.none) in
      let numbers = leaves.untouched in
      record {
        number = holds.number ∙ sym numbers.number;
        below = subst (λ (n : ℕ). n < v.workers) (sym numbers.number) (subst (λ (n : ℕ). u.number < n) (sym numbers.workers) holds.below);
        workers = holds.workers ∙ sym numbers.workers;
        few_workers = subst (λ (n : ℕ). n ≤ 16) (sym numbers.workers) holds.few_workers;
        cells = holds.cells ∙ sym numbers.cells;
        few_cells = subst (λ (n : ℕ). n ≤ 65536) (sym numbers.cells) holds.few_cells;
        each = numbers.each ∙ holds.each;
        words = leaves.words ∙ holds.words ∙ ap (λ (n : ℕ). n * u.each) (sym numbers.workers) ∙ ap (λ (n : ℕ). v.workers * n) (sym numbers.each);
        notes = notes_are;
        items = holds.items ∙ sym numbers.items;
        frame_bytes = holds.frame_bytes ∙ sym numbers.frame_bytes;
        few_items = subst (λ (n : ℕ). x.items ≤ n) (one.most limits.steps ∙ sym (two.most limits.steps)) holds.few_items;
        few_bytes = holds.few_bytes;
        not_open = λ none. holds.not_open one.taking;
        ready_once = subst AreOnce (sym same) holds.ready_once;
        ready = λ c in'. subst (λ (ns : List ℕ). Contains ns c) (sym leaves.ready) (holds.ready c (subst (λ (ns : List ℕ). Contains ns c) same in'));
        all_ready = λ c in'. subst (λ (ns : List ℕ). Contains ns c) (sym same) (holds.all_ready c (subst (λ (ns : List ℕ). Contains ns c) leaves.ready in'));
        asked = leaves.asked ∙ holds.asked;
        asked_other = λ at is. let other = holds.asked_other at is in (subst (λ (n : ℕ). at < n) (sym numbers.workers) other.0, subst (λ (n : ℕ). at ≢ n) (sym numbers.number) other.1);
        exported = λ f in'. subst (λ (fs : List Frame). Contains fs f) (sym numbers.exported) (holds.exported f in');
        all_exported = λ f in'. holds.all_exported f (subst (λ (fs : List Frame). Contains fs f) numbers.exported in');
        last = subst (λ (n : ℕ). x.last < n) (sym numbers.workers) holds.last;
        registers = like.registers;
        values = like.values;
      }

  pub fits_to : (u v : View) → IsLike x.machine m → IsCalm x.phase → IsCalm φ → notes ≡ notes_of v.threads → StepLeaves u v → FitsIn p d limits image input x u → ByPhase p d limits φ y v → FitsIn p d limits image input y v
  fits_to u v like one two notes_are leaves fits by = record { is_for = for_to like.lo like.hi fits.is_for; holds = holds_to u v like one two notes_are leaves fits.holds; by = by }

-- in other words
pub fits_as : (p : Program) (d : Data) (limits : Limits) (image : Image) (input : List ℕ) (y z : Automaton) (v w : View) → y ≡ z → v ≡ w → FitsIn p d limits image input z w → FitsIn p d limits image input y v
fits_as p d limits image input y z v w here there fits = subst (λ k. FitsIn p d limits image input k v) (sym here) (subst (λ k. FitsIn p d limits image input z k) (sym there) fits)

-- its machine, notes and threads stay
pub fits_phase : (p : Program) (d : Data) (limits : Limits) (image : Image) (input : List ℕ) (x : Automaton) (φ : Phase) (u v : View) → IsCalm x.phase → IsCalm φ → v.threads ≡ u.threads → StepLeaves u v → FitsIn p d limits image input x u → ByPhase p d limits φ (with_phase φ x) v
    → FitsIn p d limits image input (with_phase φ x) v
fits_phase p d limits image input x φ u v one two threads leaves fits by =
    fits_to p d limits image input x x.machine x.threads.notes φ u v (same_machine x.machine fits.holds.registers fits.holds.values) one two (fits.holds.notes ∙ ap notes_of (sym threads)) leaves fits by

-- ---- the worker makes the item by itself

module _ (p : Program) (d : Data) where
  pub on_is : (v : View) (top : Known) (below : List Known) (c : Change) → v.threads ≡ top ∷ below → top.begun ≡ true → seen_change v (next_move p d top) ≡ Some c → is_private top.thread c ≡ true → frame_made p top.path top.thread ≡ 0 → on p d v ≡ record v { threads = went top c.own ∷ below }
  on_is v top below c is begun sees private none =
      let made : View = record v { threads = went top c.own ∷ below; frame_bytes = v.frame_bytes + frame_made p top.path top.thread } in
      let made_is : finished p d v v.threads ≡ Some made =
      ap (λ (ts : List Known). finished p d v ts) is ∙ ap (λ (b : Bool). if b then finished_by p d v top below (seen_change v (next_move p d top)) else None) begun ∙ ap (λ (o : Option Change). finished_by p d v top below o) sees
      ∙ ap (λ (b : Bool). if b then Some made else None) private in
      let same : v.frame_bytes + frame_made p top.path top.thread ≡ v.frame_bytes = omega (arith, none) in
      ap (λ (o : Option View). or_else p d o v (λ w. w)) made_is ∙ ap (λ (n : ℕ). record v { threads = went top c.own ∷ below; frame_bytes = n }) same

  -- a worker that polls is ahead by it
  pub polls_forward : (y : Automaton) (v w : View) → y.phase ≡ phases.Polling → v.child ≡ None → y.items ≡ v.items → ((f : Frame) → Contains y.stack.exported f → Contains w.exported f) → on p d v ≡ w → before p d y v ≡ w
  unfolding before
  polls_forward y v w phase child items are goes =
      let none : y.items - v.items ≡ 0 = omega (arith, items) in
      ap (λ φ. exported y.stack.exported (taken_out φ (with_items p d (is_held_up y φ) (y.items - (with_child p d φ (come φ v)).items) (with_child p d φ (come φ v))))) phase
      ∙ ap (λ (z : View). exported y.stack.exported (with_items p d false (y.items - z.items) z)) (pushed_none p d v child)
      ∙ ap (λ (n : ℕ). exported y.stack.exported (with_items p d false n v)) none
      ∙ ap (λ (z : View). exported y.stack.exported z) goes
      ∙ exported_none y.stack.exported w are

pub fits_forward : (p : Program) (d : Data) (limits : Limits) (image : Image) (input : List ℕ) (y : Automaton) (v w : View) → before p d y v ≡ w → Made p d v w → FitsIn p d limits image input y w → Fits p d limits image input y v
fits_forward p d limits image input y v w is made fits = record { made = subst (λ (z : View). Made p d v z) (sym is) made; fits = subst (λ (z : View). FitsIn p d limits image input y z) (sym is) fits }
