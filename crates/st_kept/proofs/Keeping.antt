-- What a worker is for and what it keeps, by what is the same of it and of its view. Read same_for, same_holds and holds_with_phase.
use Rattle.std.proofs.Common.{false, ◌≡◌, ◌≢◌, ℕ, ◌+◌, ◌*◌, ◌<◌, ◌≤◌, List, ◌++◌, refl, sym, ap, ◌∙◌, subst}
use Rattle.std.specs.List.{Contains}
use Rattle.st_base.specs.declared.chain.Frame.{Frame}
use Rattle.st_base.specs.declared.image.Image.{Image}
use Rattle.st_base.specs.declared.limits.Limits.{Limits}
use Rattle.st_words.specs.declared.view.View.{View}
use Rattle.st_model.specs.declared.program.Program.{Program}
use Rattle.st_model.specs.Memory.{Data}
use Rattle.st_items.specs.Tables.{instructions_of, begins_of}
use Rattle.st_step.specs.Runs.{HasRegisters, AreValues}
use Rattle.st_chain.specs.Taking.{notes_of}
use Rattle.st_seats.specs.Placing.{AreOnce}
use Rattle.st_phases.specs.declared.automaton.Automaton.{Automaton}
use Rattle.st_phases.specs.declared.phase.Phase.{Phase}
use Rattle.st_phases.specs.Automaton.{with_phase}
use Rattle.st_phases.specs.Opening.{stack_low}
use Rattle.st_fits.specs.Fits.{IsFor, Holds, taken_of, most_items, is_taking}
use Rattle.st_kept.specs.Keeping.{SameNumbers, SameUse, SameKept, HoldsOwn, KeepingLaws}

module _ (p : Program) (d : Data) (limits : Limits) (image : Image) (input : List ℕ) where
  pub same_for : (x y : Automaton) → IsFor p d limits image input x → SameUse x y → IsFor p d limits image input y
  same_for x y is same =
      let low : stack_low limits y.number ≡ stack_low limits x.number = ap (stack_low limits) same.number in
      record {
        code = is.code;
        size = is.size;
        source = is.source;
        instructions = ap (λ c. instructions_of c.instructions.items) same.code ∙ is.instructions;
        begins = ap (λ c. begins_of c.instructions.items) same.code ∙ is.begins;
        input_is = same.length_is ∙ is.input_is;
        steps = same.steps ∙ is.steps;
        cells = same.cells ∙ is.cells;
        room = same.room ∙ is.room;
        ready_room = same.ready_room ∙ is.ready_room;
        lo = same.lo ∙ is.lo ∙ sym low;
        hi = same.hi ∙ is.hi ∙ ap (λ n. n + limits.stack) (sym low);
        low = same.low ∙ is.low ∙ sym same.lo;
        high = same.high ∙ is.high ∙ sym same.hi;
      }

  pub for_with_phase : (x : Automaton) (phase : Phase) → IsFor p d limits image input x → IsFor p d limits image input (with_phase phase x)
  for_with_phase x phase is =
      same_for x (with_phase phase x) is (record { number = refl; code = refl; length_is = refl; steps = refl; cells = refl; room = refl; ready_room = refl; lo = refl; hi = refl; low = refl; high = refl })

module _ (limits : Limits) where
  pub same_holds : (x y : Automaton) (u v : View) → Holds limits x u → SameNumbers u v → v.exported ≡ u.exported → SameKept x y → HoldsOwn y v → y.asked ≡ x.asked → Holds limits y v
  same_holds x y u v holds same exported kept own asked = record {
    number = kept.number ∙ holds.number ∙ sym same.number;
    below = subst (λ (n : ℕ). n < v.workers) (sym same.number) (subst (λ (n : ℕ). u.number < n) (sym same.workers) holds.below);
    workers = kept.workers ∙ holds.workers ∙ sym same.workers;
    few_workers = subst (λ (n : ℕ). n ≤ 16) (sym same.workers) holds.few_workers;
    cells = kept.cells ∙ holds.cells ∙ sym same.cells;
    few_cells = subst (λ (n : ℕ). n ≤ 65536) (sym same.cells) holds.few_cells;
    each = same.each ∙ holds.each;
    words = same.words ∙ holds.words ∙ ap (λ (n : ℕ). n * u.each) (sym same.workers) ∙ ap (λ (n : ℕ). v.workers * n) (sym same.each);
    notes = own.notes;
    items = kept.items ∙ holds.items ∙ sym same.items;
    frame_bytes = kept.frame_bytes ∙ holds.frame_bytes ∙ sym same.frame_bytes;
    few_items = subst (λ (n : ℕ). y.items ≤ n) (sym (kept.most limits.steps)) (subst (λ (n : ℕ). n ≤ most_items x.phase limits.steps) (sym kept.items) holds.few_items);
    few_bytes = subst (λ (n : ℕ). n ≤ 2032 * y.items) (sym kept.frame_bytes) (subst (λ (n : ℕ). x.frame_bytes ≤ 2032 * n) (sym kept.items) holds.few_bytes);
    ready_once = own.ready_once;
    ready = own.ready;
    all_ready = own.all_ready;
    asked = own.asked;
    asked_other = λ at is. let other = holds.asked_other at (sym asked ∙ is) in (subst (λ (n : ℕ). at < n) (sym same.workers) other.0, subst (λ (n : ℕ). at ≢ n) (sym same.number) other.1);
    exported = λ f in'. subst (λ (fs : List Frame). Contains fs f) (sym exported) (holds.exported f (subst (λ (fs : List Frame). Contains fs f) kept.exported in'));
    all_exported = λ f in'. subst (λ (fs : List Frame). Contains fs f) (sym kept.exported) (holds.all_exported f (subst (λ (fs : List Frame). Contains fs f) exported in'));
    last = subst (λ (n : ℕ). n < v.workers) (sym kept.last) (subst (λ (n : ℕ). x.last < n) (sym same.workers) holds.last);
    not_open = λ e. kept.opened ∙ holds.not_open (kept.taking e);
    registers = subst HasRegisters (sym kept.machine) holds.registers;
    values = subst AreValues (sym kept.machine) holds.values;
  }

  pub holds_with_phase : (x : Automaton) (u v : View) (phase : Phase) → Holds limits x u → SameNumbers u v → v.exported ≡ u.exported → v.threads ≡ u.threads → v.ready ≡ u.ready → v.asked ≡ u.asked → taken_of phase ≡ taken_of x.phase → ((n : ℕ) → most_items phase n ≡ most_items x.phase n) → (is_taking phase ≡ false → is_taking x.phase ≡ false) → Holds limits (with_phase phase x) v
  holds_with_phase x u v phase holds same exported threads ready asked taken most taking =
      let numbers : taken_of phase ++ x.ready.numbers ≡ taken_of x.phase ++ x.ready.numbers = ap (λ (ns : List ℕ). ns ++ x.ready.numbers) taken in
      same_holds x (with_phase phase x) u v holds same exported
      (record { number = refl; workers = refl; cells = refl; items = refl; frame_bytes = refl; exported = refl; last = refl; machine = refl; most = most; opened = refl; taking = taking })
      (record {
        notes = holds.notes ∙ ap notes_of (sym threads);
        ready_once = subst AreOnce (sym numbers) holds.ready_once;
        ready = λ c in'. subst (λ (ns : List ℕ). Contains ns c) (sym ready) (holds.ready c (subst (λ (ns : List ℕ). Contains ns c) numbers in'));
        all_ready = λ c in'. subst (λ (ns : List ℕ). Contains ns c) (sym numbers) (holds.all_ready c (subst (λ (ns : List ℕ). Contains ns c) ready in'));
        asked = asked ∙ holds.asked;
      }) refl

pub keeping_laws : (p : Program) (d : Data) (limits : Limits) (image : Image) (input : List ℕ) → KeepingLaws p d limits image input
keeping_laws p d limits image input = record {
  same_for = λ x y is same. same_for p d limits image input x y is same;
  for_with_phase = λ x phase is. for_with_phase p d limits image input x phase is;
  same_holds = λ x y u v holds same exported kept own asked. same_holds limits x y u v holds same exported kept own asked;
  holds_with_phase = λ x u v phase holds same exported threads ready asked taken most taking. holds_with_phase limits x u v phase holds same exported threads ready asked taken most taking;
}
