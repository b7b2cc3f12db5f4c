-- Epilogues: an epilogue as written frees its frame, an augmented one frees or marks it, and what was older than the activation stands on the
-- machine (leaves). Both load the caller's registers from the frame, so that what is left is told once (left_by).
use Rattle.std.proofs.Common.{◌≡◌, ◌⊎◌, inl, inr, ℕ, ◌+◌, ◌-◌, ◌*◌, ◌^◌, ◌<◌, ◌≤◌, Bool, List, length, refl, ap, sym, ◌∙◌, subst, arith}
use Rattle.std.proofs.lemmas.Bool.{cases_lt}
use Rattle.st_base.specs.declared.reg.Reg.{Reg}
use Rattle.st_base.specs.declared.reg.Reg.TheVariants as registers
use Rattle.st_base.specs.declared.thread.Activation.{Activation}
use Rattle.st_model.specs.declared.code.Layout.{Layout}
use Rattle.st_model.specs.declared.code.Layout.TheVariants.{Postprocessed, Unchanged}
use Rattle.st_model.specs.declared.program.Item.{Item}
use Rattle.st_model.specs.declared.program.ItemKind.TheVariants.{Epilogue}
use Rattle.st_model.specs.declared.program.Program.{Program}
use Rattle.st_model.specs.declared.program.ProgramFunction.{ProgramFunction}
use Rattle.st_model.specs.Accepted.{HasFrame}
use Rattle.st_model.specs.Effect.{File}
use Rattle.st_model.specs.Layout.{saved_of, epilogue_by, item_place, item_size}
use Rattle.st_model.specs.Memory.{Data}
use Rattle.st_words.specs.Steps.{place_of}
use Rattle.st_step.specs.declared.state.State.{State as MachineState}
use Rattle.st_step.specs.Moves.{register, written, at_place}
use Rattle.st_step.specs.Runs.{Situation, AreWords, IsBase, HoldsFrame, HasCode, RunsStretch, stored, return_word, caller_word, with_caller}
use Rattle.st_step.specs.Frames.{Naming, value_in, with_saved_values}
use Rattle.st_step.proofs.Freeing.{augmented_law}
use Rattle.st_step.proofs.Epilogues.{epilogue_law}
use Rattle.st_items.specs.Code.{code_at}
use Rattle.st_items.specs.Ways.{LeadsBy, Leads}
use Rattle.st_items.specs.Body.{Ends, Context}
use Rattle.st_items.specs.Left.{HowLeft, IsAtEpilogue, Left}
use Rattle.st_items.proofs.Addresses.{address_bounds}
use Rattle.st_items.proofs.Callers.{IsMachine, machine_written, IsBack, called_back, called_sp, back_written, back_over, back_kept, back_other}
use Rattle.st_items.proofs.FrameWords.{stored_other, stored_words}
use Rattle.st_items.proofs.ItemCode.{item_words}
use Rattle.st_items.proofs.SavedRegisters.{value-written_other, value-written_same, saved_few}
use Rattle.st_items.proofs.Ways.{leads, item_leads}

-- the words outside the frame are the same
abbrev AgreeAround : ProgramFunction → ℕ → (ℕ → ℕ) → (ℕ → ℕ) → Type 0
AgreeAround function bottom word word' = (q : ℕ) → (q < place_of bottom) ⊎ (place_of (bottom + function.frame_bytes) ≤ q) → word q ≡ word' q

-- by at most 18 instructions
abbrev pub Comes : Layout → Program → Data → (ℕ → Bool) → Situation → Situation → Type 0
Comes layout p d held t u = (n : ℕ) × (n ≤ 17) × LeadsBy layout p d held n t u

pub comes_leads : (layout : Layout) (p : Program) (d : Data) (held : ℕ → Bool) (t u : Situation) → Comes layout p d held t u → Leads layout p d held t u
comes_leads layout p d held t u (n, few, by) = leads layout p d held n t u (omega arith) by

module _ (layout : Layout) (p : Program) (d : Data) (held : ℕ → Bool) (names : Naming) (older : Context) (ends : Ends) (bottom : ℕ) (t : Situation) (top : Activation) (file : File) (function : ProgramFunction) (item : Item) (at : IsAtEpilogue layout p held names older ends bottom t top file function item) where
  abbrev pub b : ℕ
  b = register t.state registers.S0

  abbrev pub ret : ℕ
  ret = t.word (return_word b)

  abbrev pub place : ℕ
  place = item_place layout function top.next

  abbrev pub saved : List Reg
  saved = saved_of function

  pub frame : HasFrame function
  frame = (at.line.accepted.functions top.function function at.line.has.named).formed.frame

  pub base : IsBase 0x8000_0000 function.frame_bytes b
  base =
      let above = at.line.frame.above in
      let high = at.line.frame.high in
      let multiple = at.line.frame.multiple in
      let bytes = frame.multiple in
      let is_base = at.line.body.framed.base in
      record { multiple = omega arith; stack = omega arith; room = omega arith; high = omega arith }

  pub holds : HoldsFrame held function.frame_bytes b
  holds = subst (λ (n : ℕ). HoldsFrame held function.frame_bytes n) (sym at.line.body.framed.base) at.line.frame.holds

  pub code : HasCode (code_at layout p) t.state.pc place (epilogue_by layout place function)
  code = item_words layout p top.function function top.next item Epilogue t.state.pc at.line.has at.kind tt at.line.at

  pub size_is : item_size layout function item.kind ≡ item_size layout function Epilogue
  size_is = ap (item_size layout function) at.kind

  pub low : t.state.pc + 4 * item_size layout function Epilogue ≤ 0x10000 + 4 * 196608
  low =
      let bounds = address_bounds layout p top.function function top.next item at.line.size at.line.has in
      let high = bounds.1 in
      let size = size_is in
      let here = at.line.at in
      omega arith

  pub small : b < 2 ^ 64
  small = at.line.body.machine.values 8

  pub whole : IsMachine ends.lo ends.hi t.state
  whole = let on = at.line.body.machine in record { has_registers = on.has_registers; values = on.values; low = on.lo; high = on.hi }

  -- a run of the epilogue leads there
  pub epilogue_leads : (words count : ℕ) (u : Situation) → words ≡ item_size layout function Epilogue → 0 < words → count ≤ 7 + length saved → RunsStretch d (code_at layout p) held words count t u → Comes layout p d held t u
  epilogue_leads words count u whole_is some few runs =
      let eleven = saved_few function in
      let size = size_is in
      (count - 1, omega arith, item_leads layout p d held top.function function top.next item at.line.has words count t u at.line.at (omega arith) runs)

  -- what is left, by the registers and the words behind it
  pub left_by : (n : MachineState) (word : ℕ → ℕ) → IsBack ends.lo ends.hi t.word b saved t.state n → AreWords word → AgreeAround function bottom t.word word → HowLeft layout ends b t (record { state = at_place ret n; word = word })
      → Left layout older ends b t top (record { state = at_place ret n; word = word })
  left_by n word back words agree how =
      let machine = back.machine in
      let sees = at.line.sees top.kind top.kept t.word word (with_saved_values t.word b 0 saved (value_in t.state)) (value_in n) (t.word (caller_word b)) ret agree (back_kept ends.lo ends.hi t.word b saved t.state n back) at.line.body.framed.below in
      record {
        how = how;
        machine = record {
          has_registers = record { count = machine.has_registers.count; origin = machine.has_registers.origin };
          values = machine.values;
          words = words;
          lo = machine.low;
          hi = machine.high;
          sp = refl;
          gp = back_other ends.lo ends.hi t.word b function t.state n 3 back refl (λ e. absurd (omega (arith, e))) (λ e. absurd (omega (arith, e))) (λ e. absurd (omega (arith, e))) (λ e. absurd (omega (arith, e))) ∙ at.line.body.machine.gp;
        };
        pc = refl;
        stands = subst (λ (f : ℕ). older top.kind top.kept word (value_in n) f ret) (sym back.fp) sees;
        a0 = back_other ends.lo ends.hi t.word b function t.state n 10 back refl (λ e. absurd (omega (arith, e))) (λ e. absurd (omega (arith, e))) (λ e. absurd (omega (arith, e))) (λ e. absurd (omega (arith, e)));
        whole = refl;
      }

  -- the frame's own words alone are changed where it is marked
  pub marked_around : AgreeAround function bottom t.word (stored (return_word b) 0 t.word)
  marked_around q out =
      let is_base = at.line.body.framed.base in
      let above = at.line.frame.above in
      let even = at.line.frame.multiple in
      let bytes = frame.multiple in
      let least = frame.least in
      sym (stored_other (return_word b) 0 t.word q (λ same. elim out [ inl less ↦ absurd (omega arith) | inr more ↦ absurd (omega arith) ]))

-- what an epilogue leads to
abbrev pub Leaves : Layout → Program → Data → (ℕ → Bool) → Context → Ends → Situation → Activation → Type 0
Leaves layout p d held older ends t top = (u : Situation) × Comes layout p d held t u × Left layout older ends (register t.state registers.S0) t top u

-- ---- as written

written_leaves : (p : Program) (d : Data) (held : ℕ → Bool) (names : Naming) (older : Context) (ends : Ends) (bottom : ℕ) (t : Situation) (top : Activation) (file : File) (function : ProgramFunction) (item : Item) → IsAtEpilogue Unchanged p held names older ends bottom t top file function item
    → Leaves Unchanged p d held older ends t top
written_leaves p d held names older ends bottom t top file function item at =
    let b = register t.state registers.S0 in
    let saved = saved_of function in
    let ret = t.word (return_word b) in
    let base_is = at.line.body.framed.base in
    let sp_is = at.line.body.machine.sp in
    let lies = at.low in
    let far = low Unchanged p d held names older ends bottom t top file function item at in
    let runs = epilogue_law d (code_at Unchanged p) held function t 0x8000_0000 (item_place Unchanged function top.next) b at.line.body.machine.words (frame Unchanged p d held names older ends bottom t top file function item at) (code Unchanged p d held names older ends bottom t top file function item at)
    (base Unchanged p d held names older ends bottom t top file function item at) (holds Unchanged p d held names older ends bottom t top file function item at) (omega arith) at.back (record { below = omega arith }) in
    let n = with_caller t.word b saved t.state in
    let last = written n registers.Sp b in
    let u : Situation = record { state = at_place ret last; word = t.word } in
    let small_is = small Unchanged p d held names older ends bottom t top file function item at in
    let back = called_back ends.lo ends.hi t.word b function t.state at.line.body.machine.words (whole Unchanged p d held names older ends bottom t top file function item at) in (
      u,
      epilogue_leads Unchanged p d held names older ends bottom t top file function item at (4 + length saved) (4 + length saved) u refl (omega arith) (omega arith) runs,
      left_by Unchanged p d held names older ends bottom t top file function item at last t.word (back_written ends.lo ends.hi t.word b saved t.state n b small_is back) at.line.body.machine.words (λ q out. refl)
          (refl, value-written_same n registers.Sp b back.machine.has_registers.count refl),
    )

-- ---- augmented

module _ (p : Program) (d : Data) (held : ℕ → Bool) (names : Naming) (older : Context) (ends : Ends) (bottom : ℕ) (t : Situation) (top : Activation) (file : File) (function : ProgramFunction) (item : Item) (at : IsAtEpilogue Postprocessed p held names older ends bottom t top file function item) where
  abbrev fp : ℕ
  fp = register t.state registers.S0

  abbrev regs : List Reg
  regs = saved_of function

  abbrev first : MachineState
  first = written t.state registers.Tp fp

  small_fp : fp < 2 ^ 64
  small_fp = small Postprocessed p d held names older ends bottom t top file function item at

  is_first : IsMachine ends.lo ends.hi first
  is_first = machine_written ends.lo ends.hi t.state registers.Tp fp small_fp (whole Postprocessed p d held names older ends bottom t top file function item at)

  back_is : IsBack ends.lo ends.hi t.word fp regs t.state (with_caller t.word fp regs first)
  back_is = back_over ends.lo ends.hi t.word fp regs t.state (with_caller t.word fp regs first) fp (called_back ends.lo ends.hi t.word fp function first at.line.body.machine.words is_first)

  pub freed : ends.sp < fp → fp ≤ ends.gp → Leaves Postprocessed p d held older ends t top
  freed less most =
      let machine = at.line.body.machine in
      let sp = machine.sp in
      let gp = machine.gp in
      let n = with_caller t.word fp regs first in
      let last = written n registers.Sp fp in
      let u : Situation = record { state = at_place (t.word (return_word fp)) last; word = t.word } in
      let far = low Postprocessed p d held names older ends bottom t top file function item at in
      let law = augmented_law d (code_at Postprocessed p) held function t 0x8000_0000 (item_place Postprocessed function top.next) machine.words (frame Postprocessed p d held names older ends bottom t top file function item at) (code Postprocessed p d held names older ends bottom t top file function item at)
      (base Postprocessed p d held names older ends bottom t top file function item at) (holds Postprocessed p d held names older ends bottom t top file function item at) at.back (record { below = omega arith }) in
      let runs = law.0 (omega arith) (omega arith) in (
        u,
        epilogue_leads Postprocessed p d held names older ends bottom t top file function item at (9 + length regs) (7 + length regs) u refl (omega arith) (omega arith) runs,
        left_by Postprocessed p d held names older ends bottom t top file function item at last t.word (back_written ends.lo ends.hi t.word fp regs t.state n fp small_fp back_is) machine.words (λ q out. refl)
            (inl (less, most, (refl, value-written_same n registers.Sp fp back_is.machine.has_registers.count refl))),
      )

  -- behind the mark and the jump back
  abbrev pub marked_there : Situation
  marked_there = record { state = at_place (t.word (return_word fp)) (with_caller t.word fp regs first); word = stored (return_word fp) 0 t.word }

  pub marked : (fp ≤ ends.sp) ⊎ (ends.gp < fp) → Comes Postprocessed p d held t marked_there × Left Postprocessed older ends fp t top marked_there
  marked why =
      let machine = at.line.body.machine in
      let sp = machine.sp in
      let gp = machine.gp in
      let n = with_caller t.word fp regs first in
      let word = stored (return_word fp) 0 t.word in
      let u = marked_there in
      let there : (fp ≤ register t.state registers.Sp) ⊎ (register t.state registers.Gp < fp) = elim why [ inl most ↦ inl (omega arith) | inr beyond ↦ inr (omega arith) ] in
      let far = low Postprocessed p d held names older ends bottom t top file function item at in
      let law = augmented_law d (code_at Postprocessed p) held function t 0x8000_0000 (item_place Postprocessed function top.next) machine.words (frame Postprocessed p d held names older ends bottom t top file function item at) (code Postprocessed p d held names older ends bottom t top file function item at)
      (base Postprocessed p d held names older ends bottom t top file function item at) (holds Postprocessed p d held names older ends bottom t top file function item at) at.back (record { below = omega arith }) in
      let (count, few, runs) = law.1 there in
      let stays = called_sp ends.lo ends.hi t.word fp function first is_first ∙ value-written_other t.state registers.Tp fp 2 (λ e. absurd (omega (arith, e))) ∙ sp in (
        epilogue_leads Postprocessed p d held names older ends bottom t top file function item at (9 + length regs) count u refl (omega arith) few runs,
        left_by Postprocessed p d held names older ends bottom t top file function item at n word back_is (stored_words (return_word fp) 0 t.word (omega arith) machine.words)
            (marked_around Postprocessed p d held names older ends bottom t top file function item at) (inr (why, (refl, stays))),
      )

  marked_leaves : (fp ≤ ends.sp) ⊎ (ends.gp < fp) → Leaves Postprocessed p d held older ends t top
  marked_leaves why = let (way, left) = marked why in (marked_there, way, left)

  augmented_leaves : Leaves Postprocessed p d held older ends t top
  augmented_leaves =
      elim (cases_lt ends.sp fp) [
        | inl less ↦ elim (cases_lt ends.gp fp) [ inl beyond ↦ marked_leaves (inr beyond) | inr most ↦ freed less most ]
        | inr most ↦ marked_leaves (inl most)
      ]

-- ---- either

pub leaves : (layout : Layout) (p : Program) (d : Data) (held : ℕ → Bool) (names : Naming) (older : Context) (ends : Ends) (bottom : ℕ) (t : Situation) (top : Activation) (file : File) (function : ProgramFunction) (item : Item) → IsAtEpilogue layout p held names older ends bottom t top file function item
    → Leaves layout p d held older ends t top
leaves Unchanged p d held names older ends bottom t top file function item at = written_leaves p d held names older ends bottom t top file function item at
leaves Postprocessed p d held names older ends bottom t top file function item at = augmented_leaves p d held names older ends bottom t top file function item at
