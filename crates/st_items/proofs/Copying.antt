-- A pure copy leads from a frame to its caller (copies): it comes back to the frame's return word, with the caller's base in s0 and the registers
-- that a call keeps, and changes no word. So what was older than the activation stands on the machine then (copy_stands).
-- On its way it adds, loads and returns alone (copy_reads).
use Rattle.std.proofs.Common.{ℕ, ◌+◌, ◌^◌, ◌<◌, Bool, List, length, refl, ap, sym, ◌∙◌, subst, arith, ◌≡◌, ℤ, pos, zero, suc, ◌*◌, true, [], ◌∷◌, ◌++◌, Option, Some, slice_get}
use Rattle.st_base.specs.declared.reg.Reg.{Reg}
use Rattle.st_base.specs.declared.reg.Reg.TheVariants as registers
use Rattle.st_base.specs.declared.thread.Activation.{Activation}
use Rattle.st_model.specs.declared.code.Layout.TheVariants.{Postprocessed}
use Rattle.st_rv.specs.declared.ins.Ins.{Ins}
use Rattle.st_model.specs.declared.code.PostedIns.{PostedIns}
use Rattle.st_model.specs.declared.code.PostedIns.TheVariants as posted
use Rattle.st_model.specs.declared.program.Program.{Program}
use Rattle.st_model.specs.declared.program.ProgramFunction.{ProgramFunction}
use Rattle.st_model.specs.Accepted.{HasFrame}
use Rattle.st_model.specs.Layout.{saved_of, items_size, loads, ld, below, return, restoring_ins, pure_copy_ins}
use Rattle.st_model.specs.Memory.{Data}
use Rattle.st_model.proofs.CodeSize.{copy_length}
use Rattle.st_step.specs.declared.state.State.{State as MachineState}
use Rattle.st_step.specs.Moves.{register, written, at_place}
use Rattle.st_step.specs.Runs.{Situation, IsBase, HoldsFrame, HasCode, RunsStretch, return_word, caller_word, with_caller, local_ins}
use Rattle.st_step.specs.Frames.{Naming, value_in, with_saved_values}
use Rattle.st_step.proofs.Restoring.{pure_copy_law}
use Rattle.st_items.specs.Code.{code_at}
use Rattle.st_items.specs.Body.{Ends, Context, SeesOutside, IsFramed}
use Rattle.st_items.specs.Copied.{copy_address, IsAtCopy, Older, is_reading}
use Rattle.st_items.proofs.Addresses.{copy_code, copy_bounds}
use Rattle.st_items.proofs.Callers.{IsMachine, machine_written, IsBack, called_back, called_sp, back_over, back_kept, back_other}
use Rattle.st_items.proofs.ItemCode.{formed_of}
use Rattle.st_items.proofs.SavedRegisters.{value-written_other}

module _ (p : Program) (d : Data) (held : ℕ → Bool) (ends : Ends) (bottom : ℕ) (t : Situation) (f : ℕ) (function : ProgramFunction) (at : IsAtCopy p held ends bottom t f function) where
  abbrev b : ℕ
  b = register t.state registers.S0

  abbrev saved : List Reg
  saved = saved_of function

  abbrev first : MachineState
  first = written t.state registers.Tp b

  abbrev back : MachineState
  back = with_caller t.word b saved first

  -- the machine behind the copy
  abbrev pub copied : Situation
  copied = record { state = at_place (t.word (return_word b)) back; word = t.word }

  frame : HasFrame function
  frame = (formed_of p f function at.accepted at.here).frame

  base : IsBase 0x8000_0000 function.frame_bytes b
  base =
      let above = at.frame.above in
      let high = at.frame.high in
      let multiple = at.frame.multiple in
      let bytes = frame.multiple in
      let is_base = at.base in
      record { multiple = omega arith; stack = omega arith; room = omega arith; high = omega arith }

  pub copy_runs : RunsStretch d (code_at Postprocessed p) held (4 + length saved) (4 + length saved) t copied
  copy_runs =
      let holds : HoldsFrame held function.frame_bytes b = subst (λ (n : ℕ). HoldsFrame held function.frame_bytes n) (sym at.base) at.frame.holds in
      let here = at.at in
      let code : HasCode (code_at Postprocessed p) t.state.pc (items_size Postprocessed function function.items) (pure_copy_ins saved) = subst (λ (n : ℕ). HasCode (code_at Postprocessed p) n (items_size Postprocessed function function.items) (pure_copy_ins saved)) (sym here) (copy_code Postprocessed p f function at.here) in
      let far = copy_bounds Postprocessed p f function at.size at.here in
      let long = copy_length function in
      pure_copy_law d (code_at Postprocessed p) held function t 0x8000_0000 (items_size Postprocessed function function.items) at.machine.words frame code base holds at.back (record { below = omega arith })

  pub copy_older : Older ends b function t copied
  copy_older =
      let on = at.machine in
      let small : b < 2 ^ 64 = on.values 8 in
      let is : IsMachine ends.lo ends.hi t.state = record { has_registers = on.has_registers; values = on.values; low = on.lo; high = on.hi } in
      let is_first = machine_written ends.lo ends.hi t.state registers.Tp b small is in
      let called : IsBack ends.lo ends.hi t.word b saved t.state back = back_over ends.lo ends.hi t.word b saved t.state back b (called_back ends.lo ends.hi t.word b function first on.words is_first) in
      let machine = called.machine in
      record {
        machine = record {
          has_registers = record { count = machine.has_registers.count; origin = machine.has_registers.origin };
          values = machine.values;
          words = on.words;
          lo = machine.low;
          hi = machine.high;
          sp = called_sp ends.lo ends.hi t.word b function first is_first ∙ value-written_other t.state registers.Tp b 2 (λ e. absurd (omega (arith, e))) ∙ on.sp;
          gp = back_other ends.lo ends.hi t.word b function t.state back 3 called refl (λ e. absurd (omega (arith, e))) (λ e. absurd (omega (arith, e))) (λ e. absurd (omega (arith, e))) (λ e. absurd (omega (arith, e))) ∙ on.gp;
        };
        word = refl;
        pc = refl;
        fp = called.fp;
        value = λ x is_kept_one. sym (back_kept ends.lo ends.hi t.word b saved t.state back called x is_kept_one);
        whole = refl;
      }

pub copies : (p : Program) (d : Data) (held : ℕ → Bool) (ends : Ends) (bottom : ℕ) (t : Situation) (f : ℕ) (function : ProgramFunction) → IsAtCopy p held ends bottom t f function
    → (u : Situation) × RunsStretch d (code_at Postprocessed p) held (4 + length (saved_of function)) (4 + length (saved_of function)) t u × Older ends (register t.state registers.S0) function t u
copies p d held ends bottom t f function at = (copied p d held ends bottom t f function at, copy_runs p d held ends bottom t f function at, copy_older p d held ends bottom t f function at)

-- what was older than an activation stands on the machine behind the copy
pub copy_stands : (names : Naming) (older : Context) (ends : Ends) (bottom : ℕ) (t u : Situation) (function : ProgramFunction) (a : Activation) → SeesOutside older bottom (bottom + function.frame_bytes) → IsFramed names older t.word (value_in t.state) bottom (register t.state registers.S0) function a → Older ends (register t.state registers.S0) function t u
    → older a.kind a.kept u.word (value_in u.state) (register u.state registers.S0) u.state.pc
copy_stands names older ends bottom t u function a sees framed copy =
    let b = register t.state registers.S0 in
    let saved = saved_of function in
    let seen = sees a.kind a.kept t.word u.word (with_saved_values t.word b 0 saved (value_in t.state)) (value_in u.state) (t.word (caller_word b)) (t.word (return_word b)) (λ q out. ap (λ (w : ℕ → ℕ). w q) (sym copy.word)) (λ x is. sym (copy.value x is)) framed.below in
    subst (λ (n : ℕ). older a.kind a.kept u.word (value_in u.state) (register u.state registers.S0) n) (sym copy.pc)
    (subst (λ (n : ℕ). older a.kind a.kept u.word (value_in u.state) n (t.word (return_word b))) (sym copy.fp) seen)

-- ---- what a copy does on its way

abbrev IsReading : PostedIns → Type 0
IsReading (posted.Plain i) = is_reading i.op ≡ true
IsReading _ = ⊥

abbrev AllReading : List PostedIns → Type 0
AllReading [] = Prim.Unit
AllReading (i ∷ is) = IsReading i × AllReading is

both_reading : (is js : List PostedIns) → AllReading is → AllReading js → AllReading (is ++ js)
both_reading [] js first second = second
both_reading (i ∷ is) js first second = (first.0, both_reading is js first.1 second)

loads_reading : (source : Reg) (top : ℤ) (k : ℕ) (rs : List Reg) → AllReading (loads source top k rs)
loads_reading source top k [] = tt
loads_reading source top k (r ∷ rs) = (refl, loads_reading source top (k + 1) rs)

copy_reading : (saved : List Reg) → AllReading (pure_copy_ins saved)
copy_reading saved =
    both_reading (restoring_ins saved) (return ∷ []) (refl, (refl, both_reading (loads registers.Tp (pos 0) 0 saved) (ld registers.S0 (below 16) registers.Tp ∷ []) (loads_reading registers.Tp (pos 0) 0 saved) (refl, tt))) (refl, tt)

reading_is : (at : ℕ) (i : PostedIns) (x : Ins) → IsReading i → local_ins at i ≡ Some x → is_reading x.op ≡ true
reading_is at (posted.Plain i) x reading same = let e : i ≡ x = cc in subst (λ (j : Ins). is_reading j.op ≡ true) e reading
reading_is at (posted.Branch op rs1 rs2 to) x reading same = absurd reading
reading_is at (posted.Jump to) x reading same = absurd reading
reading_is at (posted.Call f) x reading same = absurd reading
reading_is at (posted.Entry entry) x reading same = absurd reading

reading_at : (code : ℕ → Option Ins) (pc at : ℕ) (is : List PostedIns) (k : ℕ) → AllReading is → HasCode code pc at is → k < length is → (i : Ins) × (code (pc + 4 * k) ≡ Some i) × (is_reading i.op ≡ true)
reading_at code pc at [] k all has inside = absurd (omega arith)
reading_at code pc at (i ∷ is) zero all ((x, local, there), rest) inside =
    let here : pc + 4 * 0 ≡ pc = omega arith in
    (x, ap code here ∙ there, reading_is at i x all.0 local)
reading_at code pc at (i ∷ is) (suc k) all (first, rest) inside =
    let (x, there, reading) = reading_at code (pc + 4) (at + 1) is k all.1 rest (omega arith) in
    let here : pc + 4 * suc k ≡ pc + 4 + 4 * k = omega arith in
    (x, ap code here ∙ there, reading)

-- at each word of a copy stands an instruction that adds, loads or returns
pub copy_reads : (p : Program) (f : ℕ) (function : ProgramFunction) (k : ℕ) → slice_get p.functions f ≡ Some function → k < 4 + length (saved_of function) → (i : Ins) × (code_at Postprocessed p (copy_address p f function + 4 * k) ≡ Some i) × (is_reading i.op ≡ true)
copy_reads p f function k named inside =
    let long = copy_length function in
    reading_at (code_at Postprocessed p) (copy_address p f function) (items_size Postprocessed function function.items) (pure_copy_ins (saved_of function)) k (copy_reading (saved_of function)) (copy_code Postprocessed p f function named) (omega arith)
