-- A prologue makes its activation's frame (enters), and stops where the stack has no room for it (prologue_stops). Below and above the new frame
-- nothing changes for what is older (frame_under, with frame_above of FrameWords).
use Rattle.std.proofs.Common.{◌≡◌, ◌≢◌, ◌⊎◌, inl, inr, ℕ, zero, suc, ◌+◌, ◌-◌, ◌*◌, ◌^◌, ◌<◌, ◌≤◌, Bool, true, List, [], ◌∷◌, length, Option, Some, None, refl, ap, sym, ◌∙◌, subst, arith, replicate}
use Rattle.std.specs.Prelude.{slice_index_or, if◌then◌else◌}
use Rattle.std.proofs.lemmas.List.{length-replicate}
use Rattle.std.proofs.lemmas.Bool.{lt-ltb}
use Rattle.st_base.specs.declared.thread.Held.{Held}
use Rattle.st_base.specs.declared.thread.Activation.{Activation}
use Rattle.st_base.specs.declared.reg.Reg.{Reg}
use Rattle.st_base.specs.declared.reg.Reg.TheVariants as registers
use Rattle.st_rv.specs.declared.ins.Ins.{Ins}
use Rattle.st_rv.specs.declared.ins.Op.TheVariants as ops
use Rattle.st_rv.specs.Results.{word_of, alu}
use Rattle.st_model.specs.declared.program.Item.{Item}
use Rattle.st_model.specs.declared.program.ItemKind.{ItemKind}
use Rattle.st_model.specs.declared.program.ItemKind.TheVariants as items
use Rattle.st_model.specs.declared.program.Program.{Program}
use Rattle.st_model.specs.declared.program.ProgramFunction.{ProgramFunction}
use Rattle.st_model.specs.declared.code.Layout.{Layout}
use Rattle.st_model.specs.Accepted.{HasFrame}
use Rattle.st_model.specs.Effect.{File, advanced}
use Rattle.st_model.specs.Layout.{item_place, item_size, saved_of, below, immediate_ins}
use Rattle.st_model.specs.Memory.{Data}
use Rattle.st_words.specs.Steps.{place_of}
use Rattle.st_step.specs.declared.state.State.{State as MachineState}
use Rattle.st_step.specs.declared.machine.StepEnd.TheVariants.{StackFull}
use Rattle.st_step.specs.Moves.{Stops, Goes, register, written, at_place, move_of, lacks_room, results, frame_of}
use Rattle.st_step.specs.Runs.{Situation, HoldsFrame, IsBase, return_word, caller_word, with_frame, saved_word, with_saved, stored}
use Rattle.st_step.specs.Frames.{Naming, value_in, HasSlots, with_saved_values}
use Rattle.st_step.proofs.Prologues.{prologue_law}
use Rattle.st_step.proofs.SavedList.{saved_fit}
use Rattle.st_step.proofs.Straight.{plain_code}
use Rattle.st_step.proofs.Writes.{length-written}
use Rattle.st_items.specs.Code.{code_at}
use Rattle.st_items.specs.Ways.{Leads}
use Rattle.st_items.specs.Body.{Ends, IsOn, Context, StandsAt}
use Rattle.st_items.specs.Entered.{IsEntered, IsAtPrologue, lowered}
use Rattle.st_items.proofs.Addresses.{address_bounds, next_address}
use Rattle.st_items.proofs.Callers.{IsMachine, machine_written}
use Rattle.st_items.proofs.FrameWords.{stored_other, frame_found, caller_found, return_found, frame_above, frame_words}
use Rattle.st_items.proofs.ItemCode.{formed_of, item_words}
use Rattle.st_items.proofs.KeptFiles.{file_over, not_kept}
use Rattle.st_items.proofs.SavedRegisters.{value-written_other, value-written_same, saved_few}
use Rattle.st_items.proofs.Ways.{leads, item_leads}

-- ---- an empty frame

nothing_in : {A : Type 0} → (n k : ℕ) → slice_index_or {A = Option A} (replicate n None) k None ≡ None
nothing_in zero k = refl
nothing_in (suc n) zero = refl
nothing_in (suc n) (suc k) = nothing_in n k

pub empty_slots : (names : Naming) (function : ProgramFunction) (a : Activation) (word : ℕ → ℕ) (low : ℕ) → a.bytes ≡ replicate function.frame_bytes None → a.handles ≡ replicate function.slots None → HasSlots names function a word low
empty_slots names function a word low bytes handles = record {
  bytes_long = ap length bytes ∙ length-replicate function.frame_bytes None;
  handles_long = ap length handles ∙ length-replicate function.slots None;
  bytes = λ k v least most there. absurd (let nothing = nothing_in {A = ℕ} function.frame_bytes k in let same = ap (λ (l : List (Option ℕ)). slice_index_or l k None) bytes in let never : ⊥ = cc in never);
  handles = λ k held most there. absurd (let nothing = nothing_in {A = Held} function.slots k in let same = ap (λ (l : List (Option Held)). slice_index_or l k None) handles in let never : ⊥ = cc in never);
}

-- ---- below the new frame

saved_under : (m : MachineState) (b k : ℕ) (rs : List Reg) (word : ℕ → ℕ) (q : ℕ) → 0x8000_0000 + 16 + 8 * (k + length rs) ≤ b → q < place_of (b - (16 + 8 * (k + length rs))) → with_saved m b k rs word q ≡ word q
saved_under m b k [] word q room less = refl
saved_under m b k (r ∷ rs) word q room less =
    let other : q ≢ saved_word b k = λ e. absurd (omega arith) in
    saved_under m b (k + 1) rs (stored (saved_word b k) (register m r) word) q (omega arith) (omega arith)
    ∙ stored_other (saved_word b k) (register m r) word q other

-- a prologue stores in its frame alone
pub frame_under : (m : MachineState) (b : ℕ) (function : ProgramFunction) (word : ℕ → ℕ) (q : ℕ) → HasFrame function → 0x8000_0000 + function.frame_bytes ≤ b → q < place_of (b - function.frame_bytes) → with_frame m b (saved_of function) word q ≡ word q
frame_under m b function word q frame room less =
    let fit = saved_fit function frame in
    let least = frame.least in
    let first = stored (return_word b) (register m registers.Ra) word in
    saved_under m b 0 (saved_of function) (stored (caller_word b) (register m registers.S0) first) q (omega arith) (omega arith)
    ∙ stored_other (caller_word b) (register m registers.S0) first q (λ e. absurd (omega arith))
    ∙ stored_other (return_word b) (register m registers.Ra) word q (λ e. absurd (omega arith))

-- ---- where there is room

module _ (layout : Layout) (p : Program) (d : Data) (held : ℕ → Bool) (names : Naming) (older : Context) (ends : Ends) (t : Situation) (top : Activation) (file : File) (function : ProgramFunction) (item : Item) (at : IsAtPrologue layout p held names older ends t top file function item) where
  abbrev b : ℕ
  b = register t.state registers.Sp

  abbrev bytes : ℕ
  bytes = function.frame_bytes

  abbrev saved : List Reg
  saved = saved_of function

  abbrev lower : MachineState
  lower = written t.state registers.Sp (b - bytes)

  abbrev made : MachineState
  made = written lower registers.S0 b

  abbrev behind : Situation
  behind = record { state = at_place (t.state.pc + 4 * (4 + length saved)) made; word = with_frame t.state b saved t.word }

  frame : HasFrame function
  frame = (formed_of p top.function function at.entered.accepted at.entered.has.named).frame

  base : IsBase t.state.lo bytes b
  base =
      let b_is = at.entered.machine.sp in
      let lo = at.entered.machine.lo in
      let low = at.low in
      let room = at.room in
      let high = at.high in
      let multiple = at.multiple in
      record { multiple = omega arith; stack = omega arith; room = omega arith; high = omega arith }

  size_is : item_size layout function item.kind ≡ 4 + length saved
  size_is = ap (λ (k : ItemKind). item_size layout function k) at.entered.kind

  low : t.state.pc + 4 * (4 + length saved) < 2 ^ 32
  low =
      let bounds = address_bounds layout p top.function function top.next item at.entered.size at.entered.has in
      let high = bounds.1 in
      let size = size_is in
      let here = at.entered.at in
      omega arith

  prologue_leads : Leads layout p d held t behind
  prologue_leads =
      let code = item_words layout p top.function function top.next item items.Prologue t.state.pc at.entered.has at.entered.kind tt at.entered.at in
      let holding : HoldsFrame held bytes b = subst (λ (n : ℕ). HoldsFrame held bytes n) (sym at.entered.machine.sp) at.holds in
      let runs = prologue_law d (code_at layout p) held function t (item_place layout function top.next) frame code base holding (record { below = low }) in
      let size = size_is in
      let eleven = saved_few function in
      leads layout p d held (4 + length saved - 1) t behind (omega arith) (item_leads layout p d held top.function function top.next item at.entered.has (4 + length saved) (4 + length saved) t behind at.entered.at (omega arith) runs)

  -- the registers but sp and s0 stay
  others : (x : ℕ) → x ≢ 2 → x ≢ 8 → value_in made x ≡ value_in t.state x
  others x sp fp = value-written_other lower registers.S0 b x fp ∙ value-written_other t.state registers.Sp (b - bytes) x sp

  sp_is : value_in made 2 ≡ b - bytes
  sp_is = value-written_other lower registers.S0 b 2 (λ e. absurd (omega (arith, e))) ∙ value-written_same t.state registers.Sp (b - bytes) at.entered.machine.has_registers.count refl

  fp_is : value_in made 8 ≡ b
  fp_is = value-written_same lower registers.S0 b (length-written t.state registers.Sp (b - bytes) ∙ at.entered.machine.has_registers.count) refl

  on_machine : IsOn (lowered ends bytes) behind
  on_machine =
      let on = at.entered.machine in
      let small : b < 2 ^ 64 = on.values 2 in
      let is : IsMachine ends.lo ends.hi t.state = record { has_registers = on.has_registers; values = on.values; low = on.lo; high = on.hi } in
      let is_made = machine_written ends.lo ends.hi lower registers.S0 b small (machine_written ends.lo ends.hi t.state registers.Sp (b - bytes) (omega arith) is) in
      record {
        has_registers = record { count = is_made.has_registers.count; origin = is_made.has_registers.origin };
        values = is_made.values;
        words = frame_words t.state b saved t.word on.values on.words;
        lo = is_made.low;
        hi = is_made.high;
        sp = sp_is ∙ ap (λ (n : ℕ). n - bytes) on.sp;
        gp = others 3 (λ e. absurd (omega (arith, e))) (λ e. absurd (omega (arith, e))) ∙ on.gp;
      }

  -- what is older is found by what the prologue stored
  older_is : older top.kind top.kept behind.word (with_saved_values behind.word b 0 saved (value_in made)) (behind.word (caller_word b)) (behind.word (return_word b))
  older_is =
      let b_is = at.entered.machine.sp in
      let fit = saved_fit function frame in
      let least = frame.least in
      let low = at.low in
      let room = at.room in
      let value = with_saved_values behind.word b 0 saved (value_in made) in
      let around : (q : ℕ) → (q < place_of (ends.sp - bytes)) ⊎ (place_of ends.sp ≤ q) → t.word q ≡ behind.word q = λ q out. elim out [
        | inl less ↦ sym (frame_under t.state b function t.word q frame (omega arith) (omega arith))
        | inr more ↦ sym (frame_above t.state b saved t.word q (omega arith) (omega arith))
      ] in
      let seen = at.sees top.kind top.kept t.word behind.word (value_in t.state) value (register t.state registers.S0) (register t.state registers.Ra) around
      (λ x kept. sym (frame_found t.state b saved t.word (value_in made) x (omega arith) (others x (not_kept x 2 kept refl) (not_kept x 8 kept refl)))) at.entered.below in
      subst (λ (r : ℕ). older top.kind top.kept behind.word value (behind.word (caller_word b)) r) (sym (return_found t.state b saved t.word (omega arith)))
      (subst (λ (f : ℕ). older top.kind top.kept behind.word value f (register t.state registers.Ra)) (sym (caller_found t.state b saved t.word (omega arith))) seen)

  stands_behind : StandsAt layout p names older (lowered ends bytes) (ends.sp - bytes) behind (advanced top) file function
  stands_behind =
      let b_is = at.entered.machine.sp in
      let room = at.room in
      let s0 = fp_is in
      let base_is : value_in made 8 ≡ ends.sp - bytes + bytes = omega arith in
      let next = next_address layout p top.function function top.next item at.entered.has in
      let size = size_is in
      let here = at.entered.at in
      record {
        body = record {
          here = at.entered.has.named;
          machine = on_machine;
          file = file_over names file (value_in t.state) (value_in made) at.entered.frameless (λ x not_ra not_sp not_fp. sym (others x not_sp not_fp)) at.entered.holding;
          frameless = at.entered.frameless;
          framed = record {
            base = base_is;
            slots = empty_slots names function (advanced top) behind.word (ends.sp - bytes) at.entered.bytes at.entered.handles;
            below = subst (λ (n : ℕ). older top.kind top.kept behind.word (with_saved_values behind.word n 0 saved (value_in made)) (behind.word (caller_word n)) (behind.word (return_word n))) (sym fp_is) older_is;
          };
        };
        begun = omega arith;
        at = omega arith;
        whole = refl;
      }

-- a prologue's words are those of its frame, and the activation stands behind it with its slots empty
pub enters : (layout : Layout) (p : Program) (d : Data) (held : ℕ → Bool) (names : Naming) (older : Context) (ends : Ends) (t : Situation) (top : Activation) (file : File) (function : ProgramFunction) (item : Item) → IsAtPrologue layout p held names older ends t top file function item
    → (u : Situation) × Leads layout p d held t u × (u.word ≡ with_frame t.state ends.sp (saved_of function) t.word) × StandsAt layout p names older (lowered ends function.frame_bytes) (ends.sp - function.frame_bytes) u (advanced top) file function
enters layout p d held names older ends t top file function item at = (
  behind layout p d held names older ends t top file function item at,
  prologue_leads layout p d held names older ends t top file function item at,
  ap (λ (n : ℕ). with_frame t.state n (saved_of function) t.word) at.entered.machine.sp,
  stands_behind layout p d held names older ends t top file function item at,
)

-- ---- where there is none

full : (m : MachineState) (bytes : ℕ) → 0 < bytes → register m registers.Sp < m.lo + bytes → lacks_room m (immediate_ins ops.Addi registers.Sp registers.Sp (below bytes)) ≡ true
full m zero some less = absurd (omega arith)
full m (suc n) some less = lt-ltb (register m registers.Sp) (m.lo + suc n) less

frame_is : (bytes : ℕ) → frame_of (immediate_ins ops.Addi registers.Sp registers.Sp (below bytes)) ≡ bytes
frame_is zero = refl
frame_is (suc n) = refl

stops : (d : Data) (m : MachineState) (bytes : ℕ) → 0 < bytes → register m registers.Sp < m.lo + bytes → move_of d m (immediate_ins ops.Addi registers.Sp registers.Sp (below bytes)) ≡ Stops (StackFull bytes)
unfolding move_of
stops d m bytes some less =
    ap (λ (b : Bool). if b then Stops (StackFull (frame_of (immediate_ins ops.Addi registers.Sp registers.Sp (below bytes)))) else Goes (results m registers.Sp (alu ops.Addi (register m registers.Sp) (word_of (below bytes))))) (full m bytes some less)
    ∙ ap (λ (n : ℕ). Stops (StackFull n)) (frame_is bytes)

pub prologue_stops : (layout : Layout) (p : Program) (d : Data) (names : Naming) (older : Context) (ends : Ends) (t : Situation) (top : Activation) (file : File) (function : ProgramFunction) (item : Item) → IsEntered layout p names older ends t top file function item → ends.sp < ends.lo + function.frame_bytes
    → (i : Ins) × (code_at layout p t.state.pc ≡ Some i) × (move_of d t.state i ≡ Stops (StackFull function.frame_bytes))
prologue_stops layout p d names older ends t top file function item at less =
    let formed = formed_of p top.function function at.accepted at.has.named in
    let least = formed.frame.least in
    let sp = at.machine.sp in
    let lo = at.machine.lo in
    let bytes = function.frame_bytes in
    let code = item_words layout p top.function function top.next item items.Prologue t.state.pc at.has at.kind tt at.at in
    (immediate_ins ops.Addi registers.Sp registers.Sp (below bytes), plain_code (code_at layout p) t.state.pc _ code.0, stops d t.state bytes (omega arith) (omega arith))
