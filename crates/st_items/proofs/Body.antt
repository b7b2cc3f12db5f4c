-- An activation behind its prologue (IsInBody): a write to a register that the function may write keeps it (body_written), and so does a change of
-- slots and of their words (body_stored), and a move to another item (body_moved).
use Rattle.std.proofs.Common.{◌≡◌, true, ℕ, ◌+◌, ◌*◌, ◌^◌, ◌<◌, ◌≤◌, List, length, Option, refl, sym, ◌∙◌, subst, arith, ◌⊎◌, inl, inr}
use Rattle.st_base.specs.declared.reg.Reg.{Reg}
use Rattle.st_base.specs.declared.reg.Reg.TheVariants as registers
use Rattle.st_base.specs.declared.thread.Held.{Held}
use Rattle.st_base.specs.declared.thread.Activation.{Activation}
use Rattle.st_base.specs.Registers.{write_register}
use Rattle.st_model.specs.declared.program.Program.{Program}
use Rattle.st_model.specs.declared.program.ProgramFunction.{ProgramFunction}
use Rattle.st_model.specs.Accepted.{IsAccepted, HasFrame, MayWrite, slots_end}
use Rattle.st_model.specs.Effect.{File, at_item}
use Rattle.st_model.specs.Layout.{saved_of}
use Rattle.st_words.specs.Steps.{place_of}
use Rattle.st_step.specs.Moves.{register, written, at_place}
use Rattle.st_step.specs.Runs.{Situation, AreWords, return_word, caller_word}
use Rattle.st_step.proofs.SavedList.{saved_counted}
use Rattle.st_step.proofs.Writes.{length-written, lo-written, hi-written, zero-written, values-written, register-written_other}
use Rattle.st_step.specs.Frames.{Naming, IsHeldAs, value_in, HasSlots, is_kept, with_saved_values}
use Rattle.st_items.proofs.FrameWords.{saved_agrees}
use Rattle.st_items.proofs.Registers.{IsOfBody, IsApart, body_apart, file_written, frameless_written, kept_written}
use Rattle.st_items.specs.Body.{Ends, IsOn, Context, SeesOutside, IsFramed, IsInBody}

-- ---- a register is written

pub machine_written : (ends : Ends) (t : Situation) (r : Reg) (n pc : ℕ) → IsApart r → n < 2 ^ 64 → IsOn ends t → IsOn ends (record { state = at_place pc (written t.state r n); word = t.word })
machine_written ends t r n pc apart less is = record {
  has_registers = record { count = length-written t.state r n ∙ is.has_registers.count; origin = zero-written t.state r n ∙ is.has_registers.origin };
  values = values-written t.state r n is.values less;
  words = is.words;
  lo = lo-written t.state r n ∙ is.lo;
  hi = hi-written t.state r n ∙ is.hi;
  sp = register-written_other t.state r registers.Sp n (λ e. apart.sp (sym e)) ∙ is.sp;
  gp = register-written_other t.state r registers.Gp n (λ e. apart.gp (sym e)) ∙ is.gp;
}

framed_written : (names : Naming) (older : Context) (word value value' : ℕ → ℕ) (bottom fp : ℕ) (function : ProgramFunction) (a : Activation) (to : ℕ) → SeesOutside older bottom (bottom + function.frame_bytes)
    → ((x : ℕ) → is_kept x ≡ true → with_saved_values word fp 0 (saved_of function) value x ≡ with_saved_values word fp 0 (saved_of function) value' x)
    → IsFramed names older word value bottom fp function a → IsFramed names older word value' bottom fp function (at_item to a)
framed_written names older word value value' bottom fp function a to sees same framed = record {
  base = framed.base;
  slots = record { bytes_long = framed.slots.bytes_long; handles_long = framed.slots.handles_long; bytes = framed.slots.bytes; handles = framed.slots.handles };
  below = sees a.kind a.kept word word (with_saved_values word fp 0 (saved_of function) value) (with_saved_values word fp 0 (saved_of function) value') (word (caller_word fp)) (word (return_word fp)) (λ q outside. refl) same framed.below;
}

pub body_written : (p : Program) (names : Naming) (older : Context) (ends : Ends) (bottom : ℕ) (t : Situation) (top : Activation) (file : File) (function : ProgramFunction) (r : Reg) (held : Held) (n pc to : ℕ) → SeesOutside older bottom (bottom + function.frame_bytes) → MayWrite function r → IsOfBody r → IsHeldAs names held n → n < 2 ^ 64
    → IsInBody p names older ends bottom t top file function → IsInBody p names older ends bottom (record { state = at_place pc (written t.state r n); word = t.word }) (at_item to top) (write_register file r held) function
body_written p names older ends bottom t top file function r held n pc to sees may of_body holds less body =
    let apart = body_apart r of_body in
    let fp = register t.state registers.S0 in
    let value' = value_in (written t.state r n) in
    let framed = framed_written names older t.word (value_in t.state) value' bottom fp function top to sees (λ x kept. kept_written function t.word fp t.state r n x may kept) body.framed in
    record {
      here = body.here;
      machine = machine_written ends t r n pc apart less body.machine;
      file = file_written names file t.state r n held body.frameless.long body.machine.has_registers body.file holds;
      frameless = frameless_written file r held apart body.frameless;
      framed = subst (λ (x : ℕ). IsFramed names older t.word value' bottom x function (at_item to top)) (sym (register-written_other t.state r registers.S0 n (λ e. apart.fp (sym e)))) framed;
    }

-- ---- slots are written

-- with other words in memory
pub machine_stored : (ends : Ends) (t : Situation) (pc : ℕ) (word : ℕ → ℕ) → AreWords word → IsOn ends t → IsOn ends (record { state = at_place pc t.state; word = word })
machine_stored ends t pc word words is = record {
  has_registers = record { count = is.has_registers.count; origin = is.has_registers.origin };
  values = is.values;
  words = words;
  lo = is.lo;
  hi = is.hi;
  sp = is.sp;
  gp = is.gp;
}

-- the words outside the slots
abbrev pub AgreeOutside : ProgramFunction → ℕ → (ℕ → ℕ) → (ℕ → ℕ) → Type 0
AgreeOutside function bottom word word' = (q : ℕ) → (q < place_of bottom) ⊎ (place_of (bottom + slots_end function) ≤ q) → word q ≡ word' q

-- at an item, with these slots
abbrev pub with_slots : Activation → ℕ → List (Option ℕ) → List (Option Held) → Activation
with_slots a next bytes handles = record a { next = next; bytes = bytes; handles = handles }

framed_stored : (names : Naming) (older : Context) (word word' value : ℕ → ℕ) (bottom fp : ℕ) (function : ProgramFunction) (a : Activation) (next : ℕ) (bytes : List (Option ℕ)) (handles : List (Option Held)) → 0x8000_0000 ≤ bottom → SeesOutside older bottom (bottom + function.frame_bytes) → HasFrame function → AgreeOutside function bottom word word'
    → HasSlots names function (with_slots a next bytes handles) word' bottom → IsFramed names older word value bottom fp function a → IsFramed names older word' value bottom fp function (with_slots a next bytes handles)
framed_stored names older word word' value bottom fp function a next bytes handles above sees frame agree slots framed =
    let few = saved_counted function in
    let room = frame.room in
    let base = framed.base in
    let agree_above : (q : ℕ) → place_of (bottom + slots_end function) ≤ q → word q ≡ word' q = λ q above. agree q (inr above) in
    let from : 0x8000_0000 ≤ bottom + slots_end function = omega arith in
    let high : bottom + slots_end function + 16 + 8 * (0 + length (saved_of function)) ≤ fp = omega arith in
    let outside : (q : ℕ) → (q < place_of bottom) ⊎ (place_of (bottom + function.frame_bytes) ≤ q) → word q ≡ word' q = λ q out. elim out [ inl less ↦ agree q (inl less) | inr more ↦ agree q (inr (omega arith)) ] in
    let at_caller : word (caller_word fp) ≡ word' (caller_word fp) = agree_above (caller_word fp) (omega arith) in
    let at_return : word (return_word fp) ≡ word' (return_word fp) = agree_above (return_word fp) (omega arith) in
    let same = sees a.kind a.kept word word' (with_saved_values word fp 0 (saved_of function) value) (with_saved_values word' fp 0 (saved_of function) value) (word (caller_word fp)) (word (return_word fp)) outside
    (λ x is. saved_agrees word word' (bottom + slots_end function) fp 0 (saved_of function) value value x (λ q least under. agree_above q least) from high refl) framed.below in
    record {
      base = base;
      slots = slots;
      below =
          subst (λ (n : ℕ). older a.kind a.kept word' (with_saved_values word' fp 0 (saved_of function) value) (word' (caller_word fp)) n) at_return
          (subst (λ (n : ℕ). older a.kind a.kept word' (with_saved_values word' fp 0 (saved_of function) value) n (word (return_word fp))) at_caller same);
    }

pub body_stored : (p : Program) (names : Naming) (older : Context) (ends : Ends) (bottom : ℕ) (t : Situation) (top : Activation) (file : File) (function : ProgramFunction) (pc next : ℕ) (word : ℕ → ℕ) (bytes : List (Option ℕ)) (handles : List (Option Held)) → IsAccepted p → 0x8000_0000 ≤ bottom → SeesOutside older bottom (bottom + function.frame_bytes) → AreWords word
    → AgreeOutside function bottom t.word word → HasSlots names function (with_slots top next bytes handles) word bottom → IsInBody p names older ends bottom t top file function
    → IsInBody p names older ends bottom (record { state = at_place pc t.state; word = word }) (with_slots top next bytes handles) file function
body_stored p names older ends bottom t top file function pc next word bytes handles accepted above sees words agree slots body =
    let frame : HasFrame function = (accepted.functions top.function function body.here).formed.frame in
    record {
      here = body.here;
      machine = machine_stored ends t pc word words body.machine;
      file = body.file;
      frameless = body.frameless;
      framed = framed_stored names older t.word word (value_in t.state) bottom (register t.state registers.S0) function top next bytes handles above sees frame agree slots body.framed;
    }

-- ---- another place

-- the activation at another item, with the machine at another place
pub body_moved : (p : Program) (names : Naming) (older : Context) (ends : Ends) (bottom : ℕ) (t : Situation) (top : Activation) (file : File) (function : ProgramFunction) (pc to : ℕ) → IsInBody p names older ends bottom t top file function
    → IsInBody p names older ends bottom (record { state = at_place pc t.state; word = t.word }) (at_item to top) file function
body_moved p names older ends bottom t top file function pc to body =
    let on = body.machine in
    let framed = body.framed in
    let slots = framed.slots in
    record {
      here = body.here;
      machine = machine_stored ends t pc t.word on.words on;
      file = body.file;
      frameless = body.frameless;
      framed = record {
        base = framed.base;
        slots = record { bytes_long = slots.bytes_long; handles_long = slots.handles_long; bytes = slots.bytes; handles = slots.handles };
        below = framed.below;
      };
    }
