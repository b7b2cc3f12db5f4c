-- Where an access of a slot is: at its place above the frame's low end, in one word of the stack, which is held (IsSlotAt, from slot_at). What
-- the machine does there: a load reads the bytes of that word (slot_loads), a store writes them, in two steps where they are less than
-- eight (slot_stores).
use Rattle.std.proofs.Common.{◌-◌, ◌≡◌, ◌⊎◌, inl, inr, ℕ, ◌+◌, ◌%◌, ◌^◌, ◌<◌, ◌≤◌, ◌==◌, Bool, true, false, Option, Some, None, refl, ap, sym, ◌∙◌, arith, if◌then◌else◌}
use Rattle.std.proofs.lemmas.Bool.{and_from, and_left, le-leb, lt-ltb, eqb-true}
use Rattle.st_base.specs.declared.reg.Reg.{Reg}
use Rattle.st_base.specs.declared.reg.Reg.TheVariants as registers
use Rattle.st_base.specs.Reg.{reg_number}
use Rattle.st_rv.specs.declared.ins.Op.{Op}
use Rattle.st_rv.specs.declared.ins.Op.TheVariants as ops
use Rattle.st_rv.specs.declared.ins.OpKind.TheVariants as kinds
use Rattle.st_rv.specs.declared.ins.Ins.{Ins}
use Rattle.st_rv.specs.Op.{kind_of}
use Rattle.st_rv.specs.Results.{word_of, access_size, extended}
use Rattle.st_model.specs.declared.program.Item.{Item}
use Rattle.st_model.specs.declared.program.Program.{Program}
use Rattle.st_model.specs.declared.program.ProgramFunction.{ProgramFunction}
use Rattle.st_model.specs.Accepted.{HasFrame, IsSlot, slots_end}
use Rattle.st_model.specs.Effect.{File, is_frame}
use Rattle.st_model.specs.Memory.{Data, slot_place}
use Rattle.st_words.specs.Steps.{place_of}
use Rattle.st_step.specs.declared.state.State.{State as MachineState}
use Rattle.st_step.specs.Moves.{Marks, Writes, Reads, Outside, move_of, register, results, goes_on, next_pc, at_place, address_of, in_one_word, bytes_of, with_bytes, is_stack, is_mark, stack_load, data_load, stack_store, word_store, short_store}
use Rattle.st_step.specs.Runs.{Situation, AreWords, where_held, stored, moved}
use Rattle.st_items.specs.Code.{code_at}
use Rattle.st_items.proofs.Registers.{frame_is}
use Rattle.st_items.proofs.SlotBytes.{IsInWord, with_number, whole_stored}
use Rattle.st_items.proofs.Ways.{leads_once}
use Rattle.st_items.proofs.Computes.{moves_as}
use Rattle.st_items.specs.Body.{Ends, Context, IsAtLine}
use Rattle.st_items.specs.Ways.{Leads}
use Rattle.st_model.specs.declared.code.Layout.{Layout}
use Rattle.st_step.specs.Frames.{Naming}
use Rattle.st_base.specs.declared.thread.Activation.{Activation}

-- ---- sizes

-- an access is of 1, 2, 4 or 8 bytes
abbrev IsSize : ℕ → Type 0
IsSize k = (k ≡ 1) ⊎ ((k ≡ 2) ⊎ ((k ≡ 4) ⊎ (k ≡ 8)))

size_is : (op : Op) → IsSize (access_size op)
unfolding access_size
size_is ops.Lb = inl refl
size_is ops.Lbu = inl refl
size_is ops.Sb = inl refl
size_is ops.Lh = inr (inl refl)
size_is ops.Lhu = inr (inl refl)
size_is ops.Sh = inr (inl refl)
size_is ops.Lw = inr (inr (inl refl))
size_is ops.Lwu = inr (inr (inl refl))
size_is ops.Sw = inr (inr (inl refl))
size_is _ = inr (inr (inr refl))

-- an aligned access above a multiple of eight lies in one word
aligned_within : (low at size : ℕ) → IsSize size → low % 16 ≡ 0 → at % size ≡ 0 → (low + at) % 8 + size ≤ 8
aligned_within low at size (inl one) multiple aligned = omega arith
aligned_within low at size (inr (inl two)) multiple aligned = let e : at % 2 ≡ 0 = ap (λ (k : ℕ). at % k) (sym two) ∙ aligned in omega arith
aligned_within low at size (inr (inr (inl four))) multiple aligned = let e : at % 4 ≡ 0 = ap (λ (k : ℕ). at % k) (sym four) ∙ aligned in omega arith
aligned_within low at size (inr (inr (inr eight))) multiple aligned = let e : at % 8 ≡ 0 = ap (λ (k : ℕ). at % k) (sym eight) ∙ aligned in omega arith

some_size : (size : ℕ) → IsSize size → 0 < size
some_size size (inl one) = omega arith
some_size size (inr (inl two)) = omega arith
some_size size (inr (inr (inl four))) = omega arith
some_size size (inr (inr (inr eight))) = omega arith

-- a load of eight bytes gives them as they are
pub whole_extended : (op : Op) (n : ℕ) → access_size op ≡ 8 → extended op n ≡ n
unfolding access_size extended
whole_extended ops.Lb n eight = absurd (omega arith)
whole_extended ops.Lh n eight = absurd (omega arith)
whole_extended ops.Lw n eight = absurd (omega arith)
whole_extended _ n eight = refl

-- ---- the place

pub record IsSlotAt (held_words : ℕ → Bool) (function : ProgramFunction) (t : Situation) (i : Ins) (low at : ℕ) : Type 0 where
  pub above : 0x8000_0000 ≤ low
  pub high : low + slots_end function < 0x8000_0000 + 2 ^ 32
  pub multiple : low % 16 ≡ 0
  pub end : slots_end function % 8 ≡ 0
  pub frame : is_stack i.rs1 ≡ true
  pub unmarked : is_mark i ≡ false
  pub address : address_of t.state i ≡ low + at
  pub within : at + access_size i.op ≤ slots_end function
  pub some : 0 < access_size i.op
  pub in_word : IsInWord (low + at) (access_size i.op)
  pub held : held_words (place_of (low + at)) ≡ true

-- both kinds of slots end below the return word, the caller's s0 and the saved registers
slot_within : (function : ProgramFunction) (i : Ins) (r : Reg) → HasFrame function → IsSlot function i r → slot_place function.frame_bytes i.imm + access_size i.op ≤ slots_end function
slot_within function i r frame (aligned, inl ints) = ints.2
slot_within function i r frame (aligned, inr handles) = let room = frame.room in let size = handles.1 in let high = handles.2 in omega arith

high_place : (sp bytes w at fp : ℕ) → at ≡ (bytes + w) % 2 ^ 64 → fp ≡ sp + bytes → fp < 2 ^ 63 → at ≤ bytes → (fp + w) % 2 ^ 64 ≡ sp + at
high_place sp bytes w at fp place base high inside = omega arith

frame_stack : (r : Reg) → is_frame r ≡ true → is_stack r ≡ true
frame_stack r is = ap is_stack (frame_is r is)

pub slot_at : (layout : Layout) (p : Program) (held : ℕ → Bool) (names : Naming) (older : Context) (ends : Ends) (bottom : ℕ) (t : Situation) (top : Activation) (file : File) (function : ProgramFunction) (item : Item) (i : Ins) (r : Reg) → IsAtLine layout p held names older ends bottom t top file function item → is_frame i.rs1 ≡ true → IsSlot function i r
    → IsSlotAt held function t i bottom (slot_place function.frame_bytes i.imm)
slot_at layout p held names older ends bottom t top file function item i r line is slot =
    let at = slot_place function.frame_bytes i.imm in
    let frame : HasFrame function = (line.accepted.functions top.function function line.has.named).formed.frame in
    let within = slot_within function i r frame slot in
    let base = line.body.framed.base in
    let multiple = line.frame.multiple in
    let above = line.frame.above in
    let high = line.frame.high in
    let size = size_is i.op in
    let some = some_size (access_size i.op) size in
    let frame_multiple = frame.multiple in
    let room = frame.room in
    let register_is : register t.state i.rs1 ≡ register t.state registers.S0 = ap (register t.state) (frame_is i.rs1 is) in
    let place = high_place bottom function.frame_bytes (word_of i.imm) at (register t.state registers.S0) refl base (omega arith) (omega arith) in
    let inside = aligned_within bottom at (access_size i.op) size multiple slot.0 in
    let to : place_of (bottom + at) < place_of (bottom + function.frame_bytes) = omega arith in
    let whole : bottom + function.frame_bytes - function.frame_bytes ≡ bottom = omega arith in
    let from : place_of (bottom + function.frame_bytes - function.frame_bytes) ≤ place_of (bottom + at) = omega arith in
    record {
      above = above;
      high = omega arith;
      multiple = multiple;
      end = omega arith;
      frame = frame_stack i.rs1 is;
      unmarked = and_left _ _ (and_left _ _ (ap (λ (x : Reg). reg_number x == reg_number registers.Tp) (frame_is i.rs1 is)));
      address = ap (λ (x : ℕ). (x + word_of i.imm) % 2 ^ 64) register_is ∙ place;
      within = within;
      some = some;
      in_word = record { low = omega arith; within = inside };
      held = line.frame.holds (place_of (bottom + at)) from to;
    }

-- ---- what the machine does

module _ (layout : Layout) (p : Program) (d : Data) (held : ℕ → Bool) (function : ProgramFunction) (t : Situation) (i : Ins) (low at : ℕ) (slot : IsSlotAt held function t i low at) where
  one_word : in_one_word (low + at) (access_size i.op) ≡ true
  one_word =
      let above = slot.in_word.low in
      let within = slot.within in
      let far = slot.high in
      let some = slot.some in
      let high : low + at < 0x8000_0000 + 2 ^ 32 = omega arith in
      and_from _ _ (and_from _ _ (le-leb 0x8000_0000 (low + at) above) (lt-ltb (low + at) (0x8000_0000 + 2 ^ 32) high)) (le-leb ((low + at) % 8 + access_size i.op) 8 slot.in_word.within)

  spoken : (s : Situation) → where_held (held (place_of (low + at))) s ≡ Some s
  spoken s = ap (λ (b : Bool). where_held b s) slot.held

  pub slot_loads : kind_of i.op ≡ kinds.Load → moved held t (move_of d t.state i) ≡ Some (record { state = results t.state i.rd (extended i.op (bytes_of (t.word (place_of (low + at))) ((low + at) % 8) (access_size i.op))); word = t.word })
  slot_loads kind =
      ap (moved held t) (moves_as kinds.Load d t.state i kind)
      ∙ ap (λ (b : Bool). moved held t (if b then stack_load t.state i (address_of t.state i) else data_load d t.state i (address_of t.state i))) slot.frame
      ∙ ap (λ (a : ℕ). moved held t (stack_load t.state i a)) slot.address
      ∙ ap (λ (b : Bool). moved held t (if b then Reads (place_of (low + at)) (λ (n : ℕ). results t.state i.rd (extended i.op (bytes_of n ((low + at) % 8) (access_size i.op)))) else Outside)) one_word
      ∙ spoken (record { state = results t.state i.rd (extended i.op (bytes_of (t.word (place_of (low + at))) ((low + at) % 8) (access_size i.op))); word = t.word })

  -- the machine may be in the middle of the store
  store_at : (m : MachineState) → address_of m i ≡ low + at → kind_of i.op ≡ kinds.Store → move_of d m i ≡ (if access_size i.op == 8 then word_store m i (place_of (low + at)) else short_store m i (low + at) m.half)
  store_at m address kind =
      moves_as kinds.Store d m i kind
      ∙ ap (λ (b : Bool). if b then stack_store m i (address_of m i) else Outside) slot.frame
      ∙ ap (λ (a : ℕ). stack_store m i a) address
      ∙ ap (λ (b : Bool). if b then (if access_size i.op == 8 then word_store m i (place_of (low + at)) else short_store m i (low + at) m.half) else Outside) one_word

  -- the next instruction, with these words
  abbrev store_ends : (ℕ → ℕ) → Situation
  store_ends word = record { state = at_place (next_pc t.state.pc) t.state; word = word }

  pub whole_same : access_size i.op ≡ 8 → AreWords t.word → (n : ℕ) → n < 2 ^ 64 → n ≡ with_bytes (t.word (place_of (low + at))) ((low + at) % 8) (access_size i.op) n
  whole_same eight words n less =
      let within = slot.in_word.within in
      let first : (low + at) % 8 ≡ 0 = omega arith in
      let w = t.word (place_of (low + at)) in
      sym (ap (λ (k : ℕ). with_bytes w k (access_size i.op) n) first ∙ ap (λ (k : ℕ). with_bytes w 0 k n) eight ∙ whole_stored w n (words (place_of (low + at))) less)

  whole_stores : (access_size i.op == 8) ≡ true → kind_of i.op ≡ kinds.Store → AreWords t.word → register t.state i.rs2 < 2 ^ 64
      → moved held t (move_of d t.state i) ≡ Some (store_ends (with_number t.word (low + at) (access_size i.op) (register t.state i.rs2)))
  whole_stores eight kind words less =
      let n = register t.state i.rs2 in
      let place = place_of (low + at) in
      ap (moved held t) (store_at t.state slot.address kind)
      ∙ ap (λ (b : Bool). moved held t (if b then word_store t.state i place else short_store t.state i (low + at) t.state.half)) eight
      ∙ ap (λ (b : Bool). moved held t (if b then Marks place (goes_on t.state) else Writes place n (goes_on t.state))) slot.unmarked
      ∙ spoken (store_ends (stored place n t.word))
      ∙ ap (λ (x : ℕ). Some (store_ends (stored place x t.word))) (whole_same (eqb-true (access_size i.op) 8 eight) words n less)

  -- with the word in hand
  abbrev half_done : Situation
  half_done = record { state = record t.state { half = Some (t.word (place_of (low + at))) }; word = t.word }

  short_begins : (access_size i.op == 8) ≡ false → kind_of i.op ≡ kinds.Store → t.state.half ≡ None → moved held t (move_of d t.state i) ≡ Some half_done
  short_begins short kind whole =
      let place = place_of (low + at) in
      ap (moved held t) (store_at t.state slot.address kind)
      ∙ ap (λ (b : Bool). moved held t (if b then word_store t.state i place else short_store t.state i (low + at) t.state.half)) short
      ∙ ap (λ (o : Option ℕ). moved held t (short_store t.state i (low + at) o)) whole
      ∙ spoken half_done

  short_ends : (access_size i.op == 8) ≡ false → kind_of i.op ≡ kinds.Store
      → moved held half_done (move_of d half_done.state i) ≡ Some (store_ends (with_number t.word (low + at) (access_size i.op) (register t.state i.rs2)))
  short_ends short kind =
      let place = place_of (low + at) in
      ap (moved held half_done) (store_at half_done.state slot.address kind)
      ∙ ap (λ (b : Bool). moved held half_done (if b then word_store half_done.state i place else short_store half_done.state i (low + at) half_done.state.half)) short
      ∙ spoken (store_ends (with_number t.word (low + at) (access_size i.op) (register t.state i.rs2)))

  some_half : Some (t.word (place_of (low + at))) ≡ None → ⊥
  some_half same = cc

  pub slot_stores : kind_of i.op ≡ kinds.Store → AreWords t.word → register t.state i.rs2 < 2 ^ 64 → t.state.half ≡ None → code_at layout p t.state.pc ≡ Some i
      → Leads layout p d held t (record { state = at_place (next_pc t.state.pc) t.state; word = with_number t.word (low + at) (access_size i.op) (register t.state i.rs2) })
  slot_stores kind words less whole there = by_size (access_size i.op == 8) refl
    where
      by_size : (b : Bool) → (access_size i.op == 8) ≡ b → Leads layout p d held t (store_ends (with_number t.word (low + at) (access_size i.op) (register t.state i.rs2)))
      by_size true eight = leads_once layout p d held t (store_ends (with_number t.word (low + at) (access_size i.op) (register t.state i.rs2))) i there (whole_stores eight kind words less)
      by_size false short = (
        half_done,
        record { ins = i; there = there; goes = short_begins short kind whole },
        (
          1,
          omega arith,
          (
            inl some_half,
            (store_ends (with_number t.word (low + at) (access_size i.op) (register t.state i.rs2)), record { ins = i; there = there; goes = short_ends short kind }, refl),
          ),
        ),
      )
