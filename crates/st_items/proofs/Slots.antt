-- Slot loads and stores: of numbers, by their bytes, and of names, whole words (frame_load_goes, store_goes).
use Rattle.std.proofs.Common.{◌≡◌, ◌≢◌, ◌⊎◌, inl, inr, ℕ, ◌+◌, ◌-◌, ◌*◌, ◌/◌, ◌%◌, ◌^◌, ◌<◌, ◌≤◌, nat_le, nat_lt, Bool, true, false, length, Some, None, slice_index_or, slice_set, refl, ap, sym, ◌∙◌, subst, arith}
use Rattle.std.proofs.lemmas.Bool.{leb-true, cases_eq, cases_lt}
use Rattle.std.proofs.lemmas.List.{length-set, get_or-set_same, get_or-set_other}
use Rattle.st_base.specs.Reg.{reg_number}
use Rattle.st_base.specs.declared.thread.Held.{Held}
use Rattle.st_base.specs.declared.thread.Held.TheVariants.{Number}
use Rattle.st_base.specs.declared.thread.Activation.{Activation}
use Rattle.st_base.specs.Registers.{read_register}
use Rattle.st_base.specs.Slots.{store_bytes}
use Rattle.st_rv.specs.declared.ins.OpKind.TheVariants as kinds
use Rattle.st_rv.specs.declared.ins.Ins.{Ins}
use Rattle.st_rv.specs.Op.{kind_of}
use Rattle.st_rv.specs.Results.{access_size, extended}
use Rattle.st_model.specs.declared.program.Item.{Item}
use Rattle.st_model.specs.declared.program.ItemKind.TheVariants.{Plain}
use Rattle.st_model.specs.declared.program.Program.{Program}
use Rattle.st_model.specs.declared.program.ProgramFunction.{ProgramFunction}
use Rattle.st_model.specs.Accepted.{IsSlot, IsInt, IsHandle, MayWrite, slots_end}
use Rattle.st_model.specs.Effect.{File, int, name_of, is_frame, is_handle, slot_load, slot_store, store_effect}
use Rattle.st_model.specs.Memory.{Data, load_from, slot_byte, slot_place}
use Rattle.st_words.specs.Steps.{place_of}
use Rattle.st_step.specs.Moves.{register, bytes_of, with_bytes, next_pc, at_place}
use Rattle.st_step.specs.Runs.{Situation, AreWords}
use Rattle.st_step.proofs.ResultBounds.{extended_fits, bytes_fit}
use Rattle.st_step.proofs.WordParts.{joined_fits}
use Rattle.st_step.specs.Frames.{Naming, IsHeldAs, byte_at, HasSlots}
use Rattle.st_items.proofs.FrameWords.{stored_same, stored_other, stored_words}
use Rattle.st_items.proofs.SlotBytes.{byte_of, with_number, loads_number, byte_stored, byte_kept, length-stored, stored_inside, stored_outside}
use Rattle.st_items.proofs.Registers.{int_no_handle}
use Rattle.st_items.proofs.Body.{with_slots, AgreeOutside}
use Rattle.st_items.proofs.AtLine.{number_cases, name_cases, within_cases, number_held, name_is, line_stored}
use Rattle.st_items.proofs.Computes.{plain_size, plain_there, plain_result}
use Rattle.st_items.proofs.SlotPlaces.{IsSlotAt, slot_at, slot_loads, slot_stores, whole_extended, whole_same}
use Rattle.st_items.specs.Body.{Ends, Context, IsAtLine, EffectStands}
use Rattle.st_items.specs.Ways.{Leads}
use Rattle.st_model.specs.declared.code.Layout.{Layout}

-- ---- what a load finds

module _ (held_words : ℕ → Bool) (names : Naming) (function : ProgramFunction) (t : Situation) (i : Ins) (low at : ℕ) (a : Activation) (slot : IsSlotAt held_words function t i low at) (slots : HasSlots names function a t.word low) where
  -- in integer slots
  number_found : (v : ℕ) → 8 * function.slots ≤ at → load_from (slot_byte a.bytes) at (access_size i.op) ≡ Some v → v ≡ bytes_of (t.word (place_of (low + at))) ((low + at) % 8) (access_size i.op)
  number_found v least there =
      let within = slot.within in
      loads_number (slot_byte a.bytes) t.word at (low + at) (access_size i.op) v slot.in_word
      (λ x b less here.
      let same : low + (at + x) ≡ low + at + x = omega arith in
      subst (λ (n : ℕ). byte_at t.word n ≡ b) same (slots.bytes (at + x) b (omega arith) (omega arith) here))
      there

  whole_place : access_size i.op ≡ 8 → place_of (low + at) ≡ place_of low + at / 8
  whole_place eight = let within = slot.in_word.within in let multiple = slot.multiple in let above = slot.above in omega arith

  whole_found : access_size i.op ≡ 8 → AreWords t.word → extended i.op (bytes_of (t.word (place_of (low + at))) ((low + at) % 8) (access_size i.op)) ≡ t.word (place_of (low + at))
  whole_found eight words =
      let within = slot.in_word.within in
      let first : (low + at) % 8 ≡ 0 = omega arith in
      let w = t.word (place_of (low + at)) in
      let less = words (place_of (low + at)) in
      let whole : w / 1 % 2 ^ 64 ≡ w = omega arith in
      whole_extended i.op (bytes_of w ((low + at) % 8) (access_size i.op)) eight
      ∙ ap (λ (k : ℕ). bytes_of w k (access_size i.op)) first
      ∙ ap (λ (k : ℕ). bytes_of w 0 k) eight
      ∙ whole

  -- in handle slots
  name_found : (name : Held) → access_size i.op ≡ 8 → at + 8 ≤ 8 * function.slots → AreWords t.word → slice_index_or a.handles (at / 8) None ≡ Some name
      → IsHeldAs names name (extended i.op (bytes_of (t.word (place_of (low + at))) ((low + at) % 8) (access_size i.op)))
  name_found name eight most words there =
      let holds = slots.handles (at / 8) name (omega arith) there in
      subst (λ (n : ℕ). IsHeldAs names name n) (sym (whole_found eight words ∙ ap t.word (whole_place eight))) holds

  -- ---- what a store leaves

  -- the words above the slots stay
  store_below : (n : ℕ) → AgreeOutside function low t.word (with_number t.word (low + at) (access_size i.op) n)
  store_below n q out =
      let within = slot.within in
      let some = slot.some in
      let multiple = slot.multiple in
      let end = slot.end in
      let lower = slot.above in
      let other : q ≢ place_of (low + at) = λ same. elim out [ inl less ↦ absurd (omega arith) | inr above ↦ absurd (omega arith) ] in
      sym (stored_other (place_of (low + at)) (with_bytes (t.word (place_of (low + at))) ((low + at) % 8) (access_size i.op) n) t.word q other)

  store_words : (n : ℕ) → AreWords t.word → AreWords (with_number t.word (low + at) (access_size i.op) n)
  store_words n words =
      let w = t.word (place_of (low + at)) in
      stored_words (place_of (low + at)) (with_bytes w ((low + at) % 8) (access_size i.op) n) t.word (joined_fits w ((low + at) % 8) (access_size i.op) n (words (place_of (low + at))) slot.in_word.within) words

  kept_byte : (v k b : ℕ) → 8 * function.slots ≤ k → k < slots_end function → (k < at) ⊎ (at + access_size i.op ≤ k) → slice_index_or a.bytes k None ≡ Some b → byte_at (with_number t.word (low + at) (access_size i.op) v) (low + k) ≡ b
  kept_byte v k b least most apart there =
      let lower = slot.above in
      byte_kept t.word (low + at) (access_size i.op) v (low + k) slot.in_word (omega arith) (elim apart [ inl less ↦ inl (omega arith) | inr more ↦ inr (omega arith) ]) ∙ slots.bytes k b least most there

  stored_byte : (v k b : ℕ) → at + access_size i.op ≤ length a.bytes → 8 * function.slots ≤ k → k < slots_end function → slice_index_or (store_bytes a.bytes at (access_size i.op) v) k None ≡ Some b
      → byte_at (with_number t.word (low + at) (access_size i.op) v) (low + k) ≡ b
  stored_byte v k b room least most there = choose (cases_lt k at) (cases_lt k (at + access_size i.op))
    where
      choose : (k < at) ⊎ (at ≤ k) → (k < at + access_size i.op) ⊎ (at + access_size i.op ≤ k) → byte_at (with_number t.word (low + at) (access_size i.op) v) (low + k) ≡ b
      choose (inl less) behind = kept_byte v k b least most (inl less) (sym (stored_outside a.bytes at (access_size i.op) v k (inl less)) ∙ there)
      choose (inr more) (inr past) = kept_byte v k b least most (inr past) (sym (stored_outside a.bytes at (access_size i.op) v k (inr past)) ∙ there)
      choose (inr more) (inl inside) =
          let x = k - at in
          let less : x < access_size i.op = omega arith in
          let place : at + x ≡ k = omega arith in
          let address : low + at + x ≡ low + k = omega arith in
          let new = stored_inside a.bytes at (access_size i.op) v x room less in
          let there_too : slice_index_or (store_bytes a.bytes at (access_size i.op) v) (at + x) None ≡ Some b = ap (λ (j : ℕ). slice_index_or (store_bytes a.bytes at (access_size i.op) v) j None) place ∙ there in
          let byte : byte_of v x ≡ b = cc in
          ap (byte_at (with_number t.word (low + at) (access_size i.op) v)) (sym address) ∙ byte_stored t.word (low + at) (access_size i.op) v x slot.in_word less ∙ byte

  -- a number in integer slots
  number_slots : (next v : ℕ) → 8 * function.slots ≤ at → at + access_size i.op ≤ length a.bytes
      → HasSlots names function (with_slots a next (store_bytes a.bytes at (access_size i.op) v) a.handles) (with_number t.word (low + at) (access_size i.op) v) low
  number_slots next v least room = record {
    bytes_long = length-stored a.bytes at (access_size i.op) v ∙ slots.bytes_long;
    handles_long = slots.handles_long;
    bytes = λ k b from to there. stored_byte v k b room from to there;
    handles = λ k held few there.
        let multiple = slot.multiple in
        let lower = slot.above in
        let other : place_of low + k ≢ place_of (low + at) = omega arith in
        let same = stored_other (place_of (low + at)) (with_bytes (t.word (place_of (low + at))) ((low + at) % 8) (access_size i.op) v) t.word (place_of low + k) other in
        subst (λ (n : ℕ). IsHeldAs names held n) (sym same) (slots.handles k held few there);
  }

  -- a name in handle slots
  name_slots : (next n : ℕ) (name : Held) → access_size i.op ≡ 8 → at + 8 ≤ 8 * function.slots → n ≡ with_bytes (t.word (place_of (low + at))) ((low + at) % 8) (access_size i.op) n → IsHeldAs names name n
      → HasSlots names function (with_slots a next a.bytes (slice_set a.handles (at / 8) (Some name))) (with_number t.word (low + at) (access_size i.op) n) low
  name_slots next n name eight most whole holds = record {
    bytes_long = slots.bytes_long;
    handles_long = length-set a.handles (at / 8) (Some name) ∙ slots.handles_long;
    bytes = λ k b from to there. kept_byte n k b from to (inr (omega arith)) there;
    handles = λ k held few there. choose k held few there (cases_eq k (at / 8));
  }
    where
      value : ℕ
      value = with_bytes (t.word (place_of (low + at))) ((low + at) % 8) (access_size i.op) n

      choose : (k : ℕ) (held : Held) → k < function.slots → slice_index_or (slice_set a.handles (at / 8) (Some name)) k None ≡ Some held → (k ≡ at / 8) ⊎ (k ≡ at / 8 → ⊥) → IsHeldAs names held (with_number t.word (low + at) (access_size i.op) n (place_of low + k))
      choose k held few there (inl same) =
          let long = slots.handles_long in
          let inside : at / 8 < length a.handles = omega arith in
          let new = get_or-set_same a.handles (at / 8) (Some name) None inside in
          let there_too : slice_index_or (slice_set a.handles (at / 8) (Some name)) (at / 8) None ≡ Some held = ap (λ (j : ℕ). slice_index_or (slice_set a.handles (at / 8) (Some name)) j None) (sym same) ∙ there in
          let name_is_held : name ≡ held = cc in
          let place : place_of (low + at) ≡ place_of low + k = whole_place eight ∙ ap (λ (j : ℕ). place_of low + j) (sym same) in
          let found : n ≡ with_number t.word (low + at) (access_size i.op) n (place_of low + k) =
          whole ∙ sym (stored_same (place_of (low + at)) (with_bytes (t.word (place_of (low + at))) ((low + at) % 8) (access_size i.op) n) t.word) ∙ ap (with_number t.word (low + at) (access_size i.op) n) place in
          subst (λ (x : ℕ). IsHeldAs names held x) found (subst (λ (h : Held). IsHeldAs names h n) name_is_held holds)
      choose k held few there (inr other) =
          let place = whole_place eight in
          let apart : place_of low + k ≢ place_of (low + at) = omega arith in
          let same = stored_other (place_of (low + at)) (with_bytes (t.word (place_of (low + at))) ((low + at) % 8) (access_size i.op) n) t.word (place_of low + k) apart in
          subst (λ (x : ℕ). IsHeldAs names held x) (sym same) (slots.handles k held few (sym (get_or-set_other a.handles (at / 8) k (Some name) None other) ∙ there))

-- ---- the turns

module _ (layout : Layout) (p : Program) (d : Data) (held : ℕ → Bool) (names : Naming) (older : Context) (ends : Ends) (bottom : ℕ) (t : Situation) (top : Activation) (file : File) (function : ProgramFunction) (item : Item) (line : IsAtLine layout p held names older ends bottom t top file function item) (i : Ins) (is : item.kind ≡ Plain i) where
  -- the place
  abbrev at : ℕ
  at = slot_place function.frame_bytes i.imm

  number_load_goes : IsSlotAt held function t i bottom at → kind_of i.op ≡ kinds.Load → IsInt i.rd → 8 * function.slots ≤ at → MayWrite function i.rd → EffectStands layout p d held names older ends bottom t function (slot_load false i at top file)
  number_load_goes slot kind ints least may =
      within_cases layout p d held names older ends bottom t top file function item (nat_le (at + access_size i.op) (length top.bytes)) _ (λ inside. number_cases layout p d held names older ends bottom t top file function item (load_from (slot_byte top.bytes) at (access_size i.op)) _ (λ v there.
      let found = bytes_of (t.word (place_of (bottom + at))) ((bottom + at) % 8) (access_size i.op) in
      let less = extended_fits i.op found (bytes_fit (t.word (place_of (bottom + at))) ((bottom + at) % 8) (access_size i.op) (line.body.machine.words (place_of (bottom + at)))) in
      plain_result layout p d held names older ends bottom t top file function item line i is (extended i.op found) (Number (extended i.op v)) (slot_loads layout p d held function t i bottom at slot kind) may (inl ints)
      (ap (extended i.op) (sym (number_found held names function t i bottom at top slot line.body.framed.slots v least there))) less))

  name_load_goes : IsSlotAt held function t i bottom at → kind_of i.op ≡ kinds.Load → IsHandle i.rd → access_size i.op ≡ 8 → at + 8 ≤ 8 * function.slots → MayWrite function i.rd → EffectStands layout p d held names older ends bottom t function (slot_load true i at top file)
  name_load_goes slot kind handle eight most may =
      name_cases layout p d held names older ends bottom t top file function item (name_of (slice_index_or top.handles (at / 8) None)) _ (λ name there.
      let found = bytes_of (t.word (place_of (bottom + at))) ((bottom + at) % 8) (access_size i.op) in
      let less = extended_fits i.op found (bytes_fit (t.word (place_of (bottom + at))) ((bottom + at) % 8) (access_size i.op) (line.body.machine.words (place_of (bottom + at)))) in
      plain_result layout p d held names older ends bottom t top file function item line i is (extended i.op found) name (slot_loads layout p d held function t i bottom at slot kind) may (inr handle)
      (name_found held names function t i bottom at top slot line.body.framed.slots name eight most line.body.machine.words (name_is (slice_index_or top.handles (at / 8) None) name there)) less)

  pub frame_load_goes : kind_of i.op ≡ kinds.Load → is_frame i.rs1 ≡ true → IsSlot function i i.rd → MayWrite function i.rd → EffectStands layout p d held names older ends bottom t function (slot_load (is_handle i.rd) i (slot_place (length top.bytes) i.imm) top file)
  frame_load_goes kind frame fits may =
      subst (λ (n : ℕ). EffectStands layout p d held names older ends bottom t function (slot_load (is_handle i.rd) i (slot_place n i.imm) top file)) (sym line.body.framed.slots.bytes_long) (by_class fits.1)
    where
      slot : IsSlotAt held function t i bottom at
      slot = slot_at layout p held names older ends bottom t top file function item i i.rd line frame fits

      by_class : (IsInt i.rd × (8 * function.slots ≤ at) × (at + access_size i.op ≤ slots_end function)) ⊎ (IsHandle i.rd × (access_size i.op ≡ 8) × (at + 8 ≤ 8 * function.slots)) → EffectStands layout p d held names older ends bottom t function (slot_load (is_handle i.rd) i at top file)
      by_class (inl ints) = subst (λ (b : Bool). EffectStands layout p d held names older ends bottom t function (slot_load b i at top file)) (sym (int_no_handle i.rd ints.0)) (number_load_goes slot kind ints.0 ints.1 may)
      by_class (inr handles) = subst (λ (b : Bool). EffectStands layout p d held names older ends bottom t function (slot_load b i at top file)) (sym handles.0) (name_load_goes slot kind handles.0 handles.1 handles.2 may)

  -- the store, of a number that its register has
  stores : IsSlotAt held function t i bottom at → kind_of i.op ≡ kinds.Store → (n : ℕ) → register t.state i.rs2 ≡ n → Leads layout p d held t (record { state = at_place (next_pc t.state.pc) t.state; word = with_number t.word (bottom + at) (access_size i.op) n })
  stores slot kind n same =
      subst (λ (x : ℕ). Leads layout p d held t (record { state = at_place (next_pc t.state.pc) t.state; word = with_number t.word (bottom + at) (access_size i.op) x })) same
      (slot_stores layout p d held function t i bottom at slot kind line.body.machine.words (line.body.machine.values (reg_number i.rs2)) line.whole (plain_there layout p held names older ends bottom t top file function item i line is))

  number_store_goes : IsSlotAt held function t i bottom at → kind_of i.op ≡ kinds.Store → 8 * function.slots ≤ at → EffectStands layout p d held names older ends bottom t function (slot_store false i at top file)
  number_store_goes slot kind least =
      number_cases layout p d held names older ends bottom t top file function item (int file i.rs2) _ (λ v there. within_cases layout p d held names older ends bottom t top file function item (nat_le (at + access_size i.op) (length top.bytes)) _ (λ inside.
      let slots = line.body.framed.slots in
      let words = line.body.machine.words in
      line_stored layout p d held names older ends bottom t top file function item line (with_number t.word (bottom + at) (access_size i.op) v) (store_bytes top.bytes at (access_size i.op) v) top.handles (plain_size layout function item i is)
      (stores slot kind v (number_held names file t.state i.rs2 v line.body.file there))
      (store_words held names function t i bottom at top slot slots v words) (store_below held names function t i bottom at top slot slots v)
      (number_slots held names function t i bottom at top slot slots (top.next + 1) v least (leb-true (at + access_size i.op) (length top.bytes) inside))))

  name_store_goes : IsSlotAt held function t i bottom at → kind_of i.op ≡ kinds.Store → access_size i.op ≡ 8 → at + 8 ≤ 8 * function.slots → EffectStands layout p d held names older ends bottom t function (slot_store true i at top file)
  name_store_goes slot kind eight most =
      name_cases layout p d held names older ends bottom t top file function item (name_of (read_register file i.rs2)) _ (λ name there. within_cases layout p d held names older ends bottom t top file function item (nat_lt (at / 8) (length top.handles)) _ (λ inside.
      let slots = line.body.framed.slots in
      let words = line.body.machine.words in
      let n = register t.state i.rs2 in
      let holds : IsHeldAs names name n = line.body.file (reg_number i.rs2) name (name_is (read_register file i.rs2) name there) in
      line_stored layout p d held names older ends bottom t top file function item line (with_number t.word (bottom + at) (access_size i.op) n) top.bytes (slice_set top.handles (at / 8) (Some name)) (plain_size layout function item i is)
      (stores slot kind n refl)
      (store_words held names function t i bottom at top slot slots n words) (store_below held names function t i bottom at top slot slots n)
      (name_slots held names function t i bottom at top slot slots (top.next + 1) n name eight most (whole_same layout p d held function t i bottom at slot eight words n (line.body.machine.values (reg_number i.rs2))) holds)))

  pub store_goes : kind_of i.op ≡ kinds.Store → (is_frame i.rs1 ≡ true) × IsSlot function i i.rs2 → EffectStands layout p d held names older ends bottom t function (store_effect i top file)
  store_goes kind fits =
      within_cases layout p d held names older ends bottom t top file function item (is_frame i.rs1) _ (λ frame.
      subst (λ (n : ℕ). EffectStands layout p d held names older ends bottom t function (slot_store (is_handle i.rs2) i (slot_place n i.imm) top file)) (sym line.body.framed.slots.bytes_long) (by_class fits.1.1))
    where
      slot : IsSlotAt held function t i bottom at
      slot = slot_at layout p held names older ends bottom t top file function item i i.rs2 line fits.0 fits.1

      by_class : (IsInt i.rs2 × (8 * function.slots ≤ at) × (at + access_size i.op ≤ slots_end function)) ⊎ (IsHandle i.rs2 × (access_size i.op ≡ 8) × (at + 8 ≤ 8 * function.slots)) → EffectStands layout p d held names older ends bottom t function (slot_store (is_handle i.rs2) i at top file)
      by_class (inl ints) = subst (λ (b : Bool). EffectStands layout p d held names older ends bottom t function (slot_store b i at top file)) (sym (int_no_handle i.rs2 ints.0)) (number_store_goes slot kind ints.1)
      by_class (inr handles) = subst (λ (b : Bool). EffectStands layout p d held names older ends bottom t function (slot_store b i at top file)) (sym handles.0) (name_store_goes slot kind handles.1 handles.2)
