-- Loads and stores lead on. A slot access is treated at the place `at` of the frame, of k bytes, and the place is put in at the end:
-- bytes_at is its bytes, SlotAt that it lies in the slots of its register's class. Reach for load_flows and store_flows.
use Rattle.std.proofs.Common.{◌≡◌, ℕ, ◌+◌, ◌*◌, ◌/◌, ◌%◌, ◌<◌, ◌≤◌, Bool, true, false, length, Option, Some, None, refl, sym, ◌∙◌, subst, ◌⊎◌, inl, inr, arith}
use Rattle.std.specs.Prelude.{slice_index_or, slice_set, nat_le, nat_lt}
use Rattle.std.proofs.Math.Nat.{le_trans}
use Rattle.std.proofs.lemmas.List.{length-set}
use Rattle.std.proofs.lemmas.Bool.{le-leb, lt-ltb}
use Rattle.st_base.specs.declared.reg.Reg.{Reg}
use Rattle.st_base.specs.declared.thread.Held.{Held}
use Rattle.st_base.specs.declared.thread.Activation.{Activation}
use Rattle.st_base.specs.Slots.{store_bytes}
use Rattle.st_rv.specs.declared.ins.Ins.{Ins}
use Rattle.st_rv.specs.Results.{access_size, extended}
use Rattle.st_model.specs.declared.program.Program.{Program}
use Rattle.st_model.specs.declared.program.ProgramFunction.{ProgramFunction}
use Rattle.st_model.specs.Memory.{Data, load_from, slot_byte, slot_place}
use Rattle.st_model.specs.Effect.{File, is_handle, is_frame, goes, loaded, within, slot_load, data_when, load_by, slot_store, store_effect}
use Rattle.st_model.specs.Flow.{Defined, between, slot_bytes, load_reads}
use Rattle.st_model.specs.Accepted.{IsInt, IsHandle, IsSlot, LoadFits, slots_end}
use Rattle.st_model.proofs.Places.{register_apart, between_holds, between_from, nothing, after_item, after_item_cases, after_item_stays}
use Rattle.st_model.proofs.Flowing.{Known, IsName, IsNamed, IsThere, HasFile, file_less, load_there, length-store_bytes, store_there, set_holds}
use Rattle.st_model.proofs.EffectFlow.{At, EffectFlows, Onward, place_of, place_self, number_flows, name_flows, within_flows, int_flows, handle_flows, number_written, name_written}

-- ---- places

-- k bytes of the frame
abbrev pub bytes_at : ℕ → ℕ → Defined
bytes_at at k x = between (32 + at) (32 + at + k) x

-- IsSlot, at a place
abbrev pub SlotAt : ProgramFunction → Ins → Reg → ℕ → Type 0
SlotAt function i r at =
    (at % access_size i.op ≡ 0) × ((IsInt r × (8 * function.slots ≤ at) × (at + access_size i.op ≤ slots_end function)) ⊎ (IsHandle r × (access_size i.op ≡ 8) × (at + 8 ≤ 8 * function.slots)))

slots_end_within : (function : ProgramFunction) → slots_end function ≤ function.frame_bytes
slots_end_within function = omega arith

bytes_at_holds : (at k x : ℕ) → bytes_at at k x ≡ true → (32 + at ≤ x) × (x < 32 + at + k)
bytes_at_holds at k x e = between_holds (32 + at) (32 + at + k) x e

byte_in : (at k b : ℕ) → at ≤ b → b < at + k → bytes_at at k (32 + b) ≡ true
byte_in at k b low high = between_from (32 + at) (32 + at + k) (32 + b) (omega arith) (omega arith)

handle_in : (at k : ℕ) → k ≡ 8 → at % 8 ≡ 0 → bytes_at at k (32 + 8 * (at / 8)) ≡ true
handle_in at k size aligned = between_from (32 + at) (32 + at + k) (32 + 8 * (at / 8)) (omega arith) (omega arith)

handle_within : (at slots : ℕ) → at % 8 ≡ 0 → at + 8 ≤ 8 * slots → at / 8 < slots
handle_within at slots aligned room = omega arith

-- the handle slot of a place has its bytes alone
handle_alone : (at k s : ℕ) → k ≡ 8 → at % 8 ≡ 0 → bytes_at at k (32 + 8 * s) ≡ true → s ≡ at / 8
handle_alone at k s size aligned is = let e = bytes_at_holds at k (32 + 8 * s) is in omega arith

-- a register is no byte of a frame
file_low : (known : Known) (d : Defined) (file : File) (at k : ℕ) → HasFile known d file → HasFile known (after_item (bytes_at at k) nothing d) file
file_low known d file at k has =
    file_less known d (after_item (bytes_at at k) nothing d) file has (after_item_stays (bytes_at at k) nothing d 0 has.first refl)
    (λ x lt is. elim (after_item_cases (bytes_at at k) nothing d x is) [ inl a ↦ let e = bytes_at_holds at k x a in absurd (omega arith) | inr b ↦ b.0 ])

module _ (known : Known) (p : Program) (function : ProgramFunction) (top : Activation) (file : File) (d : Defined) where
  -- ---- loads

  slot_load_flows : (h : Bool) (i : Ins) (at : ℕ) → is_handle i.rd ≡ h → At known p function (bytes_at at (access_size i.op)) (place_of i.rd) nothing Onward top file d → SlotAt function i i.rd at → EffectFlows known p top (slot_load h i at top file)
  slot_load_flows true i at is c (aligned, inl fits) = absurd (register_apart i.rd fits.0 is)
  slot_load_flows true i at is c (aligned, inr fits) =
      let even : at % 8 ≡ 0 = subst (λ k. at % k ≡ 0) fits.1 aligned in
      name_flows known p top (slice_index_or top.handles (at / 8) None) _
      (c.slots.handles (at / 8) (handle_within at function.slots even fits.2) (c.reads (32 + 8 * (at / 8)) (handle_in at (access_size i.op) fits.1 even)))
      (λ name good. name_written known p function top file d _ i.rd name c fits.0 good)
  slot_load_flows false i at is c (aligned, inl fits) =
      let room : at + access_size i.op ≤ function.frame_bytes = le_trans fits.2 (slots_end_within function) in
      within_flows known p top _ _ (le-leb _ _ (subst (λ n. at + access_size i.op ≤ n) (sym c.slots.bytes_long) room))
      (number_flows known p top (load_from (slot_byte top.bytes) at (access_size i.op)) (loaded i top file)
      (load_there (slot_byte top.bytes) at (access_size i.op)
      (λ b low high. c.slots.bytes b (le_trans fits.1 low) (omega arith) (c.reads (32 + b) (byte_in at (access_size i.op) b low high))))
      (λ v. number_written known p function top file d _ i.rd (extended i.op v) c fits.0))
  slot_load_flows false i at is c (aligned, inr fits) = let t : true ≡ false = sym fits.0 ∙ is in absurd (cc)

  data_flows : (b : Bool) (o : Option ℕ) (r : Defined) (i : Ins) → At known p function r (place_of i.rd) nothing Onward top file d → IsInt i.rd → EffectFlows known p top (data_when b o i top file)
  data_flows false o r i c fits = tt
  data_flows true None r i c fits = tt
  data_flows true (Some v) r i c fits = number_written known p function top file d r i.rd (extended i.op v) c fits

  pub load_flows : (b : Bool) (source : Data) (i : Ins) → At known p function (load_reads b function.frame_bytes i) (place_of i.rd) nothing Onward top file d → LoadFits b function i → EffectFlows known p top (load_by b source i top file)
  load_flows true source i c fits =
      subst (λ n. EffectFlows known p top (slot_load (is_handle i.rd) i (slot_place n i.imm) top file)) (sym c.slots.bytes_long)
      (slot_load_flows (is_handle i.rd) i (slot_place function.frame_bytes i.imm) refl c fits)
  load_flows false source i c fits =
      int_flows known p function top file d (place_of i.rs1) (place_of i.rd) nothing Onward i.rs1 _ c fits.1 (place_self i.rs1)
      (λ base. data_flows _ _ (place_of i.rs1) i c fits.0)

  -- ---- stores

  bytes_stored : (r : Defined) (at k v : ℕ) → At known p function r (bytes_at at k) nothing Onward top file d → 8 * function.slots ≤ at → at + k ≤ function.frame_bytes → EffectFlows known p top (within (nat_le (at + k) (length top.bytes)) (goes (record top { bytes = store_bytes top.bytes at k v }) file))
  bytes_stored r at k v c low high =
      let room : at + k ≤ length top.bytes = subst (λ n. at + k ≤ n) (sym c.slots.bytes_long) high in
      within_flows known p top _ _ (le-leb _ _ room) (
        record { kind = refl; kept = refl },
        c.go (record top { bytes = store_bytes top.bytes at k v; next = top.next + 1 }) file refl refl (file_low known d file at k c.has)
            record {
              bytes_long = length-store_bytes top.bytes at k v ∙ c.slots.bytes_long;
              handles_long = c.slots.handles_long;
              bytes = λ b from to is.
                  store_there top.bytes at k v b room
                  (elim (after_item_cases (bytes_at at k) nothing d (32 + b) is) as (λ x. ((at ≤ b) × (b < at + k)) ⊎ IsThere (slice_index_or top.bytes b None)) [
                    | inl a ↦ let e = bytes_at_holds at k (32 + b) a in inl (omega arith, omega arith)
                    | inr e ↦ inr (c.slots.bytes b from to e.0)
                  ]);
              handles = λ s lt is.
                  elim (after_item_cases (bytes_at at k) nothing d (32 + 8 * s) is) [
                    | inl a ↦ let e = bytes_at_holds at k (32 + 8 * s) a in absurd (omega arith)
                    | inr e ↦ c.slots.handles s lt e.0
                  ];
            },
      )

  name_stored : (r : Defined) (at k : ℕ) (name : Held) → At known p function r (bytes_at at k) nothing Onward top file d → k ≡ 8 → at % 8 ≡ 0 → at + 8 ≤ 8 * function.slots → IsName known name → EffectFlows known p top (within (nat_lt (at / 8) (length top.handles)) (goes (record top { handles = slice_set top.handles (at / 8) (Some name) }) file))
  name_stored r at k name c size aligned high good =
      let room : at / 8 < length top.handles = subst (λ n. at / 8 < n) (sym c.slots.handles_long) (handle_within at function.slots aligned high) in
      within_flows known p top _ _ (lt-ltb _ _ room) (
        record { kind = refl; kept = refl },
        c.go (record top { handles = slice_set top.handles (at / 8) (Some name); next = top.next + 1 }) file refl refl (file_low known d file at k c.has)
            record {
              bytes_long = c.slots.bytes_long;
              handles_long = length-set top.handles (at / 8) (Some name) ∙ c.slots.handles_long;
              bytes = λ b from to is.
                  elim (after_item_cases (bytes_at at k) nothing d (32 + b) is) [
                    | inl a ↦ let e = bytes_at_holds at k (32 + b) a in absurd (omega arith)
                    | inr e ↦ c.slots.bytes b from to e.0
                  ];
              handles = λ s lt is.
                  set_holds (IsNamed known) top.handles (at / 8) s (Some name) room good
                  (elim (after_item_cases (bytes_at at k) nothing d (32 + 8 * s) is) as (λ x. (s ≡ at / 8) ⊎ IsNamed known (slice_index_or top.handles s None)) [
                    | inl a ↦ inl (handle_alone at k s size aligned a)
                    | inr e ↦ inr (c.slots.handles s lt e.0)
                  ]);
            },
      )

  slot_store_flows : (h : Bool) (i : Ins) (at : ℕ) → is_handle i.rs2 ≡ h → At known p function (place_of i.rs2) (bytes_at at (access_size i.op)) nothing Onward top file d → SlotAt function i i.rs2 at → EffectFlows known p top (slot_store h i at top file)
  slot_store_flows true i at is c (aligned, inl fits) = absurd (register_apart i.rs2 fits.0 is)
  slot_store_flows true i at is c (aligned, inr fits) =
      let even : at % 8 ≡ 0 = subst (λ k. at % k ≡ 0) fits.1 aligned in
      handle_flows known p function top file d (place_of i.rs2) (bytes_at at (access_size i.op)) nothing Onward i.rs2 _ c fits.0 (place_self i.rs2)
      (λ name good. name_stored (place_of i.rs2) at (access_size i.op) name c fits.1 even fits.2 good)
  slot_store_flows false i at is c (aligned, inl fits) =
      let room : at + access_size i.op ≤ function.frame_bytes = le_trans fits.2 (slots_end_within function) in
      int_flows known p function top file d (place_of i.rs2) (bytes_at at (access_size i.op)) nothing Onward i.rs2 _ c fits.0 (place_self i.rs2)
      (λ v. bytes_stored (place_of i.rs2) at (access_size i.op) v c fits.1 room)
  slot_store_flows false i at is c (aligned, inr fits) = let t : true ≡ false = sym fits.0 ∙ is in absurd (cc)

  pub store_flows : (i : Ins) → At known p function (place_of i.rs2) (slot_bytes function.frame_bytes (access_size i.op) i) nothing Onward top file d → (is_frame i.rs1 ≡ true) × IsSlot function i i.rs2 → EffectFlows known p top (store_effect i top file)
  store_flows i c fits =
      within_flows known p top _ _ fits.0
      (subst (λ n. EffectFlows known p top (slot_store (is_handle i.rs2) i (slot_place n i.imm) top file)) (sym c.slots.bytes_long)
      (slot_store_flows (is_handle i.rs2) i (slot_place function.frame_bytes i.imm) refl c fits.1))
