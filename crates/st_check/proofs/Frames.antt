-- The frame of a function without a fault (frame-has), and the registers that it may write (may_write-bits).
use Rattle.std.proofs.Common.{◌≡◌, ◌∙◌, ℕ, ◌+◌, ◌*◌, ◌-◌, ◌%◌, ◌^◌, ◌<◌, ◌≤◌, Bool, true, false, not, ◌&&◌, ◌||◌, ◌==◌, List, refl, ap, sym, cond, length, Some, arith, nat_le}
use Rattle.std.specs.Prelude.{pos, count_ones}
use Rattle.std.specs.Int.{bit_at}
use Rattle.std.specs.Simd.Lanes.{mask_l}
use Rattle.std.proofs.lemmas.Simd.{bit_mask_l}
use Rattle.std.proofs.lemmas.Bool.Decides.{nat_tests}
use Rattle.std.proofs.lemmas.Bool.{eqb-true, leb-true, le-leb, ltb-true}
use Rattle.st_base.specs.declared.reg.Reg.{Reg}
use Rattle.st_base.specs.Reg.{reg_number}
use Rattle.st_asm.specs.declared.unit.Function.{Function}
use Rattle.st_model.specs.Accepted.{HasFrame, MayWrite}
use Rattle.st_check.specs.Shape.{Formed, formed, is_frame_size, saved_registers}
use Rattle.st_check.specs.Faults.{is_in, is_saved, may_write}
use Rattle.st_check.specs.Programs.{saved_bit, saved_bits, function_by}
use Rattle.st_check.proofs.SavedBits.{AreAmong, saved-mask, saved_registers-bits}
use Rattle.st_check.proofs.ShapeFacts.{HasFrameOf, saved_bits-few, saved_bits-ones}

pub and-both : (a b : Bool) → (a && b) ≡ true → (a ≡ true) × (b ≡ true)
and-both true b h = (refl, h)
and-both false b h = cc

pub record SizeParts (n h frame : ℕ) : Type 0 where
  pub multiple : frame % 16 ≡ 0
  pub least : 16 ≤ frame
  pub most : frame ≤ 2032
  pub room : 16 + 8 * n + 8 * h ≤ frame

size-parts : (n h frame : ℕ) → is_frame_size n h (pos frame) ≡ true → SizeParts n h frame
size-parts n h frame size =
    let s = and-both ((frame % 16 == 0) && nat_le 16 frame && nat_le frame 2032) (nat_le (16 + 8 * n + 8 * h) frame) size in
    let t = and-both ((frame % 16 == 0) && nat_le 16 frame) (nat_le frame 2032) s.0 in
    let u = and-both (frame % 16 == 0) (nat_le 16 frame) t.0 in
    record { multiple = eqb-true _ _ u.0; least = leb-true _ _ u.1; most = leb-true _ _ t.1; room = leb-true _ _ s.1 }

pub frame-has : (functions : List Function) (function : Function) (shape : Formed) → HasFrameOf shape.saved function.slots shape.frame → HasFrame (function_by functions function (formed shape))
frame-has functions function shape has =
    let parts = size-parts (length shape.saved) function.slots shape.frame has.size in
    let ones : count_ones (saved_bits shape.saved) ≡ length shape.saved = saved_bits-ones shape.saved has.among in
    let room : 16 + 8 * length shape.saved + 8 * function.slots ≤ shape.frame = parts.room in
    record {
      multiple = parts.multiple;
      least = parts.least;
      most = parts.most;
      saved = saved_bits-few shape.saved has.among;
      room = omega (arith, ones, room);
    }

in-set : (saved : List Reg) (r : Reg) → AreAmong saved saved_registers → is_in r saved ≡ true → bit_at (saved_bits saved) (saved_bit r) ≡ 1
in-set saved r among there =
    let m = saved-mask 0 saved saved_registers among saved_registers-bits in
    let b = m.each r there in
    let total : saved_bits saved ≡ 2 ^ 0 * mask_l m.bits = m.total in
    let same : saved_bits saved ≡ mask_l m.bits = omega (arith, total) in
    let place : saved_bit r ≡ 0 + b.k = b.place in
    let at : saved_bit r ≡ b.k = omega (arith, place) in
    (λ j. bit_at (same j) (at j)) ∙ bit_mask_l m.bits b.k ∙ ap (λ t. cond t 1 0) b.set

saved-in : (s i : Bool) → (not s || i) ≡ true → s ≡ true → i ≡ true
saved-in true i h e = h
saved-in false i h e = cc

place-of : (n : ℕ) → (n == 9) ≡ false → cond (n == 9) 0 (n - 17) ≡ n - 17
place-of n e = rw e refl

is_saved-nine : (n : ℕ) → n ≡ 9 → ((n == 9) || (nat_le 18 n && nat_le n 27)) ≡ true
is_saved-nine n e = rw e refl

not-nine : (n : ℕ) → 18 ≤ n → (n == 9) ≡ false
not-nine n low = grind (arith, nat_tests)

between-saved : (n : ℕ) → 18 ≤ n → n < 28 → ((n == 9) || (nat_le 18 n && nat_le n 27)) ≡ true
between-saved n low high =
    let a : nat_le 18 n ≡ true = le-leb 18 n low in
    let b : nat_le n 27 ≡ true = le-leb n 27 (omega arith) in
    rw (not-nine n low, a, b) refl

pub may_write-bits : (functions : List Function) (function : Function) (shape : Formed) (r : Reg) → AreAmong shape.saved saved_registers → may_write shape (Some r) ≡ true → MayWrite (function_by functions function (formed shape)) r
may_write-bits functions function shape r among may = (
  λ nine.
      let there : is_in r shape.saved ≡ true = saved-in (is_saved r) (is_in r shape.saved) may (is_saved-nine (reg_number r) nine) in
      let place : saved_bit r ≡ 0 = ap (λ n. cond (n == 9) 0 (n - 17)) nine in
      sym (ap (bit_at (saved_bits shape.saved)) place) ∙ in-set shape.saved r among there,
  λ within.
      let parts = and-both (nat_le 18 (reg_number r)) _ within in
      let low : 18 ≤ reg_number r = leb-true _ _ parts.0 in
      let high : reg_number r < 28 = ltb-true _ _ parts.1 in
      let saved : is_saved r ≡ true = between-saved (reg_number r) low high in
      let there : is_in r shape.saved ≡ true = saved-in (is_saved r) (is_in r shape.saved) may saved in
      let place : saved_bit r ≡ reg_number r - 17 = place-of (reg_number r) (not-nine (reg_number r) low) in
      sym (ap (bit_at (saved_bits shape.saved)) place) ∙ in-set shape.saved r among there,
)
