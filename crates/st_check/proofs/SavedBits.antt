-- The bits of saved registers (saved-mask): as many are set as registers are saved, all below 11, each saved register's is set, and they
-- pick the saved registers. So the registers are read back from their bits (saved_of_bits).
use Rattle.std.proofs.Common.{◌≡◌, ◌∙◌, ◌⊎◌, inl, inr, ℕ, suc, ◌+◌, ◌*◌, ◌-◌, ◌^◌, Bool, true, false, ◌||◌, ◌==◌, List, [], ◌∷◌, refl, ap, sym, subst, cond, length, get_or, arith}
use Rattle.std.proofs.lemmas.Simd.{ones-mask_l, ones-mask_l_cons, bit_mask_l}
use Rattle.std.specs.Int.{bit_at}
use Rattle.std.specs.Simd.Lanes.{mask_l}
use Rattle.std.specs.Prelude.{count_ones}
use Rattle.std.proofs.Math.Nat.{pow-suc}
use Rattle.std.proofs.lemmas.Bool.{eqb-true}
use Rattle.st_base.specs.declared.reg.Reg.{Reg}
use Rattle.st_base.specs.Reg.{reg_number}
use Rattle.st_model.specs.declared.program.ProgramFunction.{ProgramFunction}
use Rattle.st_model.specs.Layout.{saved_among, saved_of}
use Rattle.st_check.specs.Shape.{saved_registers}
use Rattle.st_check.specs.Faults.{is_in}
use Rattle.st_check.specs.Programs.{saved_bit, saved_bits}

-- the saved registers are some of the others, in their order
abbrev pub AreAmong : List Reg → List Reg → Type 0
AreAmong [] left = Unit {0}
AreAmong (r ∷ rs) [] = ⊥
AreAmong (r ∷ rs) (l ∷ ls) = ((r ≡ l) × AreAmong rs ls) ⊎ AreAmong (r ∷ rs) ls

-- the bits of registers are one after another, from this one on
abbrev pub HaveBits : ℕ → List Reg → Type 0
HaveBits j [] = Unit {0}
HaveBits j (l ∷ ls) = (saved_bit l ≡ j) × HaveBits (j + 1) ls

pub record HasBit (j : ℕ) (bits : List Bool) (r : Reg) : Type 0 where
  pub k : ℕ
  pub place : saved_bit r ≡ j + k
  pub set : get_or bits k false ≡ true

-- of these registers, those whose bit is set
abbrev pub picked : List Bool → List Reg → List Reg
picked [] left = []
picked (b ∷ bits) [] = []
picked (true ∷ bits) (l ∷ ls) = l ∷ picked bits ls
picked (false ∷ bits) (l ∷ ls) = picked bits ls

pub record Mask (j : ℕ) (saved left : List Reg) : Type 0 where
  pub bits : List Bool
  pub total : saved_bits saved ≡ 2 ^ j * mask_l bits
  pub long : length bits ≡ length left
  pub ones : count_ones (mask_l bits) ≡ length saved
  pub each : (r : Reg) → is_in r saved ≡ true → HasBit j bits r
  pub picks : picked bits left ≡ saved

power-more : (j m : ℕ) → 2 ^ (j + 1) * m ≡ 2 ^ j * (0 + 2 * m)
power-more j m =
    let e : 2 ^ (j + 1) ≡ 2 ^ j * 2 = ap (λ k. 2 ^ k) (omega arith) ∙ pow-suc 2 j in
    ap (λ p. p * m) e ∙ omega arith

either-test : (a b : Bool) → (a || b) ≡ true → (a ≡ true) ⊎ (b ≡ true)
either-test true b h = inl refl
either-test false b h = inr h

moved : (j : ℕ) (b : Bool) (bits : List Bool) (r : Reg) → HasBit (j + 1) bits r → HasBit j (b ∷ bits) r
moved j b bits r h = record { k = suc h.k; place = h.place ∙ omega arith; set = h.set }

same-place : (r s : Reg) → reg_number r ≡ reg_number s → saved_bit r ≡ saved_bit s
same-place r s e = ap (λ n. cond (n == 9) 0 (n - 17)) e

-- where none is saved, or the first isn't
skipped : (j : ℕ) (saved : List Reg) (l : Reg) (ls : List Reg) → Mask (j + 1) saved ls → Mask j saved (l ∷ ls)
skipped j saved l ls m = record {
  bits = false ∷ m.bits;
  total = m.total ∙ power-more j (mask_l m.bits);
  long = ap suc m.long;
  ones = let e : count_ones (mask_l (false ∷ m.bits)) ≡ 0 + count_ones (mask_l m.bits) = ones-mask_l_cons false m.bits in omega (arith, e, m.ones);
  each = λ r h. moved j false m.bits r (m.each r h);
  picks = m.picks;
}

taken : (j : ℕ) (l : Reg) (rs ls : List Reg) → saved_bit l ≡ j → Mask (j + 1) rs ls → Mask j (l ∷ rs) (l ∷ ls)
taken j l rs ls place m = record {
  bits = true ∷ m.bits;
  total =
      let e : 2 ^ saved_bit l ≡ 2 ^ j = ap (λ k. 2 ^ k) place in
      let f : saved_bits rs ≡ 2 ^ j * (0 + 2 * mask_l m.bits) = m.total ∙ power-more j (mask_l m.bits) in
      omega (arith, e, f);
  long = ap suc m.long;
  ones = let e : count_ones (mask_l (true ∷ m.bits)) ≡ 1 + count_ones (mask_l m.bits) = ones-mask_l_cons true m.bits in omega (arith, e, m.ones);
  each = λ r h. elim (either-test (reg_number r == reg_number l) (is_in r rs) h) [
    | inl same ↦ record { k = 0; place = same-place r l (eqb-true _ _ same) ∙ place ∙ omega arith; set = refl }
    | inr more ↦ moved j true m.bits r (m.each r more)
  ];
  picks = ap (λ ss. l ∷ ss) m.picks;
}

pub saved-mask : (j : ℕ) (saved left : List Reg) → AreAmong saved left → HaveBits j left → Mask j saved left
saved-mask j [] [] among have = record { bits = []; total = omega arith; long = refl; ones = ones-mask_l {X = Bool} (λ b. b) []; each = λ r h. cc; picks = refl }
saved-mask j [] (l ∷ ls) among have = skipped j [] l ls (saved-mask (j + 1) [] ls tt have.1)
saved-mask j (r ∷ rs) [] among have = absurd among
saved-mask j (r ∷ rs) (l ∷ ls) (inl some) have =
    subst (λ q. Mask j (q ∷ rs) (l ∷ ls)) (sym some.0) (taken j l rs ls have.0 (saved-mask (j + 1) rs ls some.1 have.1))
saved-mask j (r ∷ rs) (l ∷ ls) (inr more) have = skipped j (r ∷ rs) l ls (saved-mask (j + 1) (r ∷ rs) ls more have.1)

-- ---- back from the bits

-- from the k-th bit on these stand in a number
abbrev pub StandIn : ℕ → ℕ → List Bool → Type 0
StandIn n k bits = (i : ℕ) → bit_at n (k + i) ≡ cond (get_or bits i false) 1 0

stand-behind : (n k : ℕ) (b : Bool) (bits : List Bool) → StandIn n k (b ∷ bits) → StandIn n (k + 1) bits
stand-behind n k b bits stand = λ i.
    let e : k + 1 + i ≡ k + suc i = omega arith in
    ap (bit_at n) e ∙ stand (suc i)

among-step : (n k : ℕ) (b : Bool) (bits : List Bool) (l : Reg) (ls : List Reg) → bit_at n k ≡ cond b 1 0 → saved_among n (k + 1) ls ≡ picked bits ls → saved_among n k (l ∷ ls) ≡ picked (b ∷ bits) (l ∷ ls)
among-step n k true bits l ls here rest = ap (λ m. cond (m == 1) (l ∷ saved_among n (k + 1) ls) (saved_among n (k + 1) ls)) here ∙ ap (λ ss. l ∷ ss) rest
among-step n k false bits l ls here rest = ap (λ m. cond (m == 1) (l ∷ saved_among n (k + 1) ls) (saved_among n (k + 1) ls)) here ∙ rest

saved_among-picked : (n k : ℕ) (bits : List Bool) (left : List Reg) → length bits ≡ length left → StandIn n k bits → saved_among n k left ≡ picked bits left
saved_among-picked n k [] [] long stand = refl
saved_among-picked n k [] (l ∷ ls) long stand = cc
saved_among-picked n k (b ∷ bits) [] long stand = refl
saved_among-picked n k (b ∷ bits) (l ∷ ls) long stand =
    let e : k ≡ k + 0 = omega arith in
    let same : length bits ≡ length ls = cc in
    among-step n k b bits l ls (ap (bit_at n) e ∙ stand 0) (saved_among-picked n (k + 1) bits ls same (stand-behind n k b bits stand))

pub saved_registers-bits : HaveBits 0 saved_registers
saved_registers-bits = (refl, (refl, (refl, (refl, (refl, (refl, (refl, (refl, (refl, (refl, (refl, tt)))))))))))

-- a function whose bits are those of registers saves these
pub saved_of_bits : (function : ProgramFunction) (saved : List Reg) → AreAmong saved saved_registers → function.saved ≡ saved_bits saved → saved_of function ≡ saved
saved_of_bits function saved among bits =
    let m = saved-mask 0 saved saved_registers among saved_registers-bits in
    let total : saved_bits saved ≡ 2 ^ 0 * mask_l m.bits = m.total in
    let same : function.saved ≡ mask_l m.bits = omega (arith, bits, total) in
    saved_among-picked function.saved 0 m.bits saved_registers m.long
    (λ i. let e : 0 + i ≡ i = omega arith in (λ j. bit_at (same j) (e j)) ∙ bit_mask_l m.bits i)
    ∙ m.picks
