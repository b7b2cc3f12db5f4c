-- A word under the mask of each form, by its fields: opcode below 2 ^ 7, funct3 from bit 12 on, and of the shifts and the
-- register rows the bits above the amount or the second register.
use Rattle.std.proofs.Common.{ℕ, ◌+◌, ◌*◌, ◌/◌, ◌%◌, ◌^◌, ◌<◌, ◌≡◌, ap, sym, ◌∙◌, bit_and, arith}
use Rattle.std.proofs.lemmas.Nat.{and_block, and_mask, and_comm, div-add-mod', mod_below, pow_pos}

-- a mask in two parts
under_parts : (w m k : ℕ) → bit_and w m ≡ bit_and (w / 2 ^ k) (m / 2 ^ k) * 2 ^ k + bit_and (w % 2 ^ k) (m % 2 ^ k)
under_parts w m k =
    sym (ap (λ x. bit_and x m) (div-add-mod' w (2 ^ k)))
    ∙ sym (ap (λ x. bit_and (w / 2 ^ k * 2 ^ k + w % 2 ^ k) x) (div-add-mod' m (2 ^ k)))
    ∙ and_block k (w / 2 ^ k) (m / 2 ^ k) (w % 2 ^ k) (m % 2 ^ k) (mod_below w (2 ^ k) (pow_pos k)) (mod_below m (2 ^ k) (pow_pos k))

under_none : (w : ℕ) → bit_and w 0 ≡ 0
under_none w = and_comm w 0

-- U and J
pub mask_u : (w : ℕ) → bit_and w 0x7f ≡ w % 128
mask_u w = and_mask w 7

-- I, S and B
pub mask_i : (w : ℕ) → bit_and w 0x707f ≡ w / 4096 % 8 * 4096 + w % 128
mask_i w =
    let a : bit_and w 0x707f ≡ bit_and (w / 128) 224 * 128 + bit_and (w % 128) 127 = under_parts w 0x707f 7 in
    let b : bit_and (w / 128) 224 ≡ bit_and (w / 128 / 32) 7 * 32 + bit_and (w / 128 % 32) 0 = under_parts (w / 128) 224 5 in
    let c : bit_and (w / 128 / 32) 7 ≡ w / 128 / 32 % 8 = and_mask (w / 128 / 32) 3 in
    let d : bit_and (w % 128) 127 ≡ w % 128 % 128 = and_mask (w % 128) 7 in
    omega (arith, under_none (w / 128 % 32))

-- R and Shift5
pub mask_r : (w : ℕ) → w < 2 ^ 32 → bit_and w 0xfe00707f ≡ w / 33554432 * 33554432 + w / 4096 % 8 * 4096 + w % 128
mask_r w h =
    let a : bit_and w 0xfe00707f ≡ bit_and (w / 32768) 130048 * 32768 + bit_and (w % 32768) 0x707f = under_parts w 0xfe00707f 15 in
    let b : bit_and (w / 32768) 130048 ≡ bit_and (w / 32768 / 1024) 127 * 1024 + bit_and (w / 32768 % 1024) 0 = under_parts (w / 32768) 130048 10 in
    let c : bit_and (w / 32768 / 1024) 127 ≡ w / 32768 / 1024 % 128 = and_mask (w / 32768 / 1024) 7 in
    omega (arith, under_none (w / 32768 % 1024), mask_i (w % 32768))

-- Shift6
pub mask_six : (w : ℕ) → w < 2 ^ 32 → bit_and w 0xfc00707f ≡ w / 67108864 * 67108864 + w / 4096 % 8 * 4096 + w % 128
mask_six w h =
    let a : bit_and w 0xfc00707f ≡ bit_and (w / 32768) 129024 * 32768 + bit_and (w % 32768) 0x707f = under_parts w 0xfc00707f 15 in
    let b : bit_and (w / 32768) 129024 ≡ bit_and (w / 32768 / 2048) 63 * 2048 + bit_and (w / 32768 % 2048) 0 = under_parts (w / 32768) 129024 11 in
    let c : bit_and (w / 32768 / 2048) 63 ≡ w / 32768 / 2048 % 64 = and_mask (w / 32768 / 2048) 6 in
    omega (arith, under_none (w / 32768 % 2048), mask_i (w % 32768))

-- Fixed
pub mask_all : (w : ℕ) → w < 2 ^ 32 → bit_and w 0xffffffff ≡ w
mask_all w h =
    let a : bit_and w 0xffffffff ≡ w % 2 ^ 32 = and_mask w 32 in
    omega arith
