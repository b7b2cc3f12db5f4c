use Rattle.std.proofs.Common.{◌≡◌, ◌<◌, ◌^◌, Some, ℕ, bit_and, ◌*◌, ◌+◌, ◌/◌, ◌%◌, arith, ap, sym, ◌∙◌, SFits, w64, rules}
use Rattle.std.proofs.lemmas.Int.{to_z-of_z}
use Rattle.st_rv.specs.Fields.{sign_extended}
use Rattle.st_rv.proofs.Masks.{mask_i}
use Rattle.st_rv.proofs.encoding.encode_b.Goals as goal

pub returns-clause-some : goal.returns-clause-some
returns-clause-some c =
    let fits : SFits w64 c.args.i.imm = search rules in
    let same = to_z-of_z w64 c.args.i.imm fits in
    let n = c.in_ok-n.n in
    let below = c.in_ok-n.ensures.some.0 in
    let is = c.in_ok-n.ensures.some.1 in
    let before : bit_and c.args.bits 0x707f ≡ c.args.bits = c.requires in
    let w : ℕ = c.args.bits + c.in_ok-n.n / 2048 % 2 * 128 + c.in_ok-n.n / 2 % 16 * 256 + c.bits_of-rs1.result * 32768 + c.bits_of-rs2.result * 1048576 + c.in_ok-n.n / 32 % 64 * 33554432 + c.in_ok-n.n / 4096 * 2147483648 in
    let small : w < 2 ^ 32 = omega (arith, mask_i c.args.bits) in
    record {
      small = small;
      fixed = omega (arith, mask_i c.args.bits, mask_i w);
      fields = record {
        rd = omega (arith, mask_i c.args.bits);
        rs1 = omega (arith, mask_i c.args.bits);
        rs2 = omega (arith, mask_i c.args.bits);
        imm = sym same ∙ sym is ∙ ap (sign_extended 4096) (let e : n ≡ w / 2147483648 % 2 * 4096 + w / 128 % 2 * 2048 + w / 33554432 % 64 * 32 + w / 256 % 16 * 2 = omega (arith, mask_i c.args.bits) in e);
      };
    }

pub returns-clause-only : goal.returns-clause-only
returns-clause-only c = λ w h.
    let fits : SFits w64 c.args.i.imm = search rules in
    let same = to_z-of_z w64 c.args.i.imm fits in
    ap Some (let e : Some c.in_ok-n.n ≡ Some (w / 2147483648 % 2 * 4096 + w / 128 % 2 * 2048 + w / 33554432 % 64 * 32 + w / 256 % 16 * 2) = c.in_ok-n.ensures.only (w / 2147483648 % 2 * 4096 + w / 128 % 2 * 2048 + w / 33554432 % 64 * 32 + w / 256 % 16 * 2) (omega arith) (sym h.fields.imm ∙ sym same) in
    let f : c.in_ok-n.n ≡ w / 2147483648 % 2 * 4096 + w / 128 % 2 * 2048 + w / 33554432 % 64 * 32 + w / 256 % 16 * 2 = cc in
    omega (arith, h.small, h.fixed, h.fields.rd, h.fields.rs1, h.fields.rs2, mask_i w))
