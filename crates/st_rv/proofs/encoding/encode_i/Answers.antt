use Rattle.std.proofs.Common.{◌≡◌, ◌<◌, ◌^◌, Some, ℕ, bit_and, ◌*◌, ◌+◌, ◌/◌, ◌%◌, arith, ap, sym, ◌∙◌, SFits, w64, rules}
use Rattle.std.proofs.lemmas.Int.{to_z-of_z}
use Rattle.st_rv.specs.Fields.{sign_extended}
use Rattle.st_rv.proofs.Masks.{mask_i}
use Rattle.st_rv.proofs.encoding.encode_i.Goals as goal

pub returns-clause-some : goal.returns-clause-some
returns-clause-some c =
    let fits : SFits w64 c.args.i.imm = search rules in
    let same = to_z-of_z w64 c.args.i.imm fits in
    let n = c.in_ok-n.n in
    let below = c.in_ok-n.ensures.some.0 in
    let is = c.in_ok-n.ensures.some.1 in
    let before : bit_and c.args.bits 0x707f ≡ c.args.bits = c.requires in
    let w : ℕ = c.args.bits + c.bits_of-rd.result * 128 + c.bits_of-rs1.result * 32768 + c.in_ok-n.n * 1048576 in
    let small : w < 2 ^ 32 = omega (arith, mask_i c.args.bits) in
    record {
      small = small;
      fixed = omega (arith, mask_i c.args.bits, mask_i w);
      fields = record {
        rd = omega (arith, mask_i c.args.bits);
        rs1 = omega (arith, mask_i c.args.bits);
        rs2 = omega (arith, mask_i c.args.bits);
        imm = sym same ∙ sym is ∙ ap (sign_extended 2048) (let e : n ≡ w / 1048576 % 4096 = omega (arith, mask_i c.args.bits) in e);
      };
    }

pub returns-clause-only : goal.returns-clause-only
returns-clause-only c = λ w h.
    let fits : SFits w64 c.args.i.imm = search rules in
    let same = to_z-of_z w64 c.args.i.imm fits in
    ap Some (let e : Some c.in_ok-n.n ≡ Some (w / 1048576 % 4096) = c.in_ok-n.ensures.only (w / 1048576 % 4096) (omega arith) (sym h.fields.imm ∙ sym same) in
    let f : c.in_ok-n.n ≡ w / 1048576 % 4096 = cc in
    omega (arith, h.small, h.fixed, h.fields.rd, h.fields.rs1, h.fields.rs2, mask_i w))
