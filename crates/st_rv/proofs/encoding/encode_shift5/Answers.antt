use Rattle.std.proofs.Common.{◌≡◌, ◌<◌, ◌^◌, Some, ℕ, bit_and, ◌*◌, ◌+◌, ◌/◌, ◌%◌, arith, ap, sym, pos, ◌∙◌, SFits, w64, rules}
use Rattle.std.proofs.lemmas.Int.{to_z-of_z}
use Rattle.st_rv.proofs.Masks.{mask_r}
use Rattle.st_rv.proofs.encoding.encode_shift5.Goals as goal

pub returns-clause-some : goal.returns-clause-some
returns-clause-some c =
    let fits : SFits w64 c.args.i.imm = search rules in
    let same = to_z-of_z w64 c.args.i.imm fits in
    let n = c.in_ok-n.n in
    let below = c.in_ok-n.ensures.some.0 in
    let is = c.in_ok-n.ensures.some.1 in
    let before : bit_and c.args.bits 0xfe00707f ≡ c.args.bits = c.requires in
    let w : ℕ = c.args.bits + c.bits_of-rd.result * 128 + c.bits_of-rs1.result * 32768 + c.in_ok-n.n * 1048576 in
    let small : w < 2 ^ 32 = omega (arith, mask_r c.args.bits (omega arith)) in
    record {
      small = small;
      fixed = omega (arith, mask_r c.args.bits (omega arith), mask_r w small);
      fields = record {
        rd = omega (arith, mask_r c.args.bits (omega arith));
        rs1 = omega (arith, mask_r c.args.bits (omega arith));
        rs2 = omega (arith, mask_r c.args.bits (omega arith));
        imm = sym same ∙ sym is ∙ ap (pos) (let e : n ≡ w / 1048576 % 32 = omega (arith, mask_r c.args.bits (omega arith)) in e);
      };
    }

pub returns-clause-only : goal.returns-clause-only
returns-clause-only c = λ w h.
    let fits : SFits w64 c.args.i.imm = search rules in
    let same = to_z-of_z w64 c.args.i.imm fits in
    ap Some (let e : Some c.in_ok-n.n ≡ Some (w / 1048576 % 32) = c.in_ok-n.ensures.only (w / 1048576 % 32) (omega arith) (sym h.fields.imm ∙ sym same) in
    let f : c.in_ok-n.n ≡ w / 1048576 % 32 = cc in
    omega (arith, h.small, h.fixed, h.fields.rd, h.fields.rs1, h.fields.rs2, mask_r w h.small))
