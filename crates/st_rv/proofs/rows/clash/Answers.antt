use Rattle.std.proofs.Common.{rules, arith, sym, subst, Bool, ◌≡◌, bit_and, bit_or, nat_eq}
use Rattle.std.specs.Prelude.{IsTrue, ◌↔◌}
use Rattle.st_rv.specs.Rows.{Clash, clash_test}
use Rattle.st_rv.proofs.Apart.{clash_exact}
use Rattle.st_rv.proofs.rows.clash.Goals as goal

pub returns-then-both-a : goal.returns-then-both-a
returns-then-both-a c =
    let t : nat_eq (bit_and (bit_or c.args.a.now.bits c.args.b.now.bits) c.args.b.now.mask) c.args.b.now.bits ≡ clash_test c.args.a.now c.args.b.now = search rules in
    subst (λ (v : Bool). IsTrue v ↔ Clash c.args.a.now c.args.b.now) (sym t) (clash_exact c.args.a.now c.args.b.now (omega arith) (omega arith))

pub returns-else-both-a : goal.returns-else-both-a
returns-else-both-a c =
    let t : nat_eq (bit_and (bit_or c.args.a.now.bits c.args.b.now.bits) c.args.a.now.mask) c.args.a.now.bits ≡ clash_test c.args.a.now c.args.b.now = search rules in
    subst (λ (v : Bool). IsTrue v ↔ Clash c.args.a.now c.args.b.now) (sym t) (clash_exact c.args.a.now c.args.b.now (omega arith) (omega arith))
