use Rattle.std.proofs.Common.{◌≡◌, ◌<◌, ◌≤◌, ◌+◌, ◌*◌, ℕ, length, arith, subst, true}
use Rattle.std.specs.Prelude.{◌↔◌}
use Rattle.std.specs.Int.{bit_at}
use Rattle.st_flow.specs.Places.{is_changed}
use Rattle.st_flow.proofs.TableRows.{words_more, words_all}
use Rattle.st_flow.proofs.tables.table.Goals as goal

pub loop-i-preserved : goal.loop-i-preserved
loop-i-preserved c =
    let n = c.in_ok-push.ensures.len in
    let item = c.kind_at-kind.ensures in
    record {
      long = let m = c.loop-i.invariant.long in omega arith;
      bits = words_more c.args.change c.args.function.now c.args.g _ _ c.changed.result c.loop-i.i item.0 c.loop-i.invariant.long c.in_ok-push.ensures.items item.1
          (subst (λ kind. (b : ℕ) → b < 64 → (bit_at c.changed.result b ≡ 1) ↔ (is_changed c.args.change c.args.function.now.frame_bytes kind (64 * c.args.g + b) ≡ true)) item.2 c.changed.ensures) c.loop-i.invariant.bits;
    }

pub returns-clause-bits : goal.returns-clause-bits
returns-clause-bits c =
    let all : length c.args.function.now.items ≤ c.loop-i.i = let e = c.len-i-end.ensures in omega arith in
    words_all c.args.change c.args.function.now c.args.g _ c.loop-i.i all c.loop-i.invariant.bits
