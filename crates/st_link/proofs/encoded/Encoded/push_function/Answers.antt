-- At each word what is left begins with it.
use Rattle.std.proofs.Common.{◌≡◌, ◌+◌, ◌∷◌, ◌++◌, length, drop, get_or, sym, subst, arith}
use Rattle.std.proofs.Math.Logic.{∥∥₁_map}
use Rattle.st_rv.specs.Rows.{FitsTable}
use Rattle.st_link.specs.Encoding.{resolved_in, AllFit, AreCalled, Leaves}
use Rattle.st_link.proofs.Rest.{drop-at, some_word, added-one}
use Rattle.st_link.proofs.encoded.Encoded.push_function.Goals as goal

pub push-requires : goal.push-requires
push-requires c =
    let next = drop-at c.args.code.now c.loop-at.at some_word c.loop-at-test.true in
    ∥∥₁_map c.loop-at.invariant.fits (λ all.
    let fits = subst (λ ws. AllFit (resolved_in c.args.rows.now c.loop-at.address c.loop-at.at ws)) next all in
    subst FitsTable (sym c.resolve-ins.ensures) fits.0)

pub loop-at-preserved : goal.loop-at-preserved
loop-at-preserved c =
    let inv = c.loop-at.invariant in
    let made = c.in_ok-push.ensures in
    let at = c.loop-at.at in
    let rows = c.args.rows.now in
    let w = get_or c.args.code.now at some_word in
    let left = drop (at + 1) c.args.code.now in
    let next : drop at c.args.code.now ≡ w ∷ left = drop-at c.args.code.now at some_word c.loop-at-test.true in
    record {
      place = omega arith;
      fits = ∥∥₁_map inv.fits (λ all. (subst (λ ws. AllFit (resolved_in rows c.loop-at.address at ws)) next all).1);
      calls = (subst (AreCalled (length rows)) next inv.calls).1;
      words = λ whole rest start.
          let old = c.loop-at.self.words.items in
          let rest_of = resolved_in rows (c.loop-at.address + 4) (at + 1) left ++ rest in
          made.words whole rest_of
          (subst (λ i. Leaves whole (i ∷ rest_of) old) (sym c.resolve-ins.ensures)
          (subst (λ ws. Leaves whole (resolved_in rows c.loop-at.address at ws ++ rest) old) next (inv.words whole rest start)));
      lines = added-one (λ x. x.line) c.loop-at.self.lines.items c.push.new.self.lines.items _ w left _ made.lines next inv.lines;
      begins = added-one (λ x. x.begins) c.loop-at.self.begins.items c.push.new.self.begins.items _ w left _ made.begins next inv.begins;
    }
