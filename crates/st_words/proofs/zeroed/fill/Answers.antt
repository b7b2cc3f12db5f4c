use Rattle.std.proofs.Common.{◌≡◌, ap, ◌∙◌, arith, ◌++◌, ◌∷◌, []}
use Rattle.st_words.proofs.ZeroedLists.{one_zero_more, zeroed}
use Rattle.st_words.proofs.zeroed.fill.Goals as goal

pub loop-preserved : goal.loop-preserved
loop-preserved c = record {
  items = c.put.ensures.items ∙ ap (λ words. words ++ 0 ∷ []) c.loop.invariant.items ∙ one_zero_more c.args.words.now.items c.loop.counter c.loop.invariant.behind;
  room = omega arith;
  behind = omega arith;
}

pub returns-clause-items : goal.returns-clause-items
returns-clause-items c =
    let e : c.loop.counter ≡ c.args.count = omega (arith, c.loop.auto.counter-end) in
    c.loop.invariant.items ∙ ap (zeroed c.args.words.now.items) e
