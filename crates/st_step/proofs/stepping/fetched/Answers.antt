use Rattle.std.proofs.Common.{◌≡◌, ◌/◌, arith, ℕ, subst}
use Rattle.st_rv.specs.Rows.{IsRow}
use Rattle.st_step.proofs.Fetching.{bounded_some, word_read}
use Rattle.st_step.proofs.stepping.fetched.Goals as goal

pub returns-clause-some : goal.returns-clause-some
returns-clause-some c = bounded_some c.in_ok-word.word.now c.decode.result c.decode.ensures.some

pub returns-clause-only : goal.returns-clause-only
returns-clause-only c = λ i f.
    let o = c.in_ok-offset.ensures in
    let at : c.in_ok-offset.offset / 4 ≡ f.place = omega (arith, o, f.at) in
    let same = word_read c.as_slice.result.now c.args.image.now.words (c.in_ok-offset.offset / 4) f.place f.word c.in_ok-word.word.now c.as_slice.ensures at (c.in_ok-word.ensures.lookup.3.1 0) f.there in
    c.decode.ensures.only i (subst (λ (w : ℕ). IsRow i w) same f.row)
