use Rattle.std.proofs.Common.{arith, subst, sym}
use Rattle.std.specs.Prelude.{Some, ◌++◌}
use Rattle.std.proofs.lemmas.Option.{slice_get-get_or}
use Rattle.st_flow.specs.Search.{IsTrace}
use Rattle.st_flow.proofs.Searching.{trace_on, trace_last}
use Rattle.st_flow.proofs.search.trace.Goals as goal

pub returns-in-None : goal.returns-in-None
returns-in-None c =
    let h = c.loop-path.invariant in
    trace_last c.args.found.now c.loop-path.at c.args.place _ _ _ (slice_get-get_or c.args.found.now c.loop-path.at _ h.within) c.in-None.is c.in_ok-push.ensures.items h.goes

pub loop-path-init : goal.loop-path-init
loop-path-init c = record {
  within = c.requires.place;
  goes = λ rest t. subst (λ l. IsTrace c.args.found.now (Some c.args.place) (l ++ rest)) (sym c.new-path.ensures.items) t;
}

pub loop-path-smaller : goal.loop-path-smaller
loop-path-smaller c = c.requires.links c.loop-path.at c.in-Some.from _ (slice_get-get_or c.args.found.now c.loop-path.at _ c.loop-path.invariant.within) c.in-Some.is

pub loop-path-preserved : goal.loop-path-preserved
loop-path-preserved c =
    let h = c.loop-path.invariant in
    let here = slice_get-get_or c.args.found.now c.loop-path.at _ h.within in
    let less = c.requires.links c.loop-path.at c.in-Some.from _ here c.in-Some.is in
    record {
      within = let w = h.within in omega arith;
      goes = trace_on c.args.found.now c.loop-path.at c.in-Some.from c.args.place _ _ _ here c.in-Some.is c.in_ok-push.ensures.items h.goes;
    }
