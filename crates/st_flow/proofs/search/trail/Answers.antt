use Rattle.std.proofs.Common.{◌≡◌, arith, length, sym, subst, ap, ◌∙◌, Some}
use Rattle.std.proofs.lemmas.Option.{slice_get_within}
use Rattle.st_flow.specs.Search.{IsFound, LinksBack, IsTrace, IsSearched}
use Rattle.st_flow.proofs.Searching.{links_back, trace_trail}
use Rattle.st_flow.proofs.search.trail.Goals as goal

pub returns-in-None-clause-none : goal.returns-in-None-clause-none
returns-in-None-clause-none c =
    λ r. c.in-None.ensures.none (subst (λ l. IsFound l c.args.target) (sym c.deref.ensures.value) (c.in_ok-found.ensures.complete c.args.target r))

pub trace-requires-clause-links : goal.trace-requires-clause-links
trace-requires-clause-links c = subst LinksBack (sym c.deref-in-Some.ensures.value) (links_back _ _ _ _ _ c.in_ok-found.ensures)

pub trace-requires-clause-place : goal.trace-requires-clause-place
trace-requires-clause-place c =
    let t = c.in-Some.ensures.there in
    let same : length c.deref.result.now ≡ length c.deref-in-Some.result.now = ap length (c.deref.ensures.value ∙ sym c.deref-in-Some.ensures.value) in
    let lt = slice_get_within c.deref.result.now c.in-Some.place t.0 t.1 in
    omega arith

pub returns-clause-path : goal.returns-clause-path
returns-clause-path c =
    let t = c.in-Some.ensures.there in
    let same = c.deref.ensures.value ∙ sym c.deref-in-Some.ensures.value in
    trace_trail c.args.nodes.now c.args.seeds.now c.args.keeps.now c.args.k c.deref.result.now c.in_ok-trace-in-Some.field-0.items c.in-Some.place c.args.target t.0 (subst (λ l. IsSearched c.args.nodes.now c.args.seeds.now c.args.keeps.now c.args.k l) (sym c.deref.ensures.value) c.in_ok-found.ensures) t.1 t.2
    (subst (λ l. IsTrace l (Some c.in-Some.place) c.in_ok-trace-in-Some.field-0.items) (sym same) c.in_ok-trace-in-Some.ensures)
