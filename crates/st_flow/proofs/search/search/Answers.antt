use Rattle.std.proofs.Common.{◌<◌, arith, length, refl}
use Rattle.std.proofs.lemmas.Option.{slice_get_read}
use Rattle.st_flow.proofs.Searching.{seed_in, next_kept, to_kept, seed_visited, next_visited, both_visited, none_found, begun_more, passed_more, search_ends}
use Rattle.st_flow.proofs.search.search.Goals as goal

pub loop-i-init : goal.loop-i-init
loop-i-init c = record {
  searches = none_found _ _ _ _ _ _ c.new-found.ensures.items (c.in_ok-seen.ensures.items_if_clones_equal (λ y h. h));
  begun = λ j lt bit. absurd (omega arith);
}

pub visit-requires : goal.visit-requires
visit-requires c =
    let long = c.loop-i.invariant.searches.long in
    let lt : c.loop-i.i < length c.loop-i.seen.items = omega arith in
    seed_in c.args.seeds.now c.args.k c.loop-i.i _ c.seed_at.result lt c.seed_at.ensures

pub loop-i-preserved : goal.loop-i-preserved
loop-i-preserved c =
    let h = c.loop-i.invariant in
    let goes = seed_visited c.args.nodes.now c.args.seeds.now c.args.keeps.now c.args.k c.loop-i.i _ _ _ _ c.seed_at.result (omega arith) c.seed_at.ensures h.searches c.in_ok-visit.ensures in
    record { searches = goes.searches; begun = begun_more _ _ _ _ c.loop-i.i _ _ _ _ c.seed_at.result c.seed_at.ensures h.begun goes }

pub kept_edges-edges-requires-clause-at : goal.kept_edges-edges-requires-clause-at
kept_edges-edges-requires-clause-at c =
    let here = slice_get_read c.loop-head.found.items _ c.loop-head.head c.index.result.now refl (omega arith) c.index.ensures in
    (c.loop-head.invariant.searches.marked c.loop-head.head c.index.result.now here).1

pub visit-requires-in-loop-head : goal.visit-requires-in-loop-head
visit-requires-in-loop-head c = next_kept c.args.nodes.now c.args.keeps.now c.args.k _ _ c.kept_edges-edges.result c.requires.edges c.kept_edges-edges.ensures c.loop-head.invariant.searches.long

pub visit-requires-in-loop-head-2 : goal.visit-requires-in-loop-head-2
visit-requires-in-loop-head-2 c =
    let here = slice_get_read c.loop-head.found.items _ c.loop-head.head c.index.result.now refl (omega arith) c.index.ensures in
    let goes = next_visited c.args.nodes.now c.args.seeds.now c.args.keeps.now c.args.k c.loop-head.head _ _ _ _ c.index.result.now c.kept_edges-edges.result here c.requires.edges c.kept_edges-edges.ensures c.loop-head.invariant.searches c.in_ok-visit-2.ensures in
    to_kept c.args.nodes.now c.args.keeps.now c.args.k _ _ c.kept_edges-edges.result c.requires.edges c.kept_edges-edges.ensures goes.searches.long

pub loop-head-preserved : goal.loop-head-preserved
loop-head-preserved c =
    let h = c.loop-head.invariant in
    let here = slice_get_read c.loop-head.found.items _ c.loop-head.head c.index.result.now refl (omega arith) c.index.ensures in
    let goes = both_visited c.args.nodes.now c.args.seeds.now c.args.keeps.now c.args.k c.loop-head.head _ _ _ _ _ _ c.index.result.now c.kept_edges-edges.result here c.requires.edges c.kept_edges-edges.ensures h.searches c.in_ok-visit-2.ensures c.in_ok-visit-3.ensures in
    record {
      searches = goes.searches;
      begun = λ j lt bit. goes.stays j (h.begun j lt bit);
      passed = passed_more _ _ _ _ c.loop-head.head _ _ _ _ (omega arith) h.passed goes;
      within = let x = goes.longer in omega arith;
    }

pub loop-head-smaller : goal.loop-head-smaller
loop-head-smaller c =
    let h = c.loop-head.invariant in
    let here = slice_get_read c.loop-head.found.items _ c.loop-head.head c.index.result.now refl (omega arith) c.index.ensures in
    let goes = both_visited c.args.nodes.now c.args.seeds.now c.args.keeps.now c.args.k c.loop-head.head _ _ _ _ _ _ c.index.result.now c.kept_edges-edges.result here c.requires.edges c.kept_edges-edges.ensures h.searches c.in_ok-visit-2.ensures c.in_ok-visit-3.ensures in
    let same = goes.less in
    let more = goes.longer in
    omega arith

pub returns : goal.returns
returns c =
    let h = c.loop-head.invariant in
    search_ends _ _ _ _ c.loop-head.head _ _ c.requires.seeds c.requires.edges h.searches h.begun h.passed (omega arith)
