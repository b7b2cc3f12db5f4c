use Rattle.std.proofs.Common.{◌∙◌, length, arith, rules}
use Rattle.st_flow.proofs.Spreading.{next_in, to_in, popped_in, advance, smaller, spreads_first, spreads_last}
use Rattle.st_flow.proofs.graph.spread.Goals as goal

pub loop-j-init : goal.loop-j-init
loop-j-init c = spreads_first c.args.nodes.now c.args.ranks.now c.args.seeds.now c.args.keeps.now _ _ c.in_ok-sets.ensures.items c.requires.seeds c.in_ok-waiting.ensures

pub loop-j-preserved : goal.loop-j-preserved
loop-j-preserved c =
    advance c.args.nodes.now c.args.ranks.now c.args.seeds.now c.args.keeps.now _ _ _ _ _ _ _ (c.in-Some.field-0-0, c.in-Some.j) _ _ c.loop-j.invariant c.in-Some.ensures.removal c.index.ensures c.requires.keeps c.requires.edges c.in_ok-add.ensures c.in_ok-add-2.ensures

pub offset_bounds-nodes-j : goal.offset_bounds-nodes-j
offset_bounds-nodes-j c =
    let lt = popped_in c.args.nodes.now _ _ _ _ _ _ _ c.loop-j.invariant c.in-Some.ensures.removal in
    search rules

pub bounds-nodes-j : goal.bounds-nodes-j
bounds-nodes-j c = popped_in c.args.nodes.now _ _ _ _ _ _ _ c.loop-j.invariant c.in-Some.ensures.removal

pub index-requires : goal.index-requires
index-requires c =
    let lt = popped_in c.args.nodes.now _ _ _ _ _ _ _ c.loop-j.invariant c.in-Some.ensures.removal in
    let long = c.loop-j.invariant.long in
    omega arith

pub offset_bounds-keeps-j : goal.offset_bounds-keeps-j
offset_bounds-keeps-j c =
    let lt = popped_in c.args.nodes.now _ _ _ _ _ _ _ c.loop-j.invariant c.in-Some.ensures.removal in
    search rules

pub bounds-keeps-j : goal.bounds-keeps-j
bounds-keeps-j c =
    let lt = popped_in c.args.nodes.now _ _ _ _ _ _ _ c.loop-j.invariant c.in-Some.ensures.removal in
    let long = c.requires.keeps in
    omega arith

pub add-requires-clause-target : goal.add-requires-clause-target
add-requires-clause-target c =
    next_in c.args.nodes.now c.in-Some.j _ _ c.requires.edges (popped_in c.args.nodes.now _ _ _ _ _ _ _ c.loop-j.invariant c.in-Some.ensures.removal) c.loop-j.invariant.long

pub add-requires-in-Some-clause-target : goal.add-requires-in-Some-clause-target
add-requires-in-Some-clause-target c =
    to_in c.args.nodes.now c.in-Some.j _ _ c.requires.edges (popped_in c.args.nodes.now _ _ _ _ _ _ _ c.loop-j.invariant c.in-Some.ensures.removal) (c.in_ok-add.ensures.long ∙ c.loop-j.invariant.long)

pub loop-j-smaller : goal.loop-j-smaller
loop-j-smaller c = smaller _ _ _ _ _ _ _ _ _ _ (length c.args.nodes.now) _ _ c.in-Some.ensures.removal c.loop-j.invariant.long c.in_ok-add.ensures c.in_ok-add-2.ensures

pub returns : goal.returns
returns c = spreads_last _ _ _ _ _ _ c.loop-j.invariant c.in_default.ensures.variant.1
