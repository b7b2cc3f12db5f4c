use Rattle.std.proofs.Common.{◌∙◌, ◌<◌, ◌++◌, ◌%◌, ℕ, length, ap, subst}
use Rattle.st_flow.specs.Joined.{PutsTo}
use Rattle.st_flow.proofs.Joining.{joined_late, joined_both}
use Rattle.st_flow.proofs.path.joined_path.Goals as goal

pub returns-in_default : goal.returns-in_default
returns-in_default c =
    let late = c.in_ok-path.ensures in
    let here = c.origin.ensures c.args.item late.since (c.deref-3.ensures.value ∙ late.is) in
    let never = subst (λ l. (j : ℕ) → j < length c.args.map.now.nodes.items → PutsTo c.args.map.now.nodes.items c.args.map.now.reach.items l (c.args.place % 64) c.origin.result j → ⊥) c.deref-2.ensures.value c.in_default.ensures.none in
    joined_late c.args.function.now c.args.map.now.nodes.items c.args.map.now.ranks.items c.args.map.now.reach.items c.in_ok-puts.puts.items c.in_ok-path.path.items c.args.place c.args.item c.origin.result c.requires.map c.in_ok-puts.ensures.bits late here never

pub returns : goal.returns
returns c =
    let late = c.in_ok-path.ensures in
    let here = c.origin.ensures c.args.item late.since (c.deref-3.ensures.value ∙ late.is) in
    let puts = subst (λ l. PutsTo c.args.map.now.nodes.items c.args.map.now.reach.items l (c.args.place % 64) c.origin.result c.in-Some.j) c.deref-2.ensures.value c.in-Some.ensures.some in
    joined_both c.args.function.now c.args.map.now.nodes.items c.args.map.now.ranks.items c.args.map.now.reach.items c.in_ok-puts.puts.items c.in_ok-path.path.items c.in_ok-early.early.items _ c.args.place c.args.item c.origin.result c.in-Some.j c.requires.map c.in_ok-puts.ensures.bits late here puts c.in_ok-early.ensures
    (c.in_ok-extend_from_slice.ensures.items ∙ ap (λ l. c.in_ok-path.path.items ++ l) c.deref-4.ensures.value)
