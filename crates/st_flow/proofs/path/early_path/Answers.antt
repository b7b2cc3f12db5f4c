use Rattle.std.proofs.Common.{subst, sym, ◌≡◌, ◌<◌, length, ℕ}
use Rattle.std.specs.Prelude.{◌↔◌, IfSome, IfNone}
use Rattle.st_flow.specs.Graph.{InRange, HasBit, Reaches}
use Rattle.st_flow.specs.Search.{IsTrail}
use Rattle.st_flow.proofs.Travelling.{leads_walk}
use Rattle.std.proofs.Common.{arith}
use Rattle.st_flow.proofs.Joining.{walk_of, walk_there}
use Rattle.st_flow.proofs.path.early_path.Goals as goal

pub trail-requires-clause-edges : goal.trail-requires-clause-edges
trail-requires-clause-edges c = subst InRange (sym c.deref.ensures.value) c.requires.map.range

pub unreachable-requires : goal.unreachable-requires
unreachable-requires c =
    let none = subst (λ o. IfNone o (Reaches c.deref.result.now c.deref-2.result.now c.deref-3.result.now 0 c.args.j → ⊥)) c.in-None.is c.in_ok-path.ensures.none in
    none
    (subst (λ n. Reaches n c.deref-2.result.now c.deref-3.result.now 0 c.args.j) (sym c.deref.ensures.value)
    (walk_there c.args.map.now.nodes.items _ _ c.args.j
    (subst (λ l. (i : ℕ) → HasBit l i 0 ↔ (i ≡ 0)) (sym c.deref-2.ensures.value) c.in_ok-seeds.ensures.bits)
    (subst (λ l. (i : ℕ) → i < length c.args.map.now.nodes.items → HasBit l i 0) (sym c.deref-3.ensures.value) (λ i lt. c.in_ok-keeps.ensures.bits i (let n = c.len-2.ensures in omega arith))) (let r = (c.requires.map.reached c.args.j).0 c.requires.reached in (r.0, leads_walk c.args.function.now c.args.map.now.nodes.items c.requires.map.edges r.0 c.args.j r.1))))

pub returns : goal.returns
returns c =
    let path = subst (λ o. IfSome o (λ path. IsTrail c.deref.result.now c.deref-2.result.now c.deref-3.result.now 0 c.args.j path.items)) c.in-Some.is c.in_ok-path.ensures.path in
    walk_of c.args.map.now.nodes.items _ _ c.in-Some.path.items c.args.j
    (subst (λ l. (i : ℕ) → HasBit l i 0 ↔ (i ≡ 0)) (sym c.deref-2.ensures.value) c.in_ok-seeds.ensures.bits)
    (subst (λ n. IsTrail n c.deref-2.result.now c.deref-3.result.now 0 c.args.j c.in-Some.path.items) c.deref.ensures.value path)
