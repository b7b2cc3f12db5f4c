use Rattle.std.proofs.Common.{subst, sym, ◌%◌}
use Rattle.std.specs.Prelude.{IfSome, IfNone, ◌/◌}
use Rattle.st_flow.specs.declared.places.Change.TheVariants.{Spared}
use Rattle.st_flow.specs.Graph.{InRange, Reaches}
use Rattle.st_flow.specs.Search.{IsTrail}
use Rattle.st_flow.specs.Tables.{AreStarts, IsTable}
use Rattle.st_flow.proofs.Joining.{late_of, late_there}
use Rattle.st_flow.proofs.path.late_path.Goals as goal

pub trail-requires-clause-edges : goal.trail-requires-clause-edges
trail-requires-clause-edges c = subst InRange (sym c.deref.ensures.value) c.requires.map.range

pub unreachable-requires : goal.unreachable-requires
unreachable-requires c =
    let none = subst (λ o. IfNone o (Reaches c.deref.result.now c.deref-2.result.now c.deref-3.result.now (c.args.place % 64) c.args.item → ⊥)) c.in-None.is c.in_ok-path.ensures.none in
    none
    (subst (λ n. Reaches n c.deref-2.result.now c.deref-3.result.now (c.args.place % 64) c.args.item) (sym c.deref.ensures.value)
    (late_there c.args.function.now c.args.map.now.nodes.items _ _ c.args.place c.args.item c.requires.map.edges
    (subst (AreStarts c.args.function.now (c.args.place / 64)) (sym c.deref-2.ensures.value) c.in_ok-seeds.ensures.bits)
    (subst (IsTable Spared c.args.function.now (c.args.place / 64)) (sym c.deref-3.ensures.value) c.in_ok-keeps.ensures.bits) c.requires.undefined))

pub returns : goal.returns
returns c =
    let path = subst (λ o. IfSome o (λ path. IsTrail c.deref.result.now c.deref-2.result.now c.deref-3.result.now (c.args.place % 64) c.args.item path.items)) c.in-Some.is c.in_ok-path.ensures.path in
    late_of c.args.function.now c.args.map.now.nodes.items _ _ c.in-Some.path.items c.args.place c.args.item c.requires.map.edges
    (subst (AreStarts c.args.function.now (c.args.place / 64)) (sym c.deref-2.ensures.value) c.in_ok-seeds.ensures.bits)
    (subst (IsTable Spared c.args.function.now (c.args.place / 64)) (sym c.deref-3.ensures.value) c.in_ok-keeps.ensures.bits)
    (subst (λ n. IsTrail n c.deref-2.result.now c.deref-3.result.now (c.args.place % 64) c.args.item c.in-Some.path.items) c.deref.ensures.value path)
