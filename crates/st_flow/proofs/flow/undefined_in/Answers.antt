use Rattle.std.proofs.Common.{subst, sym}
use Rattle.std.proofs.lemmas.Result.{IfOk-weaker}
use Rattle.st_flow.specs.declared.places.Change.TheVariants.{Spared}
use Rattle.st_flow.specs.Graph.{InRange}
use Rattle.st_flow.specs.Tables.{AreStarts, IsTable, IsGraphOf}
use Rattle.st_flow.proofs.Travelling.{undefined_exact}
use Rattle.st_flow.proofs.flow.undefined_in.Goals as goal

pub spread-requires-clause-edges : goal.spread-requires-clause-edges
spread-requires-clause-edges c = subst InRange (sym c.deref-2.ensures.value) c.requires.map.range

pub returns-clause-exact : goal.returns-clause-exact
returns-clause-exact c =
    IfOk-weaker c.spread.result _ _
    (λ sets v i b lt.
    undefined_exact c.args.function.now _ _ _ _ c.args.g i b lt
    (subst (IsGraphOf c.args.function.now) (sym c.deref-2.ensures.value) c.requires.map.edges)
    (subst (AreStarts c.args.function.now c.args.g) (sym c.deref-4.ensures.value) c.in_ok-seeds.ensures.bits)
    (subst (IsTable Spared c.args.function.now c.args.g) (sym c.deref-5.ensures.value) c.in_ok-keeps.ensures.bits) v)
    c.spread.ensures
