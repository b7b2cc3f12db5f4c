use Rattle.std.proofs.Common.{subst, sym}
use Rattle.std.proofs.lemmas.Result.{IfOk-weaker}
use Rattle.st_flow.specs.Graph.{InRange}
use Rattle.st_flow.proofs.Travelling.{starts_are}
use Rattle.st_flow.proofs.tables.starts.Goals as goal

pub seeds_of-requires-clause-edges : goal.seeds_of-requires-clause-edges
seeds_of-requires-clause-edges c = subst InRange (sym c.deref.ensures.value) c.requires.map.range

pub returns-clause-bits : goal.returns-clause-bits
returns-clause-bits c =
    IfOk-weaker c.seeds_of.result _ _
    (λ seeds v. starts_are c.args.function.now _ _ _ _ _ c.args.puts.now _ _ c.args.g c.deref.ensures.value c.deref-2.ensures.value c.requires.map c.absent.ensures c.requires.puts v)
    c.seeds_of.ensures.bits
