use Rattle.std.proofs.Common.{◌-◌, ◌∙◌, arith, sym, ap}
use Rattle.st_asm.specs.declared.unit.Function.{Function}
use Rattle.st_check.proofs.NamePlaces.{tells_names-more}
use Rattle.st_check.proofs.names.names_of.Goals as goal

pub loop-left-preserved : goal.loop-left-preserved
loop-left-preserved c = record {
  within = omega arith;
  tells = tells_names-more (c.loop-left.left - 1) c.loop-left.left c.args.functions.now c.index-functions-left.result c.as_bytes.result.now c.loop-left.names c.insert.new.self (omega arith) (omega arith) c.index-functions-left.is (c.as_bytes.ensures ∙ ap (λ (g : Function). g.name) (sym c.index-functions-left.is)) c.in_ok-insert.ensures.updates c.loop-left.invariant.tells;
}
