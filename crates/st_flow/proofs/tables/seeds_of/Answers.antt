use Rattle.std.proofs.Common.{◌∙◌, arith}
use Rattle.std.proofs.lemmas.Option.{slice_get-get_or}
use Rattle.st_flow.proofs.Spreading.{next_in, to_in}
use Rattle.st_flow.proofs.TableRows.{seeds_more, seeds_all}
use Rattle.st_flow.proofs.tables.seeds_of.Goals as goal

pub merge-requires : goal.merge-requires
merge-requires c = next_in c.args.nodes.now c.loop-j.j _ _ c.requires.edges (omega arith) c.loop-j.invariant.long

pub merge-requires-in-loop-j : goal.merge-requires-in-loop-j
merge-requires-in-loop-j c = to_in c.args.nodes.now c.loop-j.j _ _ c.requires.edges (omega arith) (c.merge.ensures.long ∙ c.loop-j.invariant.long)

pub loop-j-preserved : goal.loop-j-preserved
loop-j-preserved c = record {
  long = c.merge-in-loop-j.ensures.long ∙ c.merge.ensures.long ∙ c.loop-j.invariant.long;
  bits = seeds_more c.args.nodes.now _ _ _ _ _ _ c.loop-j.j _ _ _ _ (slice_get-get_or c.args.nodes.now c.loop-j.j _ (omega arith)) c.put_at-carry.ensures c.merge.ensures c.merge-in-loop-j.ensures c.loop-j.invariant.bits;
}

pub returns-clause-bits : goal.returns-clause-bits
returns-clause-bits c = λ i k. seeds_all _ _ _ _ c.loop-j.j i k _ (omega arith) (c.loop-j.invariant.bits i k)
