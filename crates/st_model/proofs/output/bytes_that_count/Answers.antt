use Rattle.std.proofs.Common.{◌+◌, arith, sym, ◌∙◌, ap}
use Rattle.std.specs.List.{count_by}
use Rattle.std.proofs.lemmas.List.{take_all}
use Rattle.std.proofs.lemmas.List.Sums.{count_by_more_no, count_by_more_yes}
use Rattle.st_base.specs.EventKey.{event_key}
use Rattle.st_model.specs.Quiet.{counts}
use Rattle.st_model.proofs.Counted.{counted-many, counted-first}
use Rattle.st_model.proofs.output.bytes_that_count.Goals as goal
use Rattle.st_model.proofs.output.bytes_that_count.Goals.{then-counts, else-counts}

pub overflow_add-count : goal.overflow_add-count
overflow_add-count c = omega arith

pub loop-printed-preserved : goal.loop-printed-preserved
loop-printed-preserved c = record {
  within = elim c.if-counts.branch [ then-counts w ↦ omega arith | else-counts w ↦ omega arith ];
  many = λ forks.
      let test = counts c.args.path.now (event_key c.args.path.now forks) in
      let behind = c.loop-printed.invariant.many forks in
      elim c.if-counts.branch [
        | then-counts w ↦
            w.count-is ∙ ap (λ n. n + 1) behind
            ∙ sym (count_by_more_yes test c.args.out.now c.loop-printed.printed-index _ c.loop-printed-test.true (sym (c.counts.ensures forks) ∙ w.if-counts.true))
        | else-counts w ↦
            w.count-is ∙ behind
            ∙ sym (count_by_more_no test c.args.out.now c.loop-printed.printed-index _ c.loop-printed-test.true (sym (c.counts.ensures forks) ∙ w.if-counts.false))
      ];
}

-- behind the last byte, the count is that of all
pub returns-clause-many : goal.returns-clause-many
returns-clause-many c = λ forks.
    let event = event_key c.args.path.now forks in
    c.loop-printed.invariant.many forks
    ∙ ap (count_by (counts c.args.path.now event)) (take_all c.loop-printed.printed-index c.args.out.now c.loop-printed-test.false)
    ∙ sym (counted-many c.args.path.now event c.args.out.now)

pub returns-clause-first : goal.returns-clause-first
returns-clause-first c = λ ordered forks. counted-first c.args.path.now forks c.loop-printed.count c.args.out.now ordered (returns-clause-many c forks)
