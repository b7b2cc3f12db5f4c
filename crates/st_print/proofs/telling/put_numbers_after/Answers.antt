use Rattle.std.proofs.Common.{take, refl, Ok, ◌+◌, arith}
use Rattle.st_base.specs.declared.outside.Failed.{Failed}
use Rattle.st_print.specs.Joined.{Puts}
use Rattle.st_print.specs.Telling.{numbers_after}
use Rattle.st_print.proofs.Putting.{puts-then, puts-stop, puts-so_far, numbers_after-more, numbers_after-at}
use Rattle.st_print.proofs.telling.put_numbers_after.Goals as goal

pub returns-in_err-put_number_after : goal.returns-in_err-put_number_after
returns-in_err-put_number_after g c =
    let i = c.loop-number.number-index in
    let xs = c.args.numbers.now in
    let done : Puts {T = Unit {0}} {E = Failed} (numbers_after (take i xs)) (Ok tt) (g.K.Sink.faults c.args.to.now) (g.K.Sink.faults c.loop-number.to) (g.K.Sink.taken c.args.to.now) (g.K.Sink.taken c.loop-number.to) = puts-so_far c.loop-number.invariant.faults c.loop-number.invariant.taken in
    puts-stop _ _ (numbers_after-at i xs 0 (omega arith)) c.from_residual.ensures.0 (puts-then _ refl done c.in_err-put_number_after.ensures)

pub loop-number-preserved : goal.loop-number-preserved
loop-number-preserved g c =
    let i = c.loop-number.number-index in
    let xs = c.args.numbers.now in
    let done : Puts {T = Unit {0}} {E = Failed} (numbers_after (take i xs)) (Ok tt) (g.K.Sink.faults c.args.to.now) (g.K.Sink.faults c.loop-number.to) (g.K.Sink.taken c.args.to.now) (g.K.Sink.taken c.loop-number.to) = puts-so_far c.loop-number.invariant.faults c.loop-number.invariant.taken in
    let more = puts-then (numbers_after (take (i + 1) xs)) (numbers_after-more i xs 0 (omega arith)) done c.in_ok-put_number_after.ensures in
    record { faults = more.faults; taken = more.taken }
