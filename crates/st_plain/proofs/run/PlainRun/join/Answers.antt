use Rattle.std.proofs.Common.{◌≡◌, true, false, Some, slice_get, ap, sym, subst, arith}
use Rattle.std.specs.Prelude.{nat_lt}
use Rattle.std.proofs.lemmas.Bool.{lt-ltb, le-ltb}
use Rattle.st_base.specs.declared.reg.Reg.TheVariants as registers
use Rattle.st_step.specs.Moves.{register}
use Rattle.st_plain.specs.declared.cells.Cell.TheVariants.{Future, Counter}
use Rattle.st_plain.specs.Running.{EndsBy}
use Rattle.st_plain.proofs.Handles.{join_goes, join_waits, join_traps}
use Rattle.st_plain.proofs.Serving as serving
use Rattle.st_plain.proofs.Serving.{served_end, served_on}
use Rattle.st_plain.proofs.run.PlainRun.join.Goals as goal

pub cell-requires : goal.cell-requires
cell-requires c = let less = serving.join_inside c.args.image.now c.args.self.now c.requires.serving c.requires.at in omega (arith, less, c.reg.ensures)

pub trap-requires-clause-low : goal.trap-requires-clause-low
trap-requires-clause-low c = serving.back_least c.args.image.now c.args.self.now c.requires.serving (omega arith)

pub trap-requires-clause-high : goal.trap-requires-clause-high
trap-requires-clause-high c = serving.back_few c.args.image.now c.args.self.now c.requires.serving (omega arith)

pub trap-requires-clause-inside : goal.trap-requires-clause-inside
trap-requires-clause-inside c = serving.line_inside c.args.image.now c.args.self.now c.requires.serving (omega arith)

pub line_of_call-requires-clause-low : goal.line_of_call-requires-clause-low
line_of_call-requires-clause-low c = serving.back_least c.args.image.now c.args.self.now c.requires.serving (omega arith)

pub line_of_call-requires-clause-high : goal.line_of_call-requires-clause-high
line_of_call-requires-clause-high c = serving.back_few c.args.image.now c.args.self.now c.requires.serving (omega arith)

pub line_of_call-requires-clause-inside : goal.line_of_call-requires-clause-inside
line_of_call-requires-clause-inside c = serving.line_inside c.args.image.now c.args.self.now c.requires.serving (omega arith)

pub go_back-requires : goal.go_back-requires
go_back-requires c = serving.back_few c.args.image.now c.args.self.now c.requires.serving (omega arith)

pub returns-in-Future : goal.returns-in-Future
returns-in-Future c =
    let old = c.args.self.now in
    let trap = c.trap.ensures in
    let cell : slice_get old.threads.cells.items.items (register old.machine registers.A6) ≡ Some (Future c.in-Future.value) = cc (c.cell.ensures, c.in-Future.is, c.reg.ensures) in
    served_end c.args.image.now old c.trap.result
    (λ p d limits names s tables entry defined.
    subst (EndsBy p d limits _ old.threads.notes.items.items old.threads.out.items.items s) (sym trap.2)
    (join_traps p d c.args.image.now limits old old names s tables entry defined c.requires.at c.in-Future.value trap.0 cell trap.1))

pub returns-then-count-reg : goal.returns-then-count-reg
returns-then-count-reg c =
    let old = c.args.self.now in
    let count = c.in-Counter.count in
    let cell : slice_get old.threads.cells.items.items (register old.machine registers.A6) ≡ Some (Counter count) = cc (c.cell.ensures, c.in-Counter.is, c.reg.ensures) in
    let less : nat_lt count (register old.machine registers.A0) ≡ true = lt-ltb count (register old.machine registers.A0) (omega (arith, c.if-count-reg.true, c.reg-in-Counter.ensures)) in
    served_end c.args.image.now old _
    (λ p d limits names s tables entry defined. join_waits p d c.args.image.now limits old old names s tables entry defined c.requires.at count c.line_of_call.result cell less c.line_of_call.ensures)

pub returns-else-count-reg : goal.returns-else-count-reg
returns-else-count-reg c =
    let back = c.go_back.ensures in
    let old = c.args.self.now in
    let count = c.in-Counter.count in
    let cell : slice_get old.threads.cells.items.items (register old.machine registers.A6) ≡ Some (Counter count) = cc (c.cell.ensures, c.in-Counter.is, c.reg.ensures) in
    let enough : nat_lt count (register old.machine registers.A0) ≡ false = le-ltb count (register old.machine registers.A0) (omega (arith, c.if-count-reg.false, c.reg-in-Counter.ensures)) in
    served_on c.args.image.now old c.go_back.new.self back.board back.code (ap (λ threads. threads.cells.most) back.threads)
    (λ p d limits names s tables entry defined.
    join_goes p d c.args.image.now limits old c.go_back.new.self names s tables entry defined c.requires.at count cell enough back.machine (ap (λ board. board.words.stack) back.board) back.threads)
