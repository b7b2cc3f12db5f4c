use Rattle.std.proofs.Common.{◌≡◌, Some, slice_get, ap, sym, ◌∙◌, subst, arith}
use Rattle.std.specs.Prelude.{slice_set}
use Rattle.st_base.specs.declared.reg.Reg.TheVariants as registers
use Rattle.st_model.specs.Ordinary.{counted}
use Rattle.st_step.specs.Moves.{register}
use Rattle.st_plain.specs.declared.cells.Cell.TheVariants.{Future, Counter}
use Rattle.st_plain.specs.Running.{EndsBy}
use Rattle.st_plain.proofs.Handles.{done_goes, done_traps}
use Rattle.st_plain.proofs.Serving as serving
use Rattle.st_plain.proofs.Serving.{served_end, served_on}
use Rattle.st_plain.proofs.run.PlainRun.done.Goals as goal

pub cell-requires : goal.cell-requires
cell-requires c = let less = serving.done_inside c.args.image.now c.args.self.now c.requires.serving c.requires.at in omega (arith, less, c.reg-number.ensures)

pub trap-requires-clause-low : goal.trap-requires-clause-low
trap-requires-clause-low c = serving.back_least c.args.image.now c.args.self.now c.requires.serving (omega arith)

pub trap-requires-clause-high : goal.trap-requires-clause-high
trap-requires-clause-high c = serving.back_few c.args.image.now c.args.self.now c.requires.serving (omega arith)

pub trap-requires-clause-inside : goal.trap-requires-clause-inside
trap-requires-clause-inside c = serving.line_inside c.args.image.now c.args.self.now c.requires.serving (omega arith)

pub returns-in-Future : goal.returns-in-Future
returns-in-Future c =
    let old = c.args.self.now in
    let trap = c.trap.ensures in
    let cell : slice_get old.threads.cells.items.items (register old.machine registers.A6) ≡ Some (Future c.in-Future.value) = cc (c.cell.ensures, c.in-Future.is, c.reg-number.ensures) in
    served_end c.args.image.now old c.trap.result
    (λ p d limits names s tables entry defined.
    subst (EndsBy p d limits _ old.threads.notes.items.items old.threads.out.items.items s) (sym trap.2)
    (done_traps p d c.args.image.now limits old old names s tables entry defined c.requires.at c.in-Future.value trap.0 cell trap.1))

pub set_count-requires : goal.set_count-requires
set_count-requires c = let less = serving.done_inside c.args.image.now c.args.self.now c.requires.serving c.requires.at in omega (arith, less, c.reg-number.ensures)

pub go_back-requires : goal.go_back-requires
go_back-requires c = serving.back_few c.args.image.now c.args.self.now c.requires.serving (omega arith)

pub returns-in-Counter : goal.returns-in-Counter
returns-in-Counter c =
    let back = c.go_back.ensures in
    let old = c.args.self.now in
    let set = c.set_count.ensures in
    let count = c.in-Counter.count in
    let cell : slice_get old.threads.cells.items.items (register old.machine registers.A6) ≡ Some (Counter count) = cc (c.cell.ensures, c.in-Counter.is, c.reg-number.ensures) in
    let cells : c.go_back.new.self.threads.cells.items.items ≡ slice_set old.threads.cells.items.items (register old.machine registers.A6) (Counter (counted count)) =
    ap (λ threads. threads.cells.items.items) back.threads
    ∙ set.cells
    ∙ ap (λ n. slice_set old.threads.cells.items.items n (Counter c.counted.result)) c.reg-number.ensures
    ∙ ap (λ n. slice_set old.threads.cells.items.items (register old.machine registers.A6) (Counter n)) c.counted.ensures in
    served_on c.args.image.now old c.go_back.new.self back.board back.code (ap (λ threads. threads.cells.most) back.threads ∙ set.room)
    (λ p d limits names s tables entry defined.
    done_goes p d c.args.image.now limits old c.go_back.new.self names s tables entry defined c.requires.at count cell back.machine (ap (λ board. board.words.stack) back.board) cells
    (ap (λ threads. threads.notes.items.items) back.threads ∙ set.notes) (ap (λ threads. threads.out.items.items) back.threads ∙ set.out))
