use Rattle.std.proofs.Common.{◌≡◌, ◌<◌, ◌^◌, Some, None, slice_get, ap, sym, ◌∙◌, subst, arith}
use Rattle.st_base.specs.declared.reg.Reg.TheVariants as registers
use Rattle.st_step.specs.Moves.{register}
use Rattle.st_plain.specs.declared.cells.Cell.TheVariants.{Future, Counter}
use Rattle.st_plain.specs.Running.{EndsBy}
use Rattle.st_plain.proofs.GoingBack.{placed_back}
use Rattle.st_plain.proofs.Handles.{a0_apart, touch_goes, touch_traps}
use Rattle.st_plain.proofs.Serving as serving
use Rattle.st_plain.proofs.Serving.{served_end, served_on}
use Rattle.st_plain.proofs.run.PlainRun.touch.Goals as goal

pub cell-requires : goal.cell-requires
cell-requires c = let less = serving.touch_inside c.args.image.now c.args.self.now c.requires.serving c.requires.at in omega (arith, less, c.reg.ensures)

pub go_back-requires : goal.go_back-requires
go_back-requires c = serving.written_back c.args.image.now c.args.self.now c.requires.serving (omega arith) c.set_reg.new.self registers.A0 _ a0_apart c.set_reg.ensures

pub unreachable-requires : goal.unreachable-requires
unreachable-requires c =
    let cell : slice_get c.args.self.now.threads.cells.items.items (register c.args.self.now.machine registers.A6) ≡ Some (Future None) = cc (c.cell.ensures, c.in-Future-None.is, c.in-Future-None.value-is, c.reg.ensures) in
    serving.touch_ended c.args.image.now c.args.self.now c.requires.serving c.requires.at cell

pub trap-requires-clause-low : goal.trap-requires-clause-low
trap-requires-clause-low c = serving.back_least c.args.image.now c.args.self.now c.requires.serving (omega arith)

pub trap-requires-clause-high : goal.trap-requires-clause-high
trap-requires-clause-high c = serving.back_few c.args.image.now c.args.self.now c.requires.serving (omega arith)

pub trap-requires-clause-inside : goal.trap-requires-clause-inside
trap-requires-clause-inside c = serving.line_inside c.args.image.now c.args.self.now c.requires.serving (omega arith)

pub returns-in-Future-Some : goal.returns-in-Future-Some
returns-in-Future-Some c =
    let back = c.go_back.ensures in
    let old = c.args.self.now in
    let v = c.in-Future-Some.value in
    let cell : slice_get old.threads.cells.items.items (register old.machine registers.A6) ≡ Some (Future (Some v)) = cc (c.cell.ensures, c.in-Future-Some.is, c.in-Future-Some.value-is, c.reg.ensures) in
    let fits = simp (c.in-Future-Some.is, c.in-Future-Some.value-is) at c.cell.type_inv in
    let small : v < 2 ^ 64 = omega (arith, fits) in
    served_on c.args.image.now old c.go_back.new.self back.board back.code (ap (λ threads. threads.cells.most) back.threads)
    (λ p d limits names s tables entry defined.
    touch_goes p d c.args.image.now limits old c.go_back.new.self names s tables entry defined c.requires.at v cell small (back.machine ∙ placed_back old.machine c.set_reg.new.self registers.A0 v a0_apart c.set_reg.ensures) (ap (λ board. board.words.stack) back.board) back.threads)

pub returns-in-Counter : goal.returns-in-Counter
returns-in-Counter c =
    let old = c.args.self.now in
    let trap = c.trap.ensures in
    let cell : slice_get old.threads.cells.items.items (register old.machine registers.A6) ≡ Some (Counter c.in-Counter.count) = cc (c.cell.ensures, c.in-Counter.is, c.reg.ensures) in
    served_end c.args.image.now old c.trap.result
    (λ p d limits names s tables entry defined.
    subst (EndsBy p d limits _ old.threads.notes.items.items old.threads.out.items.items s) (sym trap.2)
    (touch_traps p d c.args.image.now limits old old names s tables entry defined c.requires.at c.in-Counter.count trap.0 cell trap.1))
