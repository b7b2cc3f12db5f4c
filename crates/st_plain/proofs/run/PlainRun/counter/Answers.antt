use Rattle.std.proofs.Common.{◌≡◌, ◌≤◌, true, false, length, ap, sym, ◌∙◌, subst, arith}
use Rattle.std.specs.Prelude.{nat_lt, reverse}
use Rattle.st_base.specs.declared.reg.Reg.TheVariants as registers
use Rattle.st_step.specs.Moves.{register, written, at_place}
use Rattle.st_plain.specs.Running.{EndsBy}
use Rattle.st_plain.proofs.GoingBack.{back_written, placed_back}
use Rattle.st_plain.proofs.Handles.{a6_apart, counter_goes, counter_full}
use Rattle.st_plain.proofs.Serving as serving
use Rattle.st_plain.proofs.Serving.{served_end, served_on}
use Rattle.st_plain.proofs.run.PlainRun.counter.Goals as goal

pub counter-cell-requires-clause-may : goal.counter-cell-requires-clause-may
counter-cell-requires-clause-may c = serving.make_room c.args.self.now c.requires.serving (omega arith)

pub go_back-requires : goal.go_back-requires
go_back-requires c =
    let few = serving.way_back c.args.self.now c.requires.serving (λ e. omega (arith, e)) (λ e. omega (arith, e)) in
    let same = ap (λ state. register state registers.Ra) c.set_reg.ensures ∙ back_written c.args.self.now.machine registers.A6 c.from.result a6_apart in
    omega (arith, few.1, same)

pub returns : goal.returns
returns c image =
    let back = c.go_back.ensures in
    let old = c.args.self.now in
    let n = length old.threads.cells.items.items in
    let made = c.counter-cell.ensures in
    let room : nat_lt n old.threads.cells.most ≡ true = sym c.has_room.ensures ∙ c.if-not-has_room.false in
    let few : old.threads.cells.most ≤ 65536 = omega arith in
    let cell : c.from.result ≡ n = c.from.ensures ∙ made.number in
    let machine : c.go_back.new.self.machine ≡ at_place (register old.machine registers.Ra) (written old.machine registers.A6 n) =
    back.machine
    ∙ placed_back old.machine c.set_reg.new.self registers.A6 c.from.result a6_apart c.set_reg.ensures
    ∙ ap (λ k. at_place (register old.machine registers.Ra) (written old.machine registers.A6 k)) cell in
    served_on image old c.go_back.new.self back.board back.code (ap (λ threads. threads.cells.most) back.threads ∙ made.room)
    (λ p d limits names s tables entry defined.
    counter_goes p d image limits old c.go_back.new.self names s tables entry defined c.requires.at room few machine (ap (λ board. board.words.stack) back.board)
    (ap (λ threads. threads.cells.items.items) back.threads ∙ made.cells) (ap (λ threads. reverse threads.notes.items.items) back.threads ∙ made.notes) (ap (λ threads. threads.out.items.items) back.threads ∙ made.out))

pub returns-then-not-has_room : goal.returns-then-not-has_room
returns-then-not-has_room c image =
    let old = c.args.self.now in
    let full : nat_lt (length old.threads.cells.items.items) old.threads.cells.most ≡ false = sym c.has_room.ensures ∙ c.if-not-has_room.true in
    served_end image old c.cells_are_full.result
    (λ p d limits names s tables entry defined.
    subst (EndsBy p d limits _ old.threads.notes.items.items old.threads.out.items.items s) (sym c.cells_are_full.ensures)
    (counter_full p d image limits old old names s tables entry defined c.requires.at full))
