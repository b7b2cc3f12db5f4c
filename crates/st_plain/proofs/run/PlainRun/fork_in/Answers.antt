use Rattle.std.proofs.Common.{◌≡◌, true, false, length, ap, sym, ◌∙◌, subst, arith}
use Rattle.std.specs.Prelude.{nat_lt, reverse}
use Rattle.st_plain.specs.Running.{EndsBy}
use Rattle.st_plain.proofs.ForkIn.{fork_goes, fork_full}
use Rattle.st_plain.proofs.Serving as serving
use Rattle.st_plain.proofs.Serving.{served_end, served_on}
use Rattle.st_plain.proofs.run.PlainRun.fork_in.Goals as goal

pub returns-then-not-has_room : goal.returns-then-not-has_room
returns-then-not-has_room c image =
    let old = c.args.self.now in
    let full : nat_lt (length old.threads.cells.items.items) old.threads.cells.most ≡ false = sym c.has_room.ensures ∙ c.if-not-has_room.true in
    served_end image old c.cells_are_full.result
    (λ p d limits names s tables entry defined.
    subst (EndsBy p d limits _ old.threads.notes.items.items old.threads.out.items.items s) (sym c.cells_are_full.ensures)
    (fork_full p d image limits old old names s tables entry c.requires.at full))

pub handle_of_fork-handle-requires-clause-low : goal.handle_of_fork-handle-requires-clause-low
handle_of_fork-handle-requires-clause-low c = (serving.way_back c.args.self.now c.requires.serving (λ e. omega (arith, e)) (λ e. omega (arith, e))).0

pub handle_of_fork-handle-requires-clause-high : goal.handle_of_fork-handle-requires-clause-high
handle_of_fork-handle-requires-clause-high c = (serving.way_back c.args.self.now c.requires.serving (λ e. omega (arith, e)) (λ e. omega (arith, e))).1

pub handle_of_fork-handle-requires-clause-inside : goal.handle_of_fork-handle-requires-clause-inside
handle_of_fork-handle-requires-clause-inside c = serving.handle_inside c.args.self.now c.requires.serving c.requires.at

pub fork-requires-clause-may : goal.fork-requires-clause-may
fork-requires-clause-may c = serving.make_room c.args.self.now c.requires.serving (omega arith)

pub returns : goal.returns
returns c image =
    let back = c.go_back.ensures in
    let old = c.args.self.now in
    let made = c.fork.ensures in
    let room : nat_lt (length old.threads.cells.items.items) old.threads.cells.most ≡ true = sym c.has_room.ensures ∙ c.if-not-has_room.false in
    served_on image old c.go_back.new.self back.board back.code (ap (λ threads. threads.cells.most) back.threads ∙ made.room)
    (λ p d limits names s tables entry defined.
    fork_goes p d image limits old c.go_back.new.self names s tables entry c.requires.at c.handle_of_fork-handle.result c.handle_of_fork-handle.ensures room back.machine (ap (λ board. board.words.stack) back.board)
    (ap (λ threads. threads.cells.items.items) back.threads ∙ made.cells) (ap (λ threads. reverse threads.notes.items.items) back.threads ∙ made.notes) (ap (λ threads. threads.out.items.items) back.threads ∙ made.out))

pub go_back-requires : goal.go_back-requires
go_back-requires c = (serving.way_back c.args.self.now c.requires.serving (λ e. omega (arith, e, c.requires.at)) (λ e. omega (arith, e, c.requires.at))).1
