use Rattle.std.proofs.Common.{◌≡◌, ◌==◌, ◌%◌, [], ◌∷◌, ◌++◌, true, false, length, ap, sym, ◌∙◌, subst, arith}
use Rattle.std.specs.Prelude.{nat_lt}
use Rattle.st_plain.specs.Running.{EndsBy}
use Rattle.st_plain.proofs.Printing.{putc_goes, putc_traps, putc_full}
use Rattle.st_plain.proofs.Serving as serving
use Rattle.st_plain.proofs.Serving.{served_end, served_on}
use Rattle.st_plain.proofs.run.PlainRun.putc.Goals as goal

pub trap-requires-clause-low : goal.trap-requires-clause-low
trap-requires-clause-low c = serving.back_least c.args.image.now c.args.self.now c.requires.serving (omega arith)

pub trap-requires-clause-high : goal.trap-requires-clause-high
trap-requires-clause-high c = serving.back_few c.args.image.now c.args.self.now c.requires.serving (omega arith)

pub trap-requires-clause-inside : goal.trap-requires-clause-inside
trap-requires-clause-inside c = serving.line_inside c.args.image.now c.args.self.now c.requires.serving (omega arith)

pub returns-then-not-is_root : goal.returns-then-not-is_root
returns-then-not-is_root c =
    let old = c.args.self.now in
    let trap = c.trap.ensures in
    let child : (length old.threads.notes.items.items == 1) ≡ false = sym c.is_root.ensures ∙ c.if-not-is_root.true in
    served_end c.args.image.now old c.trap.result
    (λ p d limits names s tables entry defined.
    subst (EndsBy p d limits _ old.threads.notes.items.items old.threads.out.items.items s) (sym trap.2)
    (putc_traps p d c.args.image.now limits old old names s tables entry defined c.requires.at trap.0 child trap.1))

pub returns-then-not-may_print : goal.returns-then-not-may_print
returns-then-not-may_print c =
    let old = c.args.self.now in
    let root : (length old.threads.notes.items.items == 1) ≡ true = sym c.is_root.ensures ∙ c.if-not-is_root.false in
    let full : nat_lt (length old.threads.out.items.items) 1048576 ≡ false = sym c.may_print.ensures ∙ c.if-not-may_print.true in
    served_end c.args.image.now old _
    (λ p d limits names s tables entry defined. putc_full p d c.args.image.now limits old old names s tables entry defined c.requires.at root full)

pub go_back-requires : goal.go_back-requires
go_back-requires c = serving.back_few c.args.image.now c.args.self.now c.requires.serving (omega arith)

pub returns : goal.returns
returns c =
    let back = c.go_back.ensures in
    let old = c.args.self.now in
    let print = c.print.ensures in
    let root : (length old.threads.notes.items.items == 1) ≡ true = sym c.is_root.ensures ∙ c.if-not-is_root.false in
    let room : nat_lt (length old.threads.out.items.items) 1048576 ≡ true = sym c.may_print.ensures ∙ c.if-not-may_print.false in
    served_on c.args.image.now old c.go_back.new.self back.board back.code (ap (λ threads. threads.cells.most) back.threads ∙ print.room)
    (λ p d limits names s tables entry defined.
    putc_goes p d c.args.image.now limits old c.go_back.new.self names s tables entry defined c.requires.at root room back.machine (ap (λ board. board.words.stack) back.board)
    (ap (λ threads. threads.cells.items.items) back.threads ∙ print.cells) (ap (λ threads. threads.notes.items.items) back.threads ∙ print.notes)
    (ap (λ threads. threads.out.items.items) back.threads ∙ print.out ∙ ap (λ n. old.threads.out.items.items ++ (n % 256) ∷ []) c.reg.ensures))
