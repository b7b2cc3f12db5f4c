use Rattle.std.proofs.Common.{◌≡◌, ◌≤◌, Some, ap, ◌∙◌, arith}
use Rattle.std.specs.Prelude.{reverse, slice_set}
use Rattle.st_base.specs.declared.reg.Reg.TheVariants as registers
use Rattle.st_step.specs.Moves.{register, written, at_place}
use Rattle.st_plain.specs.declared.cells.Cell.TheVariants.{Future}
use Rattle.st_plain.proofs.GoingBack.{placed_back}
use Rattle.st_plain.proofs.Serving as serving
use Rattle.st_plain.proofs.Serving.{served_on}
use Rattle.st_plain.proofs.ThreadEnds.{handle_apart, out_goes}
use Rattle.st_plain.proofs.run.PlainRun.fork_out.Goals as goal

pub end-note-requires : goal.end-note-requires
end-note-requires c = serving.end_inside c.args.self.now c.requires.serving

pub go_back-requires : goal.go_back-requires
go_back-requires c =
    let note = c.end-note.result in
    let low = serving.out_back c.args.self.now c.requires.serving c.requires.at note (reverse c.end-note.new.self.notes.items.items) c.end-note.ensures.notes in
    let same = ap (λ state. register state registers.Ra) c.set_reg.ensures ∙ ap (λ n. register (written c.args.self.now.machine note.handle n) registers.Ra) c.from.ensures in
    omega (arith, low, same)

pub returns : goal.returns
returns c image =
    let back = c.go_back.ensures in
    let old = c.args.self.now in
    let note = c.end-note.result in
    let end = c.end-note.ensures in
    let few : old.threads.cells.most ≤ 65536 = omega arith in
    served_on image old c.go_back.new.self back.board back.code (ap (λ threads. threads.cells.most) back.threads ∙ end.room)
    (λ p d limits names s tables entry defined.
    let apart = handle_apart p d image limits old old names s tables entry c.requires.at note (reverse c.end-note.new.self.notes.items.items) end.notes in
    let machine : c.go_back.new.self.machine ≡ at_place (register old.machine registers.Ra) (written old.machine note.handle note.cell) =
    back.machine
    ∙ placed_back old.machine c.set_reg.new.self note.handle c.from.result apart c.set_reg.ensures
    ∙ ap (λ n. at_place (register old.machine registers.Ra) (written old.machine note.handle n)) c.from.ensures in
    out_goes p d image limits old c.go_back.new.self names s tables entry c.requires.at note (reverse c.end-note.new.self.notes.items.items) end.notes few machine (ap (λ board. board.words.stack) back.board)
    (ap (λ threads. threads.cells.items.items) back.threads ∙ end.cells ∙ ap (λ v. slice_set old.threads.cells.items.items note.cell (Future (Some v))) c.reg.ensures)
    (ap (λ threads. reverse threads.notes.items.items) back.threads) (ap (λ threads. threads.out.items.items) back.threads ∙ end.out))
