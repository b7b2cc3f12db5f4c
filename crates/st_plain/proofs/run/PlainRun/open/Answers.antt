-- A run that is opened is ready: opened_ready, with the machine by the writes to its registers.
use Rattle.std.proofs.Common.{◌+◌, length, ap, ◌∙◌, arith}
use Rattle.std.proofs.Math.Logic.{∥∥₁_map}
use Rattle.st_model.specs.Memory.{data_of}
use Rattle.st_base.specs.declared.reg.Reg.TheVariants.{Ra}
use Rattle.st_step.specs.Moves.{written}
use Rattle.st_plain.specs.Standing.{stack_start}
use Rattle.st_plain.proofs.Opening.{opened, opened_by, opened_ready, board_opened}
use Rattle.st_plain.proofs.run.PlainRun.open.Goals as goal
use Rattle.st_model.specs.declared.code.Layout.TheVariants.{Unchanged}

pub of-requires : goal.of-requires
of-requires c = ∥∥₁_map c.requires.image (λ has. (Unchanged, has))

pub returns-clause-ready : goal.returns-clause-ready
returns-clause-ready c = λ p s pi starts defined.
    opened_ready p c.args.image.now (data_of c.args.image.now.rodata c.args.input.now) c.args.limits.now c.stack_alone-sizes.result _ s c.stack_alone-sizes.ensures pi starts defined
    (omega arith) (omega arith) (omega arith)
    (opened_by _ (length c.args.input.now) c.args.image.now.main_at _ _ _ _ _ c.new-machine.ensures c.set_reg.ensures (c.set_reg-2.ensures ∙ ap (λ n. written c.set_reg.new.self Ra n) (c.from.ensures ∙ c.address.ensures)) c.set_reg-3.ensures c.set_pc.ensures
    ∙ ap (λ stack. opened (stack_start + stack) (length c.args.input.now) c.args.image.now.main_at) c.from-high.ensures)
    c.in_ok-board.ensures.words c.in_ok-board.ensures.views
    (c.in_ok-code.ensures.instructions Unchanged p pi) c.in_ok-code.ensures.begins c.in_ok-code.ensures.handles
    c.in_ok-threads.ensures.room c.in_ok-threads.ensures.cells c.in_ok-threads.ensures.notes c.in_ok-threads.ensures.out

pub returns-clause-board : goal.returns-clause-board
returns-clause-board c = board_opened c.stack_alone-sizes.result c.in_ok-board.board c.in_ok-board.ensures.words c.in_ok-board.ensures.views
