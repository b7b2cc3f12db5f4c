-- Each item that is begun takes one of those that are left, and the bounded run with it.
use Rattle.std.proofs.Common.{◌-◌, ap, inl, sym, ◌∙◌, arith}
use Rattle.std.specs.Int.{from_bool}
use Rattle.std.proofs.lemmas.Bool.{ltb-false, ltb-true}
use Rattle.std.proofs.Math.Logic.{∥∥₁_elim, ∥∥₁_map}
use Rattle.std.proofs.Math.Bridge.{le_prop}
use Rattle.st_model.specs.Memory.{data_of}
use Rattle.st_plain.proofs.WholeRun.{at_entry, first_on_run, in_item, item_ends, never_going, next_stage, none_begins, past_all, rows_inside, steps_passed}
use Rattle.st_plain.proofs.whole.plain.Goals as goal

pub loop-init : goal.loop-init
loop-init c = record {
  board = c.in_ok-run.ensures.board;
  stage = λ p pi.
      let d = data_of c.args.image.now.rodata c.args.input.now in
      inl (first_on_run p c.args.image.now d c.args.limits.now c.in_ok-run.run' pi (omega arith) c.in_ok-run.ensures.cells (λ s starts defined. c.in_ok-run.ensures.ready p s pi starts defined), omega arith);
}

pub serve-requires-clause-amid : goal.serve-requires-clause-amid
serve-requires-clause-amid c = ∥∥₁_map c.requires.image (λ h.
    let d = data_of c.args.image.now.rodata c.args.input.now in
    let x = at_entry h.0 c.args.image.now d c.args.limits.now c.loop.run c.loop.left c.loop.counter (ltb-true c.loop.run.machine.pc 0x10000 (sym c.is_at_entry.ensures ∙ c.if-is_at_entry.true)) (c.loop.invariant.stage h.0 h.1) in
    (h.0, d, c.args.limits.now, x.drawn, x.s, x.turns, x.under))

pub returns-in-Some-clause-end : goal.returns-in-Some-clause-end
returns-in-Some-clause-end c = λ p pi.
    let d = data_of c.args.image.now.rodata c.args.input.now in
    let x = at_entry p c.args.image.now d c.args.limits.now c.loop.run c.loop.left c.loop.counter (ltb-true c.loop.run.machine.pc 0x10000 (sym c.is_at_entry.ensures ∙ c.if-is_at_entry.true)) (c.loop.invariant.stage p pi) in
    let threads = c.serve.new.self.threads in
    item_ends p c.args.image.now d c.args.limits.now c.loop.run c.loop.left c.loop.counter threads.notes.items.items threads.out.items.items c.in-Some.ending c.into_end.result x
    (c.into_end.ensures.end, c.into_end.ensures.limit) (c.in-Some.ensures.over p d c.args.limits.now x.drawn x.s x.turns x.under)

pub returns-in-Some-clause-ended : goal.returns-in-Some-clause-ended
returns-in-Some-clause-ended c = λ going.
    ∥∥₁_elim c.requires.image (λ x y. absurd x) (λ h.
    let d = data_of c.args.image.now.rodata c.args.input.now in
    let x = at_entry h.0 c.args.image.now d c.args.limits.now c.loop.run c.loop.left c.loop.counter (ltb-true c.loop.run.machine.pc 0x10000 (sym c.is_at_entry.ensures ∙ c.if-is_at_entry.true)) (c.loop.invariant.stage h.0 h.1) in
    let threads = c.serve.new.self.threads in
    never_going h.0 d c.args.limits.now x.drawn threads.notes.items.items threads.out.items.items x.s c.in-Some.ending c.into_end.result
    (c.into_end.ensures.end, c.into_end.ensures.limit) (c.in-Some.ensures.over h.0 d c.args.limits.now x.drawn x.s x.turns x.under) going)

pub loop-preserved-then-is_at_entry : goal.loop-preserved-then-is_at_entry
loop-preserved-then-is_at_entry c = record {
  board = c.serve.ensures.board;
  stage = λ p pi.
      let d = data_of c.args.image.now.rodata c.args.input.now in
      let x = at_entry p c.args.image.now d c.args.limits.now c.loop.run c.loop.left c.loop.counter (ltb-true c.loop.run.machine.pc 0x10000 (sym c.is_at_entry.ensures ∙ c.if-is_at_entry.true)) (c.loop.invariant.stage p pi) in
      next_stage p c.args.image.now d c.args.limits.now c.loop.run c.serve.new.self c.loop.left c.loop.counter x (c.serve.ensures.going c.in_default.is p d c.args.limits.now x.drawn x.s x.turns x.under);
}

pub begins_item-requires-clause-inside : goal.begins_item-requires-clause-inside
begins_item-requires-clause-inside c = ∥∥₁_elim c.requires.image le_prop (λ h.
    rows_inside h.0 c.args.image.now (data_of c.args.image.now.rodata c.args.input.now) c.args.limits.now c.loop.run c.loop.left c.loop.counter (ltb-false c.loop.run.machine.pc 0x10000 (sym c.is_at_entry.ensures ∙ c.if-is_at_entry.false)) (c.loop.invariant.stage h.0 h.1))

pub returns-then-left-begun-clause-end : goal.returns-then-left-begun-clause-end
returns-then-left-begun-clause-end c = λ p pi.
    let d = data_of c.args.image.now.rodata c.args.input.now in
    steps_passed p c.args.image.now d c.args.limits.now c.loop.run
    (none_begins p c.args.image.now d c.args.limits.now c.loop.run c.loop.left c.loop.counter c.from-begun.result (c.loop.invariant.stage p pi) (λ s ready. c.from-begun.ensures ∙ ap from_bool (c.begins_item.ensures.ready p c.args.image.now d c.args.limits.now s ready))
    (λ drawn s turns under few. c.from-begun.ensures ∙ ap from_bool (c.begins_item.ensures.amid p c.args.image.now d c.args.limits.now drawn s turns under few)) c.if-left-begun.true)

pub instruction-requires-clause-amid : goal.instruction-requires-clause-amid
instruction-requires-clause-amid c = ∥∥₁_map c.requires.image (λ h.
    let d = data_of c.args.image.now.rodata c.args.input.now in
    let enough = c.if-left-begun.false in
    let x = in_item h.0 c.args.image.now d c.args.limits.now c.loop.run c.loop.left (c.loop.left - c.from-begun.result) c.loop.counter c.from-begun.result (c.loop.invariant.stage h.0 h.1) (λ s ready. c.from-begun.ensures ∙ ap from_bool (c.begins_item.ensures.ready h.0 c.args.image.now d c.args.limits.now s ready))
    (λ drawn s turns under few. c.from-begun.ensures ∙ ap from_bool (c.begins_item.ensures.amid h.0 c.args.image.now d c.args.limits.now drawn s turns under few)) (omega (arith, enough)) in
    (h.0, c.args.limits.now, x.drawn, x.s, x.turns, x.under))

pub returns-in-Some-instruction-clause-end : goal.returns-in-Some-instruction-clause-end
returns-in-Some-instruction-clause-end c = λ p pi.
    let d = data_of c.args.image.now.rodata c.args.input.now in
    let enough = c.if-left-begun.false in
    let x = in_item p c.args.image.now d c.args.limits.now c.loop.run c.loop.left (c.loop.left - c.from-begun.result) c.loop.counter c.from-begun.result (c.loop.invariant.stage p pi) (λ s ready. c.from-begun.ensures ∙ ap from_bool (c.begins_item.ensures.ready p c.args.image.now d c.args.limits.now s ready))
    (λ drawn s turns under few. c.from-begun.ensures ∙ ap from_bool (c.begins_item.ensures.amid p c.args.image.now d c.args.limits.now drawn s turns under few)) (omega (arith, enough)) in
    let threads = c.instruction.new.self.threads in
    item_ends p c.args.image.now d c.args.limits.now c.loop.run (c.loop.left - c.from-begun.result) c.loop.counter threads.notes.items.items threads.out.items.items c.in-Some-instruction.ending c.into_end-in-Some-instruction.result x
    (c.into_end-in-Some-instruction.ensures.end, c.into_end-in-Some-instruction.ensures.limit) (c.in-Some-instruction.ensures.over p c.args.limits.now x.drawn x.s x.turns x.under)

pub returns-in-Some-instruction-clause-ended : goal.returns-in-Some-instruction-clause-ended
returns-in-Some-instruction-clause-ended c = λ going.
    ∥∥₁_elim c.requires.image (λ x y. absurd x) (λ h.
    let d = data_of c.args.image.now.rodata c.args.input.now in
    let enough = c.if-left-begun.false in
    let x = in_item h.0 c.args.image.now d c.args.limits.now c.loop.run c.loop.left (c.loop.left - c.from-begun.result) c.loop.counter c.from-begun.result (c.loop.invariant.stage h.0 h.1) (λ s ready. c.from-begun.ensures ∙ ap from_bool (c.begins_item.ensures.ready h.0 c.args.image.now d c.args.limits.now s ready))
    (λ drawn s turns under few. c.from-begun.ensures ∙ ap from_bool (c.begins_item.ensures.amid h.0 c.args.image.now d c.args.limits.now drawn s turns under few)) (omega (arith, enough)) in
    let threads = c.instruction.new.self.threads in
    never_going h.0 d c.args.limits.now x.drawn threads.notes.items.items threads.out.items.items x.s c.in-Some-instruction.ending c.into_end-in-Some-instruction.result
    (c.into_end-in-Some-instruction.ensures.end, c.into_end-in-Some-instruction.ensures.limit) (c.in-Some-instruction.ensures.over h.0 c.args.limits.now x.drawn x.s x.turns x.under) going)

pub loop-preserved : goal.loop-preserved
loop-preserved c = record {
  board = c.instruction.ensures.board;
  stage = λ p pi.
      let d = data_of c.args.image.now.rodata c.args.input.now in
      let enough = c.if-left-begun.false in
      let x = in_item p c.args.image.now d c.args.limits.now c.loop.run c.loop.left (c.loop.left - c.from-begun.result) c.loop.counter c.from-begun.result (c.loop.invariant.stage p pi) (λ s ready. c.from-begun.ensures ∙ ap from_bool (c.begins_item.ensures.ready p c.args.image.now d c.args.limits.now s ready))
      (λ drawn s turns under few. c.from-begun.ensures ∙ ap from_bool (c.begins_item.ensures.amid p c.args.image.now d c.args.limits.now drawn s turns under few)) (omega (arith, enough)) in
      next_stage p c.args.image.now d c.args.limits.now c.loop.run c.instruction.new.self (c.loop.left - c.from-begun.result) c.loop.counter x (c.instruction.ensures.going c.in_default-instruction.is p c.args.limits.now x.drawn x.s x.turns x.under);
}

pub unreachable-requires : goal.unreachable-requires
unreachable-requires c = ∥∥₁_elim c.requires.image (λ x y. absurd x) (λ h.
    let d = data_of c.args.image.now.rodata c.args.input.now in
    let far = c.loop-test.false in
    past_all h.0 c.args.image.now d c.args.limits.now c.loop.run c.loop.left c.loop.counter (omega (arith, far)) (c.loop.invariant.stage h.0 h.1))
