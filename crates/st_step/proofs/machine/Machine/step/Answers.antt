use Rattle.std.proofs.Common.{sym, ◌∙◌, ap, ℕ, List, subst}
use Rattle.st_model.specs.Memory.{data_of}
use Rattle.st_words.specs.Made.{Asked, StepMade}
use Rattle.st_words.specs.Steps.{Step}
use Rattle.st_rv.specs.declared.ins.Ins.{Ins}
use Rattle.st_step.specs.Moves.{is_entry, Fetches, move_of}
use Rattle.st_step.proofs.Fetching.{must_fetch, may_move, stepped}
use Rattle.st_step.proofs.machine.Machine.step.Goals as goal

pub unreachable-requires : goal.unreachable-requires
unreachable-requires g c =
    must_fetch (λ (s : Step). Asked g.B.Board.view g.B.Board.serves g.B.Board.says g.B.Board.forward g.B.Board.moves g.N.NamesView.after c.args.board.now c.args.w s)
    c.args.image.now (data_of c.args.image.now.rodata c.args.input.now) c.args.self.now (ap is_entry (sym c.pc-pc.ensures) ∙ sym c.is_entry.ensures ∙ c.if-is_entry.false) c.requires.may c.fetched.result
    (λ i fetches. c.fetched.ensures.only i (subst (λ (n : ℕ). Fetches c.args.image.now n i) (sym c.pc-pc.ensures) fetches)) c.in_default.is

pub execute-requires-clause-may : goal.execute-requires-clause-may
execute-requires-clause-may g c =
    may_move (λ (s : Step). Asked g.B.Board.view g.B.Board.serves g.B.Board.says g.B.Board.forward g.B.Board.moves g.N.NamesView.after c.args.board.now c.args.w s)
    c.args.image.now (data_of c.args.image.now.rodata c.args.input.now) c.args.self.now c.in-Some.i (move_of (data_of c.as_slice.result.now c.args.input.now) c.args.self.now c.of.result.ins) (ap is_entry (sym c.pc-pc.ensures) ∙ sym c.is_entry.ensures ∙ c.if-is_entry.false) c.requires.may
    (λ i fetches. c.in-Some.ensures.only i (subst (λ (n : ℕ). Fetches c.args.image.now n i) (sym c.pc-pc.ensures) fetches))
    (ap (λ (i : Ins). move_of (data_of c.as_slice.result.now c.args.input.now) c.args.self.now i) c.of.ensures.ins ∙ ap (λ (r : List ℕ). move_of (data_of r c.args.input.now) c.args.self.now c.in-Some.i) c.as_slice.ensures)

pub returns : goal.returns
returns g c = record {
  step = stepped (λ s a b. StepMade g.B.Board.view g.B.Board.serves g.B.Board.says g.B.Board.did g.N.NamesView.after c.args.board.now c.args.w s a b) c.args.board.now c.args.self.now c.args.image.now (data_of c.args.image.now.rodata c.args.input.now) c.execute.result c.execute.new.self c.execute.new.board c.in-Some.i (move_of (data_of c.as_slice.result.now c.args.input.now) c.args.self.now c.of.result.ins) (ap is_entry (sym c.pc-pc.ensures) ∙ sym c.is_entry.ensures ∙ c.if-is_entry.false)
      (λ i fetches. c.in-Some.ensures.only i (subst (λ (n : ℕ). Fetches c.args.image.now n i) (sym c.pc-pc.ensures) fetches))
      (ap (λ (i : Ins). move_of (data_of c.as_slice.result.now c.args.input.now) c.args.self.now i) c.of.ensures.ins ∙ ap (λ (r : List ℕ). move_of (data_of r c.args.input.now) c.args.self.now c.in-Some.i) c.as_slice.ensures) c.execute.ensures.moved;
}
