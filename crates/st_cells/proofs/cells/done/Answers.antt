use Rattle.std.proofs.Common.{rules, subst}
use Rattle.st_words.specs.Made.{Asked}
use Rattle.st_words.specs.Steps.{CellChange}
use Rattle.st_cells.proofs.cells.done.Goals as goal

pub change-requires : goal.change-requires
change-requires g c = record {
  may = subst (λ n. Asked g.B.Board.view g.B.Board.serves g.B.Board.says g.B.Board.forward g.B.Board.moves g.N.NamesView.after c.args.board.now c.args.w (CellChange c.args.cell c.args.seen n)) (search rules) c.requires.may;
}
