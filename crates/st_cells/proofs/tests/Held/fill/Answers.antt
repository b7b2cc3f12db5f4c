use Rattle.st_words.specs.Encodings.{full_word}
use Rattle.st_words.specs.Plain.{Exact, view_at}
use Rattle.st_words.specs.Steps.{CellChange, Number}
use Rattle.st_cells.proofs.Trying.{asks_fill, cells_kept}
use Rattle.st_cells.proofs.tests.Held.fill.Goals as goal

pub fill-requires : goal.fill-requires
fill-requires c =
    let s = c.args.self.now in
    record { may = record { serves = s.serves; may = asks_fill (Exact s.board.words s.board.kept.cargoes 0) (view_at s.board.kept.views 0) c.args.seen s.cells c.requires } }

pub invariant_of-self : goal.invariant_of-self
invariant_of-self c =
    let s = c.args.self.now in
    record {
      serves = c.fill.ensures.made.1.serves;
      cells = cells_kept (view_at s.board.kept.views 0) (view_at c.fill.new.board.kept.views 0) (CellChange 1 c.args.seen full_word) (Number c.fill.ensures.made.0) c.fill.ensures.made.1.view s.cells;
    }
