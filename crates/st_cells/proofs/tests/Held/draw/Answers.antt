use Rattle.st_words.specs.Plain.{Exact, view_at}
use Rattle.st_words.specs.Steps.{Draw, Number}
use Rattle.st_cells.proofs.Trying.{asks, cells_kept}
use Rattle.st_cells.proofs.tests.Held.draw.Goals as goal

pub draw-requires : goal.draw-requires
draw-requires c =
    let s = c.args.self.now in
    record { may = record { serves = s.serves; may = asks (Exact s.board.words s.board.kept.cargoes 0) (view_at s.board.kept.views 0) Draw tt } }

pub invariant_of-self : goal.invariant_of-self
invariant_of-self c =
    let s = c.args.self.now in
    record {
      serves = c.draw.ensures.made.1.serves;
      cells = cells_kept (view_at s.board.kept.views 0) (view_at c.draw.new.board.kept.views 0) Draw (Number c.draw.ensures.made.0) c.draw.ensures.made.1.view s.cells;
    }
