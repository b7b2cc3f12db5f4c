use Rattle.st_words.specs.declared.view.CellWord.TheVariants as words
use Rattle.st_words.specs.Plain.{Exact, view_at}
use Rattle.st_words.specs.Steps.{CellLoad, Number}
use Rattle.st_cells.proofs.Trying.{asks_load, cells_kept}
use Rattle.st_cells.proofs.tests.Held.count.Goals as goal

pub count-requires : goal.count-requires
count-requires c =
    let s = c.args.self.now in
    record { may = record { serves = s.serves; may = asks_load (Exact s.board.words s.board.kept.cargoes 0) (view_at s.board.kept.views 0) c.args.cell words.State s.cells c.requires } }

pub invariant_of-self : goal.invariant_of-self
invariant_of-self c =
    let s = c.args.self.now in
    record {
      serves = c.count.ensures.made.1.serves;
      cells = cells_kept (view_at s.board.kept.views 0) (view_at c.count.new.board.kept.views 0) (CellLoad c.args.cell words.State) (Number c.count.ensures.made.0) c.count.ensures.made.1.view s.cells;
    }
