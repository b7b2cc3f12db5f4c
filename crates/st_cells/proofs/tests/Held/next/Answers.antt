use Rattle.st_words.specs.declared.view.CellWord.TheVariants as words
use Rattle.st_words.specs.Plain.{Exact, view_at}
use Rattle.st_words.specs.Steps.{CellLoad, Number}
use Rattle.st_cells.proofs.Trying.{asks_load, cells_kept}
use Rattle.st_cells.proofs.tests.Held.next.Goals as goal

pub next-requires : goal.next-requires
next-requires c =
    let s = c.args.self.now in
    record { may = record { serves = s.serves; may = asks_load (Exact s.board.words s.board.kept.cargoes 0) (view_at s.board.kept.views 0) c.args.waiter words.Next s.cells c.requires } }

pub invariant_of-self : goal.invariant_of-self
invariant_of-self c =
    let s = c.args.self.now in
    record {
      serves = c.next.ensures.made.serves;
      cells = cells_kept (view_at s.board.kept.views 0) (view_at c.next.new.board.kept.views 0) (CellLoad c.args.waiter words.Next) (Number c.next.result) c.next.ensures.made.view s.cells;
    }
