use Rattle.st_words.specs.declared.view.CellWord.TheVariants as words
use Rattle.st_words.specs.Plain.{Exact, view_at}
use Rattle.st_words.specs.Steps.{CellLoad, Number}
use Rattle.st_cells.proofs.Trying.{asks_load, cells_kept}
use Rattle.st_cells.proofs.tests.Held.owner.Goals as goal

pub owner-requires : goal.owner-requires
owner-requires c =
    let s = c.args.self.now in
    record { may = record { serves = s.serves; may = asks_load (Exact s.board.words s.board.kept.cargoes 0) (view_at s.board.kept.views 0) c.args.cell words.Owner s.cells c.requires } }

pub invariant_of-self : goal.invariant_of-self
invariant_of-self c =
    let s = c.args.self.now in
    record {
      serves = c.owner.ensures.made.1.serves;
      cells = cells_kept (view_at s.board.kept.views 0) (view_at c.owner.new.board.kept.views 0) (CellLoad c.args.cell words.Owner) (Number c.owner.ensures.made.0) c.owner.ensures.made.1.view s.cells;
    }
