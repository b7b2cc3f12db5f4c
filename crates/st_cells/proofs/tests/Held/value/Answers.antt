use Rattle.std.proofs.Common.{arith}
use Rattle.st_words.specs.declared.view.CellWord.TheVariants as words
use Rattle.st_words.specs.Plain.{Exact, view_at}
use Rattle.st_words.specs.Steps.{CellLoad, Number}
use Rattle.st_cells.proofs.Trying.{asks_load, cells_kept}
use Rattle.st_cells.proofs.tests.Held.value.Goals as goal

pub value-requires : goal.value-requires
value-requires c =
    let s = c.args.self.now in
    record { may = record { serves = s.serves; may = asks_load (Exact s.board.words s.board.kept.cargoes 0) (view_at s.board.kept.views 0) 1 words.Value s.cells (omega arith) } }

pub invariant_of-self : goal.invariant_of-self
invariant_of-self c =
    let s = c.args.self.now in
    record {
      serves = c.value.ensures.made.serves;
      cells = cells_kept (view_at s.board.kept.views 0) (view_at c.value.new.board.kept.views 0) (CellLoad 1 words.Value) (Number c.value.result) c.value.ensures.made.view s.cells;
    }
