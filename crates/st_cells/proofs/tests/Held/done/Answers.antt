use Rattle.st_words.specs.Encodings.{counter_word, count_after, count_in}
use Rattle.st_words.specs.Plain.{Exact, view_at}
use Rattle.st_words.specs.Steps.{CellChange, Number}
use Rattle.st_cells.proofs.Trying.{asks_done, cells_kept}
use Rattle.st_cells.proofs.tests.Held.done.Goals as goal

pub done-requires : goal.done-requires
done-requires c =
    let s = c.args.self.now in
    record { may = record { serves = s.serves; may = asks_done (Exact s.board.words s.board.kept.cargoes 0) (view_at s.board.kept.views 0) c.args.cell c.args.seen s.cells c.requires.within c.requires.counter } }

pub invariant_of-self : goal.invariant_of-self
invariant_of-self c =
    let s = c.args.self.now in
    record {
      serves = c.done.ensures.made.1.serves;
      cells = cells_kept (view_at s.board.kept.views 0) (view_at c.done.new.board.kept.views 0) (CellChange c.args.cell c.args.seen (counter_word (count_after (count_in c.args.seen)) 0)) (Number c.done.ensures.made.0) c.done.ensures.made.1.view s.cells;
    }
