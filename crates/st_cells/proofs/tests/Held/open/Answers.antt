use Rattle.st_words.specs.declared.view.CellWord.TheVariants as words
use Rattle.st_words.specs.Plain.{Exact, view_at}
use Rattle.st_words.specs.Steps.{CellStore, Done}
use Rattle.st_cells.proofs.Trying.{asks_value, cells_kept, first_cells, first_full, first_hand}
use Rattle.st_cells.proofs.tests.Held.open.Goals as goal

pub set_value-requires : goal.set_value-requires
set_value-requires c =
    let board = c.in_ok-board.board in
    let v = view_at board.kept.views 0 in
    record { may = record { serves = c.in_ok-board.ensures.serves; may = asks_value (Exact board.words board.kept.cargoes 0) v c.args.v (first_cells c.limits-limits.result v c.limits-limits.ensures c.in_ok-board.ensures.view) (first_full c.limits-limits.result v c.in_ok-board.ensures.view) } }

pub invariant_of-result : goal.invariant_of-result
invariant_of-result c =
    let board = c.in_ok-board.board in
    let v = view_at board.kept.views 0 in
    record {
      serves = c.set_value.ensures.made.serves;
      cells = cells_kept v (view_at c.set_value.new.board.kept.views 0) (CellStore 1 words.Value c.args.v) Done c.set_value.ensures.made.view (first_cells c.limits-limits.result v c.limits-limits.ensures c.in_ok-board.ensures.view);
    }

pub returns : goal.returns
returns c =
    let v = view_at c.in_ok-board.board.kept.views 0 in
    first_hand c.limits-limits.result v (view_at c.set_value.new.board.kept.views 0) c.args.v c.in_ok-board.ensures.view c.set_value.ensures.made.view
