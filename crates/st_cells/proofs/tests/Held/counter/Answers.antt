use Rattle.std.proofs.Common.{◌≡◌, ap, arith, sym, subst, ◌<◌}
use Rattle.std.specs.List.{Contains}
use Rattle.st_words.specs.declared.view.CellWord.TheVariants as words
use Rattle.st_words.specs.Encodings.{counter_owner}
use Rattle.st_words.specs.Plain.{Exact, view_at}
use Rattle.st_words.specs.Steps.{CellStore, Draw, Done, Number}
use Rattle.st_cells.specs.Cells.{owner_word}
use Rattle.st_cells.proofs.Trying.{MayAsk, IsAfter, asks, asks_name, drawn_there, counter_there, drawn_hand, named_hand, cells_kept}
use Rattle.st_cells.proofs.tests.Held.counter.Goals as goal

pub draw-requires : goal.draw-requires
draw-requires c =
    let s = c.args.self.now in
    record { may = record { serves = s.serves; may = asks (Exact s.board.words s.board.kept.cargoes 0) (view_at s.board.kept.views 0) Draw tt } }

pub set_owner-requires : goal.set_owner-requires
set_owner-requires c =
    let s = c.args.self.now in
    let board = c.draw.new.board in
    let v = view_at s.board.kept.views 0 in
    let w = view_at board.kept.views 0 in
    let made = c.in_ok-cell.ensures.made in
    let cell = c.in_ok-cell.cell in
    let same : cell ≡ made.0 = made.2.1 in
    let within : cell < 16 = let l : made.0 < 16 = made.2.0 in omega (arith, same) in
    let drawn : Contains w.drawn cell = subst (Contains w.drawn) (sym same) (drawn_there v w made.0 made.1.view) in
    let word : counter_owner 0 0 ≡ owner_word c.first_counter.result = sym (ap owner_word c.first_counter.ensures) in
    record { may = record { serves = c.in_ok-cell.ensures.made.1.serves; may = subst (λ n. MayAsk (Exact board.words board.kept.cargoes 0) w (CellStore cell words.Owner n)) word (asks_name (Exact board.words board.kept.cargoes 0) w cell (cells_kept v w Draw (Number made.0) made.1.view s.cells) within drawn) } }

pub returns-clause-counter : goal.returns-clause-counter
returns-clause-counter c =
    let w = view_at c.draw.new.board.kept.views 0 in
    let x = view_at c.set_owner.new.board.kept.views 0 in
    let made = c.in_ok-cell.ensures.made in
    let cell = c.in_ok-cell.cell in
    let same : cell ≡ made.0 = made.2.1 in
    let within : cell < 16 = let l : made.0 < 16 = made.2.0 in omega (arith, same) in
    let after : IsAfter w (CellStore cell words.Owner (counter_owner 0 0)) Done x = subst (λ n. IsAfter w (CellStore cell words.Owner n) Done x) (ap owner_word c.first_counter.ensures) c.set_owner.ensures.made.view in
    (within, counter_there w x cell after)

pub returns-clause-hand : goal.returns-clause-hand
returns-clause-hand c =
    let v = view_at c.args.self.now.board.kept.views 0 in
    let w = view_at c.draw.new.board.kept.views 0 in
    let x = view_at c.set_owner.new.board.kept.views 0 in
    let made = c.in_ok-cell.ensures.made in
    named_hand w x c.in_ok-cell.cell (owner_word c.first_counter.result) (drawn_hand v w made.0 c.requires made.1.view) c.set_owner.ensures.made.view
