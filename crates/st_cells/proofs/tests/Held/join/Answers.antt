use Rattle.std.proofs.Common.{arith, ◌+◌, inl, refl}
use Rattle.st_words.specs.declared.view.CellWord.TheVariants as words
use Rattle.st_words.specs.declared.view.Slot.TheVariants.{Cell}
use Rattle.st_words.specs.Encodings.{counter_word, count_in}
use Rattle.st_words.specs.Plain.{Exact, view_at}
use Rattle.st_words.specs.Steps.{CellStore, CellChange, SlotPut, Done, Number}
use Rattle.st_words.specs.Views.{no_cargo}
use Rattle.st_cells.proofs.Trying.{asks_put, asks_link, asks_join, joined_hand, joined_counter, linked_hand, linked_counter, in_hand_of, cells_kept}
use Rattle.st_cells.proofs.tests.Held.join.Goals as goal

pub slot_put-requires : goal.slot_put-requires
slot_put-requires c =
    let s = c.args.self.now in
    record { may = record { serves = s.serves; may = asks_put (Exact s.board.words s.board.kept.cargoes 0) (view_at s.board.kept.views 0) 2 c.joining.result s.cells (omega arith) (inl refl) c.joining.ensures.0 } }

pub set_next-requires : goal.set_next-requires
set_next-requires c =
    let s = c.args.self.now in
    let v = view_at s.board.kept.views 0 in
    let b = c.slot_put.new.self in
    let u = view_at b.kept.views 0 in
    let cells = cells_kept v u (SlotPut (Cell 2) c.joining.result no_cargo) Done c.slot_put.ensures.made.view s.cells in
    record { may = record { serves = c.slot_put.ensures.made.serves; may = asks_link (Exact b.words b.kept.cargoes 0) u 2 cells (omega arith) (in_hand_of u c.args.cell (joined_hand v u c.args.cell c.joining.result c.joining.ensures.1 c.requires.hand c.slot_put.ensures.made.view)) } }

pub park_join-requires-clause-may : goal.park_join-requires-clause-may
park_join-requires-clause-may c =
    let s = c.args.self.now in
    let v = view_at s.board.kept.views 0 in
    let u = view_at c.slot_put.new.self.kept.views 0 in
    let b = c.set_next.new.board in
    let w = view_at b.kept.views 0 in
    let put = cells_kept v u (SlotPut (Cell 2) c.joining.result no_cargo) Done c.slot_put.ensures.made.view s.cells in
    let cells = cells_kept u w (CellStore 2 words.Next 0) Done c.set_next.ensures.made.view put in
    let hand = joined_hand v u c.args.cell c.joining.result c.joining.ensures.1 c.requires.hand c.slot_put.ensures.made.view in
    let counter = joined_counter v u c.args.cell c.joining.result c.requires.counter c.slot_put.ensures.made.view in
    record { serves = c.set_next.ensures.made.serves; may = asks_join (Exact b.words b.kept.cargoes 0) w c.args.cell cells c.requires.within (linked_counter u w c.args.cell counter c.set_next.ensures.made.view) (linked_hand u w c.args.cell hand c.set_next.ensures.made.view) }

pub invariant_of-self : goal.invariant_of-self
invariant_of-self c =
    let s = c.args.self.now in
    let v = view_at s.board.kept.views 0 in
    let u = view_at c.slot_put.new.self.kept.views 0 in
    let w = view_at c.set_next.new.board.kept.views 0 in
    let put = cells_kept v u (SlotPut (Cell 2) c.joining.result no_cargo) Done c.slot_put.ensures.made.view s.cells in
    let linked = cells_kept u w (CellStore 2 words.Next 0) Done c.set_next.ensures.made.view put in
    record {
      serves = c.park_join.ensures.made.1.serves;
      cells = cells_kept w (view_at c.park_join.new.board.kept.views 0) (CellChange c.args.cell 0 (counter_word (count_in 0) (2 + 1))) (Number c.park_join.ensures.made.0) c.park_join.ensures.made.1.view linked;
    }
