use Rattle.std.proofs.Common.{◌+◌}
use Rattle.st_words.specs.declared.view.CellWord.TheVariants as words
use Rattle.st_words.specs.Plain.{Exact, view_at}
use Rattle.st_words.specs.Steps.{CellStore, CellChange, SlotPut, Done, Number}
use Rattle.st_words.specs.Views.{no_cargo}
use Rattle.st_words.specs.declared.view.Slot.TheVariants.{Cell}
use Rattle.st_cells.proofs.Trying.{asks_put, asks_link, asks_park, put_in_hand, linked_in_hand, cells_kept}
use Rattle.st_cells.proofs.Trying.{one_of}
use Rattle.st_cells.proofs.tests.Held.wait.Goals as goal

pub slot_put-requires : goal.slot_put-requires
slot_put-requires c =
    let s = c.args.self.now in
    record { may = record { serves = s.serves; may = asks_put (Exact s.board.words s.board.kept.cargoes 0) (view_at s.board.kept.views 0) c.args.waiter c.waiting.result s.cells (one_of c.args.waiter c.requires) c.requires c.waiting.ensures.0 } }

pub set_next-requires : goal.set_next-requires
set_next-requires c =
    let s = c.args.self.now in
    let v = view_at s.board.kept.views 0 in
    let b = c.slot_put.new.self in
    let u = view_at b.kept.views 0 in
    let cells = cells_kept v u (SlotPut (Cell c.args.waiter) c.waiting.result no_cargo) Done c.slot_put.ensures.made.view s.cells in
    record { may = record { serves = c.slot_put.ensures.made.serves; may = asks_link (Exact b.words b.kept.cargoes 0) u c.args.waiter cells (one_of c.args.waiter c.requires) (put_in_hand v u c.args.waiter c.waiting.result c.waiting.ensures.1 c.slot_put.ensures.made.view) } }

pub park-requires : goal.park-requires
park-requires c =
    let s = c.args.self.now in
    let v = view_at s.board.kept.views 0 in
    let u = view_at c.slot_put.new.self.kept.views 0 in
    let b = c.set_next.new.board in
    let w = view_at b.kept.views 0 in
    let put = cells_kept v u (SlotPut (Cell c.args.waiter) c.waiting.result no_cargo) Done c.slot_put.ensures.made.view s.cells in
    let hand = put_in_hand v u c.args.waiter c.waiting.result c.waiting.ensures.1 c.slot_put.ensures.made.view in
    record { may = record { serves = c.set_next.ensures.made.serves; may = asks_park (Exact b.words b.kept.cargoes 0) w c.args.waiter (cells_kept u w (CellStore c.args.waiter words.Next 0) Done c.set_next.ensures.made.view put) (linked_in_hand u w c.args.waiter hand c.set_next.ensures.made.view) } }

pub invariant_of-self : goal.invariant_of-self
invariant_of-self c =
    let s = c.args.self.now in
    let v = view_at s.board.kept.views 0 in
    let u = view_at c.slot_put.new.self.kept.views 0 in
    let w = view_at c.set_next.new.board.kept.views 0 in
    let put = cells_kept v u (SlotPut (Cell c.args.waiter) c.waiting.result no_cargo) Done c.slot_put.ensures.made.view s.cells in
    let linked = cells_kept u w (CellStore c.args.waiter words.Next 0) Done c.set_next.ensures.made.view put in
    record {
      serves = c.park.ensures.made.1.serves;
      cells = cells_kept w (view_at c.park.new.board.kept.views 0) (CellChange 1 0 (c.args.waiter + 1)) (Number c.park.ensures.made.0) c.park.ensures.made.1.view linked;
    }
