use Rattle.std.proofs.Common.{refl, arith}
use Rattle.st_words.specs.Plain.{Exact, view_at}
use Rattle.st_words.specs.Steps.{StackStore, StackLoad, Mark, Look, Holds}
use Rattle.st_words.proofs.Trying.{busy_asks, held_first, held_stored, held_loaded, looks_marked}
use Rattle.st_words.proofs.tests.steps_on_a_stack.Goals as goal

pub stack_store-requires : goal.stack_store-requires
stack_store-requires c =
    record { may = record { serves = c.requires.serves; may = busy_asks (Exact c.args.board.now.words c.args.board.now.kept.cargoes 0) (view_at c.args.board.now.kept.views 0) (StackStore 1 9) (held_first c.args.limits.now (view_at c.args.board.now.kept.views 0) c.requires.stack c.requires.view) } }

pub stack_load-stored-requires : goal.stack_load-stored-requires
stack_load-stored-requires c =
    let first : Holds (view_at c.args.board.now.kept.views 0) 1 = held_first c.args.limits.now (view_at c.args.board.now.kept.views 0) c.requires.stack c.requires.view in
    record { may = record { serves = c.stack_store.ensures.made.serves; may = busy_asks (Exact c.stack_store.new.self.words c.stack_store.new.self.kept.cargoes 0) (view_at c.stack_store.new.self.kept.views 0) (StackLoad 1) (held_stored (view_at c.args.board.now.kept.views 0) (view_at c.stack_store.new.self.kept.views 0) 1 9 first c.stack_store.ensures.made.view) } }

pub mark-requires : goal.mark-requires
mark-requires c =
    let first : Holds (view_at c.args.board.now.kept.views 0) 1 = held_first c.args.limits.now (view_at c.args.board.now.kept.views 0) c.requires.stack c.requires.view in
    let stored : Holds (view_at c.stack_store.new.self.kept.views 0) 1 = held_stored (view_at c.args.board.now.kept.views 0) (view_at c.stack_store.new.self.kept.views 0) 1 9 first c.stack_store.ensures.made.view in
    record { may = record { serves = c.stack_load-stored.ensures.made.serves; may = busy_asks (Exact c.stack_load-stored.new.self.words c.stack_load-stored.new.self.kept.cargoes 0) (view_at c.stack_load-stored.new.self.kept.views 0) (Mark 1) (held_loaded (view_at c.stack_store.new.self.kept.views 0) (view_at c.stack_load-stored.new.self.kept.views 0) 1 1 c.stack_load-stored.result stored c.stack_load-stored.ensures.made.view) } }

pub look-looked-requires : goal.look-looked-requires
look-looked-requires c =
    let first : Holds (view_at c.args.board.now.kept.views 0) 1 = held_first c.args.limits.now (view_at c.args.board.now.kept.views 0) c.requires.stack c.requires.view in
    let stored : Holds (view_at c.stack_store.new.self.kept.views 0) 1 = held_stored (view_at c.args.board.now.kept.views 0) (view_at c.stack_store.new.self.kept.views 0) 1 9 first c.stack_store.ensures.made.view in
    let loaded : Holds (view_at c.stack_load-stored.new.self.kept.views 0) 1 = held_loaded (view_at c.stack_store.new.self.kept.views 0) (view_at c.stack_load-stored.new.self.kept.views 0) 1 1 c.stack_load-stored.result stored c.stack_load-stored.ensures.made.view in
    record { may = record { serves = c.mark.ensures.made.serves; may = busy_asks (Exact c.mark.new.self.words c.mark.new.self.kept.cargoes 0) (view_at c.mark.new.self.kept.views 0) (Look 1) ((record { low = 0x8000_0000; base = 0x8000_0010 }, (0, omega arith, refl), refl), looks_marked (view_at c.stack_load-stored.new.self.kept.views 0) (view_at c.mark.new.self.kept.views 0) loaded c.mark.ensures.made.view) } }
