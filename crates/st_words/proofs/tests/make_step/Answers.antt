use Rattle.st_words.specs.Plain.{Exact, view_at}
use Rattle.st_words.proofs.Trying.{asks_cell_load, asks_cell_store, asks_cell_change, asks_stop_set, asks_request_load, asks_request_change, asks_mail_store, asks_out_load, asks_slot_put}
use Rattle.st_words.proofs.tests.make_step.Goals as goal

pub cell_load-requires : goal.cell_load-requires
cell_load-requires c = record { may = record { serves = c.requires.serves; may = asks_cell_load (Exact c.args.board.now.words c.args.board.now.kept.cargoes 0) c.args.limits.now (view_at c.args.board.now.kept.views 0) c.requires.cells c.requires.view } }

pub cell_store-requires : goal.cell_store-requires
cell_store-requires c = record { may = record { serves = c.requires.serves; may = asks_cell_store (Exact c.args.board.now.words c.args.board.now.kept.cargoes 0) c.args.limits.now (view_at c.args.board.now.kept.views 0) c.requires.cells c.requires.view } }

pub cell_change-requires : goal.cell_change-requires
cell_change-requires c = record { may = record { serves = c.requires.serves; may = asks_cell_change (Exact c.args.board.now.words c.args.board.now.kept.cargoes 0) c.args.limits.now (view_at c.args.board.now.kept.views 0) c.requires.cells c.requires.view } }

pub stop_set-requires : goal.stop_set-requires
stop_set-requires c = record { may = record { serves = c.requires.serves; may = asks_stop_set (Exact c.args.board.now.words c.args.board.now.kept.cargoes 0) c.args.limits.now (view_at c.args.board.now.kept.views 0) c.requires.view } }

pub request_load-requires : goal.request_load-requires
request_load-requires c = record { may = record { serves = c.requires.serves; may = asks_request_load (Exact c.args.board.now.words c.args.board.now.kept.cargoes 0) c.args.limits.now (view_at c.args.board.now.kept.views 0) c.requires.view } }

pub request_change-requires : goal.request_change-requires
request_change-requires c = record { may = record { serves = c.requires.serves; may = asks_request_change (Exact c.args.board.now.words c.args.board.now.kept.cargoes 0) c.args.limits.now (view_at c.args.board.now.kept.views 0) c.requires.view } }

pub mail_store-requires : goal.mail_store-requires
mail_store-requires c = record { may = record { serves = c.requires.serves; may = asks_mail_store (Exact c.args.board.now.words c.args.board.now.kept.cargoes 0) c.args.limits.now (view_at c.args.board.now.kept.views 0) c.requires.view } }

pub out_load-requires : goal.out_load-requires
out_load-requires c = record { may = record { serves = c.requires.serves; may = asks_out_load (Exact c.args.board.now.words c.args.board.now.kept.cargoes 0) (view_at c.args.board.now.kept.views 0) } }

pub slot_put-requires : goal.slot_put-requires
slot_put-requires c = record { may = record { serves = c.requires.serves; may = asks_slot_put (Exact c.args.board.now.words c.args.board.now.kept.cargoes 0) c.args.limits.now (view_at c.args.board.now.kept.views 0) c.chain.result c.requires.cells c.requires.view c.chain.ensures } }
