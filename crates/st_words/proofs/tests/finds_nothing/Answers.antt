use Rattle.st_words.specs.Plain.{Exact, view_at}
use Rattle.st_words.specs.Steps.{RootTake, ActiveLoad, StopLoad, MailLoad}
use Rattle.st_words.proofs.Naming.{plain_asks}
use Rattle.st_words.proofs.tests.finds_nothing.Goals as goal

pub root_take-takes-requires : goal.root_take-takes-requires
root_take-takes-requires c = record { may = record { serves = c.requires; may = plain_asks (Exact c.args.board.now.words c.args.board.now.kept.cargoes 1) (view_at c.args.board.now.kept.views 1) RootTake tt } }

pub active_load-active-requires : goal.active_load-active-requires
active_load-active-requires c = record { may = record { serves = c.root_take-takes.ensures.made.serves; may = plain_asks (Exact c.root_take-takes.new.self.words c.root_take-takes.new.self.kept.cargoes 1) (view_at c.root_take-takes.new.self.kept.views 1) ActiveLoad tt } }

pub stop_load-stop-requires : goal.stop_load-stop-requires
stop_load-stop-requires c = record { may = record { serves = c.active_load-active.ensures.made.serves; may = plain_asks (Exact c.active_load-active.new.self.words c.active_load-active.new.self.kept.cargoes 1) (view_at c.active_load-active.new.self.kept.views 1) StopLoad tt } }

pub mail_load-mail-requires : goal.mail_load-mail-requires
mail_load-mail-requires c = record { may = record { serves = c.stop_load-stop.ensures.made.serves; may = plain_asks (Exact c.stop_load-stop.new.self.words c.stop_load-stop.new.self.kept.cargoes 1) (view_at c.stop_load-stop.new.self.kept.views 1) MailLoad tt } }
