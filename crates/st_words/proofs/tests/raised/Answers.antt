use Rattle.st_words.specs.Plain.{Exact, view_at}
use Rattle.st_words.proofs.Rooting.{asks_active_add}
use Rattle.st_words.proofs.tests.raised.Goals as goal

pub active_add-found-requires : goal.active_add-found-requires
active_add-found-requires c = record { may = record { serves = c.in_ok-board.ensures.serves; may = asks_active_add (Exact c.in_ok-board.board.words c.in_ok-board.board.kept.cargoes 0) (view_at c.in_ok-board.board.kept.views 0) c.in_ok-board.ensures.share } }
